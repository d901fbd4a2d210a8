-- The oldest request to a server is that of the abstract machine.
use Rattle.std.proofs.Common.{◌≡◌, ℕ, List, [], ◌∷◌, Option, Some, None, map, refl, sym, ap, ◌∙◌, inl, inr}
use Rattle.std.proofs.lemmas.Bool.Decides.{eqb_tells}
use Rattle.gq_model.specs.machine.World as world
use Rattle.gq_model.specs.machine.Step as step
use Rattle.gq_trade.specs.declared.requests.Request.{Request}
use Rattle.gq_trade.specs.Queues.{oldest_to, kept_before}
use Rattle.gq_trade.specs.Seen_requests.{request_seen, taken_seen, AreServed}

before_seen : (r : Request) (o : Option (Request × List Request)) → taken_seen (kept_before r o) ≡ step.kept_before (request_seen r) (taken_seen o)
before_seen r None = refl
before_seen r (Some p) = refl

pub oldest_is : (w : world.World) (x : ℕ) (rs : List Request) → AreServed w rs → step.oldest w x (map request_seen rs) ≡ taken_seen (oldest_to x rs)
oldest_is w x [] h = refl
oldest_is w x (r ∷ rs) h = elim (eqb_tells r.server x) [
  | inl t ↦ rw (h.0 x, t.0) refl
  | inr n ↦ rw (h.0 x, n.0) (ap (step.kept_before (request_seen r)) (oldest_is w x rs h.1) ∙ sym (before_seen r (oldest_to x rs)))
]
