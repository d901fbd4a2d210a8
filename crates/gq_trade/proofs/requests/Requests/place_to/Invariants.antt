use Rattle.std.proofs.Common.{◌≡◌, ◌<◌, ℕ, get_or}
use Rattle.gq_trade.specs.declared.requests.Request.{Request}
use Rattle.gq_trade.proofs.requests.Requests.place_to.Given as goal

abbrev pub invariant-loop-k : goal.invariant-loop-k
invariant-loop-k l = (j : ℕ) (d : Request) → j < l.k → (get_or l.requests j d).server ≡ l.server → ⊥
