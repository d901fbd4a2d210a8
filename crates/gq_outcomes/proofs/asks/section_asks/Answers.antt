use Rattle.std.proofs.Common.{◌≡◌, ◌+◌, ◌∙◌, ℕ, List, Some, length, ap, sym, subst}
use Rattle.std.specs.Prelude.{slice_get}
use Rattle.gq_outcomes.specs.declared.asks.Asks.{Asks}
use Rattle.gq_outcomes.specs.internal.Asks.{asks_of}
use Rattle.gq_outcomes.specs.internal.Left.{ahead_in}
use Rattle.gq_views.specs.internal.Table_leaves.{served_by}
use Rattle.gq_outcomes.proofs.keys.Section_asks.{count_more, each_more}
use Rattle.gq_outcomes.proofs.asks.section_asks.Goals as goal

pub loop-place-preserved : goal.loop-place-preserved
loop-place-preserved c =
    let l = c.loop-place in
    let P : ℕ → Asks → Type 0 = λ k a. a ≡ asks_of (served_by c.args.client.now) (ahead_in c.args.body.now k) in
    let here : P l.place c.asked_at.result =
    c.asked_at.ensures ∙ ap (λ b. asks_of (served_by c.args.client.now) (ahead_in b l.place)) c.statements-in-loop-place.ensures in
    record {
      count = subst (λ (xs : List Asks). length xs ≡ l.place + 1) (sym c.in_ok-push.ensures.items)
          (count_more l.asks.items c.asked_at.result l.place l.invariant.count);
      each = subst (λ (xs : List Asks). (k : ℕ) (a : Asks) → slice_get xs k ≡ Some a → P k a) (sym c.in_ok-push.ensures.items)
          (each_more P l.asks.items c.asked_at.result l.place l.invariant.count l.invariant.each here);
    }
