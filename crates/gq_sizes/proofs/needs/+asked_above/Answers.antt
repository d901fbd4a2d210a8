use Rattle.std.proofs.Common.{◌≡◌, ◌∙◌, ◌+◌, ◌-◌, ℕ, List, get_or, ap, sym, arith}
use Rattle.gq_sizes.specs.Size.{gifts_above, less_gifts}
use Rattle.gq_sizes.proofs.Asked_level_sums.{asked_next}
use Rattle.gq_sizes.proofs.Capability_need_rounds.{row_get}
use Rattle.gq_sizes.proofs.needs.+asked_above.Goals as goal
use Rattle.gq_sizes.proofs.needs.+asked_above.Goals.{in-Some, in-None}

pub returns-after-given_above : goal.returns-after-given_above
returns-after-given_above t c f given service u row gifts few =
    let count = c.args.count in
    let l = c.args.level in
    let small = c.requires in
    let need : get_or c.args.needs.now (l + count) 0 ≡ f (l + count) =
    ap (λ (r : List ℕ). get_or r (l + count) 0) row ∙ row_get f (l + count) (omega (arith, small)) in
    let above = c.given_above.ensures.given given service u gifts few in
    let last : c.match-given_above.last ≡ less_gifts (f (l + count)) (gifts_above given service count l) =
    elim c.match-given_above.branch [
      | in-Some w ↦
          w.last-is
          ∙ (w.saturating_sub-last.ensures
          ∙ (ap (λ n. n - w.in-Some.given) need ∙ ap (less_gifts (f (l + count))) (sym w.in-Some.is ∙ above)))
      | in-None w ↦ w.last-is ∙ ap (less_gifts (f (l + count))) (sym w.in-None.is ∙ above)
    ] in
    c.max.ensures
    ∙ asked_next f given service count l (count - 1) c.match-given_above.last c.asked_above.result (let h = c.in_default in omega (arith, h)) last
    (c.asked_above.ensures f given service u row gifts (omega (arith, few)))
