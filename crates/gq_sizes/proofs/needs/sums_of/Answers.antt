use Rattle.std.proofs.Common.{◌≡◌, ◌∙◌, ◌-◌, ◌≤◌, ℕ, List, max, get_or, ap, arith}
use Rattle.gq_sizes.specs.Size.{ram_sum}
use Rattle.gq_sizes.proofs.Asked_level_sums.{need, sum_first, sum_next}
use Rattle.gq_sizes.proofs.Capability_need_rounds.{row_get}
use Rattle.gq_sizes.proofs.Number_table_rows.{row_of}
use Rattle.gq_sizes.proofs.needs.sums_of.Goals as goal

pub returns : goal.returns
returns c all given service i row gifts count =
    let u = c.args.upgrades in
    let f = need all given service i in
    let at = λ (l : ℕ) (h : l ≤ 3). ap (λ (r : List ℕ). get_or r l 0) row ∙ row_get f l h in
    let less = λ (d k : ℕ) (e : d ≡ u - k). e ∙ ap (λ n. n - k) count in
    let none : c.max-none.result ≡ ram_sum all given service i 0 =
    c.max-none.ensures
    ∙ sum_first all given service i (get_or c.args.needs.now 0 0) c.asked_above.result u (at 0 (omega arith))
    (c.asked_above.ensures f given service u row gifts (omega arith)) count in
    let one : c.max-one.result ≡ ram_sum all given service i 1 =
    c.max-one.ensures
    ∙ (ap (λ n. max n c.max-none.result) c.max.ensures
    ∙ sum_next all given service i 0 (get_or c.args.needs.now 1 0) c.asked_above-2.result c.saturating_sub.result c.max-none.result (at 1 (omega arith))
    (c.asked_above-2.ensures f given service u row gifts (let e = c.saturating_sub.ensures in omega (arith, e)))
    (less c.saturating_sub.result 1 c.saturating_sub.ensures) none) in
    let two : c.max-two.result ≡ ram_sum all given service i 2 =
    c.max-two.ensures
    ∙ (ap (λ n. max n c.max-one.result) c.max-2.ensures
    ∙ sum_next all given service i 1 (get_or c.args.needs.now 2 0) c.asked_above-3.result c.saturating_sub-2.result c.max-one.result (at 2 (omega arith))
    (c.asked_above-3.ensures f given service u row gifts (let e = c.saturating_sub-2.ensures in omega (arith, e)))
    (less c.saturating_sub-2.result 2 c.saturating_sub-2.ensures) one) in
    let three : c.max-three.result ≡ ram_sum all given service i 3 =
    c.max-three.ensures
    ∙ (ap (λ n. max n c.max-two.result) c.max-3.ensures
    ∙ sum_next all given service i 2 (get_or c.args.needs.now 3 0) c.asked_above-4.result c.saturating_sub-3.result c.max-two.result (at 3 (omega arith))
    (c.asked_above-4.ensures f given service u row gifts (let e = c.saturating_sub-3.ensures in omega (arith, e)))
    (less c.saturating_sub-3.result 3 c.saturating_sub-3.ensures) two) in
    row_of (ram_sum all given service i) c.max-none.result c.max-one.result c.max-two.result c.max-three.result none one two three
