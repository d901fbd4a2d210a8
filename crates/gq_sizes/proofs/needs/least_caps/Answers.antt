use Rattle.std.proofs.Common.{◌≡◌, ◌∙◌, ℕ, List, length, ap, sym, arith}
use Rattle.std.proofs.lemmas.Bool.{eqb-true}
use Rattle.std.specs.Cmp.Lexicographic.{pointwise}
use Rattle.std.proofs.Math.Dec.{eqb}
use Rattle.gq_sizes.specs.Size.{rounds}
use Rattle.gq_sizes.specs.Point_maxima.{given_in}
use Rattle.gq_sizes.specs.Saturated_tables.{round_rows, sum_rows}
use Rattle.gq_sizes.proofs.Capability_need_rounds.{last_sums, next_sums, pointwise_is}
use Rattle.gq_sizes.proofs.needs.least_caps.Goals as goal

pub loop-round-init : goal.loop-round-init
loop-round-init c all are = c.in_ok-sums.ensures all

pub loop-round-preserved : goal.loop-round-preserved
loop-round-preserved c all are =
    let ifs = c.args.interfaces.now in
    next_sums all c.args.components.now c.args.leaves.now ifs are c.levels_are_low.ensures c.loop-round._round c.loop-round.sums.items
    c.in_ok-next.next.items (c.loop-round.invariant all are)
    (c.in_ok-next.ensures all are.components are.leaves ∙ ap (λ (rows : List (List ℕ)). round_rows all (given_in ifs rows) ifs) c.as_slice.ensures.value)

pub returns-then-eq : goal.returns-then-eq
returns-then-eq c all are =
    let ifs = c.args.interfaces.now in
    let same : c.in_ok-next.next.items ≡ c.loop-round.sums.items =
    sym c.as_slice-in-loop-round.ensures.value
    ∙ (pointwise_is (pointwise eqb) (pointwise_is eqb eqb-true) c.as_slice-in-loop-round.result.now c.as_slice-in-loop-round-2.result.now
    (sym c.eq.ensures ∙ c.if-eq.true) ∙ c.as_slice-in-loop-round-2.ensures.value) in
    let count = ap length c.entries.ensures.entries ∙ ap length are.interfaces in
    let test = c.loop-round-test.true in
    last_sums all c.args.components.now c.args.leaves.now ifs are c.levels_are_low.ensures c.loop-round._round c.loop-round.sums.items
    c.in_ok-next.next.items (c.loop-round.invariant all are)
    (c.in_ok-next.ensures all are.components are.leaves ∙ ap (λ (rows : List (List ℕ)). round_rows all (given_in ifs rows) ifs) c.as_slice.ensures.value)
    same (omega (arith, count, test))

pub returns : goal.returns
returns c all are =
    let count = ap length c.entries.ensures.entries ∙ ap length are.interfaces in
    let test = c.loop-round-test.false in
    let end = c.loop-round.auto._round-end in
    let k : c.loop-round._round ≡ rounds all = omega (arith, count, test, end) in
    c.loop-round.invariant all are ∙ ap (λ n. sum_rows all n c.args.interfaces.now) k
