use Rattle.std.proofs.Common.{◌≡◌, ◌∙◌, Bool, List, length, ap, sym, arith}
use Rattle.std.proofs.Math.Bool.{beq}
use Rattle.std.specs.Cmp.Lexicographic.{pointwise}
use Rattle.gq_sizes.specs.Size.{rounds}
use Rattle.gq_sizes.specs.Passing.{chain_rows, held_rows, passing}
use Rattle.gq_sizes.proofs.Session_chain_rounds.{last_chains, next_chains}
use Rattle.gq_sizes.proofs.Any_test_search.{same_test}
use Rattle.gq_sizes.proofs.Capability_need_rounds.{pointwise_is}
use Rattle.gq_sizes.proofs.endless.endless.Goals as goal

pub loop-round-init : goal.loop-round-init
loop-round-init c all are = c.in_ok-tests.ensures all (sym are.interfaces)

pub loop-round-preserved : goal.loop-round-preserved
loop-round-preserved c all are =
    let ifs = c.args.interfaces.now in
    next_chains all c.args.components.now c.args.leaves.now ifs are c.levels_are_low.ensures c.loop-round._round c.loop-round.tests.items
    c.in_ok-next.next.items (c.loop-round.invariant all are)
    (c.in_ok-next.ensures all are.components are.leaves
    ∙ ap (λ (rows : List (List Bool)). held_rows all (passing ifs rows) ifs) c.as_slice.ensures.value)

pub returns-then-eq : goal.returns-then-eq
returns-then-eq c all are =
    let ifs = c.args.interfaces.now in
    let same : c.in_ok-next.next.items ≡ c.loop-round.tests.items =
    sym c.as_slice-in-loop-round.ensures.value
    ∙ (pointwise_is (pointwise beq) (pointwise_is beq same_test) c.as_slice-in-loop-round.result.now c.as_slice-in-loop-round-2.result.now
    (sym c.eq.ensures ∙ c.if-eq.true) ∙ c.as_slice-in-loop-round-2.ensures.value) in
    let count = ap length c.entries.ensures.entries ∙ ap length are.interfaces in
    let test = c.loop-round-test.true in
    last_chains all c.args.components.now c.args.leaves.now ifs are c.levels_are_low.ensures c.loop-round._round c.loop-round.tests.items
    c.in_ok-next.next.items (c.loop-round.invariant all are)
    (c.in_ok-next.ensures all are.components are.leaves
    ∙ ap (λ (rows : List (List Bool)). held_rows all (passing ifs rows) ifs) c.as_slice.ensures.value)
    same (omega (arith, count, test))

pub returns : goal.returns
returns c all are =
    let count = ap length c.entries.ensures.entries ∙ ap length are.interfaces in
    let test = c.loop-round-test.false in
    let end = c.loop-round.auto._round-end in
    let k : c.loop-round._round ≡ rounds all = omega (arith, count, test, end) in
    c.loop-round.invariant all are ∙ ap (λ n. chain_rows all n c.args.interfaces.now) k
