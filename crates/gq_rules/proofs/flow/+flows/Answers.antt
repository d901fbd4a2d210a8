use Rattle.std.proofs.Common.{◌≡◌, ◌+◌, ◌-◌, ◌∙◌, ◌∷◌, [], ◌&&◌, true, ap, arith, length, max, subst, sym, Ok, IsTrue}
use Rattle.std.proofs.lemmas.Result.{err_from_is_err_and}
use Rattle.gq_model.specs.rules.Flow.{at, later, flow_then, is_nil, chosen_from, none_left, join, flow, points}
use Rattle.gq_model.specs.rules.Rules.{must}
use Rattle.gq_model.specs.rules.Kinds.{AbstractState, inside}
use Rattle.gq_model.specs.declared.fault.Rule.TheVariants.{LeftoverOperand}
use Rattle.gq_model.specs.machine.Program.{size}
use Rattle.gq_model.specs.machine.Lists.{greatest}
use Rattle.gq_program.specs.Statement_trees.{tree_of}
use Rattle.gq_caps.specs.Known.{all_known}
use Rattle.gq_caps.specs.Measured.{total_of, measured}
use Rattle.gq_rules.specs.Flowing.{few_loops}
use Rattle.gq_rules.specs.internal.List_states.{chosen}
use Rattle.gq_rules.specs.List_maxima.{measure_of, Peaks}
use Rattle.gq_program.specs.Notes.{is_still}
use Rattle.gq_rules.proofs.Slot_keeping_statements.{still_second, still_join, still_round, if_as, loop_as, none_are, on_any, after_either, same_state}
use Rattle.gq_rules.proofs.Statement_list_flow.{flow_here, stops, size_at, few_here, goes_on}
use Rattle.gq_rules.proofs.Program_section_facts.{parts}
use Rattle.gq_rules.proofs.Statement_list_states.{peaks_on, peak_end, peaks_append, chosen_is}
use Rattle.gq_program.proofs.Statement_list_sizes.{size_here}
use Rattle.gq_model.proofs.Rules_laws.{at_ok}
use Rattle.std.proofs.lemmas.Bool.{and_parts}
use Rattle.gq_rules.proofs.flow.+flows.Goals as goal

pub flow-flow_statement-requires : goal.flow-flow_statement-requires
flow-flow_statement-requires t c =
    let l = c.loop-statement in
    let items = c.statements-statement-items.result.now in
    let same = ap size c.statements-statement-items.ensures in
    let at = size_at items l.statement-index c.statement-item.result c.loop-statement-test.true c.statement-item.is in
    let few =
    few_here (4 - length c.args.context.now.counts) items l.statement-index c.statement-item.result c.loop-statement-test.true c.statement-item.is
    l.invariant.loops in (
      omega (arith, c.decreases, size_here items l.statement-index c.statement-item.result c.loop-statement-test.true c.statement-item.is, same),
      (omega (arith, at, same, l.invariant.places, c.requires.places), (few.0, l.invariant.small)),
    )

pub flow-returns-in_err-flow_statement-clause-flowed : goal.flow-returns-in_err-flow_statement-clause-flowed
flow-returns-in_err-flow_statement-clause-flowed t c =
    let l = c.loop-statement in
    let items = c.statements-statement-items.result.now in
    let h = flow_here c.args.context.now l.state items l.statement-index c.statement-item.result l.place c.loop-statement-test.true c.statement-item.is in
    let same = ap (λ b. later c.args.place.now (flow c.args.context.now c.args.state.now b)) c.statements-statement-items.ensures in
    let p = err_from_is_err_and c.from_residual.result c.from_residual.ensures.1 in
    rw (p.1, p.2) (stops _ _ _ _ _ c.in_err-flow_statement.ensures.flowed h (l.invariant.walked ∙ same))

pub flow-raise-requires-clause-self_small : goal.flow-raise-requires-clause-self_small
flow-raise-requires-clause-self_small t c = c.loop-statement.invariant.small

pub flow-loop-statement-preserved : goal.flow-loop-statement-preserved
flow-loop-statement-preserved t c =
    let l = c.loop-statement in
    let items = c.statements-statement-items.result.now in
    let st = c.statement-item.result in
    let less = c.loop-statement-test.true in
    let e = c.in_ok-flow_statement.ensures in
    let at = size_at items l.statement-index st less c.statement-item.is in
    let few = few_here (4 - length c.args.context.now.counts) items l.statement-index st less c.statement-item.is l.invariant.loops in
    record {
      walked =
          goes_on c.args.context.now l.state c.flow_statement.new.state items l.statement-index st l.place c.flow_statement.new.place _ less c.statement-item.is
          e.flowed e.places l.invariant.walked;
      places = omega (arith, at, e.places, l.invariant.places);
      loops = few.1;
      peaks =
          peaks_on c.args.context.now l.state c.flow_statement.new.state items l.statement-index st l.place l.peaks c.flow_statement.new.peaks c.args.peaks.now
          _ less c.statement-item.is e.flowed e.peaks l.invariant.peaks;
      small = e.small;
    }

pub flow-returns-clause-peaks : goal.flow-returns-clause-peaks
flow-returns-clause-peaks t c =
    let l = c.loop-statement in
    let items = c.statements-statement-items.result.now in
    λ m. peak_end c.args.context.now l.state items l.statement-index (measure_of m) (total_of l.peaks m) (total_of c.raise.new.self m)
    (total_of c.totals.result.now m) _ c.loop-statement-test.false
    (c.totals.ensures.sums m ∙ ap (measured m) c.own.ensures) (c.raise.ensures.raised m)
    (l.invariant.peaks m ∙
    ap (λ b. max (total_of c.args.peaks.now m) (greatest (measure_of m) (points c.args.context.now c.args.state.now b)))
    c.statements-statement-items.ensures)

pub flow_if-flow-requires-2 : goal.flow_if-flow-requires-2
flow_if-flow-requires-2 t c =
    let n = 4 - length c.args.context.now.counts in
    let p = parts (few_loops n c.args.arm.now && few_loops n c.args.other.now) true c.requires.loops in
    let q = parts (few_loops n c.args.arm.now) (few_loops n c.args.other.now) p.0 in
    let e = c.in_ok-flow.ensures in
    (omega (arith, c.decreases), (omega (arith, e.places, c.requires.places), (q.1, e.small)))

pub flow_loop-returns-clause-flowed : goal.flow_loop-returns-clause-flowed
flow_loop-returns-clause-flowed t c =
    let k = c.args.context.now in
    let n = c.args.place.now in
    let body = c.args.body.now in
    let s = c.args.state.now in
    let u = c.flow.new.state in
    let h = sym (at_ok (n + 1) (none_left s) s (sym (c.in_ok-at.ensures s ∙ ap (at (n + 1)) c.none_left.ensures.judged))) in
    let e = c.in_ok-flow.ensures.flowed ∙ ap (λ k. later (n + 1) (flow k s body)) c.inside.ensures in
    let before : AbstractState = record { own = all_known c.own.result.now; bank = all_known c.bank.result.now; bounds = [] } in
    let same = same_state s before (sym c.own.ensures) (sym c.bank.ensures) (none_are s s h) in
    let back = after_either c.comes_back.result s u (c.comes_back.ensures s same) in
    c.at-2.ensures u ∙ (ap (at (n + 1)) back ∙ sym (loop_as k s s u c.args.count body n (n + 1) h e))

pub flow_statement-flow_if-requires : goal.flow_statement-flow_if-requires
flow_statement-flow_if-requires t c =
    let k = ap (λ s. size (tree_of (s ∷ []))) c.in-If.is in (
      omega (arith, c.decreases, k),
      (
        omega (arith, c.requires.places, k),
        (subst (λ s. IsTrue (few_loops (4 - length c.args.context.now.counts) (tree_of (s ∷ [])))) c.in-If.is c.requires.loops, c.raise.ensures.small),
      ),
    )

pub flow_statement-flow_loop-requires : goal.flow_statement-flow_loop-requires
flow_statement-flow_loop-requires t c =
    let k = ap (λ s. size (tree_of (s ∷ []))) c.in-Loop.is in (
      omega (arith, c.decreases, k),
      (
        omega (arith, c.requires.places, k),
        (
          subst (λ s. IsTrue (few_loops (4 - length c.args.context.now.counts) (tree_of (s ∷ [])))) c.in-Loop.is c.requires.loops,
          c.raise-in-Loop.ensures.small,
        ),
      ),
    )

pub flow_still_if-returns-in_err-flow-2-clause-flowed : goal.flow_still_if-returns-in_err-flow-2-clause-flowed
flow_still_if-returns-in_err-flow-2-clause-flowed t c =
    let k = c.args.context.now in
    let n = c.args.place.now in
    let arm = c.args.arm.now in
    let other = c.args.other.now in
    let s = c.args.state.now in
    let t0 = c.choose.new.self in
    let u = c.flow.new.state in
    let still = and_parts (is_still arm) (is_still other) c.requires.still in
    let h = sym (at_ok (n + 1) (chosen_from s) t0 (sym (c.in_ok-at.ensures t0 ∙ ap (at (n + 1)) c.choose.ensures.judged))) in
    let e = c.in_ok-flow.ensures in
    let second = c.drop_operands.ensures ∙ still_second k s t0 u arm (n + 1) still.0 h e.flowed in
    let p = err_from_is_err_and c.from_residual-in_err-flow-2.result c.from_residual-in_err-flow-2.ensures.1 in
    let there : c.flow.new.place ≡ n + (1 + size arm) = omega (arith, e.places) in
    let go =
    c.in_err-flow-2.ensures.flowed ∙
    (ap (λ m. later m (flow k c.drop_operands.new.self other)) there ∙ ap (λ s. later (n + (1 + size arm)) (flow k s other)) second) in
    rw (p.1, p.2) (ap (λ x. flow_then x (λ v. at (n + 1) (join u v))) go ∙ sym (if_as k s t0 u arm other n (n + 1) h e.flowed))

pub flow_still_if-returns-clause-flowed : goal.flow_still_if-returns-clause-flowed
flow_still_if-returns-clause-flowed t c =
    let k = c.args.context.now in
    let n = c.args.place.now in
    let arm = c.args.arm.now in
    let other = c.args.other.now in
    let s = c.args.state.now in
    let t0 = c.choose.new.self in
    let u = c.flow.new.state in
    let still = and_parts (is_still arm) (is_still other) c.requires.still in
    let h = sym (at_ok (n + 1) (chosen_from s) t0 (sym (c.in_ok-at.ensures t0 ∙ ap (at (n + 1)) c.choose.ensures.judged))) in
    let e = c.in_ok-flow.ensures in
    let second = c.drop_operands.ensures ∙ still_second k s t0 u arm (n + 1) still.0 h e.flowed in
    let v = c.flow-2.new.state in
    let there : c.flow.new.place ≡ n + (1 + size arm) = omega (arith, e.places) in
    let go =
    c.in_ok-flow-2.ensures.flowed ∙
    (ap (λ m. later m (flow k c.drop_operands.new.self other)) there ∙ ap (λ s. later (n + (1 + size arm)) (flow k s other)) second) in
    c.at-2.ensures v
    ∙ (ap (at (n + 1)) (c.none_left_of_both.ensures ∙ ap (λ b. must (b && is_nil v.bounds) LeftoverOperand (Ok v)) c.is_spent-is_spent.ensures)
    ∙ (ap (at (n + 1)) (sym (still_join k t0 u v arm other (n + 1) (n + (1 + size arm)) still.0 still.1 e.flowed go))
    ∙ (ap (λ x. flow_then x (λ v. at (n + 1) (join u v))) go ∙ sym (if_as k s t0 u arm other n (n + 1) h e.flowed))))

pub flow_still_if-returns-clause-peaks : goal.flow_still_if-returns-clause-peaks
flow_still_if-returns-clause-peaks t c =
    let k = c.args.context.now in
    let n = c.args.place.now in
    let arm = c.args.arm.now in
    let other = c.args.other.now in
    let s = c.args.state.now in
    let t0 = c.choose.new.self in
    let u = c.flow.new.state in
    let still = and_parts (is_still arm) (is_still other) c.requires.still in
    let h = sym (at_ok (n + 1) (chosen_from s) t0 (sym (c.in_ok-at.ensures t0 ∙ ap (at (n + 1)) c.choose.ensures.judged))) in
    let e = c.in_ok-flow.ensures in
    let second = c.drop_operands.ensures ∙ still_second k s t0 u arm (n + 1) still.0 h e.flowed in
    let is = chosen_is s t0 (sym h) in
    let p0 = c.args.peaks.now in
    let p1 = c.flow.new.peaks in
    let p2 = c.flow-2.new.peaks in
    let a = subst (λ s. Peaks p1 p0 (points k s arm)) is e.peaks in
    let b = subst (λ s. Peaks p2 p1 (points k s other)) (second ∙ is) c.in_ok-flow-2.ensures.peaks in
    on_any c.at-2.result (peaks_append p0 p1 p2 (points k (chosen s) arm) (points k (chosen s) other) a b)

pub flow_still_loop-returns-clause-flowed : goal.flow_still_loop-returns-clause-flowed
flow_still_loop-returns-clause-flowed t c =
    let k = c.args.context.now in
    let n = c.args.place.now in
    let body = c.args.body.now in
    let s = c.args.state.now in
    let u = c.flow.new.state in
    let h = sym (at_ok (n + 1) (none_left s) s (sym (c.in_ok-at.ensures s ∙ ap (at (n + 1)) c.none_left.ensures.judged))) in
    let e = c.in_ok-flow.ensures.flowed ∙ ap (λ k. later (n + 1) (flow k s body)) c.inside.ensures in
    c.at-2.ensures u
    ∙ (ap (at (n + 1)) (c.none_left-2.ensures.judged ∙ sym (still_round (inside k c.args.count) s u body (n + 1) c.requires.still (none_are s s h) e))
    ∙ sym (loop_as k s s u c.args.count body n (n + 1) h e))
