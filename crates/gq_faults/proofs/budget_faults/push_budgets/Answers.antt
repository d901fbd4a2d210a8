use Rattle.std.proofs.Common.{◌≡◌, ◌++◌, ◌∙◌, List, ap, length, map, subst}
use Rattle.std.specs.Prelude.{OnOk}
use Rattle.gq_model.specs.machine.Amounts.{Ram, Caps}
use Rattle.gq_model.specs.rules.Accept.{Refusal}
use Rattle.gq_model.specs.texts.Fault_texts.{refusal_text}
use Rattle.gq_load.specs.internal.Saturated_budgets.{kept_from}
use Rattle.gq_faults.specs.Scenario_faults.{over_own, over_steps}
use Rattle.gq_faults.specs.Found_lines.{lines_found}
use Rattle.gq_faults.proofs.Appended_faults.{two_more, then_two}
use Rattle.gq_faults.proofs.Over_limit_leaves.{over_same}
use Rattle.gq_model.specs.machine.Scenario.{system}
use Rattle.gq_load.proofs.Saturated_step_budgets.{kept_count}
use Rattle.gq_faults.proofs.budget_faults.push_budgets.Goals as goal

pub push_all_over-requires : goal.push_all_over-requires
push_all_over-requires c =
    let s = c.args.scenario.now in
    ap length (c.as_slice-budgets.ensures.value ∙ c.in_ok-budgets.ensures) ∙ kept_count s.version (system s) 0 c.args.components.now

pub push_all_over-requires-2 : goal.push_all_over-requires-2
push_all_over-requires-2 c =
    let s = c.args.scenario.now in
    ap length (c.as_slice-budgets.ensures.value ∙ c.in_ok-budgets.ensures) ∙ kept_count s.version (system s) 0 c.args.components.now

pub push_all_over-requires-3 : goal.push_all_over-requires-3
push_all_over-requires-3 c =
    let s = c.args.scenario.now in
    ap length (c.as_slice-budgets.ensures.value ∙ c.in_ok-budgets.ensures) ∙ kept_count s.version (system s) 0 c.args.components.now

pub returns : goal.returns
returns c =
    let t = refusal_text in
    let s = c.args.scenario.now in
    let cs = c.args.components.now in
    let kept = kept_from s.version (system s) 0 cs in
    let old = lines_found c.args.found.now.items in
    let first = lines_found c.push_all_over.new.found.items in
    let second = lines_found c.push_all_over-2.new.found.items in
    let new = lines_found c.push_all_over-3.new.found.items in
    let ram = rw (c.as_slice-budgets.ensures.value, c.in_ok-budgets.ensures) at c.in_ok-push_all_over.ensures in
    let steps = rw (c.as_slice-budgets.ensures.value, c.in_ok-budgets.ensures) at c.in_ok-push_all_over-2.ensures in
    let caps = rw (c.as_slice-budgets.ensures.value, c.in_ok-budgets.ensures) at c.push_all_over-3.ensures in
    subst (λ (l : List Refusal). OnOk c.push_all_over-3.result (new ≡ old ++ map t l)) (over_same s cs c.requires.components)
    (then_two t old second new (over_own Ram cs kept ++ over_steps cs kept) (over_own Caps cs kept) c.push_all_over-3.result
    (two_more t old first second (over_own Ram cs kept) (over_steps cs kept) ram steps) caps)
