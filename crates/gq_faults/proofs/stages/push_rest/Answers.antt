use Rattle.std.proofs.Common.{◌≡◌, ◌++◌, ◌∙◌, ap, arith, length, map}
use Rattle.std.proofs.lemmas.Bool.Decides.{nat_tests}
use Rattle.gq_output.proofs.Written_byte_facts.{on_ok}
use Rattle.gq_model.specs.machine.Scenario.{components}
use Rattle.gq_model.specs.rules.Accept.{budgets}
use Rattle.gq_model.specs.texts.Fault_texts.{refusal_text, unresolved_text}
use Rattle.gq_faults.specs.Scenario_faults.{over_budgets, rest_faults, unresolved_all}
use Rattle.gq_faults.specs.Found_lines.{lines_found}
use Rattle.gq_faults.proofs.Fault_stages.{no_unresolved, none_of, some_unresolved, resolved, from_none, onto_none}
use Rattle.gq_faults.proofs.stages.push_rest.Goals as goal

pub returns-then-not-is_empty : goal.returns-then-not-is_empty
returns-then-not-is_empty c =
    let s = c.args.scenario.now in
    let items = c.push_unresolved.new.found.items in
    let some : length items ≡ 0 → ⊥ = λ z. absurd (grind (arith, nat_tests)) in
    some_unresolved items (unresolved_all s) (over_budgets (components s) (budgets s))
    (from_none c.args.found.now.items (lines_found items) _ c.requires.none c.in_ok-push_unresolved.ensures) some

pub push_budgets-requires-clause-resolved : goal.push_budgets-requires-clause-resolved
push_budgets-requires-clause-resolved c =
    let s = c.args.scenario.now in
    let items = c.push_unresolved.new.found.items in
    let none : length items ≡ 0 = grind (arith, nat_tests) in
    resolved s (none_of unresolved_text items (unresolved_all s)
    (from_none c.args.found.now.items (lines_found items) _ c.requires.none c.in_ok-push_unresolved.ensures) none)

pub returns : goal.returns
returns c =
    let s = c.args.scenario.now in
    let items = c.push_unresolved.new.found.items in
    let new = lines_found c.push_budgets.new.found.items in
    let none : length items ≡ 0 = grind (arith, nat_tests) in
    let empty = none_of unresolved_text items (unresolved_all s)
    (from_none c.args.found.now.items (lines_found items) _ c.requires.none c.in_ok-push_unresolved.ensures) none in
    on_ok (new ≡ lines_found items ++ map refusal_text (over_budgets c.args.components.now (budgets s))) (new ≡ map refusal_text (rest_faults s))
    c.push_budgets.result
    (λ (e : new ≡ lines_found items ++ map refusal_text (over_budgets c.args.components.now (budgets s))).
    no_unresolved new (unresolved_all s) (over_budgets (components s) (budgets s)) empty
    (onto_none items new _ none e ∙ ap (λ cs. map refusal_text (over_budgets cs (budgets s))) c.requires.components)) c.push_budgets.ensures
