use Rattle.std.proofs.Common.{◌≡◌, ◌∙◌, ap, sym, arith, length, map}
use Rattle.std.proofs.lemmas.Bool.Decides.{nat_tests}
use Rattle.gq_output.proofs.Written_byte_facts.{on_ok}
use Rattle.gq_model.specs.machine.Scenario.{components, system}
use Rattle.gq_model.specs.texts.Fault_texts.{refusal_text}
use Rattle.gq_load.specs.Load.{Refused_for, fault_text}
use Rattle.gq_faults.specs.Found_lists.{or_else}
use Rattle.gq_faults.specs.Scenario_faults.{rest_faults, rules_faults, scenario_faults, sources_faults}
use Rattle.gq_faults.specs.Found_lines.{lines_found}
use Rattle.gq_faults.proofs.Fault_stages.{none_of, programs, some_sources, some_rules, no_rules, from_none, onto_none, found_rules, rules_as, rules_clean}
use Rattle.gq_faults.proofs.stages.push_all.Goals as goal

pub returns-then-not-is_empty : goal.returns-then-not-is_empty
returns-then-not-is_empty c =
    let s = c.args.scenario.now in
    let items = c.push_sources.new.found.items in
    let some : length items ≡ 0 → ⊥ = λ z. absurd (grind (arith, nat_tests)) in
    some_sources items (sources_faults (components s)) (map Refused_for (or_else (rules_faults (system s) (components s)) (rest_faults s)))
    (from_none c.args.found.now.items (lines_found items) _ c.requires.none c.in_ok-push_sources.ensures
    ∙ ap (λ cs. map fault_text (sources_faults cs)) c.requires.components) some

pub push_rules-requires : goal.push_rules-requires
push_rules-requires c =
    let items = c.push_sources.new.found.items in
    let none : length items ≡ 0 = grind (arith, nat_tests) in
    programs c.args.components.now (none_of fault_text items (sources_faults c.args.components.now)
    (from_none c.args.found.now.items (lines_found items) _ c.requires.none c.in_ok-push_sources.ensures) none)

pub returns-then-not-is_empty-2 : goal.returns-then-not-is_empty-2
returns-then-not-is_empty-2 c =
    let s = c.args.scenario.now in
    let cs = c.args.components.now in
    let first = c.push_sources.new.found.items in
    let items = c.push_rules.new.found.items in
    let none : length first ≡ 0 = grind (arith, nat_tests) in
    let some : length items ≡ 0 → ⊥ = λ z. absurd (grind (arith, nat_tests)) in
    let sources = none_of fault_text first (sources_faults cs) (from_none c.args.found.now.items
    (lines_found first) _ c.requires.none c.in_ok-push_sources.ensures) none in
    some_rules items (found_rules c.interfaces.result.now cs) (rules_faults (system s) (components s)) (rest_faults s) (sources_faults (components s))
    (sym (ap sources_faults c.requires.components) ∙ sources) (onto_none first (lines_found items) _ none c.in_ok-push_rules.ensures)
    (rules_as s c.interfaces.result.now cs c.interfaces.ensures c.requires.components) some

pub push_rest-requires-clause-sources : goal.push_rest-requires-clause-sources
push_rest-requires-clause-sources c =
    let items = c.push_sources.new.found.items in
    let none : length items ≡ 0 = grind (arith, nat_tests) in
    programs c.args.components.now (none_of fault_text items (sources_faults c.args.components.now)
    (from_none c.args.found.now.items (lines_found items) _ c.requires.none c.in_ok-push_sources.ensures) none)

pub push_rest-requires-clause-rules : goal.push_rest-requires-clause-rules
push_rest-requires-clause-rules c =
    let s = c.args.scenario.now in
    let cs = c.args.components.now in
    let first = c.push_sources.new.found.items in
    let items = c.push_rules.new.found.items in
    let none : length first ≡ 0 = grind (arith, nat_tests) in
    let empty : length items ≡ 0 = grind (arith, nat_tests) in
    let rules = none_of refusal_text items (found_rules c.interfaces.result.now cs) (onto_none first
    (lines_found items) _ none c.in_ok-push_rules.ensures) empty in
    rules_clean s c.interfaces.result.now cs c.interfaces.ensures c.requires.components rules

pub returns : goal.returns
returns c =
    let s = c.args.scenario.now in
    let cs = c.args.components.now in
    let first = c.push_sources.new.found.items in
    let items = c.push_rules.new.found.items in
    let new = lines_found c.push_rest.new.found.items in
    let none : length first ≡ 0 = grind (arith, nat_tests) in
    let empty : length items ≡ 0 = grind (arith, nat_tests) in
    let sources = none_of fault_text first (sources_faults cs) (from_none c.args.found.now.items
    (lines_found first) _ c.requires.none c.in_ok-push_sources.ensures) none in
    let rules = none_of refusal_text items (found_rules c.interfaces.result.now cs) (onto_none first
    (lines_found items) _ none c.in_ok-push_rules.ensures) empty in
    on_ok (new ≡ map refusal_text (rest_faults s)) (new ≡ map fault_text (scenario_faults s)) c.push_rest.result
    (λ (e : new ≡ map refusal_text (rest_faults s)). no_rules new (rules_faults (system s) (components s)) (rest_faults s) (sources_faults (components s))
    (sym (ap sources_faults c.requires.components) ∙ sources)
    (sym (rules_as s c.interfaces.result.now cs c.interfaces.ensures c.requires.components) ∙ rules) e) c.push_rest.ensures
