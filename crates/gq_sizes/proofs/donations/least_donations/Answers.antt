-- The first interface of the scenario without its quantities is that of the scenario.
use Rattle.std.proofs.Common.{◌≡◌, map, subst, true}
use Rattle.std.specs.Prelude.{IfOk}
use Rattle.gq_model.specs.machine.Scenario.{Scenario, system}
use Rattle.gq_program.specs.Interfaces.{are_interfaces}
use Rattle.gq_sizes.specs.Donated.{all_donated, leaf_list}
use Rattle.gq_sizes.proofs.First_endless_search.{first_of_scenario, some_of_scenario, none_of_scenario}
use Rattle.gq_sizes.proofs.Just_asked_levels.{rising_of}
use Rattle.gq_sizes.proofs.donations.least_donations.Goals as goal

pub returns-clause-first : goal.returns-clause-first
returns-clause-first c =
    first_of_scenario c.args.scenario.now c.in_ok-free.free c.in_ok-free.ensures (λ d. d.endless) c.donations_without-found.result
    c.donations_without-found.ensures.endless

pub returns-clause-endless : goal.returns-clause-endless
returns-clause-endless c =
    some_of_scenario c.args.scenario.now
    (rising_of c.args.scenario.now.interfaces (subst (λ l. are_interfaces l ≡ true) c.interfaces.ensures c.entries-in_order.ensures.in_order))
    (λ d. d.endless) c.donations_without-found.result (returns-clause-first c)

pub returns-clause-ends : goal.returns-clause-ends
returns-clause-ends c = none_of_scenario c.args.scenario.now (λ d. d.endless) c.donations_without-found.result (returns-clause-first c)

pub returns-clause-leaves : goal.returns-clause-leaves
returns-clause-leaves c =
    subst (λ (f : Scenario). IfOk c.donations_without-found.result (λ d. map leaf_list d.leaves.items ≡ all_donated (system f))) c.in_ok-free.ensures
    c.donations_without-found.ensures.leaves
