-- The rows of the interfaces of the scenario without quantities.
use Rattle.std.proofs.Common.{◌∙◌, ap, sym}
use Rattle.gq_model.specs.machine.Scenario.{system}
use Rattle.gq_sizes.specs.Size.{all_gifts}
use Rattle.gq_sizes.specs.Passing.{endless_rows}
use Rattle.gq_sizes.specs.Saturated_tables.{caps_rows, ram_rows}
use Rattle.gq_sizes.proofs.least_quantities.sums_of.Goals as goal

pub returns-clause-ram : goal.returns-clause-ram
returns-clause-ram c =
    let all = system c.args.free.now in
    let are = c.requires in
    c.in_ok-ram.ensures all are.components are.leaves
    ∙ (λ j. ram_rows all (all_gifts all (sym are.components j)) (c.interfaces-interfaces.ensures j))

pub returns-clause-caps : goal.returns-clause-caps
returns-clause-caps c =
    let all = system c.args.free.now in
    let are = c.requires in
    let interfaces = c.interfaces-interfaces.ensures in
    c.in_ok-caps.ensures all (record { components = are.components; leaves = are.leaves; interfaces = interfaces ∙ are.interfaces })
    ∙ ap (caps_rows all) interfaces

pub returns-clause-endless : goal.returns-clause-endless
returns-clause-endless c =
    let all = system c.args.free.now in
    let are = c.requires in
    let interfaces = c.interfaces-interfaces.ensures in
    c.in_ok-endless.ensures all (record { components = are.components; leaves = are.leaves; interfaces = interfaces ∙ are.interfaces })
    ∙ ap (endless_rows all) interfaces
