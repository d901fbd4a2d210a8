-- The lines of short `open` statements, put at the end of nothing; and the numbers of the scenario without its quantities.
use Rattle.std.proofs.Common.{◌∙◌, ◌∷◌, ◌++◌, ap, map, sym}
use Rattle.gq_model.specs.machine.Scenario.{Component, Scenario, system}
use Rattle.gq_sizes.specs.Endless.{children_endless}
use Rattle.gq_sizes.specs.Least_numbers.{at_least, interface_rows, nodes_row, root_least_printed}
use Rattle.gq_sizes.specs.Size.{all_gifts, all_short}
use Rattle.gq_sizes.specs.Saturated_tables.{ram_rows}
use Rattle.gq_sizes.proofs.Sized_texts.{caps_are_printed, endless_printed, ram_printed}
use Rattle.gq_sizes.proofs.leasts.leasts_of.Goals as goal

pub returns-clause-shorts : goal.returns-clause-shorts
returns-clause-shorts c =
    let free = c.args.free.now in
    let all = system free in
    let given = all_gifts all all.components in
    let are = c.requires.components in
    let rows =
    c.in_ok-found.ensures.ram ∙ (λ j. ram_rows all (all_gifts all (are j)) (sym c.interfaces-interfaces.ensures j)) in
    c.in_ok-push_shorts.ensures all given are
    (c.as_slice-programs.ensures.value ∙ (c.requires.programs ∙ ap (map (λ (d : Component). d.node.program)) are)) c.interfaces-interfaces.ensures rows
    ∙ (ap (λ t. t ++ all_short all given all.components) c.new-shorts.ensures.items
    ∙ ap (λ (f : Scenario). all_short (system f) (all_gifts (system f) (system f).components) (system f).components) c.requires.free)

pub returns-clause-interfaces : goal.returns-clause-interfaces
returns-clause-interfaces c =
    let s = c.args.scenario.now in
    let free = c.args.free.now in
    let all = system free in
    let is = c.requires.free in
    let same = c.interfaces.ensures in
    let ifs = c.interfaces.result.now in
    let found = c.in_ok-found.found in
    let rams = ram_printed all s free ifs found.sums.ram.items is same c.args.components.now c.requires.components c.in_ok-found.ensures.ram in
    let capss = caps_are_printed all s free ifs found.sums.caps.items is same c.in_ok-found.ensures.caps in
    let endless = endless_printed all s free ifs found.sums.endless.items is same c.in_ok-found.ensures.endless in
    c.in_ok-least_interfaces.ensures all (all_gifts all all.components) rams capss endless
    ∙ (λ j. interface_rows (system (is j)) (all_gifts (system (is j)) (system (is j)).components) (same j))

pub returns-clause-nodes : goal.returns-clause-nodes
returns-clause-nodes c =
    let nodes = c.args.scenario.now.nodes in
    c.in_ok-least_nodes.ensures (system c.args.free.now) c.in_ok-found.ensures.leaves
    ∙ ap (λ (f : Scenario). at_least (root_least_printed (system f) nodes) (children_endless (system f) 0 nodes) ∷ nodes_row (system f) 0 nodes)
    c.requires.free
