-- The lines that are put one after the other.
use Rattle.std.proofs.Common.{◌∙◌, ap, map, sym}
use Rattle.gq_model.specs.machine.Scenario.{Component, system}
use Rattle.gq_sizes.specs.Size.{all_gifts}
use Rattle.gq_sizes.specs.Saturated_tables.{ram_rows}
use Rattle.gq_sizes.proofs.Sized_texts.{caps_are_printed, endless_printed, ram_printed, text_is}
use Rattle.gq_sizes.proofs.size.pushed.Goals as goal

pub returns : goal.returns
returns c =
    let s = c.args.scenario.now in
    let free = c.args.free.now in
    let all = system free in
    let are = c.requires.components in
    let given = all_gifts all all.components in
    let is = c.requires.free in
    let ifs = c.interfaces.result.now in
    let rams = ram_printed all s free ifs c.args.sums.now.ram.items is c.interfaces.ensures c.args.components.now are c.requires.ram in
    let capss = caps_are_printed all s free ifs c.args.sums.now.caps.items is c.interfaces.ensures c.requires.caps in
    let ends = endless_printed all s free ifs c.args.sums.now.endless.items is c.interfaces.ensures c.requires.endless in
    text_is s free _ ifs is c.version.ensures c.interfaces.ensures _ c.push_interfaces.new.text.items c.push_shorts.new.text.items c.push_tree.new.text.items
    c.new-text.ensures.items (c.in_ok-push_interfaces.ensures all given rams capss ends)
    (c.in_ok-push_shorts.ensures all given are (c.requires.programs ∙ ap (map (λ (d : Component). d.node.program)) are) c.interfaces-2.ensures
    (c.requires.ram ∙ (λ j. ram_rows all (all_gifts all (are j)) (sym c.interfaces-2.ensures j))))
    (c.in_ok-push_tree.ensures all c.requires.leaves)
