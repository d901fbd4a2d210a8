use Rattle.std.proofs.Common.{◌∙◌, ap}
use Rattle.gq_model.specs.machine.Scenario.{LeafNode}
use Rattle.gq_faults.specs.Found_lines.{lines_found}
use Rattle.gq_faults.proofs.Cyclic_leaf_list.{put_cycle}
use Rattle.gq_faults.proofs.route_faults.push_cycle.Goals as goal

pub returns : goal.returns
returns c = λ d at.
    put_cycle c.args.components.now c.args.place c.index-components-place.result d c.copied.result (lines_found c.args.found.now.items)
    (lines_found c.push_fault.new.found.items) c.push_fault.result c.requires c.index-components-place.is at
    (c.copied.ensures ∙ (c.name.ensures ∙ ap (λ (l : LeafNode). l.name) c.leaf.ensures)) c.push_fault.ensures
