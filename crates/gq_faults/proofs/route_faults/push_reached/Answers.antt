use Rattle.std.proofs.Common.{◌∙◌, length, map, sym}
use Rattle.gq_model.specs.rules.Resolve.{Cycle}
use Rattle.gq_resolve.specs.Reaching.{reaches_by}
use Rattle.gq_faults.specs.Found_lines.{lines_found}
use Rattle.gq_faults.proofs.Cyclic_leaf_list.{one_when, none_when}
use Rattle.gq_faults.proofs.route_faults.push_reached.Goals as goal

pub returns-then-not-branch : goal.returns-then-not-branch
returns-then-not-branch c = λ d at.
    none_when (lines_found c.args.found.now.items)
    (reaches_by (length c.args.used.now) (map (λ l. l.items) c.args.used.now) c.args.place c.args.place) (Cycle d.node.name)
    (sym c.if-not-branch.true ∙ c.in_ok-reaches_itself.ensures)

pub returns : goal.returns
returns c = λ d at.
    one_when (lines_found c.args.found.now.items) (lines_found c.push_cycle.new.found.items)
    (reaches_by (length c.args.used.now) (map (λ l. l.items) c.args.used.now) c.args.place c.args.place) (Cycle d.node.name) c.push_cycle.result
    (sym c.if-not-branch.false ∙ c.in_ok-reaches_itself.ensures) (c.push_cycle.ensures d at)
