use Rattle.std.proofs.Common.{◌∙◌, sym}
use Rattle.gq_model.specs.machine.Scenario.{components}
use Rattle.gq_outcomes.proofs.walk.start_parts.Goals as goal

pub returns-clause-count : goal.returns-clause-count
returns-clause-count c = c.in_ok-said.ensures.count ∙ c.leaf_count.ensures.count

pub returns-clause-none : goal.returns-clause-none
returns-clause-none c = c.in_ok-said.ensures.none (components c.args.table.now) (sym c.leaf_count.ensures.count)
