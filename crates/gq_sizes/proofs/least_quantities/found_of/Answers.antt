-- What was found is least.
use Rattle.std.proofs.Common.{◌∙◌, ap}
use Rattle.gq_model.specs.machine.Scenario.{system}
use Rattle.gq_sizes.specs.Passing.{endless_from}
use Rattle.gq_sizes.specs.Saturated_tables.{leasts_from}
use Rattle.gq_sizes.proofs.Sized_texts.{leaves_are, right_programs}
use Rattle.gq_sizes.proofs.least_quantities.found_of.Goals as goal

pub all_verified-requires : goal.all_verified-requires
all_verified-requires c =
    right_programs c.args.free.now c.interfaces.result.now c.args.components.now c.as_slice.result.now c.requires.faultless c.interfaces.ensures
    c.requires.components (c.as_slice.ensures.value ∙ c.requires.programs)

pub sums_of-requires : goal.sums_of-requires
sums_of-requires c =
    leaves_are c.args.free.now c.interfaces.result.now c.args.components.now c.as_slice.result.now c.as_slice-2.result.now c.interfaces.ensures
    c.requires.components (c.as_slice.ensures.value ∙ c.requires.programs) (c.as_slice-2.ensures.value ∙ c.in_ok-leaves.ensures)

pub least_leaves-requires-clause-leaves : goal.least_leaves-requires-clause-leaves
least_leaves-requires-clause-leaves c =
    leaves_are c.args.free.now c.interfaces.result.now c.args.components.now c.as_slice.result.now c.as_slice-3.result.now c.interfaces.ensures
    c.requires.components (c.as_slice.ensures.value ∙ c.requires.programs) (c.as_slice-3.ensures.value ∙ c.in_ok-leaves.ensures)

pub unending_leaves-requires-clause-leaves : goal.unending_leaves-requires-clause-leaves
unending_leaves-requires-clause-leaves c =
    leaves_are c.args.free.now c.interfaces.result.now c.args.components.now c.as_slice.result.now c.as_slice-4.result.now c.interfaces.ensures
    c.requires.components (c.as_slice.ensures.value ∙ c.requires.programs) (c.as_slice-4.ensures.value ∙ c.in_ok-leaves.ensures)

pub returns-clause-leaves : goal.returns-clause-leaves
returns-clause-leaves c =
    let all = system c.args.free.now in
    record {
      least = c.in_ok-least.ensures ∙ ap (leasts_from all 0) c.requires.components;
      endless = c.in_ok-endless.ensures ∙ ap (endless_from all 0) c.requires.components;
    }
