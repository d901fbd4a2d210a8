use Rattle.std.proofs.Common.{◌∷◌, [], ap, ◌∙◌}
use Rattle.gq_model.specs.machine.Program.{Program}
use Rattle.gq_model.specs.texts.Text.{limits_from}
use Rattle.gq_asm.specs.internal.Assembly_state.{blocks_of, reading_of}
use Rattle.gq_asm.proofs.Finished_text_program.{none_first, finished_none}
use Rattle.gq_asm.proofs.assembly_state.Reading.finish.Goals as goal

pub from_parts-requires : goal.from_parts-requires
from_parts-requires c =
    let sections = c.in_ok-sections.sections.items in
    let locals = c.greatest_values-locals.result in
    let p : Program = record { sections = sections; locals = locals } in
    let blocks = c.args.self.blocks.items in
    let none = none_first blocks c.pop_front.new.self.items c.in_default.ensures.items c.in_default.ensures.rest in
    let limits = c.greatest_values-locals.ensures ∙ ap (λ l. limits_from l (0 ∷ 1 ∷ 2 ∷ 3 ∷ 4 ∷ 5 ∷ 6 ∷ 7 ∷ [])) c.deref.ensures.value in
    c.requires p (finished_none (reading_of c.args.self) (blocks_of blocks) sections locals (ap (λ b. blocks_of b) none) c.in_ok-sections.ensures limits)
