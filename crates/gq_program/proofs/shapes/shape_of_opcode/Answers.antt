-- The entry with this number is the one that a search would find.
use Rattle.std.proofs.Common.{ap, rules, sym, ◌∙◌}
use Rattle.gq_model.specs.texts.Spelling.{shape_of_opcode, spellings}
use Rattle.gq_program.proofs.Statement_table_entries.{found_by}
use Rattle.gq_program.proofs.shapes.shape_of_opcode.Goals as goal

pub returns-then-opcode : goal.returns-then-opcode
returns-then-opcode c =
    sym (ap (λ code. shape_of_opcode code spellings) (sym c.if-opcode.true ∙ c.opcode.ensures)
    ∙ found_by c.in-Some.shape)

pub returns : goal.returns
returns c = search rules
