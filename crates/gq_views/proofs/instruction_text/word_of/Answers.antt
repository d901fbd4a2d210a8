-- The word stands in the table where the number of the statement does.
use Rattle.std.proofs.Common.{ap, sym, ◌∙◌}
use Rattle.gq_model.specs.texts.Spelling.{spellings, word_of_opcode}
use Rattle.gq_program.proofs.Statement_table_entries.{word_is}
use Rattle.gq_views.proofs.instruction_text.word_of.Goals as goal

pub returns : goal.returns
returns c = c.word.ensures ∙ sym (word_is c.of.result) ∙ ap (λ code. word_of_opcode code spellings) c.of.ensures
