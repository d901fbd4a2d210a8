use Rattle.std.proofs.Common.{refl, sym}
use Rattle.std.specs.Prelude.{codes}
use Rattle.gq_program.specs.declared.shapes.Shape.TheVariants as Shape
use Rattle.gq_program.specs.declared.shapes.WithBytes.TheVariants as WithBytes
use Rattle.gq_model.specs.declared.program.Width.TheVariants as Width
use Rattle.gq_asm.proofs.Word_prefix_statements.{spelled}
use Rattle.gq_asm.proofs.statement_words.of_six.Goals as goal

pub returns-then-same_text : goal.returns-then-same_text
returns-then-same_text c = spelled c.args.word.now (codes "store4") (Shape.Bytes (WithBytes.Store Width.Word)) (sym c.if-same_text.ensures) refl
