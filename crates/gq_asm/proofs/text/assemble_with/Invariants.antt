use Rattle.std.proofs.Common.{◌≡◌, option_copied}
use Rattle.gq_model.specs.texts.Text.{lines_read, assembled}
use Rattle.gq_asm.specs.internal.Source_lines.{lines_left, size_left}
use Rattle.gq_asm.specs.internal.Assembly_state.{reading_of}
use Rattle.gq_asm.proofs.text.assemble_with.Given as goal

abbrev pub invariant-loop-left : goal.invariant-loop-left
invariant-loop-left l = lines_read (reading_of l.reading) l.number (lines_left (option_copied l.left)) ≡ assembled l.fn.text

abbrev pub decreases-loop-left : goal.decreases-loop-left
decreases-loop-left l = size_left (option_copied l.left)
