use Rattle.std.proofs.Common.{◌≡◌, ◌++◌, take, drop}
use Rattle.gq_model.specs.machine.Program.{section_in}
use Rattle.gq_asm.specs.internal.Section_order.{without}
use Rattle.gq_asm.proofs.text.place_of.Given as goal

abbrev pub invariant-loop-i : goal.invariant-loop-i
invariant-loop-i l =
    (section_in l.section (drop l.i l.given) ≡ section_in l.section l.given) ×
    (take l.i l.given ++ without l.section (drop l.i l.given) ≡ without l.section l.given)
