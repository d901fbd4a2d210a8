use Rattle.std.proofs.Common.{sym, ◌∙◌}
use Rattle.gq_asm.proofs.Sections_taken_out.{first_here}
use Rattle.gq_asm.proofs.text.place_of.Goals as goal

pub returns-then-same_section : goal.returns-then-same_section
returns-then-same_section c =
    first_here c.args.section c.args.given.now c.loop-i.i c.index-given-i.result c.loop-i-test.true c.index-given-i.is
    (sym c.same_section.ensures ∙ c.if-same_section.true) c.loop-i.invariant.0 c.loop-i.invariant.1
