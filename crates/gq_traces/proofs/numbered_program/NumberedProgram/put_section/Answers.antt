-- A section is put.
use Rattle.std.proofs.Common.{refl}
use Rattle.gq_traces.proofs.Sections_put.{section_put}
use Rattle.gq_traces.proofs.numbered_program.NumberedProgram.put_section.Goals as goal

pub returns : goal.returns
returns c =
    section_put c.args.self.now _ c.put_all.new.self _ c.args.section c.args.body.now c.in_ok-first.first c.size_of_all-size.result refl refl refl
    c.size_of_all-size.ensures c.in_ok-first.ensures refl c.in_ok-push.ensures.items c.requires.deep
