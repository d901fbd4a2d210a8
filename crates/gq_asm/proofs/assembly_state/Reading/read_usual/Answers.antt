use Rattle.std.proofs.Common.{refl}
use Rattle.gq_asm.specs.internal.Assembly_state.{reading_of}
use Rattle.gq_asm.proofs.Asm_lines.{usual_reads}
use Rattle.gq_asm.proofs.assembly_state.Reading.read_usual.Goals as goal

pub returns-clause-read : goal.returns-clause-read
returns-clause-read c =
    let taking = c.takes_statements.ensures c.if-not-takes_statements.false in
    usual_reads c.args.text.now c.in-Some.rest.now c.in-Some.instruction (reading_of c.args.self.now) (reading_of c.add.new.self) _ taking c.in-Some.ensures
    refl c.in_ok-add.ensures
