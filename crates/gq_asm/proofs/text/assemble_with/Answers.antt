use Rattle.std.proofs.Common.{◌≡◌, suc, arith, option_copied, Err, sym, subst, ◌∙◌}
use Rattle.gq_model.proofs.Assembled_programs.{assembled_is}
use Rattle.gq_model.specs.texts.Text.{assembled}
use Rattle.gq_asm.specs.Assembly_faults.{Assembles}
use Rattle.gq_asm.specs.declared.asm_fault.AssembleError.{AssembleError}
use Rattle.gq_asm.specs.internal.Assembly_state.{reading_of}
use Rattle.gq_asm.proofs.Asm_lines.{goes_on, fails_here, shorter}
use Rattle.gq_asm.proofs.text.assemble_with.Goals as goal

pub finish-requires : goal.finish-requires
finish-requires c = λ p e. assembled_is c.args.text.now p (sym (rw c.in_default.is at c.loop-left.invariant) ∙ e)

pub returns-in-Err : goal.returns-in-Err
returns-in-Err c =
    let inv = rw c.in-Some.is at c.loop-left.invariant in
    subst (λ (e : AssembleError). Assembles (Err e) (assembled c.args.text.now)) (sym c.on_line.ensures)
    (fails_here (reading_of c.loop-left.reading) c.loop-left.number c.in-Some.rest.now c.in-Err.error _ c.in-Err.ensures.read inv)

pub loop-left-smaller : goal.loop-left-smaller
loop-left-smaller c = rw c.in-Some.is (shorter c.in-Some.rest.now (option_copied c.in-Ok.after) c.in-Ok.ensures.rest)

pub loop-left-preserved : goal.loop-left-preserved
loop-left-preserved c =
    let inv = rw c.in-Some.is at c.loop-left.invariant in
    let next : c.in-Some-checked_add.next ≡ suc c.loop-left.number = omega (arith, c.in-Some-checked_add.ensures.1) in
    goes_on (reading_of c.loop-left.reading) (reading_of c.read_first.new.self) c.loop-left.number c.in-Some-checked_add.next c.in-Some.rest.now
    (option_copied c.in-Ok.after) _ (sym c.in-Ok.ensures.read) c.in-Ok.ensures.rest next inv
