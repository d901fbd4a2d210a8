use Rattle.std.proofs.Common.{sym, ◌∙◌}
use Rattle.gq_verify.proofs.Statement_slot_changes.{changed_alike, kept_alike}
use Rattle.gq_verify.proofs.counting.change_slots.Goals as goal

pub returns-in-Ok : goal.returns-in-Ok
returns-in-Ok c = λ s alike right.
    changed_alike c.args.context.now s c.args.state.now c.judged.new.state c.args.instruction.now c.judged.result alike
    (sym c.keeps_slots.ensures ∙ c.if-not-keeps_slots.true) right c.judged.ensures

pub returns-in-Err : goal.returns-in-Err
returns-in-Err c = λ s alike right.
    changed_alike c.args.context.now s c.args.state.now c.judged.new.state c.args.instruction.now c.judged.result alike
    (sym c.keeps_slots.ensures ∙ c.if-not-keeps_slots.true) right c.judged.ensures

pub returns-else-not-keeps_slots : goal.returns-else-not-keeps_slots
returns-else-not-keeps_slots c = λ s alike right.
    kept_alike c.args.context.now s c.args.state.now c.args.instruction.now alike (sym c.keeps_slots.ensures ∙ c.if-not-keeps_slots.false) right
