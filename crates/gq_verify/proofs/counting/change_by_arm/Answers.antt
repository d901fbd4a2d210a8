use Rattle.std.proofs.Common.{ap, sym, ◌∙◌}
use Rattle.gq_model.specs.rules.Flow.{flow, later}
use Rattle.gq_model.specs.rules.Kinds.{AbstractState}
use Rattle.gq_verify.proofs.Statement_slot_changes.{arm_alike, still_alike}
use Rattle.gq_verify.proofs.counting.change_by_arm.Goals as goal

pub returns-in-Ok : goal.returns-in-Ok
returns-in-Ok c = λ s alike right.
    arm_alike c.args.context.now s c.args.state.now c.flow.new.state c.args.arm.now c.flow.result 0 alike right
    (c.flow.ensures.flowed ∙ ap (λ (x : AbstractState). later 0 (flow c.args.context.now x c.args.arm.now)) c.drop_operands.ensures)

pub returns-in-Err : goal.returns-in-Err
returns-in-Err c = λ s alike right.
    arm_alike c.args.context.now s c.args.state.now c.flow.new.state c.args.arm.now c.flow.result 0 alike right
    (c.flow.ensures.flowed ∙ ap (λ (x : AbstractState). later 0 (flow c.args.context.now x c.args.arm.now)) c.drop_operands.ensures)

pub returns-else-not-is_still : goal.returns-else-not-is_still
returns-else-not-is_still c = λ s alike right.
    still_alike c.args.context.now s c.args.state.now c.args.arm.now alike (sym c.is_still.ensures ∙ c.if-not-is_still.false) right
