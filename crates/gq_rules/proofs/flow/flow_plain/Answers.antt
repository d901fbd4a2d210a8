use Rattle.std.proofs.Common.{sym, ◌∙◌}
use Rattle.gq_rules.proofs.Slot_keeping_statements.{still_measured}
use Rattle.gq_rules.proofs.flow.flow_plain.Goals as goal

pub returns-then-keeps_slots-clause-peaks : goal.returns-then-keeps_slots-clause-peaks
returns-then-keeps_slots-clause-peaks c =
    still_measured c.flow_judged.result c.args.context.now c.args.state.now c.flow_judged.new.state c.args.instruction.now c.args.place.now c.args.peaks.now
    (sym c.keeps_slots.ensures ∙ c.if-keeps_slots.true) c.flow_judged.ensures.flowed
