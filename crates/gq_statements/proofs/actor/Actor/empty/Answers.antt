use Rattle.std.proofs.Common.{refl}
use Rattle.gq_slots.specs.Slots.{world_seen}
use Rattle.gq_statements.proofs.Memory_making_statements.{is_filled, is_not_filled}
use Rattle.gq_statements.proofs.actor.Actor.empty.Goals as goal

pub returns-then-is_empty-clause-filled : goal.returns-then-is_empty-clause-filled
returns-then-is_empty-clause-filled c f d h =
    is_filled d c.args.self (world_seen f c.args.slots.now) c.args.place c.args.slots.now h c.in_ok-slot_id.slot_id c.content.result c.in_ok-slot_id.ensures.is
    (c.content.ensures.reads f) (c.if-is_empty.ensures.0 refl)

pub returns-else-is_empty-clause-filled : goal.returns-else-is_empty-clause-filled
returns-else-is_empty-clause-filled c f d h =
    is_not_filled d c.args.self (world_seen f c.args.slots.now) c.args.place c.args.slots.now h c.in_ok-slot_id.slot_id c.content.result
    c.in_ok-slot_id.ensures.is
    (c.content.ensures.reads f) (λ e. let g = c.if-is_empty.ensures.1 e in cc)
