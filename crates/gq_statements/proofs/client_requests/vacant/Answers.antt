use Rattle.gq_statements.proofs.Open_request_worlds.{differs, free_room, taken_room}
use Rattle.gq_statements.proofs.client_requests.vacant.Goals as goal

pub returns-then-is_empty-clause-found : goal.returns-then-is_empty-clause-found
returns-then-is_empty-clause-found c f d h we =
    free_room d c.args.actor c.args.place f c.args.slots.now h we c.in_ok-slot_id.slot_id c.content.result c.in_ok-slot_id.ensures.is
    (c.content.ensures.reads f)
    (c.is_empty.ensures.0 c.if-is_empty.true)

pub returns-else-is_empty-clause-found : goal.returns-else-is_empty-clause-found
returns-else-is_empty-clause-found c f d h we =
    taken_room d c.args.actor c.args.place f c.args.slots.now h we c.in_ok-slot_id.slot_id c.content.result c.in_ok-slot_id.ensures.is
    (c.content.ensures.reads f)
    (λ e. differs c.is_empty.result c.if-is_empty.false (c.is_empty.ensures.1 e))
