use Rattle.std.proofs.Common.{◌∙◌, ◌++◌, ap, sym}
use Rattle.std.proofs.lemmas.Result.{on_ok_weaker}
use Rattle.gq_model.specs.machine.World.{slot_at}
use Rattle.gq_trade.specs.Seen_sessions.{slot_id_seen}
use Rattle.gq_outcomes.proofs.Kept_readers.{memory_key, nothing_key, pool_key, pool_shape}
use Rattle.gq_outcomes.proofs.slot_key.push_slot.Goals as goal

pub returns-in-Nothing : goal.returns-in-Nothing
returns-in-Nothing c =
    let o = slot_at c.args.machine.now.world (slot_id_seen c.args.slot_id) in
    on_ok_weaker c.push_byte.result
    (λ put. put ∙ ap (λ t. c.args.key.now.items ++ t) (sym (nothing_key c.args.order.now o c.in-Nothing.ensures))) c.push_byte.ensures

pub returns-in-Bytes : goal.returns-in-Bytes
returns-in-Bytes c =
    let o = slot_at c.args.machine.now.world (slot_id_seen c.args.slot_id) in
    on_ok_weaker c.push_memory.result
    (λ put. put ∙ ap (λ t. c.args.key.now.items ++ t) (sym (memory_key c.args.order.now o c.in-Bytes.form c.in-Bytes.size c.in-Bytes.ensures)))
    c.push_memory.ensures

pub push_pool-requires-clause-count : goal.push_pool-requires-clause-count
push_pool-requires-clause-count c =
    (pool_shape (slot_at c.args.machine.now.world (slot_id_seen c.args.slot_id)) c.in-Pool.size c.in-Pool.count c.in-Pool.ensures).1

pub push_pool-requires-clause-size : goal.push_pool-requires-clause-size
push_pool-requires-clause-size c =
    (pool_shape (slot_at c.args.machine.now.world (slot_id_seen c.args.slot_id)) c.in-Pool.size c.in-Pool.count c.in-Pool.ensures).0

pub returns-in-Pool : goal.returns-in-Pool
returns-in-Pool c =
    let o = slot_at c.args.machine.now.world (slot_id_seen c.args.slot_id) in
    on_ok_weaker c.push_pool.result
    (λ put. put ∙ ap (λ t. c.args.key.now.items ++ t) (sym (pool_key c.args.order.now o c.in-Pool.size c.in-Pool.count c.in-Pool.ensures)))
    c.push_pool.ensures
