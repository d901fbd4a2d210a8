use Rattle.std.proofs.Common.{◌<◌, ◌≤◌, ◌∙◌, ◌++◌, subst, arith}
use Rattle.std.proofs.lemmas.Result.{on_ok_weaker}
use Rattle.gq_model.specs.machine.World.{slot_at}
use Rattle.gq_trade.specs.Seen_sessions.{slot_id_seen}
use Rattle.gq_outcomes.specs.internal.Key_parts.{memory_in, slot_in}
use Rattle.gq_outcomes.specs.internal.Keys.{bytes_key}
use Rattle.gq_outcomes.proofs.Key_lists.{byte_here, bytes_whole}
use Rattle.gq_outcomes.proofs.Kept_readers.{memory_byte, memory_count}
use Rattle.gq_outcomes.proofs.slot_key.push_bytes.Goals as goal

pub loop-index-preserved : goal.loop-index-preserved
loop-index-preserved c =
    let l = c.loop-index in
    let o = slot_at c.args.machine.now.world (slot_id_seen c.args.slot_id) in
    let bytes = memory_in (slot_in c.args.machine.now c.args.slot_id) in
    let more = c.in_ok-zeros.ensures.few in
    let few = l.invariant.few in
    record {
      key = byte_here bytes l.index c.byte.result l.zeros c.in_ok-zeros.zeros l.key.items c.push_after_zeros.new.key.items
          (c.args.key.now.items ++ bytes_key 0 bytes) (subst (λ n. l.index < n) (c.size-index-end.ensures.size ∙ memory_count o) c.loop-index-test.true)
          (memory_byte o l.index c.byte.result c.byte.ensures) c.in_ok-zeros.ensures.key l.invariant.key;
      few = omega (arith, more, few);
    }

pub returns : goal.returns
returns c =
    let l = c.loop-index in
    let o = slot_at c.args.machine.now.world (slot_id_seen c.args.slot_id) in
    let bytes = memory_in (slot_in c.args.machine.now c.args.slot_id) in
    on_ok_weaker c.push_byte.result
    (λ put. bytes_whole bytes l.index l.zeros l.key.items c.push_number.new.key.items c.push_byte.new.key.items (c.args.key.now.items ++ bytes_key 0 bytes)
    (subst (λ n. n ≤ l.index) (c.size-index-end.ensures.size ∙ memory_count o) c.loop-index-test.false) c.in_ok-push_number.ensures put l.invariant.key)
    c.push_byte.ensures
