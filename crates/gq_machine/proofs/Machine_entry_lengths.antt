-- How many bytes the entries of a pool in a slot have.
use Rattle.std.proofs.Common.{◌≡◌, ℕ, zero, suc, List, [], ◌∷◌, Option, Some, None, length, get_or, map, sym, ap, subst, ◌∙◌}
use Rattle.std.specs.Prelude.{IfSome}
use Rattle.gq_model.specs.machine.World as world
use Rattle.gq_store.proofs.Stored_byte_lists.{length-listed}
use Rattle.gq_store.specs.Store.{Store}
use Rattle.gq_pool.specs.Pools.{entry_bytes, held_of}
use Rattle.gq_pool.specs.declared.pool.Pool.{Pool as Table}
use Rattle.gq_contents.specs.declared.content.Content.{Content}
use Rattle.gq_contents.specs.declared.content.Content.TheVariants.{Empty, Block, Slice, Space, Pool, Link, Waiting}
use Rattle.gq_contents.specs.Contents.{seen}
use Rattle.gq_trade.specs.Seen_sessions.{slot_id_seen}
use Rattle.gq_trade.specs.declared.session.SlotId.{SlotId}
use Rattle.gq_slots.specs.Slots.{content_at, holder, memory_of}
use Rattle.gq_statements.specs.Systems.{AreLawful}
use Rattle.gq_machine.specs.Machines.{Machine}
use Rattle.gq_machine.specs.Machine_world.{frame_of}
use Rattle.gq_machine.specs.Readers.{HasSlotId, entry_at, entry_size}
use Rattle.gq_machine.specs.declared.machine.Machine.TheInside.{Inside}
use Rattle.gq_machine.specs.internal.Machine_invariant.{Holds}
use Rattle.gq_machine.specs.internal.Starts.{machine_seen}
use Rattle.gq_machine.proofs.Machine_session_reads.{slot_id_there}

each_long : (pool : Table) (st : Store) (places : List (Option ℕ)) (k : ℕ)
    → IfSome (get_or (map (entry_bytes pool st) places) k None) (λ bytes. length bytes ≡ pool.size)
each_long pool st [] k = tt
each_long pool st (None ∷ places) zero = tt
each_long pool st (Some q ∷ places) zero = length-listed pool.size _
each_long pool st (q ∷ places) (suc k) = each_long pool st places k

seen_long : (st : Store) (t : Content) (k : ℕ) → IfSome (entry_at k (Some (seen st t))) (λ bytes. length bytes ≡ entry_size (Some (seen st t)))
seen_long st Empty k = tt
seen_long st (Block q n) k = tt
seen_long st (Slice q n) k = tt
seen_long st (Space q n) k = tt
seen_long st (Pool p) k = each_long p st (held_of p st) k
seen_long st (Link q) k = tt
seen_long st (Waiting q) k = tt

-- an entry that is there has as many bytes as the pool says
pub entry_long : (i : Inside) (w : Machine) (e : machine_seen i ≡ w) (h : Holds i.fixed i.state) (l : AreLawful i.state.slots) (p : SlotId)
    (there : HasSlotId w p) (k : ℕ)
    → IfSome (entry_at k (world.slot_at w.world (slot_id_seen p))) (λ bytes. length bytes ≡ entry_size (world.slot_at w.world (slot_id_seen p)))
entry_long i w e h l p there k =
    let t = i.state.slots in
    let reads = ap (λ (m : Machine). world.slot_at m.world (slot_id_seen p)) (sym e)
    ∙ l.read (frame_of i.fixed.table i.state.leaves.items) p (slot_id_there i w e h l p there) in
    subst (λ (o : Option world.Slot). IfSome (entry_at k o) (λ bytes. length bytes ≡ entry_size o)) (sym reads)
    (seen_long (memory_of t (holder t p)) (content_at t p) k)
