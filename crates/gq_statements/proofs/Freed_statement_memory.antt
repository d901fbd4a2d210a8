-- Memory that a statement frees.
use Rattle.std.proofs.Common.{◌≡◌, ◌&&◌, ℕ, Bool, true, false, not, get_or, length, List, Some, sym, ap, ◌∙◌}
use Rattle.std.specs.Prelude.{nat_lt, Ok, Err}
use Rattle.gq_model.specs.declared.program.OperandSlot.{OperandSlot}
use Rattle.gq_model.specs.machine.Scenario.{System}
use Rattle.gq_model.specs.machine.World as world
use Rattle.gq_model.specs.machine.Sums.{paid}
use Rattle.gq_model.specs.machine.Doing.{Doing, Quiet, if_paid, need, standing, when}
use Rattle.gq_model.specs.declared.fault.Wrong.TheVariants.{ExceededQuota, WrongKind}
use Rattle.gq_model.specs.machine.Memory.{free, is_kept, is_memory, shares_buffer}
use Rattle.gq_trade.specs.Numbers.{IsTaken}
use Rattle.gq_trade.specs.declared.session.SlotId.{SlotId}
use Rattle.gq_trade.specs.Seen_sessions.{session_seen, slot_id_seen}
use Rattle.gq_trade.specs.Trading.{IsTrading, session_at}
use Rattle.gq_trade.proofs.Sessions_kept.{between_at}
use Rattle.gq_slots.specs.Slots.{Frame, Slots, memory_of, world_seen}
use Rattle.gq_slots.specs.Calls.{PutsSlot}
use Rattle.gq_slots.proofs.Slot_change_worlds.{session_there}
use Rattle.gq_slots.specs.Slot_addresses.{AreBuffers, place_seen}
use Rattle.gq_statements.specs.Systems.{AreLawful, IsOf}
use Rattle.gq_statements.proofs.Lawful_worlds_paid.{all_paid}
use Rattle.gq_statements.specs.declared.actor.Actor.{Actor}
use Rattle.gq_statements.specs.Slot_statements.{IsBy, current_seen}
use Rattle.gq_statements.proofs.Named_statement_bytes.{same_slot_id}
use Rattle.gq_statements.proofs.Memory_making_statements.{still_of}

-- the buffer of a session's service
pub buffer_is : (f : Frame) (system : System) (bs : List ℕ) (s : Slots) (k : ℕ) → IsTrading s.trades.trading → IsTaken s.trades.trading.sessions k
    → AreBuffers system f s bs
    → nat_lt 0 (get_or bs (session_at s.trades.trading k).service 0) ≡ shares_buffer system (world.session_at (world_seen f s) k)
buffer_is f system bs s k w t a =
    let q = session_at s.trades.trading k in
    let b = between_at (length s.trades.trading.leaves) (length s.trades.trading.objects) s.trades.trading.sessions k w.between t in
    ap (nat_lt 0) (a q.service b.service)
    ∙ sym (ap (λ o. shares_buffer system (world.joined o)) (session_there (λ z. session_seen f.names (memory_of s z.server) z) s.trades.trading.sessions k t))

module _ (d : Doing) (a : Actor) (place : OperandSlot) (f : Frame) (s : Slots) (p : SlotId) (h : IsBy d a)
    (e : place_seen (Some p) ≡ world.slot_id_of a.leaf (current_seen a.current) place) (we : standing d d.leaf ≡ world_seen f s) where
  abbrev tested : Bool
  tested = is_memory (world.slot_at (world_seen f s) (slot_id_seen p))

  abbrev freed : world.World
  freed = world.with_slot (world_seen f s) (slot_id_seen p) world.Empty

  free_is : free d place ≡ when (tested && not (is_kept d d.leaf.current place)) WrongKind (if_paid d.system freed Quiet)
  free_is =
      ap (λ w. need (world.slot_id_of d.x d.leaf.current place) WrongKind (λ slot_id.
      when (is_memory (world.slot_at w slot_id) && not (is_kept d d.leaf.current place)) WrongKind
      (if_paid d.system (world.with_slot w slot_id world.Empty) Quiet)))
      we
      ∙ ap (λ o. need o WrongKind (λ slot_id.
      when (is_memory (world.slot_at (world_seen f s) slot_id) && not (is_kept d d.leaf.current place)) WrongKind
      (if_paid d.system (world.with_slot (world_seen f s) slot_id world.Empty) Quiet))) (same_slot_id d a place (Some p) h e)

  pub free_other : tested ≡ false → free d place ≡ Err WrongKind
  free_other n = free_is ∙ ap (λ b. when (b && not (is_kept d d.leaf.current place)) WrongKind (if_paid d.system freed Quiet)) n

  pub free_some : (t : Slots) → tested ≡ true → is_kept d d.leaf.current place ≡ false → PutsSlot s t p world.Empty → AreLawful s → AreLawful t
      → IsOf d.system f s → free d place ≡ Ok (world_seen f t, Quiet)
  free_some t m n puts l k o =
      free_is ∙ (λ j. when (m j && not (n j)) WrongKind (if_paid d.system freed Quiet))
      ∙ ap (λ y. when (paid d.system y) ExceededQuota (Ok (y, Quiet))) (sym (puts.seen_so f))
      ∙ ap (λ b. when b ExceededQuota (Ok (world_seen f t, Quiet))) (all_paid d.system f t k (still_of d.system f s t l k puts.rest o))
