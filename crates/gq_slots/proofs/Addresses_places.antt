-- Where the bytes of a slot stand, in the machine's world.
use Rattle.std.proofs.Common.{◌≡◌, ℕ, List, length, get_or, Option, Some, None, Bool, true, false, cond, eqb, refl, sym, ap, ◌∙◌, arith}
use Rattle.std.specs.Prelude.{IfSome, is_some}
use Rattle.gq_model.specs.machine.Scenario.{System}
use Rattle.gq_model.specs.machine.Memory.{behind, bytes_slot_id}
use Rattle.gq_model.specs.machine.World as world
use Rattle.gq_store.specs.Store.{Store}
use Rattle.gq_contents.specs.declared.content.Content.{Content}
use Rattle.gq_contents.specs.declared.content.Content.TheVariants.{Empty, Block, Slice, Space, Pool, Link, Waiting}
use Rattle.gq_contents.specs.Contents.{extent_of, seen}
use Rattle.gq_trade.specs.declared.session.SlotId.{SlotId}
use Rattle.gq_trade.specs.declared.session.SlotId.TheVariants.{InSession}
use Rattle.gq_trade.specs.Seen_sessions.{seen_in, session_seen, slot_id_seen}
use Rattle.gq_trade.specs.Trading.{IsTrading}
use Rattle.gq_trade.specs.declared.session.Session.{Session}
use Rattle.gq_trade.specs.Numbers.{IsTaken}
use Rattle.gq_trade.proofs.Sessions_kept.{between_some}
use Rattle.gq_slots.specs.Slots.{Frame, IsSlotId, Slots, holder, memory_of, slot_of, content_at, world_seen}
use Rattle.gq_slots.proofs.Slot_change_worlds.{session_seen_at}
use Rattle.gq_slots.specs.Slot_addresses.{AreBuffers, behind_link, buffer_slot_id, extent_at, place_in, place_of, place_seen}

chosen : (b : Bool) (k : ℕ) → place_seen (cond b None (Some (InSession k 0))) ≡ cond b None (Some (world.In_session k 0))
chosen true k = refl
chosen false k = refl

-- the buffer of a session is the world's
buffer_there : (f : Frame) (system : System) (bs : List ℕ) (s : Slots) (k : ℕ) → IsTrading s.trades.trading → AreBuffers system f s bs
    → place_seen (buffer_slot_id bs s k) ≡ behind system (world.session_at (world_seen f s) k) k
buffer_there f system bs s k w a =
    by (get_or ss k None) refl ∙ sym (ap (λ o. behind system o k) (session_seen_at of ss k))
  where
    ss : List (Option Session)
    ss = s.trades.trading.sessions

    of : Session → world.Session
    of z = session_seen f.names (memory_of s z.server) z

    by : (o : Option Session) → get_or ss k None ≡ o → place_seen (behind_link bs o k) ≡ behind system (seen_in of o) k
    by None e = refl
    by (Some q) e =
        let b = between_some (length s.trades.trading.leaves) (length s.trades.trading.objects) ss k q w.between e in
        chosen (eqb (get_or bs q.service 0) 0) k ∙ ap (λ n. cond (eqb n 0) None (Some (world.In_session k 0))) (a q.service b.service)

-- the place of a slot's bytes is the world's
place_there : (f : Frame) (system : System) (bs : List ℕ) (s : Slots) (st : Store) (t : Content) (p : SlotId) → IsTrading s.trades.trading
    → AreBuffers system f s bs
    → place_seen (place_in bs s t p) ≡ bytes_slot_id system (world_seen f s) (Some (seen st t)) (slot_id_seen p)
place_there f system bs s st Empty p w a = refl
place_there f system bs s st (Block q n) p w a = refl
place_there f system bs s st (Slice k n) p w a = refl
place_there f system bs s st (Space k n) p w a = refl
place_there f system bs s st (Pool q) p w a = refl
place_there f system bs s st (Link k) p w a = buffer_there f system bs s k w a
place_there f system bs s st (Waiting k) p w a = refl

-- THE PLACE OF A SLOT'S BYTES, AS THE DEFINITIONS SAY

module _ (bs : List ℕ) (s : Slots) where
  -- the first slot of a session that is there is a slot
  first_slot : (o : Option Session) (k : ℕ) → get_or s.trades.trading.sessions k None ≡ o → IfSome (behind_link bs o k) (λ q. IsSlotId s q)
  first_slot None k e = tt
  first_slot (Some q) k e = chosen_slot (eqb (get_or bs q.service 0) 0)
    where
      taken : IsTaken s.trades.trading.sessions k
      taken = ap is_some e

      chosen_slot : (b : Bool) → IfSome (cond b None (Some (InSession k 0))) (λ q. IsSlotId s q)
      chosen_slot true = tt
      chosen_slot false = (taken, omega arith)

  -- it is a slot
  pub place_is : (t : Content) (p : SlotId) → IsSlotId s p → IfSome (place_in bs s t p) (λ q. IsSlotId s q)
  place_is Empty p i = i
  place_is (Block q n) p i = i
  place_is (Slice k n) p i = i
  place_is (Space k n) p i = i
  place_is (Pool q) p i = i
  place_is (Link k) p i = first_slot (get_or s.trades.trading.sessions k None) k refl
  place_is (Waiting k) p i = i

-- it is the machine's
pub place_read : (f : Frame) (system : System) (bs : List ℕ) (s : Slots) (p : SlotId) → IsTrading s.trades.trading
    → world.slot_at (world_seen f s) (slot_id_seen p) ≡ Some (slot_of s p) → AreBuffers system f s bs
    → place_seen (place_of bs s p) ≡ bytes_slot_id system (world_seen f s) (world.slot_at (world_seen f s) (slot_id_seen p)) (slot_id_seen p)
place_read f system bs s p w r a =
    place_there f system bs s (memory_of s (holder s p)) (content_at s p) p w a ∙ sym (ap (λ y. bytes_slot_id system (world_seen f s) y (slot_id_seen p)) r)

-- WHERE THE BYTES LIE

module _ (bs : List ℕ) (s : Slots) (t : Content) (p : SlotId) (e : t ≡ content_at s p) where
  -- unless it is a link, in the slot itself
  pub own_is : Some p ≡ place_in bs s t p → place_of bs s p ≡ Some p
  own_is f = ap (λ c. place_in bs s c p) (sym e) ∙ sym f

  pub own_extent : Some p ≡ place_in bs s t p → extent_of t ≡ extent_at s (place_of bs s p)
  own_extent f = ap extent_of e ∙ sym (ap (extent_at s) (own_is f))
