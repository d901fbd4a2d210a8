-- Slots that are reported one after the other.
use Rattle.std.proofs.Common.{◌≡◌, ◌∙◌, ◌<◌, ◌≤◌, ◌+◌, ℕ, suc, Bool, List, ◌++◌, length, drop, Option, Some, None, IfSome, refl, ap, sym, subst}
use Rattle.std.proofs.Common.{arith}
use Rattle.std.proofs.Common.{is_some}
use Rattle.std.specs.Prelude.{option_map, slice_get, IsTrue}
use Rattle.gq_model.specs.declared.program.OperandSlot.TheVariants.{Object, Shared}
use Rattle.gq_model.specs.machine.Scenario.{system}
use Rattle.gq_model.specs.machine.World.{Leaf, Session, Slot, World, leaf_slot, session_at, session_object, session_slot, slot_at}
use Rattle.gq_model.proofs.Small_facts.{none_some, some_same}
use Rattle.gq_output.specs.declared.counted.Counted.{Counted}
use Rattle.gq_machine.specs.Machines.{Machine}
use Rattle.gq_machine.specs.Readers.{HasSlotId}
use Rattle.gq_trade.specs.Seen_sessions.{slot_id_seen}
use Rattle.gq_traces.specs.Account_state.{bank_items, items_text, slot_items, slots_items}
use Rattle.gq_traces.specs.internal.Slot_items.{HasBank, Prints_items, bank_place, bank_size, bank_slots, bank_slot_id}
use Rattle.gq_traces.specs.declared.items.SlotRow.{SlotRow}
use Rattle.gq_traces.specs.declared.items.SlotRow.TheVariants.{OfLeaf, OfSession}
use Rattle.gq_traces.proofs.Sequential_text_writes.{goes_both, goes_text}
use Rattle.gq_traces.proofs.Printed_items.{items_both}
use Rattle.gq_traces.proofs.So_far.{So_far, next_one, none_left, reported_end, printed_first, printed_next}

pub has_slot_id : (m : Machine) (bank : SlotRow) (i : ℕ) → HasBank m bank → i < bank_size bank → HasSlotId m (bank_slot_id bank i)
has_slot_id m (OfLeaf x) i h less = (h.within, less)
has_slot_id m (OfSession k) i h less = (by (session_at m.world k) h.there, less)
  where
    by : (o : Option Session) → option_map (λ s. s.slots) o ≡ Some h.slots → IsTrue (is_some o)
    by None e = absurd (none_some e)
    by (Some s) e = refl

pub slot_here : (w : World) (bank : SlotRow) (i : ℕ) (slots : List Slot) → bank_slots w bank ≡ Some slots
    → slot_at w (slot_id_seen (bank_slot_id bank i)) ≡ slice_get slots i
slot_here w (OfLeaf x) i slots e = by (slice_get w.leaves x) e
  where
    by : (o : Option Leaf) → option_map (λ l. l.slots) o ≡ Some slots → leaf_slot o i ≡ slice_get slots i
    by None e = absurd (none_some e)
    by (Some l) e = ap (λ t. slice_get t i) (some_same e)
slot_here w (OfSession k) i slots e = by (session_at w k) e
  where
    by : (o : Option Session) → option_map (λ s. s.slots) o ≡ Some slots → session_slot o i ≡ slice_get slots i
    by None e = absurd (none_some e)
    by (Some s) e = ap (λ t. slice_get t i) (some_same e)

module _ {W : Type 0} (contents : W → Option (List ℕ)) (m : Machine) (bank : SlotRow) where
  abbrev rest_of : ℕ → List Slot → List ℕ
  rest_of i slots = items_text m.scenario.version (slots_items (system m.scenario) m.world (bank_place bank) i slots)

  -- the slots so far were reported
  abbrev pub Slots_so_far : Counted W → Counted W → Bool → Bool → ℕ → Type 0
  Slots_so_far old new was now i = (slots : List Slot) → bank_slots m.world bank ≡ Some slots
      → So_far contents old new was now (items_text m.scenario.version (slots_items (system m.scenario) m.world (bank_place bank) i (drop i slots)))
      (items_text m.scenario.version (slots_items (system m.scenario) m.world (bank_place bank) 0 slots))

  pub slots_first : (out : Counted W) (was : Bool) → Slots_so_far out out was was 0
  slots_first out was slots there = printed_first contents out was (rest_of 0 slots)

  pub slots_next : (a b c : Counted W) (x y z : Bool) (i : ℕ) → HasBank m bank → i < bank_size bank → Slots_so_far a b x y i
      → IfSome (slot_at m.world (slot_id_seen (bank_slot_id bank i)))
      (λ slot. Prints_items contents b c y z m (slot_items (system m.scenario) m.world (bank_place bank i) slot))
      → Slots_so_far a c x z (i + 1)
  slots_next a b c x y z i h less so_far reported slots there =
      let same = some_same (sym h.there ∙ there) in
      let long = ap length (sym same) ∙ h.long in
      let n = next_one slots i (omega (arith, long, less)) in
      let one : suc i ≡ i + 1 = omega arith in
      let here = slot_items (system m.scenario) m.world (bank_place bank i) n.here in
      let piece = subst (λ (o : Option Slot). IfSome o
      (λ slot. Prints_items contents b c y z m (slot_items (system m.scenario) m.world (bank_place bank i) slot)))
      (slot_here m.world bank i slots there ∙ n.is) reported in
      printed_next contents a b c x y z (items_text m.scenario.version here) (rest_of (i + 1) (drop (i + 1) slots)) (rest_of i (drop i slots)) (rest_of 0 slots)
      (ap (rest_of i) n.next
      ∙ (sym (items_both m.scenario.version here (slots_items (system m.scenario) m.world (bank_place bank) (suc i) (drop (i + 1) slots)))
      ∙ ap (λ j. items_text m.scenario.version here ++ rest_of j (drop (i + 1) slots)) one))
      (so_far slots there) piece

  pub slots_end : (a b : Counted W) (x y : Bool) (i : ℕ) → HasBank m bank → bank_size bank ≤ i → Slots_so_far a b x y i
      → IfSome (bank_slots m.world bank)
      (λ slots. Prints_items contents a b x y m (slots_items (system m.scenario) m.world (bank_place bank) 0 slots))
  slots_end a b x y i h least so_far =
      let long = h.long in
      subst (λ (o : Option (List Slot)). IfSome o
      (λ slots. Prints_items contents a b x y m (slots_items (system m.scenario) m.world (bank_place bank) 0 slots))) (sym h.there)
      (reported_end contents a b x y (rest_of i (drop i h.slots)) (rest_of 0 h.slots) (ap (rest_of i) (none_left h.slots i (omega (arith, long, least))))
      (so_far h.slots h.there))

-- a session's object and slots
pub bank_printed : {W : Type 0} (contents : W → Option (List ℕ)) (m : Machine) (k : ℕ) (a b c : Counted W) (x y z : Bool)
    → IfSome (session_object (session_at m.world k)) (λ slot. Prints_items contents a b x y m (slot_items (system m.scenario) m.world Object slot))
    → IfSome (option_map (λ s. s.slots) (session_at m.world k))
    (λ slots. Prints_items contents b c y z m (slots_items (system m.scenario) m.world Shared 0 slots))
    → IfSome (session_at m.world k) (λ s. Prints_items contents a c x z m (bank_items (system m.scenario) m.world s))
bank_printed contents m k a b c x y z object slots = by (session_at m.world k) object slots
  where
    by : (o : Option Session) → IfSome (session_object o) (λ slot. Prints_items contents a b x y m (slot_items (system m.scenario) m.world Object slot))
        → IfSome (option_map (λ s. s.slots) o) (λ slots. Prints_items contents b c y z m (slots_items (system m.scenario) m.world Shared 0 slots))
        → IfSome o (λ s. Prints_items contents a c x z m (bank_items (system m.scenario) m.world s))
    by None g h = tt
    by (Some s) g h =
        goes_text contents a c x z _ _
        (items_both m.scenario.version (slot_items (system m.scenario) m.world Object s.object) (slots_items (system m.scenario) m.world Shared 0 s.slots))
        (goes_both contents a b c x y z _ _ g h)
