-- What is read of slots and sessions, as items.
use Rattle.std.specs.Prelude.{◌≡◌, ◌<◌, ℕ, Bool, List, [], ◌∷◌, ◌++◌, Option, Some, decimal, codes, length, slice_get, option_map}
use Rattle.gq_model.specs.declared.program.OperandSlot.{OperandSlot}
use Rattle.gq_model.specs.declared.program.OperandSlot.TheVariants.{Own, Shared}
use Rattle.gq_model.specs.machine.Resource_prices.{price_pool}
use Rattle.gq_model.specs.machine.Scenario.{System, components, system}
use Rattle.gq_model.specs.machine.World.{Slot, Bytes, World, session_at}
use Rattle.gq_model.specs.machine.Sections.{section_word}
use Rattle.gq_laws.specs.Stands.{Stands}
use Rattle.gq_output.specs.declared.counted.Counted.{Counted}
use Rattle.gq_machine.specs.Machines.{Machine}
use Rattle.gq_machine.specs.declared.world_reads.Holding.{Holding}
use Rattle.gq_machine.specs.declared.world_reads.Holding.TheVariants as holding
use Rattle.gq_trade.specs.declared.session.SlotId.{SlotId}
use Rattle.gq_trade.specs.declared.session.SlotId.TheVariants.{InLeaf, InSession}
use Rattle.gq_views.specs.Listing.{place_text}
use Rattle.gq_traces.specs.Account_state.{Held, Item, item, amount_by, depth_of, form_text, items_text, lent_items, price}
use Rattle.gq_traces.specs.internal.Printed_steps.{Goes}
use Rattle.gq_traces.specs.declared.tracker.Due.{Due}
use Rattle.gq_traces.specs.declared.items.SlotRow.{SlotRow}
use Rattle.gq_traces.specs.declared.items.SlotRow.TheVariants.{OfLeaf, OfSession}

-- what a slot holds or lends, by what is read of it
abbrev pub holding_items : System → World → OperandSlot → Holding → List Item
holding_items system w place holding.Nothing = []
holding_items system w place (holding.Bytes form n) =
    item (depth_of place) Held (price (Bytes form n [])) (codes ": " ++ place_text place ++ form_text form ++ decimal n) ∷ []
holding_items system w place (holding.Pool n count) =
    item (depth_of place) Held (amount_by (λ r. price_pool r count)) (codes ": " ++ place_text place ++ codes " pool " ++ decimal n ++ codes " " ++ decimal
    count) ∷ []
holding_items system w place (holding.Session k) = lent_items system w place k (session_at w k)

-- items were reported
abbrev pub Prints_items : {W : Type 0} → (W → Option (List ℕ)) → Counted W → Counted W → Bool → Bool → Machine → List Item → Type 0
Prints_items contents old new was now m items = Goes contents old new was now (items_text m.scenario.version items)

-- BANKS

abbrev pub bank_place : SlotRow → ℕ → OperandSlot
bank_place (OfLeaf x) = Own
bank_place (OfSession k) = Shared

abbrev pub bank_slot_id : SlotRow → ℕ → SlotId
bank_slot_id (OfLeaf x) i = InLeaf x i
bank_slot_id (OfSession k) i = InSession k i

abbrev pub bank_size : SlotRow → ℕ
bank_size (OfLeaf x) = 64
bank_size (OfSession k) = 8

abbrev pub bank_slots : World → SlotRow → Option (List Slot)
bank_slots w (OfLeaf x) = option_map (λ l. l.slots) (slice_get w.leaves x)
bank_slots w (OfSession k) = option_map (λ s. s.slots) (session_at w k)

abbrev pub IsBankOf : ℕ → SlotRow → Type 0
IsBankOf n (OfLeaf x) = x < n
IsBankOf n (OfSession k) = Unit {0}

-- these are its slots
pub record HasBank (m : Machine) (bank : SlotRow) : Type 0 where
  pub slots : List Slot
  pub there : bank_slots m.world bank ≡ Some slots
  pub long : length slots ≡ bank_size bank
  pub within : IsBankOf (length (components m.scenario)) bank

-- its world is one of those that a sound scenario comes to
abbrev pub IsStanding : Machine → Type 0
IsStanding m = ∥ Stands m.scenario m.world ∥₁

-- the line of the place of a next step, up to its statement
abbrev pub next_prefix : Due → List ℕ
next_prefix d = codes "  next: " ++ section_word d.section ++ codes " at " ++ decimal d.number
