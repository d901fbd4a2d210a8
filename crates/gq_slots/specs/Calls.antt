-- What a call on a slot changes.
use Rattle.std.specs.Prelude.{◌≡◌, ℕ}
use Rattle.gq_model.specs.machine.World as world
use Rattle.gq_ram.specs.Account_table.{account_at}
use Rattle.gq_trade.specs.declared.session.SlotId.{SlotId}
use Rattle.gq_trade.specs.Seen_sessions.{slot_id_seen}
use Rattle.gq_trade.specs.Trading.{Trading}
use Rattle.gq_slots.specs.Slots.{Slots, Frame, IsSlotId, holder, settled_in, world_seen}

-- the tree with its quotas stays
pub record SameAccounts (w v : Trading) : Type 0 where
  pub tree : v.tree ≡ w.tree
  pub leaves : v.leaves ≡ w.leaves
  pub objects : v.objects ≡ w.objects
  pub room : v.room ≡ w.room
  pub requests : v.requests ≡ w.requests
  pub price : v.ledger.price ≡ w.ledger.price
  pub quota : (a : ℕ) → (account_at v.ledger.accounts a).quota ≡ (account_at w.ledger.accounts a).quota

pub record SameBeside (old new : Slots) : Type 0 where
  pub nodes : new.trades.nodes ≡ old.trades.nodes
  pub accounts : SameAccounts old.trades.trading new.trades.trading
  -- each slot stays, and is paid for by the same leaf
  pub slot_ids : (q : SlotId) → IsSlotId old q → IsSlotId new q
  pub holders : (q : SlotId) → holder new q ≡ holder old q

-- The slot holds this now, and all else of the machine's world is as before, whatever the leaves do.
pub record PutsSlot (old new : Slots) (p : SlotId) (slot : world.Slot) : Type 0 where
  pub seen_so : (f : Frame) → world_seen f new ≡ world.with_slot (world_seen f old) (slot_id_seen p) slot
  pub rest : SameBeside old new

-- The same, and the peaks of the leaf that pays are raised to what is in use then.
pub record Settles (old new : Slots) (p : SlotId) (slot : world.Slot) : Type 0 where
  pub seen_so : (f : Frame) → world_seen f new ≡ settled_in (holder old p) (world.with_slot (world_seen f old) (slot_id_seen p) slot)
  pub rest : SameBeside old new
