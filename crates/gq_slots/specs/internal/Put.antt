-- Another content in a slot, and another ledger and heap.
use Rattle.gq_ram.specs.Ledgers.{Ledger}
use Rattle.std.specs.Prelude.{ℕ, List, [], Option, None, Some, get_or, slice_get, slice_set}
use Rattle.gq_model.specs.machine.World as world
use Rattle.gq_heap.specs.declared.heap.Heap.{Heap}
use Rattle.gq_contents.specs.declared.content.Content.{Content}
use Rattle.gq_trade.specs.declared.session.Session.{Session}
use Rattle.gq_trade.specs.declared.session.SlotId.{SlotId}
use Rattle.gq_trade.specs.declared.session.SlotId.TheVariants.{InLeaf, InSession, InObject}
use Rattle.gq_trade.specs.Trading.{Trading, session_at, with_ledger, with_session, with_slot}
use Rattle.gq_trade.specs.Trades.{with_trading}
use Rattle.gq_slots.specs.Slots.{Slots}

-- a session with another object
abbrev pub with_object : Session → Content → Session
with_object s t = record {
  client = s.client;
  slot_id = s.slot_id;
  server = s.server;
  service = s.service;
  level = s.level;
  donation = s.donation;
  accepted = s.accepted;
  object = t;
  slots = s.slots;
}

abbrev pub put_trading : Trading → SlotId → Content → Trading
put_trading w (InLeaf x i) t = w
put_trading w (InSession k i) t = with_session w k (with_slot (session_at w k) i t)
put_trading w (InObject k) t = with_session w k (with_object (session_at w k) t)

abbrev pub put_own : List (List Content) → SlotId → Content → List (List Content)
put_own own (InLeaf x i) t = slice_set own x (slice_set (get_or own x []) i t)
put_own own (InSession k i) t = own
put_own own (InObject k) t = own

abbrev pub put : Slots → SlotId → Content → Slots
put s p t = record { trades = with_trading s.trades (put_trading s.trades.trading p t); own = put_own s.own p t; heaps = s.heaps }

-- another ledger, and another heap of the leaf x
abbrev pub with_store : Slots → Ledger → ℕ → Heap → Slots
with_store s m x h = record { trades = with_trading s.trades (with_ledger s.trades.trading m); own = s.own; heaps = slice_set s.heaps x h }

-- a world with these peaks of the leaf x
abbrev pub peaks_in : world.World → ℕ → List ℕ → Option world.Leaf → world.World
peaks_in w x ps None = w
peaks_in w x ps (Some leaf) = world.with_leaf w x (record leaf { peaks = ps })

abbrev pub with_peaks_at : ℕ → List ℕ → world.World → world.World
with_peaks_at x ps w = peaks_in w x ps (slice_get w.leaves x)
