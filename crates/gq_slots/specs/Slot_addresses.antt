-- Where the bytes of a slot stand.
use Rattle.std.specs.Prelude.{◌≡◌, ℕ, ◌<◌, ◌==◌, if◌then◌else◌, List, [], get_or, length, Option, Some, None}
use Rattle.gq_model.specs.machine.Scenario.{System}
use Rattle.gq_model.specs.machine.Memory.{buffer_of}
use Rattle.gq_model.specs.machine.World as world
use Rattle.gq_store.specs.declared.extent.Extent.{Extent}
use Rattle.gq_contents.specs.declared.content.Content.{Content}
use Rattle.gq_contents.specs.declared.content.Content.TheVariants.{Empty, Block, Slice, Space, Pool, Link, Waiting}
use Rattle.gq_contents.specs.Contents.{extent_of}
use Rattle.gq_trade.specs.declared.session.Session.{Session}
use Rattle.gq_trade.specs.declared.session.SlotId.{SlotId}
use Rattle.gq_trade.specs.declared.session.SlotId.TheVariants.{InSession}
use Rattle.gq_trade.specs.Seen_sessions.{slot_id_seen}
use Rattle.gq_trade.specs.Trading.{session_at}
use Rattle.gq_slots.specs.Slots.{Frame, Slots, content_at}

-- these are the bytes of the buffers that the services share, by their numbers
abbrev pub AreBuffers : System → Frame → Slots → List ℕ → Type 0
AreBuffers system f s bs = (i : ℕ) → i < length s.trades.trading.objects → get_or bs i 0 ≡ buffer_of system (get_or f.names i [])

-- the first slot of a session that is there, if its service shares a buffer
abbrev pub behind_link : List ℕ → Option Session → ℕ → Option SlotId
behind_link bs None k = None
behind_link bs (Some q) k = if get_or bs q.service 0 == 0 then None else Some (InSession k 0)

abbrev pub buffer_slot_id : List ℕ → Slots → ℕ → Option SlotId
buffer_slot_id bs s k = behind_link bs (get_or s.trades.trading.sessions k None) k

-- the bytes of a link stand in the buffer of its session, all others in the slot itself
abbrev pub place_in : List ℕ → Slots → Content → SlotId → Option SlotId
place_in bs s Empty p = Some p
place_in bs s (Block q n) p = Some p
place_in bs s (Slice k n) p = Some p
place_in bs s (Space k n) p = Some p
place_in bs s (Pool q) p = Some p
place_in bs s (Link k) p = buffer_slot_id bs s k
place_in bs s (Waiting k) p = Some p

-- nothing lies behind a link to a session that is gone or has no buffer
abbrev pub place_of : List ℕ → Slots → SlotId → Option SlotId
place_of bs s p = place_in bs s (content_at s p) p

-- where the bytes lie that stand at a place
abbrev pub extent_at : Slots → Option SlotId → Option Extent
extent_at s None = None
extent_at s (Some p) = extent_of (content_at s p)

abbrev pub place_seen : Option SlotId → Option world.SlotId
place_seen None = None
place_seen (Some p) = Some (slot_id_seen p)

-- the slot of its client that a session was asked for
abbrev pub slot_for : Slots → ℕ → SlotId
slot_for s k = (session_at s.trades.trading k).slot_id
