-- What is read of a machine's world, as its readers report it.
use Rattle.std.specs.Prelude.{◌≡◌, ℕ, suc, Bool, true, false, ◌<◌, ◌≤◌, ◌==◌, if◌then◌else◌, is_some, IsTrue, List, [], ◌∷◌, Option, Some, None, get_or}
use Rattle.std.specs.Prelude.{length, slice_get}
use Rattle.gq_model.specs.declared.section.Section.{Section}
use Rattle.gq_model.specs.declared.section.Section.TheVariants.{Main}
use Rattle.gq_model.specs.machine.Program.{body_of, section_in}
use Rattle.gq_model.specs.machine.Scenario.{Component, components}
use Rattle.gq_model.specs.machine.Step.{section_asked}
use Rattle.gq_model.specs.machine.World as world
use Rattle.gq_model.specs.machine.World.{section_of}
use Rattle.gq_trade.specs.declared.session.SlotId.{SlotId}
use Rattle.gq_trade.specs.declared.session.SlotId.TheVariants.{InLeaf, InSession, InObject}
use Rattle.gq_trade.specs.Seen_sessions.{slot_id_seen}
use Rattle.gq_bytecode.specs.Cores.{Core}
use Rattle.gq_bytecode.specs.Nexts.{state_in}
use Rattle.gq_bytecode.specs.Views.{state_of}
pub use Rattle.gq_leaf.specs.Leaf_states.{body_in}
use Rattle.gq_prepared.specs.Prepared.{names_of}
use Rattle.gq_machine.specs.Machines.{Machine}
use Rattle.gq_machine.specs.declared.world_reads.Asked.{Asked}
use Rattle.gq_machine.specs.declared.world_reads.Holding.{Holding}
use Rattle.gq_machine.specs.declared.world_reads.Holding.TheVariants as holding
use Rattle.gq_machine.specs.declared.world_reads.SessionState.{SessionState}

-- REQUESTS

abbrev pub level_in : Option world.Session → ℕ
level_in None = 0
level_in (Some s) = s.level

-- the section that a request starts
abbrev pub requested : world.World → world.Request → Section
requested w r = section_asked r.ask (level_in (world.session_at w r.session))

-- a request, as it is reported
abbrev pub asked_in : world.World → world.Request → Asked
asked_in w r = record { session = r.session; section = requested w r }

-- the first request of a session among these
abbrev pub request_of : ℕ → List world.Request → Option world.Request
request_of k [] = None
request_of k (r ∷ rest) = if r.session == k then Some r else request_of k rest

-- SESSIONS

-- it reports of the k-th session, which is there; of its service by the number of its interface
pub record IsReportedOf (m : Machine) (k : ℕ) (reported : SessionState) : Type 0 where
  pub session : world.Session
  pub there : world.session_at m.world k ≡ Some session
  pub client : reported.client ≡ session.client
  pub server : reported.server ≡ session.server
  pub service : get_or (names_of m.scenario) reported.service [] ≡ session.service
  pub level : reported.level ≡ session.level
  pub donation : reported.donation ≡ record { ram = session.donation.ram; caps = session.donation.caps }
  pub accepted : reported.accepted ≡ session.accepted
  -- client and server are leaves, and the service is one of those that there are
  pub client_there : reported.client < length (components m.scenario)
  pub server_there : reported.server < length (components m.scenario)
  pub service_there : reported.service < length m.scenario.interfaces
  -- a level has one figure
  pub level_low : reported.level ≤ 3

-- SLOTS

-- it is a slot of a leaf, or one of a session that is there
abbrev pub HasSlotId : Machine → SlotId → Type 0
HasSlotId m (InLeaf x i) = (x < length (components m.scenario)) × (i < 64)
HasSlotId m (InSession k i) = IsTrue (is_some (world.session_at m.world k)) × (i < 8)
HasSlotId m (InObject k) = IsTrue (is_some (world.session_at m.world k))

-- what a slot holds, without its bytes; a link and a mark that a reply is awaited name their session
abbrev pub holding_of : world.Slot → Holding
holding_of world.Empty = holding.Nothing
holding_of (world.Bytes form n bytes) = holding.Bytes form n
holding_of (world.Pool n entries) = holding.Pool n (length entries)
holding_of (world.Link k) = holding.Session k
holding_of (world.Waiting k) = holding.Session k

-- it marks that a reply is awaited
abbrev pub awaits : world.Slot → Bool
awaits world.Empty = false
awaits (world.Bytes form n bytes) = false
awaits (world.Pool n entries) = false
awaits (world.Link k) = false
awaits (world.Waiting k) = true

-- LEAVES

-- a leaf has left to do what stands at the place of these registers in its section, and has their operands, locals and inputs
abbrev pub StandsAt : Component → world.Leaf → Core → Type 0
StandsAt c l core = state_in l ≡ state_of (body_in l.phase (body_of (section_in (section_of l.current l.reacting) c.node.program.sections))) core l.steps

-- BYTES

-- how many bytes of memory the slot has
abbrev pub byte_count : Option world.Slot → ℕ
byte_count (Some (world.Bytes form n bytes)) = length bytes
byte_count _ = 0

-- a byte of memory in a slot, where there is one
abbrev pub byte_at : ℕ → Option world.Slot → Option ℕ
byte_at i (Some (world.Bytes form n bytes)) = slice_get bytes i
byte_at i _ = None

-- the slot has so many entries
abbrev pub entry_count : Option world.Slot → ℕ
entry_count (Some (world.Pool n entries)) = length entries
entry_count _ = 0

-- of so many bytes each
abbrev pub entry_size : Option world.Slot → ℕ
entry_size (Some (world.Pool n entries)) = n
entry_size _ = 0

-- an entry of a pool in a slot, where it is there
abbrev pub entry_at : ℕ → Option world.Slot → Option (List ℕ)
entry_at i (Some (world.Pool n entries)) = get_or entries i None
entry_at i _ = None

abbrev pub HasByte : Machine → SlotId → ℕ → Type 0
HasByte m slot_id i = i < byte_count (world.slot_at m.world (slot_id_seen slot_id))

abbrev pub HasEntry : Machine → SlotId → ℕ → Type 0
HasEntry m slot_id i = i < entry_count (world.slot_at m.world (slot_id_seen slot_id))

abbrev pub HasEntryByte : Machine → SlotId → ℕ → ℕ → Type 0
HasEntryByte m slot_id i k = (i < entry_count (world.slot_at m.world (slot_id_seen slot_id))) × (k < entry_size (world.slot_at m.world (slot_id_seen slot_id)))
