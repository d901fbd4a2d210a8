-- The parts of a machine's world of which the code puts together a key.
use Rattle.std.specs.Prelude.{ℕ, Bool, true, false, List, [], ◌∷◌, ◌++◌, get_or, Option, Some, None, option_map, slice_index}
use Rattle.gq_model.specs.machine.World.{Slot, Empty, Bytes, Pool, Link, Waiting, Session, Leaf, World, session_at, slot_at}
use Rattle.gq_model.specs.declared.phase.Phase.{Phase}
use Rattle.gq_model.specs.declared.phase.Phase.TheVariants.{Pending, Running, Blocked, Serving, Handling, Exited}
use Rattle.gq_heap.specs.Classes.{index_of}
use Rattle.gq_tariff.specs.declared.class.Class.{Class}
use Rattle.gq_laws.specs.Renamed.{renamed_leaf, renamed_request, renamed_session, renamed_slot, renamed_slot_id}
use Rattle.gq_trade.specs.Seen_requests.{request_seen}
use Rattle.gq_trade.specs.Seen_sessions.{slot_id_seen}
use Rattle.gq_trade.specs.declared.requests.Request.{Request}
use Rattle.gq_trade.specs.declared.session.SlotId.{SlotId}
use Rattle.gq_machine.specs.Machine_world.{no_leaf}
use Rattle.gq_machine.specs.Machines.{Machine}
use Rattle.gq_machine.specs.declared.world_reads.SessionState.{SessionState}
use Rattle.gq_outcomes.specs.Same.{place_of}
use Rattle.gq_outcomes.specs.internal.Keys.{current_key, flag, left_key, leaf_key, number_key, option_key, phase_tag, request_key, session_key}
use Rattle.gq_outcomes.specs.internal.Keys.{signals_key, slot_id_key, slot_key, text_key}

-- the place of a session in an order
abbrev pub place_in : List ℕ → ℕ → ℕ
place_in order k = place_of k order

-- SLOTS

-- a slot that is not there is empty
abbrev pub slot_or_empty : Option Slot → Slot
slot_or_empty None = Empty
slot_or_empty (Some slot) = slot

abbrev pub slot_in : Machine → SlotId → Slot
slot_in m slot_id = slot_or_empty (slot_at m.world (slot_id_seen slot_id))

-- the bytes of memory in a slot
abbrev pub memory_in : Slot → List ℕ
memory_in Empty = []
memory_in (Bytes form n bytes) = bytes
memory_in (Pool n entries) = []
memory_in (Link k) = []
memory_in (Waiting k) = []

-- the entries of a pool in a slot
abbrev pub entries_in : Slot → List (Option (List ℕ))
entries_in Empty = []
entries_in (Bytes form n bytes) = []
entries_in (Pool n entries) = entries
entries_in (Link k) = []
entries_in (Waiting k) = []

-- the bytes of an entry
abbrev pub entry_bytes : Option (List ℕ) → List ℕ
entry_bytes None = []
entry_bytes (Some bytes) = bytes

-- a slot in which a session goes by its place in an order
abbrev pub kept_slot_key : List ℕ → Slot → List ℕ
kept_slot_key order slot = slot_key (renamed_slot (place_in order) slot)

-- LEAVES

abbrev pub leaf_at : World → ℕ → Leaf
leaf_at w x = get_or w.leaves x no_leaf

-- a leaf but for its slots
abbrev pub leaf_head_key : Leaf → List ℕ
leaf_head_key leaf =
    phase_tag leaf.phase
    ∷ (option_key current_key leaf.current
    ++ (left_key leaf.todo leaf.loops
    ++ (text_key leaf.operands
    ++ (text_key leaf.locals
    ++ (text_key leaf.peaks ++ (number_key leaf.steps ++ (text_key leaf.inputs ++ signals_key leaf.reacting leaf.signals)))))))

-- a leaf in which sessions go by their places in an order
abbrev pub kept_head_key : List ℕ → Leaf → List ℕ
kept_head_key order leaf = leaf_head_key (renamed_leaf (place_in order) leaf)

abbrev pub kept_leaf_key : List ℕ → Leaf → List ℕ
kept_leaf_key order leaf = leaf_key (renamed_leaf (place_in order) leaf)

-- a leaf has nothing left to do in this phase
abbrev pub rests : Phase → Bool
rests Pending = false
rests Running = false
rests Blocked = false
rests Serving = true
rests Handling = false
rests Exited = true

-- the peak of a class
abbrev pub peak_key : List ℕ → Class → List ℕ
peak_key peaks class = number_key (slice_index peaks (index_of class))

-- SESSIONS

-- a session but for its object and its slots
abbrev pub session_head_key : Session → List ℕ
session_head_key s =
    number_key s.client
    ++ (slot_id_key s.slot_id
    ++ (number_key s.server
    ++ (text_key s.service ++ (number_key s.level ++ (number_key s.donation.ram ++ (number_key s.donation.caps ++ flag s.accepted ∷ []))))))

-- the same of a session that is reported, with the names of services by their numbers
abbrev pub state_key : List ℕ → List (List ℕ) → SessionState → SlotId → List ℕ
state_key order names s slot_id =
    number_key s.client
    ++ (slot_id_key (renamed_slot_id (place_in order) (slot_id_seen slot_id))
    ++ (number_key s.server
    ++ (text_key (get_or names s.service [])
    ++ (number_key s.level ++ (number_key s.donation.ram ++ (number_key s.donation.caps ++ flag s.accepted ∷ []))))))

-- the session of this number, if it is there
abbrev pub numbered_key : World → List ℕ → ℕ → List ℕ
numbered_key w order k = option_key session_key (option_map (renamed_session (place_in order)) (session_at w k))

-- REQUESTS

abbrev pub kept_request_key : List ℕ → Request → List ℕ
kept_request_key order r = request_key (renamed_request (place_in order) (request_seen r))
