-- What a world has, with other numbers of sessions.
use Rattle.std.specs.Prelude.{ℕ, map, option_map}
use Rattle.gq_model.specs.machine.World.{Slot, Empty, Bytes, Pool, Link, Waiting, SlotId, In_leaf, In_session, In_object, Session, Request, Current, Leaf}

abbrev pub renamed_slot : (ℕ → ℕ) → Slot → Slot
renamed_slot f Empty = Empty
renamed_slot f (Bytes form n bytes) = Bytes form n bytes
renamed_slot f (Pool n entries) = Pool n entries
renamed_slot f (Link k) = Link (f k)
renamed_slot f (Waiting k) = Waiting (f k)

abbrev pub renamed_slot_id : (ℕ → ℕ) → SlotId → SlotId
renamed_slot_id f (In_leaf x i) = In_leaf x i
renamed_slot_id f (In_session k i) = In_session (f k) i
renamed_slot_id f (In_object k) = In_object (f k)

abbrev pub renamed_current : (ℕ → ℕ) → Current → Current
renamed_current f current = record { session = f current.session; section = current.section }

abbrev pub renamed_leaf : (ℕ → ℕ) → Leaf → Leaf
renamed_leaf f leaf = record leaf { current = option_map (renamed_current f) leaf.current; slots = map (renamed_slot f) leaf.slots }

abbrev pub renamed_session : (ℕ → ℕ) → Session → Session
renamed_session f s =
    record s { slot_id = renamed_slot_id f s.slot_id; object = renamed_slot f s.object; slots = map (renamed_slot f) s.slots }

abbrev pub renamed_request : (ℕ → ℕ) → Request → Request
renamed_request f r = record { session = f r.session; ask = r.ask }
