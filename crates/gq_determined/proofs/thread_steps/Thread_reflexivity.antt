-- A thread has the same in a world and in that world itself.
use Rattle.std.proofs.Common.{◌≡◌, ℕ, List, [], ◌∷◌, map, Option, Some, None, refl, ap, sym, ◌∙◌}
use Rattle.std.specs.Prelude.{option_map, slice_get}
use Rattle.gq_model.specs.machine.World.{Slot, Empty, Bytes, Pool, Link, Waiting, SlotId, In_leaf, In_session, In_object, Session, Request, Current, Leaf}
use Rattle.gq_model.specs.machine.World.{World}
use Rattle.gq_laws.specs.Renamed.{renamed_slot, renamed_slot_id, renamed_current, renamed_leaf, renamed_session, renamed_request}
use Rattle.gq_determined.specs.internal.Threads.{Tracked, slots_of, seen, among, IsAtSame, IsSameRegion, IsSameThread}

abbrev pub same : ℕ → ℕ
same k = k

pub slot_itself : (slot : Slot) → renamed_slot same slot ≡ slot
slot_itself Empty = refl
slot_itself (Bytes form n bytes) = refl
slot_itself (Pool n entries) = refl
slot_itself (Link k) = refl
slot_itself (Waiting k) = refl

pub slots_itself : (slots : List Slot) → map (renamed_slot same) slots ≡ slots
slots_itself [] = refl
slots_itself (slot ∷ slots) = λ e. slot_itself slot e ∷ slots_itself slots e

pub slot_id_itself : (q : SlotId) → renamed_slot_id same q ≡ q
slot_id_itself (In_leaf x i) = refl
slot_id_itself (In_session k i) = refl
slot_id_itself (In_object k) = refl

pub current_itself : (current : Option Current) → option_map (renamed_current same) current ≡ current
current_itself None = refl
current_itself (Some h) = refl

pub session_itself : (s : Session) → renamed_session same s ≡ s
session_itself s = λ e. record s { slot_id = slot_id_itself s.slot_id e; object = slot_itself s.object e; slots = slots_itself s.slots e }

requests_itself : (rs : List Request) → map (renamed_request same) rs ≡ rs
requests_itself [] = refl
requests_itself (r ∷ rs) = ap (λ l. r ∷ l) (requests_itself rs)

pub leaf_itself : (leaf : Leaf) → renamed_leaf same leaf ≡ leaf
leaf_itself leaf = λ e. record leaf { current = current_itself leaf.current e; slots = slots_itself leaf.slots e }

at_itself : (y : ℕ) (w : World) → IsAtSame same y w w
at_itself y w = by (slice_get w.leaves y)
  where
    by : (o : Option Leaf) → option_map seen o ≡ option_map (λ l. renamed_leaf same (seen l)) o
    by None = refl
    by (Some l) = ap Some (sym (leaf_itself (seen l)))

region_itself : (own root : ℕ → ℕ) (i : ℕ) (w : World) → IsSameRegion same own root root i w w
region_itself own root i w = record {
  slots = λ y is. by (slice_get w.leaves y);
  sessions = record {
    there = λ k s e. e ∙ ap Some (sym (session_itself s));
    back = λ m s e. (m, s, e, refl);
    single = λ j k s t e q r. r;
  };
  requests = sym (requests_itself (among root i w.requests));
}
  where
    by : (o : Option Leaf) → option_map slots_of o ≡ option_map (λ l. map (renamed_slot same) (slots_of l)) o
    by None = refl
    by (Some l) = ap Some (sym (slots_itself l.slots))

pub thread_itself : (i : ℕ) (g : Tracked) → IsSameThread i g g
thread_itself i g =
    record {
      f = same;
      owned = λ y. refl;
      leaves = λ y. refl;
      alike = λ y is. at_itself y g.world;
      region = region_itself g.own g.root i g.world;
      wrote = λ y is. refl;
    }
