-- What is read of a machine's slots and sessions, as parts of a key.
use Rattle.std.proofs.Common.{◌≡◌, ℕ, zero, suc, ◌<◌, Bool, List, [], ◌∷◌, ◌++◌, length, get_or, Option, Some, None, is_some}
use Rattle.std.proofs.Common.{refl, ap, sym, ◌∙◌, arith}
use Rattle.std.specs.Prelude.{if◌then◌else◌, IfSome, IsTrue, option_map, slice_get, slice_index}
use Rattle.std.specs.Coded.{Coded-set, coded_ℕ}
use Rattle.std.proofs.Math.Logic.{∥∥₁_elim}
use Rattle.gq_model.specs.declared.program.Form.{Form}
use Rattle.gq_model.specs.machine.Memory.{entry_byte}
use Rattle.gq_bytecode.specs.Cores.{Core}
use Rattle.gq_model.specs.machine.Scenario.{Component, components}
use Rattle.gq_model.specs.machine.World.{Slot, Empty, Bytes, Pool, Link, Waiting, Session, Leaf, session_at}
use Rattle.gq_model.proofs.Small_facts.{get_within, none_some, some_same}
use Rattle.gq_laws.specs.Shapes.{IsWholeLeaf}
use Rattle.gq_laws.specs.Renamed.{renamed_session, renamed_slot_id}
use Rattle.gq_prepared.specs.Prepared.{names_of}
use Rattle.gq_trade.specs.Seen_sessions.{slot_id_seen}
use Rattle.gq_trade.specs.declared.session.SlotId.{SlotId}
use Rattle.gq_machine.specs.Machines.{Machine}
use Rattle.gq_machine.specs.Readers.{IsReportedOf, StandsAt, awaits, byte_at, byte_count, entry_at, entry_count, entry_size, holding_of}
use Rattle.gq_machine.specs.declared.world_reads.Holding.{Holding}
use Rattle.gq_machine.specs.declared.world_reads.Holding.TheVariants as holding
use Rattle.gq_machine.specs.declared.world_reads.SessionState.{SessionState}
use Rattle.gq_outcomes.specs.Same.{named_in, place_of, session_slots}
use Rattle.gq_outcomes.specs.internal.Choosing.{IsSoundMachine}
use Rattle.gq_outcomes.specs.internal.Keys.{bytes_key, flag, form_tag, list_key, number_key, option_key, slot_id_key, text_key}
use Rattle.gq_outcomes.specs.internal.Key_parts.{entries_in, entry_bytes, kept_slot_key, leaf_at, memory_in, place_in, session_head_key}
use Rattle.gq_outcomes.specs.internal.Key_parts.{slot_or_empty, state_key}
use Rattle.gq_outcomes.proofs.Choosing_facts.{bank_count, each_at, leaves_count, own_count}
use Rattle.gq_outcomes.proofs.Kept_parts.{leaf_has, leaf_is}

-- SLOTS

-- what a slot holds decides of its key
module _ (order : List ℕ) where
  pub nothing_key : (o : Option Slot) → option_map holding_of o ≡ Some holding.Nothing → kept_slot_key order (slot_or_empty o) ≡ 0 ∷ []
  nothing_key None e = absurd (none_some e)
  nothing_key (Some Empty) e = refl
  nothing_key (Some (Bytes form n bytes)) e = absurd (cc e)
  nothing_key (Some (Pool n entries)) e = absurd (cc e)
  nothing_key (Some (Link k)) e = absurd (cc e)
  nothing_key (Some (Waiting k)) e = absurd (cc e)

  pub memory_key : (o : Option Slot) (form : Form) (n : ℕ) → option_map holding_of o ≡ Some (holding.Bytes form n)
      → kept_slot_key order (slot_or_empty o) ≡ 1 ∷ form_tag form ∷ (number_key n ++ bytes_key 0 (memory_in (slot_or_empty o)))
  memory_key None form n e = absurd (none_some e)
  memory_key (Some Empty) form n e = absurd (cc e)
  memory_key (Some (Bytes g m bytes)) form n e =
      let same_form : g ≡ form = cc e in
      let same_size : m ≡ n = cc e in
      λ i. 1 ∷ form_tag (same_form i) ∷ (number_key (same_size i) ++ bytes_key 0 bytes)
  memory_key (Some (Pool m entries)) form n e = absurd (cc e)
  memory_key (Some (Link k)) form n e = absurd (cc e)
  memory_key (Some (Waiting k)) form n e = absurd (cc e)

  pub pool_key : (o : Option Slot) (n m : ℕ) → option_map holding_of o ≡ Some (holding.Pool n m)
      → kept_slot_key order (slot_or_empty o) ≡ 2 ∷ (number_key n ++ list_key (option_key text_key) (entries_in (slot_or_empty o)))
  pool_key None n m e = absurd (none_some e)
  pool_key (Some Empty) n m e = absurd (cc e)
  pool_key (Some (Bytes form k bytes)) n m e = absurd (cc e)
  pool_key (Some (Pool k entries)) n m e =
      let same : k ≡ n = cc e in ap (λ j. 2 ∷ (number_key j ++ list_key (option_key text_key) entries)) same
  pool_key (Some (Link k)) n m e = absurd (cc e)
  pool_key (Some (Waiting k)) n m e = absurd (cc e)

  pub session_key_is : (o : Option Slot) (k : ℕ) (b : Bool) → option_map holding_of o ≡ Some (holding.Session k) → option_map awaits o ≡ Some b
      → kept_slot_key order (slot_or_empty o) ≡ (if b then 4 else 3) ∷ number_key (place_of k order)
  session_key_is None k b e a = absurd (none_some e)
  session_key_is (Some Empty) k b e a = absurd (cc e)
  session_key_is (Some (Bytes form n bytes)) k b e a = absurd (cc e)
  session_key_is (Some (Pool n entries)) k b e a = absurd (cc e)
  session_key_is (Some (Link j)) k b e a =
      let same : j ≡ k = cc e in λ i. (if some_same a i then 4 else 3) ∷ number_key (place_of (same i) order)
  session_key_is (Some (Waiting j)) k b e a =
      let same : j ≡ k = cc e in λ i. (if some_same a i then 4 else 3) ∷ number_key (place_of (same i) order)

-- the session that a slot names
pub named_is : (o : Option Slot) (k : ℕ) → option_map holding_of o ≡ Some (holding.Session k) → named_in (slot_or_empty o ∷ []) ≡ k ∷ []
named_is None k e = absurd (none_some e)
named_is (Some Empty) k e = absurd (cc e)
named_is (Some (Bytes form n bytes)) k e = absurd (cc e)
named_is (Some (Pool n entries)) k e = absurd (cc e)
named_is (Some (Link j)) k e = let same : j ≡ k = cc e in ap (λ m. m ∷ []) same
named_is (Some (Waiting j)) k e = let same : j ≡ k = cc e in ap (λ m. m ∷ []) same

pub none_named : (o : Option Slot) (h : Holding) → option_map holding_of o ≡ Some h → ((k : ℕ) → h ≡ holding.Session k → ⊥)
    → named_in (slot_or_empty o ∷ []) ≡ []
none_named None h e other = refl
none_named (Some Empty) h e other = refl
none_named (Some (Bytes form n bytes)) h e other = refl
none_named (Some (Pool n entries)) h e other = refl
none_named (Some (Link j)) h e other = absurd (other j (sym (some_same e)))
none_named (Some (Waiting j)) h e other = absurd (other j (sym (some_same e)))

-- MEMORY AND POOLS

pub memory_count : (o : Option Slot) → byte_count o ≡ length (memory_in (slot_or_empty o))
memory_count None = refl
memory_count (Some Empty) = refl
memory_count (Some (Bytes form n bytes)) = refl
memory_count (Some (Pool n entries)) = refl
memory_count (Some (Link k)) = refl
memory_count (Some (Waiting k)) = refl

pub get_is : {A : Type 0} (items : List A) (i : ℕ) (b : A) → slice_get items i ≡ Some b → b ≡ get_or items i b
get_is [] i b e = refl
get_is (x ∷ items) zero b e = sym (some_same e)
get_is (x ∷ items) (suc i) b e = get_is items i b e

pub memory_byte : (o : Option Slot) (i b : ℕ) → byte_at i o ≡ Some b → b ≡ get_or (memory_in (slot_or_empty o)) i b
memory_byte None i b e = absurd (none_some e)
memory_byte (Some Empty) i b e = absurd (none_some e)
memory_byte (Some (Bytes form n bytes)) i b e = get_is bytes i b e
memory_byte (Some (Pool n entries)) i b e = absurd (none_some e)
memory_byte (Some (Link k)) i b e = absurd (none_some e)
memory_byte (Some (Waiting k)) i b e = absurd (none_some e)

pub entries_count : (o : Option Slot) → entry_count o ≡ length (entries_in (slot_or_empty o))
entries_count None = refl
entries_count (Some Empty) = refl
entries_count (Some (Bytes form n bytes)) = refl
entries_count (Some (Pool n entries)) = refl
entries_count (Some (Link k)) = refl
entries_count (Some (Waiting k)) = refl

pub entry_of : (o : Option Slot) (i : ℕ) → entry_at i o ≡ get_or (entries_in (slot_or_empty o)) i None
entry_of None i = refl
entry_of (Some Empty) i = refl
entry_of (Some (Bytes form n bytes)) i = refl
entry_of (Some (Pool n entries)) i = refl
entry_of (Some (Link k)) i = refl
entry_of (Some (Waiting k)) i = refl

pub pool_shape : (o : Option Slot) (n m : ℕ) → option_map holding_of o ≡ Some (holding.Pool n m) → (n ≡ entry_size o) × (m ≡ entry_count o)
pool_shape None n m e = absurd (none_some e)
pool_shape (Some Empty) n m e = absurd (cc e)
pool_shape (Some (Bytes form k bytes)) n m e = absurd (cc e)
pool_shape (Some (Pool k entries)) n m e =
    let size : n ≡ k = cc e in
    let count : m ≡ length entries = cc e in (size, count)
pool_shape (Some (Link k)) n m e = absurd (cc e)
pool_shape (Some (Waiting k)) n m e = absurd (cc e)

pub entry_some : (e : Option (List ℕ)) → (e ≡ None → ⊥) → option_key text_key e ≡ 1 ∷ text_key (entry_bytes e)
entry_some None some = absurd (some refl)
entry_some (Some bytes) some = refl

pub entry_count_is : (e : Option (List ℕ)) (n : ℕ) → (e ≡ None → ⊥) → IfSome e (λ bytes. length bytes ≡ n) → n ≡ length (entry_bytes e)
entry_count_is None n some long = absurd (some refl)
entry_count_is (Some bytes) n some long = sym long

index_is : (bytes : List ℕ) (i : ℕ) → slice_index bytes i ≡ get_or bytes i 0
index_is [] i = refl
index_is (b ∷ bytes) zero = refl
index_is (b ∷ bytes) (suc i) = index_is bytes i

pub entry_byte_is : (e : Option (List ℕ)) (i : ℕ) → entry_byte e i ≡ get_or (entry_bytes e) i 0
entry_byte_is None i = refl
entry_byte_is (Some bytes) i = index_is bytes i

-- SESSIONS

-- what is reported of a session, with its slot
pub state_is : (m : Machine) (k : ℕ) (state : SessionState) (slot_id : SlotId) (order : List ℕ) (r : IsReportedOf m k state)
    → Some (slot_id_seen slot_id) ≡ option_map (λ (s : Session). s.slot_id) (session_at m.world k)
    → state_key order (names_of m.scenario) state slot_id ≡ session_head_key (renamed_session (place_in order) r.session)
state_is m k state slot_id order r at =
    let place : slot_id_seen slot_id ≡ r.session.slot_id = some_same (at ∙ ap (option_map (λ (s : Session). s.slot_id)) r.there) in
    λ i. number_key (r.client i)
    ++ (slot_id_key (renamed_slot_id (place_in order) (place i))
    ++ (number_key (r.server i)
    ++ (text_key (r.service i)
    ++ (number_key (r.level i)
    ++ (number_key (r.donation i).ram ++ (number_key (r.donation i).caps ++ flag (r.accepted i) ∷ []))))))

-- there is a slot in which it stands
pub stands_somewhere : (m : Machine) (k : ℕ) (state : SessionState) (r : IsReportedOf m k state)
    → None ≡ option_map (λ (s : Session). s.slot_id) (session_at m.world k) → ⊥
stands_somewhere m k state r at = none_some (at ∙ ap (option_map (λ (s : Session). s.slot_id)) r.there)

pub is_there : (m : Machine) (k : ℕ) (state : SessionState) → IsReportedOf m k state → IsTrue (is_some (session_at m.world k))
is_there m k state r = ap is_some r.there

-- SOUND MACHINES

module _ (m : Machine) (sound : IsSoundMachine m) where
  module _ (x : ℕ) (less : x < length (components m.scenario)) where
    pub leaf_inside : x < length m.world.leaves
    leaf_inside = let count = leaves_count m sound in omega (arith, less, count)

    -- what is read of a leaf
    pub leaf_reads : (P : Leaf → Type 0) → IfSome (slice_get m.world.leaves x) P → P (leaf_at m.world x)
    leaf_reads P h = leaf_has m.world.leaves x P leaf_inside h

    module _ (core : Core)
        (at : (c : Component) → slice_get (components m.scenario) x ≡ Some c → IfSome (slice_get m.world.leaves x) (λ l. StandsAt c l core)) where
      component_is : (c : Component) × (slice_get (components m.scenario) x ≡ Some c)
      component_is = get_within (components m.scenario) x less

      stands : StandsAt component_is.0 (leaf_at m.world x) core
      stands = leaf_reads (λ l. StandsAt component_is.0 l core) (at component_is.0 component_is.1)

      pub operands_are : (leaf_at m.world x).operands ≡ core.operands
      operands_are = ap (λ s. s.operands) stands

      pub locals_are : (leaf_at m.world x).locals ≡ core.locals
      locals_are = ap (λ s. s.locals) stands

    pub own_slots_count : length (leaf_at m.world x).slots ≡ 64
    own_slots_count = own_count m sound x (leaf_at m.world x) (leaf_is m.world.leaves x leaf_inside)

    pub peaks_count : length (leaf_at m.world x).peaks ≡ 8
    peaks_count =
        ∥∥₁_elim sound (Coded-set coded_ℕ (length (leaf_at m.world x).peaks) 8)
        (λ h. (each_at IsWholeLeaf m.world.leaves x (leaf_at m.world x) h.whole.leaves (leaf_is m.world.leaves x leaf_inside)).2)

  pub bank_slots_count : (k : ℕ) → IsTrue (is_some (session_at m.world k)) → length (session_slots (session_at m.world k)) ≡ 8
  bank_slots_count k there = by (session_at m.world k) refl there
    where
      by : (o : Option Session) → session_at m.world k ≡ o → IsTrue (is_some o) → length (session_slots o) ≡ 8
      by None e h = absurd (cc h)
      by (Some s) e h = bank_count m sound k s e
