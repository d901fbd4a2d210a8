-- What the links of the machine's world of slots are, by what is stored: of sessions, of slots, of leaves and of requests.
use Rattle.std.proofs.Common.{◌≡◌, ℕ, zero, suc, ◌+◌, ◌<◌, inl, inr, List, [], ◌∷◌, map, get_or, length, Option, Some, None, refl, sym, ap, ◌∙◌}
use Rattle.std.proofs.Common.{arith}
use Rattle.std.specs.Prelude.{is_some, slice_get}
use Rattle.std.proofs.lemmas.Bool.Decides.{eqb_tells}
use Rattle.gq_model.specs.machine.World as world
use Rattle.gq_model.proofs.Small_facts.{some_same, none_some}
use Rattle.gq_laws.specs.Session_links.{Naming, Leads, Waits, Stance, stance, named, naming, naming_in, outline, outline_in, links, requests_of, stance_in}
use Rattle.gq_store.specs.Store.{Store}
use Rattle.gq_heap.specs.declared.heap.Heap.{Heap}
use Rattle.gq_trade.specs.Numbers.{IsTaken}
use Rattle.gq_trade.specs.declared.requests.Request.{Request}
use Rattle.gq_trade.specs.Seen_requests.{request_seen}
use Rattle.gq_contents.specs.declared.content.Content.{Content}
use Rattle.gq_contents.specs.declared.content.Content.TheVariants as content
use Rattle.gq_contents.specs.Contents.{seen}
use Rattle.gq_trade.specs.declared.session.Session.{Session}
use Rattle.gq_trade.specs.declared.session.SlotId.{SlotId}
use Rattle.gq_trade.specs.declared.session.SlotId.TheVariants.{InLeaf, InSession, InObject}
use Rattle.gq_trade.specs.Seen_sessions.{seen_in, session_seen, slot_id_seen}
use Rattle.gq_trade.specs.Trading.{AreOfOthers, found, server_of, session_at}
use Rattle.gq_slots.specs.Slots.{AreLong, Frame, IsSlotId, Slots, leaves_seen, memory_of, slot_of, world_seen}
use Rattle.gq_slots.proofs.Slot_change_worlds.{session_there}
use Rattle.gq_slots.proofs.Leaf_use_paid.{leaf_below}
use Rattle.gq_statements.specs.Systems.{AreLawful}
use Rattle.gq_statements.proofs.Unpaid_made_memory.{leaf_found}
use Rattle.gq_statements.proofs.Lawful_worlds_paid.{phase_seen}

-- SESSIONS

reads_as : (g : Session → world.Session) (ss : List (Option Session)) (k : ℕ) → world.joined (slice_get (map (seen_in g) ss) k) ≡ seen_in g (get_or ss k None)
reads_as g [] k = refl
reads_as g (None ∷ ss) zero = refl
reads_as g (Some q ∷ ss) zero = refl
reads_as g (o ∷ ss) (suc k) = reads_as g ss k

abbrev pub stored_as : Frame → Slots → Session → world.Session
stored_as f s q = session_seen f.names (memory_of s q.server) q

-- a session as the machine's world has it
abbrev pub seen_at : Frame → Slots → ℕ → world.Session
seen_at f s k = session_seen f.names (memory_of s (server_of s.trades.trading k)) (session_at s.trades.trading k)

pub session_has : (f : Frame) (s : Slots) (k : ℕ) → IsTaken s.trades.trading.sessions k → (links (world_seen f s)).sessions k ≡ Some (outline (seen_at f s k))
session_has f s k there =
    ap (λ o. outline_in (world.joined o)) (session_there (λ q. session_seen f.names (memory_of s q.server) q) s.trades.trading.sessions k there)

pub session_is : (f : Frame) (s : Slots) (k : ℕ) (z : world.Session) → (links (world_seen f s)).sessions k ≡ Some z
    → IsTaken s.trades.trading.sessions k × (z ≡ outline (seen_at f s k))
session_is f s k z e =
    go (get_or s.trades.trading.sessions k None) refl (ap outline_in (sym (reads_as (stored_as f s) s.trades.trading.sessions k)) ∙ e)
  where
    go : (o : Option Session) → get_or s.trades.trading.sessions k None ≡ o → outline_in (seen_in (stored_as f s) o) ≡ Some z
        → IsTaken s.trades.trading.sessions k × (z ≡ outline (seen_at f s k))
    go None h e = absurd (none_some e)
    go (Some q) h e = (ap is_some h, sym (some_same e) ∙ ap (λ o. outline (stored_as f s (found o))) (sym h))

-- SLOTS

pub link_is : (st : Store) (t : Content) (k : ℕ) → naming (seen st t) ≡ Some (Leads k) → t ≡ content.Link k
link_is st content.Empty k e = absurd (none_some e)
link_is st (content.Block p n) k e = absurd (none_some e)
link_is st (content.Slice c n) k e = absurd (none_some e)
link_is st (content.Space c n) k e = absurd (none_some e)
link_is st (content.Pool p) k e = absurd (none_some e)
link_is st (content.Link j) k e = ap (λ n. content.Link (named n)) (some_same e)
link_is st (content.Waiting j) k e = cc

pub waiting_is : (st : Store) (t : Content) (k : ℕ) → naming (seen st t) ≡ Some (Waits k) → t ≡ content.Waiting k
waiting_is st content.Empty k e = absurd (none_some e)
waiting_is st (content.Block p n) k e = absurd (none_some e)
waiting_is st (content.Slice c n) k e = absurd (none_some e)
waiting_is st (content.Space c n) k e = absurd (none_some e)
waiting_is st (content.Pool p) k e = absurd (none_some e)
waiting_is st (content.Link j) k e = cc
waiting_is st (content.Waiting j) k e = ap (λ n. content.Waiting (named n)) (some_same e)

-- a slot's place, by how the machine's world has it
abbrev slot_id_back : world.SlotId → SlotId
slot_id_back (world.In_leaf x i) = InLeaf x i
slot_id_back (world.In_session k i) = InSession k i
slot_id_back (world.In_object k) = InObject k

back_seen : (p : SlotId) → slot_id_back (slot_id_seen p) ≡ p
back_seen (InLeaf x i) = refl
back_seen (InSession k i) = refl
back_seen (InObject k) = refl

pub same_slot_ids : (p q : SlotId) → slot_id_seen p ≡ slot_id_seen q → p ≡ q
same_slot_ids p q e = sym (back_seen p) ∙ ap slot_id_back e ∙ back_seen q

-- something is in the slot of an option
in_leaf : (o : Option world.Leaf) (i : ℕ) (v : world.Slot) → world.leaf_slot o i ≡ Some v
    → (leaf : world.Leaf) × (o ≡ Some leaf) × (slice_get leaf.slots i ≡ Some v)
in_leaf None i v e = absurd (none_some e)
in_leaf (Some leaf) i v e = (leaf, refl, e)

own_seen : (leaf : ℕ → world.Leaf) (st : ℕ → Store) (own : List (List Content)) (hs : List Heap) (x : ℕ) (l : world.Leaf)
    → slice_get (leaves_seen leaf st own hs) x ≡ Some l → l.slots ≡ map (seen (st x)) (get_or own x [])
own_seen leaf st [] hs x l e = absurd (none_some e)
own_seen leaf st (ts ∷ own) [] x l e = absurd (none_some e)
own_seen leaf st (ts ∷ own) (h ∷ hs) zero l e = ap (λ (y : world.Leaf). y.slots) (sym (some_same e))
own_seen leaf st (ts ∷ own) (h ∷ hs) (suc x) l e = own_seen (λ y. leaf (suc y)) (λ y. st (suc y)) own hs x l e

below_mapped : {A : Type 0} {B : Type 0} (g : A → B) (xs : List A) (i : ℕ) (b : B) → slice_get (map g xs) i ≡ Some b → i < length xs
below_mapped g [] i b e = absurd (none_some e)
below_mapped g (a ∷ xs) zero b e = omega arith
below_mapped g (a ∷ xs) (suc i) b e = let lt = below_mapped g xs i b e in omega (arith, lt)

-- a slot that the machine's world has is there
slot_id_is : (f : Frame) (s : Slots) (p : SlotId) (v : world.Slot) → AreLong s → world.slot_at (world_seen f s) (slot_id_seen p) ≡ Some v → IsSlotId s p
slot_id_is f s (InLeaf x i) v long e =
    let h = in_leaf (slice_get (world_seen f s).leaves x) i v e in
    let lt = leaf_below f.leaf (memory_of s) s.own s.heaps x h.0 h.1 in
    let same = own_seen f.leaf (memory_of s) s.own s.heaps x h.0 h.1 in
    let below = below_mapped (seen (memory_of s x)) (get_or s.own x []) i v (sym (ap (λ ts. slice_get ts i) same) ∙ h.2) in
    (lt, omega (arith, below, long.own x lt))
slot_id_is f s (InSession k i) v long e =
    go (get_or s.trades.trading.sessions k None) refl
    (ap (λ o. world.session_slot o i) (sym (reads_as (stored_as f s) s.trades.trading.sessions k)) ∙ e)
  where
    go : (o : Option Session) → get_or s.trades.trading.sessions k None ≡ o → world.session_slot (seen_in (stored_as f s) o) i ≡ Some v
        → IsTaken s.trades.trading.sessions k × (i < 8)
    go None h e = absurd (none_some e)
    go (Some q) h e =
        let there : IsTaken s.trades.trading.sessions k = ap is_some h in
        let below = below_mapped (seen (memory_of s q.server)) q.slots i v e in
        let same : (session_at s.trades.trading k).slots ≡ q.slots = ap (λ o. (found o).slots) h in
        (there, omega (arith, below, ap length same, long.slots k there))
slot_id_is f s (InObject k) v long e =
    go (get_or s.trades.trading.sessions k None) refl (ap world.session_object (sym (reads_as (stored_as f s) s.trades.trading.sessions k)) ∙ e)
  where
    go : (o : Option Session) → get_or s.trades.trading.sessions k None ≡ o → world.session_object (seen_in (stored_as f s) o) ≡ Some v
        → IsTaken s.trades.trading.sessions k
    go None h e = absurd (none_some e)
    go (Some q) h e = ap is_some h

-- what stands at a place of a list, through a function
mapped_is : {A : Type 0} {B : Type 0} (g : A → B) (xs : List A) (i : ℕ) (d : A) (b : B) → slice_get (map g xs) i ≡ Some b → b ≡ g (get_or xs i d)
mapped_is g [] i d b e = absurd (none_some e)
mapped_is g (a ∷ xs) zero d b e = sym (some_same e)
mapped_is g (a ∷ xs) (suc i) d b e = mapped_is g xs i d b e

-- what the machine's world has in a slot stands for what is stored there
slot_is : (f : Frame) (s : Slots) (p : SlotId) (v : world.Slot) → world.slot_at (world_seen f s) (slot_id_seen p) ≡ Some v → v ≡ slot_of s p
slot_is f s (InLeaf x i) v e =
    let h = in_leaf (slice_get (world_seen f s).leaves x) i v e in
    let same = own_seen f.leaf (memory_of s) s.own s.heaps x h.0 h.1 in
    mapped_is (seen (memory_of s x)) (get_or s.own x []) i content.Empty v (sym (ap (λ ts. slice_get ts i) same) ∙ h.2)
slot_is f s (InSession k i) v e =
    go (get_or s.trades.trading.sessions k None) refl
    (ap (λ o. world.session_slot o i) (sym (reads_as (stored_as f s) s.trades.trading.sessions k)) ∙ e)
  where
    go : (o : Option Session) → get_or s.trades.trading.sessions k None ≡ o → world.session_slot (seen_in (stored_as f s) o) i ≡ Some v
        → v ≡ slot_of s (InSession k i)
    go None h e = absurd (none_some e)
    go (Some q) h e =
        mapped_is (seen (memory_of s q.server)) q.slots i content.Empty v e
        ∙ ap (λ o. seen (memory_of s (found o).server) (get_or (found o).slots i content.Empty)) (sym h)
slot_is f s (InObject k) v e =
    go (get_or s.trades.trading.sessions k None) refl (ap world.session_object (sym (reads_as (stored_as f s) s.trades.trading.sessions k)) ∙ e)
  where
    go : (o : Option Session) → get_or s.trades.trading.sessions k None ≡ o → world.session_object (seen_in (stored_as f s) o) ≡ Some v
        → v ≡ slot_of s (InObject k)
    go None h e = absurd (none_some e)
    go (Some q) h e = sym (some_same e) ∙ ap (λ o. seen (memory_of s (found o).server) (found o).object) (sym h)

-- where a slot says something, it is what is stored there that says it
pub says_stored : (f : Frame) (s : Slots) (p : SlotId) (n : Naming) → (links (world_seen f s)).slots (slot_id_seen p) ≡ Some n → naming (slot_of s p) ≡ Some n
says_stored f s p n e = go (world.slot_at (world_seen f s) (slot_id_seen p)) refl e
  where
    go : (o : Option world.Slot) → world.slot_at (world_seen f s) (slot_id_seen p) ≡ o → naming_in o ≡ Some n → naming (slot_of s p) ≡ Some n
    go None g e = absurd (none_some e)
    go (Some v) g e = sym (ap naming (slot_is f s p v g)) ∙ e

-- and it is there
pub slot_id_says : (f : Frame) (s : Slots) (p : SlotId) (n : Naming) → AreLong s → (links (world_seen f s)).slots (slot_id_seen p) ≡ Some n → IsSlotId s p
slot_id_says f s p n long e = go (world.slot_at (world_seen f s) (slot_id_seen p)) refl e
  where
    go : (o : Option world.Slot) → world.slot_at (world_seen f s) (slot_id_seen p) ≡ o → naming_in o ≡ Some n → IsSlotId s p
    go None g e = absurd (none_some e)
    go (Some v) g e = slot_id_is f s p v long g

-- LEAVES

current_seen : (leaf : ℕ → world.Leaf) (st : ℕ → Store) (own : List (List Content)) (hs : List Heap) (x : ℕ) (l : world.Leaf)
    → slice_get (leaves_seen leaf st own hs) x ≡ Some l → l.current ≡ (leaf x).current
current_seen leaf st [] hs x l e = absurd (none_some e)
current_seen leaf st (ts ∷ own) [] x l e = absurd (none_some e)
current_seen leaf st (ts ∷ own) (h ∷ hs) zero l e = ap (λ (y : world.Leaf). y.current) (sym (some_same e))
current_seen leaf st (ts ∷ own) (h ∷ hs) (suc x) l e = current_seen (λ y. leaf (suc y)) (λ y. st (suc y)) own hs x l e

abbrev pub stance_at : Frame → ℕ → Stance
stance_at f x = stance (f.leaf x).phase (f.leaf x).current

pub stance_is : (f : Frame) (s : Slots) (x : ℕ) → AreLawful s → x < length s.own → (links (world_seen f s)).stances x ≡ Some (stance_at f x)
stance_is f s x l lt =
    let a = leaf_found f s l x lt in
    let p = phase_seen f.leaf (memory_of s) s.own s.heaps x a.0 a.1 in
    let h = current_seen f.leaf (memory_of s) s.own s.heaps x a.0 a.1 in
    ap stance_in a.1 ∙ (λ i. Some (stance (p i) (h i)))

-- REQUESTS

pub none_of : (k : ℕ) (rs : List Request) → requests_of k (map request_seen rs) ≡ 0 → AreOfOthers k rs
none_of k [] e = tt
none_of k (r ∷ rs) e = elim (eqb_tells r.session k) [
  | inl t ↦ absurd (let g : 1 + requests_of k (map request_seen rs) ≡ 0 = rw t.0 at e in omega (arith, g))
  | inr n ↦ (let g : 0 + requests_of k (map request_seen rs) ≡ 0 = rw n.0 at e in (n.1, none_of k rs (omega (arith, g))))
]

pub of_none : (k : ℕ) (rs : List Request) → AreOfOthers k rs → requests_of k (map request_seen rs) ≡ 0
of_none k [] o = refl
of_none k (r ∷ rs) o = elim (eqb_tells r.session k) [ inl t ↦ absurd (o.0 t.1) | inr n ↦ rw n.0 (let e = of_none k rs o.1 in omega (arith, e)) ]
