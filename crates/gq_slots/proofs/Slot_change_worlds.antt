-- The world of all slots where something else stands in one of them, in another memory of its leaf.
use Rattle.gq_ram.specs.Ledgers.{Ledger}
use Rattle.std.proofs.Common.{◌≡◌, ℕ, zero, suc, ◌<◌, Bool, true, false, cond, eqb, List, [], ◌∷◌, ◌++◌, take, drop, set, map, get_or, length, Option, Some}
use Rattle.std.proofs.Common.{None, refl, sym, ap, ◌∙◌, arith}
use Rattle.std.specs.Prelude.{slice_get}
use Rattle.std.proofs.lemmas.Bool.Decides.{nat_tests}
use Rattle.std.proofs.lemmas.List.{set-get_or}
use Rattle.gq_model.specs.machine.World as world
use Rattle.gq_store.specs.Store.{Store}
use Rattle.gq_heap.specs.declared.heap.Heap.{Heap}
use Rattle.gq_heap.specs.Heap.{peaks}
use Rattle.gq_ram.specs.Account_stores.{store_at}
use Rattle.gq_trade.specs.Numbers.{IsTaken}
use Rattle.gq_contents.specs.declared.content.Content.{Content}
use Rattle.gq_contents.specs.declared.content.Content.TheVariants.{Empty}
use Rattle.gq_contents.specs.Contents.{seen}
use Rattle.gq_contents.specs.Contents_invariant.{SameSeen}
use Rattle.gq_trade.specs.declared.session.Session.{Session}
use Rattle.gq_trade.specs.declared.session.SlotId.{SlotId}
use Rattle.gq_trade.specs.declared.session.SlotId.TheVariants.{InLeaf, InSession, InObject}
use Rattle.gq_trade.specs.Seen_sessions.{seen_in, session_seen, slot_id_seen}
use Rattle.gq_trade.specs.Trading.{account_of, AreBetween, session_in, with_slot}
use Rattle.gq_slots.specs.Slots.{Slots, Frame, IsSlotId, IsHeapOf, holder, leaf_seen, leaves_seen, memory_of, slot_of, world_seen}
use Rattle.gq_slots.specs.internal.Slots_invariant.{AreLong, session_contents, contents_of}
use Rattle.gq_slots.specs.internal.Put.{peaks_in, put, with_object, with_peaks_at, with_store}
use Rattle.gq_slots.proofs.Slot_content_positions.{back, prefix}

-- LISTS

pub get_set : {A : Type 0} (xs : List A) (x : ℕ) (a : A) → x < length xs → slice_get (set xs x a) x ≡ Some a
get_set [] x a lt = absurd (omega (arith, lt))
get_set (b ∷ xs) zero a lt = refl
get_set (b ∷ xs) (suc x) a lt = get_set xs x a (omega (arith, lt))

get_other : {A : Type 0} (xs : List A) (x y : ℕ) (a : A) → (y ≡ x → ⊥) → slice_get (set xs x a) y ≡ slice_get xs y
get_other [] x y a ne = refl
get_other (b ∷ xs) zero zero a ne = absurd (ne refl)
get_other (b ∷ xs) zero (suc y) a ne = refl
get_other (b ∷ xs) (suc x) zero a ne = refl
get_other (b ∷ xs) (suc x) (suc y) a ne = get_other xs x y a (λ e. ne (ap suc e))

set_twice : {A : Type 0} (xs : List A) (x : ℕ) (a b : A) → set (set xs x a) x b ≡ set xs x b
set_twice [] x a b = refl
set_twice (c ∷ xs) zero a b = refl
set_twice (c ∷ xs) (suc x) a b = ap (λ ys. c ∷ ys) (set_twice xs x a b)

get_map : {A : Type 0} {B : Type 0} (f : A → B) (xs : List A) (i : ℕ) (d : A) → i < length xs → slice_get (map f xs) i ≡ Some (f (get_or xs i d))
get_map f [] i d lt = absurd (omega (arith, lt))
get_map f (a ∷ xs) zero d lt = refl
get_map f (a ∷ xs) (suc i) d lt = get_map f xs i d (omega (arith, lt))

pub set_there : {A : Type 0} (xs : List A) (x : ℕ) (a : A) → slice_get xs x ≡ Some a → set xs x a ≡ xs
set_there [] x a e = refl
set_there (b ∷ xs) zero a e = let f : b ≡ a = cc in ap (λ c. c ∷ xs) (sym f)
set_there (b ∷ xs) (suc x) a e = ap (λ ys. b ∷ ys) (set_there xs x a e)

there_below : {A : Type 0} (xs : List A) (x : ℕ) (a : A) → slice_get xs x ≡ Some a → x < length xs
there_below [] x a e = cc
there_below (b ∷ xs) zero a e = omega arith
there_below (b ∷ xs) (suc x) a e = let lt = there_below xs x a e in omega (arith, lt)

pub some_same : {A : Type 0} (a b : A) → Some a ≡ Some b → a ≡ b
some_same a b e = cc

-- THINGS THAT READ AS BEFORE

seen_left : (old new : Store) (ts us : List Content) → SameSeen old new (ts ++ us) → SameSeen old new ts
seen_left old new [] us h = tt
seen_left old new (t ∷ ts) us h = (h.0, seen_left old new ts us h.1)

seen_right : (old new : Store) (ts us : List Content) → SameSeen old new (ts ++ us) → SameSeen old new us
seen_right old new [] us h = h
seen_right old new (t ∷ ts) us h = seen_right old new ts us h.1

same_map : (old new : Store) (ts : List Content) → SameSeen old new ts → map (seen new) ts ≡ map (seen old) ts
same_map old new [] h = refl
same_map old new (t ∷ ts) h = λ k. h.0 k ∷ same_map old new ts h.1 k

bank_seen : (old new : Store) (bank : List Content) (i : ℕ) (u : Content) → i < length bank → SameSeen old new (take i bank)
    → SameSeen old new (drop (suc i) bank) → map (seen new) (set bank i u) ≡ set (map (seen old) bank) i (seen new u)
bank_seen old new [] i u lt a b = absurd (omega (arith, lt))
bank_seen old new (t ∷ ts) zero u lt a b = λ k. seen new u ∷ same_map old new ts b k
bank_seen old new (t ∷ ts) (suc i) u lt a b = λ k. a.0 k ∷ bank_seen old new ts i u (omega (arith, lt)) a.1 b k

-- LEAVES

pub leaf_at : (leaf : ℕ → world.Leaf) (st : ℕ → Store) (own : List (List Content)) (hs : List Heap) (x : ℕ) (h : Heap) → x < length own → x < length hs
    → slice_get (leaves_seen leaf st own hs) x ≡ Some (leaf_seen (leaf x) (st x) (get_or own x []) (get_or hs x h))
leaf_at leaf st [] hs x h lt lh = absurd (omega (arith, lt))
leaf_at leaf st (ts ∷ own) [] x h lt lh = absurd (omega (arith, lh))
leaf_at leaf st (ts ∷ own) (g ∷ hs) zero h lt lh = refl
leaf_at leaf st (ts ∷ own) (g ∷ hs) (suc x) h lt lh = leaf_at (λ y. leaf (suc y)) (λ y. st (suc y)) own hs x h (omega (arith, lt)) (omega (arith, lh))

own_at : (leaf : ℕ → world.Leaf) (st : ℕ → Store) (own : List (List Content)) (hs : List Heap) (x i : ℕ) → x < length own → length hs ≡ length own
    → world.leaf_slot (slice_get (leaves_seen leaf st own hs) x) i ≡ slice_get (map (seen (st x)) (get_or own x [])) i
own_at leaf st [] hs x i lt e = absurd (omega (arith, lt))
own_at leaf st (ts ∷ own) [] x i lt e = absurd (omega (arith, e))
own_at leaf st (ts ∷ own) (g ∷ hs) zero i lt e = refl
own_at leaf st (ts ∷ own) (g ∷ hs) (suc x) i lt e = own_at (λ y. leaf (suc y)) (λ y. st (suc y)) own hs x i (omega (arith, lt)) (omega (arith, e))

leaves_same : (leaf : ℕ → world.Leaf) (old new : ℕ → Store) (own : List (List Content)) (hs : List Heap) → ((y : ℕ) → y < length own → new y ≡ old y)
    → leaves_seen leaf new own hs ≡ leaves_seen leaf old own hs
leaves_same leaf old new [] hs same = refl
leaves_same leaf old new (ts ∷ own) [] same = refl
leaves_same leaf old new (ts ∷ own) (h ∷ hs) same =
    let e = same zero (omega arith) in
    let f = leaves_same (λ y. leaf (suc y)) (λ y. old (suc y)) (λ y. new (suc y)) own hs (λ y lt. same (suc y) (omega (arith, lt))) in
    λ k. leaf_seen (leaf 0) (e k) ts h ∷ f k

-- one leaf with other slots, another memory and another heap
leaves_set : (leaf : ℕ → world.Leaf) (old new : ℕ → Store) (own : List (List Content)) (hs : List Heap) (x : ℕ) (ts : List Content) (h : Heap) → x < length own
    → length hs ≡ length own → ((y : ℕ) → y < length own → (y ≡ x → ⊥) → new y ≡ old y)
    → leaves_seen leaf new (set own x ts) (set hs x h) ≡ set (leaves_seen leaf old own hs) x (leaf_seen (leaf x) (new x) ts h)
leaves_set leaf old new [] hs x ts h lt e same = absurd (omega (arith, lt))
leaves_set leaf old new (us ∷ own) [] x ts h lt e same = absurd (omega (arith, e))
leaves_set leaf old new (us ∷ own) (g ∷ hs) zero ts h lt e same =
    let f = leaves_same (λ y. leaf (suc y)) (λ y. old (suc y)) (λ y. new (suc y)) own hs
    (λ y below. same (suc y) (omega (arith, below)) (λ z. absurd (omega (arith, z)))) in
    λ k. leaf_seen (leaf 0) (new 0) ts h ∷ f k
leaves_set leaf old new (us ∷ own) (g ∷ hs) (suc x) ts h lt e same =
    let a = same zero (omega arith) (λ z. absurd (omega (arith, z))) in
    let f = leaves_set (λ y. leaf (suc y)) (λ y. old (suc y)) (λ y. new (suc y)) own hs x ts h (omega (arith, lt)) (omega (arith, e))
    (λ y below ne. same (suc y) (omega (arith, below)) (λ z. ne (omega (arith, z)))) in
    λ k. leaf_seen (leaf 0) (a k) us g ∷ f k

-- SESSIONS

module _ (names : List (List ℕ)) (old new : ℕ → Store) (x n : ℕ) (same : (y : ℕ) → y < n → (y ≡ x → ⊥) → new y ≡ old y) where
  abbrev before : Session → world.Session
  before s = session_seen names (old s.server) s

  abbrev then_ : Session → world.Session
  then_ s = session_seen names (new s.server) s

  one_same : (s : Session) (b : Bool) → eqb s.server x ≡ b → s.server < n → SameSeen (old x) (new x) (cond b (s.object ∷ s.slots) []) → then_ s ≡ before s
  one_same s true e lt h =
      let f : s.server ≡ x = grind (arith, nat_tests, e) in
      let m = same_map (old x) (new x) s.slots h.1 in
      ap (λ y. session_seen names (new y) s) f ∙ (λ k. record (session_seen names (old x) s) { object = h.0 k; slots = m k })
      ∙ ap (λ y. session_seen names (old y) s) (sym f)
  one_same s false e lt h =
      let f : s.server ≡ x → ⊥ = λ g. grind (arith, nat_tests, e, g) in
      ap (λ st. session_seen names st s) (same s.server lt f)

  sessions_same : (m : ℕ) (ss : List (Option Session)) → AreBetween n m ss → SameSeen (old x) (new x) (session_contents x ss)
      → map (seen_in then_) ss ≡ map (seen_in before) ss
  sessions_same m [] b h = refl
  sessions_same m (None ∷ ss) b h = ap (λ ys. None ∷ ys) (sessions_same m ss b h)
  sessions_same m (Some s ∷ ss) b h =
      let e = one_same s (eqb s.server x) refl b.0.server (seen_left (old x) (new x) (contents_of x s) (session_contents x ss) h) in
      let f = sessions_same m ss b.1 (seen_right (old x) (new x) (contents_of x s) (session_contents x ss) h) in
      λ k. Some (e k) ∷ f k

  -- one session that is another
  sessions_set : (m : ℕ) (ss : List (Option Session)) (k : ℕ) (v : Session) → AreBetween n m ss → SameSeen (old x) (new x) (session_contents x (take k ss))
      → SameSeen (old x) (new x) (session_contents x (drop (suc k) ss))
      → map (seen_in then_) (set ss k (Some v)) ≡ set (map (seen_in before) ss) k (Some (then_ v))
  sessions_set m [] k v b f g = refl
  sessions_set m (None ∷ ss) zero v b f g = ap (λ ys. Some (then_ v) ∷ ys) (sessions_same m ss b g)
  sessions_set m (Some s ∷ ss) zero v b f g = ap (λ ys. Some (then_ v) ∷ ys) (sessions_same m ss b.1 g)
  sessions_set m (None ∷ ss) (suc k) v b f g = ap (λ ys. None ∷ ys) (sessions_set m ss k v b f g)
  sessions_set m (Some s ∷ ss) (suc k) v b f g =
      let e = one_same s (eqb s.server x) refl b.0.server (seen_left (old x) (new x) (contents_of x s) (session_contents x (take k ss)) f) in
      let r = sessions_set m ss k v b.1 (seen_right (old x) (new x) (contents_of x s) (session_contents x (take k ss)) f) g in
      λ z. Some (e z) ∷ r z

pub session_there : (f : Session → world.Session) (ss : List (Option Session)) (k : ℕ) → IsTaken ss k
    → slice_get (map (seen_in f) ss) k ≡ Some (Some (f (session_in ss k)))
session_there f [] k t = cc
session_there f (None ∷ ss) zero t = cc
session_there f (Some s ∷ ss) zero t = refl
session_there f (o ∷ ss) (suc k) t = session_there f ss k t

-- a session of the world, or none
pub session_seen_at : (f : Session → world.Session) (ss : List (Option Session)) (k : ℕ) → world.joined (slice_get (map (seen_in f) ss) k) ≡ seen_in f
    (get_or ss k None)
session_seen_at f [] k = refl
session_seen_at f (o ∷ ss) zero = refl
session_seen_at f (o ∷ ss) (suc k) = session_seen_at f ss k

-- WHAT A SLOT READS AS

pub reads : (f : Frame) (s : Slots) (p : SlotId) → IsSlotId s p → AreLong s → length s.heaps ≡ length s.own
    → world.slot_at (world_seen f s) (slot_id_seen p) ≡ Some (slot_of s p)
reads f s (InLeaf x i) there long e =
    own_at f.leaf (memory_of s) s.own s.heaps x i there.0 e
    ∙ get_map (seen (memory_of s x)) (get_or s.own x []) i Empty (omega (arith, there.1, long.own x there.0))
reads f s (InSession k i) there long e =
    let ss = s.trades.trading.sessions in
    let q = session_in ss k in
    ap (λ o. world.session_slot (world.joined o) i) (session_there (λ z. session_seen f.names (memory_of s z.server) z) ss k there.0)
    ∙ get_map (seen (memory_of s q.server)) q.slots i Empty (omega (arith, there.1, long.slots k there.0))
reads f s (InObject k) there long e =
    ap (λ o. world.session_object (world.joined o)) (session_there (λ z. session_seen f.names (memory_of s z.server) z) s.trades.trading.sessions k there)

-- ANOTHER THING IN A SLOT

abbrev with_leaves : world.World → List world.Leaf → world.World
with_leaves w ls = record { leaves = ls; sessions = w.sessions; requests = w.requests }

peaks_there : (w : world.World) (x : ℕ) (l : world.Leaf) (ps : List ℕ) → slice_get w.leaves x ≡ Some l
    → with_peaks_at x ps w ≡ world.with_leaf w x (record l { peaks = ps })
peaks_there w x l ps e = ap (peaks_in w x ps) e

-- of a leaf's own slots
leaf_then : (w : world.World) (x i : ℕ) (l : world.Leaf) (slot : world.Slot) (ps : List ℕ) → slice_get w.leaves x ≡ Some l
    → with_peaks_at x ps (world.with_slot w (world.In_leaf x i) slot) ≡ with_leaves w (set w.leaves x (record l { slots = set l.slots i slot; peaks = ps }))
leaf_then w x i l slot ps e =
    let lt = there_below w.leaves x l e in
    let m : world.Leaf = record l { slots = set l.slots i slot } in
    ap (λ o. with_peaks_at x ps (world.put_leaf_slot w o x i slot)) e
    ∙ peaks_there (world.with_leaf w x m) x m ps (get_set w.leaves x m lt)
    ∙ ap (with_leaves w) (set_twice w.leaves x m (record m { peaks = ps }))

-- of a session's
session_then : (w : world.World) (k i x : ℕ) (q : world.Session) (l : world.Leaf) (slot : world.Slot) (ps : List ℕ) → slice_get w.sessions k ≡ Some (Some q)
    → slice_get w.leaves x ≡ Some l → with_peaks_at x ps (world.with_slot w (world.In_session k i) slot)
    ≡ record {
      leaves = set w.leaves x (record l { peaks = ps });
      sessions = set w.sessions k (Some (record q { slots = set q.slots i slot }));
      requests = w.requests;
    }
session_then w k i x q l slot ps e g =
    ap (λ o. with_peaks_at x ps (world.put_session_slot w (world.joined o) k i slot)) e
    ∙ peaks_there (world.with_session w k (record q { slots = set q.slots i slot })) x l ps g

object_then : (w : world.World) (k x : ℕ) (q : world.Session) (l : world.Leaf) (slot : world.Slot) (ps : List ℕ) → slice_get w.sessions k ≡ Some (Some q)
    → slice_get w.leaves x ≡ Some l → with_peaks_at x ps (world.with_slot w (world.In_object k) slot)
    ≡ record { leaves = set w.leaves x (record l { peaks = ps }); sessions = set w.sessions k (Some (record q { object = slot })); requests = w.requests }
object_then w k x q l slot ps e g =
    ap (λ o. with_peaks_at x ps (world.put_object w (world.joined o) k slot)) e
    ∙ peaks_there (world.with_session w k (record q { object = slot })) x l ps g

module _ (f : Frame) (s : Slots) (m : Ledger) (h : Heap) (u : Content) (n : ℕ) (long : AreLong s) (heaps : length s.heaps ≡ length s.own)
    (between : AreBetween (length s.own) n s.trades.trading.sessions) (x : ℕ) (lt : x < length s.own)
    (same : (y : ℕ) → y < length s.own → (y ≡ x → ⊥) → store_at m (account_of s.trades.trading y) ≡ memory_of s y) where
  abbrev then_of : ℕ → Store
  then_of y = store_at m (account_of s.trades.trading y)

  abbrev l : world.Leaf
  l = leaf_seen (f.leaf x) (memory_of s x) (get_or s.own x []) (get_or s.heaps x h)

  leaf_is : slice_get (world_seen f s).leaves x ≡ Some l
  leaf_is = leaf_at f.leaf (memory_of s) s.own s.heaps x h lt (omega (arith, lt, heaps))

  -- the leaf with the same slots in its new memory
  own_then : SameSeen (memory_of s x) (then_of x) (get_or s.own x [])
      → leaves_seen f.leaf then_of s.own (set s.heaps x h) ≡ set (world_seen f s).leaves x (record l { peaks = peaks h })
  own_then a =
      let e = same_map (memory_of s x) (then_of x) (get_or s.own x []) a in
      ap (λ own. leaves_seen f.leaf then_of own (set s.heaps x h)) (sym (set-get_or s.own x []))
      ∙ leaves_set f.leaf (memory_of s) then_of s.own s.heaps x (get_or s.own x []) h lt heaps same
      ∙ (λ k. set (world_seen f s).leaves x (record (f.leaf x) { slots = e k; peaks = peaks h }))

pub world_after : (f : Frame) (s : Slots) (m : Ledger) (p : SlotId) (h : Heap) (u : Content) (n : ℕ) → IsSlotId s p → AreLong s → length s.heaps ≡ length s.own
    → holder s p < length s.own → AreBetween (length s.own) n s.trades.trading.sessions
    → ((y : ℕ) → y < length s.own → (y ≡ holder s p → ⊥) → store_at m (account_of s.trades.trading y) ≡ memory_of s y)
    → SameSeen (memory_of s (holder s p)) (store_at m (account_of s.trades.trading (holder s p))) (prefix s p)
    → SameSeen (memory_of s (holder s p)) (store_at m (account_of s.trades.trading (holder s p))) (back s p)
    → world_seen f (put (with_store s m (holder s p) h) p u)
    ≡ with_peaks_at (holder s p) (peaks h) (world.with_slot (world_seen f s) (slot_id_seen p)
    (seen (store_at m (account_of s.trades.trading (holder s p))) u))
world_after f s m (InLeaf x i) h u n there long heaps lt between same a b =
    let st : ℕ → Store = λ y. store_at m (account_of s.trades.trading y) in
    let ts = get_or s.own x [] in
    let ss = s.trades.trading.sessions in
    let inside : i < length ts = omega (arith, there.1, long.own x there.0) in
    let slots = bank_seen (memory_of s x) (st x) ts i u inside a (seen_left (memory_of s x) (st x) (drop (suc i) ts) (session_contents x ss) b) in
    let leaves = leaves_set f.leaf (memory_of s) st s.own s.heaps x (set ts i u) h lt heaps same in
    let sessions = sessions_same f.names (memory_of s) st x (length s.own) same n ss between
    (seen_right (memory_of s x) (st x) (drop (suc i) ts) (session_contents x ss) b) in
    let w : world.World = world_seen f s in
    (λ k. record { leaves = leaves k; sessions = sessions k; requests = w.requests })
    ∙ (λ k. with_leaves w (set w.leaves x (record (f.leaf x) { slots = slots k; peaks = peaks h })))
    ∙ sym (leaf_then w x i (leaf_seen (f.leaf x) (memory_of s x) ts (get_or s.heaps x h)) (seen (st x) u) (peaks h)
    (leaf_at f.leaf (memory_of s) s.own s.heaps x h lt (omega (arith, lt, heaps))))
world_after f s m (InSession k i) h u n there long heaps lt between same a b =
    let st : ℕ → Store = λ y. store_at m (account_of s.trades.trading y) in
    let ss = s.trades.trading.sessions in
    let q = session_in ss k in
    let x = q.server in
    let o = memory_of s x in
    let ts = get_or s.own x [] in
    let inside : i < length q.slots = omega (arith, there.1, long.slots k there.0) in
    let own = seen_left o (st x) ts (session_contents x (take k ss) ++ q.object ∷ take i q.slots) a in
    let mid = seen_right o (st x) ts (session_contents x (take k ss) ++ q.object ∷ take i q.slots) a in
    let its = seen_right o (st x) (session_contents x (take k ss)) (q.object ∷ take i q.slots) mid in
    let slots = bank_seen o (st x) q.slots i u inside its.1 (seen_left o (st x) (drop (suc i) q.slots) (session_contents x (drop (suc k) ss)) b) in
    let leaves = own_then f s m h u n long heaps between x lt same own in
    let sessions = sessions_set f.names (memory_of s) st x (length s.own) same n ss k (with_slot q i u) between
    (seen_left o (st x) (session_contents x (take k ss)) (q.object ∷ take i q.slots) mid)
    (seen_right o (st x) (drop (suc i) q.slots) (session_contents x (drop (suc k) ss)) b) in
    let w : world.World = world_seen f s in
    let before : world.Session = session_seen f.names o q in
    (λ z. record { leaves = leaves z; sessions = sessions z; requests = w.requests })
    ∙ (λ z. record {
      leaves = set w.leaves x (record (leaf_seen (f.leaf x) o ts (get_or s.heaps x h)) { peaks = peaks h });
      sessions = set w.sessions k (Some (record before { object = its.0 z; slots = slots z }));
      requests = w.requests;
    })
    ∙ sym (session_then w k i x before (leaf_seen (f.leaf x) o ts (get_or s.heaps x h)) (seen (st x) u) (peaks h)
    (session_there (λ y. session_seen f.names (memory_of s y.server) y) ss k there.0)
    (leaf_at f.leaf (memory_of s) s.own s.heaps x h lt (omega (arith, lt, heaps))))
world_after f s m (InObject k) h u n there long heaps lt between same a b =
    let st : ℕ → Store = λ y. store_at m (account_of s.trades.trading y) in
    let ss = s.trades.trading.sessions in
    let q = session_in ss k in
    let x = q.server in
    let o = memory_of s x in
    let ts = get_or s.own x [] in
    let own = seen_left o (st x) ts (session_contents x (take k ss)) a in
    let slots = same_map o (st x) q.slots (seen_left o (st x) q.slots (session_contents x (drop (suc k) ss)) b) in
    let leaves = own_then f s m h u n long heaps between x lt same own in
    let sessions = sessions_set f.names (memory_of s) st x (length s.own) same n ss k (with_object q u) between
    (seen_right o (st x) ts (session_contents x (take k ss)) a) (seen_right o (st x) q.slots (session_contents x (drop (suc k) ss)) b) in
    let w : world.World = world_seen f s in
    let before : world.Session = session_seen f.names o q in
    (λ z. record { leaves = leaves z; sessions = sessions z; requests = w.requests })
    ∙ (λ z. record {
      leaves = set w.leaves x (record (leaf_seen (f.leaf x) o ts (get_or s.heaps x h)) { peaks = peaks h });
      sessions = set w.sessions k (Some (record before { object = seen (st x) u; slots = slots z }));
      requests = w.requests;
    })
    ∙ sym (object_then w k x before (leaf_seen (f.leaf x) o ts (get_or s.heaps x h)) (seen (st x) u) (peaks h)
    (session_there (λ y. session_seen f.names (memory_of s y.server) y) ss k there)
    (leaf_at f.leaf (memory_of s) s.own s.heaps x h lt (omega (arith, lt, heaps))))

-- PEAKS THAT STAY

-- the leaf x has these peaks
record HasPeaks (w : world.World) (x : ℕ) (ps : List ℕ) : Type 0 where
  leaf : world.Leaf
  there : slice_get w.leaves x ≡ Some leaf
  are : leaf.peaks ≡ ps

nothing_raised : (w : world.World) (x : ℕ) (ps : List ℕ) → HasPeaks w x ps → with_peaks_at x ps w ≡ w
nothing_raised w x ps h =
    let e : set w.leaves x (record h.leaf { peaks = ps }) ≡ w.leaves =
    (λ k. set w.leaves x (record h.leaf { peaks = sym h.are k })) ∙ set_there w.leaves x h.leaf h.there in
    peaks_there w x h.leaf ps h.there ∙ ap (with_leaves w) e

peaks_leaf : (w : world.World) (a i x : ℕ) (o : Option world.Leaf) (slot : world.Slot) (ps : List ℕ) (b : Bool) → eqb x a ≡ b → slice_get w.leaves a ≡ o
    → HasPeaks w x ps → HasPeaks (world.put_leaf_slot w o a i slot) x ps
peaks_leaf w a i x None slot ps b e g h = h
peaks_leaf w a i x (Some l) slot ps true e g h =
    let f : x ≡ a = grind (arith, nat_tests, e) in
    let m : world.Leaf = record l { slots = set l.slots i slot } in
    let q : h.leaf ≡ l = some_same h.leaf l (sym h.there ∙ ap (slice_get w.leaves) f ∙ g) in
    record {
      leaf = m;
      there = ap (slice_get (set w.leaves a m)) f ∙ get_set w.leaves a m (there_below w.leaves a l g);
      are = ap (λ (y : world.Leaf). y.peaks) (sym q) ∙ h.are;
    }
peaks_leaf w a i x (Some l) slot ps false e g h =
    let f : x ≡ a → ⊥ = λ y. grind (arith, nat_tests, e, y) in
    record { leaf = h.leaf; there = get_other w.leaves a x (record l { slots = set l.slots i slot }) f ∙ h.there; are = h.are }

peaks_session : (w : world.World) (k i x : ℕ) (o : Option world.Session) (slot : world.Slot) (ps : List ℕ)
    → HasPeaks w x ps → HasPeaks (world.put_session_slot w o k i slot) x ps
peaks_session w k i x None slot ps h = h
peaks_session w k i x (Some q) slot ps h = record { leaf = h.leaf; there = h.there; are = h.are }

peaks_object : (w : world.World) (k x : ℕ) (o : Option world.Session) (slot : world.Slot) (ps : List ℕ)
    → HasPeaks w x ps → HasPeaks (world.put_object w o k slot) x ps
peaks_object w k x None slot ps h = h
peaks_object w k x (Some q) slot ps h = record { leaf = h.leaf; there = h.there; are = h.are }

peaks_stay : (w : world.World) (p : SlotId) (slot : world.Slot) (x : ℕ) (ps : List ℕ) → HasPeaks w x ps → HasPeaks (world.with_slot w (slot_id_seen p) slot) x
    ps
peaks_stay w (InLeaf a i) slot x ps h = peaks_leaf w a i x (slice_get w.leaves a) slot ps (eqb x a) refl refl h
peaks_stay w (InSession k i) slot x ps h = peaks_session w k i x (world.session_at w k) slot ps h
peaks_stay w (InObject k) slot x ps h = peaks_object w k x (world.session_at w k) slot ps h

pub same_peaks : (f : Frame) (s : Slots) (p : SlotId) (slot : world.Slot) (x : ℕ) (h : Heap) → x < length s.own → length s.heaps ≡ length s.own
    → IsHeapOf s x h → with_peaks_at x (peaks h) (world.with_slot (world_seen f s) (slot_id_seen p) slot) ≡ world.with_slot (world_seen f s) (slot_id_seen p)
    slot
same_peaks f s p slot x h lt heaps is =
    nothing_raised (world.with_slot (world_seen f s) (slot_id_seen p) slot) x (peaks h) (peaks_stay (world_seen f s) p slot x (peaks h) (record {
      leaf = leaf_seen (f.leaf x) (memory_of s x) (get_or s.own x []) (get_or s.heaps x h);
      there = leaf_at f.leaf (memory_of s) s.own s.heaps x h lt (omega (arith, lt, heaps));
      are = ap peaks is;
    }))
