-- For callers: the entries of a pool as a list, and what the calls change of it.
use Rattle.std.proofs.Common.{◌≡◌, ℕ, zero, suc, ◌+◌, ◌*◌, ◌<◌, ◌≤◌, List, [], ◌∷◌, ◌++◌, length, map, replicate, get_or, set, take, drop}
use Rattle.std.proofs.Common.{Option, Some, None, refl, sym, ap, ◌∙◌, arith}
use Rattle.std.proofs.lemmas.List.{map-set, set-set}
use Rattle.std.proofs.lemmas.List.FromFn.{fill_by_all}
use Rattle.gq_store.specs.Store.{Store, word}
use Rattle.gq_store.specs.Chunk_bytes.{listed}
use Rattle.gq_store.proofs.Stored_byte_lists.{listed_same, listed_zero, listed_put, listed_one}
use Rattle.gq_heap.specs.declared.heap.Heap.{Heap}
use Rattle.gq_heap.specs.declared.heap.Place.{Place}
use Rattle.gq_heap.specs.declared.heap.Place.TheVariants.{Small}
use Rattle.gq_heap.specs.Heap.{SameBytes, byte_of}
use Rattle.gq_pool.specs.declared.pool.Pool.{Pool}
use Rattle.gq_pool.specs.Pools.{word_of, places_of, IsTable, KeepsPool, Makes, Adds, Removes, PutsInEntry, entry_of, held_of, entry_bytes, entries_of}
use Rattle.gq_pool.proofs.Present_entry_cells.{goes}
use Rattle.gq_pool.proofs.Pool_call_effects.{entry_room}

entry_back : (o : Option ℕ) → entry_of (word_of o) ≡ o
entry_back None = refl
entry_back (Some q) = let e : q + 1 ≡ suc q = omega arith in ap entry_of e

-- the table says which places there are
pub held_is : (pool : Pool) (st : Store) (held : List (Option ℕ)) → IsTable pool st held → held_of pool st ≡ held
held_is pool st held t = sym (fill_by_all (λ i. entry_of (word (st.byte pool.table) (4 * i))) held pool.count None t.count
    (λ k l. sym (ap entry_of (t.words k (omega (arith, l, t.count))) ∙ entry_back (get_or held k None))))

pub entries_are : (pool : Pool) (st : Store) (held : List (Option ℕ)) → IsTable pool st held → entries_of pool st ≡ map (entry_bytes pool st) held
entries_are pool st held t = ap (map (entry_bytes pool st)) (held_is pool st held t)

-- ---- lists of entries
map_same : {A : Type 0} (f g : Option ℕ → A) (held : List (Option ℕ)) → ((i : ℕ) → i < length held → f (get_or held i None) ≡ g (get_or held i None))
    → map f held ≡ map g held
map_same f g [] h = refl
map_same f g (o ∷ held) h =
    let here = h zero (omega arith) in
    let rest = map_same f g held (λ i l. h (suc i) (omega arith)) in
    λ t. here t ∷ rest t

map_none : (pool : Pool) (st : Store) (n : ℕ) → map (entry_bytes pool st) (replicate n None) ≡ replicate n None
map_none pool st zero = refl
map_none pool st (suc n) = ap (λ xs. None ∷ xs) (map_none pool st n)

set_own : (held : List (Option ℕ)) (i q : ℕ) → i < length held → get_or held i None ≡ Some q → set held i (Some q) ≡ held
set_own [] i q l e = refl
set_own (o ∷ held) zero q l e = ap (λ x. x ∷ held) (sym e)
set_own (o ∷ held) (suc i) q l e = ap (λ h. o ∷ h) (set_own held i q (omega arith) e)

entry_same : (pool : Pool) (old new : Store) (o : Option ℕ) → ((q : ℕ) → o ≡ Some q → (k : ℕ) → k < pool.size
    → byte_of new (Small pool.class q) k ≡ byte_of old (Small pool.class q) k) → entry_bytes pool new o ≡ entry_bytes pool old o
entry_same pool old new None h = refl
entry_same pool old new (Some q) h =
    ap Some (listed_same pool.size (byte_of new (Small pool.class q)) (byte_of old (Small pool.class q)) 0 (h q refl))

-- where the places of these entries read as before, so do the entries
pub entries_same : (pool : Pool) (old new : Store) (held : List (Option ℕ)) (others : List Place) (t : Store) (all : List (Option ℕ)) → IsTable pool t all
    → SameBytes old new (places_of pool.class held ++ others) → map (entry_bytes pool new) held ≡ map (entry_bytes pool old) held
entries_same pool old new held others t all is same = map_same (entry_bytes pool new) (entry_bytes pool old) held
    (λ i l. entry_same pool old new (get_or held i None) (λ q e k below.
    same (Small pool.class q) (places_of pool.class (set held i None) ++ others) (goes pool.class held i q others l e) k
    (omega (arith, entry_room pool t all is))))

-- ---- calls
pub entries_made : (pool : Pool) (old new : Store) (size count : ℕ) → Makes old new size count pool → entries_of pool new ≡ replicate count None
entries_made pool old new size count m = entries_are pool new (replicate count None) m.table ∙ map_none pool new count

pub entries_added : (pool : Pool) (before after : Heap) (old new : Store) (i : ℕ) (held : List (Option ℕ)) (others : List Place)
    → KeepsPool pool before old held others → Adds pool before after old new i
    → entries_of pool new ≡ set (entries_of pool old) i (Some (replicate pool.size 0))
entries_added pool before after old new i held others k a =
    let now = (a.keeps held others k).keeps in
    let zeros : entry_bytes pool new (Some a.place) ≡ Some (replicate pool.size 0) =
    ap Some (listed_zero pool.size (byte_of new (Small pool.class a.place)) a.zero) in
    let same = entries_same pool old new held others old held k.table (a.bytes held others k) in
    entries_are pool new (set held i (Some a.place)) now.table
    ∙ map-set (entry_bytes pool new) held i (Some a.place)
    ∙ ap (λ xs. set xs i (entry_bytes pool new (Some a.place))) (same ∙ sym (entries_are pool old held k.table))
    ∙ ap (set (entries_of pool old) i) zeros

pub entries_removed : (pool : Pool) (before after : Heap) (old new : Store) (i : ℕ) (held : List (Option ℕ)) (others : List Place)
    → KeepsPool pool before old held others → Removes pool before after old new i → entries_of pool new ≡ set (entries_of pool old) i None
entries_removed pool before after old new i held others k r =
    let now = (r.keeps held others k).keeps in
    entries_are pool new (set held i None) now.table
    ∙ entries_same pool old new (set held i None) others old held k.table (r.bytes held others k)
    ∙ map-set (entry_bytes pool old) held i None
    ∙ ap (λ xs. set xs i None) (sym (entries_are pool old held k.table))

-- bytes that are put into an entry that is there
module _ (pool : Pool) (heap : Heap) (old new : Store) (i j : ℕ) (bytes : List ℕ) (held : List (Option ℕ)) (others : List Place)
    (k : KeepsPool pool heap old held others) (l : i < pool.count) (q : ℕ) (at : get_or held i None ≡ Some q)
    (p : PutsInEntry pool heap old new i j bytes) where
  entry_then : entries_of pool new ≡ set (entries_of pool old) i (entry_bytes pool new (Some q))
  entry_then =
      let now = (p.keeps held others k).keeps in
      let there : i < length held = omega (arith, l, k.table.count) in
      let rest = entries_same pool old new (set held i None) others old held k.table (p.others held others k) in
      entries_are pool new held now.table
      ∙ ap (map (entry_bytes pool new)) (sym (set-set held i None (Some q) ∙ set_own held i q there at))
      ∙ map-set (entry_bytes pool new) (set held i None) i (Some q)
      ∙ ap (λ xs. set xs i (entry_bytes pool new (Some q))) (rest ∙ map-set (entry_bytes pool old) held i None)
      ∙ set-set (map (entry_bytes pool old) held) i None (entry_bytes pool new (Some q))
      ∙ ap (λ xs. set xs i (entry_bytes pool new (Some q))) (sym (entries_are pool old held k.table))

  abbrev before : List ℕ
  before = listed pool.size (byte_of old (Small pool.class q))

  pub entries_put : j + length bytes ≤ pool.size
      → entries_of pool new ≡ set (entries_of pool old) i (Some (take j before ++ bytes ++ drop (j + length bytes) before))
  entries_put inside = entry_then ∙ ap (λ xs. set (entries_of pool old) i (Some xs))
      (listed_put pool.size (byte_of old (Small pool.class q)) (byte_of new (Small pool.class q)) j bytes inside (p.put held others k q at))

-- one byte of it
pub entries_set : (pool : Pool) (heap : Heap) (old new : Store) (i j b : ℕ) (held : List (Option ℕ)) (others : List Place)
    → KeepsPool pool heap old held others → i < pool.count → (q : ℕ) → get_or held i None ≡ Some q → PutsInEntry pool heap old new i j (b ∷ []) → j < pool.size
    → entries_of pool new ≡ set (entries_of pool old) i (Some (set (listed pool.size (byte_of old (Small pool.class q))) j b))
entries_set pool heap old new i j b held others k l q at p inside =
    entry_then pool heap old new i j (b ∷ []) held others k l q at p
    ∙ ap (λ xs. set (entries_of pool old) i (Some xs))
    (listed_one pool.size (byte_of old (Small pool.class q)) (byte_of new (Small pool.class q)) j b inside (p.put held others k q at))
