-- For callers: a new pool, and what stands after the calls.
use Rattle.std.proofs.Common.{◌≡◌, ℕ, zero, suc, ◌-◌, ◌*◌, ◌<◌, inl, inr, Bool, List, [], ◌++◌, replicate, get_or, set, get_or-set_same, Option, Some, None}
use Rattle.std.proofs.Common.{refl, sym, ap, subst, ◌∙◌, arith}
use Rattle.std.proofs.lemmas.Bool.{cases_eq}
use Rattle.gq_tariff.specs.declared.class.Class.{Class}
use Rattle.gq_store.specs.Store.{Store, word, TakesNew}
use Rattle.gq_heap.specs.declared.heap.Heap.{Heap}
use Rattle.gq_heap.specs.declared.heap.Place.{Place}
use Rattle.gq_heap.specs.Heap.{IsHeap, Owns, SameBytes, KeepsPlaces as KeepsHeap}
use Rattle.gq_heap.proofs.Heap_caller_facts.{heap_stays, heap_there}
use Rattle.gq_pool.specs.declared.pool.Pool.{Pool}
use Rattle.gq_pool.specs.Pools.{places_of, KeepsPool, IsPool, OwnsBoth, KeepsNow, KeepsWithin, Makes, AddsEntry, RemovesEntry, Adds, Removes, PutsInEntry}
use Rattle.gq_pool.proofs.Pool_call_effects.{there_at}

-- the entries of a new pool have no places
pub no_places : (c : Class) (n : ℕ) → places_of c (replicate n None) ≡ []
no_places c zero = refl
no_places c (suc n) = no_places c n

-- a new pool, beside the places that a heap has: of the chunks of both only the table is new
pub pool_beside : (pool : Pool) (heap : Heap) (old new : Store) (size count : ℕ) (others : List Place) (k : KeepsHeap heap old others)
    → Makes old new size count pool
    → (h : KeepsPool pool heap new (replicate count None) others)
    × TakesNew (Owns heap old others k) (OwnsBoth pool heap new (replicate count None) others h) old
pool_beside pool heap old new size count others k m =
    let none : places_of pool.class (replicate count None) ≡ [] = no_places pool.class count in
    let before : (b : KeepsHeap heap old (places_of pool.class (replicate count None) ++ others))
    × ((x : ℕ) → Owns heap old (places_of pool.class (replicate count None) ++ others) b x → Owns heap old others k x) =
    subst (λ ps. (b : KeepsHeap heap old (ps ++ others)) × ((x : ℕ) → Owns heap old (ps ++ others) b x → Owns heap old others k x)) (sym none)
    (k, λ x o. o) in
    let places = places_of pool.class (replicate count None) ++ others in
    let still = heap_stays heap old new places before.0 (λ x o. m.spares x (heap_there heap old places before.0 x o) (λ e. e)) in (
      record {
        table = m.table;
        blocks = still.keeps;
        apart = λ o. let there = heap_there heap old places before.0 pool.table (still.owns pool.table o) in omega (arith, there, m.fresh);
      },
      λ x o. elim o [ inl e ↦ inr (ap old.size e ∙ m.fresh) | inr h ↦ inl (before.1 x (still.owns x h)) ],
    )

pub pool_made : (pool : Pool) (heap : Heap) (old new : Store) (size count : ℕ) → IsHeap heap old → Makes old new size count pool → IsPool pool heap new
pool_made pool heap old new size count h m =
    record { held = replicate count None; others = h.places; keeps = (pool_beside pool heap old new size count h.places h.keeps m).0 }

pub after_adds : (pool : Pool) (before after : Heap) (old new : Store) (i : ℕ) → IsPool pool before old → Adds pool before after old new i
    → IsPool pool after new
after_adds pool before after old new i p a = record { held = set p.held i (Some a.place); others = p.others; keeps = (a.keeps p.held p.others p.keeps).keeps }

pub after_removes : (pool : Pool) (before after : Heap) (old new : Store) (i : ℕ) → IsPool pool before old → Removes pool before after old new i
    → IsPool pool after new
after_removes pool before after old new i p r = record { held = set p.held i None; others = p.others; keeps = (r.keeps p.held p.others p.keeps).keeps }

pub after_puts : (pool : Pool) (heap : Heap) (old new : Store) (i k : ℕ) (bytes : List ℕ) → IsPool pool heap old → PutsInEntry pool heap old new i k bytes
    → IsPool pool heap new
after_puts pool heap old new i k bytes p s = record { held = p.held; others = p.others; keeps = (s.keeps p.held p.others p.keeps).keeps }

-- ---- whatever take and give answer
-- what stands after `take`: the entry is there, at a place
pub record IsTaken (pool : Pool) (after : Heap) (old new : Store) (i : ℕ) (held : List (Option ℕ)) (others : List Place) (owned : ℕ → Type 0) : Type 0 where
  pub then : List (Option ℕ)
  pub place : ℕ
  pub at : get_or then i None ≡ Some place
  pub now : KeepsNow pool after old new then others owned
  pub bytes : SameBytes old new (places_of pool.class held ++ others)

pub taken : (pool : Pool) (before after : Heap) (old new : Store) (i : ℕ) (added : Bool) (held : List (Option ℕ)) (others : List Place)
    (k : KeepsPool pool before old held others) → i < pool.count → AddsEntry pool before after old new i added
    → IsTaken pool after old new i held others (OwnsBoth pool before old held others k)
taken pool before after old new i added held others k l t = elim (cases_eq (word (old.byte pool.table) (4 * i)) 0) [
  | inl e ↦
      let a = (t.absent e).1 in
      record {
        then = set held i (Some a.place);
        place = a.place;
        at = get_or-set_same held i (Some a.place) None (omega (arith, l, k.table.count));
        now = a.keeps held others k;
        bytes = a.bytes held others k;
      }
  | inr ne ↦
      let same = t.there ne in
      let n = word (old.byte pool.table) (4 * i) in
      let stays : KeepsNow pool before old old held others (OwnsBoth pool before old held others k) = record
      { keeps = k; owns = λ x o. inl o; spares = λ x there other. record { size = refl; bytes = λ j. refl } } in
      record {
        then = held;
        place = n - 1;
        at = there_at pool before old held others i n k l refl (omega (arith, ne));
        now = subst (λ st. KeepsNow pool after old st held others (OwnsBoth pool before old held others k)) (sym same.2)
            (subst (λ h. KeepsNow pool h old old held others (OwnsBoth pool before old held others k)) (sym same.1) stays);
        bytes = subst (λ st. SameBytes old st (places_of pool.class held ++ others)) (sym same.2) (λ p rest ins j below. refl);
      }
]

-- what stands after `give`
pub record IsGiven (pool : Pool) (after : Heap) (old new : Store) (i : ℕ) (held : List (Option ℕ)) (others : List Place) (owned : ℕ → Type 0) : Type 0 where
  pub then : List (Option ℕ)
  pub now : KeepsWithin pool after old new then others owned
  pub bytes : SameBytes old new (places_of pool.class then ++ others)

pub given : (pool : Pool) (before after : Heap) (old new : Store) (i : ℕ) (removed : Bool) (held : List (Option ℕ)) (others : List Place)
    (k : KeepsPool pool before old held others) → RemovesEntry pool before after old new i removed
    → IsGiven pool after old new i held others (OwnsBoth pool before old held others k)
given pool before after old new i removed held others k g = elim (cases_eq (word (old.byte pool.table) (4 * i)) 0) [
  | inl e ↦
      let same = g.absent e in
      let stays : KeepsWithin pool before old old held others (OwnsBoth pool before old held others k) = record
      { keeps = k; owns = λ x o. o; spares = λ x there other. record { size = refl; bytes = λ j. refl } } in
      record {
        then = held;
        now = subst (λ st. KeepsWithin pool after old st held others (OwnsBoth pool before old held others k)) (sym same.2)
            (subst (λ h. KeepsWithin pool h old old held others (OwnsBoth pool before old held others k)) (sym same.1) stays);
        bytes = subst (λ st. SameBytes old st (places_of pool.class held ++ others)) (sym same.2) (λ p rest ins j below. refl);
      }
  | inr ne ↦ let r = (g.there ne).1 in record { then = set held i None; now = r.keeps held others k; bytes = r.bytes held others k }
]
