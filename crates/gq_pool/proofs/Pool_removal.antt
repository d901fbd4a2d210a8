-- All entries of a pool are removed, and then its table goes.
use Rattle.std.proofs.Common.{◌≡◌, ℕ, suc, ◌+◌, ◌*◌, ◌<◌, inl, inr, List, ◌++◌, set, Bool, Option, None, add-one, refl, sym, ap, subst, ◌∙◌, arith}
use Rattle.std.proofs.lemmas.Bool.{cases_eq}
use Rattle.gq_store.specs.Store.{Store, word, one_more, Shrinks, SameChunk}
use Rattle.gq_heap.specs.declared.heap.Heap.{Heap}
use Rattle.gq_heap.specs.declared.heap.Place.{Place}
use Rattle.gq_heap.specs.Heap.{Owns, SameBytes, peaks, charge, charge_caps, KeepsStill, KeepsWithin as HeapWithin}
use Rattle.gq_heap.proofs.Heap_caller_facts.{heap_stays}
use Rattle.gq_pool.specs.declared.pool.Pool.{Pool}
use Rattle.gq_pool.specs.Pools.{places_of, IsAbsent, KeepsPool, IsPool, OwnsBoth, KeepsWithin, RemovesEntry, Ends}
use Rattle.gq_pool.proofs.Present_entry_cells.{cleared, places_cleared, set_none, among_others}
use Rattle.gq_pool.proofs.Pool_call_effects.{absent_at}

composed : (pool : Pool) (middle after : Heap) (old mid new : Store) (first second : List (Option ℕ)) (others : List Place) (owned : ℕ → Type 0)
    → (a : KeepsWithin pool middle old mid first others owned) → KeepsWithin pool after mid new second others (OwnsBoth pool middle mid first others a.keeps)
    → KeepsWithin pool after old new second others owned
composed pool middle after old mid new first second others owned a b = record {
  keeps = b.keeps;
  owns = λ x o. a.owns x (b.owns x o);
  spares = λ x there other.
      let s = a.spares x there other in
      let t = b.spares x (omega (arith, s.size, there)) (λ o. other (a.owns x o)) in
      record { size = t.size ∙ s.size; bytes = λ j. t.bytes j ∙ s.bytes j };
}

-- what stands after the first n entries are removed
pub record Cleared (pool : Pool) (before now : Heap) (old new : Store) (n : ℕ) : Type 0 where
  pub keeps : (held : List (Option ℕ)) (others : List Place) (k : KeepsPool pool before old held others)
      → KeepsWithin pool now old new (cleared n held) others (OwnsBoth pool before old held others k)
  pub bytes : (held : List (Option ℕ)) (others : List Place) → KeepsPool pool before old held others → SameBytes old new others
  pub left : new.left ≡ old.left
  pub caps : new.caps ≡ old.caps
  pub peaks : peaks now ≡ peaks before
  pub charge : charge now ≡ charge before
  pub charge_caps : charge_caps now ≡ charge_caps before

pub none_cleared : (pool : Pool) (before : Heap) (old : Store) → Cleared pool before before old old 0
none_cleared pool before old = record {
  keeps = λ held others k. record { keeps = k; owns = λ x o. o; spares = λ x there other. record { size = refl; bytes = λ j. refl } };
  bytes = λ held others k p rest ins i below. refl;
  left = refl;
  caps = refl;
  peaks = refl;
  charge = refl;
  charge_caps = refl;
}

pub pool_still : (pool : Pool) (before now : Heap) (old new : Store) (n : ℕ) → IsPool pool before old → Cleared pool before now old new n → IsPool pool now new
pool_still pool before now old new n p c = record { held = cleared n p.held; others = p.others; keeps = (c.keeps p.held p.others p.keeps).keeps }

cleared_absent : (pool : Pool) (before now : Heap) (old new : Store) (n : ℕ) → n < pool.count → IsAbsent pool new n → Cleared pool before now old new n
    → Cleared pool before now old new (suc n)
cleared_absent pool before now old new n l a c = record {
  keeps = λ held others k.
      let kept = c.keeps held others k in
      subst (λ h. KeepsWithin pool now old new h others (OwnsBoth pool before old held others k))
      (sym (set_none (cleared n held) n (absent_at pool now new (cleared n held) others n kept.keeps l a))) kept;
  bytes = c.bytes;
  left = c.left;
  caps = c.caps;
  peaks = c.peaks;
  charge = c.charge;
  charge_caps = c.charge_caps;
}

next_cleared : (pool : Pool) (before middle after : Heap) (old mid new : Store) (n : ℕ) (removed : Bool) → n < pool.count → Cleared pool before middle old mid n
    → RemovesEntry pool middle after mid new n removed → Cleared pool before after old new (suc n)
next_cleared pool before middle after old mid new n removed l c g = elim (cases_eq (word (mid.byte pool.table) (4 * n)) 0) [
  | inl a ↦
      let same = g.absent a in
      subst (λ st. Cleared pool before after old st (suc n)) (sym same.2)
      (subst (λ h. Cleared pool before h old mid (suc n)) (sym same.1) (cleared_absent pool before middle old mid n l a c))
  | inr there ↦
      let r = (g.there there).1 in
      record {
        keeps = λ held others k.
            let kept = c.keeps held others k in
            composed pool middle after old mid new (cleared n held) (set (cleared n held) n None) others (OwnsBoth pool before old held others k) kept
            (r.keeps (cleared n held) others kept.keeps);
        bytes = λ held others k p rest ins i below.
            let kept = c.keeps held others k in
            r.bytes (cleared n held) others kept.keeps p (places_of pool.class (set (cleared n held) n None) ++ rest)
            (among_others p (places_of pool.class (set (cleared n held) n None)) rest others ins) i below
            ∙ c.bytes held others k p rest ins i below;
        left = r.left ∙ c.left;
        caps = r.caps ∙ c.caps;
        peaks = r.peaks ∙ c.peaks;
        charge = r.charge ∙ c.charge;
        charge_caps = r.charge_caps ∙ c.charge_caps;
      }
]

pub one_more_cleared : (pool : Pool) (before middle after : Heap) (old mid new : Store) (n : ℕ) (removed : Bool) → n < pool.count
    → Cleared pool before middle old mid n
    → RemovesEntry pool middle after mid new n removed → Cleared pool before after old new (n + 1)
one_more_cleared pool before middle after old mid new n removed l c g =
    subst (Cleared pool before after old new) (sym (add-one n)) (next_cleared pool before middle after old mid new n removed l c g)

module _ (pool : Pool) (before after : Heap) (old mid new : Store) (n : ℕ) (all : n ≡ pool.count) (c : Cleared pool before after old mid n)
    (s : Shrinks mid new pool.table) where
  module _ (held : List (Option ℕ)) (others : List Place) (k : KeepsPool pool before old held others) where
    kept : KeepsWithin pool after old mid (cleared n held) others (OwnsBoth pool before old held others k)
    kept = c.keeps held others k

    still : KeepsStill after mid new (places_of pool.class (cleared n held) ++ others)
        (Owns after mid (places_of pool.class (cleared n held) ++ others) kept.keeps.blocks)
    still = heap_stays after mid new (places_of pool.class (cleared n held) ++ others) kept.keeps.blocks (λ x own.
        let ne : x ≡ pool.table → ⊥ = λ e. kept.keeps.apart
        (subst (Owns after mid (places_of pool.class (cleared n held) ++ others) kept.keeps.blocks) e own) in
        record { size = s.sizes x ne; bytes = λ j. s.bytes x j ne })

    still_others : KeepsStill after mid new others (Owns after mid (places_of pool.class (cleared n held) ++ others) kept.keeps.blocks)
    still_others = subst (λ ps. KeepsStill after mid new (ps ++ others) (Owns after mid (places_of pool.class (cleared n held) ++ others) kept.keeps.blocks))
        (places_cleared pool.class n held (all ∙ sym k.table.count)) still

    end_bytes : SameBytes old new others
    end_bytes p rest ins i below =
        still.bytes p (places_of pool.class (cleared n held) ++ rest) (among_others p (places_of pool.class (cleared n held)) rest others ins) i below
        ∙ c.bytes held others k p rest ins i below

    end_spares : (x : ℕ) → 0 < old.size x → (OwnsBoth pool before old held others k x → ⊥) → SameChunk old new x
    end_spares x there other =
        let ne : x ≡ pool.table → ⊥ = λ e. other (inl e) in
        let first = kept.spares x there other in
        record { size = s.sizes x ne ∙ first.size; bytes = λ j. s.bytes x j ne ∙ first.bytes j }

    end_keeps : HeapWithin after old new others (OwnsBoth pool before old held others k)
    end_keeps = record { keeps = still_others.keeps; owns = λ x o. kept.owns x (inr (still_others.owns x o)); spares = end_spares }

  pub ends : IsPool pool before old → Ends pool before after old new
  ends p = record {
    keeps = end_keeps;
    bytes = end_bytes;
    gone = s.gone;
    left = omega (arith, s.back, c.left, (c.keeps p.held p.others p.keeps).keeps.table.pages);
    caps = s.caps ∙ ap one_more c.caps;
    peaks = c.peaks;
    charge = c.charge;
    charge_caps = c.charge_caps;
  }

pub table_left : (pool : Pool) (before now : Heap) (old new : Store) (n : ℕ) → IsPool pool before old → Cleared pool before now old new n
    → 0 < new.size pool.table
table_left pool before now old new n p c =
    let t = (c.keeps p.held p.others p.keeps).keeps.table in
    omega (arith, t.pages, t.some)
