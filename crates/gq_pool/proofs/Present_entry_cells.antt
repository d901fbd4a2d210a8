-- Entries and the places of those that are there.
use Rattle.std.proofs.Common.{◌≡◌, ℕ, zero, suc, ◌+◌, ◌-◌, ◌*◌, ◌<◌, ◌≤◌, inl, inr, List, [], ◌∷◌, ◌++◌, append_assoc, length, length-set, get_or, set, Option}
use Rattle.std.proofs.Common.{Some, None, refl, sym, ap, subst, ◌∙◌, arith, get_or-set_same, get_or-set_other}
use Rattle.std.proofs.lemmas.Bool.{cases_eq}
use Rattle.gq_tariff.specs.declared.class.Class.{Class}
use Rattle.gq_store.specs.Store.{Store, word, Writes, SameChunk}
use Rattle.gq_heap.specs.declared.heap.Place.{Place}
use Rattle.gq_heap.specs.declared.heap.Place.TheVariants.{Small}
use Rattle.gq_heap.specs.Heap.{Inserts}
use Rattle.gq_heap.proofs.Heap_caller_facts.{inserts_among}
use Rattle.gq_pool.specs.declared.pool.Pool.{Pool}
use Rattle.gq_pool.specs.Pools.{word_of, places_of, IsTable}

-- an absent entry comes
comes_among : (c : Class) (held : List (Option ℕ)) (i q : ℕ) → i < length held → get_or held i None ≡ None
    → Inserts (Small c q) (places_of c held) (places_of c (set held i (Some q)))
comes_among c [] i q l e = absurd (omega arith)
comes_among c (None ∷ held) zero q l e = ([], places_of c held, refl, refl)
comes_among c (Some r ∷ held) zero q l e = absurd (cc)
comes_among c (None ∷ held) (suc i) q l e = comes_among c held i q (omega arith) e
comes_among c (Some r ∷ held) (suc i) q l e =
    let h = comes_among c held i q (omega arith) e in
    (Small c r ∷ h.0, h.1, ap (λ ps. Small c r ∷ ps) h.2, ap (λ ps. Small c r ∷ ps) h.3)

pub comes : (c : Class) (held : List (Option ℕ)) (i q : ℕ) (others : List Place) → i < length held → get_or held i None ≡ None
    → Inserts (Small c q) (places_of c held ++ others) (places_of c (set held i (Some q)) ++ others)
comes c held i q others l e = inserts_among (Small c q) (places_of c held) (places_of c (set held i (Some q))) others (comes_among c held i q l e)

-- an entry that is there goes
goes_among : (c : Class) (held : List (Option ℕ)) (i q : ℕ) → i < length held → get_or held i None ≡ Some q
    → Inserts (Small c q) (places_of c (set held i None)) (places_of c held)
goes_among c [] i q l e = absurd (omega arith)
goes_among c (None ∷ held) zero q l e = absurd (cc)
goes_among c (Some r ∷ held) zero q l e = let same : r ≡ q = cc in ([], places_of c held, refl, ap (λ x. Small c x ∷ places_of c held) same)
goes_among c (None ∷ held) (suc i) q l e = goes_among c held i q (omega arith) e
goes_among c (Some r ∷ held) (suc i) q l e =
    let h = goes_among c held i q (omega arith) e in
    (Small c r ∷ h.0, h.1, ap (λ ps. Small c r ∷ ps) h.2, ap (λ ps. Small c r ∷ ps) h.3)

pub goes : (c : Class) (held : List (Option ℕ)) (i q : ℕ) (others : List Place) → i < length held → get_or held i None ≡ Some q
    → Inserts (Small c q) (places_of c (set held i None) ++ others) (places_of c held ++ others)
goes c held i q others l e = inserts_among (Small c q) (places_of c (set held i None)) (places_of c held) others (goes_among c held i q l e)

-- the table of a pool whose chunk did not change
pub table_stays : (pool : Pool) (old new : Store) (held : List (Option ℕ)) → SameChunk old new pool.table → IsTable pool old held → IsTable pool new held
table_stays pool old new held same t = record {
  pages = same.size ∙ t.pages;
  number = t.number;
  count = t.count;
  some = t.some;
  few = t.few;
  entry = t.entry;
  class = t.class;
  words = λ i l. omega (arith, t.words i l, same.bytes (4 * i), same.bytes (4 * i + 1), same.bytes (4 * i + 2), same.bytes (4 * i + 3));
}

-- the table with another word
pub table_set : (pool : Pool) (old new : Store) (held : List (Option ℕ)) (i : ℕ) (o : Option ℕ) → i < length held → IsTable pool old held
    → Writes old new pool.table (4 * i) 4 → word (new.byte pool.table) (4 * i) ≡ word_of o → IsTable pool new (set held i o)
table_set pool old new held i o l t w stored = record {
  pages = w.size pool.table ∙ t.pages;
  number = t.number;
  count = length-set held i o ∙ t.count;
  some = t.some;
  few = t.few;
  entry = t.entry;
  class = t.class;
  words = λ j below. elim (cases_eq j i) [
    | inl e ↦
        subst (λ x. word (new.byte pool.table) (4 * x) ≡ word_of (get_or (set held i o) x None)) (sym e)
        (stored ∙ sym (ap word_of (get_or-set_same held i o None l)))
    | inr ne ↦
        let there : j < length held = omega (arith, length-set held i o) in
        let same : word_of (get_or (set held i o) j None) ≡ word_of (get_or held j None) = ap word_of (get_or-set_other held i j o None ne) in
        omega (
          arith,
          t.words j there,
          same,
          w.elsewhere pool.table (4 * j) (λ e a b. omega (arith, ne)),
          w.elsewhere pool.table (4 * j + 1) (λ e a b. omega (arith, ne)),
          w.elsewhere pool.table (4 * j + 2) (λ e a b. omega (arith, ne)),
          w.elsewhere pool.table (4 * j + 3) (λ e a b. omega (arith, ne)),
        )
  ];
}

-- what a word says of its entry
pub none_at : (o : Option ℕ) (n : ℕ) → n ≡ word_of o → n ≡ 0 → o ≡ None
none_at None n e z = refl
none_at (Some q) n e z = absurd (omega arith)

pub some_at : (o : Option ℕ) (n : ℕ) → n ≡ word_of o → 0 < n → o ≡ Some (n - 1)
some_at None n e z = absurd (omega arith)
some_at (Some q) n e z = ap Some (omega arith)

-- ---- entries removed one after the other
-- the first n entries are removed
abbrev pub cleared : ℕ → List (Option ℕ) → List (Option ℕ)
cleared zero held = held
cleared (suc n) held = set (cleared n held) n None

length-cleared : (n : ℕ) (held : List (Option ℕ)) → length (cleared n held) ≡ length held
length-cleared zero held = refl
length-cleared (suc n) held = length-set (cleared n held) n None ∙ length-cleared n held

none_cleared : (n : ℕ) (held : List (Option ℕ)) → n ≤ length held → (i : ℕ) → i < n → get_or (cleared n held) i None ≡ None
none_cleared zero held h i l = absurd (omega arith)
none_cleared (suc n) held h i l = elim (cases_eq i n) [
  | inl e ↦ ap (λ x. get_or (set (cleared n held) n None) x None) e ∙ get_or-set_same (cleared n held) n None None (omega (arith, length-cleared n held))
  | inr ne ↦ get_or-set_other (cleared n held) n i None None ne ∙ none_cleared n held (omega arith) i (omega (arith, ne))
]

no_places : (c : Class) (held : List (Option ℕ)) → ((i : ℕ) → i < length held → get_or held i None ≡ None) → places_of c held ≡ []
no_places c [] h = refl
no_places c (None ∷ held) h = no_places c held (λ i l. h (suc i) (omega arith))
no_places c (Some q ∷ held) h = let e = h zero (omega arith) in absurd (cc)

pub places_cleared : (c : Class) (n : ℕ) (held : List (Option ℕ)) → n ≡ length held → places_of c (cleared n held) ≡ []
places_cleared c n held e = no_places c (cleared n held) (λ i l. none_cleared n held (omega arith) i (omega (arith, l, length-cleared n held)))

-- an absent entry is removed by nothing
pub set_none : (held : List (Option ℕ)) (i : ℕ) → get_or held i None ≡ None → set held i None ≡ held
set_none [] i e = refl
set_none (o ∷ held) zero e = ap (λ x. x ∷ held) (sym e)
set_none (o ∷ held) (suc i) e = ap (λ h. o ∷ h) (set_none held i e)

-- a place of the others is one of all
pub among_others : (p : Place) (prefix rest others : List Place) → Inserts p rest others → Inserts p (prefix ++ rest) (prefix ++ others)
among_others p prefix rest others ins = (
  prefix ++ ins.0,
  ins.1,
  ap (λ ps. prefix ++ ps) ins.2 ∙ sym (append_assoc prefix ins.0 ins.1),
  ap (λ ps. prefix ++ ps) ins.3 ∙ sym
      (append_assoc prefix ins.0 (p ∷ ins.1)),
)
