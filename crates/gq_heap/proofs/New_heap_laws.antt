-- A new heap, and blocks that lie apart.
use Rattle.std.proofs.Common.{◌≡◌, ℕ, zero, suc, ◌+◌, ◌*◌, ◌/◌, ◌%◌, ◌<◌, inl, inr, List, [], ◌∷◌, get_or, refl, sym, ap, subst, ◌∙◌, arith}
use Rattle.std.proofs.lemmas.Bool.{cases_eq}
use Rattle.gq_store.specs.Store.{Store}
use Rattle.gq_heap.specs.declared.bin.Bin.{Bin}
use Rattle.gq_heap.specs.declared.heap.Heap.{Heap}
use Rattle.gq_heap.specs.declared.heap.Place.{Place}
use Rattle.gq_heap.specs.declared.heap.Place.TheVariants.{Small, Large}
use Rattle.gq_heap.specs.List_occurrences.{times}
use Rattle.gq_heap.specs.internal.Chain.{Adds}
use Rattle.gq_heap.specs.Classes.{index_of, size_at, places_at}
use Rattle.gq_tariff.specs.Prices.{up}
use Rattle.gq_heap.specs.internal.Bin.{KeepsBin}
use Rattle.gq_heap.specs.Heap.{no_bin, numbers, large_chunks, Inserts, chunk_of, offset_of, room_of, KeepsPlaces}
use Rattle.gq_heap.proofs.Cell_page_numbers.{places_apart}
use Rattle.gq_heap.proofs.Free_cell_chains.{times_same}
use Rattle.gq_heap.proofs.Heap_cell_lists.{small_same, small_other, small_large, large_adds, large_numbers}
use Rattle.gq_heap.proofs.ClassLaws.{sizes, index_below}
use Rattle.gq_heap.proofs.Heap_call_invariants.{small_chunk}

abbrev pub eight : List Bin
eight = no_bin ∷ no_bin ∷ no_bin ∷ no_bin ∷ no_bin ∷ no_bin ∷ no_bin ∷ no_bin ∷ []

get_eight : (i : ℕ) → get_or eight i no_bin ≡ no_bin
get_eight zero = refl
get_eight (suc zero) = refl
get_eight (suc (suc zero)) = refl
get_eight (suc (suc (suc zero))) = refl
get_eight (suc (suc (suc (suc zero)))) = refl
get_eight (suc (suc (suc (suc (suc zero))))) = refl
get_eight (suc (suc (suc (suc (suc (suc zero)))))) = refl
get_eight (suc (suc (suc (suc (suc (suc (suc zero))))))) = refl
get_eight (suc (suc (suc (suc (suc (suc (suc (suc i)))))))) = refl

up_none : (z : ℕ) → up (z * 0) ≡ 0
up_none z = omega arith

empty_bin : (z p : ℕ) (st : Store) → KeepsBin z p no_bin st [] []
empty_bin z p st = record {
  free = [];
  places = record { chain = refl; each = λ q. refl; once = λ c. omega arith; chunk = λ c t. absurd (omega arith); all = omega arith };
  count = refl;
  peak = omega arith;
  charge = up_none z ∙ omega arith;
}

pub new_keeps : (heap : Heap) → heap.bins ≡ eight → heap.large ≡ 0 → heap.large_count ≡ 0 → (st : Store) → KeepsPlaces heap st []
new_keeps heap bins large count st = record {
  mine = λ i. [];
  bin = λ i l. rw (ap (λ ss. get_or ss i no_bin) bins ∙ get_eight i) (empty_bin (size_at i) (places_at i) st);
  apart = λ i j k a b s t. absurd (omega arith);
  large = tt;
  large_once = λ k. omega arith;
  large_apart = λ i k l t. refl;
  large_sum = large;
  large_count = count;
}

-- two blocks in use have no byte in common
pub blocks_apart : (heap : Heap) (st : Store) (places rest : List Place) (p q : Place) (others : List Place) → KeepsPlaces heap st places
    → Inserts p rest places
    → Inserts q others rest
    → (i j : ℕ) → i < room_of p → j < room_of q → chunk_of p ≡ chunk_of q → offset_of p + i ≡ offset_of q + j → ⊥
blocks_apart heap st places rest (Small c a) (Small d b) others k ins ins' i j below below' chunk offset =
    let s = small_chunk heap st places rest c a k ins in
    let f = k.bin (index_of c) (index_below c) in
    let counts = small_same c a rest places ins in
    elim (cases_eq (index_of d) (index_of c)) [
      | inl e ↦
          let bs : Adds b (numbers (index_of c) others) (numbers (index_of c) rest) = subst (λ x. Adds b (numbers x others) (numbers x rest)) e
          (small_same d b others rest ins') in
          let same_chunk : a / places_at (index_of c) ≡ b / places_at (index_of c) = chunk ∙ ap (λ x. b / places_at x) e in
          let same_offset : a % places_at (index_of c) * size_at (index_of c) + i ≡ b % places_at (index_of c) * size_at (index_of c) + j = offset ∙ ap
          (λ x. b % places_at x * size_at x + j) e in
          let small : j < size_at (index_of c) = subst (λ x. j < size_at x) e below' in
          elim (cases_eq a b) [
            | inl ab ↦
                let two : times a (numbers (index_of c) rest) ≡ suc (times a (numbers (index_of c) others)) = bs.each a ∙ ap
                (λ x. times a (x ∷ numbers (index_of c) others)) (sym ab) ∙ times_same a (numbers (index_of c) others) in
                omega (arith, f.places.each a, f.places.once (a / places_at (index_of c)), counts.each a, times_same a (numbers (index_of c) rest), two)
            | inr ne ↦ elim (places_apart (size_at (index_of c)) (places_at (index_of c)) (sizes (index_of c) (index_below c)) a b ne same_chunk) [
              | inl h ↦ omega arith
              | inr h ↦ omega arith
            ]
          ]
      | inr ne ↦
          let g = k.bin (index_of d) (index_below d) in
          let there : 0 < times b (numbers (index_of d) rest) = omega
          (arith, (small_same d b others rest ins').each b, times_same b (numbers (index_of d) others)) in
          let same : numbers (index_of d) places ≡ numbers (index_of d) rest = small_other (index_of d) c a rest places (λ e. ne (sym e)) ins in
          let m : 0 < times (b / places_at (index_of d)) (k.mine (index_of d)) = omega (arith, g.places.each b, ap (times b) same) in
          ne (k.apart (index_of d) (index_of c) (b / places_at (index_of d)) (index_below d) (index_below c) m
          (subst (λ x. 0 < times x (k.mine (index_of c))) chunk s.1))
    ]
blocks_apart heap st places rest (Small c a) (Large x n) others k ins ins' i j below below' chunk offset =
    let s = small_chunk heap st places rest c a k ins in
    let none = k.large_apart (index_of c) (a / places_at (index_of c)) (index_below c) s.1 in
    omega (
      arith,
      ap (λ u. times u (large_chunks places)) chunk,
      none,
      ap (times x) (small_large c a rest places ins),
      (large_adds x n others rest ins').each
          x,
      times_same x (large_chunks others),
    )
blocks_apart heap st places rest (Large x n) (Small d b) others k ins ins' i j below below' chunk offset =
    let g = k.bin (index_of d) (index_below d) in
    let there : 0 < times b (numbers (index_of d) rest) = omega (arith, (small_same d b others rest ins').each b, times_same b (numbers (index_of d) others)) in
    let m : 0 < times (b / places_at (index_of d)) (k.mine (index_of d)) = omega
    (arith, g.places.each b, ap (times b) (large_numbers (index_of d) x n rest places ins)) in
    let none = k.large_apart (index_of d) (b / places_at (index_of d)) (index_below d) m in
    omega (arith, ap (λ u. times u (large_chunks places)) chunk, none, (large_adds x n rest places ins).each x, times_same x (large_chunks rest))
blocks_apart heap st places rest (Large x n) (Large y m) others k ins ins' i j below below' chunk offset =
    let a = large_adds x n rest places ins in
    let b = large_adds y m others rest ins' in
    let two : times x (large_chunks rest) ≡ suc (times x (large_chunks others)) = b.each x ∙ ap (λ u. times x (u ∷ large_chunks others)) (sym chunk) ∙
    times_same x (large_chunks others) in
    omega (arith, a.each x, times_same x (large_chunks rest), two, k.large_once x)
