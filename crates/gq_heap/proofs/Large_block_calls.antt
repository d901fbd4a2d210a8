-- Large blocks.
use Rattle.std.proofs.Common.{◌≡◌, ℕ, suc, ◌+◌, ◌-◌, ◌*◌, ◌<◌, ◌≤◌, inl, inr, List, ◌∷◌, length, get_or, cond, refl, sym, ap, ◌∙◌, zero-add, arith}
use Rattle.std.proofs.lemmas.Bool.{cases_lt, cases_eq}
use Rattle.gq_tariff.specs.Prices.{up}
use Rattle.gq_store.specs.Store.{Store, Grows, Shrinks, plus_caps}
use Rattle.gq_heap.specs.declared.heap.Heap.{Heap}
use Rattle.gq_heap.specs.declared.heap.Place.{Place}
use Rattle.gq_heap.specs.declared.heap.Place.TheVariants.{Large}
use Rattle.gq_heap.specs.List_occurrences.{times}
use Rattle.gq_heap.specs.Classes.{index_of, size_at, places_at}
use Rattle.gq_heap.specs.internal.Bin.{KeepsBin}
use Rattle.gq_heap.specs.Heap.{no_bin, bin_at, numbers, large_chunks, Inserts, KeepsPlaces, Owns, IsInUse, class_rise, rise, peaks_of}
use Rattle.gq_heap.proofs.Heap_charge_rises.{is_large, plus_one, caps_large}
use Rattle.gq_heap.proofs.Heap_change_parts.{price_from, KeepsAlso, KeepsRest, Made, Freed}
use Rattle.gq_heap.proofs.ClassLaws.{index_below}
use Rattle.gq_heap.proofs.Free_cell_chains.{times_same, few}
use Rattle.gq_heap.proofs.Bin_kept_bytes.{frame_bin}
use Rattle.gq_heap.proofs.Heap_cell_lists.{less_are, large_exists, frame_large, times_other, large_adds, large_more, large_numbers, large_at, large_are}
use Rattle.gq_heap.proofs.Heap_cell_lists.{large_price_few}
use Rattle.gq_heap.proofs.Heap_cell_lists.{large_below}

-- ---- a large block
pub rise_large : (heap : Heap) (n : ℕ) → 2048 < n → rise heap n ≡ up n
rise_large heap n h =
    ap (λ b. cond b (up n) (class_rise heap n)) (is_large n h)

-- there is room for one large block more, since each has a chunk of its own
pub large_room : (heap : Heap) (old new : Store) (places : List Place) → KeepsPlaces heap old places → (x n : ℕ) → Grows old new x n
    → (heap.large_count < 1048576) × (heap.large + 67108864 ≤ 67108864 * 1048576)
large_room heap old new places k x n g =
    let none : times x (large_chunks places) ≡ 0 = elim (cases_lt 0 (times x (large_chunks places))) [
      | inl h ↦ absurd (omega (arith, large_exists old places x k.large h, g.fresh))
      | inr h ↦ omega arith
    ] in
    let all : length (x ∷ large_chunks places) ≤ 1048576 = few 1048576 (x ∷ large_chunks places)
    (λ y. elim (cases_eq y x) [
      | inl e ↦ omega (
        arith,
        ap (λ u. times y (u ∷ large_chunks places)) (sym e),
        times_same y (large_chunks places),
        ap
            (λ u. times u (large_chunks places)) e,
        none,
      )
      | inr ne ↦ omega (arith, times_other y x (large_chunks places) ne, k.large_once y)
    ])
    (λ y h. elim (cases_eq y x) [
      | inl e ↦ omega (arith, e, g.number)
      | inr ne ↦ large_below old places y k.large (omega (arith, h, times_other y x (large_chunks places) ne))
    ]) in
    (omega (arith, k.large_count), omega (arith, k.large_count, k.large_sum, large_price_few old places k.large))

module _ (before after : Heap) (old new : Store) (x n : ℕ) (big : (2048 < n) × (n ≤ 67108864)) (g : Grows old new x (up n))
    (bins : after.bins ≡ before.bins) (large : after.large ≡ before.large + up n) (count : after.large_count ≡ before.large_count + 1) where
  pub grow_large : (places more : List Place) (k : KeepsPlaces before old places) → Inserts (Large x n) places more
      → KeepsAlso after old new (Large x n) more (Owns before old places k)
  grow_large places more k ins =
      let a = large_adds x n places more ins in
      let none : times x (large_chunks places) ≡ 0 = elim (cases_lt 0 (times x (large_chunks places))) [
        | inl h ↦ absurd (omega (arith, large_exists old places x k.large h, g.fresh))
        | inr h ↦ omega arith
      ] in
      let same : (j : ℕ) → bin_at after j ≡ bin_at before j = λ j. ap (λ ss. get_or ss j no_bin) bins in
      let not_x : (j y : ℕ) → j < 8 → 0 < times y (k.mine j) → y ≡ x
      → ⊥ = λ j y l h e. omega (arith, ((k.bin j l).places.chunk y h).0, ap old.size e, g.fresh) in
      record {
        keeps = record {
          mine = k.mine;
          bin = λ j l.
              let f : KeepsBin (size_at j) (places_at j) (bin_at before j) new (numbers j places) (k.mine j) =
              frame_bin (size_at j) (places_at j) (bin_at before j) old new (numbers j places) (k.mine j) (k.bin j l)
              (λ y h. (g.sizes y (not_x j y l h), λ i. g.bytes y i (not_x j y l h))) in
              rw (same j, large_numbers j x n places more ins) f;
          apart = k.apart;
          large = large_are new x n places more ins (g.size, big.0, big.1, g.number)
              (frame_large old new places k.large (λ y h. g.sizes y (λ e. omega (arith, none, ap (λ u. times u (large_chunks places)) e))));
          large_once = λ y. elim (cases_eq y x) [
            | inl e ↦ omega (
              arith,
              a.each y,
              ap (λ u. times y (u ∷ large_chunks places)) (sym e),
              times_same y (large_chunks places),
              none,
              ap
                  (λ u. times u (large_chunks places)) e,
            )
            | inr ne ↦ omega (arith, a.each y, times_other y x (large_chunks places) ne, k.large_once y)
          ];
          large_apart = λ j y l h. omega (arith, a.each y, times_other y x (large_chunks places) (not_x j y l h), k.large_apart j y l h);
          large_sum = omega (arith, large, k.large_sum, large_more x n places more ins);
          large_count = omega (arith, count, k.large_count, a.long);
        };
        owns = λ y o. elim o [
          | inl h ↦ inl (inl h)
          | inr h ↦ elim (cases_eq y x) [
            | inl e ↦ inr (e, ap old.size e ∙ g.fresh)
            | inr ne ↦ inl (inr (omega (arith, a.each y, times_other y x (large_chunks places) ne)))
          ]
        ];
      }

  pub allocates_large : Made before after old new n (Large x n)
  allocates_large = record {
    keeps = grow_large;
    kind = (big.0, refl);
    zero = λ i h. ap (new.byte x) (zero-add i) ∙ g.zero i h;
    alone = record {
      bytes = λ k i h out. g.bytes k i (λ e. omega (arith, ap old.size e, g.fresh));
      sizes = λ k h. g.sizes k (λ e. omega (arith, ap old.size e, g.fresh));
      no_other = g.sizes;
    };
    paid = omega (arith, g.paid, rise_large before n big.0);
    caps = g.caps ∙ plus_one new.caps ∙ ap (λ m. plus_caps m new.caps) (sym (caps_large before n big.0));
    charge = omega (arith, ap (price_from 0) bins, large, rise_large before n big.0);
    charge_caps = omega (arith, ap (price_from 0) bins, count, caps_large before n big.0);
    peaks = λ places more k ins c.
        let b = k.bin (index_of c) (index_below c) in
        ap (λ bs. (get_or bs (index_of c) no_bin).peak) bins
        ∙ omega (arith, b.count, b.peak, ap length (large_numbers (index_of c) x n places more ins));
  }

module _ (before after : Heap) (old new : Store) (x n : ℕ) (g : Shrinks old new x)
    (bins : after.bins ≡ before.bins) (large : after.large ≡ before.large - up n) (count : after.large_count ≡ before.large_count - 1) where
  pub shrink_large : (places rest : List Place) (k : KeepsPlaces before old places) → Inserts (Large x n) rest places
      → KeepsRest after new rest (Owns before old places k)
  shrink_large places rest k ins =
      let a = large_adds x n rest places ins in
      let t : times x (large_chunks places) ≡ suc (times x (large_chunks rest)) = a.each x ∙ times_same x (large_chunks rest) in
      let same : (j : ℕ) → bin_at after j ≡ bin_at before j = λ j. ap (λ ss. get_or ss j no_bin) bins in
      let not_x : (j y : ℕ) → j < 8 → 0 < times y (k.mine j) → y ≡ x
      → ⊥ = λ j y l h e. omega (arith, k.large_apart j y l h, ap (λ u. times u (large_chunks places)) e, t) in
      record {
        keeps = record {
          mine = k.mine;
          bin = λ j l.
              let f : KeepsBin (size_at j) (places_at j) (bin_at before j) new (numbers j places) (k.mine j) =
              frame_bin (size_at j) (places_at j) (bin_at before j) old new (numbers j places) (k.mine j) (k.bin j l)
              (λ y h. (g.sizes y (not_x j y l h), λ i. g.bytes y i (not_x j y l h))) in
              rw (same j, ← large_numbers j x n rest places ins) f;
          apart = k.apart;
          large = frame_large old new rest (less_are old (Large x n) rest places ins k.large)
              (λ y h. g.sizes y (λ e. omega (arith, t, k.large_once x, ap (λ u. times u (large_chunks rest)) e)));
          large_once = λ y. elim (cases_eq y x) [
            | inl e ↦ omega (arith, t, k.large_once x, ap (λ u. times u (large_chunks rest)) e)
            | inr ne ↦ omega (arith, a.each y, times_other y x (large_chunks rest) ne, k.large_once y)
          ];
          large_apart = λ j y l h. omega (arith, a.each y, times_other y x (large_chunks rest) (not_x j y l h), k.large_apart j y l h);
          large_sum = omega (arith, large, k.large_sum, large_more x n rest places ins);
          large_count = omega (arith, count, k.large_count, a.long);
        };
        owns = λ y o. elim o [
          | inl h ↦ inl h
          | inr h ↦ inr (omega (arith, a.each y))
        ];
      }

  pub frees_large : (st : Store) → old.size x ≡ up n → up n ≤ before.large → 0 < before.large_count → Freed before after old new (Large x n)
  frees_large st size most counted = record {
    keeps = shrink_large;
    bytes = λ k i h out. g.bytes k i (λ e. omega (arith, ap new.size e, g.gone));
    sizes = g.sizes;
    paid = omega (arith, g.back, size);
    caps = g.caps ∙ plus_one old.caps;
    charge = omega (arith, ap (price_from 0) bins, large);
    charge_caps = omega (arith, ap (price_from 0) bins, count, counted);
    peaks = ap peaks_of bins;
  }

pub has_large : (heap : Heap) (st : Store) (x n : ℕ) → IsInUse heap st (Large x n)
    → (st.size x ≡ up n) × (2048 < n) × (n ≤ 67108864) × (up n ≤ heap.large) × (0 < heap.large_count)
has_large heap st x n h =
    let f = large_at st x n h.rest h.places h.has h.keeps.large in (
      f.0,
      f.1,
      f.2,
      omega (arith, h.keeps.large_sum, large_more x n h.rest h.places h.has),
      omega
          (arith, h.keeps.large_count, (large_adds x n h.rest h.places h.has).long),
    )
