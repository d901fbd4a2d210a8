-- What the calls leave of a heap.
use Rattle.std.proofs.Common.{◌≡◌, ℕ, ◌+◌, ◌-◌, ◌*◌, ◌/◌, ◌%◌, ◌<◌, ◌≤◌, ◌⊎◌, inl, inr, List, length, max, get_or, set, sym, ap, subst, ◌∙◌, zero-add, arith}
use Rattle.std.proofs.Common.{get_or-set_same, get_or-set_other}
use Rattle.std.proofs.lemmas.Bool.{cases_lt, cases_eq}
use Rattle.gq_tariff.specs.Prices.{class_size, size_for}
use Rattle.gq_store.specs.Store.{Store, Writes}
use Rattle.gq_store.specs.Chunk_bytes.{HasBytes}
use Rattle.gq_tariff.specs.declared.class.Class.{Class}
use Rattle.gq_heap.specs.declared.bin.Bin.{Bin}
use Rattle.gq_heap.specs.declared.heap.Heap.{Heap}
use Rattle.gq_heap.specs.declared.heap.Place.{Place}
use Rattle.gq_heap.specs.declared.heap.Place.TheVariants.{Small, Large}
use Rattle.gq_heap.specs.List_occurrences.{times}
use Rattle.gq_heap.specs.Classes.{index_of, size_at, places_at, class_for}
use Rattle.gq_heap.specs.internal.Bin.{KeepsBin, KeepsMore, TakesPlace, FreesPlace, HasPlace}
use Rattle.gq_heap.specs.Bins.{bin_price, next_peak}
use Rattle.gq_heap.specs.Heap.{no_bin, bin_at, numbers, large_chunks, Inserts, chunk_of, offset_of, room_of, KeepsPlaces, Owns, IsInUse, rise, rise_caps}
use Rattle.gq_heap.specs.Heap.{peaks_of}
use Rattle.gq_heap.specs.Heap.{peak_of, count_of}
use Rattle.gq_heap.proofs.Heap_change_parts.{KeepsAlso, KeepsRest, Made, Freed, Written}
use Rattle.gq_heap.proofs.Heap_class_charges.{peaks_stay}
use Rattle.gq_heap.proofs.ClassLaws.{sizes, index_below}
use Rattle.gq_heap.proofs.Heap_charge_rises.{charge_set, rise_small, cancel, plus_none, pages_more, caps_small}
use Rattle.gq_heap.proofs.Cell_page_numbers.{price_mono, place_inside}
use Rattle.gq_heap.proofs.Free_cell_chains.{times_same}
use Rattle.gq_heap.proofs.Bin_kept_bytes.{frame_bin, frame_used}
use Rattle.gq_heap.proofs.Heap_cell_lists.{put, put_same, put_other, small_same, small_other, small_large, small_price, small_are, less_are, large_exists}
use Rattle.gq_heap.proofs.Heap_cell_lists.{frame_large}
use Rattle.gq_heap.proofs.Heap_cell_lists.{times_other, large_adds, large_at, up_small}

-- ---- one class changes
module _ (before after : Heap) (old new : Store) (c : Class) (s : Bin) (q : ℕ) (lt : index_of c < 8) (eight : length before.bins ≡ 8)
    (bins : after.bins ≡ set before.bins (index_of c) s) (large : after.large ≡ before.large) (count : after.large_count ≡ before.large_count) where
  bin_same : bin_at after (index_of c) ≡ s
  bin_same = ap (λ ss. get_or ss (index_of c) no_bin) bins ∙ get_or-set_same before.bins (index_of c) s no_bin (omega arith)

  bin_other : (j : ℕ) → (j ≡ index_of c → ⊥) → bin_at after j ≡ bin_at before j
  bin_other j ne = ap (λ ss. get_or ss j no_bin) bins ∙ get_or-set_other before.bins (index_of c) j s no_bin ne

  module _ (t : TakesPlace (size_at (index_of c)) (places_at (index_of c)) (bin_at before (index_of c)) s old new q)
      (places more : List Place) (k : KeepsPlaces before old places) (ins : Inserts (Small c q) places more) where
    abbrev the : ℕ
    the = index_of c

    abbrev chunk : ℕ
    chunk = q / places_at (index_of c)

    taken_kept : KeepsMore (size_at the) (places_at the) s old new q (numbers the more) (k.mine the)
    taken_kept = t.kept (numbers the places) (k.mine the) (numbers the more) (k.bin the lt) (small_same c q places more ins)

    abbrev mine : ℕ → List ℕ
    mine = put the taken_kept.mine_after k.mine

    in_mine : 0 < times chunk taken_kept.mine_after
    in_mine = omega (arith, taken_kept.kept.places.each q, (small_same c q places more ins).each q, times_same q (numbers the places))

    -- a chunk of this class was one before, or is new
    from : (x : ℕ) → 0 < times x taken_kept.mine_after → (0 < times x (k.mine the)) ⊎ ((x ≡ chunk) × (old.size x ≡ 0))
    from x h = elim taken_kept.chunks [
      | inl e ↦ inl (subst (λ xs. 0 < times x xs) e h)
      | inr e ↦ elim (cases_eq x chunk) [
        | inl f ↦ inr (f, ap old.size f ∙ e.1)
        | inr ne ↦ inl (omega (arith, ap (times x) e.0, times_other x chunk (k.mine the) ne, h))
      ]
    ]

    -- a chunk of any class was one before, or is new and of this class
    from_any : (j x : ℕ) → 0 < times x (mine j) → (0 < times x (k.mine j)) ⊎ ((j ≡ the) × (x ≡ chunk) × (old.size x ≡ 0))
    from_any j x h = elim (cases_eq j the) [
      | inl e ↦
          let g : 0 < times x taken_kept.mine_after = subst (λ xs. 0 < times x xs) (ap mine e ∙ put_same the taken_kept.mine_after k.mine) h in
          elim (from x g) [
            | inl u ↦ inl (subst (λ i. 0 < times x (k.mine i)) (sym e) u)
            | inr u ↦ inr (e, u.0, u.1)
          ]
      | inr ne ↦ inl (subst (λ xs. 0 < times x xs) (put_other the taken_kept.mine_after k.mine j ne) h)
    ]

    exists : (j x : ℕ) → j < 8 → 0 < times x (k.mine j) → old.size x ≡ 4096
    exists j x l h = ((k.bin j l).places.chunk x h).0

    chunk_other : (j x : ℕ) → j < 8 → (j ≡ the → ⊥) → 0 < times x (k.mine j) → x ≡ chunk → ⊥
    chunk_other j x l ne h e = elim (from chunk in_mine) [
      | inl u ↦ ne (k.apart j the x l lt h (subst (λ y. 0 < times y (k.mine the)) (sym e) u))
      | inr u ↦ omega (arith, exists j x l h, ap old.size e, u.1)
    ]

    chunks : large_chunks more ≡ large_chunks places
    chunks = small_large c q places more ins

    other_bin : (j : ℕ) → j < 8 → (j ≡ the → ⊥) → KeepsBin (size_at j) (places_at j) (bin_at after j) new (numbers j more) (mine j)
    other_bin j l ne =
        let f : KeepsBin (size_at j) (places_at j) (bin_at before j) new (numbers j places) (k.mine j) =
        frame_bin (size_at j) (places_at j) (bin_at before j) old new (numbers j places) (k.mine j) (k.bin j l)
        (λ x h. let there : 0 < old.size x = omega (arith, exists j x l h) in
        (t.alone.sizes x there, λ i. t.alone.bytes x i there (λ e a b. chunk_other j x l ne h e))) in
        rw (bin_other j ne, small_other j c q places more (λ e. ne (sym e)) ins, put_other the taken_kept.mine_after k.mine j ne) f

    this_bin : KeepsBin (size_at the) (places_at the) (bin_at after the) new (numbers the more) (mine the)
    this_bin = rw (bin_same, put_same the taken_kept.mine_after k.mine) taken_kept.kept

    pub alloc_small : KeepsAlso after old new (Small c q) more (Owns before old places k)
    alloc_small = record {
      keeps = record {
        mine = mine;
        bin = λ j l. elim (cases_eq j the) [
          | inl e ↦ subst (λ i. KeepsBin (size_at i) (places_at i) (bin_at after i) new (numbers i more) (mine i)) (sym e) this_bin
          | inr ne ↦ other_bin j l ne
        ];
        apart = λ a b x la lb ha hb. elim (from_any a x ha) [
          | inl u ↦ elim (from_any b x hb) [
            | inl v ↦ k.apart a b x la lb u v
            | inr v ↦ absurd (omega (arith, exists a x la u, v.2))
          ]
          | inr u ↦ elim (from_any b x hb) [
            | inl v ↦ absurd (omega (arith, exists b x lb v, u.2))
            | inr v ↦ u.0 ∙ sym v.0
          ]
        ];
        large = small_are new c q places more ins (frame_large old new places k.large (λ x h. t.alone.sizes x (large_exists old places x k.large h)));
        large_once = λ x. omega (arith, k.large_once x, ap (times x) chunks);
        large_apart = λ j x l h. elim (from_any j x h) [
          | inl u ↦ ap (times x) chunks ∙ k.large_apart j x l u
          | inr u ↦ elim (cases_lt 0 (times x (large_chunks places))) [
            | inl v ↦ absurd (omega (arith, large_exists old places x k.large v, u.2))
            | inr v ↦ omega (arith, ap (times x) chunks)
          ]
        ];
        large_sum = large ∙ k.large_sum ∙ sym (small_price c q places more ins);
        large_count = count ∙ k.large_count ∙ ap length (sym chunks);
      };
      owns = λ x o. elim o [
        | inl h ↦ elim (from_any h.0 x h.2) [
          | inl u ↦ inl (inl (h.0, h.1, u))
          | inr u ↦ inr (u.1, u.2)
        ]
        | inr h ↦ inl (inr (omega (arith, ap (times x) chunks)))
      ];
    }

-- each peak is raised to what is in use, where a place of a class comes
raised_small : (before after : Heap) (old new : Store) (c : Class) (s : Bin) (q : ℕ) → length before.bins ≡ 8 → after.bins ≡ set before.bins (index_of c) s
    → after.large ≡ before.large → after.large_count ≡ before.large_count → s.peak ≡ next_peak (bin_at before (index_of c))
    → (places more : List Place) → KeepsPlaces before old places → Inserts (Small c q) places more → (d : Class)
    → peak_of after d ≡ max (peak_of before d) (count_of d more)
raised_small before after old new c s q eight bins large count peak places more k ins d = elim (cases_eq (index_of d) (index_of c)) [
  | inl e ↦
      let b = k.bin (index_of c) (index_below c) in
      let here : (bin_at after (index_of c)).peak ≡ max (bin_at before (index_of c)).peak (length (numbers (index_of c) more)) =
      ap (λ x. x.peak) (bin_same before after old new c s q (index_below c) eight bins large count) ∙ peak
      ∙ ap (max (bin_at before (index_of c)).peak) (omega (arith, b.count, (small_same c q places more ins).long)) in
      subst (λ i. (bin_at after i).peak ≡ max (bin_at before i).peak (length (numbers i more))) (sym e) here
  | inr ne ↦
      let b = k.bin (index_of d) (index_below d) in
      ap (λ x. x.peak) (bin_other before after old new c s q (index_below c) eight bins large count (index_of d) ne)
      ∙ omega (arith, b.count, b.peak, ap length (small_other (index_of d) c q places more (λ e. ne (sym e)) ins))
]

pub allocates_small : (before after : Heap) (old new : Store) (c : Class) (s : Bin) (n q : ℕ) → n ≤ 2048 → class_size c ≡ size_for n
    → index_of c ≡ class_for n → length before.bins ≡ 8
    → after.bins ≡ set before.bins (index_of c) s → after.large ≡ before.large → after.large_count ≡ before.large_count
    → TakesPlace (size_at (index_of c)) (places_at (index_of c)) (bin_at before (index_of c)) s old new q
    → Made before after old new n (Small c q)
allocates_small before after old new c s n q small fits class eight bins large count t =
    let lt : index_of c < 8 = index_below c in
    let more : bin_price (size_at (index_of c)) (bin_at before (index_of c)).peak ≤ bin_price (size_at (index_of c)) s.peak =
    price_mono (size_at (index_of c)) (bin_at before (index_of c)).peak s.peak (omega (arith, t.peak)) in
    let r : rise before n ≡ bin_price (size_at (index_of c)) s.peak - bin_price (size_at (index_of c)) (bin_at before (index_of c)).peak =
    rise_small before n (index_of c) small class ∙ ap
    (λ m. bin_price (size_at (index_of c)) m - bin_price (size_at (index_of c)) (bin_at before (index_of c)).peak) (sym t.peak) in
    record {
      keeps = λ places more k ins. alloc_small before after old new c s q lt eight bins large count t places more k ins;
      kind = (small, fits);
      zero = t.zero;
      alone = t.alone;
      paid = omega (arith, t.paid, r, more);
      caps = cancel (bin_price (size_at (index_of c)) s.peak / 4096) (bin_price (size_at (index_of c)) (bin_at before (index_of c)).peak / 4096)
          (rise_caps before n) new.caps old.caps t.caps
          (pages_more (size_at (index_of c) * (bin_at before (index_of c)).peak) (size_at (index_of c) * s.peak) more
          ∙ ap (λ m. bin_price (size_at (index_of c)) (bin_at before (index_of c)).peak / 4096 + m) (sym (caps_small before n small ∙ ap (λ m. m / 4096) r)));
      charge = omega (arith, charge_set before after (index_of c) s (omega arith) bins large, r, more);
      charge_caps = omega (arith, charge_set before after (index_of c) s (omega arith) bins large, large, count, r, more, caps_small before n small);
      peaks = raised_small before after old new c s q eight bins large count t.peak;
    }

-- ---- where a block lies
pub small_chunk : (heap : Heap) (st : Store) (places rest : List Place) (c : Class) (q : ℕ) (k : KeepsPlaces heap st places) → Inserts (Small c q) rest places
    → (0 < times q (numbers (index_of c) places)) × (0 < times (q / places_at (index_of c)) (k.mine (index_of c))) ×
    (st.size (q / places_at (index_of c)) ≡ 4096)
small_chunk heap st places rest c q k ins =
    let i = index_of c in
    let f = k.bin i (index_below c) in
    let u : 0 < times q (numbers i places) = omega (arith, (small_same c q rest places ins).each q, times_same q (numbers i rest)) in
    let m : 0 < times (q / places_at i) (k.mine i) = omega (arith, f.places.each q) in
    (u, m, (f.places.chunk (q / places_at i) m).0)

pub block_inside : (heap : Heap) (st : Store) (p : Place) → IsInUse heap st p
    → (offset_of p + room_of p ≤ st.size (chunk_of p)) × (st.size (chunk_of p) ≤ 67108864)
block_inside heap st (Small c q) h =
    let s = small_chunk heap st h.places h.rest c q h.keeps h.has in
    let i = place_inside (size_at (index_of c)) (places_at (index_of c)) (sizes (index_of c) (index_below c)) q in
    (omega (arith, s.2), omega (arith, s.2))
block_inside heap st (Large k n) h =
    let l = large_at st k n h.rest h.places h.has h.keeps.large in (omega (arith, l.0), omega (arith, l.0, up_small n l.2))

pub offset_small : (c : Class) (q : ℕ) → q % places_at (index_of c) * size_at (index_of c) + size_at (index_of c) ≤ 4096
offset_small c q = place_inside (size_at (index_of c)) (places_at (index_of c)) (sizes (index_of c) (index_below c)) q

-- ---- other chunks, or bytes of a block in use, changed
module _ (heap : Heap) (old new : Store) (places : List Place) (k : KeepsPlaces heap old places) where
  -- the chunks of the heap are as they were
  pub frame_heap : ((x : ℕ) → Owns heap old places k x → (new.size x ≡ old.size x) × ((i : ℕ) → new.byte x i ≡ old.byte x i))
      → KeepsRest heap new places (Owns heap old places k)
  frame_heap same = record {
    keeps = record {
      mine = k.mine;
      bin = λ j l. frame_bin (size_at j) (places_at j) (bin_at heap j) old new (numbers j places) (k.mine j) (k.bin j l) (λ x h. same x (inl (j, l, h)));
      apart = k.apart;
      large = frame_large old new places k.large (λ x h. (same x (inr h)).0);
      large_once = k.large_once;
      large_apart = k.large_apart;
      large_sum = k.large_sum;
      large_count = k.large_count;
    };
    owns = λ x o. o;
  }

  pub puts_small : (c : Class) (q i n : ℕ) (rest : List Place) → Inserts (Small c q) rest places → i + n ≤ size_at (index_of c)
      → Writes old new (q / places_at (index_of c)) (q % places_at (index_of c) * size_at (index_of c) + i) n
      → KeepsRest heap new places (Owns heap old places k)
  puts_small c q i n rest ins below w =
      let the = index_of c in
      let z = size_at the in
      let s = small_chunk heap old places rest c q k ins in
      let v : Writes old new (q / places_at the) (q % places_at the * z) z = record {
        elsewhere = λ x j out. w.elsewhere x j (λ e a b. out e (omega arith) (omega arith));
        size = w.size;
        left = w.left;
        caps = w.caps;
      } in
      record {
        keeps = record {
          mine = k.mine;
          bin = λ j l. elim (cases_eq j the) [
            | inl e ↦ subst (λ j. KeepsBin (size_at j) (places_at j) (bin_at heap j) new (numbers j places) (k.mine j)) (sym e)
                (frame_used z (places_at the) (sizes the (index_below c)) (bin_at heap the) old new (numbers the places) (k.mine the) q z
                (k.bin the (index_below c)) s.0 (omega arith) v)
            | inr ne ↦ frame_bin (size_at j) (places_at j) (bin_at heap j) old new (numbers j places) (k.mine j) (k.bin j l)
                (λ x h. (
                  w.size x,
                  λ y. w.elsewhere x y
                      (λ e a b. ne (k.apart j the x l (index_below c) h (subst (λ u. 0 < times u (k.mine the)) (sym e) s.1))),
                ))
          ];
          apart = k.apart;
          large = frame_large old new places k.large (λ x h. w.size x);
          large_once = k.large_once;
          large_apart = k.large_apart;
          large_sum = k.large_sum;
          large_count = k.large_count;
        };
        owns = λ x o. o;
      }

  pub puts_large : (c n i m : ℕ) (rest : List Place) → Inserts (Large c n) rest places → Writes old new c i m
      → KeepsRest heap new places (Owns heap old places k)
  puts_large c n i m rest ins w =
      let t : 0 < times c (large_chunks places) = omega (arith, (large_adds c n rest places ins).each c, times_same c (large_chunks rest)) in
      record {
        keeps = record {
          mine = k.mine;
          bin = λ j l. frame_bin (size_at j) (places_at j) (bin_at heap j) old new (numbers j places) (k.mine j) (k.bin j l)
              (λ x h. (w.size x, λ y. w.elsewhere x y (λ e a b. omega (arith, k.large_apart j x l h, ap (λ u. times u (large_chunks places)) e))));
          apart = k.apart;
          large = frame_large old new places k.large (λ x h. w.size x);
          large_once = k.large_once;
          large_apart = k.large_apart;
          large_sum = k.large_sum;
          large_count = k.large_count;
        };
        owns = λ x o. o;
      }

has_block : (f : ℕ → ℕ) (o i : ℕ) (bytes : List ℕ) → HasBytes f (o + i) bytes → HasBytes (λ j. f (o + j)) i bytes
has_block f o i bytes h j l = ap f (omega arith) ∙ h j l

pub written : (heap : Heap) (old new : Store) (p : Place) (i : ℕ) (bytes : List ℕ) → i + length bytes ≤ room_of p
    → HasBytes (new.byte (chunk_of p)) (offset_of p + i) bytes
    → Writes old new (chunk_of p) (offset_of p + i) (length bytes) → Written heap old new p i bytes
written heap old new (Small c q) i bytes below here w = record {
  keeps = λ places rest k ins. puts_small heap old new places k c q i (length bytes) rest ins below w;
  here = has_block (new.byte (chunk_of (Small c q))) (offset_of (Small c q)) i bytes here;
  alone = w;
}
written heap old new (Large c n) i bytes below here w = record {
  keeps = λ places rest k ins. puts_large heap old new places k c n i (length bytes) rest ins
      (subst (λ o. Writes old new c o (length bytes)) (zero-add i) w);
  here = has_block (new.byte c) 0 i bytes here;
  alone = w;
}

-- ---- a place of a class is given back
pub has_small : (heap : Heap) (st : Store) (c : Class) (q z p i : ℕ) → z ≡ size_at (index_of c) → p ≡ places_at (index_of c) → i ≡ index_of c
    → IsInUse heap st (Small c q) → HasPlace z p (bin_at heap i) st q
has_small heap st c q z p i e f d h =
    let t : HasPlace (size_at (index_of c)) (places_at (index_of c)) (bin_at heap (index_of c)) st q =
    record {
      used = numbers (index_of c) h.places;
      mine = h.keeps.mine (index_of c);
      kept = h.keeps.bin (index_of c) (index_below c);
      has =
          (small_chunk heap st h.places h.rest c q h.keeps h.has).0;
    } in
    rw (e, f, d) t

module _ (before after : Heap) (old new : Store) (c : Class) (s : Bin) (q : ℕ) (eight : length before.bins ≡ 8)
    (bins : after.bins ≡ set before.bins (index_of c) s) (large : after.large ≡ before.large) (count : after.large_count ≡ before.large_count)
    (t : FreesPlace (size_at (index_of c)) (places_at (index_of c)) (bin_at before (index_of c)) s old new q) where
  pub give_small : (places rest : List Place) (k : KeepsPlaces before old places) → Inserts (Small c q) rest places
      → KeepsRest after new rest (Owns before old places k)
  give_small places rest k ins =
      let the = index_of c in
      let lt : index_of c < 8 = index_below c in
      let b = small_chunk before old places rest c q k ins in
      let chunks : large_chunks places ≡ large_chunks rest = small_large c q rest places ins in
      let this : KeepsBin (size_at the) (places_at the) s new (numbers the rest) (k.mine the) =
      t.kept (numbers the places) (k.mine the) (numbers the rest) (k.bin the lt) (small_same c q rest places ins) in
      record {
        keeps = record {
          mine = k.mine;
          bin = λ j l. elim (cases_eq j the) [
            | inl e ↦ subst (λ j. KeepsBin (size_at j) (places_at j) (bin_at after j) new (numbers j rest) (k.mine j)) (sym e)
                (rw (bin_same before after old new c s q lt eight bins large count) this)
            | inr ne ↦
                let f : KeepsBin (size_at j) (places_at j) (bin_at before j) new (numbers j places) (k.mine j) =
                frame_bin (size_at j) (places_at j) (bin_at before j) old new (numbers j places) (k.mine j) (k.bin j l)
                (λ x h. (
                  t.alone.size x,
                  λ y. t.alone.elsewhere x y
                      (λ e a b'. ne (k.apart j the x l lt h (subst (λ u. 0 < times u (k.mine the)) (sym e) b.1))),
                )) in
                rw (bin_other before after old new c s q lt eight bins large count j ne, ← small_other j c q rest places (λ e. ne (sym e)) ins) f
          ];
          apart = k.apart;
          large = less_are new (Small c q) rest places ins (frame_large old new places k.large (λ x h. t.alone.size x));
          large_once = λ x. omega (arith, k.large_once x, ap (times x) chunks);
          large_apart = λ j x l h. omega (arith, k.large_apart j x l h, ap (times x) chunks);
          large_sum = large ∙ k.large_sum ∙ small_price c q rest places ins;
          large_count = count ∙ k.large_count ∙ ap length chunks;
        };
        owns = λ x o. elim o [ inl h ↦ inl h | inr h ↦ inr (omega (arith, ap (times x) chunks)) ];
      }

  pub frees_small : Freed before after old new (Small c q)
  frees_small = record {
    keeps = give_small;
    bytes = λ k i h out. t.alone.elsewhere k i out;
    sizes = λ k h. t.alone.size k;
    paid = omega (arith, t.alone.left);
    caps = t.alone.caps ∙ plus_none old.caps;
    charge = omega (
      arith,
      charge_set before after (index_of c) s (omega (arith, index_below c)) bins large,
      ap (λ m. bin_price (size_at (index_of c)) m) t.peak,
    );
    charge_caps = omega (
      arith,
      charge_set before after (index_of c) s (omega (arith, index_below c)) bins large,
      ap (λ m. bin_price (size_at (index_of c)) m) t.peak,
      large,
      count,
    );
    peaks = ap peaks_of bins ∙ peaks_stay before.bins (index_of c) s t.peak;
  }
