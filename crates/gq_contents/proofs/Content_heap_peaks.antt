-- The peaks of a heap, as the definition raises them.
use Rattle.std.proofs.Common.{◌≡◌, ℕ, suc, ◌+◌, max, List, [], ◌∷◌, ◌++◌, length, length-append, get_or, refl, sym, ap, ◌∙◌, arith}
use Rattle.gq_tariff.specs.Prices.{classes, class_size}
use Rattle.gq_tariff.specs.declared.class.Class.{Class}
use Rattle.gq_tariff.specs.declared.class.Class.TheVariants.{Bytes16, Bytes32, Bytes64, Bytes128, Bytes256, Bytes512, Bytes1024, Bytes2048}
use Rattle.gq_model.specs.machine.Sums.{slot_places}
use Rattle.gq_store.specs.Store.{Store}
use Rattle.gq_heap.specs.declared.bin.Bin.{Bin}
use Rattle.gq_heap.specs.declared.heap.Heap.{Heap}
use Rattle.gq_heap.specs.declared.heap.Place.{Place}
use Rattle.gq_heap.specs.Classes.{index_of}
use Rattle.gq_heap.specs.Heap.{numbers, peaks, peaks_of, peak_of, no_bin, Allocates}
use Rattle.gq_heap.proofs.Heap_cell_lists.{numbers-append}
use Rattle.gq_contents.specs.declared.content.Content.{Content}
use Rattle.gq_contents.specs.declared.content.Content.TheVariants.{Empty, Block}
use Rattle.gq_contents.specs.Contents.{places}
use Rattle.gq_contents.specs.Contents_invariant.{all_places, AreContents, SameSeen, KeepsContents, KeepsBeside}
use Rattle.gq_contents.specs.Paid.{places_used, raised_by}
use Rattle.gq_contents.proofs.Content_cell_counts.{count_is}
use Rattle.gq_contents.proofs.Content_lists.{each_prefix}
use Rattle.gq_contents.proofs.Other_contents_kept.{opened}

pub counts_are : (st : Store) (ts : List Content) (c : Class) → AreContents st ts
    → length (numbers (index_of c) (all_places st ts)) ≡ places_used st ts (class_size c)
counts_are st [] c are = refl
counts_are st (t ∷ ts) c are =
    omega (
      arith,
      ap length (numbers-append (index_of c) (places st t) (all_places st ts)),
      length-append (numbers (index_of c) (places st t)) (numbers (index_of c) (all_places st ts)),
      count_is st t c are.0,
      counts_are st ts c are.1,
    )

pub counts_append : (c : ℕ) (st : Store) (ts us : List Content) → places_used st (ts ++ us) c ≡ places_used st ts c + places_used st us c
counts_append c st [] us = omega arith
counts_append c st (t ∷ ts) us = omega (arith, counts_append c st ts us)

pub counts_same : (c : ℕ) (old new : Store) (ts : List Content) → SameSeen old new ts → places_used new ts c ≡ places_used old ts c
counts_same c old new [] h = refl
counts_same c old new (t ∷ ts) h = omega (arith, ap (slot_places c) h.0, counts_same c old new ts h.1)

eight_peaks : (bs : List Bin) → length bs ≡ 8
    → peaks_of bs ≡ (get_or bs 0 no_bin).peak ∷ (get_or bs 1 no_bin).peak ∷ (get_or bs 2 no_bin).peak ∷ (get_or bs 3 no_bin).peak
    ∷ (get_or bs 4 no_bin).peak ∷ (get_or bs 5 no_bin).peak ∷ (get_or bs 6 no_bin).peak ∷ (get_or bs 7 no_bin).peak ∷ []
eight_peaks (a ∷ b ∷ c ∷ d ∷ e ∷ f ∷ g ∷ h ∷ []) l = refl
eight_peaks _ l = absurd (omega (arith, l))

as_many : (bs : List Bin) → length (peaks_of bs) ≡ length bs
as_many [] = refl
as_many (b ∷ bs) = ap suc (as_many bs)

pub raised_is : (before after : Heap) (f : ℕ → ℕ) → length (peaks before) ≡ 8 → length (peaks after) ≡ 8
    → ((c : Class) → peak_of after c ≡ max (peak_of before c) (f (class_size c))) → peaks after ≡ raised_by f classes (peaks before)
raised_is before after f b a e =
    eight_peaks after.bins (sym (as_many after.bins) ∙ a)
    ∙ (λ k. e Bytes16 k ∷ e Bytes32 k ∷ e Bytes64 k ∷ e Bytes128 k ∷ e Bytes256 k ∷ e Bytes512 k ∷ e Bytes1024 k ∷ e Bytes2048 k ∷ [])
    ∙ ap (raised_by f classes) (sym (eight_peaks before.bins (sym (as_many before.bins) ∙ b)))

-- a block that is made raises the peaks to what is in use with it
module _ (before after : Heap) (old new : Store) (p : Place) (n : ℕ) (prefix back : List Content) (h : KeepsContents before old (prefix ++ Empty ∷ back))
    (kb : KeepsBeside after old new prefix (Block p n) back) where
  in_use : (c : Class)
      → length (numbers (index_of c) (all_places old prefix ++ p ∷ all_places old back)) ≡ places_used new (prefix ++ Block p n ∷ back) (class_size c)
  in_use c =
      let i = index_of c in
      let z = class_size c in
      let o = opened before old prefix Empty back h in
      let a = ap length (numbers-append i (all_places old prefix) (p ∷ all_places old back))
      ∙ length-append (numbers i (all_places old prefix)) (numbers i (p ∷ all_places old back)) in
      let b = ap length (numbers-append i (p ∷ []) (all_places old back)) ∙ length-append (numbers i (p ∷ [])) (numbers i (all_places old back)) in
      omega (
        arith,
        a,
        b,
        counts_are old prefix c o.prefix_are,
        counts_are old back c o.back_are,
        count_is new (Block p n) c (each_prefix new prefix (Block p n) back kb.keeps.each).1,
        counts_append z new prefix (Block p n ∷ back),
        counts_same z old new prefix kb.prefix_seen,
        counts_same z old new back kb.back_seen,
      )

  pub block_peaks : Allocates before after old new n p
      → peaks after ≡ raised_by (places_used new (prefix ++ Block p n ∷ back)) classes (peaks before)
  block_peaks a = raised_is before after (places_used new (prefix ++ Block p n ∷ back)) a.eight.0 a.eight.1 (λ c.
      let o = opened before old prefix Empty back h in
      a.peaks (all_places old prefix ++ all_places old back) (all_places old prefix ++ p ∷ all_places old back) o.blocks.keeps
      (all_places old prefix, all_places old back, refl, refl) c
      ∙ ap (max (peak_of before c)) (in_use c))
