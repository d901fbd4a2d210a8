-- What a call of a heap changes, as its contract says it.
use Rattle.std.proofs.Common.{◌≡◌, ℕ, suc, ◌∙◌, ◌+◌, ◌-◌, ◌≤◌, inl, inr, List, [], ◌∷◌, length, refl, sym, ap, subst, arith}
use Rattle.gq_store.specs.Store.{Store}
use Rattle.gq_heap.specs.declared.heap.Heap.{Heap}
use Rattle.gq_heap.specs.declared.heap.Place.{Place}
use Rattle.gq_heap.specs.declared.heap.Place.TheVariants.{Small, Large}
use Rattle.gq_heap.specs.Classes.{index_of}
use Rattle.gq_heap.specs.declared.bin.Bin.{Bin}
use Rattle.gq_heap.specs.Heap.{peaks_of, large_chunks, Inserts, chunk_of, offset_of, room_of, KeepsPlaces, Owns, KeepsNow, KeepsWithin, SameBytes, Allocates}
use Rattle.gq_heap.specs.Heap.{Frees}
use Rattle.gq_heap.specs.Heap.{PutsInBlock}
use Rattle.gq_heap.proofs.Free_cell_chains.{times_same}
use Rattle.gq_heap.proofs.Heap_cell_lists.{large_adds}
use Rattle.gq_heap.proofs.ClassLaws.{index_below}
use Rattle.gq_heap.proofs.Heap_change_parts.{Made, Freed, Written}
use Rattle.gq_heap.proofs.Heap_class_charges.{charge_is, caps_are}
use Rattle.gq_heap.proofs.Heap_call_invariants.{small_chunk, block_inside}
use Rattle.gq_heap.proofs.New_heap_laws.{blocks_apart}

-- the chunk of a block in use is the heap's
pub block_owned : (heap : Heap) (st : Store) (places rest : List Place) (p : Place) (k : KeepsPlaces heap st places) → Inserts p rest places
    → Owns heap st places k (chunk_of p)
block_owned heap st places rest (Small c q) k ins = inl (index_of c, index_below c, (small_chunk heap st places rest c q k ins).1)
block_owned heap st places rest (Large x n) k ins = inr (omega (arith, (large_adds x n rest places ins).each x, times_same x (large_chunks rest)))

as_many : (bs : List Bin) → length (peaks_of bs) ≡ length bs
as_many [] = refl
as_many (b ∷ bs) = ap suc (as_many bs)

module _ (before after : Heap) (old new : Store) (n : ℕ) (p : Place) (m : Made before after old new n p) where
  made_now : (places more : List Place) (k : KeepsPlaces before old places) → Inserts p places more → KeepsNow after old new more (Owns before old places k)
  made_now places more k ins =
      let also = m.keeps places more k ins in
      record {
        keeps = also.keeps;
        owns = λ x o. elim (also.owns x o) [ inl h ↦ inl h | inr h ↦ inr h.1 ];
        spares = λ x there other.
            let apart : x ≡ chunk_of p → ⊥ = λ e. elim (also.owns (chunk_of p) (block_owned after new more places p also.keeps ins)) [
              | inl o ↦ other (subst (Owns before old places k) (sym e) o)
              | inr o ↦ omega (arith, ap old.size e, o.1)
            ] in
            record { size = m.alone.sizes x there; bytes = λ i. m.alone.bytes x i there (λ e a b. apart e) };
      }

  made_others : (places : List Place) → KeepsPlaces before old places → SameBytes old new places
  made_others places k q others ins j below =
      let more = (m.keeps places (p ∷ places) k ([], places, refl, refl)).keeps in
      let inside = block_inside before old q (record { places = places; rest = others; keeps = k; has = ins }) in
      m.alone.bytes (chunk_of q) (offset_of q + j) (omega (arith, inside.0)) (λ e x y.
      blocks_apart after new (p ∷ places) places p q others more ([], places, refl, refl) ins (offset_of q + j - offset_of p) j (omega arith) below (sym e)
      (omega arith))

  pub allocates : length before.bins ≡ 8 → length after.bins ≡ 8 → Allocates before after old new n p
  allocates eight still = record {
    keeps = made_now;
    kind = m.kind;
    zero = m.zero;
    others = made_others;
    paid = m.paid;
    caps = m.caps;
    peaks = m.peaks;
    eight = (as_many before.bins ∙ eight, as_many after.bins ∙ still);
    charge = omega (arith, m.charge, charge_is before eight, charge_is after still);
    charge_caps = omega (arith, m.charge_caps, caps_are before eight, caps_are after still);
  }

module _ (before after : Heap) (old new : Store) (p : Place) (f : Freed before after old new p) where
  freed_now : (places rest : List Place) (k : KeepsPlaces before old places) → Inserts p rest places → KeepsWithin after old new rest (Owns before old places k)
  freed_now places rest k ins =
      let kept = f.keeps places rest k ins in
      record {
        keeps = kept.keeps;
        owns = kept.owns;
        spares = λ x there other.
            let apart : x ≡ chunk_of p → ⊥ = λ e. other (subst (Owns before old places k) (sym e) (block_owned before old places rest p k ins)) in
            let same : new.size x ≡ old.size x = f.sizes x apart in
            record { size = same; bytes = λ i. f.bytes x i (omega arith) (λ e a b. apart e) };
      }

  freed_others : (places rest : List Place) → KeepsPlaces before old places → Inserts p rest places → SameBytes old new rest
  freed_others places rest k ins q others ins' j below =
      let kept = (f.keeps places rest k ins).keeps in
      let inside = block_inside after new q (record { places = rest; rest = others; keeps = kept; has = ins' }) in
      f.bytes (chunk_of q) (offset_of q + j) (omega (arith, inside.0)) (λ e x y.
      blocks_apart before old places rest p q others k ins ins' (offset_of q + j - offset_of p) j (omega arith) below (sym e) (omega arith))

  pub frees : length before.bins ≡ 8 → length after.bins ≡ 8 → Frees before after old new p
  frees eight still = record {
    keeps = freed_now;
    others = freed_others;
    paid = f.paid;
    caps = f.caps;
    charge = omega (arith, f.charge, charge_is before eight, charge_is after still);
    charge_caps = omega (arith, f.charge_caps, caps_are before eight, caps_are after still);
    peaks = f.peaks;
  }

module _ (heap : Heap) (old new : Store) (p : Place) (i : ℕ) (bytes : List ℕ) (inside : i + length bytes ≤ room_of p) (w : Written heap old new p i bytes) where
  written_now : (places rest : List Place) (k : KeepsPlaces heap old places) → Inserts p rest places → KeepsWithin heap old new places (Owns heap old places k)
  written_now places rest k ins =
      let kept = w.keeps places rest k ins in
      record {
        keeps = kept.keeps;
        owns = kept.owns;
        spares = λ x there other.
            let apart : x ≡ chunk_of p → ⊥ = λ e. other (subst (Owns heap old places k) (sym e) (block_owned heap old places rest p k ins)) in
            record { size = w.alone.size x; bytes = λ j. w.alone.elsewhere x j (λ e a b. apart e) };
      }

  pub puts : PutsInBlock heap old new p i bytes
  puts = record {
    keeps = written_now;
    put = record {
      here = w.here;
      rest = λ j out. w.alone.elsewhere (chunk_of p) (offset_of p + j) (λ e x y. out (omega arith) (omega arith));
    };
    others = λ places rest k ins q others ins' j below. w.alone.elsewhere (chunk_of q) (offset_of q + j) (λ e x y.
        blocks_apart heap old places rest p q others k ins ins' (offset_of q + j - offset_of p) j (omega arith) below (sym e) (omega arith));
    left = w.alone.left;
    caps = w.alone.caps;
  }
