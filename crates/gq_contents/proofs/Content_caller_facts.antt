-- What is known of one content among others.
use Rattle.std.proofs.Common.{◌≡◌, ℕ, ◌+◌, ◌<◌, ◌≤◌, ◌∷◌, ◌++◌, refl, ap, arith, zero, suc, replicate, subst, sym, []}
use Rattle.std.proofs.lemmas.Bool.Decides.{nat_tests}
use Rattle.gq_tariff.specs.Prices.{up, size_for}
use Rattle.gq_store.specs.Store.{Store}
use Rattle.gq_heap.specs.declared.heap.Heap.{Heap}
use Rattle.gq_heap.specs.declared.heap.Place.{Place}
use Rattle.gq_heap.specs.declared.heap.Place.TheVariants.{Small, Large}
use Rattle.gq_heap.specs.Heap.{IsInUse, IsFor, room_of}
use Rattle.gq_heap.proofs.Heap_cell_lists.{up_pos, up_least}
use Rattle.gq_heap.proofs.ClassLaws.{size_is}
use Rattle.gq_sliced.specs.Slices.{HasSize, IsInUse as IsSlice}
use Rattle.gq_pool.specs.declared.pool.Pool as pool
use Rattle.gq_pool.specs.Pools.{IsPool, held_of}
use Rattle.gq_contents.specs.declared.content.Content.TheVariants.{Empty, Block, Slice, Space, Pool}
use Rattle.gq_contents.specs.Contents.{IsSpace, IsContent}
use Rattle.gq_heap.specs.List_occurrences.{times}
use Rattle.gq_heap.specs.Heap.{KeepsPlaces}
use Rattle.gq_contents.specs.Contents_invariant.{all_chunks, all_places, AreContents, Blocks, KeepsContents, IsAmong}
use Rattle.gq_contents.specs.declared.content.Content.{Content}
use Rattle.gq_contents.proofs.Other_contents_kept.{opened}
use Rattle.gq_contents.proofs.PoolCalls.{pool_kept}

pub is_content : (heap : Heap) (st : Store) (t : Content) → IsAmong heap st t → IsContent st t
is_content heap st t a = (opened heap st a.prefix t a.back a.keeps).is

pub block_in_use : (heap : Heap) (st : Store) (p : Place) (n : ℕ) → IsAmong heap st (Block p n) → IsInUse heap st p
block_in_use heap st p n a =
    let o = opened heap st a.prefix (Block p n) a.back a.keeps in
    record {
      places = all_places st a.prefix ++ p ∷ all_places st a.back;
      rest = all_places st a.prefix ++ all_places st a.back;
      keeps = o.blocks.keeps;
      has = (all_places st a.prefix, all_places st a.back, refl, refl);
    }

pub block_room : (heap : Heap) (st : Store) (p : Place) (n : ℕ) → IsAmong heap st (Block p n) → n ≤ room_of p
block_room heap st p n a = (is_content heap st (Block p n) a).1

pub slice_has_size : (heap : Heap) (st : Store) (k n : ℕ) → IsAmong heap st (Slice k n) → HasSize st k n
slice_has_size heap st k n a = is_content heap st (Slice k n) a

pub slice_there : (heap : Heap) (st : Store) (k n : ℕ) → IsAmong heap st (Slice k n) → IsSlice st k
slice_there heap st k n a = record { size = n; has = is_content heap st (Slice k n) a }

pub is_space : (heap : Heap) (st : Store) (k n : ℕ) → IsAmong heap st (Space k n) → IsSpace st k n
is_space heap st k n a = is_content heap st (Space k n) a

pub space_there : (heap : Heap) (st : Store) (k n : ℕ) → IsAmong heap st (Space k n) → 0 < st.size k
space_there heap st k n a = let is = is_space heap st k n a in omega (arith, is.pages, up_pos n (omega (arith, is.some)))

pub is_pool : (heap : Heap) (st : Store) (p : pool.Pool) → IsAmong heap st (Pool p) → IsPool p heap st
is_pool heap st p a =
    let o = opened heap st a.prefix (Pool p) a.back a.keeps in
    record { held = held_of p st; others = all_places st a.prefix ++ all_places st a.back; keeps = pool_kept p heap heap st st a.prefix a.back o }

small_fits : (n : ℕ) → n ≤ 2048 → n ≤ size_for n
small_fits n h = grind (arith, nat_tests)

-- a block fits its place
pub block_fits : (p : Place) (n : ℕ) → IsFor n p → n ≤ room_of p
block_fits (Small c q) n is = omega (arith, small_fits n is.0, is.1, size_is c)
block_fits (Large k m) n is = omega (arith, is.1, up_least n, ap up is.1)

-- a heap without a block keeps slots that are empty
none_places : (st : Store) (n : ℕ) → all_places st (replicate n Empty) ≡ []
none_places st zero = refl
none_places st (suc n) = none_places st n

none_chunks : (n : ℕ) → all_chunks (replicate n Empty) ≡ []
none_chunks zero = refl
none_chunks (suc n) = none_chunks n

are_empty : (st : Store) (n : ℕ) → AreContents st (replicate n Empty)
are_empty st zero = tt
are_empty st (suc n) = (tt, are_empty st n)

pub empty_kept : (heap : Heap) (st : Store) (n : ℕ) → KeepsPlaces heap st [] → KeepsContents heap st (replicate n Empty)
empty_kept heap st n k = record {
  each = are_empty st n;
  blocks = subst (λ cs. Blocks heap st (all_places st (replicate n Empty)) cs) (sym (none_chunks n))
      (subst (λ ps. Blocks heap st ps []) (sym (none_places st n)) (record { keeps = k; apart = λ x h o. omega (arith, h) }));
  once = λ x. subst (λ cs. times x cs ≤ 1) (sym (none_chunks n)) (omega arith);
}
