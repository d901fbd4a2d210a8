-- What each call leaves of the four.
use Rattle.std.proofs.Common.{◌≡◌, ℕ, ◌+◌, ◌<◌, inl, inr, Bool, List, [], ◌∷◌, ◌++◌, append_assoc, replicate, get_or, set, Option, Some, None, refl, sym, ap}
use Rattle.std.proofs.Common.{subst, ◌∙◌, arith}
use Rattle.gq_store.specs.Store.{Store, SameChunk}
use Rattle.gq_store.proofs.Stored_byte_lists.{put_here}
use Rattle.gq_heap.specs.declared.heap.Heap.{Heap}
use Rattle.gq_heap.specs.declared.heap.Place.{Place}
use Rattle.gq_heap.specs.declared.heap.Place.TheVariants.{Small}
use Rattle.gq_heap.specs.Heap.{IsHeap, IsInUse, Inserts, SameBytes, Allocates, byte_of, room_of, KeepsPlaces as KeepsHeap, Owns as OwnsHeap}
use Rattle.gq_heap.specs.Heap.{PutsInBlock as PutsBlock}
use Rattle.gq_heap.proofs.Heap_caller_facts.{room_there, heap_there, heap_stays}
use Rattle.gq_sliced.specs.Slices.{HasSize, slice_byte, Makes as MakesSlice, PutsInSlice as PutsSlice}
use Rattle.gq_sliced.proofs.Slice_caller_facts.{size_stays}
use Rattle.gq_pool.specs.declared.pool.Pool.{Pool}
use Rattle.gq_pool.specs.Pools.{places_of, entry_byte, IsTable, IsPool, KeepsPool, KeepsTwoNow, OwnsBoth, OwnsTwo, KeepsNow, Makes, AddsEntry, RemovesEntry}
use Rattle.gq_pool.specs.Pools.{Reads, PutsInEntry, Ends}
use Rattle.gq_pool.proofs.Present_entry_cells.{goes, among_others}
use Rattle.gq_pool.proofs.Pool_call_effects.{entry_room}
use Rattle.gq_pool.proofs.Pool_caller_facts.{pool_beside, taken, given}
use Rattle.gq_pool.proofs.Pools_sharing_heap.{now_within, swapped, swapped_owns, after_first, first_ends, made_second}
use Rattle.gq_list_store.specs.Laid.{AreLaid, IsLaid, IsFilled, IsLeft}

-- the block is one of the places
block_in : (ps qs others : List Place) (block : Place) → Inserts block (ps ++ (qs ++ others)) (ps ++ (qs ++ (block ∷ others)))
block_in ps qs others block = (
  ps ++ qs,
  others,
  sym (append_assoc ps qs others),
  sym (append_assoc ps qs (block ∷ others)),
)

block_room : (heap : Heap) (st : Store) (pool : Pool) (held : List (Option ℕ)) (qs others : List Place) (block : Place)
    → KeepsPool pool heap st held (qs ++ (block ∷ others)) → 0 < room_of block
block_room heap st pool held qs others block k = room_there heap st block (record {
  places = places_of pool.class held ++ (qs ++ (block ∷ others));
  rest = places_of pool.class held ++ (qs ++ others);
  keeps = k.blocks;
  has = block_in (places_of pool.class held) qs others block;
})

-- an entry reads as before where the places of its pool do
entry_same : (pool : Pool) (old new : Store) (held : List (Option ℕ)) (ps others : List Place) (i q k : ℕ)
    → IsTable pool old held → i < pool.count → k < pool.size → get_or held i None ≡ Some q
    → SameBytes old new (ps ++ (places_of pool.class held ++ others)) → entry_byte pool new (Some q) k ≡ entry_byte pool old (Some q) k
entry_same pool old new held ps others i q k t l below at same =
    let ins = goes pool.class held i q others (omega (arith, l, t.count)) at in
    same (Small pool.class q) (ps ++ (places_of pool.class (set held i None) ++ others))
    (among_others (Small pool.class q) ps (places_of pool.class (set held i None) ++ others) (places_of pool.class held ++ others) ins) k
    (omega (arith, entry_room pool old held t))

-- either pool may be named first
module _ (a b : Pool) (heap : Heap) (st : Store) (block : Place) (slice : ℕ) (held more : List (Option ℕ)) (others : List Place)
    (s : AreLaid a b heap st block slice held more others) where
  turned : AreLaid b a heap st block slice more held others
  turned = record {
    pools = swapped a b heap st held more (block ∷ others) s.pools;
    has = s.has;
    apart = λ o. s.apart (swapped_owns a b heap st held more (block ∷ others) s.pools slice o);
    in_slice = s.in_slice;
    in_block = s.in_block;
  }

-- a call of the first pool
module _ (a b : Pool) (before after : Heap) (old new : Store) (block : Place) (slice : ℕ) (held then more those : List (Option ℕ)) (others : List Place)
    (s : AreLaid a b before old block slice held more others)
    (n : KeepsNow a after old new then (places_of b.class more ++ (block ∷ others))
    (OwnsBoth a before old held (places_of b.class more ++ (block ∷ others)) s.pools.keeps))
    (same : SameBytes old new (places_of a.class those ++ (places_of b.class more ++ (block ∷ others)))) where
  there : 0 < old.size slice
  there = omega (arith, s.has.pages)

  chunk : SameChunk old new slice
  chunk = n.spares slice there (λ o. s.apart (inl o))

  two : KeepsTwoNow a b after old new then more (block ∷ others) (OwnsTwo a b before old held more (block ∷ others) s.pools)
  two = after_first a b before after old new held then more (block ∷ others) s.pools n

  first_called : AreLaid a b after new block slice then more others
  first_called = record {
    pools = two.keeps;
    has = size_stays old new slice 16 chunk s.has;
    apart = λ o. elim (two.owns slice o) [ inl h ↦ s.apart h | inr e ↦ omega (arith, e, there) ];
    in_slice = chunk.bytes (32 + 3) ∙ s.in_slice;
    in_block = same block (places_of a.class those ++ (places_of b.class more ++ others))
        (block_in (places_of a.class those) (places_of b.class more) others block) 0
        (block_room before old a held (places_of b.class more) others block s.pools.keeps) ∙ s.in_block;
  }

-- a call of the second pool leaves the entry of the first
module _ (a b : Pool) (before after : Heap) (old new : Store) (block : Place) (slice v : ℕ) (s : IsFilled a b before old block slice v) where
  abbrev turn : AreLaid b a before old block slice s.more s.held s.others
  turn = turned a b before old block slice s.held s.more s.others s.laid

  second_called : (then those : List (Option ℕ))
      → KeepsNow b after old new then (places_of a.class s.held ++ (block ∷ s.others))
      (OwnsBoth b before old s.more (places_of a.class s.held ++ (block ∷ s.others)) turn.pools.keeps)
      → SameBytes old new (places_of b.class those ++ (places_of a.class s.held ++ (block ∷ s.others))) → IsFilled a b after new block slice v
  second_called then those n same = record {
    held = s.held;
    more = then;
    others = s.others;
    laid = turned b a after new block slice then s.held s.others
        (first_called b a before after old new block slice s.more then s.held those s.others turn n same);
    four = s.four;
    entry = s.entry;
    at = s.at;
    in_entry = entry_same a old new s.held (places_of b.class those) (block ∷ s.others) 0 s.entry 2 s.laid.pools.keeps.table (omega (arith, s.four.0))
        (omega (arith, s.four.1)) s.at same ∙ s.in_entry;
  }

-- ---- the calls of `trade`
pub first_takes : (a b : Pool) (before after : Heap) (old new : Store) (block : Place) (slice : ℕ) (added : Bool) → IsLaid a b before old block slice
    → AddsEntry a before after old new 0 added → (v : ℕ) × IsFilled a b after new block slice v
first_takes a b before after old new block slice added s t =
    let others = places_of b.class s.more ++ (block ∷ s.others) in
    let r = taken a before after old new 0 added s.held others s.laid.pools.keeps (omega (arith, s.four.0)) t in (
      entry_byte a new (Some r.place) 2,
      record {
        held = r.then;
        more = s.more;
        others = s.others;
        laid = first_called a b before after old new block slice s.held r.then s.more s.held s.others s.laid r.now r.bytes;
        four = s.four;
        entry = r.place;
        at = r.at;
        in_entry = refl;
      },
    )

pub first_puts : (a b : Pool) (heap : Heap) (old new : Store) (block : Place) (slice v w : ℕ) → IsFilled a b heap old block slice v
    → PutsInEntry a heap old new 0 2 (w ∷ []) → IsFilled a b heap new block slice w
first_puts a b heap old new block slice v w s p =
    let others = places_of b.class s.more ++ (block ∷ s.others) in
    let n = now_within a heap old new s.held others (OwnsBoth a heap old s.held others s.laid.pools.keeps) (p.keeps s.held others s.laid.pools.keeps) in
    record {
      held = s.held;
      more = s.more;
      others = s.others;
      laid = first_called a b heap heap old new block slice s.held s.held s.more (set s.held 0 None) s.others s.laid n
          (p.others s.held others s.laid.pools.keeps);
      four = s.four;
      entry = s.entry;
      at = s.at;
      in_entry = put_here (entry_byte a old (Some s.entry)) (entry_byte a new (Some s.entry)) 2 w
          (p.put s.held others s.laid.pools.keeps s.entry s.at);
    }

pub second_takes : (a b : Pool) (before after : Heap) (old new : Store) (block : Place) (slice v : ℕ) (added : Bool)
    → IsFilled a b before old block slice v → AddsEntry b before after old new 1 added → IsFilled a b after new block slice v
second_takes a b before after old new block slice v added s t =
    let u = turned a b before old block slice s.held s.more s.others s.laid in
    let r = taken b before after old new 1 added s.more (places_of a.class s.held ++ (block ∷ s.others)) u.pools.keeps (omega (arith, s.four.2)) t in
    second_called a b before after old new block slice v s r.then s.more r.now r.bytes

pub second_gives : (a b : Pool) (before after : Heap) (old new : Store) (block : Place) (slice v : ℕ) (removed : Bool)
    → IsFilled a b before old block slice v → RemovesEntry b before after old new 1 removed → IsFilled a b after new block slice v
second_gives a b before after old new block slice v removed s g =
    let u = turned a b before old block slice s.held s.more s.others s.laid in
    let others = places_of a.class s.held ++ (block ∷ s.others) in
    let r = given b before after old new 1 removed s.more others u.pools.keeps g in
    second_called a b before after old new block slice v s r.then r.then
    (now_within b after old new r.then others (OwnsBoth b before old s.more others u.pools.keeps) r.now) r.bytes

pub second_ends : (a b : Pool) (before after : Heap) (old new : Store) (block : Place) (slice v : ℕ) → IsFilled a b before old block slice v
    → Ends b before after old new → IsLeft a after new block slice v
second_ends a b before after old new block slice v s e =
    let u = turned a b before old block slice s.held s.more s.others s.laid in
    let others = places_of a.class s.held ++ (block ∷ s.others) in
    let n = e.keeps s.more others u.pools.keeps in
    let same = e.bytes s.more others u.pools.keeps in
    let there : 0 < old.size slice = omega (arith, s.laid.has.pages) in
    let chunk = n.spares slice there (λ o. u.apart (inl o)) in
    record {
      held = s.held;
      others = s.others;
      keeps = (first_ends b a before after old new s.more s.held (block ∷ s.others) u.pools e).0;
      four = (s.four.0, s.four.1);
      entry = s.entry;
      at = s.at;
      in_entry = entry_same a old new s.held [] (block ∷ s.others) 0 s.entry 2 s.laid.pools.keeps.table (omega (arith, s.four.0))
          (omega (arith, s.four.1)) s.at same ∙ s.in_entry;
      has = size_stays old new slice 16 chunk s.laid.has;
      in_slice = chunk.bytes (32 + 3) ∙ s.laid.in_slice;
      in_block = same block (places_of a.class s.held ++ s.others) (block_in [] (places_of a.class s.held) s.others block) 0
          (block_room before old b s.more (places_of a.class s.held) s.others block u.pools.keeps) ∙ s.laid.in_block;
    }

-- ---- what each call asks
pub first_is : (a b : Pool) (heap : Heap) (st : Store) (block : Place) (slice : ℕ) → IsLaid a b heap st block slice → IsPool a heap st
first_is a b heap st block slice s = record { held = s.held; others = places_of b.class s.more ++ (block ∷ s.others); keeps = s.laid.pools.keeps }

pub filled_is : (a b : Pool) (heap : Heap) (st : Store) (block : Place) (slice v : ℕ) → IsFilled a b heap st block slice v → IsPool a heap st
filled_is a b heap st block slice v s = record { held = s.held; others = places_of b.class s.more ++ (block ∷ s.others); keeps = s.laid.pools.keeps }

pub second_is : (a b : Pool) (heap : Heap) (st : Store) (block : Place) (slice v : ℕ) → IsFilled a b heap st block slice v → IsPool b heap st
second_is a b heap st block slice v s =
    let u = turned a b heap st block slice s.held s.more s.others s.laid in
    record { held = s.more; others = places_of a.class s.held ++ (block ∷ s.others); keeps = u.pools.keeps }

pub left_is : (a : Pool) (heap : Heap) (st : Store) (block : Place) (slice v : ℕ) → IsLeft a heap st block slice v → IsPool a heap st
left_is a heap st block slice v s = record { held = s.held; others = block ∷ s.others; keeps = s.keeps }

pub left_block : (a : Pool) (heap : Heap) (st : Store) (block : Place) (slice v : ℕ) → IsLeft a heap st block slice v → IsInUse heap st block
left_block a heap st block slice v s = record {
  places = places_of a.class s.held ++ (block ∷ s.others);
  rest = places_of a.class s.held ++ s.others;
  keeps = s.keeps.blocks;
  has = block_in [] (places_of a.class s.held) s.others block;
}

-- what the entry reads then
pub reads_entry : (a : Pool) (heap : Heap) (st : Store) (block : Place) (slice v : ℕ) → IsLeft a heap st block slice v → (b : ℕ)
    → Reads a heap st 0 2 b → b ≡ v
reads_entry a heap st block slice v s b r = r s.held (block ∷ s.others) s.keeps ∙ ap (λ o. entry_byte a st o 2) s.at ∙ s.in_entry

-- ---- the calls of `lay`
-- the block is made and written, then the slice
pub record IsBegun (heap : Heap) (st : Store) (block : Place) (others : List Place) : Type 0 where
  pub keeps : KeepsHeap heap st (block ∷ others)
  pub in_block : byte_of st block 0 ≡ 9

pub block_laid : (before after : Heap) (old mid new : Store) (block : Place) (h : IsHeap before old) → Allocates before after old mid 16 block
    → PutsBlock after mid new block 0 (9 ∷ []) → IsBegun after new block h.places
block_laid before after old mid new block h a p =
    let n = a.keeps h.places (block ∷ h.places) h.keeps ([], h.places, refl, refl) in
    record {
      keeps = (p.keeps (block ∷ h.places) h.places n.keeps ([], h.places, refl, refl)).keeps;
      in_block = put_here (byte_of mid block) (byte_of new block) 0 9 p.put;
    }

-- the slice is none of the heap's chunks
pub record IsSliced (heap : Heap) (st : Store) (block : Place) (others : List Place) (slice : ℕ) : Type 0 where
  pub keeps : KeepsHeap heap st (block ∷ others)
  pub in_block : byte_of st block 0 ≡ 9
  pub has : HasSize st slice 16
  pub apart : OwnsHeap heap st (block ∷ others) keeps slice → ⊥
  pub in_slice : slice_byte st slice 3 ≡ 7

pub slice_laid : (heap : Heap) (old mid new : Store) (block : Place) (others : List Place) (slice : ℕ) → IsBegun heap old block others
    → MakesSlice old mid 16 slice → PutsSlice mid new slice 3 (7 ∷ []) → IsSliced heap new block others slice
slice_laid heap old mid new block others slice s m p =
    let there = heap_there heap old (block ∷ others) s.keeps in
    let first = heap_stays heap old mid (block ∷ others) s.keeps (λ x o. m.spares x (there x o) (λ n. n)) in
    let not : OwnsHeap heap old (block ∷ others) s.keeps slice → ⊥ = λ o. let h = there slice o in omega (arith, h, m.fresh) in
    let second = heap_stays heap mid new (block ∷ others) first.keeps (λ x o. p.spares x
    (heap_there heap mid (block ∷ others) first.keeps x o) (λ e. not (subst (OwnsHeap heap old (block ∷ others) s.keeps) e (first.owns x o)))) in
    let room : 0 < room_of block = room_there heap old block (record
    { places = block ∷ others; rest = others; keeps = s.keeps; has = ([], others, refl, refl) }) in
    record {
      keeps = second.keeps;
      in_block = second.bytes block others ([], others, refl, refl) 0 room ∙ first.bytes block others ([], others, refl, refl) 0 room ∙ s.in_block;
      has = p.keeps 16 m.has;
      apart = λ o. not (first.owns slice (second.owns slice o));
      in_slice = put_here (slice_byte mid slice) (slice_byte new slice) 3 7 p.put;
    }

-- the first pool is made beside them
pub record HasFirst (a : Pool) (heap : Heap) (st : Store) (block : Place) (others : List Place) (slice : ℕ) : Type 0 where
  pub keeps : KeepsPool a heap st (replicate 4 None) (block ∷ others)
  pub in_block : byte_of st block 0 ≡ 9
  pub has : HasSize st slice 16
  pub apart : OwnsBoth a heap st (replicate 4 None) (block ∷ others) keeps slice → ⊥
  pub in_slice : slice_byte st slice 3 ≡ 7

pub first_laid : (a : Pool) (heap : Heap) (old new : Store) (block : Place) (others : List Place) (slice : ℕ) → IsSliced heap old block others slice
    → Makes old new 16 4 a → HasFirst a heap new block others slice
first_laid a heap old new block others slice s m =
    let there : 0 < old.size slice = omega (arith, s.has.pages) in
    let chunk = m.spares slice there (λ x. x) in
    let k = pool_beside a heap old new 16 4 (block ∷ others) s.keeps m in
    let one = heap_stays heap old new (block ∷ others) s.keeps (λ x o. m.spares x (heap_there heap old (block ∷ others) s.keeps x o) (λ e. e)) in
    let room : 0 < room_of block = room_there heap old block (record
    { places = block ∷ others; rest = others; keeps = s.keeps; has = ([], others, refl, refl) }) in
    record {
      keeps = k.0;
      in_block = one.bytes block others ([], others, refl, refl) 0 room ∙ s.in_block;
      has = size_stays old new slice 16 chunk s.has;
      apart = λ o. elim (k.1 slice o) [ inl h ↦ s.apart h | inr e ↦ omega (arith, e, there) ];
      in_slice = chunk.bytes (32 + 3) ∙ s.in_slice;
    }

-- then the second
pub second_laid : (a b : Pool) (heap : Heap) (old new : Store) (block : Place) (others : List Place) (slice : ℕ) → HasFirst a heap old block others slice
    → (a.count ≡ 4) × (a.size ≡ 16) → Makes old new 16 4 b → IsLaid a b heap new block slice
second_laid a b heap old new block others slice s four m =
    let there : 0 < old.size slice = omega (arith, s.has.pages) in
    let chunk = m.spares slice there (λ x. x) in
    let two = made_second a b heap old new (replicate 4 None) (block ∷ others) 16 4 s.keeps m in
    let one = heap_stays heap old new (block ∷ others) s.keeps.blocks (λ x o. m.spares x (heap_there heap old (block ∷ others) s.keeps.blocks x o) (λ e. e)) in
    let room : 0 < room_of block = room_there heap old block (record
    { places = block ∷ others; rest = others; keeps = s.keeps.blocks; has = ([], others, refl, refl) }) in
    record {
      held = replicate 4 None;
      more = replicate 4 None;
      others = others;
      laid = record {
        pools = two.keeps;
        has = size_stays old new slice 16 chunk s.has;
        apart = λ o. elim (two.owns slice o) [ inl h ↦ s.apart h | inr e ↦ omega (arith, e, there) ];
        in_slice = chunk.bytes (32 + 3) ∙ s.in_slice;
        in_block = one.bytes block others ([], others, refl, refl) 0 room ∙ s.in_block;
      };
      four = (four.0, four.1, m.count_is, m.size_is);
    }
