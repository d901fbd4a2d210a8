-- The calls on contents of each kind.
use Rattle.std.proofs.Common.{◌≡◌, ℕ, ◌<◌, ◌≤◌, ◌⊎◌, inl, inr, List, [], ◌∷◌, ◌++◌, length, ◌+◌, replicate, refl, sym, ap, subst, ◌∙◌, arith}
use Rattle.std.proofs.lemmas.Bool.{cases_eq}
use Rattle.std.proofs.lemmas.Bool.Decides.{nat_tests}
use Rattle.gq_store.specs.Store.{Store, Spares, Writes, Grows, Shrinks}
use Rattle.gq_tariff.specs.Prices.{up}
use Rattle.gq_model.specs.declared.program.Form.TheVariants as form
use Rattle.gq_model.specs.machine.World as world
use Rattle.gq_heap.specs.declared.heap.Heap.{Heap}
use Rattle.gq_heap.specs.declared.heap.Place.{Place}
use Rattle.gq_heap.specs.List_occurrences.{times}
use Rattle.gq_heap.specs.Heap.{Inserts, Owns, KeepsStill, PutsInBlock, Allocates, Frees, room_of}
use Rattle.gq_heap.proofs.Free_cell_chains.{times_same}
use Rattle.gq_heap.proofs.Heap_cell_lists.{times_other}
use Rattle.gq_heap.proofs.Heap_caller_facts.{heap_there, heap_stays}
use Rattle.gq_sliced.specs.Slices as slices
use Rattle.gq_sliced.specs.Slices.{HasSize}
use Rattle.gq_contents.specs.declared.content.Content.{Content}
use Rattle.gq_contents.specs.declared.content.Content.TheVariants.{Empty, Block, Slice, Space, Link, Waiting}
use Rattle.gq_contents.specs.Contents.{seen, chunks, places, IsContent, put_in}
use Rattle.gq_contents.specs.Contents_invariant.{all_chunks, all_places, SameSeen, Blocks, KeepsBeside, Changes}
use Rattle.gq_contents.proofs.Content_lists.{times_among, each_prefix, each_among}
use Rattle.gq_store.proofs.Stored_byte_lists.{listed_put, listed_zero}
use Rattle.gq_store.specs.Chunk_bytes.{HasBytes}
use Rattle.gq_heap.proofs.Block_byte_lists.{block_put, block_made}
use Rattle.gq_sliced.proofs.Slice_byte_lists.{slice_put, slice_made}
use Rattle.gq_contents.proofs.Unchanged_content_meaning.{by_bytes, places_left, places_right}
use Rattle.gq_contents.proofs.Other_contents_kept.{Opened, opened, beside}

pub times_one : (x c : ℕ) → 0 < times x (c ∷ []) → x ≡ c
times_one x c h = elim (cases_eq x c) [ inl e ↦ e | inr ne ↦ absurd (omega (arith, h, times_other x c [] ne)) ]

pub times_once : (x c : ℕ) → times x (c ∷ []) ≤ 1
times_once x c = elim (cases_eq x c) [ inl e ↦ grind (arith, nat_tests) | inr ne ↦ omega (arith, times_other x c [] ne) ]

pub times_here : (c : ℕ) → 0 < times c (c ∷ [])
times_here c = omega (arith, times_same c [])

-- ---- a call on the chunk of a content without places: slices, spaces, the tables of pools
module _ (heap : Heap) (old new : Store) (prefix back : List Content) (t u : Content) (c : ℕ) (k : Opened heap old prefix t back) (none : places old t ≡ [])
    (no : places new u ≡ []) (spares : Spares (λ x. x ≡ c) old new) (place : (0 < times c (chunks t)) ⊎ (old.size c ≡ 0)) (is : IsContent new u)
    (its : (x : ℕ) → 0 < times x (chunks u) → x ≡ c) (u_once : (x : ℕ) → times x (chunks u) ≤ 1) where
  abbrev owned : ℕ → Type 0
  owned = Owns heap old (all_places old prefix ++ (places old t ++ all_places old back)) k.blocks.keeps

  not_heap : owned c → ⊥
  not_heap o = elim place [
    | inl l ↦ k.blocks.apart c (omega (arith, l, times_among c prefix t back)) o
    | inr e ↦ omega (arith, e, heap_there heap old (all_places old prefix ++ (places old t ++ all_places old back)) k.blocks.keeps c o)
  ]

  still : KeepsStill heap old new (all_places old prefix ++ (places old t ++ all_places old back)) owned
  still = heap_stays heap old new (all_places old prefix ++ (places old t ++ all_places old back)) k.blocks.keeps (λ x o.
      spares x (heap_there heap old (all_places old prefix ++ (places old t ++ all_places old back)) k.blocks.keeps x o) (λ e. not_heap (subst owned e o)))

  still_so : KeepsStill heap old new (all_places old prefix ++ (places new u ++ all_places old back)) owned
  still_so = subst (λ ps. KeepsStill heap old new ps owned) (λ i. all_places old prefix ++ ((none ∙ sym no) i ++ all_places old back)) still

  pub by_chunk : KeepsBeside heap old new prefix u back
  by_chunk =
      let s = by_bytes old new (all_places old prefix ++ (places old t ++ all_places old back)) still.bytes in
      beside heap old prefix back t k heap new u (λ x. x ≡ c) spares (λ x e. inr (elim place [
        | inl l ↦ inl (subst (λ y. 0 < times y (chunks t)) (sym e) l)
        | inr z ↦ inr (subst (λ y. old.size y ≡ 0) (sym e) z)
      ])) (places_left old new (all_places old prefix) (places old t ++ all_places old back) s)
      (places_right old new (places old t) (all_places old back) (places_right old new (all_places old prefix) (places old t ++ all_places old back) s)) is
      (record { keeps = still_so.keeps; apart = λ x l o. not_heap (subst owned (its x l) (still_so.owns x o)) }) (λ x o. inl (still_so.owns x o))
      (λ x l. elim place [
        | inl m ↦ inl (subst (λ y. 0 < times y (chunks t)) (sym (its x l)) m)
        | inr z ↦ inr (subst (λ y. old.size y ≡ 0) (sym (its x l)) z)
      ]) u_once

-- ---- slices
pub slice_puts : (heap : Heap) (old new : Store) (k n i : ℕ) (bytes : List ℕ) → slices.PutsInSlice old new k i bytes
    → Changes heap heap old new (Slice k n) (Slice k n)
slice_puts heap old new k n i bytes s prefix back h =
    let o = opened heap old prefix (Slice k n) back h in
    by_chunk heap old new prefix back (Slice k n) (Slice k n) k o refl refl s.spares (inl (times_here k)) (s.keeps n o.is) (λ x l. times_one x k l)
    (λ x. times_once x k)

pub slice_puts_seen : (old new : Store) (k n i : ℕ) (bytes : List ℕ) → i + length bytes ≤ n → slices.PutsInSlice old new k i bytes
    → seen new (Slice k n) ≡ put_in i bytes (seen old (Slice k n))
slice_puts_seen old new k n i bytes inside s = ap (world.Bytes form.Slice n) (slice_put old new k n i bytes inside s)

pub slice_makes : (heap : Heap) (old new : Store) (k n : ℕ) → slices.Makes old new n k → Changes heap heap old new Empty (Slice k n)
slice_makes heap old new k n s prefix back h =
    let o = opened heap old prefix Empty back h in
    by_chunk heap old new prefix back Empty (Slice k n) k o refl refl (λ x there ne. s.spares x there (λ f. f)) (inr s.fresh) s.has
    (λ x l. times_one x k l) (λ x. times_once x k)

pub slice_makes_seen : (old new : Store) (k n : ℕ) → slices.Makes old new n k → seen new (Slice k n) ≡ world.Bytes form.Slice n (replicate n 0)
slice_makes_seen old new k n s = ap (world.Bytes form.Slice n) (slice_made old new n k s)

pub slice_frees : (heap : Heap) (old new : Store) (k n : ℕ) → slices.Frees old new k → Changes heap heap old new (Slice k n) Empty
slice_frees heap old new k n s prefix back h =
    let o = opened heap old prefix (Slice k n) back h in
    by_chunk heap old new prefix back (Slice k n) Empty k o refl refl s.spares (inl (times_here k)) tt (λ x l. absurd (omega (arith, l))) (λ x. omega arith)

-- ---- spaces
pub space_writes : (heap : Heap) (old new : Store) (k n i m : ℕ) → Writes old new k i m → Changes heap heap old new (Space k n) (Space k n)
space_writes heap old new k n i m w prefix back h =
    let o = opened heap old prefix (Space k n) back h in
    by_chunk heap old new prefix back (Space k n) (Space k n) k o refl refl
    (λ x there ne. record { size = w.size x; bytes = λ j. w.elsewhere x j (λ e a b. ne e) }) (inl (times_here k))
    (record { pages = w.size k ∙ o.is.pages; some = o.is.some; small = o.is.small }) (λ x l. times_one x k l) (λ x. times_once x k)

pub space_writes_seen : (old new : Store) (k n i : ℕ) (bytes : List ℕ) → i + length bytes ≤ up n → HasBytes (new.byte k) i bytes
    → Writes old new k i (length bytes) → seen new (Space k n) ≡ put_in i bytes (seen old (Space k n))
space_writes_seen old new k n i bytes inside here w = ap (world.Bytes form.Space n)
    (listed_put (up n) (old.byte k) (new.byte k) i bytes inside (record { here = here; rest = λ j out. w.elsewhere k j (λ e x y. out x y) }))

pub space_makes : (heap : Heap) (old new : Store) (k n : ℕ) → 1 ≤ n → n ≤ 67108864 → Grows old new k (up n) → Changes heap heap old new Empty (Space k n)
space_makes heap old new k n some small s prefix back h =
    let o = opened heap old prefix Empty back h in
    by_chunk heap old new prefix back Empty (Space k n) k o refl refl (λ x there ne. record { size = s.sizes x ne; bytes = λ j. s.bytes x j ne }) (inr s.fresh)
    (record { pages = s.size; some = some; small = small }) (λ x l. times_one x k l) (λ x. times_once x k)

pub space_makes_seen : (old new : Store) (k n : ℕ) → Grows old new k (up n) → seen new (Space k n) ≡ world.Bytes form.Space n (replicate (up n) 0)
space_makes_seen old new k n s = ap (world.Bytes form.Space n) (listed_zero (up n) (new.byte k) s.zero)

pub space_frees : (heap : Heap) (old new : Store) (k n : ℕ) → Shrinks old new k → Changes heap heap old new (Space k n) Empty
space_frees heap old new k n s prefix back h =
    let o = opened heap old prefix (Space k n) back h in
    by_chunk heap old new prefix back (Space k n) Empty k o refl refl (λ x there ne. record { size = s.sizes x ne; bytes = λ j. s.bytes x j ne })
    (inl (times_here k)) tt (λ x l. absurd (omega (arith, l))) (λ x. omega arith)

-- ---- blocks
module _ (old : Store) (prefix back : List Content) (p : Place) where
  abbrev without : List Place
  without = all_places old prefix ++ all_places old back

  abbrev with_it : List Place
  with_it = all_places old prefix ++ p ∷ all_places old back

  abbrev inserts : Inserts p without with_it
  inserts = (all_places old prefix, all_places old back, refl, refl)

pub block_puts : (heap : Heap) (old new : Store) (p : Place) (n i : ℕ) (bytes : List ℕ) → PutsInBlock heap old new p i bytes
    → Changes heap heap old new (Block p n) (Block p n)
block_puts heap old new p n i bytes s prefix back h =
    let o = opened heap old prefix (Block p n) back h in
    let now = s.keeps (with_it old prefix back p) (without old prefix back p) o.blocks.keeps (inserts old prefix back p) in
    let same = by_bytes old new (without old prefix back p)
    (s.others (with_it old prefix back p) (without old prefix back p) o.blocks.keeps (inserts old prefix back p)) in
    beside heap old prefix back (Block p n) o heap new (Block p n) (Owns heap old (with_it old prefix back p) o.blocks.keeps) now.spares (λ x w. inl w)
    (places_left old new (all_places old prefix) (all_places old back) same) (places_right old new (all_places old prefix) (all_places old back) same) o.is
    (record { keeps = now.keeps; apart = λ x l w. absurd (omega (arith, l)) }) (λ x w. inl (now.owns x w)) (λ x l. absurd (omega (arith, l))) (λ x. omega arith)

pub block_puts_seen : (heap : Heap) (old new : Store) (p : Place) (n i : ℕ) (bytes : List ℕ) → i + length bytes ≤ n → PutsInBlock heap old new p i bytes
    → seen new (Block p n) ≡ put_in i bytes (seen old (Block p n))
block_puts_seen heap old new p n i bytes inside s = ap (world.Bytes form.Block n) (block_put heap old new p n i bytes inside s)

pub block_makes : (before after : Heap) (old new : Store) (p : Place) (n : ℕ) → n ≤ room_of p → Allocates before after old new n p
    → Changes before after old new Empty (Block p n)
block_makes before after old new p n fits a prefix back h =
    let o = opened before old prefix Empty back h in
    let now = a.keeps (without old prefix back p) (with_it old prefix back p) o.blocks.keeps (inserts old prefix back p) in
    let same = by_bytes old new (without old prefix back p) (a.others (without old prefix back p) o.blocks.keeps) in
    beside before old prefix back Empty o after new (Block p n) (Owns before old (without old prefix back p) o.blocks.keeps) now.spares (λ x w. inl w)
    (places_left old new (all_places old prefix) (all_places old back) same) (places_right old new (all_places old prefix) (all_places old back) same)
    (a.kind, fits)
    (record { keeps = now.keeps; apart = λ x l w. absurd (omega (arith, l)) }) (λ x w. now.owns x w) (λ x l. absurd (omega (arith, l))) (λ x. omega arith)

pub block_frees : (before after : Heap) (old new : Store) (p : Place) (n : ℕ) → Frees before after old new p → Changes before after old new (Block p n) Empty
block_frees before after old new p n f prefix back h =
    let o = opened before old prefix (Block p n) back h in
    let now = f.keeps (with_it old prefix back p) (without old prefix back p) o.blocks.keeps (inserts old prefix back p) in
    let same = by_bytes old new (without old prefix back p)
    (f.others (with_it old prefix back p) (without old prefix back p) o.blocks.keeps (inserts old prefix back p)) in
    beside before old prefix back (Block p n) o after new Empty (Owns before old (with_it old prefix back p) o.blocks.keeps) now.spares (λ x w. inl w)
    (places_left old new (all_places old prefix) (all_places old back) same) (places_right old new (all_places old prefix) (all_places old back) same) tt
    (record { keeps = now.keeps; apart = λ x l w. absurd (omega (arith, l)) }) (λ x w. inl (now.owns x w)) (λ x l. absurd (omega (arith, l))) (λ x. omega arith)

pub block_makes_seen : (before after : Heap) (old new : Store) (p : Place) (n : ℕ) → n ≤ room_of p → Allocates before after old new n p
    → seen new (Block p n) ≡ world.Bytes form.Block n (replicate n 0)
block_makes_seen before after old new p n fits a = ap (world.Bytes form.Block n) (block_made before after old new n n p fits a)

-- ---- what holds no memory
pub record HoldsNone (t : Content) : Type 0 where
  pub no_chunks : chunks t ≡ []
  pub no_places : (st : Store) → places st t ≡ []
  pub is : (st : Store) → IsContent st t

same_chunks : (prefix : List Content) (t u : Content) (back : List Content) → chunks t ≡ chunks u
    → all_chunks (prefix ++ t ∷ back) ≡ all_chunks (prefix ++ u ∷ back)
same_chunks [] t u back e = ap (λ cs. cs ++ all_chunks back) e
same_chunks (x ∷ prefix) t u back e = ap (λ cs. chunks x ++ cs) (same_chunks prefix t u back e)

same_places : (st : Store) (prefix : List Content) (t u : Content) (back : List Content) → places st t ≡ places st u
    → all_places st (prefix ++ t ∷ back) ≡ all_places st (prefix ++ u ∷ back)
same_places st [] t u back e = ap (λ ps. ps ++ all_places st back) e
same_places st (x ∷ prefix) t u back e = ap (λ ps. places st x ++ ps) (same_places st prefix t u back e)

pub same_seen : (st : Store) (ts : List Content) → SameSeen st st ts
same_seen st [] = tt
same_seen st (t ∷ ts) = (refl, same_seen st ts)

-- one that holds no memory stands in the place of another
pub none_holds : (heap : Heap) (st : Store) (t u : Content) → HoldsNone t → HoldsNone u → Changes heap heap st st t u
none_holds heap st t u a b prefix back h =
    let ps = same_places st prefix t u back (a.no_places st ∙ sym (b.no_places st)) in
    let cs = same_chunks prefix t u back (a.no_chunks ∙ sym b.no_chunks) in
    let are = each_prefix st prefix t back h.each in
    record {
      keeps = record {
        each = each_among st prefix u back are.0 (b.is st) are.2;
        blocks = subst (λ xs. Blocks heap st xs (all_chunks (prefix ++ u ∷ back))) ps
            (subst (λ xs. Blocks heap st (all_places st (prefix ++ t ∷ back)) xs) cs h.blocks);
        once = λ x. subst (λ xs. times x xs ≤ 1) cs (h.once x);
      };
      prefix_seen = same_seen st prefix;
      back_seen = same_seen st back;
    }

-- nothing happens
pub unchanged : (heap : Heap) (st : Store) (t : Content) → Changes heap heap st st t t
unchanged heap st t prefix back k = record { keeps = k; prefix_seen = same_seen st prefix; back_seen = same_seen st back }

pub empty_holds : HoldsNone Empty
empty_holds = record { no_chunks = refl; no_places = λ st. refl; is = λ st. tt }

pub link_holds : (k : ℕ) → HoldsNone (Link k)
link_holds k = record { no_chunks = refl; no_places = λ st. refl; is = λ st. tt }

pub waiting_holds : (k : ℕ) → HoldsNone (Waiting k)
waiting_holds k = record { no_chunks = refl; no_places = λ st. refl; is = λ st. tt }
