-- What leaves the chunks and places of contents alone leaves what they stand for.
use Rattle.std.proofs.Common.{◌≡◌, ℕ, ◌+◌, ◌*◌, ◌<◌, ◌≤◌, inl, inr, List, [], ◌∷◌, ◌++◌, map, Option, Some, None, refl, sym, ap, subst, ◌∙◌, arith}
use Rattle.std.proofs.lemmas.Bool.{cases_eq, cases_lt}
use Rattle.gq_tariff.specs.Prices.{up}
use Rattle.gq_model.specs.declared.program.Form.TheVariants as form
use Rattle.gq_model.specs.machine.World as world
use Rattle.gq_store.specs.Store.{Store, SameChunk}
use Rattle.gq_heap.specs.declared.heap.Place.{Place}
use Rattle.gq_heap.specs.List_occurrences.{times}
use Rattle.gq_heap.specs.Classes.{index_of, size_at}
use Rattle.gq_heap.specs.Heap.{SameBytes, byte_of, room_of}
use Rattle.gq_heap.proofs.Heap_cell_lists.{times-append, times_other, up_pos}
use Rattle.gq_heap.proofs.Free_cell_chains.{times_same}
use Rattle.gq_sliced.proofs.Slice_caller_facts.{size_stays}
use Rattle.gq_pool.specs.declared.pool.Pool as pool
use Rattle.gq_pool.specs.Pools.{IsTable, places_of, held_of, entry_of, entry_bytes}
use Rattle.gq_pool.proofs.Pool_call_effects.{entry_room}
use Rattle.gq_pool.proofs.Present_entry_cells.{table_stays}
use Rattle.gq_contents.specs.declared.content.Content.{Content}
use Rattle.gq_contents.specs.declared.content.Content.TheVariants.{Empty, Block, Slice, Space, Pool, Link, Waiting}
use Rattle.gq_contents.specs.Contents.{seen, chunks, places, IsContent}
use Rattle.gq_contents.specs.Contents_invariant.{all_chunks, all_places, AreContents, SameSeen}
use Rattle.gq_store.proofs.Stored_byte_lists.{listed_same}

-- each of these places reads as before
abbrev pub SamePlaces : Store → Store → List Place → Type 0
SamePlaces old new [] = Unit {0}
SamePlaces old new (p ∷ ps) = ((i : ℕ) → i < room_of p → byte_of new p i ≡ byte_of old p i) × SamePlaces old new ps

-- each of these chunks is as it was
abbrev pub SameChunks : Store → Store → List ℕ → Type 0
SameChunks old new [] = Unit {0}
SameChunks old new (c ∷ cs) = SameChunk old new c × SameChunks old new cs

pub by_bytes : (old new : Store) (ps : List Place) → SameBytes old new ps → SamePlaces old new ps
by_bytes old new [] h = tt
by_bytes old new (p ∷ ps) h = (
  h p ps ([], ps, refl, refl),
  by_bytes old new ps (λ q rest ins. h q (p ∷ rest) (p ∷ ins.0, ins.1, ap (λ xs. p ∷ xs) ins.2, ap (λ xs. p ∷ xs) ins.3)),
)

pub places_left : (old new : Store) (ps qs : List Place) → SamePlaces old new (ps ++ qs) → SamePlaces old new ps
places_left old new [] qs h = tt
places_left old new (p ∷ ps) qs h = (h.0, places_left old new ps qs h.1)

pub places_right : (old new : Store) (ps qs : List Place) → SamePlaces old new (ps ++ qs) → SamePlaces old new qs
places_right old new [] qs h = h
places_right old new (p ∷ ps) qs h = places_right old new ps qs h.1

has_first : (c : ℕ) (cs : List ℕ) → 0 < times c (c ∷ cs)
has_first c cs = omega (arith, times_same c cs)

has_more : (x c : ℕ) (cs : List ℕ) → 0 < times x cs → 0 < times x (c ∷ cs)
has_more x c cs lt = omega (arith, lt)

pub by_times : (old new : Store) (cs : List ℕ) → ((c : ℕ) → 0 < times c cs → SameChunk old new c) → SameChunks old new cs
by_times old new [] h = tt
by_times old new (c ∷ cs) h = (h c (has_first c cs), by_times old new cs (λ x lt. h x (has_more x c cs lt)))

-- ---- one content
pub entries_same : (p : pool.Pool) (old new : Store) (held : List (Option ℕ)) → p.size ≤ size_at (index_of p.class)
    → SamePlaces old new (places_of p.class held)
    → map (entry_bytes p new) held ≡ map (entry_bytes p old) held
entries_same p old new [] fits h = refl
entries_same p old new (None ∷ held) fits h = ap (λ xs. None ∷ xs) (entries_same p old new held fits h)
entries_same p old new (Some q ∷ held) fits h =
    let here = listed_same p.size _ _ 0 (λ i lt. h.0 i (omega arith)) in
    let rest = entries_same p old new held fits h.1 in
    λ k. Some (here k) ∷ rest k

held_same : (p : pool.Pool) (old new : Store) → SameChunk old new p.table → held_of p new ≡ held_of p old
held_same p old new s = listed_same p.count _ _ None (λ i lt. ap entry_of (λ k.
    s.bytes (4 * i) k + 256 * s.bytes (4 * i + 1) k + 65536 * s.bytes (4 * i + 2) k + 16777216 * s.bytes (4 * i + 3) k))

-- a content stands for the same
pub record Same (old new : Store) (t : Content) : Type 0 where
  pub is : IsContent new t
  pub seen_same : seen new t ≡ seen old t
  pub places_same : places new t ≡ places old t

pub same_content : (old new : Store) (t : Content) → IsContent old t → SamePlaces old new (places old t) → SameChunks old new (chunks t) → Same old new t
same_content old new Empty is p c = record { is = tt; seen_same = refl; places_same = refl }
same_content old new (Block q n) is p c = record {
  is = is;
  seen_same = ap (world.Bytes form.Block n) (listed_same n _ _ 0 (λ i lt. p.0 i (omega (arith, is.1))));
  places_same = refl;
}
same_content old new (Slice k n) is p c = record {
  is = size_stays old new k n c.0 is;
  seen_same = ap (world.Bytes form.Slice n) (listed_same n _ _ 0 (λ i lt. c.0.bytes (32 + i)));
  places_same = refl;
}
same_content old new (Space k n) is p c = record {
  is = record { pages = c.0.size ∙ is.pages; some = is.some; small = is.small };
  seen_same = ap (world.Bytes form.Space n) (listed_same (up n) _ _ 0 (λ i lt. c.0.bytes i));
  places_same = refl;
}
same_content old new (Pool q) is p c =
    let held = held_same q old new c.0 in
    record {
      is = subst (IsTable q new) (sym held) (table_stays q old new (held_of q old) c.0 is);
      seen_same = ap (λ hs. world.Pool q.size (map (entry_bytes q new) hs)) held
          ∙ ap (world.Pool q.size) (entries_same q old new (held_of q old) (entry_room q old (held_of q old) is) p);
      places_same = ap (places_of q.class) held;
    }
same_content old new (Link k) is p c = record { is = tt; seen_same = refl; places_same = refl }
same_content old new (Waiting k) is p c = record { is = tt; seen_same = refl; places_same = refl }

-- its chunk is there
pub content_there : (st : Store) (t : Content) (x : ℕ) → IsContent st t → 0 < times x (chunks t) → 0 < st.size x
content_there st Empty x is h = absurd (omega (arith, h))
content_there st (Block p n) x is h = absurd (omega (arith, h))
content_there st (Slice k n) x is h = elim (cases_eq x k) [
  | inl e ↦ omega (arith, ap st.size e, is.pages, up_pos (n + 32) (omega arith))
  | inr ne ↦ absurd (omega (arith, h, times_other x k [] ne))
]
content_there st (Space k n) x is h = elim (cases_eq x k) [
  | inl e ↦ omega (arith, ap st.size e, is.pages, up_pos n (omega (arith, is.some)))
  | inr ne ↦ absurd (omega (arith, h, times_other x k [] ne))
]
content_there st (Pool p) x is h = elim (cases_eq x p.table) [
  | inl e ↦ omega (arith, ap st.size e, is.pages, up_pos (4 * p.count) (omega (arith, is.some)))
  | inr ne ↦ absurd (omega (arith, h, times_other x p.table [] ne))
]
content_there st (Link k) x is h = absurd (omega (arith, h))
content_there st (Waiting k) x is h = absurd (omega (arith, h))

-- ---- many contents
pub record AllSame (old new : Store) (ts : List Content) : Type 0 where
  pub are : AreContents new ts
  pub seen_same : SameSeen old new ts
  pub places_same : all_places new ts ≡ all_places old ts

pub same_contents : (old new : Store) (ts : List Content) → AreContents old ts → SamePlaces old new (all_places old ts)
    → ((x : ℕ) → 0 < times x (all_chunks ts) → SameChunk old new x) → AllSame old new ts
same_contents old new [] are p c = record { are = tt; seen_same = tt; places_same = refl }
same_contents old new (t ∷ ts) are p c =
    let here = same_content old new t are.0 (places_left old new (places old t) (all_places old ts) p)
    (by_times old new (chunks t) (λ x lt. c x (omega (arith, times-append x (chunks t) (all_chunks ts))))) in
    let rest = same_contents old new ts are.1 (places_right old new (places old t) (all_places old ts) p)
    (λ x lt. c x (omega (arith, times-append x (chunks t) (all_chunks ts)))) in
    record {
      are = (here.is, rest.are);
      seen_same = (here.seen_same, rest.seen_same);
      places_same = λ k. here.places_same k ++ rest.places_same k;
    }

pub contents_there : (st : Store) (ts : List Content) (x : ℕ) → AreContents st ts → 0 < times x (all_chunks ts) → 0 < st.size x
contents_there st [] x are h = absurd (omega arith)
contents_there st (t ∷ ts) x are h = elim (cases_lt 0 (times x (chunks t))) [
  | inl l ↦ content_there st t x are.0 l
  | inr g ↦ contents_there st ts x are.1 (omega (arith, times-append x (chunks t) (all_chunks ts)))
]
