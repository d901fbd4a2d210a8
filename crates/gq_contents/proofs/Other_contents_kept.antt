-- A call on one content: what it has to show, for the others to stay.
use Rattle.std.proofs.Common.{◌≡◌, ℕ, ◌+◌, ◌<◌, ◌≤◌, ◌⊎◌, inl, inr, List, ◌∷◌, ◌++◌, sym, subst, ◌∙◌, arith}
use Rattle.std.proofs.lemmas.Bool.{cases_lt}
use Rattle.gq_store.specs.Store.{Store, SameChunk, Spares}
use Rattle.gq_heap.specs.declared.heap.Heap.{Heap}
use Rattle.gq_heap.specs.List_occurrences.{times}
use Rattle.gq_heap.specs.Heap.{Owns}
use Rattle.gq_contents.specs.declared.content.Content.{Content}
use Rattle.gq_contents.specs.Contents.{chunks, places, IsContent}
use Rattle.gq_contents.specs.Contents_invariant.{all_chunks, all_places, AreContents, Blocks, KeepsContents, KeepsBeside}
use Rattle.gq_contents.proofs.Content_lists.{places_append, times_among, each_prefix, each_among}
use Rattle.gq_contents.proofs.Unchanged_content_meaning.{SamePlaces, AllSame, same_contents, contents_there}

-- what is kept, around one content
pub record Opened (heap : Heap) (st : Store) (prefix : List Content) (t : Content) (back : List Content) : Type 0 where
  pub prefix_are : AreContents st prefix
  pub is : IsContent st t
  pub back_are : AreContents st back
  pub blocks : Blocks heap st (all_places st prefix ++ (places st t ++ all_places st back)) (all_chunks (prefix ++ t ∷ back))
  pub once : (x : ℕ) → times x (all_chunks (prefix ++ t ∷ back)) ≤ 1

pub opened : (heap : Heap) (st : Store) (prefix : List Content) (t : Content) (back : List Content) → KeepsContents heap st (prefix ++ t ∷ back)
    → Opened heap st prefix t back
opened heap st prefix t back k =
    let are = each_prefix st prefix t back k.each in
    record {
      prefix_are = are.0;
      is = are.1;
      back_are = are.2;
      blocks = subst (λ ps. Blocks heap st ps (all_chunks (prefix ++ t ∷ back))) (places_append st prefix (t ∷ back)) k.blocks;
      once = k.once;
    }

-- the chunks of the others are there, and neither the thing's nor the heap's
pub record Others (st : Store) (t : Content) (owned : ℕ → Type 0) (x : ℕ) : Type 0 where
  pub there : 0 < st.size x
  pub not_its : times x (chunks t) ≡ 0
  pub not_heap : owned x → ⊥

module _ (before : Heap) (old : Store) (prefix back : List Content) (t : Content) (k : Opened before old prefix t back) where
  pub other_chunk : (x : ℕ) → 0 < times x (all_chunks prefix) + times x (all_chunks back)
      → Others old t (Owns before old (all_places old prefix ++ (places old t ++ all_places old back)) k.blocks.keeps) x
  other_chunk x h =
      let e = times_among x prefix t back in
      record {
        there = elim (cases_lt 0 (times x (all_chunks prefix))) [
          | inl l ↦ contents_there old prefix x k.prefix_are l
          | inr g ↦ contents_there old back x k.back_are (omega (arith, h, g))
        ];
        not_its = omega (arith, e, k.once x, h);
        not_heap = k.blocks.apart x (omega (arith, e, h));
      }

  module _ (after : Heap) (new : Store) (u : Content) (owned : ℕ → Type 0) (spares : Spares owned old new)
      (mine : (x : ℕ) → owned x
      → Owns before old (all_places old prefix ++ (places old t ++ all_places old back)) k.blocks.keeps x ⊎ ((0 < times x (chunks t)) ⊎ (old.size x ≡ 0)))
      (same_prefix : SamePlaces old new (all_places old prefix)) (same_back : SamePlaces old new (all_places old back)) (is : IsContent new u)
      (b : Blocks after new (all_places old prefix ++ (places new u ++ all_places old back)) (chunks u))
      (owns : (x : ℕ) → Owns after new (all_places old prefix ++ (places new u ++ all_places old back)) b.keeps x
      → Owns before old (all_places old prefix ++ (places old t ++ all_places old back)) k.blocks.keeps x ⊎ (old.size x ≡ 0))
      (its : (x : ℕ) → 0 < times x (chunks u) → (0 < times x (chunks t)) ⊎ (old.size x ≡ 0)) (u_once : (x : ℕ) → times x (chunks u) ≤ 1) where
    same_chunk : (x : ℕ) → 0 < times x (all_chunks prefix) + times x (all_chunks back) → SameChunk old new x
    same_chunk x h =
        let o = other_chunk x h in
        spares x o.there (λ w. elim (mine x w) [
          | inl m ↦ o.not_heap m
          | inr (inl m) ↦ omega (arith, m, o.not_its)
          | inr (inr m) ↦ omega (arith, m, o.there)
        ])

    stays_prefix : AllSame old new prefix
    stays_prefix = same_contents old new prefix k.prefix_are same_prefix (λ x h. same_chunk x (omega (arith, h)))

    stays_back : AllSame old new back
    stays_back = same_contents old new back k.back_are same_back (λ x h. same_chunk x (omega (arith, h)))

    other : (x : ℕ) → 0 < times x (all_chunks prefix) + times x (all_chunks back) → times x (chunks u) ≡ 0
    other x h =
        let o = other_chunk x h in
        elim (cases_lt 0 (times x (chunks u))) [
          | inl l ↦ elim (its x l) [ inl m ↦ absurd (omega (arith, m, o.not_its)) | inr m ↦ absurd (omega (arith, m, o.there)) ]
          | inr g ↦ omega (arith, g)
        ]

    apart : (x : ℕ) → 0 < times x (all_chunks (prefix ++ u ∷ back))
        → Owns after new (all_places old prefix ++ (places new u ++ all_places old back)) b.keeps x → ⊥
    apart x h w =
        let e = times_among x prefix u back in
        elim (cases_lt 0 (times x (chunks u))) [
          | inl l ↦ b.apart x l w
          | inr g ↦
              let o = other_chunk x (omega (arith, e, h, g)) in
              elim (owns x w) [ inl m ↦ o.not_heap m | inr m ↦ omega (arith, m, o.there) ]
        ]

    once : (x : ℕ) → times x (all_chunks (prefix ++ u ∷ back)) ≤ 1
    once x =
        let e = times_among x prefix u back in
        let f = times_among x prefix t back in
        elim (cases_lt 0 (times x (all_chunks prefix) + times x (all_chunks back))) [
          | inl l ↦ omega (arith, e, f, k.once x, other x l)
          | inr g ↦ omega (arith, e, g, u_once x)
        ]

    pub beside : KeepsBeside after old new prefix u back
    beside =
        let f = stays_prefix in
        let g = stays_back in
        let there : all_places old prefix ++ (places new u ++ all_places old back) ≡ all_places new (prefix ++ u ∷ back) =
        (λ i. sym f.places_same i ++ (places new u ++ sym g.places_same i)) ∙ sym (places_append new prefix (u ∷ back)) in
        record {
          keeps = record {
            each = each_among new prefix u back f.are is g.are;
            blocks = subst (λ ps. Blocks after new ps (all_chunks (prefix ++ u ∷ back))) there (record { keeps = b.keeps; apart = apart });
            once = once;
          };
          prefix_seen = f.seen_same;
          back_seen = g.seen_same;
        }
