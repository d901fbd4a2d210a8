-- The calls on pools.
use Rattle.std.proofs.Common.{◌≡◌, ℕ, ◌<◌, ◌⊎◌, inl, inr, List, [], ◌∷◌, ◌++◌, replicate, set, Option, Some, None, refl, sym, ap, subst, ◌∙◌, arith}
use Rattle.gq_store.specs.Store.{Store}
use Rattle.gq_heap.specs.declared.heap.Heap.{Heap}
use Rattle.gq_heap.specs.declared.heap.Place.{Place}
use Rattle.gq_heap.specs.List_occurrences.{times}
use Rattle.gq_heap.specs.Heap.{Owns}
use Rattle.gq_heap.proofs.Heap_caller_facts.{heap_there}
use Rattle.gq_pool.specs.declared.pool.Pool as pool
use Rattle.gq_pool.specs.Pools as pools
use Rattle.gq_pool.specs.Pools.{IsTable, OwnsBoth, places_of, held_of, entry_bytes, entries_of, Adds, Removes}
use Rattle.gq_contents.specs.declared.content.Content.{Content}
use Rattle.gq_contents.specs.declared.content.Content.TheVariants.{Empty, Pool}
use Rattle.gq_contents.specs.Contents_invariant.{all_places, KeepsBeside, Changes}
use Rattle.gq_contents.proofs.Content_lists.{times_among}
use Rattle.gq_pool.proofs.Pool_entry_lists.{held_is}
use Rattle.gq_pool.proofs.Pool_caller_facts.{no_places}
use Rattle.gq_contents.proofs.Unchanged_content_meaning.{SamePlaces, by_bytes, places_left, places_right}
use Rattle.gq_contents.proofs.Content_call_effects.{times_one, times_once, times_here, by_chunk}
use Rattle.gq_heap.proofs.Reordered_heap_blocks.{IsMoved, moved, keeps_moved, owns_moved}
use Rattle.gq_contents.proofs.Other_contents_kept.{Opened, opened, beside}

module _ (p : pool.Pool) (before after : Heap) (old new : Store) (prefix back : List Content) (o : Opened before old prefix (Pool p) back) where
  abbrev held : List (Option ℕ)
  held = held_of p old

  abbrev others : List Place
  others = all_places old prefix ++ all_places old back

  abbrev swap : IsMoved (all_places old prefix ++ (places_of p.class held ++ all_places old back)) (places_of p.class held ++ others)
  swap = moved (all_places old prefix) (places_of p.class held) (all_places old back)

  pub pool_kept : pools.KeepsPool p before old held others
  pool_kept = record {
    table = o.is;
    blocks = keeps_moved before old (all_places old prefix ++ (places_of p.class held ++ all_places old back))
        (places_of p.class held ++ others) swap o.blocks.keeps;
    apart = λ w. o.blocks.apart p.table (omega (arith, times_among p.table prefix (Pool p) back, times_here p.table))
        (owns_moved before old (all_places old prefix ++ (places_of p.class held ++ all_places old back))
        (places_of p.class held ++ others) swap o.blocks.keeps p.table w);
  }

  abbrev owned : ℕ → Type 0
  owned = OwnsBoth p before old held others pool_kept

  mine : (x : ℕ) → owned x → Owns before old (all_places old prefix ++ (places_of p.class held ++ all_places old back)) o.blocks.keeps x
      ⊎ ((0 < times x (p.table ∷ [])) ⊎ (old.size x ≡ 0))
  unfolding pool_kept
  mine x (inl e) = inr (inl (subst (λ y. 0 < times y (p.table ∷ [])) (sym e) (times_here p.table)))
  mine x (inr w) = inl (owns_moved before old (all_places old prefix ++ (places_of p.class held ++ all_places old back)) (places_of p.class held ++ others) swap
      o.blocks.keeps x w)

  module _ (held_now : List (Option ℕ)) (n : pools.KeepsNow p after old new held_now others owned) (same : SamePlaces old new others) where
    now : pools.KeepsNow p after old new (held_of p new) others owned
    now = subst (λ (h : List (Option ℕ)). pools.KeepsNow p after old new h others owned) (sym (held_is p new held_now n.keeps.table)) n

    abbrev swap_back : IsMoved (places_of p.class (held_of p new) ++ others)
        (all_places old prefix ++ (places_of p.class (held_of p new) ++ all_places old back))
    swap_back = moved (places_of p.class (held_of p new)) (all_places old prefix) (all_places old back)

    pub by_pool : KeepsBeside after old new prefix (Pool p) back
    by_pool = beside before old prefix back (Pool p) o after new (Pool p) owned n.spares mine
        (places_left old new (all_places old prefix) (all_places old back) same)
        (places_right old new (all_places old prefix) (all_places old back) same) now.keeps.table
        (record {
          keeps = keeps_moved after new (places_of p.class (held_of p new) ++ others)
              (all_places old prefix ++ (places_of p.class (held_of p new) ++ all_places old back)) swap_back now.keeps.blocks;
          apart = λ x l w. now.keeps.apart (subst (Owns after new (places_of p.class (held_of p new) ++ others) now.keeps.blocks) (times_one x p.table l)
              (owns_moved after new (places_of p.class (held_of p new) ++ others)
              (all_places old prefix ++ (places_of p.class (held_of p new) ++ all_places old back))
              swap_back now.keeps.blocks x w));
        })
        (λ x w.
        let v = owns_moved after new (places_of p.class (held_of p new) ++ others)
        (all_places old prefix ++ (places_of p.class (held_of p new) ++ all_places old back)) swap_back now.keeps.blocks x w in
        elim (now.owns x (inr v)) [
          | inl m ↦ elim (mine x m) [
            | inl q ↦ inl q
            | inr (inl l) ↦ absurd
                (now.keeps.apart (subst (Owns after new (places_of p.class (held_of p new) ++ others) now.keeps.blocks) (times_one x p.table l) v))
            | inr (inr z) ↦ inr z
          ]
          | inr z ↦ inr z
        ])
        (λ x l. inl l) (λ x. times_once x p.table)

-- an entry is added
pub pool_adds : (p : pool.Pool) (before after : Heap) (old new : Store) (i : ℕ) → Adds p before after old new i → Changes before after old new (Pool p) (Pool p)
pool_adds p before after old new i a prefix back h =
    let o = opened before old prefix (Pool p) back h in
    let k = pool_kept p before after old new prefix back o in
    by_pool p before after old new prefix back o (set (held_of p old) i (Some a.place))
    (a.keeps (held_of p old) (all_places old prefix ++ all_places old back) k)
    (places_right old new (places_of p.class (held_of p old)) (all_places old prefix ++ all_places old back)
    (by_bytes old new (places_of p.class (held_of p old) ++ (all_places old prefix ++ all_places old back))
    (a.bytes (held_of p old) (all_places old prefix ++ all_places old back) k)))

-- an entry is removed
pub pool_removes : (p : pool.Pool) (before after : Heap) (old new : Store) (i : ℕ) → Removes p before after old new i
    → Changes before after old new (Pool p) (Pool p)
pool_removes p before after old new i a prefix back h =
    let o = opened before old prefix (Pool p) back h in
    let k = pool_kept p before after old new prefix back o in
    let now = a.keeps (held_of p old) (all_places old prefix ++ all_places old back) k in
    by_pool p before after old new prefix back o (set (held_of p old) i None)
    (record { keeps = now.keeps; owns = λ x w. inl (now.owns x w); spares = now.spares })
    (places_right old new (places_of p.class (set (held_of p old) i None)) (all_places old prefix ++ all_places old back)
    (by_bytes old new (places_of p.class (set (held_of p old) i None) ++ (all_places old prefix ++ all_places old back))
    (a.bytes (held_of p old) (all_places old prefix ++ all_places old back) k)))

-- bytes of an entry are set
pub pool_puts : (p : pool.Pool) (heap : Heap) (old new : Store) (i k : ℕ) (bytes : List ℕ) → pools.PutsInEntry p heap old new i k bytes
    → Changes heap heap old new (Pool p) (Pool p)
pool_puts p heap old new i k bytes a prefix back h =
    let o = opened heap old prefix (Pool p) back h in
    let kept = pool_kept p heap heap old new prefix back o in
    let now = a.keeps (held_of p old) (all_places old prefix ++ all_places old back) kept in
    by_pool p heap heap old new prefix back o (held_of p old) (record { keeps = now.keeps; owns = λ x w. inl (now.owns x w); spares = now.spares })
    (places_right old new (places_of p.class (set (held_of p old) i None)) (all_places old prefix ++ all_places old back)
    (by_bytes old new (places_of p.class (set (held_of p old) i None) ++ (all_places old prefix ++ all_places old back))
    (a.others (held_of p old) (all_places old prefix ++ all_places old back) kept)))

-- a pool is made
pub pool_makes : (heap : Heap) (old new : Store) (size count : ℕ) (p : pool.Pool) → pools.Makes old new size count p → Changes heap heap old new Empty (Pool p)
pool_makes heap old new size count p m prefix back h =
    let o = opened heap old prefix Empty back h in
    let held = held_is p new (replicate count None) m.table in
    by_chunk heap old new prefix back Empty (Pool p) p.table o refl (ap (places_of p.class) held ∙ no_places p.class count)
    (λ x there ne. m.spares x there (λ f. f)) (inr m.fresh) (subst (IsTable p new) (sym held) m.table) (λ x l. times_one x p.table l)
    (λ x. times_once x p.table)

-- a pool ends
pub pool_ends : (p : pool.Pool) (before after : Heap) (old new : Store) → pools.Ends p before after old new → Changes before after old new (Pool p) Empty
pool_ends p before after old new e prefix back h =
    let o = opened before old prefix (Pool p) back h in
    let k = pool_kept p before after old new prefix back o in
    let others = all_places old prefix ++ all_places old back in
    let now = e.keeps (held_of p old) others k in
    let same = by_bytes old new others (e.bytes (held_of p old) others k) in
    beside before old prefix back (Pool p) o after new Empty (OwnsBoth p before old (held_of p old) others k) now.spares
    (mine p before after old new prefix back o) (places_left old new (all_places old prefix) (all_places old back) same)
    (places_right old new (all_places old prefix) (all_places old back) same) tt
    (record { keeps = now.keeps; apart = λ x l w. absurd (omega (arith, l)) })
    (λ x w.
    let there = heap_there after new others now.keeps x w in
    elim (mine p before after old new prefix back o x (now.owns x w)) [
      | inl m ↦ inl m
      | inr (inl l) ↦ absurd (omega (arith, there, ap new.size (times_one x p.table l), e.gone))
      | inr (inr z) ↦ inr z
    ])
    (λ x l. absurd (omega (arith, l))) (λ x. omega arith)
