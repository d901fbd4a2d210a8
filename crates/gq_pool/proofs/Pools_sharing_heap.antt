-- For callers: what a pool keeps while the heap, another pool on it or another chunk of the store changes.
use Rattle.std.proofs.Common.{◌≡◌, ℕ, ◌<◌, inl, inr, List, [], ◌++◌, replicate, Option, None, refl, sym, ap, subst, ◌∙◌, arith}
use Rattle.gq_store.specs.Store.{Store, Spares}
use Rattle.gq_heap.specs.declared.heap.Heap.{Heap}
use Rattle.gq_heap.specs.declared.heap.Place.{Place}
use Rattle.gq_heap.specs.Heap.{Owns, SameBytes, KeepsPlaces as KeepsHeap, KeepsNow as HeapNow, KeepsWithin as HeapWithin}
use Rattle.gq_heap.proofs.Heap_caller_facts.{heap_stays, heap_there}
use Rattle.gq_heap.proofs.Reordered_heap_blocks.{IsMoved, moved, keeps_moved, owns_moved}
use Rattle.gq_pool.specs.declared.pool.Pool.{Pool}
use Rattle.gq_pool.specs.Pools.{places_of, IsTable, KeepsPool, OwnsBoth, KeepsNow, KeepsWithin, KeepsTwo, KeepsTwoNow, OwnsTwo, Makes, Ends}
use Rattle.gq_pool.proofs.Present_entry_cells.{table_stays}
use Rattle.gq_pool.proofs.Pool_caller_facts.{no_places}

-- the table of a pool is a chunk that is there
pub table_is : (pool : Pool) (st : Store) (held : List (Option ℕ)) → IsTable pool st held → 0 < st.size pool.table
table_is pool st held t = omega (arith, t.pages, t.some)

-- what is kept in chunks that were owned is kept in chunks that were owned or are new
pub now_within : (pool : Pool) (after : Heap) (old new : Store) (held : List (Option ℕ)) (others : List Place) (owned : ℕ → Type 0)
    → KeepsWithin pool after old new held others owned → KeepsNow pool after old new held others owned
now_within pool after old new held others owned k = record { keeps = k.keeps; owns = λ x o. inl (k.owns x o); spares = k.spares }

pub heap_within : (after : Heap) (old new : Store) (places : List Place) (owned : ℕ → Type 0) → HeapWithin after old new places owned
    → HeapNow after old new places owned
heap_within after old new places owned k = record { keeps = k.keeps; owns = λ x o. inl (k.owns x o); spares = k.spares }

-- ---- one pool
-- a call of the heap on other places
pub beside_heap : (pool : Pool) (before after : Heap) (old new : Store) (held : List (Option ℕ)) (others more : List Place)
    (k : KeepsPool pool before old held others)
    → HeapNow after old new (places_of pool.class held ++ more) (Owns before old (places_of pool.class held ++ others) k.blocks)
    → KeepsPool pool after new held more
beside_heap pool before after old new held others more k n = record {
  table = table_stays pool old new held (n.spares pool.table (table_is pool old held k.table) k.apart) k.table;
  blocks = n.keeps;
  apart = λ o. elim (n.owns pool.table o) [ inl h ↦ k.apart h | inr e ↦ omega (arith, e, table_is pool old held k.table) ];
}

-- what is kept while other chunks change
pub record Still (pool : Pool) (heap : Heap) (old new : Store) (held : List (Option ℕ)) (others : List Place) (owned : ℕ → Type 0) : Type 0 where
  pub keeps : KeepsPool pool heap new held others
  pub owns : (x : ℕ) → OwnsBoth pool heap new held others keeps x → owned x
  pub bytes : SameBytes old new (places_of pool.class held ++ others)

-- a call that spares all chunks of pool and heap
pub beside_chunk : (pool : Pool) (heap : Heap) (old new : Store) (held : List (Option ℕ)) (others : List Place) (mine : ℕ → Type 0)
    (k : KeepsPool pool heap old held others) → Spares mine old new → ((x : ℕ) → OwnsBoth pool heap old held others k x → mine x → ⊥)
    → Still pool heap old new held others (OwnsBoth pool heap old held others k)
beside_chunk pool heap old new held others mine k spares other =
    let there = heap_there heap old (places_of pool.class held ++ others) k.blocks in
    let still = heap_stays heap old new (places_of pool.class held ++ others) k.blocks (λ x o. spares x (there x o) (λ m. other x (inr o) m)) in
    record {
      keeps = record {
        table = table_stays pool old new held (spares pool.table (table_is pool old held k.table) (λ m. other pool.table (inl refl) m)) k.table;
        blocks = still.keeps;
        apart = λ o. k.apart (still.owns pool.table o);
      };
      owns = λ x o. elim o [ inl e ↦ inl e | inr h ↦ inr (still.owns x h) ];
      bytes = still.bytes;
    }

-- ---- two pools
module _ (a b : Pool) (heap : Heap) (st : Store) (held more : List (Option ℕ)) (others : List Place) (t : KeepsTwo a b heap st held more others) where
  abbrev order : IsMoved (places_of a.class held ++ (places_of b.class more ++ others)) (places_of b.class more ++ (places_of a.class held ++ others))
  order = moved (places_of a.class held) (places_of b.class more) others

  abbrev blocks : KeepsHeap heap st (places_of b.class more ++ (places_of a.class held ++ others))
  blocks = keeps_moved heap st (places_of a.class held ++ (places_of b.class more ++ others)) (places_of b.class more ++ (places_of a.class held ++ others))
      order t.keeps.blocks

  back : (x : ℕ) → Owns heap st (places_of b.class more ++ (places_of a.class held ++ others)) blocks x
      → Owns heap st (places_of a.class held ++ (places_of b.class more ++ others)) t.keeps.blocks x
  back x o = owns_moved heap st (places_of a.class held ++ (places_of b.class more ++ others)) (places_of b.class more ++ (places_of a.class held ++ others))
      order t.keeps.blocks x o

  -- either may be named first
  pub swapped : KeepsTwo b a heap st more held others
  swapped = record {
    keeps = record { table = t.table; blocks = blocks; apart = λ o. t.apart (inr (back b.table o)) };
    table = t.keeps.table;
    apart = λ o. elim o [ inl e ↦ t.apart (inl (sym e)) | inr h ↦ t.keeps.apart (back a.table h) ];
  }

  pub swapped_owns : (x : ℕ) → OwnsTwo b a heap st more held others swapped x → OwnsTwo a b heap st held more others t x
  unfolding swapped
  swapped_owns x o = elim o [
    | inl (inl e) ↦ inr e
    | inl (inr h) ↦ inl (inr (back x h))
    | inr e ↦ inl (inl e)
  ]

-- a call of the first
pub after_first : (a b : Pool) (before after : Heap) (old new : Store) (held then more : List (Option ℕ)) (others : List Place)
    (t : KeepsTwo a b before old held more others)
    → KeepsNow a after old new then (places_of b.class more ++ others) (OwnsBoth a before old held (places_of b.class more ++ others) t.keeps)
    → KeepsTwoNow a b after old new then more others (OwnsTwo a b before old held more others t)
after_first a b before after old new held then more others t n = record {
  keeps = record {
    keeps = n.keeps;
    table = table_stays b old new more (n.spares b.table (table_is b old more t.table) t.apart) t.table;
    apart = λ o. elim (n.owns b.table o) [ inl h ↦ t.apart h | inr e ↦ omega (arith, e, table_is b old more t.table) ];
  };
  owns = λ x o. elim o [
    | inl h ↦ elim (n.owns x h) [ inl g ↦ inl (inl g) | inr e ↦ inr e ]
    | inr e ↦ inl (inr e)
  ];
}

-- a call of the second
pub after_second : (a b : Pool) (before after : Heap) (old new : Store) (held more then : List (Option ℕ)) (others : List Place)
    (t : KeepsTwo a b before old held more others)
    → KeepsNow b after old new then (places_of a.class held ++ others)
    (OwnsBoth b before old more (places_of a.class held ++ others) (swapped a b before old held more others t).keeps)
    → KeepsTwoNow a b after old new held then others (OwnsTwo a b before old held more others t)
after_second a b before after old new held more then others t n =
    let u = swapped a b before old held more others t in
    let r = after_first b a before after old new more then held others u n in
    record {
      keeps = swapped b a after new then held others r.keeps;
      owns = λ x o. elim (r.owns x (swapped_owns b a after new then held others r.keeps x o)) [
        | inl h ↦ inl (swapped_owns a b before old held more others t x h)
        | inr e ↦ inr e
      ];
    }

-- a call of the heap on other places
pub two_beside_heap : (a b : Pool) (before after : Heap) (old new : Store) (held more : List (Option ℕ)) (others those : List Place)
    (t : KeepsTwo a b before old held more others)
    → HeapNow after old new (places_of a.class held ++ (places_of b.class more ++ those))
    (Owns before old (places_of a.class held ++ (places_of b.class more ++ others)) t.keeps.blocks)
    → KeepsTwoNow a b after old new held more those (OwnsTwo a b before old held more others t)
two_beside_heap a b before after old new held more others those t n =
    let first = table_is a old held t.keeps.table in
    let second = table_is b old more t.table in
    record {
      keeps = record {
        keeps = record {
          table = table_stays a old new held (n.spares a.table first t.keeps.apart) t.keeps.table;
          blocks = n.keeps;
          apart = λ o. elim (n.owns a.table o) [ inl h ↦ t.keeps.apart h | inr e ↦ omega (arith, e, first) ];
        };
        table = table_stays b old new more (n.spares b.table second (λ o. t.apart (inr o))) t.table;
        apart = λ o. elim o [
          | inl e ↦ t.apart (inl e)
          | inr h ↦ elim (n.owns b.table h) [ inl g ↦ t.apart (inr g) | inr e ↦ omega (arith, e, second) ]
        ];
      };
      owns = λ x o. elim o [
        | inl (inl e) ↦ inl (inl (inl e))
        | inl (inr h) ↦ elim (n.owns x h) [ inl g ↦ inl (inl (inr g)) | inr e ↦ inr e ]
        | inr e ↦ inl (inr e)
      ];
    }

-- a call that spares their chunks and the heap's
pub two_beside_chunk : (a b : Pool) (heap : Heap) (old new : Store) (held more : List (Option ℕ)) (others : List Place) (mine : ℕ → Type 0)
    (t : KeepsTwo a b heap old held more others) → Spares mine old new
    → ((x : ℕ) → OwnsTwo a b heap old held more others t x → mine x → ⊥)
    → KeepsTwoNow a b heap old new held more others (OwnsTwo a b heap old held more others t)
two_beside_chunk a b heap old new held more others mine t spares other =
    let s = beside_chunk a heap old new held (places_of b.class more ++ others) mine t.keeps spares (λ x o m. other x (inl o) m) in
    record {
      keeps = record {
        keeps = s.keeps;
        table = table_stays b old new more (spares b.table (table_is b old more t.table) (λ m. other b.table (inr refl) m)) t.table;
        apart = λ o. t.apart (s.owns b.table o);
      };
      owns = λ x o. inl (elim o [ inl h ↦ inl (s.owns x h) | inr e ↦ inr e ]);
    }

-- the first ends, the second stays
pub first_ends : (a b : Pool) (before after : Heap) (old new : Store) (held more : List (Option ℕ)) (others : List Place)
    (t : KeepsTwo a b before old held more others) → Ends a before after old new
    → (k : KeepsPool b after new more others) × ((x : ℕ) → OwnsBoth b after new more others k x → OwnsTwo a b before old held more others t x)
first_ends a b before after old new held more others t e =
    let n = e.keeps held (places_of b.class more ++ others) t.keeps in (
      record {
        table = table_stays b old new more (n.spares b.table (table_is b old more t.table) t.apart) t.table;
        blocks = n.keeps;
        apart = λ o. t.apart (n.owns b.table o);
      },
      λ x o. elim o [ inl e ↦ inr e | inr h ↦ inl (n.owns x h) ],
    )

-- a second pool is made beside one
none_more : (a : Pool) (heap : Heap) (old new : Store) (held : List (Option ℕ)) (others ps : List Place) (owned : ℕ → Type 0) → ps ≡ []
    → Still a heap old new held others owned
    → (k : KeepsPool a heap new held (ps ++ others)) × ((x : ℕ) → OwnsBoth a heap new held (ps ++ others) k x → owned x)
none_more a heap old new held others ps owned e s =
    subst (λ qs. (k : KeepsPool a heap new held (qs ++ others)) × ((x : ℕ) → OwnsBoth a heap new held (qs ++ others) k x → owned x)) (sym e) (s.keeps, s.owns)

pub made_second : (a b : Pool) (heap : Heap) (old new : Store) (held : List (Option ℕ)) (others : List Place) (size count : ℕ)
    (k : KeepsPool a heap old held others) → Makes old new size count b
    → KeepsTwoNow a b heap old new held (replicate count None) others (OwnsBoth a heap old held others k)
made_second a b heap old new held others size count k m =
    let owned : ℕ → Type 0 = OwnsBoth a heap old held others k in
    let s = beside_chunk a heap old new held others (λ x. ⊥) k m.spares (λ x o n. n) in
    let two = none_more a heap old new held others (places_of b.class (replicate count None)) owned (no_places b.class count) s in
    let there : (x : ℕ) → owned x → 0 < old.size x = λ x o. elim o [
      | inl e ↦ subst (λ y. 0 < old.size y) (sym e) (table_is a old held k.table)
      | inr h ↦ heap_there heap old (places_of a.class held ++ others) k.blocks x h
    ] in
    record {
      keeps = record {
        keeps = two.0;
        table = m.table;
        apart = λ o. let h : 0 < old.size b.table = there b.table (two.1 b.table o) in omega (arith, h, m.fresh);
      };
      owns = λ x o. elim o [ inl h ↦ inl (two.1 x h) | inr e ↦ inr (ap old.size e ∙ m.fresh) ];
    }
