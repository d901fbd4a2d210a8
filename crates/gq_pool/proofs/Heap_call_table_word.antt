-- A call of the heap and then a word of the table.
use Rattle.std.proofs.Common.{◌≡◌, ℕ, ◌+◌, ◌*◌, ◌<◌, ◌≤◌, inl, inr, List, ◌++◌, length, set, Option, subst, ◌∙◌, arith}
use Rattle.gq_store.specs.Store.{Store, word, Writes, Spares}
use Rattle.gq_heap.specs.declared.heap.Heap.{Heap}
use Rattle.gq_heap.specs.declared.heap.Place.{Place}
use Rattle.gq_heap.specs.Heap.{Owns, Inserts, chunk_of, offset_of, byte_of, KeepsStill, KeepsPlaces as KeepsHeap}
use Rattle.gq_heap.proofs.Heap_call_effects.{block_owned}
use Rattle.gq_heap.proofs.Heap_caller_facts.{heap_stays}
use Rattle.gq_pool.specs.declared.pool.Pool.{Pool}
use Rattle.gq_pool.specs.Pools.{word_of, places_of, IsTable, KeepsPool, OwnsBoth}
use Rattle.gq_pool.proofs.Present_entry_cells.{table_stays, table_set}

-- the table has room for its words
pub word_inside : (pool : Pool) (st : Store) (held : List (Option ℕ)) (i : ℕ) → IsTable pool st held → i < pool.count
    → (4 * i + 4 ≤ st.size pool.table) × (i < 1024)
word_inside pool st held i t l = (omega (arith, t.pages), omega (arith, t.few))

pub table_there : (pool : Pool) (st : Store) (held : List (Option ℕ)) → IsTable pool st held → 0 < pool.count → 0 < st.size pool.table
table_there pool st held t l = omega (arith, t.pages)

-- the heap's chunks change first, the heap being `after` then, and then the word of the entry i
module _ (pool : Pool) (before after : Heap) (old mid new : Store) (held : List (Option ℕ)) (others : List Place) (i : ℕ) (o : Option ℕ)
    (k : KeepsPool pool before old held others) (l : i < length held)
    (now : KeepsHeap after mid (places_of pool.class (set held i o) ++ others))
    (spares : Spares (Owns before old (places_of pool.class held ++ others) k.blocks) old mid)
    (apart : Owns after mid (places_of pool.class (set held i o) ++ others) now pool.table → ⊥)
    (w : Writes mid new pool.table (4 * i) 4) (stored : word (new.byte pool.table) (4 * i) ≡ word_of o) where
  abbrev more : List Place
  more = places_of pool.class (set held i o) ++ others

  there : 0 < old.size pool.table
  there = table_there pool old held k.table (omega (arith, k.table.count))

  pub still : KeepsStill after mid new more (Owns after mid more now)
  still = heap_stays after mid new more now (λ x own. record {
    size = w.size x;
    bytes = λ j. w.elsewhere x j (λ e a b. apart (subst (Owns after mid more now) e own));
  })

  pub stepped : KeepsPool pool after new (set held i o) others
  stepped = record {
    table = table_set pool mid new held i o l (table_stays pool old mid held (spares pool.table there k.apart) k.table) w stored;
    blocks = still.keeps;
    apart = λ own. apart (still.owns pool.table own);
  }

  pub stepped_owns : (x : ℕ) → Owns after new more stepped.blocks x → Owns after mid more now x
  unfolding stepped
  stepped_owns x own = still.owns x own

  pub spared : Spares (OwnsBoth pool before old held others k) old new
  spared x present other =
      let first = spares x present (λ b. other (inr b)) in
      record { size = w.size x ∙ first.size; bytes = λ j. w.elsewhere x j (λ e a b. other (inl e)) ∙ first.bytes j }

  -- a block reads as it did when the heap's call was done: one that was there before, and one that is there now
  pub old_same : (p : Place) (rest : List Place) → Inserts p rest (places_of pool.class held ++ others) → (j : ℕ) → byte_of new p j ≡ byte_of mid p j
  old_same p rest ins j =
      let own = block_owned before old (places_of pool.class held ++ others) rest p k.blocks ins in
      w.elsewhere (chunk_of p) (offset_of p + j) (λ e a b. k.apart (subst (Owns before old (places_of pool.class held ++ others) k.blocks) e own))

  pub new_same : (p : Place) (rest : List Place) → Inserts p rest more → (j : ℕ) → byte_of new p j ≡ byte_of mid p j
  new_same p rest ins j =
      let own = block_owned after mid more rest p now ins in
      w.elsewhere (chunk_of p) (offset_of p + j) (λ e a b. apart (subst (Owns after mid more now) e own))
