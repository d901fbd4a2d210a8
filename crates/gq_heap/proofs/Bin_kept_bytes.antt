-- What a bin keeps while other bytes change.
use Rattle.std.proofs.Common.{◌≡◌, ℕ, ◌*◌, ◌/◌, ◌%◌, ◌<◌, ◌≤◌, List, sym, subst, ◌∙◌, arith}
use Rattle.gq_store.specs.Store.{Store, Writes}
use Rattle.gq_heap.specs.declared.bin.Bin.{Bin}
use Rattle.gq_heap.specs.internal.Chain.{IsSize, link}
use Rattle.gq_heap.specs.List_occurrences.{times}
use Rattle.gq_heap.specs.internal.Bin.{KeepsBin}
use Rattle.gq_heap.proofs.Free_cell_chains.{chain_same, word_same, link_other}

-- nothing that a bin has in its chunks changed
pub frame_bin : (z p : ℕ) (bin : Bin) (old new : Store) (used mine : List ℕ) → KeepsBin z p bin old used mine
    → ((c : ℕ) → 0 < times c mine → (new.size c ≡ old.size c) × ((i : ℕ) → new.byte c i ≡ old.byte c i)) → KeepsBin z p bin new used mine
frame_bin z p bin old new used mine k same =
    record {
      free = k.free;
      places = record {
        chain = chain_same (link old z p) (link new z p) bin.head k.free
            (λ q t. let m : 0 < times (q / p) mine = omega (arith, k.places.each q) in
            word_same (old.byte (q / p)) (new.byte (q / p)) (q % p * z) (λ i a b. sym ((same (q / p) m).1 i))) k.places.chain;
        each = k.places.each;
        once = k.places.once;
        chunk = λ c t. ((same c t).0 ∙ (k.places.chunk c t).0, (k.places.chunk c t).1);
        all = k.places.all;
      };
      count = k.count;
      peak = k.peak;
      charge = k.charge;
    }

-- bytes of a place in use changed
pub frame_used : (z p : ℕ) → IsSize z p → (bin : Bin) (old new : Store) (used mine : List ℕ) (q n : ℕ) → KeepsBin z p bin old used mine
    → 0 < times q used → n ≤ z → Writes old new (q / p) (q % p * z) n → KeepsBin z p bin new used mine
frame_used z p s bin old new used mine q n k t small w =
    record {
      free = k.free;
      places = record {
        chain = chain_same (link old z p) (link new z p) bin.head k.free
            (λ r u. sym (link_other z p s old new q n r w small (λ e.
            let v : 0 < times q k.free = subst (λ x. 0 < times x k.free) e u in omega (arith, k.places.each q, k.places.once (q / p))))) k.places.chain;
        each = k.places.each;
        once = k.places.once;
        chunk = λ c m. (w.size c ∙ (k.places.chunk c m).0, (k.places.chunk c m).1);
        all = k.places.all;
      };
      count = k.count;
      peak = k.peak;
      charge = k.charge;
    }
