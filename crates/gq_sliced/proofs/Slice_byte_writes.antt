-- What bytes that are put into a slice leave.
use Rattle.std.proofs.Common.{ℕ, ◌+◌, List, length, ap, ◌∙◌, arith}
use Rattle.gq_store.specs.Store.{Store, Writes}
use Rattle.gq_store.specs.Chunk_bytes.{HasBytes}
use Rattle.gq_sliced.specs.Slices.{PutsInSlice}

pub puts : (old new : Store) (k i : ℕ) (bytes : List ℕ) → HasBytes (new.byte k) (32 + i) bytes → Writes old new k (32 + i) (length bytes)
    → PutsInSlice old new k i bytes
puts old new k i bytes here w = record {
  keeps = λ n h. record {
    pages = w.size k ∙ h.pages;
    prefix = omega (
      arith,
      h.prefix,
      w.elsewhere k 0 (λ e a b. omega arith),
      w.elsewhere k 1 (λ e a b. omega arith),
      w.elsewhere k 2 (λ e a b. omega arith),
      w.elsewhere k 3 (λ e a b. omega arith),
    );
    small = h.small;
    number = h.number;
  };
  put = record {
    here = λ j l. ap (new.byte k) (omega arith) ∙ here j l;
    rest = λ j out. w.elsewhere k (32 + j) (λ e a b. out (omega arith) (omega arith));
  };
  spares = λ x there other. record { size = w.size x; bytes = λ j. w.elsewhere x j (λ e a b. other e) };
  sizes = w.size;
  left = w.left;
  caps = w.caps;
}
