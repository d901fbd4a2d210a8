-- For callers: what a slice keeps while another's calls change the store.
use Rattle.std.proofs.Common.{◌≡◌, ℕ, ◌+◌, Result, Ok, Err, sym, subst, ◌∙◌, arith}
use Rattle.std.specs.Prelude.{IfOk, OnErr}
use Rattle.gq_store.specs.declared.GrowFault.{GrowFault}
use Rattle.gq_store.specs.Store.{Store, SameChunk, AreThere}
use Rattle.gq_sliced.specs.Slices.{slice_byte, HasSize, HasByte, Owns, Makes}

-- the chunk of a slice is there
pub slice_there : (st : Store) (k n : ℕ) → HasSize st k n → AreThere (Owns k) st
slice_there st k n h x e = rw e (omega (arith, h.pages))

-- where its chunk did not change, a slice has its size and its bytes
pub size_stays : (old new : Store) (k n : ℕ) → SameChunk old new k → HasSize old k n → HasSize new k n
size_stays old new k n same h = record {
  pages = same.size ∙ h.pages;
  prefix = omega (arith, h.prefix, same.bytes 0, same.bytes 1, same.bytes 2, same.bytes 3);
  small = h.small;
  number = h.number;
}

pub byte_stays : (old new : Store) (k i : ℕ) → SameChunk old new k → HasByte old k i → HasByte new k i × (slice_byte new k i ≡ slice_byte old k i)
byte_stays old new k i same h = (record { size = h.size; has = size_stays old new k h.size same h.has; inside = h.inside }, same.bytes (32 + i))

-- whatever `alloc` answers, each slice stays
pub sizes_stay : (r : Result ℕ GrowFault) (old new : Store) (n : ℕ) → IfOk r (λ k. Makes old new n k) → OnErr r (new ≡ old) → (k m : ℕ) → HasSize old k m
    → HasSize new k m
sizes_stay (Ok made) old new n ok err k m h = size_stays old new k m (ok.spares k (omega (arith, h.pages)) (λ none. none)) h
sizes_stay (Err fault) old new n ok err k m h = subst (λ st. HasSize st k m) (sym err) h
