-- Two that lie in one store: a call of one keeps the chunks of the other, and leaves them apart.
use Rattle.std.proofs.Common.{ℕ, ◌<◌, inl, inr, arith}
use Rattle.gq_store.specs.Store.{Store, SameChunk, Spares, Apart, AreThere, TakesNew}

module _ (mine other : ℕ → Type 0) (old : Store) (apart : Apart mine other) (there : AreThere other old) where
  pub others_stay : (new : Store) → Spares mine old new → (k : ℕ) → other k → SameChunk old new k
  others_stay new spares k o = spares k (there k o) (λ m. apart k m o)

  pub still_apart : (now : ℕ → Type 0) → TakesNew mine now old → Apart now other
  still_apart now takes k n o = elim (takes k n) [
    | inl m ↦ apart k m o
    | inr e ↦ let h : 0 < old.size k = there k o in omega arith
  ]
