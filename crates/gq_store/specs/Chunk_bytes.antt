-- Bytes that stand at places, as lists.
use Rattle.std.specs.Prelude.{◌≡◌, ℕ, ◌+◌, ◌<◌, ◌≤◌, List, length, map, get_or}
use Rattle.std.specs.List.{range_with_len}

-- f 0, f 1, .., f (n - 1)
abbrev pub listed : {A : Type 0} → ℕ → (ℕ → A) → List A
listed n f = map f (range_with_len 0 n)

-- from o on f has these bytes
abbrev pub HasBytes : (ℕ → ℕ) → ℕ → List ℕ → Type 0
HasBytes f o bytes = (j : ℕ) → j < length bytes → f (o + j) ≡ get_or bytes j 0

-- g is f, with these bytes from o on
pub record PutsBytes (f g : ℕ → ℕ) (o : ℕ) (bytes : List ℕ) : Type 0 where
  pub here : HasBytes g o bytes
  pub rest : (j : ℕ) → (o ≤ j → j < o + length bytes → ⊥) → g j ≡ f j
