-- Texts in buffers.
use Rattle.std.specs.Prelude.{◌≡◌, ℕ, min, List, ◌++◌, length, take, drop}

-- the bytes of a buffer with a text in place of the first ones, as much of it as fits
abbrev pub placed : List ℕ → List ℕ → List ℕ
placed text bytes = let n = min (length text) (length bytes) in take n text ++ drop n bytes

-- a text was put into a buffer, and its whole length returned
pub record IsPut (text old new : List ℕ) (written : ℕ) : Type 0 where
  pub whole : written ≡ length text
  pub bytes : new ≡ placed text old
