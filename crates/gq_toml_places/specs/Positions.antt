-- Lines and columns of offsets into a text.
use Rattle.std.specs.Prelude.{◌≡◌, ℕ, suc, ◌<◌, ◌≤◌, ◌==◌, if◌then◌else◌, List, [], ◌∷◌, length, take, slice_index}

-- the number of line feeds in a text
unfoldable pub feeds : List ℕ → ℕ
feeds [] = 0
feeds (c ∷ cs) = if c == 10 then suc (feeds cs) else feeds cs

-- the number of bytes since the last line feed, after k of them
unfoldable pub since : ℕ → List ℕ → ℕ
since k [] = k
since k (c ∷ cs) = if c == 10 then since 0 cs else since (suc k) cs

-- the number of line feeds before an offset
abbrev pub line_feeds : List ℕ → ℕ → ℕ
line_feeds text offset = feeds (take offset text)

-- the number of bytes since the last line feed before an offset, since the start of the text where there is none
abbrev pub since_feed : List ℕ → ℕ → ℕ
since_feed text offset = since 0 (take offset text)

-- these offsets are those at which the lines of a text start
pub record StartLines (text : List ℕ) (starts : List ℕ) : Type 0 where
  pub some : length starts ≡ suc (feeds text)
  pub within : (k : ℕ) → k < length starts → slice_index starts k ≤ length text
  pub before : (k : ℕ) → k < length starts → line_feeds text (slice_index starts k) ≡ k
  pub begins : (k : ℕ) → k < length starts → since_feed text (slice_index starts k) ≡ 0
