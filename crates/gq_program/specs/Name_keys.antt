-- Numbers that are made of names, where names with other numbers are other ones; and where things may stand in a list, by such numbers.
use Rattle.std.specs.Prelude.{ℕ, ◌+◌, ◌*◌, ◌%◌, ◌^◌, ◌<◌, ◌≤◌, ◌==◌, if◌then◌else◌, List, [], ◌∷◌, length, get_or}

-- goes on with these letters
abbrev pub keyed_on : ℕ → List ℕ → ℕ
keyed_on key [] = key
keyed_on key (c ∷ rest) = keyed_on ((key * 257 % 2 ^ 64 + c) % 2 ^ 64) rest

abbrev pub key_of : List ℕ → ℕ
key_of name = keyed_on 0 name

-- a place as far as it is reported: 255 stands for all later ones too
abbrev pub end_of : ℕ → ℕ → ℕ
end_of past count = if past == 255 then count else past

-- for each remainder of a division by 61, the first place that is reported for it, and what is past the last
pub record KeyRanges : Type 0 where
  pub first : List ℕ
  pub past : List ℕ

-- each number stands at or after the first place that is reported for its remainder, and before the last
abbrev pub AreWithin : KeyRanges → List ℕ → Type 0
AreWithin reported keys =
    (i : ℕ) → i < length keys → let r = get_or keys i 0 % 61 in (get_or reported.first r 0 ≤ i) × (i < end_of (get_or reported.past r 0) (length keys))
