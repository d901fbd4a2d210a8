-- Which leaves reach others by chains of uses, from the lists of the leaves that each uses.
use Rattle.std.specs.Prelude.{ℕ, zero, suc, ◌==◌, if◌then◌else◌, Bool, false, ◌||◌, List, [], ◌∷◌, length, Option, Some, None, slice_get}
use Rattle.gq_model.specs.machine.Lists.{any_of}

-- what a leaf that is there uses
abbrev pub used_there : Option (List ℕ) → List ℕ
used_there None = []
used_there (Some l) = l

-- by a chain of at most n uses the x-th leaf reaches the y-th
abbrev pub reaches_by : ℕ → List (List ℕ) → ℕ → ℕ → Bool
reaches_by zero used y x = false
reaches_by (suc n) used y x = any_of (λ z. z == y || reaches_by n used y z) (used_there (slice_get used x))

-- the first of the n leaves from the x-th on that reaches itself
abbrev pub first_from : List (List ℕ) → ℕ → ℕ → Option ℕ
first_from used x zero = None
first_from used x (suc n) = if reaches_by (length used) used x x then Some x else first_from used (suc x) n

-- the first leaf that reaches itself
abbrev pub first_on_cycle : List (List ℕ) → Option ℕ
first_on_cycle used = first_from used 0 (length used)

-- FLAGS

abbrev pub is_set : Option Bool → Bool
is_set None = false
is_set (Some flag) = flag

-- the x-th flag; none beyond the end is set
abbrev pub flag_at : List Bool → ℕ → Bool
flag_at flags x = is_set (slice_get flags x)

-- for each leaf, whether it uses the y-th or one that is flagged
abbrev pub one_more : List (List ℕ) → ℕ → List Bool → List Bool
one_more [] y flags = []
one_more (l ∷ used) y flags = any_of (λ z. z == y || flag_at flags z) l ∷ one_more used y flags

-- for each leaf, whether it reaches the y-th by a chain of at most n uses
abbrev pub flags_by : ℕ → List (List ℕ) → ℕ → List Bool
flags_by zero used y = []
flags_by (suc n) used y = one_more used y (flags_by n used y)
