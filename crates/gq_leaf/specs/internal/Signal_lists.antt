-- The signals of a leaf, as its code has them.
use Rattle.std.specs.Prelude.{ℕ, zero, suc, ◌≤◌, if◌then◌else◌, true, false, List, [], ◌∷◌, Option, Some, None}
use Rattle.gq_model.specs.machine.World as world
use Rattle.gq_leaf.specs.declared.signals.Signal.{Signal}

-- the signal of the abstract machine that it stands for
abbrev pub signal_seen : Signal → world.Signal
signal_seen s = record { submitted = s.submitted; taken = s.taken }

-- the number of the first that is submitted, where the first of these has the number k
abbrev pub first_from : ℕ → List Signal → Option ℕ
first_from k [] = None
first_from k (s ∷ rest) = if s.submitted then Some k else first_from (suc k) rest

-- the signals with one submitted
abbrev pub with_submitted : List Signal → ℕ → List Signal
with_submitted [] i = []
with_submitted (s ∷ rest) zero = record s { submitted = true } ∷ rest
with_submitted (s ∷ rest) (suc i) = s ∷ with_submitted rest i

-- the signals with one taken
abbrev pub with_taken : List Signal → ℕ → List Signal
with_taken [] i = []
with_taken (s ∷ rest) zero = record { submitted = false; taken = suc s.taken } ∷ rest
with_taken (s ∷ rest) (suc i) = s ∷ with_taken rest i

-- each of these signals was taken at most so often
abbrev pub AreTakenWithin : ℕ → List world.Signal → Type 0
AreTakenWithin n [] = Unit {0}
AreTakenWithin n (s ∷ rest) = (s.taken ≤ n) × AreTakenWithin n rest
