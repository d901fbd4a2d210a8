-- The way to rest, as the leaf that takes the next turns.
use Rattle.std.specs.Prelude.{◌≡◌, ◌≤◌, ℕ, zero, suc, ◌+◌, if◌then◌else◌, List, [], ◌∷◌, ◌++◌, drop, Option, Some, None}
use Rattle.gq_model.specs.machine.Rest.{can_run, round, rounds}
use Rattle.gq_model.specs.machine.Scenario.{Component, System}
use Rattle.gq_model.specs.machine.World.{World}

-- the first of these leaves, which are numbered from the x-th on, that can take a turn
abbrev pub first_from : System → World → ℕ → List Component → Option ℕ
first_from system w x [] = None
first_from system w x (c ∷ rest) = if can_run system w x then Some x else first_from system w (suc x) rest

-- the first of all leaves from the x-th on
abbrev pub first_able : System → World → ℕ → List Component → Option ℕ
first_able system w x cs = first_from system w x (drop x cs)

abbrev pub or_else : Option ℕ → Option ℕ → Option ℕ
or_else None other = other
or_else (Some x) other = Some x

-- it, or the first of all
abbrev pub next_able : System → World → ℕ → Option ℕ
next_able system w x = or_else (first_able system w x system.components) (first_able system w 0 system.components)

-- the turns of the leaves from the x-th on in a round, of which at most n may be taken, and those of at most k rounds after it
abbrev pub turns_from : System → ℕ → ℕ → ℕ → World → List (ℕ × ℕ)
turns_from system k x n w =
    let here = round system n w x (drop x system.components) in here.turns ++ (rounds k system here.left here.world).turns

-- a round has begun where a leaf had its turn in it
abbrev pub begun : ℕ → ℕ
begun zero = 0
begun (suc x) = 1

-- these turns are still to come on the way to rest, from the x-th leaf on; at most n
pub record StillToCome (system : System) (x n : ℕ) (w : World) (turns : List (ℕ × ℕ)) : Type 0 where
  pub rounds : ℕ
  pub enough : n + begun x ≤ rounds
  pub are : turns ≡ turns_from system rounds x n w
