-- Turns that bring all work to rest: round by round, leaves in preorder, each as long as it can take one.
use Rattle.std.specs.Prelude.{ℕ, zero, suc, ◌-◌, if◌then◌else◌, Bool, true, false, ◌||◌, List, [], ◌∷◌, ◌++◌, Option, Some, None, Ok, Err, is_some, slice_get}
use Rattle.gq_model.specs.machine.Scenario.{System, Component}
use Rattle.gq_model.specs.machine.World.{Phase, Pending, Running, Blocked, Serving, Handling, Exited, Leaf, World}
use Rattle.gq_model.specs.machine.Doing.{Stepped}
use Rattle.gq_model.specs.machine.Step.{oldest, first_signal, next}
use Rattle.gq_model.specs.machine.Run.{Turns, Acts}

-- a leaf that runs, or handles a request or a signal, can take a step, and one that serves if a signal of its is submitted or a request waits for it
abbrev pub runs : World → ℕ → Leaf → Phase → Bool
runs w x leaf Pending = false
runs w x leaf Running = true
runs w x leaf Blocked = false
runs w x leaf Serving = is_some (first_signal leaf.signals) || is_some (oldest w x w.requests)
runs w x leaf Handling = true
runs w x leaf Exited = false

abbrev pub runs_as : World → ℕ → Option Component → Option Leaf → Bool
runs_as w x (Some c) (Some leaf) = runs w x leaf leaf.phase
runs_as w x (Some c) None = false
runs_as w x None leaf = false

-- the x-th leaf is there, and can take a step
abbrev pub can_run : System → World → ℕ → Bool
can_run system w x = runs_as w x (slice_get system.components x) (slice_get w.leaves x)

-- some leaf from the x-th on can take a step
abbrev pub some_can : System → World → ℕ → List Component → Bool
some_can system w x [] = false
some_can system w x (c ∷ rest) = can_run system w x || some_can system w (suc x) rest

-- the most turns of a list, and of a line that brings all work to rest
abbrev pub greatest_turns : ℕ
greatest_turns = 1000000

-- turns of leaves one after the other, how many more may be taken, and the world then
pub record Taken : Type 0 where
  pub turns : List (ℕ × ℕ)
  pub left : ℕ
  pub world : World

-- what leaves are given by these turns
abbrev pub as_acts : List (ℕ × ℕ) → Acts
as_acts [] = []
as_acts (t ∷ turns) = (t.0, Turns t.1) ∷ as_acts turns

-- a turn, which is not wrong, and those after it
abbrev pub one_and : World → Stepped → (World → ℕ × World) → ℕ × World
one_and w (Ok p) go = let more = go p.0 in (suc more.0, more.1)
one_and w (Err wrong) go = (0, w)

-- how many turns of at most n the x-th leaf can take one after the other, and the world then
abbrev pub while_can : ℕ → System → World → ℕ → ℕ × World
while_can zero system w x = (0, w)
while_can (suc n) system w x = if can_run system w x then one_and w (next system w x) (λ u. while_can n system u x) else (0, w)

-- a leaf that took no turn is not reported
abbrev pub reported_turns : ℕ → ℕ → List (ℕ × ℕ)
reported_turns x zero = []
reported_turns x (suc n) = (x, suc n) ∷ []

-- the leaves from the x-th on, each in its turn
abbrev pub round : System → ℕ → World → ℕ → List Component → Taken
round system n w x [] = record { turns = []; left = n; world = w }
round system n w x (c ∷ rest) =
    let taken = while_can n system w x in
    let more = round system (n - taken.0) taken.1 (suc x) rest in
    record more { turns = reported_turns x taken.0 ++ more.turns }

-- the turns of a round and, where there are any, those of further ones
abbrev pub and_further : Taken → List (ℕ × ℕ) → (ℕ → World → Taken) → Taken
and_further taken [] go = taken
and_further taken (t ∷ turns) go = let more = go taken.left taken.world in record more { turns = taken.turns ++ more.turns }

-- at most k rounds, up to one in which no turn is taken
abbrev pub rounds : ℕ → System → ℕ → World → Taken
rounds zero system n w = record { turns = []; left = n; world = w }
rounds (suc k) system n w = let taken = round system n w 0 system.components in and_further taken taken.turns (λ left u. rounds k system left u)

-- until no leaf can take one, or the most that a line may give are taken
unfoldable pub to_rest : System → World → Taken
to_rest system w = rounds (suc greatest_turns) system greatest_turns w
