-- When leaves are at rest, and how many turns are steps until then.
use Rattle.std.specs.Prelude.{◌≡◌, ◌≤◌, ◌<◌, ◌⊎◌, ℕ, suc, ◌+◌, ◌==◌, if◌then◌else◌, Bool, true, false, ◌||◌, not, List, [], ◌∷◌, ◌++◌, length, replicate, Ok}
use Rattle.std.specs.Prelude.{Err}
use Rattle.std.specs.Prelude.{Some}
use Rattle.std.specs.Prelude.{is_some}
use Rattle.std.specs.Prelude.{slice_get, slice_index, slice_set, sum_by}
use Rattle.gq_model.specs.declared.act.Act.{Act}
use Rattle.gq_model.specs.declared.act.Act.TheVariants.{Turns, Sets, Submits}
use Rattle.gq_model.specs.machine.Lists.{any_of}
use Rattle.gq_model.specs.machine.Scenario.{Scenario, System, system}
use Rattle.gq_model.specs.machine.World.{Signal, Leaf, World, start}
use Rattle.gq_model.specs.declared.phase.Phase.{Phase}
use Rattle.gq_model.specs.declared.phase.Phase.TheVariants.{Pending, Running, Blocked, Serving, Handling, Exited}
use Rattle.gq_model.specs.machine.Doing.{Event, Stepped}
use Rattle.gq_model.specs.machine.Step.{oldest, first_signal, next}
use Rattle.gq_model.specs.machine.Run.{Acts, set_input, submit, run}
use Rattle.gq_model.specs.machine.Step_budgets.{all_steps_in}
use Rattle.gq_model.specs.rules.Accept.{budgets, step_budgets}
use Rattle.gq_model.specs.machine.Rest.{can_run}
use Rattle.gq_laws.specs.Turn_effects.{steps_of}
use Rattle.gq_laws.specs.Shapes.{Each}

-- a leaf is at rest where it has exited, or serves and no signal of its is submitted and no request waits for it
abbrev pub rests : World → ℕ → Leaf → Phase → Bool
rests w x leaf Pending = false
rests w x leaf Running = false
rests w x leaf Blocked = false
rests w x leaf Serving = not (is_some (first_signal leaf.signals) || is_some (oldest w x w.requests))
rests w x leaf Handling = false
rests w x leaf Exited = true

abbrev pub AllRest : World → Type 0
AllRest w = (x : ℕ) (leaf : Leaf) → slice_get w.leaves x ≡ Some leaf → rests w x leaf leaf.phase ≡ true

-- a turn of the x-th leaf is a step: there is this leaf and it can run, the turn is not wrong, and this leaf, and no other, has taken one step more
pub record IsStep (system : System) (w : World) (x : ℕ) : Type 0 where
  pub can : can_run system w x ≡ true
  pub new : World
  pub event : Event
  pub goes : next system w x ≡ Ok (new, event)
  pub counted : steps_of new ≡ slice_set (steps_of w) x (suc (slice_index (steps_of w) x))

-- NO DEADLOCK

-- every leaf is at rest, or the next turn of some leaf is a step
abbrev pub GoesOn : System → World → Type 0
GoesOn system w = AllRest w ⊎ ((x : ℕ) × IsStep system w x)

-- TURNS

-- the world after a turn; a wrong one changes nothing
abbrev pub world_after : World → Stepped → World
world_after w (Ok p) = p.0
world_after w (Err wrong) = w

-- after one turn of each of these leaves, in this order
abbrev pub after_turns : System → World → List ℕ → World
after_turns system w [] = w
after_turns system w (x ∷ turns) = after_turns system (world_after w (next system w x)) turns

-- MOVES

-- one turn of a leaf, another value of an input of a leaf, or a signal of a leaf
pub data Move : Type 0 where
  Turn_of : (leaf : ℕ) → Move
  Setting_of : (leaf input value : ℕ) → Move
  Signal_of : (leaf i : ℕ) → Move

abbrev pub after_move : System → World → Move → World
after_move system w (Turn_of x) = world_after w (next system w x)
after_move system w (Setting_of x i n) = set_input system w x i n
after_move system w (Signal_of x i) = submit w x i

-- after each of these, in this order
abbrev pub after_moves : System → World → List Move → World
after_moves system w [] = w
after_moves system w (m ∷ moves) = after_moves system (after_move system w m) moves

-- what a leaf is given, move by move
abbrev pub moves_of : ℕ → Act → List Move
moves_of x (Turns n) = replicate n (Turn_of x)
moves_of x (Sets i n) = Setting_of x i n ∷ []
moves_of x (Submits i) = Signal_of x i ∷ []

abbrev pub each_move : Acts → List Move
each_move [] = []
each_move (t ∷ acts) = moves_of t.0 t.1 ++ each_move acts

-- a run over turns, settings and signals ends in the world after each of them
abbrev pub RunsThrough : System → Acts → Type 0
RunsThrough system acts = (run system acts).world ≡ after_moves system (start system) (each_move acts)

-- whether a move is a step: a turn of a leaf that can run
abbrev pub steps_by : System → World → Move → ℕ
steps_by system w (Turn_of x) = if can_run system w x then 1 else 0
steps_by system w (Setting_of x i n) = 0
steps_by system w (Signal_of x i) = 0

-- how many of these moves are steps
abbrev pub steps_in : System → World → List Move → ℕ
steps_in system w [] = 0
steps_in system w (m ∷ moves) = steps_by system w m + steps_in system (after_move system w m) moves

-- the steps that all leaves have taken
abbrev pub taken : World → ℕ
taken w = sum_by (λ (n : ℕ). n) (steps_of w)

-- the steps that are budgeted to all leaves in a world
abbrev pub budgeted : Scenario → World → ℕ
budgeted s w = sum_by (λ (n : ℕ). n) (all_steps_in w (step_budgets (budgets s)))

-- from this world on at most as many turns are steps as are left of the budgets, which the signals raise that are taken on the way, whatever is set and
-- submitted between them
abbrev pub WorkEnds : Scenario → World → Type 0
WorkEnds s w = (moves : List Move) → taken w + steps_in (system s) w moves ≤ budgeted s (after_moves (system s) w moves)

-- ROUNDS

abbrev pub is_turn_of : ℕ → Move → Bool
is_turn_of x (Turn_of y) = y == x
is_turn_of x (Setting_of y i n) = false
is_turn_of x (Signal_of y i) = false

-- each leaf has a turn among these, in any order
abbrev pub IsRound : System → List Move → Type 0
IsRound system moves = (x : ℕ) → x < length system.components → any_of (is_turn_of x) moves ≡ true

abbrev pub after_rounds : System → World → List (List Move) → World
after_rounds system w [] = w
after_rounds system w (round ∷ rounds) = after_rounds system (after_moves system w round) rounds

abbrev pub is_signal_move : Move → Bool
is_signal_move (Turn_of x) = false
is_signal_move (Setting_of x i n) = false
is_signal_move (Signal_of x i) = true

-- no signal is submitted in any of these rounds
abbrev pub NoSignals : List (List Move) → Type 0
NoSignals rounds = Each (λ round. any_of is_signal_move round ≡ false) rounds

-- the world in which all signals that are submitted would be taken
abbrev pub once_taken : List Signal → List Signal
once_taken [] = []
once_taken (s ∷ rest) = (if s.submitted then record { submitted = false; taken = suc s.taken } else s) ∷ once_taken rest

abbrev pub with_taken : List Leaf → List Leaf
with_taken [] = []
with_taken (leaf ∷ rest) = record leaf { signals = once_taken leaf.signals } ∷ with_taken rest

abbrev pub when_taken : World → World
when_taken w = record w { leaves = with_taken w.leaves }

-- after the last signal, and as many rounds as there are steps in the budgets once all signals are taken, every leaf is at rest
abbrev pub RoundsSuffice : Scenario → World → Type 0
RoundsSuffice s w =
    (rounds : List (List Move)) → Each (IsRound (system s)) rounds → NoSignals rounds → budgeted s (when_taken w) ≤ length rounds
    → AllRest (after_rounds (system s) w rounds)
