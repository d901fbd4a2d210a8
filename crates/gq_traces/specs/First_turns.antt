-- The first turns of a list of turns, settings and signals.
use Rattle.std.specs.Prelude.{◌≡◌, ℕ, zero, suc, ◌+◌, ◌-◌, List, [], ◌∷◌, Option, Some, None, min}
use Rattle.gq_model.specs.declared.act.Act.{Act}
use Rattle.gq_model.specs.declared.act.Act.TheVariants.{Turns, Sets, Submits}
use Rattle.gq_model.specs.machine.Run.{Acts}
use Rattle.gq_model.specs.texts.Turns.{turns_given}
use Rattle.gq_laws.specs.Progress.{Move, Turn_of, Setting_of, Signal_of, each_move}

-- how many turns a list has
abbrev pub turns_in : Acts → ℕ
turns_in [] = 0
turns_in (t ∷ acts) = turns_given t.1 + turns_in acts

-- what is given of this while n turns are left: no more turns than that, and a setting or a signal where there is one left
abbrev pub first_of : ℕ → Act → Act
first_of n (Turns m) = Turns (min n m)
first_of zero (Sets i v) = Turns 0
first_of (suc n) (Sets i v) = Sets i v
first_of zero (Submits i) = Turns 0
first_of (suc n) (Submits i) = Submits i

-- of turns, settings and signals the first n turns, and the settings and signals before the last of them
abbrev pub first_turns : ℕ → Acts → Acts
first_turns n [] = []
first_turns n (t ∷ rest) = (t.0, first_of n t.1) ∷ first_turns (n - turns_given t.1) rest

-- the first so many where a number is given, else all
abbrev pub some_turns : Option ℕ → Acts → Acts
some_turns None acts = acts
some_turns (Some n) acts = first_turns n acts

-- of moves those up to the n-th turn; all of them where there are fewer turns
abbrev pub first_moves : ℕ → List Move → List Move
first_moves n [] = []
first_moves zero (m ∷ rest) = []
first_moves (suc n) (Turn_of x ∷ rest) = Turn_of x ∷ first_moves n rest
first_moves (suc n) (Setting_of x i v ∷ rest) = Setting_of x i v ∷ first_moves (suc n) rest
first_moves (suc n) (Signal_of x i ∷ rest) = Signal_of x i ∷ first_moves (suc n) rest

-- these are all up to the so many-th turn, move by move, or all
abbrev pub AreFirst : Option ℕ → (all taken : Acts) → Type 0
AreFirst None all taken = taken ≡ all
AreFirst (Some n) all taken = each_move taken ≡ first_moves n (each_move all)
