-- Runs without their settings and signals, and worlds without their inputs.
use Rattle.std.specs.Prelude.{ℕ, List, [], ◌∷◌, ◌++◌, map, replicate}
use Rattle.gq_model.specs.declared.act.Act.{Act}
use Rattle.gq_model.specs.declared.act.Act.TheVariants.{Turns, Sets, Submits}
use Rattle.gq_model.specs.machine.Run.{Acts}
use Rattle.gq_model.specs.machine.World.{Leaf, World}

-- TURNS ALONE

-- the turns among what a leaf is given
abbrev pub turns_in : ℕ → Act → List (ℕ × ℕ)
turns_in x (Turns n) = (x, n) ∷ []
turns_in x (Sets i n) = []
turns_in x (Submits i) = []

-- leaves and numbers of turns, where settings and signals are left out
abbrev pub without_settings : Acts → List (ℕ × ℕ)
without_settings [] = []
without_settings (t ∷ acts) = turns_in t.0 t.1 ++ without_settings acts

-- the same as what leaves are given
abbrev pub turns_alone : List (ℕ × ℕ) → Acts
turns_alone [] = []
turns_alone (t ∷ turns) = (t.0, Turns t.1) ∷ turns_alone turns

-- each turn of these
abbrev pub each_turn : List (ℕ × ℕ) → List ℕ
each_turn [] = []
each_turn (t ∷ turns) = replicate t.1 t.0 ++ each_turn turns

-- WORLDS

abbrev pub unset_leaf : Leaf → Leaf
unset_leaf leaf = record leaf { inputs = [] }

-- a world without its inputs
abbrev pub unset : World → World
unset w = record w { leaves = map unset_leaf w.leaves }
