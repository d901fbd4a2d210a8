-- What is seen of a group of leaves in a run, and the turns of the group alone.
use Rattle.std.specs.Prelude.{◌≡◌, ℕ, if◌then◌else◌, Bool, List, [], ◌∷◌, ◌++◌, None}
use Rattle.gq_model.specs.machine.Scenario.{System, Scenario, system}
use Rattle.gq_model.specs.machine.World.{start}
use Rattle.gq_model.specs.machine.Run.{Ran, Acts, act_on, run}
use Rattle.gq_laws.specs.Separation.{SameAccounts}

-- the turns of leaves inside and the settings of their inputs, in their order
abbrev pub own_turns : (ℕ → Bool) → Acts → Acts
own_turns group [] = []
own_turns group (t ∷ turns) = if group t.0 then t ∷ own_turns group turns else own_turns group turns

-- a run so far, as if no line had been shown
abbrev pub silent : Ran → Ran
silent ran = record ran { text = [] }

-- the lines of leaves inside that these turns and settings show, after a run so far
abbrev pub lines_from : System → (ℕ → Bool) → Acts → Ran → List ℕ
lines_from system group [] ran = []
lines_from system group (t ∷ turns) ran =
    let after = act_on system t.0 t.1 (silent ran) in (if group t.0 then after.text else []) ++ lines_from system group turns after

-- the lines of leaves inside in a run
abbrev pub own_lines : System → (ℕ → Bool) → Acts → List ℕ
own_lines system group turns = lines_from system group turns (record { world = start system; text = []; wrong = None })

-- the lines of the leaves inside, and the account of each, are those of the run over their turns alone
pub record RunsAlone (s : Scenario) (group : ℕ → Bool) (turns : Acts) : Type 0 where
  pub lines : own_lines (system s) group turns ≡ (run (system s) (own_turns group turns)).text
  pub accounts : SameAccounts (system s) group (run (system s) (own_turns group turns)).world (run (system s) turns).world

-- the leaves inside show the same lines in two runs, and have the same accounts after them
pub record SeeTheSame (s : Scenario) (group : ℕ → Bool) (turns others : Acts) : Type 0 where
  pub lines : own_lines (system s) group turns ≡ own_lines (system s) group others
  pub accounts : SameAccounts (system s) group (run (system s) turns).world (run (system s) others).world
