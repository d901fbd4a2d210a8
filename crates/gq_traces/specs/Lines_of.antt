-- Lines of a text that begin with some bytes, and what those of a trace are.
use Rattle.std.specs.Prelude.{◌≡◌, ◌==◌, ◌&&◌, if◌then◌else◌, ℕ, Bool, true, false, List, [], ◌∷◌, ◌++◌, codes, length}
use Rattle.gq_model.specs.machine.Accounts.{account_lines, whole}
use Rattle.gq_model.specs.machine.Run.{Acts, run}
use Rattle.gq_model.specs.machine.Scenario.{Scenario, system}
use Rattle.gq_model.specs.rules.Accept.{budgets, step_budgets}
use Rattle.gq_model.specs.texts.Letters.{fed_lines}
use Rattle.gq_laws.specs.Progress.{taken}
use Rattle.gq_views.specs.Listing.{joined}
use Rattle.gq_traces.specs.Trace.{accounts_in}

-- a text begins with these bytes
abbrev pub begins : List ℕ → List ℕ → Bool
begins [] text = true
begins (c ∷ prefix) [] = false
begins (c ∷ prefix) (d ∷ text) = c == d && begins prefix text

-- those of these lines that begin so
abbrev pub beginning : List ℕ → List (List ℕ) → List (List ℕ)
beginning prefix [] = []
beginning prefix (line ∷ rest) = if begins prefix line then line ∷ beginning prefix rest else beginning prefix rest

-- those lines of a text that begin so
abbrev pub lines_of : List ℕ → List ℕ → List (List ℕ)
lines_of prefix text = beginning prefix (fed_lines text)

-- the account lines at the end of a run
abbrev pub last_accounts : Scenario → Acts → List ℕ
last_accounts s turns =
    account_lines s.version (accounts_in s (run (system s) turns).world (step_budgets (budgets s)))

-- a text ends in these account lines, and with them its lines that begin with `[` are the text of the run
pub record PrintsRun (s : Scenario) (turns : Acts) (text : List ℕ) : Type 0 where
  pub prefix : List ℕ
  pub ends : text ≡ prefix ++ last_accounts s turns
  pub says : joined (lines_of (codes "[") text) ++ last_accounts s turns ≡ whole s (step_budgets (budgets s)) turns

-- as many lines begin with `turn` as leaves have taken steps in a run
abbrev pub PrintsSteps : Scenario → Acts → List ℕ → Type 0
PrintsSteps s turns text = length (lines_of (codes "turn ") text) ≡ taken (run (system s) turns).world
