-- What is promised of the outcomes that are found.
use Rattle.std.specs.Prelude.{◌≡◌, ◌==◌, ◌≤◌, ◌^◌, ℕ, suc, true, false, List, [], ◌∷◌, ◌++◌, length, Option, None, Some, Ok}
use Rattle.std.specs.Io.KnownBytes.{Appends}
use Rattle.gq_model.specs.declared.act.Act.TheVariants.{Turns}
use Rattle.gq_model.specs.machine.Accounts.{account_lines, accounts}
use Rattle.gq_model.specs.machine.Run.{Acts, run}
use Rattle.gq_model.specs.machine.Scenario.{Component, Scenario, components, system}
use Rattle.gq_model.specs.machine.Step_budgets.{all_steps_in}
use Rattle.gq_model.specs.rules.Accept.{budgets, step_budgets}
use Rattle.gq_model.specs.texts.Turns.{turned}
use Rattle.gq_model.specs.machine.Rest.{greatest_turns}
use Rattle.gq_load.specs.Load.{loaded}
use Rattle.gq_laws.specs.Progress.{AllRest}
use Rattle.gq_laws.specs.Shapes.{Each}
use Rattle.gq_laws.specs.Group_alone.{own_lines}
use Rattle.gq_races.specs.Races.{IsRaceFree}
use Rattle.gq_outcomes.specs.Outcomes.{Outcome, if_none, is_found, outcomes}
use Rattle.gq_outcomes.specs.Text.{nth_outcome, turns_text}

-- turns of leaves, of which the last comes first, before these
abbrev pub acts_before : List ℕ → Acts → Acts
acts_before [] acts = acts
acts_before (x ∷ past) acts = acts_before past ((x, Turns 1) ∷ acts)

abbrev pub acts_of : List ℕ → Acts
acts_of past = acts_before past []

-- the lines in a run of those of these leaves that provide nothing, of which the first is the x-th
abbrev pub quiet_lines : Scenario → ℕ → List Component → Acts → List ℕ
quiet_lines s x [] acts = []
quiet_lines s x (c ∷ rest) acts = if_none c.node.provides (own_lines (system s) (λ y. y == x) acts) ++ quiet_lines s (suc x) rest acts

-- how a run ends: what each leaf that provides nothing has written, and all account lines
abbrev pub ending : Scenario → Acts → List ℕ
ending s acts =
    let w = (run (system s) acts).world in
    quiet_lines s 0 (components s) acts ++ account_lines s.version (accounts s w (all_steps_in w (step_budgets (budgets s))))

-- a run over the turns of an outcome has no wrong step, comes to rest, and ends so
pub record IsOutcome (s : Scenario) (o : Outcome) : Type 0 where
  pub right : (run (system s) (acts_of o.past)).wrong ≡ None
  pub rests : AllRest (run (system s) (acts_of o.past)).world
  pub ends : ending s (acts_of o.past) ≡ o.text

-- each outcome that is found is that of a run
abbrev pub AreOutcomes : Scenario → Type 0
AreOutcomes s = Each (IsOutcome s) (outcomes s).found

-- leaves and numbers of turns, one after the other
abbrev pub turns_alone : List (ℕ × ℕ) → Acts
turns_alone [] = []
turns_alone (t ∷ turns) = (t.0, Turns t.1) ∷ turns_alone turns

-- unless more turns were wanted, each run over turns that comes to rest ends as one of the outcomes
abbrev pub AreAll : Scenario → Type 0
AreAll s =
    (outcomes s).cut ≡ false → (turns : List (ℕ × ℕ)) → AllRest (run (system s) (turns_alone turns)).world
    → is_found (ending s (turns_alone turns)) (outcomes s).found ≡ true

-- without a race there is one outcome, unless more turns were wanted
abbrev pub IsOne : Scenario → Type 0
IsOne s = IsRaceFree s → (outcomes s).cut ≡ false → length (outcomes s).found ≡ 1

-- TEXTS OF TURNS

-- the text is read as a list of turns, and a run over them has no wrong step, comes to rest, and ends so
pub record IsListTo (s : Scenario) (text ends : List ℕ) : Type 0 where
  pub turns : List (ℕ × ℕ)
  pub reads : turned s text ≡ Ok (turns_alone turns)
  pub right : (run (system s) (turns_alone turns)).wrong ≡ None
  pub rests : AllRest (run (system s) (turns_alone turns)).world
  pub ends_so : ending s (turns_alone turns) ≡ ends

-- so many turns always fit into the 16 MiB of a list of turns: their text has at most 19 bytes for each turn
abbrev pub short_turns : ℕ
short_turns = 883011

-- the text of an outcome's turns is read back as a list that leads to the outcome, within the limits of lists: 1,000,000 turns and 16 MiB
pub record LeadsBack (s : Scenario) (o : Outcome) : Type 0 where
  pub reads : length o.past ≤ greatest_turns → length (turns_text (components s) o) ≤ 2 ^ 24 → IsListTo s (turns_text (components s) o) o.text
  pub short : length o.past ≤ short_turns → length (turns_text (components s) o) ≤ 2 ^ 24

-- so it is of each outcome that is found
abbrev pub AllLeadBack : Scenario → Type 0
AllLeadBack s = Each (LeadsBack s) (outcomes s).found

-- from bytes to bytes: the scenario is loaded, the outcome of this number is found, and the text is that of its turns and leads back to it
pub record LeadsToOutcome (n : ℕ) (scenario text : List ℕ) : Type 0 where
  pub accepted : Scenario
  pub loads : loaded scenario ≡ Ok accepted
  pub outcome : Outcome
  pub is : nth_outcome n (outcomes accepted).found ≡ Some outcome
  pub prints : text ≡ turns_text (components accepted) outcome
  pub leads : LeadsBack accepted outcome

-- such a text was written, and nothing else
pub record WritesTurnsTo (n : ℕ) (scenario : List ℕ) (before after : Option (List ℕ)) : Type 0 where
  pub text : List ℕ
  pub leads : LeadsToOutcome n scenario text
  pub written : Appends before after text
