-- What a search sees of the world of a walk.
use Rattle.std.proofs.Common.{◌≡◌, ◌∙◌, ◌<◌, ◌≤◌, ◌+◌, ℕ, zero, suc, Bool, true, false, not, List, [], ◌∷◌, ◌++◌, All, Vec, length, map, ap, sym, arith}
use Rattle.std.specs.Prelude.{if◌then◌else◌}
use Rattle.std.specs.declared.alloc.Global.{Global}
use Rattle.gq_model.specs.machine.Accounts.{account_lines, accounts}
use Rattle.gq_model.specs.machine.Scenario.{Component, Scenario, System, components, system}
use Rattle.gq_model.specs.machine.World as model
use Rattle.gq_model.specs.machine.Step_budgets.{all_steps_in}
use Rattle.gq_model.specs.rules.Accept.{budgets, step_budgets}
use Rattle.gq_machine.specs.Machines.{Machine}
use Rattle.gq_world.specs.Account_lines.{accounts_by, accounts_text, all_accounts}
use Rattle.gq_outcomes.specs.Choices.{choices, choices_from, is_at_choice, is_settled, racy_servers, some_settle}
use Rattle.gq_outcomes.specs.Outcomes.{Explored, explored, kept, lines_of, outcome_of}
use Rattle.gq_outcomes.specs.Same.{ordered}
use Rattle.gq_outcomes.specs.declared.search.Found.{Found}
use Rattle.gq_outcomes.specs.declared.walk.Walk.{Walk}
use Rattle.gq_outcomes.specs.internal.Found_outcomes.{outcome_seen}
use Rattle.gq_outcomes.specs.internal.Kept_keys.{kept_key}
use Rattle.gq_outcomes.specs.internal.Turn_rows.{past_of}
use Rattle.gq_outcomes.specs.internal.Walks.{IsOnWay, reached, said_of}
use Rattle.gq_world.proofs.World_account_lines.{stored_lines}

-- LEAVES AT A CHOICE

one_below : (n x : ℕ) (all : List ℕ) → x < n → All (λ y. y < n) all → All (λ y. y < n) (x ∷ all)
one_below n x all less h zero d l = less
one_below n x all less h (suc k) d l = h k d (omega (arith, l))

some_below : (n x : ℕ) (b : Bool) (all : List ℕ) → x < n → All (λ y. y < n) all → All (λ y. y < n) (if b then x ∷ all else all)
some_below n x true all less h = one_below n x all less h
some_below n x false all less h = h

choices_within : (all : System) (racy : List Bool) (w : model.World) (n x : ℕ) (cs : List Component) → x + length cs ≤ n
    → All (λ y. y < n) (choices_from all racy w x cs)
choices_within all racy w n x [] le = λ k d less. absurd (omega (arith, less))
choices_within all racy w n x (c ∷ cs) le =
    some_below n x (is_at_choice all racy w x) (choices_from all racy w (suc x) cs) (omega (arith, le))
    (choices_within all racy w n (suc x) cs (omega (arith, le)))

-- they are among the leaves of the scenario
pub choices_below : (s : Scenario) (racy : List Bool) (w : model.World) → All (λ y. y < length (components s)) (choices (system s) racy w)
choices_below s racy w = choices_within (system s) racy w (length (components s)) 0 (components s) (omega arith)

module _ (s : Scenario) (w : Walk) (h : IsOnWay s w) where
  abbrev e : Explored
  e = explored s

  -- OUTCOMES

  -- the text of its outcome
  pub outcome_is : (text : List ℕ) → text ≡ lines_of (said_of w) ++ accounts_text w.world → text ≡ (outcome_of e (reached s w.past.items)).text
  unfolding all_accounts accounts_by
  outcome_is text is =
      let of = h.walk.scenario in
      is ∙ ap (λ l. lines_of (said_of w) ++ l) (stored_lines w.world.scenario w.world.world (step_budgets (budgets w.world.scenario)))
      ∙ (λ i. lines_of (h.at.stands.said i)
      ++ account_lines (of i).version
      (accounts (of i) (h.at.stands.world i) (all_steps_in (h.at.stands.world i) (step_budgets (budgets (of i))))))

  -- the outcome that is kept
  pub outcome_kept : (f : Found) → f.text.items ≡ (outcome_of e (reached s w.past.items)).text → f.past.items ≡ w.past.items
      → outcome_seen f ≡ outcome_of e (reached s w.past.items)
  outcome_kept f text past = λ i. record { text = text i; past = (ap past_of past ∙ sym h.at.past) i }

  -- CHOICES

  module _ (m : Machine) (is : m ≡ record { scenario = w.world.scenario; world = w.world.world }) where
    scenario_is : m.scenario ≡ s
    scenario_is = ap (λ (m : Machine). m.scenario) is ∙ h.walk.scenario

    world_is : m.world ≡ (reached s w.past.items).world
    world_is = ap (λ (m : Machine). m.world) is ∙ h.at.stands.world

    -- the leaves at a choice
    pub leaves_are : (leaves : List ℕ) → leaves ≡ choices (system m.scenario) (racy_servers (system m.scenario)) m.world
        → leaves ≡ choices e.system e.racy (reached s w.past.items).world
    leaves_are leaves found = found ∙ (λ i. choices (system (scenario_is i)) (racy_servers (system (scenario_is i))) (world_is i))

    -- whether it is settled
    pub settled_is : (b : Bool) → b ≡ some_settle (system m.scenario) (racy_servers (system m.scenario)) m.world 0 (components m.scenario)
        → is_settled e.system e.racy (reached s w.past.items).world ≡ not b
    settled_is b found =
        ap not (sym (found ∙ (λ i. some_settle (system (scenario_is i)) (racy_servers (system (scenario_is i))) (world_is i) 0 (components (scenario_is i)))))

    -- its key
    pub key_is : (said : List (Vec ℕ Global)) (key : List ℕ) → key ≡ kept_key (record { world = ordered m.world; said = map (λ v. v.items) said })
        → said ≡ w.said.items → key ≡ kept_key (kept (reached s w.past.items))
    key_is said key found same =
        let lines = ap (λ (l : List (Vec ℕ Global)). map (λ v. v.items) l) same ∙ h.at.stands.said in
        found ∙ (λ i. kept_key (record { world = ordered (world_is i); said = lines i }))
