-- The text of a run: its turns, then its accounts.
use Rattle.std.proofs.Common.{◌≡◌, ◌≤◌, ℕ, List, [], ◌++◌, length, Option, Some, None, Result, Ok, Err, refl, ap, sym, ◌∙◌, subst, append_assoc, append-nil}
use Rattle.std.specs.Io.KnownBytes.{Appends}
use Rattle.gq_model.specs.machine.Scenario.{Scenario, components, system}
use Rattle.gq_model.specs.machine.World as model
use Rattle.gq_model.specs.machine.World.{start}
use Rattle.gq_model.specs.declared.fault.Wrong.{Wrong}
use Rattle.gq_model.specs.machine.Run.{Ran, Acts, begun, run}
use Rattle.gq_model.specs.rules.Accept.{budgets, step_budgets}
use Rattle.gq_model.specs.machine.Accounts.{accounts, account_lines, text_of}
use Rattle.gq_output.specs.Writes.{IsPrefix}
use Rattle.gq_world.specs.World_between_turns.{World}
use Rattle.gq_world.specs.internal.Act_transitions.{going, HasRun, IsCut}
use Rattle.gq_world.specs.Account_lines.{accounts_by, all_accounts, accounts_text, stored_budgets}
use Rattle.gq_model.specs.rules.Accept.{IsAccepted}
use Rattle.gq_model.specs.texts.Turns.{Turned, turned}
use Rattle.gq_load.specs.Load.{LoadRefusal, loaded}
use Rattle.gq_load.specs.Load_faults.{load_fault_text, Refuses}
use Rattle.gq_load.specs.declared.load_fault.LoadFault.{LoadFault}
use Rattle.gq_load.specs.declared.load_fault.LoadError.TheVariants as error
use Rattle.gq_reports.specs.declared.run_fault.RunFault.{RunFault}
use Rattle.gq_reports.specs.declared.run_fault.RunFault.TheVariants.{Load, NoComponent, NoOutcome, Turns, Memory, Write}
use Rattle.gq_world.specs.Headline.{Upholding, WritesPromised}
use Rattle.gq_reports.specs.Command_outcomes.{IsFaultOf, IsWhole, GivesOf}
use Rattle.gq_reports.specs.Whole.{Written, whole_of, refused_with, with_scenario, written_turns, run_written}
use Rattle.gq_model.specs.declared.act.TurnLine.{TurnLine}
use Rattle.gq_model.specs.texts.Turns.{listed}
use Rattle.gq_model.specs.machine.Step_budgets.{StepBudget, all_steps_in}
use Rattle.gq_world.specs.World_between_turns.{greatest_lines}
use Rattle.gq_world.specs.internal.Act_transitions.{AreOf, acts_of_lines, lines_on, turns_written}
use Rattle.gq_world.proofs.Turn_sequence_runs.{lines_are}
use Rattle.gq_world.proofs.World_account_lines.{stored_lines}
use Rattle.gq_world.proofs.Turns_name_leaves.{AreFewIn, AreOfIn, listed_few, listed_of}
use Rattle.gq_output.proofs.Written_byte_facts.{appends_both}
use Rattle.gq_world.proofs.Line_text_prefixes.{prefix_by, prefix_after}

-- the text of what ran, and the rest of the whole
pub rest_of : (s : Scenario) (steps : List StepBudget) (ran : Ran) (wrong : Option (ℕ × Wrong))
    → (rest : List ℕ) × (text_of s steps ran wrong ≡ ran.text ++ rest)
rest_of s steps ran None = (account_lines s.version (accounts s ran.world (all_steps_in ran.world steps)), refl)
rest_of s steps ran (Some p) = ([], sym (append-nil ran.text))

module _ (s : Scenario) (lines : List TurnLine) (old : World) (starts : old.world ≡ start (system s)) (before between after : Option (List ℕ)) where
  abbrev taken : Ran → Ran
  taken = lines_on (system s) lines

  abbrev turns : Acts
  turns = acts_of_lines s lines

  abbrev lines_of : Scenario → model.World → List ℕ
  lines_of t w = account_lines t.version (accounts t w (all_steps_in w (step_budgets (budgets t))))

  abbrev stored_of : Scenario → model.World → List ℕ
  stored_of t w = account_lines t.version (accounts t w (stored_budgets w (step_budgets (budgets t))))

  from_start : run (system s) turns ≡ taken (going old.world [])
  from_start = lines_are (system s) lines (begun (system s)) ∙ ap (λ w. taken (going w [])) (sym starts)

  -- the whole is what the turns gave and the accounts after them
  whole_is : (new : World) → new.scenario ≡ s → (ran : HasRun taken old new before between) → whole_of s turns ≡ ran.text ++ accounts_text new
  unfolding whole_of all_accounts accounts_by
  whole_is new same ran =
      ap (λ r. text_of s (step_budgets (budgets s)) r r.wrong) (from_start ∙ ran.ran [])
      ∙ (ap (λ l. ran.text ++ l) (sym (stored_lines s new.world (step_budgets (budgets s)))) ∙ ap (λ t. ran.text ++ stored_of t new.world) (sym same))

  pub complete : (new : World) → new.scenario ≡ s → HasRun taken old new before between → Appends between after (accounts_text new)
      → Appends before after (whole_of s turns)
  complete new same ran lines =
      subst (Appends before after) (sym (whole_is new same ran)) (appends_both before between after ran.text (accounts_text new) ran.written lines)

  pub cut_lines : (new : World) → new.scenario ≡ s → HasRun taken old new before between → IsPrefix between after (accounts_text new)
      → IsPrefix before after (whole_of s turns)
  cut_lines new same ran prefix =
      prefix_after before between after ran.text (accounts_text new) [] (whole_of s turns) ran.written prefix
      (whole_is new same ran ∙ ap (λ l. ran.text ++ l) (sym (append-nil (accounts_text new))))

  pub cut_turns : IsCut taken old before between → IsPrefix before between (whole_of s turns)
  unfolding whole_of
  cut_turns cut =
      let r = run (system s) turns in
      let rest = rest_of s (step_budgets (budgets s)) r r.wrong in
      let text : r.text ≡ cut.text ++ cut.more [] = ap (λ q. q.text) from_start ∙ cut.prefix [] in
      prefix_by before between cut.text (cut.more [] ++ rest.0) (whole_of s turns) cut.written
      (rest.1 ∙ (ap (λ l. l ++ rest.0) text ∙ append_assoc cut.text (cut.more []) rest.0))

-- TEXTS THAT ARE LOADED AND READ

-- lines that were read are of leaves that are there
pub lines_of_leaves : (s t : Scenario) (text : List ℕ) (lines : List TurnLine) → t ≡ s → listed t text ≡ Ok lines → AreOf (length (components s)) lines
lines_of_leaves s t text lines same e = subst (λ r. AreOf (length (components r)) lines) same (subst (AreOfIn (length (components t))) e (listed_of t text))

-- and few
pub lines_are_few : (t : Scenario) (text : List ℕ) (lines : List TurnLine) → listed t text ≡ Ok lines → length lines ≤ greatest_lines
lines_are_few t text lines e = subst (AreFewIn greatest_lines) e (listed_few t text)

load_by : (fault : LoadFault) (l : Result Scenario LoadRefusal) (go : Scenario → Written) → Refuses (error.Fault fault) l
    → with_scenario l go ≡ Err (refused_with (load_fault_text fault))
load_by fault (Ok s) go h = absurd h
load_by fault (Err f) go h = ap (λ t. Err (refused_with t)) (sym h)

-- why nothing is loaded is why nothing is written
pub load_is : (fault : RunFault) (scenario text : List ℕ) → GivesOf fault scenario → IsFaultOf fault (run_written scenario text)
load_is (Load fault) scenario text h = load_by fault (loaded scenario) (λ s. written_turns s (turned s text)) h
load_is (NoComponent name) scenario text h = absurd h
load_is (NoOutcome number) scenario text h = absurd h
load_is (Turns fault line) scenario text h = absurd h
load_is Memory scenario text h = tt
load_is Write scenario text h = absurd h

-- THE PROMISE

ok_same : (a b : List ℕ) → ◌≡◌ {A = Written} (Ok a) (Ok b) → a ≡ b
ok_same a b e = cc

-- turns that were read, and what they write
taken_of : (s : Scenario) (r : Turned) (text : List ℕ) → written_turns s r ≡ Ok text → (taken : Acts) × (r ≡ Ok taken) × (whole_of s taken ≡ text)
taken_of s (Ok taken) text e = (taken, refl, ok_same (whole_of s taken) text e)
taken_of s (Err fault) text e = cc e

-- what was written is promised
pub promised : (scenario text : List ℕ) (s : Scenario) (before after : Option (List ℕ)) → loaded scenario ≡ Ok s → IsAccepted s → Upholding s
    → IsWhole (turns_written s text) before after → WritesPromised scenario text before after
unfolding whole_of
promised scenario text s before after load accepted upholds w =
    let t = taken_of s (turned s text) w.text w.given in
    record {
      text = w.text;
      promised = record {
        accepted = s;
        loads = load;
        is_accepted = accepted;
        taken = t.0;
        reads = t.1;
        writes = sym t.2;
        upholds = upholds;
      };
      written = w.written;
    }
