-- The text of a run with tests, and its wrong step.
use Rattle.std.proofs.Common.{◌≡◌, ℕ, List, [], ◌++◌, Option, Some, None, Result, Ok, Err, ap, sym, ◌∙◌, subst, append_assoc, append-nil}
use Rattle.std.specs.Io.KnownBytes.{Appends}
use Rattle.gq_model.specs.declared.fault.TurnFault.{TurnFault}
use Rattle.gq_model.specs.declared.fault.Wrong.{Wrong}
use Rattle.gq_model.specs.machine.Accounts.{account_lines, text_of}
use Rattle.gq_model.specs.declared.act.TurnLine.{TurnLine}
use Rattle.gq_model.specs.machine.Run.{Ran, Acts, begun, run}
use Rattle.gq_model.specs.machine.Scenario.{Scenario, system}
use Rattle.gq_model.specs.machine.World.{World, start}
use Rattle.gq_model.specs.texts.Turns.{acts_of, listed}
use Rattle.gq_load.specs.Load.{LoadRefusal}
use Rattle.gq_load.specs.Unverified.{unverified}
use Rattle.gq_load.specs.Load_faults.{Refuses}
use Rattle.gq_load.specs.declared.load_fault.LoadError.{LoadError}
use Rattle.gq_load.specs.declared.load_fault.LoadError.TheVariants as error
use Rattle.gq_output.specs.Writes.{IsPrefix}
use Rattle.gq_output.proofs.Written_byte_facts.{appends_both}
use Rattle.gq_world.specs.Account_lines.{accounts_by}
use Rattle.gq_reports.specs.Command_outcomes.{run_fault_of}
use Rattle.gq_reports.specs.Whole.{refused_with, turn_fault_text}
use Rattle.gq_world.specs.internal.Act_transitions.{acts_of_lines, going, lines_on}
use Rattle.gq_world.proofs.Turn_sequence_runs.{lines_are}
use Rattle.gq_world.proofs.Line_text_prefixes.{prefix_by, prefix_after}
use Rattle.gq_world.proofs.Run_text.{rest_of}
use Rattle.gq_unverified.specs.Tested_run_ends.{IsTestFault}
use Rattle.gq_unverified.specs.Tested.{tested_text, first_wrong, named, tested_from, tested_turns, run_tested}
use Rattle.gq_unverified.specs.internal.Taking.{HasCome, IsCut}

module _ (s : Scenario) (lines : List TurnLine) (old : World) (starts : old ≡ start (system s)) (before between after : Option (List ℕ)) where
  abbrev taken : Ran → Ran
  taken = lines_on (system s) lines

  abbrev turns : Acts
  turns = acts_of_lines s lines

  from_start : run (system s) turns ≡ taken (going old [])
  from_start = lines_are (system s) lines (begun (system s)) ∙ ap (λ w. taken (going w [])) (sym starts)

  -- the wrong step that the turns come to is the first
  pub wrong_is : (new : World) (wrong : Option (ℕ × Wrong)) → HasCome taken old new wrong before between → wrong ≡ first_wrong s turns
  unfolding first_wrong
  wrong_is new wrong t = sym (ap (λ (r : Ran). r.wrong) (from_start ∙ t.ran []))

  -- after a wrong step nothing follows
  pub ended : (new : World) (p : ℕ × Wrong) → HasCome taken old new (Some p) before between → Appends before between (tested_text s turns)
  unfolding tested_text
  ended new p t = subst (Appends before between) (sym (ap (λ (r : Ran). text_of s [] r r.wrong) (from_start ∙ t.ran []))) t.written

  -- else the accounts do
  whole_is : (new : World) → (t : HasCome taken old new None before between) → tested_text s turns ≡ t.text ++ account_lines s.version (accounts_by s new [])
  unfolding tested_text accounts_by
  whole_is new t = ap (λ (r : Ran). text_of s [] r r.wrong) (from_start ∙ t.ran [])

  pub complete : (new : World) → HasCome taken old new None before between → Appends between after (account_lines s.version (accounts_by s new []))
      → Appends before after (tested_text s turns)
  complete new t lines =
      subst (Appends before after) (sym (whole_is new t))
      (appends_both before between after t.text (account_lines s.version (accounts_by s new [])) t.written lines)

  pub cut_lines : (new : World) → HasCome taken old new None before between → IsPrefix between after (account_lines s.version (accounts_by s new []))
      → IsPrefix before after (tested_text s turns)
  cut_lines new t prefix =
      let text = account_lines s.version (accounts_by s new []) in
      prefix_after before between after t.text text [] (tested_text s turns) t.written prefix
      (whole_is new t ∙ ap (λ l. t.text ++ l) (sym (append-nil text)))

  pub cut_turns : IsCut taken old before between → IsPrefix before between (tested_text s turns)
  unfolding tested_text
  cut_turns cut =
      let r = run (system s) turns in
      let rest = rest_of s [] r r.wrong in
      let text : r.text ≡ cut.text ++ cut.more [] = ap (λ (q : Ran). q.text) from_start ∙ cut.prefix [] in
      prefix_by before between cut.text (cut.more [] ++ rest.0) (tested_text s turns) cut.written
      (rest.1 ∙ (ap (λ l. l ++ rest.0) text ∙ append_assoc cut.text (cut.more []) rest.0))

-- TEXTS

-- what the definition gives
pub tested_is : (scenario text : List ℕ) (s : Scenario) (lines : List TurnLine) → unverified scenario ≡ Ok s → listed s text ≡ Ok lines
    → run_tested scenario text ≡ Ok (tested_text s (acts_of_lines s lines), named s (first_wrong s (acts_of_lines s lines)))
tested_is scenario text s lines load e = ap (λ l. tested_from l text) load ∙ ap (λ l. tested_turns s (acts_of (system s) l)) e

pub refused_is : (scenario text : List ℕ) (s : Scenario) (fault : TurnFault × ℕ) → unverified scenario ≡ Ok s → listed s text ≡ Err fault
    → run_tested scenario text ≡ Err (refused_with (turn_fault_text fault.0 fault.1))
refused_is scenario text s fault load e = ap (λ l. tested_from l text) load ∙ ap (λ l. tested_turns s (acts_of (system s) l)) e

-- why nothing is read is why nothing is written
pub unread_is : (e : LoadError) (read : Result Scenario LoadRefusal) (text : List ℕ) → Refuses e read → IsTestFault (run_fault_of e) (tested_from read text)
unread_is error.Memory read text h = tt
unread_is (error.Fault f) (Ok s) text h = absurd h
unread_is (error.Fault f) (Err fault) text h = ap (λ t. Err (refused_with t)) (sym h)
