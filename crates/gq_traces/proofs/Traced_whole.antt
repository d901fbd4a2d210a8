-- A trace, from bytes to bytes.
use Rattle.std.proofs.Common.{◌≡◌, ◌∙◌, ◌+◌, ℕ, Bool, true, false, List, [], ◌++◌, arith, Option, Result, Ok, Err, codes, decimal, refl, ap, sym, subst}
use Rattle.std.proofs.Common.{append_assoc, append-nil}
use Rattle.std.specs.Io.KnownBytes.{Appends}
use Rattle.gq_output.specs.Writer_failures.{Writes, written_to}
use Rattle.gq_output.specs.declared.counted.Counted.{Counted}
use Rattle.gq_output.proofs.Written_byte_facts.{appends_both, appends_nothing}
use Rattle.gq_model.specs.machine.Accounts.{account_lines, accounts}
use Rattle.gq_model.specs.declared.act.TurnLine.{TurnLine}
use Rattle.gq_model.specs.machine.Run.{Acts, run}
use Rattle.gq_model.specs.machine.Step_budgets.{StepBudget}
use Rattle.gq_model.specs.machine.Scenario.{Scenario, system}
use Rattle.gq_model.specs.texts.Turns.{Listed, Turned, acts_of, listed}
use Rattle.gq_model.specs.rules.Accept.{Budget, budgets, step_budgets}
use Rattle.gq_machine.specs.Machines.{Machine}
use Rattle.gq_load.specs.Load.{LoadRefusal, loaded}
use Rattle.gq_load.specs.Load_faults.{Refuses, load_fault_text}
use Rattle.gq_load.specs.declared.load_fault.LoadFault.{LoadFault}
use Rattle.gq_load.specs.declared.load_fault.LoadError.TheVariants as error
use Rattle.gq_world.specs.Account_lines.{accounts_by, stored_budgets}
use Rattle.gq_reports.specs.Command_outcomes.{GivesOf, IsFaultOf, WritesAs}
use Rattle.gq_reports.specs.Whole.{Written, refused_with, with_scenario}
use Rattle.gq_world.specs.World_between_turns.{World}
use Rattle.gq_reports.specs.declared.run_fault.RunFault.{RunFault}
use Rattle.gq_reports.specs.declared.run_fault.RunFault.TheVariants as fault
use Rattle.gq_reports.proofs.Command_text_endings.{cut_short, nothing_written, since}
use Rattle.gq_world.proofs.Line_text_prefixes.{prefix_after}
use Rattle.gq_traces.specs.Trace.{Traced, accounts_in, after_all, all_text, start_traced, trace_text}
use Rattle.gq_traces.specs.Traces_written.{trace_from, trace_written, with_turns}
use Rattle.gq_traces.specs.declared.trace.Tracing.{Tracing}
use Rattle.gq_traces.specs.internal.Printed_steps.{Goes, IsOn, IsTurnsFault, PrintsTurns, budgets_of}
use Rattle.gq_traces.specs.internal.Line_acts.{acts_along, after_lines, lines_text}
use Rattle.gq_world.proofs.World_account_lines.{stored_lines}
use Rattle.gq_traces.proofs.Lines_printed.{after_along, text_along, turned_along}
use Rattle.gq_traces.proofs.Sequential_text_writes.{goes_both, goes_text}

-- the line of the end
abbrev pub end_line : ℕ → List ℕ
end_line n = codes "end after " ++ decimal n ++ codes " turns\n"

-- the lines of the accounts, as they are written
abbrev pub lines_by : Machine → List StepBudget → List ℕ
lines_by m b = account_lines m.scenario.version (accounts_by m.scenario m.world (stored_budgets m.world b))

module _ (all : Bool) (s : Scenario) (turns : List TurnLine) where
  abbrev pub first : Traced
  first = start_traced (system s)

  abbrev pub acts : Acts
  acts = acts_along (system s) turns first

  abbrev pub last : Traced
  last = after_all (system s) acts first

  -- the lines of the accounts, by the machine and the budgets that were read
  lines_are : (w : World) (m : Machine) (b : List Budget) → w.scenario ≡ s → last.world ≡ w.world → m ≡ record { scenario = w.scenario; world = w.world }
      → b ≡ budgets w.scenario → lines_by m (step_budgets b) ≡ account_lines s.version (accounts_in s last.world (budgets_of s))
  unfolding accounts_by
  lines_are w m b same at is by =
      ap (λ (z : Machine). account_lines z.scenario.version (accounts z.scenario z.world (stored_budgets z.world (step_budgets b)))) is
      ∙ ap (λ (z : List Budget). account_lines w.scenario.version (accounts w.scenario w.world (stored_budgets w.world (step_budgets z)))) by
      ∙ stored_lines w.scenario w.world (step_budgets (budgets w.scenario))
      ∙ ap (λ (z : Scenario). account_lines z.version (accounts_in z w.world (step_budgets (budgets z)))) same
      ∙ ap (λ v. account_lines s.version (accounts_in s v (budgets_of s))) (sym at)

  -- the whole text, by them
  pub whole_is : (n : ℕ) (lines : List ℕ) → last.turns ≡ n → lines ≡ account_lines s.version (accounts_in s last.world (budgets_of s))
      → (all_text all s (budgets_of s) acts first ++ end_line n) ++ lines ≡ trace_text all s acts
  whole_is n lines count are =
      let reported = all_text all s (budgets_of s) acts first in
      append_assoc reported (end_line n) lines
      ∙ ap (λ l. reported ++ (end_line n ++ l)) are
      ∙ ap (λ m. reported ++ (end_line m ++ account_lines s.version (accounts_in s last.world (budgets_of s)))) (sym count)

  module _ {W : Type 0} (contents : W → Option (List ℕ)) (old : World) (new : World) (before after : Tracing) (a b c : Counted W) (was now : Bool) (n most : ℕ)
      (scenario : old.scenario ≡ s) (on : IsOn before.programs.items before.aheads.items old 0 first)
      (reported : PrintsTurns most contents (lines_text all s (budgets_of s) turns) (after_lines (system s) turns) 0 n old new before after a b true was)
      (ended : Goes contents b c was now (end_line n)) where
    goes : Goes contents a c true now (all_text all s (budgets_of s) acts first ++ end_line n)
    goes =
        goes_both contents a b c true was now (all_text all s (budgets_of s) acts first) (end_line n)
        (goes_text contents a b true was (lines_text all s (budgets_of s) turns first) (all_text all s (budgets_of s) acts first)
        (text_along all s (budgets_of s) turns first) (reported.written first on)) ended

    on_then : IsOn after.programs.items after.aheads.items new (0 + n) last
    on_then = subst (IsOn after.programs.items after.aheads.items new (0 + n)) (after_along (system s) turns first) (reported.on first on)

    number_is : last.turns ≡ n
    number_is = let at = on_then.count in omega (arith, at)

    -- the whole, by the lines of the accounts
    pub then : (m : Machine) (d : List Budget) → m ≡ record { scenario = new.scenario; world = new.world } → d ≡ budgets new.scenario
        → (all_text all s (budgets_of s) acts first ++ end_line n) ++ lines_by m (step_budgets d) ≡ trace_text all s acts
    then m d is by = whole_is n (lines_by m (step_budgets d)) number_is (lines_are new m d (reported.scenario ∙ scenario) on_then.world is by)

    -- a write failed before the accounts
    pub failed : {A : Type 0} → now ≡ false → WritesAs {A = A} contents (Ok (trace_text all s acts)) a c (Err fault.Write)
    failed {A = A} stopped =
        let rest = account_lines s.version (accounts_in s last.world (budgets_of s)) in
        let text = all_text all s (budgets_of s) acts first ++ end_line n in
        cut_short {A = ⊥} contents (Ok (trace_text all s acts)) (trace_text all s acts) refl a c (Err fault.Write) fault.Write refl
        (record {
          written = tt;
          counted = tt;
          prefix = prefix_after (written_to contents a) (written_to contents a) (written_to contents c) [] text rest (trace_text all s acts)
              (appends_nothing (written_to contents a)) (goes.prefix refl stopped) (sym (whole_is n rest number_is refl));
          raised = goes.raised refl stopped;
        })

    -- the accounts were written after it, or a prefix of them
    pub since_then : {A E : Type 0} (e : Counted W) (m : Machine) (d : List Budget) (r : Result A E) → now ≡ true
        → m ≡ record { scenario = new.scenario; world = new.world } → d ≡ budgets new.scenario → Writes contents c e (lines_by m (step_budgets d)) r
        → Writes contents a e (trace_text all s acts) r
    since_then e m d r going is by h =
        let text = all_text all s (budgets_of s) acts first ++ end_line n in
        let lines = lines_by m (step_budgets d) in
        since contents a c e lines (trace_text all s acts) r (goes.counted going)
        (λ more. subst (Appends (written_to contents a) (written_to contents e)) (then m d is by)
        (appends_both (written_to contents a) (written_to contents c) (written_to contents e) text lines (goes.written going) more))
        (λ prefix. prefix_after (written_to contents a) (written_to contents c) (written_to contents e) text lines [] (trace_text all s acts) (goes.written
        going) prefix
        (sym (then m d is by) ∙ ap (λ l. text ++ l) (sym (append-nil lines)))) h

-- TEXTS

-- turns that are not read
pub turns_refused : {W A : Type 0} (contents : W → Option (List ℕ)) (all : Bool) (s : Scenario) (text : List ℕ) (f : RunFault) (out : Counted W)
    → IsTurnsFault f (listed s text) → WritesAs {A = A} contents (trace_from all s text) out out (Err f)
turns_refused contents all s text (fault.Load f) out h = absurd h
turns_refused contents all s text (fault.NoComponent name) out h = absurd h
turns_refused contents all s text (fault.NoOutcome number) out h = absurd h
turns_refused contents all s text (fault.Turns f line) out h =
    nothing_written contents (trace_from all s text) out (fault.Turns f line) tt (ap (λ (t : Listed). with_turns (acts_of (system s) t) (trace_text all s)) h)
turns_refused contents all s text fault.Memory out h = nothing_written contents (trace_from all s text) out fault.Memory tt tt
turns_refused contents all s text fault.Write out h = absurd h

-- turns that are read
pub acts_given : (all : Bool) (s : Scenario) (text : List ℕ) (turns taken : List TurnLine)
    → ((acts : Acts) → (after_all (system s) acts (start_traced (system s))).world ≡ (run (system s) acts).world)
    → listed s text ≡ Ok turns → taken ≡ turns
    → Ok (trace_text all s (acts_along (system s) taken (start_traced (system s)))) ≡ trace_from all s text
acts_given all s text turns taken same reads is =
    ap (λ (l : List TurnLine). Ok (trace_text all s (acts_along (system s) l (start_traced (system s))))) is
    ∙ sym (ap (λ (t : Turned). with_turns t (trace_text all s)) (turned_along s text turns same reads))

-- a scenario that is loaded
pub scenario_given : (all : Bool) (scenario turns : List ℕ) (s : Scenario) → loaded scenario ≡ Ok s → trace_written all scenario turns ≡ trace_from all s turns
scenario_given all scenario turns s load = ap (λ l. with_scenario l (λ r. trace_from all r turns)) load

load_by : (f : LoadFault) (l : Result Scenario LoadRefusal) (go : Scenario → Written) → Refuses (error.Fault f) l
    → with_scenario l go ≡ Err (refused_with (load_fault_text f))
load_by f (Ok s) go h = absurd h
load_by f (Err g) go h = ap (λ t. Err (refused_with t)) (sym h)

-- why nothing is loaded is why nothing is written
pub load_is : (all : Bool) (f : RunFault) (scenario turns : List ℕ) → GivesOf f scenario → IsFaultOf f (trace_written all scenario turns)
load_is all (fault.Load f) scenario turns h = load_by f (loaded scenario) (λ s. trace_from all s turns) h
load_is all (fault.NoComponent name) scenario turns h = absurd h
load_is all (fault.NoOutcome number) scenario turns h = absurd h
load_is all (fault.Turns f line) scenario turns h = absurd h
load_is all fault.Memory scenario turns h = tt
load_is all fault.Write scenario turns h = absurd h
