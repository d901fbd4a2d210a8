-- What follows settings and signals in a world at rest does not depend on the turns, where there is no race.
use Rattle.std.proofs.Common.{◌≡◌, ℕ, ◌||◌, not, Bool, true, false, List, [], ◌∷◌, length, Option, Some, None, is_some, refl, ap, sym}
use Rattle.std.proofs.Common.{◌∙◌, subst, arith}
use Rattle.std.specs.Prelude.{option_map, slice_get}
use Rattle.std.proofs.lemmas.Bool.{and_parts, or_parts, true≢false}
use Rattle.std.proofs.lemmas.Bool.Decides.{nat_tests}
use Rattle.std.proofs.lemmas.Option.{slice_get_within}
use Rattle.gq_model.specs.declared.act.Act.{Act}
use Rattle.gq_model.specs.declared.act.Act.TheVariants.{Turns, Sets, Submits}
use Rattle.gq_model.specs.declared.fault.Wrong.{Wrong}
use Rattle.gq_model.specs.declared.phase.Phase.{Phase}
use Rattle.gq_model.specs.declared.phase.Phase.TheVariants.{Pending, Running, Blocked, Serving, Handling, Exited}
use Rattle.gq_model.specs.machine.Accounts.{accounts}
use Rattle.gq_model.specs.machine.Lists.{all_of, any_of}
use Rattle.gq_model.specs.machine.Run.{Ran, Acts, act_on, run_on, set_from, submit_from}
use Rattle.gq_model.specs.machine.Scenario.{Component, Scenario, system}
use Rattle.gq_model.specs.machine.Step.{first_signal, oldest}
use Rattle.gq_model.specs.machine.Step_budgets.{StepBudget, all_steps_in}
use Rattle.gq_model.specs.machine.World.{Leaf, Signal, World}
use Rattle.gq_model.proofs.Small_facts.{get_within, none_some}
use Rattle.gq_laws.specs.Leaf_phases.{AreReady, Suits, serves}
use Rattle.gq_laws.specs.Progress.{AllRest, once_taken, rests}
use Rattle.gq_laws.specs.Reached_worlds.{IsReached}
use Rattle.gq_laws.specs.Sound_scenarios.{IsSound}
use Rattle.gq_laws.specs.Stands.{Stands}
use Rattle.gq_laws.proofs.progress.Lasting_world_invariant.{reached_lasts}
use Rattle.gq_laws.proofs.upheld_worlds.Upheld_runs.{reached_stands}
use Rattle.gq_races.specs.Races.{IsOrderFree, IsRaceFree}
use Rattle.gq_determined.specs.Determined.{IsLeaf, ProvidesNothing}
use Rattle.gq_determined.specs.Synchronous.{AreTurns, BringsToRest, ReactsToSame, ReactsWithSame, SetsAndSubmits, are_turns, going_on, lines_after, world_after}
use Rattle.gq_determined.specs.internal.Threads.{Tracked, past_of}
use Rattle.gq_determined.specs.internal.Unset.{turns_alone, without_settings}
use Rattle.gq_determined.proofs.from_rest.First_from_rest.{rest_first, root}
use Rattle.gq_determined.proofs.from_rest.Idle_worlds.{IsIdle, idle_at_rest, idle_set, idle_submit}
use Rattle.gq_determined.proofs.from_rest.Peaks_reached.{reached_within}
use Rattle.gq_determined.proofs.from_rest.Runs_going_on.{after_acts, reached_more}
use Rattle.gq_determined.proofs.thread_runs.At_rest.{at, moves_world}
use Rattle.gq_determined.proofs.thread_runs.Sound_runs.{IsFirst, all_since, all_stand}
use Rattle.gq_determined.proofs.thread_steps.Signal_flags.{AreSince, signals_at, since_none}
use Rattle.gq_determined.proofs.rest_accounts.Rest_account_law.{accounts_left}
use Rattle.gq_determined.proofs.rest_accounts.Step_budgets_same.{budgets_same, signals_in}
use Rattle.gq_determined.proofs.written_lines.All_lines.{all_same}
use Rattle.gq_determined.proofs.written_lines.Written_lines_law.{lines_same}

-- TURNS ALONE

-- turns alone are leaves and numbers of turns
turns_are : (acts : Acts) → AreTurns acts → acts ≡ turns_alone (without_settings acts)
turns_are [] h = refl
turns_are (t ∷ acts) h =
    let both = and_parts (are_turns t.1) (all_of (λ t. are_turns t.1) acts) h in by t.1 both.0 (turns_are acts both.1)
  where
    by : (a : Act) → are_turns a ≡ true → acts ≡ turns_alone (without_settings acts)
        → (t.0, a) ∷ acts ≡ turns_alone (without_settings ((t.0, a) ∷ acts))
    by (Turns n) e more = ap (λ l. (t.0, Turns n) ∷ l) more
    by (Sets i n) e more = absurd (true≢false (sym e))
    by (Submits i) e more = absurd (true≢false (sym e))

-- GIVEN AT REST

module _ (s : Scenario) where
  -- settings and signals keep it that each leaf has exited or serves
  idle_given : (ran : Ran) (acts : Acts) → SetsAndSubmits acts → IsIdle ran.world → IsIdle (run_on (system s) acts ran).world
  idle_given ran [] h idle = idle
  idle_given ran (t ∷ acts) h idle =
      let both = or_parts (are_turns t.1) (any_of (λ t. are_turns t.1) acts) h in
      idle_given (act_on (system s) t.0 t.1 ran) acts both.1 (by t.1 both.0)
    where
      set_one : (i n : ℕ) (o : Option (ℕ × Wrong)) → IsIdle (set_from (system s) t.0 i n ran o).world
      set_one i n None = idle_set (system s) ran.world t.0 i n idle
      set_one i n (Some p) = idle

      submit_one : (i : ℕ) (o : Option (ℕ × Wrong)) → IsIdle (submit_from t.0 i ran o).world
      submit_one i None = idle_submit ran.world t.0 i idle
      submit_one i (Some p) = idle

      by : (a : Act) → are_turns a ≡ false → IsIdle (act_on (system s) t.0 a ran).world
      by (Turns n) e = absurd (true≢false e)
      by (Sets i n) e = set_one i n ran.wrong
      by (Submits i) e = submit_one i ran.wrong

-- FROM A WORLD ON

module _ (s : Scenario) (sound : IsSound s) (none : IsRaceFree s) (v : World) (reached : IsReached s v) (idle : IsIdle v) where
  abbrev first : IsFirst s v (root s sound none v reached idle)
  first = rest_first s sound none v reached idle

  abbrev goes : List ℕ → Tracked
  goes = at s sound v (root s sound none v reached idle) first

  abbrev world_of : Acts → World
  world_of acts = (goes (past_of (without_settings acts))).world

  -- turns alone lead to the world of their threads
  turns_world : (acts : Acts) → AreTurns acts → world_after s v acts ≡ world_of acts
  turns_world acts h =
      ap (world_after s v) (turns_are acts h)
      ∙ (after_acts s v (reached_stands s sound v reached) (turns_alone (without_settings acts))
      ∙ moves_world s sound v (root s sound none v reached idle) first (without_settings acts))

  rest_of : (acts : Acts) → (h : BringsToRest s v acts) → AllRest (world_of acts)
  rest_of acts h = subst AllRest (turns_world acts h.0) h.1

  ready_of : (acts : Acts) → AreTurns acts → AreReady (system s) (world_of acts)
  ready_of acts h =
      subst (AreReady (system s)) (turns_world acts h)
      (reached_lasts s sound (world_after s v acts) (reached_more s sound v reached acts)).ready

  -- SIGNALS

  -- at rest each signal that was submitted has been taken
  all_taken : (w : World) → AllRest w → AreReady (system s) w → Stands s w → AreSince (signals_at v) w → (y : ℕ) (l : Leaf) → slice_get w.leaves y ≡ Some l
      → l.signals ≡ once_taken (signals_at v y)
  all_taken w rest ready stands since y l there = since_none (signals_at v y) l.signals (since.at y l there) (by l.phase refl (rest y l there))
    where
      c : (c : Component) × (slice_get (system s).components y ≡ Some c)
      c =
          let below = slice_get_within w.leaves y l there in
          let count = stands.whole.count in get_within (system s).components y (omega (arith, below, count))

      idle_none : (o : Option (ℕ × List Signal)) (b : Bool) → not (is_some o || b) ≡ true → o ≡ None
      idle_none None b e = refl
      idle_none (Some p) b e = absurd (true≢false (sym e))

      none_signals : (signals : List Signal) (provides : Option (List ℕ)) (n : ℕ) → length signals ≡ n → serves provides n ≡ false
          → first_signal signals ≡ None
      none_signals [] provides n count e = refl
      none_signals (t ∷ signals) None n count e = absurd (grind (arith, nat_tests))
      none_signals (t ∷ signals) (Some p) n count e = absurd (true≢false e)

      by : (p : Phase) → l.phase ≡ p → rests w y l p ≡ true → first_signal l.signals ≡ None
      by Serving is e = idle_none (first_signal l.signals) (is_some (oldest w y w.requests)) e
      by Exited is e =
          none_signals l.signals c.0.node.provides c.0.node.signals (stands.whole.signals y c.0 l c.1 there)
          (subst (Suits c.0.node.provides c.0.node.signals) is (ready.suits y c.0 l c.1 there))
      by Pending is e = absurd (true≢false (sym e))
      by Running is e = absurd (true≢false (sym e))
      by Blocked is e = absurd (true≢false (sym e))
      by Handling is e = absurd (true≢false (sym e))

  -- so the budgets of steps are the same
  steps_same : (turns others : Acts) → BringsToRest s v turns → BringsToRest s v others → (budgets : List StepBudget)
      → all_steps_in (world_of others) budgets ≡ all_steps_in (world_of turns) budgets
  steps_same turns others h k budgets =
      budgets_same (world_of turns) (world_of others) (λ y. by y (slice_get (world_of others).leaves y) (slice_get (world_of turns).leaves y) refl refl) budgets
    where
      stands_of : (acts : Acts) → Stands s (world_of acts)
      stands_of acts = all_stand s sound v (root s sound none v reached idle) first (past_of (without_settings acts))

      taken : (acts : Acts) → BringsToRest s v acts → (y : ℕ) (l : Leaf) → slice_get (world_of acts).leaves y ≡ Some l → l.signals ≡ once_taken (signals_at v y)
      taken acts b y l there =
          all_taken (world_of acts) (rest_of acts b) (ready_of acts b.0) (stands_of acts)
          (all_since s sound v (root s sound none v reached idle) first (past_of (without_settings acts))) y l there

      there_too : (acts more : Acts) (y : ℕ) (l : Leaf) → slice_get (world_of acts).leaves y ≡ Some l
          → (m : Leaf) × (slice_get (world_of more).leaves y ≡ Some m)
      there_too acts more y l there =
          let below = slice_get_within (world_of acts).leaves y l there in
          let count = (stands_of acts).whole.count in
          let other = (stands_of more).whole.count in get_within (world_of more).leaves y (omega (arith, below, count, other))

      by : (y : ℕ) (o p : Option Leaf) → slice_get (world_of others).leaves y ≡ o → slice_get (world_of turns).leaves y ≡ p
          → option_map signals_in o ≡ option_map signals_in p
      by y None None e f = refl
      by y (Some l) None e f = let m = there_too others turns y l e in absurd (none_some (sym f ∙ m.1))
      by y None (Some l) e f = let m = there_too turns others y l f in absurd (none_some (sym e ∙ m.1))
      by y (Some l) (Some m) e f = ap Some (taken others k y l e ∙ sym (taken turns h y m f))

  -- ACCOUNTS AND LINES

  accounts_same_after : (turns others : Acts) → BringsToRest s v turns → BringsToRest s v others → (budgets : List StepBudget)
      → accounts s (world_after s v turns) (all_steps_in (world_after s v turns) budgets)
      ≡ accounts s (world_after s v others) (all_steps_in (world_after s v others) budgets)
  accounts_same_after turns others h k budgets =
      let a = past_of (without_settings turns) in
      let b = past_of (without_settings others) in
      ap (λ w. accounts s w (all_steps_in w budgets)) (turns_world turns h.0)
      ∙ (sym (accounts_left s sound v (root s sound none v reached idle) first (reached_within s v reached) none a b (rest_of turns h) (rest_of others k)
      (ready_of turns h.0) (ready_of others k.0) (all_steps_in (goes a).world budgets))
      ∙ (ap (accounts s (goes b).world) (sym (steps_same turns others h k budgets))
      ∙ ap (λ w. accounts s w (all_steps_in w budgets)) (sym (turns_world others k.0))))

  lines_are : (x : ℕ) (acts : Acts) → AreTurns acts → lines_after s v x acts ≡ lines_after s v x (turns_alone (without_settings acts))
  lines_are x acts h = ap (lines_after s v x) (turns_are acts h)

  lines_same_after : (turns others : Acts) → BringsToRest s v turns → BringsToRest s v others → (x : ℕ) → ProvidesNothing s x
      → lines_after s v x turns ≡ lines_after s v x others
  lines_same_after turns others h k x p =
      lines_are x turns h.0
      ∙ (lines_same s sound v (root s sound none v reached idle) first none (without_settings turns) (without_settings others) (rest_of turns h)
      (rest_of others k)
      x [] p ∙ sym (lines_are x others k.0))

  all_same_after : IsOrderFree s → (turns others : Acts) → BringsToRest s v turns → BringsToRest s v others → (x : ℕ)
      → lines_after s v x turns ≡ lines_after s v x others
  all_same_after quiet turns others h k x =
      lines_are x turns h.0
      ∙ (all_same s sound v (root s sound none v reached idle) first none quiet (without_settings turns) (without_settings others) (rest_of turns h)
      (rest_of others k) x [] ∙ sym (lines_are x others k.0))

-- THE LAWS

module _ (s : Scenario) (w : World) (sound : IsSound s) (none : IsRaceFree s) (reached : IsReached s w) where
  idle_after : AllRest w → (given : Acts) → SetsAndSubmits given → IsIdle (world_after s w given)
  idle_after rest given h = idle_given s (going_on w) given h (idle_at_rest w rest)

  abbrev reached_after : (given : Acts) → IsReached s (world_after s w given)
  reached_after given = reached_more s sound w reached given

  pub reacts_to_same : ReactsToSame s w
  reacts_to_same rest given turns others sets h k budgets =
      accounts_same_after s sound none (world_after s w given) (reached_after given) (idle_after rest given sets) turns others h k budgets

  pub reacts_with_same : ReactsWithSame s (ProvidesNothing s) w
  reacts_with_same rest given turns others sets h k x p =
      lines_same_after s sound none (world_after s w given) (reached_after given) (idle_after rest given sets) turns others h k x p

  pub all_react_with_same : IsOrderFree s → ReactsWithSame s (IsLeaf s) w
  all_react_with_same quiet rest given turns others sets h k x p =
      all_same_after s sound none (world_after s w given) (reached_after given) (idle_after rest given sets) quiet turns others h k x
