-- A trace reports the lines of a run, and each of its steps.
use Rattle.std.proofs.Common.{◌≡◌, ◌∙◌, ℕ, zero, suc, ◌+◌, ◌<◌, Bool, true, false, List, [], ◌∷◌, ◌++◌, length, Option, Some, None, Ok, refl, ap, sym}
use Rattle.std.proofs.Common.{subst, arith, append_assoc, append-nil, length-set, true≢false, ap₂}
use Rattle.std.proofs.lemmas.List.{length-map}
use Rattle.std.specs.Prelude.{◌==◌, ◌||◌, ◌&&◌, not, if◌then◌else◌, codes, decimal, is_some, map, slice_get, slice_index, slice_set, sum_by}
use Rattle.std.proofs.lemmas.List.Sums.{sum_by-cons}
use Rattle.std.proofs.lemmas.Option.{slice_get_within}
use Rattle.gq_model.proofs.Small_facts.{none_some, some_same}
use Rattle.gq_model.specs.declared.act.Act.{Act}
use Rattle.gq_model.specs.declared.act.Act.TheVariants.{Turns, Sets, Submits}
use Rattle.gq_model.specs.declared.fault.Wrong.{Wrong}
use Rattle.gq_model.specs.declared.phase.Phase.{Phase}
use Rattle.gq_model.specs.declared.phase.Phase.TheVariants.{Pending, Running, Blocked, Serving, Handling, Exited}
use Rattle.gq_model.specs.machine.Accounts.{account_lines, text_of}
use Rattle.gq_model.specs.machine.Doing.{Event, Idle, Stepped}
use Rattle.gq_model.specs.machine.Program.{Do, Statements}
use Rattle.gq_model.specs.machine.Run.{Ran, Acts, act_on, after_step as ran_on, label_at as ran_label, line_of, run, run_on, set_from, set_input, turn_from}
use Rattle.gq_model.specs.machine.Run.{submit, submit_from, turns_of}
use Rattle.gq_model.specs.machine.Scenario.{Component, Scenario, System, system}
use Rattle.gq_model.specs.machine.Step.{first_signal, next, oldest, step_of}
use Rattle.gq_model.specs.machine.Step_budgets.{StepBudget, all_steps_in}
use Rattle.gq_model.specs.machine.World.{Leaf, Request, Session, Signal, World, session_at, start, start_leaves}
use Rattle.gq_model.specs.Promises.{IsUpheld}
use Rattle.gq_model.specs.rules.Accept.{budgets, step_budgets}
use Rattle.gq_laws.specs.Reached_worlds.{IsReached}
use Rattle.gq_laws.specs.Shapes.{Each}
use Rattle.gq_laws.specs.Sound_scenarios.{IsSound}
use Rattle.gq_model.specs.machine.Rest.{can_run, runs, runs_as}
use Rattle.gq_laws.specs.Turn_effects.{CountsSteps, steps_of}
use Rattle.gq_laws.specs.Typing.{IsTyped}
use Rattle.gq_laws.specs.internal.Remaining_instructions.{AllAre, AreLeft}
use Rattle.gq_laws.proofs.remaining_work.Program_statements_valid.{program_good}
use Rattle.gq_laws.proofs.remaining_work.Remaining_program_statements.{kept_left, start_left}
use Rattle.gq_laws.proofs.input_settings.Setting_keeps_invariants.{set_left, submit_left}
use Rattle.gq_laws.proofs.input_settings.Setting_counts_nothing.{set_steps, submit_steps}
use Rattle.gq_traces.specs.Lines_of.{PrintsRun, PrintsSteps, last_accounts}
use Rattle.gq_traces.specs.Step_positions.{Ahead, StepPosition, first_request, place_in, request_place, signal_place, start_aheads, stepped}
use Rattle.gq_traces.specs.Trace.{Due, Traced, accounts_in, act_text, after_act, after_all, after_due, after_setting, after_step, after_submission, after_turn}
use Rattle.gq_traces.specs.Trace.{after_turns, all_text, changes, flag_at, signal_line, submission_text}
use Rattle.gq_traces.specs.Trace.{due, due_by, due_in, due_text, end_text, input_line, leaf_label, setting_text, value_at}
use Rattle.gq_traces.specs.Trace.{head_line, idle_turn, start_traced, step_text, reported_in, printed_session, printed_step, trace_text, turn_text, turns_text}
use Rattle.gq_traces.proofs.Printed_lines.{Gives, IsLine, given, gives_as, gives_both, gives_none, gives_nothing}
use Rattle.gq_traces.proofs.Node_names.{AllNamed, accounts_labelled, has_texts}
use Rattle.gq_traces.proofs.Printed_events.{IsNextInRange, IsShown, event_printed}
use Rattle.gq_traces.proofs.Printed_numbers.{IsPrinted, both, number_printed}
use Rattle.gq_traces.proofs.Printed_places.{AreAhead, AreSections, IsInRange, IsPlace, place_printed, set_texts, start_texts, stepped_texts}
use Rattle.gq_traces.proofs.Scheduled_turn_runs.{IsAt}
use Rattle.gq_traces.proofs.Lines_of_steps.{HasTexts, IsNamed, Reports, all_give, changes_give, head_gives, lines_shown, of_lines, of_turns, printed_gives}
use Rattle.gq_traces.proofs.Text_length.{Reaches, reaches_next, reaches_set, reaches_submit}

-- WHAT IS DUE

-- what is known of a step that a leaf can take
pub record IsDue (system : System) (x : ℕ) (t : Traced) (d : Due) : Type 0 where
  pub leaf : Leaf
  pub stands : slice_get t.world.leaves x ≡ Some leaf
  pub there : slice_get system.components x ≡ Some d.component
  pub old : Ahead
  pub was : slice_get t.aheads x ≡ Some old
  pub place : place_in t.world x d.component leaf old leaf.phase ≡ Some d.place
  pub ahead : d.ahead ≡ stepped t.world x d.component leaf old leaf.phase

pub is_due : (system : System) (x : ℕ) (t : Traced) (d : Due) → due system x t ≡ Some d → IsDue system x t d
is_due system x t d e = by (slice_get system.components x) refl (slice_get t.world.leaves x) refl (slice_get t.aheads x) refl e
  where
    of : (c : Component) (leaf : Leaf) (a : Ahead) → slice_get system.components x ≡ Some c → slice_get t.world.leaves x ≡ Some leaf
        → slice_get t.aheads x ≡ Some a → (o : Option StepPosition) → place_in t.world x c leaf a leaf.phase ≡ o
        → due_by c (stepped t.world x c leaf a leaf.phase) o ≡ Some d → IsDue system x t d
    of c leaf a f g h None k e = absurd (none_some e)
    of c leaf a f g h (Some p) k e =
        let same = some_same e in
        subst (IsDue system x t) same
        (record { leaf = leaf; stands = g; there = f; old = a; was = h; place = k; ahead = refl })

    by : (c : Option Component) → slice_get system.components x ≡ c → (l : Option Leaf) → slice_get t.world.leaves x ≡ l
        → (a : Option Ahead) → slice_get t.aheads x ≡ a → due_in t.world x c l a ≡ Some d → IsDue system x t d
    by (Some c) f (Some leaf) g (Some a) h e = of c leaf a f g h (place_in t.world x c leaf a leaf.phase) refl e
    by (Some c) f (Some leaf) g None h e = absurd (none_some e)
    by (Some c) f None g a h e = absurd (none_some e)
    by None f l g a h e = absurd (none_some e)

-- a leaf for which nothing is due does nothing
not_due : (system : System) (x : ℕ) (t : Traced) → length t.aheads ≡ length system.components → due system x t ≡ None
    → next system t.world x ≡ Ok (t.world, Idle)
not_due system x t long e = by (slice_get system.components x) refl (slice_get t.world.leaves x) (slice_get t.aheads x) refl e
  where
    waits : (o : Option (Request × List Request)) → request_place t.world (first_request o) ≡ None → o ≡ None
    waits None e = refl
    waits (Some p) e = absurd (none_some (sym e))

    no_signal : (f : Option (ℕ × List Signal)) (other : Option StepPosition) → signal_place f other ≡ None → (f ≡ None) × (other ≡ None)
    no_signal None other e = (refl, e)
    no_signal (Some p) other e = absurd (none_some (sym e))

    none_by : (c : Component) (a : Ahead) (o : Option StepPosition) → due_by c a o ≡ None → o ≡ None
    none_by c a None e = refl
    none_by c a (Some p) e = absurd (none_some (sym e))

    of : (c : Component) (leaf : Leaf) (a : Ahead) (phase : Phase) → leaf.phase ≡ phase → place_in t.world x c leaf a phase ≡ None
        → step_of system t.world x (Some c) (Some leaf) ≡ Ok (t.world, Idle)
    of c leaf a Pending p e = rw p refl
    of c leaf a Running p e = absurd (none_some (sym e))
    of c leaf a Blocked p e = rw p refl
    of c leaf a Serving p e =
        let none = no_signal (first_signal leaf.signals) (request_place t.world (first_request (oldest t.world x t.world.requests))) e in
        rw (p, none.0, waits (oldest t.world x t.world.requests) none.1) refl
    of c leaf a Handling p e = absurd (none_some (sym e))
    of c leaf a Exited p e = rw p refl

    by : (c : Option Component) → slice_get system.components x ≡ c → (l : Option Leaf) → (a : Option Ahead) → slice_get t.aheads x ≡ a
        → due_in t.world x c l a ≡ None → step_of system t.world x c l ≡ Ok (t.world, Idle)
    by (Some c) f (Some leaf) (Some a) h e =
        of c leaf a leaf.phase refl (none_by c (stepped t.world x c leaf a leaf.phase) (place_in t.world x c leaf a leaf.phase) e)
    by (Some c) f (Some leaf) None h e =
        let less = slice_get_within system.components x c f in absurd (missing t.aheads x (omega (arith, less, long)) h)
      where
        missing : (aheads : List Ahead) (x : ℕ) → x < length aheads → slice_get aheads x ≡ None → ⊥
        missing [] x less e = omega (arith, less)
        missing (a ∷ rest) zero less e = none_some (sym e)
        missing (a ∷ rest) (suc x) less e = missing rest x (omega (arith, less)) e
    by (Some c) f None a h e = refl
    by None f l a h e = refl

-- a step is due where a leaf can run
can : (system : System) (x : ℕ) (t : Traced) (d : Due) → IsDue system x t d → can_run system t.world x ≡ true
can system x t d h = ap₂ (runs_as t.world x) h.there h.stands ∙ of h.leaf.phase h.place
  where
    some : (o : Option (Request × List Request)) → request_place t.world (first_request o) ≡ Some d.place → is_some o ≡ true
    some None e = absurd (none_some e)
    some (Some p) e = refl

    either : (f : Option (ℕ × List Signal)) (o : Option (Request × List Request)) → signal_place f (request_place t.world (first_request o)) ≡ Some d.place
        → is_some f || is_some o ≡ true
    either None o e = some o e
    either (Some p) o e = refl

    of : (phase : Phase) → place_in t.world x d.component h.leaf h.old phase ≡ Some d.place → runs t.world x h.leaf phase ≡ true
    of Pending e = absurd (none_some e)
    of Running e = refl
    of Blocked e = absurd (none_some e)
    of Serving e = either (first_signal h.leaf.signals) (oldest t.world x t.world.requests) e
    of Handling e = refl
    of Exited e = absurd (none_some e)

-- NUMBERS

-- these numbers added
abbrev total : List ℕ → ℕ
total [] = 0
total (n ∷ rest) = n + total rest

total_taken : (ns : List ℕ) → total ns ≡ sum_by (λ (n : ℕ). n) ns
total_taken [] = refl
total_taken (n ∷ rest) = let r = total_taken rest in let c = sum_by-cons (λ (m : ℕ). m) n rest in omega (arith, r, c)

-- one more of one of these
total_more : (ns : List ℕ) (x : ℕ) → x < length ns → total (slice_set ns x (suc (slice_index ns x))) ≡ suc (total ns)
total_more [] x less = absurd (omega (arith, less))
total_more (n ∷ rest) zero less = omega arith
total_more (n ∷ rest) (suc x) less = let more = total_more rest x (omega (arith, less)) in omega (arith, more)

-- RUNS

module _ (s : Scenario) (sound : IsSound s) (named : AllNamed s) (upheld : (w : World) → IsReached s w → IsUpheld s w)
    (typed : (w : World) → IsReached s w → IsTyped (system s) w) (counts : (w : World) (x : ℕ) → CountsSteps (system s) w x) (all : Bool) where
  abbrev b : List StepBudget
  b = step_budgets (budgets s)

  sections : (x : ℕ) (c : Component) → slice_get (system s).components x ≡ Some c → AreSections c
  sections x c there = program_good c.node.program (sound.formed.programs x c there)

  -- a trace and a run on the way
  record Both (t : Traced) (ran : Ran) : Type 0 where
    at : IsAt ran t.world
    reached : Reaches s t.world
    left : AreLeft (λ c. IsInRange) (system s) t.world
    aheads : Each AreAhead t.aheads
    long : length t.aheads ≡ length (system s).components

  -- what is reported on the way from one to the other
  record Goes (t u : Traced) (ran rem : Ran) (text : List ℕ) : Type 0 where
    both : Both u rem
    said : List ℕ
    lines : ℕ
    says : Gives (codes "[") text said lines
    added : rem.text ≡ ran.text ++ said
    heads : List ℕ
    steps : ℕ
    turns : all ≡ true → Gives (codes "turn ") text heads steps
    counted : steps + total (steps_of t.world) ≡ total (steps_of u.world)

  stays : (t u : Traced) (ran rem : Ran) → u.world ≡ t.world → rem.text ≡ ran.text → Both u rem → Goes t u ran rem []
  stays t u ran rem w e h = record {
    both = h;
    said = [];
    lines = 0;
    says = gives_nothing (codes "[");
    added = e ∙ sym (append-nil ran.text);
    heads = [];
    steps = 0;
    turns = λ f. gives_nothing (codes "turn ");
    counted = (let same = ap (λ (v : World). total (steps_of v)) (sym w) in omega (arith, same));
  }

  then_on : (t u v : Traced) (ran rem ren : Ran) (a c : List ℕ) → Goes t u ran rem a → Goes u v rem ren c → Goes t v ran ren (a ++ c)
  then_on t u v ran rem ren a c h g = record {
    both = g.both;
    said = h.said ++ g.said;
    lines = h.lines + g.lines;
    says = gives_both (codes "[") a c h.said g.said h.lines g.lines h.says g.says;
    added = g.added ∙ ap (λ l. l ++ g.said) h.added ∙ append_assoc ran.text h.said g.said;
    heads = h.heads ++ g.heads;
    steps = h.steps + g.steps;
    turns = λ f. gives_both (codes "turn ") a c h.heads g.heads h.steps g.steps (h.turns f) (g.turns f);
    counted = let one = h.counted in let two = g.counted in omega (arith, one, two);
  }

  -- A STEP

  next_in_range : (t : Traced) (ran : Ran) (x : ℕ) → Both t ran → (c : Component) (leaf : Leaf) → slice_get (system s).components x ≡ Some c
      → slice_get t.world.leaves x ≡ Some leaf → IsNextInRange leaf.todo
  next_in_range t ran x h c leaf there stands = by leaf.todo (h.left x c leaf there stands).todo
    where
      by : (todo : Statements) → AllAre IsInRange todo → IsNextInRange todo
      by (Do i rest) g = g.0
      by _ g = tt

  sessions_named : (w : World) → IsReached s w → (k : ℕ) → IsNamed (printed_session w k)
  sessions_named w reached k = by (session_at w k) refl
    where
      by : (o : Option Session) → session_at w k ≡ o → IsNamed (reported_in w k o)
      by None e = tt
      by (Some session) e =
          let fits = (typed w reached).1.sessions k session e in named.services session.service fits.interface fits.known

  reached_so : (w : World) → Reaches s w → IsReached s w
  reached_so w h = record { turns = h.0; is = h.1.world }

  -- the text of a step
  step_printed : (t : Traced) (ran : Ran) (x : ℕ) (d : Due) (p : World × Event) → Both t ran → IsDue (system s) x t d → next (system s) t.world x ≡ Ok p
      → Goes t (after_step x t d (Ok p)) ran (ran_on (system s) x ran (Ok p)) (step_text all s b t d (Ok p))
  step_printed t ran x d p h due stepped_so = record {
    both = record {
      at = record { world = refl; right = refl };
      reached = reached;
      left = kept_left (λ c. IsInRange) (system s) sections t.world x p.0 p.1 h.left stepped_so;
      aheads = set_texts t.aheads x d.ahead h.aheads ahead;
      long = length-set t.aheads x d.ahead ∙ h.long;
    };
    said = line_of label p.1;
    lines = lines_shown p.1;
    says = printed_gives (codes "[") all head reported (line_of label p.1) (lines_shown p.1)
        (head_gives (codes "[") true false of_lines (suc t.turns) label d.place labelled placed)
        (changes_give (codes "[") true false of_lines s b label t.world p.0 p.1 texts labelled shown (accounts_labelled s p.0 (all_steps_in p.0 b)
        named.nodes) sessions);
    added = ap (λ l. ran.text ++ line_of l p.1) (ap ran_label due.there);
    heads = head;
    steps = 1;
    turns = λ f. by all f;
    counted = (let now = ap total (counts t.world x p.0 p.1 (can (system s) x t d due) stepped_so) in
        let more = total_more (steps_of t.world) x within in omega (arith, now, more));
  }
    where
      label : List ℕ
      label = d.component.label

      head : List ℕ
      head = head_line (suc t.turns) label d.place

      reported : List ℕ
      reported = changes s b label t.world p.0 p.1

      texts : HasTexts (system s)
      texts = has_texts s named.nodes

      labelled : IsPrinted label
      labelled = texts.labels x d.component due.there

      each_ahead : (aheads : List Ahead) (x : ℕ) (a : Ahead) → Each AreAhead aheads → slice_get aheads x ≡ Some a → AreAhead a
      each_ahead [] x a g e = absurd (none_some e)
      each_ahead (o ∷ rest) zero a g e = subst AreAhead (some_same e) g.0
      each_ahead (o ∷ rest) (suc x) a g e = each_ahead rest x a g.1 e

      old : AreAhead due.old
      old = each_ahead t.aheads x due.old h.aheads due.was

      ahead : AreAhead d.ahead
      ahead = subst AreAhead (sym due.ahead) (stepped_texts t.world x d.component due.leaf due.old due.leaf.phase (sections x d.component due.there) old)

      placed : IsPrinted d.place.statement
      placed = subst IsPlace due.place (place_printed t.world x d.component due.leaf due.old due.leaf.phase old)

      shown : IsShown p.1
      shown = event_printed (system s) t.world x p.0 p.1 (next_in_range t ran x h) stepped_so

      reached : Reaches s p.0
      reached = reaches_next s t.world x p h.reached stepped_so

      sessions : (k : ℕ) → IsNamed (printed_session p.0 k)
      sessions = sessions_named p.0 (reached_so p.0 reached)

      within : x < length (steps_of t.world)
      within =
          let long : length (steps_of t.world) ≡ length t.world.leaves = length-map t.world.leaves (λ leaf. leaf.steps) in
          let less = slice_get_within t.world.leaves x due.leaf due.stands in omega (arith, long, less)

      by : (e : Bool) → e ≡ true → Gives (codes "turn ") (printed_step e head reported) head 1
      by false f = absurd (true≢false (sym f))
      by true f =
          gives_as (codes "turn ") (head ++ reported) (head ++ []) head (1 + 0) 1 (append-nil head) refl
          (gives_both (codes "turn ") head reported head [] 1 0
          (head_gives (codes "turn ") false true of_turns (suc t.turns) label d.place labelled placed)
          (changes_give (codes "turn ") false true of_turns s b label t.world p.0 p.1 texts labelled shown (accounts_labelled s p.0 (all_steps_in p.0 b)
          named.nodes) sessions))

  -- TURNS

  turn_reported : (t : Traced) (ran : Ran) (x : ℕ) → Both t ran
      → Goes t (after_turn (system s) x t) ran (turn_from (system s) x ran ran.wrong) (turn_text all s b x t)
  turn_reported t ran x h = by (due (system s) x t) refl
    where
      right : (p : World × Event) × (next (system s) t.world x ≡ Ok p)
      right = (upheld t.world (reached_so t.world h.reached)).goes_on x

      ran_so : (p : World × Event) → next (system s) t.world x ≡ Ok p → turn_from (system s) x ran ran.wrong ≡ ran_on (system s) x ran (Ok p)
      ran_so p e =
          ap (turn_from (system s) x ran) h.at.right
          ∙ ap (ran_on (system s) x ran) (ap (λ (v : World). next (system s) v x) h.at.world ∙ e)

      idle : next (system s) t.world x ≡ Ok (t.world, Idle)
          → Goes t (idle_turn t) ran (ran_on (system s) x ran (Ok (t.world, Idle))) []
      idle e =
          stays t (idle_turn t) ran (ran_on (system s) x ran (Ok (t.world, Idle))) refl (append-nil ran.text)
          (record { at = record { world = refl; right = refl }; reached = h.reached; left = h.left; aheads = h.aheads; long = h.long })

      by : (o : Option Due) → due (system s) x t ≡ o
          → Goes t (after_due (system s) x t o) ran (turn_from (system s) x ran ran.wrong) (due_text all s b x t o)
      by None e =
          let quiet = not_due (system s) x t h.long e in
          subst (λ (r : Ran). Goes t (idle_turn t) ran r []) (sym (ran_so (t.world, Idle) quiet)) (idle quiet)
      by (Some d) e =
          subst (λ (r : Ran). Goes t (after_due (system s) x t (Some d)) ran r (due_text all s b x t (Some d))) (sym (ran_so right.0 right.1))
          (subst (λ (n : Stepped). Goes t (after_step x t d n) ran (ran_on (system s) x ran (Ok right.0)) (step_text all s b t d n)) (sym right.1)
          (step_printed t ran x d right.0 h (is_due (system s) x t d e) right.1))

  turns_go : (x n : ℕ) (t : Traced) (ran : Ran) → Both t ran
      → Goes t (after_turns (system s) x n t) ran (turns_of (system s) x n ran) (turns_text all s b x n t)
  turns_go x zero t ran h = stays t t ran ran refl refl h
  turns_go x (suc n) t ran h =
      let one = turn_reported t ran x h in
      let u = after_turn (system s) x t in
      let rem = turn_from (system s) x ran ran.wrong in
      then_on t u (after_turns (system s) x n u) ran rem (turns_of (system s) x n rem) (turn_text all s b x t) (turns_text all s b x n u) one
      (turns_go x n u rem one.both)

  -- SETTINGS

  input_printed : (x : ℕ) → IsPrinted (leaf_label (system s) x)
  input_printed x = by (slice_get (system s).components x) refl
    where
      by : (o : Option Component) → slice_get (system s).components x ≡ o → IsPrinted (ran_label o)
      by None e = refl
      by (Some c) e = (has_texts s named.nodes).labels x c e

  input_is : (x i n : ℕ) → IsLine (input_line (leaf_label (system s) x) i n)
  input_is x i n =
      let label = leaf_label (system s) x in
      let prefix = codes "input " ++ label ++ codes "." in
      let place = prefix ++ decimal i ++ codes " = " in
      record {
        line = place ++ decimal n;
        printed = both place (decimal n)
            (both (prefix ++ decimal i) (codes " = ")
            (both prefix (decimal i) (both (codes "input " ++ label) (codes ".") (both (codes "input ") label refl (input_printed x)) refl)
            (number_printed i)) refl)
            (number_printed n);
        is = refl;
      }

  input_gives : (prefix : List ℕ) (says heads : Bool) (reports : Reports prefix says heads) (x i n : ℕ)
      → Gives prefix (input_line (leaf_label (system s) x) i n) [] 0
  input_gives prefix says heads reports x i n = gives_none prefix reports.plain (input_line (leaf_label (system s) x) i n) (input_is x i n) (reports.inputs _)

  setting_gives : (prefix : List ℕ) (says heads : Bool) (reports : Reports prefix says heads) (x i n : ℕ) (t : Traced)
      → Gives prefix (setting_text all (system s) x i n t) [] 0
  setting_gives prefix says heads reports x i n t =
      by (all || not (value_at (set_input (system s) t.world x i n) x i == value_at t.world x i))
    where
      by : (c : Bool) → Gives prefix (if c then input_line (leaf_label (system s) x) i n else []) [] 0
      by true = input_gives prefix says heads reports x i n
      by false = gives_nothing prefix

  setting_goes : (x i n : ℕ) (t : Traced) (ran : Ran) → Both t ran
      → Goes t (after_setting (system s) x i n t) ran (set_from (system s) x i n ran ran.wrong) (setting_text all (system s) x i n t)
  setting_goes x i n t ran h =
      subst (λ (o : Option (ℕ × Wrong)). Goes t (after_setting (system s) x i n t) ran (set_from (system s) x i n ran o) (setting_text all (system s) x i n t))
      (sym h.at.right)
      (record {
        both = record {
          at = record { world = ap (λ (w : World). set_input (system s) w x i n) h.at.world; right = h.at.right };
          reached = reaches_set s t.world x i n h.reached;
          left = set_left (λ c. IsInRange) (system s) t.world x i n h.left;
          aheads = h.aheads;
          long = h.long;
        };
        said = [];
        lines = 0;
        says = setting_gives (codes "[") true false of_lines x i n t;
        added = sym (append-nil ran.text);
        heads = [];
        steps = 0;
        turns = λ f. setting_gives (codes "turn ") false true of_turns x i n t;
        counted = (let same = ap total (set_steps (system s) t.world x i n) in omega (arith, same));
      })

  -- SIGNALS

  signal_is : (x i : ℕ) → IsLine (signal_line (leaf_label (system s) x) i)
  signal_is x i =
      let label = leaf_label (system s) x in
      let prefix = codes "signal " ++ label ++ codes "!" in
      record {
        line = prefix ++ decimal i;
        printed = both prefix (decimal i) (both (codes "signal " ++ label) (codes "!") (both (codes "signal ") label refl (input_printed x)) refl)
            (number_printed i);
        is = refl;
      }

  submission_gives : (prefix : List ℕ) (says heads : Bool) (reports : Reports prefix says heads) (x i : ℕ) (t : Traced)
      → Gives prefix (submission_text all (system s) x i t) [] 0
  submission_gives prefix says heads reports x i t =
      by (all || flag_at (submit t.world x i) x i && not (flag_at t.world x i))
    where
      by : (c : Bool) → Gives prefix (if c then signal_line (leaf_label (system s) x) i else []) [] 0
      by true = gives_none prefix reports.plain (signal_line (leaf_label (system s) x) i) (signal_is x i) (reports.signals _)
      by false = gives_nothing prefix

  submission_goes : (x i : ℕ) (t : Traced) (ran : Ran) → Both t ran
      → Goes t (after_submission x i t) ran (submit_from x i ran ran.wrong) (submission_text all (system s) x i t)
  submission_goes x i t ran h =
      subst (λ (o : Option (ℕ × Wrong)). Goes t (after_submission x i t) ran (submit_from x i ran o) (submission_text all (system s) x i t))
      (sym h.at.right)
      (record {
        both = record {
          at = record { world = ap (λ (w : World). submit w x i) h.at.world; right = h.at.right };
          reached = reaches_submit s t.world x i h.reached;
          left = submit_left (λ c. IsInRange) (system s) t.world x i h.left;
          aheads = h.aheads;
          long = h.long;
        };
        said = [];
        lines = 0;
        says = submission_gives (codes "[") true false of_lines x i t;
        added = sym (append-nil ran.text);
        heads = [];
        steps = 0;
        turns = λ f. submission_gives (codes "turn ") false true of_turns x i t;
        counted = (let same = ap total (submit_steps t.world x i) in omega (arith, same));
      })

  act_goes : (x : ℕ) (a : Act) (t : Traced) (ran : Ran) → Both t ran
      → Goes t (after_act (system s) x a t) ran (act_on (system s) x a ran) (act_text all s b x a t)
  act_goes x (Turns n) t ran h = turns_go x n t ran h
  act_goes x (Sets i n) t ran h = setting_goes x i n t ran h
  act_goes x (Submits i) t ran h = submission_goes x i t ran h

  all_go : (acts : Acts) (t : Traced) (ran : Ran) → Both t ran
      → Goes t (after_all (system s) acts t) ran (run_on (system s) acts ran) (all_text all s b acts t)
  all_go [] t ran h = stays t t ran ran refl refl h
  all_go (p ∷ acts) t ran h =
      let one = act_goes p.0 p.1 t ran h in
      let u = after_act (system s) p.0 p.1 t in
      let rem = act_on (system s) p.0 p.1 ran in
      then_on t u (after_all (system s) acts u) ran rem (run_on (system s) acts rem) (act_text all s b p.0 p.1 t) (all_text all s b acts u) one
      (all_go acts u rem one.both)

  -- WHOLE TRACES

  abbrev first : Ran
  first = record { world = start (system s); text = []; wrong = None }

  starts_both : Both (start_traced (system s)) first
  starts_both = record {
    at = record { world = refl; right = refl };
    reached = ([], record { world = refl; right = refl });
    left = start_left (λ c. IsInRange) (system s) sections;
    aheads = start_texts (system s).components sections;
    long = as_many (system s).components;
  }
    where
      as_many : (cs : List Component) → length (start_aheads cs) ≡ length cs
      as_many [] = refl
      as_many (c ∷ rest) = ap suc (as_many rest)

  end_gives : (prefix : List ℕ) (says heads : Bool) (reports : Reports prefix says heads) (t : Traced) → Gives prefix (end_text s b t) [] 0
  end_gives prefix says heads reports t =
      let end = codes "end after " ++ decimal t.turns ++ codes " turns\n" in
      let lines = account_lines s.version (accounts_in s t.world b) in
      (gives_both prefix end lines [] [] 0 0
      (gives_none prefix reports.plain end
      (record {
        line = codes "end after " ++ decimal t.turns ++ codes " turns";
        printed = both (codes "end after " ++ decimal t.turns) (codes " turns")
            (both (codes "end after ") (decimal t.turns) refl (number_printed t.turns)) refl;
        is = sym (append_assoc (codes "end after " ++ decimal t.turns) (codes " turns") (10 ∷ []));
      })
      (reports.ends (decimal t.turns ++ codes " turns\n")))
      (all_give prefix says heads reports s.version (accounts_in s t.world b) (accounts_labelled s t.world (all_steps_in t.world b) named.nodes)))

  module _ (turns : Acts) where
    abbrev trace : List ℕ
    trace = all_text all s b turns (start_traced (system s))

    abbrev last : Traced
    last = after_all (system s) turns (start_traced (system s))

    abbrev end : List ℕ
    end = end_text s b last

    go : Goes (start_traced (system s)) last first (run (system s) turns) trace
    go = all_go turns (start_traced (system s)) first starts_both

    -- the world of the trace is that of the run, and is reached
    pub last_world : last.world ≡ (run (system s) turns).world
    last_world = sym go.both.at.world

    pub last_reached : IsReached s last.world
    last_reached = reached_so last.world go.both.reached

    last_are : account_lines s.version (accounts_in s last.world b) ≡ last_accounts s turns
    last_are = ap (λ (w : World). account_lines s.version (accounts_in s w b)) (sym go.both.at.world)

    pub prints_run : PrintsRun s turns (trace_text all s turns)
    prints_run = record {
      prefix = trace ++ (codes "end after " ++ decimal n ++ codes " turns\n");
      ends = ap (λ l. trace ++ (codes "end after " ++ decimal n ++ codes " turns\n" ++ l)) last_are ∙ sym (parts (last_accounts s turns));
      says = ap (λ l. l ++ last_accounts s turns)
          ((given (codes "[") (trace ++ end) (go.said ++ []) (go.lines + 0)
          (gives_both (codes "[") trace end go.said [] go.lines 0 go.says (end_gives (codes "[") true false of_lines last)) refl).0
          ∙ append-nil go.said ∙ sym go.added)
          ∙ sym (ap (text_of s b (run (system s) turns)) go.both.at.right);
    }
      where
        n : ℕ
        n = last.turns

        parts : (l : List ℕ) → (trace ++ (codes "end after " ++ decimal n ++ codes " turns\n")) ++ l
            ≡ trace ++ (codes "end after " ++ decimal n ++ codes " turns\n" ++ l)
        parts l = append_assoc trace (codes "end after " ++ decimal n ++ codes " turns\n") l

    start_none : (cs : List Component) → total (map (λ (leaf : Leaf). leaf.steps) (start_leaves cs)) ≡ 0
    start_none [] = refl
    start_none (c ∷ rest) = let more = start_none rest in omega (arith, more)

    pub prints_steps : all ≡ true → PrintsSteps s turns (trace_text all s turns)
    prints_steps f =
        (given (codes "turn ") (trace ++ end) (go.heads ++ []) (go.steps + 0)
        (gives_both (codes "turn ") trace end go.heads [] go.steps 0 (go.turns f) (end_gives (codes "turn ") false true of_turns last)) refl).1
        ∙ (let counted = go.counted in let none = start_none (system s).components in
        let same : total (steps_of last.world) ≡ total (steps_of (run (system s) turns).world) =
        ap (λ (w : World). total (steps_of w)) (sym go.both.at.world) in omega (arith, counted, none, same))
        ∙ total_taken (steps_of (run (system s) turns).world)
