-- What is written of steps: the first line of a step before the first of what follows, or at once where all steps are reported; and nothing more after a failed
-- write.
use Rattle.std.specs.Prelude.{◌≡◌, ℕ, ◌+◌, ◌≤◌, ◌++◌, Ok, Err, Bool, true, false, List, [], ◌∷◌, Option, Some, None, drop, slice_get, slice_set}
use Rattle.std.specs.Prelude.{codes, decimal, map}
use Rattle.std.specs.Prelude.{MatchOption, get_or, length, max, option_map}
use Rattle.std.specs.Io.KnownBytes.{Appends}
use Rattle.gq_output.specs.Writer_failures.{failures_of, written_to}
use Rattle.gq_output.specs.Account_values.{AccountValues}
use Rattle.gq_output.specs.Writes.{IsPrefix, IsRaised}
use Rattle.gq_output.specs.declared.counted.Counted.{Counted}
use Rattle.gq_machine.specs.Events.{event_of}
use Rattle.gq_machine.specs.Readers.{requested}
use Rattle.gq_model.specs.declared.phase.Phase.{Phase}
use Rattle.gq_model.specs.declared.phase.Phase.TheVariants.{Running, Handling}
use Rattle.gq_model.specs.declared.section.Section.{Section}
use Rattle.gq_model.specs.declared.section.Section.TheVariants.{Reacting}
use Rattle.gq_model.specs.machine.Accounts.{Account}
use Rattle.gq_model.specs.machine.Doing.{Event}
use Rattle.gq_model.specs.machine.Step.{first_signal, next, oldest}
use Rattle.gq_model.specs.machine.Sections.{section_word}
use Rattle.gq_model.specs.machine.Scenario.{Component, Scenario, components, system}
use Rattle.gq_model.specs.machine.Rest.{can_run, while_can}
use Rattle.gq_model.specs.machine.World as model
use Rattle.gq_model.specs.rules.Accept.{budgets, step_budgets}
use Rattle.gq_model.specs.texts.Turns.{Listed}
use Rattle.gq_scenario.specs.Sizes.{leaf_places}
use Rattle.gq_views.specs.Listing.{loop_text}
use Rattle.gq_model.specs.machine.Run.{label_at}
use Rattle.gq_world.specs.Headline.{Standing}
use Rattle.gq_world.specs.Account_lines.{all_accounts}
use Rattle.gq_world.specs.World_between_turns as worlds
use Rattle.gq_reports.specs.declared.run_fault.RunFault.{RunFault}
use Rattle.gq_reports.specs.declared.run_fault.RunFault.TheVariants as fault
use Rattle.gq_traces.specs.Step_positions.{Ahead, StepPosition, ahead, body_in, first_request, next_place, past, place}
use Rattle.gq_model.specs.machine.World.{Signal, section_of}
use Rattle.gq_model.specs.machine.Step_budgets.{StepBudget}
use Rattle.gq_traces.specs.Traces_written.{prints_all}
use Rattle.gq_traces.specs.Trace.{Due, Traced, account_change, account_changes, after_turns, changes, due_in, head_line, session_changes, standing_of}
use Rattle.gq_traces.specs.Trace.{printed_step, turns_text}
use Rattle.gq_traces.specs.declared.noted.PrintedState.{PrintedState}
use Rattle.gq_traces.specs.declared.noted.Use.{Use}
use Rattle.gq_traces.specs.declared.session_lines.PrintedSession.{PrintedSession}
use Rattle.gq_traces.specs.declared.trace.Own.{Own}
use Rattle.gq_traces.specs.declared.trace.Tracing.{Tracing}
use Rattle.gq_traces.specs.internal.Noted.{AreNoted, IsRenewed, IsReported, IsUse, SessionsNoted, WasNoted, standing_in, printed_change}
use Rattle.gq_traces.specs.declared.step_lines.Head.{Head}
use Rattle.gq_traces.specs.declared.step_lines.Taken.{Taken}
use Rattle.gq_traces.specs.declared.step_output.Progress.{Progress}
use Rattle.gq_traces.specs.declared.step_output.Reporting.{Reporting}
use Rattle.gq_traces.specs.declared.numbered_program.NumberedStatement.{NumberedStatement}
use Rattle.gq_traces.specs.declared.numbered_program.NumberedProgram.{NumberedProgram as Entries}
use Rattle.gq_traces.specs.declared.numbered_program.Way.{Way}
use Rattle.gq_traces.specs.declared.numbered_program.Way.TheVariants as way
use Rattle.gq_traces.specs.declared.tracker.Ahead as places
use Rattle.gq_traces.specs.declared.tracker.Due as stated
use Rattle.gq_traces.specs.declared.tracker.TrackedStatement.{TrackedStatement}
use Rattle.gq_traces.specs.declared.tracker.TrackedStatement.TheVariants as statement
use Rattle.gq_traces.specs.internal.Flat.{AllStand, AreAheads, ArePrograms, IsAhead, IsProgramOf, programs_of}

-- WRITES

-- Text was written after which all went well so far, or a prefix of it; or nothing, where a write had failed before.
pub record Goes {W : Type 0} (contents : W → Option (List ℕ)) (old new : Counted W) (was now : Bool) (text : List ℕ) : Type 0 where
  pub well : now ≡ true → was ≡ true
  pub written : now ≡ true → Appends (written_to contents old) (written_to contents new) text
  pub counted : now ≡ true → failures_of new ≡ failures_of old
  pub failed : was ≡ false → now ≡ false
  pub silent : was ≡ false → new ≡ old
  pub prefix : was ≡ true → now ≡ false → IsPrefix (written_to contents old) (written_to contents new) text
  pub raised : was ≡ true → now ≡ false → IsRaised (failures_of old) (failures_of new)

-- whether the first line of a step is written, once this was reported of it
abbrev pub has_begun : Bool → List ℕ → Bool
has_begun true text = true
has_begun false [] = false
has_begun false (c ∷ text) = true

-- what is written then
abbrev pub more_printed : Bool → List ℕ → List ℕ → List ℕ
more_printed true head text = text
more_printed false head text = printed_step false head text

-- more of a step was reported, and its first line before it, if that was not written
pub record Reports {W : Type 0} (contents : W → Option (List ℕ)) (old new : Counted W) (was now : Progress) (head text : List ℕ) : Type 0 where
  pub goes : Goes contents old new was.going now.going (more_printed was.begun head text)
  pub begun : now.begun ≡ has_begun was.begun text

-- PLACES

-- the first line of a statement, behind a blank
abbrev pub statement_text : TrackedStatement → List ℕ
statement_text statement.Nothing = []
statement_text (statement.Plain text) = codes " " ++ text.now
statement_text statement.If = codes " if"
statement_text (statement.Loop n) = codes " " ++ loop_text n

abbrev pub place_of : stated.Due → StepPosition
place_of d = place d.section d.number (statement_text d.statement)

abbrev pub head_text : Scenario → Head → List ℕ
head_text s h = head_line h.turn (label_at (slice_get (components s) h.leaf)) (place_of h.due)

-- the section that a serving leaf takes next: for a signal, or else for a request
abbrev pub section_by : Option (ℕ × List Signal) → Option Section → Option Section
section_by None other = other
section_by (Some p) other = Some (Reacting p.0)

abbrev pub section_due : model.World → ℕ → model.Leaf → Option Section
section_due w x leaf = section_by (first_signal leaf.signals) (option_map (λ r. requested w r) (first_request (oldest w x w.requests)))

abbrev pub IsDue : Option stated.Due → Option Due → Type 0
IsDue None None = Unit {0}
IsDue None (Some d) = ⊥
IsDue (Some c) None = ⊥
IsDue (Some c) (Some d) = place_of c ≡ d.place

abbrev pub due_of : Scenario → model.World → ℕ → List Ahead → Option Due
due_of s w x aheads = due_in w x (slice_get (components s) x) (slice_get w.leaves x) (slice_get aheads x)

-- it is reported where the leaf stands
abbrev pub PrintsDue : List Entries → List places.Ahead → Scenario → model.World → ℕ → Option stated.Due → Type 0
PrintsDue programs stands s w x due = (aheads : List Ahead) → AreAheads programs stands aheads → IsDue due (due_of s w x aheads)

-- it is reported where the leaf takes its next step, as one that takes steps of its own in this section
abbrev pub PlacePrinted : List Entries → List places.Ahead → ℕ → Section → stated.Due → Type 0
PlacePrinted programs stands x section due =
    (cs : List Component) (c : Component) (aheads : List Ahead) (t : Ahead) → ArePrograms programs (map (λ d. d.node.program) cs) → slice_get cs x ≡ Some c
    → AreAheads programs stands aheads → slice_get aheads x ≡ Some t → place_of due ≡ next_place c section t.todo t.loops

-- it is reported where the leaf takes its next step, as one that takes steps of its own
abbrev pub StepPrinted : List Entries → List places.Ahead → Scenario → model.World → ℕ → stated.Due → Type 0
StepPrinted programs stands s w x due =
    (c : Component) (l : model.Leaf) (aheads : List Ahead) (t : Ahead) → slice_get (components s) x ≡ Some c → slice_get w.leaves x ≡ Some l
    → AreAheads programs stands aheads → slice_get aheads x ≡ Some t → place_of due ≡ next_place c (section_of l.current l.reacting) t.todo t.loops

-- the leaf stands past its next step, as one that takes steps of its own and has these operands
abbrev pub PassesBy : List Entries → List places.Ahead → List places.Ahead → ℕ → List ℕ → Type 0
PassesBy programs old new x operands =
    (aheads : List Ahead) (t : Ahead) → AreAheads programs old aheads → slice_get aheads x ≡ Some t
    → AreAheads programs new (slice_set aheads x (past operands t.todo t.loops))

-- the leaf stands past its next step, as one that takes steps of its own
abbrev pub PassesOwn : List Entries → List places.Ahead → List places.Ahead → model.World → ℕ → Type 0
PassesOwn programs old new w x =
    (l : model.Leaf) (aheads : List Ahead) (t : Ahead) → slice_get w.leaves x ≡ Some l → AreAheads programs old aheads → slice_get aheads x ≡ Some t
    → AreAheads programs new (slice_set aheads x (past l.operands t.todo t.loops))

-- the leaf stands at the start of a section
abbrev pub StartsSection : List Entries → List places.Ahead → List places.Ahead → ℕ → Section → Type 0
StartsSection programs old new x section =
    (cs : List Component) (c : Component) (aheads : List Ahead) → ArePrograms programs (map (λ d. d.node.program) cs) → slice_get cs x ≡ Some c
    → AreAheads programs old aheads → AreAheads programs new (slice_set aheads x (ahead (body_in c section)))

-- the leaf stands past the step that it can take
abbrev pub GoesOn : List Entries → List places.Ahead → List places.Ahead → Scenario → model.World → ℕ → Type 0
GoesOn programs old new s w x =
    (aheads : List Ahead) (d : Due) → AreAheads programs old aheads → due_of s w x aheads ≡ Some d → AreAheads programs new (slice_set aheads x d.ahead)

-- the first line of a statement of this way, behind a blank
abbrev pub way_text : Way → List ℕ
way_text (way.Plain text next) = codes " " ++ text.items
way_text (way.If arm other) = codes " if"
way_text (way.Loop n body next) = codes " " ++ loop_text n

-- the place of an entry
abbrev pub entry_place : Section → NumberedStatement → StepPosition
entry_place section e = place section e.number (way_text e.way)

-- it is the place of the next step of a leaf that stands so in this section
abbrev pub PlaceIs : Entries → places.Ahead → Section → stated.Due → Type 0
PlaceIs es a section due =
    (c : Component) (t : Ahead) → IsProgramOf es c.node.program → IsAhead es.entries.items a t → place_of due ≡ next_place c section t.todo t.loops

-- the top of these operands
abbrev pub IsTop : Option ℕ → List ℕ → Type 0
IsTop top operands = MatchOption top (operands ≡ []) (λ a. operands ≡ a ∷ drop 1 operands)

-- STEPS

-- the first line of a step, up to its statement
abbrev pub head_prefix : Scenario → Head → List ℕ
head_prefix s h =
    codes "turn " ++ decimal h.turn ++ codes " " ++ label_at (slice_get (components s) h.leaf) ++ codes " " ++ section_word h.due.section ++ codes " at "
    ++ decimal h.due.number

-- The account of the n-th node was reported, if it stands otherwise than it was noted, and is noted anew.
pub record PrintsNode {W : Type 0} (contents : W → Option (List ℕ)) (w : worlds.World) (n : ℕ) (old new : PrintedState) (out_old out_new : Counted W)
    (was now : Progress) (h : Head) : Type 0 where
  pub reported : (a : Account) (b : AccountValues) → slice_get (all_accounts w) n ≡ Some a → slice_get old.accounts.items n ≡ Some b
      → Reports contents out_old out_new was now (head_text w.scenario h) (account_change w.scenario.version (standing_in b) a)
  pub renewed : IsRenewed w n old new

-- so were the accounts of all nodes
pub record PrintsAccounts {W : Type 0} (contents : W → Option (List ℕ)) (w : worlds.World) (old new : PrintedState) (out_old out_new : Counted W)
    (was now : Progress) (h : Head) : Type 0 where
  pub reported : Reports contents out_old out_new was now (head_text w.scenario h)
      (account_changes w.scenario.version (map standing_in old.accounts.items) (all_accounts w))
  pub accounts : map standing_in new.accounts.items ≡ map standing_of (all_accounts w)
  pub sessions : new.sessions ≡ old.sessions
  pub count : new.count ≡ old.count

-- and that of the step's leaf, at its place
pub record PrintsOwn {W : Type 0} (contents : W → Option (List ℕ)) (w : worlds.World) (old new : PrintedState) (out_old out_new : Counted W)
    (was now : Progress)
    (h : Head) : Type 0 where
  pub place : ℕ
  pub at : slice_get (leaf_places 1 w.scenario.nodes) h.leaf ≡ Some place
  pub account : Account
  pub there : slice_get (all_accounts w) place ≡ Some account
  pub noted : AccountValues
  pub before : slice_get old.accounts.items place ≡ Some noted
  pub reports : PrintsNode contents w place old new out_old out_new was now h

-- The k-th session was reported, if it is another one than was noted, and is noted anew.
pub record PrintsSession {W : Type 0} (contents : W → Option (List ℕ)) (w : worlds.World) (k : ℕ) (old new : PrintedState) (out_old out_new : Counted W)
    (was now : Progress) (h : Head) : Type 0 where
  pub reported : Reports contents out_old out_new was now (head_text w.scenario h) (printed_change w.scenario k (get_or old.sessions.items k None) w.world)
  pub seen : Option PrintedSession
  pub is : IsReported w.scenario w.world k seen
  pub sessions : new.sessions.items ≡ slice_set old.sessions.items k seen
  pub accounts : new.accounts ≡ old.accounts
  pub count : new.count ≡ old.count

-- so were all sessions, where they were noted of this world
pub record PrintsSessions {W : Type 0} (contents : W → Option (List ℕ)) (before : model.World) (w : worlds.World) (old new : PrintedState)
    (out_old out_new : Counted W) (was now : Progress) (h : Head) : Type 0 where
  pub reported : Reports contents out_old out_new was now (head_text w.scenario h) (session_changes w.scenario.version (system w.scenario) before w.world 0
      (max (length before.sessions) (length w.world.sessions)))
  pub noted : SessionsNoted w.scenario w.world new
  pub accounts : new.accounts ≡ old.accounts

-- the step budgets of a scenario
abbrev pub budgets_of : Scenario → List StepBudget
budgets_of s = step_budgets (budgets s)

-- the step was taken, and what it changes was reported and noted
pub record PrintsStep {W : Type 0} (contents : W → Option (List ℕ)) (reporting : Reporting) (old new : worlds.World) (notes : PrintedState)
    (out_old out_new : Counted W)
    (was now : Bool) (h : Head) : Type 0 where
  pub scenario : new.scenario ≡ old.scenario
  pub running : new.stopped ≡ false
  pub signals : new.signals ≡ old.signals
  pub event : Event
  pub goes : next (system old.scenario) old.world h.leaf ≡ Ok (new.world, event)
  pub reports : Goes contents out_old out_new was now (printed_step (prints_all reporting) (head_text old.scenario h)
      (changes old.scenario (budgets_of old.scenario) (label_at (slice_get (components old.scenario) h.leaf)) old.world new.world event))
  pub noted : AreNoted new.scenario new.world notes

-- it was taken, with what was read of it
pub record IsTaken (old new : worlds.World) (x : ℕ) (t : Taken) (text : List ℕ) : Type 0 where
  pub stands : Standing old
  pub scenario : new.scenario ≡ old.scenario
  pub running : new.stopped ≡ false
  pub signals : new.signals ≡ old.signals
  pub goes : next (system old.scenario) old.world x ≡ Ok (new.world, event_of t.event text)
  pub before : IsUse old.scenario old.world x t.before
  pub after : IsUse new.scenario new.world x t.after
  pub leaves_before : length old.world.leaves ≡ length (components old.scenario)
  pub leaves : length new.world.leaves ≡ length (components new.scenario)

-- what it changes was reported and noted
pub record PrintsChanges {W : Type 0} (contents : W → Option (List ℕ)) (old new : worlds.World) (notes : PrintedState) (out_old out_new : Counted W)
    (was now : Progress) (h : Head) (event : Event) : Type 0 where
  pub reports : Reports contents out_old out_new was now (head_text old.scenario h)
      (changes old.scenario (budgets_of old.scenario) (label_at (slice_get (components old.scenario) h.leaf)) old.world new.world event)
  pub noted : AreNoted new.scenario new.world notes

-- TURNS

-- a leaf takes steps of its own
abbrev pub takes_own : Phase → Bool
takes_own Running = true
takes_own Handling = true
takes_own _ = false

-- a trace on the way
pub record IsOn (programs : List Entries) (stands : List places.Ahead) (w : worlds.World) (turns : ℕ) (t : Traced) : Type 0 where
  pub world : t.world ≡ w.world
  pub aheads : AreAheads programs stands t.aheads
  pub count : t.turns ≡ turns

-- a trace can go on: the programs are those of the leaves, each of which stands somewhere, the world is noted, and it is not stopped
pub record CanTrace (w : worlds.World) (t : Tracing) : Type 0 where
  pub programs : ArePrograms t.programs.items (programs_of w.scenario)
  pub stands : AllStand t.programs.items t.aheads.items
  pub noted : AreNoted w.scenario w.world t.notes
  pub running : w.stopped ≡ false

-- A leaf took a step of its own in this section and with this top operand, before which the trace could go on.
pub record IsOwnTaken (old new : worlds.World) (t : Tracing) (o : Own) (text : List ℕ) : Type 0 where
  pub can : CanTrace old t
  pub taken : IsTaken old new o.leaf o.taken text
  pub noted : WasNoted new t.notes
  pub own : takes_own o.taken.before.phase ≡ true
  pub section : (l : model.Leaf) → slice_get old.world.leaves o.leaf ≡ Some l → o.section ≡ section_of l.current l.reacting
  pub top : (l : model.Leaf) → slice_get old.world.leaves o.leaf ≡ Some l → IsTop o.top l.operands

-- Turns were reported, and at most so many signals with them: of each trace that was on the way there, the text was written, and the trace that goes on from
-- there is on the way.
pub record PrintsTurns {W : Type 0} (most : ℕ) (contents : W → Option (List ℕ)) (text : Traced → List ℕ) (go : Traced → Traced) (turns more : ℕ)
    (old new : worlds.World) (before after : Tracing) (out_old out_new : Counted W) (was now : Bool) : Type 0 where
  pub scenario : new.scenario ≡ old.scenario
  pub signals : new.signals ≤ old.signals + most
  pub can : CanTrace new after
  pub written : (t : Traced) → IsOn before.programs.items before.aheads.items old turns t → Goes contents out_old out_new was now (text t)
  pub on : (t : Traced) → IsOn before.programs.items before.aheads.items old turns t
      → IsOn after.programs.items after.aheads.items new (turns + more) (go t)

-- n turns of the x-th leaf, of which nothing is reported: each trace that was on the way there goes on so, and the leaf holds and does what it held and did;
-- each is a step where the leaf can take one at first, and then it can take a further one
pub record IsSilent (all : Bool) (x n : ℕ) (old new : worlds.World) (before after : Tracing) : Type 0 where
  pub scenario : new.scenario ≡ old.scenario
  pub signals : new.signals ≡ old.signals
  pub can : CanTrace new after
  pub able : can_run (system old.scenario) old.world x ≡ true
      → (while_can n (system old.scenario) old.world x ≡ (n, new.world)) × (can_run (system old.scenario) new.world x ≡ true)
  pub uses : (u : Use) → IsUse old.scenario old.world x u → IsUse new.scenario new.world x u
  pub none : (turns : ℕ) (t : Traced) → IsOn before.programs.items before.aheads.items old turns t
      → [] ≡ turns_text all old.scenario (budgets_of old.scenario) x n t
  pub on : (turns : ℕ) (t : Traced) → IsOn before.programs.items before.aheads.items old turns t
      → IsOn after.programs.items after.aheads.items new (turns + n) (after_turns (system old.scenario) x n t)

-- why turns are not read
abbrev pub IsTurnsFault : RunFault → Listed → Type 0
IsTurnsFault (fault.Load f) t = ⊥
IsTurnsFault (fault.NoComponent name) t = ⊥
IsTurnsFault (fault.NoOutcome number) t = ⊥
IsTurnsFault (fault.Turns f line) t = t ≡ Err (f, line)
IsTurnsFault fault.Memory t = Unit {0}
IsTurnsFault fault.Write t = ⊥
