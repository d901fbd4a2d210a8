-- A step writes no line, where the leaf's next statement does not.
use Rattle.std.proofs.Common.{◌≡◌, ℕ, zero, suc, Bool, true, false, List, [], ◌∷◌, Option, Some, None, Ok, Err, refl, ap, subst}
use Rattle.std.specs.Prelude.{slice_get}
use Rattle.std.proofs.lemmas.Bool.{true≢false}
use Rattle.gq_model.specs.declared.fault.Wrong.{Wrong}
use Rattle.gq_model.specs.declared.fault.Wrong.TheVariants.{ExceededQuota, MissingSection, WrongKind}
use Rattle.gq_model.specs.declared.phase.Phase.{Phase}
use Rattle.gq_model.specs.declared.phase.Phase.TheVariants.{Pending, Running, Blocked, Serving, Handling, Exited}
use Rattle.gq_model.specs.declared.program.Instruction.{Instruction}
use Rattle.gq_model.specs.declared.program.Instruction.TheVariants.{Say, Out}
use Rattle.gq_model.specs.declared.section.Section.{Section}
use Rattle.gq_model.specs.declared.section.Section.TheVariants.{Main, Opening, Upgrading, Calling, Closing, Reacting}
use Rattle.gq_model.specs.machine.Doing.{Doing, Event, Idle, Quiet, Finished, Line, Stepped, fill, need, pop, push, settled, when}
use Rattle.gq_model.specs.machine.Memory.{bytes_in, if_absent, pool_in}
use Rattle.gq_model.specs.machine.Program.{Statements, Done, Do, If, Loop, section_in}
use Rattle.gq_model.specs.machine.Requests.{asked, link_in}
use Rattle.gq_model.specs.machine.Scenario.{Component, System}
use Rattle.gq_model.specs.machine.Step.{accept, accept_oldest, body_ended, instruct, main_ended, next, oldest, perform, replied, reply, section_ended}
use Rattle.gq_model.specs.machine.Step.{all_empty, first_signal, serve, step_in, step_of}
use Rattle.gq_model.specs.machine.Sums.{paid, with_peaks}
use Rattle.gq_model.specs.machine.World.{Slot, Empty, Bytes, Pool, Link, Ask, Current, Leaf, Request, Round, Session, Signal, SlotId, World, session_at}
use Rattle.gq_model.specs.machine.World.{with_leaf}
use Rattle.gq_model.specs.machine.Run.{line_of}
use Rattle.gq_races.specs.Races.{writes_line}
use Rattle.gq_laws.proofs.step_shapes.Step_end_worlds.{closed, section_taken, taken}

-- what a step shows is no line
abbrev pub IsSilent : Event → Type 0
IsSilent Idle = Unit {0}
IsSilent Quiet = Unit {0}
IsSilent Finished = Unit {0}
IsSilent (Line text) = ⊥

pub silent_line : (label : List ℕ) (e : Event) → IsSilent e → line_of label e ≡ []
silent_line label Idle h = refl
silent_line label Quiet h = refl
silent_line label Finished h = refl
silent_line label (Line text) h = absurd h

-- so it is of a step, where there is one
pub record Shows (r : Stepped) : Type 0 where
  pub holds : (w : World) (e : Event) → r ≡ Ok (w, e) → IsSilent e

fails : (wrong : Wrong) → Shows (Err wrong)
fails wrong = record { holds = λ w e q. absurd (err_ok wrong (w, e) q) }
  where
    err_ok : (wrong : Wrong) (p : World × Event) → ◌≡◌ {A = Stepped} (Err wrong) (Ok p) → ⊥
    err_ok wrong p q = cc

abbrev event_or : Event → Stepped → Event
event_or e (Ok p) = p.1
event_or e (Err wrong) = e

gives : (w : World) (e : Event) → IsSilent e → Shows (Ok (w, e))
gives w e h = record { holds = λ w' e' q. subst IsSilent (ap (event_or e) q) h }

quiet : (w : World) → Shows (Ok (w, Quiet))
quiet w = gives w Quiet tt

need_shows : {A : Type 0} (o : Option A) (wrong : Wrong) (go : A → Stepped) → ((a : A) → Shows (go a)) → Shows (need o wrong go)
need_shows None wrong go h = fails wrong
need_shows (Some a) wrong go h = h a

when_shows : (b : Bool) (wrong : Wrong) (next : Stepped) → Shows next → Shows (when b wrong next)
when_shows true wrong next h = h
when_shows false wrong next h = fails wrong

pop_shows : (operands : List ℕ) (go : ℕ → List ℕ → Stepped) → ((a : ℕ) (rest : List ℕ) → Shows (go a rest)) → Shows (pop operands go)
pop_shows [] go h = fails _
pop_shows (a ∷ rest) go h = h a rest

push_shows : (a : ℕ) (operands : List ℕ) (go : List ℕ → Stepped) → ((rest : List ℕ) → Shows (go rest)) → Shows (push a operands go)
push_shows a operands go h = when_shows _ _ _ (h _)

link_in_shows : (w : World) (o : Option Slot) (go : ℕ → Session → Stepped) → ((k : ℕ) (s : Session) → Shows (go k s)) → Shows (link_in w o go)
link_in_shows w (Some (Link k)) go h = need_shows _ _ _ (h k)
link_in_shows w _ go h = fails _

absent_shows : (entry : Option (List ℕ)) (a b : Stepped) → Shows a → Shows b → Shows (if_absent entry a b)
absent_shows None a b h k = h
absent_shows (Some bytes) a b h k = k

fill_shows : (w : World) (slot_id : SlotId) (o : Option Slot) (slot : Slot) (go : World → Stepped) → ((v : World) → Shows (go v)) → Shows
    (fill w slot_id o slot go)
fill_shows w slot_id (Some Empty) slot go h = h _
fill_shows w slot_id _ slot go h = fails _

bytes_in_shows : (w : World) (slot_id : SlotId) (o : Option Slot) (go : List ℕ → (List ℕ → World) → Stepped)
    → ((bytes : List ℕ) (put : List ℕ → World) → Shows (go bytes put)) → Shows (bytes_in w slot_id o go)
bytes_in_shows w slot_id (Some (Bytes form n bytes)) go h = h bytes _
bytes_in_shows w slot_id _ go h = fails _

pool_in_shows : (w : World) (slot_id : SlotId) (o : Option Slot) (go : ℕ → List (Option (List ℕ)) → (List (Option (List ℕ)) → World) → Stepped)
    → ((n : ℕ) (entries : List (Option (List ℕ))) (put : List (Option (List ℕ)) → World) → Shows (go n entries put)) → Shows (pool_in w slot_id o go)
pool_in_shows w slot_id (Some (Pool n entries)) go h = h n entries _
pool_in_shows w slot_id _ go h = fails _

settled_shows : (system : System) (x : ℕ) (w : World) → Shows (settled system x w)
settled_shows system x w =
    need_shows (slice_get w.leaves x) WrongKind _
    (λ leaf. when_shows (paid system (with_leaf w x (with_peaks w x leaf))) ExceededQuota _ (quiet _))

asked_shows : (d : Doing) (w : World) (slot_id : SlotId) (k : ℕ) (ask : Ask) → Shows (asked d w slot_id k ask)
asked_shows d w slot_id k ask = when_shows _ _ _ (quiet _)

-- STATEMENTS

instruct_shows : (d : Doing) (i : Instruction) → writes_line i ≡ false → Shows (instruct d i)
instruct_shows d (Say text) h = absurd (true≢false h)
instruct_shows d Out h = absurd (true≢false h)
instruct_shows d i h = search (
  need_shows,
  when_shows,
  pop_shows,
  push_shows,
  link_in_shows,
  absent_shows,
  fill_shows,
  bytes_in_shows,
  pool_in_shows,
  settled_shows,
  asked_shows,
  quiet,
) depth 14

-- SECTIONS

replied_shows : (d : Doing) (k : ℕ) (s : Session) (f : List ℕ → List ℕ) → Shows (replied d k s f)
replied_shows d k s f = quiet _

reply_shows : (d : Doing) (k : ℕ) (section : Section) (s : Session) → Shows (reply d k section s)
reply_shows d k Main s = fails _
reply_shows d k Opening s = when_shows _ _ _ (replied_shows d k s _)
reply_shows d k (Upgrading l) s = replied_shows d k s _
reply_shows d k (Calling l) s = pop_shows _ _ (λ a rest. replied_shows d k s _)
reply_shows d k (Closing l) s = when_shows (all_empty s.slots) WrongKind _ (when_shows (paid d.system (closed d k s)) ExceededQuota _ (quiet (closed d k s)))
reply_shows d k (Reacting i) s = fails _

main_shows : (d : Doing) (provides : Option (List ℕ)) (signals : ℕ) → Shows (main_ended d provides signals)
main_shows d None zero = when_shows _ _ _ (gives _ Finished tt)
main_shows d None (suc n) = quiet _
main_shows d (Some service) signals = quiet _

section_shows : (d : Doing) (current : Option Current) (reacting : Option ℕ) → Shows (section_ended d current reacting)
section_shows d None None = main_shows d d.component.node.provides d.component.node.signals
section_shows d None (Some i) = quiet _
section_shows d (Some current) reacting = need_shows _ _ _ (λ s. reply_shows d current.session current.section s)

ended_shows : (d : Doing) (loops : List Round) → Shows (body_ended d loops)
ended_shows d [] = section_shows d d.leaf.current d.leaf.reacting
ended_shows d (r ∷ loops) = quiet _

-- the next statement writes no line
abbrev pub IsNextSilent : Statements → Type 0
IsNextSilent (Do i rest) = writes_line i ≡ false
IsNextSilent _ = Unit {0}

perform_shows : (d : Doing) (todo : Statements) → IsNextSilent todo → Shows (perform d todo)
perform_shows d Done h = ended_shows d d.leaf.loops
perform_shows d (Do i rest) h = instruct_shows (record d { leaf = record d.leaf { todo = rest } }) i h
perform_shows d (If arm other rest) h = pop_shows _ _ (λ a below. quiet _)
perform_shows d (Loop n body rest) h = quiet _

accept_shows : (d : Doing) (r : Request) (rest : List Request) → Shows (accept d r rest)
accept_shows d r rest =
    need_shows (session_at d.world r.session) WrongKind _
    (λ old. when_shows (paid d.system (taken d r rest old)) ExceededQuota _
    (need_shows (section_in (section_taken d r old) d.component.node.program.sections) MissingSection _ (λ body. quiet (taken d r rest old))))

oldest_shows : (d : Doing) (o : Option (Request × List Request)) → Shows (accept_oldest d o)
oldest_shows d None = gives d.world Idle tt
oldest_shows d (Some p) = accept_shows d p.0 p.1

serve_shows : (d : Doing) (signal : Option (ℕ × List Signal)) → Shows (serve d signal)
serve_shows d None = oldest_shows d (oldest d.world d.x d.world.requests)
serve_shows d (Some p) = need_shows (section_in (Reacting p.0) d.component.node.program.sections) MissingSection _ (λ body. quiet _)

step_shows : (d : Doing) (phase : Phase) → ((phase ≡ Serving → ⊥) → IsNextSilent d.leaf.todo) → Shows (step_in d phase)
step_shows d Running h = perform_shows d d.leaf.todo (h (λ e. cc))
step_shows d Handling h = perform_shows d d.leaf.todo (h (λ e. cc))
step_shows d Serving h = serve_shows d (first_signal d.leaf.signals)
step_shows d Pending h = gives d.world Idle tt
step_shows d Blocked h = gives d.world Idle tt
step_shows d Exited h = gives d.world Idle tt

-- the step of a leaf that takes a signal or a request, or whose next statement writes no line
pub event_silent : (system : System) (w : World) (x : ℕ) (new : World) (e : Event)
    → ((leaf : Leaf) → slice_get w.leaves x ≡ Some leaf → (leaf.phase ≡ Serving → ⊥) → IsNextSilent leaf.todo)
    → next system w x ≡ Ok (new, e) → IsSilent e
event_silent system w x new e h q = (by (slice_get system.components x) (slice_get w.leaves x) refl).holds new e q
  where
    by : (c : Option Component) (l : Option Leaf) → slice_get w.leaves x ≡ l → Shows (step_of system w x c l)
    by (Some c) (Some leaf) stands =
        step_shows (record { system = system; world = w; x = x; component = c; leaf = record leaf { steps = suc leaf.steps } }) leaf.phase (h leaf stands)
    by (Some c) None stands = gives w Idle tt
    by None l stands = gives w Idle tt
