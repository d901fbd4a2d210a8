-- At the start and after each step, who waits for the reply to a call has room for it.
use Rattle.std.proofs.Common.{◌≡◌, ◌≢◌, ℕ, suc, ◌≤◌, nat_lt, Bool, true, false, cond, List, [], ◌∷◌, length, Option, Some, None, Ok, refl, ap, sym, ◌∙◌}
use Rattle.std.proofs.Common.{subst, zero}
use Rattle.std.proofs.Common.{arith}
use Rattle.std.specs.Prelude.{slice_get}
use Rattle.gq_model.specs.declared.section.Section.{Section}
use Rattle.gq_model.specs.declared.section.Section.TheVariants.{Opening, Upgrading, Calling, Closing, Reacting}
use Rattle.gq_model.specs.declared.fault.Wrong.TheVariants.{WrongKind, MissingSection}
use Rattle.gq_model.specs.declared.phase.Phase.{Phase}
use Rattle.gq_model.specs.declared.phase.Phase.TheVariants.{Pending, Running, Blocked, Serving, Handling, Exited}
use Rattle.gq_model.specs.machine.Program.{Statements, Done, Do, If, Loop, section_in}
use Rattle.gq_model.specs.machine.Scenario.{System, Component}
use Rattle.gq_model.specs.machine.World.{Session, Ask, Ask_open, Ask_upgrade, Ask_close, Ask_call, Request, Current, Round, Leaf, World, start, session_at}
use Rattle.gq_model.specs.machine.World.{Signal}
use Rattle.gq_model.specs.machine.Doing.{Doing, Event, Quiet, Finished, standing}
use Rattle.gq_model.specs.machine.Step.{oldest, section_for, first_operands, accepted_as, serving, no_link, exited, exit_of, main_ended, section_ended, serve}
use Rattle.gq_model.specs.machine.Step.{first_signal}
use Rattle.gq_model.specs.machine.Step.{body_ended, perform, accept, accept_oldest, step_in, step_of, next}
use Rattle.gq_model.proofs.Small_facts.{some_same, none_some}
use Rattle.gq_laws.specs.Session_links.{stance, Fits, IsLinkedWorld}
use Rattle.gq_laws.specs.Inside_steps.{TakesLeaf}
use Rattle.gq_laws.proofs.session_links.Linked_after_accept.{Found, oldest_found}
use Rattle.gq_laws.proofs.session_links.Linked_after_change.{handling_with}
use Rattle.gq_laws.proofs.session_links.Link_free_statements.{stood}
use Rattle.gq_laws.proofs.step_shapes.Step_end_shapes.{Ends, gives, need_found, when_ends, need_ends}
use Rattle.gq_laws.proofs.step_shapes.Step_change_shapes.{accept_by}
use Rattle.gq_laws.proofs.step_shapes.Step_end_worlds.{begun, taken, running_blocked, handling_blocked, serving_blocked}
use Rattle.gq_laws.specs.Room.{HasRoomFor, HasRoomIfCalled, HasRoomAsked, calling, IsRoomy}
use Rattle.gq_laws.proofs.room.Operand_holders_write.{Held, held, held_in, client_in, released_held, start_held}
use Rattle.gq_laws.proofs.room.Step_room_frame.{Goes, goes_leaf, goes_session, goes_requests}
use Rattle.gq_laws.proofs.room.Unblocked_step_room.{kept_asked, goes_roomy}
use Rattle.gq_laws.proofs.room.Reply_keeps_room.{reply_ends}
use Rattle.gq_laws.proofs.room.Steps_keep_room.{pop_few, no_more, stands, calm_roomy, instruct_ends}

-- before its step a leaf holds what it holds in the world
goes_start : (d : Doing) (t : TakesLeaf d) → IsRoomy d.world → Goes d.world d.x 16 d.leaf.current d.world.requests d.world
goes_start d t roomy =
    record {
      own = λ h e. subst (λ (h : Held). (length h.operands ≤ 16) × (h.current ≡ d.leaf.current)) (some_same (sym (ap held_in t.there) ∙ e))
          (roomy.small d.x t.old t.there, sym t.current);
      others = λ y ne. refl;
      clients = λ k s e. ap client_in e;
      requests = refl;
    }

-- THE END OF A SECTION

module _ (d : Doing) (t : TakesLeaf d) (active : d.leaf.phase ≢ Blocked) (h : IsLinkedWorld d.system d.world) (roomy : IsRoomy d.world)
    (few : length d.leaf.operands ≤ 16) where
  start_at : Goes d.world d.x 16 d.leaf.current d.world.requests d.world
  start_at = goes_start d t roomy

  calm : (w : World) → Goes d.world d.x 16 d.leaf.current d.world.requests w → IsRoomy w
  calm w g = calm_roomy d t active h roomy few start_at w g

  -- the leaf stands there with at most 16 operands
  stands_roomy : (leaf : Leaf) → length leaf.operands ≤ 16 → leaf.current ≡ d.leaf.current → IsRoomy (standing d leaf)
  stands_roomy leaf less same = calm (standing d leaf) (stands d few start_at leaf less same)

  exit_roomy : IsRoomy (exit_of d)
  exit_roomy =
      let w = standing d (exited d.leaf) in
      let g = stands d few start_at (exited d.leaf) (omega arith) refl in
      let same : (y : ℕ) → held_in (slice_get (exit_of d).leaves y) ≡ held_in (slice_get w.leaves y) =
      released_held d.component.node.name d.system.components w.leaves in
      calm (exit_of d) (record {
        own = λ u e. g.own u (sym (same d.x) ∙ e);
        others = λ y ne. same y ∙ g.others y ne;
        clients = g.clients;
        requests = g.requests;
      })

  main_ends : d.leaf.current ≡ None → (provides : Option (List ℕ)) (signals : ℕ) → Ends IsRoomy (main_ended d provides signals)
  main_ends free (Some service) signals = gives _ Quiet (stands_roomy (serving d.leaf) (omega arith) (sym free))
  main_ends free None (suc n) = gives _ Quiet (stands_roomy (serving d.leaf) (omega arith) (sym free))
  main_ends free None zero = when_ends IsRoomy (no_link d.leaf.slots) WrongKind _ (gives (exit_of d) Finished exit_roomy)

  section_ends : (current : Option Current) (reacting : Option ℕ) → d.leaf.current ≡ current → Ends IsRoomy (section_ended d current reacting)
  section_ends None None e = main_ends e d.component.node.provides d.component.node.signals
  section_ends None (Some i) e = gives _ Quiet (stands_roomy (serving d.leaf) (omega arith) (sym e))
  section_ends (Some g) reacting e = need_found IsRoomy (session_at d.world g.session) WrongKind _
      (λ s there. reply_ends d t h roomy start_at (handling_with d.leaf.phase g
      (subst (Fits d.leaf.phase) e (h.fits d.x (stance d.leaf.phase d.leaf.current) (stood d t))) active) g e s there g.section refl)

  body_ends : (loops : List Round) → Ends IsRoomy (body_ended d loops)
  body_ends [] = section_ends d.leaf.current d.leaf.reacting refl
  body_ends (r ∷ loops) = by_round (nat_lt (suc r.round) r.count)
    where
      by_round : (b : Bool) → Ends IsRoomy (Ok (
        standing d (cond b (record d.leaf { todo = r.body; loops = record r { round = suc r.round } ∷ loops })
            (record d.leaf { todo = r.rest; loops = loops })),
        Quiet,
      ))
      by_round true = gives _ Quiet (stands_roomy _ few refl)
      by_round false = gives _ Quiet (stands_roomy _ few refl)

-- ACCEPTANCE

module _ (d : Doing) (t : TakesLeaf d) (serves : d.leaf.phase ≡ Serving) (h : IsLinkedWorld d.system d.world) (roomy : IsRoomy d.world) where
  active : d.leaf.phase ≢ Blocked
  active e = serving_blocked (sym serves ∙ e)

  abbrev at_current : ℕ → Section → Current
  at_current k section = record { session = k; section = section }

  -- what is current for a call is a call that was asked
  called : (ask : Ask) (k j l level : ℕ) (w : World) → HasRoomIfCalled w k ask → Some (at_current k (section_for ask l)) ≡ Some (calling j level)
      → HasRoomFor w j
  called Ask_open k j l level w room e = absurd (opening_calling (ap (λ (g : Current). g.section) (some_same e)))
    where
      opening_calling : Opening ≢ Calling level
      opening_calling e = cc
  called Ask_upgrade k j l level w room e = absurd (upgrading_calling (ap (λ (g : Current). g.section) (some_same e)))
    where
      upgrading_calling : Upgrading l ≢ Calling level
      upgrading_calling e = cc
  called Ask_close k j l level w room e = absurd (closing_calling (ap (λ (g : Current). g.section) (some_same e)))
    where
      closing_calling : Closing l ≢ Calling level
      closing_calling e = cc
  called (Ask_call value) k j l level w room e = subst (HasRoomFor w) (ap (λ (g : Current). g.session) (some_same e)) room

  first_few : (ask : Ask) → length (first_operands ask) ≤ 16
  first_few Ask_open = omega arith
  first_few Ask_upgrade = omega arith
  first_few Ask_close = omega arith
  first_few (Ask_call value) = omega arith

  same_client : (ask : Ask) (s : Session) → (accepted_as d.system ask s).client ≡ s.client
  same_client Ask_open s = refl
  same_client Ask_upgrade s = refl
  same_client Ask_close s = refl
  same_client (Ask_call value) s = refl

  module _ (r : Request) (rest : List Request) (found : oldest d.world d.x d.world.requests ≡ Some (r, rest)) (old : Session)
      (there : session_at d.world r.session ≡ Some old) where
    taken_goes : Goes d.world d.x 16 (begun d r old).current rest (taken d r rest old)
    taken_goes =
        goes_session d.world d.x 16 (begun d r old).current rest (record (standing d (begun d r old)) { requests = rest }) r.session old
        (accepted_as d.system r.ask old) there (same_client r.ask old)
        (goes_requests d.world d.x 16 (begun d r old).current d.world.requests (standing d (begun d r old)) rest
        (goes_leaf d.world d.x 16 d.leaf.current d.world.requests d.world (begun d r old) 16 (begun d r old).current (first_few r.ask) refl
        (goes_start d t roomy)))

    abbrev was : World
    was = d.world

    -- the request was one of those that wait, and the others are left
    found_in : (P : Request → Type 0) → Found P was d.x was.requests (r, rest)
    found_in P = oldest_found P was d.x was.requests (r, rest) found

    taken_roomy : IsRoomy (taken d r rest old)
    taken_roomy =
        let new = taken d r rest old in
        let current = (begun d r old).current in
        goes_roomy d.system was h roomy d.x d.leaf.phase d.leaf.current (stood d t) active 16 current rest new taken_goes (omega arith)
        ((found_in (HasRoomAsked new)).left
        (kept_asked d.system was h roomy d.x d.leaf.phase d.leaf.current (stood d t) active 16 current rest new taken_goes))
        (λ j level at. called r.ask r.session j (accepted_as d.system r.ask old).level level new
        ((found_in (HasRoomAsked new)).first
        (kept_asked d.system was h roomy d.x d.leaf.phase d.leaf.current (stood d t) active 16 current rest new taken_goes)) at)

  accept_ends : (r : Request) (rest : List Request) → oldest d.world d.x d.world.requests ≡ Some (r, rest) → Ends IsRoomy (accept d r rest)
  accept_ends r rest e = accept_by IsRoomy d r rest (λ old there. taken_roomy r rest e old there)

  oldest_ends : (found : Option (Request × List Request)) → oldest d.world d.x d.world.requests ≡ found → Ends IsRoomy (accept_oldest d found)
  oldest_ends None e = gives _ _ roomy
  oldest_ends (Some p) e = accept_ends p.0 p.1 e

-- STEPS

module _ (d : Doing) (t : TakesLeaf d) (h : IsLinkedWorld d.system d.world) (roomy : IsRoomy d.world) (few : length d.leaf.operands ≤ 16) where
  perform_ends : d.leaf.phase ≢ Blocked → (todo : Statements) → Ends IsRoomy (perform d todo)
  perform_ends active Done = body_ends d t active h roomy few d.leaf.loops
  perform_ends active (Do i rest) =
      let e : Doing = record d { leaf = record d.leaf { todo = rest } } in
      let u : TakesLeaf e = record { old = t.old; there = t.there; slots = t.slots; phase = t.phase; current = t.current; reacting = t.reacting } in
      instruct_ends e u active h roomy few (goes_start e u roomy) i
  perform_ends active (If arm other rest) = pop_few IsRoomy _ _ few (λ a below less.
      gives _ Quiet (stands_roomy d t active h roomy few _ (no_more below less) refl))
  perform_ends active (Loop count body rest) = gives _ Quiet (stands_roomy d t active h roomy few _ few refl)

  serve_ends : d.leaf.phase ≡ Serving → (found : Option (ℕ × List Signal)) → Ends IsRoomy (serve d found)
  serve_ends serves None = oldest_ends d t serves h roomy (oldest d.world d.x d.world.requests) refl
  serve_ends serves (Some p) = need_ends IsRoomy (section_in (Reacting p.0) d.component.node.program.sections) MissingSection _
      (λ body. gives _ Quiet (stands_roomy d t (λ b. serving_blocked (sym serves ∙ b)) h roomy few _ (omega arith) refl))

  step_ends : (phase : Phase) → d.leaf.phase ≡ phase → Ends IsRoomy (step_in d phase)
  step_ends Pending e = gives _ _ roomy
  step_ends Running e = perform_ends (λ b. running_blocked (sym e ∙ b)) d.leaf.todo
  step_ends Blocked e = gives _ _ roomy
  step_ends Serving e = serve_ends e (first_signal d.leaf.signals)
  step_ends Handling e = perform_ends (λ b. handling_blocked (sym e ∙ b)) d.leaf.todo
  step_ends Exited e = gives _ _ roomy

next_by : (system : System) (w : World) (x : ℕ) (c : Option Component) (leaf : Option Leaf) → IsLinkedWorld system w → IsRoomy w
    → slice_get w.leaves x ≡ leaf → Ends IsRoomy (step_of system w x c leaf)
next_by system w x (Some c) (Some leaf) h roomy there =
    step_ends (record { system = system; world = w; x = x; component = c; leaf = record leaf { steps = suc leaf.steps } })
    (record { old = leaf; there = there; slots = refl; phase = refl; current = refl; reacting = refl }) h roomy (roomy.small x leaf there) leaf.phase refl
next_by system w x (Some c) None h roomy there = gives _ _ roomy
next_by system w x None leaf h roomy there = gives _ _ roomy

pub kept_roomy : (system : System) (w : World) (x : ℕ) (new : World) (event : Event) → IsLinkedWorld system w → IsRoomy w
    → next system w x ≡ Ok (new, event) → IsRoomy new
kept_roomy system w x new event h roomy stepped =
    (next_by system w x (slice_get system.components x) (slice_get w.leaves x) h roomy refl).holds new event stepped

-- THE START

pub start_roomy : (system : System) → IsRoomy (start system)
start_roomy system =
    record {
      small = λ x leaf there. (let none = start_held system.components x (held leaf) (ap held_in there) in
          subst (λ (h : Held). length h.operands ≤ 16) none (omega arith));
      asked = tt;
      handled = λ x leaf k level there at. (let none = start_held system.components x (held leaf) (ap held_in there) in
          absurd (none_some (ap (λ (h : Held). h.current) none ∙ at)));
    }
