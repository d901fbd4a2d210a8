-- A leaf that takes a request.
use Rattle.std.proofs.Common.{◌≡◌, ◌<◌, ℕ, suc, inl, inr, true, false, cond, List, [], length, map, get_or, option_map, is_some, Option, Some, None}
use Rattle.std.proofs.Common.{refl, sym, ap, ◌∙◌, arith}
use Rattle.std.specs.Prelude.{Ok, Err, Result, Bool, IfSome, slice_get, slice_set}
use Rattle.std.proofs.lemmas.Bool.Decides.{eqb_tells}
use Rattle.std.proofs.lemmas.Option.{slice_get-map, get_or_from_slice_get}
use Rattle.gq_model.specs.declared.fault.Wrong.{Wrong}
use Rattle.gq_model.specs.declared.fault.Wrong.TheVariants.{ExceededQuota, MissingSection}
use Rattle.gq_model.specs.declared.phase.Phase.TheVariants as phase
use Rattle.gq_model.specs.declared.section.Section.{Section}
use Rattle.gq_model.specs.declared.section.Section.TheVariants.{Upgrading}
use Rattle.gq_model.specs.machine.Doing.{Doing, Idle, Quiet, standing}
use Rattle.gq_model.specs.machine.Program.{body_of, section_in}
use Rattle.gq_model.specs.machine.Scenario.{Interface, Scenario, System, Component, components, interface_in, number_of, system}
use Rattle.gq_model.specs.machine.Step.{accept_oldest, accepted_as, beginning, first_operands, first_signal, next, oldest, section_asked, section_for}
use Rattle.gq_model.specs.machine.Step.{serve, step_in}
use Rattle.gq_model.specs.machine.World as world
use Rattle.gq_model.specs.texts.Code.{IsProgram}
use Rattle.gq_model.proofs.Small_facts.{some_same}
use Rattle.gq_laws.specs.Session_links.{outline, outline_in}
use Rattle.gq_program.specs.Interfaces.{are_interfaces}
use Rattle.gq_prepared.specs.Prepared.{names_of}
use Rattle.gq_prepared.proofs.Interfaces_by_name.{entry_at, own_entry}
use Rattle.gq_statements.proofs.linked.Stored_world_links.{session_is}
use Rattle.gq_trade.specs.Numbers.{IsTaken}
use Rattle.gq_trade.specs.declared.requests.Ask.TheVariants.{Upgrade}
use Rattle.gq_trade.specs.declared.requests.Request.{Request}
use Rattle.gq_trade.specs.Queues.{IsOldest, oldest_to}
use Rattle.gq_trade.specs.Seen_requests.{ask_seen, request_seen}
use Rattle.gq_trade.specs.Trading.{object_size, server_of, session_at}
use Rattle.gq_slots.specs.Session_calls.{TakesOldest}
use Rattle.gq_slots.specs.Slots.{AreSound, Frame, Slots, memory_of, world_seen}
use Rattle.gq_statements.specs.Systems.{AreLawful, IsOf, stage_in}
use Rattle.gq_statements.specs.Serving.{AreSections, Begins, HaveObjects, begun_leaf, taken}
use Rattle.gq_statements.specs.internal.Beginning.{can_pay}
use Rattle.gq_statements.proofs.Oldest_request_outcomes.{from_some, without}
use Rattle.gq_statements.proofs.Taken_request_world.{none_taken}
use Rattle.gq_leaf.specs.Coded.{Coded, IsStanding}
use Rattle.gq_leaf.proofs.Section_start_exit.{begins as begins_in}
use Rattle.gq_leaf.proofs.Leaf_stance_worlds.{first, next_in, phase_is, shape}
use Rattle.gq_machine.specs.Machine_world.{frame_of, world_of}
use Rattle.gq_machine.specs.declared.machine_state.Fixed.{Fixed}
use Rattle.gq_machine.specs.declared.machine_state.MachineState.{MachineState}
use Rattle.gq_machine.specs.internal.Machine_invariant.{Holds}
use Rattle.gq_machine.specs.internal.Taken_requests.{begun_for}
use Rattle.gq_machine.proofs.Machine_leaf_frames.{elsewhere, leaf_at, leaf_else, leaf_set}
use Rattle.gq_machine.proofs.Slot_system_kept.{of_kept, scene_self}
use Rattle.gq_machine.proofs.Program_section_limit.{no_fourth}
use Rattle.gq_machine.proofs.Stepping_leaf_facts.{service_count, standing as stands}

-- SECTIONS AND LEVELS

section_same : (sys : System) (a : world.Ask) (q : world.Session) → section_for a (accepted_as sys a q).level ≡ section_asked a q.level
section_same sys world.Ask_open q = refl
section_same sys world.Ask_upgrade q = refl
section_same sys world.Ask_close q = refl
section_same sys (world.Ask_call value) q = refl

-- the level of a session in the machine's world is the one that is stored
level_seen : (f : Frame) (t : Slots) (k : ℕ) (q : world.Session) → world.session_at (world_seen f t) k ≡ Some q
    → q.level ≡ (session_at t.trades.trading k).level
level_seen f t k q e = ap (λ (z : world.Session). z.level) (session_is f t k (outline q) (ap outline_in e)).1

-- the objects of services are those of their interfaces
pub objects_are : (s : Scenario) (f : Frame) (t : Slots) → are_interfaces s.interfaces ≡ true → f.names ≡ names_of s
    → t.trades.trading.objects ≡ map (λ (e : List ℕ × Interface). e.1.object) s.interfaces → length t.trades.trading.objects ≡ length s.interfaces
    → HaveObjects (system s) f t
objects_are s f t order names objects count i less =
    let d = entry_at s.interfaces i (omega (arith, less, count)) in
    ap (λ l. get_or l i 0) objects
    ∙ (get_or_from_slice_get (map (λ (e : List ℕ × Interface). e.1.object) s.interfaces) i d.0.1.object 0
    (slice_get-map (λ (e : List ℕ × Interface). e.1.object) s.interfaces i ∙ ap (option_map (λ (e : List ℕ × Interface). e.1.object)) d.1)
    ∙ (ap (λ o. number_of o (λ n. n.object)) (sym (own_entry s.interfaces order i d.0 d.1))
    ∙ ap (λ (ns : List (List ℕ)). number_of (interface_in (get_or ns i []) s.interfaces) (λ n. n.object)) (sym names)))

same_oldest : (o : Option (Request × List Request)) (p r : Request) (a b : List Request) → o ≡ Some (p, a) → o ≡ Some (r, b) → p ≡ r
same_oldest o p r a b e g = ap (λ (y : Request × List Request). y.0) (some_same (sym e ∙ g))

module _ (f : Fixed) (m : MachineState) (h : Holds f m) (l : AreLawful m.slots) (x : ℕ) (c : Component) (old : Coded)
    (ec : slice_get (components f.table) x ≡ Some c)
    (el : slice_get m.leaves.items x ≡ Some old) (serves : old.state.phase ≡ phase.Serving) (no_signal : first_signal old.state.signals ≡ None) where
  abbrev s : Scenario
  s = f.table

  abbrev t : Slots
  t = m.slots

  abbrev pub now : Frame
  now = frame_of s m.leaves.items

  pub here : IsStanding (system s) now t x c old f.services.buffers
  here = stands f m h l x c old ec el

  -- the step, once it is counted
  abbrev pub it : Doing
  it = first (system s) now t x c old.state f.services.buffers l here.stands

  pub next_is : next (system s) (world_of s m.leaves.items t) x ≡ accept_oldest it (oldest it.world it.x it.world.requests)
  next_is =
      next_in (system s) now t x c old.state f.services.buffers l here.stands
      ∙ ap (step_in it) (phase_is (system s) now t x c old.state f.services.buffers l here.stands ∙ serves)
      ∙ ap (serve it) (ap (λ (y : world.Leaf). first_signal y.signals) (shape (system s) now t x c old.state f.services.buffers l here.stands) ∙ no_signal)

  abbrev pub level_of : world.Request → ℕ
  level_of r = (session_at t.trades.trading r.session).level

  -- the leaf at the start of the section for a request, and the frame in which it is
  abbrev pub begun_at : world.Request → Coded
  begun_at r = begun_for old r (level_of r)

  abbrev pub after : world.Request → Frame
  after r = frame_of s (slice_set m.leaves.items x (begun_at r))

  of_after : (r : world.Request) → IsOf (system s) (after r) t
  of_after r = of_kept (system s) now (after r) t t l l (scene_self t) same h.of
    where
      same : (y : ℕ) → y < length t.own → stage_in ((after r).leaf y).phase ≡ stage_in (now.leaf y).phase
      same y less = elim (eqb_tells y x) [
        | inl u ↦ ap (λ z. stage_in ((after r).leaf z).phase) u.1
            ∙ ap (λ (b : world.Leaf). stage_in b.phase) (leaf_set s m.leaves.items x c old (begun_at r) ec el)
            ∙ sym (ap stage_in serves)
            ∙ sym (ap (λ (b : world.Leaf). stage_in b.phase) (leaf_at s m.leaves.items x c old ec el))
            ∙ sym (ap (λ z. stage_in (now.leaf z).phase) u.1)
        | inr u ↦ ap (λ (b : world.Leaf). stage_in b.phase) (leaf_else s m.leaves.items x y (begun_at r) u.1)
      ]

  stands_after : (r : world.Request) (q : world.Session) → world.session_at (world_seen now t) r.session ≡ Some q
      → standing it (begun_leaf it r q) ≡ world_seen (after r) t
  stands_after r q at =
      let section : section_for r.ask (accepted_as (system s) r.ask q).level ≡ section_asked r.ask (level_of r) =
      section_same (system s) r.ask q ∙ ap (section_asked r.ask) (level_seen now t r.session q at) in
      ap (λ (y : Section). standing it (beginning it.leaf (record { session = r.session; section = y }) (first_operands r.ask)
      (body_of (section_in y c.node.program.sections)))) section
      ∙ begins_in (system s) now t x c old f.services.buffers l here (after r) (record { session = r.session; section = section_asked r.ask (level_of r) })
      (first_operands r.ask) (elsewhere s m.leaves.items x (begun_at r)) (leaf_set s m.leaves.items x c old (begun_at r) ec el)

  pub begins : are_interfaces s.interfaces ≡ true → Begins it after t
  begins order r rest q taken at =
      record {
        stands = stands_after r q at;
        of = of_after r;
        objects = objects_are s (after r) t order refl h.nodes.objects (service_count f m h l);
      }

  -- none waits
  pub none_waits : oldest_to x t.trades.trading.requests ≡ None → next (system s) (world_of s m.leaves.items t) x ≡ Ok (world_of s m.leaves.items t, Idle)
  none_waits none = next_is ∙ none_taken it now t x refl refl l.trading none

  -- a session of the greatest level is to have one more
  pub beyond : are_interfaces s.interfaces ≡ true → IsProgram c.node.program → AreSound t.trades.trading → (r : Request) (others : List Request)
      → oldest_to x t.trades.trading.requests ≡ Some (r, others) → IsTaken t.trades.trading.sessions r.session → server_of t.trades.trading r.session ≡ x
      → r.ask ≡ Upgrade → (session_at t.trades.trading r.session).level ≡ 3 → next (system s) (world_of s m.leaves.items t) x ≡ Err MissingSection
  beyond order program sound r others is there server ask level =
      let n = object_size t.trades.trading r.session in
      let none : is_some (section_in (section_asked (ask_seen r.ask) (session_at t.trades.trading r.session).level) c.node.program.sections) ≡ false =
      ap (λ a. is_some (section_in (section_asked (ask_seen a) (session_at t.trades.trading r.session).level) c.node.program.sections)) ask
      ∙ (ap (λ k. is_some (section_in (Upgrading (suc k)) c.node.program.sections)) level ∙ no_fourth c.node.program program) in
      next_is
      ∙ without it now t x refl refl l sound r others is there after (begins order) n MissingSection none server refl
      (sym (ap (λ a. cond (can_pay a n (memory_of t x)) MissingSection ExceededQuota) ask))

  -- what the slots make of the oldest request is the step
  pub led : (sections : List Bool) (u : Slots) (result outcome : Result (Option Request) Wrong) → are_interfaces s.interfaces ≡ true
      → IfSome (slice_get (components s) x) (λ d. AreSections sections d)
      → ((e : Frame) (g : world.Request → Frame) (d : Doing) → d.x ≡ x → d.world ≡ world_seen e t → AreSections sections d.component → Begins d g t
      → accept_oldest d (oldest d.world d.x d.world.requests) ≡ taken d g u result) → result ≡ outcome
      → next (system s) (world_of s m.leaves.items t) x ≡ taken it after u outcome
  led sections u result outcome order reported accepts is =
      let its = from_some (λ (d : Component). AreSections sections d) (slice_get (components s) x) c ec reported in
      next_is ∙ (accepts now after it refl refl its (begins order) ∙ ap (taken it after u) is)

  -- this request is taken
  pub goes : (u : Slots) (p r : Request) (level : ℕ) (new : Coded) → TakesOldest t u x p → IsOldest x t.trades.trading.requests r
      → level ≡ (session_at t.trades.trading r.session).level → new ≡ begun_for old (request_seen r) level
      → next (system s) (world_of s m.leaves.items t) x ≡ Ok (world_seen (after (request_seen p)) u, Quiet)
      → next (system s) (world_of s m.leaves.items t) x ≡ Ok (world_of s (slice_set m.leaves.items x new) u, Quiet)
  goes u p r level new takes first low is leads =
      let same : p ≡ r = same_oldest (oldest_to x t.trades.trading.requests) p r u.trades.trading.requests first.rest takes.accepts.oldest first.is in
      let begun : new ≡ begun_at (request_seen p) =
      is ∙ (ap (begun_for old (request_seen r)) low ∙ ap (λ (y : Request). begun_at (request_seen y)) (sym same)) in
      leads ∙ ap (λ (b : Coded). Ok (world_of s (slice_set m.leaves.items x b) u, Quiet)) (sym begun)
