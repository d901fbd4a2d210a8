-- What is handed to each leaf stays, but for a leaf that exits and the one that starts after it.
use Rattle.std.proofs.Common.{◌≡◌, ◌≢◌, ℕ, zero, suc, inl, inr, Bool, true, false, cond, nat_lt, List, [], ◌∷◌, Option, Some, None, Ok, refl, ap, sym, ◌∙◌}
use Rattle.std.proofs.Common.{subst, arith}
use Rattle.std.specs.Prelude.{slice_get, slice_set}
use Rattle.std.proofs.lemmas.Bool.Decides.{eqb_tells}
use Rattle.gq_model.specs.machine.Program.{Statements, Done, Do, If, Loop, section_in}
use Rattle.gq_model.specs.declared.program.Instruction.{Instruction}
use Rattle.gq_model.specs.declared.section.Section.{Section}
use Rattle.gq_model.specs.declared.section.Section.TheVariants.{Main, Opening, Upgrading, Calling, Closing, Reacting}
use Rattle.gq_model.specs.declared.phase.Phase.{Phase}
use Rattle.gq_model.specs.declared.phase.Phase.TheVariants.{Pending, Running, Blocked, Serving, Handling, Exited}
use Rattle.gq_model.specs.declared.fault.Wrong.TheVariants.{WrongKind, ExceededQuota, MissingSection}
use Rattle.gq_model.specs.machine.Amounts.{Resource, Ram, Caps}
use Rattle.gq_model.specs.machine.Scenario.{System, Component, Scenario, components, system}
use Rattle.gq_model.specs.machine.World.{Slot, Empty, Link, SlotId, Session, Request, Current, Round, Leaf, Signal}
use Rattle.gq_model.specs.machine.World.{World, session_at, with_leaf, with_slot, start}
use Rattle.gq_model.specs.machine.Doing.{Doing, Event, Idle, Quiet, Finished, Stepped, standing, settled}
use Rattle.gq_model.specs.machine.Sums.{handed, paid, with_peaks}
use Rattle.gq_model.specs.machine.Accounts.{handed_to}
use Rattle.gq_model.specs.rules.Resolve.{quanta_fault, offer_fault, after_fault, unresolved}
use Rattle.gq_model.specs.machine.Step.{instruct, oldest, all_empty, accept, serving, resumed, active_again, unblocked, replied, reply_close, reply, exit_of}
use Rattle.gq_model.specs.machine.Step.{serve, first_signal, reacting_to}
use Rattle.gq_model.specs.machine.Step.{no_link, main_ended, section_ended, body_ended, perform, accept_oldest, step_in, step_of, next}
use Rattle.gq_laws.specs.Session_links.{links, Stance, stance, stance_in, outline, outline_in, Fits, AreLinked, IsLinkedWorld}
use Rattle.gq_laws.specs.Resolved_scenarios.{IsResolved}
use Rattle.gq_laws.proofs.step_shapes.Step_end_shapes.{Ends, gives, fails, need_found, when_ends, pop_ends, need_ends}
use Rattle.gq_laws.proofs.session_links.Written_world_links.{set_here, set_else}
use Rattle.gq_laws.proofs.session_links.Link_free_statements.{stood}
use Rattle.gq_laws.specs.Inside_steps.{TakesLeaf}
use Rattle.gq_laws.proofs.session_links.Linked_after_reply.{leaf_of_stance, handled_waits}
use Rattle.gq_laws.proofs.step_shapes.Step_end_worlds.{closed, running_blocked, handling_blocked, begun}
use Rattle.gq_laws.proofs.quota_payment.Init_quanta_bounded.{fit_less, spent_same, exit_fits, start_fit}
use Rattle.gq_laws.specs.internal.Init_quanta.{Fit}
use Rattle.gq_model.proofs.Small_facts.{some_none, or_first_none}
use Rattle.gq_laws.proofs.step_shapes.Step_change_shapes.{plain_instruct_by, accept_by, slot_by}
use Rattle.gq_laws.proofs.session_links.Linked_after_change.{handling_with}

set_nowhere : {A : Type 0} (items : List A) (i : ℕ) (a : A) → slice_get items i ≡ None → slice_get (slice_set items i a) i ≡ None
set_nowhere [] i a e = refl
set_nowhere (b ∷ rest) zero a e = absurd (some_none e)
set_nowhere (b ∷ rest) (suc i) a e = set_nowhere rest i a e

-- as much is handed to each leaf as in the first of two worlds
abbrev SameHanded : World → World → Type 0
SameHanded w v = (y q : ℕ) → handed_to (slice_get v.leaves y) q ≡ handed_to (slice_get w.leaves y) q

module _ (w : World) where
  abbrev H : World → Type 0
  H = SameHanded w

  same_leaf : (v : World) (x : ℕ) (leaf : Leaf) → ((q : ℕ) → handed leaf.phase q ≡ handed_to (slice_get w.leaves x) q) → H v → H (with_leaf v x leaf)
  same_leaf v x leaf as_much h y q = elim (eqb_tells y x) [
    | inl e ↦ here e.1 (slice_get v.leaves x) refl
    | inr e ↦ ap (λ o. handed_to o q) (set_else v.leaves x y leaf e.1) ∙ h y q
  ]
    where
      here : y ≡ x → (o : Option Leaf) → slice_get v.leaves x ≡ o → handed_to (slice_get (slice_set v.leaves x leaf) y) q ≡ handed_to (slice_get w.leaves y) q
      here e None at =
          ap (λ y. handed_to (slice_get (slice_set v.leaves x leaf) y) q) e
          ∙ (ap (λ o. handed_to o q) (set_nowhere v.leaves x leaf at)
          ∙ (sym (ap (λ o. handed_to o q) at) ∙ (h x q ∙ ap (λ y. handed_to (slice_get w.leaves y) q) (sym e))))
      here e (Some old) at =
          ap (λ y. handed_to (slice_get (slice_set v.leaves x leaf) y) q) e
          ∙ (ap (λ o. handed_to o q) (set_here v.leaves x leaf old at) ∙ (as_much q ∙ ap (λ y. handed_to (slice_get w.leaves y) q) (sym e)))

  -- a leaf whose phase stays
  same_phase_leaf : (v : World) (x : ℕ) (old leaf : Leaf) → slice_get v.leaves x ≡ Some old → leaf.phase ≡ old.phase → H v → H (with_leaf v x leaf)
  same_phase_leaf v x old leaf there phase h = same_leaf v x leaf (λ q. ap (λ p. handed p q) phase ∙ (sym (ap (λ o. handed_to o q) there) ∙ h x q)) h

  same_slot : (v : World) (slot_id : SlotId) (slot : Slot) → H v → H (with_slot v slot_id slot)
  same_slot = slot_by H (λ v x leaf slots e h. same_phase_leaf v x leaf (record leaf { slots = slots }) e refl h) (λ v sessions h. h)

  same_settled : (system : System) (x : ℕ) (v : World) → H v → Ends H (settled system x v)
  same_settled system x v h =
      need_found H (slice_get v.leaves x) WrongKind _ (λ leaf there.
      when_ends H (paid system (with_leaf v x (with_peaks v x leaf))) ExceededQuota (Ok (with_leaf v x (with_peaks v x leaf), Quiet))
      (gives (with_leaf v x (with_peaks v x leaf)) Quiet (same_phase_leaf v x leaf (with_peaks v x leaf) there refl h)))

-- a step of a leaf to which its whole quantum is handed
module _ (d : Doing) (t : TakesLeaf d) (lives : (q : ℕ) → handed d.leaf.phase q ≡ q) where
  abbrev P : World → Type 0
  P = SameHanded d.world

  unchanged : P d.world
  unchanged y q = refl

  its_own : (q : ℕ) → handed_to (slice_get d.world.leaves d.x) q ≡ q
  its_own q = ap (λ o. handed_to o q) t.there ∙ ap (λ p. handed p q) (sym t.phase) ∙ lives q

  stands_in : (v : World) (leaf : Leaf) → ((q : ℕ) → handed leaf.phase q ≡ q) → P v → P (with_leaf v d.x leaf)
  stands_in v leaf alive h = same_leaf d.world v d.x leaf (λ q. alive q ∙ sym (its_own q)) h

  stands : (leaf : Leaf) → leaf.phase ≡ d.leaf.phase → P (standing d leaf)
  stands leaf phase = stands_in d.world leaf (λ q. ap (λ p. handed p q) phase ∙ lives q) unchanged

  instruct_ends : (i : Instruction) → Ends P (instruct d i)
  instruct_ends i = plain_instruct_by d P P unchanged (same_slot d.world) (same_slot d.world) (λ v operands locals same h. stands_in v _ lives h)
      (λ v operands h. stands_in v _ (λ q. refl) h) (λ v requests h. h) (same_settled d.world d.system d.x) (λ v sessions h. h) i

  serves : P (standing d (serving d.leaf))
  serves = stands_in d.world (serving d.leaf) (λ q. refl) unchanged

  resumed_alive : (current : Option Current) (reacting : Option ℕ) (q : ℕ) → handed (resumed current reacting) q ≡ q
  resumed_alive None None q = refl
  resumed_alive None (Some i) q = refl
  resumed_alive (Some g) reacting q = refl

  -- a client that was blocked goes on
  resumes : (v : World) (x : ℕ) (f : List ℕ → List ℕ) → ((q : ℕ) → handed_to (slice_get d.world.leaves x) q ≡ q) → P v → P (unblocked v x f)
  resumes v x f alive h = go (slice_get v.leaves x)
    where
      go : (o : Option Leaf) → P (active_again v x f o)
      go None = h
      go (Some leaf) =
          same_leaf d.world v x (record leaf { phase = resumed leaf.current leaf.reacting; operands = f leaf.operands })
          (λ q. resumed_alive leaf.current leaf.reacting q
          ∙ sym (alive q)) h

  accept_ends : (r : Request) (rest : List Request) → Ends P (accept d r rest)
  accept_ends r rest = accept_by P d r rest (λ old there. stands_in d.world (begun d r old) (λ q. refl) unchanged)

  body_next : (r : Round) (loops : List Round) → Ends P (body_ended d (r ∷ loops))
  body_next r loops = by_round (nat_lt (suc r.round) r.count)
    where
      by_round : (b : Bool) → Ends P (Ok (
        standing d (cond b (record d.leaf { todo = r.body; loops = record r { round = suc r.round } ∷ loops })
            (record d.leaf { todo = r.rest; loops = loops })),
        Quiet,
      ))
      by_round true = gives _ Quiet (stands _ refl)
      by_round false = gives _ Quiet (stands _ refl)

  module _ (h : AreLinked d.system (links d.world)) (handles : d.leaf.phase ≡ Handling) (g : Current) (current : d.leaf.current ≡ Some g) (s : Session)
      (there : session_at d.world g.session ≡ Some s) where
    client_lives : (q : ℕ) → handed_to (slice_get d.world.leaves s.client) q ≡ q
    client_lives q =
        let at : stance_in (slice_get d.world.leaves d.x) ≡ Some (stance Handling (Some g)) = stood d t ∙ (λ i. Some (stance (handles i) (current i))) in
        let waits = handled_waits d.system (links d.world) h d.x Handling g (outline s) at (ap outline_in there) in
        let b = h.waits g.session (outline s) (ap outline_in there) waits in
        let leaf = leaf_of_stance (slice_get d.world.leaves s.client) (stance Blocked b.0) b.1 in
        ap (λ o. handed_to o q) leaf.1 ∙ ap (λ (u : Stance). handed u.phase q) leaf.2

    replied_ends : (f : List ℕ → List ℕ) → Ends P (replied d g.session s f)
    replied_ends f = gives (unblocked (with_slot (standing d (serving d.leaf)) s.slot_id (Link g.session)) s.client f) Quiet
        (resumes (with_slot (standing d (serving d.leaf)) s.slot_id (Link g.session)) s.client f client_lives
        (same_slot d.world (standing d (serving d.leaf)) s.slot_id (Link g.session) serves))

    close_ends : Ends P (reply_close d g.session s)
    close_ends =
        when_ends P (all_empty s.slots) WrongKind _ (when_ends P (paid d.system (closed d g.session s)) ExceededQuota _ (gives (closed d g.session s) Quiet
        (resumes (record (with_slot (standing d (serving d.leaf)) s.slot_id Empty) {
          sessions =
              slice_set (with_slot (standing d (serving d.leaf)) s.slot_id Empty).sessions g.session None;
        }) s.client (λ operands. operands) client_lives
        (same_slot d.world (standing d (serving d.leaf)) s.slot_id Empty serves))))

    reply_ends : (section : Section) → Ends P (reply d g.session section s)
    reply_ends Main = fails WrongKind
    reply_ends Opening = when_ends P _ _ _ (replied_ends (λ operands. operands))
    reply_ends (Upgrading l) = replied_ends (λ operands. operands)
    reply_ends (Calling l) = pop_ends P _ _ (λ a rest. replied_ends (λ operands. a ∷ operands))
    reply_ends (Closing l) = close_ends
    reply_ends (Reacting i) = fails WrongKind

-- STEPS

same_fits : (r : Resource) (s : Scenario) (w : World) → Fit r s w → (x : Stepped) → Ends (SameHanded w) x → Ends (Fit r s) x
same_fits r s w h x e = record {
  holds = λ v event q.
      fit_less r s w v (λ y nodes p. (let same = spent_same r w v (e.holds v event q) y nodes in omega (arith, same))) h;
}

module _ (r : Resource) (s : Scenario) (resolved : IsResolved s) (after : after_fault (components s) [] (components s) ≡ None) (d : Doing)
    (of : d.system ≡ system s) (t : TakesLeaf d) (linked : AreLinked d.system (links d.world)) (component : slice_get (components s) d.x ≡ Some d.component)
    (fits : Fit r s d.world) where
  abbrev Q : World → Type 0
  Q = Fit r s

  same : (x : Stepped) → Ends (SameHanded d.world) x → Ends Q x
  same = same_fits r s d.world fits

  module _ (active : d.leaf.phase ≢ Blocked) (lives : (q : ℕ) → handed d.leaf.phase q ≡ q) where
    main_fits : (provides : Option (List ℕ)) (signals : ℕ) → Ends Q (main_ended d provides signals)
    main_fits (Some service) signals = same _ (gives (standing d (serving d.leaf)) Quiet (serves d t lives))
    main_fits None (suc n) = same _ (gives (standing d (serving d.leaf)) Quiet (serves d t lives))
    main_fits None zero =
        when_ends Q (no_link d.leaf.slots) WrongKind _ (gives (exit_of d) Finished
        (exit_fits r s resolved after d t.old of t.there (λ q. ap (λ p. handed p q) (sym t.phase) ∙ lives q) component fits))

    section_fits : (current : Option Current) (reacting : Option ℕ) → d.leaf.current ≡ current → Ends Q (section_ended d current reacting)
    section_fits None None e = main_fits d.component.node.provides d.component.node.signals
    section_fits None (Some i) e = same _ (gives (standing d (serving d.leaf)) Quiet (serves d t lives))
    section_fits (Some g) reacting e = need_found Q (session_at d.world g.session) WrongKind _
        (λ v at. same _ (reply_ends d t lives linked (handling_with d.leaf.phase g
        (subst (Fits d.leaf.phase) e (linked.fits d.x (stance d.leaf.phase d.leaf.current) (stood d t))) active) g e v at g.section))

    body_fits : (loops : List Round) → Ends Q (body_ended d loops)
    body_fits [] = section_fits d.leaf.current d.leaf.reacting refl
    body_fits (p ∷ loops) = same _ (body_next d t lives p loops)

    perform_fits : (todo : Statements) → Ends Q (perform d todo)
    perform_fits Done = body_fits d.leaf.loops
    perform_fits (Do i rest) = same _ (instruct_ends (record d { leaf = record d.leaf { todo = rest } })
        (record { old = t.old; there = t.there; slots = t.slots; phase = t.phase; current = t.current; reacting = t.reacting }) lives i)
    perform_fits (If arm other rest) = pop_ends Q _ _ (λ a below. same _ (gives _ Quiet (stands d t lives _ refl)))
    perform_fits (Loop count body rest) = same _ (gives _ Quiet (stands d t lives _ refl))

  oldest_fits : ((q : ℕ) → handed d.leaf.phase q ≡ q) → (found : Option (Request × List Request)) → Ends Q (accept_oldest d found)
  oldest_fits lives None = gives d.world Idle fits
  oldest_fits lives (Some p) = same _ (accept_ends d t lives p.0 p.1)

  serve_fits : ((q : ℕ) → handed d.leaf.phase q ≡ q) → (found : Option (ℕ × List Signal)) → Ends Q (serve d found)
  serve_fits lives None = oldest_fits lives (oldest d.world d.x d.world.requests)
  serve_fits lives (Some p) = same _ (need_ends _ (section_in (Reacting p.0) d.component.node.program.sections) MissingSection _
      (λ body. gives _ Quiet (stands_in d t lives d.world (reacting_to d.leaf p.0 p.1 body) (λ q. refl) (unchanged d t lives))))

  step_fits : (phase : Phase) → d.leaf.phase ≡ phase → Ends Q (step_in d phase)
  step_fits Pending e = gives d.world Idle fits
  step_fits Running e = perform_fits (λ b. running_blocked (sym e ∙ b)) (λ q. ap (λ p. handed p q) e) d.leaf.todo
  step_fits Blocked e = gives d.world Idle fits
  step_fits Serving e = serve_fits (λ q. ap (λ p. handed p q) e) (first_signal d.leaf.signals)
  step_fits Handling e = perform_fits (λ b. handling_blocked (sym e ∙ b)) (λ q. ap (λ p. handed p q) e) d.leaf.todo
  step_fits Exited e = gives d.world Idle fits

-- without a fault of a scenario there is none of its quanta, and none of who starts after whom
quanta_fit : (s : Scenario) → unresolved s ≡ None → (quanta_fault Ram s ≡ None) × (quanta_fault Caps s ≡ None)
    × (after_fault (components s) [] (components s) ≡ None)
quanta_fit s e =
    let one = or_first_none (quanta_fault Ram s) _ e in
    let two = or_first_none (quanta_fault Caps s) _ one.1 in
    let three = or_first_none (offer_fault s) _ two.1 in
    let four = or_first_none (after_fault (components s) [] (components s)) _ three.1 in
    (one.0, two.0, four.0)

pub start_fits : (r : Resource) (s : Scenario) → IsResolved s → Fit r s (start (system s))
start_fits Ram s resolved = start_fit Ram s (quanta_fit s resolved.fits).0
start_fits Caps s resolved = start_fit Caps s (quanta_fit s resolved.fits).1

module _ (r : Resource) (s : Scenario) (resolved : IsResolved s) where
  next_fits : (w : World) (x : ℕ) (c : Option Component) (leaf : Option Leaf) → IsLinkedWorld (system s) w → Fit r s w → slice_get (components s) x ≡ c
      → slice_get w.leaves x ≡ leaf → Ends (Fit r s) (step_of (system s) w x c leaf)
  next_fits w x (Some c) (Some leaf) linked h component there =
      step_fits r s resolved (quanta_fit s resolved.fits).2
      (record { system = system s; world = w; x = x; component = c; leaf = record leaf { steps = suc leaf.steps } }) refl
      (record { old = leaf; there = there; slots = refl; phase = refl; current = refl; reacting = refl }) linked component h leaf.phase refl
  next_fits w x (Some c) None linked h component there = gives w Idle h
  next_fits w x None leaf linked h component there = gives w Idle h

  pub kept_fits : (w : World) (x : ℕ) (new : World) (event : Event) → IsLinkedWorld (system s) w → Fit r s w → next (system s) w x ≡ Ok (new, event)
      → Fit r s new
  kept_fits w x new event linked h stepped = (next_fits w x (slice_get (components s) x) (slice_get w.leaves x) linked h refl refl).holds new event stepped
