-- A step of a leaf in two worlds, continued: requests that are accepted, replies, the end of `main`, and the step as a whole.
use Rattle.std.proofs.Common.{◌≡◌, ℕ, zero, suc, ◌==◌, ◌||◌, ◌&&◌, Bool, true, false, cond, List, [], ◌∷◌, map, Option, Some, None, Ok, refl, ap, sym, ◌∙◌}
use Rattle.std.proofs.Common.{subst}
use Rattle.std.proofs.lemmas.Option.{slice_get-map}
use Rattle.std.specs.Prelude.{option_map, nat_lt, slice_get}
use Rattle.gq_model.specs.declared.program.Form.TheVariants.{Block, Slice, Space}
use Rattle.gq_model.specs.declared.section.Section.{Section}
use Rattle.gq_model.specs.declared.section.Section.TheVariants.{Main, Opening, Upgrading, Calling, Closing, Reacting}
use Rattle.gq_model.specs.declared.phase.Phase.{Phase}
use Rattle.gq_model.specs.declared.program.Instruction.{Instruction}
use Rattle.gq_model.specs.declared.phase.Phase.TheVariants.{Pending, Running, Blocked, Serving, Handling, Exited}
use Rattle.gq_model.specs.declared.fault.Wrong.TheVariants.{WrongKind, ExceededQuota, MissingSection}
use Rattle.gq_model.specs.machine.Program.{Statements, Done, Do, If, Loop, section_in, body_of, ◌then◌}
use Rattle.gq_model.specs.machine.Scenario.{System}
use Rattle.gq_model.specs.machine.World.{Slot, Empty, Bytes, Pool, Waiting, Link, SlotId, Session, Ask, Ask_open, Ask_upgrade, Ask_close, Ask_call, Request}
use Rattle.gq_model.specs.machine.World.{Current, Signal, Round, Leaf, World}
use Rattle.gq_model.specs.machine.World.{session_at, with_session, with_slot}
use Rattle.gq_model.specs.machine.Sums.{paid}
use Rattle.gq_model.specs.machine.Doing.{Doing, Quiet, Finished, Idle, Stepped, need, when, standing}
use Rattle.gq_model.specs.machine.Memory.{buffer_of}
use Rattle.gq_model.specs.machine.Step.{oldest, section_for, first_operands, accepted_as, beginning, accept, is_empty, all_empty, is_space_of, serving}
use Rattle.gq_model.specs.machine.Step.{unblocked, replied, reply, no_link, exit_of, main_ended, section_ended, body_ended, chosen, perform}
use Rattle.gq_model.specs.machine.Step.{accept_oldest, first_signal, reacting_to, serve, step_in, instruct}
use Rattle.gq_laws.specs.Session_links.{AreLinked, links}
use Rattle.gq_laws.specs.Inside_steps.{TakesLeaf}
use Rattle.gq_laws.proofs.step_shapes.Step_end_worlds.{closed}
use Rattle.gq_laws.specs.Renamed.{renamed_slot, renamed_slot_id, renamed_current, renamed_session, renamed_request}
use Rattle.gq_laws.proofs.Paired_step_outcomes.{Both, one_fails, both_give, same_need, both_when, both_pop}
use Rattle.gq_determined.specs.internal.Threads.{Accepts}
use Rattle.gq_determined.proofs.passing_threads.Kept_by_steps.{Aside, other_leaf, other_doing, KeepsOwn, IsKept, IsAllowed, both_instruct, stands}

-- a request is taken up, and its session is this from then on
abbrev taken_up : Doing → Request → List Request → Session → Stepped
taken_up d r rest s =
    let section = section_for r.ask s.level in
    let body = section_in section d.component.node.program.sections in
    let leaf = beginning d.leaf (record { session = r.session; section = section }) (first_operands r.ask) (body_of body) in
    let w = with_session (record (standing d leaf) { requests = rest }) r.session s in
    when (paid d.system w) ExceededQuota (need body MissingSection (λ b. Ok (w, Quiet)))

-- acceptance does not look at the numbers of sessions, and leaves client and server
accepted_same : (system : System) (f : ℕ → ℕ) (ask : Ask) (s : Session)
    → renamed_session f (accepted_as system ask s) ≡ accepted_as system ask (renamed_session f s)
accepted_same system f Ask_open s = refl
accepted_same system f Ask_upgrade s = refl
accepted_same system f Ask_close s = refl
accepted_same system f (Ask_call value) s = refl

running_serving : Running ≡ Serving → ⊥
running_serving e = cc

handling_serving : Handling ≡ Serving → ⊥
handling_serving e = cc

both_over : (P Q : World → World → Type 0) → ((w z : World) → P w z → Q w z) → (r q : Stepped) → Both P r q → Both Q r q
both_over P Q f r q h = record { holds = λ w e is. let b = h.holds w e is in (b.0, b.1, f w b.0 b.2) }

-- acceptance changes the level, whether the session is accepted, and its object
pub record IsTaken (old new : Session) : Type 0 where
  pub client : new.client ≡ old.client
  pub slot_id : new.slot_id ≡ old.slot_id
  pub server : new.server ≡ old.server
  pub service : new.service ≡ old.service
  pub donation : new.donation ≡ old.donation
  pub slots : new.slots ≡ old.slots
  pub object : (k : ℕ) → new.object ≡ Waiting k → old.object ≡ Waiting k

bytes_wait : (n k : ℕ) (bytes : List ℕ) → Bytes Slice n bytes ≡ Waiting k → ⊥
bytes_wait n k bytes e = cc

accepted_taken : (system : System) (ask : Ask) (s : Session) → IsTaken s (accepted_as system ask s)
accepted_taken system Ask_open s =
    record { client = refl; slot_id = refl; server = refl; service = refl; donation = refl; slots = refl; object = λ k e. absurd (bytes_wait _ k _ e) }
accepted_taken system Ask_upgrade s = record { client = refl; slot_id = refl; server = refl; service = refl; donation = refl; slots = refl; object = λ k e. e }
accepted_taken system Ask_close s = record { client = refl; slot_id = refl; server = refl; service = refl; donation = refl; slots = refl; object = λ k e. e }
accepted_taken system (Ask_call value) s = record {
  client = refl;
  slot_id = refl;
  server = refl;
  service = refl;
  donation = refl;
  slots = refl;
  object = λ k e. e;
}

module _ (f : ℕ → ℕ) (aside : Aside) (d : Doing) (v : World) (K End : World → World → Type 0) (Mine : ℕ → Type 0) (Ours : SlotId → Type 0) where
  abbrev e : Doing
  e = other_doing f aside d v

  -- the requests that a leaf takes up in both worlds
  pub record AreTaken (p q : Request × List Request) : Type 0 where
    pub serves : Accepts d.leaf
    pub first : oldest d.world d.x d.world.requests ≡ Some p
    pub other : oldest v d.x v.requests ≡ Some q
    pub same : q.0 ≡ renamed_request f p.0
    pub mine : Mine p.0.session
    pub session : Session
    pub there : session_at d.world p.0.session ≡ Some session

  -- where the leaf serves, either a request is there for it in both worlds, or in neither
  abbrev pub Match : Option (Request × List Request) → Option (Request × List Request) → Type 0
  Match None None = Unit {0}
  Match (Some p) (Some q) = AreTaken p q
  Match None (Some q) = ⊥
  Match (Some p) None = ⊥

  -- so it is where sections begin and end, too
  pub record IsKeptAround : Type 0 where
    pub within : IsKept f aside d v K Mine Ours
    pub over : (w z : World) → K w z → End w z
    pub matches : Accepts d.leaf → Match (oldest d.world d.x d.world.requests) (oldest v d.x v.requests)
    pub take : (p q : Request × List Request) (leaf : Leaf) (s : Session) (t : AreTaken p q) → leaf.slots ≡ d.leaf.slots → leaf.phase ≡ Handling
        → ((section : Section) × (leaf.current ≡ Some (record { session = p.0.session; section = section }))) → IsTaken t.session s
        → End (with_session (record (standing d leaf) { requests = p.1 }) p.0.session s)
        (with_session (record (standing e (other_leaf f aside d v leaf)) { requests = q.1 }) (f p.0.session) (renamed_session f s))
    pub answer : (g : Current) (s : Session) (go : List ℕ → List ℕ) → d.leaf.current ≡ Some g → session_at d.world g.session ≡ Some s
        → End (unblocked (with_slot (standing d (serving d.leaf)) s.slot_id (Link g.session)) s.client go)
        (unblocked (with_slot (standing e (serving e.leaf)) (renamed_slot_id f s.slot_id) (Link (f g.session))) s.client go)
    pub close : (g : Current) (s : Session) → d.leaf.current ≡ Some g → session_at d.world g.session ≡ Some s
        → End (closed d g.session s) (closed e (f g.session) (renamed_session f s))
    pub exit : d.leaf.current ≡ None → (d.leaf.phase ≡ Serving → ⊥) → End (exit_of d) (exit_of e)

  -- what comes first is allowed
  abbrev pub FirstAllowed : Statements → Type 0
  FirstAllowed Done = Unit {0}
  FirstAllowed (Do i rest) = IsAllowed f aside d v K Mine Ours i
  FirstAllowed (If arm other rest) = Unit {0}
  FirstAllowed (Loop count body rest) = Unit {0}

  module _ (t : TakesLeaf d) (linked : AreLinked d.system (links d.world)) (h : IsKeptAround) where
    stand : (leaf : Leaf) → leaf.slots ≡ d.leaf.slots → leaf.current ≡ d.leaf.current → End (standing d leaf) (standing e (other_leaf f aside d v leaf))
    stand leaf slots current = h.over _ _ (stands f aside d v K Mine Ours t linked h.within leaf (record { slots = slots; current = current }))

    -- SLOTS

    space_same : (n : ℕ) (o : Option Slot) → is_space_of n (option_map (renamed_slot f) o) ≡ is_space_of n o
    space_same n None = refl
    space_same n (Some Empty) = refl
    space_same n (Some (Bytes Space m bytes)) = refl
    space_same n (Some (Bytes Slice m bytes)) = refl
    space_same n (Some (Bytes Block m bytes)) = refl
    space_same n (Some (Pool m entries)) = refl
    space_same n (Some (Link k)) = refl
    space_same n (Some (Waiting k)) = refl

    first_space : (n : ℕ) (slots : List Slot) → is_space_of n (slice_get (map (renamed_slot f) slots) 0) ≡ is_space_of n (slice_get slots 0)
    first_space n slots = ap (is_space_of n) (slice_get-map (renamed_slot f) slots 0) ∙ space_same n (slice_get slots 0)

    empty_slot : (slot : Slot) → is_empty (renamed_slot f slot) ≡ is_empty slot
    empty_slot Empty = refl
    empty_slot (Bytes form n bytes) = refl
    empty_slot (Pool n entries) = refl
    empty_slot (Link k) = refl
    empty_slot (Waiting k) = refl

    empty_same : (slots : List Slot) → all_empty (map (renamed_slot f) slots) ≡ all_empty slots
    empty_same [] = refl
    empty_same (slot ∷ slots) = λ t. empty_slot slot t && empty_same slots t

    links_same : (slots : List Slot) → no_link (map (renamed_slot f) slots) ≡ no_link slots
    links_same [] = refl
    links_same (Empty ∷ slots) = links_same slots
    links_same (Bytes form n bytes ∷ slots) = links_same slots
    links_same (Pool n entries ∷ slots) = links_same slots
    links_same (Link k ∷ slots) = refl
    links_same (Waiting k ∷ slots) = links_same slots

    -- ACCEPTANCE

    both_taken : (p q : Request × List Request) (a : AreTaken p q) (s : Session) → IsTaken a.session s
        → Both End (taken_up d p.0 p.1 s) (taken_up e (renamed_request f p.0) q.1 (renamed_session f s))
    both_taken p q a s is =
        let section = section_for p.0.ask s.level in
        let body = section_in section d.component.node.program.sections in
        let leaf = beginning d.leaf (record { session = p.0.session; section = section }) (first_operands p.0.ask) (body_of body) in
        let new = with_session (record (standing d leaf) { requests = p.1 }) p.0.session s in
        let new_v = with_session (record (standing e (other_leaf f aside d v leaf)) { requests = q.1 }) (f p.0.session) (renamed_session f s) in
        both_when End (paid d.system new) (paid d.system new_v) ExceededQuota ExceededQuota (need body MissingSection (λ b. Ok (new, Quiet)))
        (need body MissingSection (λ b. Ok (new_v, Quiet))) (λ i. h.within.pays new_v)
        (same_need End body MissingSection (λ b. Ok (new, Quiet)) (λ b. Ok (new_v, Quiet))
        (λ b. both_give End new new_v Quiet (h.take p q leaf s a refl refl (section, refl) is)))

    both_accept : (p q : Request × List Request) → AreTaken p q → Both End (accept d p.0 p.1) (accept e (renamed_request f p.0) q.1)
    both_accept p q a =
        let old = a.session in
        let s = accepted_as d.system p.0.ask old in
        subst (λ o. Both End (need o WrongKind (λ old. taken_up d p.0 p.1 (accepted_as d.system p.0.ask old))) (accept e (renamed_request f p.0) q.1))
        (sym a.there)
        (subst (λ o. Both End (taken_up d p.0 p.1 s)
        (need o WrongKind (λ old. taken_up e (renamed_request f p.0) q.1 (accepted_as d.system p.0.ask old))))
        (sym (h.within.session d.world v p.0.session old h.within.first a.mine a.there))
        (subst (λ u. Both End (taken_up d p.0 p.1 s) (taken_up e (renamed_request f p.0) q.1 u)) (accepted_same d.system f p.0.ask old)
        (both_taken p q a s (accepted_taken d.system p.0.ask old))))

    oldest_by : (o q : Option (Request × List Request)) → Match o q → Both End (accept_oldest d o) (accept_oldest e q)
    oldest_by None None m = both_give End d.world v Idle (h.over _ _ h.within.first)
    oldest_by None (Some q) m = absurd m
    oldest_by (Some p) None m = absurd m
    oldest_by (Some p) (Some q) m = subst (λ r. Both End (accept d p.0 p.1) (accept e r q.1)) (sym m.same) (both_accept p q m)

    -- REPLIES

    module _ (g : Current) (at : d.leaf.current ≡ Some g) (s : Session) (there : session_at d.world g.session ≡ Some s) where
      both_replied : (go : List ℕ → List ℕ) → Both End (replied d g.session s go) (replied e (f g.session) (renamed_session f s) go)
      both_replied go = both_give End _ _ Quiet (h.answer g s go at there)

      both_reply : (section : Section) → Both End (reply d g.session section s) (reply e (f g.session) section (renamed_session f s))
      both_reply Main = one_fails End WrongKind _
      both_reply Opening =
          let n = buffer_of d.system s.service in
          both_when End (n == 0 || is_space_of n (slice_get s.slots 0)) (n == 0 || is_space_of n (slice_get (map (renamed_slot f) s.slots) 0)) WrongKind
          WrongKind
          _ _ (λ i. ap (λ b. n == 0 || b) (first_space n s.slots) ∙ i) (both_replied (λ operands. operands))
      both_reply (Upgrading l) = both_replied (λ operands. operands)
      both_reply (Calling l) = both_pop End d.leaf.operands (λ a rest. replied d g.session s (λ operands. a ∷ operands))
          (λ a rest. replied e (f g.session) (renamed_session f s) (λ operands. a ∷ operands)) (λ a rest. both_replied (λ operands. a ∷ operands))
      both_reply (Closing l) = both_when End (all_empty s.slots) (all_empty (map (renamed_slot f) s.slots)) WrongKind WrongKind _ _
          (λ i. empty_same s.slots ∙ i)
          (both_when End (paid d.system (closed d g.session s)) (paid d.system (closed e (f g.session) (renamed_session f s))) ExceededQuota ExceededQuota _ _
          (λ i. h.within.pays (closed e (f g.session) (renamed_session f s)))
          (both_give End (closed d g.session s) (closed e (f g.session) (renamed_session f s)) Quiet (h.close g s at there)))
      both_reply (Reacting i) = one_fails End WrongKind _

    -- THE END OF A SECTION

    both_main : (d.leaf.phase ≡ Serving → ⊥) → d.leaf.current ≡ None → (provides : Option (List ℕ)) (signals : ℕ)
        → Both End (main_ended d provides signals) (main_ended e provides signals)
    both_main busy at (Some service) signals = both_give End _ _ Quiet (stand (serving d.leaf) refl (sym at))
    both_main busy at None (suc n) = both_give End _ _ Quiet (stand (serving d.leaf) refl (sym at))
    both_main busy at None zero = both_when End (no_link d.leaf.slots) (no_link e.leaf.slots) WrongKind WrongKind (Ok (exit_of d, Finished))
        (Ok (exit_of e, Finished))
        (λ i. links_same d.leaf.slots ∙ i) (both_give End (exit_of d) (exit_of e) Finished (h.exit at busy))

    both_section : (d.leaf.phase ≡ Serving → ⊥) → (current : Option Current) (reacting : Option ℕ) → d.leaf.current ≡ current
        → Both End (section_ended d current reacting) (section_ended e (option_map (renamed_current f) current) reacting)
    both_section busy None None at = both_main busy at d.component.node.provides d.component.node.signals
    both_section busy None (Some i) at = both_give End _ _ Quiet (stand (serving d.leaf) refl (sym at))
    both_section busy (Some g) reacting at =
        let o = h.within.current g at in
        let s = o.3.0 in
        subst (λ p. Both End (need p WrongKind (reply d g.session g.section)) (section_ended e (Some (renamed_current f g)) reacting)) (sym o.3.1)
        (subst (λ p. Both End (reply d g.session g.section s) (need p WrongKind (reply e (f g.session) g.section)))
        (sym (h.within.session d.world v g.session s h.within.first o.0 o.3.1))
        (both_reply g at s o.3.1 g.section))

    both_body : (d.leaf.phase ≡ Serving → ⊥) → (loops : List Round) → Both End (body_ended d loops) (body_ended e loops)
    both_body busy [] = both_section busy d.leaf.current d.leaf.reacting refl
    both_body busy (r ∷ loops) = by (nat_lt (suc r.round) r.count)
      where
        by : (b : Bool)
            → Both End (Ok (
              standing d (cond b (record d.leaf { todo = r.body; loops = record r { round = suc r.round } ∷ loops })
                  (record d.leaf { todo = r.rest; loops = loops })),
              Quiet,
            ))
            (Ok (
              standing e (cond b (record e.leaf { todo = r.body; loops = record r { round = suc r.round } ∷ loops })
                  (record e.leaf { todo = r.rest; loops = loops })),
              Quiet,
            ))
        by true = both_give End _ _ Quiet (stand (record d.leaf { todo = r.body; loops = record r { round = suc r.round } ∷ loops }) refl refl)
        by false = both_give End _ _ Quiet (stand (record d.leaf { todo = r.rest; loops = loops }) refl refl)

    -- STEPS

    -- the same of the leaf once its first statement is taken from it
    module _ (rest : Statements) where
      abbrev begun : Doing
      begun = record d { leaf = record d.leaf { todo = rest } }

      own_so : (leaf : Leaf) → KeepsOwn f aside begun v leaf → KeepsOwn f aside d v leaf
      own_so leaf own = record { slots = own.slots; current = own.current }

      kept_so : IsKept f aside begun v K Mine Ours
      kept_so =
          let k = h.within in
          record {
            first = k.first;
            pays = k.pays;
            current = k.current;
            link = k.link;
            fresh = k.fresh;
            slot = k.slot;
            session = k.session;
            leaf = λ w z leaf same own. k.leaf w z leaf same (own_so leaf own);
            put = k.put;
            wait = k.wait;
            settles = k.settles;
            donate = k.donate;
            add = k.add;
            ask = k.ask;
          }

      both_begun : (i : Instruction) → IsAllowed f aside d v K Mine Ours i → Both End (instruct begun i) (instruct (other_doing f aside begun v) i)
      both_begun i may = both_over K End h.over _ _ (both_instruct f aside begun v K Mine Ours
          (record { old = t.old; there = t.there; slots = t.slots; phase = t.phase; current = t.current; reacting = t.reacting }) linked kept_so i may)

    both_perform : (d.leaf.phase ≡ Serving → ⊥) → (todo : Statements) → FirstAllowed todo → Both End (perform d todo) (perform e todo)
    both_perform busy Done may = both_body busy d.leaf.loops
    both_perform busy (Do i rest) may = both_begun rest i may
    both_perform busy (If arm other rest) may =
        both_pop End d.leaf.operands (λ a below. Ok (standing d (record d.leaf { operands = below; todo = chosen a arm other then rest }), Quiet))
        (λ a below. Ok (standing e (record e.leaf { operands = below; todo = chosen a arm other then rest }), Quiet))
        (λ a below. both_give End _ _ Quiet (stand (record d.leaf { operands = below; todo = chosen a arm other then rest }) refl refl))
    both_perform busy (Loop count body rest) may =
        let entered : Round = record { round = 0; count = count; body = body; rest = rest } in
        both_give End _ _ Quiet (stand (record d.leaf { todo = body; loops = entered ∷ d.leaf.loops }) refl refl)

    -- a signal is taken, or a request
    both_serve : d.leaf.phase ≡ Serving → (signal : Option (ℕ × List Signal)) → first_signal d.leaf.signals ≡ signal
        → Both End (serve d signal) (serve e signal)
    both_serve at None none = oldest_by (oldest d.world d.x d.world.requests) (oldest v d.x v.requests) (h.matches (at, none))
    both_serve at (Some p) some =
        same_need End (section_in (Reacting p.0) d.component.node.program.sections) MissingSection
        (λ body. Ok (standing d (reacting_to d.leaf p.0 p.1 body), Quiet)) (λ body. Ok (standing e (reacting_to e.leaf p.0 p.1 body), Quiet))
        (λ body. both_give End _ _ Quiet (stand (reacting_to d.leaf p.0 p.1 body) refl refl))

    -- the step shows the same in both worlds, and keeps the relation
    pub both_step : (phase : Phase) → d.leaf.phase ≡ phase → ((d.leaf.phase ≡ Serving → ⊥) → FirstAllowed d.leaf.todo)
        → Both End (step_in d phase) (step_in e phase)
    both_step Pending at may = both_give End d.world v Idle (h.over _ _ h.within.first)
    both_step Running at may = both_perform (λ e. running_serving (sym at ∙ e)) d.leaf.todo (may (λ e. running_serving (sym at ∙ e)))
    both_step Blocked at may = both_give End d.world v Idle (h.over _ _ h.within.first)
    both_step Serving at may = both_serve at (first_signal d.leaf.signals) refl
    both_step Handling at may = both_perform (λ e. handling_serving (sym at ∙ e)) d.leaf.todo (may (λ e. handling_serving (sym at ∙ e)))
    both_step Exited at may = both_give End d.world v Idle (h.over _ _ h.within.first)
