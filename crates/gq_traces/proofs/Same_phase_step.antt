-- A step after which its leaf is in the phase that it was in leaves requests, sessions and all other leaves as they are, but for what a session to the leaf
-- holds, and for bytes.
use Rattle.std.proofs.Common.{◌≡◌, ◌≢◌, ◌∙◌, ◌⊎◌, ℕ, zero, suc, inl, inr, nat_lt, Bool, true, false, cond, List, [], ◌∷◌, length, length-set, Option}
use Rattle.std.proofs.Common.{Some, None, Ok, refl, ap, ap₂, sym, subst, arith}
use Rattle.std.specs.Prelude.{slice_get, slice_set, sum_by}
use Rattle.std.proofs.lemmas.Bool.Decides.{eqb_tells}
use Rattle.std.proofs.lemmas.List.Sums.{sum_by-cons}
use Rattle.gq_model.specs.machine.Amounts.{Resource, amount, plus}
use Rattle.gq_model.specs.declared.program.Instruction.{Instruction}
use Rattle.gq_model.specs.declared.program.Instruction.TheVariants.{Open, Upgrade, Call, Close}
use Rattle.gq_model.specs.declared.program.OperandSlot.{OperandSlot}
use Rattle.gq_model.specs.declared.fault.Wrong.TheVariants.{WrongKind}
use Rattle.gq_model.specs.declared.phase.Phase.{Phase}
use Rattle.gq_model.specs.declared.phase.Phase.TheVariants.{Pending, Running, Blocked, Serving, Handling, Exited}
use Rattle.gq_model.specs.machine.Program.{Statements, Done, Do, If, Loop}
use Rattle.gq_model.specs.machine.Routes.{server_of}
use Rattle.gq_model.specs.machine.Scenario.{Scenario, Component, interface_in, open_caps, system, upgrade_caps}
use Rattle.gq_model.specs.machine.Sums.{bank_price, slot_price}
use Rattle.gq_model.specs.machine.World.{Slot, Empty, Bytes, Pool, Link, Waiting, SlotId, In_leaf, In_session, In_object, Session, Ask, Ask_open, Ask_upgrade}
use Rattle.gq_model.specs.machine.World.{Ask_close, Ask_call, Request, Current, Round, Signal, Leaf, World, session_at, slot_at, slot_id_of}
use Rattle.gq_model.specs.machine.World.{with_leaf, with_slot}
use Rattle.gq_model.specs.machine.World.{with_session, put_leaf_slot, put_session_slot, put_object}
use Rattle.gq_model.specs.machine.Doing.{Doing, Event, Idle, Quiet, Finished, Stepped, standing, with_operands}
use Rattle.gq_model.specs.machine.Requests.{add_session, asked, close, call, free_place, link_at, new_session, open_session, upgrade}
use Rattle.gq_model.specs.machine.Step.{instruct, oldest, serving, resumed, active_again, unblocked, released, all_released, exited, exit_of, no_link}
use Rattle.gq_model.specs.machine.Step.{first_signal, main_ended, reacting_to, serve}
use Rattle.gq_model.specs.machine.Step.{section_ended, body_ended, perform, accept_oldest, step_in, step_of, next}
use Rattle.gq_model.proofs.Small_facts.{none_some, some_same}
use Rattle.gq_laws.specs.Session_links.{Stance, stance, stance_in, Fits, links, outline_in, IsLinkedWorld}
use Rattle.gq_laws.specs.Stands.{Stands}
use Rattle.gq_laws.specs.Inside_steps.{TakesLeaf, IsOfOwn, IsElse, IsInside, KeepsSessionIn, bare}
use Rattle.gq_laws.specs.Typed.{StaysOfKind, StayOfKind}
use Rattle.gq_laws.specs.internal.Remaining_instructions.{AllAre, IsGood}
use Rattle.gq_laws.proofs.session_links.Link_free_statements.{Same, IsQuiet, quiet_ends, stands, stood}
use Rattle.gq_laws.proofs.session_links.Written_world_links.{leaf_in_slot, leaf_stance, set_else, set_here, slot_stances}
use Rattle.gq_laws.proofs.statement_rules.Statement_leaves_others.{keeps_to_itself}
use Rattle.gq_laws.proofs.step_shapes.Step_end_shapes.{Ends, gives, link_in_ends, need_ends, pop_ends, when_ends}
use Rattle.gq_laws.proofs.step_shapes.Step_end_shapes.{fill_ends}
use Rattle.gq_laws.proofs.step_shapes.Step_change_shapes.{accept_by, instruct_by, reply_by, slot_by}
use Rattle.gq_laws.proofs.step_shapes.Step_end_worlds.{begun, blocking, taken}

-- a session keeps its parts but for its slots and its object, and these cost what they did where it is not a session to this leaf
abbrev pub KeepsFor : ℕ → Option Session → Option Session → Type 0
KeepsFor x None new = new ≡ None
KeepsFor x (Some old) new =
    (s : Session) × (new ≡ Some s) × (bare s ≡ bare old) × (old.server ≢ x → (r : Resource) → bank_price r s ≡ bank_price r old)

-- what a step of the x-th leaf leaves that keeps it in its phase
pub record LeavesAll (w : World) (x : ℕ) (new : World) : Type 0 where
  pub leaves : (y : ℕ) → y ≢ x → slice_get new.leaves y ≡ slice_get w.leaves y
  pub stances : (y : ℕ) → stance_in (slice_get new.leaves y) ≡ stance_in (slice_get w.leaves y)
  pub requests : new.requests ≡ w.requests
  pub count : length new.sessions ≡ length w.sessions
  pub sessions : (k : ℕ) → KeepsFor x (session_at w k) (session_at new k)

pub keeps_self : (x : ℕ) (o : Option Session) → KeepsFor x o o
keeps_self x None = refl
keeps_self x (Some s) = (s, refl, refl, λ ne r. refl)

pub leaves_self : (w : World) (x : ℕ) → LeavesAll w x w
leaves_self w x =
    record { leaves = λ y ne. refl; stances = λ y. refl; requests = refl; count = refl; sessions = λ k. keeps_self x (session_at w k) }

-- PRICES

module _ (r : Resource) where
  price_stays : (old new : Slot) → StaysOfKind old new → slot_price r new ≡ slot_price r old
  price_stays Empty new h = ap (slot_price r) h
  price_stays (Bytes form n bytes) new h = ap (slot_price r) h.1
  price_stays (Pool n entries) new h = ap (slot_price r) h
  price_stays (Link k) new h = ap (slot_price r) h
  price_stays (Waiting k) new h = ap (slot_price r) h

  prices_stay : (olds news : List Slot) → StayOfKind olds news → sum_by (slot_price r) news ≡ sum_by (slot_price r) olds
  prices_stay [] [] h = refl
  prices_stay (old ∷ olds) (new ∷ news) h =
      let here = price_stays old new h.0 in
      let further = prices_stay olds news h.1 in
      omega (arith, here, further, sum_by-cons (slot_price r) new news, sum_by-cons (slot_price r) old olds)
  prices_stay [] (new ∷ news) h = absurd h
  prices_stay (old ∷ olds) [] h = absurd h

-- THE NUMBER OF SESSIONS

slot_count : (w : World) (q : SlotId) (slot : Slot) → length (with_slot w q slot).sessions ≡ length w.sessions
slot_count w (In_leaf x i) slot = by (slice_get w.leaves x)
  where
    by : (o : Option Leaf) → length (put_leaf_slot w o x i slot).sessions ≡ length w.sessions
    by None = refl
    by (Some leaf) = refl
slot_count w (In_session k i) slot = by (session_at w k)
  where
    by : (o : Option Session) → length (put_session_slot w o k i slot).sessions ≡ length w.sessions
    by None = refl
    by (Some s) = length-set w.sessions k (Some (record s { slots = slice_set s.slots i slot }))
slot_count w (In_object k) slot = by (session_at w k)
  where
    by : (o : Option Session) → length (put_object w o k slot).sessions ≡ length w.sessions
    by None = refl
    by (Some s) = length-set w.sessions k (Some (record s { object = slot }))

-- as many sessions as that
abbrev Numbers : ℕ → World → Type 0
Numbers n w = length w.sessions ≡ n

instruct_count : (d : Doing) (i : Instruction) → IsOfOwn i → Ends (Numbers (length d.world.sessions)) (instruct d i)
instruct_count d i own =
    let n = length d.world.sessions in
    instruct_by d (Numbers n) (Numbers n) refl (λ w q slot h. slot_count w q slot ∙ h) (λ w q slot h. slot_count w q slot ∙ h)
    (λ w operands locals same h. h) (λ w operands h. h) (λ w requests h. h)
    (λ w h. need_ends (Numbers n) (slice_get w.leaves d.x) _ _ (λ leaf. when_ends (Numbers n) _ _ _ (gives _ _ h))) i
    (λ place service m e. absurd (subst IsOfOwn e own)) (λ place m e. absurd (subst IsOfOwn e own))

perform_count : (d : Doing) (todo : Statements) → IsInside todo d.leaf.loops → Ends (Numbers (length d.world.sessions)) (perform d todo)
perform_count d Done inside = by d.leaf.loops inside
  where
    by : (loops : List Round) → IsInside Done loops → Ends (Numbers (length d.world.sessions)) (body_ended d loops)
    by [] inside = absurd inside
    by (r ∷ loops) inside = gives _ Quiet refl
perform_count d (Do i rest) inside = instruct_count (record d { leaf = record d.leaf { todo = rest } }) i inside.0
perform_count d (If arm other rest) inside = pop_ends (Numbers (length d.world.sessions)) d.leaf.operands _ (λ a below. gives _ Quiet refl)
perform_count d (Loop count body rest) inside = gives _ Quiet refl

-- LINKS

quiet : (i : Instruction) → IsOfOwn i → IsQuiet i
quiet (Open place service n) own = own
quiet (Upgrade place n) own = own
quiet (Call place) own = own
quiet (Close place) own = own
quiet i own = tt

same_ends : (d : Doing) → TakesLeaf d → IsLinkedWorld d.system d.world → (todo : Statements) → IsInside todo d.leaf.loops
    → Ends (Same (links d.world)) (perform d todo)
same_ends d t h Done inside = by_loops d.leaf.loops inside
  where
    by_loops : (loops : List Round) → IsInside Done loops → Ends (Same (links d.world)) (body_ended d loops)
    by_loops [] inside = absurd inside
    by_loops (r ∷ loops) inside = chosen (nat_lt (suc r.round) r.count)
      where
        chosen : (b : Bool) → Ends (Same (links d.world)) (Ok (
          standing d (cond b (record d.leaf { todo = r.body; loops = record r { round = suc r.round } ∷ loops })
              (record d.leaf { todo = r.rest; loops = loops })),
          Quiet,
        ))
        chosen true = gives _ Quiet (stands d t _ refl refl refl)
        chosen false = gives _ Quiet (stands d t _ refl refl refl)
same_ends d t h (Do i rest) inside =
    quiet_ends (record d { leaf = record d.leaf { todo = rest } })
    (record { old = t.old; there = t.there; slots = t.slots; phase = t.phase; current = t.current; reacting = t.reacting }) h i (quiet i inside.0)
same_ends d t h (If arm other rest) inside =
    pop_ends (Same (links d.world)) d.leaf.operands _ (λ a below. gives _ Quiet (stands d t _ refl refl refl))
same_ends d t h (Loop count body rest) inside = gives _ Quiet (stands d t _ refl refl refl)

-- a leaf that exits, and who waits for it
exits_there : (name : List ℕ) (cs : List Component) (leaves : List Leaf) (y : ℕ) (leaf : Leaf) → slice_get leaves y ≡ Some leaf → leaf.phase ≡ Exited
    → (l : Leaf) × (slice_get (all_released name cs leaves) y ≡ Some l) × (l.phase ≡ Exited)
exits_there name [] leaves y leaf there exits = (leaf, there, exits)
exits_there name (c ∷ cs) [] y leaf there exits = absurd (none_some there)
exits_there name (c ∷ cs) (l ∷ leaves) zero leaf there exits =
    (record l { phase = released name c.node.after l.phase }, refl, ap (released name c.node.after) (ap (λ (m : Leaf). m.phase) (some_same there) ∙ exits))
exits_there name (c ∷ cs) (l ∷ leaves) (suc y) leaf there exits = exits_there name cs leaves y leaf there exits

-- a statement asks nothing of a session, or it is one of four
data Asking (i : Instruction) : Type 0 where
  Own_one : (own : IsOfOwn i) → Asking i
  Opens : (place : OperandSlot) (service : List ℕ) (n : ℕ) (is : i ≡ Open place service n) → Asking i
  Upgrades : (place : OperandSlot) (n : ℕ) (is : i ≡ Upgrade place n) → Asking i
  Calls : (place : OperandSlot) (is : i ≡ Call place) → Asking i
  Closes : (place : OperandSlot) (is : i ≡ Close place) → Asking i

asking : (i : Instruction) → Asking i
asking (Open place service n) = Opens place service n refl
asking (Upgrade place n) = Upgrades place n refl
asking (Call place) = Calls place refl
asking (Close place) = Closes place refl
asking i = Own_one tt

abbrev phase_in : Stance → Phase
phase_in s = s.phase

-- between two requests, or back in `main` of its own
abbrev HasEnded : Option Leaf → Type 0
HasEnded None = ⊥
HasEnded (Some leaf) = (leaf.current ≡ None) × (leaf.reacting ≡ None) × ((leaf.phase ≡ Serving) ⊎ (leaf.phase ≡ Running))

module _ (d : Doing) (t : TakesLeaf d) (h : IsLinkedWorld d.system d.world) where
  -- if the leaf is in its phase, the rest is as it was
  abbrev P : World → Type 0
  P v = (leaf : Leaf) → slice_get v.leaves d.x ≡ Some leaf → leaf.phase ≡ d.leaf.phase → LeavesAll d.world d.x v

  self : P d.world
  self leaf there same = leaves_self d.world d.x

  -- INSIDE A SECTION

  else : (k : ℕ) (old : Session) → session_at d.world k ≡ Some old → old.server ≢ d.x → (o : Option Current) → d.leaf.current ≡ o → IsElse k o
  else k old there ne None is = tt
  else k old there ne (Some g) is = λ same.
      let m = h.handles d.x d.leaf.phase g (stood d t ∙ ap (λ o. Some (stance d.leaf.phase o)) is) in
      ne (ap (λ (s : Session). s.server) (some_same (sym (ap outline_in there) ∙ (ap (links d.world).sessions (sym same) ∙ m.1))) ∙ m.2)

  keeps_for : (k : ℕ) (o new : Option Session) → session_at d.world k ≡ o → KeepsSessionIn d.leaf.current k o new → KeepsFor d.x o new
  keeps_for k None new there keeps = keeps
  keeps_for k (Some old) new there keeps = (
    keeps.0,
    keeps.1,
    keeps.2.rest,
    λ ne r.
        let object = price_stays r old.object keeps.0.object keeps.2.object in
        let slots = prices_stay r old.slots keeps.0.slots (keeps.2.slots (else k old there ne d.leaf.current refl)) in
        omega (arith, object, slots),
  )

  inside_ends : IsInside d.leaf.todo d.leaf.loops → Ends P (perform d d.leaf.todo)
  inside_ends inside = record {
    holds = λ v event e leaf there phase.
        let others = keeps_to_itself d v event inside e in
        record {
          leaves = others.leaves;
          stances = ((same_ends d t h d.leaf.todo inside).holds v event e).stances;
          requests = others.requests;
          count = (perform_count d d.leaf.todo inside).holds v event e;
          sessions = λ k. keeps_for k (session_at d.world k) (session_at v k) refl (others.sessions k);
        };
  }

  inside_as : (todo : Statements) → d.leaf.todo ≡ todo → IsInside todo d.leaf.loops → Ends P (perform d todo)
  inside_as todo is inside =
      subst (λ l. Ends P (perform d l)) is (inside_ends (subst (λ l. IsInside l d.leaf.loops) (sym is) inside))

  -- STEPS THAT CHANGE THE PHASE

  moved : (v : World) (s : Stance) → stance_in (slice_get v.leaves d.x) ≡ Some s → (s.phase ≡ d.leaf.phase → ⊥) → P v
  moved v s is ne leaf there same = absurd (ne (ap phase_in (some_same (sym is ∙ ap stance_in there)) ∙ same))

  -- a request of the leaf
  asked_moves : (phase : d.leaf.phase ≢ Blocked) (leaf : Leaf) (v : World) (q : SlotId) (k : ℕ) (ask : Ask) (old : Leaf) → slice_get v.leaves d.x ≡ Some old
      → Ends P (asked (record d { leaf = leaf }) v q k ask)
  asked_moves phase leaf v q k ask old there =
      let e : Doing = record d { leaf = leaf } in
      when_ends P _ _ _ (gives _ Quiet (moved _ (stance Blocked leaf.current)
      (slot_stances (blocking e v) q (Waiting k) d.x ∙ leaf_stance v d.x old (record leaf { phase = Blocked }) there) (λ same. phase (sym same))))

  link_moves : (phase : d.leaf.phase ≢ Blocked) (e : Doing) (place : OperandSlot) (go : SlotId → ℕ → Session → Stepped)
      → ((q : SlotId) (k : ℕ) (s : Session) → Ends P (go q k s)) → Ends P (link_at e place go)
  link_moves phase e place go f =
      need_ends P (slot_id_of e.x e.leaf.current place) WrongKind _ (λ q. link_in_ends P e.world (slot_at e.world q) (go q) (λ k s. f q k s))

  module _ (phase : d.leaf.phase ≢ Blocked) (todo : Statements) where
    abbrev e : Doing
    e = record d { leaf = record d.leaf { todo = todo } }

    -- the leaf is there
    abbrev There : World → Type 0
    There v = (l : Leaf) × (slice_get v.leaves d.x ≡ Some l)

    open_moves : (place : OperandSlot) (service : List ℕ) (n : ℕ) → Ends P (open_session e place service n)
    open_moves place service n =
        let k = free_place d.world.sessions in
        let donation = amount n (open_caps (interface_in service d.system.interfaces)) in
        need_ends P (slot_id_of d.x d.leaf.current place) WrongKind _ (λ q.
        fill_ends P There (λ v p slot l. leaf_in_slot v p slot d.x l.0 l.1) d.world q (slot_at d.world q) (Waiting k) _ (t.old, t.there)
        (λ v l. need_ends P (server_of d.system d.component service) WrongKind _ (λ server.
        asked_moves phase e.leaf (record v { sessions = add_session (new_session d.x q server service donation) v.sessions }) q k Ask_open l.0 l.1)))

    upgrade_moves : (place : OperandSlot) (n : ℕ) → Ends P (upgrade e place n)
    upgrade_moves place n =
        link_moves phase e place _ (λ q k s.
        asked_moves phase e.leaf
        (with_session d.world k (record s { donation = plus s.donation (amount n (upgrade_caps (interface_in s.service d.system.interfaces) s.level)) })) q k
        Ask_upgrade t.old t.there)

    call_moves : (place : OperandSlot) → Ends P (call e place)
    call_moves place = pop_ends P d.leaf.operands _ (λ a rest.
        let f : Doing = record e { leaf = with_operands e rest } in
        link_moves phase f place _ (λ q k s. asked_moves phase (with_operands e rest) d.world q k (Ask_call a) t.old t.there))

    close_moves : (place : OperandSlot) → Ends P (close e place)
    close_moves place = link_moves phase e place _ (λ q k s. asked_moves phase e.leaf d.world q k Ask_close t.old t.there)

    ask_moves : (i : Instruction) → (IsOfOwn i → Ends P (instruct e i)) → Ends P (instruct e i)
    ask_moves i own = by (asking i)
      where
        by : Asking i → Ends P (instruct e i)
        by (Own_one o) = own o
        by (Opens place service n is) = subst (λ j. Ends P (instruct e j)) (sym is) (open_moves place service n)
        by (Upgrades place n is) = subst (λ j. Ends P (instruct e j)) (sym is) (upgrade_moves place n)
        by (Calls place is) = subst (λ j. Ends P (instruct e j)) (sym is) (call_moves place)
        by (Closes place is) = subst (λ j. Ends P (instruct e j)) (sym is) (close_moves place)

  -- the end of `main`, or of what is done for a signal
  serves_moves : (serves : Serving ≡ d.leaf.phase → ⊥) → Ends P (Ok (standing d (serving d.leaf), Quiet))
  serves_moves serves = gives _ Quiet (moved _ (stance Serving None) (leaf_stance d.world d.x t.old (serving d.leaf) t.there) serves)

  main_moves : (serves : Serving ≡ d.leaf.phase → ⊥) (exits : Exited ≡ d.leaf.phase → ⊥) (provides : Option (List ℕ)) (signals : ℕ)
      → Ends P (main_ended d provides signals)
  main_moves serves exits (Some service) signals = serves_moves serves
  main_moves serves exits None (suc n) = serves_moves serves
  main_moves serves exits None zero = when_ends P (no_link d.leaf.slots) WrongKind _ (gives (exit_of d) Finished gone)
    where
      gone : P (exit_of d)
      gone =
          let l = exits_there d.component.node.name d.system.components (standing d (exited d.leaf)).leaves d.x (exited d.leaf)
          (set_here d.world.leaves d.x (exited d.leaf) t.old t.there) refl in
          moved (exit_of d) (stance l.0.phase l.0.current) (ap stance_in l.1) (λ same. exits (sym l.2 ∙ same))

  -- the end of a section for a session
  abbrev R : World → Type 0
  R v = HasEnded (slice_get v.leaves d.x)

  -- of a leaf with other parts
  ends_with : (v : World) (y : ℕ) (leaf new : Leaf) → slice_get v.leaves y ≡ Some leaf → (HasEnded (Some leaf) → HasEnded (Some new)) → R v
      → R (with_leaf v y new)
  ends_with v y leaf new there same ended =
      elim (eqb_tells d.x y) [
        | inl e ↦ subst HasEnded (sym (ap (λ z. slice_get (slice_set v.leaves y new) z) e.1 ∙ set_here v.leaves y new leaf there))
            (same (subst HasEnded (ap (λ z. slice_get v.leaves z) e.1 ∙ there) ended))
        | inr e ↦ subst HasEnded (sym (set_else v.leaves y d.x new e.1)) ended
      ]

  ends_slot : (v : World) (q : SlotId) (slot : Slot) → R v → R (with_slot v q slot)
  ends_slot = slot_by R (λ v y leaf slots there ended. ends_with v y leaf (record leaf { slots = slots }) there (λ h. h) ended) (λ v sessions ended. ended)

  resumes : (v : World) (y : ℕ) (f : List ℕ → List ℕ) → R v → R (unblocked v y f)
  resumes v y f ended = by (slice_get v.leaves y) refl
    where
      by : (o : Option Leaf) → slice_get v.leaves y ≡ o → R (active_again v y f o)
      by None there = ended
      by (Some leaf) there =
          ends_with v y leaf (record leaf { phase = resumed leaf.current leaf.reacting; operands = f leaf.operands }) there
          (λ h. (h.0, h.1, inr (ap₂ resumed h.0 h.1))) ended

  reply_moves : (handles : d.leaf.phase ≡ Handling) (g : Current) (reacting : Option ℕ) → Ends P (section_ended d (Some g) reacting)
  reply_moves handles g reacting = need_ends P (session_at d.world g.session) WrongKind _ (λ s. record {
    holds = λ v event e.
        ended v ((reply_by d R ends_slot (subst HasEnded (sym (set_here d.world.leaves d.x (serving d.leaf) t.old t.there)) (refl, refl, inl refl))
        resumes (λ v k r. r) g.session g.section s).holds v event e);
  })
    where
      serves : Serving ≡ Handling → ⊥
      serves e = cc

      runs : Running ≡ Handling → ⊥
      runs e = cc

      ended : (v : World) → R v → P v
      ended v r leaf there same =
          elim (subst HasEnded there r).2 [
            | inl e ↦ absurd (serves (sym e ∙ (same ∙ handles)))
            | inr e ↦ absurd (runs (sym e ∙ (same ∙ handles)))
          ]

  fits : Fits d.leaf.phase d.leaf.current
  fits = h.fits d.x (stance d.leaf.phase d.leaf.current) (stood d t)

  -- a leaf that runs or handles does not serve and has not exited
  other : (phase : Phase) → (phase ≡ Running → ⊥) → (phase ≡ Handling → ⊥) → (d.leaf.phase ≡ Running) ⊎ (d.leaf.phase ≡ Handling)
      → phase ≡ d.leaf.phase → ⊥
  other phase runs handles active same = elim active [ inl e ↦ runs (same ∙ e) | inr e ↦ handles (same ∙ e) ]

  serves_not : (d.leaf.phase ≡ Running) ⊎ (d.leaf.phase ≡ Handling) → Serving ≡ d.leaf.phase → ⊥
  serves_not = other Serving (λ e. runs e) (λ e. handles e)
    where
      runs : Serving ≡ Running → ⊥
      runs e = cc

      handles : Serving ≡ Handling → ⊥
      handles e = cc

  exits_not : (d.leaf.phase ≡ Running) ⊎ (d.leaf.phase ≡ Handling) → Exited ≡ d.leaf.phase → ⊥
  exits_not = other Exited (λ e. runs e) (λ e. handles e)
    where
      runs : Exited ≡ Running → ⊥
      runs e = cc

      handles : Exited ≡ Handling → ⊥
      handles e = cc

  section_moves : (active : (d.leaf.phase ≡ Running) ⊎ (d.leaf.phase ≡ Handling)) (current : Option Current) (reacting : Option ℕ) → d.leaf.current ≡ current
      → Ends P (section_ended d current reacting)
  section_moves active None None is = main_moves (serves_not active) (exits_not active) d.component.node.provides d.component.node.signals
  section_moves active None (Some i) is = serves_moves (serves_not active)
  section_moves (inl e) (Some g) reacting is = absurd (subst (λ p. Fits p (Some g)) e (subst (Fits d.leaf.phase) is fits))
  section_moves (inr e) (Some g) reacting is = reply_moves e g reacting

  awake : (d.leaf.phase ≡ Running) ⊎ (d.leaf.phase ≡ Handling) → d.leaf.phase ≢ Blocked
  awake (inl e) f = runs (sym e ∙ f)
    where
      runs : Running ≡ Blocked → ⊥
      runs e = cc
  awake (inr e) f = handles (sym e ∙ f)
    where
      handles : Handling ≡ Blocked → ⊥
      handles e = cc

  perform_ends : (active : (d.leaf.phase ≡ Running) ⊎ (d.leaf.phase ≡ Handling)) (todo : Statements) → d.leaf.todo ≡ todo
      → AllAre (IsGood d.system d.component) todo → Ends P (perform d todo)
  perform_ends active Done is good = by d.leaf.loops refl
    where
      by : (loops : List Round) → d.leaf.loops ≡ loops → Ends P (body_ended d loops)
      by [] at = section_moves active d.leaf.current d.leaf.reacting refl
      by (r ∷ loops) at = subst (λ l. Ends P (body_ended d l)) at (inside_as Done is (subst (λ l. IsInside Done l) (sym at) tt))
  perform_ends active (Do i rest) is good =
      ask_moves (awake active) rest i (λ own. inside_as (Do i rest) is (own, good.0.0))
  perform_ends active (If arm other rest) is good = inside_as (If arm other rest) is tt
  perform_ends active (Loop count body rest) is good = inside_as (Loop count body rest) is good.0

  -- a request that is taken up
  accept_moves : (serves : d.leaf.phase ≡ Serving) (found : Option (Request × List Request)) → Ends P (accept_oldest d found)
  accept_moves serves None = gives d.world Idle self
  accept_moves serves (Some p) = accept_by P d p.0 p.1 (λ old there. moved (taken d p.0 p.1 old)
      (stance Handling (begun d p.0 old).current) (leaf_stance d.world d.x t.old (begun d p.0 old) t.there) (λ same. handles (same ∙ serves)))
    where
      handles : Handling ≡ Serving → ⊥
      handles e = cc

  -- a signal that is taken
  serve_moves : (serves : d.leaf.phase ≡ Serving) (f : Option (ℕ × List Signal)) → Ends P (serve d f)
  serve_moves serves None = accept_moves serves (oldest d.world d.x d.world.requests)
  serve_moves serves (Some p) = need_ends P _ _ _ (λ body. gives _ Quiet (moved _
      (stance Handling d.leaf.current) (leaf_stance d.world d.x t.old (reacting_to d.leaf p.0 p.1 body) t.there) (λ same. handles (same ∙ serves))))
    where
      handles : Handling ≡ Serving → ⊥
      handles e = cc

  step_ends : AllAre (IsGood d.system d.component) d.leaf.todo → (phase : Phase) → d.leaf.phase ≡ phase → Ends P (step_in d phase)
  step_ends good Pending e = gives d.world Idle self
  step_ends good Running e = perform_ends (inl e) d.leaf.todo refl good
  step_ends good Blocked e = gives d.world Idle self
  step_ends good Serving e = serve_moves e (first_signal d.leaf.signals)
  step_ends good Handling e = perform_ends (inr e) d.leaf.todo refl good
  step_ends good Exited e = gives d.world Idle self

module _ (s : Scenario) (w : World) (x : ℕ) (h : Stands s w) (old : Leaf) (there : slice_get w.leaves x ≡ Some old) where
  -- the same of a world by its own
  abbrev Left : World → Type 0
  Left v = (leaf : Leaf) → slice_get v.leaves x ≡ Some leaf → leaf.phase ≡ old.phase → LeavesAll w x v

  next_by : (c : Option Component) → slice_get (system s).components x ≡ c → Ends Left (step_of (system s) w x c (Some old))
  next_by None at = gives w Idle (λ leaf found same. leaves_self w x)
  next_by (Some c) at =
      step_ends (record { system = system s; world = w; x = x; component = c; leaf = record old { steps = suc old.steps } })
      (record { old = old; there = there; slots = refl; phase = refl; current = refl; reacting = refl }) h.linked ((h.left x c old at there).todo) old.phase
      refl

  pub leaves_all : (new : World) (event : Event) → next (system s) w x ≡ Ok (new, event) → (leaf : Leaf) → slice_get new.leaves x ≡ Some leaf
      → leaf.phase ≡ old.phase → LeavesAll w x new
  leaves_all new event e leaf found same =
      (next_by (slice_get (system s).components x) refl).holds new event
      (subst (λ o. step_of (system s) w x (slice_get (system s).components x) o ≡ Ok (new, event)) there e) leaf found same
