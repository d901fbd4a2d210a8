-- Worlds stay whole.
use Rattle.std.proofs.Common.{◌≡◌, ℕ, zero, suc, ◌<◌, inl, inr, Bool, true, false, cond, nat_lt, List, [], ◌∷◌, length, length-set, Option, Some, None, Ok}
use Rattle.std.proofs.Common.{refl, ap, sym, ◌∙◌, subst, arith}
use Rattle.std.specs.Prelude.{slice_get, slice_index, slice_set, replicate}
use Rattle.gq_tariff.specs.Prices.{classes}
use Rattle.gq_model.specs.machine.Program.{Statements, Done, Do, If, Loop, section_in}
use Rattle.gq_model.specs.declared.program.OperandSlot.{OperandSlot}
use Rattle.gq_model.specs.declared.program.Instruction.{Instruction}
use Rattle.gq_model.specs.declared.phase.Phase.{Phase}
use Rattle.gq_model.specs.declared.phase.Phase.TheVariants.{Pending, Running, Blocked, Serving, Handling, Exited}
use Rattle.gq_model.specs.declared.fault.Wrong.TheVariants.{WrongKind, MissingSection}
use Rattle.gq_model.specs.machine.Amounts.{amount}
use Rattle.gq_model.specs.machine.Scenario.{System, Component, interface_in, open_caps}
use Rattle.gq_model.specs.machine.Routes.{server_of}
use Rattle.gq_model.specs.machine.World.{Slot, Waiting, SlotId, In_leaf, In_session, In_object, Session, Ask, Ask_open, Ask_upgrade, Ask_close, Ask_call}
use Rattle.gq_model.specs.machine.World.{Signal}
use Rattle.gq_model.specs.machine.World.{Request, Current, Round, Leaf, World, start_leaves, start, joined, session_at, slot_at, slot_id_of, with_leaf}
use Rattle.gq_model.specs.machine.World.{with_session}
use Rattle.gq_model.specs.machine.World.{with_slot, put_leaf_slot, put_session_slot, put_object}
use Rattle.gq_model.specs.machine.Sums.{raised}
use Rattle.gq_model.specs.machine.Doing.{Doing, Event, standing, settled}
use Rattle.gq_model.specs.machine.Requests.{add_session, free_place, new_session, asked, open_session, upgrade}
use Rattle.gq_model.specs.machine.Step.{instruct, oldest, accepted_as, accept, serving, active_again, serve, first_signal}
use Rattle.gq_model.specs.machine.Step.{unblocked, all_released, exited, exit_of, main_ended, section_ended, body_ended, perform}
use Rattle.gq_model.specs.machine.Step.{accept_oldest, step_in, step_of, next}
use Rattle.gq_laws.specs.Shapes.{Each, IsWholeLeaf, AreInputs, IsWholeSession, IsWholeWorld}
use Rattle.gq_laws.proofs.step_shapes.Step_end_shapes.{Ends, gives, need_ends, need_found, when_ends, pop_ends, link_in_found}
use Rattle.gq_laws.proofs.step_shapes.Step_end_shapes.{fill_ends}
use Rattle.gq_model.proofs.Small_facts.{none_some, some_same}
use Rattle.gq_laws.proofs.step_shapes.Step_end_worlds.{begun}
use Rattle.gq_laws.proofs.remaining_work.Remaining_program_statements.{set_get}
use Rattle.std.proofs.lemmas.Option.{slice_get_within}
use Rattle.gq_model.proofs.Component_laws.{server_below}
use Rattle.gq_laws.proofs.step_shapes.Step_change_shapes.{instruct_by, section_by, accept_by}
use Rattle.gq_model.specs.declared.section.Section.TheVariants.{Reacting}
use Rattle.gq_laws.proofs.step_shapes.Signal_lists.{takes_first}
use Rattle.std.proofs.lemmas.List.{length-replicate}

-- LISTS

each_set : {A : Type 0} (P : A → Type 0) (items : List A) (i : ℕ) (a : A) → Each P items → P a → Each P (slice_set items i a)
each_set P [] i a h p = tt
each_set P (b ∷ rest) zero a h p = (p, h.1)
each_set P (b ∷ rest) (suc i) a h p = (h.0, each_set P rest i a h.1 p)

pub each_get : {A : Type 0} (P : A → Type 0) (items : List A) (i : ℕ) (a : A) → Each P items → slice_get items i ≡ Some a → P a
each_get P [] i a h e = absurd (none_some e)
each_get P (b ∷ rest) zero a h e = subst P (some_same e) h.0
each_get P (b ∷ rest) (suc i) a h e = each_get P rest i a h.1 e

-- INPUTS

zeros_index : (n i : ℕ) → slice_index (replicate n 0) i ≡ 0
zeros_index zero i = refl
zeros_index (suc n) zero = refl
zeros_index (suc n) (suc i) = zeros_index n i

-- inputs that are 0 are at most anything
zero_inputs : (greatest : List ℕ) → AreInputs greatest (replicate 8 0)
zero_inputs greatest i n e = let zero = zeros_index 8 i in omega (arith, zero)

-- a leaf that is there after others are released was there before, with the same inputs and signals
released_inputs : (name : List ℕ) (cs : List Component) (leaves : List Leaf) (y : ℕ) (leaf : Leaf) → slice_get (all_released name cs leaves) y ≡ Some leaf
    → (old : Leaf) × (slice_get leaves y ≡ Some old) × (old.inputs ≡ leaf.inputs) × (old.signals ≡ leaf.signals)
released_inputs name [] leaves y leaf e = (leaf, e, refl, refl)
released_inputs name (c ∷ cs) [] y leaf e = absurd (none_some e)
released_inputs name (c ∷ cs) (l ∷ leaves) zero leaf e =
    (l, refl, ap (λ (l : Leaf). l.inputs) (some_same e), ap (λ (l : Leaf). l.signals) (some_same e))
released_inputs name (c ∷ cs) (l ∷ leaves) (suc y) leaf e = released_inputs name cs leaves y leaf e

-- WORLDS

module _ (system : System) where
  abbrev n : ℕ
  n = length system.components

  abbrev Whole : World → Type 0
  Whole w = IsWholeWorld system w

  -- the x-th leaf may have these inputs and signals
  abbrev May : ℕ → Leaf → Type 0
  May x leaf = (c : Component) → slice_get system.components x ≡ Some c → AreInputs c.node.inputs leaf.inputs × (length leaf.signals ≡ c.node.signals)

  whole_leaf : (w : World) (x : ℕ) (leaf : Leaf) → Whole w → IsWholeLeaf leaf → May x leaf → Whole (with_leaf w x leaf)
  whole_leaf w x leaf h fits may = record {
    count = length-set w.leaves x leaf ∙ h.count;
    leaves = each_set IsWholeLeaf w.leaves x leaf h.leaves fits;
    inputs = λ y c new placed e. (each y c new placed e).0;
    signals = λ y c new placed e. (each y c new placed e).1;
    sessions = h.sessions;
  }
    where
      each : (y : ℕ) (c : Component) (new : Leaf) → slice_get system.components y ≡ Some c → slice_get (slice_set w.leaves x leaf) y ≡ Some new
          → AreInputs c.node.inputs new.inputs × (length new.signals ≡ c.node.signals)
      each y c new placed e =
          elim (set_get w.leaves x y leaf new e) [
            | inl f ↦ subst (λ (l : Leaf). AreInputs c.node.inputs l.inputs × (length l.signals ≡ c.node.signals)) f.1
                (may c (ap (slice_get system.components) (sym f.0) ∙ placed))
            | inr f ↦ (h.inputs y c new placed f, h.signals y c new placed f)
          ]

  -- what a leaf that is there has
  may_still : (w : World) (x : ℕ) (leaf : Leaf) → Whole w → slice_get w.leaves x ≡ Some leaf → May x leaf
  may_still w x leaf h there c placed = (h.inputs x c leaf placed there, h.signals x c leaf placed there)

  whole_session : (w : World) (k : ℕ) (s : Session) → Whole w → IsWholeSession n (Some s) → Whole (with_session w k s)
  whole_session w k s h fits = record {
    count = h.count;
    leaves = h.leaves;
    inputs = h.inputs;
    signals = h.signals;
    sessions =
        each_set (IsWholeSession n) w.sessions k (Some s) h.sessions fits;
  }

  -- a session that is there is whole
  session_of : (w : World) (k : ℕ) (s : Session) → Whole w → session_at w k ≡ Some s → IsWholeSession n (Some s)
  session_of w k s h e = go (slice_get w.sessions k) refl e
    where
      go : (o : Option (Option Session)) → slice_get w.sessions k ≡ o → joined o ≡ Some s → IsWholeSession n (Some s)
      go None there e = absurd (none_some e)
      go (Some t) there e = subst (IsWholeSession n) e (each_get (IsWholeSession n) w.sessions k t h.sessions there)

  whole_slot : (w : World) (slot_id : SlotId) (slot : Slot) → Whole w → Whole (with_slot w slot_id slot)
  whole_slot w (In_leaf x i) slot h = go (slice_get w.leaves x) refl
    where
      go : (o : Option Leaf) → slice_get w.leaves x ≡ o → Whole (put_leaf_slot w o x i slot)
      go None e = h
      go (Some leaf) e = let fits = each_get IsWholeLeaf w.leaves x leaf h.leaves e in
          whole_leaf w x _ h (length-set leaf.slots i slot ∙ fits.0, fits.1, fits.2, fits.3) (may_still w x leaf h e)
  whole_slot w (In_session k i) slot h = go (session_at w k) refl
    where
      go : (o : Option Session) → session_at w k ≡ o → Whole (put_session_slot w o k i slot)
      go None e = h
      go (Some s) e = let fits = session_of w k s h e in whole_session w k _ h (length-set s.slots i slot ∙ fits.0, fits.1, fits.2)
  whole_slot w (In_object k) slot h = go (session_at w k) refl
    where
      go : (o : Option Session) → session_at w k ≡ o → Whole (put_object w o k slot)
      go None e = h
      go (Some s) e = whole_session w k _ h (session_of w k s h e)

  length-raised : (w : World) (x : ℕ) (leaf : Leaf) (cs peaks : List ℕ) → length peaks ≡ length cs → length (raised w x leaf cs peaks) ≡ length cs
  length-raised w x leaf [] peaks e = refl
  length-raised w x leaf (c ∷ cs) [] e = e
  length-raised w x leaf (c ∷ cs) (peak ∷ peaks) e = ap suc (length-raised w x leaf cs peaks (less e))
    where
      less : {a b : ℕ} → suc a ≡ suc b → a ≡ b
      less e = omega (arith, e)

  whole_settled : (x : ℕ) (w : World) → Whole w → Ends Whole (settled system x w)
  whole_settled x w h =
      need_found Whole (slice_get w.leaves x) WrongKind _ (λ leaf there.
      let fits = each_get IsWholeLeaf w.leaves x leaf h.leaves there in
      when_ends Whole _ _ _ (gives _ _ (whole_leaf w x _ h (fits.0, fits.1, length-raised w x leaf classes leaf.peaks fits.2, fits.3)
      (may_still w x leaf h there))))

  whole_active : (w : World) (x : ℕ) (f : List ℕ → List ℕ) → Whole w → Whole (unblocked w x f)
  whole_active w x f h = go (slice_get w.leaves x) refl
    where
      go : (o : Option Leaf) → slice_get w.leaves x ≡ o → Whole (active_again w x f o)
      go None e = h
      go (Some leaf) e = whole_leaf w x _ h (each_get IsWholeLeaf w.leaves x leaf h.leaves e) (may_still w x leaf h e)

  each_added : (s : Session) (sessions : List (Option Session)) → Each (IsWholeSession n) sessions → IsWholeSession n (Some s)
      → Each (IsWholeSession n) (add_session s sessions)
  each_added s [] h fits = (fits, tt)
  each_added s (None ∷ rest) h fits = (fits, h.1)
  each_added s (Some t ∷ rest) h fits = (h.0, each_added s rest h.1 fits)

  each_released : (name : List ℕ) (components : List Component) (leaves : List Leaf) → Each IsWholeLeaf leaves
      → Each IsWholeLeaf (all_released name components leaves)
  each_released name [] leaves h = h
  each_released name (c ∷ components) [] h = tt
  each_released name (c ∷ components) (leaf ∷ leaves) h = (h.0, each_released name components leaves h.1)

length-released : (name : List ℕ) (components : List Component) (leaves : List Leaf) → length (all_released name components leaves) ≡ length leaves
length-released name [] leaves = refl
length-released name (c ∷ components) [] = refl
length-released name (c ∷ components) (leaf ∷ leaves) = ap suc (length-released name components leaves)

-- STEPS

accepted_whole : (system : System) (ask : Ask) (m : ℕ) (s : Session) → IsWholeSession m (Some s) → IsWholeSession m (Some (accepted_as system ask s))
accepted_whole system Ask_open m s h = h
accepted_whole system Ask_upgrade m s h = h
accepted_whole system Ask_close m s h = h
accepted_whole system (Ask_call value) m s h = h

asked_whole : (d : Doing) (w : World) (slot_id : SlotId) (k : ℕ) (ask : Ask) → IsWholeWorld d.system w → IsWholeLeaf d.leaf → May d.system d.x d.leaf
    → Ends (IsWholeWorld d.system) (asked d w slot_id k ask)
asked_whole d w slot_id k ask hw fits may =
    let v = whole_slot d.system _ slot_id (Waiting k) (whole_leaf d.system w d.x _ hw fits may) in
    when_ends (IsWholeWorld d.system) _ _ _ (gives _ _ (record {
      count = v.count;
      leaves = v.leaves;
      inputs = v.inputs;
      signals = v.signals;
      sessions = v.sessions;
    }))

-- a step of a whole leaf in a whole world
module _ (d : Doing) (h : IsWholeWorld d.system d.world) (fits : IsWholeLeaf d.leaf) (may : May d.system d.x d.leaf)
    (below : d.x < length d.system.components) where
  abbrev P : World → Type 0
  P w = IsWholeWorld d.system w

  stands : (leaf : Leaf) → IsWholeLeaf leaf → May d.system d.x leaf → P (standing d leaf)
  stands leaf whole now = whole_leaf d.system d.world d.x leaf h whole now

  asked_ends : (w : World) (slot_id : SlotId) (k : ℕ) (ask : Ask) → P w → Ends P (asked d w slot_id k ask)
  asked_ends w slot_id k ask hw = asked_whole d w slot_id k ask hw fits may

  open_ends : (place : OperandSlot) (service : List ℕ) (m : ℕ) → Ends P (open_session d place service m)
  open_ends place service m =
      need_ends P (slot_id_of d.x d.leaf.current place) WrongKind _
      (λ slot_id. fill_ends P P (whole_slot d.system) d.world slot_id (slot_at d.world slot_id) (Waiting (free_place d.world.sessions)) _ h
      (λ w hw. need_found P (server_of d.system d.component service) WrongKind _ (λ server found.
      let session = new_session d.x slot_id server service (amount m (open_caps (interface_in service d.system.interfaces))) in
      let there = server_below d.system d.component service server found in
      asked_ends (record w { sessions = add_session session w.sessions }) slot_id (free_place d.world.sessions) Ask_open
      (record {
        count = hw.count;
        leaves = hw.leaves;
        inputs = hw.inputs;
        signals = hw.signals;
        sessions =
            each_added d.system session w.sessions hw.sessions (refl, below, there);
      }))))

  upgrade_ends : (place : OperandSlot) (m : ℕ) → Ends P (upgrade d place m)
  upgrade_ends place m =
      need_ends P (slot_id_of d.x d.leaf.current place) WrongKind _
      (λ slot_id. link_in_found P d.world (slot_at d.world slot_id) _
      (λ k s there. asked_ends _ slot_id k Ask_upgrade (whole_session d.system d.world k _ h (session_of d.system d.world k s h there))))

  instruct_ends : (i : Instruction) → Ends P (instruct d i)
  instruct_ends i = instruct_by d P P h (whole_slot d.system) (whole_slot d.system)
      (λ w operands locals same hw. whole_leaf d.system w d.x _ hw (fits.0, same ∙ fits.1, fits.2, fits.3) may)
      (λ w operands hw. whole_leaf d.system w d.x _ hw fits may)
      (λ w requests hw. record { count = hw.count; leaves = hw.leaves; inputs = hw.inputs; signals = hw.signals; sessions = hw.sessions })
      (whole_settled d.system d.x) i
      (λ place service m e. open_ends place service m) (λ place m e. upgrade_ends place m)

  exit_ends : P (exit_of d)
  exit_ends =
      let w = stands (exited d.leaf) (refl, refl, refl, refl) (λ c placed. (zero_inputs c.node.inputs, (may c placed).1)) in
      let name = d.component.node.name in
      record {
        count = length-released name d.system.components (standing d (exited d.leaf)).leaves ∙ w.count;
        leaves = each_released d.system name d.system.components (standing d (exited d.leaf)).leaves w.leaves;
        inputs = λ x c leaf placed there.
            let r = released_inputs name d.system.components (standing d (exited d.leaf)).leaves x leaf there in
            subst (AreInputs c.node.inputs) r.2 (w.inputs x c r.0 placed r.1);
        signals = λ x c leaf placed there.
            let r = released_inputs name d.system.components (standing d (exited d.leaf)).leaves x leaf there in
            subst (λ (l : List Signal). length l ≡ c.node.signals) r.3 (w.signals x c r.0 placed r.1);
        sessions = w.sessions;
      }

  main_ends : (provides : Option (List ℕ)) (signals : ℕ) → Ends P (main_ended d provides signals)
  main_ends (Some service) signals = gives _ _ (stands (serving d.leaf) fits may)
  main_ends None (suc n) = gives _ _ (stands (serving d.leaf) fits may)
  main_ends None zero = when_ends P _ _ _ (gives _ _ exit_ends)

  section_ends : (current : Option Current) (reacting : Option ℕ) → Ends P (section_ended d current reacting)
  section_ends current reacting = section_by d P (whole_slot d.system) (stands (serving d.leaf) fits may) (whole_active d.system)
      (λ w k hw. record {
        count = hw.count;
        leaves = hw.leaves;
        inputs = hw.inputs;
        signals = hw.signals;
        sessions = each_set (IsWholeSession (length d.system.components)) w.sessions k None hw.sessions tt;
      })
      (main_ends d.component.node.provides d.component.node.signals) current reacting

  body_ends : (loops : List Round) → Ends P (body_ended d loops)
  body_ends [] = section_ends d.leaf.current d.leaf.reacting
  body_ends (r ∷ loops) = gives _ _ (stands _ (by_round (nat_lt (suc r.round) r.count)) (still (nat_lt (suc r.round) r.count)))
    where
      by_round : (b : Bool) → IsWholeLeaf (cond b (record d.leaf { todo = r.body; loops = record r { round = suc r.round } ∷ loops })
          (record d.leaf { todo = r.rest; loops = loops }))
      by_round true = fits
      by_round false = fits

      still : (b : Bool) → May d.system d.x (cond b (record d.leaf { todo = r.body; loops = record r { round = suc r.round } ∷ loops })
          (record d.leaf { todo = r.rest; loops = loops }))
      still true = may
      still false = may

  accept_ends : (r : Request) (rest : List Request) → Ends P (accept d r rest)
  accept_ends r rest = accept_by P d r rest (λ old there. (
      let w = stands (begun d r old) (fits.0, refl, fits.2, fits.3) may in
      whole_session d.system (record (standing d (begun d r old)) { requests = rest }) r.session (accepted_as d.system r.ask old)
      (record { count = w.count; leaves = w.leaves; inputs = w.inputs; signals = w.signals; sessions = w.sessions })
      (accepted_whole d.system r.ask (length d.system.components) old (session_of d.system d.world r.session old h there))))

perform_ends : (d : Doing) → IsWholeWorld d.system d.world → IsWholeLeaf d.leaf → May d.system d.x d.leaf → d.x < length d.system.components
    → (todo : Statements) → Ends (IsWholeWorld d.system) (perform d todo)
perform_ends d h fits may below Done = body_ends d h fits may below d.leaf.loops
perform_ends d h fits may below (Do i rest) = instruct_ends (record d { leaf = record d.leaf { todo = rest } }) h fits may below i
perform_ends d h fits may below (If arm other rest) =
    pop_ends (IsWholeWorld d.system) _ _ (λ a rest. gives _ _ (stands d h fits may below _ fits may))
perform_ends d h fits may below (Loop count body rest) = gives _ _ (stands d h fits may below _ fits may)

oldest_ends : (d : Doing) → IsWholeWorld d.system d.world → IsWholeLeaf d.leaf → May d.system d.x d.leaf → d.x < length d.system.components
    → (found : Option (Request × List Request)) → Ends (IsWholeWorld d.system) (accept_oldest d found)
oldest_ends d h fits may below None = gives _ _ h
oldest_ends d h fits may below (Some p) = accept_ends d h fits may below p.0 p.1

serve_ends : (d : Doing) → IsWholeWorld d.system d.world → IsWholeLeaf d.leaf → May d.system d.x d.leaf → d.x < length d.system.components
    → (found : Option (ℕ × List Signal)) → first_signal d.leaf.signals ≡ found → Ends (IsWholeWorld d.system) (serve d found)
serve_ends d h fits may below None e = oldest_ends d h fits may below (oldest d.world d.x d.world.requests)
serve_ends d h fits may below (Some p) e = need_ends (IsWholeWorld d.system) (section_in (Reacting p.0) d.component.node.program.sections) MissingSection _
    (λ body. gives _ _ (stands d h fits may below _ (fits.0, refl, fits.2, fits.3)
    (λ c placed. ((may c placed).0, (takes_first d.leaf.signals p e).long ∙ (may c placed).1))))

step_ends : (d : Doing) → IsWholeWorld d.system d.world → IsWholeLeaf d.leaf → May d.system d.x d.leaf → d.x < length d.system.components
    → (phase : Phase) → Ends (IsWholeWorld d.system) (step_in d phase)
step_ends d h fits may below Pending = gives _ _ h
step_ends d h fits may below Running = perform_ends d h fits may below d.leaf.todo
step_ends d h fits may below Blocked = gives _ _ h
step_ends d h fits may below Serving = serve_ends d h fits may below (first_signal d.leaf.signals) refl
step_ends d h fits may below Handling = perform_ends d h fits may below d.leaf.todo
step_ends d h fits may below Exited = gives _ _ h

next_by : (system : System) (w : World) (x : ℕ) (c : Option Component) (leaf : Option Leaf) → IsWholeWorld system w → slice_get system.components x ≡ c
    → slice_get w.leaves x ≡ leaf → Ends (IsWholeWorld system) (step_of system w x c leaf)
next_by system w x (Some c) (Some leaf) h component there =
    step_ends (record { system = system; world = w; x = x; component = c; leaf = record leaf { steps = suc leaf.steps } }) h
    (each_get IsWholeLeaf w.leaves x leaf h.leaves there) (may_still system w x leaf h there) (slice_get_within system.components x c component) leaf.phase
next_by system w x (Some c) None h component there = gives _ _ h
next_by system w x None leaf h component there = gives _ _ h

-- a leaf with other inputs that it may have keeps a world whole
pub whole_set : (system : System) (w : World) (x : ℕ) (leaf : Leaf) (inputs : List ℕ) → slice_get w.leaves x ≡ Some leaf
    → (length leaf.inputs ≡ 8 → length inputs ≡ 8)
    → ((c : Component) → slice_get system.components x ≡ Some c → AreInputs c.node.inputs leaf.inputs → AreInputs c.node.inputs inputs)
    → IsWholeWorld system w → IsWholeWorld system (with_leaf w x (record leaf { inputs = inputs }))
whole_set system w x leaf inputs there count may h =
    let fits = each_get IsWholeLeaf w.leaves x leaf h.leaves there in
    whole_leaf system w x _ h (fits.0, fits.1, fits.2, count fits.3) (λ c placed. let m = may_still system w x leaf h there c placed in (may c placed m.0, m.1))

-- and so does one with as many signals
pub whole_signals : (system : System) (w : World) (x : ℕ) (leaf : Leaf) (signals : List Signal) → slice_get w.leaves x ≡ Some leaf
    → length signals ≡ length leaf.signals → IsWholeWorld system w → IsWholeWorld system (with_leaf w x (record leaf { signals = signals }))
whole_signals system w x leaf signals there same h =
    let fits = each_get IsWholeLeaf w.leaves x leaf h.leaves there in
    whole_leaf system w x _ h fits (λ c placed. let m = may_still system w x leaf h there c placed in (m.0, same ∙ m.1))

-- each step keeps a world whole
pub kept_whole : (system : System) (w : World) (x : ℕ) (new : World) (event : Event) → IsWholeWorld system w → next system w x ≡ Ok (new, event)
    → IsWholeWorld system new
kept_whole system w x new event h stepped = (next_by system w x (slice_get system.components x) (slice_get w.leaves x) h refl refl).holds new event stepped

-- THE START

length-start : (cs : List Component) → length (start_leaves cs) ≡ length cs
length-start [] = refl
length-start (c ∷ rest) = ap suc (length-start rest)

leaves_whole : (cs : List Component) → Each IsWholeLeaf (start_leaves cs)
leaves_whole [] = tt
leaves_whole (c ∷ rest) = ((refl, refl, refl, refl), leaves_whole rest)

start_inputs : (cs : List Component) (x : ℕ) (greatest : List ℕ) (leaf : Leaf) → slice_get (start_leaves cs) x ≡ Some leaf → AreInputs greatest leaf.inputs
start_inputs [] x greatest leaf e = absurd (none_some e)
start_inputs (c ∷ rest) zero greatest leaf e = subst (λ (l : Leaf). AreInputs greatest l.inputs) (some_same e) (zero_inputs greatest)
start_inputs (c ∷ rest) (suc x) greatest leaf e = start_inputs rest x greatest leaf e

start_signals : (cs : List Component) (x : ℕ) (c : Component) (leaf : Leaf) → slice_get cs x ≡ Some c → slice_get (start_leaves cs) x ≡ Some leaf
    → length leaf.signals ≡ c.node.signals
start_signals [] x c leaf placed e = absurd (none_some e)
start_signals (d ∷ rest) zero c leaf placed e =
    (λ i. length ((some_same (sym e) i).signals)) ∙ length-replicate d.node.signals (record { submitted = false; taken = 0 })
    ∙ ap (λ (c : Component). c.node.signals) (some_same placed)
start_signals (d ∷ rest) (suc x) c leaf placed e = start_signals rest x c leaf placed e

pub start_whole : (system : System) → IsWholeWorld system (start system)
start_whole system =
    record {
      count = length-start system.components;
      leaves = leaves_whole system.components;
      inputs = λ x c leaf placed there. start_inputs system.components x c.node.inputs leaf there;
      signals = λ x c leaf placed there. start_signals system.components x c leaf placed there;
      sessions = tt;
    }
