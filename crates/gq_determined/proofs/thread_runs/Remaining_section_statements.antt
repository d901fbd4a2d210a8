-- Each step keeps it that what is left of each leaf to do is made of statements of such a kind, by whether they stand in `main`.
use Rattle.std.proofs.Common.{◌≡◌, ℕ, zero, suc, ◌⊎◌, inl, inr, Bool, true, false, cond, nat_lt, not, List, [], ◌∷◌, Option, Some, None, Ok, refl, sym, ap, ◌∙◌}
use Rattle.std.proofs.Common.{is_some, subst}
use Rattle.std.specs.Prelude.{slice_get, slice_set}
use Rattle.gq_model.specs.machine.Program.{Statements, Done, Do, If, Loop, ◌then◌, section_in, body_of}
use Rattle.gq_model.specs.machine.Sections.{same_section, is_own_section}
use Rattle.gq_model.specs.declared.program.Instruction.{Instruction}
use Rattle.gq_model.specs.declared.section.Section.{Section}
use Rattle.gq_model.specs.declared.section.Section.TheVariants.{Main, Opening, Upgrading, Calling, Closing, Reacting}
use Rattle.gq_model.specs.declared.phase.Phase.{Phase}
use Rattle.gq_model.specs.declared.phase.Phase.TheVariants.{Pending, Running, Blocked, Serving, Handling, Exited}
use Rattle.gq_model.specs.machine.Scenario.{System, Component}
use Rattle.gq_model.specs.machine.World.{Slot, SlotId, Ask, Ask_open, Ask_upgrade, Ask_close, Ask_call, Request, Current, Signal, Round, Leaf, World}
use Rattle.gq_model.specs.machine.World.{first_phase, start_leaf, start_leaves, start, with_leaf, with_slot}
use Rattle.gq_model.specs.machine.Doing.{Doing, Event, standing, settled}
use Rattle.gq_model.specs.machine.Step.{section_for, instruct, oldest, accept, serving, resumed, active_again, unblocked, is_named, released, first_signal}
use Rattle.gq_model.specs.machine.Step.{reacting_to, take_signal, serve, all_released, exited, exit_of, main_ended, section_ended, body_ended}
use Rattle.gq_model.specs.machine.Step.{chosen, perform, accept_oldest, step_in, step_of, next}
use Rattle.gq_laws.specs.Shapes.{Each}
use Rattle.gq_laws.specs.internal.Remaining_instructions.{AllAre}
use Rattle.gq_laws.proofs.step_shapes.Step_end_shapes.{Ends, gives, need_found, when_ends, pop_ends}
use Rattle.gq_model.proofs.Small_facts.{some_same, none_some}
use Rattle.gq_laws.proofs.step_shapes.Step_end_worlds.{begun, section_taken}
use Rattle.gq_laws.proofs.step_shapes.Step_change_shapes.{plain_instruct_by, section_by, accept_by, slot_by}

-- LISTS

-- what stands at a place once an item is replaced
pub set_get : {A : Type 0} (items : List A) (i j : ℕ) (a b : A) → slice_get (slice_set items i a) j ≡ Some b
    → ((j ≡ i) × (a ≡ b)) ⊎ (slice_get items j ≡ Some b)
set_get [] i j a b e = inr e
set_get (c ∷ rest) zero zero a b e = inl (refl, some_same e)
set_get (c ∷ rest) zero (suc j) a b e = inr e
set_get (c ∷ rest) (suc i) zero a b e = inr e
set_get (c ∷ rest) (suc i) (suc j) a b e = elim (set_get rest i j a b e) [ inl h ↦ inl (ap suc h.0, h.1) | inr h ↦ inr h ]

-- nothing is current at a leaf that serves, and it reacts to no signal
abbrev pub IsCalm : Leaf → Type 0
IsCalm leaf = leaf.phase ≡ Serving → (leaf.current ≡ None) × (leaf.reacting ≡ None)

-- a leaf that is there after others are released was there before, with the same left to do
released_get : (name : List ℕ) (cs : List Component) (leaves : List Leaf) (y : ℕ) (leaf : Leaf) → slice_get (all_released name cs leaves) y ≡ Some leaf
    → (old : Leaf) × (slice_get leaves y ≡ Some old) × (old.todo ≡ leaf.todo) × (old.loops ≡ leaf.loops) × (old.current ≡ leaf.current)
    × (IsCalm old → IsCalm leaf)
released_get name [] leaves y leaf e = (leaf, e, refl, refl, refl, λ calm. calm)
released_get name (c ∷ cs) [] y leaf e = absurd (none_some e)
released_get name (c ∷ cs) (l ∷ leaves) zero leaf e = let same = some_same e in (
  l,
  refl,
  ap (λ (l : Leaf). l.todo) same,
  ap (λ (l : Leaf). l.loops) same,
  ap (λ (l : Leaf). l.current) same,
  λ calm. subst IsCalm same (λ serves. calm (was l.phase serves)),
)
  where
    run_pending : Running ≡ Serving → ⊥
    run_pending e = cc

    pending : Pending ≡ Serving → ⊥
    pending e = cc

    -- no leaf begins to serve so
    was : (p : Phase) → released name c.node.after p ≡ Serving → p ≡ Serving
    was Pending e = by (is_named name c.node.after) e
      where
        by : (b : Bool) → cond b Running Pending ≡ Serving → Pending ≡ Serving
        by true e = absurd (run_pending e)
        by false e = absurd (pending e)
    was Running e = e
    was Blocked e = e
    was Serving e = e
    was Handling e = e
    was Exited e = e
released_get name (c ∷ cs) (l ∷ leaves) (suc y) leaf e = released_get name cs leaves y leaf e

-- STATEMENTS

main_same : (s t : Section) → same_section s t ≡ true → is_own_section t ≡ is_own_section s
main_same Main Main e = refl
main_same Opening Opening e = refl
main_same (Upgrading a) (Upgrading b) e = refl
main_same (Calling a) (Calling b) e = refl
main_same (Closing a) (Closing b) e = refl
main_same (Reacting a) (Reacting b) e = refl
main_same Main Opening e = absurd cc
main_same Main (Upgrading b) e = absurd cc
main_same Main (Calling b) e = absurd cc
main_same Main (Closing b) e = absurd cc
main_same Main (Reacting b) e = refl
main_same Opening Main e = absurd cc
main_same Opening (Upgrading b) e = refl
main_same Opening (Calling b) e = refl
main_same Opening (Closing b) e = refl
main_same Opening (Reacting b) e = absurd cc
main_same (Upgrading a) Main e = absurd cc
main_same (Upgrading a) Opening e = refl
main_same (Upgrading a) (Calling b) e = refl
main_same (Upgrading a) (Closing b) e = refl
main_same (Upgrading a) (Reacting b) e = absurd cc
main_same (Calling a) Main e = absurd cc
main_same (Calling a) Opening e = refl
main_same (Calling a) (Upgrading b) e = refl
main_same (Calling a) (Closing b) e = refl
main_same (Calling a) (Reacting b) e = absurd cc
main_same (Closing a) Main e = absurd cc
main_same (Closing a) Opening e = refl
main_same (Closing a) (Upgrading b) e = refl
main_same (Closing a) (Calling b) e = refl
main_same (Closing a) (Reacting b) e = absurd cc
main_same (Reacting a) Main e = refl
main_same (Reacting a) Opening e = absurd cc
main_same (Reacting a) (Upgrading b) e = absurd cc
main_same (Reacting a) (Calling b) e = absurd cc
main_same (Reacting a) (Closing b) e = absurd cc

asked_out : (ask : Ask) (level : ℕ) → is_own_section (section_for ask level) ≡ false
asked_out Ask_open level = refl
asked_out Ask_upgrade level = refl
asked_out Ask_close level = refl
asked_out (Ask_call value) level = refl

module _ (Q : Instruction → Type 0) where
  all_then : (a b : Statements) → AllAre Q a → AllAre Q b → AllAre Q (a then b)
  all_then Done b h k = k
  all_then (Do i rest) b h k = (h.0, all_then rest b h.1 k)
  all_then (If arm other rest) b h k = (h.0, h.1, all_then rest b h.2 k)
  all_then (Loop n body rest) b h k = (h.0, h.1, all_then rest b h.2 k)

  all_chosen : (a : ℕ) (arm other : Statements) → AllAre Q arm → AllAre Q other → AllAre Q (chosen a arm other)
  all_chosen zero arm other h k = k
  all_chosen (suc n) arm other h k = h

-- of a section, where it is of each of these
all_of_body : (Q : Bool → Instruction → Type 0) (s : Section) (b : Bool) → is_own_section s ≡ b → (sections : List (Section × Statements))
    → Each (λ p. AllAre (Q (not (is_own_section p.0))) p.1) sections → AllAre (Q (not b)) (body_of (section_in s sections))
all_of_body Q s b is [] h = tt
all_of_body Q s b is (t ∷ rest) h = by (same_section s t.0) refl (all_of_body Q s b is rest h.1)
  where
    by : (a : Bool) → same_section s t.0 ≡ a → AllAre (Q (not b)) (body_of (section_in s rest))
        → AllAre (Q (not b)) (body_of (cond a (Some t.1) (section_in s rest)))
    by true e k = subst (λ a. AllAre (Q (not a)) t.1) (main_same s t.0 e ∙ is) h.0
    by false e k = k

-- WORLDS

-- of the x-th leaf, by its component and by whether it stands outside `main`
module _ (P : ℕ → Component → Bool → Instruction → Type 0) (system : System) where
  abbrev pub IsLeftTo : (Instruction → Type 0) → Leaf → Type 0
  IsLeftTo Q leaf = AllAre Q leaf.todo × Each (λ r. AllAre Q r.body × AllAre Q r.rest) leaf.loops × IsCalm leaf

  -- what is left to a leaf, if this is its component
  abbrev pub Left : ℕ → Component → Leaf → Type 0
  Left x c leaf = IsLeftTo (P x c (is_some leaf.current)) leaf

  -- of the sections of each program
  abbrev pub AreSections : Type 0
  AreSections = (x : ℕ) (c : Component) → slice_get system.components x ≡ Some c
      → Each (λ p. AllAre (P x c (not (is_own_section p.0))) p.1) c.node.program.sections

  abbrev pub LeftAt : ℕ → Leaf → Type 0
  LeftAt x leaf = (c : Component) → slice_get system.components x ≡ Some c → Left x c leaf

  pub record Lefts (w : World) : Type 0 where
    pub at : (x : ℕ) (leaf : Leaf) → slice_get w.leaves x ≡ Some leaf → LeftAt x leaf

  pub left_leaf : (w : World) (x : ℕ) (leaf : Leaf) → Lefts w → LeftAt x leaf → Lefts (with_leaf w x leaf)
  left_leaf w x leaf h fits = record { at = each }
    where
      each : (y : ℕ) (new : Leaf) → slice_get (slice_set w.leaves x leaf) y ≡ Some new → LeftAt y new
      each y new e c there =
          elim (set_get w.leaves x y leaf new e) [
            | inl f ↦ subst (λ y. Left y c new) (sym f.0) (subst (Left x c) f.1 (fits c (ap (slice_get system.components) (sym f.0) ∙ there)))
            | inr f ↦ h.at y new f c there
          ]

  left_slot : (w : World) (slot_id : SlotId) (slot : Slot) → Lefts w → Lefts (with_slot w slot_id slot)
  left_slot = slot_by Lefts (λ w x leaf slots e h. left_leaf w x _ h (h.at x leaf e)) (λ w sessions h. record { at = h.at })

  left_settled : (x : ℕ) (w : World) → Lefts w → Ends Lefts (settled system x w)
  left_settled x w h = need_found Lefts _ _ _ (λ leaf there. when_ends Lefts _ _ _ (gives _ _ (left_leaf w x _ h (h.at x leaf there))))

  left_active : (w : World) (x : ℕ) (f : List ℕ → List ℕ) → Lefts w → Lefts (unblocked w x f)
  left_active w x f h = go (slice_get w.leaves x) refl
    where
      resumed_serves : (current : Option Current) (reacting : Option ℕ) → resumed current reacting ≡ Serving → ⊥
      resumed_serves None None e = cc
      resumed_serves None (Some i) e = cc
      resumed_serves (Some current) reacting e = cc

      go : (o : Option Leaf) → slice_get w.leaves x ≡ o → Lefts (active_again w x f o)
      go None e = h
      go (Some leaf) e = left_leaf w x _ h (λ c there. (
          let was = h.at x leaf e c there in (was.0, was.1, λ serves. absurd (resumed_serves leaf.current leaf.reacting serves))))

blocked_serves : Blocked ≡ Serving → ⊥
blocked_serves e = cc

handling_serves : Handling ≡ Serving → ⊥
handling_serves e = cc

exited_serves : Exited ≡ Serving → ⊥
exited_serves e = cc

starts_serving : (after : Option (List ℕ)) → first_phase after ≡ Serving → ⊥
starts_serving None e = cc
starts_serving (Some name) e = cc

-- STEPS

module _ (P : ℕ → Component → Bool → Instruction → Type 0) where
  -- a step of a leaf with this component, where this is left to all
  module _ (d : Doing) (programs : AreSections P d.system) (h : Lefts P d.system d.world) (component : slice_get d.system.components d.x ≡ Some d.component)
      (fits : Left P d.system d.x d.component d.leaf) where
    abbrev Q : World → Type 0
    Q w = Lefts P d.system w

    at_place : (leaf : Leaf) → Left P d.system d.x d.component leaf → LeftAt P d.system d.x leaf
    at_place leaf left c there = subst (λ c. Left P d.system d.x c leaf) (some_same (sym component ∙ there)) left

    stands_in : (w : World) (leaf : Leaf) → Q w → Left P d.system d.x d.component leaf → Q (with_leaf w d.x leaf)
    stands_in w leaf hw left = left_leaf P d.system w d.x leaf hw (at_place leaf left)

    stands : (leaf : Leaf) → Left P d.system d.x d.component leaf → Q (standing d leaf)
    stands leaf left = stands_in d.world leaf h left

    same_slot : (w : World) (slot_id : SlotId) (slot : Slot) → Q w → Q (with_slot w slot_id slot)
    same_slot = left_slot P d.system

    same_settled : (w : World) → Q w → Ends Q (settled d.system d.x w)
    same_settled = left_settled P d.system d.x

    instruct_ends : (i : Instruction) → Ends Q (instruct d i)
    instruct_ends i = plain_instruct_by d Q Q h same_slot same_slot (λ w operands locals same hw. stands_in w _ hw fits)
        (λ w operands hw. stands_in w _ hw (fits.0, fits.1, λ serves. absurd (blocked_serves serves))) (λ w requests hw. record { at = hw.at }) same_settled
        (λ w sessions hw. record { at = hw.at }) i

    left_none : Left P d.system d.x d.component (exited d.leaf)
    left_none = (tt, tt, λ serves. absurd (exited_serves serves))

    exit_ends : Q (exit_of d)
    exit_ends = record { at = each }
      where
        each : (y : ℕ) (leaf : Leaf) → slice_get (all_released d.component.node.name d.system.components (standing d (exited d.leaf)).leaves) y ≡ Some leaf
            → LeftAt P d.system y leaf
        each y leaf e c there =
            let was = released_get d.component.node.name d.system.components (standing d (exited d.leaf)).leaves y leaf e in
            let before = (stands (exited d.leaf) left_none).at y was.0 was.1 c there in
            let b = subst (λ o. IsLeftTo P d.system (P y c (is_some o)) was.0) was.4 before in
            let Q = P y c (is_some leaf.current) in
            (subst (AllAre Q) was.2 b.0, subst (Each (λ r. AllAre Q r.body × AllAre Q r.rest)) was.3 b.1, was.5 b.2)

    served : Q (standing d (serving d.leaf))
    served = stands (serving d.leaf) (tt, tt, λ serves. (refl, refl))

    main_ends : (provides : Option (List ℕ)) (signals : ℕ) → Ends Q (main_ended d provides signals)
    main_ends (Some service) signals = gives _ _ served
    main_ends None (suc n) = gives _ _ served
    main_ends None zero = when_ends Q _ _ _ (gives _ _ exit_ends)

    section_ends : (current : Option Current) (reacting : Option ℕ) → Ends Q (section_ended d current reacting)
    section_ends current reacting = section_by d Q same_slot served (left_active P d.system)
        (λ w k hw. record { at = hw.at })
        (main_ends d.component.node.provides d.component.node.signals) current reacting

    -- what is left to it
    abbrev Now : Instruction → Type 0
    Now = P d.x d.component (is_some d.leaf.current)

    body_ends : (loops : List Round) → Each (λ r. AllAre Now r.body × AllAre Now r.rest) loops → Ends Q (body_ended d loops)
    body_ends [] rounds = section_ends d.leaf.current d.leaf.reacting
    body_ends (r ∷ loops) rounds = gives _ _ (stands _ (by (nat_lt (suc r.round) r.count)))
      where
        by : (b : Bool) → Left P d.system d.x d.component (cond b (record d.leaf { todo = r.body; loops = record r { round = suc r.round } ∷ loops })
            (record d.leaf { todo = r.rest; loops = loops }))
        by true = (rounds.0.0, (rounds.0, rounds.1), fits.2)
        by false = (rounds.0.1, rounds.1, fits.2)

    accept_ends : (r : Request) (rest : List Request) → Ends Q (accept d r rest)
    accept_ends r rest = accept_by Q d r rest (λ old there. (
        let body = all_of_body (P d.x d.component) (section_taken d r old) false (asked_out r.ask _) d.component.node.program.sections
        (programs d.x d.component component) in
        record { at = (stands (begun d r old) (body, tt, λ serves. absurd (handling_serves serves))).at }))

  perform_ends : (d : Doing) → AreSections P d.system → Lefts P d.system d.world → slice_get d.system.components d.x ≡ Some d.component
      → Left P d.system d.x d.component d.leaf
      → (todo : Statements) → AllAre (P d.x d.component (is_some d.leaf.current)) todo → Ends (Lefts P d.system) (perform d todo)
  perform_ends d programs h component fits Done left = body_ends d programs h component fits d.leaf.loops fits.1
  perform_ends d programs h component fits (Do i rest) left =
      instruct_ends (record d { leaf = record d.leaf { todo = rest } }) programs h component (left.1, fits.1, fits.2) i
  perform_ends d programs h component fits (If arm other rest) left =
      let Q = P d.x d.component (is_some d.leaf.current) in
      pop_ends (Lefts P d.system) _ _ (λ a below. gives _ _ (stands d programs h component fits _
      (all_then Q (chosen a arm other) rest (all_chosen Q a arm other left.0 left.1) left.2, fits.1, fits.2)))
  perform_ends d programs h component fits (Loop count body rest) left = gives _ _
      (stands d programs h component fits _ (left.1, ((left.1, left.2), fits.1), fits.2))

  oldest_ends : (d : Doing) → AreSections P d.system → Lefts P d.system d.world → slice_get d.system.components d.x ≡ Some d.component
      → Left P d.system d.x d.component d.leaf
      → (found : Option (Request × List Request)) → Ends (Lefts P d.system) (accept_oldest d found)
  oldest_ends d programs h component fits None = gives _ _ h
  oldest_ends d programs h component fits (Some p) = accept_ends d programs h component fits p.0 p.1

  -- the section for a signal is one of the leaf's own
  signal_ends : (d : Doing) → AreSections P d.system → Lefts P d.system d.world → slice_get d.system.components d.x ≡ Some d.component
      → Left P d.system d.x d.component d.leaf → d.leaf.phase ≡ Serving → (p : ℕ × List Signal) → Ends (Lefts P d.system) (take_signal d p.0 p.1)
  signal_ends d programs h component fits serves p = need_found (Lefts P d.system) _ _ _ (λ body found. gives _ _
      (stands d programs h component fits (reacting_to d.leaf p.0 p.1 body) (
        subst (λ o. AllAre (P d.x d.component (is_some o)) body) (sym (fits.2 serves).0)
            (subst (λ o. AllAre (P d.x d.component false) (body_of o)) found
            (all_of_body (P d.x d.component) (Reacting p.0) true refl d.component.node.program.sections (programs d.x d.component component))),
        tt,
        λ e. absurd (handling_serves e),
      )))

  serve_ends : (d : Doing) → AreSections P d.system → Lefts P d.system d.world → slice_get d.system.components d.x ≡ Some d.component
      → Left P d.system d.x d.component d.leaf → d.leaf.phase ≡ Serving → (signal : Option (ℕ × List Signal)) → Ends (Lefts P d.system) (serve d signal)
  serve_ends d programs h component fits serves None = oldest_ends d programs h component fits (oldest d.world d.x d.world.requests)
  serve_ends d programs h component fits serves (Some p) = signal_ends d programs h component fits serves p

  step_ends : (d : Doing) → AreSections P d.system → Lefts P d.system d.world → slice_get d.system.components d.x ≡ Some d.component
      → Left P d.system d.x d.component d.leaf
      → (phase : Phase) → d.leaf.phase ≡ phase → Ends (Lefts P d.system) (step_in d phase)
  step_ends d programs h component fits Pending at = gives _ _ h
  step_ends d programs h component fits Running at = perform_ends d programs h component fits d.leaf.todo fits.0
  step_ends d programs h component fits Blocked at = gives _ _ h
  step_ends d programs h component fits Serving at = serve_ends d programs h component fits at (first_signal d.leaf.signals)
  step_ends d programs h component fits Handling at = perform_ends d programs h component fits d.leaf.todo fits.0
  step_ends d programs h component fits Exited at = gives _ _ h

  next_by : (system : System) → AreSections P system → (w : World) (x : ℕ) (c : Option Component) (leaf : Option Leaf) → Lefts P system w
      → slice_get system.components x ≡ c → slice_get w.leaves x ≡ leaf
      → Ends (Lefts P system) (step_of system w x c leaf)
  next_by system programs w x (Some c) (Some leaf) h component there =
      step_ends (record { system = system; world = w; x = x; component = c; leaf = record leaf { steps = suc leaf.steps } }) programs h component
      (h.at x leaf there c component) leaf.phase refl
  next_by system programs w x (Some c) None h component there = gives _ _ h
  next_by system programs w x None leaf h component there = gives _ _ h

-- what is left to leaves stays made of such statements
pub kept_outside : (P : ℕ → Component → Bool → Instruction → Type 0) (system : System) → AreSections P system → (w : World) (x : ℕ) (new : World)
    (event : Event)
    → Lefts P system w → next system w x ≡ Ok (new, event) → Lefts P system new
kept_outside P system programs w x new event h stepped =
    (next_by P system programs w x (slice_get system.components x) (slice_get w.leaves x) h refl refl).holds new event stepped

start_leaf_is : (cs : List Component) (x : ℕ) (leaf : Leaf) → slice_get (start_leaves cs) x ≡ Some leaf
    → (c : Component) × (slice_get cs x ≡ Some c) × (start_leaf c ≡ leaf)
start_leaf_is [] x leaf e = absurd (none_some e)
start_leaf_is (c ∷ cs) zero leaf e = (c, refl, some_same e)
start_leaf_is (c ∷ cs) (suc x) leaf e = start_leaf_is cs x leaf e

pub start_outside : (P : ℕ → Component → Bool → Instruction → Type 0) (system : System) → AreSections P system → Lefts P system (start system)
start_outside P system programs = record { at = each }
  where
    each : (x : ℕ) (leaf : Leaf) → slice_get (start_leaves system.components) x ≡ Some leaf → LeftAt P system x leaf
    each x leaf e c there =
        let s = start_leaf_is system.components x leaf e in
        let same : s.0 ≡ c = some_same (sym s.1 ∙ there) in
        let body = all_of_body (P x c) Main true refl c.node.program.sections (programs x c there) in
        subst (Left P system x c) (ap start_leaf (sym same) ∙ s.2) (body, tt, λ serves. absurd (starts_serving c.node.after serves))
