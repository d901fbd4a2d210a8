-- Each step keeps it that what is left of each leaf to do is made of statements of its program.
use Rattle.std.proofs.Common.{◌≡◌, ℕ, zero, suc, ◌⊎◌, inl, inr, Bool, true, false, cond, nat_lt, List, [], ◌∷◌, Option, Some, None, Ok, refl, sym, ap, ◌∙◌}
use Rattle.std.proofs.Common.{subst}
use Rattle.std.specs.Prelude.{slice_get, slice_set}
use Rattle.gq_model.specs.machine.Program.{Statements, Done, Do, If, Loop, ◌then◌, section_in, body_of}
use Rattle.gq_model.specs.machine.Sections.{same_section}
use Rattle.gq_model.specs.declared.program.Instruction.{Instruction}
use Rattle.gq_model.specs.declared.section.Section.{Section}
use Rattle.gq_model.specs.declared.section.Section.TheVariants.{Main, Reacting}
use Rattle.gq_model.specs.declared.phase.Phase.{Phase}
use Rattle.gq_model.specs.declared.phase.Phase.TheVariants.{Pending, Running, Blocked, Serving, Handling, Exited}
use Rattle.gq_model.specs.machine.Scenario.{System, Component}
use Rattle.gq_model.specs.machine.World.{Slot, SlotId, Request, Current, Round, Leaf, World, Signal}
use Rattle.gq_model.specs.machine.World.{start_leaf, start_leaves, start, with_leaf, with_slot}
use Rattle.gq_model.specs.machine.Doing.{Doing, Event, standing, settled}
use Rattle.gq_model.specs.machine.Step.{instruct, oldest, accept, serving, active_again, unblocked, serve, first_signal}
use Rattle.gq_model.specs.machine.Step.{all_released, exited, exit_of, main_ended, section_ended, body_ended}
use Rattle.gq_model.specs.machine.Step.{chosen, perform, accept_oldest, step_in, step_of, next}
use Rattle.gq_laws.specs.Shapes.{Each}
use Rattle.gq_laws.specs.internal.Remaining_instructions.{AllAre, IsLeft, AreLeft, ArePrograms}
use Rattle.gq_laws.proofs.step_shapes.Step_end_shapes.{Ends, gives, need_found, when_ends, pop_ends}
use Rattle.gq_model.proofs.Small_facts.{some_same, none_some}
use Rattle.gq_laws.proofs.step_shapes.Step_end_worlds.{begun, section_taken}
use Rattle.gq_laws.proofs.step_shapes.Step_change_shapes.{plain_instruct_by, section_by, accept_by, slot_by}
use Rattle.gq_model.specs.declared.fault.Wrong.TheVariants.{MissingSection}

-- LISTS

-- what stands at a place once an item is replaced
pub set_get : {A : Type 0} (items : List A) (i j : ℕ) (a b : A) → slice_get (slice_set items i a) j ≡ Some b
    → ((j ≡ i) × (a ≡ b)) ⊎ (slice_get items j ≡ Some b)
set_get [] i j a b e = inr e
set_get (c ∷ rest) zero zero a b e = inl (refl, some_same e)
set_get (c ∷ rest) zero (suc j) a b e = inr e
set_get (c ∷ rest) (suc i) zero a b e = inr e
set_get (c ∷ rest) (suc i) (suc j) a b e = elim (set_get rest i j a b e) [ inl h ↦ inl (ap suc h.0, h.1) | inr h ↦ inr h ]

-- a leaf that is there after others are released was there before, with the same left to do
released_get : (name : List ℕ) (cs : List Component) (leaves : List Leaf) (y : ℕ) (leaf : Leaf) → slice_get (all_released name cs leaves) y ≡ Some leaf
    → (old : Leaf) × (slice_get leaves y ≡ Some old) × (old.todo ≡ leaf.todo) × (old.loops ≡ leaf.loops)
released_get name [] leaves y leaf e = (leaf, e, refl, refl)
released_get name (c ∷ cs) [] y leaf e = absurd (none_some e)
released_get name (c ∷ cs) (l ∷ leaves) zero leaf e = let same = some_same e in (l, refl, ap (λ (l : Leaf). l.todo) same, ap (λ (l : Leaf). l.loops) same)
released_get name (c ∷ cs) (l ∷ leaves) (suc y) leaf e = released_get name cs leaves y leaf e

-- STATEMENTS

module _ (Q : Instruction → Type 0) where
  all_then : (a b : Statements) → AllAre Q a → AllAre Q b → AllAre Q (a then b)
  all_then Done b h k = k
  all_then (Do i rest) b h k = (h.0, all_then rest b h.1 k)
  all_then (If arm other rest) b h k = (h.0, h.1, all_then rest b h.2 k)
  all_then (Loop n body rest) b h k = (h.0, h.1, all_then rest b h.2 k)

  all_chosen : (a : ℕ) (arm other : Statements) → AllAre Q arm → AllAre Q other → AllAre Q (chosen a arm other)
  all_chosen zero arm other h k = k
  all_chosen (suc n) arm other h k = h

  -- of a section, where it is of each
  all_of_body : (s : Section) (sections : List (Section × Statements)) → Each (λ p. AllAre Q p.1) sections → AllAre Q (body_of (section_in s sections))
  all_of_body s [] h = tt
  all_of_body s (t ∷ rest) h = by (same_section s t.0) (all_of_body s rest h.1)
    where
      by : (b : Bool) → AllAre Q (body_of (section_in s rest)) → AllAre Q (body_of (cond b (Some t.1) (section_in s rest)))
      by true k = h.0
      by false k = k

-- WORLDS

module _ (P : Component → Instruction → Type 0) (system : System) where
  -- what is left to a leaf, if this is its component
  abbrev Left : Component → Leaf → Type 0
  Left c leaf = AllAre (P c) leaf.todo × Each (λ r. AllAre (P c) r.body × AllAre (P c) r.rest) leaf.loops

  abbrev LeftAt : ℕ → Leaf → Type 0
  LeftAt x leaf = (c : Component) → slice_get system.components x ≡ Some c → Left c leaf

  record Lefts (w : World) : Type 0 where
    at : (x : ℕ) (leaf : Leaf) → slice_get w.leaves x ≡ Some leaf → LeftAt x leaf

  left_leaf : (w : World) (x : ℕ) (leaf : Leaf) → Lefts w → LeftAt x leaf → Lefts (with_leaf w x leaf)
  left_leaf w x leaf h fits = record { at = each }
    where
      each : (y : ℕ) (new : Leaf) → slice_get (slice_set w.leaves x leaf) y ≡ Some new → LeftAt y new
      each y new e c there =
          elim (set_get w.leaves x y leaf new e) [
            | inl f ↦ subst (Left c) f.1 (fits c (ap (slice_get system.components) (sym f.0) ∙ there))
            | inr f ↦ h.at y new f c there
          ]

  left_slot : (w : World) (slot_id : SlotId) (slot : Slot) → Lefts w → Lefts (with_slot w slot_id slot)
  left_slot = slot_by Lefts (λ w x leaf slots e h. left_leaf w x _ h (h.at x leaf e)) (λ w sessions h. record { at = h.at })

  left_settled : (x : ℕ) (w : World) → Lefts w → Ends Lefts (settled system x w)
  left_settled x w h = need_found Lefts _ _ _ (λ leaf there. when_ends Lefts _ _ _ (gives _ _ (left_leaf w x _ h (h.at x leaf there))))

  left_active : (w : World) (x : ℕ) (f : List ℕ → List ℕ) → Lefts w → Lefts (unblocked w x f)
  left_active w x f h = go (slice_get w.leaves x) refl
    where
      go : (o : Option Leaf) → slice_get w.leaves x ≡ o → Lefts (active_again w x f o)
      go None e = h
      go (Some leaf) e = left_leaf w x _ h (h.at x leaf e)

-- STEPS

module _ (P : Component → Instruction → Type 0) where
  -- a step of a leaf with this component, where this is left to all
  module _ (d : Doing) (programs : ArePrograms P d.system) (h : Lefts P d.system d.world) (component : slice_get d.system.components d.x ≡ Some d.component)
      (fits : Left P d.system d.component d.leaf) where
    abbrev Q : World → Type 0
    Q w = Lefts P d.system w

    at_place : (leaf : Leaf) → Left P d.system d.component leaf → LeftAt P d.system d.x leaf
    at_place leaf left c there = subst (λ c. Left P d.system c leaf) (some_same (sym component ∙ there)) left

    stands_in : (w : World) (leaf : Leaf) → Q w → Left P d.system d.component leaf → Q (with_leaf w d.x leaf)
    stands_in w leaf hw left = left_leaf P d.system w d.x leaf hw (at_place leaf left)

    stands : (leaf : Leaf) → Left P d.system d.component leaf → Q (standing d leaf)
    stands leaf left = stands_in d.world leaf h left

    same_slot : (w : World) (slot_id : SlotId) (slot : Slot) → Q w → Q (with_slot w slot_id slot)
    same_slot = left_slot P d.system

    same_settled : (w : World) → Q w → Ends Q (settled d.system d.x w)
    same_settled = left_settled P d.system d.x

    instruct_ends : (i : Instruction) → Ends Q (instruct d i)
    instruct_ends i = plain_instruct_by d Q Q h same_slot same_slot (λ w operands locals same hw. stands_in w _ hw fits)
        (λ w operands hw. stands_in w _ hw fits) (λ w requests hw. record { at = hw.at }) same_settled (λ w sessions hw. record { at = hw.at }) i

    exit_ends : Q (exit_of d)
    exit_ends = record { at = each }
      where
        each : (y : ℕ) (leaf : Leaf) → slice_get (all_released d.component.node.name d.system.components (standing d (exited d.leaf)).leaves) y ≡ Some leaf
            → LeftAt P d.system y leaf
        each y leaf e c there =
            let was = released_get d.component.node.name d.system.components (standing d (exited d.leaf)).leaves y leaf e in
            let before = (stands (exited d.leaf) (tt, tt)).at y was.0 was.1 c there in
            (subst (AllAre (P c)) was.2 before.0, subst (Each (λ r. AllAre (P c) r.body × AllAre (P c) r.rest)) was.3 before.1)

    main_ends : (provides : Option (List ℕ)) (signals : ℕ) → Ends Q (main_ended d provides signals)
    main_ends (Some service) signals = gives _ _ (stands (serving d.leaf) (tt, tt))
    main_ends None (suc n) = gives _ _ (stands (serving d.leaf) (tt, tt))
    main_ends None zero = when_ends Q _ _ _ (gives _ _ exit_ends)

    section_ends : (current : Option Current) (reacting : Option ℕ) → Ends Q (section_ended d current reacting)
    section_ends current reacting = section_by d Q same_slot (stands (serving d.leaf) (tt, tt)) (left_active P d.system) (λ w k hw. record { at = hw.at })
        (main_ends d.component.node.provides d.component.node.signals) current reacting

    body_ends : (loops : List Round) → Each (λ r. AllAre (P d.component) r.body × AllAre (P d.component) r.rest) loops → Ends Q (body_ended d loops)
    body_ends [] rounds = section_ends d.leaf.current d.leaf.reacting
    body_ends (r ∷ loops) rounds = gives _ _ (stands _ (by (nat_lt (suc r.round) r.count)))
      where
        by : (b : Bool) → Left P d.system d.component (cond b (record d.leaf { todo = r.body; loops = record r { round = suc r.round } ∷ loops })
            (record d.leaf { todo = r.rest; loops = loops }))
        by true = (rounds.0.0, (rounds.0, rounds.1))
        by false = (rounds.0.1, rounds.1)

    accept_ends : (r : Request) (rest : List Request) → Ends Q (accept d r rest)
    accept_ends r rest = accept_by Q d r rest (λ old there. (
        let body = all_of_body (P d.component) (section_taken d r old) d.component.node.program.sections (programs d.x d.component component) in
        record { at = (stands (begun d r old) (body, tt)).at }))

  perform_ends : (d : Doing) → ArePrograms P d.system → Lefts P d.system d.world → slice_get d.system.components d.x ≡ Some d.component
      → Left P d.system d.component d.leaf
      → (todo : Statements) → AllAre (P d.component) todo → Ends (Lefts P d.system) (perform d todo)
  perform_ends d programs h component fits Done left = body_ends d programs h component fits d.leaf.loops fits.1
  perform_ends d programs h component fits (Do i rest) left =
      instruct_ends (record d { leaf = record d.leaf { todo = rest } }) programs h component (left.1, fits.1) i
  perform_ends d programs h component fits (If arm other rest) left =
      pop_ends (Lefts P d.system) _ _ (λ a below. gives _ _ (stands d programs h component fits _
      (all_then (P d.component) (chosen a arm other) rest (all_chosen (P d.component) a arm other left.0 left.1) left.2, fits.1)))
  perform_ends d programs h component fits (Loop count body rest) left = gives _ _ (stands d programs h component fits _ (left.1, ((left.1, left.2), fits.1)))

  oldest_ends : (d : Doing) → ArePrograms P d.system → Lefts P d.system d.world → slice_get d.system.components d.x ≡ Some d.component
      → Left P d.system d.component d.leaf
      → (found : Option (Request × List Request)) → Ends (Lefts P d.system) (accept_oldest d found)
  oldest_ends d programs h component fits None = gives _ _ h
  oldest_ends d programs h component fits (Some p) = accept_ends d programs h component fits p.0 p.1

  serve_ends : (d : Doing) → ArePrograms P d.system → Lefts P d.system d.world → slice_get d.system.components d.x ≡ Some d.component
      → Left P d.system d.component d.leaf
      → (found : Option (ℕ × List Signal)) → Ends (Lefts P d.system) (serve d found)
  serve_ends d programs h component fits None = oldest_ends d programs h component fits (oldest d.world d.x d.world.requests)
  serve_ends d programs h component fits (Some p) =
      need_found (Lefts P d.system) (section_in (Reacting p.0) d.component.node.program.sections) MissingSection _ (λ body there.
      gives _ _ (stands d programs h component fits _ (
        subst (λ o. AllAre (P d.component) (body_of o)) there
            (all_of_body (P d.component) (Reacting p.0) d.component.node.program.sections (programs d.x d.component component)),
        tt,
      )))

  step_ends : (d : Doing) → ArePrograms P d.system → Lefts P d.system d.world → slice_get d.system.components d.x ≡ Some d.component
      → Left P d.system d.component d.leaf
      → (phase : Phase) → Ends (Lefts P d.system) (step_in d phase)
  step_ends d programs h component fits Pending = gives _ _ h
  step_ends d programs h component fits Running = perform_ends d programs h component fits d.leaf.todo fits.0
  step_ends d programs h component fits Blocked = gives _ _ h
  step_ends d programs h component fits Serving = serve_ends d programs h component fits (first_signal d.leaf.signals)
  step_ends d programs h component fits Handling = perform_ends d programs h component fits d.leaf.todo fits.0
  step_ends d programs h component fits Exited = gives _ _ h

  next_by : (system : System) → ArePrograms P system → (w : World) (x : ℕ) (c : Option Component) (leaf : Option Leaf) → Lefts P system w
      → slice_get system.components x ≡ c → slice_get w.leaves x ≡ leaf
      → Ends (Lefts P system) (step_of system w x c leaf)
  next_by system programs w x (Some c) (Some leaf) h component there =
      step_ends (record { system = system; world = w; x = x; component = c; leaf = record leaf { steps = suc leaf.steps } }) programs h component
      (h.at x leaf there c component) leaf.phase
  next_by system programs w x (Some c) None h component there = gives _ _ h
  next_by system programs w x None leaf h component there = gives _ _ h

  to_lefts : (system : System) (w : World) → AreLeft P system w → Lefts P system w
  to_lefts system w h = record { at = λ x leaf e c there. (let left = h x c leaf there e in (left.todo, left.loops)) }

  of_lefts : (system : System) (w : World) → Lefts P system w → AreLeft P system w
  of_lefts system w h x c leaf there e = let left = h.at x leaf e c there in record { todo = left.0; loops = left.1 }

-- what is left to leaves stays made of such statements
pub kept_left : (P : Component → Instruction → Type 0) (system : System) → ArePrograms P system → (w : World) (x : ℕ) (new : World) (event : Event)
    → AreLeft P system w → next system w x ≡ Ok (new, event) → AreLeft P system new
kept_left P system programs w x new event h stepped =
    of_lefts P system new ((next_by P system programs w x (slice_get system.components x) (slice_get w.leaves x) (to_lefts P system w h) refl refl).holds new
    event stepped)

-- THE START

pub start_get : (cs : List Component) (x : ℕ) (c : Component) (leaf : Leaf) → slice_get cs x ≡ Some c → slice_get (start_leaves cs) x ≡ Some leaf
    → start_leaf c ≡ leaf
start_get [] x c leaf there e = absurd (none_some there)
start_get (d ∷ cs) zero c leaf there e = ap start_leaf (sym (some_same there)) ∙ some_same e
start_get (d ∷ cs) (suc x) c leaf there e = start_get cs x c leaf there e

pub start_left : (P : Component → Instruction → Type 0) (system : System) → ArePrograms P system → AreLeft P system (start system)
start_left P system programs x c leaf there e =
    subst (IsLeft (P c)) (start_get system.components x c leaf there e)
    (record { todo = all_of_body (P c) Main c.node.program.sections (programs x c there); loops = tt })
