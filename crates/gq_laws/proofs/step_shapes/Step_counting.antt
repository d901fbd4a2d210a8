-- Steps are counted, and signals are taken.
use Rattle.std.proofs.Common.{◌≡◌, ℕ, zero, suc, Bool, true, false, cond, nat_lt, List, [], ◌∷◌, length, length-set, map, Option, Some, None, is_some, Ok}
use Rattle.std.proofs.Common.{refl, ◌||◌}
use Rattle.std.proofs.Common.{ap, sym, ◌∙◌, subst}
use Rattle.std.specs.Prelude.{slice_get, slice_index, slice_set}
use Rattle.std.proofs.lemmas.List.{length-map}
use Rattle.gq_model.specs.machine.Program.{Statements, Done, Do, If, Loop, section_in}
use Rattle.gq_model.specs.declared.program.Instruction.{Instruction}
use Rattle.gq_model.specs.machine.Scenario.{System, Component}
use Rattle.gq_model.specs.machine.World.{Slot, SlotId, Request, Current, Round, Leaf, World, Signal}
use Rattle.gq_model.specs.machine.World.{with_leaf, with_slot}
use Rattle.gq_model.specs.machine.Doing.{Doing, Event, Idle, Stepped, standing, settled}
use Rattle.gq_model.specs.declared.phase.Phase.{Phase}
use Rattle.gq_model.specs.declared.phase.Phase.TheVariants.{Pending, Running, Blocked, Serving, Handling, Exited}
use Rattle.gq_model.specs.machine.Step.{instruct, oldest, accept, serving, active_again, unblocked, all_released, serve, first_signal, reacting_to}
use Rattle.gq_model.specs.machine.Step.{exited, main_ended, section_ended, body_ended, perform, accept_oldest, step_in, step_of, next}
use Rattle.gq_model.specs.machine.Rest.{runs, runs_as, can_run}
use Rattle.gq_laws.specs.Turn_effects.{StandsStill, KeepsLeaves, steps_of, signals_if, signals_then, CountsSteps, TakesSignals}
use Rattle.gq_laws.proofs.step_shapes.Step_end_shapes.{Ends, gives, need_ends, need_found, when_ends, pop_ends}
use Rattle.gq_model.proofs.Small_facts.{none_some, some_same}
use Rattle.gq_laws.proofs.step_shapes.Step_change_shapes.{plain_instruct_by, section_by, slot_by}
use Rattle.gq_model.specs.declared.section.Section.TheVariants.{Reacting}
use Rattle.gq_model.specs.declared.fault.Wrong.TheVariants.{MissingSection}

-- LISTS

pub map_set : {A B : Type 0} (f : A → B) (items : List A) (i : ℕ) (a : A) → map f (slice_set items i a) ≡ slice_set (map f items) i (f a)
map_set f [] i a = refl
map_set f (b ∷ rest) zero a = refl
map_set f (b ∷ rest) (suc i) a = ap (λ t. f b ∷ t) (map_set f rest i a)

-- what is counted of a leaf: its steps, and its signals
abbrev Counts : Type 0
Counts = ℕ × List Signal

abbrev of_leaf : Leaf → Counts
of_leaf leaf = (leaf.steps, leaf.signals)

abbrev counts_of : World → List Counts
counts_of w = map of_leaf w.leaves

-- what stands there already
set_there : (leaves : List Leaf) (x : ℕ) (leaf : Leaf) (n : Counts) → slice_get leaves x ≡ Some leaf → n ≡ of_leaf leaf
    → slice_set (map of_leaf leaves) x n ≡ map of_leaf leaves
set_there [] x leaf n e same = absurd (none_some e)
set_there (l ∷ rest) zero leaf n e same = ap (λ k. k ∷ map of_leaf rest) (same ∙ sym (ap of_leaf (some_same e)))
set_there (l ∷ rest) (suc x) leaf n e same = ap (λ t. of_leaf l ∷ t) (set_there rest x leaf n e same)

-- WORLDS

-- these are the counts of all leaves
abbrev Counted : List Counts → World → Type 0
Counted counts w = counts_of w ≡ counts

module _ (counts : List Counts) where
  -- a leaf changes, but not what is counted of it
  same_leaf : (w : World) (x : ℕ) (old leaf : Leaf) → slice_get w.leaves x ≡ Some old → of_leaf leaf ≡ of_leaf old → Counted counts w
      → Counted counts (with_leaf w x leaf)
  same_leaf w x old leaf there same h = map_set of_leaf w.leaves x leaf ∙ set_there w.leaves x old (of_leaf leaf) there same ∙ h

  same_slot : (w : World) (slot_id : SlotId) (slot : Slot) → Counted counts w → Counted counts (with_slot w slot_id slot)
  same_slot = slot_by (Counted counts) (λ w x leaf slots e h. same_leaf w x leaf _ e refl h) (λ w sessions h. h)

  same_settled : (system : System) (x : ℕ) (w : World) → Counted counts w → Ends (Counted counts) (settled system x w)
  same_settled system x w h = need_found (Counted counts) _ _ _ (λ leaf there. when_ends (Counted counts) _ _ _ (gives _ _ (same_leaf w x leaf _ there refl h)))

  same_active : (w : World) (x : ℕ) (f : List ℕ → List ℕ) → Counted counts w → Counted counts (unblocked w x f)
  same_active w x f h = go (slice_get w.leaves x) refl
    where
      go : (o : Option Leaf) → slice_get w.leaves x ≡ o → Counted counts (active_again w x f o)
      go None e = h
      go (Some leaf) e = same_leaf w x leaf _ e refl h

same_released : (name : List ℕ) (components : List Component) (leaves : List Leaf)
    → map of_leaf (all_released name components leaves) ≡ map of_leaf leaves
same_released name [] leaves = refl
same_released name (c ∷ components) [] = refl
same_released name (c ∷ components) (leaf ∷ leaves) = ap (λ t. of_leaf leaf ∷ t) (same_released name components leaves)

-- STEPS

-- a step of a leaf with these counts: so are those of all leaves once it stands
module _ (d : Doing) (counts : List Counts) (up : slice_set (counts_of d.world) d.x (of_leaf d.leaf) ≡ counts) where
  stands_in : (w : World) (leaf : Leaf) → Counted (counts_of d.world) w → of_leaf leaf ≡ of_leaf d.leaf → Counted counts (with_leaf w d.x leaf)
  stands_in w leaf h same = map_set of_leaf w.leaves d.x leaf ∙ (λ i. slice_set (h i) d.x (same i)) ∙ up

  stands : (leaf : Leaf) → of_leaf leaf ≡ of_leaf d.leaf → Counted counts (standing d leaf)
  stands leaf same = stands_in d.world leaf refl same

  instruct_ends : (i : Instruction) → Ends (Counted counts) (instruct d i)
  instruct_ends i = plain_instruct_by d (Counted (counts_of d.world)) (Counted counts) refl (same_slot (counts_of d.world)) (same_slot counts)
      (λ w operands locals same h. stands_in w _ h refl) (λ w operands h. stands_in w _ h refl) (λ w requests h. h) (same_settled counts d.system d.x)
      (λ w sessions h. h) i

  main_ends : (provides : Option (List ℕ)) (signals : ℕ) → Ends (Counted counts) (main_ended d provides signals)
  main_ends (Some service) signals = gives _ _ (stands (serving d.leaf) refl)
  main_ends None (suc n) = gives _ _ (stands (serving d.leaf) refl)
  main_ends None zero =
      when_ends (Counted counts) _ _ _ (gives _ _ (same_released d.component.node.name d.system.components (standing d (exited d.leaf)).leaves
      ∙ stands (exited d.leaf) refl))

  section_ends : (current : Option Current) (reacting : Option ℕ) → Ends (Counted counts) (section_ended d current reacting)
  section_ends current reacting = section_by d (Counted counts) (same_slot counts) (stands (serving d.leaf) refl) (same_active counts) (λ w k h. h)
      (main_ends d.component.node.provides d.component.node.signals) current reacting

  body_ends : (loops : List Round) → Ends (Counted counts) (body_ended d loops)
  body_ends [] = section_ends d.leaf.current d.leaf.reacting
  body_ends (r ∷ loops) = gives _ _ (stands _ (by_round (nat_lt (suc r.round) r.count)))
    where
      by_round : (b : Bool) → of_leaf (cond b (record d.leaf { todo = r.body; loops = record r { round = suc r.round } ∷ loops })
          (record d.leaf { todo = r.rest; loops = loops })) ≡ of_leaf d.leaf
      by_round true = refl
      by_round false = refl

  accept_ends : (r : Request) (rest : List Request) → Ends (Counted counts) (accept d r rest)
  accept_ends r rest = search (need_ends, when_ends, gives, stands)

perform_ends : (d : Doing) (counts : List Counts) → slice_set (counts_of d.world) d.x (of_leaf d.leaf) ≡ counts → (todo : Statements)
    → Ends (Counted counts) (perform d todo)
perform_ends d counts up Done = body_ends d counts up d.leaf.loops
perform_ends d counts up (Do i rest) = instruct_ends (record d { leaf = record d.leaf { todo = rest } }) counts up i
perform_ends d counts up (If arm other rest) = pop_ends (Counted counts) _ _ (λ a below. gives _ _ (stands d counts up _ refl))
perform_ends d counts up (Loop count body rest) = gives _ _ (stands d counts up _ refl)

oldest_ends : (d : Doing) (counts : List Counts) → slice_set (counts_of d.world) d.x (of_leaf d.leaf) ≡ counts → (found : Option (Request × List Request))
    → is_some found ≡ true → Ends (Counted counts) (accept_oldest d found)
oldest_ends d counts up None there = absurd cc
oldest_ends d counts up (Some p) there = accept_ends d counts up p.0 p.1

serve_ends : (d : Doing) (counts : List Counts) (found : Option (ℕ × List Signal))
    → slice_set (counts_of d.world) d.x (d.leaf.steps, signals_if d.leaf.signals found) ≡ counts
    → (is_some found || is_some (oldest d.world d.x d.world.requests)) ≡ true → Ends (Counted counts) (serve d found)
serve_ends d counts None up can = oldest_ends d counts up (oldest d.world d.x d.world.requests) can
serve_ends d counts (Some p) up can = need_ends (Counted counts) (section_in (Reacting p.0) d.component.node.program.sections) MissingSection _
    (λ body. gives _ _ (map_set of_leaf d.world.leaves d.x (reacting_to d.leaf p.0 p.1 body) ∙ up))

step_ends : (d : Doing) (counts : List Counts) (phase : Phase) → slice_set (counts_of d.world) d.x (d.leaf.steps, signals_then d.leaf phase) ≡ counts
    → runs d.world d.x d.leaf phase ≡ true → Ends (Counted counts) (step_in d phase)
step_ends d counts Pending up can = absurd cc
step_ends d counts Running up can = perform_ends d counts up d.leaf.todo
step_ends d counts Blocked up can = absurd cc
step_ends d counts Serving up can = serve_ends d counts (first_signal d.leaf.signals) up can
step_ends d counts Handling up can = perform_ends d counts up d.leaf.todo
step_ends d counts Exited up can = absurd cc

-- the number that stands there
pub index_there : (leaves : List Leaf) (x : ℕ) (leaf : Leaf) → slice_get leaves x ≡ Some leaf → slice_index (map (λ l. l.steps) leaves) x ≡ leaf.steps
index_there [] x leaf e = absurd (none_some e)
index_there (l ∷ rest) zero leaf e = ap (λ (l : Leaf). l.steps) (some_same e)
index_there (l ∷ rest) (suc x) leaf e = index_there rest x leaf e

counts_by : (system : System) (w : World) (x : ℕ) (c : Option Component) (leaf : Leaf) → runs_as w x c (Some leaf) ≡ true
    → Ends (Counted (slice_set (counts_of w) x (suc leaf.steps, signals_then leaf leaf.phase))) (step_of system w x c (Some leaf))
counts_by system w x (Some c) leaf can =
    step_ends (record { system = system; world = w; x = x; component = c; leaf = record leaf { steps = suc leaf.steps } }) _ leaf.phase refl can
counts_by system w x None leaf can = absurd cc

-- what is counted after a step
pub counts_then : (system : System) (w : World) (x : ℕ) (leaf : Leaf) (new : World) (event : Event) → can_run system w x ≡ true
    → slice_get w.leaves x ≡ Some leaf → next system w x ≡ Ok (new, event)
    → counts_of new ≡ slice_set (counts_of w) x (suc leaf.steps, signals_then leaf leaf.phase)
counts_then system w x leaf new event can there stepped =
    (counts_by system w x (slice_get system.components x) leaf (subst (λ o. runs_as w x (slice_get system.components x) o ≡ true) there can)).holds new event
    (subst (λ o. step_of system w x (slice_get system.components x) o ≡ Ok (new, event)) there stepped)

-- the parts of what is counted
module _ {B : Type 0} (f : Counts → B) where
  parts_of : (leaves : List Leaf) → map f (map of_leaf leaves) ≡ map (λ l. f (of_leaf l)) leaves
  parts_of [] = refl
  parts_of (l ∷ rest) = ap (λ t. f (of_leaf l) ∷ t) (parts_of rest)

  parts_then : (w new : World) (x : ℕ) (n : Counts) → counts_of new ≡ slice_set (counts_of w) x n
      → map (λ l. f (of_leaf l)) new.leaves ≡ slice_set (map (λ l. f (of_leaf l)) w.leaves) x (f n)
  parts_then w new x n e =
      sym (parts_of new.leaves) ∙ (ap (map f) e ∙ (map_set f (counts_of w) x n ∙ ap (λ l. slice_set l x (f n)) (parts_of w.leaves)))

pub leaf_runs : (system : System) (w : World) (x : ℕ) → can_run system w x ≡ true → (leaf : Leaf) × (slice_get w.leaves x ≡ Some leaf)
leaf_runs system w x can = by (slice_get system.components x) (slice_get w.leaves x) refl can
  where
    by : (c : Option Component) (o : Option Leaf) → slice_get w.leaves x ≡ o → runs_as w x c o ≡ true → (leaf : Leaf) × (slice_get w.leaves x ≡ Some leaf)
    by c (Some leaf) e can = (leaf, e)
    by (Some c) None e can = absurd cc
    by None None e can = absurd cc

pub counts_steps : (system : System) (w : World) (x : ℕ) → CountsSteps system w x
counts_steps system w x new event can stepped =
    let leaf = leaf_runs system w x can in
    parts_then (λ n. n.0) w new x _ (counts_then system w x leaf.0 new event can leaf.1 stepped)
    ∙ ap (λ n. slice_set (steps_of w) x (suc n)) (sym (index_there w.leaves x leaf.0 leaf.1))

pub takes_signals : (system : System) (w : World) (x : ℕ) → TakesSignals system w x
takes_signals system w x leaf new event can there stepped = parts_then (λ n. n.1) w new x _ (counts_then system w x leaf new event can there stepped)

-- a turn of a leaf that can not run changes nothing
stands_at : (system : System) (w : World) (x : ℕ) (c : Component) (leaf : Leaf) (phase : Phase) → runs w x leaf phase ≡ false
    → step_in (record { system = system; world = w; x = x; component = c; leaf = leaf }) phase ≡ Ok (w, Idle)
stands_at system w x c leaf Pending can = refl
stands_at system w x c leaf Running can = absurd cc
stands_at system w x c leaf Blocked can = refl
stands_at system w x c leaf Serving can = none_submitted (first_signal leaf.signals) can
  where
    none_waits : (found : Option (Request × List Request)) → is_some found ≡ false
        → accept_oldest (record { system = system; world = w; x = x; component = c; leaf = leaf }) found ≡ Ok (w, Idle)
    none_waits None e = refl
    none_waits (Some p) e = absurd cc

    none_submitted : (found : Option (ℕ × List Signal)) → (is_some found || is_some (oldest w x w.requests)) ≡ false
        → serve (record { system = system; world = w; x = x; component = c; leaf = leaf }) found ≡ Ok (w, Idle)
    none_submitted None e = none_waits (oldest w x w.requests) e
    none_submitted (Some p) e = absurd cc
stands_at system w x c leaf Handling can = absurd cc
stands_at system w x c leaf Exited can = refl

stands_by : (system : System) (w : World) (x : ℕ) (c : Option Component) (leaf : Option Leaf) → runs_as w x c leaf ≡ false
    → step_of system w x c leaf ≡ Ok (w, Idle)
stands_by system w x (Some c) (Some leaf) can = stands_at system w x c (record leaf { steps = suc leaf.steps }) leaf.phase can
stands_by system w x (Some c) None can = refl
stands_by system w x None leaf can = refl

pub stands_still : (system : System) (w : World) (x : ℕ) → StandsStill system w x
stands_still system w x can = stands_by system w x (slice_get system.components x) (slice_get w.leaves x) can

same_world : (w new : World) (event : Event) (r : Stepped) → r ≡ Ok (w, Idle) → r ≡ Ok (new, event) → length new.leaves ≡ length w.leaves
same_world w new event r e f = ap (λ (p : World × Event). length p.0.leaves) (same_ok (sym f ∙ e))
  where
    same_ok : {p q : World × Event} → ◌≡◌ {A = Stepped} (Ok p) (Ok q) → p ≡ q
    same_ok e = cc

keeps_by : (system : System) (w : World) (x : ℕ) (can : Bool) → can_run system w x ≡ can → (new : World) (event : Event) → next system w x ≡ Ok (new, event)
    → length new.leaves ≡ length w.leaves
keeps_by system w x false can new event stepped = same_world w new event (next system w x) (stands_still system w x can) stepped
keeps_by system w x true can new event stepped =
    sym (length-map new.leaves (λ l. l.steps)) ∙ (ap length (counts_steps system w x new event can stepped)
    ∙ (length-set (steps_of w) x (suc (slice_index (steps_of w) x)) ∙ length-map w.leaves (λ l. l.steps)))

pub keeps_leaves : (system : System) (w : World) (x : ℕ) → KeepsLeaves system w x
keeps_leaves system w x new event stepped = keeps_by system w x (can_run system w x) refl new event stepped
