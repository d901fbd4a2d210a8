-- What a step of the abstract machine leaves of each leaf to do, as a trace has it.
use Rattle.std.proofs.Common.{◌≡◌, ◌∙◌, ℕ, zero, suc, ◌+◌, Bool, true, false, cond, nat_lt, List, [], ◌∷◌, map, Option, Some, None, refl, ap, sym}
use Rattle.std.proofs.Common.{subst}
use Rattle.std.specs.Prelude.{Ok, slice_get, slice_set}
use Rattle.gq_model.specs.declared.program.Instruction.{Instruction}
use Rattle.gq_model.specs.declared.section.Section.TheVariants.{Reacting}
use Rattle.gq_model.specs.declared.phase.Phase.{Phase}
use Rattle.gq_model.specs.declared.phase.Phase.TheVariants.{Pending, Running, Blocked, Serving, Handling, Exited}
use Rattle.gq_model.specs.machine.Doing.{Doing, Quiet, pop, settled, standing}
use Rattle.gq_model.specs.machine.Program.{Statements, Done, Do, If, Loop, ◌then◌, body_of, size}
use Rattle.gq_model.specs.machine.Scenario.{Component, System}
use Rattle.gq_model.specs.machine.Step.{accept, accept_oldest, accepted_as, active_again, all_released, body_ended, exited, instruct, main_ended}
use Rattle.gq_model.specs.machine.Step.{chosen, first_signal, level_then, oldest, perform, reacting_to, section_ended, section_for, serve, serving}
use Rattle.gq_model.specs.machine.Step.{step_in, unblocked}
use Rattle.gq_model.specs.machine.World.{Ask, Ask_call, Ask_close, Ask_open, Ask_upgrade, Current, Leaf, Request, Round, Session, Signal, Slot, SlotId}
use Rattle.gq_model.specs.machine.World.{World, session_at}
use Rattle.gq_model.specs.machine.World.{with_leaf, with_slot}
use Rattle.gq_model.proofs.Small_facts.{none_some, some_same}
use Rattle.gq_laws.proofs.step_shapes.Step_end_shapes.{Ends as Ended, fails, gives, need_found, when_ends}
use Rattle.gq_laws.proofs.step_shapes.Step_change_shapes.{accept_by, plain_instruct_by, section_by, slot_by}
use Rattle.gq_laws.proofs.step_shapes.Step_end_worlds.{begun, section_taken}
use Rattle.gq_machine.specs.Readers.{level_in, requested}
use Rattle.gq_views.specs.Listing.{instruction_text}
use Rattle.gq_traces.specs.Remaining_text.{left_in, left_loop, left_to, unnumbered, unnumbered_loop, without_numbers}
use Rattle.gq_traces.specs.Step_positions.{Ahead, Chooses, Does, Ends, Entered, NumberedStatements, StepPosition, Repeats, after_round, ahead, at_request}
use Rattle.gq_traces.specs.Step_positions.{at_signal, body_in, entered, signal_place}
use Rattle.gq_traces.specs.Step_positions.{first_request, numbered, past, place_in, request_place, stepped}

-- STATEMENTS

-- wherever numbers begin
pub same_left : (j k : ℕ) (s : Statements) (a b : NumberedStatements) → unnumbered a ≡ unnumbered b → unnumbered (numbered j s a) ≡ unnumbered (numbered k s b)
same_left j k Done a b e = e
same_left j k (Do i rest) a b e = ap (Does 0 (instruction_text i)) (same_left (suc j) (suc k) rest a b e)
same_left j k (If arm other rest) a b e =
    let more = same_left (suc j + size arm + size other) (suc k + size arm + size other) rest a b e in
    let one = same_left (suc j) (suc k) arm (numbered (suc j + size arm + size other) rest a) (numbered (suc k + size arm + size other) rest b) more in
    let two = same_left (suc j + size arm) (suc k + size arm) other (numbered (suc j + size arm + size other) rest a)
    (numbered (suc k + size arm + size other) rest b) more in
    (λ i. Chooses 0 (one i) (two i))
same_left j k (Loop n body rest) a b e =
    let one = same_left (suc j) (suc k) body Ends Ends refl in
    let two = same_left (suc j + size body) (suc k + size body) rest a b e in
    (λ i. Repeats 0 n (one i) (two i))

-- statements and others behind them
then_left : (j k m : ℕ) (s t : Statements) (a b : NumberedStatements) → unnumbered a ≡ unnumbered b
    → unnumbered (numbered j (s then t) a) ≡ unnumbered (numbered k s (numbered m t b))
then_left j k m Done t a b e = same_left j m t a b e
then_left j k m (Do i rest) t a b e = ap (Does 0 (instruction_text i)) (then_left (suc j) (suc k) m rest t a b e)
then_left j k m (If arm other rest) t a b e =
    let more = then_left (suc j + size arm + size other) (suc k + size arm + size other) m rest t a b e in
    let one = same_left (suc j) (suc k) arm (numbered (suc j + size arm + size other) (rest then t) a)
    (numbered (suc k + size arm + size other) rest (numbered m t b)) more in
    let two = same_left (suc j + size arm) (suc k + size arm) other (numbered (suc j + size arm + size other) (rest then t) a)
    (numbered (suc k + size arm + size other) rest (numbered m t b)) more in
    (λ i. Chooses 0 (one i) (two i))
then_left j k m (Loop n body rest) t a b e =
    let one = same_left (suc j) (suc k) body Ends Ends refl in
    let two = then_left (suc j + size body) (suc k + size body) m rest t a b e in
    (λ i. Repeats 0 n (one i) (two i))

-- this is left
abbrev with_left : NumberedStatements → List Entered → Ahead
with_left todo loops = record { todo = todo; loops = loops }

-- LISTS

pub map_set : {A B : Type 0} (f : A → B) (items : List A) (i : ℕ) (a : A) → map f (slice_set items i a) ≡ slice_set (map f items) i (f a)
map_set f [] i a = refl
map_set f (b ∷ rest) zero a = refl
map_set f (b ∷ rest) (suc i) a = ap (λ t. f b ∷ t) (map_set f rest i a)

set_there : (leaves : List Leaf) (x : ℕ) (leaf : Leaf) → slice_get leaves x ≡ Some leaf → slice_set (map left_to leaves) x (left_to leaf) ≡ map left_to leaves
set_there [] x leaf e = absurd (none_some e)
set_there (l ∷ rest) zero leaf e = ap (λ (l : Leaf). left_to l ∷ map left_to rest) (sym (some_same e))
set_there (l ∷ rest) (suc x) leaf e = ap (λ t. left_to l ∷ t) (set_there rest x leaf e)

-- WORLDS

-- this is left of all leaves
abbrev pub Left : List Ahead → World → Type 0
Left left w = left_in w ≡ left

module _ (left : List Ahead) where
  -- a leaf changes, but not what it has left
  same_leaf : (w : World) (x : ℕ) (old leaf : Leaf) → slice_get w.leaves x ≡ Some old → left_to leaf ≡ left_to old → Left left w
      → Left left (with_leaf w x leaf)
  same_leaf w x old leaf there same h =
      map_set left_to w.leaves x leaf ∙ (ap (slice_set (map left_to w.leaves) x) same ∙ (set_there w.leaves x old there ∙ h))

  same_slot : (w : World) (slot_id : SlotId) (slot : Slot) → Left left w → Left left (with_slot w slot_id slot)
  same_slot = slot_by (Left left) (λ w x leaf slots e h. same_leaf w x leaf _ e refl h) (λ w sessions h. h)

  same_settled : (system : System) (x : ℕ) (w : World) → Left left w → Ended (Left left) (settled system x w)
  same_settled system x w h = need_found (Left left) _ _ _ (λ leaf there. when_ends (Left left) _ _ _ (gives _ _ (same_leaf w x leaf _ there refl h)))

  same_active : (w : World) (x : ℕ) (f : List ℕ → List ℕ) → Left left w → Left left (unblocked w x f)
  same_active w x f h = go (slice_get w.leaves x) refl
    where
      go : (o : Option Leaf) → slice_get w.leaves x ≡ o → Left left (active_again w x f o)
      go None e = h
      go (Some leaf) e = same_leaf w x leaf _ e refl h

same_released : (name : List ℕ) (components : List Component) (leaves : List Leaf) → map left_to (all_released name components leaves) ≡ map left_to leaves
same_released name [] leaves = refl
same_released name (c ∷ components) [] = refl
same_released name (c ∷ components) (leaf ∷ leaves) = ap (λ t. left_to leaf ∷ t) (same_released name components leaves)

-- STEPS

-- at the end of a section nothing is left
abbrev nothing : Ahead
nothing = ahead Done

module _ (d : Doing) where
  -- the leaf has this left, and all others what they had
  abbrev Now : Ahead → World → Type 0
  Now a = Left (slice_set (left_in d.world) d.x a)

  stands_in : (a : Ahead) (w : World) (leaf : Leaf) → Left (left_in d.world) w → left_to leaf ≡ a → Now a (with_leaf w d.x leaf)
  stands_in a w leaf h same = map_set left_to w.leaves d.x leaf ∙ (λ i. slice_set (h i) d.x (same i))

  stands : (a : Ahead) (leaf : Leaf) → left_to leaf ≡ a → Now a (standing d leaf)
  stands a leaf same = stands_in a d.world leaf refl same

  instruct_ends : (a : Ahead) → left_to d.leaf ≡ a → (i : Instruction) → Ended (Now a) (instruct d i)
  instruct_ends a same i = plain_instruct_by d (Left (left_in d.world)) (Now a) refl (same_slot (left_in d.world))
      (same_slot (slice_set (left_in d.world) d.x a)) (λ w operands locals e h. stands_in a w _ h same) (λ w operands h. stands_in a w _ h same)
      (λ w requests h. h) (same_settled (slice_set (left_in d.world) d.x a) d.system d.x) (λ w sessions h. h) i

  main_ends : (provides : Option (List ℕ)) (signals : ℕ) → Ended (Now nothing) (main_ended d provides signals)
  main_ends (Some service) signals = gives _ _ (stands nothing (serving d.leaf) refl)
  main_ends None (suc n) = gives _ _ (stands nothing (serving d.leaf) refl)
  main_ends None zero =
      when_ends (Now nothing) _ _ _ (gives _ _ (same_released d.component.node.name d.system.components (standing d (exited d.leaf)).leaves
      ∙ stands nothing (exited d.leaf) refl))

  section_ends : (current : Option Current) (reacting : Option ℕ) → Ended (Now nothing) (section_ended d current reacting)
  section_ends current reacting = section_by d (Now nothing) (same_slot (slice_set (left_in d.world) d.x nothing)) (stands nothing (serving d.leaf) refl)
      (same_active (slice_set (left_in d.world) d.x nothing)) (λ w k h. h) (main_ends d.component.node.provides d.component.node.signals) current reacting

  body_ends : (loops : List Round) → Ended (Now (past d.leaf.operands Ends (map left_loop loops))) (body_ended d loops)
  body_ends [] = section_ends d.leaf.current d.leaf.reacting
  body_ends (r ∷ loops) = gives _ _ (stands _ _ (by (nat_lt (suc r.round) r.count)))
    where
      by : (b : Bool) → left_to (cond b (record d.leaf { todo = r.body; loops = record r { round = suc r.round } ∷ loops })
          (record d.leaf { todo = r.rest; loops = loops })) ≡ after_round b (left_loop r) (map left_loop loops)
      by true = refl
      by false = refl

  -- REQUESTS

  levels : (ask : Ask) (old : Session) → (accepted_as d.system ask old).level ≡ level_then ask (level_in (Some old))
  levels Ask_open old = refl
  levels Ask_upgrade old = refl
  levels Ask_close old = refl
  levels (Ask_call value) old = refl

  section_is : (r : Request) (old : Session) → session_at d.world r.session ≡ Some old → section_taken d r old ≡ requested d.world r
  section_is r old there = ap (section_for r.ask) (levels r.ask old ∙ ap (λ o. level_then r.ask (level_in o)) (sym there))

  -- at the start of the section that a request asks for
  abbrev begun_at : Request → Ahead
  begun_at r = without_numbers (at_request d.component d.world (Some r))

  accept_ends : (r : Request) (rest : List Request) → Ended (Now (begun_at r)) (accept d r rest)
  accept_ends r rest = accept_by (Now (begun_at r)) d r rest (λ old there. stands (begun_at r) (begun d r old) (begins old there))
    where
      begins : (old : Session) → session_at d.world r.session ≡ Some old → left_to (begun d r old) ≡ begun_at r
      begins old there = ap (λ section. left_to (record d.leaf { todo = body_in d.component section; loops = [] })) (section_is r old there)

-- what a leaf has left after the first of these statements
abbrev after : Doing → Statements → Ahead
after d todo = past d.leaf.operands (unnumbered (numbered 1 todo Ends)) (map left_loop d.leaf.loops)

perform_ends : (d : Doing) (todo : Statements) → Ended (Now d (after d todo)) (perform d todo)
perform_ends d Done = body_ends d d.leaf.loops
perform_ends d (Do i rest) =
    instruct_ends (record d { leaf = record d.leaf { todo = rest } }) (after d (Do i rest))
    (ap (λ n. with_left n (map left_loop d.leaf.loops)) (same_left 1 2 rest Ends Ends refl)) i
perform_ends d (If arm other rest) = by d.leaf.operands
  where
    by : (ops : List ℕ) → Ended (Now d (past ops (unnumbered (numbered 1 (If arm other rest) Ends)) (map left_loop d.leaf.loops)))
        (pop ops (λ a below. Ok (standing d (record d.leaf { operands = below; todo = chosen a arm other then rest }), Quiet)))
    by [] = fails _
    by (zero ∷ below) =
        let same = then_left 1 (2 + size arm) (2 + size arm + size other) other rest Ends Ends refl in
        gives _ _ (stands d _ _ (ap (λ n. with_left n (map left_loop d.leaf.loops)) same))
    by (suc n ∷ below) =
        let same = then_left 1 2 (2 + size arm + size other) arm rest Ends Ends refl in
        gives _ _ (stands d _ _ (ap (λ n. with_left n (map left_loop d.leaf.loops)) same))
perform_ends d (Loop count body rest) =
    let one = same_left 1 2 body Ends Ends refl in
    let two = same_left 1 (2 + size body) rest Ends Ends refl in
    gives _ _ (stands d _ _ (λ i. with_left (one i) (entered 0 count (one i) (two i) ∷ map left_loop d.leaf.loops)))

-- past a statement without its number
past_unnumbered : (ops : List ℕ) (n : NumberedStatements) (es : List Entered) → without_numbers (past ops n es) ≡ past ops (unnumbered n)
    (map unnumbered_loop es)
past_unnumbered ops Ends [] = refl
past_unnumbered ops Ends (e ∷ es) = by (nat_lt (suc e.round) e.count)
  where
    by : (b : Bool) → without_numbers (after_round b e es) ≡ after_round b (unnumbered_loop e) (map unnumbered_loop es)
    by true = refl
    by false = refl
past_unnumbered ops (Does k text rest) es = refl
past_unnumbered [] (Chooses k arm other) es = refl
past_unnumbered (zero ∷ ops) (Chooses k arm other) es = refl
past_unnumbered (suc n ∷ ops) (Chooses k arm other) es = refl
past_unnumbered ops (Repeats k n body rest) es = refl

-- a step that a leaf can take leaves it what a trace has before it then
module _ (system : System) (w : World) (x : ℕ) (c : Component) (leaf : Leaf) (a : Ahead) (same : without_numbers a ≡ left_to leaf) where
  abbrev doing : Doing
  doing = record { system = system; world = w; x = x; component = c; leaf = record leaf { steps = suc leaf.steps } }

  abbrev Goes : Phase → World → Type 0
  Goes phase = Left (slice_set (left_in w) x (without_numbers (stepped w x c leaf a phase)))

  acts : Ended (Left (slice_set (left_in w) x (without_numbers (past leaf.operands a.todo a.loops)))) (perform doing leaf.todo)
  acts =
      subst (λ b. Ended (Left (slice_set (left_in w) x b)) (perform doing leaf.todo))
      (ap (λ (l : Ahead). past leaf.operands l.todo l.loops) (sym same) ∙ sym (past_unnumbered leaf.operands a.todo a.loops)) (perform_ends doing leaf.todo)

  takes : (o : Option (Request × List Request)) (p : StepPosition) → request_place w (first_request o) ≡ Some p
      → Ended (Left (slice_set (left_in w) x (without_numbers (at_request c w (first_request o))))) (accept_oldest doing o)
  takes None p e = absurd (none_some e)
  takes (Some r) p e = accept_ends doing r.0 r.1

  serves : (f : Option (ℕ × List Signal)) (p : StepPosition) → signal_place f (request_place w (first_request (oldest w x w.requests))) ≡ Some p
      → Ended (Left (slice_set (left_in w) x (without_numbers (at_signal c f (at_request c w (first_request (oldest w x w.requests))))))) (serve doing f)
  serves None p e = takes (oldest w x w.requests) p e
  serves (Some q) p e =
      need_found (Left (slice_set (left_in w) x (without_numbers (ahead (body_in c (Reacting q.0)))))) _ _ _
      (λ body found. gives _ _ (stands doing (without_numbers (ahead (body_in c (Reacting q.0)))) (reacting_to doing.leaf q.0 q.1 body)
      (ap (λ o. without_numbers (ahead (body_of o))) (sym found))))

  pub step_left : (phase : Phase) (p : StepPosition) → place_in w x c leaf a phase ≡ Some p → Ended (Goes phase) (step_in doing phase)
  step_left Pending p e = absurd (none_some e)
  step_left Running p e = acts
  step_left Blocked p e = absurd (none_some e)
  step_left Serving p e = serves (first_signal leaf.signals) p e
  step_left Handling p e = acts
  step_left Exited p e = absurd (none_some e)
