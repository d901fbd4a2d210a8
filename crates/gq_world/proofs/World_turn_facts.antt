-- What a turn of a world leaves.
use Rattle.std.proofs.Common.{◌≡◌, ◌≢◌, ℕ, Bool, true, false, ◌+◌, ◌<◌, ◌≤◌, ◌^◌, ◌&&◌, List, None, [], ◌∷◌, length, Option, Some, IfSome}
use Rattle.std.proofs.Common.{refl, ap, sym, ◌∙◌, subst, zero, suc, arith}
use Rattle.std.specs.Prelude.{slice_get, Ok, Err, IsOk, is_ok}
use Rattle.std.proofs.Math.Logic.{∥∥₁_elim}
use Rattle.std.specs.Coded.{Coded-set, coded_bool, le_prop}
use Rattle.std.proofs.lemmas.Option.{slice_get_within}
use Rattle.gq_model.specs.machine.Scenario.{Scenario, Component, System, components, system}
use Rattle.gq_model.proofs.Small_facts.{some_same}
use Rattle.gq_model.specs.machine.World as model
use Rattle.gq_model.specs.machine.Doing as doing
use Rattle.gq_model.specs.machine.Doing.{Stepped}
use Rattle.gq_model.specs.machine.Step.{next}
use Rattle.gq_model.specs.declared.fault.Wrong.{Wrong}
use Rattle.gq_model.specs.machine.Run.{Ran, after_step, label_at, line_of, set_input, submit, turn_from, turns_of}
use Rattle.gq_model.specs.Promises.{IsUpheld, budget_of}
use Rattle.gq_laws.specs.Stands.{Stands}
use Rattle.gq_laws.specs.Turn_effects.{signals_of}
use Rattle.gq_laws.proofs.step_shapes.Step_counting.{stands_still}
use Rattle.gq_laws.proofs.upheld_worlds.Standing_world_invariant.{stands_submit}
use Rattle.gq_bytecode.specs.Nexts.{GoesAlone, leaf_with}
use Rattle.gq_machine.specs.Events.{event_of}
use Rattle.gq_machine.specs.Machines.{AreCountable}
use Rattle.gq_machine.specs.declared.event.Event.{Event}
use Rattle.gq_machine.specs.declared.event.Event.TheVariants as events
use Rattle.gq_machine.specs.Turn_bursts.{OutputsLines, lines_of, output_to}
use Rattle.gq_model.specs.rules.Accept.{Budget, are_small, budgets}
use Rattle.gq_model.proofs.Component_laws.{budgets_count}
use Rattle.gq_load.specs.internal.Small_budgets.{all_small}
use Rattle.gq_world.specs.World_between_turns as worlds
use Rattle.gq_world.specs.World_between_turns.{HasTaken, World, line_reported, shown}
use Rattle.gq_world.specs.internal.World_invariant.{AreCounted, IsBudgeted, IsCounted, IsKept, all_submitted}
use Rattle.gq_world.proofs.Counted_submissions.{budget_few, none_at_start, setting_same, step_same, submit_more}
use Rattle.gq_world.specs.internal.Act_transitions.{going}

there_is : {A : Type 0} (xs : List A) (i : ℕ) → i < length xs → (a : A) × (slice_get xs i ≡ Some a)
there_is [] i less = absurd (omega (arith, less))
there_is (x ∷ xs) zero less = (x, refl)
there_is (x ∷ xs) (suc i) less = there_is xs i (omega (arith, less))

-- all that is promised follows from what stands
abbrev pub Promises : Type 0
Promises = (s : Scenario) (w : model.World) → Stands s w → IsUpheld s w

-- each step keeps what stands
abbrev pub Keeps : Type 0
Keeps = (s : Scenario) (w : model.World) (x : ℕ) (new : model.World) (event : doing.Event) → Stands s w → next (system s) w x ≡ Ok (new, event) → Stands s new

-- the next step is never wrong
defined_in : (r : Stepped) (p : model.World × doing.Event) → r ≡ Ok p → IsOk r
defined_in r p h = ap is_ok h

pub defined : Promises → (s : Scenario) (w : model.World) (x : ℕ) → ∥ Stands s w ∥₁ → IsOk (next (system s) w x)
defined promises s w x stands =
    ∥∥₁_elim stands (Coded-set coded_bool _ _) (λ h. let g = (promises s w h).goes_on x in defined_in (next (system s) w x) g.0 g.1)

-- so many steps more of a leaf can be counted where signals are
pub countable_turns : Promises → (s : Scenario) (w : model.World) (x n signals : ℕ) → n < 2 ^ 32 → ∥ Stands s w ∥₁ → AreCounted w signals → AreCountable w x n
unfolding worlds.greatest_lines
countable_turns promises s w x n signals few stands counted = by (slice_get w.leaves x) refl
  where
    by : (o : Option model.Leaf) → slice_get w.leaves x ≡ o → IfSome o (λ (l : model.Leaf). l.steps + n < 2 ^ 64)
    by None e = tt
    by (Some leaf) e = ∥∥₁_elim stands le_prop (λ h.
        let less = slice_get_within w.leaves x leaf e in
        let count = h.whole.count in
        let c = there_is (components s) x (omega (arith, less, count)) in
        let keeps = (promises s w h).keeps_budgets x c.0 c.1 in
        let steps = keeps.steps in
        let limited = budget_few w (budget_of s x c.0).steps signals keeps.limited counted.submitted in
        let greatest = counted.few in
        let same = ap (λ (l : model.Leaf). l.steps) (some_same (sym keeps.there ∙ e)) in
        omega (arith, steps, limited, greatest, same, few))

-- so they can in a world that is not stopped
pub countable_running : Promises → (s : Scenario) (w : model.World) (all : List Budget) (stopped : Bool) (x n signals : ℕ) → n < 2 ^ 32
    → IsKept s w all stopped signals → stopped ≡ false → AreCountable w x n
countable_running promises s w all stopped x n signals few h running =
    countable_turns promises s w x n signals few h.budgeted.stands (h.counted running)

-- where it was found that they can
pub countable_found : (w : model.World) (x n steps : ℕ) → steps + n < 2 ^ 64 → IfSome (slice_get w.leaves x) (λ (l : model.Leaf). steps ≡ l.steps)
    → AreCountable w x n
countable_found w x n steps less found = by (slice_get w.leaves x) found
  where
    by : (o : Option model.Leaf) → IfSome o (λ (l : model.Leaf). steps ≡ l.steps) → IfSome o (λ (l : model.Leaf). l.steps + n < 2 ^ 64)
    by None e = tt
    by (Some leaf) e = omega (arith, less, e)

-- BUDGETS

small_all : (bs : List Budget) → ((x : ℕ) (b : Budget) → slice_get bs x ≡ Some b → are_small b.steps ≡ true) → all_small bs ≡ true
small_all [] each = refl
small_all (b ∷ bs) each =
    ap (λ (t : Bool). t && all_small bs) (each 0 b refl) ∙ small_all bs (λ x c e. each (suc x) c e)

budgets_many : (s : Scenario) → length (budgets s) ≡ length (components s)
budgets_many s = budgets_count s.version (system s) 0 (components s)

-- those of an accepted scenario are small
pub budgets_small : Promises → (s : Scenario) (w : model.World) → ∥ Stands s w ∥₁ → all_small (budgets s) ≡ true
budgets_small promises s w stands =
    ∥∥₁_elim stands (Coded-set coded_bool _ _) (λ h. small_all (budgets s) (λ x b e.
    let less = slice_get_within (budgets s) x b e in
    let many = budgets_many s in
    let c = there_is (components s) x (omega (arith, less, many)) in
    let keeps = (promises s w h).keeps_budgets x c.0 c.1 in
    ap (λ (d : Budget). are_small d.steps) (some_same (sym e ∙ keeps.reported)) ∙ keeps.limited))

pub budgets_few : (s t : Scenario) (bs : List Budget) → t ≡ s → bs ≡ budgets s → length (components t) ≤ 64 → length bs ≤ 64
budgets_few s t bs same are few =
    let many = budgets_many s in
    let count = ap (λ (r : Scenario). length (components r)) same in
    let all = ap (λ (l : List Budget). length l) are in
    omega (arith, few, many, count, all)

pub stands_after : Keeps → (s : Scenario) (w after : model.World) (x : ℕ) (e : doing.Event) → next (system s) w x ≡ Ok (after, e) → ∥ Stands s w ∥₁
    → ∥ Stands s after ∥₁
stands_after keeps s w after x e n stands = ∥∥₁_elim stands (hlevel) (λ h. ∣ keeps s w x after e h n ∣₁)

pub upheld_here : Promises → (s : Scenario) (w : model.World) → ∥ Stands s w ∥₁ → ∥ IsUpheld s w ∥₁
upheld_here promises s w stands = ∥∥₁_elim stands (hlevel) (λ h. ∣ promises s w h ∣₁)

-- a world that the code has stands as contracts see it
pub stands_seen : (s t : Scenario) (v w : model.World) → s ≡ t → v ≡ w → ∥ Stands s v ∥₁ → ∥ Stands t w ∥₁
stands_seen s t v w e f h = subst (λ (r : Scenario). ∥ Stands r w ∥₁) e (subst (λ (u : model.World). ∥ Stands s u ∥₁) f h)

-- A STEP

-- what was counted is counted in a world in which no more was submitted
counted_by : (w v : model.World) (stopped : Bool) (signals : ℕ) → all_submitted (signals_of v) ≡ all_submitted (signals_of w) → IsCounted w stopped signals
    → IsCounted v stopped signals
counted_by w v stopped signals same h running =
    let was = h running in record { few = was.few; submitted = (let few = was.submitted in omega (arith, few, same)) }

-- what stands stands after the step, and the budgets and signals stay
pub kept_by_step : Keeps → (s t : Scenario) (w v : model.World) (all : List Budget) (stopped : Bool) (signals x : ℕ) (e : doing.Event) → t ≡ s
    → next (system s) w x ≡ Ok (v, e) → IsKept s w all stopped signals → IsKept t v all stopped signals
kept_by_step keeps s t w v all stopped signals x e same n h =
    record {
      budgeted = record {
        stands = subst (λ (r : Scenario). ∥ Stands r v ∥₁) (sym same) (stands_after keeps s w v x e n h.budgeted.stands);
        budgets_are = h.budgeted.budgets_are ∙ ap budgets (sym same);
      };
      counted = counted_by w v stopped signals (step_same (system s) w x v e (stands_still (system s) w x) n) h.counted;
    }

-- the step, as of the world that contracts see
pub stepped_in : (s : Scenario) (w v u : model.World) (old : World) (x : ℕ) (e : doing.Event) → s ≡ old.scenario → w ≡ old.world → u ≡ v
    → next (system s) w x ≡ Ok (v, e) → next (system old.scenario) old.world x ≡ Ok (u, e)
stepped_in s w v u old x e a b same n =
    let P : Scenario → Type 0 = λ r. next (system r) old.world x ≡ Ok (v, e) in
    let Q : model.World → Type 0 = λ z. next (system s) z x ≡ Ok (v, e) in
    subst P a (subst Q b n) ∙ ap (λ (z : model.World). let q : Stepped = Ok (z, e) in q) (sym same)

-- a leaf that is among those of the scenario has taken these steps
pub has_taken : (s : Scenario) (old : World) (w : model.World) (x n : ℕ) → s ≡ old.scenario → w ≡ old.world → length w.leaves ≡ length (components s)
    → x < length (components old.scenario) → IfSome (slice_get w.leaves x) (λ (l : model.Leaf). n ≡ l.steps) → HasTaken old.world x n
has_taken s old w x n same is count less reported =
    let few : length (components s) ≡ length (components old.scenario) = ap (λ (r : Scenario). length (components r)) same in
    let leaf = there_is w.leaves x (omega (arith, count, less, few)) in
    let taken : n ≡ leaf.0.steps = subst (λ (o : Option model.Leaf). IfSome o (λ (l : model.Leaf). n ≡ l.steps)) leaf.1 reported in
    record { leaf = leaf.0; there = sym (ap (λ (v : model.World). slice_get v.leaves x) is) ∙ leaf.1; taken = sym taken }

-- a leaf has taken one number of steps
pub taken_once : (w : model.World) (x n m : ℕ) → HasTaken w x n → HasTaken w x m → n ≡ m
taken_once w x n m h k = sym h.taken ∙ (ap (λ (l : model.Leaf). l.steps) (some_same (sym h.there ∙ k.there)) ∙ k.taken)

-- STEPS THAT A LEAF TAKES ALONE

-- what stands stands after them
alone_stands : Keeps → (s : Scenario) (x n : ℕ) (w v : model.World) → GoesAlone (system s) x n w v → Stands s w → Stands s v
alone_stands keeps s x zero w v e h = subst (Stands s) e h
alone_stands keeps s x (suc n) w v g h =
    let mid = model.with_leaf w x (leaf_with g.0 g.1) in alone_stands keeps s x n mid v g.5 (keeps s w x mid doing.Quiet h g.4)

alone_same : (system : System) (x n : ℕ) (w v : model.World) → GoesAlone system x n w v → all_submitted (signals_of v) ≡ all_submitted (signals_of w)
alone_same system x zero w v e = ap (λ (u : model.World). all_submitted (signals_of u)) (sym e)
alone_same system x (suc n) w v g =
    let mid = model.with_leaf w x (leaf_with g.0 g.1) in
    alone_same system x n mid v g.5 ∙ step_same system w x mid doing.Quiet (stands_still system w x) g.4

-- and the budgets and signals stay
pub kept_alone : Keeps → (s t : Scenario) (w v : model.World) (all : List Budget) (stopped : Bool) (signals x n : ℕ) → t ≡ s → GoesAlone (system s) x n w v
    → IsKept s w all stopped signals → IsKept t v all stopped signals
kept_alone keeps s t w v all stopped signals x n same goes h =
    record {
      budgeted = record {
        stands = subst (λ (r : Scenario). ∥ Stands r v ∥₁) (sym same)
            (∥∥₁_elim h.budgeted.stands (hlevel) (λ i. ∣ alone_stands keeps s x n w v goes i ∣₁));
        budgets_are = h.budgeted.budgets_are ∙ ap budgets (sym same);
      };
      counted = counted_by w v stopped signals (alone_same (system s) x n w v goes) h.counted;
    }

-- as of the world that contracts see
pub alone_in : (s : Scenario) (w v : model.World) (old : World) (x n : ℕ) → s ≡ old.scenario → w ≡ old.world → GoesAlone (system s) x n w v
    → GoesAlone (system old.scenario) x n old.world v
alone_in s w v old x n a b goes =
    subst (λ (r : Scenario). GoesAlone (system r) x n old.world v) a (subst (λ (z : model.World). GoesAlone (system s) x n z v) b goes)

-- MANY TURNS

-- no step so far was wrong, and all stands
record IsRight (s : Scenario) (r : Ran) : Type 0 where
  none : r.wrong ≡ None
  good : Stands s r.world

not_wrong : {p : model.World × doing.Event} {wrong : Wrong} → ◌≡◌ {A = Stepped} (Ok p) (Err wrong) → ⊥
not_wrong e = cc

right_step : Promises → Keeps → (s : Scenario) (x : ℕ) (ran : Ran) (r : Stepped) → next (system s) ran.world x ≡ r → IsRight s ran
    → IsRight s (after_step (system s) x ran r)
right_step promises keeps s x ran (Ok p) e h = record { none = refl; good = keeps s ran.world x p.0 p.1 h.good e }
right_step promises keeps s x ran (Err wrong) e h = absurd (not_wrong (sym ((promises s ran.world h.good).goes_on x).1 ∙ e))

right_turn : Promises → Keeps → (s : Scenario) (x : ℕ) (ran : Ran) → IsRight s ran → IsRight s (turn_from (system s) x ran ran.wrong)
right_turn promises keeps s x ran h =
    subst (λ o. IsRight s (turn_from (system s) x ran o)) (sym h.none) (right_step promises keeps s x ran (next (system s) ran.world x) refl h)

right_turns : Promises → Keeps → (s : Scenario) (x n : ℕ) (ran : Ran) → IsRight s ran → IsRight s (turns_of (system s) x n ran)
right_turns promises keeps s x zero ran h = h
right_turns promises keeps s x (suc n) ran h =
    right_turns promises keeps s x n (turn_from (system s) x ran ran.wrong) (right_turn promises keeps s x ran h)

right_end : Promises → Keeps → (s : Scenario) (w : model.World) (x n : ℕ) (r : Ran) → turns_of (system s) x n (going w []) ≡ r → Stands s w → IsRight s r
right_end promises keeps s w x n r e h =
    let was : IsRight s (going w []) = record { none = refl; good = h } in
    subst (IsRight s) e (right_turns promises keeps s x n (going w []) was)

-- after turns of a world that stands, all stands
pub stands_then : Promises → Keeps → (s : Scenario) (w : model.World) (x n : ℕ) (r : Ran) → turns_of (system s) x n (going w []) ≡ r → ∥ Stands s w ∥₁
    → ∥ Stands s r.world ∥₁
stands_then promises keeps s w x n r e stands = ∥∥₁_elim stands (hlevel) (λ h. ∣ (right_end promises keeps s w x n r e h).good ∣₁)

-- turns submit nothing
turn_same : (system : System) (x : ℕ) (ran : Ran) (r : Stepped) → next system ran.world x ≡ r
    → all_submitted (signals_of (after_step system x ran r).world) ≡ all_submitted (signals_of ran.world)
turn_same system x ran (Ok p) e = step_same system ran.world x p.0 p.1 (stands_still system ran.world x) e
turn_same system x ran (Err wrong) e = refl

turn_by : (system : System) (x : ℕ) (ran : Ran) (o : Option (ℕ × Wrong))
    → all_submitted (signals_of (turn_from system x ran o).world) ≡ all_submitted (signals_of ran.world)
turn_by system x ran None = turn_same system x ran (next system ran.world x) refl
turn_by system x ran (Some p) = refl

turns_same : (system : System) (x n : ℕ) (ran : Ran) → all_submitted (signals_of (turns_of system x n ran).world) ≡ all_submitted (signals_of ran.world)
turns_same system x zero ran = refl
turns_same system x (suc n) ran = turns_same system x n (turn_from system x ran ran.wrong) ∙ turn_by system x ran ran.wrong

some_none : {A : Type 0} {a : A} → ◌≡◌ {A = Option A} (Some a) None → ⊥
some_none e = cc

-- and no step of them is wrong
pub never_wrong : Promises → Keeps → (s : Scenario) (w : model.World) (x n : ℕ) (r : Ran) (p : ℕ × Wrong) → turns_of (system s) x n (going w []) ≡ r
    → r.wrong ≡ Some p → ∥ Stands s w ∥₁ → ⊥
never_wrong promises keeps s w x n r p e wrong stands =
    ∥∥₁_elim stands (hlevel) (λ h. some_none (sym wrong ∙ (right_end promises keeps s w x n r e h).none))

-- turns, as of the world that contracts see
pub reported_seen : (s : Scenario) (w v u : model.World) (old : World) (x n : ℕ) (e : Event) (lines : List ℕ) → s ≡ old.scenario → w ≡ old.world → u ≡ v
    → OutputsLines s x n w v (Ok e) lines → OutputsLines old.scenario x n old.world u (Ok e) lines
reported_seen s w v u old x n e lines a b same reports =
    subst (λ z. OutputsLines old.scenario x n old.world z (Ok e) lines) (sym same)
    (subst (λ z. OutputsLines old.scenario x n z v (Ok e) lines) b (subst (λ t. OutputsLines t x n w v (Ok e) lines) a reports))

-- what stands stands after them, and the budgets and signals stay
pub kept_reported : Promises → Keeps → (s t : Scenario) (w v : model.World) (all : List Budget) (stopped : Bool) (signals x n : ℕ) (e : Event)
    (lines : List ℕ) → t ≡ s → OutputsLines s x n w v (Ok e) lines → IsKept s w all stopped signals → IsKept t v all stopped signals
kept_reported promises keeps s t w v all stopped signals x n e lines same reports h =
    record {
      budgeted = record {
        stands = subst (λ (r : Scenario). ∥ Stands r v ∥₁) (sym same)
            (stands_then promises keeps s w x n (output_to x (Ok e) lines v []) (reports []) h.budgeted.stands);
        budgets_are = h.budgeted.budgets_are ∙ ap budgets (sym same);
      };
      counted = counted_by w v stopped signals
          (ap (λ (r : Ran). all_submitted (signals_of r.world)) (sym (reports [])) ∙ turns_same (system s) x n (going w [])) h.counted;
    }

-- no lines were given
pub no_lines : (e : Event) (lines : List ℕ) → (e ≡ events.Line → ⊥) → lines_of e lines ≡ []
no_lines events.Idle lines other = refl
no_lines events.Quiet lines other = refl
no_lines events.Finished lines other = refl
no_lines events.Line lines other = absurd (other refl)

-- LINES

pub label_reported : (cs : List Component) (x : ℕ) (label : List ℕ) → x < length cs → IfSome (slice_get cs x) (λ c. label ≡ c.label)
    → label ≡ label_at (slice_get cs x)
label_reported cs x label less h =
    let c = there_is cs x less in
    let P : Option Component → Type 0 = λ o. IfSome o (λ c. label ≡ c.label) in
    let known : label ≡ c.0.label = subst P c.1 h in known ∙ ap label_at (sym c.1)

-- a line of the text, as of the world that contracts see
pub reported_in : (P : List ℕ → Type 0) (t : Scenario) (old : World) (x : ℕ) (text read : List ℕ) → t ≡ old.scenario → read ≡ text
    → P (line_reported t x (doing.Line read)) → P (line_reported old.scenario x (doing.Line text))
reported_in P t old x text read same is h =
    subst (λ l. P (line_reported old.scenario x (doing.Line l))) is (subst (λ (r : Scenario). P (line_reported r x (doing.Line read))) same h)

pub silent : (event : Event) (text label : List ℕ) → event ≢ events.Line → line_of label (event_of event text) ≡ []
silent events.Idle text label h = refl
silent events.Quiet text label h = refl
silent events.Finished text label h = refl
silent events.Line text label h = absurd (h refl)

pub shown-event_of : (event : Event) (text : List ℕ) → event ≡ shown (event_of event text)
shown-event_of events.Idle text = refl
shown-event_of events.Quiet text = refl
shown-event_of events.Finished text = refl
shown-event_of events.Line text = refl

-- A SETTING

-- each setting keeps what stands
abbrev pub KeepsSet : Type 0
KeepsSet = (s : Scenario) (w : model.World) (x i n : ℕ) → Stands s w → Stands s (set_input (system s) w x i n)

-- what stands stands after the setting, and the budgets and signals stay
pub kept_by_setting : KeepsSet → (s t : Scenario) (w v : model.World) (all : List Budget) (stopped : Bool) (signals x i n : ℕ) → t ≡ s
    → v ≡ set_input (system s) w x i n → IsKept s w all stopped signals → IsKept t v all stopped signals
kept_by_setting keeps s t w v all stopped signals x i n same is h =
    record {
      budgeted = record {
        stands = subst (λ (r : Scenario). ∥ Stands r v ∥₁) (sym same) (subst (λ (u : model.World). ∥ Stands s u ∥₁) (sym is)
            (∥∥₁_elim h.budgeted.stands (hlevel) (λ k. ∣ keeps s w x i n k ∣₁)));
        budgets_are = h.budgeted.budgets_are ∙ ap budgets (sym same);
      };
      counted = counted_by w v stopped signals
          (ap (λ (u : model.World). all_submitted (signals_of u)) is ∙ setting_same (system s) w x i n) h.counted;
    }

-- the setting, as of the world that contracts see
pub set_seen : (s : Scenario) (w v : model.World) (old : World) (x i n : ℕ) → s ≡ old.scenario → w ≡ old.world → v ≡ set_input (system s) w x i n
    → v ≡ set_input (system old.scenario) old.world x i n
set_seen s w v old x i n a b is = is ∙ (λ k. set_input (system (a k)) (b k) x i n)

-- A SIGNAL

signal_stands : (s t : Scenario) (w v : model.World) (x i : ℕ) → t ≡ s → v ≡ submit w x i → ∥ Stands s w ∥₁ → ∥ Stands t v ∥₁
signal_stands s t w v x i same is h =
    subst (λ (r : Scenario). ∥ Stands r v ∥₁) (sym same) (subst (λ (u : model.World). ∥ Stands s u ∥₁) (sym is)
    (∥∥₁_elim h (hlevel) (λ k. ∣ stands_submit s w x i k ∣₁)))

signal_budgeted : (s t : Scenario) (w v : model.World) (all : List Budget) (x i : ℕ) → t ≡ s → v ≡ submit w x i → IsBudgeted s w all → IsBudgeted t v all
signal_budgeted s t w v all x i same is h =
    record { stands = signal_stands s t w v x i same is h.stands; budgets_are = h.budgets_are ∙ ap budgets (sym same) }

-- what stands stands after the signal, the budgets stay, and it is counted
pub kept_by_signal : (s t : Scenario) (w v : model.World) (all : List Budget) (stopped : Bool) (signals x i : ℕ) → t ≡ s → v ≡ submit w x i
    → signals < worlds.greatest_lines → IsKept s w all stopped signals → IsKept t v all stopped (signals + 1)
kept_by_signal s t w v all stopped signals x i same is less h =
    record {
      budgeted = signal_budgeted s t w v all x i same is h.budgeted;
      counted = λ running.
          let was = h.counted running in
          let few = was.submitted in
          let more = submit_more w x i in
          let there = ap (λ (u : model.World). all_submitted (signals_of u)) is in
          record { few = omega (arith, less); submitted = omega (arith, few, more, there) };
    }

-- the signals of a leaf are those of its component
leaf_signals : (s : Scenario) (w : model.World) (x : ℕ) (P : ℕ → Type 0) → ((n : ℕ) (a b : P n) → a ≡ b) → ∥ Stands s w ∥₁
    → IfSome (slice_get w.leaves x) (λ (l : model.Leaf). P (length l.signals)) → IfSome (slice_get (components s) x) (λ (c : Component). P c.node.signals)
leaf_signals s w x P once stands h = by (slice_get (components s) x) refl
  where
    by : (o : Option Component) → slice_get (components s) x ≡ o → IfSome o (λ (c : Component). P c.node.signals)
    by None e = tt
    by (Some c) e = ∥∥₁_elim stands (once c.node.signals) (λ k.
        let less = slice_get_within (components s) x c e in
        let count = k.whole.count in
        let leaf = there_is w.leaves x (omega (arith, less, count)) in
        subst P (k.whole.signals x c leaf.0 e leaf.1)
        (subst (λ (o : Option model.Leaf). IfSome o (λ (l : model.Leaf). P (length l.signals))) leaf.1 h))

pub signal_there : (s : Scenario) (w : model.World) (x i : ℕ) → ∥ Stands s w ∥₁ → IfSome (slice_get w.leaves x) (λ (l : model.Leaf). i < length l.signals)
    → IfSome (slice_get (components s) x) (λ (c : Component). i < c.node.signals)
signal_there s w x i stands h = leaf_signals s w x (λ n. i < n) (λ n a b. le_prop a b) stands h

pub signal_past : (s : Scenario) (w : model.World) (x i : ℕ) → ∥ Stands s w ∥₁ → IfSome (slice_get w.leaves x) (λ (l : model.Leaf). length l.signals ≤ i)
    → IfSome (slice_get (components s) x) (λ (c : Component). c.node.signals ≤ i)
signal_past s w x i stands h = leaf_signals s w x (λ n. n ≤ i) (λ n a b. le_prop a b) stands h

not_running : true ≡ false → ⊥
not_running e = cc

-- where it is not counted, the world is stopped
pub kept_uncounted : (s t : Scenario) (w v : model.World) (all : List Budget) (stopped : Bool) (signals x i : ℕ) → t ≡ s → v ≡ submit w x i
    → IsKept s w all stopped signals → IsKept t v all true signals
kept_uncounted s t w v all stopped signals x i same is h =
    record { budgeted = signal_budgeted s t w v all x i same is h.budgeted; counted = λ running. absurd (not_running running) }

-- and where nothing was done all is as it was
pub kept_as : (s t : Scenario) (w v : model.World) (all : List Budget) (stopped : Bool) (signals : ℕ) → t ≡ s → v ≡ w → IsKept s w all stopped signals
    → IsKept t v all stopped signals
kept_as s t w v all stopped signals same is h =
    subst (λ (r : Scenario). IsKept r v all stopped signals) (sym same) (subst (λ (u : model.World). IsKept s u all stopped signals) (sym is) h)

-- a world that is stopped
pub kept_stopped : (s : Scenario) (w : model.World) (all : List Budget) (stopped : Bool) (signals : ℕ) → IsKept s w all stopped signals
    → IsKept s w all true signals
kept_stopped s w all stopped signals h = record { budgeted = h.budgeted; counted = λ running. absurd (not_running running) }

-- the start of a world
pub kept_at_start : (s : Scenario) (w : model.World) (all : List Budget) → Stands s w → w ≡ model.start (system s) → all ≡ budgets s → IsKept s w all false 0
unfolding worlds.greatest_lines
kept_at_start s w all stands is same =
    record {
      budgeted = record { stands = ∣ stands ∣₁; budgets_are = same };
      counted = λ running.
          let none = ap (λ (u : model.World). all_submitted (signals_of u)) is ∙ none_at_start (system s) in
          record { few = omega arith; submitted = omega (arith, none) };
    }
