-- What a setting makes of a world: nothing, or a leaf of it has other inputs that it may have. And what a signal that is submitted makes of it: nothing, or a
-- leaf
-- has as many signals, as often taken. So all that holds of worlds is kept.
use Rattle.std.proofs.Common.{◌≡◌, ℕ, zero, suc, ◌≤◌, Bool, true, false, cond, List, [], ◌∷◌, length, length-set, Option, Some, None, refl, ap, sym}
use Rattle.std.proofs.Common.{◌∙◌, subst, arith}
use Rattle.std.specs.Prelude.{slice_get, slice_set, slice_index}
use Rattle.std.proofs.lemmas.Bool.{leb-true}
use Rattle.gq_model.specs.declared.phase.Phase.{Phase}
use Rattle.gq_model.specs.declared.phase.Phase.TheVariants.{Pending, Running, Blocked, Serving, Handling, Exited}
use Rattle.gq_model.specs.machine.Run.{is_within, inputs_with, set_in, set_input, signals_with, submit_in, submit}
use Rattle.gq_model.specs.declared.program.Instruction.{Instruction}
use Rattle.gq_model.specs.machine.Amounts.{Resource}
use Rattle.gq_model.specs.machine.Scenario.{Scenario, System, Component, system}
use Rattle.gq_model.specs.machine.Sums.{paid}
use Rattle.gq_model.specs.machine.World.{Signal, Leaf, World, with_leaf}
use Rattle.gq_model.specs.rules.Kinds.{Kind}
use Rattle.gq_laws.specs.Session_links.{IsLinkedWorld}
use Rattle.gq_laws.specs.Leaf_phases.{AreReady}
use Rattle.gq_laws.specs.Room.{IsRoomy}
use Rattle.gq_laws.specs.Shapes.{AreInputs, IsWholeWorld}
use Rattle.gq_laws.specs.Typing.{Extra, IsTypedBy}
use Rattle.gq_laws.specs.internal.Section_counts.{Within, Since, times_taken, IsCounted}
use Rattle.gq_laws.specs.internal.Init_quanta.{Fit}
use Rattle.gq_laws.specs.internal.Verified_holdings.{IsHeld}
use Rattle.gq_laws.specs.internal.Remaining_instructions.{AreLeft}
use Rattle.gq_model.proofs.Small_facts.{some_same}
use Rattle.gq_laws.proofs.step_shapes.Whole_worlds.{whole_set, whole_signals}
use Rattle.gq_laws.proofs.progress.Opened_services_invariant.{AllOpened}
use Rattle.gq_laws.proofs.input_settings.World_with_inputs.{linked_with, left_with, paid_with, fit_with, opened_with, ready_with, roomy_with, typed_with}
use Rattle.gq_laws.proofs.input_settings.World_with_inputs.{held_with, counts_with}

-- THE INPUTS THAT A LEAF HAS THEN

-- they are as many
pub count_with : (phase : Phase) (inputs : List ℕ) (i n : ℕ) → length (inputs_with phase inputs i n) ≡ length inputs
count_with Pending inputs i n = length-set inputs i n
count_with Running inputs i n = length-set inputs i n
count_with Blocked inputs i n = length-set inputs i n
count_with Serving inputs i n = length-set inputs i n
count_with Handling inputs i n = length-set inputs i n
count_with Exited inputs i n = refl

set_at_most : (inputs : List ℕ) (i n j m : ℕ) → (j ≡ i → n ≤ m) → slice_index inputs j ≤ m → slice_index (slice_set inputs i n) j ≤ m
set_at_most [] i n j m le h = h
set_at_most (a ∷ rest) zero n zero m le h = le refl
set_at_most (a ∷ rest) zero n (suc j) m le h = h
set_at_most (a ∷ rest) (suc i) n zero m le h = h
set_at_most (a ∷ rest) (suc i) n (suc j) m le h = set_at_most rest i n j m (λ e. le (ap suc e)) h

within : (greatest : List ℕ) (i n : ℕ) (o : Option ℕ) → slice_get greatest i ≡ o → is_within o n ≡ true → (m : ℕ) × (slice_get greatest i ≡ Some m) × (n ≤ m)
within greatest i n None e is = absurd cc
within greatest i n (Some m) e is = (m, e, leb-true n m is)

-- and each is at most its greatest value
may_with : (greatest : List ℕ) (phase : Phase) (inputs : List ℕ) (i n : ℕ) → is_within (slice_get greatest i) n ≡ true → AreInputs greatest inputs
    → AreInputs greatest (inputs_with phase inputs i n)
may_with greatest phase inputs i n is h = by phase
  where
    set : AreInputs greatest (slice_set inputs i n)
    set j m e =
        let w = within greatest i n (slice_get greatest i) refl is in
        set_at_most inputs i n j m (λ same. (let most = w.2 in
        let one : w.0 ≡ m = some_same (sym w.1 ∙ (ap (slice_get greatest) (sym same) ∙ e)) in
        omega (arith, most, one))) (h j m e)

    by : (phase : Phase) → AreInputs greatest (inputs_with phase inputs i n)
    by Pending = set
    by Running = set
    by Blocked = set
    by Serving = set
    by Handling = set
    by Exited = h

-- WORLDS

-- what is kept where a leaf has other inputs that it may have
pub KeepsInputs : System → (World → Type 0) → Type 0
KeepsInputs system P =
    (w : World) (x : ℕ) (c : Component) (leaf : Leaf) (inputs : List ℕ) → slice_get system.components x ≡ Some c → slice_get w.leaves x ≡ Some leaf
    → length inputs ≡ length leaf.inputs → (AreInputs c.node.inputs leaf.inputs → AreInputs c.node.inputs inputs)
    → P w → P (with_leaf w x (record leaf { inputs = inputs }))

-- is kept by each setting
pub kept_by_settings : (system : System) (P : World → Type 0) → KeepsInputs system P → (w : World) (x i n : ℕ) → P w → P (set_input system w x i n)
unfolding KeepsInputs
kept_by_settings system P kept w x i n h = by (slice_get system.components x) refl (slice_get w.leaves x) refl
  where
    by : (o : Option Component) → slice_get system.components x ≡ o → (p : Option Leaf) → slice_get w.leaves x ≡ p → P (set_in w x i n o p)
    by (Some c) e (Some leaf) f = fits (is_within (slice_get c.node.inputs i) n) refl
      where
        fits : (b : Bool) → is_within (slice_get c.node.inputs i) n ≡ b
            → P (cond b (with_leaf w x (record leaf { inputs = inputs_with leaf.phase leaf.inputs i n })) w)
        fits true is = kept w x c leaf (inputs_with leaf.phase leaf.inputs i n) e f (count_with leaf.phase leaf.inputs i n)
            (may_with c.node.inputs leaf.phase leaf.inputs i n is) h
        fits false is = h
    by (Some c) e None f = h
    by None e p f = h

pub whole_kept : (system : System) → KeepsInputs system (IsWholeWorld system)
unfolding KeepsInputs
whole_kept system w x c leaf inputs placed there count may h =
    whole_set system w x leaf inputs there (λ e. count ∙ e)
    (λ d other low. subst (λ (d : Component). AreInputs d.node.inputs inputs) (some_same (sym placed ∙ other))
    (may (subst (λ (d : Component). AreInputs d.node.inputs leaf.inputs) (some_same (sym other ∙ placed)) low))) h

-- what does not look at inputs is kept
pub kept_with : (system : System) (P : World → Type 0)
    → ((w : World) (x : ℕ) (leaf : Leaf) → slice_get w.leaves x ≡ Some leaf → (inputs : List ℕ) → P w → P (with_leaf w x (record leaf { inputs = inputs })))
    → KeepsInputs system P
unfolding KeepsInputs
kept_with system P with w x c leaf inputs placed there count may h = with w x leaf there inputs h

-- EACH OF THESE

pub set_whole : (system : System) (w : World) (x i n : ℕ) → IsWholeWorld system w → IsWholeWorld system (set_input system w x i n)
set_whole system = kept_by_settings system (IsWholeWorld system) (whole_kept system)

pub set_linked : (system : System) (w : World) (x i n : ℕ) → IsLinkedWorld system w → IsLinkedWorld system (set_input system w x i n)
set_linked system = kept_by_settings system (IsLinkedWorld system)
    (kept_with system (IsLinkedWorld system) (λ w x leaf there inputs. linked_with w x leaf there inputs leaf.signals system))

pub set_left : (P : Component → Instruction → Type 0) (system : System) (w : World) (x i n : ℕ) → AreLeft P system w
    → AreLeft P system (set_input system w x i n)
set_left P system = kept_by_settings system (AreLeft P system)
    (kept_with system (AreLeft P system) (λ w x leaf there inputs. left_with w x leaf there inputs leaf.signals P system))

pub set_paid : (system : System) (w : World) (x i n : ℕ) → paid system w ≡ true → paid system (set_input system w x i n) ≡ true
set_paid system = kept_by_settings system (λ w. paid system w ≡ true)
    (kept_with system (λ w. paid system w ≡ true) (λ w x leaf there inputs. paid_with w x leaf there inputs leaf.signals system))

pub set_fit : (r : Resource) (s : Scenario) (w : World) (x i n : ℕ) → Fit r s w → Fit r s (set_input (system s) w x i n)
set_fit r s = kept_by_settings (system s) (Fit r s) (kept_with (system s) (Fit r s) (λ w x leaf there inputs. fit_with w x leaf there inputs leaf.signals r s))

pub set_opened : (system : System) (w : World) (x i n : ℕ) → AllOpened system w → AllOpened system (set_input system w x i n)
set_opened system = kept_by_settings system (AllOpened system)
    (kept_with system (AllOpened system) (λ w x leaf there inputs. opened_with w x leaf there inputs leaf.signals system))

pub set_ready : (system : System) (w : World) (x i n : ℕ) → AreReady system w → AreReady system (set_input system w x i n)
set_ready system = kept_by_settings system (AreReady system)
    (kept_with system (AreReady system) (λ w x leaf there inputs. ready_with w x leaf there inputs leaf.signals system))

pub set_roomy : (system : System) (w : World) (x i n : ℕ) → IsRoomy w → IsRoomy (set_input system w x i n)
set_roomy system = kept_by_settings system IsRoomy (kept_with system IsRoomy (λ w x leaf there inputs. roomy_with w x leaf there inputs leaf.signals))

-- a system that counts other resources has the same settings
pub set_typed : (promised : ℕ → Option Kind) (extra : Extra) (system other : System) (w : World) (x i n : ℕ)
    → IsTypedBy promised extra other w → IsTypedBy promised extra other (set_input system w x i n)
set_typed promised extra system other = kept_by_settings system (IsTypedBy promised extra other)
    (kept_with system (IsTypedBy promised extra other) (λ w x leaf there inputs. typed_with w x leaf there inputs leaf.signals promised extra other))

pub set_held : (system other : System) (w : World) (x i n : ℕ) → IsHeld other w → IsHeld other (set_input system w x i n)
set_held system other = kept_by_settings system (IsHeld other)
    (kept_with system (IsHeld other) (λ w x leaf there inputs. held_with w x leaf there inputs leaf.signals other))

pub set_counted : (since : Since) (system : System) (w : World) (x i n : ℕ) → IsCounted since system w → IsCounted since system (set_input system w x i n)
set_counted since system = kept_by_settings system (IsCounted since system)
    (kept_with system (IsCounted since system) (λ w x leaf there inputs h.
    record {
      promised = h.promised;
      done = h.done;
      made = h.made;
      left = h.left;
      typed = typed_with w x leaf there inputs leaf.signals h.promised (Within system h.left) system h.typed;
      counts = counts_with w x leaf there inputs leaf.signals (λ i. refl) since h.done h.made h.left system h.counts;
    }))

-- SIGNALS

with_long : (signals : List Signal) (i : ℕ) → length (signals_with signals i) ≡ length signals
with_long [] i = refl
with_long (s ∷ rest) zero = refl
with_long (s ∷ rest) (suc i) = ap suc (with_long rest i)

pub with_taken : (signals : List Signal) (i j : ℕ) → times_taken (signals_with signals i) j ≡ times_taken signals j
with_taken [] i j = refl
with_taken (s ∷ rest) zero zero = refl
with_taken (s ∷ rest) zero (suc j) = refl
with_taken (s ∷ rest) (suc i) zero = refl
with_taken (s ∷ rest) (suc i) (suc j) = with_taken rest i j

-- a leaf has another signal submitted, or nothing is changed
pub of_submit : (P : World → Type 0) (w : World) (x i : ℕ)
    → ((leaf : Leaf) → slice_get w.leaves x ≡ Some leaf → P (with_leaf w x (record leaf { signals = signals_with leaf.signals i })))
    → P w → P (submit w x i)
of_submit P w x i changed same = by (slice_get w.leaves x) refl
  where
    by : (o : Option Leaf) → slice_get w.leaves x ≡ o → P (submit_in w x i o)
    by (Some leaf) e = changed leaf e
    by None e = same

pub submit_whole : (system : System) (w : World) (x i : ℕ) → IsWholeWorld system w → IsWholeWorld system (submit w x i)
submit_whole system w x i h = of_submit (IsWholeWorld system) w x i
    (λ leaf there. whole_signals system w x leaf (signals_with leaf.signals i) there (with_long leaf.signals i) h) h

pub submit_linked : (system : System) (w : World) (x i : ℕ) → IsLinkedWorld system w → IsLinkedWorld system (submit w x i)
submit_linked system w x i h = of_submit (IsLinkedWorld system) w x i
    (λ leaf there. linked_with w x leaf there leaf.inputs (signals_with leaf.signals i) system h) h

pub submit_left : (P : Component → Instruction → Type 0) (system : System) (w : World) (x i : ℕ) → AreLeft P system w → AreLeft P system (submit w x i)
submit_left P system w x i h = of_submit (AreLeft P system) w x i
    (λ leaf there. left_with w x leaf there leaf.inputs (signals_with leaf.signals i) P system h) h

pub submit_paid : (system : System) (w : World) (x i : ℕ) → paid system w ≡ true → paid system (submit w x i) ≡ true
submit_paid system w x i h = of_submit (λ w. paid system w ≡ true) w x i
    (λ leaf there. paid_with w x leaf there leaf.inputs (signals_with leaf.signals i) system h) h

pub submit_fit : (r : Resource) (s : Scenario) (w : World) (x i : ℕ) → Fit r s w → Fit r s (submit w x i)
submit_fit r s w x i h = of_submit (Fit r s) w x i (λ leaf there. fit_with w x leaf there leaf.inputs (signals_with leaf.signals i) r s h) h

pub submit_opened : (system : System) (w : World) (x i : ℕ) → AllOpened system w → AllOpened system (submit w x i)
submit_opened system w x i h = of_submit (AllOpened system) w x i
    (λ leaf there. opened_with w x leaf there leaf.inputs (signals_with leaf.signals i) system h) h

pub submit_ready : (system : System) (w : World) (x i : ℕ) → AreReady system w → AreReady system (submit w x i)
submit_ready system w x i h = of_submit (AreReady system) w x i
    (λ leaf there. ready_with w x leaf there leaf.inputs (signals_with leaf.signals i) system h) h

pub submit_roomy : (w : World) (x i : ℕ) → IsRoomy w → IsRoomy (submit w x i)
submit_roomy w x i h = of_submit IsRoomy w x i (λ leaf there. roomy_with w x leaf there leaf.inputs (signals_with leaf.signals i) h) h

pub submit_typed : (promised : ℕ → Option Kind) (extra : Extra) (system : System) (w : World) (x i : ℕ)
    → IsTypedBy promised extra system w → IsTypedBy promised extra system (submit w x i)
submit_typed promised extra system w x i h = of_submit (IsTypedBy promised extra system) w x i
    (λ leaf there. typed_with w x leaf there leaf.inputs (signals_with leaf.signals i) promised extra system h) h

pub submit_held : (system : System) (w : World) (x i : ℕ) → IsHeld system w → IsHeld system (submit w x i)
submit_held system w x i h = of_submit (IsHeld system) w x i
    (λ leaf there. held_with w x leaf there leaf.inputs (signals_with leaf.signals i) system h) h

pub submit_counted : (since : Since) (system : System) (w : World) (x i : ℕ) → IsCounted since system w → IsCounted since system (submit w x i)
submit_counted since system w x i h = of_submit (IsCounted since system) w x i (λ leaf there.
    let signals = signals_with leaf.signals i in
    record {
      promised = h.promised;
      done = h.done;
      made = h.made;
      left = h.left;
      typed = typed_with w x leaf there leaf.inputs signals h.promised (Within system h.left) system h.typed;
      counts = counts_with w x leaf there leaf.inputs signals (with_taken leaf.signals i) since h.done h.made h.left system h.counts;
    }) h

-- WHAT A SETTING CHANGES

-- a leaf has other inputs, or nothing is changed
pub of_setting : (system : System) (P : World → Type 0) (w : World) (x i n : ℕ)
    → ((leaf : Leaf) (inputs : List ℕ) → slice_get w.leaves x ≡ Some leaf → P (with_leaf w x (record leaf { inputs = inputs })))
    → P w → P (set_input system w x i n)
of_setting system P w x i n changed same = by (slice_get system.components x) (slice_get w.leaves x) refl
  where
    by : (o : Option Component) (p : Option Leaf) → slice_get w.leaves x ≡ p → P (set_in w x i n o p)
    by (Some c) (Some leaf) f = fits (is_within (slice_get c.node.inputs i) n)
      where
        fits : (b : Bool) → P (cond b (with_leaf w x (record leaf { inputs = inputs_with leaf.phase leaf.inputs i n })) w)
        fits true = changed leaf (inputs_with leaf.phase leaf.inputs i n) f
        fits false = same
    by (Some c) None f = same
    by None p f = same
