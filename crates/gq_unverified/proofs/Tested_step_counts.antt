-- How many steps leaves have taken.
use Rattle.std.proofs.Common.{◌≡◌, ℕ, zero, suc, ◌+◌, ◌<◌, ◌≤◌, ◌^◌, Bool, true, false, List, [], ◌∷◌, length, map, Option, Some, None, Ok, IfSome}
use Rattle.std.proofs.Common.{OnOk, Result, refl, ap, sym, ◌∙◌, subst, arith}
use Rattle.std.proofs.lemmas.List.{length-set}
use Rattle.std.specs.Prelude.{slice_get, slice_index, slice_set}
use Rattle.gq_model.specs.machine.Doing.{Event, Stepped}
use Rattle.gq_model.specs.machine.Scenario.{System, Component}
use Rattle.gq_model.specs.machine.Run.{set_input, signals_with, submit}
use Rattle.gq_model.specs.machine.Step.{next}
use Rattle.gq_model.specs.machine.World.{Leaf, World, start, start_leaves}
use Rattle.gq_model.specs.machine.Rest.{can_run}
use Rattle.gq_laws.specs.Turn_effects.{CountsSteps, KeepsLeaves, StandsStill, steps_of}
use Rattle.gq_laws.proofs.input_settings.Setting_keeps_invariants.{of_setting, of_submit}
use Rattle.gq_laws.proofs.input_settings.Setting_counts_nothing.{set_steps, submit_steps}
use Rattle.gq_laws.proofs.step_shapes.Step_counting.{index_there}
use Rattle.gq_machine.specs.Machines.{IsCountable}
use Rattle.gq_unverified.specs.internal.Taking.{HasRoom, IsNear}

-- one number of a list is raised by one
set_most : (l : List ℕ) (x y : ℕ) → slice_index (slice_set l x (suc (slice_index l x))) y ≤ slice_index l y + 1
set_most [] x y = omega arith
set_most (n ∷ l) zero zero = omega arith
set_most (n ∷ l) zero (suc y) = omega arith
set_most (n ∷ l) (suc x) zero = omega arith
set_most (n ∷ l) (suc x) (suc y) = set_most l x y

same_ok : {p q : World × Event} → ◌≡◌ {A = Stepped} (Ok p) (Ok q) → p ≡ q
same_ok e = cc

-- a turn that is not wrong
pub near_turn : (system : System) (w : World) (x : ℕ) → StandsStill system w x → CountsSteps system w x → KeepsLeaves system w x → (new : World) (event : Event)
    → next system w x ≡ Ok (new, event) → IsNear w new 1
near_turn system w x still counts keeps new event e = record { leaves = keeps new event e; steps = by (can_run system w x) refl }
  where
    by : (b : Bool) → can_run system w x ≡ b → (y : ℕ) → slice_index (steps_of new) y ≤ slice_index (steps_of w) y + 1
    by true can y = subst (λ (l : List ℕ). slice_index l y ≤ slice_index (steps_of w) y + 1) (sym (counts new event can e)) (set_most (steps_of w) x y)
    by false can y =
        let same : w ≡ new = ap (λ (p : World × Event). p.0) (same_ok (sym (still can) ∙ e)) in
        subst (λ (v : World). slice_index (steps_of v) y ≤ slice_index (steps_of w) y + 1) same (omega arith)

-- a wrong one
pub near_same : (old new : World) (n : ℕ) → new ≡ old → IsNear old new n
near_same old new n e =
    record {
      leaves = ap (λ w. length w.leaves) e;
      steps = λ y. subst (λ (w : World). slice_index (steps_of w) y ≤ slice_index (steps_of old) y + n) (sym e) (omega arith);
    }

pub near_both : (a b c : World) (n m k : ℕ) → n + m ≤ k → IsNear a b n → IsNear b c m → IsNear a c k
near_both a b c n m k most g h =
    record { leaves = h.leaves ∙ g.leaves; steps = λ y. let p = g.steps y in let q = h.steps y in omega (arith, p, q, most) }

-- a setting takes no step
set_leaves : (system : System) (w : World) (x i n : ℕ) → length (set_input system w x i n).leaves ≡ length w.leaves
set_leaves system w x i n =
    of_setting system (λ v. length v.leaves ≡ length w.leaves) w x i n
    (λ leaf inputs there. length-set w.leaves x (record leaf { inputs = inputs })) refl

pub near_set : (system : System) (old new : World) (x i n : ℕ) → new ≡ set_input system old x i n → IsNear old new 0
near_set system old new x i n e =
    subst (λ (w : World). IsNear old w 0) (sym e)
    (record {
      leaves = set_leaves system old x i n;
      steps = λ y. let h = ap (λ (l : List ℕ). slice_index l y) (set_steps system old x i n) in omega (arith, h);
    })

-- so does a signal
submit_leaves : (w : World) (x i : ℕ) → length (submit w x i).leaves ≡ length w.leaves
submit_leaves w x i =
    of_submit (λ v. length v.leaves ≡ length w.leaves) w x i
    (λ leaf there. length-set w.leaves x (record leaf { signals = signals_with leaf.signals i })) refl

pub near_submit : (old new : World) (x i : ℕ) → new ≡ submit old x i → IsNear old new 0
near_submit old new x i e =
    subst (λ (w : World). IsNear old w 0) (sym e)
    (record {
      leaves = submit_leaves old x i;
      steps = λ y. let h = ap (λ (l : List ℕ). slice_index l y) (submit_steps old x i) in omega (arith, h);
    })

-- there is room for what is left
pub room_left : (a b : World) (n m k : ℕ) → m + k ≤ n → HasRoom a n → IsNear a b m → HasRoom b k
room_left a b n m k most room near x = let p = near.steps x in let q = room x in omega (arith, p, q, most)

-- one step more can be counted
pub countable : (w : World) (x : ℕ) → HasRoom w 1 → IsCountable w x
countable w x room = by (slice_get w.leaves x) refl
  where
    by : (o : Option Leaf) → slice_get w.leaves x ≡ o → IfSome o (λ (l : Leaf). l.steps + 1 < 2 ^ 64)
    by None e = tt
    by (Some leaf) e = subst (λ (n : ℕ). n + 1 < 2 ^ 64) (index_there w.leaves x leaf e) (room x)

-- AT THE START

no_steps : (cs : List Component) (x : ℕ) → slice_index (map (λ leaf. leaf.steps) (start_leaves cs)) x ≡ 0
no_steps [] x = refl
no_steps (c ∷ cs) zero = refl
no_steps (c ∷ cs) (suc x) = no_steps cs x

pub start_room : (system : System) (n : ℕ) → n < 2 ^ 64 → HasRoom (start system) n
start_room system n less x = let none = no_steps system.components x in omega (arith, none, less)

leaves_of : (cs : List Component) → length (start_leaves cs) ≡ length cs
leaves_of [] = refl
leaves_of (c ∷ cs) = ap suc (leaves_of cs)

pub start_count : (system : System) → length (start system).leaves ≡ length system.components
start_count system = leaves_of system.components

-- what is said of an `Ok` holds where there is one
pub from_ok : {A E : Type 0} (P : Type 0) (r : Result A E) (x : A) → r ≡ Ok x → OnOk r P → P
from_ok P r x e h = subst (λ y. OnOk y P) e h
