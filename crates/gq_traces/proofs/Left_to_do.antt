-- A trace has before each leaf what that leaf of the abstract machine has left to do.
use Rattle.std.proofs.Common.{◌≡◌, ◌∙◌, ℕ, zero, suc, List, [], ◌∷◌, map, Option, Some, None, Ok, Err, option_map, refl, ap, ap₂, sym}
use Rattle.std.specs.Prelude.{slice_get, slice_set}
use Rattle.std.proofs.lemmas.Option.{slice_get-map}
use Rattle.gq_model.proofs.Small_facts.{some_same}
use Rattle.gq_model.specs.declared.act.Act.{Act}
use Rattle.gq_model.specs.declared.act.Act.TheVariants.{Turns, Sets, Submits}
use Rattle.gq_model.specs.machine.Run.{Acts, signals_with}
use Rattle.gq_laws.proofs.input_settings.Setting_keeps_invariants.{of_setting, of_submit}
use Rattle.gq_model.specs.machine.Doing.{Stepped}
use Rattle.gq_model.specs.machine.Scenario.{Component, System}
use Rattle.gq_model.specs.machine.Step.{next, step_of}
use Rattle.gq_model.specs.machine.World.{Leaf, Signal, start_leaf, start_leaves}
use Rattle.gq_traces.specs.Remaining_text.{GoesWith, left_in, left_to, without_numbers}
use Rattle.gq_traces.specs.Step_positions.{start_aheads}
use Rattle.gq_traces.specs.Trace.{Due, Traced, after_act, after_all, after_due, after_setting, after_step, after_submission, after_turn, after_turns, due}
use Rattle.gq_traces.specs.Trace.{start_traced}
use Rattle.gq_traces.proofs.Left_steps.{map_set, step_left}
use Rattle.gq_traces.proofs.Printed_run.{IsDue, is_due}

-- THE START

starts : (cs : List Component) → map without_numbers (start_aheads cs) ≡ map left_to (start_leaves cs)
starts [] = refl
starts (c ∷ rest) = ap (λ l. left_to (start_leaf c) ∷ l) (starts rest)

-- TURNS

module _ (system : System) where
  -- of the leaf that takes a step
  own : (x : ℕ) (t : Traced) (d : Due) → GoesWith t → (due : IsDue system x t d) → without_numbers due.old ≡ left_to due.leaf
  own x t d h due =
      some_same (ap (option_map without_numbers) (sym due.was) ∙ (sym (slice_get-map without_numbers t.aheads x)
      ∙ (ap (λ l. slice_get l x) h ∙ (slice_get-map left_to t.world.leaves x ∙ ap (option_map left_to) due.stands))))

  step_goes : (x : ℕ) (t : Traced) (d : Due) → GoesWith t → IsDue system x t d → (r : Stepped) → next system t.world x ≡ r → GoesWith (after_step x t d r)
  step_goes x t d h due (Err wrong) e = h
  step_goes x t d h due (Ok p) e =
      let is = ap₂ (step_of system t.world x) due.there due.stands in
      let left = (step_left system t.world x d.component due.leaf due.old (own x t d h due) due.leaf.phase d.place due.place).holds p.0 p.1 (sym is ∙ e) in
      map_set without_numbers t.aheads x d.ahead
      ∙ ((λ i. slice_set (h i) x (without_numbers (due.ahead i))) ∙ sym left)

  turn_goes : (x : ℕ) (t : Traced) → GoesWith t → GoesWith (after_turn system x t)
  turn_goes x t h = by (due system x t) refl
    where
      by : (o : Option Due) → due system x t ≡ o → GoesWith (after_due system x t o)
      by None e = h
      by (Some d) e = step_goes x t d h (is_due system x t d e) (next system t.world x) refl

  turns_go : (x n : ℕ) (t : Traced) → GoesWith t → GoesWith (after_turns system x n t)
  turns_go x zero t h = h
  turns_go x (suc n) t h = turns_go x n (after_turn system x t) (turn_goes x t h)

  -- an input is nothing that is left to do
  set_goes : (x i n : ℕ) (t : Traced) → GoesWith t → GoesWith (after_setting system x i n t)
  set_goes x i n t h =
      h ∙ sym (of_setting system (λ w. left_in w ≡ left_in t.world) t.world x i n (λ leaf inputs there. same t.world.leaves x leaf inputs there) refl)
    where
      same : (leaves : List Leaf) (x : ℕ) (leaf : Leaf) (inputs : List ℕ) → slice_get leaves x ≡ Some leaf
          → map left_to (slice_set leaves x (record leaf { inputs = inputs })) ≡ map left_to leaves
      same [] x leaf inputs e = refl
      same (l ∷ rest) zero leaf inputs e = ap (λ (m : Leaf). left_to m ∷ map left_to rest) (sym (some_same e))
      same (l ∷ rest) (suc x) leaf inputs e = ap (λ t. left_to l ∷ t) (same rest x leaf inputs e)

  -- nor is a signal
  submission_goes : (x i : ℕ) (t : Traced) → GoesWith t → GoesWith (after_submission x i t)
  submission_goes x i t h =
      h ∙ sym (of_submit (λ w. left_in w ≡ left_in t.world) t.world x i
      (λ leaf there. same t.world.leaves x leaf (signals_with leaf.signals i) there) refl)
    where
      same : (leaves : List Leaf) (x : ℕ) (leaf : Leaf) (signals : List Signal) → slice_get leaves x ≡ Some leaf
          → map left_to (slice_set leaves x (record leaf { signals = signals })) ≡ map left_to leaves
      same [] x leaf signals e = refl
      same (l ∷ rest) zero leaf signals e = ap (λ (m : Leaf). left_to m ∷ map left_to rest) (sym (some_same e))
      same (l ∷ rest) (suc x) leaf signals e = ap (λ t. left_to l ∷ t) (same rest x leaf signals e)

  act_goes : (x : ℕ) (a : Act) (t : Traced) → GoesWith t → GoesWith (after_act system x a t)
  act_goes x (Turns n) t h = turns_go x n t h
  act_goes x (Sets i n) t h = set_goes x i n t h
  act_goes x (Submits i) t h = submission_goes x i t h

  all_go : (acts : Acts) (t : Traced) → GoesWith t → GoesWith (after_all system acts t)
  all_go [] t h = h
  all_go (p ∷ acts) t h = all_go acts (after_act system p.0 p.1 t) (act_goes p.0 p.1 t h)

pub goes_with : (system : System) (turns : Acts) → GoesWith (after_all system turns (start_traced system))
goes_with system turns = all_go system turns (start_traced system) (starts system.components)
