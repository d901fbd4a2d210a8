-- Runs to rest of sound scenarios without races.
use Rattle.std.proofs.Common.{◌≡◌, ℕ, zero, suc, ◌==◌, ◌&&◌, ◌||◌, not, Bool, true, false, List, [], ◌∷◌, ◌++◌, Option, Some, None, is_some, refl, ap, sym, ◌∙◌}
use Rattle.std.specs.Prelude.{replicate, slice_get}
use Rattle.std.proofs.lemmas.Bool.{true≢false}
use Rattle.gq_model.specs.declared.phase.Phase.{Phase}
use Rattle.gq_model.specs.declared.phase.Phase.TheVariants.{Pending, Running, Blocked, Serving, Handling, Exited}
use Rattle.gq_model.specs.machine.Scenario.{Scenario, System, Component, system}
use Rattle.gq_model.specs.machine.World.{Request, Signal, Leaf, World, start}
use Rattle.gq_model.specs.machine.Step.{oldest, first_signal, next}
use Rattle.gq_model.specs.machine.Run.{run}
use Rattle.gq_model.proofs.Small_facts.{some_none}
use Rattle.gq_laws.specs.Sound_scenarios.{IsSound}
use Rattle.gq_model.specs.machine.Rest.{runs, runs_as}
use Rattle.gq_laws.specs.Turn_effects.{StandsStill}
use Rattle.gq_laws.specs.Progress.{rests, AllRest, world_after, after_turns, Move, Turn_of, after_moves, each_move}
use Rattle.gq_laws.specs.internal.Uncounted.{uncounted}
use Rattle.gq_laws.proofs.progress.Run_turn_composition.{runs_through}
use Rattle.gq_laws.proofs.step_shapes.Step_counting.{stands_still}
use Rattle.gq_races.specs.Races.{IsRaceFree}
use Rattle.gq_determined.specs.internal.Threads.{Tracked, who, who_by, who_of, asker, served_for, has_work, thread_by, works_for, HasEnded, tracked_after}
use Rattle.gq_determined.specs.internal.Threads.{stepped_to, ready, turn_for, turned, past_of, SameAtRest}
use Rattle.gq_determined.specs.internal.Unset.{each_turn, turns_alone}
use Rattle.gq_determined.proofs.thread_runs.Thread_run_determinism.{same_owners}
use Rattle.gq_determined.proofs.thread_runs.Sound_runs.{IsFirst, all_pay, goes_by, first_start, all_stand, good, ends_same}

-- a leaf at rest works for no thread
pub rests_idle : (g : Tracked) (i : ℕ) → AllRest g.world → HasEnded i g
rests_idle g i rest = by (slice_get g.world.leaves i) refl
  where
    neither : (a b : Bool) → not (a || b) ≡ true → a ≡ false
    neither false b e = refl
    neither true b e = absurd (true≢false (sym e))

    of : (w : World) (l : Leaf) (p : Phase) → rests w i l p ≡ true → has_work p (first_signal l.signals) ≡ false
    of w l Serving e = neither (is_some (first_signal l.signals)) (is_some (oldest w i w.requests)) e
    of w l Exited e = refl
    of w l Pending e = absurd (true≢false (sym e))
    of w l Running e = absurd (true≢false (sym e))
    of w l Blocked e = absurd (true≢false (sym e))
    of w l Handling e = absurd (true≢false (sym e))

    by : (o : Option Leaf) → slice_get g.world.leaves i ≡ o → works_for g.root i i o ≡ false
    by None e = refl
    by (Some l) e = ap (λ b. b && (thread_by g.root i l.current == i)) (of g.world l l.phase (rest i l e))

-- who takes a step for no thread can not run
pub no_thread : (g : Tracked) (x : ℕ) (c : Option Component) → who g x ≡ None → runs_as g.world x c (slice_get g.world.leaves x) ≡ false
no_thread g x c e = by c (slice_get g.world.leaves x) e
  where
    asks : (o : Option (Request × List Request)) → asker g.root o ≡ None → is_some o ≡ false
    asks None e = refl
    asks (Some p) e = absurd (some_none e)

    serves : (itself : ℕ) (s : Option (ℕ × List Signal)) (o : Option (Request × List Request)) → served_for g.root itself s o ≡ None
        → (is_some s || is_some o) ≡ false
    serves itself None o e = asks o e
    serves itself (Some s) o e = absurd (some_none e)

    of : (l : Leaf) (p : Phase) → who_by g x l.current l.signals p ≡ None → runs g.world x l p ≡ false
    of l Running e = absurd (some_none e)
    of l Handling e = absurd (some_none e)
    of l Serving e = serves (thread_by g.root x l.current) (first_signal l.signals) (oldest g.world x g.world.requests) e
    of l Pending e = refl
    of l Blocked e = refl
    of l Exited e = refl

    by : (c : Option Component) (o : Option Leaf) → who_of g x o ≡ None → runs_as g.world x c o ≡ false
    by None o e = refl
    by (Some c) None e = refl
    by (Some c) (Some l) e = of l l.phase e

module _ (s : Scenario) (sound : IsSound s) (w : World) (root : ℕ → ℕ) (first : IsFirst s w root) where
  abbrev u : System
  u = uncounted (system s)

  abbrev pub at : List ℕ → Tracked
  at = tracked_after (uncounted (system s)) w root

  idle : (z : World) (x : ℕ) → StandsStill (system s) z x
  idle = stands_still (system s)

  pub next_world : (a : List ℕ) (x : ℕ) → world_after (at a).world (next (system s) (at a).world x) ≡ (at (x ∷ a)).world
  next_world a x = by (who (at a) x) refl
    where
      by : (o : Option ℕ) → who (at a) x ≡ o → world_after (at a).world (next (system s) (at a).world x) ≡ (turn_for (uncounted (system s)) (at a) x o).world
      by None e = ap (world_after (at a).world) (idle (at a).world x (no_thread (at a) x (slice_get (system s).components x) e))
      by (Some i) e =
          let p = goes_by s sound (at a).world x (all_stand s sound w root first a) in
          ap (world_after (at a).world) p.2 ∙ sym (ap (λ r. (stepped_to (ready (uncounted (system s)) (at a) x i) x i r).world) p.1)

  pub turns_world : (turns a : List ℕ) → after_turns (system s) (at a).world turns ≡ (at (turned turns a)).world
  turns_world [] a = refl
  turns_world (x ∷ turns) a = ap (λ w. after_turns (system s) w turns) (next_world a x) ∙ turns_world turns (x ∷ a)

  -- turns one by one, as moves
  turn_moves : (x n : ℕ) (moves : List Move) (more : List ℕ) → ((w : World) → after_moves (system s) w moves ≡ after_turns (system s) w more) → (w : World)
      → after_moves (system s) w (replicate n (Turn_of x) ++ moves) ≡ after_turns (system s) w (replicate n x ++ more)
  turn_moves x zero moves more same w = same w
  turn_moves x (suc n) moves more same w = turn_moves x n moves more same (world_after w (next (system s) w x))

  all_moves : (turns : List (ℕ × ℕ)) (w : World) → after_moves (system s) w (each_move (turns_alone turns)) ≡ after_turns (system s) w (each_turn turns)
  all_moves [] w = refl
  all_moves (t ∷ turns) w = turn_moves t.0 t.1 (each_move (turns_alone turns)) (each_turn turns) (all_moves turns) w

  -- the world after turns
  pub moves_world : (turns : List (ℕ × ℕ)) → after_moves (system s) w (each_move (turns_alone turns)) ≡ (at (past_of turns)).world
  moves_world turns = all_moves turns w ∙ turns_world (each_turn turns) []

  pub rest_same : IsRaceFree s → (turns others : List ℕ) → AllRest (at turns).world → AllRest (at others).world
      → SameAtRest (uncounted (system s)) w root turns others
  rest_same none turns others rest rest_other =
      let end = λ (i : ℕ). rests_idle (at turns) i rest in
      let end_other = λ (i : ℕ). rests_idle (at others) i rest_other in
      let good = good s sound w root first none in
      record {
        same = λ i own. (ends_same s sound w root first none i turns others (end i) (end_other i)).0.whole own
            (same_owners u (all_pay (system s)) w root good turns others end end_other i own);
        back = same_owners u (all_pay (system s)) w root good others turns end_other end;
        shown = λ i. (ends_same s sound w root first none i turns others (end i) (end_other i)).1;
      }

-- from the start
pub run_world : (s : Scenario) (sound : IsSound s) (turns : List (ℕ × ℕ))
    → (run (system s) (turns_alone turns)).world ≡ (at s sound (start (system s)) (λ k. 0) (first_start s sound) (past_of turns)).world
run_world s sound turns =
    runs_through s sound (turns_alone turns) ∙ moves_world s sound (start (system s)) (λ k. 0) (first_start s sound) turns
