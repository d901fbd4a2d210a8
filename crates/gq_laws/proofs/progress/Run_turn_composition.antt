-- A run over turns and settings ends in the world after all of them, one by one.
use Rattle.std.proofs.Common.{◌≡◌, ℕ, zero, suc, List, [], ◌∷◌, ◌++◌, None, refl, ap, sym, ◌∙◌, subst}
use Rattle.std.specs.Prelude.{replicate}
use Rattle.gq_model.specs.declared.act.Act.{Act}
use Rattle.gq_model.specs.declared.act.Act.TheVariants.{Turns, Sets, Submits}
use Rattle.gq_model.specs.machine.Scenario.{Scenario, System, system}
use Rattle.gq_model.specs.machine.World.{World, start}
use Rattle.gq_model.specs.machine.Step.{next}
use Rattle.gq_model.specs.machine.Run.{Ran, Acts, after_step, turn_from, turns_of, set_input, set_from, act_on, run_on, submit, submit_from}
use Rattle.gq_laws.specs.Sound_scenarios.{IsSound}
use Rattle.gq_laws.specs.Stands.{Stands}
use Rattle.gq_laws.proofs.upheld_worlds.Standing_world_invariant.{stands_first, stands_next, stands_set, stands_upheld, stands_submit}
use Rattle.gq_laws.specs.Progress.{world_after, Move, Turn_of, after_move, after_moves, moves_of, each_move, RunsThrough}

pub after_both : (system : System) (w : World) (xs ys : List Move) → after_moves system w (xs ++ ys) ≡ after_moves system (after_moves system w xs) ys
after_both system w [] ys = refl
after_both system w (m ∷ xs) ys = after_both system (after_move system w m) xs ys

module _ (s : Scenario) where
  abbrev real : System
  real = system s

  -- a run so far in which no step was wrong, and the world that it has come to
  record IsAt (ran : Ran) (w : World) : Type 0 where
    world : ran.world ≡ w
    none : ran.wrong ≡ None
    stands : Stands s ran.world

  one_turn : (ran : Ran) (x : ℕ) (w : World) → IsAt ran w → IsAt (turn_from real x ran ran.wrong) (world_after w (next real w x))
  one_turn ran x w h =
      let p = (stands_upheld s ran.world h.stands).goes_on x in
      subst (λ o. IsAt (turn_from real x ran o) (world_after w (next real w x))) (sym h.none)
      (subst (λ r. IsAt (after_step real x ran r) (world_after w (next real w x))) (sym p.1) (record {
        world = sym (ap (world_after w) (ap (λ v. next real v x) (sym h.world) ∙ p.1));
        none = refl;
        stands = stands_next s ran.world x p.0.0 p.0.1 h.stands p.1;
      }))

  turns : (ran : Ran) (x n : ℕ) (w : World) → IsAt ran w → IsAt (turns_of real x n ran) (after_moves real w (replicate n (Turn_of x)))
  turns ran x zero w h = h
  turns ran x (suc n) w h = turns (turn_from real x ran ran.wrong) x n (world_after w (next real w x)) (one_turn ran x w h)

  setting : (ran : Ran) (x i n : ℕ) (w : World) → IsAt ran w → IsAt (set_from real x i n ran ran.wrong) (set_input real w x i n)
  setting ran x i n w h =
      subst (λ o. IsAt (set_from real x i n ran o) (set_input real w x i n)) (sym h.none)
      (record { world = ap (λ v. set_input real v x i n) h.world; none = h.none; stands = stands_set s ran.world x i n h.stands })

  signal : (ran : Ran) (x i : ℕ) (w : World) → IsAt ran w → IsAt (submit_from x i ran ran.wrong) (submit w x i)
  signal ran x i w h =
      subst (λ o. IsAt (submit_from x i ran o) (submit w x i)) (sym h.none)
      (record { world = ap (λ v. submit v x i) h.world; none = h.none; stands = stands_submit s ran.world x i h.stands })

  act : (ran : Ran) (x : ℕ) (a : Act) (w : World) → IsAt ran w → IsAt (act_on real x a ran) (after_moves real w (moves_of x a))
  act ran x (Turns n) w h = turns ran x n w h
  act ran x (Sets i n) w h = setting ran x i n w h
  act ran x (Submits i) w h = signal ran x i w h

  all_acts : (ran : Ran) (acts : Acts) (w : World) → IsAt ran w → IsAt (run_on real acts ran) (after_moves real w (each_move acts))
  all_acts ran [] w h = h
  all_acts ran (t ∷ acts) w h =
      subst (IsAt (run_on real (t ∷ acts) ran)) (sym (after_both real w (moves_of t.0 t.1) (each_move acts)))
      (all_acts (act_on real t.0 t.1 ran) acts (after_moves real w (moves_of t.0 t.1)) (act ran t.0 t.1 w h))

  pub runs_through : IsSound s → (acts : Acts) → RunsThrough real acts
  runs_through sound acts = (all_acts _ acts (start real) (record { world = refl; none = refl; stands = stands_first s sound })).world
