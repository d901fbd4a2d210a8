-- Runs that go on from a world: where they end does not depend on the lines so far, and they come to worlds that runs from the start come to.
use Rattle.std.proofs.Common.{◌≡◌, ℕ, zero, suc, [], ◌∷◌, ◌++◌, None, refl, ap, sym, ◌∙◌, subst}
use Rattle.std.specs.Prelude.{replicate}
use Rattle.gq_model.specs.declared.act.Act.{Act}
use Rattle.gq_model.specs.declared.act.Act.TheVariants.{Turns, Sets, Submits}
use Rattle.gq_model.specs.machine.Run.{Ran, Acts, act_on, after_step, run, run_on, set_from, set_input, submit, submit_from, turn_from, turns_of}
use Rattle.gq_model.specs.machine.Scenario.{Scenario, System, system}
use Rattle.gq_model.specs.machine.Step.{next}
use Rattle.gq_model.specs.machine.World.{World}
use Rattle.gq_laws.specs.Progress.{Turn_of, after_moves, each_move, moves_of}
use Rattle.gq_laws.specs.Progress as moves
use Rattle.gq_laws.specs.Reached_worlds.{IsReached}
use Rattle.gq_laws.specs.Sound_scenarios.{IsSound}
use Rattle.gq_laws.specs.Stands.{Stands}
use Rattle.gq_laws.proofs.progress.Run_turn_composition.{after_both}
use Rattle.gq_laws.proofs.upheld_worlds.Standing_world_invariant.{stands_next, stands_set, stands_submit, stands_upheld}
use Rattle.gq_laws.proofs.upheld_worlds.Upheld_runs.{reached_stands, run_upholds}
use Rattle.gq_determined.specs.Synchronous.{going_on, world_after}

run_both : (u : System) (acts more : Acts) (ran : Ran) → run_on u (acts ++ more) ran ≡ run_on u more (run_on u acts ran)
run_both u [] more ran = refl
run_both u (t ∷ acts) more ran = run_both u acts more (act_on u t.0 t.1 ran)

module _ (s : Scenario) where
  abbrev real : System
  real = system s

  -- a run so far in which no step was wrong, and the world that it has come to
  record IsAt (ran : Ran) (w : World) : Type 0 where
    world : ran.world ≡ w
    none : ran.wrong ≡ None
    stands : Stands s ran.world

  one_turn : (ran : Ran) (x : ℕ) (w : World) → IsAt ran w → IsAt (turn_from real x ran ran.wrong) (moves.world_after w (next real w x))
  one_turn ran x w h =
      let p = (stands_upheld s ran.world h.stands).goes_on x in
      subst (λ o. IsAt (turn_from real x ran o) (moves.world_after w (next real w x))) (sym h.none)
      (subst (λ r. IsAt (after_step real x ran r) (moves.world_after w (next real w x))) (sym p.1) (record {
        world = sym (ap (moves.world_after w) (ap (λ v. next real v x) (sym h.world) ∙ p.1));
        none = refl;
        stands = stands_next s ran.world x p.0.0 p.0.1 h.stands p.1;
      }))

  turns : (ran : Ran) (x n : ℕ) (w : World) → IsAt ran w → IsAt (turns_of real x n ran) (after_moves real w (replicate n (Turn_of x)))
  turns ran x zero w h = h
  turns ran x (suc n) w h = turns (turn_from real x ran ran.wrong) x n (moves.world_after w (next real w x)) (one_turn ran x w h)

  act : (ran : Ran) (x : ℕ) (a : Act) (w : World) → IsAt ran w → IsAt (act_on real x a ran) (after_moves real w (moves_of x a))
  act ran x (Turns n) w h = turns ran x n w h
  act ran x (Sets i n) w h =
      subst (λ o. IsAt (set_from real x i n ran o) (set_input real w x i n)) (sym h.none)
      (record { world = ap (λ v. set_input real v x i n) h.world; none = h.none; stands = stands_set s ran.world x i n h.stands })
  act ran x (Submits i) w h =
      subst (λ o. IsAt (submit_from x i ran o) (submit w x i)) (sym h.none)
      (record { world = ap (λ v. submit v x i) h.world; none = h.none; stands = stands_submit s ran.world x i h.stands })

  all_acts : (ran : Ran) (acts : Acts) (w : World) → IsAt ran w → IsAt (run_on real acts ran) (after_moves real w (each_move acts))
  all_acts ran [] w h = h
  all_acts ran (t ∷ acts) w h =
      subst (IsAt (run_on real (t ∷ acts) ran)) (sym (after_both real w (moves_of t.0 t.1) (each_move acts)))
      (all_acts (act_on real t.0 t.1 ran) acts (after_moves real w (moves_of t.0 t.1)) (act ran t.0 t.1 w h))

  pub after_acts : (w : World) → Stands s w → (acts : Acts) → world_after s w acts ≡ after_moves real w (each_move acts)
  after_acts w stands acts = (all_acts (going_on w) acts w (record { world = refl; none = refl; stands = stands })).world

  pub reached_more : IsSound s → (w : World) → IsReached s w → (acts : Acts) → IsReached s (world_after s w acts)
  reached_more sound w r acts = record {
    turns = r.turns ++ acts;
    is = ap (λ (ran : Ran). ran.world) (run_both real r.turns acts _)
        ∙ ((all_acts (run real r.turns) acts w (record {
          world = r.is;
          none = (run_upholds s sound r.turns).never_wrong;
          stands = reached_stands s sound (run real r.turns).world (record { turns = r.turns; is = refl });
        })).world ∙ sym (after_acts w (reached_stands s sound w r) acts));
  }
