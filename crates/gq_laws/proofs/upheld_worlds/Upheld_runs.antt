-- Every run of a sound scenario keeps all that is promised of it.
use Rattle.std.proofs.Common.{◌≡◌, ℕ, zero, suc, [], ◌∷◌, ◌++◌, None, Ok, Err, refl, ap, sym, ◌∙◌, subst}
use Rattle.gq_model.specs.declared.act.Act.{Act}
use Rattle.gq_model.specs.declared.act.Act.TheVariants.{Turns, Sets, Submits}
use Rattle.gq_model.specs.machine.Scenario.{Scenario, System, system}
use Rattle.gq_model.specs.machine.World.{World}
use Rattle.gq_model.specs.machine.Doing.{Event, Stepped}
use Rattle.gq_model.specs.machine.Step.{next}
use Rattle.gq_model.specs.machine.Run.{Ran, Acts, after_step, turn_from, turns_of, set_from, submit_from, act_on, run_on, run}
use Rattle.gq_model.specs.machine.Accounts.{text_of}
use Rattle.gq_model.specs.rules.Accept.{budgets, step_budgets}
use Rattle.gq_model.specs.Promises.{IsUpheld, Upholds}
use Rattle.gq_laws.specs.Reached_worlds.{IsReached}
use Rattle.gq_laws.specs.Sound_scenarios.{IsSound}
use Rattle.gq_laws.specs.Stands.{Stands}
use Rattle.gq_laws.proofs.upheld_worlds.Reached_world_induction.{in_reached}
use Rattle.gq_laws.proofs.upheld_worlds.Standing_world_invariant.{stands_first, stands_next, stands_set, stands_submit, stands_upheld}

module _ (s : Scenario) (sound : IsSound s) where
  abbrev real : System
  real = system s

  -- NO STEP OF A RUN IS WRONG

  record IsRight (ran : Ran) : Type 0 where
    none : ran.wrong ≡ None
    good : Stands s ran.world

  right_step : (ran : Ran) (x : ℕ) (r : Stepped) → next real ran.world x ≡ r → IsRight ran → IsRight (after_step real x ran r)
  right_step ran x (Ok p) e h = record { none = refl; good = stands_next s ran.world x p.0 p.1 h.good e }
  right_step ran x (Err wrong) e h = absurd (no (sym ((stands_upheld s ran.world h.good).goes_on x).1 ∙ e))
    where
      no : {p : World × Event} → ◌≡◌ {A = Stepped} (Ok p) (Err wrong) → ⊥
      no e = cc

  right_turn : (ran : Ran) (x : ℕ) → IsRight ran → IsRight (turn_from real x ran ran.wrong)
  right_turn ran x h = subst (λ o. IsRight (turn_from real x ran o)) (sym h.none) (right_step ran x (next real ran.world x) refl h)

  right_turns : (ran : Ran) (x n : ℕ) → IsRight ran → IsRight (turns_of real x n ran)
  right_turns ran x zero h = h
  right_turns ran x (suc n) h = right_turns (turn_from real x ran ran.wrong) x n (right_turn ran x h)

  right_setting : (ran : Ran) (x i n : ℕ) → IsRight ran → IsRight (set_from real x i n ran ran.wrong)
  right_setting ran x i n h = subst (λ o. IsRight (set_from real x i n ran o)) (sym h.none)
      (record { none = h.none; good = stands_set s ran.world x i n h.good })

  right_submit : (ran : Ran) (x i : ℕ) → IsRight ran → IsRight (submit_from x i ran ran.wrong)
  right_submit ran x i h = subst (λ o. IsRight (submit_from x i ran o)) (sym h.none)
      (record { none = h.none; good = stands_submit s ran.world x i h.good })

  right_act : (ran : Ran) (x : ℕ) (act : Act) → IsRight ran → IsRight (act_on real x act ran)
  right_act ran x (Turns n) h = right_turns ran x n h
  right_act ran x (Sets i n) h = right_setting ran x i n h
  right_act ran x (Submits i) h = right_submit ran x i h

  right_list : (ran : Ran) (turns : Acts) → IsRight ran → IsRight (run_on real turns ran)
  right_list ran [] h = h
  right_list ran (t ∷ turns) h = right_list (act_on real t.0 t.1 ran) turns (right_act ran t.0 t.1 h)

  right_run : (turns : Acts) → IsRight (run real turns)
  right_run turns = right_list _ turns (record { none = refl; good = stands_first s sound })

  -- WORLDS AND RUNS

  pub reached_stands : (w : World) → IsReached s w → Stands s w
  reached_stands = in_reached s (Stands s) (stands_next s) (stands_set s) (stands_submit s) (stands_first s sound)

  pub reached_upheld : (w : World) → IsReached s w → IsUpheld s w
  reached_upheld w reached = stands_upheld s w (reached_stands w reached)

  pub run_upholds : (turns : Acts) → Upholds s turns
  run_upholds turns =
      record {
        never_wrong = (right_run turns).none;
        in_world = stands_upheld s (run real turns).world (right_run turns).good;
        on_the_way = λ before after x n m is.
            stands_upheld s (run real (before ++ (x, Turns n) ∷ [])).world (right_run (before ++ (x, Turns n) ∷ [])).good;
        after_settings = λ before after x i n is.
            stands_upheld s (run real (before ++ (x, Sets i n) ∷ [])).world (right_run (before ++ (x, Sets i n) ∷ [])).good;
        after_signals = λ before after x i is.
            stands_upheld s (run real (before ++ (x, Submits i) ∷ [])).world (right_run (before ++ (x, Submits i) ∷ [])).good;
        writes_all = ap (text_of s (step_budgets (budgets s)) (run real turns)) (right_run turns).none;
      }
