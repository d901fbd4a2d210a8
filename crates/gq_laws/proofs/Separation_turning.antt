-- Turns of leaves outside, and settings of their inputs, leave a group that is apart untouched.
use Rattle.std.proofs.Common.{◌≡◌, ℕ, zero, suc, Bool, false, [], ◌∷◌, Option, Some, None, Ok, Err, refl, ◌∙◌}
use Rattle.gq_model.specs.declared.act.Act.{Act}
use Rattle.gq_model.specs.declared.act.Act.TheVariants.{Turns, Sets, Submits}
use Rattle.gq_model.specs.machine.Scenario.{System, Scenario, system}
use Rattle.gq_model.specs.machine.World.{World}
use Rattle.gq_model.specs.declared.fault.Wrong.{Wrong}
use Rattle.gq_model.specs.machine.Doing.{Stepped}
use Rattle.gq_model.specs.machine.Step.{next}
use Rattle.gq_model.specs.machine.Run.{Ran, Acts, after_step, turn_from, turns_of, set_from, submit_from, act_on, run_on, run}
use Rattle.gq_laws.specs.Session_links.{IsLinkedWorld}
use Rattle.gq_laws.proofs.session_links.Linked_worlds.{kept_linked}
use Rattle.gq_laws.proofs.upheld_worlds.Any_reached_world.{reached_linked}
use Rattle.gq_laws.specs.Separation.{IsApart, IsUntouched, SameRequests, AreOutside, TurnsTouchNothing}
use Rattle.gq_laws.proofs.Outside_changes_untouched.{kept_self}
use Rattle.gq_laws.proofs.Outside_step_untouched.{step_untouched, step_requests}
use Rattle.gq_laws.proofs.Group_account_sums.{same_accounts}
use Rattle.gq_laws.proofs.input_settings.Setting_keeps_invariants.{set_linked, submit_linked}
use Rattle.gq_laws.proofs.input_settings.Group_input_settings.{outside_kept, outside_submitted}

module _ (real : System) (group : ℕ → Bool) (apart : IsApart real group) (old : World) where
  -- a run has come to a linked world in which the group is as it was
  pub record IsStill (ran : Ran) : Type 0 where
    pub linked : IsLinkedWorld real ran.world
    pub still : IsUntouched group old ran.world
    pub requests : SameRequests group old ran.world

  one_step : (ran : Ran) (x : ℕ) (r : Stepped) → next real ran.world x ≡ r → group x ≡ false → IsStill ran → IsStill (after_step real x ran r)
  one_step ran x (Ok p) e out h =
      let u = step_untouched group real ran.world x p.0 p.1 h.linked apart out e in
      record {
        linked = kept_linked real ran.world x p.0 p.1 h.linked e;
        still = record { leaves = λ y inside. u.leaves y inside ∙ h.still.leaves y inside; sessions = λ k. u.sessions k ∙ h.still.sessions k };
        requests = step_requests group real ran.world x p.0 p.1 h.linked apart out e ∙ h.requests;
      }
  one_step ran x (Err wrong) e out h = record { linked = h.linked; still = h.still; requests = h.requests }

  one_turn : (ran : Ran) (x : ℕ) (o : Option (ℕ × Wrong)) → group x ≡ false → IsStill ran → IsStill (turn_from real x ran o)
  one_turn ran x None out h = one_step ran x (next real ran.world x) refl out h
  one_turn ran x (Some p) out h = h

  some_turns : (ran : Ran) (x n : ℕ) → group x ≡ false → IsStill ran → IsStill (turns_of real x n ran)
  some_turns ran x zero out h = h
  some_turns ran x (suc n) out h = some_turns (turn_from real x ran ran.wrong) x n out (one_turn ran x ran.wrong out h)

  -- a setting of an input of a leaf outside
  set_by : (ran : Ran) (x i n : ℕ) (o : Option (ℕ × Wrong)) → group x ≡ false → IsStill ran → IsStill (set_from real x i n ran o)
  set_by ran x i n None out h =
      let u = outside_kept real group ran.world x i n out in
      record {
        linked = set_linked real ran.world x i n h.linked;
        still = record { leaves = λ y inside. u.0.leaves y inside ∙ h.still.leaves y inside; sessions = λ k. u.0.sessions k ∙ h.still.sessions k };
        requests = u.1 ∙ h.requests;
      }
  set_by ran x i n (Some p) out h = h

  -- a signal of a leaf outside
  submit_by : (ran : Ran) (x i : ℕ) (o : Option (ℕ × Wrong)) → group x ≡ false → IsStill ran → IsStill (submit_from x i ran o)
  submit_by ran x i None out h =
      let u = outside_submitted group ran.world x i out in
      record {
        linked = submit_linked real ran.world x i h.linked;
        still = record { leaves = λ y inside. u.0.leaves y inside ∙ h.still.leaves y inside; sessions = λ k. u.0.sessions k ∙ h.still.sessions k };
        requests = u.1 ∙ h.requests;
      }
  submit_by ran x i (Some p) out h = h

  by_act : (ran : Ran) (x : ℕ) (a : Act) → group x ≡ false → IsStill ran → IsStill (act_on real x a ran)
  by_act ran x (Turns n) out h = some_turns ran x n out h
  by_act ran x (Sets i n) out h = set_by ran x i n ran.wrong out h
  by_act ran x (Submits i) out h = submit_by ran x i ran.wrong out h

  pub all_turns : (ran : Ran) (more : Acts) → AreOutside group more → IsStill ran → IsStill (run_on real more ran)
  all_turns ran [] out h = h
  all_turns ran (t ∷ more) out h = all_turns (act_on real t.0 t.1 ran) more out.1 (by_act ran t.0 t.1 out.0 h)

pub turns_touch_nothing : (s : Scenario) (group : ℕ → Bool) (turns : Acts) → IsApart (system s) group → TurnsTouchNothing (system s) group turns
turns_touch_nothing s group turns apart more out =
    let ran = run (system s) turns in
    let h = all_turns (system s) group apart ran.world ran more out
    (record {
      linked = reached_linked s ran.world (record { turns = turns; is = refl });
      still = (kept_self group ran.world).untouched;
      requests = refl;
    }) in
    (h.still, h.requests, same_accounts (system s) group ran.world (run_on (system s) more ran).world h.still)
