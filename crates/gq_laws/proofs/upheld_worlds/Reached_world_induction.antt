-- What the start world has and each step keeps, each world that is reached has.
use Rattle.std.proofs.Common.{◌≡◌, ℕ, zero, suc, [], ◌∷◌, Option, Some, None, Ok, Err, refl, subst}
use Rattle.gq_model.specs.declared.act.Act.{Act}
use Rattle.gq_model.specs.declared.act.Act.TheVariants.{Turns, Sets, Submits}
use Rattle.gq_model.specs.machine.Scenario.{System, Scenario, system}
use Rattle.gq_model.specs.machine.World.{World, start}
use Rattle.gq_model.specs.declared.fault.Wrong.{Wrong}
use Rattle.gq_model.specs.machine.Doing.{Event, Stepped}
use Rattle.gq_model.specs.machine.Step.{next}
use Rattle.gq_model.specs.machine.Run.{Ran, Acts, after_step, turn_from, turns_of, set_input, set_from, submit, submit_from, act_on, run_on, run}
use Rattle.gq_laws.specs.Reached_worlds.{IsReached}

module _ (system : System) (P : World → Type 0) (kept : (w : World) (x : ℕ) (new : World) (event : Event) → P w → next system w x ≡ Ok (new, event)
    → P new) (sets : (w : World) (x i n : ℕ) → P w → P (set_input system w x i n)) (submits : (w : World) (x i : ℕ) → P w → P (submit w x i)) where
  by_step : (ran : Ran) (x : ℕ) (r : Stepped) → next system ran.world x ≡ r → P ran.world → P (after_step system x ran r).world
  by_step ran x (Ok p) e h = kept ran.world x p.0 p.1 h e
  by_step ran x (Err wrong) e h = h

  by_turn : (ran : Ran) (x : ℕ) (o : Option (ℕ × Wrong)) → P ran.world → P (turn_from system x ran o).world
  by_turn ran x None h = by_step ran x (next system ran.world x) refl h
  by_turn ran x (Some p) h = h

  by_turns : (ran : Ran) (x n : ℕ) → P ran.world → P (turns_of system x n ran).world
  by_turns ran x zero h = h
  by_turns ran x (suc n) h = by_turns (turn_from system x ran ran.wrong) x n (by_turn ran x ran.wrong h)

  by_setting : (ran : Ran) (x i n : ℕ) (o : Option (ℕ × Wrong)) → P ran.world → P (set_from system x i n ran o).world
  by_setting ran x i n None h = sets ran.world x i n h
  by_setting ran x i n (Some p) h = h

  by_signal : (ran : Ran) (x i : ℕ) (o : Option (ℕ × Wrong)) → P ran.world → P (submit_from x i ran o).world
  by_signal ran x i None h = submits ran.world x i h
  by_signal ran x i (Some p) h = h

  by_act : (ran : Ran) (x : ℕ) (act : Act) → P ran.world → P (act_on system x act ran).world
  by_act ran x (Turns n) h = by_turns ran x n h
  by_act ran x (Sets i n) h = by_setting ran x i n ran.wrong h
  by_act ran x (Submits i) h = by_signal ran x i ran.wrong h

  pub by_list : (ran : Ran) (acts : Acts) → P ran.world → P (run_on system acts ran).world
  by_list ran [] h = h
  by_list ran (t ∷ acts) h = by_list (act_on system t.0 t.1 ran) acts (by_act ran t.0 t.1 h)

  pub in_run : (acts : Acts) → P (start system) → P (run system acts).world
  in_run acts h = by_list _ acts h

pub in_reached : (s : Scenario) (P : World → Type 0) → ((w : World) (x : ℕ) (new : World) (event : Event) → P w → next (system s) w x ≡ Ok (new, event) → P new)
    → ((w : World) (x i n : ℕ) → P w → P (set_input (system s) w x i n)) → ((w : World) (x i : ℕ) → P w → P (submit w x i)) → P (start (system s)) → (w : World)
    → IsReached s w → P w
in_reached s P kept sets submits h w r = subst P r.is (in_run (system s) P kept sets submits r.turns h)
