-- A setting that is reported, or not.
use Rattle.std.proofs.Common.{◌≡◌, ◌∙◌, ◌<◌, ℕ, Bool, true, false, List, [], Option, length, ap, sym, subst, arith}
use Rattle.std.specs.Prelude.{◌==◌, ◌||◌, not, if◌then◌else◌, slice_get}
use Rattle.gq_output.specs.declared.counted.Counted.{Counted}
use Rattle.gq_model.specs.machine.Run.{label_at, set_input}
use Rattle.gq_model.specs.machine.Scenario.{Scenario, components, system}
use Rattle.gq_model.specs.machine.World as model
use Rattle.gq_world.specs.World_between_turns.{World}
use Rattle.gq_traces.specs.Trace.{Traced, after_setting, input_line, leaf_label, setting_text, value_at}
use Rattle.gq_traces.specs.declared.trace.Tracing.{Tracing}
use Rattle.gq_traces.specs.internal.Flat.{ArePrograms, programs_of}
use Rattle.gq_traces.specs.internal.Noted.{AreNoted}
use Rattle.gq_traces.specs.internal.Printed_steps.{CanTrace, Goes, PrintsTurns}
use Rattle.gq_traces.proofs.Sequential_text_writes.{goes_nothing, goes_text}
use Rattle.gq_traces.proofs.Still_set.{set_noted}

module _ {W : Type 0} (contents : W → Option (List ℕ)) (all : Bool) (x i n : ℕ) (old new : World) (t : Tracing) (same : new.scenario ≡ old.scenario)
    (running : new.stopped ≡ false) (signals : new.signals ≡ old.signals) (set : new.world ≡ set_input (system old.scenario) old.world x i n) (less : x <
    length old.world.leaves) (can : CanTrace old t) where
  abbrev text : Traced → List ℕ
  text = setting_text all (system old.scenario) x i n

  -- the trace can go on
  can_go : CanTrace new t
  can_go = record {
    programs = subst (λ (s : Scenario). ArePrograms t.programs.items (programs_of s)) (sym same) can.programs;
    stands = can.stands;
    noted = subst (λ (w : model.World). AreNoted new.scenario w t.notes) (sym set)
        (subst (λ (s : Scenario). AreNoted s (set_input (system old.scenario) old.world x i n) t.notes) (sym same)
        (set_noted old.scenario old.world x i n t.notes less can.noted));
    running = running;
  }

  reports : (turns : ℕ) (a b : Counted W) (was now : Bool) → ((u : Traced) → u.world ≡ old.world → Goes contents a b was now (text u))
      → PrintsTurns 0 contents text (after_setting (system old.scenario) x i n) turns 0 old new t t a b was now
  reports turns a b was now goes = record {
    scenario = same;
    signals = omega (arith, signals);
    can = can_go;
    written = λ u on. goes u on.world;
    on = λ u on. record {
      world = ap (λ (w : model.World). set_input (system old.scenario) w x i n) on.world ∙ sym set;
      aheads = on.aheads;
      count = (let count = on.count in omega (arith, count));
    };
  }

  -- whether it is reported, by the values before and after it
  reported_by : (reported : Bool) (before after : ℕ) → before ≡ value_at old.world x i → after ≡ value_at new.world x i → reported ≡
      (all || not (after == before))
      → (u : Traced) → u.world ≡ old.world → (if reported then input_line (leaf_label (system old.scenario) x) i n else []) ≡ text u
  reported_by reported before after was is e u at =
      let w : model.World → ℕ = λ v. value_at v x i in
      let last : after ≡ w (set_input (system old.scenario) u.world x i n) =
      is ∙ ap w set ∙ sym (ap (λ (v : model.World). w (set_input (system old.scenario) v x i n)) at) in
      let first : before ≡ w u.world = was ∙ sym (ap w at) in
      ap (λ b. if b then input_line (leaf_label (system old.scenario) x) i n else [])
      (e ∙ (λ k. all || not (last k == first k)))

  pub setting_printed : (turns : ℕ) (a b : Counted W) (was now reported : Bool) (before after : ℕ) → before ≡ value_at old.world x i → after ≡ value_at
      new.world x i
      → reported ≡ (all || not (after == before)) → reported ≡ true
      → Goes contents a b was now (input_line (label_at (slice_get (components new.scenario) x)) i n)
      → PrintsTurns 0 contents text (after_setting (system old.scenario) x i n) turns 0 old new t t a b was now
  setting_printed turns a b was now reported before after first is e shown goes =
      reports turns a b was now (λ u at.
      goes_text contents a b was now (input_line (label_at (slice_get (components new.scenario) x)) i n) (text u)
      (ap (λ (s : Scenario). input_line (leaf_label (system s) x) i n) same
      ∙ (sym (ap (λ b. if b then input_line (leaf_label (system old.scenario) x) i n else []) shown) ∙ reported_by reported before after first is e u at)) goes)

  pub setting_unprinted : (turns : ℕ) (a : Counted W) (was reported : Bool) (before after : ℕ) → before ≡ value_at old.world x i → after ≡ value_at new.world x
      i
      → reported ≡ (all || not (after == before)) → reported ≡ false
      → PrintsTurns 0 contents text (after_setting (system old.scenario) x i n) turns 0 old new t t a a was was
  setting_unprinted turns a was reported before after first is e hidden =
      reports turns a a was was (λ u at.
      goes_text contents a a was was [] (text u)
      (sym (ap (λ b. if b then input_line (leaf_label (system old.scenario) x) i n else []) hidden) ∙ reported_by reported before after first is e u at)
      (goes_nothing contents a was))
