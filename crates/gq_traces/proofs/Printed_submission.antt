-- A signal that is submitted, reported or not.
use Rattle.std.proofs.Common.{◌≡◌, ◌∙◌, ◌+◌, ◌<◌, ◌≤◌, ℕ, Bool, true, false, List, [], Option, length, ap, sym, subst, arith}
use Rattle.std.specs.Prelude.{◌||◌, ◌&&◌, not, if◌then◌else◌, slice_get}
use Rattle.gq_output.specs.declared.counted.Counted.{Counted}
use Rattle.gq_model.specs.machine.Run.{label_at, submit}
use Rattle.gq_model.specs.machine.Scenario.{Scenario, components, system}
use Rattle.gq_model.specs.machine.World as model
use Rattle.gq_world.specs.World_between_turns.{World}
use Rattle.gq_traces.specs.Trace.{Traced, after_submission, flag_at, leaf_label, signal_line, submission_text}
use Rattle.gq_traces.specs.declared.trace.Tracing.{Tracing}
use Rattle.gq_traces.specs.internal.Flat.{ArePrograms, programs_of}
use Rattle.gq_traces.specs.internal.Noted.{AreNoted}
use Rattle.gq_traces.specs.internal.Printed_steps.{CanTrace, Goes, PrintsTurns}
use Rattle.gq_traces.proofs.Sequential_text_writes.{goes_nothing, goes_text}
use Rattle.gq_traces.proofs.Still_set.{submission_noted}

module _ {W : Type 0} (contents : W → Option (List ℕ)) (all : Bool) (x i : ℕ) (old new : World) (t : Tracing) (same : new.scenario ≡ old.scenario)
    (running : new.stopped ≡ false) (signals : new.signals ≤ old.signals + 1) (submitted : new.world ≡ submit old.world x i)
    (less : x < length old.world.leaves) (can : CanTrace old t) where
  abbrev text : Traced → List ℕ
  text = submission_text all (system old.scenario) x i

  -- the trace can go on
  can_go : CanTrace new t
  can_go = record {
    programs = subst (λ (s : Scenario). ArePrograms t.programs.items (programs_of s)) (sym same) can.programs;
    stands = can.stands;
    noted = subst (λ (w : model.World). AreNoted new.scenario w t.notes) (sym submitted)
        (subst (λ (s : Scenario). AreNoted s (submit old.world x i) t.notes) (sym same)
        (submission_noted old.scenario old.world x i t.notes less can.noted));
    running = running;
  }

  reports : (turns : ℕ) (a b : Counted W) (was now : Bool) → ((u : Traced) → u.world ≡ old.world → Goes contents a b was now (text u))
      → PrintsTurns 1 contents text (after_submission x i) turns 0 old new t t a b was now
  reports turns a b was now goes = record {
    scenario = same;
    signals = signals;
    can = can_go;
    written = λ u on. goes u on.world;
    on = λ u on. record {
      world = ap (λ (w : model.World). submit w x i) on.world ∙ sym submitted;
      aheads = on.aheads;
      count = (let count = on.count in omega (arith, count));
    };
  }

  -- whether it is reported, by the flag before and after it
  reported_by : (reported before after : Bool) → before ≡ flag_at old.world x i → after ≡ flag_at new.world x i → reported ≡ (all || (after && not before))
      → (u : Traced) → u.world ≡ old.world → (if reported then signal_line (leaf_label (system old.scenario) x) i else []) ≡ text u
  reported_by reported before after was is e u at =
      let f : model.World → Bool = λ v. flag_at v x i in
      let last : after ≡ f (submit u.world x i) = is ∙ ap f submitted ∙ sym (ap (λ (v : model.World). f (submit v x i)) at) in
      let first : before ≡ f u.world = was ∙ sym (ap f at) in
      ap (λ b. if b then signal_line (leaf_label (system old.scenario) x) i else []) (e ∙ (λ k. all || (last k && not (first k))))

  pub submission_printed : (turns : ℕ) (a b : Counted W) (was now reported before after : Bool) → before ≡ flag_at old.world x i → after ≡ flag_at
      new.world x i
      → reported ≡ (all || (after && not before)) → reported ≡ true
      → Goes contents a b was now (signal_line (label_at (slice_get (components new.scenario) x)) i)
      → PrintsTurns 1 contents text (after_submission x i) turns 0 old new t t a b was now
  submission_printed turns a b was now reported before after first is e shown goes =
      reports turns a b was now (λ u at.
      goes_text contents a b was now (signal_line (label_at (slice_get (components new.scenario) x)) i) (text u)
      (ap (λ (s : Scenario). signal_line (leaf_label (system s) x) i) same
      ∙ (sym (ap (λ b. if b then signal_line (leaf_label (system old.scenario) x) i else []) shown) ∙ reported_by reported before after first is e u at)) goes)

  pub submission_unprinted : (turns : ℕ) (a : Counted W) (was reported before after : Bool) → before ≡ flag_at old.world x i → after ≡ flag_at new.world x i
      → reported ≡ (all || (after && not before)) → reported ≡ false
      → PrintsTurns 1 contents text (after_submission x i) turns 0 old new t t a a was was
  submission_unprinted turns a was reported before after first is e hidden =
      reports turns a a was was (λ u at.
      goes_text contents a a was was [] (text u)
      (sym (ap (λ b. if b then signal_line (leaf_label (system old.scenario) x) i else []) hidden) ∙ reported_by reported before after first is e u at)
      (goes_nothing contents a was))
