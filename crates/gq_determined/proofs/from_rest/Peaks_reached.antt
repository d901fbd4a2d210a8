-- No peak of a leaf is below what its own slots have in use, in each world that a scenario comes to.
use Rattle.std.proofs.Common.{ℕ, inl, inr, subst}
use Rattle.gq_tariff.specs.Prices.{classes}
use Rattle.gq_model.specs.machine.Run.{set_input, submit}
use Rattle.gq_model.specs.machine.Scenario.{Scenario, System, system}
use Rattle.gq_model.specs.machine.World.{Leaf, World}
use Rattle.gq_laws.specs.Reached_worlds.{IsReached}
use Rattle.gq_laws.proofs.input_settings.Setting_keeps_invariants.{of_setting, of_submit}
use Rattle.gq_laws.proofs.upheld_worlds.Reached_world_induction.{in_reached}
use Rattle.gq_determined.proofs.rest_accounts.Own_peak_bounds.{AreWithin, Within}
use Rattle.gq_determined.proofs.rest_accounts.Own_peaks_kept.{next_within, start_within}
use Rattle.gq_determined.proofs.thread_runs.Remaining_section_statements.{set_get}

within_set : (u : System) (w : World) (x i n : ℕ) → AreWithin w → AreWithin (set_input u w x i n)
within_set u w x i n h =
    of_setting u AreWithin w x i n (λ leaf inputs there. record {
      each = λ y l at. elim (set_get w.leaves x y (record leaf { inputs = inputs }) l at) [
        | inl e ↦ subst (λ (l : Leaf). Within classes l.slots l.peaks) e.1 (h.each x leaf there)
        | inr e ↦ h.each y l e
      ];
    }) h

within_submit : (w : World) (x i : ℕ) → AreWithin w → AreWithin (submit w x i)
within_submit w x i h =
    of_submit AreWithin w x i (λ leaf there. record {
      each = λ y l at. elim (set_get w.leaves x y _ l at) [
        | inl e ↦ subst (λ (l : Leaf). Within classes l.slots l.peaks) e.1 (h.each x leaf there)
        | inr e ↦ h.each y l e
      ];
    }) h

pub reached_within : (s : Scenario) (w : World) → IsReached s w → AreWithin w
reached_within s = in_reached s AreWithin (next_within (system s)) (within_set (system s)) within_submit (start_within (system s))
