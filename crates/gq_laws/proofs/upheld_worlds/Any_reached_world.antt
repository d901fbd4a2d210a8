-- What each world has that a scenario comes to, accepted or not.
use Rattle.std.proofs.Common.{◌≡◌, true}
use Rattle.gq_model.specs.machine.Amounts.{Resource}
use Rattle.gq_model.specs.machine.Scenario.{Scenario, system}
use Rattle.gq_model.specs.machine.World.{World}
use Rattle.gq_model.specs.machine.Sums.{paid}
use Rattle.gq_model.specs.Promises.{EachOf, SumsToTotal, ClosesWhole, EndsSessions}
use Rattle.gq_laws.specs.Reached_worlds.{IsReached}
use Rattle.gq_laws.specs.Names.{NamesDiffer}
use Rattle.gq_laws.specs.Resolved_scenarios.{IsResolved}
use Rattle.gq_laws.specs.Shapes.{IsWholeWorld}
use Rattle.gq_laws.specs.Session_links.{IsLinkedWorld}
use Rattle.gq_laws.proofs.upheld_worlds.Reached_world_induction.{in_reached}
use Rattle.gq_laws.proofs.step_shapes.Whole_worlds.{kept_whole, start_whole}
use Rattle.gq_laws.proofs.session_links.Linked_worlds.{kept_linked, start_linked}
use Rattle.gq_laws.proofs.quota_payment.Paid_worlds.{kept_paid, start_paid}
use Rattle.gq_laws.proofs.quota_payment.Closed_sessions.{closes_whole, ends_sessions}
use Rattle.gq_laws.specs.internal.Init_quanta.{Fit}
use Rattle.gq_laws.proofs.quota_payment.Quanta_kept.{start_fits, kept_fits}
use Rattle.gq_laws.proofs.quota_payment.Quota_total.{sums_to_total}
use Rattle.gq_laws.proofs.input_settings.Setting_keeps_invariants.{set_whole, set_linked, set_paid, set_fit, submit_whole, submit_linked, submit_paid}
use Rattle.gq_laws.proofs.input_settings.Setting_keeps_invariants.{submit_fit}

pub reached_whole : (s : Scenario) (w : World) → IsReached s w → IsWholeWorld (system s) w
reached_whole s = in_reached s (IsWholeWorld (system s)) (kept_whole (system s)) (set_whole (system s)) (submit_whole (system s)) (start_whole (system s))

pub reached_linked : (s : Scenario) (w : World) → IsReached s w → IsLinkedWorld (system s) w
reached_linked s = in_reached s (IsLinkedWorld (system s)) (kept_linked (system s)) (set_linked (system s)) (submit_linked (system s))
    (start_linked (system s))

-- worlds that are linked and paid
both : (s : Scenario) → NamesDiffer s → (w : World) → IsReached s w → IsLinkedWorld (system s) w × (paid (system s) w ≡ true)
both s differ w reached =
    in_reached s (λ w. IsLinkedWorld (system s) w × (paid (system s) w ≡ true))
    (λ w x new event h stepped. (kept_linked (system s) w x new event h.0 stepped, kept_paid s differ w x new event h.0 h.1 stepped))
    (λ w x i n h. (set_linked (system s) w x i n h.0, set_paid (system s) w x i n h.1))
    (λ w x i h. (submit_linked (system s) w x i h.0, submit_paid (system s) w x i h.1))
    (start_linked (system s), start_paid (system s)) w reached

pub reached_paid : (s : Scenario) (w : World) → NamesDiffer s → IsReached s w → paid (system s) w ≡ true
reached_paid s w differ reached = (both s differ w reached).1

pub reached_closes : (s : Scenario) (w : World) → NamesDiffer s → IsReached s w → ClosesWhole s w
reached_closes s w differ reached = let h = both s differ w reached in closes_whole s w h.0 h.1

pub reached_ends : (s : Scenario) (w : World) → IsReached s w → EndsSessions s w
reached_ends s w reached = ends_sessions s w (reached_whole s w reached)

-- worlds that are whole and linked, and whose inits hand out no more than they have
fit : (s : Scenario) → IsResolved s → (w : World) → IsReached s w → (IsWholeWorld (system s) w) × (IsLinkedWorld (system s) w) × ((r : Resource) → Fit r s w)
fit s resolved w reached =
    in_reached s (λ w. IsWholeWorld (system s) w × IsLinkedWorld (system s) w × ((r : Resource) → Fit r s w))
    (λ w x new event h stepped. (
      kept_whole (system s) w x new event h.0 stepped,
      kept_linked (system s) w x new event h.1 stepped,
      λ r. kept_fits r s resolved w x new event h.1 (h.2 r) stepped,
    ))
    (λ w x i n h. (set_whole (system s) w x i n h.0, set_linked (system s) w x i n h.1, λ r. set_fit r s w x i n (h.2 r)))
    (λ w x i h. (submit_whole (system s) w x i h.0, submit_linked (system s) w x i h.1, λ r. submit_fit r s w x i (h.2 r)))
    (start_whole (system s), start_linked (system s), λ r. start_fits r s resolved) w reached

pub reached_sums : (s : Scenario) (w : World) → IsResolved s → IsReached s w → EachOf (system s).counted (SumsToTotal s w)
reached_sums s w resolved reached = let h = fit s resolved w reached in sums_to_total s w h.0 (both s resolved.differ w reached).1 h.2
