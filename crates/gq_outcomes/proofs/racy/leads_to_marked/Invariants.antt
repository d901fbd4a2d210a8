use Rattle.std.proofs.Common.{◌≡◌, List, ℕ, drop}
use Rattle.gq_model.specs.machine.Lists.{any_of}
use Rattle.gq_views.specs.internal.Table_leaves.{served_by}
use Rattle.gq_outcomes.specs.internal.Racy.{is_marked}
use Rattle.gq_outcomes.proofs.racy.leads_to_marked.Given as goal

-- some lead there just if some of those that are left do
abbrev pub invariant-loop-service : goal.invariant-loop-service
invariant-loop-service l =
    any_of (λ (service : List ℕ). is_marked l.marked (served_by l.client service)) l.services
    ≡ any_of (λ (service : List ℕ). is_marked l.marked (served_by l.client service)) (drop l.service-index l.services)
