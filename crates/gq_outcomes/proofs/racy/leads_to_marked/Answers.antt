use Rattle.std.proofs.Common.{◌∙◌, List, ℕ, ap, sym}
use Rattle.gq_views.specs.internal.Table_leaves.{served_by}
use Rattle.gq_outcomes.specs.internal.Racy.{is_marked}
use Rattle.gq_outcomes.proofs.Racy_lists.{service_past}
use Rattle.gq_outcomes.proofs.racy.leads_to_marked.Goals as goal

pub loop-service-preserved : goal.loop-service-preserved
loop-service-preserved c =
    let marked = c.args.marked.now in
    c.loop-service.invariant
    ∙ service_past (λ (service : List ℕ). is_marked marked (served_by c.args.client.now service)) c.args.services.now
    c.loop-service.service-index c.service-item.result c.loop-service-test.true c.service-item.is
    (ap (is_marked marked) (sym c.server.ensures) ∙ sym c.is_marked.ensures ∙ c.if-is_marked.false)
