use Rattle.std.proofs.Common.{◌∙◌, ap}
use Rattle.std.proofs.lemmas.Result.{IfOk-weaker}
use Rattle.gq_resolve.specs.Served.{once}
use Rattle.gq_views.proofs.Printed_services.{each_first}
use Rattle.gq_views.proofs.drawn.services_of.Goals as goal

pub returns : goal.returns
returns c =
    IfOk-weaker c.once-each.result _ _
    (λ s e. e ∙ (ap once (c.as_slice.ensures.value ∙ c.in_ok-all.ensures) ∙ each_first _)) c.once-each.ensures
