use Rattle.std.proofs.Common.{◌∙◌, [], ap}
use Rattle.std.proofs.lemmas.Result.{IfOk-weaker}
use Rattle.gq_model.specs.machine.Program.{Program}
use Rattle.gq_model.specs.rules.Use.{services_in}
use Rattle.gq_views.specs.internal.Opened_services.{opened_by_table}
use Rattle.gq_views.proofs.Printed_services.{opened_listed}
use Rattle.gq_views.specs.Tree.{first_of_each}
use Rattle.gq_views.proofs.drawn.leaf_opened.Goals as goal

pub returns : goal.returns
returns c =
    let client = c.args.client.now in
    let same =
    c.as_slice.ensures.value ∙ c.in_ok-services.ensures
    ∙ ap (λ (p : Program). first_of_each [] (services_in p.sections)) c.program.ensures in
    IfOk-weaker c.with_servers-opened.result _ _
    (λ l e. e ∙ (ap (opened_by_table client) same ∙ opened_listed client)) c.with_servers-opened.ensures
