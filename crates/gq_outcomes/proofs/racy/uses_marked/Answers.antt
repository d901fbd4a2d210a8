use Rattle.std.proofs.Common.{◌∙◌, List, ℕ, ap}
use Rattle.gq_model.specs.machine.Lists.{any_of}
use Rattle.gq_model.specs.machine.Program.{Program}
use Rattle.gq_model.specs.rules.Use.{services, services_in}
use Rattle.gq_views.specs.internal.Table_leaves.{served_by}
use Rattle.gq_views.proofs.Table_leaf_servers.{among_self, served_any}
use Rattle.gq_outcomes.specs.internal.Racy.{is_marked}
use Rattle.gq_outcomes.proofs.racy.uses_marked.Goals as goal

pub returns : goal.returns
returns c =
    let client = c.args.client.now in
    let marked = c.args.marked.now in
    let opened = c.as_slice.ensures.value ∙ c.in_ok-services.ensures ∙ ap (λ (p : Program). services_in p.sections) c.program.ensures in
    c.leads_to_marked-uses.ensures
    ∙ ap (any_of (λ (service : List ℕ). is_marked marked (served_by client service))) opened
    ∙ served_any (is_marked marked) client (services client.component) (among_self (services client.component))
