use Rattle.std.proofs.Common.{◌∙◌, refl, ap, get_or, map}
use Rattle.gq_model.specs.machine.Routes.{numbered}
use Rattle.gq_resolve.specs.NodeTables.{interface_number, number_named}
use Rattle.gq_resolve.specs.Served.{server_at}
use Rattle.gq_resolve.proofs.Node_table_rows.{row_made}
use Rattle.gq_resolve.proofs.node_table.leaf_entry.Goals as goal

pub returns : goal.returns
returns c =
    let cs = c.args.components.now in
    let x = c.args.leaf in
    let routes = c.args.routes.now in
    let item = c.index-components-index.result in
    let leaf = c.leaf-component.ensures in
    row_made c.args.scenario.now routes c.requires.servers cs c.requires.all x c.args.node item c.requires.there
    (c.index-components-index.is ∙ ap (λ n. get_or cs n item) c.index.ensures) _
    (c.copied.ensures ∙ (c.name.ensures ∙ ap (λ l. l.name) leaf))
    refl
    (c.service_of-service.ensures ∙ (λ i. number_named (leaf i).provides (λ name. interface_number 0 name (c.interfaces.ensures i))))
    (c.after_of-after.ensures ∙ ap (λ l. number_named l.after (λ name. numbered 0 name cs)) leaf)
    (c.copied_inputs.ensures ∙ ap (λ l. l.inputs) leaf)
    (c.signals.ensures.signals ∙ ap (λ l. l.signals) leaf)
    (c.in_ok-servers.ensures ∙ ap (map (λ e. server_at x e.0 routes)) c.interfaces-2.ensures)
