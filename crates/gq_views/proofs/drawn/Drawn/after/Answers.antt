use Rattle.std.proofs.Common.{◌≡◌, ◌∙◌, ◌<◌, IfSome, ap, length, subst, sym}
use Rattle.std.specs.Prelude.{slice_get}
use Rattle.std.proofs.lemmas.Option.{slice_get-get_or}
use Rattle.gq_model.specs.machine.Scenario.{components}
use Rattle.gq_resolve.specs.NodeTables.{leaf_rows}
use Rattle.gq_views.specs.internal.Opened_services.{started_after}
use Rattle.gq_views.specs.internal.Table_leaves.{no_component}
use Rattle.gq_views.proofs.Table_leaf_rows.{after_is}
use Rattle.gq_views.proofs.drawn.Drawn.after.Goals as goal

pub returns : goal.returns
returns c =
    let s = c.self.inside.table.now in
    let x = c.args.place in
    let within : x < length (components s) = subst (λ t. x < length (components t)) (sym c.self.view_is) c.requires in
    let there = slice_get-get_or (components s) x no_component within in
    let of_leaf = subst (λ y. IfSome (slice_get (leaf_rows s) y) (λ r. c.after.result ≡ r.after)) c.new.ensures c.after.ensures in
    after_is s x (record { ready = c.self.invariant.ready; within = within }) c.after.result of_leaf
    ∙ ap (started_after s) (sym there)
    ∙ ap (λ t. started_after t (slice_get (components t) x)) c.self.view_is
