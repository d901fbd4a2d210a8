-- Whether a leaf provides a service.
use Rattle.std.proofs.Common.{◌≡◌, ◌<◌, ℕ, Bool, length, Option, refl, sym, ap, subst, ◌∙◌}
use Rattle.std.specs.Prelude.{IfSome, is_some, slice_get}
use Rattle.gq_model.specs.machine.Scenario.{Component, Scenario, components}
use Rattle.gq_resolve.specs.NodeTables.{LeafRow, interface_number, leaf_rows, number_named}
use Rattle.gq_resolve.proofs.Node_table_rows.{row_at}
use Rattle.gq_laws.specs.Ready.{IsReady}
use Rattle.gq_machine.proofs.Provided_service_number.{named_some}
use Rattle.gq_machine.proofs.others.provides.Goals as goal

reported : (s : Scenario) (leaf number : ℕ) (service : Option ℕ) (b : Bool) → IsReady s → leaf < length (components s) → number ≡ leaf
    → IfSome (slice_get (leaf_rows s) number) (λ r. service ≡ r.service) → b ≡ is_some service
    → IfSome (slice_get (components s) leaf) (λ c. b ≡ is_some c.node.provides)
reported s leaf number service b ready less same says is =
    let row = row_at s leaf less in
    let service_is : service ≡ number_named row.component.node.provides (λ name. interface_number 0 name s.interfaces) =
    subst (λ (o : Option LeafRow). IfSome o (λ r. service ≡ r.service)) (ap (slice_get (leaf_rows s)) same ∙ row.row) says in
    subst (λ (o : Option Component). IfSome o (λ c. b ≡ is_some c.node.provides)) (sym row.there)
    (is ∙ ap is_some service_is ∙ named_some s leaf row.component ready row.there row.component.node.provides refl)

pub returns : goal.returns
returns c =
    reported c.args.fixed.now.table c.args.leaf c.new.result c.service.result c.is_some.result c.requires.ready c.requires.leaf c.new.ensures c.service.ensures
    c.is_some.ensures
