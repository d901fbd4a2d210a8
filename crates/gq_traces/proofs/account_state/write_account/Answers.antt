-- The line of an account.
use Rattle.std.proofs.Common.{◌≡◌, ◌∙◌, ap, subst, IfSome}
use Rattle.std.specs.Prelude.{slice_get}
use Rattle.gq_model.specs.machine.Scenario.{Scenario}
use Rattle.gq_resolve.specs.NodeTables.{node_rows}
use Rattle.gq_scenario.specs.Component_trees.{version_number}
use Rattle.gq_world.proofs.World_account_lines.{line_of_node}
use Rattle.gq_traces.proofs.Sequential_text_writes.{goes_text}
use Rattle.gq_traces.proofs.account_state.write_account.Goals as goal

pub returns : goal.returns
returns g c a there =
    let w = c.args.world.now in
    let P : Scenario → Type 0 = λ s. IfSome (slice_get (node_rows s) c.args.node) (λ r. c.label.result.now ≡ r.label) in
    let version = c.version.ensures ∙ (ap (λ s. s.version) c.scenario.ensures ∙ ap (λ s. s.version) c.table-table.ensures) in
    let line = line_of_node w c.requires.leaves c.args.node c.requires.node c.label.result.now c.account_line-line.result.items c.account-account.result
    (version_number c.version.result) version c.account_line-line.ensures (subst P c.table-table.ensures c.label.ensures.label)
    c.account-account.ensures.reported
    a there in
    goes_text g.W.Write.contents c.args.out.now c.write_on.new.out c.args.going c.write_on.result _ _ (c.as_slice.ensures.value ∙ line) c.write_on.ensures
