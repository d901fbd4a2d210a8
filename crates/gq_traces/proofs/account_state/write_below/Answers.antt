-- Below the account of an init, and of a leaf.
use Rattle.std.proofs.Common.{◌≡◌, IfSome, [], subst}
use Rattle.std.specs.Prelude.{slice_get}
use Rattle.gq_model.specs.machine.Scenario.{Scenario}
use Rattle.gq_resolve.specs.NodeTables.{node_rows}
use Rattle.gq_world.specs.Account_lines.{accounts_by}
use Rattle.gq_world.proofs.World_account_lines.{account_at_node, leaf_within}
use Rattle.gq_traces.proofs.Printed_leaves.{init_below, leaf_below}
use Rattle.gq_traces.proofs.Sound_world_leaves.{leaves_are}
use Rattle.gq_traces.proofs.account_state.write_below.Goals as goal

pub write_init-requires-clause-leaves : goal.write_init-requires-clause-leaves
write_init-requires-clause-leaves g c = leaves_are c.args.machine.now c.requires.stands

pub write_leaf-requires-clause-leaf : goal.write_leaf-requires-clause-leaf
write_leaf-requires-clause-leaf g c =
    let s = c.args.machine.now.scenario in
    let w = c.args.machine.now.world in
    let n = c.args.node in
    let p = account_at_node s w [] (leaves_are c.args.machine.now c.requires.stands) n c.requires.node in
    let P : Scenario → Type 0 = λ s. IfSome (slice_get (node_rows s) n) (λ r. c.leaf.result ≡ r.leaf) in
    leaf_within s w [] (accounts_by s w []) n p c.leaf.result c.in-Some.leaf (subst P c.table.ensures c.leaf.ensures) c.in-Some.is

pub returns-in-None : goal.returns-in-None
returns-in-None g c t r at aheads there =
    let m = c.args.machine.now in
    let P : Scenario → Type 0 = λ s. IfSome (slice_get (node_rows s) c.args.node) (λ r. c.leaf.result ≡ r.leaf) in
    init_below g.W.Write.contents m t c.args.node r c.leaf.result c.args.out.now c.write_init.new.out c.args.going c.write_init.result at there c.in-None.is
    (subst P c.table.ensures c.leaf.ensures) c.write_init.ensures

pub returns-in-Some : goal.returns-in-Some
returns-in-Some g c t r at aheads there =
    let m = c.args.machine.now in
    let P : Scenario → Type 0 = λ s. IfSome (slice_get (node_rows s) c.args.node) (λ r. c.leaf.result ≡ r.leaf) in
    leaf_below g.W.Write.contents m.scenario t c.args.node c.in-Some.leaf r c.leaf.result c.args.out.now c.write_leaf.new.out c.args.going
    c.write_leaf.result there c.in-Some.is (subst P c.table.ensures c.leaf.ensures) (c.write_leaf.ensures t at aheads)
