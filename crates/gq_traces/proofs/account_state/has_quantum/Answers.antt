-- Whether a leaf has its quantum.
use Rattle.std.proofs.Common.{◌≡◌, ◌<◌, IfSome, [], subst, sym}
use Rattle.std.specs.Prelude.{slice_get}
use Rattle.gq_model.specs.machine.Scenario.{Scenario}
use Rattle.gq_resolve.specs.NodeTables.{node_rows}
use Rattle.gq_world.specs.Account_lines.{accounts_by}
use Rattle.gq_world.proofs.World_account_lines.{account_at_node, leaf_within}
use Rattle.gq_traces.proofs.Printed_leaves.{live_at}
use Rattle.gq_traces.proofs.Sound_world_leaves.{there_is}
use Rattle.gq_traces.proofs.account_state.has_quantum.Goals as goal

pub phase-requires : goal.phase-requires
phase-requires c =
    let s = c.args.machine.now.scenario in
    let w = c.args.machine.now.world in
    let n = c.args.node in
    let p = account_at_node s w [] c.requires.leaves n c.requires.node in
    let P : Scenario → Type 0 = λ s. IfSome (slice_get (node_rows s) n) (λ r. c.leaf.result ≡ r.leaf) in
    leaf_within s w [] (accounts_by s w []) n p c.leaf.result c.in-Some.leaf (subst P c.table.ensures c.leaf.ensures) c.in-Some.is

pub returns-in-Some : goal.returns-in-Some
returns-in-Some c =
    let s = c.args.machine.now.scenario in
    let w = c.args.machine.now.world in
    let n = c.args.node in
    let p = account_at_node s w [] c.requires.leaves n c.requires.node in
    let P : Scenario → Type 0 = λ s. IfSome (slice_get (node_rows s) n) (λ r. c.leaf.result ≡ r.leaf) in
    let is = subst P c.table.ensures c.leaf.ensures in
    let less = leaf_within s w [] (accounts_by s w []) n p c.leaf.result c.in-Some.leaf is c.in-Some.is in
    let l = there_is w.leaves c.in-Some.leaf (subst (λ k. c.in-Some.leaf < k) (sym c.requires.leaves) less) in
    live_at w (slice_get (node_rows s) n) c.leaf.result c.in-Some.leaf l.0 c.phase.result c.is_live.result is c.in-Some.is l.1 c.phase.ensures
    c.is_live.ensures
