use Rattle.std.proofs.Common.{[], ◌∷◌, refl, arith}
use Rattle.gq_memory_rows.specs.Markets.{live_node, pending_node}
use Rattle.gq_memory_rows.proofs.Leaves_in_turn.{line_live}
use Rattle.gq_memory_rows.proofs.trade_rows.run_line.Goals as goal

pub quotas_of-first-requires : goal.quotas_of-first-requires
quotas_of-first-requires c =
    let ns = live_node 8192 0 ∷ live_node 8192 0 ∷ pending_node 8192 1 ∷ pending_node 4096 2 ∷ [] in
    line_live c.args.trades.now ns 0 c.requires (omega arith) refl
