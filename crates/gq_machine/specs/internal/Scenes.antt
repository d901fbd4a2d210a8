-- What stays of slots in each step but the end of a leaf.
use Rattle.std.specs.Prelude.{◌≡◌}
use Rattle.gq_slots.specs.Slots.{Slots}

-- who stands where, and what is counted
pub record SameScene (t u : Slots) : Type 0 where
  pub nodes : u.trades.nodes ≡ t.trades.nodes
  pub parents : u.trades.trading.tree.parents ≡ t.trades.trading.tree.parents
  pub leaves : u.trades.trading.leaves ≡ t.trades.trading.leaves
  pub objects : u.trades.trading.objects ≡ t.trades.trading.objects
  pub room : u.trades.trading.room ≡ t.trades.trading.room
  pub price : u.trades.trading.ledger.price ≡ t.trades.trading.ledger.price
