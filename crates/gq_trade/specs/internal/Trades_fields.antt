-- The fields of numbered values, and those of `Trades`.
use Rattle.std.specs.Prelude.{ℕ, ◌<◌, ◌≤◌, List, Option, length}
use Rattle.gq_ram.specs.Account_tree.{Tree}
use Rattle.gq_ram.specs.Ledgers.{Ledger}
use Rattle.gq_trade.specs.Numbers.{Numbers, IsTaken}
use Rattle.gq_trade.specs.Trading.{IsTrading}
use Rattle.gq_trade.specs.Trades.{Trades, IsTrades}
use Rattle.gq_trade.specs.declared.trade_node.NodeState.{NodeState}
use Rattle.gq_trade.specs.declared.requests.Request.{Request}
use Rattle.gq_trade.specs.declared.session.Session.{Session}

pub record IsNumbered {A : Type 0} (places : List (Option A)) (room capacity low : ℕ) : Type 0 where
  pub within : low ≤ length places
  pub count : length places ≤ room
  pub held : room ≤ capacity
  -- no place below is free
  pub below : (k : ℕ) → k < low → IsTaken places k

-- what the fields of `Trades` stand for
abbrev pub trades_of : Ledger → Tree → List ℕ → List ℕ → Numbers Session → List Request → List NodeState → Trades
trades_of ledger tree leaves objects sessions requests nodes = record {
  trading = record {
    ledger = ledger;
    tree = tree;
    leaves = leaves;
    objects = objects;
    sessions = sessions.values;
    room = sessions.room;
    requests = requests;
  };
  nodes = nodes;
}

-- what holds in every `Trades`
pub record Holds (w : Trades) : Type 0 where
  pub trading : IsTrading w.trading
  pub trades : IsTrades w
