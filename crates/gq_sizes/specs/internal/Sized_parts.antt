-- Parts of a scenario that are those of another with the least quantities; where capabilities are counted, enough of them can be given.
use Rattle.std.specs.Prelude.{◌≡◌, ℕ, Bool, false, true}
use Rattle.gq_model.specs.machine.Amounts.{Amount, amount, counts_caps}
use Rattle.gq_model.specs.machine.Scenario.{Nodes, System}
use Rattle.gq_sizes.specs.Endless.{NodesEnd}
use Rattle.gq_sizes.specs.Least.{caps_of, least_nodes}

-- so many capabilities, of which the least number is m, unless it has no end
pub record AreLeastCaps (version caps m : ℕ) (endless : Bool) : Type 0 where
  pub same : caps ≡ caps_of version m
  pub ends : counts_caps version ≡ true → endless ≡ false

-- a quantum, of which the least bytes are n
pub record IsLeastQuantum (version : ℕ) (quantum : Amount) (n m : ℕ) (endless : Bool) : Type 0 where
  pub same : quantum ≡ amount n (caps_of version m)
  pub ends : counts_caps version ≡ true → endless ≡ false

-- nodes, of which the first leaf is the x-th
pub record AreLeastNodes (version : ℕ) (all : System) (x : ℕ) (made nodes : Nodes) : Type 0 where
  pub same : made ≡ least_nodes version all x nodes
  pub ends : counts_caps version ≡ true → NodesEnd all x nodes
