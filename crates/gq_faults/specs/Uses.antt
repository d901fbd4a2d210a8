-- Which leaves serve a leaf.
use Rattle.std.specs.Prelude.{ℕ, List}
use Rattle.gq_model.specs.machine.Scenario.{Component}
use Rattle.gq_model.specs.rules.Use.{services}
use Rattle.gq_resolve.specs.Served.{server_among}
use Rattle.gq_faults.specs.Found_lists.{all_found, listed_if}

-- the servers of a leaf's services, each as often as it is opened
abbrev pub used_of : List Component → Component → List ℕ
used_of all c = all_found (λ service. listed_if (server_among all c service)) (services c)
