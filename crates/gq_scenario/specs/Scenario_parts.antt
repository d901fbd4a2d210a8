-- A scenario of its parts, and what every scenario is.
use Rattle.std.specs.Prelude.{◌≡◌, ◌≤◌, [], ◌∷◌, true, false, Option, None, option_map, Vec, codes}
use Rattle.std.specs.declared.alloc.Global.{Global}
use Rattle.gq_model.specs.machine.Amounts.{Amount, counts_caps}
use Rattle.gq_model.specs.machine.Scenario.{Interfaces, Route, Nodes, Scenario}
use Rattle.gq_scenario.specs.Document.{has_too_many, names_of, name_twice}
use Rattle.gq_scenario.specs.Sizes.{depth, few_signals, IsMemory}
use Rattle.gq_scenario.specs.Component_trees.{version_number}
use Rattle.gq_scenario.specs.declared.scenario.Version.{Version}

abbrev pub scenario_made : Version → Amount → Option (Vec Route Global) → Interfaces → Nodes → Scenario
scenario_made version total default_routes interfaces nodes =
    record {
      version = version_number version;
      total = total;
      default_routes = option_map (λ r. r.items) default_routes;
      interfaces = interfaces;
      nodes = nodes;
    }

-- there are not too many of anything, no name stands twice, the memory is whole pages, capabilities are there where they are counted, no
-- node stands deeper than 4, and no leaf has more than 3 signals
pub record IsScenario (s : Scenario) : Type 0 where
  pub few : has_too_many s ≡ false
  pub single : name_twice (codes "init" ∷ []) (names_of s.nodes) ≡ None
  pub memory : IsMemory s.total.ram
  pub caps : counts_caps s.version ≡ true → 1 ≤ s.total.caps
  pub shallow : depth s.nodes ≤ 4
  pub signals : few_signals s.nodes ≡ true
