-- A leaf as the table of its scenario has it.
use Rattle.std.specs.Prelude.{◌<◌, ℕ, if◌then◌else◌, List, [], length, get_or, Option, None}
use Rattle.gq_model.specs.machine.Amounts.{amount}
use Rattle.gq_model.specs.machine.Lists.{any_of}
use Rattle.gq_model.specs.machine.Program.{text_eq}
use Rattle.gq_model.specs.machine.Scenario.{As_text, LeafNode, Scenario, Component, components}
use Rattle.gq_model.specs.rules.Use.{services}
use Rattle.gq_resolve.specs.Served.{server_among}
use Rattle.gq_laws.specs.Ready.{IsReady}

-- one of these leaves
pub record LeafOfAll : Type 0 where
  pub all : List Component
  pub component : Component

-- what stands for a leaf where there is none
abbrev pub no_node : LeafNode
no_node =
    record {
      name = [];
      quantum = amount 0 0;
      source = As_text [];
      program = record { sections = []; locals = [] };
      provides = None;
      after = None;
      inputs = [];
      signals = 0;
      routes = None;
    }

abbrev pub no_component : Component
no_component = record { label = []; node = no_node; levels = [] }

-- the x-th leaf of a scenario
abbrev pub leaf_of : Scenario → ℕ → LeafOfAll
leaf_of s x = record { all = components s; component = get_or (components s) x no_component }

-- it is there, and the scenario can be run
pub record IsThere (s : Scenario) (x : ℕ) : Type 0 where
  pub ready : IsReady s
  pub within : x < length (components s)

-- the leaf that serves a service, if the program of this leaf opens it
abbrev pub served_by : LeafOfAll → List ℕ → Option ℕ
served_by l service = if any_of (text_eq service) (services l.component) then server_among l.all l.component service else None
