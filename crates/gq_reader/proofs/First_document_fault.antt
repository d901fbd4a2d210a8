-- The first fault of nodes, of interfaces and of a document.
use Rattle.std.proofs.Common.{◌≡◌, ℕ, suc, zero, ◌-◌, ◌<◌, List, Option, Some, None, codes, refl, sym, ◌∙◌, arith}
use Rattle.toml.specs.Data.{Data, string, integer, float, boolean, datetime, array, table, Members, no_members, member, get_member, as_table}
use Rattle.gq_model.specs.machine.Lists.{or_first}
use Rattle.gq_scenario.specs.Table_keys.{DocumentFault, MissingKey, members_of, table_fault}
use Rattle.gq_scenario.specs.Document_tables.{version_of, top_keys, interface_keys}
use Rattle.gq_scenario.specs.Document.{first_of, list_at, table_of, keys_of, routes_fault, interfaces_fault, node_fault, walk_fault}
use Rattle.gq_reader.specs.internal.Walk.{own_fault, keys_fault}
use Rattle.gq_scenario.specs.Fault_words.{SameFault}
use Rattle.gq_scenario.specs.declared.scenario_fault.ScenarioFault.{ScenarioFault}
use Rattle.gq_reader.proofs.Reported_table_faults.{reports_first, reports_none, members_at_table}

-- INTERFACES

pub interface_first : (version : ℕ) (f : ScenarioFault) (key : List ℕ) (d : Data) (rest t : Members) → as_table d ≡ Some t
    → SameFault (Some f) (table_fault (interface_keys version t) t)
    → SameFault (Some f) (interfaces_fault version (member key d rest))
interface_first version f key d rest t is reported = rw (members_at_table d t is)
    (reports_first f (table_fault (interface_keys version t) t) (interfaces_fault version rest) reported)

pub interface_next : (version : ℕ) (key : List ℕ) (d : Data) (rest t : Members) → as_table d ≡ Some t
    → SameFault None (table_fault (interface_keys version t) t)
    → interfaces_fault version (member key d rest) ≡ interfaces_fault version rest
interface_next version key d rest t is reported = rw (members_at_table d t is, reports_none (table_fault (interface_keys version t) t) reported) refl

-- NODES

three_before : {A : Type 0} (a b c d : Option A) → or_first a (or_first b (or_first c d)) ≡ or_first (or_first a (or_first b c)) d
three_before None None None d = refl
three_before None None (Some z) d = refl
three_before None (Some y) c d = refl
three_before (Some x) b c d = refl

pub no_table : (d : Data) → as_table d ≡ None → members_of d ≡ no_members
no_table (string s) e = refl
no_table (integer z) e = refl
no_table (float x) e = refl
no_table (boolean b) e = refl
no_table (datetime x) e = refl
no_table (array ds) e = refl
no_table (table ms) e = absurd cc

module _ (levels version : ℕ) (services : List (List ℕ)) (some : 0 < levels) where
  -- a node above the deepest level: its own faults, then those below it
  pub node_step : (entries : Members)
      → node_fault levels version services entries ≡ or_first (own_fault version services entries)
      (first_of (node_fault (levels - 1) version services) (list_at (codes "start") entries))
  node_step entries = by_levels levels some
    where
      by_levels : (n : ℕ) → 0 < n
          → node_fault n version services entries ≡ or_first (own_fault version services entries)
          (first_of (node_fault (n - 1) version services) (list_at (codes "start") entries))
      by_levels zero h = absurd (omega arith)
      by_levels (suc n) h =
          let e : suc n - 1 ≡ n = omega arith in
          rw e (three_before (keys_fault version services entries) (routes_fault (codes "route") entries) (routes_fault (codes "default-route") entries)
          (first_of (node_fault n version services) (list_at (codes "start") entries)))

  pub nameless : (d : Data) → as_table d ≡ None → node_fault levels version services (members_of d) ≡ Some (MissingKey (codes "name"))
  nameless d e = rw (no_table d e) (node_step no_members ∙ refl)

  pub node_first : (f : ScenarioFault) (d : Data) (t : Members) → as_table d ≡ Some t → SameFault (Some f) (own_fault version services t)
      → SameFault (Some f) (node_fault levels version services (members_of d))
  node_first f d t is reported = rw (members_at_table d t is, node_step t) (reports_first f (own_fault version services t) _ reported)

  pub node_below : (d : Data) (t : Members) → as_table d ≡ Some t → SameFault None (own_fault version services t)
      → node_fault levels version services (members_of d) ≡ first_of (node_fault (levels - 1) version services) (list_at (codes "start") t)
  node_below d t is reported = rw (members_at_table d t is) (node_step t ∙ rw (reports_none (own_fault version services t) reported) refl)

-- DOCUMENTS

abbrev pub walk_by : ℕ → Members → Members → Option DocumentFault
walk_by version interfaces top =
    or_first (table_fault (top_keys version) top)
    (or_first (interfaces_fault version interfaces)
    (or_first (routes_fault (codes "default-route") top) (first_of (node_fault 4 version (keys_of interfaces)) (list_at (codes "start") top))))

pub walk_is : (version : ℕ) (interfaces top : Members) → version ≡ version_of top → interfaces ≡ table_of (get_member (codes "interface") top)
    → walk_fault top ≡ walk_by version interfaces top
walk_is version interfaces top e f = λ i. walk_by (sym e i) (sym f i) top
