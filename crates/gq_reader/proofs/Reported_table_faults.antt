-- Faults that are reported, one after another.
use Rattle.std.proofs.Common.{◌≡◌, ℕ, ◌+◌, ◌<◌, List, length, get_or, drop, Option, Some, None, refl, sym, ◌∙◌}
use Rattle.toml.specs.Data.{Data, string, integer, float, boolean, datetime, array, table, Members, as_table}
use Rattle.toml.specs.View.{view, items_view}
use Rattle.toml.specs.declared.value.Value.{Value}
use Rattle.toml.proofs.Views.{items_view-drop}
use Rattle.gq_model.specs.machine.Lists.{or_first}
use Rattle.gq_scenario.specs.declared.scenario_fault.ScenarioFault.{ScenarioFault}
use Rattle.gq_scenario.specs.Table_keys.{DocumentFault, listed, members_of}
use Rattle.gq_scenario.specs.Document.{first_of}
use Rattle.gq_scenario.specs.Fault_words.{SameFault}
use Rattle.gq_model.proofs.Small_facts.{or_first_none}

pub reports_first : (f : ScenarioFault) (a b : Option DocumentFault) → SameFault (Some f) a → SameFault (Some f) (or_first a b)
reports_first f None b h = absurd cc
reports_first f (Some d) b h = h

pub reports_second : (found : Option ScenarioFault) (a b : Option DocumentFault) → SameFault None a → SameFault found b → SameFault found (or_first a b)
reports_second found None b h k = k
reports_second found (Some d) b h k = absurd cc

pub reports_none : (a : Option DocumentFault) → SameFault None a → a ≡ None
reports_none None h = refl
reports_none (Some d) h = absurd cc

pub members_at_table : (d : Data) (t : Members) → as_table d ≡ Some t → members_of d ≡ t
members_at_table (string s) t e = absurd cc
members_at_table (integer z) t e = absurd cc
members_at_table (float x) t e = absurd cc
members_at_table (boolean b) t e = absurd cc
members_at_table (datetime x) t e = absurd cc
members_at_table (array ds) t e = absurd cc
members_at_table (table ms) t e = cc

module _ (fault : Members → Option DocumentFault) where
  first_of-drop : (vs : List Value) (i : ℕ) (v : Value) → i < length vs → v ≡ get_or vs i v
      → first_of fault (listed (items_view (drop i vs))) ≡ or_first (fault (members_of (view v))) (first_of fault (listed (items_view (drop (i + 1) vs))))
  first_of-drop vs i v h e = rw (items_view-drop vs i v h, ← e) refl

  -- none of the rest has a fault
  pub leaf_none : (vs : List Value) (i : ℕ) (v : Value) (t : Members) → i < length vs → v ≡ get_or vs i v → as_table (view v) ≡ Some t
      → first_of fault (listed (items_view (drop i vs))) ≡ None
      → (fault t ≡ None) × (first_of fault (listed (items_view (drop (i + 1) vs))) ≡ None)
  leaf_none vs i v t h e is none =
      or_first_none (fault t) (first_of fault (listed (items_view (drop (i + 1) vs))))
      (rw (members_at_table (view v) t is) at (sym (first_of-drop vs i v h e) ∙ none))

  -- the first of the rest has a fault
  pub leaf_first : (f : ScenarioFault) (vs : List Value) (i : ℕ) (v : Value) (t : Members) → i < length vs → v ≡ get_or vs i v → as_table (view v) ≡ Some t
      → SameFault (Some f) (fault t)
      → SameFault (Some f) (first_of fault (listed (items_view (drop i vs))))
  leaf_first f vs i v t h e is reported =
      rw (first_of-drop vs i v h e, members_at_table (view v) t is)
      (reports_first f (fault t) (first_of fault (listed (items_view (drop (i + 1) vs)))) reported)

  -- the first of the rest has none
  pub leaf_next : (vs : List Value) (i : ℕ) (v : Value) (t : Members) → i < length vs → v ≡ get_or vs i v → as_table (view v) ≡ Some t
      → SameFault None (fault t)
      → first_of fault (listed (items_view (drop (i + 1) vs))) ≡ first_of fault (listed (items_view (drop i vs)))
  leaf_next vs i v t h e is reported =
      sym (first_of-drop vs i v h e ∙ rw (members_at_table (view v) t is, reports_none (fault t) reported) refl)
