-- The names of leaves, as the table of nodes reports them.
use Rattle.std.proofs.Common.{◌≡◌, ◌∙◌, ℕ, ◌<◌, ◌≤◌, true, List, length, Option, Some, IfSome, ap, sym, subst}
use Rattle.std.specs.Prelude.{slice_get}
use Rattle.gq_model.specs.machine.Scenario.{Component, Scenario, components}
use Rattle.gq_model.specs.texts.Letters.{is_name}
use Rattle.gq_resolve.specs.NodeTables.{LeafRow, leaf_rows}
use Rattle.gq_resolve.proofs.Node_table_rows.{row_at}
use Rattle.gq_traces.specs.Schedule.{name_at}

-- leaves have names, and there are not too many
pub record HasNames (s : Scenario) : Type 0 where
  pub names : (x : ℕ) (c : Component) → slice_get (components s) x ≡ Some c → is_name c.node.name ≡ true
  pub few : length (components s) ≤ 64

-- the name that is reported of the x-th leaf is its component's
pub name_of : (s : Scenario) (x : ℕ) (name : List ℕ) → x < length (components s) → IfSome (slice_get (leaf_rows s) x) (λ (r : LeafRow). name ≡ r.name)
    → name ≡ name_at (slice_get (components s) x)
name_of s x name less reported =
    let r = row_at s x less in
    subst (λ (o : Option LeafRow). IfSome o (λ (l : LeafRow). name ≡ l.name)) r.row reported ∙ ap name_at (sym r.there)
