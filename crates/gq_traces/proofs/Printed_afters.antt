-- After which leaf another starts.
use Rattle.std.proofs.Common.{◌≡◌, ◌∙◌, ◌<◌, ℕ, Bool, List, [], ◌∷◌, ◌++◌, length, Option, Some, None, IfSome, ap, sym, subst, codes}
use Rattle.std.specs.Prelude.{slice_get}
use Rattle.gq_model.specs.machine.Scenario.{Component, Scenario, components, system}
use Rattle.gq_resolve.specs.NodeTables.{LeafRow, leaf_rows}
use Rattle.gq_resolve.proofs.Node_table_rows.{row_at}
use Rattle.gq_prepared.proofs.Planned_nodes.{after_within, reported}
use Rattle.gq_output.specs.declared.counted.Counted.{Counted}
use Rattle.gq_traces.specs.Account_state.{after_text, before, component_at}
use Rattle.gq_traces.specs.internal.Printed_steps.{Goes}

module _ (s : Scenario) (x : ℕ) (o : Option ℕ) (less : x < length (components s)) (is : IfSome (slice_get (leaf_rows s) x) (λ r. o ≡ r.after)) where
  pub after_there : (y : ℕ) → o ≡ Some y → y < length (components s)
  after_there y e = after_within s x y o less is e

  -- of the leaf that is there
  at_leaf : (P : Option Component → Type 0) → P (component_at (system s) o) → IfSome (slice_get (components s) x) (λ c. P (before (system s) c))
  at_leaf P h =
      let t = reported s x o less is in
      subst (λ (q : Option Component). IfSome q (λ c. P (before (system s) c))) (sym t.1) (subst (λ n. P (component_at (system s) n)) t.2 h)

  pub starts_at_once : {W : Type 0} (contents : W → Option (List ℕ)) (a : Counted W) (v : Bool) → o ≡ None → Goes contents a a v v []
      → IfSome (slice_get (components s) x) (λ c. Goes contents a a v v (after_text (before (system s) c)))
  starts_at_once contents a v none g =
      at_leaf (λ d. Goes contents a a v v (after_text d)) (subst (λ n. Goes contents a a v v (after_text (component_at (system s) n))) (sym none) g)

  pub starts_after : {W : Type 0} (contents : W → Option (List ℕ)) (a b : Counted W) (u v : Bool) (y : ℕ) (name bytes text : List ℕ) → o ≡ Some y
      → IfSome (slice_get (leaf_rows s) y) (λ r. name ≡ r.name) → bytes ≡ name → text ≡ codes "  after " ++ bytes ++ 10 ∷ [] → Goes contents a b u v text
      → IfSome (slice_get (components s) x) (λ c. Goes contents a b u v (after_text (before (system s) c)))
  starts_after contents a b u v y name bytes text some named same put g =
      let r = row_at s y (after_there y some) in
      let own = subst (λ (l : Option LeafRow). IfSome l (λ r. name ≡ r.name)) r.row named in
      at_leaf (λ d. Goes contents a b u v (after_text d))
      (subst (λ n. Goes contents a b u v (after_text (component_at (system s) n))) (sym some)
      (subst (λ (d : Option Component). Goes contents a b u v (after_text d)) (sym r.there)
      (subst (Goes contents a b u v) (put ∙ ap (λ l. codes "  after " ++ l ++ 10 ∷ []) (same ∙ own)) g)))
