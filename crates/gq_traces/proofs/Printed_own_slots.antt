-- The place of a leaf among the accounts.
use Rattle.std.proofs.Common.{◌≡◌, ◌<◌, ◌∙◌, ℕ, zero, suc, List, [], ◌∷◌, length, Some, IfSome, ap, sym, subst, arith}
use Rattle.std.specs.Prelude.{slice_get}
use Rattle.gq_model.specs.machine.Scenario.{Component, Scenario, components}
use Rattle.gq_model.proofs.Small_facts.{none_some, some_same}
use Rattle.gq_scenario.specs.Sizes.{leaf_places}
use Rattle.gq_resolve.specs.NodeTables.{IsNodeOf, LeafRow, leaf_rows, leaf_rows_of, node_rows}
use Rattle.gq_resolve.proofs.Node_table_rows.{leaf_rows-count}
use Rattle.gq_traces.proofs.Leaves_standing.{from_some}
use Rattle.gq_traces.proofs.Sound_world_leaves.{there_is}

place_in : (s : Scenario) (places : List ℕ) (cs : List Component) (x : ℕ) (r : LeafRow) → slice_get (leaf_rows_of s places cs) x ≡ Some r
    → slice_get places x ≡ Some r.node
place_in s [] cs x r e = absurd (none_some e)
place_in s (p ∷ places) [] x r e = absurd (none_some e)
place_in s (p ∷ places) (c ∷ cs) zero r e = ap (λ (r : LeafRow). Some r.node) (some_same e)
place_in s (p ∷ places) (c ∷ cs) (suc x) r e = place_in s places cs x r e

pub within : {A : Type 0} (xs : List A) (i : ℕ) (a : A) → slice_get xs i ≡ Some a → i < length xs
within [] i a e = absurd (none_some e)
within (x ∷ xs) zero a e = omega arith
within (x ∷ xs) (suc i) a e = let less = within xs i a e in omega (arith, less)

module _ (s table : Scenario) (x n : ℕ) (is : table ≡ s) (less : x < length (components s)) where
  pub place_of_leaf : IfSome (slice_get (leaf_rows table) x) (λ r. n ≡ r.node) → slice_get (leaf_places 1 s.nodes) x ≡ Some n
  place_of_leaf h =
      let count = leaf_rows-count s in
      let r = there_is (leaf_rows s) x (omega (arith, less, count)) in
      let own = from_some (slice_get (leaf_rows s) x) (λ (r : LeafRow). n ≡ r.node) r.0 r.1
      (subst (λ (t : Scenario). IfSome (slice_get (leaf_rows t) x) (λ r. n ≡ r.node)) is h) in
      place_in s (leaf_places 1 s.nodes) (components s) x r.0 r.1 ∙ ap Some (sym own)

  pub node_within : IfSome (slice_get (components table) x) (λ c. IsNodeOf (node_rows table) n c) → n < length (node_rows s)
  node_within h =
      let c = there_is (components s) x less in
      let node = from_some (slice_get (components s) x) (λ (c : Component). IsNodeOf (node_rows s) n c) c.0 c.1
      (subst (λ (t : Scenario). IfSome (slice_get (components t) x) (λ c. IsNodeOf (node_rows t) n c)) is h) in
      within (node_rows s) n node.0 node.1
