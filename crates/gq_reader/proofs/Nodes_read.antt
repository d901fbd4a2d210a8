-- Routes and nodes that are read.
use Rattle.std.proofs.Common.{◌≡◌, ℕ, zero, suc, ◌+◌, ◌-◌, ◌<◌, Bool, true, false, cond, List, [], ◌∷◌, ◌++◌, length, get_or, drop, Option, Some, None}
use Rattle.std.proofs.Common.{append_assoc, refl, sym, ap, ◌∙◌, arith}
use Rattle.std.specs.Prelude.{codes}
use Rattle.toml.specs.Data.{Data, Members, as_table}
use Rattle.toml.specs.View.{view, items_view}
use Rattle.toml.specs.declared.value.Value.{Value}
use Rattle.toml.proofs.Views.{items_view-drop}
use Rattle.gq_model.specs.machine.Lists.{or_first}
use Rattle.gq_model.specs.machine.Scenario.{Route, LeafNode, InitNode, Nodes, Leaf_node, Init_node}
use Rattle.gq_scenario.specs.Table_keys.{DocumentFault, members_of, listed, table_fault}
use Rattle.gq_scenario.specs.Document_tables.{init_keys, leaf_keys}
use Rattle.gq_scenario.specs.Document.{is_init, leaf_of, init_of, list_at, routes_of, routes_fault, first_of, node_fault, node_onto, nodes_by}
use Rattle.gq_reader.specs.internal.Faultless_tables.{route_of, IsLeafTable, IsInitTable, IsNode, AreNodes}
use Rattle.gq_scenario.specs.Component_trees.{before, onto, IsBefore}
use Rattle.gq_reader.specs.internal.Walk.{own_fault, keys_fault}
use Rattle.gq_scenario.specs.declared.scenario.Node.{Node}
use Rattle.gq_scenario.specs.declared.scenario.Node.TheVariants.{Leaf, Init}
use Rattle.gq_reader.proofs.Reported_table_faults.{members_at_table}
use Rattle.gq_reader.proofs.First_document_fault.{node_step, nameless}
use Rattle.gq_model.proofs.Small_facts.{or_first_none}

-- the route of the first of the rest
pub route_read : (done : List Route) (vs : List Value) (i : ℕ) (v : Value) (t : Members) → i < length vs → v ≡ get_or vs i v → as_table (view v) ≡ Some t
    → (done ++ route_of t ∷ []) ++ routes_of (listed (items_view (drop (i + 1) vs))) ≡ done ++ routes_of (listed (items_view (drop i vs)))
route_read done vs i v t h e is =
    let one : routes_of (listed (items_view (drop i vs))) ≡ route_of t ∷ routes_of (listed (items_view (drop (i + 1) vs))) =
    rw (items_view-drop vs i v h, ← e, ← members_at_table (view v) t is) refl in
    append_assoc done (route_of t ∷ []) (routes_of (listed (items_view (drop (i + 1) vs)))) ∙ ap (λ rest. done ++ rest) (sym one)

-- NODES

pub not_at_depth : (entries : Members) → IsNode 0 entries → ⊥
not_at_depth entries t = by_fault t.sound
  where
    by_fault : {f : DocumentFault} → Some f ≡ None → ⊥
    by_fault e = cc

keys_by : Bool → ℕ → List (List ℕ) → Members → Option DocumentFault
keys_by b version services entries = table_fault (cond b (init_keys version) (leaf_keys version services)) entries

keys_leaf : (version : ℕ) (services : List (List ℕ)) (entries : Members) → is_init entries ≡ false → keys_fault version services entries ≡ None
    → table_fault (leaf_keys version services) entries ≡ None
unfolding keys_by
keys_leaf version services entries e h = sym (ap (λ b. keys_by b version services entries) e) ∙ h

keys_init : (version : ℕ) (services : List (List ℕ)) (entries : Members) → is_init entries ≡ true → keys_fault version services entries ≡ None
    → table_fault (init_keys version) entries ≡ None
unfolding keys_by
keys_init version services entries e h = sym (ap (λ b. keys_by b version services entries) e) ∙ h

module _ (levels : ℕ) (some : 0 < levels) (entries : Members) where
  own_and_below : (t : IsNode levels entries) → (own_fault t.version t.services entries ≡ None)
      × (first_of (node_fault (levels - 1) t.version t.services) (list_at (codes "start") entries) ≡ None)
  own_and_below t =
      or_first_none (own_fault t.version t.services entries) (first_of (node_fault (levels - 1) t.version t.services) (list_at (codes "start") entries))
      (sym (node_step levels t.version t.services some entries) ∙ t.sound)

  pub leaf_passed : IsNode levels entries → is_init entries ≡ false → IsLeafTable entries
  leaf_passed t e =
      let (own, below) = own_and_below t in
      let (keys, routes) = or_first_none (keys_fault t.version t.services entries)
      (or_first (routes_fault (codes "route") entries) (routes_fault (codes "default-route") entries)) own in
      record {
        version = t.version;
        services = t.services;
        names = t.names;
        keys = keys_leaf t.version t.services entries e keys;
        routes = (or_first_none (routes_fault (codes "route") entries) (routes_fault (codes "default-route") entries) routes).0;
      }

  pub init_passed : IsNode levels entries → is_init entries ≡ true → IsInitTable entries
  init_passed t e =
      let (own, below) = own_and_below t in
      let (keys, routes) = or_first_none (keys_fault t.version t.services entries)
      (or_first (routes_fault (codes "route") entries) (routes_fault (codes "default-route") entries)) own in
      let (route, default_route) = or_first_none (routes_fault (codes "route") entries) (routes_fault (codes "default-route") entries) routes in
      record { version = t.version; keys = keys_init t.version t.services entries e keys; routes = route; default_routes = default_route }

  pub below_passed : IsNode levels entries → (ds : List Data) → ds ≡ list_at (codes "start") entries → AreNodes (levels - 1) ds
  below_passed t ds e =
      let (own, below) = own_and_below t in
      record { version = t.version; services = t.services; names = t.names; sound = ap (first_of (node_fault (levels - 1) t.version t.services)) e ∙ below }

  onto_by : Bool → Members → Nodes → Nodes → Nodes
  onto_by b table children rest = cond b (Init_node (init_of table) children rest) (Leaf_node (leaf_of table) rest)

  onto_step : (rest : Nodes) → node_onto levels entries rest
      ≡ onto_by (is_init entries) entries (nodes_by (node_onto (levels - 1)) (list_at (codes "start") entries)) rest
  unfolding onto_by
  onto_step rest = by_levels levels some
    where
      by_levels : (n : ℕ) → 0 < n → node_onto n entries rest
          ≡ onto_by (is_init entries) entries (nodes_by (node_onto (n - 1)) (list_at (codes "start") entries)) rest
      by_levels zero h = absurd (omega arith)
      by_levels (suc n) h = let e : suc n - 1 ≡ n = omega arith in rw e refl

  pub leaf_before : (node : LeafNode) → is_init entries ≡ false → node ≡ leaf_of entries → IsBefore (Leaf node) (node_onto levels entries)
  unfolding onto_by
  leaf_before node e is = record {
    is = λ rest. sym (onto_step rest
        ∙ (ap (λ b. onto_by b entries (nodes_by (node_onto (levels - 1)) (list_at (codes "start") entries)) rest) e ∙ ap (λ n. Leaf_node n rest) (sym is)));
  }

  init_same : (a b : InitNode) (c d rest : Nodes) → a ≡ b → c ≡ d → Init_node a c rest ≡ Init_node b d rest
  init_same a b c d rest e f = cc

  pub init_before : (node : InitNode) (children : Nodes) → is_init entries ≡ true → node ≡ init_of entries
      → children ≡ nodes_by (node_onto (levels - 1)) (list_at (codes "start") entries)
      → IsBefore (Init node children) (node_onto levels entries)
  unfolding onto_by
  init_before node children e is below =
      record {
        is = λ rest. init_same node (init_of entries) children _ rest is below
            ∙ sym (onto_step rest ∙ ap (λ b. onto_by b entries (nodes_by (node_onto (levels - 1)) (list_at (codes "start") entries)) rest) e);
      }

-- LISTS OF NODES

pub no_items : (vs : List Value) → length vs ≡ 0 → vs ≡ []
no_items [] e = refl
no_items (v ∷ vs) e = absurd (omega (arith, e))

onto-append : (nodes : List Node) (node : Node) (rest : Nodes) → onto (nodes ++ node ∷ []) rest ≡ onto nodes (before node rest)
onto-append [] node rest = refl
onto-append (first ∷ nodes) node rest = ap (before first) (onto-append nodes node rest)

module _ (levels : ℕ) (vs : List Value) (i : ℕ) (v : Value) (within : i < length vs) (is : v ≡ get_or vs i v) where
  first_is : (f : Members → Option DocumentFault) → first_of f (listed (items_view (drop i vs)))
      ≡ or_first (f (members_of (view v))) (first_of f (listed (items_view (drop (i + 1) vs))))
  first_is f = rw (items_view-drop vs i v within, ← is) refl

  parted : (t : AreNodes levels (listed (items_view (drop i vs))))
      → (node_fault levels t.version t.services (members_of (view v)) ≡ None)
      × (first_of (node_fault levels t.version t.services) (listed (items_view (drop (i + 1) vs))) ≡ None)
  parted t =
      or_first_none (node_fault levels t.version t.services (members_of (view v)))
      (first_of (node_fault levels t.version t.services) (listed (items_view (drop (i + 1) vs))))
      (sym (first_is (node_fault levels t.version t.services)) ∙ t.sound)

  pub node_passed : (t : Members) → as_table (view v) ≡ Some t → AreNodes levels (listed (items_view (drop i vs))) → IsNode levels t
  node_passed t reported nodes =
      record { version = nodes.version; services = nodes.services; names = nodes.names; sound = rw (members_at_table (view v) t reported) at (parted nodes).0 }

  pub rest_passed : AreNodes levels (listed (items_view (drop i vs))) → AreNodes levels (listed (items_view (drop (i + 1) vs)))
  rest_passed nodes = record { version = nodes.version; services = nodes.services; names = nodes.names; sound = (parted nodes).1 }

  pub all_tables : as_table (view v) ≡ None → AreNodes levels (listed (items_view (drop i vs))) → ⊥
  all_tables none nodes = by_levels levels (parted nodes).0
    where
      some_none : {f : DocumentFault} → Some f ≡ None → ⊥
      some_none e = cc

      by_levels : (n : ℕ) → node_fault n nodes.version nodes.services (members_of (view v)) ≡ None → ⊥
      by_levels zero e = some_none e
      by_levels (suc n) e = some_none (sym (nameless (suc n) nodes.version nodes.services (omega arith) (view v) none) ∙ e)

  -- one node more
  pub node_read : (done : List Node) (node : Node) (t : Members) → as_table (view v) ≡ Some t → IsBefore node (node_onto levels t)
      → onto (done ++ node ∷ []) (nodes_by (node_onto levels) (listed (items_view (drop (i + 1) vs))))
      ≡ onto done (nodes_by (node_onto levels) (listed (items_view (drop i vs))))
  node_read done node t reported b =
      let rest = nodes_by (node_onto levels) (listed (items_view (drop (i + 1) vs))) in
      let one : nodes_by (node_onto levels) (listed (items_view (drop i vs))) ≡ node_onto levels t rest =
      rw (items_view-drop vs i v within, ← is, ← members_at_table (view v) t reported) refl in
      onto-append done node rest ∙ ap (onto done) (b.is rest ∙ sym one)
