-- The nodes that a plan has, as they are made.
use Rattle.std.proofs.Common.{◌≡◌, ℕ, zero, suc, ◌<◌, Bool, true, false, cond, List, [], ◌∷◌, length, map, get_or, Option, Some, None, IfSome}
use Rattle.std.proofs.Common.{option_map, refl, ap, sym, subst, ◌∙◌, arith}
use Rattle.std.specs.Prelude.{slice_get}
use Rattle.std.proofs.lemmas.List.{length-map}
use Rattle.std.proofs.lemmas.Option.{get_or_from_slice_get, slice_get_within}
use Rattle.gq_tariff.specs.declared.amount.Amount.{Amount}
use Rattle.gq_model.specs.machine.Program.{text_eq}
use Rattle.gq_model.specs.machine.Routes.{numbered}
use Rattle.gq_model.specs.machine.Scenario.{LeafNode, Scenario, Component, components}
use Rattle.gq_model.proofs.Small_facts.{some_same, none_some, get_within, text_self}
use Rattle.gq_laws.proofs.quota_payment.Leaf_component_positions.{starts_after}
use Rattle.gq_laws.proofs.quota_payment.Routed_server_provides.{numbered_name}
use Rattle.gq_laws.specs.Ready.{IsReady}
use Rattle.gq_scenario.specs.Sizes.{leaf_places}
use Rattle.gq_resolve.specs.NodeTables.{NodeRow, LeafRow, node_rows, leaf_row, leaf_rows_of, leaf_rows, number_named}
use Rattle.gq_resolve.proofs.Node_table_rows.{row_at, places-count}
use Rattle.gq_trade.specs.declared.trade_node.NodeState.{NodeState}
use Rattle.gq_trade.specs.declared.trade_node.Stage.TheVariants.{Pending, Live}
use Rattle.gq_trade.specs.Balances.{node_at, no_node}
use Rattle.gq_prepared.specs.Account_nodes.{parents_of, objects_of, given_in, node_after}
use Rattle.gq_prepared.specs.Scenario_plan.{IsPlanOf, first_stage}
use Rattle.gq_prepared.specs.internal.Firsts.{first_leaf, first_leaf_at, first_by, first_node}
use Rattle.gq_prepared.proofs.Joined_lists.{get_map}
use Rattle.gq_prepared.proofs.Scenario_node_positions.{slot_id_of, place_of}
use Rattle.gq_prepared.proofs.Plan_quantum_handing.{afters_fit, sibling_name}

pub map_same : (xs : List ℕ) → map (λ (n : ℕ). n) xs ≡ xs
map_same [] = refl
map_same (x ∷ xs) = ap (λ l. x ∷ l) (map_same xs)

-- WHAT A LEAF STARTS AFTER

abbrev pub number_after : Scenario → Component → Option ℕ
number_after s c = number_named c.node.after (λ name. numbered 0 name (components s))

-- what a table reports of a leaf
pub reported : (s : Scenario) (x : ℕ) (o : Option ℕ) → x < length (components s) → IfSome (slice_get (leaf_rows s) x) (λ r. o ≡ r.after)
    → (c : Component) × (slice_get (components s) x ≡ Some c) × (o ≡ number_after s c)
reported s x o less h =
    let a = row_at s x less in
    (a.component, a.there, subst (λ (l : Option LeafRow). IfSome l (λ r. o ≡ r.after)) a.row h)

number_within : (s : Scenario) (after : Option (List ℕ)) (y : ℕ) → number_named after (λ name. numbered 0 name (components s)) ≡ Some y
    → y < length (components s)
number_within s None y e = absurd (none_some e)
number_within s (Some name) y e =
    let d = numbered_name 0 name (components s) y e in
    let which = d.2 in
    let within = slice_get_within (components s) d.0 d.1 d.3 in
    omega (arith, which, within)

pub after_within : (s : Scenario) (x y : ℕ) (o : Option ℕ) → x < length (components s) → IfSome (slice_get (leaf_rows s) x) (λ r. o ≡ r.after)
    → o ≡ Some y → y < length (components s)
after_within s x y o less h e = let t = reported s x o less h in number_within s t.0.node.after y (sym t.2 ∙ e)

-- the node of a leaf's row is its place
row_place : (s : Scenario) (places : List ℕ) (cs : List Component) (x : ℕ) (r : LeafRow) → slice_get (leaf_rows_of s places cs) x ≡ Some r
    → r.node ≡ get_or places x 0
row_place s [] cs x r e = absurd (none_some e)
row_place s (p ∷ places) [] x r e = absurd (none_some e)
row_place s (p ∷ places) (c ∷ cs) zero r e = ap (λ (l : LeafRow). l.node) (sym (some_same e))
row_place s (p ∷ places) (c ∷ cs) (suc x) r e = row_place s places cs x r e

place_reported : (s : Scenario) (y place : ℕ) → y < length (components s) → IfSome (slice_get (leaf_rows s) y) (λ r. place ≡ r.node)
    → place ≡ get_or (leaf_places 1 s.nodes) y 0
place_reported s y place less h =
    let a = row_at s y less in
    subst (λ (l : Option LeafRow). IfSome l (λ r. place ≡ r.node)) a.row h
    ∙ row_place s (leaf_places 1 s.nodes) (components s) y (leaf_row s a.place a.component) a.row

-- a name is found where a leaf has it
not_none : (k : ℕ) (name : List ℕ) (cs : List Component) (j : ℕ) (d : Component) → slice_get cs j ≡ Some d → name ≡ d.node.name → numbered k name cs ≡ None → ⊥
not_none k name [] j d e is none = none_some e
not_none k name (c ∷ cs) zero d e is none =
    let same : text_eq name c.node.name ≡ true =
    ap (text_eq name) (ap (λ (c : Component). c.node.name) (some_same e) ∙ sym is) ∙ text_self name in
    none_some (sym none ∙ ap (λ b. cond b (Some k) (numbered (suc k) name cs)) same)
not_none k name (c ∷ cs) (suc j) d e is none = by (text_eq name c.node.name) none (λ f. not_none (suc k) name cs j d e is f)
  where
    by : (b : Bool) → cond b (Some k) (numbered (suc k) name cs) ≡ None → (numbered (suc k) name cs ≡ None → ⊥) → ⊥
    by true f further = none_some (sym f)
    by false f further = further f

-- in a scenario that is ready, the leaf that another starts after is there
after_there : (s : Scenario) (x : ℕ) (c : Component) (name : List ℕ) → IsReady s → slice_get (components s) x ≡ Some c → c.node.after ≡ Some name
    → numbered 0 name (components s) ≡ None → ⊥
after_there s x c name ready known after none =
    let b = (starts_after (components s) [] (components s) (afters_fit s ready.resolved.fits) x c name known after).0 in
    let other = (slot_id_of s x c known).beside name b.before b.there in
    not_none 0 name (components s) other.number other.component other.known
    (sym (ap (λ (n : LeafNode). n.name) other.is ∙ sibling_name name c.levels b.before b.there)) none

no_name : (s : Scenario) (x : ℕ) (c : Component) → IsReady s → slice_get (components s) x ≡ Some c → number_after s c ≡ None → c.node.after ≡ None
no_name s x c ready known e = by c.node.after refl e
  where
    by : (after : Option (List ℕ)) → c.node.after ≡ after → number_named after (λ name. numbered 0 name (components s)) ≡ None → after ≡ None
    by None is f = refl
    by (Some name) is f = absurd (after_there s x c name ready known is f)

some_stage : (after : Option (List ℕ)) (f : List ℕ → Option ℕ) (y : ℕ) → number_named after f ≡ Some y → Pending ≡ first_stage after
some_stage None f y e = absurd (none_some e)
some_stage (Some name) f y e = refl

-- A LEAF AT FIRST

pub pending : (s : Scenario) (x y place index : ℕ) (q : Amount) (o : Option ℕ) → x < length (components s)
    → IfSome (slice_get (leaf_rows s) x) (λ r. o ≡ r.after) → o ≡ Some y → IfSome (slice_get (leaf_rows s) y) (λ r. place ≡ r.node) → index ≡ place
    → IfSome (slice_get (components s) x) (λ c. record { quantum = q; after = Some index; stage = Pending } ≡ first_leaf s q c)
pending s x y place index q o less h e k i =
    let t = reported s x o less h in
    let is : number_after s t.0 ≡ Some y = sym t.2 ∙ e in
    let at : index ≡ get_or (leaf_places 1 s.nodes) y 0 = i ∙ place_reported s y place (number_within s t.0.node.after y is) k in
    let after : Some index ≡ node_after s t.0 =
    ap (λ n. Some n) at ∙ ap (option_map (λ z. get_or (leaf_places 1 s.nodes) z 0)) (sym is) in
    let stage = some_stage t.0.node.after (λ name. numbered 0 name (components s)) y is in
    let own : record { quantum = q; after = Some index; stage = Pending } ≡ first_leaf s q t.0 =
    (λ j. record { quantum = q; after = after j; stage = stage j }) in
    subst (λ (l : Option Component). IfSome l (λ c. record { quantum = q; after = Some index; stage = Pending } ≡ first_leaf s q c)) (sym t.1) own

pub live : (s : Scenario) (x : ℕ) (q : Amount) (o : Option ℕ) → IsReady s → x < length (components s)
    → IfSome (slice_get (leaf_rows s) x) (λ r. o ≡ r.after) → o ≡ None
    → IfSome (slice_get (components s) x) (λ c. record { quantum = q; after = None; stage = Live } ≡ first_leaf s q c)
live s x q o ready less h e =
    let t = reported s x o less h in
    let is : number_after s t.0 ≡ None = sym t.2 ∙ e in
    let after : None ≡ node_after s t.0 = ap (option_map (λ z. get_or (leaf_places 1 s.nodes) z 0)) (sym is) in
    let stage : Live ≡ first_stage t.0.node.after = ap first_stage (sym (no_name s x t.0 ready t.1 is)) in
    let own : record { quantum = q; after = None; stage = Live } ≡ first_leaf s q t.0 =
    (λ j. record { quantum = q; after = after j; stage = stage j }) in
    subst (λ (l : Option Component). IfSome l (λ c. record { quantum = q; after = None; stage = Live } ≡ first_leaf s q c)) (sym t.1) own

-- A NODE AT FIRST

leaf_known : (s : Scenario) (i x : ℕ) (row : NodeRow) → slice_get (node_rows s) i ≡ Some row → row.leaf ≡ Some x
    → (c : Component) × (slice_get (components s) x ≡ Some c)
leaf_known s i x row e is =
    let within = slice_get_within (leaf_places 1 s.nodes) x i (place_of s i row x e is) in
    let count = places-count s in
    get_within (components s) x (omega (arith, within, count))

pub leaf_there : (s : Scenario) (i x : ℕ) (o : Option ℕ) → i < length (node_rows s) → IfSome (slice_get (node_rows s) i) (λ r. o ≡ r.leaf) → o ≡ Some x
    → x < length (components s)
leaf_there s i x o less h e =
    let row = get_within (node_rows s) i less in
    let is : row.0.leaf ≡ Some x = sym (subst (λ (l : Option NodeRow). IfSome l (λ r. o ≡ r.leaf)) row.1 h) ∙ e in
    let c = leaf_known s i x row.0 row.1 is in
    slice_get_within (components s) x c.0 c.1

pub leaf_node_is : (s : Scenario) (i x v : ℕ) (o : Option ℕ) (q quantum : Amount) (result : NodeState) → i < length (node_rows s)
    → IfSome (slice_get (node_rows s) i) (λ r. o ≡ r.leaf) → o ≡ Some x → q ≡ given_in v quantum → v ≡ s.version
    → IfSome (slice_get (node_rows s) i) (λ r. quantum ≡ r.quantum) → IfSome (slice_get (components s) x) (λ c. result ≡ first_leaf s q c)
    → IfSome (slice_get (node_rows s) i) (λ r. result ≡ first_node s r)
leaf_node_is s i x v o q quantum result less h e f g k made =
    let row = get_within (node_rows s) i less in
    let is : row.0.leaf ≡ Some x = sym (subst (λ (l : Option NodeRow). IfSome l (λ r. o ≡ r.leaf)) row.1 h) ∙ e in
    let c = leaf_known s i x row.0 row.1 is in
    let given : q ≡ given_in s.version row.0.quantum =
    f ∙ (λ j. given_in (g j) (subst (λ (l : Option NodeRow). IfSome l (λ r. quantum ≡ r.quantum)) row.1 k j)) in
    let own : result ≡ first_leaf s q c.0 = subst (λ (l : Option Component). IfSome l (λ c. result ≡ first_leaf s q c)) c.1 made in
    let whole : result ≡ first_node s row.0 =
    own ∙ ap (λ a. first_leaf s a c.0) given ∙ ap (first_leaf_at s (given_in s.version row.0.quantum)) (sym c.1)
    ∙ ap (first_by s (given_in s.version row.0.quantum)) (sym is) in
    subst (λ (l : Option NodeRow). IfSome l (λ r. result ≡ first_node s r)) (sym row.1) whole

-- ALL NODES

module _ (s : Scenario) (ps : List ℕ) (ns : List NodeState) (xs os : List ℕ) (made : ns ≡ map (first_node s) (node_rows s)) where
  node_is : (i : ℕ) (row : NodeRow) → slice_get (node_rows s) i ≡ Some row → node_at ns i ≡ first_node s row
  node_is i row e = ap (λ l. get_or l i no_node) made ∙ get_map (first_node s) (node_rows s) i row no_node e

  init_is : (i : ℕ) (row : NodeRow) → slice_get (node_rows s) i ≡ Some row → row.leaf ≡ None
      → node_at ns i ≡ record { quantum = given_in s.version row.quantum; after = None; stage = Live }
  init_is i row e is = node_is i row e ∙ ap (first_by s (given_in s.version row.quantum)) is

  leaf_is : (i x : ℕ) (row : NodeRow) (c : Component) → slice_get (node_rows s) i ≡ Some row → row.leaf ≡ Some x → slice_get (components s) x ≡ Some c
      → node_at ns i ≡ first_leaf s (given_in s.version row.quantum) c
  leaf_is i x row c e is known =
      node_is i row e ∙ ap (first_by s (given_in s.version row.quantum)) is ∙ ap (first_leaf_at s (given_in s.version row.quantum)) known

  quantum_is : (i : ℕ) (row : NodeRow) → slice_get (node_rows s) i ≡ Some row → (node_at ns i).quantum ≡ given_in s.version row.quantum
  quantum_is i row e = by row.leaf refl
    where
      by : (o : Option ℕ) → row.leaf ≡ o → (node_at ns i).quantum ≡ given_in s.version row.quantum
      by None is = ap (λ (n : NodeState). n.quantum) (init_is i row e is)
      by (Some x) is = let c = leaf_known s i x row e is in ap (λ (n : NodeState). n.quantum) (leaf_is i x row c.0 e is c.1)

  -- the node of a leaf
  own_is : (x : ℕ) (c : Component) → slice_get (components s) x ≡ Some c
      → (q : Amount) × (node_at ns (get_or (leaf_places 1 s.nodes) x 0) ≡ first_leaf s q c)
  own_is x c known =
      let t = slot_id_of s x c known in
      let at : get_or (leaf_places 1 s.nodes) x 0 ≡ t.place = get_or_from_slice_get (leaf_places 1 s.nodes) x t.place 0 t.at in
      (given_in s.version t.row.quantum, ap (node_at ns) at ∙ leaf_is t.place x t.row c t.there t.leaf known)

  pub is_plan_of : ps ≡ parents_of s → xs ≡ leaf_places 1 s.nodes → os ≡ objects_of s → IsPlanOf s ps ns xs os
  is_plan_of parents leaves objects = record {
    parents = parents;
    leaves = leaves;
    objects = objects;
    count = ap length made ∙ length-map (node_rows s) _;
    quanta = quantum_is;
    inits = λ i row e is. ap (λ (n : NodeState). n.stage) (init_is i row e is);
    none_after = λ i row e is. ap (λ (n : NodeState). n.after) (init_is i row e is);
    after = λ x c known. ap (λ (n : NodeState). n.after) (own_is x c known).1;
    stages = λ x c known. ap (λ (n : NodeState). n.stage) (own_is x c known).1;
  }
