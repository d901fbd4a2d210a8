-- The nodes of a scenario with the least quantities: each leaf has its own, and inits hand out no more than they have.
use Rattle.std.proofs.Common.{◌≡◌, ℕ, zero, suc, ◌+◌, ◌≤◌, Bool, true, false, List, [], ◌∷◌, ◌++◌, length, max, Option, Some, None, refl, ap, ◌∙◌, subst}
use Rattle.std.proofs.Common.{arith, nat_le}
use Rattle.std.specs.Prelude.{slice_get, if◌then◌else◌, codes}
use Rattle.std.proofs.lemmas.Bool.Decides.{nat_tests}
use Rattle.gq_tariff.specs.Prices.{up}
use Rattle.gq_model.specs.machine.Accounts.{leaf_count}
use Rattle.gq_model.specs.machine.Amounts.{Resource, Ram, Caps, Amount, amount, part, counts_caps}
use Rattle.gq_model.specs.machine.Lists.{or_first}
use Rattle.gq_model.specs.machine.Scenario.{Route, Nodes, End, Leaf_node, Init_node, Level, Component, Scenario, System, components_of, level, below}
use Rattle.gq_model.specs.rules.Resolve.{handed_out, exceeded, exceeds, first_exceeding, quanta_fault}
use Rattle.gq_model.proofs.Component_laws.{components_count}
use Rattle.gq_model.proofs.Small_facts.{none_some, some_same}
use Rattle.gq_sizes.specs.Unsized_equality.{NodesAsOne}
use Rattle.gq_sizes.specs.Size.{least_at, children_least, root_least}
use Rattle.gq_scenario.specs.Without_quantities.{without_quanta}
use Rattle.gq_sizes.specs.Least.{caps_of, least_nodes}
use Rattle.gq_sizes.proofs.Own_need_comparison.{handed_ram, handed_caps}

module _ (version : ℕ) (all : System) where
  -- what the x-th leaf is handed
  abbrev pub handed : ℕ → Amount
  handed x = amount (least_at Ram all x) (caps_of version (least_at Caps all x))

  pub free_sized : (x : ℕ) (ns : Nodes) → NodesAsOne (without_quanta ns) (least_nodes version all x ns)
  free_sized x End = tt
  free_sized x (Leaf_node node rest) = (refl, free_sized (suc x) rest)
  free_sized x (Init_node node children rest) = (refl, free_sized x children, free_sized (x + leaf_count children) rest)

  -- these components, of which the first is the x-th, are handed what they need
  abbrev Has : ℕ → List Component → Type 0
  Has x [] = Unit {0}
  Has x (c ∷ cs) = (c.node.quantum ≡ handed x) × Has (suc x) cs

  both_have : (x y : ℕ) (cs ds : List Component) → y ≡ x + length cs → Has x cs → Has y ds → Has x (cs ++ ds)
  both_have x y [] ds e h k = subst (λ n. Has n ds) (omega (arith, e)) k
  both_have x y (c ∷ cs) ds e h k = (h.0, both_have (suc x) y cs ds (omega (arith, e)) h.1 k)

  count_same : (x : ℕ) (ns : Nodes) → leaf_count (least_nodes version all x ns) ≡ leaf_count ns
  count_same x End = refl
  count_same x (Leaf_node node rest) = ap suc (count_same (suc x) rest)
  count_same x (Init_node node children rest) = (λ i. count_same x children i + count_same (x + leaf_count children) rest i)

  pub all_have : (label : List ℕ) (default_routes : Option (List Route)) (siblings : Nodes) (above : List Level) (x : ℕ) (ns : Nodes)
      → Has x (components_of label default_routes siblings above (least_nodes version all x ns))
  all_have label default_routes siblings above x End = tt
  all_have label default_routes siblings above x (Leaf_node node rest) = (refl, all_have label default_routes siblings above (suc x) rest)
  all_have label default_routes siblings above x (Init_node node children rest) =
      let kids = least_nodes version all x children in
      let count = components_count (below label node.name) node.default_routes kids (level node.routes default_routes siblings ∷ above) kids in
      let same = count_same x children in
      both_have x (x + leaf_count children) _ _ (omega (arith, count, same))
      (all_have (below label node.name) node.default_routes kids (level node.routes default_routes siblings ∷ above) x children)
      (all_have label default_routes siblings above (x + leaf_count children) rest)

  pub has_at : (x i y : ℕ) (cs : List Component) (c : Component) → Has x cs → slice_get cs i ≡ Some c → y ≡ x + i → c.node.quantum ≡ handed y
  has_at x i y [] c h e at = absurd (none_some e)
  has_at x zero y (b ∷ cs) c h e at =
      let same : x ≡ y = omega (arith, at) in
      subst (λ (k : Component). k.node.quantum ≡ handed y) (some_same e) (h.0 ∙ ap handed same)
  has_at x (suc i) y (b ∷ cs) c h e at = has_at (suc x) i y cs c h.1 e (omega (arith, at))

  -- QUANTA

  hands_out : (r : Resource) (x : ℕ) (ns : Nodes)
      → handed_out r (least_nodes version all x ns) ≡ part r (amount (children_least Ram all x ns) (caps_of version (children_least Caps all x ns)))
  hands_out Ram x ns = handed_ram version all x ns
  hands_out Caps x ns = handed_caps version all x ns

  no_more : (r : Resource) (name : List ℕ) (quantum : Amount) (ns : Nodes) → handed_out r ns ≤ part r quantum → exceeds r name quantum ns ≡ None
  no_more r name quantum ns h = by (nat_le (handed_out r ns) (part r quantum)) refl
    where
      by : (b : Bool) → nat_le (handed_out r ns) (part r quantum) ≡ b → (if◌then◌else◌ b None (Some (exceeded r name))) ≡ None
      by true e = refl
      by false e = absurd (grind (arith, nat_tests))

  inits_fit : (r : Resource) (x : ℕ) (ns : Nodes) → first_exceeding r (least_nodes version all x ns) ≡ None
  inits_fit r x End = refl
  inits_fit r x (Leaf_node node rest) = inits_fit r (suc x) rest
  inits_fit r x (Init_node node children rest) =
      let e = hands_out r x children in
      let a = no_more r node.name (amount (children_least Ram all x children) (caps_of version (children_least Caps all x children)))
      (least_nodes version all x children) (omega (arith, e)) in
      (λ i. or_first (a i) (or_first (inits_fit r x children i) (inits_fit r (x + leaf_count children) rest i)))

  caps_less : (n m : ℕ) → n ≤ m → caps_of version n ≤ caps_of version m
  caps_less n m h = by (counts_caps version)
    where
      by : (b : Bool) → (if◌then◌else◌ b n 0) ≤ (if◌then◌else◌ b m 0)
      by true = h
      by false = omega arith

  root_hands : (r : Resource) (ns : Nodes)
      → handed_out r (least_nodes version all 0 ns)
      ≤ part r (amount (root_least Ram (children_least Ram all 0 ns)) (caps_of version (root_least Caps (children_least Caps all 0 ns))))
  root_hands Ram ns =
      let e = hands_out Ram 0 ns in
      let a : children_least Ram all 0 ns ≤ up (children_least Ram all 0 ns) = omega arith in grind (arith, e, a)
  root_hands Caps ns =
      let e = hands_out Caps 0 ns in
      let a : children_least Caps all 0 ns ≤ max 1 (children_least Caps all 0 ns) = grind arith in
      let b = caps_less (children_least Caps all 0 ns) (max 1 (children_least Caps all 0 ns)) a in omega (arith, e, b)

  pub quanta_fit : (r : Resource) (z : Scenario) (ns : Nodes) → z.nodes ≡ least_nodes version all 0 ns
      → z.total ≡ amount (root_least Ram (children_least Ram all 0 ns)) (caps_of version (root_least Caps (children_least Caps all 0 ns)))
      → quanta_fault r z ≡ None
  quanta_fit r z ns e f =
      (λ i. or_first (exceeds r (codes "init") (f i) (e i)) (first_exceeding r (e i)))
      ∙ (λ i. or_first (no_more r (codes "init") (amount (root_least Ram (children_least Ram all 0 ns)) (caps_of version (root_least Caps (children_least Caps
      all 0 ns))))
      (least_nodes version all 0 ns) (root_hands r ns) i) (inits_fit r 0 ns i))
