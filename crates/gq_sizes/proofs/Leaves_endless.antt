-- For which leaves and inits no number of capabilities is enough, found one after the other.
use Rattle.std.proofs.Common.{◌≡◌, ◌∙◌, ℕ, zero, suc, ◌+◌, ◌<◌, ◌≤◌, ◌||◌, Bool, false, List, [], ◌∷◌, ◌++◌, length, get_or, drop, map, Some}
use Rattle.std.proofs.Common.{ap, sym, refl, arith, add-one}
use Rattle.std.specs.Prelude.{slice_get}
use Rattle.std.proofs.Math.ListN.{drop_of_length-le}
use Rattle.gq_model.specs.declared.section.Section.TheVariants.{Main}
use Rattle.gq_model.specs.machine.Accounts.{leaf_count}
use Rattle.gq_model.specs.machine.Lists.{any_of}
use Rattle.gq_model.specs.machine.Scenario.{Component, Nodes, System}
use Rattle.gq_model.specs.rules.Kinds.{AbstractState, Subject}
use Rattle.gq_model.specs.rules.Use.{subject}
use Rattle.gq_resolve.proofs.Mapped_list_growth.{onto}
use Rattle.gq_scenario.specs.Component_trees.{before, nodes_of}
use Rattle.gq_scenario.specs.declared.scenario.Node.{Node}
use Rattle.gq_scenario.specs.declared.scenario.Node.TheVariants.{Leaf, Init}
use Rattle.gq_scenario.proofs.Tree_counts.{nodes_drop}
use Rattle.gq_sizes.specs.Endless.{Test, leads, is_endless, passes, leaf_endless, endless_at, at_start, children_endless}
use Rattle.gq_sizes.specs.Passing.{AreEndless, endless_from, endless_owns}
use Rattle.gq_sizes.proofs.Any_test_search.{or_assoc, or_none}
use Rattle.gq_sizes.specs.Size.{section_points}

-- LEAVES

-- at some point of `main` a slot of the leaf's own has a link to a session that passes
abbrev pub own_leads : Test → Subject → Bool
own_leads test v = any_of (λ (s : AbstractState). any_of (leads test) s.own) (section_points v Main)

owns_of : (all : System) (test : Test) → test ≡ is_endless all → (cs : List Component) → map (own_leads test) (map (subject all) cs) ≡ endless_owns all cs
owns_of all test is [] = refl
owns_of all test is (c ∷ rest) = (λ i. own_leads (is i) (subject all c) ∷ owns_of all test is rest i)

pub owns_are : (all : System) (test : Test) → AreEndless all test → (vs : List Subject) → vs ≡ map (subject all) all.components
    → map (own_leads test) vs ≡ endless_owns all all.components
owns_are all test is vs are = ap (map (own_leads test)) are ∙ owns_of all test (λ i service level. is service level i) all.components

-- one leaf more
pub leaf_put : (all : System) (cs : List Component) (i : ℕ) (c : Component) (b : Bool) → cs ≡ all.components → slice_get cs i ≡ Some c →
    drop i cs ≡ c ∷ drop (suc i) cs → b ≡ leaf_endless (length cs) all c → (made now whole : List Bool) → now ≡ made ++ b ∷ [] →
    made ++ endless_from all i (drop i cs) ≡ whole → now ++ endless_from all (i + 1) (drop (i + 1) cs) ≡ whole
leaf_put all cs i c b are at next is made now whole put inv =
    let n = length all.components in
    let reported : b ≡ endless_at all i = is ∙ (ap (λ (l : List Component). leaf_endless (length l) all c) are
    ∙ (ap (passes (leaf_endless n all)) (sym at) ∙ ap (λ (l : List Component). passes (leaf_endless n all) (slice_get l i)) are)) in
    onto made now (b ∷ []) (endless_from all (i + 1) (drop (i + 1) cs)) (endless_from all i (drop i cs)) whole put
    (ap (endless_from all i) next
    ∙ (ap (λ n. endless_at all i ∷ endless_from all n (drop n cs)) (sym (add-one i))
    ∙ ap (λ a. a ∷ endless_from all (i + 1) (drop (i + 1) cs)) (sym reported))) inv

endless_of : (all : System) (x k : ℕ) (cs : List Component) → ((i : ℕ) → slice_get all.components (x + i) ≡ slice_get cs i) →
    get_or (endless_from all x cs) k false ≡ endless_at all (x + k)
endless_of all x k [] h = ap (passes (leaf_endless (length all.components) all)) (sym (h k))
endless_of all x zero (c ∷ cs) h = ap (endless_at all) (omega arith)
endless_of all x (suc k) (c ∷ cs) h =
    endless_of all (suc x) k cs (λ i. ap (slice_get all.components) (omega arith) ∙ h (suc i)) ∙ ap (endless_at all) (omega arith)

-- the entry of a leaf
pub entry_is : (all : System) (endless : List Bool) → endless ≡ endless_from all 0 all.components → (x : ℕ) → get_or endless x false ≡ endless_at all x
entry_is all endless e x =
    ap (λ l. get_or l x false) e
    ∙ (endless_of all 0 x all.components (λ i. ap (slice_get all.components) (omega arith)) ∙ ap (endless_at all) (omega arith))

-- CHILDREN

node_first : (all : System) (x : ℕ) (node : Node) (rest : Nodes) → children_endless all x (before node rest) ≡
    (children_endless all x (nodes_of (node ∷ [])) || children_endless all (x + leaf_count (nodes_of (node ∷ []))) rest)
node_first all x (Leaf node) rest =
    let here = at_start node.after (endless_at all x) in
    let e : suc x ≡ x + 1 = omega arith in
    (λ j. or_none here j || children_endless all (e j) rest)
node_first all x (Init node children) rest =
    let e : x + leaf_count children ≡ x + (leaf_count children + 0) = omega arith in
    (λ j. or_none (children_endless all x children) j || children_endless all (e j) rest)

module _ (items : List Node) (i : ℕ) (node : Node) (within : i < length items) (is : node ≡ get_or items i node) where
  -- one node more
  pub node_put : (all : System) (x y : ℕ) (sum found next whole : Bool) → y ≡ x + leaf_count (nodes_of (node ∷ [])) →
      found ≡ children_endless all x (nodes_of (node ∷ [])) → next ≡ (sum || found) →
      (sum || children_endless all x (nodes_of (drop i items))) ≡ whole → (next || children_endless all y (nodes_of (drop (i + 1) items))) ≡ whole
  node_put all x y sum found next whole at e f inv =
      let rest = nodes_of (drop (i + 1) items) in
      let here = ap (children_endless all x) (nodes_drop items i node within is) ∙ node_first all x node rest in
      ap (λ b. b || children_endless all y rest) f
      ∙ (or_assoc sum found (children_endless all y rest)
      ∙ ((λ j. sum || (e j || children_endless all (at j) rest)) ∙ (ap (λ b. sum || b) (sym here) ∙ inv)))

-- and at the end all
pub nodes_all : (all : System) (items : List Node) (i first next : ℕ) (sum : Bool) → length items ≤ i →
    (sum || children_endless all next (nodes_of (drop i items))) ≡ children_endless all first (nodes_of items) →
    sum ≡ children_endless all first (nodes_of items)
nodes_all all items i first next sum h inv =
    or_none sum ∙ (ap (λ (l : List Node). sum || children_endless all next (nodes_of l)) (sym (drop_of_length-le items h)) ∙ inv)
