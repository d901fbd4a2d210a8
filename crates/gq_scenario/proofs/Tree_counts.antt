-- Counts and names over a tree of components.
use Rattle.std.proofs.Common.{◌≡◌, ℕ, zero, suc, ◌+◌, ◌<◌, ◌≤◌, Bool, true, false, ◌||◌, cond, List, [], ◌∷◌, length, get_or, take, drop, Some, None, refl, sym}
use Rattle.std.proofs.Common.{ap, ◌∙◌, arith}
use Rattle.std.proofs.lemmas.Bool.Decides.{nat_tests}
use Rattle.std.proofs.lemmas.List.{drop_more, take_more}
use Rattle.gq_model.specs.machine.Scenario.{InitNode, Nodes}
use Rattle.gq_model.specs.machine.Lists.{any_of}
use Rattle.gq_model.specs.machine.Program.{text_eq}
use Rattle.gq_scenario.specs.Table_keys.{NameTwice}
use Rattle.gq_scenario.specs.Document.{name_twice}
use Rattle.gq_scenario.specs.Sizes.{node_count, counted}
use Rattle.gq_scenario.specs.Component_trees.{before, nodes_of}
use Rattle.gq_scenario.specs.declared.scenario.Node.{Node}
use Rattle.gq_scenario.specs.declared.scenario.Node.TheVariants.{Leaf, Init}
use Rattle.gq_scenario.proofs.Repeated_names.{seen_after, seen_after-append, any_of-seen}

pub nodes_drop : (items : List Node) (i : ℕ) (node : Node) → i < length items → node ≡ get_or items i node
    → nodes_of (drop i items) ≡ before node (nodes_of (drop (i + 1) items))
nodes_drop items i node h e = rw (drop_more items i node h, ← e) refl

rest_smaller : (node : Node) (rest : Nodes) → node_count rest ≤ node_count (before node rest)
rest_smaller (Leaf node) rest = omega arith
rest_smaller (Init node children) rest = omega arith

size_drop : (items : List Node) (i : ℕ) → node_count (nodes_of (drop i items)) ≤ node_count (nodes_of items)
size_drop [] zero = omega arith
size_drop [] (suc i) = omega arith
size_drop (node ∷ items) zero = omega arith
size_drop (node ∷ items) (suc i) = let h = size_drop items i in let k = rest_smaller node (nodes_of items) in omega (arith, h, k)

-- what is below an init is smaller than the list that it stands in
pub below_smaller : (items : List Node) (i : ℕ) (node : Node) (init : InitNode) (children : Nodes) → i < length items → node ≡ get_or items i node
    → node ≡ Init init children
    → node_count children < node_count (nodes_of items)
below_smaller items i node init children h e is =
    let all = size_drop items i in
    let here : node_count (nodes_of (drop i items)) ≡ node_count (before (Init init children) (nodes_of (drop (i + 1) items))) =
    ap node_count (nodes_drop items i node h e ∙ ap (λ n. before n (nodes_of (drop (i + 1) items))) is) in
    omega (arith, all, here)

-- COUNTS

pub too_many : (n : ℕ) → 64 < n → None ≡ counted n
too_many n h = grind (arith, nat_tests)

pub few_enough : (n m : ℕ) → n ≡ m → m ≤ 64 → Some n ≡ counted m
few_enough n m e h = grind (arith, nat_tests)

pub counted_none : (n : ℕ) → None ≡ counted n → 64 < n
counted_none n e = grind (arith, nat_tests)

pub counted_some : (n m : ℕ) → Some m ≡ counted n → (m ≡ n) × (m ≤ 64)
counted_some n m e = (grind (arith, nat_tests), grind (arith, nat_tests))

-- NAMES

or_nothing : (a b : Bool) → (a || (b || false)) ≡ (a || b)
or_nothing true b = refl
or_nothing false true = refl
or_nothing false false = refl

module _ (root : List ℕ) (names : List (List ℕ)) (i : ℕ) (name : List ℕ) (within : i < length names) (is : name ≡ get_or names i name) (b : Bool)
    (taken : b ≡ (any_of (text_eq name) (take i names) || text_eq name root)) where
  abbrev seen : List (List ℕ)
  seen = seen_after (root ∷ []) (take i names)

  was_seen : any_of (text_eq name) seen ≡ b
  was_seen = any_of-seen (text_eq name) (root ∷ []) (take i names) ∙ (or_nothing (any_of (text_eq name) (take i names)) (text_eq name root) ∙ sym taken)

  step : name_twice seen (drop i names) ≡ cond (any_of (text_eq name) seen) (Some (NameTwice name)) (name_twice (name ∷ seen) (drop (i + 1) names))
  step = rw (drop_more names i name within, ← is) refl

  pub first_twice : b ≡ true → name_twice seen (drop i names) ≡ Some (NameTwice name)
  first_twice e = step ∙ rw (was_seen, e) refl

  more : seen_after (root ∷ []) (take (i + 1) names) ≡ name ∷ seen
  more = rw (take_more names i name within, ← is) (seen_after-append (root ∷ []) (take i names) name)

  pub not_twice : b ≡ false → name_twice (seen_after (root ∷ []) (take (i + 1) names)) (drop (i + 1) names) ≡ name_twice seen (drop i names)
  not_twice e = rw more (sym (step ∙ rw (was_seen, e) refl))
