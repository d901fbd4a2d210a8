-- What each quantity is at least, put in lists by rows of what is least.
use Rattle.std.proofs.Common.{◌≡◌, ◌∙◌, ℕ, suc, ◌+◌, ◌-◌, ◌^◌, ◌<◌, Bool, false, List, [], ◌∷◌, ◌++◌, length, get_or, drop}
use Rattle.std.proofs.Common.{ap, sym, arith, append-nil, append_assoc, Result, Ok, Err, OnOk}
use Rattle.gq_model.specs.machine.Accounts.{leaf_count}
use Rattle.gq_model.specs.machine.Amounts.{amount}
use Rattle.gq_model.specs.machine.Scenario.{LeafNode, InitNode, Interface, Nodes, System}
use Rattle.gq_resolve.proofs.Mapped_list_growth.{onto}
use Rattle.gq_scenario.specs.Component_trees.{before, nodes_of}
use Rattle.gq_scenario.specs.declared.scenario.Node.{Node}
use Rattle.gq_scenario.specs.declared.scenario.Node.TheVariants.{Leaf, Init}
use Rattle.gq_scenario.proofs.Tree_counts.{nodes_drop}
use Rattle.gq_verify.specs.Saturated_numbers.{saturated}
use Rattle.gq_sizes.specs.declared.quantity_lines.Least.{Least}
use Rattle.gq_sizes.specs.Endless.{children_endless, endless_at, is_endless}
use Rattle.gq_sizes.specs.Least_numbers.{at_least, init_least_printed, interface_row, leaf_least_printed, nodes_row}
use Rattle.gq_sizes.specs.Passing.{tests}
use Rattle.gq_sizes.specs.Saturated_tables.{row}
use Rattle.gq_sizes.specs.Size.{Gift, least_caps, ram_sum}
use Rattle.gq_sizes.proofs.Printed_interfaces.{first_is, step_is, test_at}

-- INTERFACES

module _ (all : System) (given : List Gift) (e : List ℕ × Interface) (ram caps : List ℕ) (ends : List Bool) (rams : ram ≡ row (ram_sum all given e.0 e.1))
    (capss : caps ≡ row (λ l. saturated (least_caps all e.0 l))) (endless : ends ≡ tests (is_endless all e.0)) where
  abbrev need : Least
  need = at_least (amount (get_or ram 0 0) (get_or caps 0 0)) (get_or ends 0 false)

  abbrev upgrade : ℕ → Least
  upgrade l = at_least (amount (get_or ram (l + 1) 0 - get_or ram l 0) (get_or caps (l + 1) 0 - get_or caps l 0)) (get_or ends (l + 1) false)

  abbrev Small : ℕ → Type 0
  Small l = get_or ram l 0 < 2 ^ 64

  -- the numbers of one interface
  pub row_is : Small 0 → Small 1 → Small 2 → Small 3 → (need ∷ upgrade 0 ∷ upgrade 1 ∷ upgrade 2 ∷ []) ≡ interface_row all given e
  row_is s0 s1 s2 s3 =
      let f = ram_sum all given e.0 e.1 in
      let g = least_caps all e.0 in
      let test = λ (l : ℕ) (h : l < 4). test_at (is_endless all e.0) ends endless l l (λ i. l) h in
      let step = λ (l : ℕ) (h : l < 3) (a : Small l) (b : Small (l + 1)). step_is f g ram caps rams capss l h a b in
      (λ j. at_least (first_is f g ram caps rams capss s0 j) (test 0 (omega arith) j)
      ∷ at_least (step 0 (omega arith) s0 s1 j) (test 1 (omega arith) j)
      ∷ at_least (step 1 (omega arith) s1 s2 j) (test 2 (omega arith) j)
      ∷ at_least (step 2 (omega arith) s2 s3 j) (test 3 (omega arith) j) ∷ [])

-- NODES

module _ (all : System) where
  -- the numbers of a node, and of what follows it
  rows_split : (x : ℕ) (node : Node) (rest : Nodes) → nodes_row all x (before node rest) ≡
      nodes_row all x (nodes_of (node ∷ [])) ++ nodes_row all (x + leaf_count (nodes_of (node ∷ []))) rest
  rows_split x (Leaf node) rest =
      let first = at_least (leaf_least_printed all x) (endless_at all x) in
      let e : suc x ≡ x + 1 = omega arith in ap (λ n. first ∷ nodes_row all n rest) e
  rows_split x (Init node children) rest =
      let first = at_least (init_least_printed all x children) (children_endless all x children) ∷ nodes_row all x children in
      let e : x + leaf_count children ≡ x + (leaf_count children + 0) = omega arith in
      ap (λ n. first ++ nodes_row all n rest) e
      ∙ ap (λ l. l ++ nodes_row all (x + (leaf_count children + 0)) rest) (sym (append-nil first))

  -- those of the node that stands there were put at the end
  pub node_put : (items : List Node) (i : ℕ) (node : Node) → i < length items → node ≡ get_or items i node → (x y : ℕ) (old more whole : List Least) →
      y ≡ x + leaf_count (nodes_of (node ∷ [])) → more ≡ old ++ nodes_row all x (nodes_of (node ∷ [])) →
      old ++ nodes_row all x (nodes_of (drop i items)) ≡ whole →
      more ++ nodes_row all y (nodes_of (drop (i + 1) items)) ≡ whole
  node_put items i node within is x y old more whole at put inv =
      let rest = nodes_of (drop (i + 1) items) in
      let here = ap (nodes_row all x) (nodes_drop items i node within is) ∙ rows_split x node rest in
      onto old more (nodes_row all x (nodes_of (node ∷ []))) (nodes_row all y rest) (nodes_row all x (nodes_of (drop i items))) whole
      put (here ∙ ap (λ n. nodes_row all x (nodes_of (node ∷ [])) ++ nodes_row all n rest) (sym at)) inv

  -- a leaf alone
  pub leaf_alone : (leaf : LeafNode) (node : Node) → node ≡ Leaf leaf → (x : ℕ) (put : Least) (old more : List Least) →
      put ≡ at_least (leaf_least_printed all x) (endless_at all x) → more ≡ old ++ put ∷ [] → more ≡ old ++ nodes_row all x (nodes_of (node ∷ []))
  leaf_alone leaf node e x put old more is made =
      made ∙ ((λ j. old ++ is j ∷ []) ∙ ap (λ n. old ++ nodes_row all x (nodes_of (n ∷ []))) (sym e))

  init_alone : (init : InitNode) (children : Nodes) (node : Node) → node ≡ Init init children → (x : ℕ) (put : Least) (old mid more : List Least) →
      put ≡ at_least (init_least_printed all x children) (children_endless all x children) → mid ≡ old ++ put ∷ [] →
      more ≡ mid ++ nodes_row all x children → more ≡ old ++ nodes_row all x (nodes_of (node ∷ []))
  init_alone init children node e x put old mid more is made then =
      let first = at_least (init_least_printed all x children) (children_endless all x children) ∷ nodes_row all x children in
      then
      ∙ (ap (λ l. l ++ nodes_row all x children) made
      ∙ (append_assoc old (put ∷ []) (nodes_row all x children)
      ∙ ((λ j. old ++ is j ∷ nodes_row all x children)
      ∙ (ap (λ t. old ++ t) (sym (append-nil first)) ∙ ap (λ n. old ++ nodes_row all x (nodes_of (n ∷ []))) (sym e)))))

  -- an init and those in it, where it was not refused
  pub init_alone_put : {A E : Type 0} → (r : Result A E) (init : InitNode) (children : Nodes) (node : Node) → node ≡ Init init children → (x : ℕ)
      (put : Least) (old mid more : List Least) → put ≡ at_least (init_least_printed all x children) (children_endless all x children) →
      mid ≡ old ++ put ∷ [] → OnOk r (more ≡ mid ++ nodes_row all x children) → OnOk r (more ≡ old ++ nodes_row all x (nodes_of (node ∷ [])))
  init_alone_put (Ok a) init children node e x put old mid more is made then = init_alone init children node e x put old mid more is made then
  init_alone_put (Err f) init children node e x put old mid more is made then = then
