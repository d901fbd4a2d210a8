-- The lines of nodes as a text that grows at its end, and what the whole system needs.
use Rattle.std.proofs.Common.{◌≡◌, ◌∙◌, ℕ, suc, ◌+◌, ◌<◌, max, Option, List, [], ◌∷◌, ◌++◌, length, get_or, drop}
use Rattle.std.proofs.Common.{ap, ap₂, sym, arith, append-nil, append_assoc, Result, Ok, Err, OnOk}
use Rattle.gq_tariff.specs.Prices.{up}
use Rattle.gq_model.specs.machine.Accounts.{leaf_count}
use Rattle.gq_model.specs.machine.Amounts.{Ram, Caps, Amount, amount}
use Rattle.gq_model.specs.machine.Scenario.{LeafNode, InitNode, Nodes, System, below}
use Rattle.gq_resolve.proofs.Mapped_list_growth.{onto}
use Rattle.gq_scenario.specs.Component_trees.{before, nodes_of}
use Rattle.gq_scenario.specs.declared.scenario.Node.{Node}
use Rattle.gq_scenario.specs.declared.scenario.Node.TheVariants.{Leaf, Init}
use Rattle.gq_scenario.proofs.Tree_counts.{nodes_drop}
use Rattle.gq_verify.specs.Saturated_numbers.{saturated}
use Rattle.gq_sizes.specs.Size.{children_least}
use Rattle.gq_sizes.specs.Endless.{children_endless, endless_at}
use Rattle.gq_sizes.specs.Size_text.{node_line, unless}
use Rattle.gq_sizes.specs.internal.Printed_sizes.{init_least_printed, leaf_least_printed, node_lines, root_least_printed}

module _ (v : ℕ) (all : System) (label : List ℕ) where
  abbrev leaf_line : ℕ → List ℕ → Amount → List ℕ
  leaf_line x there quantum = node_line v there quantum (leaf_least_printed all x).ram (unless (endless_at all x) (leaf_least_printed all x).caps)

  abbrev init_line : ℕ → Nodes → List ℕ → Amount → List ℕ
  init_line x children there quantum =
      node_line v there quantum (init_least_printed all x children).ram (unless (children_endless all x children) (init_least_printed all x children).caps)

  -- the lines of a node, and of what follows it
  lines_split : (x : ℕ) (node : Node) (rest : Nodes) → node_lines v all label x (before node rest) ≡
      node_lines v all label x (nodes_of (node ∷ [])) ++ node_lines v all label (x + leaf_count (nodes_of (node ∷ []))) rest
  lines_split x (Leaf node) rest =
      let first = leaf_line x (below label node.name) node.quantum in
      let e : suc x ≡ x + 1 = omega arith in
      ap (λ n. first ++ node_lines v all label n rest) e ∙ ap (λ l. l ++ node_lines v all label (x + 1) rest) (sym (append-nil first))
  lines_split x (Init node children) rest =
      let first = init_line x children (below label node.name) node.quantum ++ node_lines v all (below label node.name) x children in
      let e : x + leaf_count children ≡ x + (leaf_count children + 0) = omega arith in
      ap (λ n. first ++ node_lines v all label n rest) e
      ∙ ap (λ l. l ++ node_lines v all label (x + (leaf_count children + 0)) rest) (sym (append-nil first))

  -- those of the node that stands there were put at the end
  pub node_put : (items : List Node) (i : ℕ) (node : Node) → i < length items → node ≡ get_or items i node → (x y : ℕ) (old more whole : List ℕ) →
      y ≡ x + leaf_count (nodes_of (node ∷ [])) → more ≡ old ++ node_lines v all label x (nodes_of (node ∷ [])) →
      old ++ node_lines v all label x (nodes_of (drop i items)) ≡ whole →
      more ++ node_lines v all label y (nodes_of (drop (i + 1) items)) ≡ whole
  node_put items i node within is x y old more whole at put inv =
      let rest = nodes_of (drop (i + 1) items) in
      let here = ap (node_lines v all label x) (nodes_drop items i node within is) ∙ lines_split x node rest in
      onto old more (node_lines v all label x (nodes_of (node ∷ []))) (node_lines v all label y rest) (node_lines v all label x (nodes_of (drop i items))) whole
      put (here ∙ ap (λ n. node_lines v all label x (nodes_of (node ∷ [])) ++ node_lines v all label n rest) (sym at)) inv

  -- the line of a leaf alone
  pub leaf_alone : (leaf : LeafNode) (node : Node) → node ≡ Leaf leaf → (x : ℕ) (there : List ℕ) (quantum : Amount) (ram : ℕ) (caps : Option ℕ)
      (old more : List ℕ) → there ≡ below label leaf.name → quantum ≡ leaf.quantum → ram ≡ (leaf_least_printed all x).ram →
      caps ≡ unless (endless_at all x) (leaf_least_printed all x).caps → more ≡ old ++ node_line v there quantum ram caps →
      more ≡ old ++ node_lines v all label x (nodes_of (node ∷ []))
  leaf_alone leaf node e x there quantum ram caps old more named q rams capss put =
      put
      ∙ ((λ j. old ++ node_line v (named j) (q j) (rams j) (capss j))
      ∙ (ap (λ t. old ++ t) (sym (append-nil (leaf_line x (below label leaf.name) leaf.quantum)))
      ∙ ap (λ n. old ++ node_lines v all label x (nodes_of (n ∷ []))) (sym e)))

  -- those of an init alone
  init_alone : (init : InitNode) (children : Nodes) (node : Node) → node ≡ Init init children → (x : ℕ) (there : List ℕ) (quantum : Amount)
      (old more : List ℕ) → there ≡ below label init.name → quantum ≡ init.quantum →
      more ≡ (old ++ init_line x children there quantum) ++ node_lines v all there x children →
      more ≡ old ++ node_lines v all label x (nodes_of (node ∷ []))
  init_alone init children node e x there quantum old more named q put =
      let first = init_line x children (below label init.name) init.quantum in
      let second = node_lines v all (below label init.name) x children in
      put
      ∙ ((λ j. (old ++ init_line x children (named j) (q j)) ++ node_lines v all (named j) x children)
      ∙ (append_assoc old first second
      ∙ (ap (λ t. old ++ t) (sym (append-nil (first ++ second)))
      ∙ ap (λ n. old ++ node_lines v all label x (nodes_of (n ∷ []))) (sym e))))

-- THE WHOLE SYSTEM

up_saturated : (n : ℕ) → saturated (max 4096 (up (saturated n))) ≡ saturated (max 4096 (up n))
up_saturated n = omega arith

pub root_is : (all : System) (nodes : Nodes) (needed : Amount) → needed ≡ init_least_printed all 0 nodes →
    amount (saturated (max 4096 (up needed.ram))) (max 1 needed.caps) ≡ root_least_printed all nodes
root_is all nodes needed e =
    let ram = ap (λ (a : Amount). saturated (max 4096 (up a.ram))) e ∙ up_saturated (children_least Ram all 0 nodes) in
    let caps : max 1 needed.caps ≡ saturated (max 1 (children_least Caps all 0 nodes)) = omega (arith, ap (λ (a : Amount). a.caps) e) in
    ap₂ amount ram caps

-- where it was not refused
pub init_alone_put : {A E : Type 0} → (r : Result A E) (v : ℕ) (all : System) (label : List ℕ) (init : InitNode) (children : Nodes) (node : Node) →
    node ≡ Init init children → (x : ℕ) (there : List ℕ) (quantum : Amount) (old more : List ℕ) → there ≡ below label init.name → quantum ≡ init.quantum →
    OnOk r (more ≡ (old ++ init_line v all label x children there quantum) ++ node_lines v all there x children) →
    OnOk r (more ≡ old ++ node_lines v all label x (nodes_of (node ∷ [])))
init_alone_put (Ok a) v all label init children node e x there quantum old more named q put =
    init_alone v all label init children node e x there quantum old more named q put
init_alone_put (Err f) v all label init children node e x there quantum old more named q put = put
