-- The leaf of a name, looked for one after the other.
use Rattle.std.proofs.Common.{◌≡◌, ℕ, zero, suc, ◌+◌, ◌<◌, Bool, true, false, List, [], ◌∷◌, drop, length, Some, refl, ap, ◌∙◌, subst, arith}
use Rattle.std.specs.Prelude.{if◌then◌else◌, option_map, slice_get}
use Rattle.gq_model.specs.machine.Program.{text_eq}
use Rattle.gq_model.specs.machine.Scenario.{Component, LeafNode}
use Rattle.gq_model.proofs.Small_facts.{none_some, some_same}
use Rattle.gq_why.specs.Why_written.{leaf_number}

dropped : (cs : List Component) (i : ℕ) (node : LeafNode) → option_map (λ (c : Component). c.node) (slice_get cs i) ≡ Some node →
    (d : Component) × (drop i cs ≡ d ∷ drop (suc i) cs) × (d.node ≡ node)
dropped [] i node e = absurd cc
dropped (c ∷ rest) zero node e = (c, refl, cc)
dropped (c ∷ rest) (suc i) node e = dropped rest i node e

module _ (name : List ℕ) (cs : List Component) (i : ℕ) (node : LeafNode) (is : option_map (λ (c : Component). c.node) (slice_get cs i) ≡ Some node) where
  by_name : leaf_number name i (drop i cs) ≡ (if text_eq name node.name then Some i else leaf_number name (suc i) (drop (suc i) cs))
  by_name =
      let found = dropped cs i node is in
      ap (leaf_number name i) found.1
      ∙ ap (λ (n : LeafNode). if text_eq name n.name then Some i else leaf_number name (suc i) (drop (suc i) cs)) found.2

  pub found_here : text_eq name node.name ≡ true → leaf_number name i (drop i cs) ≡ Some i
  found_here same = by_name ∙ ap (λ b. if b then Some i else leaf_number name (suc i) (drop (suc i) cs)) same

  pub found_later : text_eq name node.name ≡ false → leaf_number name i (drop i cs) ≡ leaf_number name (i + 1) (drop (i + 1) cs)
  found_later other =
      let next : suc i ≡ i + 1 = omega arith in
      subst (λ n. leaf_number name i (drop i cs) ≡ leaf_number name n (drop n cs)) next
      (by_name ∙ ap (λ b. if b then Some i else leaf_number name (suc i) (drop (suc i) cs)) other)

-- the number is that of a leaf
pub place_within : (name : List ℕ) (x y : ℕ) (cs : List Component) → leaf_number name x cs ≡ Some y → y < x + length cs
place_within name x y [] e = absurd (none_some e)
place_within name x y (c ∷ rest) e = by (text_eq name c.node.name) e (λ f. place_within name (suc x) y rest f)
  where
    by : (b : Bool) → (if b then Some x else leaf_number name (suc x) rest) ≡ Some y → (leaf_number name (suc x) rest ≡ Some y → y < suc x + length rest)
        → y < x + suc (length rest)
    by true f further = let same = some_same f in omega (arith, same)
    by false f further = let h = further f in omega (arith, h)
