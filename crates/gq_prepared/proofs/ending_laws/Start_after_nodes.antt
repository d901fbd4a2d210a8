-- Leaves that start after others, by names and by their nodes.
use Rattle.std.proofs.Common.{◌≡◌, ℕ, zero, suc, ◌<◌, inl, inr, Bool, true, false, cond, List, [], ◌∷◌, get_or, Option, Some, None, refl, ap}
use Rattle.std.proofs.Common.{◌∙◌, arith, option_map}
use Rattle.std.specs.Prelude.{slice_get}
use Rattle.std.proofs.lemmas.Bool.{cases_eq}
use Rattle.gq_model.proofs.Small_facts.{none_some, some_same, or_first_none, text_self}
use Rattle.gq_model.specs.machine.Amounts.{Ram, Caps}
use Rattle.gq_model.specs.machine.Program.{text_eq}
use Rattle.gq_model.specs.machine.Routes.{numbered}
use Rattle.gq_model.specs.machine.Scenario.{Component, Scenario, components}
use Rattle.gq_model.specs.rules.Resolve.{after_fault, offer_fault, quanta_fault}
use Rattle.gq_laws.specs.Names.{NamesDiffer}
use Rattle.gq_laws.specs.Resolved_scenarios.{IsResolved}
use Rattle.gq_laws.proofs.quota_payment.Leaf_component_positions.{not_again}
use Rattle.gq_laws.proofs.quota_payment.Routed_server_provides.{numbered_name}
use Rattle.gq_scenario.specs.Sizes.{leaf_places}
use Rattle.gq_resolve.specs.NodeTables.{number_named}
use Rattle.gq_prepared.specs.Account_nodes.{node_after}

-- BY NAMES

afters_fit : (s : Scenario) → IsResolved s → after_fault (components s) [] (components s) ≡ None
afters_fit s resolved =
    let a = or_first_none (quanta_fault Ram s) _ resolved.fits in
    let b = or_first_none (quanta_fault Caps s) _ a.1 in
    let c = or_first_none (offer_fault s) _ b.1 in (or_first_none (after_fault (components s) [] (components s)) _ c.1).0

-- two leaves that start after the same are one
pub one_after : (s : Scenario) → IsResolved s → (i j : ℕ) (c d : Component) (name : List ℕ) → slice_get (components s) i ≡ Some c
    → slice_get (components s) j ≡ Some d → c.node.after ≡ Some name → d.node.after ≡ Some name → i ≡ j
one_after s resolved i j c d name e f a b = elim (cases_eq i j) [
  | inl same ↦ same
  | inr other ↦
      let no = not_again (components s) [] (components s) (afters_fit s resolved) in
      let less : i < j → ⊥ = no i j c d name e f a b in
      let more : j < i → ⊥ = no j i d c name f e b a in omega (arith, less, more)
]

later_number : (b : Bool) (k : ℕ) (name : List ℕ) (cs : List Component) → ((y : ℕ) × (numbered (suc k) name cs ≡ Some y))
    → (y : ℕ) × (cond b (Some k) (numbered (suc k) name cs) ≡ Some y)
later_number true k name cs later = (k, refl)
later_number false k name cs later = later

is_numbered : (k : ℕ) (cs : List Component) (i : ℕ) (c : Component) → slice_get cs i ≡ Some c → (y : ℕ) × (numbered k c.node.name cs ≡ Some y)
is_numbered k [] i c e = absurd (none_some e)
is_numbered k (d ∷ cs) zero c e =
    let same : d ≡ c = some_same e in
    (k, ap (λ b. cond b (Some k) (numbered (suc k) c.node.name cs)) (ap (λ (z : Component). text_eq c.node.name z.node.name) same ∙ text_self c.node.name))
is_numbered k (d ∷ cs) (suc i) c e =
    later_number (text_eq c.node.name d.node.name) k c.node.name cs (is_numbered (suc k) cs i c e)

-- the number of a leaf's name is its own
pub own_number : (s : Scenario) → NamesDiffer s → (x : ℕ) (c : Component) → slice_get (components s) x ≡ Some c
    → numbered 0 c.node.name (components s) ≡ Some x
own_number s differ x c e =
    let y = is_numbered 0 (components s) x c e in
    let n = numbered_name 0 c.node.name (components s) y.0 y.1 in
    let same : x ≡ n.0 = differ x n.0 c n.1 e n.3 n.4 in
    let at = n.2 in y.1 ∙ ap (λ (k : ℕ). Some k) (omega (arith, at, same))

-- BY NODES

-- a leaf that starts after another starts after its node
pub after_node : (s : Scenario) → NamesDiffer s → (x : ℕ) (c d : Component) → slice_get (components s) x ≡ Some c → d.node.after ≡ Some c.node.name
    → node_after s d ≡ Some (get_or (leaf_places 1 s.nodes) x 0)
after_node s differ x c d there after =
    ap (λ o. option_map (λ y. get_or (leaf_places 1 s.nodes) y 0) (number_named o (λ name. numbered 0 name (components s)))) after
    ∙ ap (option_map (λ y. get_or (leaf_places 1 s.nodes) y 0)) (own_number s differ x c there)

-- what a leaf starts after, by a node
pub record IsAfter (s : Scenario) (d : Component) (n : ℕ) : Type 0 where
  pub leaf : ℕ
  pub before : Component
  pub there : slice_get (components s) leaf ≡ Some before
  pub node : get_or (leaf_places 1 s.nodes) leaf 0 ≡ n
  pub after : d.node.after ≡ Some before.node.name

named_after : (s : Scenario) (d : Component) (n : ℕ) (name : List ℕ) (o : Option ℕ) → d.node.after ≡ Some name → numbered 0 name (components s) ≡ o
    → option_map (λ y. get_or (leaf_places 1 s.nodes) y 0) o ≡ Some n → IsAfter s d n
named_after s d n name None after e f = absurd (none_some f)
named_after s d n name (Some y) after e f =
    let h = numbered_name 0 name (components s) y e in
    let at = h.2 in
    let same : h.0 ≡ y = omega (arith, at) in
    record {
      leaf = h.0;
      before = h.1;
      there = h.3;
      node = ap (λ k. get_or (leaf_places 1 s.nodes) k 0) same ∙ some_same f;
      after = after ∙ ap (λ (t : List ℕ). Some t) h.4;
    }

pub node_then : (s : Scenario) (d : Component) (n : ℕ) → node_after s d ≡ Some n → IsAfter s d n
node_then s d n e = by d.node.after refl e
  where
    by : (o : Option (List ℕ)) → d.node.after ≡ o
        → option_map (λ y. get_or (leaf_places 1 s.nodes) y 0) (number_named o (λ name. numbered 0 name (components s))) ≡ Some n → IsAfter s d n
    by None after f = absurd (none_some f)
    by (Some name) after f = named_after s d n name (numbered 0 name (components s)) after refl f
