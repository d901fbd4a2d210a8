-- Where the leaves of a tree stand among its components, and who starts after whom.
use Rattle.std.proofs.Common.{◌≡◌, ℕ, zero, suc, ◌+◌, ◌≤◌, ◌<◌, ◌||◌, inl, inr, Bool, true, false, cond, nat_lt, List, [], ◌∷◌, ◌++◌, length, codes}
use Rattle.std.proofs.Common.{Option, Some, None, refl, ap, sym, ◌∙◌, subst, arith}
use Rattle.std.specs.Prelude.{slice_get, is_some}
use Rattle.std.proofs.lemmas.Bool.Decides.{leb_tells}
use Rattle.gq_model.specs.machine.Program.{text_eq}
use Rattle.gq_model.specs.machine.Scenario.{Route, LeafNode, Nodes, End, Leaf_node, Init_node, Level, level, below, Component, components_of, components}
use Rattle.gq_model.specs.machine.Scenario.{Scenario}
use Rattle.gq_model.specs.machine.Accounts.{leaf_count}
use Rattle.gq_model.specs.machine.Lists.{any_of}
use Rattle.gq_model.specs.rules.Resolve.{Unresolved, leaf_child, sibling, unfit_after, leads_back, is_bad_after, with_name, after_fault}
use Rattle.gq_model.proofs.Small_facts.{some_same, none_some, text_self}
use Rattle.std.proofs.lemmas.Bool.{true≢false, or_parts}
use Rattle.gq_model.proofs.Component_laws.{components_count}

-- LISTS

pub get_left : {A : Type 0} (cs ds : List A) (i : ℕ) (a : A) → slice_get cs i ≡ Some a → slice_get (cs ++ ds) i ≡ Some a
get_left [] ds i a e = absurd (none_some e)
get_left (c ∷ cs) ds zero a e = e
get_left (c ∷ cs) ds (suc i) a e = get_left cs ds i a e

pub get_right : {A : Type 0} (cs ds : List A) (i j : ℕ) (a : A) → j ≡ length cs + i → slice_get ds i ≡ Some a → slice_get (cs ++ ds) j ≡ Some a
get_right [] ds i j a at e = (λ k. slice_get ds (place k)) ∙ e
  where
    place : j ≡ i
    place = omega (arith, at)
get_right (c ∷ cs) ds i zero a at e = absurd (omega (arith, at))
get_right (c ∷ cs) ds i (suc j) a at e = get_right cs ds i j a (omega (arith, at)) e

-- PLACES

-- the leaves of these nodes, in preorder, are the components from the x-th on; `whole` are the start nodes among which these stand
abbrev pub Placed : List Component → Nodes → ℕ → Nodes → Type 0
Placed all whole x End = Unit {0}
Placed all whole x (Leaf_node node rest) =
    ((c : Component) × (slice_get all x ≡ Some c) × (c.node ≡ node) × ((name : List ℕ) → sibling name c.levels ≡ leaf_child name whole))
    × Placed all whole (suc x) rest
Placed all whole x (Init_node node children rest) = Placed all children x children × Placed all whole (x + leaf_count children) rest

-- these components stand in the list from the x-th place on
abbrev Stand : List Component → ℕ → List Component → Type 0
Stand all x cs = (i : ℕ) (c : Component) → slice_get cs i ≡ Some c → (y : ℕ) → y ≡ x + i → slice_get all y ≡ Some c

placed : (all : List Component) (label : List ℕ) (default_routes : Option (List Route)) (siblings : Nodes) (above : List Level) (nodes : Nodes) (x : ℕ)
    → Stand all x (components_of label default_routes siblings above nodes) → Placed all siblings x nodes
placed all label default_routes siblings above End x h = tt
placed all label default_routes siblings above (Leaf_node node rest) x h = (
  (_, h 0 _ refl x (omega arith), refl, λ name. refl),
  placed all label default_routes siblings above rest (suc x) (λ i c e y at. h (suc i) c e y (omega (arith, at))),
)
placed all label default_routes siblings above (Init_node node children rest) x h =
    let inner = components_of (below label node.name) node.default_routes children (level node.routes default_routes siblings ∷ above) children in
    let outer = components_of label default_routes siblings above rest in
    let count = components_count (below label node.name) node.default_routes children (level node.routes default_routes siblings ∷ above) children in (
      placed all (below label node.name) node.default_routes children (level node.routes default_routes siblings ∷ above) children x
          (λ i c e y at. h i c (get_left inner outer i c e) y at),
      placed all label default_routes siblings above rest (x + leaf_count children)
          (λ i c e y at. h (leaf_count children + i) c (get_right inner outer i (leaf_count children + i) c (omega (arith, count)) e) y (omega (arith, at))),
    )

pub all_placed : (s : Scenario) → Placed (components s) s.nodes 0 s.nodes
all_placed s = placed (components s) (codes "init") s.default_routes s.nodes [] s.nodes 0 (λ i c e y at. (λ k. slice_get (components s) (same y i at k)) ∙ e)
  where
    same : (y i : ℕ) → y ≡ 0 + i → y ≡ i
    same y i at = omega (arith, at)

-- WHO STARTS AFTER WHOM

-- a leaf that starts after another has it among its siblings, and fits it; no other leaf starts after the same
pub record StartsAfter (c : Component) (name : List ℕ) : Type 0 where
  pub before : LeafNode
  pub there : sibling name c.levels ≡ Some before
  pub ram : c.node.quantum.ram ≤ before.quantum.ram
  pub caps : c.node.quantum.caps ≤ before.quantum.caps
  -- neither provides a service, and the first has no signals
  pub before_provides : is_some before.provides ≡ false
  pub before_signals : nat_lt 0 before.signals ≡ false
  pub provides : is_some c.node.provides ≡ false

no_less : (a b : ℕ) → nat_lt a b ≡ false → b ≤ a
no_less a b e = elim (leb_tells (suc a) b) [ inl f ↦ absurd (true≢false (sym f.0 ∙ e)) | inr f ↦ omega (arith, f.1) ]

starts_by : (c : Component) (name : List ℕ) (o : Option LeafNode) → sibling name c.levels ≡ o → unfit_after o c.node ≡ false → StartsAfter c name
starts_by c name None there e = absurd cc
starts_by c name (Some before) there e =
    let three = or_parts (is_some before.provides || nat_lt 0 before.signals || is_some c.node.provides || nat_lt before.quantum.ram c.node.quantum.ram)
    (nat_lt before.quantum.caps c.node.quantum.caps) e in
    let two = or_parts (is_some before.provides || nat_lt 0 before.signals || is_some c.node.provides) (nat_lt before.quantum.ram c.node.quantum.ram) three.0 in
    let one = or_parts (is_some before.provides || nat_lt 0 before.signals) (is_some c.node.provides) two.0 in
    let first = or_parts (is_some before.provides) (nat_lt 0 before.signals) one.0 in
    record {
      before = before;
      there = there;
      ram = no_less before.quantum.ram c.node.quantum.ram two.1;
      caps = no_less before.quantum.caps c.node.quantum.caps three.1;
      before_provides = first.0;
      before_signals = first.1;
      provides = one.1;
    }

bad_by : (all : List Component) (earlier : List (List ℕ)) (c : Component) (name : List ℕ) → c.node.after ≡ Some name
    → is_bad_after all earlier c c.node.after ≡ false → StartsAfter c name × (any_of (text_eq name) earlier ≡ false)
bad_by all earlier c name after e =
    let f = ap (is_bad_after all earlier c) (sym after) ∙ e in
    let two = or_parts (unfit_after (sibling name c.levels) c.node || any_of (text_eq name) earlier)
    (leads_back (length all) all c.node.name (Some name)) f in
    let one = or_parts (unfit_after (sibling name c.levels) c.node) (any_of (text_eq name) earlier) two.0 in
    (starts_by c name (sibling name c.levels) refl one.0, one.1)

-- without a fault, no component is bad
module _ (all : List Component) where
  first_of_after : (b : Bool) (why : Unresolved) (rest : Option Unresolved) → cond b (Some why) rest ≡ None → (b ≡ false) × (rest ≡ None)
  first_of_after true why rest e = absurd cc
  first_of_after false why rest e = (refl, e)

  pub starts_after : (earlier : List (List ℕ)) (cs : List Component) → after_fault all earlier cs ≡ None → (i : ℕ) (c : Component) (name : List ℕ)
      → slice_get cs i ≡ Some c → c.node.after ≡ Some name → StartsAfter c name × (any_of (text_eq name) earlier ≡ false)
  starts_after earlier [] h i c name e after = absurd (none_some e)
  starts_after earlier (b ∷ cs) h zero c name e after =
      let here = first_of_after (is_bad_after all earlier b b.node.after) _ _ h in
      subst (λ c. c.node.after ≡ Some name → StartsAfter c name × (any_of (text_eq name) earlier ≡ false)) (some_same e)
      (λ after. bad_by all earlier b name after here.0) after
  starts_after earlier (b ∷ cs) h (suc i) c name e after =
      let here = first_of_after (is_bad_after all earlier b b.node.after) _ _ h in
      let u = starts_after (with_name b.node.after earlier) cs here.1 i c name e after in
      (u.0, fewer b.node.after u.1)
    where
      fewer : (o : Option (List ℕ)) → any_of (text_eq name) (with_name o earlier) ≡ false → any_of (text_eq name) earlier ≡ false
      fewer None f = f
      fewer (Some other) f = (or_parts (text_eq name other) (any_of (text_eq name) earlier) f).1

  -- two that start after the same are one
  pub not_again : (earlier : List (List ℕ)) (cs : List Component) → after_fault all earlier cs ≡ None → (i j : ℕ) (c d : Component) (name : List ℕ)
      → slice_get cs i ≡ Some c → slice_get cs j ≡ Some d → c.node.after ≡ Some name → d.node.after ≡ Some name → i < j → ⊥
  not_again earlier [] h i j c d name e f a b less = none_some e
  not_again earlier (k ∷ cs) h zero zero c d name e f a b less = omega (arith, less)
  not_again earlier (k ∷ cs) h zero (suc j) c d name e f a b less =
      let here = first_of_after (is_bad_after all earlier k k.node.after) _ _ h in
      let u = starts_after (with_name k.node.after earlier) cs here.1 j d name f b in
      let named = ap (λ (c : Component). c.node.after) (some_same e) ∙ a in
      let twice = (or_parts (text_eq name name) (any_of (text_eq name) earlier) (ap (λ o. any_of (text_eq name) (with_name o earlier)) (sym named) ∙ u.1)).0
      in
      true≢false (sym (text_self name) ∙ twice)
  not_again earlier (k ∷ cs) h (suc i) zero c d name e f a b less = omega (arith, less)
  not_again earlier (k ∷ cs) h (suc i) (suc j) c d name e f a b less =
      let here = first_of_after (is_bad_after all earlier k k.node.after) _ _ h in
      not_again (with_name k.node.after earlier) cs here.1 i j c d name e f a b (omega (arith, less))

  -- and none is led back to by the names after which it starts
  pub never_back : (earlier : List (List ℕ)) (cs : List Component) → after_fault all earlier cs ≡ None → (i : ℕ) (c : Component) (name : List ℕ)
      → slice_get cs i ≡ Some c → c.node.after ≡ Some name → leads_back (length all) all c.node.name (Some name) ≡ false
  never_back earlier [] h i c name e after = absurd (none_some e)
  never_back earlier (b ∷ cs) h zero c name e after =
      let here = first_of_after (is_bad_after all earlier b b.node.after) _ _ h in
      let same = some_same e in
      let f = ap (is_bad_after all earlier b) (sym (ap (λ (c : Component). c.node.after) same ∙ after)) ∙ here.0 in
      ap (λ (c : Component). leads_back (length all) all c.node.name (Some name)) (sym same)
      ∙ (or_parts (unfit_after (sibling name b.levels) b.node || any_of (text_eq name) earlier) (leads_back (length all) all b.node.name (Some name)) f).1
  never_back earlier (b ∷ cs) h (suc i) c name e after =
      let here = first_of_after (is_bad_after all earlier b b.node.after) _ _ h in never_back (with_name b.node.after earlier) cs here.1 i c name e after
