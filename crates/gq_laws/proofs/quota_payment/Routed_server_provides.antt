-- The leaf to which a route leads provides the service, where no two leaves have the same name.
use Rattle.std.proofs.Common.{◌≡◌, ℕ, suc, ◌+◌, ◌⊎◌, inl, inr, Bool, true, false, cond, List, [], ◌∷◌, ◌++◌, codes, Option, Some, None, refl, ap, sym}
use Rattle.std.proofs.Common.{◌∙◌, arith}
use Rattle.std.specs.Prelude.{slice_get}
use Rattle.gq_model.specs.machine.Program.{text_eq}
use Rattle.gq_model.specs.machine.Scenario.{Target, Child, Any_child, Parent, Route, LeafNode, Nodes, End, Leaf_node, Init_node, Level, level, below, Component}
use Rattle.gq_model.specs.machine.Scenario.{components_of, components, Scenario, system}
use Rattle.gq_model.specs.machine.Routes.{Routed, To, No_route, Ambiguous, Provides_differs, is_service, fits, offer_of, through, child_named, offered}
use Rattle.gq_model.specs.machine.Routes.{providers, only, led, first_fit, route, numbered, leaf_routed, server_of}
use Rattle.gq_laws.specs.Shapes.{Each}
use Rattle.gq_laws.specs.Names.{NamesDiffer}
use Rattle.gq_model.proofs.Small_facts.{some_same, none_some}
use Rattle.gq_model.proofs.Small_facts.{text_is}
use Rattle.gq_laws.proofs.step_shapes.Whole_worlds.{each_get}

to_same : {a b : List ℕ} → To a ≡ To b → a ≡ b
to_same {a} {b} e = ap name_or e
  where
    name_or : Routed → List ℕ
    name_or (To name) = name
    name_or No_route = []
    name_or Ambiguous = []
    name_or Provides_differs = []

-- LEAVES AMONG NODES AND COMPONENTS

-- the leaf stands among these nodes, or below one
abbrev pub Among : LeafNode → Nodes → Type 0
Among n End = ⊥
Among n (Leaf_node node rest) = (node ≡ n) ⊎ Among n rest
Among n (Init_node node children rest) = Among n children ⊎ Among n rest

-- it is the leaf of one of these components
abbrev pub Holds : LeafNode → List Component → Type 0
Holds n [] = ⊥
Holds n (c ∷ cs) = (c.node ≡ n) ⊎ Holds n cs

holds_left : (n : LeafNode) (cs ds : List Component) → Holds n cs → Holds n (cs ++ ds)
holds_left n [] ds h = absurd h
holds_left n (a ∷ cs) ds (inl e) = inl e
holds_left n (a ∷ cs) ds (inr h) = inr (holds_left n cs ds h)

holds_right : (n : LeafNode) (cs ds : List Component) → Holds n ds → Holds n (cs ++ ds)
holds_right n [] ds h = h
holds_right n (a ∷ cs) ds h = inr (holds_right n cs ds h)

pub holds_at : (n : LeafNode) (cs : List Component) → Holds n cs → (j : ℕ) × (c : Component) × (slice_get cs j ≡ Some c) × (c.node ≡ n)
holds_at n [] h = absurd h
holds_at n (c ∷ cs) (inl e) = (0, c, refl, e)
holds_at n (c ∷ cs) (inr h) = let u = holds_at n cs h in (suc u.0, u.1, u.2, u.3)

each_append : {A : Type 0} (P : A → Type 0) (cs ds : List A) → Each P cs → Each P ds → Each P (cs ++ ds)
each_append P [] ds h k = k
each_append P (a ∷ cs) ds h k = (h.0, each_append P cs ds h.1 k)

-- each leaf among a level's siblings and below them is a component
abbrev pub IsKnown : List Component → Level → Type 0
IsKnown all l = (n : LeafNode) → Among n l.siblings → Holds n all

module _ (all : List Component) where
  direct : (label : List ℕ) (default_routes : Option (List Route)) (siblings : Nodes) (above : List Level) (nodes : Nodes) (n : LeafNode) → Among n nodes
      → Holds n (components_of label default_routes siblings above nodes)
  direct label default_routes siblings above End n h = absurd h
  direct label default_routes siblings above (Leaf_node node rest) n (inl e) = inl e
  direct label default_routes siblings above (Leaf_node node rest) n (inr h) = inr (direct label default_routes siblings above rest n h)
  direct label default_routes siblings above (Init_node node children rest) n (inl h) = holds_left n _ _
      (direct (below label node.name) node.default_routes children (level node.routes default_routes siblings ∷ above) children n h)
  direct label default_routes siblings above (Init_node node children rest) n (inr h) = holds_right n _ _ (direct label default_routes siblings above rest n h)

  known : (label : List ℕ) (default_routes : Option (List Route)) (siblings : Nodes) (above : List Level) (nodes : Nodes)
      → ((n : LeafNode) → Among n siblings → Holds n all) → Each (IsKnown all) above
      → ((n : LeafNode) → Holds n (components_of label default_routes siblings above nodes) → Holds n all)
      → Each (λ c. Each (IsKnown all) c.levels) (components_of label default_routes siblings above nodes)
  known label default_routes siblings above End own up within = tt
  known label default_routes siblings above (Leaf_node node rest) own up within =
      ((own, up), known label default_routes siblings above rest own up (λ n h. within n (inr h)))
  known label default_routes siblings above (Init_node node children rest) own up within =
      let inner = components_of (below label node.name) node.default_routes children (level node.routes default_routes siblings ∷ above) children in
      let further = components_of label default_routes siblings above rest in
      each_append (λ c. Each (IsKnown all) c.levels) inner further
      (known (below label node.name) node.default_routes children (level node.routes default_routes siblings ∷ above) children
      (λ n h. within n (holds_left n inner further (direct (below label node.name) node.default_routes children
      (level node.routes default_routes siblings ∷ above) children n h))) (own, up) (λ n h. within n (holds_left n inner further h)))
      (known label default_routes siblings above rest own up (λ n h. within n (holds_right n inner further h)))

pub all_known : (s : Scenario) → Each (λ c. Each (IsKnown (components s)) c.levels) (components s)
all_known s = known (components s) (codes "init") s.default_routes s.nodes [] s.nodes
    (λ n h. direct (components s) (codes "init") s.default_routes s.nodes [] s.nodes n h) tt (λ n h. h)

-- ROUTES

-- a component's leaf of this name provides the service
pub record Provides (all : List Component) (service name : List ℕ) : Type 0 where
  pub leaf : LeafNode
  pub there : Holds leaf all
  pub is : leaf.name ≡ name
  pub provides : is_service leaf.provides service ≡ true

no_to : {A : Type 0} (name : List ℕ) → No_route ≡ To name → A
no_to name e = absurd cc

differs_to : {A : Type 0} (name : List ℕ) → Provides_differs ≡ To name → A
differs_to name e = absurd cc

ambiguous_to : {A : Type 0} (name : List ℕ) → Ambiguous ≡ To name → A
ambiguous_to name e = absurd cc

module _ (all : List Component) (service : List ℕ) where
  child_provides : (child : List ℕ) (nodes : Nodes) (name : List ℕ) → ((n : LeafNode) → Among n nodes → Holds n all) → child_named child service nodes ≡ To name
      → Provides all service name
  child_provides child End name h e = no_to name e
  child_provides child (Leaf_node node rest) name h e = by (text_eq child node.name) refl e (λ f. child_provides child rest name (λ n m. h n (inr m)) f)
    where
      served : (b : Bool) → is_service node.provides service ≡ b → text_eq child node.name ≡ true → cond b (To child) Provides_differs ≡ To name
          → Provides all service name
      served true p same f = record { leaf = node; there = h node (inl refl); is = sym (text_is child node.name same) ∙ to_same f; provides = p }
      served false p same f = differs_to name f

      by : (b : Bool) → text_eq child node.name ≡ b → cond b (cond (is_service node.provides service) (To child) Provides_differs)
          (child_named child service rest) ≡ To name → (child_named child service rest ≡ To name → Provides all service name) → Provides all service name
      by true same f further = served (is_service node.provides service) refl same f
      by false other f further = further f
  child_provides child (Init_node node children rest) name h e =
      by (text_eq child node.name) e (λ inner f. child_provides inner children name (λ n m. h n (inl m)) f)
      (λ f. child_provides child rest name (λ n m. h n (inr m)) f)
    where
      inside : (offer : Option (List ℕ)) → ((inner : List ℕ) → child_named inner service children ≡ To name → Provides all service name)
          → through offer (λ inner. child_named inner service children) ≡ To name → Provides all service name
      inside None deeper f = differs_to name f
      inside (Some inner) deeper f = deeper inner f

      by : (b : Bool) → cond b (through (offer_of node.offers service) (λ inner. child_named inner service children)) (child_named child service rest) ≡ To name
          → ((inner : List ℕ) → child_named inner service children ≡ To name → Provides all service name)
          → (child_named child service rest ≡ To name → Provides all service name) → Provides all service name
      by true f deeper further = inside (offer_of node.offers service) deeper f
      by false f deeper further = further f

  -- a leaf to which it leads provides the service
  abbrev Leads : Routed → Type 0
  Leads served = (name : List ℕ) → served ≡ To name → Provides all service name

  -- each of them leads to a provider
  abbrev Are : List Routed → Type 0
  Are all_served = Each Leads all_served

  are_providers : (nodes : Nodes) → ((n : LeafNode) → Among n nodes → Holds n all) → Are (providers service nodes)
  are_providers End h = tt
  are_providers (Leaf_node node rest) h = each_append Leads (cond (is_service node.provides service) (To node.name ∷ []) [])
      (providers service rest) (by (is_service node.provides service) refl) (are_providers rest (λ n m. h n (inr m)))
    where
      by : (b : Bool) → is_service node.provides service ≡ b → Are (cond b (To node.name ∷ []) [])
      by true p = (λ name e. record { leaf = node; there = h node (inl refl); is = to_same e; provides = p }, tt)
      by false p = tt
  are_providers (Init_node node children rest) h = each_append Leads (offered (offer_of node.offers service) service children)
      (providers service rest) (by (offer_of node.offers service)) (are_providers rest (λ n m. h n (inr m)))
    where
      by : (offer : Option (List ℕ)) → Are (offered offer service children)
      by None = tt
      by (Some inner) = (λ name e. child_provides inner children name (λ n m. h n (inl m)) e, tt)

  only_provides : (all_served : List Routed) (name : List ℕ) → Are all_served → only all_served ≡ To name → Provides all service name
  only_provides [] name h e = no_to name e
  only_provides (served ∷ []) name h e = h.0 name e
  only_provides (served ∷ other ∷ rest) name h e = ambiguous_to name e

  led_provides : (target : Target) (siblings : Nodes) (above : Routed) (name : List ℕ) → ((n : LeafNode) → Among n siblings → Holds n all)
      → (above ≡ To name → Provides all service name) → led target service siblings above ≡ To name → Provides all service name
  led_provides (Child child) siblings above name h up e = child_provides child siblings name h e
  led_provides Any_child siblings above name h up e = only_provides (providers service siblings) name (are_providers siblings h) e
  led_provides Parent siblings above name h up e = up e

  fit_provides : (routes : List Route) (siblings : Nodes) (above : Routed) (name : List ℕ) → ((n : LeafNode) → Among n siblings → Holds n all)
      → (above ≡ To name → Provides all service name) → first_fit routes service siblings above ≡ To name → Provides all service name
  fit_provides [] siblings above name h up e = no_to name e
  fit_provides (r ∷ routes) siblings above name h up e = by (fits r.service service) e (λ f. fit_provides routes siblings above name h up f)
    where
      by : (b : Bool) → cond b (led r.target service siblings above) (first_fit routes service siblings above) ≡ To name
          → (first_fit routes service siblings above ≡ To name → Provides all service name) → Provides all service name
      by true f further = led_provides r.target siblings above name h up f
      by false f further = further f

  pub route_provides : (levels : List Level) (name : List ℕ) → Each (IsKnown all) levels → route levels service ≡ To name → Provides all service name
  route_provides [] name h e = no_to name e
  route_provides (l ∷ above) name h e = fit_provides l.routes l.siblings (route above service) name h.0 (λ f. route_provides above name h.1 f) e

-- the leaf of that place has that name
pub numbered_name : (k : ℕ) (name : List ℕ) (cs : List Component) (y : ℕ) → numbered k name cs ≡ Some y
    → (i : ℕ) × (c : Component) × (y ≡ k + i) × (slice_get cs i ≡ Some c) × (name ≡ c.node.name)
numbered_name k name [] y e = absurd (none_some e)
numbered_name k name (c ∷ cs) y e = by (text_eq name c.node.name) refl e (λ f. numbered_name (suc k) name cs y f)
  where
    by : (b : Bool) → text_eq name c.node.name ≡ b → cond b (Some k) (numbered (suc k) name cs) ≡ Some y
        → (numbered (suc k) name cs ≡ Some y → (i : ℕ) × (d : Component) × (y ≡ suc k + i) × (slice_get cs i ≡ Some d) × (name ≡ d.node.name))
        → (i : ℕ) × (d : Component) × (y ≡ k + i) × (slice_get (c ∷ cs) i ≡ Some d) × (name ≡ d.node.name)
    by true same f further = let here = some_same f in (0, c, omega (arith, here), refl, text_is name c.node.name same)
    by false other f further = let u = further f in let at = u.2 in (suc u.0, u.1, omega (arith, at), u.3, u.4)

-- a server provides a service
pub server_provides : (s : Scenario) → NamesDiffer s → (x y : ℕ) (c d : Component) (service : List ℕ) → slice_get (components s) x ≡ Some c
    → server_of (system s) c service ≡ Some y → slice_get (components s) y ≡ Some d → is_service d.node.provides service ≡ true
server_provides s differ x y c d service there routed at = by (route c.levels service) refl routed
  where
    by : (r : Routed) → route c.levels service ≡ r → leaf_routed r (components s) ≡ Some y → is_service d.node.provides service ≡ true
    by (To name) e f =
        let p = route_provides (components s) service c.levels name
        (each_get (λ c. Each (IsKnown (components s)) c.levels) (components s) x c (all_known s) there) e in
        let h = holds_at p.leaf (components s) p.there in
        let u = numbered_name 0 name (components s) y f in
        let place = u.2 in
        let found : slice_get (components s) y ≡ Some u.1 = ap (slice_get (components s)) (omega (arith, place)) ∙ u.3 in
        let same_name : h.1.node.name ≡ u.1.node.name = ap (λ (n : LeafNode). n.name) h.3 ∙ (p.is ∙ u.4) in
        let same_place = differ h.0 y h.1 u.1 h.2 found same_name in
        let same : h.1 ≡ d = some_same (sym h.2 ∙ ap (slice_get (components s)) same_place ∙ at) in
        ap (λ (c : Component). is_service c.node.provides service) (sym same) ∙ ap (λ (n : LeafNode). is_service n.provides service) h.3 ∙ p.provides
    by No_route e f = absurd (none_some f)
    by Ambiguous e f = absurd (none_some f)
    by Provides_differs e f = absurd (none_some f)
