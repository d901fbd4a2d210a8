-- A service leads to a leaf of the same scenario.
use Rattle.std.proofs.Common.{◌≡◌, ℕ, zero, suc, Bool, true, false, ◌||◌, ◌⊎◌, inl, inr, cond, List, [], ◌∷◌, ◌++◌, Option, Some, None, refl, ap, subst}
use Rattle.std.proofs.Common.{◌∙◌, codes}
use Rattle.std.specs.Prelude.{slice_get, is_some}
use Rattle.gq_model.specs.machine.Lists.{any_of}
use Rattle.gq_model.specs.machine.Program.{text_eq}
use Rattle.gq_model.specs.machine.Scenario.{Target, Child, Any_child, Parent, Route, Nodes, End, Leaf_node, Init_node, Level, Component, Scenario, below, level}
use Rattle.gq_model.specs.machine.Scenario.{components_of, components}
use Rattle.gq_model.specs.machine.Routes.{Routed, To, Provides_differs, is_service, fits, offer_of, through, child_named, offered, providers}
use Rattle.gq_model.specs.machine.Routes.{only, led, first_fit, route, numbered, leaf_routed}
use Rattle.gq_model.specs.rules.Resolve.{unrouted, services_fault, routes_fault}
use Rattle.gq_model.specs.rules.Use.{services}
use Rattle.gq_scenario.proofs.Table_key_lookup.{text_eq-same}
use Rattle.std.proofs.lemmas.Bool.{or_right, or_left}
use Rattle.gq_model.proofs.Small_facts.{or_first_none, text_is}
use Rattle.gq_model.proofs.Component_laws.{leads_to}

or_more : (a b c : Bool) → (b ≡ true → c ≡ true) → (a || b) ≡ true → (a || c) ≡ true
or_more true b c more h = refl
or_more false b c more h = more h

or_either : (a b c : Bool) → (a ≡ true → c ≡ true) → (b ≡ true → c ≡ true) → (a || b) ≡ true → c ≡ true
or_either true b c first second h = first refl
or_either false b c first second h = second h

-- CHILDREN

-- one of these nodes, or of those below them, is a leaf of this name
abbrev is_leaf : List ℕ → Nodes → Bool
is_leaf name End = false
is_leaf name (Leaf_node node rest) = text_eq name node.name || is_leaf name rest
is_leaf name (Init_node node children rest) = is_leaf name children || is_leaf name rest

child_here : (name m own : List ℕ) (b ok : Bool) (other : Routed) (rest : Bool) → text_eq name own ≡ b → (other ≡ To m → rest ≡ true)
    → cond b (cond ok (To name) Provides_differs) other ≡ To m
    → (text_eq m own || rest) ≡ true
child_here name m own true true other rest e more h = let same : m ≡ name = cc in or_left (text_eq m own) rest (ap (λ n. text_eq n own) same ∙ e)
child_here name m own true false other rest e more h = cc
child_here name m own false ok other rest e more h = or_right (text_eq m own) rest (more h)

child_inside : (offer : Option (List ℕ)) (service m : List ℕ) (children : Nodes) (inner : Bool)
    → ((child : List ℕ) → child_named child service children ≡ To m → inner ≡ true)
    → through offer (λ child. child_named child service children) ≡ To m → inner ≡ true
child_inside None service m children inner below h = cc
child_inside (Some child) service m children inner below h = below child h

child_other : (b : Bool) (m : List ℕ) (led other : Routed) (inner rest : Bool) → (led ≡ To m → inner ≡ true) → (other ≡ To m → rest ≡ true)
    → cond b led other ≡ To m → (inner || rest) ≡ true
child_other true m led other inner rest below more h = or_left inner rest (below h)
child_other false m led other inner rest below more h = or_right inner rest (more h)

child_leads : (name service m : List ℕ) (nodes : Nodes) → child_named name service nodes ≡ To m → is_leaf m nodes ≡ true
child_leads name service m End h = cc
child_leads name service m (Leaf_node node rest) h =
    child_here name m node.name (text_eq name node.name) (is_service node.provides service) (child_named name service rest) (is_leaf m rest) refl
    (child_leads name service m rest) h
child_leads name service m (Init_node node children rest) h =
    child_other (text_eq name node.name) m (through (offer_of node.offers service) (λ child. child_named child service children))
    (child_named name service rest) (is_leaf m children) (is_leaf m rest)
    (child_inside (offer_of node.offers service) service m children (is_leaf m children) (λ child g. child_leads child service m children g))
    (child_leads name service m rest) h

-- one of these leads to the leaf of this name
abbrev AnyLeads : List ℕ → List Routed → Type 0
AnyLeads m [] = ⊥
AnyLeads m (served ∷ rest) = (served ≡ To m) ⊎ AnyLeads m rest

any_first : (m : List ℕ) (first rest : List Routed) (a b : Bool) → (AnyLeads m first → a ≡ true) → (AnyLeads m rest → b ≡ true)
    → AnyLeads m (first ++ rest) → (a || b) ≡ true
any_first m [] rest a b here more h = or_right a b (more h)
any_first m (served ∷ first) rest a b here more (inl e) = or_left a b (here (inl e))
any_first m (served ∷ first) rest a b here more (inr h) = any_first m first rest a b (λ g. here (inr g)) more h

own_leads : (b : Bool) (m own : List ℕ) → AnyLeads m (cond b (To own ∷ []) []) → text_eq m own ≡ true
own_leads true m own (inl e) = let same : m ≡ own = cc in text_eq-same m own same
own_leads true m own (inr h) = absurd h
own_leads false m own h = absurd h

offer_leads : (offer : Option (List ℕ)) (service m : List ℕ) (children : Nodes) → AnyLeads m (offered offer service children) → is_leaf m children ≡ true
offer_leads None service m children h = absurd h
offer_leads (Some child) service m children (inl e) = child_leads child service m children e
offer_leads (Some child) service m children (inr h) = absurd h

provider_leaf : (service m : List ℕ) (nodes : Nodes) → AnyLeads m (providers service nodes) → is_leaf m nodes ≡ true
provider_leaf service m End h = absurd h
provider_leaf service m (Leaf_node node rest) h =
    any_first m (cond (is_service node.provides service) (To node.name ∷ []) []) (providers service rest) (text_eq m node.name) (is_leaf m rest)
    (own_leads (is_service node.provides service) m node.name) (provider_leaf service m rest) h
provider_leaf service m (Init_node node children rest) h =
    any_first m (offered (offer_of node.offers service) service children) (providers service rest) (is_leaf m children) (is_leaf m rest)
    (offer_leads (offer_of node.offers service) service m children) (provider_leaf service m rest) h

only_one : (all_served : List Routed) (m : List ℕ) → only all_served ≡ To m → AnyLeads m all_served
only_one [] m h = cc
only_one (served ∷ []) m h = inl h
only_one (served ∷ other ∷ rest) m h = cc

led_leads : (target : Target) (service m : List ℕ) (siblings : Nodes) (above : Routed) (found : Bool) → (is_leaf m siblings ≡ true → found ≡ true)
    → (above ≡ To m → found ≡ true)
    → led target service siblings above ≡ To m → found ≡ true
led_leads (Child name) service m siblings above found here up h = here (child_leads name service m siblings h)
led_leads Any_child service m siblings above found here up h = here (provider_leaf service m siblings (only_one (providers service siblings) m h))
led_leads Parent service m siblings above found here up h = up h

fit_leads : (b : Bool) (m : List ℕ) (one other : Routed) (found : Bool) → (one ≡ To m → found ≡ true) → (other ≡ To m → found ≡ true) → cond b one other ≡ To m
    → found ≡ true
fit_leads true m one other found first more h = first h
fit_leads false m one other found first more h = more h

first_leads : (routes : List Route) (service m : List ℕ) (siblings : Nodes) (above : Routed) (found : Bool) → (is_leaf m siblings ≡ true → found ≡ true)
    → (above ≡ To m → found ≡ true)
    → first_fit routes service siblings above ≡ To m → found ≡ true
first_leads [] service m siblings above found here up h = cc
first_leads (r ∷ routes) service m siblings above found here up h =
    fit_leads (fits r.service service) m (led r.target service siblings above) (first_fit routes service siblings above) found
    (led_leads r.target service m siblings above found here up) (first_leads routes service m siblings above found here up) h

-- LEVELS

-- the leaves at these levels are among the components
abbrev AreAmong : List Component → List Level → Type 0
AreAmong all [] = Unit {0}
AreAmong all (l ∷ above) = ((m : List ℕ) → is_leaf m l.siblings ≡ true → any_of (λ c. text_eq m c.node.name) all ≡ true) × AreAmong all above

route_leads : (all : List Component) (levels : List Level) (service m : List ℕ) → AreAmong all levels → route levels service ≡ To m
    → any_of (λ c. text_eq m c.node.name) all ≡ true
route_leads all [] service m good h = cc
route_leads all (l ∷ above) service m good h =
    first_leads l.routes service m l.siblings (route above service) (any_of (λ c. text_eq m c.node.name) all) (good.0 m)
    (route_leads all above service m good.1) h

abbrev EachAmong : List Component → List Component → Type 0
EachAmong all [] = Unit {0}
EachAmong all (c ∷ rest) = AreAmong all c.levels × EachAmong all rest

each_append : (all a b : List Component) → EachAmong all a → EachAmong all b → EachAmong all (a ++ b)
each_append all [] b h k = k
each_append all (c ∷ a) b h k = (h.0, each_append all a b h.1 k)

any_left : (test : Component → Bool) (a b : List Component) → any_of test a ≡ true → any_of test (a ++ b) ≡ true
any_left test [] b h = cc
any_left test (c ∷ a) b h = or_more (test c) (any_of test a) (any_of test (a ++ b)) (any_left test a b) h

any_right : (test : Component → Bool) (a b : List Component) → any_of test b ≡ true → any_of test (a ++ b) ≡ true
any_right test [] b h = h
any_right test (c ∷ a) b h = or_right (test c) (any_of test (a ++ b)) (any_right test a b h)

leaf_named : (label : List ℕ) (d : Option (List Route)) (siblings : Nodes) (above : List Level) (nodes : Nodes) (m : List ℕ) → is_leaf m nodes ≡ true
    → any_of (λ c. text_eq m c.node.name) (components_of label d siblings above nodes) ≡ true
leaf_named label d siblings above End m h = h
leaf_named label d siblings above (Leaf_node node rest) m h =
    or_more (text_eq m node.name) (is_leaf m rest) (any_of (λ c. text_eq m c.node.name) (components_of label d siblings above rest))
    (leaf_named label d siblings above rest m) h
leaf_named label d siblings above (Init_node node children rest) m h =
    let low = components_of (below label node.name) node.default_routes children (level node.routes d siblings ∷ above) children in
    let high = components_of label d siblings above rest in
    or_either (is_leaf m children) (is_leaf m rest) (any_of (λ c. text_eq m c.node.name) (low ++ high))
    (λ g. any_left (λ c. text_eq m c.node.name) low high
    (leaf_named (below label node.name) node.default_routes children (level node.routes d siblings ∷ above) children m g))
    (λ g. any_right (λ c. text_eq m c.node.name) low high (leaf_named label d siblings above rest m g)) h

module _ (all : List Component) where
  each_among : (label : List ℕ) (d : Option (List Route)) (siblings : Nodes) (above : List Level) (nodes : Nodes) → AreAmong all above
      → ((m : List ℕ) → is_leaf m siblings ≡ true → any_of (λ c. text_eq m c.node.name) all ≡ true)
      → ((m : List ℕ) → any_of (λ c. text_eq m c.node.name) (components_of label d siblings above nodes) ≡ true
      → any_of (λ c. text_eq m c.node.name) all ≡ true)
      → EachAmong all (components_of label d siblings above nodes)
  each_among label d siblings above End good here up = tt
  each_among label d siblings above (Leaf_node node rest) good here up =
      ((here, good), each_among label d siblings above rest good here (λ m h. up m (or_right (text_eq m node.name) _ h)))
  each_among label d siblings above (Init_node node children rest) good here up =
      let low = components_of (below label node.name) node.default_routes children (level node.routes d siblings ∷ above) children in
      let high = components_of label d siblings above rest in
      let inner : (m : List ℕ) → any_of (λ c. text_eq m c.node.name) low ≡ true → any_of (λ c. text_eq m c.node.name) all ≡ true =
      λ m h. up m (any_left (λ c. text_eq m c.node.name) low high h) in
      each_append all low high
      (each_among (below label node.name) node.default_routes children (level node.routes d siblings ∷ above) children (here, good)
      (λ m h. inner m (leaf_named (below label node.name) node.default_routes children (level node.routes d siblings ∷ above) children m h)) inner)
      (each_among label d siblings above rest good here (λ m h. up m (any_right (λ c. text_eq m c.node.name) low high h)))

  among_at : (cs : List Component) (x : ℕ) (c : Component) → EachAmong all cs → slice_get cs x ≡ Some c → AreAmong all c.levels
  among_at [] x c good h = cc
  among_at (d ∷ cs) zero c good h = let same : d ≡ c = cc in subst (λ e. AreAmong all e.levels) same good.0
  among_at (d ∷ cs) (suc x) c good h = among_at cs x c good.1 h

all_among : (s : Scenario) → EachAmong (components s) (components s)
all_among s =
    each_among (components s) (codes "init") s.default_routes s.nodes [] s.nodes tt (leaf_named (codes "init") s.default_routes s.nodes [] s.nodes) (λ m h. h)

-- NUMBERS

number_here : (b : Bool) (n : ℕ) (rest : Option ℕ) (more : Bool) → (more ≡ true → is_some rest ≡ true) → (b || more) ≡ true
    → is_some (cond b (Some n) rest) ≡ true
number_here true n rest more later h = refl
number_here false n rest more later h = later h

has_number : (n : ℕ) (m : List ℕ) (cs : List Component) → any_of (λ c. text_eq m c.node.name) cs ≡ true → is_some (numbered n m cs) ≡ true
has_number n m [] h = h
has_number n m (c ∷ cs) h = number_here (text_eq m c.node.name) n (numbered (suc n) m cs) (any_of (λ c. text_eq m c.node.name) cs) (has_number (suc n) m cs) h

-- SERVICES

service_here : (c : Component) (s service : List ℕ) (b there : Bool) → text_eq service s ≡ b → unrouted c s (route c.levels s) ≡ None
    → (there ≡ true → (m : List ℕ) × (route c.levels service ≡ To m))
    → (b || there) ≡ true → (m : List ℕ) × (route c.levels service ≡ To m)
service_here c s service true there e none later h =
    let led = leads_to c s (route c.levels s) none in (led.0, ap (route c.levels) (text_is service s e) ∙ led.1)
service_here c s service false there e none later h = later h

service_leads : (c : Component) (l : List (List ℕ)) (service : List ℕ) → services_fault c l ≡ None → any_of (text_eq service) l ≡ true → (m : List ℕ)
    × (route c.levels service ≡ To m)
service_leads c [] service h k = cc
service_leads c (s ∷ l) service h k =
    let both = or_first_none (unrouted c s (route c.levels s)) (services_fault c l) h in
    service_here c s service (text_eq service s) (any_of (text_eq service) l) refl both.0 (service_leads c l service both.1) k

fault_at : (cs : List Component) (x : ℕ) (c : Component) → routes_fault cs ≡ None → slice_get cs x ≡ Some c → services_fault c (services c) ≡ None
fault_at [] x c h at = cc
fault_at (d ∷ cs) zero c h at = let same : d ≡ c = cc in
    subst (λ e. services_fault e (services e) ≡ None) same (or_first_none (services_fault d (services d)) (routes_fault cs) h).0
fault_at (d ∷ cs) (suc x) c h at = fault_at cs x c (or_first_none (services_fault d (services d)) (routes_fault cs) h).1 at

-- where no route is at fault, each service that a leaf opens has a server
pub has_server : (s : Scenario) → routes_fault (components s) ≡ None → (x : ℕ) (c : Component) → slice_get (components s) x ≡ Some c → (service : List ℕ)
    → any_of (text_eq service) (services c) ≡ true
    → is_some (leaf_routed (route c.levels service) (components s)) ≡ true
has_server s none x c at service opened =
    let there = service_leads c (services c) service (fault_at (components s) x c none at) opened in
    let named = route_leads (components s) c.levels service there.0 (among_at (components s) (components s) x c (all_among s) at) there.1 in
    ap (λ r. is_some (leaf_routed r (components s))) there.1 ∙ has_number 0 there.0 (components s) named
