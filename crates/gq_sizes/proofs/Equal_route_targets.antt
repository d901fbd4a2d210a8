-- Where quanta alone differ, services lead to the same leaves.
use Rattle.std.proofs.Common.{◌≡◌, ℕ, suc, List, [], ◌∷◌, ◌++◌, Option, Some, None, refl, ap, sym, ◌∙◌, subst}
use Rattle.std.specs.Prelude.{if◌then◌else◌}
use Rattle.gq_model.specs.machine.Program.{text_eq}
use Rattle.gq_model.specs.machine.Scenario.{LeafNode, InitNode, Nodes, End, Leaf_node, Init_node, Level, Component, System, Route, Target, Child, Any_child}
use Rattle.gq_model.specs.machine.Scenario.{Parent}
use Rattle.gq_model.specs.machine.Scenario.{components_of, level, first_there, below}
use Rattle.gq_model.specs.machine.Routes.{Routed, To, No_route, Ambiguous, Provides_differs, is_service, fits, offer_of, through, child_named, offered}
use Rattle.gq_model.specs.machine.Routes.{providers, only, led, first_fit, route, numbered}
use Rattle.gq_model.specs.machine.Routes.{leaf_routed, server_of}
use Rattle.gq_sizes.specs.Unsized_equality.{NodesAsOne, LevelsAsOne, ComponentsAsOne, AllComponents}

-- COMPONENTS

both_components : (us vs ws xs : List Component) → AllComponents us vs → AllComponents ws xs → AllComponents (us ++ ws) (vs ++ xs)
both_components [] [] ws xs h k = k
both_components [] (v ∷ vs) ws xs h k = absurd h
both_components (u ∷ us) [] ws xs h k = absurd h
both_components (u ∷ us) (v ∷ vs) ws xs h k = (h.0, both_components us vs ws xs h.1 k)

pub components_so : (label : List ℕ) (default_routes : Option (List Route)) (siblings others : Nodes) (above more : List Level) (ms ns : Nodes)
    → NodesAsOne siblings others → LevelsAsOne above more → NodesAsOne ms ns
    → AllComponents (components_of label default_routes siblings above ms) (components_of label default_routes others more ns)
components_so label dr siblings others above more End End s a h = tt
components_so label dr siblings others above more End (Leaf_node n ns) s a h = absurd h
components_so label dr siblings others above more End (Init_node n cs ns) s a h = absurd h
components_so label dr siblings others above more (Leaf_node m ms) End s a h = absurd h
components_so label dr siblings others above more (Leaf_node m ms) (Init_node n cs ns) s a h = absurd h
components_so label dr siblings others above more (Leaf_node m ms) (Leaf_node n ns) s a h = (
  record {
    label = ap (λ (k : LeafNode). below label k.name) (sym h.0);
    node = h.0;
    levels = (ap (λ (k : LeafNode). first_there k.routes dr) (sym h.0), s, a);
  },
  components_so label dr siblings others above more ms ns s a h.1,
)
components_so label dr siblings others above more (Init_node m cs ms) End s a h = absurd h
components_so label dr siblings others above more (Init_node m cs ms) (Leaf_node n ns) s a h = absurd h
components_so label dr siblings others above more (Init_node m cs ms) (Init_node n ds ns) s a h =
    let one : below label n.name ≡ below label m.name = ap (λ (k : InitNode). below label k.name) h.0 in
    let routes : n.default_routes ≡ m.default_routes = ap (λ (k : InitNode). k.default_routes) h.0 in
    let here : LevelsAsOne (level m.routes dr siblings ∷ above) (level n.routes dr others ∷ more) = (
      ap (λ (k : InitNode). first_there k.routes dr) (sym h.0),
      s,
      a,
    ) in
    let inner = components_so (below label m.name) m.default_routes cs ds (level m.routes dr siblings ∷ above) (level n.routes dr others ∷ more) cs ds h.1
    here h.1 in
    both_components (components_of (below label m.name) m.default_routes cs (level m.routes dr siblings ∷ above) cs) _ _ _
    (subst (λ (l : List ℕ). AllComponents (components_of (below label m.name) m.default_routes cs (level m.routes dr siblings ∷ above) cs)
    (components_of l n.default_routes ds (level n.routes dr others ∷ more) ds)) (sym one)
    (subst (λ (r : Option (List Route)). AllComponents (components_of (below label m.name) m.default_routes cs (level m.routes dr siblings ∷ above) cs)
    (components_of (below label m.name) r ds (level n.routes dr others ∷ more) ds)) (sym routes) inner))
    (components_so label dr siblings others above more ms ns s a h.2)

-- ROUTES

child_so : (name service : List ℕ) (ms ns : Nodes) → NodesAsOne ms ns → child_named name service ms ≡ child_named name service ns
child_so name service End End h = refl
child_so name service End (Leaf_node n ns) h = absurd h
child_so name service End (Init_node n cs ns) h = absurd h
child_so name service (Leaf_node m ms) End h = absurd h
child_so name service (Leaf_node m ms) (Init_node n cs ns) h = absurd h
child_so name service (Leaf_node m ms) (Leaf_node n ns) h =
    (λ i. if◌then◌else◌ (text_eq name (sym h.0 i).name) (if◌then◌else◌ (is_service (sym h.0 i).provides service) (To name) Provides_differs)
    (child_so name service ms ns h.1 i))
child_so name service (Init_node m cs ms) End h = absurd h
child_so name service (Init_node m cs ms) (Leaf_node n ns) h = absurd h
child_so name service (Init_node m cs ms) (Init_node n ds ns) h =
    (λ i. if◌then◌else◌ (text_eq name (sym h.0 i).name)
    (through (offer_of (sym h.0 i).offers service) (λ child. child_so child service cs ds h.1 i)) (child_so name service ms ns h.2 i))

offered_so : (offer : Option (List ℕ)) (service : List ℕ) (ms ns : Nodes) → NodesAsOne ms ns → offered offer service ms ≡ offered offer service ns
offered_so None service ms ns h = refl
offered_so (Some child) service ms ns h = ap (λ (served : Routed). served ∷ []) (child_so child service ms ns h)

providers_so : (service : List ℕ) (ms ns : Nodes) → NodesAsOne ms ns → providers service ms ≡ providers service ns
providers_so service End End h = refl
providers_so service End (Leaf_node n ns) h = absurd h
providers_so service End (Init_node n cs ns) h = absurd h
providers_so service (Leaf_node m ms) End h = absurd h
providers_so service (Leaf_node m ms) (Init_node n cs ns) h = absurd h
providers_so service (Leaf_node m ms) (Leaf_node n ns) h =
    (λ i. (if◌then◌else◌ (is_service (sym h.0 i).provides service) (To (sym h.0 i).name ∷ []) []) ++ providers_so service ms ns h.1 i)
providers_so service (Init_node m cs ms) End h = absurd h
providers_so service (Init_node m cs ms) (Leaf_node n ns) h = absurd h
providers_so service (Init_node m cs ms) (Init_node n ds ns) h =
    (λ i. offered_so (offer_of (sym h.0 i).offers service) service cs ds h.1 i ++ providers_so service ms ns h.2 i)

led_so : (target : Target) (service : List ℕ) (ms ns : Nodes) (a b : Routed) → NodesAsOne ms ns → a ≡ b → led target service ms a ≡ led target service ns b
led_so (Child name) service ms ns a b h e = child_so name service ms ns h
led_so Any_child service ms ns a b h e = ap only (providers_so service ms ns h)
led_so Parent service ms ns a b h e = e

fit_so : (routes : List Route) (service : List ℕ) (ms ns : Nodes) (a b : Routed) → NodesAsOne ms ns → a ≡ b
    → first_fit routes service ms a ≡ first_fit routes service ns b
fit_so [] service ms ns a b h e = refl
fit_so (r ∷ routes) service ms ns a b h e =
    (λ i. if◌then◌else◌ (fits r.service service) (led_so r.target service ms ns a b h e i) (fit_so routes service ms ns a b h e i))

pub route_so : (service : List ℕ) (ls ms : List Level) → LevelsAsOne ls ms → route ls service ≡ route ms service
route_so service [] [] h = refl
route_so service [] (m ∷ ms) h = absurd h
route_so service (l ∷ ls) [] h = absurd h
route_so service (l ∷ ls) (m ∷ ms) h =
    fit_so l.routes service l.siblings m.siblings (route ls service) (route ms service) h.1 (route_so service ls ms h.2)
    ∙ ap (λ r. first_fit r service m.siblings (route ms service)) h.0

numbered_so : (n : ℕ) (name : List ℕ) (cs ds : List Component) → AllComponents cs ds → numbered n name cs ≡ numbered n name ds
numbered_so n name [] [] h = refl
numbered_so n name [] (d ∷ ds) h = absurd h
numbered_so n name (c ∷ cs) [] h = absurd h
numbered_so n name (c ∷ cs) (d ∷ ds) h =
    (λ i. if◌then◌else◌ (text_eq name (sym h.0.node i).name) (Some n) (numbered_so (suc n) name cs ds h.1 i))

routed_so : (r : Routed) (cs ds : List Component) → AllComponents cs ds → leaf_routed r cs ≡ leaf_routed r ds
routed_so (To name) cs ds h = numbered_so 0 name cs ds h
routed_so No_route cs ds h = refl
routed_so Ambiguous cs ds h = refl
routed_so Provides_differs cs ds h = refl

pub server_so : (all others : System) (c d : Component) (service : List ℕ) → AllComponents all.components others.components → ComponentsAsOne c d
    → server_of all c service ≡ server_of others d service
server_so all others c d service h o =
    routed_so (route c.levels service) all.components others.components h
    ∙ ap (λ r. leaf_routed r others.components) (route_so service c.levels d.levels o.levels)
