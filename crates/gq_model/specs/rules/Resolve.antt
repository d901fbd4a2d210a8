-- What a scenario must be besides its programs: quanta that fit, offers of what is served, leaves that start after others, routes without cycle.
use Rattle.std.specs.Prelude.{ℕ, zero, suc, ◌+◌, nat_lt, nat_le, if◌then◌else◌, Bool, true, false, ◌||◌, ◌&&◌, List, [], ◌∷◌, length}
use Rattle.std.specs.Prelude.{Option, Some, None, is_some, codes}
use Rattle.gq_model.specs.machine.Lists.{any_of, or_first}
use Rattle.gq_model.specs.machine.Amounts.{Resource, Ram, Caps, Amount, part}
use Rattle.gq_model.specs.machine.Program.{text_eq}
use Rattle.gq_model.specs.machine.Scenario.{Scenario, Interfaces, LeafNode, Offers, Nodes, End, Leaf_node, Init_node, Level, Component, System, system}
use Rattle.gq_model.specs.machine.Scenario.{interface_in}
use Rattle.gq_model.specs.machine.Routes.{Routed, To, is_service, offer_of, route}
use Rattle.gq_model.specs.rules.Use.{services, reaches}

-- why a scenario is not resolved, with the init or the leaf
pub data Unresolved : Type 0 where
  Quanta_exceed Caps_exceed Bad_offer Bad_after Cycle : (name : List ℕ) → Unresolved
  Unrouted : (why : Routed) (name service : List ℕ) → Unresolved

-- QUANTA

-- what a leaf is handed at the start: a leaf that waits for another gets nothing
abbrev pub first_handed : Option (List ℕ) → ℕ → ℕ
first_handed None quantum = quantum
first_handed (Some name) quantum = 0

-- what these children are handed at the start
abbrev pub handed_out : Resource → Nodes → ℕ
handed_out r End = 0
handed_out r (Leaf_node node rest) = first_handed node.after (part r node.quantum) + handed_out r rest
handed_out r (Init_node node children rest) = part r node.quantum + handed_out r rest

abbrev pub exceeded : Resource → List ℕ → Unresolved
exceeded Ram name = Quanta_exceed name
exceeded Caps name = Caps_exceed name

-- an init hands out no more than it has
abbrev pub exceeds : Resource → List ℕ → Amount → Nodes → Option Unresolved
exceeds r name quantum children = if nat_le (handed_out r children) (part r quantum) then None else Some (exceeded r name)

-- the first init in preorder that does
abbrev pub first_exceeding : Resource → Nodes → Option Unresolved
first_exceeding r End = None
first_exceeding r (Leaf_node node rest) = first_exceeding r rest
first_exceeding r (Init_node node children rest) =
    or_first (exceeds r node.name node.quantum children) (or_first (first_exceeding r children) (first_exceeding r rest))

abbrev pub quanta_fault : Resource → Scenario → Option Unresolved
quanta_fault r s = or_first (exceeds r (codes "init") s.total s.nodes) (first_exceeding r s.nodes)

-- OFFERS

-- the child of that name serves a service: it is a leaf that provides it, or an init that offers it
abbrev pub child_serves : List ℕ → List ℕ → Nodes → Bool
child_serves name service End = false
child_serves name service (Leaf_node node rest) = if text_eq name node.name then is_service node.provides service else child_serves name service rest
child_serves name service (Init_node node children rest) =
    if text_eq name node.name then is_some (offer_of node.offers service) else child_serves name service rest

-- there is an interface of the service, and the child serves it
abbrev pub is_offer : Interfaces → Nodes → List ℕ → List ℕ → Bool
is_offer interfaces children service child = is_some (interface_in service interfaces) && child_serves child service children

-- the first of an init's offers for which that fails
abbrev pub offers_fault : Interfaces → List ℕ → Nodes → Offers → Option Unresolved
offers_fault interfaces name children [] = None
offers_fault interfaces name children (o ∷ rest) =
    if is_offer interfaces children o.0 o.1 then offers_fault interfaces name children rest else Some (Bad_offer name)

-- the first init in preorder with such an offer
abbrev pub first_bad_offer : Interfaces → Nodes → Option Unresolved
first_bad_offer interfaces End = None
first_bad_offer interfaces (Leaf_node node rest) = first_bad_offer interfaces rest
first_bad_offer interfaces (Init_node node children rest) =
    or_first (offers_fault interfaces node.name children node.offers) (or_first (first_bad_offer interfaces children) (first_bad_offer interfaces rest))

abbrev pub offer_fault : Scenario → Option Unresolved
offer_fault s = first_bad_offer s.interfaces s.nodes

-- LEAVES THAT START AFTER OTHERS

-- the leaf of that name among these nodes
abbrev pub leaf_child : List ℕ → Nodes → Option LeafNode
leaf_child name End = None
leaf_child name (Leaf_node node rest) = if text_eq name node.name then Some node else leaf_child name rest
leaf_child name (Init_node node children rest) = leaf_child name rest

abbrev pub sibling : List ℕ → List Level → Option LeafNode
sibling name [] = None
sibling name (l ∷ above) = leaf_child name l.siblings

-- one of two leaves provides a service, the first has signals, so that it never ends, or the second's quantum is greater
abbrev pub unfit : LeafNode → LeafNode → Bool
unfit before node =
    is_some before.provides || nat_lt 0 before.signals || is_some node.provides || nat_lt before.quantum.ram node.quantum.ram
    || nat_lt before.quantum.caps node.quantum.caps

abbrev pub unfit_after : Option LeafNode → LeafNode → Bool
unfit_after None node = true
unfit_after (Some before) node = unfit before node

-- what the leaf of that name starts after
abbrev pub after_of : List ℕ → List Component → Option (List ℕ)
after_of name [] = None
after_of name (c ∷ rest) = if text_eq name c.node.name then c.node.after else after_of name rest

-- by at most n names that are started after, the goal is reached
abbrev pub leads_back : ℕ → List Component → List ℕ → Option (List ℕ) → Bool
leads_back n components goal None = false
leads_back zero components goal (Some name) = false
leads_back (suc n) components goal (Some name) = text_eq name goal || leads_back n components goal (after_of name components)

-- a leaf starts after a sibling that no earlier leaf starts after, that has enough for it, and not after itself
abbrev pub is_bad_after : List Component → List (List ℕ) → Component → Option (List ℕ) → Bool
is_bad_after all earlier c None = false
is_bad_after all earlier c (Some name) =
    unfit_after (sibling name c.levels) c.node || any_of (text_eq name) earlier || leads_back (length all) all c.node.name (Some name)

abbrev pub with_name : Option (List ℕ) → List (List ℕ) → List (List ℕ)
with_name None names = names
with_name (Some name) names = name ∷ names

-- the first leaf for which that fails
abbrev pub after_fault : List Component → List (List ℕ) → List Component → Option Unresolved
after_fault all earlier [] = None
after_fault all earlier (c ∷ rest) =
    if is_bad_after all earlier c c.node.after then Some (Bad_after c.node.name) else after_fault all (with_name c.node.after earlier) rest

-- ROUTES

-- a service leads to a leaf
abbrev pub unrouted : Component → List ℕ → Routed → Option Unresolved
unrouted c service (To name) = None
unrouted c service why = Some (Unrouted why c.node.name service)

abbrev pub services_fault : Component → List (List ℕ) → Option Unresolved
services_fault c [] = None
services_fault c (service ∷ rest) = or_first (unrouted c service (route c.levels service)) (services_fault c rest)

-- the first leaf with an open statement whose service does not
abbrev pub routes_fault : List Component → Option Unresolved
routes_fault [] = None
routes_fault (c ∷ rest) = or_first (services_fault c (services c)) (routes_fault rest)

-- the first leaf from the x-th on that reaches itself
abbrev pub cycle_fault : System → ℕ → List Component → Option Unresolved
cycle_fault system x [] = None
cycle_fault system x (c ∷ rest) =
    if reaches (length system.components) system x x then Some (Cycle c.node.name) else cycle_fault system (suc x) rest

-- the first of these faults in this order
abbrev pub unresolved : Scenario → Option Unresolved
unresolved s =
    let all = system s in
    or_first (quanta_fault Ram s) (or_first (quanta_fault Caps s) (or_first (offer_fault s) (or_first (after_fault all.components [] all.components)
    (or_first (routes_fault all.components) (cycle_fault all 0 all.components)))))
