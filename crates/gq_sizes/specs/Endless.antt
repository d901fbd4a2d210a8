-- Where no number of capabilities is enough: sessions that hold one another without end.
use Rattle.std.specs.Prelude.{◌≡◌, ℕ, zero, suc, ◌+◌, ◌≤◌, Bool, false, ◌&&◌, ◌||◌, if◌then◌else◌, List, [], ◌∷◌, length}
use Rattle.std.specs.Prelude.{Option, Some, None, is_some, slice_get, true}
use Rattle.gq_model.specs.declared.section.Section.{Section}
use Rattle.gq_model.specs.declared.section.Section.TheVariants.{Main}
use Rattle.gq_model.specs.machine.Accounts.{leaf_count}
use Rattle.gq_model.specs.machine.Lists.{any_of}
use Rattle.gq_model.specs.machine.Program.{Statements}
use Rattle.gq_model.specs.machine.Scenario.{Interface, Interfaces, Nodes, End, Leaf_node, Init_node, Component, Scenario, System, interface_in, system}
use Rattle.gq_model.specs.rules.Kinds.{Kind, Link_kind, AbstractState, Subject}
use Rattle.gq_model.specs.rules.Use.{subject}
use Rattle.gq_sizes.specs.Size.{is_named, is_up_to, rounds, section_points, starts_after}
use Rattle.gq_scenario.specs.Without_quantities.{unsized}
use Rattle.gq_model.specs.machine.Amounts.{counts_caps}

-- INTERFACES

-- a test of sessions, by their service and level
abbrev pub Test : Type 0
Test = List ℕ → ℕ → Bool

-- what passes is the session of a link
abbrev pub leads : Test → Kind → Bool
leads test (Link_kind service level a) = test service level
leads test kind = false

-- at some point a session of a level up to l of this leaf holds one that passes
abbrev pub leaf_holds : Test → Subject → ℕ → Bool
leaf_holds test v l =
    any_of (λ (p : Section × Statements). is_up_to l p.0 && any_of (λ (s : AbstractState). any_of (leads test) s.bank) (section_points v p.0))
    v.program.sections

-- at some point a session of a service and a level holds one that passes
abbrev pub holds : Test → System → Test
holds test all service l = any_of (λ (c : Component). is_named service c.node.provides && leaf_holds test (subject all c) l) all.components

-- a session of a service and a level is the first of a chain of n more, each held by the one before it
abbrev pub goes_on : ℕ → System → Test
goes_on zero all service l = is_some (interface_in service all.interfaces)
goes_on (suc n) all service l = is_some (interface_in service all.interfaces) && holds (goes_on n all) all service l

-- Each service has at most four levels. A chain with more sessions than all levels of all services comes to one level of one service twice, so it has no end.
abbrev pub is_endless : System → Test
is_endless all = goes_on (rounds all) all

-- LEAVES AND INITS

-- at some point of `main` a slot of the leaf's own has a link to such a session
abbrev pub own_endless : System → Subject → Bool
own_endless all v = any_of (λ (s : AbstractState). any_of (leads (is_endless all)) s.own) (section_points v Main)

abbrev pub passes : (Component → Bool) → Option Component → Bool
passes test None = false
passes test (Some c) = test c

-- so it is with a leaf, or with one that starts after it, along at most n starts
abbrev pub leaf_endless : ℕ → System → Component → Bool
leaf_endless zero all c = own_endless all (subject all c)
leaf_endless (suc n) all c = own_endless all (subject all c) || passes (leaf_endless n all) (starts_after c.node.name all.components)

abbrev pub endless_at : System → ℕ → Bool
endless_at all x = passes (leaf_endless (length all.components) all) (slice_get all.components x)

abbrev pub at_start : Option (List ℕ) → Bool → Bool
at_start None endless = endless
at_start (Some name) endless = false

-- so it is with one of these children that starts at the start, of which the first leaf is the x-th
abbrev pub children_endless : System → ℕ → Nodes → Bool
children_endless all x End = false
children_endless all x (Leaf_node node rest) = at_start node.after (endless_at all x) || children_endless all (suc x) rest
children_endless all x (Init_node node children rest) = children_endless all x children || children_endless all (x + leaf_count children) rest

-- SCENARIOS

-- sessions of each interface end, at each level that it has: none holds one that holds another, and so on without end
abbrev pub SessionsEnd : Scenario → Type 0
SessionsEnd s = (service : List ℕ) (i : Interface) (l : ℕ) → interface_in service s.interfaces ≡ Some i → l ≤ length i.upgrades
    → is_endless (system (unsized s)) service l ≡ false

-- sessions of a service do not end, at some level that its interface has
pub record IsWithoutEnd (s : Scenario) (service : List ℕ) : Type 0 where
  pub interface : Interface
  pub level : ℕ
  pub declared : interface_in service s.interfaces ≡ Some interface
  pub within : level ≤ length interface.upgrades
  pub endless : is_endless (system (unsized s)) service level ≡ true

-- so it is at one of the levels up to one
abbrev pub endless_up_to : System → List ℕ → ℕ → Bool
endless_up_to all service zero = is_endless all service 0
endless_up_to all service (suc l) = is_endless all service (suc l) || endless_up_to all service l

-- the first service of which it is so at a level that its interface has
abbrev pub first_endless : System → Interfaces → Option (List ℕ)
first_endless all [] = None
first_endless all (e ∷ rest) = if endless_up_to all e.0 (length e.1.upgrades) then Some e.0 else first_endless all rest

-- enough capabilities can be given for sessions of each interface, at each level that it has
abbrev pub HaveEnds : Scenario → Type 0
HaveEnds s = counts_caps s.version ≡ true → SessionsEnd s

-- and to each of these nodes, of which the first leaf is the x-th
abbrev pub NodesEnd : System → ℕ → Nodes → Type 0
NodesEnd all x End = Unit {0}
NodesEnd all x (Leaf_node node rest) = (endless_at all x ≡ false) × NodesEnd all (suc x) rest
NodesEnd all x (Init_node node children rest) =
    (children_endless all x children ≡ false) × NodesEnd all x children × NodesEnd all (x + leaf_count children) rest

-- none of the least capabilities is none: of an interface at a level that it has, of a leaf, of an init, of the root
pub record NoneEndless (s : Scenario) : Type 0 where
  pub interfaces : HaveEnds s
  pub root : counts_caps s.version ≡ true → children_endless (system (unsized s)) 0 s.nodes ≡ false
  pub nodes : counts_caps s.version ≡ true → NodesEnd (system (unsized s)) 0 s.nodes
