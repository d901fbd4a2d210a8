-- Scenarios that differ in quantities alone: what is known of slots is the same but for what was given for a link.
use Rattle.std.specs.Prelude.{◌≡◌, ℕ, ◌≤◌, List, [], ◌∷◌, length, Option, Some, None, Ok, slice_index_or}
use Rattle.gq_model.specs.machine.Amounts.{Amount, amount}
use Rattle.gq_model.specs.declared.program.Instruction.{Instruction}
use Rattle.gq_model.specs.declared.program.Instruction.TheVariants.{Open, Upgrade}
use Rattle.gq_model.specs.machine.Scenario.{Interface, Interfaces, interface_in, number_of}
use Rattle.gq_model.specs.machine.Scenario.{LeafNode, InitNode, Nodes, End, Leaf_node, Init_node, Level, Component, Scenario}
use Rattle.gq_model.specs.rules.Kinds.{Kind, Empty_kind, Memory, Pool_kind, Link_kind, AbstractState, Subject, Context, inside, kind_at, need_of}
use Rattle.gq_model.specs.machine.Program.{Statements, Done, Do, If, Loop}
use Rattle.gq_model.specs.rules.Rules.{judged, link_kind, within_need}
use Rattle.gq_model.specs.rules.Flow.{at, flow, state_or}

-- INTERFACES

-- two interfaces differ in quantities alone
pub record AreAsOne (i j : Interface) : Type 0 where
  pub arg : i.arg ≡ j.arg
  pub reply : i.reply ≡ j.reply
  pub object : i.object ≡ j.object
  pub buffer : i.buffer ≡ j.buffer
  pub levels : length i.upgrades ≡ length j.upgrades

abbrev pub AllAsOne : Interfaces → Interfaces → Type 0
AllAsOne [] [] = Unit {0}
AllAsOne (e ∷ xs) (f ∷ ys) = (e.0 ≡ f.0) × AreAsOne e.1 f.1 × AllAsOne xs ys
AllAsOne _ _ = ⊥

abbrev pub ProvideAsOne : Option Interface → Option Interface → Type 0
ProvideAsOne None None = Unit {0}
ProvideAsOne (Some i) (Some j) = AreAsOne i j
ProvideAsOne _ _ = ⊥

pub record SubjectsAsOne (v w : Subject) : Type 0 where
  pub program : v.program ≡ w.program
  pub provided : ProvideAsOne v.provided w.provided
  pub interfaces : AllAsOne v.interfaces w.interfaces
  pub inputs : v.inputs ≡ w.inputs
  pub signals : v.signals ≡ w.signals

pub record ContextsAsOne (c d : Context) : Type 0 where
  pub subject : SubjectsAsOne c.subject d.subject
  pub section : c.section ≡ d.section
  pub counts : c.counts ≡ d.counts

-- SLOTS

abbrev pub caps_needed : ℕ → Option Interface → ℕ
caps_needed level None = 0
caps_needed level (Some i) = (need_of i level).caps

-- the capabilities that are given for a session of a service, by these interfaces
abbrev pub caps_for : Interfaces → List ℕ → ℕ → ℕ
caps_for interfaces service level = caps_needed level (interface_in service interfaces)

-- how many upgrades there are of a service
abbrev pub levels_for : Interfaces → List ℕ → ℕ
levels_for interfaces service = number_of (interface_in service interfaces) (λ i. length i.upgrades)

-- two links are of sessions of one service and a level that it has, for which as many bytes were given, and capabilities as the interfaces say
abbrev pub KindsAsOne : Interfaces → Interfaces → Kind → Kind → Type 0
KindsAsOne xs ys (Link_kind s l a) (Link_kind t m b) =
    (s ≡ t) × (l ≡ m) × (a.ram ≡ b.ram) × (a.caps ≡ caps_for xs s l) × (b.caps ≡ caps_for ys t m) × (l ≤ levels_for xs s)
KindsAsOne xs ys (Link_kind s l a) kind = ⊥
KindsAsOne xs ys Empty_kind kind = kind ≡ Empty_kind
KindsAsOne xs ys (Memory form n) kind = kind ≡ Memory form n
KindsAsOne xs ys (Pool_kind n m) kind = kind ≡ Pool_kind n m

abbrev pub BanksAsOne : Interfaces → Interfaces → List Kind → List Kind → Type 0
BanksAsOne xs ys [] [] = Unit {0}
BanksAsOne xs ys (k ∷ ks) (l ∷ ls) = KindsAsOne xs ys k l × BanksAsOne xs ys ks ls
BanksAsOne xs ys _ _ = ⊥

pub record StatesAsOne (xs ys : Interfaces) (s t : AbstractState) : Type 0 where
  pub own : BanksAsOne xs ys s.own t.own
  pub bank : BanksAsOne xs ys s.bank t.bank
  pub bounds : s.bounds ≡ t.bounds

-- WHAT IS GIVEN

-- a statement gives what is asked for: an `open` the need, an `upgrade` the next level's
abbrev pub Affords : Context → AbstractState → Instruction → Type 0
Affords c s (Open place service n) = (i : Interface) → interface_in service c.subject.interfaces ≡ Some i → i.need.ram ≤ n
Affords c s (Upgrade place n) = (service : List ℕ) (level : ℕ) (given : Amount) (i : Interface) → link_kind (kind_at c s place) ≡ Some (service, level, given)
    → interface_in service c.subject.interfaces ≡ Some i → (slice_index_or i.upgrades level (amount 0 0)).ram ≤ n
Affords c s _ = Unit {0}

-- ALONG A LIST OF STATEMENTS

-- something holds of each statement with the state before it, and of the state after each instruction
abbrev pub Along : (AbstractState → Instruction → Type 0) → (AbstractState → Type 0) → Context → AbstractState → Statements → Type 0
Along A B c s Done = Unit {0}
Along A B c s (Do i rest) = A s i × B (state_or s (at 1 (judged c s i))) × Along A B c (state_or s (at 1 (judged c s i))) rest
Along A B c s (If arm other rest) =
    let t : AbstractState = record s { bounds = [] } in Along A B c t arm × Along A B c t other × Along A B c (state_or t (flow c t arm)) rest
Along A B c s (Loop n body rest) = Along A B (inside c n) s body × Along A B c s rest

-- what holds along is enough for the other: each statement gives what is asked for, and each state is covered
pub record Allows (A : AbstractState → Instruction → Type 0) (B : AbstractState → Type 0) (c d : Context) : Type 0 where
  pub affords : (s t : AbstractState) (i : Instruction) → StatesAsOne c.subject.interfaces d.subject.interfaces s t → A s i → Affords d t i
  pub covers : (s t : AbstractState) → StatesAsOne c.subject.interfaces d.subject.interfaces s t → B s → within_need d.section d.subject.provided t ≡ Ok t

abbrev pub PointsAsOne : Interfaces → Interfaces → List AbstractState → List AbstractState → Type 0
PointsAsOne xs ys [] [] = Unit {0}
PointsAsOne xs ys (s ∷ ss) (t ∷ ts) = StatesAsOne xs ys s t × PointsAsOne xs ys ss ts
PointsAsOne xs ys _ _ = ⊥

-- NODES

-- two leaves, or two inits, differ in their quanta alone
abbrev pub LeavesAsOne : LeafNode → LeafNode → Type 0
LeavesAsOne m n = n ≡ record m { quantum = n.quantum }

abbrev pub InitsAsOne : InitNode → InitNode → Type 0
InitsAsOne m n = n ≡ record m { quantum = n.quantum }

abbrev pub NodesAsOne : Nodes → Nodes → Type 0
NodesAsOne End End = Unit {0}
NodesAsOne (Leaf_node m rest) (Leaf_node n others) = LeavesAsOne m n × NodesAsOne rest others
NodesAsOne (Init_node m children rest) (Init_node n others more) = InitsAsOne m n × NodesAsOne children others × NodesAsOne rest more
NodesAsOne _ _ = ⊥

abbrev pub LevelsAsOne : List Level → List Level → Type 0
LevelsAsOne [] [] = Unit {0}
LevelsAsOne (l ∷ above) (m ∷ others) = (l.routes ≡ m.routes) × NodesAsOne l.siblings m.siblings × LevelsAsOne above others
LevelsAsOne _ _ = ⊥

pub record ComponentsAsOne (c d : Component) : Type 0 where
  pub label : c.label ≡ d.label
  pub node : LeavesAsOne c.node d.node
  pub levels : LevelsAsOne c.levels d.levels

abbrev pub AllComponents : List Component → List Component → Type 0
AllComponents [] [] = Unit {0}
AllComponents (c ∷ cs) (d ∷ ds) = ComponentsAsOne c d × AllComponents cs ds
AllComponents _ _ = ⊥

-- SCENARIOS

-- two scenarios differ in quantities alone
pub record ScenariosAsOne (s t : Scenario) : Type 0 where
  pub version : s.version ≡ t.version
  pub default_routes : s.default_routes ≡ t.default_routes
  pub interfaces : AllAsOne s.interfaces t.interfaces
  pub nodes : NodesAsOne s.nodes t.nodes
