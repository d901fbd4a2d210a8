-- Why the least quantities of a scenario can't stand in its text: its quantities, and what is wrong with one of them.
use Rattle.std.specs.Prelude.{◌≡◌, ◌≢◌, ℕ, ◌<◌, if◌then◌else◌, List, [], ◌∷◌, ◌++◌, Option, Some, None, codes}
use Rattle.gq_model.specs.machine.Amounts.{Amount, counts_caps}
use Rattle.gq_model.specs.machine.Scenario.{Interface, Interfaces, Nodes, End, Leaf_node, Init_node, Scenario}
use Rattle.gq_scenario.specs.declared.key.Key.{Key}
use Rattle.gq_scenario.specs.declared.key.Key.TheVariants.{Ram, Caps, Need, NeedCaps, Upgrades, UpgradeCaps, Quantum}
use Rattle.gq_sizes.specs.Least_numbers.{interfaces_least, nodes_least}
use Rattle.gq_sizes.specs.declared.quantity_lines.Least.{Least}
use Rattle.gq_fit.specs.declared.fit_fault.Misfit.{Misfit}
use Rattle.gq_fit.specs.declared.fit_fault.Misfit.TheVariants.{NoPlace, TooLarge, Refused, Differs}

-- QUANTITIES

-- what stands behind a key of what bears a name, and what it is at least, where a number is enough
pub record Quantity : Type 0 where
  pub key : Key
  pub name : List ℕ
  pub has : ℕ
  pub least : Option ℕ

abbrev pub quantity : Key → List ℕ → ℕ → Option ℕ → Quantity
quantity key name has least = record { key = key; name = name; has = has; least = least }

-- an amount behind two keys; capabilities are counted from version 2 on
abbrev pub both : ℕ → Key → Key → List ℕ → Amount → Least → List Quantity
both version key caps_key name has least =
    quantity key name has.ram (Some least.ram) ∷ (if counts_caps version then quantity caps_key name has.caps least.caps ∷ [] else [])

-- the upgrades of an interface
abbrev pub of_upgrades : ℕ → List ℕ → List Amount → List Least → List Quantity
of_upgrades version name (a ∷ upgrades) (l ∷ least) = both version Upgrades UpgradeCaps name a l ++ of_upgrades version name upgrades least
of_upgrades version name upgrades least = []

-- an interface: its need, and its upgrades
abbrev pub of_interface : ℕ → List ℕ → Interface → List Least → List Quantity
of_interface version name i [] = []
of_interface version name i (need ∷ least) = both version Need NeedCaps name i.need need ++ of_upgrades version name i.upgrades least

abbrev pub of_interfaces : ℕ → Interfaces → List (List Least) → List Quantity
of_interfaces version (e ∷ interfaces) (row ∷ rows) = of_interface version e.0 e.1 row ++ of_interfaces version interfaces rows
of_interfaces version interfaces rows = []

-- the names and the quanta of nodes in preorder
abbrev pub quanta : Nodes → List (List ℕ × Amount)
quanta End = []
quanta (Leaf_node node rest) = (node.name, node.quantum) ∷ quanta rest
quanta (Init_node node children rest) = (node.name, node.quantum) ∷ (quanta children ++ quanta rest)

abbrev pub of_quanta : ℕ → List (List ℕ × Amount) → List Least → List Quantity
of_quanta version (q ∷ quanta) (l ∷ least) = both version Quantum Caps q.0 q.1 l ++ of_quanta version quanta least
of_quanta version quanta least = []

-- the whole, and each node
abbrev pub of_tree : Scenario → List Least → List Quantity
of_tree s [] = []
of_tree s (root ∷ least) = both s.version Ram Caps (codes "init") s.total root ++ of_quanta s.version (quanta s.nodes) least

-- all quantities of a scenario, in the order of the lines of `size`, of which these are the least numbers
abbrev pub quantities_by : Scenario → List (List Least) → List Least → List Quantity
quantities_by s interfaces nodes = of_interfaces s.version s.interfaces interfaces ++ of_tree s nodes

-- all quantities of a scenario, with the least numbers of another, whose programs may give other amounts
abbrev pub quantities : Scenario → Scenario → List Quantity
quantities s given = quantities_by s (interfaces_least given) (nodes_least given)

-- WHAT IS WRONG WITH ONE

-- something holds of one of these
pub record SomeOf (P : Quantity → Type 0) (all : List Quantity) : Type 0 where
  pub before : List Quantity
  pub one : Quantity
  pub after : List Quantity
  pub is : all ≡ before ++ one ∷ after
  pub holds : P one

-- the greatest number that a key takes
abbrev pub greatest : Key → ℕ
greatest Ram = 67108864
greatest Quantum = 1099511627776
greatest Need = 4294967295
greatest Upgrades = 4294967295
greatest _ = 65536

-- no number is enough, or the least one is greater than this
abbrev pub IsBeyond : ℕ → Option ℕ → Type 0
IsBeyond most None = Unit {0}
IsBeyond most (Some least) = most < least

-- the least number of a key is none that it takes
pub record IsTooLarge (key : Key) (name : List ℕ) (least : Option ℕ) (q : Quantity) : Type 0 where
  pub key_is : q.key ≡ key
  pub name_is : q.name ≡ name
  pub least_is : q.least ≡ least
  pub beyond : IsBeyond (greatest key) least

-- the number of `upgrade-caps`, the only key that a scenario with such quantities may lack, is 0 and has to be another
pub record HasNoPlace (key : Key) (name : List ℕ) (q : Quantity) : Type 0 where
  pub optional : key ≡ UpgradeCaps
  pub key_is : q.key ≡ key
  pub name_is : q.name ≡ name
  pub none : q.has ≡ 0
  pub wanted : q.least ≢ Some 0

-- a reason is due to one of these quantities; that what was made is refused, or is another scenario, is due to none
abbrev pub IsDue : Misfit → List Quantity → Type 0
IsDue (NoPlace key name) all = SomeOf (HasNoPlace key name) all
IsDue (TooLarge key name least) all = SomeOf (IsTooLarge key name least) all
IsDue (Refused fault) all = Unit {0}
IsDue Differs all = Unit {0}
