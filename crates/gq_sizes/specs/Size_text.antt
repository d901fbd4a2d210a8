-- What `size` prints of a scenario: what each quantity is, and what it is at least. The least numbers are those of the scenario with the least quantities in
-- place of its own (`sized`), to which the laws apply. A number above 2^64 - 1 is printed as 2^64 - 1; the bytes of a short `open` never come there. Where no
-- number of capabilities is enough, `none` stands in its place.
use Rattle.std.specs.Prelude.{ℕ, suc, ◌+◌, ◌-◌, Bool, true, false, List, [], ◌∷◌, ◌++◌, Option, Some, None, decimal, codes}
use Rattle.gq_model.specs.machine.Accounts.{entry, leaf_count, reported}
use Rattle.gq_model.specs.machine.Amounts.{Resource, Ram, Caps, Amount, part}
use Rattle.gq_model.specs.machine.Scenario.{Interface, Interfaces, Nodes, Leaf_node, Init_node, Scenario, System, below, system}
use Rattle.gq_model.specs.rules.Kinds.{need_of}
use Rattle.gq_scenario.specs.Without_quantities.{unsized}
use Rattle.gq_verify.specs.Saturated_numbers.{saturated}
use Rattle.gq_sizes.specs.Endless.{children_endless, endless_at, is_endless}
use Rattle.gq_sizes.specs.Least.{sized}
use Rattle.gq_sizes.specs.Size.{all_gifts, all_short}

-- LINES

-- what a quantity is, and what it is at least
abbrev pub pair_entries : List ℕ → ℕ → ℕ → List ℕ
pair_entries word n least = entry word n ++ entry (codes "least") least

-- a number; none where it would have no end
abbrev pub unless : Bool → ℕ → Option ℕ
unless true n = None
unless false n = Some n

abbrev pub least_entry : Option ℕ → List ℕ
least_entry None = codes " least none"
least_entry (Some n) = entry (codes "least") n

abbrev pub caps_entries : ℕ → ℕ → Option ℕ → List ℕ
caps_entries version n least = reported version (entry (codes "caps") n ++ least_entry least)

-- lines of what there is, with the least bytes and the least capabilities
abbrev pub need_line : ℕ → List ℕ → Amount → ℕ → Option ℕ → List ℕ
need_line version name has ram caps =
    codes "size " ++ name ++ pair_entries (codes "need") has.ram ram ++ caps_entries version has.caps caps ++ 10 ∷ []

abbrev pub upgrade_line : ℕ → List ℕ → ℕ → Amount → ℕ → Option ℕ → List ℕ
upgrade_line version name l has ram caps =
    codes "size " ++ name ++ codes " upgrade " ++ decimal l ++ codes " " ++ decimal has.ram ++ entry (codes "least") ram
    ++ caps_entries version has.caps caps ++ 10 ∷ []

abbrev pub node_line : ℕ → List ℕ → Amount → ℕ → Option ℕ → List ℕ
node_line version label has ram caps =
    codes "size " ++ label ++ pair_entries (codes "quantum") has.ram ram ++ caps_entries version has.caps caps ++ 10 ∷ []

-- INTERFACES

-- what an upgrade from level l adds: each of the two sums is printed as far as 64 bits go
abbrev pub added : Resource → Interface → ℕ → ℕ
added r least l = saturated (part r (need_of least (suc l))) - saturated (part r (need_of least l))

-- the upgrades of an interface with their own numbers, of which the first is from level l, by the interface with the least ones
abbrev pub upgrades_beside : ℕ → System → List ℕ → Interface → ℕ → List Amount → List ℕ
upgrades_beside version all service least l [] = []
upgrades_beside version all service least l (a ∷ rest) =
    upgrade_line version service (suc l) a (added Ram least l) (unless (is_endless all service (suc l)) (added Caps least l))
    ++ upgrades_beside version all service least (suc l) rest

-- interfaces with their own numbers, beside the same with the least ones
abbrev pub interfaces_beside : ℕ → System → Interfaces → Interfaces → List ℕ
interfaces_beside version all (e ∷ rest) (f ∷ least) =
    need_line version e.0 e.1.need (saturated f.1.need.ram) (unless (is_endless all e.0 0) (saturated f.1.need.caps))
    ++ upgrades_beside version all e.0 f.1 0 e.1.upgrades ++ interfaces_beside version all rest least
interfaces_beside version all own least = []

-- NODES

-- a line with the least quantum that these numbers are
abbrev pub quantum_line : ℕ → List ℕ → Amount → Bool → Amount → List ℕ
quantum_line version label has endless least = node_line version label has (saturated least.ram) (unless endless (saturated least.caps))

-- the lines of these nodes, below this label, beside the same with the least quanta; the first leaf is the x-th
abbrev pub nodes_beside : ℕ → System → List ℕ → ℕ → Nodes → Nodes → List ℕ
nodes_beside version all label x (Leaf_node node rest) (Leaf_node m least) =
    quantum_line version (below label node.name) node.quantum (endless_at all x) m.quantum ++ nodes_beside version all label (suc x) rest least
nodes_beside version all label x (Init_node node children rest) (Init_node m kids least) =
    quantum_line version (below label node.name) node.quantum (children_endless all x children) m.quantum
    ++ nodes_beside version all (below label node.name) x children kids ++ nodes_beside version all label (x + leaf_count children) rest least
nodes_beside version all label x own least = []

-- THE TEXT

abbrev pub size_text : Scenario → List ℕ
size_text s =
    let all = system (unsized s) in
    let least = sized s in
    interfaces_beside s.version all s.interfaces least.interfaces ++ all_short all (all_gifts all all.components) all.components
    ++ quantum_line s.version (codes "init") s.total (children_endless all 0 s.nodes) least.total
    ++ nodes_beside s.version all (codes "init") 0 s.nodes least.nodes
