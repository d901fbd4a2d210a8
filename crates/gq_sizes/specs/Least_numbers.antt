-- What each quantity of a scenario is at least, in the numbers that `size` prints. A number above 2^64 - 1 is 2^64 - 1.
use Rattle.std.specs.Prelude.{ℕ, suc, ◌+◌, ◌-◌, Bool, List, [], ◌∷◌, ◌++◌, map}
use Rattle.gq_model.specs.machine.Accounts.{leaf_count}
use Rattle.gq_model.specs.machine.Amounts.{Ram, Caps, Amount, amount}
use Rattle.gq_model.specs.machine.Scenario.{Interface, Interfaces, Nodes, End, Leaf_node, Init_node, Scenario, System, system}
use Rattle.gq_scenario.specs.Without_quantities.{unsized}
use Rattle.gq_verify.specs.Saturated_numbers.{saturated}
use Rattle.gq_sizes.specs.declared.quantity_lines.Least.{Least}
use Rattle.gq_sizes.specs.Endless.{children_endless, endless_at, is_endless}
use Rattle.gq_sizes.specs.Size.{Gift, all_gifts, children_least, least_at, least_caps, ram_sum, root_least}
use Rattle.gq_sizes.specs.Size_text.{unless}

-- so much at least; no number of capabilities where they have no end
abbrev pub at_least : Amount → Bool → Least
at_least a endless = record { ram = a.ram; caps = unless endless a.caps }

-- INTERFACES

-- the least sums of need and upgrades up to a level, as they are printed
abbrev pub printed_ram : System → List Gift → List ℕ → Interface → ℕ → ℕ
printed_ram all given service i l = saturated (ram_sum all given service i l)

abbrev pub printed_caps : System → List ℕ → ℕ → ℕ
printed_caps all service l = saturated (least_caps all service l)

abbrev pub need_least : System → List Gift → List ℕ → Interface → Amount
need_least all given service i = amount (printed_ram all given service i 0) (printed_caps all service 0)

-- what an upgrade from level l has to add at least
abbrev pub upgrade_least : System → List Gift → List ℕ → Interface → ℕ → Amount
upgrade_least all given service i l =
    amount (printed_ram all given service i (suc l) - printed_ram all given service i l) (printed_caps all service (suc l) - printed_caps all service l)

-- what an upgrade from level l has to add at least, where capabilities up to the level above it may have no end
abbrev pub upgrade_row : System → List Gift → List ℕ × Interface → ℕ → Least
upgrade_row all given e l = at_least (upgrade_least all given e.0 e.1 l) (is_endless all e.0 (suc l))

-- of an interface: its need, and its upgrades to levels 1 to 3, of which those that it does not have stay unread
abbrev pub interface_row : System → List Gift → List ℕ × Interface → List Least
interface_row all given e =
    at_least (need_least all given e.0 e.1) (is_endless all e.0 0)
    ∷ upgrade_row all given e 0 ∷ upgrade_row all given e 1 ∷ upgrade_row all given e 2 ∷ []

abbrev pub interface_rows : System → List Gift → Interfaces → List (List Least)
interface_rows all given = map (interface_row all given)

-- NODES

abbrev pub leaf_least_printed : System → ℕ → Amount
leaf_least_printed all x = amount (saturated (least_at Ram all x)) (saturated (least_at Caps all x))

abbrev pub init_least_printed : System → ℕ → Nodes → Amount
init_least_printed all x nodes = amount (saturated (children_least Ram all x nodes)) (saturated (children_least Caps all x nodes))

abbrev pub root_least_printed : System → Nodes → Amount
root_least_printed all nodes =
    amount (saturated (root_least Ram (children_least Ram all 0 nodes))) (saturated (root_least Caps (children_least Caps all 0 nodes)))

-- of these nodes in preorder, of which the first leaf is the x-th
abbrev pub nodes_row : System → ℕ → Nodes → List Least
nodes_row all x End = []
nodes_row all x (Leaf_node node rest) = at_least (leaf_least_printed all x) (endless_at all x) ∷ nodes_row all (suc x) rest
nodes_row all x (Init_node node children rest) =
    at_least (init_least_printed all x children) (children_endless all x children)
    ∷ nodes_row all x children ++ nodes_row all (x + leaf_count children) rest

-- SCENARIOS

-- of each interface, in the order of their names
abbrev pub interfaces_least : Scenario → List (List Least)
interfaces_least s = let all = system (unsized s) in interface_rows all (all_gifts all all.components) s.interfaces

-- of each node in preorder, the root first
abbrev pub nodes_least : Scenario → List Least
nodes_least s =
    let all = system (unsized s) in at_least (root_least_printed all s.nodes) (children_endless all 0 s.nodes) ∷ nodes_row all 0 s.nodes
