-- What `size` prints, by what is least of the system without quantities.
use Rattle.std.specs.Prelude.{ℕ, suc, ◌+◌, List, [], ◌∷◌, ◌++◌, codes}
use Rattle.gq_model.specs.machine.Accounts.{leaf_count}
use Rattle.gq_model.specs.machine.Amounts.{Amount}
use Rattle.gq_model.specs.machine.Scenario.{Interface, Interfaces, Nodes, End, Leaf_node, Init_node, Scenario, System, below}
use Rattle.gq_sizes.specs.Endless.{children_endless, endless_at, is_endless}
pub use Rattle.gq_sizes.specs.Least_numbers.{init_least_printed, leaf_least_printed, need_least, root_least_printed, upgrade_least}
use Rattle.gq_sizes.specs.Size.{Gift, all_gifts, all_short}
use Rattle.gq_sizes.specs.Size_text.{need_line, node_line, unless, upgrade_line}

-- INTERFACES

-- upgrades with their own numbers, of which the first is from level l
abbrev pub upgrade_lines : ℕ → System → List Gift → List ℕ → Interface → ℕ → List Amount → List ℕ
upgrade_lines version all given service i l [] = []
upgrade_lines version all given service i l (a ∷ rest) =
    upgrade_line version service (suc l) a (upgrade_least all given service i l).ram
    (unless (is_endless all service (suc l)) (upgrade_least all given service i l).caps)
    ++ upgrade_lines version all given service i (suc l) rest

-- interfaces with their own numbers; what is least is of the system without quantities
abbrev pub interface_lines : ℕ → System → List Gift → Interfaces → List ℕ
interface_lines version all given [] = []
interface_lines version all given (e ∷ rest) =
    need_line version e.0 e.1.need (need_least all given e.0 e.1).ram (unless (is_endless all e.0 0) (need_least all given e.0 e.1).caps)
    ++ upgrade_lines version all given e.0 e.1 0 e.1.upgrades
    ++ interface_lines version all given rest

-- NODES

-- the lines of these nodes, below this label, of which the first leaf is the x-th
abbrev pub node_lines : ℕ → System → List ℕ → ℕ → Nodes → List ℕ
node_lines version all label x End = []
node_lines version all label x (Leaf_node node rest) =
    node_line version (below label node.name) node.quantum (leaf_least_printed all x).ram (unless (endless_at all x) (leaf_least_printed all x).caps)
    ++ node_lines version all label (suc x) rest
node_lines version all label x (Init_node node children rest) =
    node_line version (below label node.name) node.quantum (init_least_printed all x children).ram
    (unless (children_endless all x children) (init_least_printed all x children).caps)
    ++ node_lines version all (below label node.name) x children ++ node_lines version all label (x + leaf_count children) rest

-- THE TEXT

abbrev pub root_line : ℕ → System → Amount → Nodes → List ℕ
root_line version all total nodes =
    node_line version (codes "init") total (root_least_printed all nodes).ram (unless (children_endless all 0 nodes) (root_least_printed all nodes).caps)

abbrev pub reported_text : System → Scenario → List ℕ
reported_text all s =
    let given = all_gifts all all.components in
    interface_lines s.version all given s.interfaces ++ all_short all given all.components
    ++ root_line s.version all s.total s.nodes ++ node_lines s.version all (codes "init") 0 s.nodes
