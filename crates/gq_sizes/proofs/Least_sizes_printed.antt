-- The least numbers that are printed are those of the scenario with the least quantities in place of its own.
use Rattle.std.proofs.Common.{◌≡◌, ℕ, suc, ◌+◌, ◌-◌, ◌≤◌, Bool, true, false, List, [], ◌∷◌, ◌++◌, length, refl, ap, sym, ◌∙◌, arith}
use Rattle.std.specs.Prelude.{if◌then◌else◌, codes, decimal}
use Rattle.gq_model.specs.machine.Accounts.{leaf_count, entry}
use Rattle.gq_model.specs.machine.Amounts.{Ram, Caps, Amount, amount, counts_caps}
use Rattle.gq_model.specs.machine.Scenario.{Interface, Interfaces, Nodes, End, Leaf_node, Init_node, Scenario, System, below, system}
use Rattle.gq_scenario.specs.Without_quantities.{unsized}
use Rattle.gq_verify.specs.Saturated_numbers.{saturated}
use Rattle.gq_sizes.specs.Endless.{children_endless, endless_at, is_endless}
use Rattle.gq_sizes.specs.Least.{caps_of, least_interface, least_interfaces, least_nodes, sum_at}
use Rattle.gq_sizes.specs.Size.{Gift, all_gifts, all_short, children_least, least_at, least_caps, ram_sum, root_least}
use Rattle.gq_sizes.specs.Size_text.{added, caps_entries, interfaces_beside, least_entry, need_line, node_line, nodes_beside, pair_entries, quantum_line}
use Rattle.gq_sizes.specs.Size_text.{size_text, unless, upgrade_line, upgrades_beside}
use Rattle.gq_sizes.specs.internal.Printed_sizes.{interface_lines, node_lines, reported_text, upgrade_lines}
use Rattle.gq_sizes.proofs.Least_sizes_fit.{sums_rise}
use Rattle.gq_sizes.proofs.Level_sums_cover.{need_caps, need_ram}

-- capabilities are printed where they are counted
counted_entry : (version n has : ℕ) (b : Bool) → caps_entries version has (unless b (saturated (caps_of version n)))
    ≡ caps_entries version has (unless b (saturated n))
counted_entry version n has b = by (counts_caps version)
  where
    by : (t : Bool) → (if◌then◌else◌ t (entry (codes "caps") has ++ least_entry (unless b (saturated (if◌then◌else◌ t n 0)))) [])
        ≡ (if◌then◌else◌ t (entry (codes "caps") has ++ least_entry (unless b (saturated n))) [])
    by true = refl
    by false = refl

counted_step : (version n m has : ℕ) (b : Bool) → caps_entries version has (unless b (saturated (caps_of version n) - saturated (caps_of version m)))
    ≡ caps_entries version has (unless b (saturated n - saturated m))
counted_step version n m has b = by (counts_caps version)
  where
    by : (t : Bool)
        → (if◌then◌else◌ t (entry (codes "caps") has
        ++ least_entry (unless b (saturated (if◌then◌else◌ t n 0) - saturated (if◌then◌else◌ t m 0)))) [])
        ≡ (if◌then◌else◌ t (entry (codes "caps") has ++ least_entry (unless b (saturated n - saturated m))) [])
    by true = refl
    by false = refl

-- so lines are the same by either
upgrade_so : (version : ℕ) (name : List ℕ) (l : ℕ) (has : Amount) (ram n m : ℕ) (b : Bool)
    → upgrade_line version name l has ram (unless b (saturated n - saturated m))
    ≡ upgrade_line version name l has ram (unless b (saturated (caps_of version n) - saturated (caps_of version m)))
upgrade_so version name l has ram n m b =
    ap (λ e. codes "size " ++ name ++ codes " upgrade " ++ decimal l ++ codes " " ++ decimal has.ram ++ entry (codes "least") ram ++ e ++ 10 ∷ [])
    (sym (counted_step version n m has.caps b))

need_so : (version : ℕ) (name : List ℕ) (has : Amount) (ram n : ℕ) (b : Bool)
    → need_line version name has ram (unless b (saturated n)) ≡ need_line version name has ram (unless b (saturated (caps_of version n)))
need_so version name has ram n b =
    ap (λ e. codes "size " ++ name ++ pair_entries (codes "need") has.ram ram ++ e ++ 10 ∷ []) (sym (counted_entry version n has.caps b))

node_so : (version : ℕ) (label : List ℕ) (has : Amount) (ram n : ℕ) (b : Bool)
    → node_line version label has (saturated ram) (unless b (saturated n)) ≡ quantum_line version label has b (amount ram (caps_of version n))
node_so version label has ram n b =
    ap (λ e. codes "size " ++ label ++ pair_entries (codes "quantum") has.ram (saturated ram) ++ e ++ 10 ∷ []) (sym (counted_entry version n has.caps b))

module _ (version : ℕ) (all : System) (given : List Gift) where
  -- INTERFACES

  upgrades_so : (service : List ℕ) (i : Interface) (l : ℕ) (rest : List Amount) → l + length rest ≤ length i.upgrades
      → upgrade_lines version all given service i l rest
      ≡ upgrades_beside version all service (least_interface (sum_at version all given service i) i) l rest
  upgrades_so service i l [] h = refl
  upgrades_so service i l (a ∷ rest) h =
      let sum : ℕ → Amount = sum_at version all given service i in
      let rises = sums_rise version all given service i in
      let here : l ≤ length i.upgrades = omega (arith, h) in
      let above : suc l ≤ length i.upgrades = omega (arith, h) in
      let b = is_endless all service (suc l) in
      let ram : saturated (sum (suc l)).ram - saturated (sum l).ram ≡ added Ram (least_interface sum i) l =
      (λ j. saturated (sym (need_ram sum rises i (suc l) above) j) - saturated (sym (need_ram sum rises i l here) j)) in
      let caps : saturated (sum (suc l)).caps - saturated (sum l).caps ≡ added Caps (least_interface sum i) l =
      (λ j. saturated (sym (need_caps sum rises i (suc l) above) j) - saturated (sym (need_caps sum rises i l here) j)) in
      let line = upgrade_so version service (suc l) a (saturated (sum (suc l)).ram - saturated (sum l).ram) (least_caps all service (suc l))
      (least_caps all service l) b ∙ (λ j. upgrade_line version service (suc l) a (ram j) (unless b (caps j))) in
      (λ j. line j ++ upgrades_so service i (suc l) rest (omega (arith, h)) j)

  interfaces_so : (is : Interfaces) → interface_lines version all given is ≡ interfaces_beside version all is (least_interfaces version all given is)
  interfaces_so [] = refl
  interfaces_so (e ∷ rest) =
      let line = need_so version e.0 e.1.need (saturated (ram_sum all given e.0 e.1 0)) (least_caps all e.0 0) (is_endless all e.0 0) in
      let upgrades = upgrades_so e.0 e.1 0 e.1.upgrades (omega arith) in
      (λ j. line j ++ upgrades j ++ interfaces_so rest j)

  -- NODES

  nodes_so : (label : List ℕ) (x : ℕ) (nodes : Nodes)
      → node_lines version all label x nodes ≡ nodes_beside version all label x nodes (least_nodes version all x nodes)
  nodes_so label x End = refl
  nodes_so label x (Leaf_node node rest) =
      let line = node_so version (below label node.name) node.quantum (least_at Ram all x) (least_at Caps all x) (endless_at all x) in
      (λ j. line j ++ nodes_so label (suc x) rest j)
  nodes_so label x (Init_node node children rest) =
      let line = node_so version (below label node.name) node.quantum (children_least Ram all x children) (children_least Caps all x children)
      (children_endless all x children) in
      (λ j. line j ++ nodes_so (below label node.name) x children j ++ nodes_so label (x + leaf_count children) rest j)

pub text_beside : (s : Scenario) → reported_text (system (unsized s)) s ≡ size_text s
text_beside s =
    let all = system (unsized s) in
    let given = all_gifts all all.components in
    let root = node_so s.version (codes "init") s.total (root_least Ram (children_least Ram all 0 s.nodes))
    (root_least Caps (children_least Caps all 0 s.nodes)) (children_endless all 0 s.nodes) in
    (λ j. interfaces_so s.version all given s.interfaces j ++ all_short all given all.components ++ root j
    ++ nodes_so s.version all given (codes "init") 0 s.nodes j)
