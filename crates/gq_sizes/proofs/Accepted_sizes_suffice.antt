-- A scenario that is accepted has no numbers that are less than the least ones of any from which it differs in quantities alone.
use Rattle.std.proofs.Common.{◌≡◌, ℕ, suc, ◌+◌, ◌%◌, ◌≤◌, Bool, true, false, List, [], ◌∷◌, length, max, Some, None, refl, ap, sym, ◌∙◌, subst, arith}
use Rattle.std.specs.Prelude.{slice_get, if◌then◌else◌, codes}
use Rattle.gq_tariff.specs.Prices.{up}
use Rattle.gq_model.specs.machine.Accounts.{leaf_count}
use Rattle.gq_model.specs.machine.Amounts.{Resource, Ram, Caps, Amount, amount, part, counts_caps}
use Rattle.gq_model.specs.machine.Lists.{or_first}
use Rattle.gq_model.specs.machine.Scenario.{Interface, Interfaces, Component, LeafNode, Nodes, End, Leaf_node, Init_node, Scenario, System, components, system}
use Rattle.gq_model.specs.machine.Scenario.{interface_in, number_of}
use Rattle.gq_model.specs.rules.Kinds.{need_of}
use Rattle.gq_model.specs.rules.Resolve.{exceeds, first_exceeding, quanta_fault}
use Rattle.gq_model.proofs.Small_facts.{or_first_none}
use Rattle.gq_laws.specs.Sound_scenarios.{IsSound}
use Rattle.gq_laws.proofs.quota_payment.Leaf_component_positions.{Placed, all_placed}
use Rattle.gq_laws.proofs.verified_programs.Sound_systems.{is_resolved}
use Rattle.gq_sizes.specs.Unsized_equality.{AreAsOne, AllAsOne, ProvideAsOne, NodesAsOne, ScenariosAsOne, caps_for, caps_needed, levels_for}
use Rattle.gq_sizes.specs.Size.{Gift, all_gifts, least_at, unless_after, children_least, root_least, least_caps}
use Rattle.gq_scenario.specs.Without_quantities.{unsized}
use Rattle.gq_sizes.specs.Least.{caps_of, sum_at, least_nodes, sized, IsWithin, NodesWithin, AreEnough, HasWholePages, HasLeast}
use Rattle.gq_sizes.proofs.Level_sums_cover.{need_ram, need_caps}
use Rattle.gq_sizes.proofs.Least_sizes_fit.{found_least, sums_rise}
use Rattle.gq_sizes.proofs.Session_needs_bounded.{Counts, caps_within}
use Rattle.gq_sizes.proofs.Freed_scenarios.{found_both}
use Rattle.gq_sizes.proofs.Accepted_opens_pay.{sum_same, sums_small, nothing_short}
use Rattle.gq_sizes.proofs.Session_chains_end.{none_endless}
use Rattle.gq_sizes.proofs.Node_quanta_suffice.{place_small, children_small, hands}

-- EACH SCENARIO IS AS ITSELF

all_self : (is : Interfaces) → AllAsOne is is
all_self [] = tt
all_self (e ∷ is) = (refl, record { arg = refl; reply = refl; object = refl; buffer = refl; levels = refl }, all_self is)

pub nodes_self : (ns : Nodes) → NodesAsOne ns ns
nodes_self End = tt
nodes_self (Leaf_node n ns) = (refl, nodes_self ns)
nodes_self (Init_node n cs ns) = (refl, nodes_self cs, nodes_self ns)

pub self : (s : Scenario) → ScenariosAsOne s s
self s = record { version = refl; default_routes = refl; interfaces = all_self s.interfaces; nodes = nodes_self s.nodes }

-- CAPABILITIES

pub caps_if : (version n m : ℕ) → (counts_caps version ≡ true → n ≤ m) → caps_of version n ≤ m
caps_if version n m h = by (counts_caps version) refl
  where
    by : (b : Bool) → counts_caps version ≡ b → (if◌then◌else◌ b n 0) ≤ m
    by true e = h e
    by false e = omega arith

-- ROOTS

pages_more : (n m : ℕ) → n ≤ m → 4096 ≤ m → m % 4096 ≡ 0 → max 4096 (up n) ≤ m
pages_more n m h k e =
    let a : up n ≤ m = omega (arith, h, e) in grind (arith, a, k)

one_more : (n m : ℕ) → n ≤ m → 1 ≤ m → max 1 n ≤ m
one_more n m h k = grind (arith, h, k)

-- NODES

count_same : (ms ns : Nodes) → NodesAsOne ms ns → leaf_count ms ≡ leaf_count ns
count_same End End h = refl
count_same End (Leaf_node n ns) h = absurd h
count_same End (Init_node n ds ns) h = absurd h
count_same (Leaf_node m ms) End h = absurd h
count_same (Leaf_node m ms) (Init_node n ds ns) h = absurd h
count_same (Leaf_node m ms) (Leaf_node n ns) h = ap suc (count_same ms ns h.1)
count_same (Init_node m cs ms) End h = absurd h
count_same (Init_node m cs ms) (Leaf_node n ns) h = absurd h
count_same (Init_node m cs ms) (Init_node n ds ns) h = (λ i. count_same cs ds h.1 i + count_same ms ns h.2 i)

children_same : (r : Resource) (all : System) (x : ℕ) (ms ns : Nodes) → NodesAsOne ms ns → children_least r all x ms ≡ children_least r all x ns
children_same r all x End End h = refl
children_same r all x End (Leaf_node n ns) h = absurd h
children_same r all x End (Init_node n ds ns) h = absurd h
children_same r all x (Leaf_node m ms) End h = absurd h
children_same r all x (Leaf_node m ms) (Init_node n ds ns) h = absurd h
children_same r all x (Leaf_node m ms) (Leaf_node n ns) h =
    (λ i. unless_after (sym h.0 i).after (least_at r all x) + children_same r all (suc x) ms ns h.1 i)
children_same r all x (Init_node m cs ms) End h = absurd h
children_same r all x (Init_node m cs ms) (Leaf_node n ns) h = absurd h
children_same r all x (Init_node m cs ms) (Init_node n ds ns) h =
    (λ i. children_same r all x cs ds h.1 i + children_same r all (x + leaf_count cs) ms ns h.2 i)
    ∙ ap (λ n. children_least r all x ds + children_least r all (x + n) ns) (count_same cs ds h.1)

module _ (t s : Scenario) (sound : IsSound t) (alike : ScenariosAsOne t s) where
  abbrev all : System
  all = system (unsized s)

  abbrev given : List Gift
  given = all_gifts all all.components

  module _ (r : Resource) (counts : Counts t.version r) where
    leaf_has : (x : ℕ) (c : Component) → slice_get (components t) x ≡ Some c → least_at r all x ≤ part r c.node.quantum
    leaf_has x c at = place_small t s sound alike r counts x c at

    init_has : (whole : Nodes) (x : ℕ) (name : List ℕ) (quantum : Amount) (ns ms : Nodes) → Placed (components t) whole x ns → exceeds r name quantum ns ≡ None
        → first_exceeding r ns ≡ None → NodesAsOne ns ms → children_least r all x ms ≤ part r quantum
    init_has whole x name quantum ns ms p e f h =
        let a = children_small t s sound alike r counts whole x ns p f in
        let b = hands t s sound alike r counts name quantum ns e in
        let same = children_same r all x ns ms h in omega (arith, a, b, same)

  -- where the version counts capabilities
  counted : counts_caps s.version ≡ true → counts_caps t.version ≡ true
  counted two = ap counts_caps alike.version ∙ two

  fits : (r : Resource) → quanta_fault r t ≡ None
  fits Ram = (or_first_none (quanta_fault Ram t) _ (is_resolved t sound.accepted)).0
  fits Caps = (or_first_none (quanta_fault Caps t) _ (or_first_none (quanta_fault Ram t) _ (is_resolved t sound.accepted)).1).0

  nodes_has : (whole : Nodes) (x : ℕ) (ns ms : Nodes) → Placed (components t) whole x ns → first_exceeding Ram ns ≡ None → first_exceeding Caps ns ≡ None
      → NodesAsOne ns ms → NodesWithin (least_nodes s.version all x ms) ns
  nodes_has whole x End End p e f h = tt
  nodes_has whole x End (Leaf_node m ms) p e f h = absurd h
  nodes_has whole x End (Init_node m ds ms) p e f h = absurd h
  nodes_has whole x (Leaf_node node rest) End p e f h = absurd h
  nodes_has whole x (Leaf_node node rest) (Init_node m ds ms) p e f h = absurd h
  nodes_has whole x (Leaf_node node rest) (Leaf_node m ms) p e f h =
      let same = ap (λ (n : LeafNode). n.quantum) p.0.2 in (
        subst (λ q. IsWithin (amount (least_at Ram all x) (caps_of s.version (least_at Caps all x))) q) same (record {
          ram = leaf_has Ram tt x p.0.0 p.0.1;
          caps = caps_if s.version (least_at Caps all x) p.0.0.node.quantum.caps (λ two. leaf_has Caps (counted two) x p.0.0 p.0.1);
        }),
        nodes_has whole (suc x) rest ms p.1 e f h.1,
      )
  nodes_has whole x (Init_node node children rest) End p e f h = absurd h
  nodes_has whole x (Init_node node children rest) (Leaf_node m ms) p e f h = absurd h
  nodes_has whole x (Init_node node children rest) (Init_node m ds ms) p e f h =
      let a = or_first_none (exceeds Ram node.name node.quantum children) (or_first (first_exceeding Ram children) (first_exceeding Ram rest)) e in
      let b = or_first_none (first_exceeding Ram children) (first_exceeding Ram rest) a.1 in
      let c = or_first_none (exceeds Caps node.name node.quantum children) (or_first (first_exceeding Caps children) (first_exceeding Caps rest)) f in
      let d = or_first_none (first_exceeding Caps children) (first_exceeding Caps rest) c.1 in
      let count = count_same children ds h.1 in (
        record {
          ram = init_has Ram tt children x node.name node.quantum children ds p.0 a.0 b.0 h.1;
          caps = caps_if s.version (children_least Caps all x ds) node.quantum.caps
              (λ two. init_has Caps (counted two) children x node.name node.quantum children ds p.0 c.0 d.0 h.1);
        },
        nodes_has children x children ds p.0 b.0 d.0 h.1,
        subst (λ n. NodesWithin (least_nodes s.version all (x + n) ms) rest) count
            (nodes_has whole (x + leaf_count children) rest ms p.1 b.1 d.1 h.2),
      )

  root_fits : (r : Resource) → (exceeds r (codes "init") t.total t.nodes ≡ None) × (first_exceeding r t.nodes ≡ None)
  root_fits r = or_first_none (exceeds r (codes "init") t.total t.nodes) (first_exceeding r t.nodes) (fits r)

  total_has : HasWholePages t → IsWithin (sized s).total t.total
  total_has pages =
      record {
        ram = pages_more (children_least Ram all 0 s.nodes) t.total.ram
            (init_has Ram tt t.nodes 0 (codes "init") t.total t.nodes s.nodes (all_placed t) (root_fits Ram).0 (root_fits Ram).1 alike.nodes)
            pages.least pages.whole;
        caps = caps_if s.version (root_least Caps (children_least Caps all 0 s.nodes)) t.total.caps
            (λ two. one_more (children_least Caps all 0 s.nodes) t.total.caps
            (init_has Caps (counted two) t.nodes 0 (codes "init") t.total t.nodes s.nodes (all_placed t) (root_fits Caps).0 (root_fits Caps).1 alike.nodes)
            (pages.caps (counted two)));
      }

  sums_have : (service : List ℕ) (i j : Interface) → interface_in service t.interfaces ≡ Some i → interface_in service (sized s).interfaces ≡ Some j → (l : ℕ)
      → l ≤ length i.upgrades → IsWithin (need_of j l) (need_of i l)
  sums_have service i j known is_j l below =
      let p = found_least s.version all given s.interfaces service j is_j in
      let k = p.0 in
      let both : ProvideAsOne (Some i) (Some k) =
      subst (λ o. ProvideAsOne o (Some k)) known
      (subst (λ o. ProvideAsOne (interface_in service t.interfaces) o) p.1 (found_both service t.interfaces s.interfaces alike.interfaces)) in
      let one : AreAsOne i k = both in
      let rises = sums_rise s.version all given service k in
      let long : l ≤ length k.upgrades = omega (arith, below, one.levels) in
      let ram = need_ram (sum_at s.version all given service k) rises k l long in
      let caps = need_caps (sum_at s.version all given service k) rises k l long in
      let small = sums_small t s sound alike service i known l below in
      let same = sum_same all given service i k one l in
      let levels : levels_for t.interfaces service ≡ length i.upgrades = ap (λ o. number_of o (λ i. length i.upgrades)) known in
      let few : caps_of s.version (least_caps all service l) ≤ (need_of i l).caps = caps_if s.version (least_caps all service l) (need_of i l).caps (λ two.
      let a = caps_within t s sound alike Caps (counted two) service l (omega (arith, levels, below)) in
      let b : caps_for t.interfaces service l ≡ (need_of i l).caps = ap (caps_needed l) known in omega (arith, a, b)) in
      subst (λ n. IsWithin (need_of n l) (need_of i l)) (sym p.2) (record { ram = omega (arith, ram, small, same); caps = omega (arith, caps, few) })

  -- its numbers are no less than the least ones
  pub are_enough : HasWholePages t → AreEnough (sized s) t
  are_enough pages =
      record {
        sums = sums_have;
        total = total_has pages;
        nodes = nodes_has t.nodes 0 t.nodes s.nodes (all_placed t) (root_fits Ram).1 (root_fits Caps).1 alike.nodes;
      }

-- the law of a scenario itself
pub has_least : (s : Scenario) → IsSound s → HasWholePages s → HasLeast s
has_least s sound pages =
    record {
      opens = nothing_short s s sound (self s);
      ends = none_endless s s sound (self s);
      numbers = are_enough s s sound (self s) pages;
    }
