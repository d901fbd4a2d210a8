-- The quota that the definition gives each node is the quota that is stored for it.
use Rattle.std.proofs.Common.{◌≡◌, ℕ, ◌-◌, ◌<◌, inl, inr, true, cond, List, [], ◌∷◌, length, get_or, Option, Some, None}
use Rattle.std.proofs.Common.{refl, ap, sym, ◌∙◌, arith}
use Rattle.std.specs.Prelude.{slice_get, sum_by}
use Rattle.std.proofs.lemmas.Bool.{cases_Bool}
use Rattle.std.proofs.lemmas.List.{length-map}
use Rattle.std.proofs.lemmas.List.Sums.{sum_by-cons}
use Rattle.std.proofs.lemmas.Option.{get_or_from_slice_get, slice_get_within}
use Rattle.gq_tariff.specs.declared.amount.Amount.{Amount}
use Rattle.gq_model.specs.declared.phase.Phase.{Phase}
use Rattle.gq_model.specs.declared.phase.Phase.TheVariants as phase
use Rattle.gq_model.specs.machine.Accounts.{Account, accounts, amount_in, handed_to, init_quota, leaf_count, spent as given_on}
use Rattle.gq_model.specs.machine.Amounts.{Resource, Ram, Caps, part, amount, counts_caps}
use Rattle.gq_model.specs.machine.Scenario.{Scenario, Component, components, system}
use Rattle.gq_model.specs.machine.Sums.{handed as handed_in, held, quota as quota_in}
use Rattle.gq_model.specs.machine.World as world
use Rattle.gq_model.proofs.Small_facts.{some_same, none_some, get_within}
use Rattle.gq_laws.specs.Ready.{IsReady}
use Rattle.gq_scenario.specs.Sizes.{leaf_places}
use Rattle.gq_scenario.proofs.Preorder_leaves.{components-count}
use Rattle.gq_resolve.specs.NodeTables.{NodeRow, node_rows}
use Rattle.gq_ram.specs.Account_tree.{account_of}
use Rattle.gq_trade.specs.declared.session.Session.{Session}
use Rattle.gq_trade.specs.declared.session.SlotId.TheVariants.{InLeaf}
use Rattle.gq_trade.specs.Trading.{AreBetween, Trading, its_account, node_of}
use Rattle.gq_trade.specs.declared.trade_node.NodeState.{NodeState}
use Rattle.gq_trade.specs.Balances.{IsEven, handed, lent_for, node_at, received_for, while_live}
use Rattle.gq_trade.proofs.Balances_after_trades.{for_other}
use Rattle.gq_slots.specs.Slots.{Frame, Slots, memory_of, slot_of, world_seen}
use Rattle.gq_statements.specs.Systems.{AreLawful, IsOf, stage_in}
use Rattle.gq_statements.proofs.Leaf_quota_balance.{balances}
use Rattle.gq_statements.proofs.Lawful_worlds_paid.{phase_seen}
use Rattle.gq_prepared.specs.Account_nodes.{AreNodesOf}
use Rattle.gq_prepared.proofs.Plan_quantum_handing.{Counts, given_part, live_part}
use Rattle.gq_prepared.proofs.Scenario_node_positions.{slot_id_of, place_of}
use Rattle.gq_prepared.proofs.Handed_quota_sums.{all_spent, due, row_due, spent_at}
use Rattle.gq_prepared.proofs.quotas.Node_row_accounts.{AreThere, account_reported, accounts_count}

handed_now : (r : Resource) (p : Phase) (n : Amount) → part r (while_live (stage_in p) n) ≡ handed_in p (part r n)
handed_now Ram phase.Pending n = refl
handed_now Ram phase.Running n = refl
handed_now Ram phase.Blocked n = refl
handed_now Ram phase.Serving n = refl
handed_now Ram phase.Handling n = refl
handed_now Ram phase.Exited n = refl
handed_now Caps phase.Pending n = refl
handed_now Caps phase.Running n = refl
handed_now Caps phase.Blocked n = refl
handed_now Caps phase.Serving n = refl
handed_now Caps phase.Handling n = refl
handed_now Caps phase.Exited n = refl

-- a node that is no leaf's has lent nothing, and received nothing
none_lent : (f : Amount → ℕ) (leaves : List ℕ) (m n : ℕ) (ss : List (Option Session)) → ((x : ℕ) → x < length leaves → get_or leaves x 0 ≡ n → ⊥)
    → AreBetween (length leaves) m ss → sum_by (lent_for f leaves n) ss ≡ 0
none_lent f leaves m n [] other b = refl
none_lent f leaves m n (None ∷ ss) other b =
    let e = sum_by-cons (lent_for f leaves n) None ss in
    let further = none_lent f leaves m n ss other b in
    omega (arith, e, further)
none_lent f leaves m n (Some s ∷ ss) other b =
    let e = sum_by-cons (lent_for f leaves n) (Some s) ss in
    let here = for_other (get_or leaves s.client 0) n (f s.donation) (other s.client b.0.client) in
    let further = none_lent f leaves m n ss other b.1 in
    omega (arith, e, here, further)

none_received : (f : Amount → ℕ) (leaves : List ℕ) (m n : ℕ) (ss : List (Option Session)) → ((x : ℕ) → x < length leaves → get_or leaves x 0 ≡ n → ⊥)
    → AreBetween (length leaves) m ss → sum_by (received_for f leaves n) ss ≡ 0
none_received f leaves m n [] other b = refl
none_received f leaves m n (None ∷ ss) other b =
    let e = sum_by-cons (received_for f leaves n) None ss in
    let further = none_received f leaves m n ss other b in
    omega (arith, e, further)
none_received f leaves m n (Some s ∷ ss) other b =
    let e = sum_by-cons (received_for f leaves n) (Some s) ss in
    let here = for_other (get_or leaves s.server 0) n (f s.donation) (other s.server b.0.server) in
    let further = none_received f leaves m n ss other b.1 in
    omega (arith, e, here, further)

-- capabilities count in version 2 alone
amount_same : (version a b c d : ℕ) → a ≡ c → ((counts_caps version) ≡ true → b ≡ d) → amount_in version a b ≡ amount_in version c d
amount_same version a b c d e f = elim (cases_Bool (counts_caps version)) [
  | inl counted ↦ (λ i. amount (e i) (cond (counts_caps version) (f counted i) 0))
  | inr not ↦ (λ i. amount (e i) (cond (not i) b 0)) ∙ (λ i. amount c (cond (sym not i) d 0))
]

module _ (s : Scenario) (f : Frame) (t : Slots) (reported : List ℕ) (ready : IsReady s) (l : AreLawful t) (o : IsOf (system s) f t)
    (p : AreNodesOf s t.trades) where
  abbrev now : world.World
  now = world_seen f t

  abbrev trading : Trading
  trading = t.trades.trading

  abbrev nodes : List NodeState
  nodes = t.trades.nodes

  -- a leaf is there
  pub leaf_there : (x : ℕ) → x < length t.own → (leaf : world.Leaf) × (slice_get now.leaves x ≡ Some leaf)
  leaf_there x less = by (slice_get now.leaves x) refl (l.read f (InLeaf x 0) (less, omega arith))
    where
      by : (found : Option world.Leaf) → slice_get now.leaves x ≡ found → world.leaf_slot found 0 ≡ Some (slot_of t (InLeaf x 0))
          → (leaf : world.Leaf) × (slice_get now.leaves x ≡ Some leaf)
      by None e g = absurd (none_some g)
      by (Some leaf) e g = (leaf, e)

  all_there : AreThere s.version (system s) now reported (leaf_count s.nodes)
  all_there x less =
      let count = components-count s in
      let own = o.count in
      let c = get_within (components s) x (omega (arith, less, count)) in
      let leaf = leaf_there x (omega (arith, less, count, own)) in (c.0, leaf.0, c.1, leaf.1)

  -- a leaf's node
  node_here : (y n : ℕ) → slice_get (leaf_places 1 s.nodes) y ≡ Some n → node_of trading y ≡ n
  node_here y n e = ap (λ xs. get_or xs y 0) p.leaves ∙ get_or_from_slice_get (leaf_places 1 s.nodes) y n 0 e

  leaf_below : (y : ℕ) (leaf : world.Leaf) (c : Component) → slice_get (components s) y ≡ Some c → y < length t.own
  leaf_below y leaf c known =
      let within = slice_get_within (components s) y c known in
      let own = o.count in
      omega (arith, within, own)

  -- what each node has been handed is due to it in the world
  module _ (r : Resource) (counts : Counts r s.version) where
    due_now : (k : ℕ) (row : NodeRow) → slice_get (node_rows s) k ≡ Some row → part r (handed (node_at nodes k)) ≡ row_due r now row
    due_now k row e = by row.leaf refl
      where
        quantum : part r (node_at nodes k).quantum ≡ part r row.quantum
        quantum = ap (part r) (p.quanta k row e) ∙ given_part r s.version row.quantum counts

        by : (found : Option ℕ) → row.leaf ≡ found → part r (handed (node_at nodes k)) ≡ due r now found row.quantum
        by None is = live_part r (node_at nodes k) (p.inits k row e is) ∙ quantum
        by (Some y) is =
            let at = place_of s k row y e is in
            let own = o.count in
            let same = ap length p.leaves in
            let count = l.count in
            let within = slice_get_within (leaf_places 1 s.nodes) y k at in
            let less : y < length t.own = omega (arith, within, same, count) in
            let leaf = leaf_there y less in
            let stage : (node_at nodes k).stage ≡ stage_in (f.leaf y).phase =
            ap (λ i. (node_at nodes i).stage) (sym (node_here y k at)) ∙ o.stages y less in
            let phase : leaf.0.phase ≡ (f.leaf y).phase = phase_seen f.leaf (memory_of t) t.own t.heaps y leaf.0 leaf.1 in
            ap (λ g. part r (while_live g (node_at nodes k).quantum)) stage
            ∙ handed_now r (f.leaf y).phase (node_at nodes k).quantum
            ∙ (λ i. handed_in (sym phase i) (quantum i))
            ∙ ap (λ found. handed_to found (part r row.quantum)) (sym leaf.1)

  -- an init has what it has not handed on
  init_stored : (r : Resource) → Counts r s.version → (n m : ℕ) (row : NodeRow) → slice_get (node_rows s) n ≡ Some row → row.leaf ≡ None
      → slice_get (all_spent r now s) n ≡ Some m → IsEven (part r) trading nodes n
      → part r row.quantum - m ≡ part r (account_of trading.tree trading.ledger n).quota
  init_stored r counts n m row e is at even =
      let other : (x : ℕ) → x < length trading.leaves → get_or trading.leaves x 0 ≡ n → ⊥ = λ x less same. no_leaf x less same in
      let gave = none_lent (part r) trading.leaves (length trading.objects) n trading.sessions other l.trading.between in
      let got = none_received (part r) trading.leaves (length trading.objects) n trading.sessions other l.trading.between in
      let handed_on = spent_at r now s (part r) trading.tree nodes p.parents p.count (due_now r counts) n m at in
      let own = due_now r counts n row e ∙ ap (λ found. due r now found row.quantum) is in
      omega (arith, gave, got, handed_on, own, even)
    where
      no_leaf : (x : ℕ) → x < length trading.leaves → get_or trading.leaves x 0 ≡ n → ⊥
      no_leaf x less same =
          let own = o.count in
          let count = l.count in
          let c = get_within (components s) x (omega (arith, less, own, count)) in
          let slot_id = slot_id_of s x c.0 c.1 in
          let place : slot_id.place ≡ n = sym (node_here x slot_id.place slot_id.at) ∙ same in
          let same_row = some_same (sym e ∙ ap (slice_get (node_rows s)) (sym place) ∙ slot_id.there) in
          none_some (sym is ∙ ap (λ (r : NodeRow). r.leaf) same_row ∙ slot_id.leaf)

  -- the stored quota of each node
  quota_reported : (n : ℕ) (row : NodeRow) (a : Account) → slice_get (node_rows s) n ≡ Some row → slice_get (accounts s now reported) n ≡ Some a
      → a.quota ≡ amount_in s.version (account_of trading.tree trading.ledger n).quota.ram
      (account_of trading.tree trading.ledger n).quota.caps
  quota_reported n row a e g =
      elim (account_reported s now reported all_there n row a e g) [
        | inl i ↦
            i.quotas
            ∙ amount_same s.version (init_quota Ram now i.first row.quantum i.children) (init_quota Caps now i.first row.quantum i.children)
            (account_of trading.tree trading.ledger n).quota.ram (account_of trading.tree trading.ledger n).quota.caps
            (init_stored Ram tt n (given_on Ram now i.first i.children) row e i.is (i.handed Ram) (l.trades.even n below).0)
            (λ counted. init_stored Caps counted n (given_on Caps now i.first i.children) row e i.is (i.handed Caps) (l.trades.even n below).1)
        | inr i ↦
            let y = i.number in
            let c = i.component in
            let leaf = i.leaf in
            let less = leaf_below y leaf c i.known in
            let phase : leaf.phase ≡ (f.leaf y).phase = phase_seen f.leaf (memory_of t) t.own t.heaps y leaf i.there in
            let both = balances (system s) f t y c l less i.known o in
            let ram_of = ap (λ q. handed_in q c.node.quantum.ram) phase in
            let caps_of = ap (λ q. handed_in q c.node.quantum.caps) phase in
            let ram = both.0 in
            let caps = both.1 in
            i.quotas
            ∙ amount_same s.version (quota_in Ram now y c leaf) (quota_in Caps now y c leaf) (its_account trading y).quota.ram
            (its_account trading y).quota.caps
            (omega (arith, ram, ram_of)) (λ counted. omega (arith, caps, caps_of))
            ∙ ap (λ k. amount_in s.version (account_of trading.tree trading.ledger k).quota.ram
            (account_of trading.tree trading.ledger k).quota.caps) (node_here y n (place_of s n row y e i.is))
      ]
    where
      below : n < length trading.tree.parents
      below =
          let within = slice_get_within (node_rows s) n row e in
          let count = ap length p.parents ∙ length-map (node_rows s) _ in
          omega (arith, within, count)

pub quota_stored : (s : Scenario) (f : Frame) (t : Slots) (reported : List ℕ) (n : ℕ) (a : Account) → IsReady s → AreLawful t → IsOf (system s) f t
    → AreNodesOf s t.trades → slice_get (accounts s (world_seen f t) reported) n ≡ Some a
    → a.quota ≡ amount_in s.version (account_of t.trades.trading.tree t.trades.trading.ledger n).quota.ram
    (account_of t.trades.trading.tree t.trades.trading.ledger n).quota.caps
quota_stored s f t reported n a ready l o p g =
    let count = accounts_count s (world_seen f t) reported (all_there s f t reported ready l o p) in
    let within = slice_get_within (accounts s (world_seen f t) reported) n a g in
    let row = get_within (node_rows s) n (omega (arith, within, count)) in
    quota_reported s f t reported ready l o p n row.0 a row.1 g

-- WHAT IS HELD

pub ram_used : (s : Scenario) (f : Frame) (t : Slots) (x : ℕ) (leaf : world.Leaf) → IsReady s → AreLawful t → IsOf (system s) f t → AreNodesOf s t.trades
    → slice_get (world_seen f t).leaves x ≡ Some leaf → held Ram (world_seen f t) x leaf ≡ (its_account t.trades.trading x).used.ram
ram_used s f t x leaf ready l o p e = sym (l.held f x leaf e).ram

pub caps_used : (s : Scenario) (f : Frame) (t : Slots) (x : ℕ) (leaf : world.Leaf) → IsReady s → AreLawful t → IsOf (system s) f t → AreNodesOf s t.trades
    → slice_get (world_seen f t).leaves x ≡ Some leaf → counts_caps s.version ≡ true → held Caps (world_seen f t) x leaf
    ≡ (its_account t.trades.trading x).used.caps
caps_used s f t x leaf ready l o p e two =
    let price : t.trades.trading.ledger.price ≡ 1 = p.price ∙ ap (λ b. cond b 1 0) two in
    sym ((l.held f x leaf e).caps (λ none. omega (arith, price, none)))
