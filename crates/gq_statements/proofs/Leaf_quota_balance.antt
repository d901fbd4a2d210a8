-- What a leaf was handed and has received, by the machine's sums, is the quota of its account and what it has lent.
use Rattle.std.proofs.Common.{◌≡◌, ℕ, ◌+◌, ◌<◌, inl, inr, eqb, cond, List, [], ◌∷◌, length, map, get_or, Option, Some, None, refl, sym, ap, ◌∙◌, arith}
use Rattle.std.specs.Prelude.{slice_get, sum_by}
use Rattle.std.proofs.lemmas.Bool.{cases_eq}
use Rattle.std.proofs.lemmas.Bool.Decides.{nat_tests}
use Rattle.std.proofs.lemmas.List.Sums.{sum_by-cons}
use Rattle.gq_tariff.specs.declared.amount.Amount.{Amount}
use Rattle.gq_model.specs.machine.Amounts.{Resource, Ram, Caps, part}
use Rattle.gq_model.specs.machine.Scenario.{System, Component}
use Rattle.gq_model.specs.machine.World as world
use Rattle.gq_model.specs.machine.Sums.{donated, from_leaf, handed, lent, received, to_leaf}
use Rattle.gq_model.specs.declared.phase.Phase.{Phase}
use Rattle.gq_model.specs.declared.phase.Phase.TheVariants as phase
use Rattle.gq_store.specs.Store.{Store}
use Rattle.gq_trade.specs.declared.session.Session.{Session}
use Rattle.gq_trade.specs.Seen_sessions.{seen_in, session_seen}
use Rattle.gq_trade.specs.Trading.{AreBetween, Trading, its_account, node_of}
use Rattle.gq_trade.specs.Balances as balance
use Rattle.gq_trade.specs.Balances.{IsEven, lent_for, node_at, received_for, while_live}
use Rattle.gq_trade.proofs.Init_spending.{spent_none}
use Rattle.gq_slots.specs.Slots.{Frame, Slots, memory_of, world_seen}
use Rattle.gq_statements.specs.Systems.{AreLawful, IsOf, stage_in}

-- LEAVES BY THEIR NODES

-- leaves are the same where their nodes are
same_leaf : (leaves : List ℕ) (x y : ℕ) → (get_or leaves y 0 ≡ get_or leaves x 0 → y ≡ x) → eqb (get_or leaves y 0) (get_or leaves x 0) ≡ eqb y x
same_leaf leaves x y apart = elim (cases_eq y x) [
  | inl e ↦ (let f = ap (λ z. get_or leaves z 0) e in grind (arith, nat_tests, e, f))
  | inr ne ↦ (let f : get_or leaves y 0 ≡ get_or leaves x 0 → ⊥ = λ g. ne (apart g) in grind (arith, nat_tests, ne, f))
]

given_here : (r : Resource) (names : List (List ℕ)) (st : Store) (s : Session) → donated r (session_seen names st s) ≡ part r s.donation
given_here Ram names st s = refl
given_here Caps names st s = refl

module _ (names : List (List ℕ)) (st : ℕ → Store) (leaves : List ℕ) (m x : ℕ) (lt : x < length leaves)
    (apart : (y z : ℕ) → y < length leaves → z < length leaves → get_or leaves y 0 ≡ get_or leaves z 0 → y ≡ z) (r : Resource) where
  abbrev seen_one : Session → world.Session
  seen_one s = session_seen names (st s.server) s

  received_is : (ss : List (Option Session)) → AreBetween (length leaves) m ss
      → sum_by (to_leaf x (donated r)) (map (seen_in seen_one) ss) ≡ sum_by (received_for (part r) leaves (get_or leaves x 0)) ss
  received_is [] b = refl
  received_is (None ∷ ss) b =
      let e = sum_by-cons (to_leaf x (donated r)) None (map (seen_in seen_one) ss) in
      let f = sum_by-cons (received_for (part r) leaves (get_or leaves x 0)) None ss in
      omega (arith, e, f, received_is ss b)
  received_is (Some s ∷ ss) b =
      let e = sum_by-cons (to_leaf x (donated r)) (Some (seen_one s)) (map (seen_in seen_one) ss) in
      let f = sum_by-cons (received_for (part r) leaves (get_or leaves x 0)) (Some s) ss in
      let test = same_leaf leaves x s.server (apart s.server x b.0.server lt) in
      let here : cond (eqb s.server x) (donated r (seen_one s)) 0 ≡ cond (eqb (get_or leaves s.server 0) (get_or leaves x 0)) (part r s.donation) 0 =
      (λ i. cond (sym test i) (given_here r names (st s.server) s i) 0) in
      omega (arith, e, f, here, received_is ss b.1)

  lent_is : (ss : List (Option Session)) → AreBetween (length leaves) m ss
      → sum_by (from_leaf x (donated r)) (map (seen_in seen_one) ss) ≡ sum_by (lent_for (part r) leaves (get_or leaves x 0)) ss
  lent_is [] b = refl
  lent_is (None ∷ ss) b =
      let e = sum_by-cons (from_leaf x (donated r)) None (map (seen_in seen_one) ss) in
      let f = sum_by-cons (lent_for (part r) leaves (get_or leaves x 0)) None ss in
      omega (arith, e, f, lent_is ss b)
  lent_is (Some s ∷ ss) b =
      let e = sum_by-cons (from_leaf x (donated r)) (Some (seen_one s)) (map (seen_in seen_one) ss) in
      let f = sum_by-cons (lent_for (part r) leaves (get_or leaves x 0)) (Some s) ss in
      let test = same_leaf leaves x s.client (apart s.client x b.0.client lt) in
      let here : cond (eqb s.client x) (donated r (seen_one s)) 0 ≡ cond (eqb (get_or leaves s.client 0) (get_or leaves x 0)) (part r s.donation) 0 =
      (λ i. cond (sym test i) (given_here r names (st s.server) s i) 0) in
      omega (arith, e, f, here, lent_is ss b.1)

-- QUANTA

handed_in : (r : Resource) (p : Phase) (n : Amount) → part r (while_live (stage_in p) n) ≡ handed p (part r n)
handed_in Ram phase.Pending n = refl
handed_in Ram phase.Running n = refl
handed_in Ram phase.Blocked n = refl
handed_in Ram phase.Serving n = refl
handed_in Ram phase.Handling n = refl
handed_in Ram phase.Exited n = refl
handed_in Caps phase.Pending n = refl
handed_in Caps phase.Running n = refl
handed_in Caps phase.Blocked n = refl
handed_in Caps phase.Serving n = refl
handed_in Caps phase.Handling n = refl
handed_in Caps phase.Exited n = refl

-- EACH LEAF

module _ (system : System) (f : Frame) (s : Slots) (x : ℕ) (c : Component) (l : AreLawful s) (lt : x < length s.own)
    (there : slice_get system.components x ≡ Some c) (o : IsOf system f s) where
  abbrev t : Trading
  t = s.trades.trading

  leaf_is : x < length t.leaves
  leaf_is = omega (arith, lt, l.count)

  quantum_is : (r : Resource) → part r (balance.handed (node_at s.trades.nodes (node_of t x))) ≡ handed (f.leaf x).phase (part r c.node.quantum)
  quantum_is r =
      (λ i. part r (while_live (o.stages x lt i) (o.quanta x c there i))) ∙ handed_in r (f.leaf x).phase c.node.quantum

  balances_of : (r : Resource) → IsEven (part r) t s.trades.nodes (node_of t x)
      → handed (f.leaf x).phase (part r c.node.quantum) + received r (world_seen f s) x ≡ part r (its_account t x).quota + lent r (world_seen f s) x
  balances_of r even =
      let ts = l.trades.settled in
      let none = spent_none (part r) t.tree (map balance.handed s.trades.nodes) (node_of t x) (λ j pos below e. ts.childless x j leaf_is pos below e) in
      let a = received_is f.names (memory_of s) t.leaves (length t.objects) x leaf_is l.trading.apart r t.sessions l.trading.between in
      let b = lent_is f.names (memory_of s) t.leaves (length t.objects) x leaf_is l.trading.apart r t.sessions l.trading.between in
      omega (arith, none, a, b, quantum_is r, even)

-- What a leaf was handed and has received is its quota and what it has lent, of bytes and of capabilities.
pub balances : (system : System) (f : Frame) (s : Slots) (x : ℕ) (c : Component) → AreLawful s → x < length s.own
    → slice_get system.components x ≡ Some c → IsOf system f s
    → (handed (f.leaf x).phase c.node.quantum.ram + received Ram (world_seen f s) x ≡ (its_account s.trades.trading x).quota.ram + lent Ram (world_seen f s) x)
    × (handed (f.leaf x).phase c.node.quantum.caps + received Caps (world_seen f s) x
    ≡ (its_account s.trades.trading x).quota.caps + lent Caps (world_seen f s) x)
balances system f s x c l lt there o =
    let even = l.trades.even (node_of s.trades.trading x) (l.trading.leaves x (leaf_is system f s x c l lt there o)) in
    (balances_of system f s x c l lt there o Ram even.0, balances_of system f s x c l lt there o Caps even.1)
