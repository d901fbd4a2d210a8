-- Where a leaf would hold and have lent more than its account can pay, its world is not paid for.
use Rattle.std.proofs.Common.{◌≡◌, ℕ, zero, suc, ◌+◌, ◌<◌, ◌≤◌, Bool, true, false, cond, eqb, inl, inr, List, [], ◌∷◌, length, Some, refl, sym, ap}
use Rattle.std.proofs.Common.{subst, arith}
use Rattle.std.specs.Prelude.{slice_get}
use Rattle.std.proofs.lemmas.Bool.Decides.{nat_tests}
use Rattle.gq_model.specs.machine.Amounts.{Resource, Ram, Caps, part}
use Rattle.gq_model.specs.machine.Scenario.{System, Component}
use Rattle.gq_model.specs.machine.Sums.{handed, held, lent, paid, received}
use Rattle.gq_model.specs.machine.World as world
use Rattle.gq_model.proofs.Small_facts.{get_within}
use Rattle.gq_store.specs.Store.{Store}
use Rattle.gq_heap.specs.declared.heap.Heap.{Heap}
use Rattle.gq_ram.specs.declared.account.Account.{Account}
use Rattle.gq_trade.specs.Numbers.{IsTaken}
use Rattle.gq_ram.specs.Account_table.{available, available_caps}
use Rattle.gq_contents.specs.declared.content.Content.{Content}
use Rattle.gq_trade.specs.declared.session.SlotId.TheVariants.{InLeaf}
use Rattle.gq_trade.specs.Trading.{client_of, its_account, server_of}
use Rattle.gq_trade.proofs.Sessions_kept.{between_at}
use Rattle.gq_slots.specs.Slots.{Frame, Slots, leaves_seen, memory_of, slot_of, world_seen}
use Rattle.gq_laws.proofs.session_links.Written_world_links.{leaf_there}
use Rattle.gq_statements.specs.Among.{IsAmong}
use Rattle.gq_statements.specs.Systems.{AreLawful, IsOf}
use Rattle.gq_statements.proofs.Leaf_quota_balance.{balances}
use Rattle.gq_statements.proofs.Unpaid_leaf_world.{not_paid}
use Rattle.gq_statements.proofs.Lawful_worlds_paid.{phase_seen}

-- what an account can still pay
abbrev pub left_in : Resource → Account → ℕ
left_in Ram a = available a
left_in Caps a = available_caps a

-- bytes are counted, and capabilities where a dataspace costs some
abbrev pub IsPriced : Resource → ℕ → Type 0
IsPriced Ram price = Unit {0}
IsPriced Caps price = price ≡ 0 → ⊥

pub most_is : (r : Resource) (a : Account) → part r a.quota ≤ part r a.used + left_in r a
most_is Ram a = omega arith
most_is Caps a = omega arith

among_at : (r : Resource) (price : ℕ) (b : Bool) → eqb price 0 ≡ b → IsPriced r price → IsAmong r (cond b (Ram ∷ []) (Ram ∷ Caps ∷ []))
among_at Ram price true e p = inl refl
among_at Ram price false e p = inl refl
among_at Caps price true e p = absurd (p (grind (arith, nat_tests, e)))
among_at Caps price false e p = inr (inl refl)

-- a leaf of the world is one of the slots'
below_own : (leaf : ℕ → world.Leaf) (st : ℕ → Store) (own : List (List Content)) (hs : List Heap) (x : ℕ) (l : world.Leaf)
    → slice_get (leaves_seen leaf st own hs) x ≡ Some l → x < length own
below_own leaf st [] hs x l e = cc
below_own leaf st (ts ∷ own) [] x l e = cc
below_own leaf st (ts ∷ own) (h ∷ hs) zero l e = omega arith
below_own leaf st (ts ∷ own) (h ∷ hs) (suc x) l e =
    let lt = below_own (λ y. leaf (suc y)) (λ y. st (suc y)) own hs x l e in
    omega (arith, lt)

-- there is such a leaf in the world
abbrev pub HasLeaf : Frame → Slots → ℕ → Type 0
HasLeaf f s x = (leaf : world.Leaf) × (slice_get (world_seen f s).leaves x ≡ Some leaf)

-- each leaf of the slots has a slot that reads in the world
pub has_leaf : (f : Frame) (s : Slots) (x : ℕ) → AreLawful s → x < length s.own → HasLeaf f s x
has_leaf f s x l lt =
    let t = leaf_there (world_seen f s) x 0 (slot_of s (InLeaf x 0)) (l.read f (InLeaf x 0) (lt, omega arith)) in (t.0, t.1)

-- so have the client and the server of a session
pub client_leaf : (f : Frame) (s : Slots) (k : ℕ) → AreLawful s → IsTaken s.trades.trading.sessions k → HasLeaf f s (client_of s.trades.trading k)
client_leaf f s k l there =
    let t = s.trades.trading in
    has_leaf f s (client_of t k) l (omega (arith, (between_at (length t.leaves) (length t.objects) t.sessions k l.trading.between there).client, l.count))

pub server_leaf : (f : Frame) (s : Slots) (k : ℕ) → AreLawful s → IsTaken s.trades.trading.sessions k → HasLeaf f s (server_of s.trades.trading k)
server_leaf f s k l there =
    let t = s.trades.trading in
    has_leaf f s (server_of t k) l (omega (arith, (between_at (length t.leaves) (length t.objects) t.sessions k l.trading.between there).server, l.count))

module _ (system : System) (f : Frame) (s : Slots) (l : AreLawful s) (o : IsOf system f s) (x : ℕ) (leaf : world.Leaf)
    (stands : slice_get (world_seen f s).leaves x ≡ Some leaf) where
  abbrev w : world.World
  w = world_seen f s

  abbrev account : Account
  account = its_account s.trades.trading x

  below : x < length s.own
  below = below_own f.leaf (memory_of s) s.own s.heaps x leaf stands

  component : (c : Component) × (slice_get system.components x ≡ Some c)
  component = get_within system.components x (omega (arith, below, o.count))

  -- what it was handed and has received is its quota and what it has lent
  balance : (r : Resource) → handed leaf.phase (part r component.0.node.quantum) + received r w x ≡ part r account.quota + lent r w x
  balance Ram =
      let b = balances system f s x component.0 l below component.1 o in
      let e = ap (λ p. handed p component.0.node.quantum.ram) (phase_seen f.leaf (memory_of s) s.own s.heaps x leaf stands) in
      omega (arith, b.0, e)
  balance Caps =
      let b = balances system f s x component.0 l below component.1 o in
      let e = ap (λ p. handed p component.0.node.quantum.caps) (phase_seen f.leaf (memory_of s) s.own s.heaps x leaf stands) in
      omega (arith, b.1, e)

  used_is : (r : Resource) → IsPriced r s.trades.trading.ledger.price → part r account.used ≡ held r w x leaf
  used_is Ram p = (l.held f x leaf stands).ram
  used_is Caps p = (l.held f x leaf stands).caps p

  among : (r : Resource) → IsPriced r s.trades.trading.ledger.price → IsAmong r system.counted
  among r p =
      let price = s.trades.trading.ledger.price in
      subst (IsAmong r) (sym o.counted) (among_at r price (eqb price 0) refl p)

  -- the account can't pay what the leaf would hold and have lent more, or have received less
  pub short : (r : Resource) → IsPriced r s.trades.trading.ledger.price → (v : world.World) → slice_get v.leaves x ≡ Some leaf
      → left_in r account + held r w x leaf + lent r w x + received r v x < held r v x leaf + lent r v x + received r w x → paid system v ≡ false
  short r p v there more =
      let b = balance r in
      let u = used_is r p in
      let m = most_is r account in
      not_paid system v x component.0 leaf r component.1 there (among r p) (omega (arith, b, u, m, more))
