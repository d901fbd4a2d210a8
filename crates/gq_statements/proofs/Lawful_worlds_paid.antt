-- In the world of lawful slots every leaf is paid for.
use Rattle.std.proofs.Common.{◌≡◌, ℕ, zero, suc, ◌<◌, Bool, true, false, cond, eqb, ◌&&◌, List, [], ◌∷◌, length, Some, refl, sym, ap, ◌∙◌, subst}
use Rattle.std.proofs.Common.{arith}
use Rattle.std.specs.Prelude.{slice_get}
use Rattle.std.proofs.lemmas.Bool.{le-leb}
use Rattle.std.proofs.lemmas.Bool.Decides.{nat_tests}
use Rattle.gq_model.specs.machine.Amounts.{Ram, Caps}
use Rattle.gq_model.specs.machine.Scenario.{System, Component}
use Rattle.gq_model.specs.machine.World as world
use Rattle.gq_model.specs.machine.Sums.{are_paid, handed, is_paid, paid}
use Rattle.gq_store.specs.Store.{Store}
use Rattle.gq_heap.specs.declared.heap.Heap.{Heap}
use Rattle.gq_contents.specs.declared.content.Content.{Content}
use Rattle.gq_trade.specs.Trading.{account_of}
use Rattle.gq_slots.specs.Slots.{Frame, Slots, leaves_seen, memory_of, world_seen}
use Rattle.gq_laws.proofs.quota_payment.Written_world_prices.{paid_all}
use Rattle.gq_statements.specs.Systems.{AreLawful, IsOf}
use Rattle.gq_statements.proofs.Leaf_quota_balance.{balances}

-- a place at which something is found is one of the list's
pub found_below : {A : Type 0} (items : List A) (i : ℕ) (a : A) → slice_get items i ≡ Some a → i < length items
found_below [] i a e = cc
found_below (b ∷ items) zero a e = omega arith
found_below (b ∷ items) (suc i) a e = let lt = found_below items i a e in omega (arith, lt)

-- a leaf is in the phase that the frame gives
pub phase_seen : (leaf : ℕ → world.Leaf) (st : ℕ → Store) (own : List (List Content)) (hs : List Heap) (x : ℕ) (l : world.Leaf)
    → slice_get (leaves_seen leaf st own hs) x ≡ Some l → l.phase ≡ (leaf x).phase
phase_seen leaf st [] hs x l e = cc
phase_seen leaf st (ts ∷ own) [] x l e = cc
phase_seen leaf st (ts ∷ own) (h ∷ hs) zero l e = cc
phase_seen leaf st (ts ∷ own) (h ∷ hs) (suc x) l e = phase_seen (λ y. leaf (suc y)) (λ y. st (suc y)) own hs x l e

-- what is counted is paid, where bytes are and capabilities that have a price
paid_counted : (w : world.World) (x : ℕ) (c : Component) (leaf : world.Leaf) (price : ℕ) (b : Bool) → eqb price 0 ≡ b → is_paid w x c leaf Ram ≡ true
    → ((price ≡ 0 → ⊥) → is_paid w x c leaf Caps ≡ true) → are_paid w x c leaf (cond b (Ram ∷ []) (Ram ∷ Caps ∷ [])) ≡ true
paid_counted w x c leaf price true e ram caps = λ i. ram i && true
paid_counted w x c leaf price false e ram caps =
    let ne : price ≡ 0 → ⊥ = λ f. grind (arith, nat_tests, e, f) in
    λ i. ram i && (caps ne i && true)

module _ (system : System) (f : Frame) (s : Slots) (l : AreLawful s) (o : IsOf system f s) where
  one_paid : (x : ℕ) (c : Component) (leaf : world.Leaf) → slice_get system.components x ≡ Some c → slice_get (world_seen f s).leaves x ≡ Some leaf
      → are_paid (world_seen f s) x c leaf system.counted ≡ true
  one_paid x c leaf there stands =
      let w = world_seen f s in
      let t = s.trades.trading in
      let lt : x < length s.own = omega (arith, found_below system.components x c there, o.count) in
      let p = l.held f x leaf stands in
      let e = phase_seen f.leaf (memory_of s) s.own s.heaps x leaf stands in
      let b = balances system f s x c l lt there o in
      let ram = ap (λ q. handed q c.node.quantum.ram) e in
      let caps = ap (λ q. handed q c.node.quantum.caps) e in
      subst (λ rs. are_paid w x c leaf rs ≡ true) (sym o.counted)
      (paid_counted w x c leaf t.ledger.price (eqb t.ledger.price 0) refl
      (le-leb _ _ (omega (arith, b.0, ram, p.ram, l.balanced.within (account_of t x))))
      (λ ne. (let h = p.caps ne in le-leb _ _ (omega (arith, b.1, caps, h, l.balanced.caps_within (account_of t x))))))

-- In the world of lawful slots all is paid.
pub all_paid : (system : System) (f : Frame) (s : Slots) → AreLawful s → IsOf system f s → paid system (world_seen f s) ≡ true
all_paid system f s l o =
    paid_all system.counted (world_seen f s) 0 system.components (world_seen f s).leaves
    (λ i c leaf there stands x at. (let e : i ≡ x = omega (arith, at) in
    one_paid system f s l o x c leaf (ap (slice_get system.components) (sym e) ∙ there) (ap (slice_get (world_seen f s).leaves) (sym e) ∙ stands)))
