-- What each leaf holds is what its account uses, and its peaks are no less than what is in use.
use Rattle.std.proofs.Common.{◌≡◌, ℕ, zero, suc, ◌+◌, ◌-◌, ◌<◌, ◌≤◌, Bool, true, false, cond, eqb, List, [], ◌∷◌, get_or, length, Some, None, refl, sym, ap}
use Rattle.std.proofs.Common.{subst, ◌∙◌, arith}
use Rattle.std.specs.Prelude.{slice_get}
use Rattle.std.proofs.lemmas.Bool.Decides.{nat_tests}
use Rattle.gq_tariff.specs.Prices.{classes}
use Rattle.gq_model.specs.machine.Amounts.{Ram, Caps}
use Rattle.gq_model.specs.machine.World as world
use Rattle.gq_store.specs.Store.{Store, plus_caps}
use Rattle.gq_heap.specs.declared.heap.Heap.{Heap}
use Rattle.gq_heap.specs.Heap.{peaks}
use Rattle.gq_ram.specs.Ledgers.{IsBalanced}
use Rattle.gq_contents.specs.declared.content.Content.{Content}
use Rattle.gq_trade.specs.Trading.{account_of, its_account}
use Rattle.gq_slots.specs.Slots.{Slots, Frame, IsPaidFor, leaf_seen, leaves_seen, memory_of, world_seen}
use Rattle.gq_slots.specs.internal.Slots_invariant.{IsHolder, IsSlots, held_by}
use Rattle.gq_slots.proofs.Leaf_holding_sums.{held_is, raised_is}
use Rattle.gq_slots.proofs.Slot_change_worlds.{leaf_at}

pub leaf_below : (leaf : ℕ → world.Leaf) (st : ℕ → Store) (own : List (List Content)) (hs : List Heap) (x : ℕ) (l : world.Leaf)
    → slice_get (leaves_seen leaf st own hs) x ≡ Some l → x < length own
leaf_below leaf st [] hs x l e = cc
leaf_below leaf st (ts ∷ own) [] x l e = cc
leaf_below leaf st (ts ∷ own) (h ∷ hs) zero l e = omega arith
leaf_below leaf st (ts ∷ own) (h ∷ hs) (suc x) l e =
    let lt = leaf_below (λ y. leaf (suc y)) (λ y. st (suc y)) own hs x l e in
    omega (arith, lt)

-- the heap of a leaf
pub record HasHeap (hs : List Heap) (x : ℕ) : Type 0 where
  pub heap : Heap
  pub is : get_or hs x heap ≡ heap

pub heap_in : (hs : List Heap) (x : ℕ) → x < length hs → HasHeap hs x
heap_in [] x lt = absurd (omega (arith, lt))
heap_in (h ∷ hs) zero lt = record { heap = h; is = refl }
heap_in (h ∷ hs) (suc x) lt = let r = heap_in hs x (omega (arith, lt)) in record { heap = r.heap; is = r.is }

caps_here : (price used quota held : ℕ) (b : Bool) → eqb price 0 ≡ b → used ≤ quota
    → plus_caps held (cond b None (Some (quota - used))) ≡ cond b None (Some quota) → (price ≡ 0 → ⊥) → used ≡ held
caps_here price used quota held true e le q ne = absurd (ne (grind (arith, nat_tests, e)))
caps_here price used quota held false e le q ne = let f : quota - used + held ≡ quota = cc in omega (arith, f, le)

pub some_is : {A : Type 0} (a b : A) → Some a ≡ Some b → a ≡ b
some_is a b e = cc

paid_here : (f : Frame) (s : Slots) (x : ℕ) (h : Heap) → IsSlots s → IsBalanced s.trades.trading.ledger → IsHolder s x h
    → IsPaidFor (world_seen f s) s.trades.trading x (leaf_seen (f.leaf x) (memory_of s x) (get_or s.own x []) h)
paid_here f s x h i b o =
    let t = s.trades.trading in
    let a = its_account t x in
    let ram = held_is f s x h (f.leaf x) Ram in
    let caps = held_is f s x h (f.leaf x) Caps in
    record {
      ram = omega (arith, ram, o.ram, b.within (account_of t x));
      caps = λ ne. caps_here t.ledger.price a.used.caps a.quota.caps (held_by Caps s x h) (eqb t.ledger.price 0) refl
          (b.caps_within (account_of t x)) o.caps ne ∙ sym caps;
      peaked = ap (λ ps. record (leaf_seen (f.leaf x) (memory_of s x) (get_or s.own x []) h) { peaks = ps })
          (raised_is f s x h (f.leaf x) classes (peaks h) i.sound.objects ∙ o.peaked);
    }

pub paid_at : (f : Frame) (s : Slots) (x : ℕ) (l : world.Leaf) → IsSlots s → IsBalanced s.trades.trading.ledger
    → slice_get (world_seen f s).leaves x ≡ Some l → IsPaidFor (world_seen f s) s.trades.trading x l
paid_at f s x l i b e =
    let lt = leaf_below f.leaf (memory_of s) s.own s.heaps x l e in
    let lh : x < length s.heaps = omega (arith, lt, i.count, i.heaps) in
    let r = heap_in s.heaps x lh in
    let h = r.heap in
    let there = leaf_at f.leaf (memory_of s) s.own s.heaps x h lt lh in
    let same : l ≡ leaf_seen (f.leaf x) (memory_of s x) (get_or s.own x []) (get_or s.heaps x h) =
    some_is l (leaf_seen (f.leaf x) (memory_of s x) (get_or s.own x []) (get_or s.heaps x h)) (sym e ∙ there) in
    subst (IsPaidFor (world_seen f s) s.trades.trading x) (sym same)
    (paid_here f s x (get_or s.heaps x h) i b (i.holders x h lt))
