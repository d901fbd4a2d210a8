-- At first no slot holds anything.
use Rattle.std.proofs.Common.{◌≡◌, ℕ, zero, suc, ◌+◌, ◌-◌, ◌<◌, Bool, true, false, cond, eqb, List, [], ◌∷◌, ◌++◌, get_or, length, replicate, Option, Some}
use Rattle.std.proofs.Common.{None, refl, sym, ap, subst, ◌∙◌, arith}
use Rattle.std.proofs.lemmas.List.{get_or-replicate, length-replicate, length-append, append-nil}
use Rattle.gq_tariff.specs.Prices.{classes}
use Rattle.gq_model.specs.machine.Amounts.{Resource, Ram, Caps}
use Rattle.gq_model.specs.machine.Resource_prices.{heap as class_prices}
use Rattle.gq_store.specs.Store.{Store, plus_caps}
use Rattle.gq_heap.specs.declared.heap.Heap.{Heap}
use Rattle.gq_ram.specs.Account_table.{no_amount}
use Rattle.gq_trade.specs.Numbers.{IsTaken}
use Rattle.gq_contents.specs.declared.content.Content.TheVariants.{Empty}
use Rattle.gq_contents.specs.Contents_invariant.{KeepsContents}
use Rattle.gq_contents.specs.Paid.{cost, places_used, raised_by}
use Rattle.gq_contents.proofs.Content_caller_facts.{empty_kept}
use Rattle.gq_trade.specs.Trading.{its_account, node_of}
use Rattle.gq_trade.specs.declared.session.Session.{Session}
use Rattle.gq_trade.specs.declared.trade_node.NodeState.{NodeState}
use Rattle.gq_trade.specs.Trades_plan.{IsFirst, IsPlan}
use Rattle.gq_slots.specs.Slots.{AreNew, IsNew, Slots, memory_of}
use Rattle.gq_slots.specs.internal.Slots_invariant.{AreObjects, AreUnmade, IsHolder, IsSlots, held_by, session_contents, contents}
use Rattle.gq_slots.proofs.Leaf_holding_sums.{raised_same}

new_one : (hs : List Heap) (g : Heap) → IsNew g → ((x : ℕ) (h : Heap) → x < length hs → IsNew (get_or hs x h))
    → (x : ℕ) (h : Heap) → x < length hs + 1 → IsNew (get_or (hs ++ g ∷ []) x h)
new_one [] g is each zero h lt = is
new_one [] g is each (suc x) h lt = absurd (omega (arith, lt))
new_one (a ∷ hs) g is each zero h lt = each zero h (omega arith)
new_one (a ∷ hs) g is each (suc x) h lt = new_one hs g is (λ y k l. each (suc y) k (omega (arith, l))) x h (omega (arith, lt))

pub new_more : (n : ℕ) (hs : List Heap) (g : Heap) → AreNew n hs → IsNew g → AreNew (n + 1) (hs ++ g ∷ [])
new_more n hs g are is = record {
  count = length-append hs (g ∷ []) ∙ ap (λ m. m + 1) are.count;
  each = λ x h lt. new_one hs g is (λ y k l. are.each y k (omega (arith, l, are.count))) x h (omega (arith, lt, are.count));
}

pub new_none : AreNew 0 []
new_none = record { count = refl; each = λ x h lt. absurd (omega (arith, lt)) }

-- EMPTY LEAVES

no_cost : (r : Resource) (st : Store) (n : ℕ) → cost r st (replicate n Empty) ≡ 0
no_cost r st zero = refl
no_cost r st (suc n) = let e = no_cost r st n in omega (arith, e)

no_places : (st : Store) (n c : ℕ) → places_used st (replicate n Empty) c ≡ 0
no_places st zero c = refl
no_places st (suc n) c = let e = no_places st n c in omega (arith, e)

no_prices : (r : Resource) → class_prices r (replicate 8 0) ≡ 0
no_prices Ram = refl
no_prices Caps = refl

no_caps : (quota used : ℕ) (b : Bool) → used ≡ 0 → plus_caps 0 (cond b None (Some (quota - used))) ≡ cond b None (Some quota)
no_caps quota used true e = refl
no_caps quota used false e = let f : quota - used + 0 ≡ quota = omega (arith, e) in ap Some f

-- no session is taken
none_taken : (k : ℕ) → IsTaken {A = Session} [] k → ⊥
none_taken zero t = cc
none_taken (suc k) t = cc

-- an empty leaf x, whose heap is new, with nothing in use
module _ (s : Slots) (x : ℕ) (h : Heap) (own : get_or s.own x [] ≡ replicate 64 Empty) (none : session_contents x s.trades.trading.sessions ≡ [])
    (new : IsNew h)
    (unused : (its_account s.trades.trading x).used ≡ no_amount) where
  contents_are : contents s x ≡ replicate 64 Empty
  contents_are = (λ k. own k ++ none k) ∙ append-nil (replicate 64 Empty)

  held_none : (r : Resource) → held_by r s x h ≡ 0
  held_none r =
      let a = ap (cost r (memory_of s x)) contents_are in
      let b = ap (class_prices r) new.peaks in
      omega (arith, a, b, no_cost r (memory_of s x) 64, no_prices r)

  pub holder_first : IsHolder s x h
  holder_first = record {
    keeps = subst (KeepsContents h (memory_of s x)) (sym contents_are) (empty_kept h (memory_of s x) 64 (new.keeps (memory_of s x)));
    ram = omega (arith, held_none Ram, ap (λ a. a.ram) unused);
    caps = ap (λ n. plus_caps n (memory_of s x).caps) (held_none Caps)
        ∙ no_caps (its_account s.trades.trading x).quota.caps (its_account s.trades.trading x).used.caps (eqb s.trades.trading.ledger.price 0)
        (ap (λ a. a.caps) unused);
    peaked = (λ k. raised_by (places_used (memory_of s x) (contents_are k)) classes (new.peaks k))
        ∙ raised_same (places_used (memory_of s x) (replicate 64 Empty)) (λ c. 0) classes (replicate 8 0) (no_places (memory_of s x) 64) ∙ sym new.peaks;
    eight = ap length new.peaks;
  }

pub first_slots : (total : ℕ) (caps : Option ℕ) (ps : List ℕ) (ns : List NodeState) (xs os : List ℕ) (n : ℕ) (s : Slots) → IsPlan total caps ps ns xs os
    → IsFirst total caps ps ns xs os n s.trades → s.own ≡ replicate (length xs) (replicate 64 Empty) → AreNew (length xs) s.heaps → IsSlots s
first_slots total caps ps ns xs os n s plan first own new =
    let count : length s.own ≡ length xs = ap length own ∙ length-replicate (length xs) (replicate 64 Empty) in
    let bank : (x : ℕ) → x < length s.own → get_or s.own x [] ≡ replicate 64 Empty =
    λ x lt. ap (λ ys. get_or ys x []) own ∙ get_or-replicate (length xs) x (replicate 64 Empty) [] (omega (arith, lt, count)) in
    record {
      count = count ∙ sym (ap length first.leaves);
      heaps = new.count ∙ sym (ap length first.leaves);
      long = record {
        own = λ x lt. ap length (bank x lt);
        slots = λ k t. absurd (none_taken k (subst (λ ss. IsTaken ss k) first.sessions t));
      };
      sound = record {
        objects = subst AreObjects (sym first.sessions) tt;
        unmade = subst (AreUnmade s.trades.trading.sessions) (sym first.requests) tt;
      };
      holders = λ x h lt. holder_first s x (get_or s.heaps x h) (bank x lt) (ap (session_contents x) first.sessions) (new.each x h (omega (arith, lt, count)))
          (first.unused (node_of s.trades.trading x) (subst (λ ys. get_or ys x 0 < length ps) (sym first.leaves) (plan.within x (omega (arith, lt, count)))));
    }
