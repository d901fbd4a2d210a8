-- What one place more in use of a class costs, and which blocks are places of a class.
use Rattle.std.proofs.Common.{◌≡◌, ℕ, suc, ◌+◌, ◌*◌, ◌<◌, ◌≤◌, max, inl, inr, Bool, true, false, cond, eqb, ltb, List, [], ◌∷◌, length, length-set, set, get_or}
use Rattle.std.proofs.Common.{get_or-set_same, get_or-set_other, Some, refl, sym, ap, subst, ◌∙◌, zero-add, arith}
use Rattle.std.proofs.lemmas.Bool.{cases_eq}
use Rattle.std.proofs.lemmas.Bool.Decides.{nat_tests}
use Rattle.std.proofs.lemmas.Nat.{mul-le}
use Rattle.gq_tariff.specs.Prices.{classes, class_size, size_for}
use Rattle.gq_tariff.specs.declared.class.Class.{Class}
use Rattle.gq_model.specs.machine.Amounts.{Resource, Ram, Caps}
use Rattle.gq_model.specs.machine.Resource_prices.{heap as class_prices}
use Rattle.gq_model.specs.machine.Sums.{places}
use Rattle.gq_model.specs.machine.World as world
use Rattle.gq_store.specs.Store.{Store}
use Rattle.gq_heap.specs.declared.bin.Bin.{Bin}
use Rattle.gq_heap.specs.declared.heap.Heap.{Heap}
use Rattle.gq_heap.specs.Bins.{bin_price, next_peak}
use Rattle.gq_heap.specs.Classes.{class_for, index_of, size_at}
use Rattle.gq_heap.specs.Heap.{bin_at, no_bin, peak_of, peaks, peaks_of, rise, rise_caps}
use Rattle.gq_heap.proofs.Heap_class_charges.{pages_are, price_is}
use Rattle.gq_heap.proofs.ClassLaws.{index_below, number_is, size_is}
use Rattle.gq_heap.proofs.Heap_charge_rises.{caps_small, price_set, rise_small}
use Rattle.gq_contents.specs.declared.content.Content.{Content}
use Rattle.gq_contents.specs.declared.content.Content.TheVariants.{Empty, Block, Slice, Space, Pool, Link, Waiting}
use Rattle.gq_contents.specs.Contents.{IsContent, entry_size}
use Rattle.gq_contents.specs.Contents_invariant.{KeepsContents}
use Rattle.gq_contents.specs.Paid.{places_used, raised_by}
use Rattle.gq_contents.proofs.Content_lists.{each_prefix}
use Rattle.gq_contents.proofs.Content_heap_peaks.{counts_are, raised_is}
use Rattle.gq_trade.specs.declared.session.SlotId.{SlotId}
use Rattle.gq_trade.specs.declared.session.SlotId.TheVariants.{InLeaf, InSession, InObject}
use Rattle.gq_trade.specs.Trading.{IsTrading}
use Rattle.gq_trade.proofs.Sessions_kept.{between_at}
use Rattle.gq_slots.specs.Slots.{AreRises, AreSmallEntries, IsSlotId, Slots, holder, leaf_seen, memory_of, one_more_of, rise_of, content_at, world_seen}
use Rattle.gq_slots.specs.internal.Slots_invariant.{IsHolder, IsSlots, contents}
use Rattle.gq_slots.proofs.Leaf_use_paid.{heap_in, leaf_below, some_is}
use Rattle.gq_slots.proofs.Slot_content_positions.{back, prefix, split_now}
use Rattle.gq_slots.proofs.Leaf_holding_sums.{places_is, raised_same}
use Rattle.gq_slots.proofs.Slot_change_worlds.{leaf_at}

-- THE CLASS OF A BLOCK

-- the size and the number of the least class, by the tests of the eight sizes
size_by : (a b c d e f g h : Bool) → h ≡ false
    → cond a (cond b (cond c (cond d (cond e (cond f (cond g (cond h 0 2048) 1024) 512) 256) 128) 64) 32) 16
    ≡ size_at (cond a (suc (cond b (suc (cond c (suc (cond d (suc (cond e (suc (cond f (suc (cond g (suc (cond h 1 0)) 0)) 0)) 0)) 0)) 0)) 0)) 0)
unfolding size_at
size_by false b c d e f g h l = refl
size_by true false c d e f g h l = refl
size_by true true false d e f g h l = refl
size_by true true true false e f g h l = refl
size_by true true true true false f g h l = refl
size_by true true true true true false g h l = refl
size_by true true true true true true false h l = refl
size_by true true true true true true true false l = refl
size_by true true true true true true true true l = absurd (cc)

few_by : (a b c d e f g h : Bool) → h ≡ false
    → cond a (suc (cond b (suc (cond c (suc (cond d (suc (cond e (suc (cond f (suc (cond g (suc (cond h 1 0)) 0)) 0)) 0)) 0)) 0)) 0)) 0 < 8
few_by false b c d e f g h l = omega arith
few_by true false c d e f g h l = omega arith
few_by true true false d e f g h l = omega arith
few_by true true true false e f g h l = omega arith
few_by true true true true false f g h l = omega arith
few_by true true true true true false g h l = omega arith
few_by true true true true true true false h l = omega arith
few_by true true true true true true true false l = omega arith
few_by true true true true true true true true l = absurd (cc)

most : (n : ℕ) → n ≤ 2048 → ltb 2048 n ≡ false
most n le = grind (arith, nat_tests, le)

size_of_class : (n : ℕ) → n ≤ 2048 → size_for n ≡ size_at (class_for n)
size_of_class n le = size_by (ltb 16 n) (ltb 32 n) (ltb 64 n) (ltb 128 n) (ltb 256 n) (ltb 512 n) (ltb 1024 n) (ltb 2048 n) (most n le)

class_below : (n : ℕ) → n ≤ 2048 → class_for n < 8
class_below n le = few_by (ltb 16 n) (ltb 32 n) (ltb 64 n) (ltb 128 n) (ltb 256 n) (ltb 512 n) (ltb 1024 n) (ltb 2048 n) (most n le)

as_many : (bs : List Bin) → length (peaks_of bs) ≡ length bs
as_many [] = refl
as_many (b ∷ bs) = ap suc (as_many bs)

-- ONE PLACE MORE

max_same : (p m n : ℕ) → n ≤ p → m ≡ n → p ≡ max p m
max_same p m n le e = grind (arith, nat_tests, le, e)

module _ (h : Heap) (st : Store) (ts : List Content) (k : KeepsContents h st ts) (eight : length (peaks h) ≡ 8) (n : ℕ) (small : n ≤ 2048) where
  abbrev j : ℕ
  j = class_for n

  abbrev bin : Bin
  bin = bin_at h j

  -- the heap with the peak of that class raised
  abbrev raised_heap : Heap
  raised_heap = record h { bins = set h.bins j (record bin { peak = next_peak bin }) }

  bins_are : length h.bins ≡ 8
  bins_are = sym (as_many h.bins) ∙ eight

  in_use : (c : Class) → (bin_at h (index_of c)).count ≡ places_used st ts (class_size c)
  in_use c = (k.blocks.keeps.bin (index_of c) (index_below c)).count ∙ counts_are st ts c k.each

  raised_peak : (c : Class) → peak_of raised_heap c ≡ max (peak_of h c) (one_more_of n (places_used st ts) (class_size c))
  raised_peak c = elim (cases_eq (index_of c) j) [
    | inl e ↦
        (let size : class_size c ≡ size_for n = size_is c ∙ ap size_at e ∙ sym (size_of_class n small) in
        let test : eqb (size_for n) (class_size c) ≡ true = grind (arith, nat_tests, size) in
        let now : bin_at raised_heap (index_of c) ≡ record bin { peak = next_peak bin } =
        ap (bin_at raised_heap) e
        ∙ get_or-set_same h.bins j (record bin { peak = next_peak bin }) no_bin (omega (arith, bins_are, class_below n small)) in
        let used : bin.count ≡ places_used st ts (class_size c) = ap (λ i. (bin_at h i).count) (sym e) ∙ in_use c in
        ap (λ b. b.peak) now
        ∙ (λ i. max (bin_at h (sym e i)).peak (used i + cond (sym test i) 1 0)))
    | inr ne ↦
        (let other : size_for n ≡ class_size c → ⊥ = λ e. ne (number_is c n small (sym e)) in
        let test : eqb (size_for n) (class_size c) ≡ false = grind (arith, nat_tests, other) in
        let now : bin_at raised_heap (index_of c) ≡ bin_at h (index_of c) =
        get_or-set_other h.bins j (index_of c) (record bin { peak = next_peak bin }) no_bin ne in
        let same : one_more_of n (places_used st ts) (class_size c) ≡ (bin_at h (index_of c)).count =
        ap (λ b. places_used st ts (class_size c) + cond b 1 0) test ∙ omega (arith, in_use c) in
        ap (λ b. b.peak) now
        ∙ max_same (peak_of h c) (one_more_of n (places_used st ts) (class_size c)) (bin_at h (index_of c)).count
        (k.blocks.keeps.bin (index_of c) (index_below c)).peak same)
  ]

  raised_so : peaks raised_heap ≡ raised_by (one_more_of n (places_used st ts)) classes (peaks h)
  raised_so =
      raised_is h raised_heap (one_more_of n (places_used st ts)) eight
      (as_many raised_heap.bins ∙ length-set h.bins j (record bin { peak = next_peak bin }) ∙ bins_are) raised_peak

  no_less : (p m z : ℕ) → z * p ≤ z * max p m
  no_less p m z = mul-le z p z (max p m) (omega arith) (grind (arith, nat_tests))

  bytes_more : class_prices Ram (peaks raised_heap) ≡ class_prices Ram (peaks h) + rise h n
  bytes_more =
      let set_ = price_set 0 j h.bins (record bin { peak = next_peak bin }) (omega (arith, bins_are, class_below n small)) in
      let old = price_is h.bins bins_are in
      let new = price_is raised_heap.bins (length-set h.bins j (record bin { peak = next_peak bin }) ∙ bins_are) in
      let r = rise_small h n j small refl in
      let le = no_less bin.peak (bin.count + 1) (size_at j) in
      omega (
        arith,
        set_,
        old,
        new,
        r,
        le,
        ap (λ m. bin_price (size_at m) (next_peak bin)) (zero-add j),
        ap (λ m. bin_price (size_at m) bin.peak) (zero-add j),
      )

  caps_more : class_prices Caps (peaks raised_heap) ≡ class_prices Caps (peaks h) + rise_caps h n
  caps_more =
      let a = pages_are classes (peaks h) in
      let b = pages_are classes (peaks raised_heap) in
      let c = caps_small h n small in
      omega (arith, a, b, c, bytes_more)

  pub price_more : (r : Resource) → class_prices r (raised_by (one_more_of n (places_used st ts)) classes (peaks h)) ≡ class_prices r (peaks h) + rise_of r h n
  price_more Ram = ap (class_prices Ram) (sym raised_so) ∙ bytes_more
  price_more Caps = ap (class_prices Caps) (sym raised_so) ∙ caps_more

-- EACH LEAF

pub rises : (s : Slots) → IsSlots s → AreRises s
rises s i r f x h leaf n is stands small =
    let lt = leaf_below f.leaf (memory_of s) s.own s.heaps x leaf stands in
    let there = leaf_at f.leaf (memory_of s) s.own s.heaps x h lt (omega (arith, lt, i.count, i.heaps)) in
    let here : world.Leaf = leaf_seen (f.leaf x) (memory_of s x) (get_or s.own x []) h in
    let same : here ≡ leaf =
    some_is here leaf (ap (λ z. Some (leaf_seen (f.leaf x) (memory_of s x) (get_or s.own x []) z)) (sym is) ∙ sym there ∙ stands) in
    let o : IsHolder s x h = subst (IsHolder s x) is (i.holders x h lt) in
    subst (λ l. class_prices r (raised_by (one_more_of n (places (world_seen f s) x l)) classes l.peaks) ≡ class_prices r l.peaks + rise_of r h n) same
    (ap (class_prices r) (raised_same (one_more_of n (places (world_seen f s) x here)) (one_more_of n (places_used (memory_of s x) (contents s x))) classes
    (peaks h) (λ c. ap (λ m. m + cond (eqb (size_for n) c) 1 0) (places_is f s x h (f.leaf x) c i.sound.objects)))
    ∙ price_more h (memory_of s x) (contents s x) o.keeps o.eight n small r)

-- ENTRIES OF POOLS

small_entry : (st : Store) (t : Content) → IsContent st t → entry_size t ≤ 2048
small_entry st Empty is = omega arith
small_entry st (Block p n) is = omega arith
small_entry st (Slice k n) is = omega arith
small_entry st (Space k n) is = omega arith
small_entry st (Pool p) is = is.entry.1
small_entry st (Link k) is = omega arith
small_entry st (Waiting k) is = omega arith

-- who pays for a slot is one of the leaves
holder_below : (s : Slots) → IsSlots s → IsTrading s.trades.trading → (p : SlotId) → IsSlotId s p → holder s p < length s.own
holder_below s i w (InLeaf x k) there = there.0
holder_below s i w (InSession k j) there =
    let t = s.trades.trading in
    let b = between_at (length t.leaves) (length t.objects) t.sessions k w.between there.0 in
    omega (arith, b.server, i.count)
holder_below s i w (InObject k) there =
    let t = s.trades.trading in
    let b = between_at (length t.leaves) (length t.objects) t.sessions k w.between there in
    omega (arith, b.server, i.count)

pub small_entries : (s : Slots) → IsSlots s → IsTrading s.trades.trading → AreSmallEntries s
small_entries s i w p there =
    let x = holder s p in
    let lt = holder_below s i w p there in
    let g = heap_in s.heaps x (omega (arith, lt, i.count, i.heaps)) in
    let keeps = subst (λ ts. KeepsContents (get_or s.heaps x g.heap) (memory_of s x) ts) (split_now s p there i.long) (i.holders x g.heap lt).keeps in
    small_entry (memory_of s x) (content_at s p) (each_prefix (memory_of s x) (prefix s p) (content_at s p) (back s p) keeps.each).1
