-- Links and marks, which hold no memory.
use Rattle.std.proofs.Common.{◌≡◌, ℕ, ◌+◌, ◌<◌, List, length, get_or, refl, sym, ap, subst, ◌∙◌, arith}
use Rattle.gq_model.specs.machine.Amounts.{Resource, Ram, Caps}
use Rattle.gq_model.specs.machine.Resource_prices.{heap as class_prices}
use Rattle.gq_model.specs.machine.Sums.{slot_price, slot_places}
use Rattle.gq_store.specs.Store.{Store, plus_caps}
use Rattle.gq_heap.specs.declared.heap.Heap.{Heap}
use Rattle.gq_heap.specs.Heap.{peaks}
use Rattle.gq_contents.specs.declared.content.Content.{Content}
use Rattle.gq_contents.specs.declared.content.Content.TheVariants.{Empty, Block, Slice, Space, Pool, Link, Waiting}
use Rattle.gq_contents.specs.Contents.{seen}
use Rattle.gq_contents.specs.Paid.{Pays}
use Rattle.gq_contents.proofs.Content_call_effects.{HoldsNone, empty_holds, link_holds, none_holds, waiting_holds}
use Rattle.gq_trade.specs.declared.session.SlotId.{SlotId}
use Rattle.gq_trade.specs.Trading.{IsTrading}
use Rattle.gq_trade.specs.Trades.{Trades, with_trading}
use Rattle.gq_slots.specs.Slots.{Slots, IsHeapOf, IsMark, IsSlot, IsSlotId, holder, memory_of, content_at}
use Rattle.gq_slots.specs.Calls.{PutsSlot}
use Rattle.gq_slots.specs.internal.Slots_invariant.{IsSlots}
use Rattle.gq_slots.specs.internal.Put.{put, put_own, put_trading, with_store}
use Rattle.gq_slots.proofs.Content_change_world.{IsCall, kept_then, puts_then, stays_raised}
use Rattle.gq_slots.proofs.Slot_call_effects.{of_parts, same_heap, sound_put, with_sound}

mark_holds : (t : Content) → IsMark t → HoldsNone t
mark_holds Empty m = empty_holds
mark_holds (Block p n) m = absurd m
mark_holds (Slice k n) m = absurd m
mark_holds (Space k n) m = absurd m
mark_holds (Pool p) m = absurd m
mark_holds (Link k) m = link_holds k
mark_holds (Waiting k) m = waiting_holds k

mark_price : (r : Resource) (st : Store) (t : Content) → IsMark t → slot_price r (seen st t) ≡ 0
mark_price r st Empty m = refl
mark_price r st (Block p n) m = absurd m
mark_price r st (Slice k n) m = absurd m
mark_price r st (Space k n) m = absurd m
mark_price r st (Pool p) m = absurd m
mark_price r st (Link k) m = refl
mark_price r st (Waiting k) m = refl

mark_places : (c : ℕ) (st : Store) (t : Content) → IsMark t → slot_places c (seen st t) ≡ 0
mark_places c st Empty m = refl
mark_places c st (Block p n) m = absurd m
mark_places c st (Slice k n) m = absurd m
mark_places c st (Space k n) m = absurd m
mark_places c st (Pool p) m = absurd m
mark_places c st (Link k) m = refl
mark_places c st (Waiting k) m = refl

mark_pays : (h : Heap) (st : Store) (t u : Content) → IsMark t → IsMark u → Pays h h st st t u
mark_pays h st t u a b = record {
  ram = omega (arith, mark_price Ram st t a, mark_price Ram st u b);
  caps = ap (λ n. plus_caps (n + class_prices Caps (peaks h)) st.caps) (mark_price Caps st u b ∙ sym (mark_price Caps st t a));
}

mark_call : (s : Slots) (p : SlotId) (h : Heap) (t u : Content) → IsSlotId s p → t ≡ content_at s p → IsHeapOf s (holder s p) h → IsMark t → IsMark u
    → IsCall s s.trades.trading.ledger p h h t u
mark_call s p h t u there is heap a b = record {
  slot_id = there;
  content = sym is;
  heap = heap;
  others = λ y lt ne. refl;
  quotas = record { price = refl; quota = λ a. refl };
  changes = none_holds h (memory_of s (holder s p)) t u (mark_holds t a) (mark_holds u b);
  pays = mark_pays h (memory_of s (holder s p)) t u a b;
}

-- where the slots are as before but for one
same_parts : (s : Slots) (p : SlotId) (h : Heap) (u : Content) → IsHeapOf s (holder s p) h
    → put (with_store s s.trades.trading.ledger (holder s p) h) p u ≡ put s p u
same_parts s p h u e = ap (λ hs. put (record { trades = s.trades; own = s.own; heaps = hs }) p u) (same_heap s (holder s p) h e)

pub marked : (s : Slots) (p : SlotId) (h : Heap) (t u : Content) → IsSlots s → IsTrading s.trades.trading → holder s p < length s.own → IsSlot p → IsSlotId s p
    → t ≡ content_at s p → IsHeapOf s (holder s p) h → IsMark t → IsMark u
    → IsSlots (put s p u) × PutsSlot s (put s p u) p (seen (memory_of s (holder s p)) u)
marked s p h t u i w lt l there is heap a b =
    let m = s.trades.trading.ledger in
    let c = mark_call s p h t u there is heap a b in
    let st = memory_of s (holder s p) in
    let up = stays_raised s m p h h t u i w lt c (λ k. omega (arith, mark_places k st t a, mark_places k st u b)) in (
      subst IsSlots (same_parts s p h u heap)
          (kept_then s m p h h t u i w lt c (sound_put (with_store s m (holder s p) h) p u l (with_sound s m (holder s p) h i.sound)) up
          (λ e. e)),
      subst (λ n. PutsSlot s n p (seen st u)) (same_parts s p h u heap) (puts_then s m p h h t u i w lt c refl),
    )

-- as the contract says it
pub marks : (z s : Slots) (v : Trades) (own : List (List Content)) (p : SlotId) (h : Heap) (t u : Content) (x : ℕ) → s ≡ z → IsSlots s
    → IsTrading s.trades.trading
    → IsSlot p → IsSlotId z p → x ≡ holder z p → x < length z.own → t ≡ content_at z p → h ≡ get_or s.heaps x h → IsMark (content_at z p) → IsMark u
    → v ≡ with_trading s.trades (put_trading s.trades.trading p u) → own ≡ put_own s.own p u
    → IsSlots (of_parts v own s.heaps) × PutsSlot z (of_parts v own s.heaps) p (seen (memory_of z (holder z p)) u)
marks z s v own p h t u x e i w l slot_id at lt is heap a b ws os =
    let there = subst (λ y. IsSlotId y p) (sym e) slot_id in
    let below = subst (λ y. holder y p < length y.own) (sym e) (subst (λ y. y < length z.own) at lt) in
    let its = subst (λ y. IsHeapOf s y h) (at ∙ ap (λ y. holder y p) (sym e)) (sym heap) in
    let n : of_parts v own s.heaps ≡ put s p u = λ k. record { trades = ws k; own = os k; heaps = s.heaps } in
    let m = marked s p h t u i w below l there (is ∙ ap (λ y. content_at y p) (sym e)) its (subst IsMark (sym is) a) b in (
      subst IsSlots (sym n) m.0,
      subst (λ y. PutsSlot y (of_parts v own s.heaps) p (seen (memory_of y (holder y p)) u)) e
          (subst (λ y. PutsSlot s y p (seen (memory_of s (holder s p)) u)) (sym n) m.1),
    )
