-- What the functions of slots do, as a change of one content.
use Rattle.gq_ram.specs.Ledgers.{Ledger}
use Rattle.std.proofs.Common.{◌≡◌, ℕ, zero, suc, ◌+◌, ◌<◌, ◌≤◌, ◌⊎◌, inl, inr, Bool, true, false, List, [], ◌∷◌, ◌++◌, length, set, get_or, Option, Some, None}
use Rattle.std.proofs.Common.{Result, Ok, Err, refl, sym, ap, subst, ◌∙◌, arith}
use Rattle.std.specs.Prelude.{IfOk, IsTrue, OnErr, OnOk}
use Rattle.std.proofs.lemmas.List.{set-get_or}
use Rattle.gq_tariff.specs.Prices.{classes}
use Rattle.gq_model.specs.machine.Amounts.{Resource}
use Rattle.gq_model.specs.machine.Sums.{slot_price, slot_places}
use Rattle.gq_model.specs.machine.World as world
use Rattle.gq_store.specs.Store.{Store}
use Rattle.gq_store.specs.declared.AccountNo.{AccountNo}
use Rattle.gq_heap.specs.declared.heap.Heap.{Heap}
use Rattle.gq_heap.specs.Heap.{peaks}
use Rattle.gq_ram.specs.Account_stores.{store_at}
use Rattle.gq_trade.specs.declared.requests.Request.{Request}
use Rattle.gq_contents.specs.declared.content.Content.{Content}
use Rattle.gq_contents.specs.declared.content.Content.TheVariants.{Empty}
use Rattle.gq_contents.specs.Contents.{added, bytes_in, extent_of, put_in, seen, with_entry}
use Rattle.gq_contents.specs.Touches.{IsOfExtent, Touches}
use Rattle.gq_model.specs.machine.Program.{little}
use Rattle.gq_store.specs.declared.extent.Extent.{Extent}
use Rattle.std.specs.Prelude.{slice_range}
use Rattle.gq_contents.specs.Contents_invariant.{Changes, IsAmong, KeepsContents}
use Rattle.gq_contents.specs.Paid.{Pays, Raises, TakesEntry, places_used, raised_by}
use Rattle.gq_trade.specs.declared.session.Session.{Session}
use Rattle.gq_trade.specs.declared.session.SlotId.{SlotId}
use Rattle.gq_trade.specs.declared.session.SlotId.TheVariants.{InLeaf, InSession, InObject}
use Rattle.gq_trade.specs.Trading.{IsTrading, Trading, account_no, account_of, session_at, session_in, with_ledger, with_session, with_slot}
use Rattle.gq_trade.specs.Trades.{Trades, SameButMemory, with_trading}
use Rattle.gq_slots.specs.Slots.{Slots, IsExtent, IsHeapOf, IsSlot, IsSlotId, holder, memory_of, slot_of, content_at}
use Rattle.gq_slots.specs.Calls.{PutsSlot, Settles}
use Rattle.gq_slots.specs.internal.Slots_invariant.{AreObjects, AreSound, AreUnmade, IsObject, IsSlots, IsUnmade}
use Rattle.gq_slots.specs.internal.Put.{put, with_object, put_own, put_trading, with_store}
use Rattle.gq_trade.proofs.Sessions_kept.{between_at}
use Rattle.gq_slots.proofs.Slot_content_positions.{back, prefix, put_same, split_now}
use Rattle.gq_slots.proofs.Content_change_world.{IsCall, around, others_stay, same_quotas, kept_then, puts_then, settles_then, stays_raised, slot_id_with}
use Rattle.gq_slots.proofs.Content_change_world.{long_with}
use Rattle.gq_slots.proofs.Content_price_facts.{pays_none, places_put, price_put}
use Rattle.gq_slots.proofs.Leaf_holding_sums.{raised_again, raised_long}

-- what an account has
abbrev pub its : Trades → ℕ → Store
its t acc = store_at t.trading.ledger acc

abbrev pub of_parts : Trades → List (List Content) → List Heap → Slots
of_parts t own heaps = record { trades = t; own = own; heaps = heaps }

-- trades with the memory of others
same_trades : {acc : ℕ} (t v : Trades) → SameButMemory acc t v → v ≡ with_trading t (with_ledger t.trading v.trading.ledger)
same_trades t v r = λ k. record { trading = r.trading.is k; nodes = r.nodes k }

-- the account is that of a leaf
abbrev IsItsAccount : Slots → ℕ → ℕ → Type 0
IsItsAccount s x acc = acc ≡ account_of s.trades.trading x

its_is : (s : Slots) (x acc : ℕ) → IsItsAccount s x acc → its s.trades acc ≡ memory_of s x
its_is s x acc e = ap (its s.trades) e

its_then : (s : Slots) (v : Trades) (x acc : ℕ) → IsItsAccount s x acc → its v acc ≡ store_at v.trading.ledger (account_of s.trades.trading x)
its_then s v x acc e = ap (its v) e

-- what a content is among
pub among : (s : Slots) (p : SlotId) (h : Heap) (t : Content) (acc : ℕ) → IsSlots s → IsSlotId s p → holder s p < length s.own
    → IsItsAccount s (holder s p) acc → IsHeapOf s (holder s p) h → t ≡ content_at s p → IsAmong h (its s.trades acc) t
among s p h t acc i there lt paid heap is =
    let own = subst (λ g. IsAmong g (memory_of s (holder s p)) (content_at s p)) heap (record {
      prefix = prefix s p;
      back = back s p;
      keeps = subst (λ ts. KeepsContents (get_or s.heaps (holder s p) h) (memory_of s (holder s p)) ts) (split_now s p there i.long)
          (i.holders (holder s p) h lt).keeps;
    }) in
    subst (λ st. IsAmong h st t) (sym (its_is s (holder s p) acc paid)) (subst (IsAmong h (memory_of s (holder s p))) (sym is) own)

-- one call, in the words of its contract
pub call_of : {acc : ℕ} (s : Slots) (v : Trades) (p : SlotId) (h g : Heap) (t u : Content) → IsSlots s → IsTrading s.trades.trading
    → holder s p < length s.own → IsSlotId s p → t ≡ content_at s p → IsHeapOf s (holder s p) h → IsItsAccount s (holder s p) acc
    → SameButMemory acc s.trades v → Changes h g (its s.trades acc) (its v acc) t u → Pays h g (its s.trades acc) (its v acc) t u
    → IsCall s v.trading.ledger p h g t u
call_of {acc} s v p h g t u i w lt there is heap paid r changes pays = record {
  slot_id = there;
  content = sym is;
  heap = heap;
  others = others_stay s v.trading.ledger p i w lt (λ b ne. r.trading.rest.stores b (λ e. ne (e ∙ paid)));
  quotas = same_quotas s.trades.trading.ledger v.trading.ledger acc r.trading.rest;
  changes = subst (λ st. Changes h g st (store_at v.trading.ledger (account_of s.trades.trading (holder s p))) t u) (its_is s (holder s p) acc paid)
      (subst (λ st. Changes h g (its s.trades acc) st t u) (its_then s v (holder s p) acc paid) changes);
  pays = subst (λ st. Pays h g st (store_at v.trading.ledger (account_of s.trades.trading (holder s p))) t u) (its_is s (holder s p) acc paid)
      (subst (λ st. Pays h g (its s.trades acc) st t u) (its_then s v (holder s p) acc paid) pays);
}

-- where the same content stands in the slot
content_with : (s : Slots) (v : Trades) (g : Heap) (p : SlotId) → content_at (with_store s v.trading.ledger (holder s p) g) p ≡ content_at s p
content_with s v g (InLeaf x i) = refl
content_with s v g (InSession k i) = refl
content_with s v g (InObject k) = refl

pub in_place : {acc : ℕ} (s : Slots) (v : Trades) (p : SlotId) (g : Heap) (t : Content) → IsSlots s → IsSlotId s p → t ≡ content_at s p → SameButMemory acc
    s.trades v
    → of_parts v s.own (set s.heaps (holder s p) g) ≡ put (with_store s v.trading.ledger (holder s p) g) p t
in_place s v p g t i there is r =
    (λ k. of_parts (same_trades s.trades v r k) s.own (set s.heaps (holder s p) g))
    ∙ sym (put_same (with_store s v.trading.ledger (holder s p) g) p (slot_id_with s v.trading.ledger (holder s p) g p there)
    (long_with s v.trading.ledger (holder s p) g i.long))
    ∙ ap (put (with_store s v.trading.ledger (holder s p) g) p) (content_with s v g p ∙ sym is)

-- the heap that was there
pub same_heap : (s : Slots) (x : ℕ) (h : Heap) → IsHeapOf s x h → set s.heaps x h ≡ s.heaps
same_heap s x h e = ap (set s.heaps x) (sym e) ∙ set-get_or s.heaps x h

-- something else in the slot
pub filled : {acc : ℕ} (s : Slots) (v w : Trades) (own : List (List Content)) (p : SlotId) (g : Heap) (u : Content) → SameButMemory acc s.trades v
    → w ≡ with_trading v (put_trading v.trading p u) → own ≡ put_own s.own p u
    → of_parts w own (set s.heaps (holder s p) g) ≡ put (with_store s v.trading.ledger (holder s p) g) p u
filled s v w own p g u r e f =
    (λ k. of_parts (e k) (f k) (set s.heaps (holder s p) g))
    ∙ ap (λ (z : Trades). of_parts (with_trading z (put_trading z.trading p u)) (put_own s.own p u) (set s.heaps (holder s p) g)) (same_trades s.trades v r)

-- objects stay where a session has the same one
pub objects_set : (k : ℕ) (ss : List (Option Session)) (v : Session) → AreObjects ss → IsObject v.object → AreObjects (set ss k (Some v))
objects_set k [] v a o = a
objects_set zero (None ∷ ss) v a o = (o, a)
objects_set zero (Some t ∷ ss) v a o = (o, a.1)
objects_set (suc k) (None ∷ ss) v a o = objects_set k ss v a o
objects_set (suc k) (Some t ∷ ss) v a o = (a.0, objects_set k ss v a.1 o)

pub object_at : (k : ℕ) (ss : List (Option Session)) → AreObjects ss → IsObject (session_in ss k).object
object_at k [] a = tt
object_at zero (None ∷ ss) a = tt
object_at zero (Some t ∷ ss) a = a.0
object_at (suc k) (None ∷ ss) a = object_at k ss a
object_at (suc k) (Some t ∷ ss) a = object_at k ss a.1

-- objects that stay where a session changes
object_set : (ss : List (Option Session)) (k : ℕ) (v : Session) (j : ℕ) → v.object ≡ (session_in ss k).object
    → (session_in (set ss k (Some v)) j).object ≡ (session_in ss j).object
object_set [] k v j e = refl
object_set (o ∷ ss) zero v zero e = e
object_set (o ∷ ss) zero v (suc j) e = refl
object_set (o ∷ ss) (suc k) v zero e = refl
object_set (o ∷ ss) (suc k) v (suc j) e = object_set ss k v j e

unmade_set : (ss : List (Option Session)) (k : ℕ) (v : Session) (rs : List Request) → v.object ≡ (session_in ss k).object → AreUnmade ss rs
    → AreUnmade (set ss k (Some v)) rs
unmade_set ss k v [] e a = tt
unmade_set ss k v (r ∷ rs) e a = (subst (IsUnmade r.ask) (sym (object_set ss k v r.session e)) a.0, unmade_set ss k v rs e a.1)

-- a session that has the same object
pub sound_set : (t : Trading) (k : ℕ) (v : Session) → v.object ≡ (session_at t k).object → AreSound t → AreSound (with_session t k v)
sound_set t k v e a = record {
  objects = objects_set k t.sessions v a.objects (subst IsObject (sym e) (object_at k t.sessions a.objects));
  unmade = unmade_set t.sessions k v t.requests e a.unmade;
}

pub sound_put : (s : Slots) (p : SlotId) (u : Content) → IsSlot p → AreSound s.trades.trading → AreSound (put s p u).trades.trading
sound_put s (InLeaf x i) u l a = a
sound_put s (InSession k i) u l a = sound_set s.trades.trading k (with_slot (session_at s.trades.trading k) i u) refl a
sound_put s (InObject k) u l a = absurd l

pub sound_same : (s : Slots) (p : SlotId) (t : Content) → t ≡ content_at s p → AreSound s.trades.trading → AreSound (put s p t).trades.trading
sound_same s (InLeaf x i) t e a = a
sound_same s (InSession k i) t e a = sound_set s.trades.trading k (with_slot (session_at s.trades.trading k) i t) refl a
sound_same s (InObject k) t e a = sound_set s.trades.trading k (with_object (session_at s.trades.trading k) t) e a

-- what is in the slot, in the memory of its leaf's account
pub slot_its : (s : Slots) (p : SlotId) (t : Content) (acc : ℕ) → IsItsAccount s (holder s p) acc → t ≡ content_at s p
    → seen (its s.trades acc) t ≡ slot_of s p
slot_its s p t acc paid is = ap (λ st. seen st t) (its_is s (holder s p) acc paid) ∙ ap (seen (memory_of s (holder s p))) is

-- a slot with what stands in it, whose leaf has the account
pub record IsAt (acc : ℕ) (s : Slots) (p : SlotId) (h : Heap) (t : Content) : Type 0 where
  pub kept : IsSlots s
  pub slot_id : IsSlotId s p
  pub there : holder s p < length s.own
  pub content : t ≡ content_at s p
  pub heap : IsHeapOf s (holder s p) h
  pub paid : acc ≡ account_of s.trades.trading (holder s p)

pub is_among : {acc : ℕ} (s : Slots) (p : SlotId) (h : Heap) (t : Content) → IsAt acc s p h t → IsAmong h (its s.trades acc) t
is_among {acc} s p h t a = among s p h t acc a.kept a.slot_id a.there a.paid a.heap a.content

-- what is known of slots z is known of s, which they are
pub at_inside : {a : AccountNo} (z s : Slots) (p : SlotId) (h : Heap) (t : Content) (x : ℕ) → s ≡ z → IsSlots s → IsSlotId z p → x ≡ holder z p
    → x < length z.own → t ≡ content_at z p → h ≡ get_or s.heaps x h → a ≡ account_no s.trades.trading x → IsAt a.0 s p h t
at_inside {a} z s p h t x e kept slot_id at there content heap paid =
    let here : x ≡ holder s p = at ∙ ap (λ y. holder y p) (sym e) in
    record {
      kept = kept;
      slot_id = subst (λ y. IsSlotId y p) (sym e) slot_id;
      there = subst (λ y. holder y p < length y.own) (sym e) (subst (λ y. y < length z.own) at there);
      content = content ∙ ap (λ y. content_at y p) (sym e);
      heap = subst (λ y. IsHeapOf s y h) here (sym heap);
      paid = ap (λ (b : AccountNo). b.0) paid ∙ ap (account_of s.trades.trading) here;
    }

-- whoever asks
heap_at : (hs : List Heap) (x : ℕ) → x < length hs → (h : Heap) × (get_or hs x h ≡ h)
heap_at [] x lt = absurd (omega (arith, lt))
heap_at (h ∷ hs) zero lt = (h, refl)
heap_at (h ∷ hs) (suc x) lt = heap_at hs x (omega (arith, lt))

pub holder_there : (s : Slots) (p : SlotId) → IsSlots s → IsTrading s.trades.trading → IsSlotId s p → holder s p < length s.own
holder_there s (InLeaf x i) kept w there = there.0
holder_there s (InSession k i) kept w there = omega (
  arith,
  kept.count,
  (between_at (length s.trades.trading.leaves) (length s.trades.trading.objects)
      s.trades.trading.sessions k w.between there.0).server,
)
holder_there s (InObject k) kept w there = omega (
  arith,
  kept.count,
  (between_at (length s.trades.trading.leaves) (length s.trades.trading.objects)
      s.trades.trading.sessions k w.between there).server,
)

-- the heap of the leaf that pays for a slot, and what stands there
pub heap_of : (s : Slots) (p : SlotId) → IsSlots s → IsTrading s.trades.trading → IsSlotId s p → (h : Heap) × IsHeapOf s (holder s p) h
heap_of s p kept w there = heap_at s.heaps (holder s p) (omega (arith, holder_there s p kept w there, kept.count, kept.heaps))

pub at_slot : (s : Slots) (p : SlotId) (kept : IsSlots s) (w : IsTrading s.trades.trading) (there : IsSlotId s p)
    → IsAt (account_of s.trades.trading (holder s p)) s p (heap_of s p kept w there).0 (content_at s p)
at_slot s p kept w there = record {
  kept = kept;
  slot_id = there;
  there = holder_there s p kept w there;
  content = refl;
  heap = (heap_of s p kept w there).1;
  paid = refl;
}

-- a call on what is in a slot, after which the slots are n
module _ {acc : ℕ} (s : Slots) (v : Trades) (p : SlotId) (h g : Heap) (t u : Content) (slot : world.Slot) (n : Slots) (a : IsAt acc s p h t) (w : IsTrading
    s.trades.trading)
    (r : SameButMemory acc s.trades v) (changes : Changes h g (its s.trades acc) (its v acc) t u) (pays : Pays h g (its s.trades acc) (its v acc) t u)
    (seen_so : seen (its v acc) u ≡ slot) (is : n ≡ put (with_store s v.trading.ledger (holder s p) g) p u)
    (sound : (f : Heap) → AreSound (put (with_store s v.trading.ledger (holder s p) f) p u).trades.trading) where
  abbrev the_call : IsCall s v.trading.ledger p h g t u
  the_call = call_of s v p h g t u a.kept w a.there a.slot_id a.content a.heap a.paid r changes pays

  abbrev new : Store
  new = store_at v.trading.ledger (account_of s.trades.trading (holder s p))

  seen_then : seen new u ≡ slot
  seen_then = sym (ap (λ st. seen st u) (its_then s v (holder s p) acc a.paid)) ∙ seen_so

  -- what is in use of the heap, with u in the slot
  abbrev in_use : ℕ → ℕ
  in_use = places_used new (prefix s p ++ u ∷ back s p)

  less_then : ((k : ℕ) → slot_places k slot ≤ slot_places k (slot_of s p)) → (k : ℕ)
      → slot_places k (seen new u) ≤ slot_places k (seen (memory_of s (holder s p)) t)
  less_then le k = omega (arith, le k, ap (slot_places k) seen_then, ap (λ z. slot_places k (seen (memory_of s (holder s p)) z)) a.content)

  pub stays_so : ((k : ℕ) → slot_places k slot ≤ slot_places k (slot_of s p)) → raised_by in_use classes (peaks h) ≡ peaks h
  stays_so le = stays_raised s v.trading.ledger p h g t u a.kept w a.there the_call (less_then le)

  pub raises_so : Raises h g (its s.trades acc) (its v acc) t u → raised_by in_use classes (peaks h) ≡ peaks g
  raises_so q =
      let st = its_then s v (holder s p) acc a.paid in
      let k = subst (λ z. KeepsContents h z (prefix s p ++ t ∷ back s p)) (sym (its_is s (holder s p) acc a.paid))
      (around s v.trading.ledger p h g t u a.kept w a.there the_call) in
      sym (q (prefix s p) (back s p) k ∙ ap (λ z. raised_by (places_used z (prefix s p ++ u ∷ back s p)) classes (peaks h)) st)

  pub kept_same : peaks g ≡ peaks h → ((k : ℕ) → slot_places k slot ≤ slot_places k (slot_of s p)) → IsSlots n
  kept_same same le =
      subst IsSlots (sym is) (kept_then s v.trading.ledger p h g t u a.kept w a.there the_call (sound g)
      (ap (raised_by in_use classes) same ∙ stays_so le ∙ sym same) (λ e. ap length same ∙ e))

  pub puts_same : peaks g ≡ peaks h → PutsSlot s n p slot
  puts_same same =
      subst (λ y. PutsSlot s y p slot) (sym is) (subst (λ y. PutsSlot s (put (with_store s v.trading.ledger (holder s p) g) p u) p y) seen_then
      (puts_then s v.trading.ledger p h g t u a.kept w a.there the_call same))

  pub kept_raised : raised_by in_use classes (peaks h) ≡ peaks g → IsSlots n
  kept_raised e =
      subst IsSlots (sym is) (kept_then s v.trading.ledger p h g t u a.kept w a.there the_call (sound g)
      (ap (raised_by in_use classes) (sym e) ∙ raised_again in_use classes (peaks h) ∙ e)
      (λ z. sym (ap length e) ∙ raised_long in_use classes (peaks h) z))

  pub settles_raised : raised_by in_use classes (peaks h) ≡ peaks g → Settles s n p slot
  settles_raised e =
      subst (λ y. Settles s y p slot) (sym is) (subst (λ y. Settles s (put (with_store s v.trading.ledger (holder s p) g) p u) p y) seen_then
      (settles_then s v.trading.ledger p h g t u a.kept w a.there the_call (sound h).objects e))

-- AS THE CONTRACTS SAY IT

pub with_sound : (s : Slots) (m : Ledger) (x : ℕ) (f : Heap) → AreSound s.trades.trading → AreSound (with_store s m x f).trades.trading
with_sound s m x f a = record { objects = a.objects; unmade = a.unmade }

sound_with : {acc : ℕ} (s : Slots) (v : Trades) (p : SlotId) (h : Heap) (t : Content) → IsAt acc s p h t → (f : Heap)
    → AreSound (put (with_store s v.trading.ledger (holder s p) f) p t).trades.trading
sound_with s v p h t a f =
    sound_same (with_store s v.trading.ledger (holder s p) f) p t (a.content ∙ sym (content_with s v f p))
    (with_sound s v.trading.ledger (holder s p) f a.kept.sound)

-- what a call on a slot leaves: it holds, and the world has the slot
abbrev pub Leaves : Slots → Slots → SlotId → world.Slot → Type 0
Leaves z n p slot = IsSlots n × PutsSlot z n p slot

abbrev pub LeavesSettled : Slots → Slots → SlotId → world.Slot → Type 0
LeavesSettled z n p slot = IsSlots n × Settles z n p slot

-- other bytes in the slot, for which nothing is paid
pub stays : {acc : ℕ} (z s : Slots) (v : Trades) (p : SlotId) (h : Heap) (t : Content) (f : world.Slot → world.Slot) → s ≡ z → IsAt acc s p h t → IsTrading
    s.trades.trading
    → SameButMemory acc s.trades v → Changes h h (its s.trades acc) (its v acc) t t → seen (its v acc) t ≡ f (seen (its s.trades acc) t)
    → (its v acc).left ≡ (its s.trades acc).left → (its v acc).caps ≡ (its s.trades acc).caps
    → ((q : Resource) (y : world.Slot) → slot_price q (f y) ≡ slot_price q y)
    → ((k : ℕ) (y : world.Slot) → slot_places k (f y) ≤ slot_places k y) → Leaves z (of_parts v s.own s.heaps) p (f (slot_of z p))
stays {acc} z s v p h t f e a w r changes seen_so left caps price le =
    let is = ap (of_parts v s.own) (sym (same_heap s (holder s p) h a.heap)) ∙ in_place s v p h t a.kept a.slot_id a.content r in
    let at = slot_its s p t acc a.paid a.content in
    let pays = pays_none h (its s.trades acc) (its v acc) t (λ q. ap (slot_price q) seen_so ∙ price q (seen (its s.trades acc) t)) left caps in
    let n = of_parts v s.own s.heaps in (
      kept_same s v p h h t t (f (slot_of s p)) n a w r changes pays (seen_so ∙ ap f at) is (sound_with s v p h t a) refl (λ k. le k (slot_of s p)),
      subst (λ y. PutsSlot y n p (f (slot_of y p))) e
          (puts_same s v p h h t t (f (slot_of s p)) n a w r changes pays (seen_so ∙ ap f at) is (sound_with s v p h t a) refl),
    )

-- BYTES AT AN EXTENT

-- what is known of slots z is known of s, which they are
pub inside_of : (z s : Slots) (e : Extent) → s ≡ z → IsExtent z e → IsExtent s e
inside_of z s e is x = subst (λ (y : Slots). IsExtent y e) (sym is) x

-- the bytes of a slot are those of a content that its leaf's account has
pub extent_of_slot : (s : Slots) (e : Extent) → IsSlots s → IsTrading s.trades.trading → IsExtent s e
    → (acc : ℕ) × IsOfExtent (its s.trades acc) e
extent_of_slot s e kept w x =
    let at = at_slot s x.slot_id kept w x.there in (
      account_of s.trades.trading (holder s x.slot_id),
      record {
        heap = (heap_of s x.slot_id kept w x.there).0;
        content = content_at s x.slot_id;
        among = is_among s x.slot_id (heap_of s x.slot_id kept w x.there).0 (content_at s x.slot_id) at;
        is = x.is;
      },
    )

-- what is read
pub read_slot : (z s : Slots) (e : Extent) (p : SlotId) (i n r : ℕ) → s ≡ z → IsSlots s → IsTrading s.trades.trading → IsSlotId z p
    → extent_of (content_at z p) ≡ Some e
    → ((acc : ℕ) (heap : Heap) (t : Content) → IsAmong heap (its s.trades acc) t → extent_of t ≡ Some e
    → r ≡ little (slice_range (bytes_in (seen (its s.trades acc) t)) i (i + n)))
    → r ≡ little (slice_range (bytes_in (slot_of z p)) i (i + n))
read_slot z s e p i n r v kept w there is reads =
    let here = subst (λ (y : Slots). IsSlotId y p) (sym v) there in
    let its_is = subst (λ (y : Slots). extent_of (content_at y p) ≡ Some e) (sym v) is in
    let at = at_slot s p kept w here in
    let h = (heap_of s p kept w here).0 in
    reads (account_of s.trades.trading (holder s p)) h (content_at s p) (is_among s p h (content_at s p) at) its_is
    ∙ ap (λ (y : Slots). little (slice_range (bytes_in (slot_of y p)) i (i + n))) v

-- what is written: v is what the trades are then
pub writes_slot : (z s : Slots) (v : Trades) (e : Extent) (p : SlotId) (i : ℕ) (bs : List ℕ) → s ≡ z → IsSlots s → IsTrading s.trades.trading
    → IsSlotId z p → extent_of (content_at z p) ≡ Some e
    → ((acc : ℕ) (heap : Heap) (t : Content) → IsAmong heap (its s.trades acc) t → extent_of t ≡ Some e
    → Touches heap (its s.trades acc) (its v acc) t (put_in i bs))
    → ((acc : ℕ) → IsOfExtent (its s.trades acc) e → SameButMemory acc s.trades v)
    → Leaves z (of_parts v s.own s.heaps) p (put_in i bs (slot_of z p))
writes_slot z s v e p i bs is kept w there has puts rest =
    let here = subst (λ (y : Slots). IsSlotId y p) (sym is) there in
    let its_is = subst (λ (y : Slots). extent_of (content_at y p) ≡ Some e) (sym is) has in
    let acc = account_of s.trades.trading (holder s p) in
    let at = at_slot s p kept w here in
    let h = (heap_of s p kept w here).0 in
    let among_it = is_among s p h (content_at s p) at in
    let t = puts acc h (content_at s p) among_it its_is in
    let r = rest acc (record { heap = h; content = content_at s p; among = among_it; is = its_is }) in
    stays z s v p h (content_at s p) (put_in i bs) is at w r t.changes t.seen t.left t.caps (λ q y. price_put q i bs y)
    (λ k y. omega (arith, places_put k i bs y))

-- another entry, where a place of the heap is free again
pub gives_place : {acc : ℕ} (z s : Slots) (v : Trades) (p : SlotId) (h g : Heap) (t : Content) (f : world.Slot → world.Slot) (x : ℕ) → s ≡ z → IsAt acc s p h t
    → IsTrading s.trades.trading → x ≡ holder z p → SameButMemory acc s.trades v → Changes h g (its s.trades acc) (its v acc) t t
    → seen (its v acc) t ≡ f (seen (its s.trades acc) t) → Pays h g (its s.trades acc) (its v acc) t t → peaks g ≡ peaks h
    → ((k : ℕ) (y : world.Slot) → slot_places k (f y) ≤ slot_places k y) → Leaves z (of_parts v s.own (set s.heaps x g)) p (f (slot_of z p))
gives_place {acc} z s v p h g t f x e a w at_x r changes seen_so pays same le =
    let y : x ≡ holder s p = at_x ∙ ap (λ y. holder y p) (sym e) in
    let is = ap (λ i. of_parts v s.own (set s.heaps i g)) y ∙ in_place s v p g t a.kept a.slot_id a.content r in
    let at = slot_its s p t acc a.paid a.content in
    let n = of_parts v s.own (set s.heaps x g) in (
      kept_same s v p h g t t (f (slot_of s p)) n a w r changes pays (seen_so ∙ ap f at) is (sound_with s v p h t a) same (λ k. le k (slot_of s p)),
      subst (λ y. PutsSlot y n p (f (slot_of y p))) e
          (puts_same s v p h g t t (f (slot_of s p)) n a w r changes pays (seen_so ∙ ap f at) is (sound_with s v p h t a) same),
    )

-- another entry, where a place of the heap may be taken: then the peaks are raised, or there is nothing new
pub takes_place : {acc : ℕ} (z s : Slots) (v : Trades) (p : SlotId) (h g : Heap) (t : Content) (f : world.Slot → world.Slot) (x : ℕ) → s ≡ z → IsAt acc s p h t
    → IsTrading s.trades.trading → x ≡ holder z p → SameButMemory acc s.trades v → Changes h g (its s.trades acc) (its v acc) t t
    → seen (its v acc) t ≡ f (seen (its s.trades acc) t) → Pays h g (its s.trades acc) (its v acc) t t
    → Raises h g (its s.trades acc) (its v acc) t t ⊎ ((g ≡ h) × (its v acc ≡ its s.trades acc))
    → LeavesSettled z (of_parts v s.own (set s.heaps x g)) p (f (slot_of z p))
takes_place {acc} z s v p h g t f x e a w at_x r changes seen_so pays (inl q) =
    let y : x ≡ holder s p = at_x ∙ ap (λ y. holder y p) (sym e) in
    let is = ap (λ i. of_parts v s.own (set s.heaps i g)) y ∙ in_place s v p g t a.kept a.slot_id a.content r in
    let at = slot_its s p t acc a.paid a.content in
    let n = of_parts v s.own (set s.heaps x g) in
    let up = raises_so s v p h g t t (f (slot_of s p)) n a w r changes pays (seen_so ∙ ap f at) is (sound_with s v p h t a) q in (
      kept_raised s v p h g t t (f (slot_of s p)) n a w r changes pays (seen_so ∙ ap f at) is (sound_with s v p h t a) up,
      subst (λ y. Settles y n p (f (slot_of y p))) e
          (settles_raised s v p h g t t (f (slot_of s p)) n a w r changes pays (seen_so ∙ ap f at) is (sound_with s v p h t a) up),
    )
takes_place {acc} z s v p h g t f x e a w at_x r changes seen_so pays (inr q) =
    let y : x ≡ holder s p = at_x ∙ ap (λ y. holder y p) (sym e) in
    let is = ap (λ i. of_parts v s.own (set s.heaps i g)) y ∙ in_place s v p g t a.kept a.slot_id a.content r in
    let at = slot_its s p t acc a.paid a.content in
    let n = of_parts v s.own (set s.heaps x g) in
    let same : f (slot_of s p) ≡ slot_of s p = ap f (sym at) ∙ sym seen_so ∙ ap (λ st. seen st t) q.1 ∙ at in
    let up = stays_so s v p h g t t (f (slot_of s p)) n a w r changes pays (seen_so ∙ ap f at) is (sound_with s v p h t a)
    (λ k. omega (arith, ap (slot_places k) same)) ∙ ap peaks (sym q.0) in (
      kept_raised s v p h g t t (f (slot_of s p)) n a w r changes pays (seen_so ∙ ap f at) is (sound_with s v p h t a) up,
      subst (λ y. Settles y n p (f (slot_of y p))) e
          (settles_raised s v p h g t t (f (slot_of s p)) n a w r changes pays (seen_so ∙ ap f at) is (sound_with s v p h t a) up),
    )

sound_filled : (s : Slots) (v : Trades) (p : SlotId) (u : Content) → IsSlot p → IsSlots s → (f : Heap)
    → AreSound (put (with_store s v.trading.ledger (holder s p) f) p u).trades.trading
sound_filled s v p u l i f =
    sound_put (with_store s v.trading.ledger (holder s p) f) p u l (with_sound s v.trading.ledger (holder s p) f i.sound)

-- memory that is made in the slot, beside the heap
pub makes_beside : {acc : ℕ} (z s : Slots) (v w : Trades) (own : List (List Content)) (p : SlotId) (h : Heap) (t u : Content) (slot : world.Slot) → s ≡ z →
    IsAt acc s p h t
    → IsTrading s.trades.trading → IsSlot p → SameButMemory acc s.trades v → Changes h h (its s.trades acc) (its v acc) t u → seen (its v acc) u ≡ slot
    → Pays h h (its s.trades acc) (its v acc) t u → ((k : ℕ) → slot_places k slot ≡ 0) → w ≡ with_trading v (put_trading v.trading p u) → own ≡ put_own s.own p
    u
    → LeavesSettled z (of_parts w own s.heaps) p slot
makes_beside z s v w own p h t u slot e a tr l r changes seen_so pays none ws os =
    let is = ap (of_parts w own) (sym (same_heap s (holder s p) h a.heap)) ∙ filled s v w own p h u r ws os in
    let n = of_parts w own s.heaps in
    let up = stays_so s v p h h t u slot n a tr r changes pays seen_so is (sound_filled s v p u l a.kept) (λ k. omega (arith, none k)) in (
      kept_raised s v p h h t u slot n a tr r changes pays seen_so is (sound_filled s v p u l a.kept) up,
      subst (λ y. Settles y n p slot) e (settles_raised s v p h h t u slot n a tr r changes pays seen_so is (sound_filled s v p u l a.kept) up),
    )

-- memory of the heap that is made in the slot
pub makes_block : {acc : ℕ} (z s : Slots) (v w : Trades) (own : List (List Content)) (p : SlotId) (h g : Heap) (t u : Content) (slot : world.Slot) (x : ℕ) → s
    ≡ z
    → IsAt acc s p h t → IsTrading s.trades.trading → x ≡ holder z p → IsSlot p → SameButMemory acc s.trades v → Changes h g (its s.trades acc) (its v acc) t u
    → seen (its v acc) u ≡ slot
    → Pays h g (its s.trades acc) (its v acc) t u → Raises h g (its s.trades acc) (its v acc) t u → w ≡ with_trading v (put_trading v.trading p u)
    → own ≡ put_own s.own p u → LeavesSettled z (of_parts w own (set s.heaps x g)) p slot
makes_block z s v w own p h g t u slot x e a tr at_x l r changes seen_so pays q ws os =
    let y : x ≡ holder s p = at_x ∙ ap (λ y. holder y p) (sym e) in
    let is = ap (λ i. of_parts w own (set s.heaps i g)) y ∙ filled s v w own p g u r ws os in
    let n = of_parts w own (set s.heaps x g) in
    let up = raises_so s v p h g t u slot n a tr r changes pays seen_so is (sound_filled s v p u l a.kept) q in (
      kept_raised s v p h g t u slot n a tr r changes pays seen_so is (sound_filled s v p u l a.kept) up,
      subst (λ y. Settles y n p slot) e (settles_raised s v p h g t u slot n a tr r changes pays seen_so is (sound_filled s v p u l a.kept) up),
    )

-- what was in the slot is free
pub frees : {acc : ℕ} (z s : Slots) (v w : Trades) (own : List (List Content)) (p : SlotId) (h g : Heap) (t : Content) (x : ℕ) → s ≡ z → IsAt acc s p h t
    → IsTrading s.trades.trading → x ≡ holder z p → IsSlot p → SameButMemory acc s.trades v → Changes h g (its s.trades acc) (its v acc) t Empty
    → Pays h g (its s.trades acc) (its v acc) t Empty → peaks g ≡ peaks h → w ≡ with_trading v (put_trading v.trading p Empty) → own ≡ put_own s.own p Empty
    → Leaves z (of_parts w own (set s.heaps x g)) p world.Empty
frees z s v w own p h g t x e a tr at_x l r changes pays same ws os =
    let y : x ≡ holder s p = at_x ∙ ap (λ y. holder y p) (sym e) in
    let is = ap (λ i. of_parts w own (set s.heaps i g)) y ∙ filled s v w own p g Empty r ws os in
    let n = of_parts w own (set s.heaps x g) in (
      kept_same s v p h g t Empty world.Empty n a tr r changes pays refl is (sound_filled s v p Empty l a.kept) same (λ k. omega arith),
      subst (λ y. PutsSlot y n p world.Empty) e
          (puts_same s v p h g t Empty world.Empty n a tr r changes pays refl is (sound_filled s v p Empty l a.kept) same),
    )

-- where nothing was done
pub same_parts : (s : Slots) (v : Trades) (h g : Heap) (x : ℕ) → g ≡ h → v ≡ s.trades → IsHeapOf s x h → of_parts v s.own (set s.heaps x g) ≡ s
same_parts s v h g x e f is = (λ k. of_parts (f k) s.own (set s.heaps x (e k))) ∙ ap (of_parts s.trades s.own) (same_heap s x h is)

true_is : IsTrue true
true_is = refl

-- an entry that is added, or was there, or is refused
pub takes : {acc : ℕ} {E : Type 0} (z s : Slots) (v : Trades) (p : SlotId) (h g : Heap) (t : Content) (i x : ℕ) (res : Result Bool E) → s ≡ z → IsAt acc s p h t
    → IsTrading s.trades.trading → x ≡ holder z p → SameButMemory acc s.trades v
    → IfOk res (λ b. TakesEntry h g (its s.trades acc) (its v acc) t i b) → OnErr res ((g ≡ h) × (v ≡ s.trades))
    → IsSlots (of_parts v s.own (set s.heaps x g)) × OnOk res (Settles z (of_parts v s.own (set s.heaps x g)) p (with_entry i added (slot_of z p)))
takes z s v p h g t i x (Ok true) e a w at_x r taken err =
    takes_place z s v p h g t (with_entry i added) x e a w at_x r taken.changes taken.reads taken.pays (inl (taken.raises (taken.fresh.0 true_is)))
takes z s v p h g t i x (Ok false) e a w at_x r taken err =
    takes_place z s v p h g t (with_entry i added) x e a w at_x r taken.changes taken.reads taken.pays (inr (taken.there refl))
takes z s v p h g t i x (Err f) e a w at_x r taken err =
    (subst IsSlots (sym (same_parts s v h g x err.0 err.1 (subst (λ y. IsHeapOf s y h) (sym (at_x ∙ ap (λ y. holder y p) (sym e))) a.heap))) a.kept, tt)
