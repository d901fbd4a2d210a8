-- Where a block or an entry of a pool can't be paid for, the world with it is not paid for.
use Rattle.std.proofs.Common.{◌≡◌, ℕ, zero, suc, ◌+◌, ◌<◌, ◌≤◌, inl, inr, Bool, true, false, cond, eqb, List, [], ◌∷◌, length, replicate, set, get_or}
use Rattle.std.proofs.Common.{Option, Some, None, refl, sym, ap, ◌∙◌, arith}
use Rattle.std.specs.Prelude.{count_by, is_some}
use Rattle.std.proofs.lemmas.Bool.{cases_lt}
use Rattle.std.proofs.lemmas.List.{length-map}
use Rattle.std.proofs.lemmas.List.Sums.{sum_by-cons}
use Rattle.gq_tariff.specs.Prices.{size_for, up}
use Rattle.gq_model.specs.declared.program.Form.TheVariants as form
use Rattle.gq_model.specs.machine.Amounts.{Resource, Ram, Caps}
use Rattle.gq_model.specs.machine.Scenario.{System}
use Rattle.gq_model.specs.machine.World as world
use Rattle.gq_model.specs.machine.Sums.{paid, slot_places, slot_price}
use Rattle.gq_store.specs.Store.{Store}
use Rattle.gq_store.proofs.Stored_byte_lists.{length-listed}
use Rattle.gq_heap.specs.declared.heap.Heap.{Heap}
use Rattle.gq_heap.specs.Heap.{class_rise, rise}
use Rattle.gq_heap.proofs.Heap_charge_rises.{is_large, is_small}
use Rattle.gq_pool.specs.Pools.{entries_of, entry_bytes, held_of}
use Rattle.gq_contents.specs.declared.content.Content.{Content}
use Rattle.gq_contents.specs.declared.content.Content.TheVariants as content
use Rattle.gq_contents.specs.Contents.{added, entry_count, entry_in, entry_size, seen, with_entry}
use Rattle.gq_trade.specs.declared.session.SlotId.{SlotId}
use Rattle.gq_trade.specs.Seen_sessions.{slot_id_seen}
use Rattle.gq_slots.specs.Slots.{Frame, IsHeapOf, IsSlot, IsSlotId, Slots, holder, memory_of, settled_in, slot_of, content_at, world_seen}
use Rattle.gq_slots.proofs.Content_price_facts.{price_entry}
use Rattle.gq_statements.specs.Systems.{AreLawful, IsOf, Lacks}
use Rattle.gq_statements.proofs.Unpaid_made_memory.{leaf_found, unpaid_made, written_at}
use Rattle.gq_statements.proofs.Unpaid_heap_cell.{unpaid_place}

-- BLOCKS

block_price : (r : Resource) (n : ℕ) (bytes : List ℕ) → n ≤ 2048 → slot_price r (world.Bytes form.Block n bytes) ≡ 0
block_price Ram n bytes le = ap (λ b. cond b (up n) 0) (is_small n le)
block_price Caps n bytes le = ap (λ b. cond b 1 0) (is_small n le)

large_lacks : (s : Slots) (x : ℕ) (h : Heap) (n : ℕ) (bytes : List ℕ) → 2048 < n → (r : Resource) → Lacks r s x (rise h n)
    → Lacks r s x (slot_price r (world.Bytes form.Block n bytes))
large_lacks s x h n bytes lt Ram lacks =
    let a : rise h n ≡ up n = ap (λ b. cond b (up n) (class_rise h n)) (is_large n lt) in
    let b : slot_price Ram (world.Bytes form.Block n bytes) ≡ up n = ap (λ c. cond c (up n) 0) (is_large n lt) in
    omega (arith, a, b, lacks)
large_lacks s x h n bytes lt Caps lacks =
    let b : slot_price Caps (world.Bytes form.Block n bytes) ≡ 1 = ap (λ c. cond c 1 0) (is_large n lt) in
    (lacks.0, omega (arith, b))

-- Where the leaf that pays for an empty slot can't pay for a block more, the world with the block is not paid for.
pub unpaid_block : (system : System) (f : Frame) (s : Slots) (p : SlotId) (h : Heap) (n : ℕ) → AreLawful s → IsOf system f s → IsSlotId s p → IsSlot p
    → content_at s p ≡ content.Empty → holder s p < length s.own → IsHeapOf s (holder s p) h → (r : Resource) → Lacks r s (holder s p) (rise h n)
    → paid system (settled_in (holder s p) (world.with_slot (world_seen f s) (slot_id_seen p) (world.Bytes form.Block n (replicate n 0)))) ≡ false
unpaid_block system f s p h n l o there is empty lt its r lacks = elim (cases_lt 2048 n) [
  | inl large ↦
      unpaid_made system f s p (world.Bytes form.Block n (replicate n 0)) l o there is empty lt r
      (large_lacks s (holder s p) h n (replicate n 0) large r lacks)
  | inr small ↦
      (let x = holder s p in
      let slot : world.Slot = world.Bytes form.Block n (replicate n 0) in
      let found = leaf_found f s l x lt in
      let old : slot_of s p ≡ world.Empty = ap (seen (memory_of s x)) empty in
      unpaid_place system f s l o x lt h its n small (world.with_slot (world_seen f s) (slot_id_seen p) slot) found.0 (slot_of s p) slot found.1
      (written_at f s p found.0 slot l there is found.1)
      (λ q. block_price q n (replicate n 0) small ∙ sym (ap (slot_price q) old))
      (λ c. (let a = ap (slot_places c) old in omega (arith, a))) r lacks)
]

-- ENTRIES OF POOLS

-- an entry that is added to those that are there
count_added : (es : List (Option (List ℕ))) (i : ℕ) (bytes : List ℕ) → i < length es → get_or es i None ≡ None
    → count_by is_some (set es i (Some bytes)) ≡ count_by is_some es + 1
count_added [] i bytes lt e = absurd (omega (arith, lt))
count_added (None ∷ es) zero bytes lt e =
    let a = sum_by-cons (λ (o : Option (List ℕ)). cond (is_some o) 1 0) (Some bytes) es in
    let b = sum_by-cons (λ (o : Option (List ℕ)). cond (is_some o) 1 0) None es in
    omega (arith, a, b)
count_added (Some y ∷ es) zero bytes lt e = cc
count_added (y ∷ es) (suc i) bytes lt e =
    let a = sum_by-cons (λ (o : Option (List ℕ)). cond (is_some o) 1 0) y (set es i (Some bytes)) in
    let b = sum_by-cons (λ (o : Option (List ℕ)). cond (is_some o) 1 0) y es in
    let rest = count_added es i bytes (omega (arith, lt)) e in
    omega (arith, a, b, rest)

cond_more : (b : Bool) (m n : ℕ) → m ≡ n + 1 → cond b m 0 ≡ cond b n 0 + cond b 1 0
cond_more true m n e = e
cond_more false m n e = refl

-- a pool with an entry that was absent has one place more in use
places_added : (c i n : ℕ) (es : List (Option (List ℕ))) → i < length es → get_or es i None ≡ None
    → slot_places c (with_entry i added (world.Pool n es)) ≡ slot_places c (world.Pool n es) + cond (eqb (size_for n) c) 1 0
places_added c i n es lt e =
    ap (λ y. cond (eqb (size_for n) c) (count_by is_some (set es i (added n y))) 0) e
    ∙ cond_more (eqb (size_for n) c) (count_by is_some (set es i (Some (replicate n 0)))) (count_by is_some es) (count_added es i (replicate n 0) lt e)

-- so has a slot with a pool
slot_added : (st : Store) (t : Content) (c i : ℕ) → i < entry_count t → entry_in i (seen st t) ≡ None
    → slot_places c (with_entry i added (seen st t)) ≡ slot_places c (seen st t) + cond (eqb (size_for (entry_size t)) c) 1 0
slot_added st content.Empty c i lt e = absurd (omega (arith, lt))
slot_added st (content.Block p n) c i lt e = absurd (omega (arith, lt))
slot_added st (content.Slice k n) c i lt e = absurd (omega (arith, lt))
slot_added st (content.Space k n) c i lt e = absurd (omega (arith, lt))
slot_added st (content.Pool p) c i lt e =
    let long : length (entries_of p st) ≡ p.count =
    length-map (held_of p st) (entry_bytes p st) ∙ length-listed p.count _ in
    places_added c i p.size (entries_of p st) (omega (arith, lt, long)) e
slot_added st (content.Link k) c i lt e = absurd (omega (arith, lt))
slot_added st (content.Waiting k) c i lt e = absurd (omega (arith, lt))

-- Where the leaf that pays for a pool can't pay for the place of an absent entry, the world with the entry is not paid for.
pub unpaid_entry : (system : System) (f : Frame) (s : Slots) (p : SlotId) (h : Heap) (i : ℕ) → AreLawful s → IsOf system f s → IsSlotId s p → IsSlot p
    → i < entry_count (content_at s p) → entry_in i (slot_of s p) ≡ None → holder s p < length s.own → IsHeapOf s (holder s p) h
    → (r : Resource) → Lacks r s (holder s p) (rise h (entry_size (content_at s p)))
    → paid system (settled_in (holder s p) (world.with_slot (world_seen f s) (slot_id_seen p) (with_entry i added (slot_of s p)))) ≡ false
unpaid_entry system f s p h i l o there is inside absent lt its r lacks =
    let x = holder s p in
    let n = entry_size (content_at s p) in
    let old = slot_of s p in
    let slot = with_entry i added old in
    let found = leaf_found f s l x lt in
    unpaid_place system f s l o x lt h its n (l.entries p there) (world.with_slot (world_seen f s) (slot_id_seen p) slot) found.0 old slot found.1
    (written_at f s p found.0 slot l there is found.1) (λ q. price_entry q i added old)
    (λ c. slot_added (memory_of s x) (content_at s p) c i inside absent) r lacks
