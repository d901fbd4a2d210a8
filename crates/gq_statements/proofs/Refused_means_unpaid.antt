-- What is refused could not be paid for.
use Rattle.std.proofs.Common.{◌≡◌, ◌<◌, ℕ, zero, suc, List, [], ◌∷◌, get_or, length, replicate, Some, None, refl, arith}
use Rattle.std.specs.Prelude.{Result, Ok, Err, IsErrOf, OnErr}
use Rattle.gq_model.specs.machine.Amounts.{Ram, Caps}
use Rattle.gq_model.specs.declared.program.Form.TheVariants as form
use Rattle.gq_model.specs.machine.World as world
use Rattle.gq_model.specs.machine.Sums.{slot_price}
use Rattle.gq_heap.specs.declared.heap.Heap.{Heap}
use Rattle.gq_heap.specs.Heap.{rise}
use Rattle.gq_contents.specs.Contents.{added, entry_count, entry_in, entry_size, with_entry}
use Rattle.gq_store.specs.declared.GrowFault.{GrowFault}
use Rattle.gq_store.specs.declared.GrowFault.TheVariants.{Exceeded, CapsExceeded}
use Rattle.gq_contents.specs.declared.content.Content.TheVariants as content
use Rattle.gq_trade.specs.declared.session.SlotId.{SlotId}
use Rattle.gq_slots.specs.Slots.{IsHeapOf, IsSlot, IsSlotId, Slots, holder, memory_of, slot_of, content_at}
use Rattle.gq_statements.specs.Systems.{AreLawful}
use Rattle.gq_statements.proofs.Unpaid_made_memory.{unpaid_made}
use Rattle.gq_statements.proofs.Unpaid_heap_block.{unpaid_block, unpaid_entry}
use Rattle.gq_statements.specs.internal.Made_memory.{IsUnpaid}

pub refused : {A : Type 0} (s : Slots) (p : SlotId) (slot : world.Slot) (res : Result A GrowFault) → AreLawful s → IsSlotId s p → IsSlot p
    → content_at s p ≡ content.Empty → holder s p < length s.own → (IsErrOf res Exceeded → (memory_of s (holder s p)).left < slot_price Ram slot)
    → (IsErrOf res CapsExceeded → ((memory_of s (holder s p)).caps ≡ Some 0) × (0 < slot_price Caps slot)) → OnErr res (IsUnpaid s p slot)
refused s p slot (Ok a) l there is empty lt ram caps = tt
refused s p slot (Err Exceeded) l there is empty lt ram caps = λ system f o. unpaid_made system f s p slot l o there is empty lt Ram (ram refl)
refused s p slot (Err CapsExceeded) l there is empty lt ram caps = λ system f o. unpaid_made system f s p slot l o there is empty lt Caps (caps refl)

-- the heap of a leaf
again : (hs : List Heap) (x : ℕ) (h : Heap) → get_or hs x (get_or hs x h) ≡ get_or hs x h
again [] x h = refl
again (g ∷ hs) zero h = refl
again (g ∷ hs) (suc x) h = again hs x h

heap_at : (s : Slots) (x : ℕ) → (h : Heap) × IsHeapOf s x h
heap_at s x =
    let none : Heap = record { bins = []; large = 0; large_count = 0; few = omega arith; count_few = omega arith } in
    (get_or s.heaps x none, again s.heaps x none)

-- by the rise of the leaf's heap
pub refused_block : {A : Type 0} (s : Slots) (p : SlotId) (n : ℕ) (res : Result A GrowFault) → AreLawful s → IsSlotId s p → IsSlot p
    → content_at s p ≡ content.Empty → holder s p < length s.own
    → ((h : Heap) → IsHeapOf s (holder s p) h → IsErrOf res Exceeded → (memory_of s (holder s p)).left < rise h n)
    → ((h : Heap) → IsHeapOf s (holder s p) h → IsErrOf res CapsExceeded → ((memory_of s (holder s p)).caps ≡ Some 0) × (0 < rise h n))
    → OnErr res (IsUnpaid s p (world.Bytes form.Block n (replicate n 0)))
refused_block s p n (Ok a) l there is empty lt ram caps = tt
refused_block s p n (Err Exceeded) l there is empty lt ram caps =
    let at = heap_at s (holder s p) in
    λ system f o. unpaid_block system f s p at.0 n l o there is empty lt at.1 Ram (ram at.0 at.1 refl)
refused_block s p n (Err CapsExceeded) l there is empty lt ram caps =
    let at = heap_at s (holder s p) in
    λ system f o. unpaid_block system f s p at.0 n l o there is empty lt at.1 Caps (caps at.0 at.1 refl)

pub refused_entry : {A : Type 0} (s : Slots) (p : SlotId) (i : ℕ) (res : Result A GrowFault) → AreLawful s → IsSlotId s p → IsSlot p
    → i < entry_count (content_at s p) → holder s p < length s.own
    → ((h : Heap) → IsHeapOf s (holder s p) h → IsErrOf res Exceeded
    → (entry_in i (slot_of s p) ≡ None) × ((memory_of s (holder s p)).left < rise h (entry_size (content_at s p))))
    → ((h : Heap) → IsHeapOf s (holder s p) h → IsErrOf res CapsExceeded
    → (entry_in i (slot_of s p) ≡ None) × ((memory_of s (holder s p)).caps ≡ Some 0) × (0 < rise h (entry_size (content_at s p))))
    → OnErr res ((entry_in i (slot_of s p) ≡ None) × IsUnpaid s p (with_entry i added (slot_of s p)))
refused_entry s p i (Ok a) l there is lt inside ram caps = tt
refused_entry s p i (Err Exceeded) l there is lt inside ram caps =
    let at = heap_at s (holder s p) in
    let why = ram at.0 at.1 refl in
    (why.0, λ system f o. unpaid_entry system f s p at.0 i l o there is lt why.0 inside at.1 Ram why.1)
refused_entry s p i (Err CapsExceeded) l there is lt inside ram caps =
    let at = heap_at s (holder s p) in
    let why = caps at.0 at.1 refl in
    (why.0, λ system f o. unpaid_entry system f s p at.0 i l o there is lt why.0 inside at.1 Caps (why.1, why.2))
