-- Worlds of two frames that differ in one leaf.
use Rattle.std.proofs.Common.{map, ◌≡◌, ◌<◌, ℕ, zero, suc, List, [], ◌∷◌, get_or, length, Some, sym, ap, ◌∙◌, arith}
use Rattle.std.specs.Prelude.{slice_get, slice_set}
use Rattle.gq_model.specs.machine.World as world
use Rattle.gq_store.specs.Store.{Store}
use Rattle.gq_heap.specs.declared.heap.Heap.{Heap}
use Rattle.gq_heap.specs.Heap.{peaks}
use Rattle.gq_contents.specs.Contents.{seen}
use Rattle.gq_contents.specs.declared.content.Content.{Content}
use Rattle.gq_slots.specs.Slots.{Frame, Slots, leaf_seen, leaves_seen, memory_of, world_seen}
use Rattle.gq_trade.specs.Seen_sessions.{sessions_seen}
use Rattle.gq_leaf.specs.Leaf_frames.{IsElsewhere}

abbrev Leaves : Type 0
Leaves = ℕ → world.Leaf

leaves_same : (l m : Leaves) (st : ℕ → Store) (own : List (List Content)) (hs : List Heap) → ((y : ℕ) → m y ≡ l y)
    → leaves_seen m st own hs ≡ leaves_seen l st own hs
leaves_same l m st own hs e k = leaves_seen (λ y. e y k) st own hs

leaves_changed : (l m : Leaves) (st : ℕ → Store) (own : List (List Content)) (hs : List Heap) (x : ℕ) (h : Heap) → x < length own → x < length hs
    → ((y : ℕ) → (y ≡ x → ⊥) → m y ≡ l y)
    → leaves_seen m st own hs ≡ slice_set (leaves_seen l st own hs) x (leaf_seen (m x) (st x) (get_or own x []) (get_or hs x h))
leaves_changed l m st [] hs x h lo lh e = absurd (omega (arith, lo))
leaves_changed l m st (ts ∷ own) [] x h lo lh e = absurd (omega (arith, lh))
leaves_changed l m st (ts ∷ own) (g ∷ hs) zero h lo lh e =
    ap (λ rest. leaf_seen (m 0) (st 0) ts g ∷ rest)
    (leaves_same (λ y. l (suc y)) (λ y. m (suc y)) (λ y. st (suc y)) own hs (λ y. e (suc y) (λ f. absurd (omega (arith, f)))))
leaves_changed l m st (ts ∷ own) (g ∷ hs) (suc x) h lo lh e =
    let first : m 0 ≡ l 0 = e 0 (λ f. absurd (omega (arith, f))) in
    let rest = leaves_changed (λ y. l (suc y)) (λ y. m (suc y)) (λ y. st (suc y)) own hs x h (omega (arith, lo)) (omega (arith, lh))
    (λ y n. e (suc y) (λ f. n (omega (arith, f)))) in
    λ k. leaf_seen (first k) (st 0) ts g ∷ rest k

-- where the world has a leaf, there are slots and a heap for it
found_both : (l : Leaves) (st : ℕ → Store) (own : List (List Content)) (hs : List Heap) (x : ℕ) (leaf : world.Leaf)
    → slice_get (leaves_seen l st own hs) x ≡ Some leaf → (x < length own) × (x < length hs)
found_both l st [] hs x leaf e = cc
found_both l st (ts ∷ own) [] x leaf e = cc
found_both l st (ts ∷ own) (g ∷ hs) zero leaf e = (omega arith, omega arith)
found_both l st (ts ∷ own) (g ∷ hs) (suc x) leaf e =
    let r = found_both (λ y. l (suc y)) (λ y. st (suc y)) own hs x leaf e in
    let a = r.0 in
    let b = r.1 in
    (omega (arith, a), omega (arith, b))

found_leaf : (l : Leaves) (st : ℕ → Store) (own : List (List Content)) (hs : List Heap) (x : ℕ) (leaf : world.Leaf) (h : Heap)
    → slice_get (leaves_seen l st own hs) x ≡ Some leaf → leaf ≡ leaf_seen (l x) (st x) (get_or own x []) (get_or hs x h)
found_leaf l st [] hs x leaf h e = cc
found_leaf l st (ts ∷ own) [] x leaf h e = cc
found_leaf l st (ts ∷ own) (g ∷ hs) zero leaf h e = cc
found_leaf l st (ts ∷ own) (g ∷ hs) (suc x) leaf h e = found_leaf (λ y. l (suc y)) (λ y. st (suc y)) own hs x leaf h e

no_heap : Heap
no_heap = record { bins = []; large = 0; large_count = 0; few = omega arith; count_few = omega arith }

-- the world of a frame in which the x-th leaf stands otherwise
pub changed_frame : (f g : Frame) (s : Slots) (x : ℕ) (leaf : world.Leaf) → slice_get (world_seen f s).leaves x ≡ Some leaf → IsElsewhere f g x
    → world_seen g s ≡ world.with_leaf (world_seen f s) x (record (g.leaf x) { slots = leaf.slots; peaks = leaf.peaks })
changed_frame f g s x leaf there e =
    let both = found_both f.leaf (memory_of s) s.own s.heaps x leaf there in
    let is = found_leaf f.leaf (memory_of s) s.own s.heaps x leaf no_heap there in
    let now = leaves_changed f.leaf g.leaf (memory_of s) s.own s.heaps x no_heap both.0 both.1 e.others in
    let same : leaf_seen (g.leaf x) (memory_of s x) (get_or s.own x []) (get_or s.heaps x no_heap)
    ≡ record (g.leaf x) { slots = leaf.slots; peaks = leaf.peaks } =
    ap (λ (y : world.Leaf). record (g.leaf x) { slots = y.slots; peaks = y.peaks }) (sym is) in
    λ k. record {
      leaves = (now ∙ ap (slice_set (leaves_seen f.leaf (memory_of s) s.own s.heaps) x) same) k;
      sessions = sessions_seen (e.names k) s.trades.trading;
      requests = (world_seen f s).requests;
    }

stands_alike : (leaf l : world.Leaf) (slots : List world.Slot) (peaks : List ℕ) → leaf ≡ record l { slots = slots; peaks = peaks }
    → leaf ≡ record l { slots = leaf.slots; peaks = leaf.peaks }
stands_alike leaf l slots peaks e = e ∙ sym (λ k. record l { slots = (e k).slots; peaks = (e k).peaks })

-- the leaf in the world is the frame's, but for its slots and its peaks
pub seen_leaf : (f : Frame) (s : Slots) (x : ℕ) (leaf : world.Leaf) → slice_get (world_seen f s).leaves x ≡ Some leaf
    → leaf ≡ record (f.leaf x) { slots = leaf.slots; peaks = leaf.peaks }
seen_leaf f s x leaf there =
    let is = found_leaf f.leaf (memory_of s) s.own s.heaps x leaf no_heap there in
    stands_alike leaf (f.leaf x) (map (seen (memory_of s x)) (get_or s.own x [])) (peaks (get_or s.heaps x no_heap)) is
