-- Where a place of a class more can't be paid for, the world with it is not paid for.
use Rattle.std.proofs.Common.{◌≡◌, ℕ, ◌+◌, ◌<◌, ◌≤◌, max, false, cond, eqb, List, [], ◌∷◌, length}
use Rattle.std.proofs.Common.{Some, refl, ap, ◌∙◌, arith}
use Rattle.std.specs.Prelude.{slice_get}
use Rattle.gq_tariff.specs.Prices.{classes, size_for}
use Rattle.gq_model.specs.machine.Amounts.{Resource, Ram, Caps}
use Rattle.gq_model.specs.machine.Resource_prices.{heap}
use Rattle.gq_model.specs.machine.Scenario.{System}
use Rattle.gq_model.specs.machine.World as world
use Rattle.gq_model.specs.machine.Sums.{held, paid, places, raised, slot_places, slot_price, with_peaks}
use Rattle.gq_heap.specs.declared.heap.Heap.{Heap}
use Rattle.gq_heap.specs.Heap.{rise, rise_caps}
use Rattle.gq_heap.proofs.Heap_class_charges.{pages_are}
use Rattle.gq_contents.specs.Paid.{raised_by}
use Rattle.gq_slots.specs.Slots.{Frame, IsHeapOf, Slots, one_more_of, rise_of, settled_in, world_seen}
use Rattle.gq_statements.specs.Systems.{AreLawful, IsOf, Lacks}
use Rattle.gq_statements.proofs.Unpaid_made_memory.{unpaid_written}
use Rattle.gq_statements.proofs.Written_slot_holdings.{Writes}

raised_where : (v : world.World) (x : ℕ) (l : world.Leaf) (f : ℕ → ℕ) (cs ps : List ℕ) → ((c : ℕ) → places v x l c ≡ f c)
    → raised v x l cs ps ≡ raised_by f cs ps
raised_where v x l f [] ps e = refl
raised_where v x l f (c ∷ cs) [] e = refl
raised_where v x l f (c ∷ cs) (p ∷ ps) e = let rest = raised_where v x l f cs ps e in λ i. max p (e c i) ∷ rest i

-- a rise of bytes is of whole pages, each of which costs a capability
pages_rise : (ps qs : List ℕ) (h : Heap) (n : ℕ) → heap Ram qs ≡ heap Ram ps + rise h n → heap Caps qs ≡ heap Caps ps + rise_caps h n
    → 0 < rise h n → 0 < rise_caps h n
pages_rise ps qs h n a b pos =
    let c = pages_are classes ps in
    let d = pages_are classes qs in
    omega (arith, a, b, c, d, pos)

module _ (system : System) (f : Frame) (s : Slots) (l : AreLawful s) (o : IsOf system f s) (x : ℕ) (lt : x < length s.own) (h : Heap) (is : IsHeapOf s x h)
    (n : ℕ) (small : n ≤ 2048) (v : world.World) (leaf : world.Leaf) (old slot : world.Slot) (stands : slice_get (world_seen f s).leaves x ≡ Some leaf)
    (w : Writes (world_seen f s) v x leaf old slot) (price : (r : Resource) → slot_price r slot ≡ slot_price r old)
    (more : (c : ℕ) → slot_places c slot ≡ slot_places c old + cond (eqb (size_for n) c) 1 0) where
  peaks_then : raised v x w.then_ classes w.then_.peaks ≡ raised_by (one_more_of n (places (world_seen f s) x leaf)) classes leaf.peaks
  peaks_then =
      ap (raised v x w.then_ classes) w.peaks
      ∙ raised_where v x w.then_ (one_more_of n (places (world_seen f s) x leaf)) classes leaf.peaks
      (λ c. (let a = w.uses c in let b = more c in omega (arith, a, b)))

  rises_by : (r : Resource) → held r (world_seen f s) x leaf + rise_of r h n ≡ held r v x (with_peaks v x w.then_)
  rises_by r =
      let a = w.holds r in
      let b = price r in
      let c = l.rises r f x h leaf n is stands small in
      let d = ap (heap r) peaks_then in
      let e = ap (heap r) w.peaks in
      omega (arith, a, b, c, d, e)

  pub unpaid_place : (r : Resource) → Lacks r s x (rise h n) → paid system (settled_in x v) ≡ false
  unpaid_place Ram lacks =
      let a = rises_by Ram in
      unpaid_written system f s l o x lt Ram (rise h n) v leaf old slot lacks stands w (omega (arith, a))
  unpaid_place Caps lacks =
      let a = rises_by Caps in
      let m = raised_by (one_more_of n (places (world_seen f s) x leaf)) classes leaf.peaks in
      let pos = pages_rise leaf.peaks m h n (l.rises Ram f x h leaf n is stands small) (l.rises Caps f x h leaf n is stands small) lacks.1 in
      unpaid_written system f s l o x lt Caps (rise_caps h n) v leaf old slot (lacks.0, pos) stands w (omega (arith, a))
