use Rattle.std.proofs.Common.{◌≡◌, ◌<◌, length, set, Some, arith, refl, sym, subst, ◌∙◌, length-set}
use Rattle.gq_region.specs.declared.map.Range.{Range}
use Rattle.gq_region.specs.Region_places.{Places, lowest_free}
use Rattle.gq_region.proofs.Lowest_free_region.{below_lowest, lowest_within, taken_more}
use Rattle.gq_region.proofs.map.RegionMap.attach.Goals as goal

pub invariant_of-self : goal.invariant_of-self
invariant_of-self c =
    let ps = c.self.inside.places.items in let n : length ps ≡ c.len-count.result = omega (arith, c.len-count.ensures) in
    let full : lowest_free ps ≡ c.len-count.result = sym c.first_free-place.ensures ∙ c.if-place-count.true in
    record { few = c.self.invariant.few; within = omega (arith, n); low = λ k lt. below_lowest ps k (omega (arith, lt, full)) }

pub index_mut-requires : goal.index_mut-requires
index_mut-requires c =
    let ps = c.self.inside.places.items in let n : length ps ≡ c.len-count.result = omega (arith, c.len-count.ensures) in
    let low : lowest_free ps < length ps = omega (arith, lowest_within ps, n, c.if-place-count.false, c.first_free-place.ensures) in
    omega (arith, low, c.first_free-place.ensures)

pub overflow_add-self : goal.overflow_add-self
overflow_add-self c =
    let ps = c.self.inside.places.items in
    record { fits = omega (arith, lowest_within ps, c.first_free-place.ensures, c.self.invariant.few) }

pub invariant_of-self-2 : goal.invariant_of-self-2
invariant_of-self-2 c =
    let ps = c.self.inside.places.items in let k = c.first_free-place.result in let r : Range = record { ds = c.args.ds; size = c.args.size } in
    let n : length ps ≡ c.len-count.result = omega (arith, c.len-count.ensures) in
    let low : k < length ps = omega (arith, lowest_within ps, n, c.if-place-count.false, c.first_free-place.ensures) in
    let m : length (set ps k (Some r)) ≡ length ps = length-set ps k (Some r) in
    record {
      few = rw m c.self.invariant.few;
      within = rw m (omega (arith, low));
      low = taken_more ps k r low (λ j lt. below_lowest ps j (omega (arith, lt, c.first_free-place.ensures)));
    }

pub returns-clause-room : goal.returns-clause-room
returns-clause-room c =
    let ps = c.self.inside.places.items in let n : length ps ≡ c.len-count.result = omega (arith, c.len-count.ensures) in
    let low : lowest_free ps < length ps = omega (arith, lowest_within ps, n, c.if-place-count.false, c.first_free-place.ensures) in
    (λ _. subst (λ (qs : Places). lowest_free qs < length qs) c.self.view_is low, λ _. refl)
