use Rattle.std.proofs.Common.{◌≡◌, ◌+◌, ◌*◌, min, refl, arith, ◌-◌, ◌^◌}
use Rattle.std.proofs.lemmas.Slice.Zip.{Zip-more, either_empty_from_Zip}
use Rattle.std.specs.Slice.Iter.{iter_rest}
use Rattle.std.specs.Iterator.Adapters.{zip_first, zip_second}
use Rattle.gq_verify.specs.Saturated_numbers.{saturated}
use Rattle.gq_budget.specs.internal.Product_sums.{products}
use Rattle.gq_budget.proofs.Saturated_product_sums.{products_more, products_end}
use Rattle.gq_budget.proofs.number_sums.products.Goals as goal

pub loop-count-preserved : goal.loop-count-preserved
loop-count-preserved c =
    let l = c.loop-count in
    let s = l.count-iterator in
    let t = c.next.new.self in
    let m = Zip-more s t c.next.result (c.in-Some.count, c.in-Some.times) c.in-Some.is c.next.ensures.steps in
    let x = c.in-Some.count.now in
    let y = c.in-Some.times.now in
    let next : c.saturating_add-sum.result ≡ min (l.sum + min (x * y) (2 ^ 64 - 1)) (2 ^ 64 - 1) = omega arith in
    record {
      summed =
          products_more (2 ^ 64 - 1) l.sum (min (x * y) (2 ^ 64 - 1)) c.saturating_add-sum.result x y (saturated (products c.args.counts.now c.args.often.now))
          (iter_rest (zip_first s)) (iter_rest (zip_second s)) (iter_rest (zip_first t)) (iter_rest (zip_second t)) m.0 m.1 refl next l.invariant.summed;
      fits = omega arith;
    }

pub returns : goal.returns
returns c =
    let l = c.loop-count in
    let s = l.count-iterator in
    let m = either_empty_from_Zip s c.next.new.self c.next.result c.in-None.is c.next.ensures.steps in
    products_end (2 ^ 64 - 1) l.sum (products c.args.counts.now c.args.often.now) (iter_rest (zip_first s)) (iter_rest (zip_second s)) m l.invariant.fits
    l.invariant.summed
