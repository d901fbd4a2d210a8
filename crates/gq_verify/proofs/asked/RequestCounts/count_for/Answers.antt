use Rattle.std.proofs.Common.{arith, ◌<◌, length, List}
use Rattle.gq_verify.specs.Requested.{Requested, requests_for}
use Rattle.gq_verify.proofs.Service_name_keys.{summed_more, summed_end}
use Rattle.gq_verify.proofs.Requests_outside_range.{skipped, rest, not_counted}
use Rattle.gq_verify.proofs.asked.RequestCounts.count_for.Goals as goal

pub loop-place-init : goal.loop-place-init
loop-place-init c =
    let v = c.args.service.now in
    let r = c.args.section in
    let f = λ (l : List Requested). requests_for l v r in
    let all = skipped v f (not_counted v r) c.args.self.now c.range-first.result.0 c.range-first.result.1 c.range-first.ensures.outside in
    record { summed = omega (arith, all); fits = omega arith }

pub loop-place-preserved : goal.loop-place-preserved
loop-place-preserved c =
    let less : c.loop-place.place < length c.args.self.now = omega (arith, c.loop-place-test.true, c.range-first.ensures.end) in
    record {
      summed =
          summed_more c.args.self.now c.loop-place.place c.loop-place.sum c.count_at.result c.saturating_add-sum.result c.args.service.now c.args.section _ less
          c.count_at.ensures c.saturating_add-sum.ensures c.loop-place.invariant.summed;
      fits = omega arith;
    }

pub returns : goal.returns
returns c =
    let v = c.args.service.now in
    let r = c.args.section in
    let f = λ (l : List Requested). requests_for l v r in
    let none = rest v f (not_counted v r) c.args.self.now c.range-first.result.0 c.range-first.result.1 c.loop-place.place c.range-first.ensures.outside
    c.loop-place-test.false in
    summed_end c.args.self.now c.loop-place.place c.loop-place.sum v r (requests_for c.args.self.now v r) none c.loop-place.invariant.fits
    c.loop-place.invariant.summed
