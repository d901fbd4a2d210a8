use Rattle.std.proofs.Common.{arith, ◌<◌, length, sym, ◌∙◌}
use Rattle.gq_verify.specs.Requested.{is_asked}
use Rattle.gq_verify.proofs.Service_name_keys.{asked_next, asked_here}
use Rattle.gq_verify.proofs.Requests_outside_range.{skipped, rest, not_asked}
use Rattle.gq_verify.proofs.asked.RequestCounts.is_asked.Goals as goal

pub loop-place-init : goal.loop-place-init
loop-place-init c =
    let v = c.args.service.now in
    skipped v (is_asked v) (not_asked v) c.args.self.now c.range-first.result.0 c.range-first.result.1 c.range-first.ensures.outside

pub returns-then-is_of_at : goal.returns-then-is_of_at
returns-then-is_of_at c =
    let less : c.loop-place.place < length c.args.self.now = omega (arith, c.loop-place-test.true, c.range-first.ensures.end) in
    asked_here c.args.self.now c.loop-place.place c.args.service.now c.is_of_at.result less c.is_of_at.ensures c.if-is_of_at.true ∙ c.loop-place.invariant

pub loop-place-preserved : goal.loop-place-preserved
loop-place-preserved c =
    let less : c.loop-place.place < length c.args.self.now = omega (arith, c.loop-place-test.true, c.range-first.ensures.end) in
    asked_next c.args.self.now c.loop-place.place c.args.service.now c.is_of_at.result less c.is_of_at.ensures c.if-is_of_at.false ∙ c.loop-place.invariant

pub returns : goal.returns
returns c =
    let v = c.args.service.now in
    let none = rest v (is_asked v) (not_asked v) c.args.self.now c.range-first.result.0 c.range-first.result.1 c.loop-place.place
    c.range-first.ensures.outside c.loop-place-test.false in
    sym none ∙ c.loop-place.invariant
