use Rattle.std.proofs.Common.{◌≡◌, ◌<◌, length, get_or, None, arith, sym, ◌∙◌}
use Rattle.gq_region.proofs.Lowest_free_region.{lowest_is, lowest_none, reads, is_free}
use Rattle.gq_region.proofs.map.first_free.Goals as goal

pub returns-then-is_none : goal.returns-then-is_none
returns-then-is_none c =
    let ps = c.args.places.now.items in let k = c.loop-k.k in let lt : k < length ps = omega (arith, c.loop-k-test.true, c.len-count.ensures) in
    let free : get_or ps k None ≡ None = reads ps k c.index.result.now lt c.index.ensures ∙ is_free c.index.result.now c.if-is_none.ensures in
    sym (lowest_is ps k lt free c.loop-k.invariant)

pub returns : goal.returns
returns c =
    let ps = c.args.places.now.items in let n : length ps ≡ c.len-count.result = omega (arith, c.len-count.ensures) in
    sym (lowest_none ps (λ j lt. c.loop-k.invariant j (omega (arith, lt, n, c.loop-k-test.false))) ∙ n)
