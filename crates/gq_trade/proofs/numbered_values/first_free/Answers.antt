use Rattle.std.proofs.Common.{◌≡◌, ◌<◌, ◌≤◌, length, get_or, None, arith, sym, ◌∙◌}
use Rattle.gq_trade.proofs.Lowest_free_number.{lowest_is, lowest_none, reads, is_free}
use Rattle.gq_trade.proofs.numbered_values.first_free.Goals as goal

pub returns-then-is_none : goal.returns-then-is_none
returns-then-is_none g c =
    let xs = c.args.places.now.items in let k = c.loop-k.k in
    let there : k < length xs = omega (arith, c.loop-k-test.true, c.len-k-end.ensures, c.args.places.now.ok.0) in
    let free : get_or xs k None ≡ None = reads xs k c.index.result.now there c.index.ensures ∙ is_free c.index.result.now c.if-is_none.ensures in
    sym (lowest_is xs k there free c.loop-k.invariant)

pub returns : goal.returns
returns g c =
    let xs = c.args.places.now.items in
    let end : length xs ≤ c.loop-k.k = omega (arith, c.loop-k-test.false, c.len-k-end.ensures, c.args.places.now.ok.0) in
    let long : c.len.result ≡ length xs = omega (arith, c.len.ensures, c.args.places.now.ok.0) in
    long ∙ sym (lowest_none xs (λ j lt. c.loop-k.invariant j (omega (arith, lt, end))))
