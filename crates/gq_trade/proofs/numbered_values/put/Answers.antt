use Rattle.std.proofs.Common.{◌≡◌, ◌<◌, length, set, Some, arith, ap, sym, ◌∙◌}
use Rattle.gq_trade.specs.Numbers.{free_number}
use Rattle.gq_trade.proofs.Lowest_free_number.{added_at, added_end, lowest_within}
use Rattle.gq_trade.proofs.numbered_values.put.Goals as goal

pub returns-then-number-len-clause-added : goal.returns-then-number-len-clause-added
returns-then-number-len-clause-added g c =
    let xs = c.args.places.now.items in
    let there : free_number xs < length xs = omega (arith, c.if-number-len.true, c.len.ensures, c.args.places.now.ok.0, c.requires.number) in
    ap (λ j. set xs j (Some c.args.value)) c.requires.number ∙ sym (added_at c.args.value xs there)

pub returns-clause-added : goal.returns-clause-added
returns-clause-added g c =
    let xs = c.args.places.now.items in
    let all : free_number xs ≡ length xs = omega (arith, c.if-number-len.false, c.len.ensures, c.args.places.now.ok.0, c.requires.number, lowest_within xs) in
    c.in-Ok.ensures.items ∙ sym (added_end c.args.value xs all)
