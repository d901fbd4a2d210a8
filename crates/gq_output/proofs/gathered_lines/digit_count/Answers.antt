use Rattle.std.proofs.Common.{ap, sym, ◌∙◌, ◌+◌, ◌/◌, ◌≡◌, length, decimal, arith}
use Rattle.std.proofs.lemmas.Fmt.{length-decimal-le}
use Rattle.itoa.proofs.Decimal.{length_four}
use Rattle.gq_output.proofs.gathered_lines.digit_count.Goals as goal

pub overflow_add-result : goal.overflow_add-result
overflow_add-result c =
    let few = length-decimal-le 4 (c.args.number / 10000) (omega arith) (omega arith) (omega arith) in
    let is = c.short_count-then-number-lt100000000.ensures in
    record { fits = omega (arith, few, is) }

pub returns-then-number-lt100000000 : goal.returns-then-number-lt100000000
returns-then-number-lt100000000 c =
    ap (λ k. k + 4) c.short_count-then-number-lt100000000.ensures ∙ sym (length_four c.args.number (omega arith) (omega arith))

pub overflow_add-result-2 : goal.overflow_add-result-2
overflow_add-result-2 c =
    let few = length-decimal-le 4 (c.args.number / 100000000) (omega arith) (omega arith) (omega arith) in
    let is = c.short_count-2.ensures in
    record { fits = omega (arith, few, is) }

pub returns : goal.returns
returns c =
    let n = c.args.number in
    let parts : n / 10000 / 10000 ≡ n / 100000000 = omega arith in
    let long = length_four n (omega arith) (omega arith) in
    let first = length_four (n / 10000) (omega arith) (omega arith) in
    let rest = ap (λ m. length (decimal m)) parts in
    let is = c.short_count-2.ensures in
    omega (arith, long, first, rest, is)
