use Rattle.std.proofs.Common.{ap, sym, ◌∙◌, ◌+◌, ◌/◌, arith}
use Rattle.itoa.proofs.Decimal.{length_one, length_pair, length_two}
use Rattle.gq_output.proofs.gathered_lines.short_count.Goals as goal

pub returns-then-number-lt10 : goal.returns-then-number-lt10
returns-then-number-lt10 c = sym (length_one c.args.number (omega arith))

pub returns-else-number-lt10 : goal.returns-else-number-lt10
returns-else-number-lt10 c = sym (length_two c.args.number (omega arith) (omega arith))

pub returns-then-number-lt1000 : goal.returns-then-number-lt1000
returns-then-number-lt1000 c =
    let n = c.args.number in
    sym (length_pair n (omega arith) (omega arith) ∙ ap (λ k. k + 2) (length_one (n / 100) (omega arith)))

pub returns-else-number-lt1000 : goal.returns-else-number-lt1000
returns-else-number-lt1000 c =
    let n = c.args.number in
    sym (length_pair n (omega arith) (omega arith) ∙ ap (λ k. k + 2) (length_two (n / 100) (omega arith) (omega arith)))
