use Rattle.std.proofs.Common.{◌≤◌, ◌+◌, ◌*◌, get_or, sym, subst, ◌∙◌, arith}
use Rattle.std.proofs.lemmas.List.{take_rest}
use Rattle.gq_init.proofs.First_turn_line.{AreDigits, count_reported, next_digit}
use Rattle.gq_init.proofs.Line_number_counts.{power_below}
use Rattle.gq_init.proofs.turns.count_ahead.Goals as goal

pub returns-then-byte-eq10 : goal.returns-then-byte-eq10
returns-then-byte-eq10 c =
    let text = c.args.text.now in
    let l = c.loop-place in
    rw (take_rest text (l.place + 1)) (count_reported text l.place l.number l.auto.place (omega (arith, c.loop-place-test.true, c.min-place-end.ensures))
    (omega (arith, c.loop-place-test.true, c.min-place-end.ensures)) c.if-byte-eq10.true l.invariant)

pub overflow_mul-number : goal.overflow_mul-number
overflow_mul-number c =
    let below = power_below c.loop-place.place 7 (omega (arith, c.loop-place-test.true, c.min-place-end.ensures)) in
    omega (arith, below, c.loop-place.invariant.high)

pub overflow_add-number : goal.overflow_add-number
overflow_add-number c =
    let below = power_below c.loop-place.place 7 (omega (arith, c.loop-place-test.true, c.min-place-end.ensures)) in
    let digit : get_or c.args.text.now c.loop-place.place 0 ≤ 255 = omega (arith, c.type_inv.text c.loop-place.place) in
    omega (arith, below, digit, c.loop-place.invariant.high)

pub loop-place-preserved : goal.loop-place-preserved
loop-place-preserved c =
    let l = c.loop-place in
    subst (λ n. AreDigits c.args.text.now (l.place + 1) (10 * l.number + n)) (sym c.from.ensures) (next_digit c.args.text.now l.place l.number
    (omega (arith, c.loop-place-test.true, c.min-place-end.ensures)) (sym c.is_digit.ensures ∙ c.if-not-is_digit.false) l.invariant)
