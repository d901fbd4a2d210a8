use Rattle.std.proofs.Common.{◌≡◌, ◌≤◌, ◌<◌, length, get_or, true, refl, sym, ◌∙◌, arith}
use Rattle.std.proofs.lemmas.Bool.Decides.{nat_tests}
use Rattle.std.proofs.lemmas.List.{drop_all}
use Rattle.gq_model.specs.machine.Lists.{all_of}
use Rattle.gq_model.specs.texts.Letters.{is_digit, spelled_on}
use Rattle.gq_init.proofs.Line_number_counts.{power_below, turn_count-some}
use Rattle.gq_init.proofs.turns.read_count.Goals as goal

pub overflow_mul-number : goal.overflow_mul-number
overflow_mul-number c =
    let below = power_below c.loop-byte.byte-index 6 (omega arith) in
    omega (arith, below, c.loop-byte.invariant.high)

pub overflow_add-number : goal.overflow_add-number
overflow_add-number c =
    let below = power_below c.loop-byte.byte-index 6 (omega arith) in
    let digit : get_or c.args.text.now c.loop-byte.byte-index 0 ≤ 255 = omega (arith, c.type_inv.text c.loop-byte.byte-index) in
    omega (arith, below, c.loop-byte.invariant.high)

pub returns : goal.returns
returns c =
    let text = c.args.text.now in
    let end : length text ≤ c.loop-byte.byte-index = c.loop-byte-test.false in
    let nothing = drop_all c.loop-byte.byte-index text end in
    let some : 0 < length text = grind (arith, nat_tests, c.if-is_empty.false, c.is_empty.ensures) in
    let all : all_of is_digit text ≡ true = sym c.loop-byte.invariant.digits ∙ rw nothing refl in
    let spelled : spelled_on 0 text ≡ c.loop-byte.number = sym c.loop-byte.invariant.spelled ∙ rw nothing refl in
    let at : c.loop-byte.byte-index ≡ length text = omega arith in
    sym (turn_count-some text c.loop-byte.number some c.if-text-gt7.false c.if-text-eq48.false all spelled (c.loop-byte.invariant.low (omega arith))
    (rw (← at) c.loop-byte.invariant.high))
