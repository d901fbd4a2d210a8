use Rattle.std.proofs.Common.{◌∙◌, ◌+◌, ◌++◌, ap, refl}
use Rattle.gq_outcomes.specs.internal.Keys.{number_key}
use Rattle.gq_outcomes.proofs.Key_lists.{byte_put, zero_next}
use Rattle.gq_outcomes.proofs.slot_key.push_after_zeros.Goals as goal

pub returns-then-byte-eq0-clause-key : goal.returns-then-byte-eq0-clause-key
returns-then-byte-eq0-clause-key c bytes =
    ap (λ t. c.args.key.now.items ++ t) (zero_next c.args.zeros c.args.byte (c.args.zeros + 1) bytes c.if-byte-eq0.true refl)

pub returns-clause-key : goal.returns-clause-key
returns-clause-key c bytes =
    let more = c.push_number.new.key.items in
    byte_put c.args.zeros c.args.byte bytes c.args.key.now.items more c.push_number-2.new.key.items c.if-byte-eq0.false c.in_ok-push_number.ensures
    (c.in_ok-push_number-2.ensures ∙ ap (λ n. more ++ number_key n) c.from.ensures)
