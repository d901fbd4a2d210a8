use Rattle.std.proofs.Common.{Some, None, cond, ap, sym, ◌∙◌}
use Rattle.gq_init.proofs.Setting_lines.{input_named}
use Rattle.gq_init.proofs.settings.read_input.Goals as goal

pub returns-in_err-input-clause-input : goal.returns-in_err-input-clause-input
returns-in_err-input-clause-input c =
    let split = rw c.in_ok-rest.was at c.next_piece.ensures.piece in
    rw c.from_residual-in_err-input.ensures (sym (input_named c.args.text.now c.next_piece.result.0.now c.in_ok-rest.field-0.now None split
    c.in_err-input.ensures.number))

pub returns-then-is_name-clause-input : goal.returns-then-is_name-clause-input
returns-then-is_name-clause-input c =
    let name = c.next_piece.result.0.now in
    let split = rw c.in_ok-rest.was at c.next_piece.ensures.piece in
    let named = sym c.is_name.ensures ∙ c.if-is_name.true in
    let is = input_named c.args.text.now name c.in_ok-rest.field-0.now (Some c.in_ok-input.input) split c.in_ok-input.ensures.number in
    sym (is ∙ ap (λ b. cond b (Some (name, c.in_ok-input.input)) None) named)
