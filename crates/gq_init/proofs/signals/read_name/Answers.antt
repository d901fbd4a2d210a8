use Rattle.std.proofs.Common.{Some, None, cond, ap, sym, ◌∙◌}
use Rattle.gq_init.proofs.Signal_lines.{signal_spelled}
use Rattle.gq_init.proofs.signals.read_name.Goals as goal

pub returns-in_err-signal-clause-signal : goal.returns-in_err-signal-clause-signal
returns-in_err-signal-clause-signal c =
    let split = rw c.in_ok-rest.was at c.next_piece.ensures.piece in
    rw c.from_residual-in_err-signal.ensures (sym (signal_spelled c.args.text.now c.next_piece.result.0.now c.in_ok-rest.field-0.now None split
    c.in_err-signal.ensures.number))

pub returns-then-is_name-clause-signal : goal.returns-then-is_name-clause-signal
returns-then-is_name-clause-signal c =
    let name = c.next_piece.result.0.now in
    let split = rw c.in_ok-rest.was at c.next_piece.ensures.piece in
    let named = sym c.is_name.ensures ∙ c.if-is_name.true in
    let is = signal_spelled c.args.text.now name c.in_ok-rest.field-0.now (Some c.in_ok-signal.signal) split c.in_ok-signal.ensures.number in
    sym (is ∙ ap (λ b. cond b (Some (name, c.in_ok-signal.signal)) None) named)
