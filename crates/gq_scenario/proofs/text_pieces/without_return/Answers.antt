use Rattle.std.proofs.Common.{◌≡◌, ◌==◌, ◌-◌, length, get_or, false, refl, sym, arith}
use Rattle.std.proofs.lemmas.Bool.Decides.{nat_tests}
use Rattle.gq_scenario.proofs.Text_line_pieces.{without_return-last, without_return-empty}
use Rattle.gq_scenario.proofs.text_pieces.without_return.Goals as goal
use Rattle.gq_scenario.proofs.text_pieces.without_return.Goals.{else-length-gt0-via-then-length-gt0+else-line-length-eq13, else-length-gt0-via-else-length-gt0}

pub returns-then-line-length-eq13 : goal.returns-then-line-length-eq13
returns-then-line-length-eq13 c =
    let line = c.args.line.now in
    rw (without_return-last line (length line - 1) (omega arith), c.if-line-length-eq13.true) refl

pub returns-else-length-gt0 : goal.returns-else-length-gt0
returns-else-length-gt0 c =
    let line = c.args.line.now in
    elim c.else-length-gt0.branch [
      | else-length-gt0-via-then-length-gt0+else-line-length-eq13 w ↦
          let other : (get_or line (length line - 1) 0 == 13) ≡ false = grind (arith, nat_tests, w.if-line-length-eq13.false) in
          rw (without_return-last line (length line - 1) (omega (arith, w.if-length-gt0.true)), other) refl
      | else-length-gt0-via-else-length-gt0 w ↦ sym (without_return-empty line w.if-length-gt0.false)
    ]
