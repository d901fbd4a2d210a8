use Rattle.std.proofs.Common.{◌≡◌, drop}
use Rattle.gq_fit.specs.Places.{closes, lexer_in}
use Rattle.gq_fit.proofs.lexer.Lexer.closes.Given as goal

abbrev pub invariant-loop-place : goal.invariant-loop-place
invariant-loop-place l =
    closes (lexer_in l.self.mode l.self.line.items) (drop l.place l.bytes) ≡ closes (lexer_in l.fn.self.mode l.fn.self.line.items) l.bytes
