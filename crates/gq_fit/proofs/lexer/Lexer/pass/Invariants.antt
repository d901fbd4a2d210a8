use Rattle.std.proofs.Common.{◌≡◌, drop}
use Rattle.gq_fit.specs.Places.{after_bytes, lexer_in}
use Rattle.gq_fit.proofs.lexer.Lexer.pass.Given as goal

abbrev pub invariant-loop-byte : goal.invariant-loop-byte
invariant-loop-byte l =
    after_bytes (lexer_in l.self.mode l.self.line.items) (drop l.byte-index l.bytes)
    ≡ after_bytes (lexer_in l.initial.self.mode l.initial.self.line.items) l.bytes
