use Rattle.std.proofs.Common.{◌≡◌, take}
use Rattle.std.specs.Io.KnownBytes.{Appends}
use Rattle.gq_rule_texts.specs.Rule_tables.{lines_of}
use Rattle.gq_rule_texts.proofs.write.write_lines.Given as goal

-- the lines of the rules so far were written
abbrev pub invariant-loop-rule : goal.invariant-loop-rule
invariant-loop-rule g l = record {
  written : Appends (g.W.Write.contents l.fn.out.writer) (g.W.Write.contents l.out.writer) (lines_of (take l.rule-index l.rules));
  counted : l.out.failures ≡ l.fn.out.failures;
}
