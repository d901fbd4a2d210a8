use Rattle.std.proofs.Common.{◌≡◌, take}
use Rattle.std.specs.Io.KnownBytes.{Appends}
use Rattle.gq_rule_texts.specs.Rule_tables.{lines_of_all}
use Rattle.gq_rule_texts.proofs.write.write_rules.Given as goal

-- the lines of the families so far were written
abbrev pub invariant-loop-rules : goal.invariant-loop-rules
invariant-loop-rules g l = record {
  written : Appends (g.W.Write.contents l.fn.out.writer) (g.W.Write.contents l.out.writer) (lines_of_all (take l.rules-index l.table));
  counted : l.out.failures ≡ l.fn.out.failures;
}
