use Rattle.std.proofs.Common.{◌≡◌, length}
use Rattle.gq_prepared.proofs.Open_statement_servers.{LedSoFar}
use Rattle.gq_prepared.proofs.openings.openings.Given as goal

-- so many statements have their openings
abbrev pub invariant-loop-statement : goal.invariant-loop-statement
invariant-loop-statement l = record {
  made : LedSoFar l.table l.leaf l.statement-items l.openings.items l.statement-index;
  count : length l.openings.items ≡ l.statement-index;
}
