use Rattle.gq_ram.specs.Account_table.{IsOpen}
use Rattle.gq_ram.specs.Ledgers.{IsBalanced}
use Rattle.gq_memory_rows.proofs.trade_rows.quotas_above.Given as goal

abbrev pub invariant-loop-place : goal.invariant-loop-place
invariant-loop-place l = IsOpen l.accounts.accounts l.below.0 × IsBalanced l.accounts
