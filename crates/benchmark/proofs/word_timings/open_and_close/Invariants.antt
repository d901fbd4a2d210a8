use Rattle.gq_ram.specs.Account_table.{IsOpen}
use Rattle.benchmark.proofs.word_timings.open_and_close.Given as goal

abbrev pub invariant-loop-page : goal.invariant-loop-page
invariant-loop-page l = IsOpen l.accounts.accounts l.member.0
