use Rattle.std.proofs.Common.{◌≡◌, ◌++◌, ◌+◌, ◌*◌, ◌≤◌, drop, length}
use Rattle.gq_views.specs.Tree.{amounts}
use Rattle.gq_traces.proofs.account_state.extend_amounts.Given as goal

-- the numbers so far, with those that are left, are all; and there is room for those that are left
abbrev pub invariant-loop-number : goal.invariant-loop-number
invariant-loop-number l = record {
  bytes : l.line.items ++ amounts (drop l.number-index l.numbers) ≡ l.fn.line.items ++ amounts l.numbers;
  long : length l.line.items ≤ length l.fn.line.items + l.number-index * 21;
}
