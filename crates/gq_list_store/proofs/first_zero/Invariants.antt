use Rattle.std.proofs.Common.{ℕ, ◌<◌, get_or}
use Rattle.gq_list_store.proofs.first_zero.Given as goal

abbrev pub invariant-loop-i : goal.invariant-loop-i
invariant-loop-i l = (k : ℕ) → k < l.i → 0 < get_or l.xs k 0
