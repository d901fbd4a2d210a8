use Rattle.std.proofs.Common.{◌≡◌, nat_le, drop}
use Rattle.gq_model.specs.machine.Lists.{all_of}
use Rattle.gq_budget.proofs.number_sums.are_at_most.Given as goal

-- whether all of those that are left are small is whether all are
abbrev pub invariant-loop-number : goal.invariant-loop-number
invariant-loop-number l = all_of (λ n. nat_le n l.greatest) (drop l.number-index l.numbers) ≡ all_of (λ n. nat_le n l.greatest) l.numbers
