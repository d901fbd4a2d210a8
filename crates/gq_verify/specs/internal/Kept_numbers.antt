-- What is kept of a program that breaks no rule.
use Rattle.std.specs.Prelude.{◌≡◌, None}
use Rattle.gq_model.specs.machine.Amounts.{Ram, Caps, Amount}
use Rattle.gq_model.specs.rules.Kinds.{Subject}
use Rattle.gq_model.specs.rules.Budgets.{own}
use Rattle.gq_model.specs.rules.Verdict.{program_fault}
use Rattle.gq_verify.specs.declared.starts.Starts.{Starts}
use Rattle.gq_verify.specs.internal.Starting.{IsStarts}

-- it breaks none, its sections start so, and this is the most that it uses of its own
pub record IsKept (v : Subject) (s : Starts) (a : Amount) : Type 0 where
  pub faultless : program_fault v ≡ None
  pub starts : IsStarts v s
  pub ram : a.ram ≡ own Ram v
  pub caps : a.caps ≡ own Caps v
