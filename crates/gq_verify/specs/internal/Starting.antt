-- What is kept of what sections start with.
use Rattle.std.specs.Prelude.{◌≡◌}
use Rattle.gq_model.specs.rules.Kinds.{Subject}
use Rattle.gq_model.specs.rules.Flow.{own_after, bank_at}
use Rattle.gq_caps.specs.Measured.{AreFew}
use Rattle.gq_verify.specs.internal.Mains.{MainAnswers}
use Rattle.gq_verify.specs.internal.Mains.{MostWhereRight}
use Rattle.gq_caps.specs.Known.{all_known}
use Rattle.gq_verify.specs.declared.starts.Starts.{Starts}

-- the own slots are as `main` leaves them, and those of a session as between requests
pub record IsStarts (v : Subject) (s : Starts) : Type 0 where
  pub own : all_known s.own ≡ own_after v
  pub peaks : MostWhereRight v s.peaks
  pub main : MainAnswers v s.main
  pub small : AreFew s.peaks
  pub at_0 : all_known s.at_0 ≡ bank_at v 0
  pub at_1 : all_known s.at_1 ≡ bank_at v 1
  pub at_2 : all_known s.at_2 ≡ bank_at v 2
  pub at_3 : all_known s.at_3 ≡ bank_at v 3
