-- What is reported of an account beside its label.
use Rattle.std.specs.Prelude.{List, ℕ, Option}
use Rattle.gq_model.specs.machine.Amounts.{Amount}
use Rattle.gq_model.specs.machine.Accounts.{LeafAccount, Account}

-- an account without its label
pub record AccountValues : Type 0 where
  pub quota : Amount
  pub leaf : Option LeafAccount

abbrev pub reported_of : Account → AccountValues
reported_of a = record { quota = a.quota; leaf = a.leaf }

abbrev pub with_label : List ℕ → AccountValues → Account
with_label label reported = record { label = label; quota = reported.quota; leaf = reported.leaf }
