-- Accounts and bounds, as C reads them.
use Rattle.std.specs.Prelude.{◌≡◌, ℕ, Option, Some, None, slice_index, sum}
use Rattle.gq_model.specs.machine.Accounts.{LeafAccount}
use Rattle.gq_model.specs.machine.Scenario.{Scenario}
use Rattle.gq_model.specs.rules.Accept.{Budget, budgets, steps_of_signal}
use Rattle.gq_model.specs.declared.phase.Phase.{Phase}
use Rattle.gq_model.specs.declared.phase.Phase.TheVariants.{Pending, Running, Blocked, Serving, Handling, Exited}
use Rattle.gq_output.specs.Account_values.{AccountValues}
use Rattle.gq_library.specs.declared.account_structs.NodeAccount.{NodeAccount}
use Rattle.gq_library.specs.declared.account_structs.LeafBounds.{LeafBounds}
use Rattle.gq_library.specs.declared.account_structs.SignalBounds.{SignalBounds}

-- the number of each phase
abbrev pub phase_number : Phase → ℕ
phase_number Pending = 0
phase_number Running = 1
phase_number Blocked = 2
phase_number Serving = 3
phase_number Handling = 4
phase_number Exited = 5

-- what is reported of a leaf; of an init the phase is 4294967295 and all else is 0
pub record ReportsInit (reported : NodeAccount) : Type 0 where
  pub used : reported.used ≡ 0
  pub taken : reported.taken ≡ 0
  pub steps : reported.steps ≡ 0
  pub budget : reported.budget ≡ 0
  pub phase : reported.phase ≡ 4294967295

pub record ReportsLeaf (reported : NodeAccount) (l : LeafAccount) : Type 0 where
  pub used : reported.used ≡ l.used.ram
  pub taken : reported.taken ≡ l.used.caps
  pub steps : reported.steps ≡ l.steps
  pub budget : reported.budget ≡ l.budget
  pub phase : reported.phase ≡ phase_number l.phase

abbrev pub ReportsRest : NodeAccount → Option LeafAccount → Type 0
ReportsRest reported None = ReportsInit reported
ReportsRest reported (Some l) = ReportsLeaf reported l

-- what is reported of an account
pub record Reports (reported : NodeAccount) (a : AccountValues) : Type 0 where
  pub quota : reported.quota ≡ a.quota.ram
  pub caps : reported.caps ≡ a.quota.caps
  pub leaf : ReportsRest reported a.leaf

-- what is reported of the bounds of a leaf
pub record ReportsBounds (reported : LeafBounds) (b : Budget) : Type 0 where
  pub own : reported.own ≡ b.own.ram
  pub own_caps : reported.own_caps ≡ b.own.caps
  pub steps : reported.steps ≡ b.steps.from_start

-- what is reported of the bounds of a signal: the steps of its leaf, and those of all leaves together
pub record ReportsReaction (reported : SignalBounds) (s : Scenario) (leaf signal : ℕ) : Type 0 where
  pub steps : reported.steps ≡ slice_index (steps_of_signal leaf signal (budgets s)) leaf
  pub all : reported.all ≡ sum (steps_of_signal leaf signal (budgets s))
