-- What holds of all runs over turns alone holds of all runs over turns, settings and signals, where no leaf reads an input or has a signal.
use Rattle.std.proofs.Common.{◌≡◌, ◌⊎◌, ℕ, List, sym, ◌∙◌, subst}
use Rattle.gq_model.specs.machine.Accounts.{accounts}
use Rattle.gq_model.specs.machine.Run.{Acts, run}
use Rattle.gq_model.specs.machine.Scenario.{Scenario, system}
use Rattle.gq_laws.specs.Sound_scenarios.{IsSound}
use Rattle.gq_races.specs.Races.{IsInputFree, IsSignalFree}
use Rattle.gq_determined.specs.Determined.{lines_of, ComesToRest, IsPrefix, LeavesSame, WritesSame}
use Rattle.gq_determined.specs.internal.Unset.{turns_alone, without_settings}
use Rattle.gq_determined.proofs.without_inputs.Worlds_without_inputs.{accounts_too, rest_too}
use Rattle.gq_determined.proofs.without_inputs.Input_free_runs.{lines_left, world_left}

module _ (s : Scenario) (sound : IsSound s) (unread : IsInputFree s) (unmoved : IsSignalFree s) where
  abbrev alone : Acts → Acts
  alone acts = turns_alone (without_settings acts)

  rest_left : (acts : Acts) → ComesToRest s acts → ComesToRest s (alone acts)
  rest_left acts rest = rest_too (run (system s) acts).world (run (system s) (alone acts)).world (world_left s sound unread unmoved acts) rest

  either_prefix : (a b c d : List ℕ) → a ≡ c → b ≡ d → IsPrefix c d ⊎ IsPrefix d c → IsPrefix a b ⊎ IsPrefix b a
  either_prefix a b c d e f h = subst (λ a. IsPrefix a b ⊎ IsPrefix b a) (sym e) (subst (λ b. IsPrefix c b ⊎ IsPrefix b c) (sym f) h)

  -- who writes the same in runs over turns alone does so in all runs
  pub write_same : (Of : ℕ → Type 0)
      → ((turns others : List (ℕ × ℕ)) → ComesToRest s (turns_alone turns) → ComesToRest s (turns_alone others) → (x : ℕ) → Of x
      → lines_of s x (turns_alone turns) ≡ lines_of s x (turns_alone others))
      → ((turns others : List (ℕ × ℕ)) (x : ℕ) → Of x → IsPrefix (lines_of s x (turns_alone turns)) (lines_of s x (turns_alone others))
      ⊎ IsPrefix (lines_of s x (turns_alone others)) (lines_of s x (turns_alone turns))) → WritesSame s Of
  write_same Of lines prefixes = record {
    lines = λ acts others rest rest_other x of.
        lines_left s sound unread unmoved acts x
        ∙ (lines (without_settings acts) (without_settings others) (rest_left acts rest) (rest_left others rest_other) x of
        ∙ sym (lines_left s sound unread unmoved others x));
    prefixes = λ acts others x of.
        either_prefix _ _ _ _ (lines_left s sound unread unmoved acts x) (lines_left s sound unread unmoved others x)
        (prefixes (without_settings acts) (without_settings others) x of);
  }

  -- so it is of accounts
  pub leave_same : ((turns others : List (ℕ × ℕ)) → ComesToRest s (turns_alone turns) → ComesToRest s (turns_alone others) → (budgets : List ℕ)
      → accounts s (run (system s) (turns_alone turns)).world budgets ≡ accounts s (run (system s) (turns_alone others)).world budgets) → LeavesSame s
  leave_same same acts others rest rest_other budgets =
      accounts_too s _ _ (world_left s sound unread unmoved acts) budgets
      ∙ (same (without_settings acts) (without_settings others) (rest_left acts rest) (rest_left others rest_other) budgets
      ∙ sym (accounts_too s _ _ (world_left s sound unread unmoved others) budgets))
