-- Accounts that are reported where they stand otherwise.
use Rattle.std.proofs.Common.{◌≡◌, ◌∙◌, ℕ, zero, suc, true, false, List, [], ◌∷◌, get_or, Some, ap, sym}
use Rattle.std.specs.Prelude.{if◌then◌else◌, slice_get}
use Rattle.gq_model.specs.machine.Accounts.{Account, account_line}
use Rattle.gq_model.proofs.Small_facts.{none_some, some_same}
use Rattle.gq_output.specs.Account_values.{AccountValues, reported_of}
use Rattle.gq_traces.specs.Trace.{account_change, same_standing, standing_of}
use Rattle.gq_traces.specs.internal.Noted.{standing_in}

pub noted_at : (xs : List AccountValues) (n k : ℕ) → k ≡ n → (b now : AccountValues) → slice_get xs n ≡ Some b → now ≡ get_or xs k now → now ≡ b
noted_at xs n k at b now there is = is ∙ ap (λ j. get_or xs j now) at ∙ by xs n there
  where
    by : (xs : List AccountValues) (n : ℕ) → slice_get xs n ≡ Some b → get_or xs n now ≡ b
    by [] n e = absurd (none_some e)
    by (x ∷ xs) zero e = some_same e
    by (x ∷ xs) (suc n) e = by xs n e

module _ (version : ℕ) (b : AccountValues) (a : Account) (now account : AccountValues) (at : now ≡ b) (reported : account ≡ reported_of a) where
  test_is : same_standing (standing_in now) (standing_in account) ≡ same_standing (standing_in b) (standing_of a)
  test_is = λ i. same_standing (standing_in (at i)) (standing_in (reported i))

  pub account_stands : same_standing (standing_in now) (standing_in account) ≡ true → [] ≡ account_change version (standing_in b) a
  account_stands same = sym (ap (λ t. if t then [] else account_line version a) (sym test_is ∙ same))

  pub account_stands_else : same_standing (standing_in now) (standing_in account) ≡ false → account_line version a ≡ account_change version (standing_in b) a
  account_stands_else other = sym (ap (λ t. if t then [] else account_line version a) (sym test_is ∙ other))
