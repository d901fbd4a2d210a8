-- Accounts and sessions that are reported one after the other.
use Rattle.std.proofs.Common.{◌≡◌, ◌∙◌, ◌<◌, ◌≤◌, ◌+◌, ℕ, zero, suc, List, [], ◌∷◌, ◌++◌, length, map, drop, get_or, Option, Some, None, refl, ap, sym}
use Rattle.std.proofs.Common.{arith, append_assoc, append-nil}
use Rattle.std.specs.Prelude.{if◌then◌else◌, slice_get}
use Rattle.gq_model.specs.machine.Accounts.{Account}
use Rattle.gq_model.specs.machine.Scenario.{Scenario, system}
use Rattle.gq_model.specs.machine.World as model
use Rattle.gq_output.specs.Account_values.{AccountValues}
use Rattle.gq_output.specs.declared.counted.Counted.{Counted}
use Rattle.gq_world.specs.Account_lines.{all_accounts}
use Rattle.gq_world.specs.World_between_turns.{World}
use Rattle.gq_traces.specs.Trace.{Standing, account_change, account_changes, same_printed, session_change, session_changes, session_line, printed_session}
use Rattle.gq_traces.specs.declared.noted.PrintedState.{PrintedState}
use Rattle.gq_traces.specs.declared.step_output.Progress.{Progress}
use Rattle.gq_traces.specs.internal.Noted.{SessionsNoted, standing_in, printed_change}
use Rattle.gq_traces.specs.internal.Printed_steps.{Reports}
use Rattle.gq_traces.proofs.Sequential_text_writes.{reports_both, reports_nothing, prints_text}

-- what stands at a place of two lists
pub record At_both {A B : Type 0} (xs : List A) (ys : List B) (i : ℕ) : Type 0 where
  pub x : A
  pub y : B
  pub x_is : slice_get xs i ≡ Some x
  pub y_is : slice_get ys i ≡ Some y
  pub x_next : drop i xs ≡ x ∷ drop (i + 1) xs
  pub y_next : drop i ys ≡ y ∷ drop (i + 1) ys

at_one : {A : Type 0} (xs : List A) (i : ℕ) → i < length xs → (x : A) × (slice_get xs i ≡ Some x) × (drop i xs ≡ x ∷ drop (suc i) xs)
at_one [] i less = absurd (omega (arith, less))
at_one (x ∷ xs) zero less = (x, refl, refl)
at_one (x ∷ xs) (suc i) less = at_one xs i (omega (arith, less))

pub at_both : {A B : Type 0} (xs : List A) (ys : List B) (i : ℕ) → i < length xs → i < length ys → At_both xs ys i
at_both xs ys i less fewer =
    let one : suc i ≡ i + 1 = omega arith in
    let a = at_one xs i less in
    let b = at_one ys i fewer in
    record {
      x = a.0;
      y = b.0;
      x_is = a.1;
      y_is = b.1;
      x_next = a.2 ∙ ap (λ n. a.0 ∷ drop n xs) one;
      y_next = b.2 ∙ ap (λ n. b.0 ∷ drop n ys) one;
    }

module _ {W : Type 0} (contents : W → Option (List ℕ)) where
  -- the accounts of the first nodes were reported, and with those that are left all are
  pub record Accounts_so_far (w : World) (notes : List AccountValues) (head : List ℕ) (n : ℕ) (old new : Counted W) (was now : Progress) : Type 0 where
    pub text : List ℕ
    pub reports : Reports contents old new was now head text
    pub all : text ++ account_changes w.scenario.version (map standing_in (drop n notes)) (drop n (all_accounts w))
        ≡ account_changes w.scenario.version (map standing_in notes) (all_accounts w)

  pub accounts_first : (w : World) (notes : List AccountValues) (head : List ℕ) (out : Counted W) (p : Progress) → Accounts_so_far w notes head 0 out out p p
  accounts_first w notes head out p = record { text = []; reports = reports_nothing contents out p head; all = refl }

  pub accounts_next : (w : World) (notes : List AccountValues) (head : List ℕ) (n : ℕ) (a b c : Counted W) (p q r : Progress) → n < length notes
      → n < length (all_accounts w) → Accounts_so_far w notes head n a b p q
      → ((x : Account) (y : AccountValues) → slice_get (all_accounts w) n ≡ Some x → slice_get notes n ≡ Some y
      → Reports contents b c q r head (account_change w.scenario.version (standing_in y) x))
      → Accounts_so_far w notes head (n + 1) a c p r
  accounts_next w notes head n a b c p q r less fewer h reported =
      let at = at_both notes (all_accounts w) n less fewer in
      let change = account_change w.scenario.version (standing_in at.x) at.y in
      let rest = account_changes w.scenario.version (map standing_in (drop (n + 1) notes)) (drop (n + 1) (all_accounts w)) in
      record {
        text = h.text ++ change;
        reports = reports_both contents a b c p q r head h.text change h.reports (reported at.y at.x at.y_is at.x_is);
        all = append_assoc h.text change rest
            ∙ ap (λ l. h.text ++ l) (sym (λ i. account_changes w.scenario.version (map standing_in (at.x_next i)) (at.y_next i))) ∙ h.all;
      }

  none_left : (version : ℕ) (olds : List Standing) (news : List Account) → length news ≤ 0 → account_changes version olds news ≡ []
  none_left version [] [] few = refl
  none_left version (o ∷ olds) [] few = refl
  none_left version olds (x ∷ news) few = absurd (omega (arith, few))

  drop_none : {A : Type 0} (xs : List A) (n : ℕ) → length xs ≤ n → drop n xs ≡ []
  drop_none [] zero few = refl
  drop_none [] (suc n) few = refl
  drop_none (x ∷ xs) zero few = absurd (omega (arith, few))
  drop_none (x ∷ xs) (suc n) few = drop_none xs n (omega (arith, few))

  pub accounts_end : (w : World) (notes : List AccountValues) (head : List ℕ) (n : ℕ) (a b : Counted W) (p q : Progress) → length (all_accounts w) ≤ n
      → Accounts_so_far w notes head n a b p q
      → Reports contents a b p q head (account_changes w.scenario.version (map standing_in notes) (all_accounts w))
  accounts_end w notes head n a b p q few h =
      let none = drop_none (all_accounts w) n few in
      let empty = ap (account_changes w.scenario.version (map standing_in (drop n notes))) none
      ∙ none_left w.scenario.version (map standing_in (drop n notes)) [] (omega arith) in
      prints_text contents a b p q head h.text _ (sym (append-nil h.text) ∙ ap (λ l. h.text ++ l) (sym empty) ∙ h.all) h.reports

  -- SESSIONS

  pub record Sessions_so_far (s : Scenario) (old new : model.World) (head : List ℕ) (k left : ℕ) (a b : Counted W) (p q : Progress) (whole : List ℕ)
      : Type 0 where
    pub text : List ℕ
    pub reports : Reports contents a b p q head text
    pub all : text ++ session_changes s.version (system s) old new k left ≡ whole

  pub sessions_first : (s : Scenario) (old new : model.World) (head : List ℕ) (count : ℕ) (out : Counted W) (p : Progress)
      → Sessions_so_far s old new head 0 count out out p p (session_changes s.version (system s) old new 0 count)
  sessions_first s old new head count out p = record { text = []; reports = reports_nothing contents out p head; all = refl }

  pub sessions_next : (s : Scenario) (old new : model.World) (head : List ℕ) (k left more : ℕ) (a b c : Counted W) (p q r : Progress) (whole : List ℕ)
      → left ≡ suc more → Sessions_so_far s old new head k left a b p q whole
      → Reports contents b c q r head (session_change s.version (system s) old new k) → Sessions_so_far s old new head (k + 1) more a c p r whole
  sessions_next s old new head k left more a b c p q r whole at h reported =
      let one : suc k ≡ k + 1 = omega arith in
      let change = session_change s.version (system s) old new k in
      let rest = session_changes s.version (system s) old new (k + 1) more in
      record {
        text = h.text ++ change;
        reports = reports_both contents a b c p q r head h.text change h.reports reported;
        all = append_assoc h.text change rest
            ∙ ap (λ l. h.text ++ l) (ap (λ j. change ++ session_changes s.version (system s) old new j more) (sym one)
            ∙ ap (session_changes s.version (system s) old new k) (sym at)) ∙ h.all;
      }

  pub sessions_end : (s : Scenario) (old new : model.World) (head : List ℕ) (k left : ℕ) (a b : Counted W) (p q : Progress) (whole : List ℕ) → left ≡ 0
      → Sessions_so_far s old new head k left a b p q whole → Reports contents a b p q head whole
  sessions_end s old new head k left a b p q whole none h =
      prints_text contents a b p q head h.text whole
      (sym (append-nil h.text) ∙ ap (λ n. h.text ++ session_changes s.version (system s) old new k n) (sym none) ∙ h.all) h.reports

  -- a session by what was noted of it
  pub change_noted : (s : Scenario) (old new : model.World) (k : ℕ) (notes : PrintedState) → SessionsNoted s old notes → k < 16449
      → printed_change s k (get_or notes.sessions.items k None) new ≡ session_change s.version (system s) old new k
  change_noted s old new k notes h less =
      ap (λ o. if same_printed o (printed_session new k) then [] else session_line s.version (system s) k (printed_session new k)) (h.sessions k less).is
