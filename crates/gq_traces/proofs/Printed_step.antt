-- What is reported of a step, put together.
use Rattle.std.proofs.Common.{◌≡◌, ◌∙◌, ℕ, Bool, true, false, List, [], ◌++◌, length, map, Option, None, get_or, refl, ap, sym, subst}
use Rattle.std.proofs.lemmas.List.{length-map}
use Rattle.std.specs.Prelude.{if◌then◌else◌, max, slice_get}
use Rattle.gq_model.specs.machine.Doing.{Event}
use Rattle.gq_model.specs.machine.Run.{line_of, label_at}
use Rattle.gq_model.specs.machine.Scenario.{Scenario, components, system}
use Rattle.gq_model.specs.machine.World as model
use Rattle.gq_resolve.specs.NodeTables.{node_rows}
use Rattle.gq_output.specs.declared.counted.Counted.{Counted}
use Rattle.gq_world.specs.Account_lines.{all_accounts}
use Rattle.gq_world.specs.World_between_turns.{World}
use Rattle.gq_traces.specs.Trace.{account_changes, accounts_in, changes, session_changes, standing_of, printed_step}
use Rattle.gq_traces.specs.declared.noted.PrintedState.{PrintedState}
use Rattle.gq_traces.specs.declared.step_lines.Head.{Head}
use Rattle.gq_traces.specs.declared.step_output.Progress.{Progress}
use Rattle.gq_traces.specs.internal.Noted.{AreKnown, AreNoted, WasNoted, standing_in}
use Rattle.gq_traces.specs.internal.Printed_steps.{Goes, Reports, budgets_of, head_text, more_printed}
use Rattle.gq_traces.proofs.Accounts_by_budgets.{all_long, all_seen, changes_same}
use Rattle.gq_traces.proofs.Sequential_text_writes.{goes_both, goes_text, reports_both}

-- the accounts that are reported
pub accounts_are : (s : Scenario) (old : model.World) (new : World) (notes : PrintedState) → new.scenario ≡ s → AreNoted s old notes
    → account_changes new.scenario.version (map standing_in notes.accounts.items) (all_accounts new)
    ≡ account_changes s.version (map standing_of (accounts_in s old (budgets_of s))) (accounts_in s new.world (budgets_of s))
accounts_are s old new notes same noted =
    changes_same new.scenario.version (map standing_in notes.accounts.items) (all_accounts new)
    (accounts_in new.scenario new.world (budgets_of new.scenario)) (all_seen new)
    ∙ (λ i. account_changes (same i).version (noted.accounts i) (accounts_in (same i) new.world (budgets_of (same i))))

-- as many are noted as there are
pub noted_count : (s : Scenario) (old : model.World) (w : World) (notes : PrintedState) → w.scenario ≡ s → w.world ≡ old → AreNoted s old notes
    → length (all_accounts w) ≡ length (node_rows w.scenario) → length notes.accounts.items ≡ length (node_rows s)
noted_count s old w notes same at noted count =
    sym (length-map notes.accounts.items standing_in) ∙ ap length noted.accounts ∙ length-map (accounts_in s old (budgets_of s)) standing_of
    ∙ (λ i. length (accounts_in (sym same i) (sym at i) (budgets_of (sym same i)))) ∙ sym (all_long w) ∙ count
    ∙ ap (λ (r : Scenario). length (node_rows r)) same

-- what was noted of a world can be noted anew of another one of its scenario
pub was_noted : (old new : World) (n : PrintedState) → new.scenario ≡ old.scenario → AreNoted old.scenario old.world n
    → length (all_accounts old) ≡ length (node_rows old.scenario) → length (all_accounts new) ≡ length (node_rows new.scenario) → WasNoted new n
was_noted old new n same noted count_old count_new =
    record {
      accounts = noted_count old.scenario old.world old n refl refl noted count_old ∙ ap (λ (r : Scenario). length (node_rows r)) (sym same) ∙ sym count_new;
      room = noted.room;
      few = noted.few;
      known = λ k less. subst (λ (s : Scenario). AreKnown s (get_or n.sessions.items k None)) (sym same) (noted.sessions k less).known;
    }

-- the first line of a step where all are reported, and what follows
begun_then : (all : Bool) (head text : List ℕ) → (if all then head else []) ++ more_printed all head text ≡ printed_step all head text
begun_then true head text = refl
begun_then false head text = refl

module _ {W : Type 0} (contents : W → Option (List ℕ)) where
  pub step_begins : (all : Bool) (s r : Scenario) (h : Head) (a b : Counted W) (was : Bool) (p : Progress) → r ≡ s
      → Goes contents a b was p.going (if all then head_text r h else []) → Goes contents a b was p.going (if all then head_text s h else [])
  step_begins all s r h a b was p e g = subst (λ (x : Scenario). Goes contents a b was p.going (if all then head_text x h else [])) e g

  -- the line of a step, by a scenario of another name
  pub line_as : (s r : Scenario) (h : Head) (event : Event) (a b : Counted W) (p q : Progress) → r ≡ s
      → Reports contents a b p q (head_text r h) (line_of (label_at (slice_get (components r) h.leaf)) event)
      → Reports contents a b p q (head_text s h) (line_of (label_at (slice_get (components s) h.leaf)) event)
  line_as s r h event a b p q e reported =
      subst (λ (x : Scenario). Reports contents a b p q (head_text x h) (line_of (label_at (slice_get (components x) h.leaf)) event)) e reported

  -- the line of a step, all accounts and all sessions
  pub step_changes : (s : Scenario) (h : Head) (old : model.World) (new : World) (notes : PrintedState) (event : Event) (b c d e : Counted W)
      (p q r t : Progress)
      → new.scenario ≡ s → AreNoted s old notes → Reports contents b c p q (head_text s h) (line_of (label_at (slice_get (components s) h.leaf)) event)
      → Reports contents c d q r (head_text new.scenario h)
      (account_changes new.scenario.version (map standing_in notes.accounts.items) (all_accounts new))
      → Reports contents d e r t (head_text new.scenario h)
      (session_changes new.scenario.version (system new.scenario) old new.world 0 (max (length old.sessions) (length new.world.sessions)))
      → Reports contents b e p t (head_text s h) (changes s (budgets_of s) (label_at (slice_get (components s) h.leaf)) old new.world event)
  step_changes s h old new notes event b c d e p q r t same noted line of_accounts sessions =
      let head = head_text s h in
      let accounts_now = subst (Reports contents c d q r (head_text new.scenario h)) (accounts_are s old new notes same noted) of_accounts in
      let reported = account_changes s.version (map standing_of (accounts_in s old (budgets_of s))) (accounts_in s new.world (budgets_of s)) in
      let accounts_then : Reports contents c d q r head reported = subst (λ (x : Scenario). Reports contents c d q r (head_text x h) reported) same
      accounts_now in
      let sessions_then = subst (λ (x : Scenario). Reports contents d e r t (head_text x h) (session_changes x.version (system x) old new.world 0
      (max (length old.sessions) (length new.world.sessions)))) same sessions in
      reports_both contents b d e p r t head _ _ (reports_both contents b c d p q r head _ _ line accounts_then) sessions_then

  -- the first line of a step where all are reported, and what it changes
  pub step_printed : (all : Bool) (s : Scenario) (h : Head) (text : List ℕ) (a b c : Counted W) (was : Bool) (p q : Progress) → p.begun ≡ all
      → Goes contents a b was p.going (if all then head_text s h else []) → Reports contents b c p q (head_text s h) text
      → Goes contents a c was q.going (printed_step all (head_text s h) text)
  step_printed all s h text a b c was p q begun begins reported =
      let head = head_text s h in
      goes_text contents a c was q.going _ _
      (ap (λ u. (if all then head else []) ++ more_printed u head text) begun ∙ begun_then all head text)
      (goes_both contents a b c was p.going q.going _ _ begins reported.goes)
