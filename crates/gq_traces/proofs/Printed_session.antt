-- A session that is reported where it is another one than was noted.
use Rattle.std.proofs.Common.{◌≡◌, ◌∙◌, ◌<◌, ℕ, true, false, List, [], Option, Some, None, ap, get_or, length, option_map, subst, sym}
use Rattle.std.specs.Prelude.{if◌then◌else◌, slice_set}
use Rattle.std.proofs.lemmas.Option.{slice_get-get_or}
use Rattle.gq_model.specs.machine.Scenario.{Scenario, system}
use Rattle.gq_model.specs.machine.World.{World}
use Rattle.gq_model.proofs.Small_facts.{set_there, some_same}
use Rattle.gq_traces.specs.Trace.{same_printed, session_line, printed_session}
use Rattle.gq_traces.specs.declared.session_lines.PrintedSession.{PrintedSession}
use Rattle.gq_traces.specs.internal.Noted.{AreKnown, IsReported, seen_session, printed_change}
use Rattle.gq_traces.proofs.Printed_values_equal.{reported_is}

module _ (s : Scenario) (w : World) (k : ℕ) (olds : List (Option PrintedSession)) (now reported : Option PrintedSession) (less : k < length olds)
    (at : now ≡ get_or olds k now) (is : IsReported s w k reported) where
  noted : get_or olds k None ≡ now
  noted = some_same (sym (slice_get-get_or olds k None less) ∙ slice_get-get_or olds k now less) ∙ sym at

  test : same_printed (option_map (seen_session s) now) (option_map (seen_session s) reported)
      ≡ same_printed (option_map (seen_session s) (get_or olds k None)) (printed_session w k)
  test = λ i. same_printed (option_map (seen_session s) (sym noted i)) (is.is i)

  pub printed_stands : same_printed (option_map (seen_session s) now) (option_map (seen_session s) reported) ≡ true → [] ≡ printed_change s k
      (get_or olds k None) w
  printed_stands e = sym (ap (λ b. if b then [] else session_line s.version (system s) k (printed_session w k)) (sym test ∙ e))

  pub printed_else : same_printed (option_map (seen_session s) now) (option_map (seen_session s) reported) ≡ false
      → session_line s.version (system s) k (option_map (seen_session s) reported) ≡ printed_change s k (get_or olds k None) w
  printed_else e =
      ap (session_line s.version (system s) k) is.is
      ∙ sym (ap (λ b. if b then [] else session_line s.version (system s) k (printed_session w k)) (sym test ∙ e))

  -- what was noted is what is reported now
  pub seen_still : same_printed (option_map (seen_session s) now) (option_map (seen_session s) reported) ≡ true → AreKnown s (get_or olds k None) → IsReported
      s w k now
  seen_still e known =
      record { is = reported_is (option_map (seen_session s) now) (option_map (seen_session s) reported) e ∙ is.is; known = subst (AreKnown s) noted known }

  pub kept : olds ≡ slice_set olds k now
  kept = sym (set_there olds k now (slice_get-get_or olds k now less ∙ ap Some (sym at)))
