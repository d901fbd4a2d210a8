-- What leaves that provide nothing write does not depend on the turns and the inputs, where there is no race.
use Rattle.std.proofs.Common.{◌≡◌, ◌⊎◌, inl, inr, ℕ, ◌==◌, List, [], ◌++◌, None, ap, sym, ◌∙◌, subst}
use Rattle.std.specs.Prelude.{slice_get}
use Rattle.gq_model.specs.machine.Scenario.{Scenario, system}
use Rattle.gq_model.specs.machine.Doing.{Event}
use Rattle.gq_model.specs.machine.Run.{label_at}
use Rattle.gq_model.specs.machine.World.{World, start}
use Rattle.gq_laws.specs.Group_alone.{lines_from}
use Rattle.gq_laws.specs.Progress.{AllRest}
use Rattle.gq_laws.specs.Sound_scenarios.{IsSound}
use Rattle.gq_laws.specs.internal.Uncounted.{uncounted}
use Rattle.gq_races.specs.Races.{IsInputFree, IsRaceFree, IsSignalFree}
use Rattle.gq_determined.specs.Determined.{IsPrefix, ProvidesNothing, WritesSame}
use Rattle.gq_determined.specs.internal.Threads.{shown_by, past_of}
use Rattle.gq_determined.specs.internal.Unset.{turns_alone}
use Rattle.gq_determined.proofs.thread_runs.Sound_runs.{IsFirst, first_start, prefixes_same}
use Rattle.gq_determined.proofs.thread_runs.At_rest.{at, rest_same, run_world}
use Rattle.gq_determined.proofs.without_inputs.Left_out.{write_same}
use Rattle.gq_determined.proofs.written_lines.Leaf_lines_in_thread.{said, said_more, lines_are, own_thread}

module _ (s : Scenario) (sound : IsSound s) (w : World) (root : ℕ → ℕ) (first : IsFirst s w root) (none : IsRaceFree s) where
  abbrev label : ℕ → List ℕ
  label x = label_at (slice_get (system s).components x)

  -- the lines of a leaf in turns from there on
  abbrev lines_in : ℕ → List (ℕ × ℕ) → List ℕ → List ℕ
  lines_in x turns text = lines_from (system s) (λ y. y == x) (turns_alone turns) (record { world = w; text = text; wrong = None })

  -- they are among what its thread shows
  are : (x : ℕ) → ProvidesNothing s x → (turns : List (ℕ × ℕ)) (text : List ℕ)
      → lines_in x turns text ≡ said x (label x) (shown_by (uncounted (system s)) w root x (past_of turns))
  are x p = lines_are s sound w root first x (own_thread s sound w root first x p.0 p.1 p.2)

  prefix_of : (x : ℕ) (one other : List (ℕ × Event)) → (rest : List (ℕ × Event)) × (other ≡ one ++ rest)
      → IsPrefix (said x (label x) one) (said x (label x) other)
  prefix_of x one other f = (said x (label x) f.0, ap (said x (label x)) f.1 ∙ said_more x (label x) one f.0)

  moved : (a b c d : List ℕ) → a ≡ c → b ≡ d → IsPrefix c d → IsPrefix a b
  moved a b c d e g f = (f.0, g ∙ (f.1 ∙ ap (λ l. l ++ f.0) (sym e)))

  pub lines_same : (turns others : List (ℕ × ℕ)) → AllRest (at s sound w root first (past_of turns)).world
      → AllRest (at s sound w root first (past_of others)).world → (x : ℕ) (text : List ℕ) → ProvidesNothing s x
      → lines_in x turns text ≡ lines_in x others text
  lines_same turns others rest rest_other x text p =
      are x p turns text
      ∙ (ap (said x (label x)) ((rest_same s sound w root first none (past_of turns) (past_of others) rest rest_other).shown x) ∙ sym (are x p others text))

  pub prefixes_in : (turns others : List (ℕ × ℕ)) (x : ℕ) (text : List ℕ) → ProvidesNothing s x
      → IsPrefix (lines_in x turns text) (lines_in x others text) ⊎ IsPrefix (lines_in x others text) (lines_in x turns text)
  prefixes_in turns others x text p = by (prefixes_same s sound w root first none x (past_of turns) (past_of others))
    where
      shown : List (ℕ × ℕ) → List (ℕ × Event)
      shown all = shown_by (uncounted (system s)) w root x (past_of all)

      by : ((rest : List (ℕ × Event)) × (shown others ≡ shown turns ++ rest)) ⊎ ((rest : List (ℕ × Event)) × (shown turns ≡ shown others ++ rest))
          → IsPrefix (lines_in x turns text) (lines_in x others text) ⊎ IsPrefix (lines_in x others text) (lines_in x turns text)
      by (inl f) = inl (moved _ _ _ _ (are x p turns text) (are x p others text) (prefix_of x _ _ f))
      by (inr f) = inr (moved _ _ _ _ (are x p others text) (are x p turns text) (prefix_of x _ _ f))

-- from the start
pub writes_same : (s : Scenario) → IsSound s → IsRaceFree s → IsInputFree s → IsSignalFree s → WritesSame s (ProvidesNothing s)
writes_same s sound none unread still =
    let first = first_start s sound in
    write_same s sound unread still (ProvidesNothing s)
    (λ turns others rest rest_other x p. lines_same s sound (start (system s)) (λ k. 0) first none turns others
    (subst AllRest (run_world s sound turns) rest) (subst AllRest (run_world s sound others) rest_other) x [] p)
    (λ turns others x p. prefixes_in s sound (start (system s)) (λ k. 0) first none turns others x [] p)
