-- Lines of one word.
use Rattle.std.proofs.Common.{◌≡◌, ◌==◌, ℕ, true, false, cond, List, [], ◌∷◌, Option, Some, Err, inl, inr, refl, ap, sym, ◌∙◌, codes, Ok}
use Rattle.gq_model.specs.declared.fault.TurnFault.TheVariants.{BadLine}
use Rattle.gq_model.specs.declared.act.TurnLine.TheVariants.{Rests}
use Rattle.gq_model.specs.machine.Program.{text_eq}
use Rattle.gq_model.specs.machine.Routes.{numbered}
use Rattle.gq_model.specs.machine.Scenario.{Scenario, components}
use Rattle.gq_model.specs.texts.Letters.{number_in, pieces}
use Rattle.gq_model.specs.texts.Turns.{Given, has_signals, signal_in, input_of, signal_at, signal_of, word_of}
use Rattle.gq_init.specs.TurnLines.{given_in}
use Rattle.gq_init.proofs.Line_number_counts.{number_in-other, one_or_more}

-- a name, an exclamation mark and the rest of a word
signal_in-pieces : (name digit : List ℕ) → signal_in (name ∷ pieces (λ c. c == 33) digit) ≡ input_of name (number_in 1 0 2 digit)
signal_in-pieces name digit =
    elim (one_or_more 33 digit refl) [
      | inl e ↦ rw e refl
      | inr s ↦ rw (s.is, number_in-other 1 0 2 digit s.other) refl
    ]

-- and what it is in a text
pub signal_spelled : (text name digit : List ℕ) (signal : Option ℕ) → pieces (λ c. c == 33) text ≡ name ∷ pieces (λ c. c == 33) digit
    → signal ≡ number_in 1 0 2 digit → signal_in (pieces (λ c. c == 33) text) ≡ input_of name signal
signal_spelled text name digit signal split is = ap signal_in split ∙ (signal_in-pieces name digit ∙ ap (input_of name) (sym is))

-- a line of one word
module _ (s : Scenario) (word : List ℕ) where
  abbrev given : Given
  given = given_in s (word ∷ [])

  pub no_words : has_signals s.version ≡ false → given ≡ Err BadLine
  no_words off = ap (λ b. cond b (word_of (components s) word) (Err BadLine)) off

  pub word_rests : has_signals s.version ≡ true → text_eq word (codes "rest") ≡ true → given ≡ Ok Rests
  word_rests on is = rw (on, is) refl

  abbrev its_signal : Given
  its_signal = signal_of (components s) (signal_in (pieces (λ c. c == 33) word))

  pub word_signals : has_signals s.version ≡ true → text_eq word (codes "rest") ≡ false → given ≡ its_signal
  word_signals on other = rw (on, other) refl

  pub signal_named : (name : List ℕ) (i : ℕ) (x : Option ℕ) → signal_in (pieces (λ c. c == 33) word) ≡ Some (name, i)
      → x ≡ numbered 0 name (components s) → its_signal ≡ signal_at (components s) x i
  signal_named name i x is placed = rw (is, placed) refl
