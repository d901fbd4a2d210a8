-- Lines of settings.
use Rattle.std.proofs.Common.{◌≡◌, ◌==◌, ℕ, Bool, true, false, ◌&&◌, cond, List, ◌∷◌, Option, Some, None, Err, inl, inr, refl, ap, sym, ◌∙◌, codes}
use Rattle.gq_model.specs.declared.fault.TurnFault.TheVariants.{BadLine}
use Rattle.gq_model.specs.machine.Program.{text_eq}
use Rattle.gq_model.specs.machine.Routes.{numbered}
use Rattle.gq_model.specs.machine.Scenario.{Scenario, Component, components}
use Rattle.gq_model.specs.texts.Letters.{number_in, pieces}
use Rattle.gq_model.specs.texts.Operands.{greatest_number}
use Rattle.gq_model.specs.texts.Turns.{Given, has_inputs, input_in, input_of, setting_at, setting_of}
use Rattle.gq_init.specs.TurnLines.{given_in}
use Rattle.gq_init.proofs.Line_number_counts.{number_in-other, one_or_more}

-- a name, a dot and the rest of a word
input_in-pieces : (name digit : List ℕ) → input_in (name ∷ pieces (λ c. c == 46) digit) ≡ input_of name (number_in 1 0 7 digit)
input_in-pieces name digit =
    elim (one_or_more 46 digit refl) [
      | inl e ↦ rw e refl
      | inr s ↦ rw (s.is, number_in-other 1 0 7 digit s.other) refl
    ]

-- and what it is in a text
pub input_named : (text name digit : List ℕ) (input : Option ℕ) → pieces (λ c. c == 46) text ≡ name ∷ pieces (λ c. c == 46) digit
    → input ≡ number_in 1 0 7 digit → input_in (pieces (λ c. c == 46) text) ≡ input_of name input
input_named text name digit input split is = ap input_in split ∙ (input_in-pieces name digit ∙ ap (input_of name) (sym is))

no_number : (components : List Component) (input : Option (List ℕ × ℕ)) → setting_of components input None ≡ Err BadLine
no_number components None = refl
no_number components (Some p) = refl

abbrev bad_line : Given
bad_line = Err BadLine

both : (b : Bool) → cond b bad_line bad_line ≡ bad_line
both true = refl
both false = refl

-- an input, a sign and the rest of a line
module _ (s : Scenario) (input sign number : List ℕ) where
  abbrev is_sign : Bool
  is_sign = has_inputs s.version && text_eq sign (codes "=")

  abbrev given : Given
  given = given_in s (input ∷ sign ∷ pieces (λ c. c == 32) number)

  abbrev its_input : Option (List ℕ × ℕ)
  its_input = input_in (pieces (λ c. c == 46) input)

  abbrev its_number : Option ℕ
  its_number = number_in 10 0 greatest_number number

  given-is : given ≡ cond is_sign (setting_of (components s) its_input its_number) (Err BadLine)
  given-is =
      elim (one_or_more 32 number refl) [
        | inl e ↦ rw e refl
        | inr t ↦ rw (t.is, number_in-other 10 0 greatest_number number t.other, no_number (components s) its_input) (sym (both is_sign))
      ]

  pub no_setting : is_sign ≡ false → given ≡ Err BadLine
  no_setting off = rw (given-is, off) refl

  pub no_value : its_number ≡ None → given ≡ Err BadLine
  no_value none = rw (given-is, none, no_number (components s) its_input) (both is_sign)

  pub setting_named : (name : List ℕ) (i n : ℕ) (x : Option ℕ) → is_sign ≡ true → its_input ≡ Some (name, i) → its_number ≡ Some n
      → x ≡ numbered 0 name (components s) → given ≡ setting_at (components s) x i n
  setting_named name i n x on is spells placed = rw (given-is, on, is, spells, placed) refl
