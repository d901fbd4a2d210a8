-- What the words at the start of a line are read as.
use Rattle.std.specs.Prelude.{◌≡◌, ℕ, Bool, List, [], ◌∷◌, Result, Ok, Err}
use Rattle.gq_model.specs.declared.program.OperandSlot.{OperandSlot}
use Rattle.gq_model.specs.declared.fault.TextFault.{TextFault}
use Rattle.gq_model.specs.declared.fault.TextFault.TheVariants.{UnknownWord, BadNumber, BadSlot, BadText}
use Rattle.gq_model.specs.texts.Letters.{number_in}
use Rattle.gq_model.specs.texts.Spelling.{found, slot_in, name_in}

-- What a function returned, seen by view, is the answer.
abbrev pub Answers : {X Y : Type 0} → (X → Y) → Result X TextFault → Result Y TextFault → Type 0
Answers view (Ok x) answer = answer ≡ Ok (view x)
Answers view (Err fault) answer = answer ≡ Err fault

-- no word
abbrev pub nothing_at : List (List ℕ) → Result (Unit {0}) TextFault
nothing_at [] = Ok tt
nothing_at (word ∷ rest) = Err UnknownWord

-- a number in range, and the words after it
abbrev pub number_at : ℕ → ℕ → List (List ℕ) → Result (ℕ × List (List ℕ)) TextFault
number_at low high [] = Err BadNumber
number_at low high (word ∷ rest) = found (number_in 10 low high word) BadNumber (λ n. Ok (n, rest))

-- a slot, or the object where it may stand
abbrev pub slot_at : Bool → List (List ℕ) → Result (OperandSlot × List (List ℕ)) TextFault
slot_at object [] = Err BadSlot
slot_at object (word ∷ rest) = found (slot_in object word) BadSlot (λ s. Ok (s, rest))

-- the name of a service
abbrev pub name_at : List (List ℕ) → Result (List ℕ × List (List ℕ)) TextFault
name_at [] = Err BadText
name_at (word ∷ rest) = found (name_in word) BadText (λ v. Ok (v, rest))
