-- Operands are read back as they are reported.
use Rattle.std.proofs.Common.{◌≡◌, ◌∙◌, ℕ, ◌<◌, ◌≤◌, ◌^◌, Bool, true, false, List, [], ◌∷◌, ◌++◌, length, map, Option, Some, None, Ok}
use Rattle.std.proofs.Common.{refl, ap, sym, arith, append-nil}
use Rattle.std.specs.Prelude.{◌&&◌, nat_le, ◌==◌, if◌then◌else◌, decimal, codes}
use Rattle.std.proofs.lemmas.Bool.{and_from, and_parts, leb-true, le-leb, ltb-true}
use Rattle.std.proofs.lemmas.Bool.Decides.{nat_tests}
use Rattle.std.proofs.lemmas.Fmt.{decimal_nonempty}
use Rattle.gq_model.specs.declared.fault.TextFault.TheVariants as fault
use Rattle.gq_model.specs.declared.program.Instruction.{Instruction}
use Rattle.gq_model.specs.declared.program.OperandSlot.{OperandSlot}
use Rattle.gq_model.specs.declared.program.OperandSlot.TheVariants.{Own, Shared, Object}
use Rattle.gq_model.specs.machine.Lists.{all_of, between}
use Rattle.gq_model.specs.machine.Program.{text_eq}
use Rattle.gq_model.specs.texts.Letters.{is_digit, is_name, is_name_byte, number_in, words}
use Rattle.gq_model.specs.texts.Operands.{Operand, is_slot, is_slot_or_object}
use Rattle.gq_model.specs.texts.Spelling.{Shape, Number, Slot, Service, found, instruction_in, named, numbered_slot, slot_in, slot_number}
use Rattle.gq_views.specs.Listing.{operand_text, operands_text, place_text}
use Rattle.gq_views.proofs.Listed_numbers.{all_append, decimal_short, decimal_is_printed, number_read}
use Rattle.gq_views.proofs.Listed_lines.{decimal_solid, is_printed, is_solid, name_solid, solid_printed, word_alone, word_first}

-- WORDS

-- a word: a first byte and others, none a blank
pub record IsWord (text : List ℕ) : Type 0 where
  pub first : ℕ
  pub rest : List ℕ
  pub is : text ≡ first ∷ rest
  pub solid : all_of is_solid (first ∷ rest) ≡ true

word_from : (xs : List ℕ) → 0 < length xs → all_of is_solid xs ≡ true → IsWord xs
word_from [] some h = absurd (omega (arith, some))
word_from (c ∷ w) some h = record { first = c; rest = w; is = refl; solid = h }

pub number_word : (n : ℕ) → n < 2 ^ 64 → IsWord (decimal n)
number_word n small = word_from (decimal n) (decimal_nonempty n small) (decimal_solid n small)

pub name_word : (v : List ℕ) → is_name v ≡ true → IsWord v
name_word v h =
    let t = and_parts (between 1 16 (length v)) (all_of is_name_byte v) h in
    let s = and_parts (nat_le 1 (length v)) (nat_le (length v) 16) t.0 in word_from v (leb-true 1 (length v) s.0) (name_solid v t.1)

letter_word : (c n : ℕ) → is_solid c ≡ true → n < 2 ^ 64 → IsWord (c ∷ decimal n)
letter_word c n h small =
    record { first = c; rest = decimal n; is = refl; solid = and_from (is_solid c) (all_of is_solid (decimal n)) h (decimal_solid n small) }

pub place_word : (p : OperandSlot) → is_slot_or_object p ≡ true → IsWord (place_text p)
place_word (Own i) h = let less = ltb-true i 64 h in letter_word 111 i refl (omega (arith, less))
place_word (Shared i) h = let less = ltb-true i 8 h in letter_word 115 i refl (omega (arith, less))
place_word Object h = record { first = 111; rest = 98 ∷ 106 ∷ []; is = refl; solid = refl }

abbrev pub AreWords : List Operand → Type 0
AreWords [] = Unit {0}
AreWords (o ∷ rest) = IsWord (operand_text o) × AreWords rest

pub words_operands : (os : List Operand) → AreWords os → words (operands_text os) ≡ map operand_text os
words_operands [] h = refl
words_operands (o ∷ []) h =
    let w = h.0 in
    ap words (append-nil (operand_text o)) ∙ ap words w.is ∙ word_alone w.first w.rest w.solid ∙ ap (λ (t : List ℕ). t ∷ []) (sym w.is)
words_operands (o ∷ p ∷ rest) h =
    let w = h.0 in
    ap (λ (t : List ℕ). words (t ++ operands_text (p ∷ rest))) w.is ∙ word_first w.first w.rest (operand_text p ++ operands_text rest) w.solid
    ∙ ap (λ (t : List ℕ). t ∷ words (operands_text (p ∷ rest))) (sym w.is)
    ∙ ap (λ (ts : List (List ℕ)). operand_text o ∷ ts) (words_operands (p ∷ rest) h.1)

-- all of it is printed
pub word_printed : (text : List ℕ) → IsWord text → all_of is_printed text ≡ true
word_printed text h = ap (all_of is_printed) h.is ∙ solid_printed (h.first ∷ h.rest) h.solid

pub operands_printed : (os : List Operand) → AreWords os → all_of is_printed (operands_text os) ≡ true
operands_printed [] h = refl
operands_printed (o ∷ rest) h =
    all_append is_printed (32 ∷ operand_text o) (operands_text rest) (and_from (is_printed 32) (all_of is_printed (operand_text o)) refl (word_printed
    (operand_text o) h.0))
    (operands_printed rest h.1)

-- SLOTS

slot_numbered : (high i : ℕ) → i ≤ high → i < 100 → slot_number high (decimal i) ≡ Some i
slot_numbered high i fits small =
    ap (λ (b : Bool). if b then number_in 2 0 high (decimal i) else None) (decimal_short i (omega (arith, small)))
    ∙ number_read 2 0 high i (omega arith) (omega (arith, small)) (omega (arith, small))
    (and_from (nat_le 0 i) (nat_le i high) (le-leb 0 i (omega arith)) (le-leb i high fits))

not_object : (ds : List ℕ) → all_of is_digit ds ≡ true → 0 < length ds → text_eq (111 ∷ ds) (codes "obj") ≡ false
not_object [] h some = absurd (omega (arith, some))
not_object (c ∷ ds) h some =
    let t = and_parts (is_digit c) (all_of is_digit ds) h in
    let other : (c == 98) ≡ false = grind (arith, nat_tests) in ap (λ (b : Bool). b && text_eq ds (codes "j")) other

own_or : (object : Bool) (i : ℕ) → i < 64 → slot_in object (place_text (Own i)) ≡ Some (Own i)
own_or false i less = ap (named Own) (slot_numbered 63 i (omega (arith, less)) (omega (arith, less)))
own_or true i less =
    ap (λ (b : Bool). if b then Some Object else numbered_slot (111 ∷ decimal i))
    (not_object (decimal i) (decimal_is_printed i (omega (arith, less))).digits (decimal_nonempty i (omega (arith, less))))
    ∙ ap (named Own) (slot_numbered 63 i (omega (arith, less)) (omega (arith, less)))

shared_or : (object : Bool) (i : ℕ) → i < 8 → slot_in object (place_text (Shared i)) ≡ Some (Shared i)
shared_or false i less = ap (named Shared) (slot_numbered 7 i (omega (arith, less)) (omega (arith, less)))
shared_or true i less = ap (named Shared) (slot_numbered 7 i (omega (arith, less)) (omega (arith, less)))

pub slot_read : (p : OperandSlot) → is_slot p ≡ true → slot_in false (place_text p) ≡ Some p
slot_read (Own i) h = own_or false i (ltb-true i 64 h)
slot_read (Shared i) h = shared_or false i (ltb-true i 8 h)
slot_read Object h = cc h

pub object_read : (p : OperandSlot) → is_slot_or_object p ≡ true → slot_in true (place_text p) ≡ Some p
object_read (Own i) h = own_or true i (ltb-true i 64 h)
object_read (Shared i) h = shared_or true i (ltb-true i 8 h)
object_read Object h = refl

-- SHAPES

module _ (after : List ℕ) (rest : List (List ℕ)) (i : Instruction) where
  pub reads_number : (width low high n : ℕ) (go : ℕ → Shape) → number_in 10 low high (decimal n) ≡ Some n → instruction_in after (go n) rest ≡ Ok i
      → instruction_in after (Number width low high go) (decimal n ∷ rest) ≡ Ok i
  reads_number width low high n go e h = ap (λ (o : Option ℕ). found o fault.BadNumber (λ m. instruction_in after (go m) rest)) e ∙ h

  pub reads_slot : (object : Bool) (p : OperandSlot) (go : OperandSlot → Shape) → slot_in object (place_text p) ≡ Some p → instruction_in after (go p) rest ≡
      Ok i
      → instruction_in after (Slot object go) (place_text p ∷ rest) ≡ Ok i
  reads_slot object p go e h = ap (λ (o : Option OperandSlot). found o fault.BadSlot (λ q. instruction_in after (go q) rest)) e ∙ h

  pub reads_service : (v : List ℕ) (go : List ℕ → Shape) → is_name v ≡ true → instruction_in after (go v) rest ≡ Ok i
      → instruction_in after (Service go) (v ∷ rest) ≡ Ok i
  reads_service v go e h =
      ap (λ (b : Bool). found (if b then Some v else None) fault.BadText (λ u. instruction_in after (go u) rest)) e ∙ h
