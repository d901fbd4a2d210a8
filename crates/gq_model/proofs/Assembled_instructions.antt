-- An instruction that words make has its operands in range.
use Rattle.std.proofs.Common.{◌≡◌, ℕ, ◌≤◌, List, [], ◌∷◌, ◌++◌, length, true, false, Option, Some, None, Result, refl, arith}
use Rattle.std.specs.Prelude.{nat_le, nat_lt, ◌==◌, ◌&&◌, if◌then◌else◌, codes}
use Rattle.std.proofs.lemmas.Bool.{and_parts, leb-true, lt-ltb, cond_both}
use Rattle.gq_model.specs.machine.Program.{OperandSlot, Own, Shared, Object, Instruction, text_eq}
use Rattle.gq_model.specs.machine.Lists.{all_of, between}
use Rattle.gq_model.specs.texts.Letters.{is_name, is_said, is_digit, is_short, spelled_on, number_in, unindented}
use Rattle.gq_model.specs.texts.Operands
use Rattle.gq_model.specs.texts.Operands.{Operand, operands, in_range, is_slot, is_slot_or_object}
use Rattle.gq_model.specs.texts.Spelling
use Rattle.gq_model.specs.texts.Spelling.{TextFault, BadNumber, BadSlot, BadText, Shape, Made, found, slot_number, numbered_slot, slot_in, name_in, sayable}
use Rattle.gq_model.specs.texts.Spelling.{opened_quote, said_in, instruction_in}
use Rattle.gq_model.proofs.Holding_results.{Holds}
use Rattle.gq_model.proofs.Shape_spelling.{Fills}
use Rattle.gq_model.proofs.Decoded_operands.{one_more}

pub found_holds : {A B : Type 0} (P : B → Type 0) (o : Option A) (fault : TextFault) (go : A → Result B TextFault) → ((a : A) → o ≡ Some a → Holds P (go a))
    → Holds P (found o fault go)
found_holds P None fault go h = tt
found_holds P (Some a) fault go h = h a refl

-- NUMBERS

pub number_between : (k low high : ℕ) (text : List ℕ) (n : ℕ) → number_in k low high text ≡ Some n → between low high n ≡ true
number_between k low high text n e =
    let m = spelled_on 0 text in
    cond_both (between 1 k (length text) && all_of is_digit text && between low high m) (Some m) None (λ o. o ≡ Some n → between low high n ≡ true)
    (λ t same. let is : m ≡ n = cc in rw is at ((and_parts (between 1 k (length text) && all_of is_digit text) (between low high m) t).1))
    (λ _ none. cc)
    e

-- SLOTS

slot_below : (high : ℕ) (text : List ℕ) (n : ℕ) → slot_number high text ≡ Some n → n ≤ high
slot_below high text n e =
    cond_both (is_short text) (number_in 2 0 high text) None (λ o. o ≡ Some n → n ≤ high)
    (λ _ here. leb-true n high ((and_parts (nat_le 0 n) (nat_le n high) (number_between 2 0 high text n here)).1))
    (λ _ none. cc)
    e

own_is : (o : Option ℕ) (p : OperandSlot) → ((n : ℕ) → o ≡ Some n → n ≤ 63) → Spelling.named Own o ≡ Some p → is_slot p ≡ true
own_is None p h e = cc
own_is (Some n) p h e =
    let is : Own n ≡ p = cc in let low = h n refl in let t : nat_lt n 64 ≡ true = lt-ltb n 64 (omega (arith, low)) in rw (← is) t

shared_is : (o : Option ℕ) (p : OperandSlot) → ((n : ℕ) → o ≡ Some n → n ≤ 7) → Spelling.named Shared o ≡ Some p → is_slot p ≡ true
shared_is None p h e = cc
shared_is (Some n) p h e =
    let is : Shared n ≡ p = cc in let low = h n refl in let t : nat_lt n 8 ≡ true = lt-ltb n 8 (omega (arith, low)) in rw (← is) t

numbered_is : (word : List ℕ) (p : OperandSlot) → numbered_slot word ≡ Some p → is_slot p ≡ true
numbered_is [] p e = cc
numbered_is (c ∷ rest) p e =
    cond_both (c == 111) (Spelling.named Own (slot_number 63 rest)) (if c == 115 then Spelling.named Shared (slot_number 7 rest) else None) (λ o. o ≡ Some p
    → is_slot p ≡ true)
    (λ _ own. own_is (slot_number 63 rest) p (slot_below 63 rest) own)
    (λ _ other.
    cond_both (c == 115) (Spelling.named Shared (slot_number 7 rest)) None (λ o. o ≡ Some p → is_slot p ≡ true)
    (λ _ shared. shared_is (slot_number 7 rest) p (slot_below 7 rest) shared)
    (λ _ none. cc)
    other)
    e

slot_is : (word : List ℕ) (p : OperandSlot) → slot_in false word ≡ Some p → is_slot p ≡ true
slot_is word p e = numbered_is word p e

pub or_object : (p : OperandSlot) → is_slot p ≡ true → is_slot_or_object p ≡ true
or_object (Own i) h = h
or_object (Shared i) h = h
or_object Object h = refl

bytes_are : (word : List ℕ) (p : OperandSlot) → slot_in true word ≡ Some p → is_slot_or_object p ≡ true
bytes_are word p e =
    cond_both (true && text_eq word (codes "obj")) (Some Object) (numbered_slot word) (λ o. o ≡ Some p → is_slot_or_object p ≡ true)
    (λ _ same. let is : Object ≡ p = cc in rw (← is) refl)
    (λ _ numbered. or_object p (numbered_is word p numbered))
    e

-- TEXTS

name_is : (word v : List ℕ) → name_in word ≡ Some v → is_name v ≡ true
name_is word v e =
    cond_both (is_name word) (Some word) None (λ o. o ≡ Some v → is_name v ≡ true)
    (λ t same. let is : word ≡ v = cc in rw is at t)
    (λ _ none. cc)
    e

sayable_is : (o : Option (List ℕ)) (text : List ℕ) → sayable o ≡ Some text → is_said text ≡ true
sayable_is None text e = cc
sayable_is (Some t) text e =
    cond_both (is_said t) (Some t) None (λ o. o ≡ Some text → is_said text ≡ true)
    (λ h same. let is : t ≡ text = cc in rw is at h)
    (λ _ none. cc)
    e

-- STATEMENTS

abbrev InRange : Instruction → Type 0
InRange i = all_of in_range (operands i) ≡ true

pub instruction_holds : (after : List ℕ) (shape : Shape) (op : ℕ) (before : List Operand) (words : List (List ℕ)) → Fills op before shape
    → all_of in_range before ≡ true → Holds InRange (instruction_in after shape words)
instruction_holds after (Made i) op before [] f h = rw f.1 h
instruction_holds after (Made i) op before (word ∷ rest) f h = tt
instruction_holds after (Spelling.Number width low high go) op before [] f h = tt
instruction_holds after (Spelling.Number width low high go) op before (word ∷ rest) f h =
    found_holds InRange (number_in 10 low high word) BadNumber (λ n. instruction_in after (go n) rest) (λ n e.
    let o = Operands.Number width low high n in
    instruction_holds after (go n) op (before ++ o ∷ []) rest (f n) (one_more before o h (number_between 10 low high word n e)))
instruction_holds after (Spelling.Slot object go) op before [] f h = tt
instruction_holds after (Spelling.Slot false go) op before (word ∷ rest) f h =
    found_holds InRange (slot_in false word) BadSlot (λ s. instruction_in after (go s) rest) (λ s e.
    let o = Operands.Slot s in instruction_holds after (go s) op (before ++ o ∷ []) rest (f s) (one_more before o h (slot_is word s e)))
instruction_holds after (Spelling.Slot true go) op before (word ∷ rest) f h =
    found_holds InRange (slot_in true word) BadSlot (λ s. instruction_in after (go s) rest) (λ s e.
    let o = Operands.Bytes s in instruction_holds after (go s) op (before ++ o ∷ []) rest (f s) (one_more before o h (bytes_are word s e)))
instruction_holds after (Spelling.Service go) op before [] f h = tt
instruction_holds after (Spelling.Service go) op before (word ∷ rest) f h =
    found_holds InRange (name_in word) BadText (λ v. instruction_in after (go v) rest) (λ v e.
    let o = Operands.Service v in instruction_holds after (go v) op (before ++ o ∷ []) rest (f v) (one_more before o h (name_is word v e)))
instruction_holds after (Spelling.Said go) op before words f h =
    found_holds InRange (said_in after) BadText (λ text. instruction_in after (go text) []) (λ text e.
    let o = Operands.Text text in
    instruction_holds after (go text) op (before ++ o ∷ []) [] (f text) (one_more before o h (sayable_is (opened_quote (unindented after)) text e)))
