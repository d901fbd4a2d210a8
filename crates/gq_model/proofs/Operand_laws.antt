-- What is written for the operands of a statement is read back.
use Rattle.std.proofs.Common.{◌≡◌, ℕ, zero, suc, ◌+◌, ◌≤◌, List, [], ◌∷◌, ◌++◌, length, Bool, true, false, Option, Some, refl, sym, ap, ◌∙◌, arith, inl, inr}
use Rattle.std.proofs.Common.{append_assoc}
use Rattle.std.specs.Prelude.{Ok, nat_le, nat_lt, ◌-◌}
use Rattle.std.proofs.lemmas.Bool.{leb-true, le-leb}
use Rattle.std.proofs.lemmas.Bool.Decides.{leb_tells}
use Rattle.gq_model.specs.machine.Program.{OperandSlot, Own, Shared, Object, Instruction, spelled}
use Rattle.gq_model.specs.machine.Lists.{between, all_of}
use Rattle.gq_model.specs.texts.Letters.{is_name, is_said, is_name_byte, is_said_byte}
use Rattle.gq_model.specs.texts.Operands
use Rattle.gq_model.specs.texts.Operands.{Operand, is_slot, is_slot_or_object, in_range, slot_code, operand_code, operands_code}
use Rattle.gq_model.specs.texts.Spelling
use Rattle.gq_model.specs.texts.Spelling.{Shape, Made}
use Rattle.gq_model.specs.texts.Decode.{CodeFault, BadNesting, BadOperand, Decoded, decoded_then, number_at, checked, place_of, found, operands_at}
use Rattle.gq_model.proofs.Code_laws.{number_at-spelled_1, number_at-spelled_2, number_at-spelled_4, text_at-length, checked_true}
use Rattle.std.proofs.lemmas.Bool.{and_parts}

-- the greatest number of a range has room in so many bytes
abbrev pub IsWidth : ℕ → ℕ → Type 0
IsWidth (suc zero) high = high ≤ 255
IsWidth (suc (suc zero)) high = high ≤ 65535
IsWidth (suc (suc (suc (suc zero)))) high = high ≤ 4294967295
IsWidth _ high = ⊥

number_at-spelled : (fault : CodeFault) (w high n : ℕ) (rest : List ℕ) → IsWidth w high → n ≤ high → number_at w fault (spelled w n ++ rest) ≡ Ok (n, rest)
number_at-spelled fault (suc zero) high n rest h le = number_at-spelled_1 fault n rest (omega (arith, h, le))
number_at-spelled fault (suc (suc zero)) high n rest h le = number_at-spelled_2 fault n rest (omega (arith, h, le))
number_at-spelled fault (suc (suc (suc (suc zero)))) high n rest h le = number_at-spelled_4 fault n rest (omega (arith, h, le))
number_at-spelled fault _ high n rest h le = absurd h

not_less : (a b : ℕ) → b ≤ a → nat_lt a b ≡ false
not_less a b le = elim (leb_tells (suc a) b) [ inl p ↦ absurd (omega (arith, le, p.1)) | inr p ↦ p.0 ]

place_of-slot : (object : Bool) (p : OperandSlot) → is_slot p ≡ true → place_of object (slot_code p) ≡ Some p
place_of-slot object (Own i) e = rw e refl
place_of-slot object (Shared i) e =
    let low : nat_lt (64 + i) 64 ≡ false = not_less (64 + i) 64 (omega arith) in
    let less : suc i ≤ 8 = leb-true (suc i) 8 e in
    let high : nat_lt (64 + i) 72 ≡ true = le-leb (suc (64 + i)) 72 (omega (arith, less)) in
    let same : 64 + i - 64 ≡ i = omega arith in
    rw (low, high, same) refl
place_of-slot object Object e = cc

place_of-bytes : (p : OperandSlot) → is_slot_or_object p ≡ true → place_of true (slot_code p) ≡ Some p
place_of-bytes (Own i) e = place_of-slot true (Own i) e
place_of-bytes (Shared i) e = place_of-slot true (Shared i) e
place_of-bytes Object e = refl

-- a shape asks for just these operands, and makes the instruction of them
abbrev pub Takes : Shape → List Operand → Instruction → Type 0
Takes (Made i) [] j = i ≡ j
Takes (Spelling.Number w low high go) (Operands.Number w' low' high' n ∷ ops) j =
    (spelled w' n ≡ spelled w n) × (between low' high' n ≡ between low high n) × IsWidth w high × Takes (go n) ops j
Takes (Spelling.Slot false go) (Operands.Slot p ∷ ops) j = Takes (go p) ops j
Takes (Spelling.Slot true go) (Operands.Bytes p ∷ ops) j = Takes (go p) ops j
Takes (Spelling.Service go) (Operands.Service v ∷ ops) j = Takes (go v) ops j
Takes (Spelling.Said go) (Operands.Text t ∷ ops) j = Takes (go t) ops j
Takes _ _ j = ⊥

found_place : (p : OperandSlot) (bytes : List ℕ) (o : Option OperandSlot) (go : OperandSlot → Decoded (Instruction × List ℕ)) → o ≡ Some p → found o go ≡ go p
found_place p bytes o go e = ap (λ q. found q go) e

-- operands in range, before other bytes, give the instruction back
pub operands_at-code : (shape : Shape) (ops : List Operand) (i : Instruction) (rest : List ℕ) → Takes shape ops i → all_of in_range ops ≡ true
    → operands_at shape (operands_code ops ++ rest) ≡ Ok (i, rest)
operands_at-code (Made i) [] j rest t e = ap (λ k. Ok (k, rest)) t
operands_at-code (Spelling.Number w low high go) (Operands.Number w' low' high' n ∷ ops) j rest t e =
    let both = and_parts (between low' high' n) (all_of in_range ops) e in
    let within : between low high n ≡ true = sym t.1 ∙ both.0 in
    let bytes = operands_code ops ++ rest in
    let le : n ≤ high = leb-true n high (and_parts (nat_le low n) (nat_le n high) within).1 in
    let code : (spelled w' n ++ operands_code ops) ++ rest ≡ spelled w n ++ bytes =
    append_assoc (spelled w' n) (operands_code ops) rest ∙ ap (λ c. c ++ bytes) t.0 in
    ap (operands_at (Spelling.Number w low high go)) code
    ∙ ap (λ r. decoded_then r (λ p. decoded_then (checked (between low high p.0) BadOperand p) (λ q. operands_at (go q.0) q.1)))
    (number_at-spelled BadNesting w high n bytes t.2 le)
    ∙ ap (λ r. decoded_then r (λ q. operands_at (go q.0) q.1)) (checked_true (between low high n) BadOperand (n, bytes) within)
    ∙ operands_at-code (go n) ops j rest t.3 both.1
operands_at-code (Spelling.Slot false go) (Operands.Slot p ∷ ops) j rest t e =
    let both = and_parts (is_slot p) (all_of in_range ops) e in
    let bytes = operands_code ops ++ rest in
    let same : slot_code p + 0 ≡ slot_code p = omega arith in
    ap (λ m. found (place_of false m) (λ s. operands_at (go s) bytes)) same
    ∙ found_place p bytes (place_of false (slot_code p)) (λ s. operands_at (go s) bytes) (place_of-slot false p both.0)
    ∙ operands_at-code (go p) ops j rest t both.1
operands_at-code (Spelling.Slot true go) (Operands.Bytes p ∷ ops) j rest t e =
    let both = and_parts (is_slot_or_object p) (all_of in_range ops) e in
    let bytes = operands_code ops ++ rest in
    let same : slot_code p + 0 ≡ slot_code p = omega arith in
    ap (λ m. found (place_of true m) (λ s. operands_at (go s) bytes)) same
    ∙ found_place p bytes (place_of true (slot_code p)) (λ s. operands_at (go s) bytes) (place_of-bytes p both.0)
    ∙ operands_at-code (go p) ops j rest t both.1
operands_at-code (Spelling.Service go) (Operands.Service v ∷ ops) j rest t e =
    let both = and_parts (is_name v) (all_of in_range ops) e in
    let name = and_parts (between 1 16 (length v)) (all_of is_name_byte v) both.0 in
    let bytes = operands_code ops ++ rest in
    let short : length v ≤ 16 = leb-true (length v) 16 (and_parts (nat_le 1 (length v)) (nat_le (length v) 16) name.0).1 in
    let code : (v ++ operands_code ops) ++ rest ≡ v ++ bytes = append_assoc v (operands_code ops) rest in
    ap (λ c. operands_at (Spelling.Service go) (length v ∷ c)) code
    ∙ ap (λ r. decoded_then r (λ p. operands_at (go p.0) p.1)) (text_at-length 1 16 is_name_byte v bytes (omega (arith, short)) name.0 name.1)
    ∙ operands_at-code (go v) ops j rest t both.1
operands_at-code (Spelling.Said go) (Operands.Text v ∷ ops) j rest t e =
    let both = and_parts (is_said v) (all_of in_range ops) e in
    let text = and_parts (nat_le (length v) 64) (all_of is_said_byte v) both.0 in
    let bytes = operands_code ops ++ rest in
    let short : length v ≤ 64 = leb-true (length v) 64 text.0 in
    let fits : between 0 64 (length v) ≡ true = rw (le-leb 0 (length v) (omega arith), text.0) refl in
    let code : (v ++ operands_code ops) ++ rest ≡ v ++ bytes = append_assoc v (operands_code ops) rest in
    ap (λ c. operands_at (Spelling.Said go) (length v ∷ c)) code
    ∙ ap (λ r. decoded_then r (λ p. operands_at (go p.0) p.1)) (text_at-length 0 64 is_said_byte v bytes (omega (arith, short)) fits text.1)
    ∙ operands_at-code (go v) ops j rest t both.1
operands_at-code _ _ j rest t e = absurd t
