-- What is made of a shape has that row's number, and the operands that it was made of.
use Rattle.std.proofs.Common.{◌≡◌, ℕ, true, false, List, [], ◌∷◌, ◌++◌, Some, sym}
use Rattle.std.proofs.lemmas.Bool.{cond_both, eqb-true}
use Rattle.std.specs.Prelude.{◌==◌}
use Rattle.gq_model.specs.machine.Program.{OperandSlot, text_eq}
use Rattle.gq_model.specs.texts.Operands
use Rattle.gq_model.specs.texts.Operands.{Operand, opcode, operands}
use Rattle.gq_model.specs.texts.Spelling
use Rattle.gq_model.specs.texts.Spelling.{Shape, Made, Spelling, spellings, shape_of_word, shape_of_opcode}

-- whatever is filled in after these operands, the instruction has this number and all of them
abbrev pub Fills : ℕ → List Operand → Shape → Type 0
Fills op before (Made i) = (opcode i ≡ op) × (operands i ≡ before)
Fills op before (Spelling.Number width low high go) = (n : ℕ) → Fills op (before ++ Operands.Number width low high n ∷ []) (go n)
Fills op before (Spelling.Slot false go) = (p : OperandSlot) → Fills op (before ++ Operands.Slot p ∷ []) (go p)
Fills op before (Spelling.Slot true go) = (p : OperandSlot) → Fills op (before ++ Operands.Bytes p ∷ []) (go p)
Fills op before (Spelling.Service go) = (v : List ℕ) → Fills op (before ++ Operands.Service v ∷ []) (go v)
Fills op before (Spelling.Said go) = (text : List ℕ) → Fills op (before ++ Operands.Text text ∷ []) (go text)

abbrev AllFill : List Spelling → Type 0
AllFill [] = Unit {0}
AllFill (p ∷ rest) = Fills p.opcode [] p.shape × AllFill rest

all_fill : AllFill spellings
all_fill = search

by_opcode : (rows : List Spelling) → AllFill rows → (op : ℕ) (shape : Shape) → shape_of_opcode op rows ≡ Some shape → Fills op [] shape
by_opcode [] h op shape e = cc
by_opcode (p ∷ rest) h op shape e =
    cond_both (op == p.opcode) (Some p.shape) (shape_of_opcode op rest) (λ o. o ≡ Some shape → Fills op [] shape)
    (λ t same. let here : p.shape ≡ shape = cc in let number : p.opcode ≡ op = sym (eqb-true op p.opcode t) in rw (here, number) at h.0)
    (λ _ found. by_opcode rest h.1 op shape found) e

-- where a number has a shape
pub opcode_fills : (op : ℕ) (shape : Shape) → shape_of_opcode op spellings ≡ Some shape → Fills op [] shape
opcode_fills op shape e = by_opcode spellings all_fill op shape e

by_word : (rows : List Spelling) → AllFill rows → (word : List ℕ) (shape : Shape) → shape_of_word word rows ≡ Some shape → (op : ℕ) × Fills op [] shape
by_word [] h word shape e = cc
by_word (p ∷ rest) h word shape e =
    cond_both (text_eq word p.word) (Some p.shape) (shape_of_word word rest) (λ o. o ≡ Some shape → (op : ℕ) × Fills op [] shape)
    (λ t same. let here : p.shape ≡ shape = cc in (p.opcode, rw here at h.0))
    (λ _ found. by_word rest h.1 word shape found) e

-- where a word has a shape
pub word_fills : (word : List ℕ) (shape : Shape) → shape_of_word word spellings ≡ Some shape → (op : ℕ) × Fills op [] shape
word_fills word shape e = by_word spellings all_fill word shape e
