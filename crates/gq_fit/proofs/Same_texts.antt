-- Texts that were found the same, in statements.
use Rattle.std.proofs.Common.{◌≡◌, ◌∙◌, ℕ, Bool, List, [], ap, sym}
use Rattle.std.specs.Prelude.{IsTrue}
use Rattle.gq_model.specs.machine.Program.{text_eq}
use Rattle.gq_model.specs.declared.program.Instruction.{Instruction}
use Rattle.gq_model.specs.declared.program.OperandSlot.{OperandSlot}
use Rattle.gq_model.specs.declared.program.Instruction.TheVariants.{Open, Say}
use Rattle.gq_model.proofs.Small_facts.{text_is, text_self}

-- texts that were found the same are one, by what they were read from
pub same_is : (same : Bool) (a b x y : List ℕ) → same ≡ text_eq a b → a ≡ x → b ≡ y → IsTrue same → x ≡ y
same_is same a b x y is left right h = sym left ∙ (text_is a b (sym is ∙ h) ∙ right)

-- sessions of one service are opened in one slot
pub same_open : (a b : OperandSlot) (s t : List ℕ) → a ≡ b → s ≡ t → Open a s 0 ≡ Open b t 0
same_open a b s t e f = λ j. Open (e j) (f j) 0

-- one text is found the same
pub one_is_same : (same : Bool) (a b x y : List ℕ) → same ≡ text_eq a b → a ≡ x → b ≡ y → x ≡ y → IsTrue same
one_is_same same a b x y is left right e = is ∙ ((λ i. text_eq (left i) (right i)) ∙ (ap (text_eq x) (sym e) ∙ text_self x))

-- the text or the service of a statement
abbrev text_of : Instruction → List ℕ
text_of (Say text) = text
text_of (Open place service n) = service
text_of _ = []

pub said_same : (a b : List ℕ) → Say a ≡ Say b → a ≡ b
said_same a b e = ap text_of e

pub opened_same : (a b : OperandSlot) (s t : List ℕ) → Open a s 0 ≡ Open b t 0 → s ≡ t
opened_same a b s t e = ap text_of e
