-- Values that pass the tests of sameness are equal.
use Rattle.std.proofs.Common.{◌≡◌, ℕ, ◌==◌, Bool, true, false, ◌&&◌, inl, inr, List, [], ◌∷◌, Option, Some, None, refl, ap}
use Rattle.std.proofs.lemmas.Bool.Decides.{eqb_tells}
use Rattle.gq_model.specs.declared.program.Form.{Form}
use Rattle.gq_model.specs.declared.program.Form.TheVariants.{Block, Slice, Space}
use Rattle.gq_model.specs.declared.program.OperandSlot.{OperandSlot}
use Rattle.gq_model.specs.declared.program.OperandSlot.TheVariants.{Own, Shared, Object}
use Rattle.gq_model.specs.declared.program.Width.{Width}
use Rattle.gq_model.specs.declared.program.Width.TheVariants.{Byte, Word}
use Rattle.gq_model.specs.declared.program.Operator.{Operator}
use Rattle.gq_model.specs.declared.program.Operator.TheVariants.{Add, Subtract, Multiply, And, Equal, Less}
use Rattle.gq_model.specs.declared.program.Bare.{Bare}
use Rattle.gq_model.specs.declared.program.Bare.TheVariants.{Drop, Dup, Combine}
use Rattle.gq_model.specs.declared.program.WithNumber.{WithNumber}
use Rattle.gq_model.specs.declared.program.WithNumber.TheVariants.{Push, Divide, Modulo, Get, Set, Index, Input}
use Rattle.gq_model.specs.declared.program.OperandStatement.{OperandStatement}
use Rattle.gq_model.specs.declared.program.OperandStatement.TheVariants.{Plain, Numbered}
use Rattle.gq_model.specs.declared.program.Instruction.{Instruction}
use Rattle.gq_model.specs.declared.program.Instruction.TheVariants.{Say, Out, Operands, Make, MakePool, Load, Store, Free, Take, Give, Peek, Poke, Open}
use Rattle.gq_model.specs.declared.program.Instruction.TheVariants.{Upgrade, Call, Close}
use Rattle.gq_model.specs.declared.section.Section.{Section}
use Rattle.gq_model.specs.declared.section.Section.TheVariants.{Main, Opening, Upgrading, Calling, Closing, Reacting}
use Rattle.gq_model.specs.declared.phase.Phase.{Phase}
use Rattle.gq_model.specs.declared.phase.Phase.TheVariants.{Pending, Running, Blocked, Serving, Handling, Exited}
use Rattle.gq_model.specs.machine.Program.{Statements, Done, Do, If, Loop, text_eq}
use Rattle.gq_model.specs.machine.Sections.{same_section}
use Rattle.gq_model.specs.machine.World.{Slot, Empty, Bytes, Pool, Link, Waiting, SlotId, In_leaf, In_session, In_object, Ask, Ask_open, Ask_upgrade}
use Rattle.gq_model.specs.machine.World.{Ask_close, Ask_call}
use Rattle.gq_outcomes.specs.Same.{same_all, same_ask, same_bare, same_bool, same_form, same_instruction, same_on_operands, same_operator, same_option}
use Rattle.gq_outcomes.specs.Same.{same_phase, same_operand_slot, same_slot, same_slot_id, same_statements, same_width, same_with_number}

pub first_holds : (a b : Bool) → (a && b) ≡ true → a ≡ true
first_holds true b e = refl
first_holds false b e = absurd (cc e)

pub second_holds : (a b : Bool) → (a && b) ≡ true → b ≡ true
second_holds true b e = e
second_holds false b e = absurd (cc e)

pub number_is_equal : (m n : ℕ) → (m == n) ≡ true → m ≡ n
number_is_equal m n e = elim (eqb_tells m n) [ inl t ↦ t.1 | inr t ↦ absurd (cc (e, t.0)) ]

pub text_is_equal : (a b : List ℕ) → text_eq a b ≡ true → a ≡ b
text_is_equal [] [] e = refl
text_is_equal [] (y ∷ ys) e = absurd (cc e)
text_is_equal (x ∷ xs) [] e = absurd (cc e)
text_is_equal (x ∷ xs) (y ∷ ys) e =
    let p = number_is_equal x y (first_holds (x == y) (text_eq xs ys) e) in
    let q = text_is_equal xs ys (second_holds (x == y) (text_eq xs ys) e) in λ k. p k ∷ q k

pub lists_are_equal : {A : Type 0} (same : A → A → Bool) → ((a b : A) → same a b ≡ true → a ≡ b) → (xs ys : List A) → same_all same xs ys ≡ true → xs ≡ ys
lists_are_equal same reports [] [] e = refl
lists_are_equal same reports [] (y ∷ ys) e = absurd (cc e)
lists_are_equal same reports (x ∷ xs) [] e = absurd (cc e)
lists_are_equal same reports (x ∷ xs) (y ∷ ys) e =
    let p = reports x y (first_holds (same x y) (same_all same xs ys) e) in
    let q = lists_are_equal same reports xs ys (second_holds (same x y) (same_all same xs ys) e) in λ k. p k ∷ q k

pub option_is_equal : {A : Type 0} (same : A → A → Bool) → ((a b : A) → same a b ≡ true → a ≡ b) → (x y : Option A) → same_option same x y ≡ true → x ≡ y
option_is_equal same reports None None e = refl
option_is_equal same reports (Some a) (Some b) e = ap Some (reports a b e)
option_is_equal same reports None (Some b) e = absurd (cc e)
option_is_equal same reports (Some a) None e = absurd (cc e)

pub bool_is_equal : (a b : Bool) → same_bool a b ≡ true → a ≡ b
bool_is_equal true true e = refl
bool_is_equal true false e = absurd (cc e)
bool_is_equal false true e = absurd (cc e)
bool_is_equal false false e = refl

pub form_is_equal : (a b : Form) → same_form a b ≡ true → a ≡ b
form_is_equal Block Block e = refl
form_is_equal Slice Slice e = refl
form_is_equal Space Space e = refl
form_is_equal _ _ e = absurd (cc e)

pub operand_slot_is_equal : (a b : OperandSlot) → same_operand_slot a b ≡ true → a ≡ b
operand_slot_is_equal (Own i) (Own j) e = ap Own (number_is_equal i j e)
operand_slot_is_equal (Shared i) (Shared j) e = ap Shared (number_is_equal i j e)
operand_slot_is_equal Object Object e = refl
operand_slot_is_equal _ _ e = absurd (cc e)

pub width_is_equal : (a b : Width) → same_width a b ≡ true → a ≡ b
width_is_equal Byte Byte e = refl
width_is_equal Word Word e = refl
width_is_equal _ _ e = absurd (cc e)

pub operator_is_equal : (a b : Operator) → same_operator a b ≡ true → a ≡ b
operator_is_equal Add Add e = refl
operator_is_equal Subtract Subtract e = refl
operator_is_equal Multiply Multiply e = refl
operator_is_equal And And e = refl
operator_is_equal Equal Equal e = refl
operator_is_equal Less Less e = refl
operator_is_equal _ _ e = absurd (cc e)

pub bare_is_equal : (a b : Bare) → same_bare a b ≡ true → a ≡ b
bare_is_equal Drop Drop e = refl
bare_is_equal Dup Dup e = refl
bare_is_equal (Combine f) (Combine g) e = ap Combine (operator_is_equal f g e)
bare_is_equal _ _ e = absurd (cc e)

pub with_number_is_equal : (a b : WithNumber) → same_with_number a b ≡ true → a ≡ b
with_number_is_equal Push Push e = refl
with_number_is_equal Divide Divide e = refl
with_number_is_equal Modulo Modulo e = refl
with_number_is_equal Get Get e = refl
with_number_is_equal Set Set e = refl
with_number_is_equal Index Index e = refl
with_number_is_equal Input Input e = refl
with_number_is_equal _ _ e = absurd (cc e)

pub on_operands_is_equal : (a b : OperandStatement) → same_on_operands a b ≡ true → a ≡ b
on_operands_is_equal (Plain s) (Plain t) e = ap Plain (bare_is_equal s t e)
on_operands_is_equal (Numbered s n) (Numbered t m) e =
    let p = with_number_is_equal s t (first_holds (same_with_number s t) (n == m) e) in
    let q = number_is_equal n m (second_holds (same_with_number s t) (n == m) e) in λ k. Numbered (p k) (q k)
on_operands_is_equal _ _ e = absurd (cc e)

pub instruction_is_equal : (a b : Instruction) → same_instruction a b ≡ true → a ≡ b
instruction_is_equal (Say a) (Say b) e = ap Say (text_is_equal a b e)
instruction_is_equal Out Out e = refl
instruction_is_equal (Operands s) (Operands t) e = ap Operands (on_operands_is_equal s t e)
instruction_is_equal (Make form p n) (Make form' q m) e =
    let f = first_holds (same_form form form' && same_operand_slot p q) (n == m) e in
    let a = form_is_equal form form' (first_holds (same_form form form') (same_operand_slot p q) f) in
    let b = operand_slot_is_equal p q (second_holds (same_form form form') (same_operand_slot p q) f) in
    let c = number_is_equal n m (second_holds (same_form form form' && same_operand_slot p q) (n == m) e) in λ k. Make (a k) (b k) (c k)
instruction_is_equal (MakePool p n m) (MakePool q i l) e =
    let f = first_holds (same_operand_slot p q && n == i) (m == l) e in
    let a = operand_slot_is_equal p q (first_holds (same_operand_slot p q) (n == i) f) in
    let b = number_is_equal n i (second_holds (same_operand_slot p q) (n == i) f) in
    let c = number_is_equal m l (second_holds (same_operand_slot p q && n == i) (m == l) e) in λ k. MakePool (a k) (b k) (c k)
instruction_is_equal (Load width p) (Load width' q) e =
    let a = width_is_equal width width' (first_holds (same_width width width') (same_operand_slot p q) e) in
    let b = operand_slot_is_equal p q (second_holds (same_width width width') (same_operand_slot p q) e) in λ k. Load (a k) (b k)
instruction_is_equal (Store width p) (Store width' q) e =
    let a = width_is_equal width width' (first_holds (same_width width width') (same_operand_slot p q) e) in
    let b = operand_slot_is_equal p q (second_holds (same_width width width') (same_operand_slot p q) e) in λ k. Store (a k) (b k)
instruction_is_equal (Free p) (Free q) e = ap Free (operand_slot_is_equal p q e)
instruction_is_equal (Take p) (Take q) e = ap Take (operand_slot_is_equal p q e)
instruction_is_equal (Give p) (Give q) e = ap Give (operand_slot_is_equal p q e)
instruction_is_equal (Peek p) (Peek q) e = ap Peek (operand_slot_is_equal p q e)
instruction_is_equal (Poke p) (Poke q) e = ap Poke (operand_slot_is_equal p q e)
instruction_is_equal (Open p s n) (Open q t m) e =
    let f = first_holds (same_operand_slot p q && text_eq s t) (n == m) e in
    let a = operand_slot_is_equal p q (first_holds (same_operand_slot p q) (text_eq s t) f) in
    let b = text_is_equal s t (second_holds (same_operand_slot p q) (text_eq s t) f) in
    let c = number_is_equal n m (second_holds (same_operand_slot p q && text_eq s t) (n == m) e) in λ k. Open (a k) (b k) (c k)
instruction_is_equal (Upgrade p n) (Upgrade q m) e =
    let a = operand_slot_is_equal p q (first_holds (same_operand_slot p q) (n == m) e) in
    let b = number_is_equal n m (second_holds (same_operand_slot p q) (n == m) e) in λ k. Upgrade (a k) (b k)
instruction_is_equal (Call p) (Call q) e = ap Call (operand_slot_is_equal p q e)
instruction_is_equal (Close p) (Close q) e = ap Close (operand_slot_is_equal p q e)
instruction_is_equal _ _ e = absurd (cc e)

pub statements_are_equal : (a b : Statements) → same_statements a b ≡ true → a ≡ b
statements_are_equal Done Done e = refl
statements_are_equal (Do i rest) (Do j rest') e =
    let a = instruction_is_equal i j (first_holds (same_instruction i j) (same_statements rest rest') e) in
    let b = statements_are_equal rest rest' (second_holds (same_instruction i j) (same_statements rest rest') e) in λ k. Do (a k) (b k)
statements_are_equal (If arm other rest) (If arm' other' rest') e =
    let f = first_holds (same_statements arm arm' && same_statements other other') (same_statements rest rest') e in
    let a = statements_are_equal arm arm' (first_holds (same_statements arm arm') (same_statements other other') f) in
    let b = statements_are_equal other other' (second_holds (same_statements arm arm') (same_statements other other') f) in
    let c = statements_are_equal rest rest' (second_holds (same_statements arm arm' && same_statements other other') (same_statements rest rest') e) in
    λ k. If (a k) (b k) (c k)
statements_are_equal (Loop n body rest) (Loop n' body' rest') e =
    let f = first_holds (n == n' && same_statements body body') (same_statements rest rest') e in
    let a = number_is_equal n n' (first_holds (n == n') (same_statements body body') f) in
    let b = statements_are_equal body body' (second_holds (n == n') (same_statements body body') f) in
    let c = statements_are_equal rest rest' (second_holds (n == n' && same_statements body body') (same_statements rest rest') e) in λ k. Loop (a k) (b k) (c k)
statements_are_equal _ _ e = absurd (cc e)

pub slot_is_equal : (a b : Slot) → same_slot a b ≡ true → a ≡ b
slot_is_equal Empty Empty e = refl
slot_is_equal (Bytes form n bytes) (Bytes form' n' bytes') e =
    let f = first_holds (same_form form form' && n == n') (text_eq bytes bytes') e in
    let a = form_is_equal form form' (first_holds (same_form form form') (n == n') f) in
    let b = number_is_equal n n' (second_holds (same_form form form') (n == n') f) in
    let c = text_is_equal bytes bytes' (second_holds (same_form form form' && n == n') (text_eq bytes bytes') e) in λ k. Bytes (a k) (b k) (c k)
slot_is_equal (Pool n entries) (Pool n' entries') e =
    let a = number_is_equal n n' (first_holds (n == n') (same_all (same_option text_eq) entries entries') e) in
    let b = lists_are_equal (same_option text_eq) (option_is_equal text_eq text_is_equal) entries entries'
    (second_holds (n == n') (same_all (same_option text_eq) entries entries') e) in λ k. Pool (a k) (b k)
slot_is_equal (Link i) (Link j) e = ap Link (number_is_equal i j e)
slot_is_equal (Waiting i) (Waiting j) e = ap Waiting (number_is_equal i j e)
slot_is_equal _ _ e = absurd (cc e)

pub slot_id_is_equal : (a b : SlotId) → same_slot_id a b ≡ true → a ≡ b
slot_id_is_equal (In_leaf x i) (In_leaf y j) e =
    let a = number_is_equal x y (first_holds (x == y) (i == j) e) in let b = number_is_equal i j (second_holds (x == y) (i == j) e) in λ k. In_leaf (a k) (b k)
slot_id_is_equal (In_session x i) (In_session y j) e =
    let a = number_is_equal x y (first_holds (x == y) (i == j) e) in let b = number_is_equal i j (second_holds (x == y) (i == j) e) in λ k. In_session (a k) (b
    k)
slot_id_is_equal (In_object x) (In_object y) e = ap In_object (number_is_equal x y e)
slot_id_is_equal _ _ e = absurd (cc e)

pub ask_is_equal : (a b : Ask) → same_ask a b ≡ true → a ≡ b
ask_is_equal Ask_open Ask_open e = refl
ask_is_equal Ask_upgrade Ask_upgrade e = refl
ask_is_equal Ask_close Ask_close e = refl
ask_is_equal (Ask_call m) (Ask_call n) e = ap Ask_call (number_is_equal m n e)
ask_is_equal _ _ e = absurd (cc e)

pub phase_is_equal : (a b : Phase) → same_phase a b ≡ true → a ≡ b
phase_is_equal Pending Pending e = refl
phase_is_equal Running Running e = refl
phase_is_equal Blocked Blocked e = refl
phase_is_equal Serving Serving e = refl
phase_is_equal Handling Handling e = refl
phase_is_equal Exited Exited e = refl
phase_is_equal _ _ e = absurd (cc e)

pub section_is_equal : (a b : Section) → same_section a b ≡ true → a ≡ b
section_is_equal Main Main e = refl
section_is_equal Opening Opening e = refl
section_is_equal (Upgrading m) (Upgrading n) e = ap Upgrading (number_is_equal m n e)
section_is_equal (Calling m) (Calling n) e = ap Calling (number_is_equal m n e)
section_is_equal (Closing m) (Closing n) e = ap Closing (number_is_equal m n e)
section_is_equal (Reacting m) (Reacting n) e = ap Reacting (number_is_equal m n e)
section_is_equal _ _ e = absurd (cc e)
