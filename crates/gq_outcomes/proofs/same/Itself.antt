-- What is kept of a world passes the test of sameness against itself.
use Rattle.std.proofs.Common.{◌≡◌, ℕ, ◌==◌, Bool, true, false, ◌&&◌, inl, inr, List, [], ◌∷◌, Option, Some, None, refl}
use Rattle.std.proofs.lemmas.Bool.Decides.{eqb_tells}
use Rattle.gq_model.specs.declared.phase.Phase.{Phase}
use Rattle.gq_model.specs.declared.phase.Phase.TheVariants.{Pending, Running, Blocked, Serving, Handling, Exited}
use Rattle.gq_model.specs.declared.program.Form.{Form}
use Rattle.gq_model.specs.declared.program.Form.TheVariants.{Block, Slice, Space}
use Rattle.gq_model.specs.declared.program.OperandSlot.{OperandSlot}
use Rattle.gq_model.specs.declared.program.OperandSlot.TheVariants.{Own, Shared, Object}
use Rattle.gq_model.specs.declared.program.Width.{Width}
use Rattle.gq_model.specs.declared.program.Width.TheVariants.{Byte, Word}
use Rattle.gq_model.specs.declared.program.Operator.{Operator}
use Rattle.gq_model.specs.declared.program.Operator.TheVariants.{Add, Subtract, Multiply, And, Equal, Less}
use Rattle.gq_model.specs.declared.program.Bare.{Bare}
use Rattle.gq_model.specs.declared.program.Bare.TheVariants.{Drop, Dup, Combine}
use Rattle.gq_model.specs.declared.program.WithNumber.{WithNumber}
use Rattle.gq_model.specs.declared.program.WithNumber.TheVariants.{Push, Divide, Modulo, Get, Set, Index, Input}
use Rattle.gq_model.specs.declared.program.OperandStatement.{OperandStatement}
use Rattle.gq_model.specs.declared.program.OperandStatement.TheVariants.{Plain, Numbered}
use Rattle.gq_model.specs.declared.program.Instruction.{Instruction}
use Rattle.gq_model.specs.declared.program.Instruction.TheVariants.{Say, Out, Operands, Make, MakePool, Load, Store, Free, Take, Give, Peek, Poke, Open}
use Rattle.gq_model.specs.declared.program.Instruction.TheVariants.{Upgrade, Call, Close}
use Rattle.gq_model.specs.declared.section.Section.{Section}
use Rattle.gq_model.specs.declared.section.Section.TheVariants.{Main, Opening, Upgrading, Calling, Closing, Reacting}
use Rattle.gq_model.specs.machine.Amounts.{Amount, same_amount}
use Rattle.gq_model.specs.machine.Program.{Statements, Done, Do, If, Loop, text_eq}
use Rattle.gq_model.specs.machine.Sections.{same_section}
use Rattle.gq_model.specs.machine.World.{Slot, Empty, Bytes, Pool, Link, Waiting, SlotId, In_leaf, In_session, In_object, Ask, Ask_open, Ask_upgrade}
use Rattle.gq_model.specs.machine.World.{Ask_close, Ask_call, Current, Leaf, Request, Round, Session, Signal, World}
use Rattle.gq_outcomes.specs.Outcomes.{Kept, same_kept}
use Rattle.gq_outcomes.specs.Same.{same_all, same_ask, same_bare, same_bool, same_current, same_form, same_instruction, same_leaf, same_on_operands}
use Rattle.gq_outcomes.specs.Same.{same_operator, same_option, same_phase, same_operand_slot, same_request, same_round, same_session, same_slot, same_slot_id}
use Rattle.gq_outcomes.specs.Same.{same_signal, same_statements, same_width, same_with_number, same_world}

both : (a b : Bool) → a ≡ true → b ≡ true → (a && b) ≡ true
both true b p q = q
both false b p q = absurd (cc p)

number_itself : (n : ℕ) → (n == n) ≡ true
number_itself n = elim (eqb_tells n n) [ inl t ↦ t.0 | inr t ↦ absurd (t.1 refl) ]

text_itself : (a : List ℕ) → text_eq a a ≡ true
text_itself [] = refl
text_itself (x ∷ xs) = both (x == x) (text_eq xs xs) (number_itself x) (text_itself xs)

all_itself : {A : Type 0} (same : A → A → Bool) → ((a : A) → same a a ≡ true) → (xs : List A) → same_all same xs xs ≡ true
all_itself same itself [] = refl
all_itself same itself (x ∷ xs) = both (same x x) (same_all same xs xs) (itself x) (all_itself same itself xs)

option_itself : {A : Type 0} (same : A → A → Bool) → ((a : A) → same a a ≡ true) → (x : Option A) → same_option same x x ≡ true
option_itself same itself None = refl
option_itself same itself (Some a) = itself a

bool_itself : (a : Bool) → same_bool a a ≡ true
bool_itself true = refl
bool_itself false = refl

form_itself : (a : Form) → same_form a a ≡ true
form_itself Block = refl
form_itself Slice = refl
form_itself Space = refl

place_itself : (a : OperandSlot) → same_operand_slot a a ≡ true
place_itself (Own i) = number_itself i
place_itself (Shared i) = number_itself i
place_itself Object = refl

width_itself : (a : Width) → same_width a a ≡ true
width_itself Byte = refl
width_itself Word = refl

operator_itself : (a : Operator) → same_operator a a ≡ true
operator_itself Add = refl
operator_itself Subtract = refl
operator_itself Multiply = refl
operator_itself And = refl
operator_itself Equal = refl
operator_itself Less = refl

bare_itself : (a : Bare) → same_bare a a ≡ true
bare_itself Drop = refl
bare_itself Dup = refl
bare_itself (Combine f) = operator_itself f

with_number_itself : (a : WithNumber) → same_with_number a a ≡ true
with_number_itself Push = refl
with_number_itself Divide = refl
with_number_itself Modulo = refl
with_number_itself Get = refl
with_number_itself Set = refl
with_number_itself Index = refl
with_number_itself Input = refl

operands_itself : (a : OperandStatement) → same_on_operands a a ≡ true
operands_itself (Plain s) = bare_itself s
operands_itself (Numbered s n) = both (same_with_number s s) (n == n) (with_number_itself s) (number_itself n)

instruction_itself : (a : Instruction) → same_instruction a a ≡ true
instruction_itself (Say text) = text_itself text
instruction_itself Out = refl
instruction_itself (Operands s) = operands_itself s
instruction_itself (Make form p n) =
    both (same_form form form && same_operand_slot p p) (n == n) (both (same_form form form) (same_operand_slot p p) (form_itself form) (place_itself p))
    (number_itself n)
instruction_itself (MakePool p n m) =
    both (same_operand_slot p p && n == n) (m == m) (both (same_operand_slot p p) (n == n) (place_itself p) (number_itself n)) (number_itself m)
instruction_itself (Load width p) = both (same_width width width) (same_operand_slot p p) (width_itself width) (place_itself p)
instruction_itself (Store width p) = both (same_width width width) (same_operand_slot p p) (width_itself width) (place_itself p)
instruction_itself (Free p) = place_itself p
instruction_itself (Take p) = place_itself p
instruction_itself (Give p) = place_itself p
instruction_itself (Peek p) = place_itself p
instruction_itself (Poke p) = place_itself p
instruction_itself (Open p a n) =
    both (same_operand_slot p p && text_eq a a) (n == n) (both (same_operand_slot p p) (text_eq a a) (place_itself p) (text_itself a)) (number_itself n)
instruction_itself (Upgrade p n) = both (same_operand_slot p p) (n == n) (place_itself p) (number_itself n)
instruction_itself (Call p) = place_itself p
instruction_itself (Close p) = place_itself p

statements_itself : (a : Statements) → same_statements a a ≡ true
statements_itself Done = refl
statements_itself (Do i rest) = both (same_instruction i i) (same_statements rest rest) (instruction_itself i) (statements_itself rest)
statements_itself (If arm other rest) =
    both (same_statements arm arm && same_statements other other) (same_statements rest rest)
    (both (same_statements arm arm) (same_statements other other) (statements_itself arm) (statements_itself other)) (statements_itself rest)
statements_itself (Loop n body rest) =
    both (n == n && same_statements body body) (same_statements rest rest)
    (both (n == n) (same_statements body body) (number_itself n) (statements_itself body)) (statements_itself rest)

slot_itself : (a : Slot) → same_slot a a ≡ true
slot_itself Empty = refl
slot_itself (Bytes form n bytes) =
    both (same_form form form && n == n) (text_eq bytes bytes) (both (same_form form form) (n == n) (form_itself form) (number_itself n)) (text_itself bytes)
slot_itself (Pool n entries) =
    both (n == n) (same_all (same_option text_eq) entries entries) (number_itself n)
    (all_itself (same_option text_eq) (option_itself text_eq text_itself) entries)
slot_itself (Link k) = number_itself k
slot_itself (Waiting k) = number_itself k

slot_id_itself : (a : SlotId) → same_slot_id a a ≡ true
slot_id_itself (In_leaf x i) = both (x == x) (i == i) (number_itself x) (number_itself i)
slot_id_itself (In_session k i) = both (k == k) (i == i) (number_itself k) (number_itself i)
slot_id_itself (In_object k) = number_itself k

ask_itself : (a : Ask) → same_ask a a ≡ true
ask_itself Ask_open = refl
ask_itself Ask_upgrade = refl
ask_itself Ask_close = refl
ask_itself (Ask_call value) = number_itself value

phase_itself : (a : Phase) → same_phase a a ≡ true
phase_itself Pending = refl
phase_itself Running = refl
phase_itself Blocked = refl
phase_itself Serving = refl
phase_itself Handling = refl
phase_itself Exited = refl

section_itself : (a : Section) → same_section a a ≡ true
section_itself Main = refl
section_itself Opening = refl
section_itself (Upgrading l) = number_itself l
section_itself (Calling l) = number_itself l
section_itself (Closing l) = number_itself l
section_itself (Reacting i) = number_itself i

-- PARTS OF WORLDS

amount_itself : (a : Amount) → same_amount a a ≡ true
amount_itself a = both (a.ram == a.ram) (a.caps == a.caps) (number_itself a.ram) (number_itself a.caps)

current_itself : (c : Current) → same_current c c ≡ true
current_itself c = both (c.session == c.session) (same_section c.section c.section) (number_itself c.session) (section_itself c.section)

request_itself : (r : Request) → same_request r r ≡ true
request_itself r = both (r.session == r.session) (same_ask r.ask r.ask) (number_itself r.session) (ask_itself r.ask)

round_itself : (r : Round) → same_round r r ≡ true
round_itself r =
    let n = r.round == r.round in
    let c = r.count == r.count in
    let b = same_statements r.body r.body in
    both (n && c && b) (same_statements r.rest r.rest)
    (both (n && c) b (both n c (number_itself r.round) (number_itself r.count)) (statements_itself r.body)) (statements_itself r.rest)

session_itself : (s : Session) → same_session s s ≡ true
session_itself s =
    let t1 = s.client == s.client in
    let t2 = same_slot_id s.slot_id s.slot_id in
    let t3 = s.server == s.server in
    let t4 = text_eq s.service s.service in
    let t5 = s.level == s.level in
    let t6 = same_amount s.donation s.donation in
    let t7 = same_bool s.accepted s.accepted in
    let t8 = same_slot s.object s.object in
    let t9 = same_all same_slot s.slots s.slots in
    let h2 = both t1 t2 (number_itself s.client) (slot_id_itself s.slot_id) in
    let h3 = both (t1 && t2) t3 h2 (number_itself s.server) in
    let h4 = both (t1 && t2 && t3) t4 h3 (text_itself s.service) in
    let h5 = both (t1 && t2 && t3 && t4) t5 h4 (number_itself s.level) in
    let h6 = both (t1 && t2 && t3 && t4 && t5) t6 h5 (amount_itself s.donation) in
    let h7 = both (t1 && t2 && t3 && t4 && t5 && t6) t7 h6 (bool_itself s.accepted) in
    let h8 = both (t1 && t2 && t3 && t4 && t5 && t6 && t7) t8 h7 (slot_itself s.object) in
    both (t1 && t2 && t3 && t4 && t5 && t6 && t7 && t8) t9 h8 (all_itself same_slot slot_itself s.slots)

signal_itself : (s : Signal) → same_signal s s ≡ true
signal_itself s = both (same_bool s.submitted s.submitted) (s.taken == s.taken) (bool_itself s.submitted) (number_itself s.taken)

leaf_itself : (a : Leaf) → same_leaf a a ≡ true
leaf_itself a =
    let t1 = same_phase a.phase a.phase in
    let t2 = same_option same_current a.current a.current in
    let t3 = same_statements a.todo a.todo in
    let t4 = same_all same_round a.loops a.loops in
    let t5 = text_eq a.operands a.operands in
    let t6 = text_eq a.locals a.locals in
    let t7 = same_all same_slot a.slots a.slots in
    let t8 = text_eq a.peaks a.peaks in
    let t9 = a.steps == a.steps in
    let t10 = text_eq a.inputs a.inputs in
    let t11 = same_option (λ i j. i == j) a.reacting a.reacting in
    let h2 = both t1 t2 (phase_itself a.phase) (option_itself same_current current_itself a.current) in
    let h3 = both (t1 && t2) t3 h2 (statements_itself a.todo) in
    let h4 = both (t1 && t2 && t3) t4 h3 (all_itself same_round round_itself a.loops) in
    let h5 = both (t1 && t2 && t3 && t4) t5 h4 (text_itself a.operands) in
    let h6 = both (t1 && t2 && t3 && t4 && t5) t6 h5 (text_itself a.locals) in
    let h7 = both (t1 && t2 && t3 && t4 && t5 && t6) t7 h6 (all_itself same_slot slot_itself a.slots) in
    let h8 = both (t1 && t2 && t3 && t4 && t5 && t6 && t7) t8 h7 (text_itself a.peaks) in
    let h9 = both (t1 && t2 && t3 && t4 && t5 && t6 && t7 && t8) t9 h8 (number_itself a.steps) in
    let h10 = both (t1 && t2 && t3 && t4 && t5 && t6 && t7 && t8 && t9) t10 h9 (text_itself a.inputs) in
    let h11 = both (t1 && t2 && t3 && t4 && t5 && t6 && t7 && t8 && t9 && t10) t11 h10 (option_itself (λ i j. i == j) number_itself a.reacting) in
    both (t1 && t2 && t3 && t4 && t5 && t6 && t7 && t8 && t9 && t10 && t11) (same_all same_signal a.signals a.signals) h11
    (all_itself same_signal signal_itself a.signals)

world_itself : (w : World) → same_world w w ≡ true
world_itself w =
    let t1 = same_all same_leaf w.leaves w.leaves in
    let t2 = same_all (same_option same_session) w.sessions w.sessions in
    both (t1 && t2) (same_all same_request w.requests w.requests)
    (both t1 t2 (all_itself same_leaf leaf_itself w.leaves) (all_itself (same_option same_session) (option_itself same_session session_itself) w.sessions))
    (all_itself same_request request_itself w.requests)

pub kept_itself : (k : Kept) → same_kept k k ≡ true
kept_itself k = both (same_world k.world k.world) (same_all text_eq k.said k.said) (world_itself k.world) (all_itself text_eq text_itself k.said)
