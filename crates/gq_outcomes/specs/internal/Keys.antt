-- The bytes by which settled worlds are told apart: what is kept of a world, part by part.
use Rattle.std.specs.Prelude.{ℕ, zero, suc, ◌+◌, ◌%◌, ◌/◌, nat_lt, if◌then◌else◌, Bool, true, false, List, [], ◌∷◌, ◌++◌, length, Option, Some, None}
use Rattle.gq_model.specs.declared.phase.Phase.{Phase}
use Rattle.gq_model.specs.declared.phase.Phase.TheVariants.{Pending, Running, Blocked, Serving, Handling, Exited}
use Rattle.gq_model.specs.declared.program.Form.{Form}
use Rattle.gq_model.specs.declared.program.Form.TheVariants.{Block, Slice, Space}
use Rattle.gq_model.specs.declared.program.OperandSlot.{OperandSlot}
use Rattle.gq_model.specs.declared.program.OperandSlot.TheVariants.{Own, Shared, Object}
use Rattle.gq_model.specs.declared.program.Width.{Width}
use Rattle.gq_model.specs.declared.program.Width.TheVariants.{Byte, Word}
use Rattle.gq_model.specs.declared.program.Operator.{Operator}
use Rattle.gq_model.specs.declared.program.Operator.TheVariants.{Add, Subtract, Multiply, And, Equal, Less}
use Rattle.gq_model.specs.declared.program.Bare.{Bare}
use Rattle.gq_model.specs.declared.program.Bare.TheVariants.{Drop, Dup, Combine}
use Rattle.gq_model.specs.declared.program.WithNumber.{WithNumber}
use Rattle.gq_model.specs.declared.program.WithNumber.TheVariants.{Push, Divide, Modulo, Get, Set, Index, Input}
use Rattle.gq_model.specs.declared.program.OperandStatement.{OperandStatement}
use Rattle.gq_model.specs.declared.program.OperandStatement.TheVariants.{Plain, Numbered}
use Rattle.gq_model.specs.declared.program.Instruction.{Instruction}
use Rattle.gq_model.specs.declared.program.Instruction.TheVariants.{Say, Out, Operands, Make, MakePool, Load, Store, Free, Take, Give, Peek, Poke, Open}
use Rattle.gq_model.specs.declared.program.Instruction.TheVariants.{Upgrade, Call, Close}
use Rattle.gq_model.specs.declared.section.Section.{Section}
use Rattle.gq_model.specs.declared.section.Section.TheVariants.{Main, Opening, Upgrading, Calling, Closing, Reacting}
use Rattle.gq_model.specs.machine.Program.{Statements, Done, Do, If, Loop}
use Rattle.gq_model.specs.machine.World.{Slot, Empty, Bytes, Pool, Link, Waiting, SlotId, In_leaf, In_session, In_object, Session, Ask, Ask_open, Ask_upgrade}
use Rattle.gq_model.specs.machine.World.{Ask_close, Ask_call, Request, Current, Round, Signal, Leaf, World}

-- NUMBERS AND LISTS

-- seven bits a byte, the lowest first, in at most so many bytes and one; each byte but the last is 128 or more
abbrev pub number_within : ℕ → ℕ → List ℕ
number_within zero n = n ∷ []
number_within (suc k) n = if nat_lt n 128 then n ∷ [] else (n % 128 + 128) ∷ number_within k (n / 128)

abbrev pub number_key : ℕ → List ℕ
number_key n = number_within n n

abbrev pub each_key : {A : Type 0} → (A → List ℕ) → List A → List ℕ
each_key key [] = []
each_key key (a ∷ more) = key a ++ each_key key more

abbrev pub list_key : {A : Type 0} → (A → List ℕ) → List A → List ℕ
list_key key all = number_key (length all) ++ each_key key all

abbrev pub option_key : {A : Type 0} → (A → List ℕ) → Option A → List ℕ
option_key key None = 0 ∷ []
option_key key (Some a) = 1 ∷ key a

abbrev pub text_key : List ℕ → List ℕ
text_key text = list_key number_key text

-- bytes, each that is not 0 behind the number of those before it that are, after so many that are 0; a 0 behind the number of the last ones is the end
abbrev pub bytes_key : ℕ → List ℕ → List ℕ
bytes_key zeros [] = number_key zeros ++ 0 ∷ []
bytes_key zeros (zero ∷ bytes) = bytes_key (suc zeros) bytes
bytes_key zeros (suc b ∷ bytes) = number_key zeros ++ (number_key (suc b) ++ bytes_key 0 bytes)

-- STATEMENTS

abbrev pub form_tag : Form → ℕ
form_tag Block = 0
form_tag Slice = 1
form_tag Space = 2

abbrev pub width_tag : Width → ℕ
width_tag Byte = 0
width_tag Word = 1

abbrev pub operand_slot_key : OperandSlot → List ℕ
operand_slot_key (Own i) = 0 ∷ number_key i
operand_slot_key (Shared i) = 1 ∷ number_key i
operand_slot_key Object = 2 ∷ []

abbrev pub operator_tag : Operator → ℕ
operator_tag Add = 0
operator_tag Subtract = 1
operator_tag Multiply = 2
operator_tag And = 3
operator_tag Equal = 4
operator_tag Less = 5

abbrev pub with_number_tag : WithNumber → ℕ
with_number_tag Push = 0
with_number_tag Divide = 1
with_number_tag Modulo = 2
with_number_tag Get = 3
with_number_tag Set = 4
with_number_tag Index = 5
with_number_tag Input = 6

abbrev pub bare_key : Bare → List ℕ
bare_key Drop = 0 ∷ []
bare_key Dup = 1 ∷ []
bare_key (Combine f) = 2 ∷ operator_tag f ∷ []

abbrev pub operands_key : OperandStatement → List ℕ
operands_key (Plain s) = 0 ∷ bare_key s
operands_key (Numbered s n) = 1 ∷ with_number_tag s ∷ number_key n

abbrev pub instruction_key : Instruction → List ℕ
instruction_key (Say text) = 0 ∷ text_key text
instruction_key Out = 1 ∷ []
instruction_key (Operands s) = 2 ∷ operands_key s
instruction_key (Make form p n) = 3 ∷ form_tag form ∷ (operand_slot_key p ++ number_key n)
instruction_key (MakePool p n m) = 4 ∷ (operand_slot_key p ++ (number_key n ++ number_key m))
instruction_key (Load width p) = 5 ∷ width_tag width ∷ operand_slot_key p
instruction_key (Store width p) = 6 ∷ width_tag width ∷ operand_slot_key p
instruction_key (Free p) = 7 ∷ operand_slot_key p
instruction_key (Take p) = 8 ∷ operand_slot_key p
instruction_key (Give p) = 9 ∷ operand_slot_key p
instruction_key (Peek p) = 10 ∷ operand_slot_key p
instruction_key (Poke p) = 11 ∷ operand_slot_key p
instruction_key (Open p service n) = 12 ∷ (operand_slot_key p ++ (text_key service ++ number_key n))
instruction_key (Upgrade p n) = 13 ∷ (operand_slot_key p ++ number_key n)
instruction_key (Call p) = 14 ∷ operand_slot_key p
instruction_key (Close p) = 15 ∷ operand_slot_key p

-- statements without a mark of their end: each begins with 2 or more, and what may follow them with 0 or 1
abbrev pub statements_key : Statements → List ℕ
statements_key Done = []
statements_key (Do i rest) = 2 ∷ (instruction_key i ++ statements_key rest)
statements_key (If arm other rest) = 3 ∷ (statements_key arm ++ 0 ∷ (statements_key other ++ 0 ∷ statements_key rest))
statements_key (Loop n body rest) = 4 ∷ (number_key n ++ (statements_key body ++ 0 ∷ statements_key rest))

-- a loop that is open, but for what comes after it
abbrev pub loop_key : ℕ → ℕ → Statements → List ℕ
loop_key round count body = 1 ∷ (number_key round ++ (number_key count ++ (statements_key body ++ 0 ∷ [])))

abbrev pub loops_key : List Round → List ℕ
loops_key [] = 0 ∷ []
loops_key (r ∷ loops) = loop_key r.round r.count r.body ++ (statements_key r.rest ++ loops_key loops)

-- what a leaf has left to do: statements, and the loops that are open
abbrev pub left_key : Statements → List Round → List ℕ
left_key todo loops = statements_key todo ++ loops_key loops

-- WORLDS

abbrev pub slot_key : Slot → List ℕ
slot_key Empty = 0 ∷ []
slot_key (Bytes form n bytes) = 1 ∷ form_tag form ∷ (number_key n ++ bytes_key 0 bytes)
slot_key (Pool n entries) = 2 ∷ (number_key n ++ list_key (option_key text_key) entries)
slot_key (Link k) = 3 ∷ number_key k
slot_key (Waiting k) = 4 ∷ number_key k

abbrev pub slots_key : List Slot → List ℕ
slots_key slots = list_key slot_key slots

abbrev pub slot_id_key : SlotId → List ℕ
slot_id_key (In_leaf x i) = 0 ∷ (number_key x ++ number_key i)
slot_id_key (In_session k i) = 1 ∷ (number_key k ++ number_key i)
slot_id_key (In_object k) = 2 ∷ number_key k

abbrev pub flag : Bool → ℕ
flag false = 0
flag true = 1

abbrev pub session_key : Session → List ℕ
session_key s =
    number_key s.client
    ++ (slot_id_key s.slot_id
    ++ (number_key s.server
    ++ (text_key s.service
    ++ (number_key s.level
    ++ (number_key s.donation.ram ++ (number_key s.donation.caps ++ (flag s.accepted ∷ (slot_key s.object ++ slots_key s.slots))))))))

abbrev pub ask_key : Ask → List ℕ
ask_key Ask_open = 0 ∷ []
ask_key Ask_upgrade = 1 ∷ []
ask_key Ask_close = 2 ∷ []
ask_key (Ask_call value) = 3 ∷ number_key value

abbrev pub request_key : Request → List ℕ
request_key r = number_key r.session ++ ask_key r.ask

abbrev pub section_key : Section → List ℕ
section_key Main = 0 ∷ []
section_key Opening = 1 ∷ []
section_key (Upgrading l) = 2 ∷ number_key l
section_key (Calling l) = 3 ∷ number_key l
section_key (Closing l) = 4 ∷ number_key l
section_key (Reacting i) = 5 ∷ number_key i

abbrev pub current_key : Current → List ℕ
current_key c = number_key c.session ++ section_key c.section

abbrev pub phase_tag : Phase → ℕ
phase_tag Pending = 0
phase_tag Running = 1
phase_tag Blocked = 2
phase_tag Serving = 3
phase_tag Handling = 4
phase_tag Exited = 5

abbrev pub signal_key : Signal → List ℕ
signal_key s = flag s.submitted ∷ number_key s.taken

-- the signal that a leaf reacts to, and its signals
abbrev pub signals_key : Option ℕ → List Signal → List ℕ
signals_key reacting signals = option_key number_key reacting ++ list_key signal_key signals

abbrev pub leaf_key : Leaf → List ℕ
leaf_key leaf =
    phase_tag leaf.phase
    ∷ (option_key current_key leaf.current
    ++ (left_key leaf.todo leaf.loops
    ++ (text_key leaf.operands
    ++ (text_key leaf.locals
    ++ (text_key leaf.peaks ++ (number_key leaf.steps ++ (text_key leaf.inputs ++ (signals_key leaf.reacting leaf.signals ++ slots_key leaf.slots))))))))

abbrev pub world_key : World → List ℕ
world_key w = list_key leaf_key w.leaves ++ (list_key (option_key session_key) w.sessions ++ list_key request_key w.requests)
