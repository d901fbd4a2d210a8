-- Worlds without the numbers of their sessions: each session stands in one slot, and goes by the order of these slots.
use Rattle.std.specs.Prelude.{ℕ, zero, suc, ◌==◌, if◌then◌else◌, Bool, true, false, ◌&&◌, not, List, [], ◌∷◌, ◌++◌, length, map}
use Rattle.std.specs.Prelude.{Option, Some, None, option_map}
use Rattle.gq_model.specs.machine.Amounts.{same_amount}
use Rattle.gq_model.specs.declared.phase.Phase.{Phase}
use Rattle.gq_model.specs.declared.phase.Phase.TheVariants.{Pending, Running, Blocked, Serving, Handling, Exited}
use Rattle.gq_model.specs.declared.program.Form.{Form}
use Rattle.gq_model.specs.declared.program.Form.TheVariants.{Block, Slice, Space}
use Rattle.gq_model.specs.declared.program.OperandSlot.{OperandSlot}
use Rattle.gq_model.specs.declared.program.OperandSlot.TheVariants.{Own, Shared, Object}
use Rattle.gq_model.specs.declared.program.Width.{Width}
use Rattle.gq_model.specs.declared.program.Width.TheVariants.{Byte, Word}
use Rattle.gq_model.specs.declared.program.Operator.{Operator}
use Rattle.gq_model.specs.declared.program.Operator.TheVariants.{Add, Subtract, Multiply, And, Equal, Less}
use Rattle.gq_model.specs.declared.program.Bare.{Bare}
use Rattle.gq_model.specs.declared.program.Bare.TheVariants.{Drop, Dup, Combine}
use Rattle.gq_model.specs.declared.program.WithNumber.{WithNumber}
use Rattle.gq_model.specs.declared.program.WithNumber.TheVariants.{Push, Divide, Modulo, Get, Set, Index, Input}
use Rattle.gq_model.specs.declared.program.OperandStatement.{OperandStatement}
use Rattle.gq_model.specs.declared.program.OperandStatement.TheVariants.{Plain, Numbered}
use Rattle.gq_model.specs.declared.program.Instruction.{Instruction}
use Rattle.gq_model.specs.declared.program.Instruction.TheVariants.{Say, Out, Operands, Make, MakePool, Load, Store, Free, Take, Give, Peek, Poke, Open}
use Rattle.gq_model.specs.declared.program.Instruction.TheVariants.{Upgrade, Call, Close}
use Rattle.gq_model.specs.machine.Program.{Statements, Done, Do, If, Loop, text_eq}
use Rattle.gq_model.specs.machine.Sections.{same_section}
use Rattle.gq_model.specs.machine.World.{Slot, Empty, Bytes, Pool, Link, Waiting, SlotId, In_leaf, In_session, In_object, Session, Ask, Ask_open, Ask_upgrade}
use Rattle.gq_model.specs.machine.World.{Ask_close, Ask_call, Request, Current, Round, Signal, Leaf, World}
use Rattle.gq_model.specs.machine.World.{session_at}
use Rattle.gq_laws.specs.Renamed.{renamed_leaf, renamed_request, renamed_session}

-- THE ORDER OF SESSIONS

-- the sessions that slots name, in the order of the slots
abbrev pub named_in : List Slot → List ℕ
named_in [] = []
named_in (Link k ∷ slots) = k ∷ named_in slots
named_in (Waiting k ∷ slots) = k ∷ named_in slots
named_in (_ ∷ slots) = named_in slots

abbrev pub session_slots : Option Session → List Slot
session_slots None = []
session_slots (Some s) = s.slots

-- those that the slots of these sessions name
abbrev pub named_below : World → List ℕ → List ℕ
named_below w [] = []
named_below w (k ∷ ks) = named_in (session_slots (session_at w k)) ++ named_below w ks

-- those that the own slots of these leaves name
abbrev pub named_by : List Leaf → List ℕ
named_by [] = []
named_by (leaf ∷ leaves) = named_in leaf.slots ++ named_by leaves

-- these sessions, those below them, and so on, at most n times
abbrev pub named_from : ℕ → World → List ℕ → List ℕ
named_from zero w ks = []
named_from (suc n) w ks = ks ++ named_from n w (named_below w ks)

-- all sessions: uses have no cycle, so no session stands below as many others as there are leaves
abbrev pub named : World → List ℕ
named w = named_from (length w.leaves) w (named_by w.leaves)

-- the place of a number among these, or their count
abbrev pub place_of : ℕ → List ℕ → ℕ
place_of k [] = 0
place_of k (j ∷ ks) = if j == k then 0 else suc (place_of k ks)

-- the world in which each session has its place in this order as its number
abbrev pub ordered_by : List ℕ → World → World
ordered_by ks w =
    let f : ℕ → ℕ = λ k. place_of k ks in
    record {
      leaves = map (renamed_leaf f) w.leaves;
      sessions = map (λ k. option_map (renamed_session f) (session_at w k)) ks;
      requests = map (renamed_request f) w.requests;
    }

abbrev pub ordered : World → World
ordered w = ordered_by (named w) w

-- WHETHER TWO WORLDS ARE ONE

abbrev pub same_all : {A : Type 0} → (A → A → Bool) → List A → List A → Bool
same_all same [] [] = true
same_all same (a ∷ more) (b ∷ bs) = same a b && same_all same more bs
same_all same [] (b ∷ bs) = false
same_all same (a ∷ more) [] = false

abbrev pub same_option : {A : Type 0} → (A → A → Bool) → Option A → Option A → Bool
same_option same None None = true
same_option same (Some a) (Some b) = same a b
same_option same None (Some b) = false
same_option same (Some a) None = false

abbrev pub same_bool : Bool → Bool → Bool
same_bool true b = b
same_bool false b = not b

abbrev pub same_form : Form → Form → Bool
same_form Block Block = true
same_form Slice Slice = true
same_form Space Space = true
same_form _ _ = false

abbrev pub same_slot : Slot → Slot → Bool
same_slot Empty Empty = true
same_slot (Bytes form n bytes) (Bytes form' n' bytes') = same_form form form' && n == n' && text_eq bytes bytes'
same_slot (Pool n entries) (Pool n' entries') = n == n' && same_all (same_option text_eq) entries entries'
same_slot (Link k) (Link k') = k == k'
same_slot (Waiting k) (Waiting k') = k == k'
same_slot _ _ = false

abbrev pub same_slot_id : SlotId → SlotId → Bool
same_slot_id (In_leaf x i) (In_leaf y j) = x == y && i == j
same_slot_id (In_session k i) (In_session l j) = k == l && i == j
same_slot_id (In_object k) (In_object l) = k == l
same_slot_id _ _ = false

abbrev pub same_session : Session → Session → Bool
same_session s t =
    s.client == t.client && same_slot_id s.slot_id t.slot_id && s.server == t.server && text_eq s.service t.service && s.level == t.level
    && same_amount s.donation t.donation && same_bool s.accepted t.accepted && same_slot s.object t.object && same_all same_slot s.slots t.slots

abbrev pub same_ask : Ask → Ask → Bool
same_ask Ask_open Ask_open = true
same_ask Ask_upgrade Ask_upgrade = true
same_ask Ask_close Ask_close = true
same_ask (Ask_call a) (Ask_call b) = a == b
same_ask _ _ = false

abbrev pub same_request : Request → Request → Bool
same_request r t = r.session == t.session && same_ask r.ask t.ask

abbrev pub same_current : Current → Current → Bool
same_current c d = c.session == d.session && same_section c.section d.section

abbrev pub same_phase : Phase → Phase → Bool
same_phase Pending Pending = true
same_phase Running Running = true
same_phase Blocked Blocked = true
same_phase Serving Serving = true
same_phase Handling Handling = true
same_phase Exited Exited = true
same_phase _ _ = false

abbrev pub same_operand_slot : OperandSlot → OperandSlot → Bool
same_operand_slot (Own i) (Own j) = i == j
same_operand_slot (Shared i) (Shared j) = i == j
same_operand_slot Object Object = true
same_operand_slot _ _ = false

abbrev pub same_width : Width → Width → Bool
same_width Byte Byte = true
same_width Word Word = true
same_width _ _ = false

abbrev pub same_operator : Operator → Operator → Bool
same_operator Add Add = true
same_operator Subtract Subtract = true
same_operator Multiply Multiply = true
same_operator And And = true
same_operator Equal Equal = true
same_operator Less Less = true
same_operator _ _ = false

abbrev pub same_bare : Bare → Bare → Bool
same_bare Drop Drop = true
same_bare Dup Dup = true
same_bare (Combine f) (Combine g) = same_operator f g
same_bare _ _ = false

abbrev pub same_with_number : WithNumber → WithNumber → Bool
same_with_number Push Push = true
same_with_number Divide Divide = true
same_with_number Modulo Modulo = true
same_with_number Get Get = true
same_with_number Set Set = true
same_with_number Index Index = true
same_with_number Input Input = true
same_with_number _ _ = false

abbrev pub same_on_operands : OperandStatement → OperandStatement → Bool
same_on_operands (Plain s) (Plain t) = same_bare s t
same_on_operands (Numbered s n) (Numbered t m) = same_with_number s t && n == m
same_on_operands _ _ = false

abbrev pub same_instruction : Instruction → Instruction → Bool
same_instruction (Say a) (Say b) = text_eq a b
same_instruction Out Out = true
same_instruction (Operands s) (Operands t) = same_on_operands s t
same_instruction (Make form p n) (Make form' q m) = same_form form form' && same_operand_slot p q && n == m
same_instruction (MakePool p n m) (MakePool q k l) = same_operand_slot p q && n == k && m == l
same_instruction (Load width p) (Load width' q) = same_width width width' && same_operand_slot p q
same_instruction (Store width p) (Store width' q) = same_width width width' && same_operand_slot p q
same_instruction (Free p) (Free q) = same_operand_slot p q
same_instruction (Take p) (Take q) = same_operand_slot p q
same_instruction (Give p) (Give q) = same_operand_slot p q
same_instruction (Peek p) (Peek q) = same_operand_slot p q
same_instruction (Poke p) (Poke q) = same_operand_slot p q
same_instruction (Open p a n) (Open q b m) = same_operand_slot p q && text_eq a b && n == m
same_instruction (Upgrade p n) (Upgrade q m) = same_operand_slot p q && n == m
same_instruction (Call p) (Call q) = same_operand_slot p q
same_instruction (Close p) (Close q) = same_operand_slot p q
same_instruction _ _ = false

abbrev pub same_statements : Statements → Statements → Bool
same_statements Done Done = true
same_statements (Do i rest) (Do j rest') = same_instruction i j && same_statements rest rest'
same_statements (If arm other rest) (If arm' other' rest') =
    same_statements arm arm' && same_statements other other' && same_statements rest rest'
same_statements (Loop n body rest) (Loop n' body' rest') = n == n' && same_statements body body' && same_statements rest rest'
same_statements _ _ = false

abbrev pub same_round : Round → Round → Bool
same_round r t = r.round == t.round && r.count == t.count && same_statements r.body t.body && same_statements r.rest t.rest

abbrev pub same_signal : Signal → Signal → Bool
same_signal s t = same_bool s.submitted t.submitted && s.taken == t.taken

abbrev pub same_leaf : Leaf → Leaf → Bool
same_leaf a b =
    same_phase a.phase b.phase && same_option same_current a.current b.current && same_statements a.todo b.todo && same_all same_round a.loops b.loops
    && text_eq a.operands b.operands && text_eq a.locals b.locals && same_all same_slot a.slots b.slots && text_eq a.peaks b.peaks
    && a.steps == b.steps && text_eq a.inputs b.inputs && same_option (λ i j. i == j) a.reacting b.reacting && same_all same_signal a.signals b.signals

abbrev pub same_world : World → World → Bool
same_world w v =
    same_all same_leaf w.leaves v.leaves && same_all (same_option same_session) w.sessions v.sessions && same_all same_request w.requests v.requests
