-- Each rule of the verifier, broken once, with its place, by computation.
use Rattle.std.proofs.Common.{◌≡◌, ◌++◌, ℕ, List, [], ◌∷◌, Option, Some, None, refl}
use Rattle.std.specs.Prelude.{codes, replicate}
use Rattle.std.specs.Fmt.{digits}
use Rattle.gq_model.specs.machine.Amounts.{amount}
use Rattle.gq_model.specs.machine.Program.{Own, Shared, Slice, Space, Byte, Word, Multiply, Out, Make, MakePool, Load}
use Rattle.gq_model.specs.machine.Program.{Free, Take, Open, Upgrade, Call, Statements, Done, Do, If, Loop}
use Rattle.gq_model.specs.machine.Sections.{Section, Main, Opening, Upgrading, Calling, Closing}
use Rattle.gq_model.specs.machine.Scenario.{Interface}
use Rattle.gq_model.specs.rules.Verdict.{program_fault, Fault}
use Rattle.gq_model.specs.texts.Fault_texts.{program_text}
use Rattle.gq_model.proofs.Sample_scenarios.{all_do, program, echo, log_interface}
use Rattle.gq_model.proofs.Statement_word_rows.{drop, dup, combine, push, set, index, input}

abbrev fault_text : Option Fault → List ℕ
fault_text None = []
fault_text (Some fault) = program_text fault

-- a leaf with these inputs that provides nothing, under an echo and a log
abbrev reads : List ℕ → Statements → List ℕ
reads inputs body =
    fault_text (program_fault (record {
      program = program ((Main, body) ∷ []);
      provided = None;
      interfaces = (codes "echo", echo) ∷ (codes "log", log_interface) ∷ [];
      inputs = inputs;
      signals = 0;
    }))

-- one without inputs
abbrev client : Statements → List ℕ
client body = reads [] body

-- a server of this interface
abbrev serves : Interface → List (Section × Statements) → List ℕ
serves i sections =
    fault_text (program_fault (record {
      program = record { sections = sections; locals = 10 ∷ replicate 7 4294967295 };
      provided = Some i;
      interfaces = (codes "echo", echo) ∷ [];
      inputs = [];
      signals = 0;
    }))

-- an echo with these sections
abbrev echoes : Statements → Statements → List ℕ
echoes opening calling = serves echo ((Main, Done) ∷ (Opening, opening) ∷ (Calling 0, calling) ∷ (Closing 0, Done) ∷ [])

-- a log with these sections
abbrev logs : Statements → Statements → Statements → Statements → List ℕ
logs opening up call close =
    serves log_interface ((Main, Done) ∷ (Opening, opening) ∷ (Upgrading 1, up) ∷ (Calling 0, call) ∷ (Calling 1, call)
    ∷ (Closing 0, all_do (Free (Shared 0) ∷ [])) ∷ (Closing 1, close) ∷ [])

abbrev buffered : Statements
buffered = all_do (Make Space (Shared 0) 16 ∷ [])

abbrev good_close : Statements
good_close = all_do (Free (Shared 1) ∷ Free (Shared 0) ∷ [])

abbrev good_call : Statements
good_call = all_do (Load Byte (Shared 0) ∷ [])

abbrev good_up : Statements
good_up = all_do (Make Slice (Shared 1) 64 ∷ [])

missing_operand : client (all_do (Out ∷ [])) ≡ codes "V1 MissingOperand in main at 1"
unfolding digits
missing_operand = refl

index_outside : client (Loop 2 (Do (index 1) Done) Done) ≡ codes "V1 MissingOperand in main at 2"
unfolding digits
index_outside = refl

stack_too_deep : client (all_do (replicate 17 (push 1))) ≡ codes "V2 StackTooDeep in main at 17"
unfolding digits
stack_too_deep = refl

leftover_at_an_if : client (Do (push 1) (Do (push 1) (If Done Done Done))) ≡ codes "V3 LeftoverOperand in main at 3"
unfolding digits
leftover_at_an_if = refl

-- at the number of the loop
leftover_in_a_body : client (Loop 2 (Do (push 1) Done) Done) ≡ codes "V3 LeftoverOperand in main at 1"
unfolding digits
leftover_in_a_body = refl

-- what is inside both arms comes first
leftover_in_an_arm : client (Do (push 1) (If (Do (push 1) Done) (Do Out Done) Done)) ≡ codes "V1 MissingOperand in main at 4"
unfolding digits
leftover_in_an_arm = refl

leftover_at_the_end : client (all_do (push 1 ∷ [])) ≡ codes "V3 LeftoverOperand in main at 2"
unfolding digits
leftover_at_the_end = refl

wrong_kind : client (all_do (Free (Own 0) ∷ [])) ≡ codes "V4 WrongKind in main at 1"
unfolding digits
wrong_kind = refl

session_slot_in_main : client (all_do (Make Space (Shared 0) 1 ∷ [])) ≡ codes "V4 WrongKind in main at 1"
unfolding digits
session_slot_in_main = refl

slot_in_use : client (all_do (Make Space (Own 0) 1 ∷ Make Space (Own 0) 1 ∷ [])) ≡ codes "V5 SlotInUse in main at 2"
unfolding digits
slot_in_use = refl

-- a space of 1 has a whole page
byte_out_of_range : client (all_do (Make Space (Own 0) 1 ∷ push 4096 ∷ Load Byte (Own 0) ∷ [])) ≡ codes "V6 OutOfRange in main at 3"
unfolding digits
byte_out_of_range = refl

word_out_of_range : client (all_do (Make Slice (Own 0) 8 ∷ push 5 ∷ Load Word (Own 0) ∷ [])) ≡ codes "V6 OutOfRange in main at 3"
unfolding digits
word_out_of_range = refl

entry_out_of_range : client (all_do (MakePool (Own 0) 16 4 ∷ push 4 ∷ Take (Own 0) ∷ [])) ≡ codes "V6 OutOfRange in main at 3"
unfolding digits
entry_out_of_range = refl

upgrade_out_of_range : client (all_do (Open (Own 0) (codes "echo") 8192 ∷ Upgrade (Own 0) 1 ∷ [])) ≡ codes "V6 OutOfRange in main at 2"
unfolding digits
upgrade_out_of_range = refl

argument_too_large : client (all_do (Open (Own 0) (codes "echo") 8192 ∷ push 1001 ∷ Call (Own 0) ∷ [])) ≡ codes "V7 ValueTooLarge in main at 3"
unfolding digits
argument_too_large = refl

-- kinds differ by their sizes
join_differs : client (Do (push 1) (If (Do (Make Space (Own 0) 4096) Done) (Do (Make Space (Own 0) 4095) Done) Done)) ≡ codes "V8 JoinDiffers in main at 2"
unfolding digits
join_differs = refl

loop_differs : client (Loop 2 (Do (Make Space (Own 0) 1) Done) Done) ≡ codes "V8 JoinDiffers in main at 1"
unfolding digits
loop_differs = refl

short_upgrade : client (all_do (Open (Own 0) (codes "log") 8192 ∷ Upgrade (Own 0) 4095 ∷ [])) ≡ codes "V12 ShortDonation in main at 2"
unfolding digits
short_upgrade = refl

link_left_open : client (all_do (Open (Own 0) (codes "echo") 8192 ∷ [])) ≡ codes "V14 LinkLeftOpen in main at 2"
unfolding digits
link_left_open = refl

unknown_service : client (all_do (Open (Own 0) (codes "none") 0 ∷ [])) ≡ codes "V15 UnknownService in main at 1"
unfolding digits
unknown_service = refl

-- SERVERS

good_echo : echoes Done Done ≡ codes ""
unfolding digits
good_echo = refl

good_log_server : logs buffered good_up good_call good_close ≡ codes ""
unfolding digits
good_log_server = refl

reply_missing : echoes Done (all_do (drop ∷ [])) ≡ codes "V1 MissingOperand in call 0 at 2"
unfolding digits
reply_missing = refl

reply_too_large : echoes Done (all_do (push 3 ∷ combine Multiply ∷ [])) ≡ codes "V7 ValueTooLarge in call 0 at 3"
unfolding digits
reply_too_large = refl

-- the argument is up to 1000, the local up to 10
limit_too_small : echoes Done (all_do (dup ∷ set 0 ∷ [])) ≡ codes "V7 ValueTooLarge in call 0 at 2"
unfolding digits
limit_too_small = refl

no_buffer : logs Done good_up good_call good_close ≡ codes "V9 SessionBankChanged in open at 1"
unfolding digits
no_buffer = refl

other_buffer : logs (all_do (Make Space (Shared 0) 17 ∷ [])) good_up good_call good_close ≡ codes "V9 SessionBankChanged in open at 2"
unfolding digits
other_buffer = refl

buffer_freed : logs buffered (all_do (Free (Shared 0) ∷ [])) good_call good_close ≡ codes "V9 SessionBankChanged in up 1 at 1"
unfolding digits
buffer_freed = refl

call_keeps_more : serves (record echo { need = amount 16384 0 })
    ((Main, Done) ∷ (Opening, Done) ∷ (Calling 0, all_do (Make Space (Shared 0) 1 ∷ [])) ∷ (Closing 0, Done) ∷ [])
    ≡ codes "V9 SessionBankChanged in call 0 at 2"
unfolding digits
call_keeps_more = refl

close_keeps_some : logs buffered good_up good_call (all_do (Free (Shared 0) ∷ [])) ≡ codes "V9 SessionBankChanged in close 1 at 2"
unfolding digits
close_keeps_some = refl

own_slot_changed : echoes (all_do (Make Space (Own 0) 1 ∷ [])) Done ≡ codes "V10 OwnBankChanged in open at 1"
unfolding digits
own_slot_changed = refl

pool_in_session : echoes (all_do (MakePool (Shared 0) 16 1 ∷ [])) Done ≡ codes "V11 HeapInSession in open at 1"
unfolding digits
pool_in_session = refl

-- the object costs a page, and the need is two
over_need : echoes (all_do (Make Space (Shared 0) 4096 ∷ Make Space (Shared 1) 1 ∷ [])) Done ≡ codes "V13 OverNeed in open at 2"
unfolding digits
over_need = refl

over_need_at_the_start : serves (record echo { need = amount 4095 0 }) ((Main, Done) ∷ (Opening, Done) ∷ (Calling 0, Done) ∷ (Closing 0, Done) ∷ [])
    ≡ codes "V13 OverNeed in open at 0"
unfolding digits
over_need_at_the_start = refl

no_main : serves echo ((Opening, Done) ∷ (Calling 0, Done) ∷ (Closing 0, Done) ∷ []) ≡ codes "V16 MissingSection in main at 0"
unfolding digits
no_main = refl

one_too_many : serves echo ((Main, Done) ∷ (Opening, Done) ∷ (Upgrading 1, Done) ∷ (Calling 0, Done) ∷ (Closing 0, Done) ∷ [])
    ≡ codes "V16 MissingSection in up 1 at 0"
unfolding digits
one_too_many = refl

no_input : client (all_do (input 0 ∷ [])) ≡ codes "V19 NoInput in main at 1"
unfolding digits
no_input = refl

second_input : reads (5 ∷ []) (all_do (input 0 ∷ Out ∷ input 1 ∷ [])) ≡ codes "V19 NoInput in main at 3"
unfolding digits
second_input = refl

-- that there is no room for one more operand comes first
deep_input : client (all_do (replicate 16 (push 1) ++ input 0 ∷ [])) ≡ codes "V2 StackTooDeep in main at 17"
unfolding digits
deep_input = refl

-- what is read is at most the greatest value
input_out_of_range : reads (4 ∷ []) (all_do (MakePool (Own 0) 16 4 ∷ input 0 ∷ Take (Own 0) ∷ [])) ≡ codes "V6 OutOfRange in main at 3"
unfolding digits
input_out_of_range = refl

input_in_range : reads (3 ∷ []) (all_do (MakePool (Own 0) 16 4 ∷ input 0 ∷ Take (Own 0) ∷ drop ∷ Free (Own 0) ∷ [])) ≡ []
unfolding digits
input_in_range = refl
