-- Each rule of the verifier is needed: a scenario that it refuses by this rule, and a run of it that comes to a wrong step. By computation.
use Rattle.std.proofs.Common.{◌≡◌, ℕ, List, [], ◌∷◌, map, replicate, codes, Option, Some, None, refl}
use Rattle.gq_model.specs.declared.act.Act.TheVariants.{Turns}
use Rattle.gq_model.specs.machine.Amounts.{Ram, Caps}
use Rattle.gq_model.specs.machine.Program.{Statements, Done, Do, If, Loop, Program}
use Rattle.gq_model.specs.declared.program.OperandSlot.TheVariants.{Own, Shared}
use Rattle.gq_model.specs.declared.program.Form.TheVariants.{Block, Space}
use Rattle.gq_model.specs.declared.program.Width.TheVariants.{Byte}
use Rattle.gq_model.specs.declared.program.Instruction.{Instruction}
use Rattle.gq_model.specs.declared.program.Instruction.TheVariants.{Out, Make, Load, Free, Open, Call, Close}
use Rattle.gq_model.specs.declared.section.Section.TheVariants.{Main, Opening, Calling, Closing}
use Rattle.gq_model.specs.machine.Scenario.{Scenario, LeafNode, system}
use Rattle.gq_model.specs.declared.fault.Rule.{Rule}
use Rattle.gq_model.specs.declared.fault.Rule.TheVariants as rule
use Rattle.gq_model.specs.declared.fault.Wrong.{Wrong}
use Rattle.gq_model.specs.declared.fault.Wrong.TheVariants as wrong
use Rattle.gq_model.specs.machine.Run.{run, Acts}
use Rattle.gq_model.specs.rules.Accept.{Refusal, Bad_program, Not_resolved, Over_own, Over_steps, Budget, budgets, refusal}
use Rattle.gq_model.proofs.Sample_scenarios.{all_do, program, main_of, leaf, server, leaves, scenario, served, one, echo, echo_client, log_of, echo_with_caps}
use Rattle.gq_model.proofs.Sample_scenarios.{two_blocks}
use Rattle.gq_model.proofs.Statement_word_rows.{drop, push, get, set}

-- the rule that refuses a program
abbrev rule_of : Option Refusal → Option Rule
rule_of (Some (Bad_program leaf fault)) = Some fault.rule
rule_of (Some (Not_resolved fault)) = None
rule_of (Some (Over_own resource leaf own quantum)) = None
rule_of (Some (Over_steps leaf)) = None
rule_of None = None

-- that rule, and the first wrong step of a run with its leaf
abbrev rule_and_wrong : Scenario → Acts → Option Rule × Option (ℕ × Wrong)
rule_and_wrong s turns = (rule_of (refusal s), (run (system s) turns).wrong)

-- one leaf with these statements in `main`
abbrev with_main : Statements → Scenario
with_main body = scenario 65536 (leaves (leaf (codes "a") 16384 (program ((Main, body) ∷ [])) ∷ []))

abbrev with_all : List Instruction → Scenario
with_all is = with_main (all_do is)

missing_operand : rule_and_wrong (with_all (Out ∷ [])) ((0, Turns 1) ∷ []) ≡ (Some rule.MissingOperand, Some (0, wrong.MissingOperand))
missing_operand = refl

stack_too_deep : rule_and_wrong (with_all (replicate 17 (push 1))) ((0, Turns 17) ∷ []) ≡ (Some rule.StackTooDeep, Some (0, wrong.MissingOperand))
stack_too_deep = refl

-- in each round an operand more is left
leftover_operand : rule_and_wrong (with_main (Loop 17 (Do (push 1) Done) Done)) ((0, Turns 50) ∷ [])
    ≡ (Some rule.LeftoverOperand, Some (0, wrong.MissingOperand))
leftover_operand = refl

wrong_kind : rule_and_wrong (with_all (Free (Own 0) ∷ [])) ((0, Turns 1) ∷ []) ≡ (Some rule.WrongKind, Some (0, wrong.WrongKind))
wrong_kind = refl

slot_in_use : rule_and_wrong (with_all (Make Space (Own 0) 1 ∷ Make Space (Own 0) 1 ∷ [])) ((0, Turns 2) ∷ [])
    ≡ (Some rule.SlotInUse, Some (0, wrong.WrongKind))
slot_in_use = refl

out_of_range : rule_and_wrong (with_all (Make Space (Own 0) 1 ∷ push 4096 ∷ Load Byte (Own 0) ∷ [])) ((0, Turns 3) ∷ [])
    ≡ (Some rule.OutOfRange, Some (0, wrong.UnmappedByte))
out_of_range = refl

-- a local that may be 10 at most is an index
abbrev limited : Program
limited = record {
  sections = (Main, all_do (push 5000 ∷ set 0 ∷ Make Space (Own 0) 1 ∷ get 0 ∷ Load Byte (Own 0) ∷ [])) ∷ [];
  locals = 10 ∷ replicate 7 4294967295;
}

value_too_large : rule_and_wrong (scenario 65536 (leaves (leaf (codes "a") 16384 limited ∷ []))) ((0, Turns 5) ∷ [])
    ≡ (Some rule.ValueTooLarge, Some (0, wrong.UnmappedByte))
value_too_large = refl

-- the arm that makes the space is not taken
join_differs : rule_and_wrong (with_main (Do (push 0) (If (Do (Make Space (Own 0) 1) Done) Done (Do (push 0) (Do (Load Byte (Own 0)) Done)))))
    ((0, Turns 4) ∷ [])
    ≡ (Some rule.JoinDiffers, Some (0, wrong.WrongKind))
join_differs = refl

-- a server that opens a session without its buffer
session_bank_changed : rule_and_wrong (log_of []) ((0, Turns 1) ∷ (1, Turns 1) ∷ (0, Turns 2) ∷ []) ≡ (Some rule.SessionBankChanged, Some (0, wrong.WrongKind))
session_bank_changed = refl

-- SESSIONS

-- an echo with this quantum, and these statements in `open` and in `call 0`
abbrev server_with : ℕ → List Instruction → List Instruction → List Instruction → LeafNode
server_with quantum opening calling closing =
    server (codes "srv") quantum (codes "echo") ((Main, Done) ∷ (Opening, all_do opening) ∷ (Calling 0, all_do calling) ∷ (Closing 0, all_do closing) ∷ [])

abbrev echo_with : LeafNode → LeafNode → Scenario
echo_with srv cli = served ((codes "echo", echo) ∷ []) (leaves (srv ∷ cli ∷ []))

abbrev asks_once : LeafNode
asks_once = echo_client (codes "cli") 16384 8192 21

-- the second call finds the slot in use
asks_twice : LeafNode
asks_twice = leaf (codes "cli") 16384 (main_of (Open (Own 0) (codes "echo") 8192 ∷ push 1 ∷ Call (Own 0) ∷ Call (Own 0) ∷ drop ∷ Close (Own 0) ∷ []))

own_bank_changed : rule_and_wrong (echo_with (server_with 8192 [] (Make Space (Own 0) 1 ∷ []) []) asks_twice)
    ((0, Turns 1) ∷ (1, Turns 1) ∷ (0, Turns 2) ∷ (1, Turns 2) ∷ (0, Turns 3) ∷ (1, Turns 1) ∷ (0, Turns 2) ∷ [])
    ≡ (Some rule.OwnBankChanged, Some (0, wrong.WrongKind))
unfolding asks_twice
own_bank_changed = refl

-- the chunk of the block stays when the session goes
heap_in_session : rule_and_wrong (echo_with (server_with 0 (Make Block (Shared 0) 16 ∷ []) [] (Free (Shared 0) ∷ [])) asks_once)
    ((0, Turns 1) ∷ (1, Turns 1) ∷ (0, Turns 3) ∷ (1, Turns 2) ∷ (0, Turns 2) ∷ (1, Turns 2) ∷ (0, Turns 3) ∷ [])
    ≡ (Some rule.HeapInSession, Some (0, wrong.ExceededQuota))
heap_in_session = refl

-- the object is not paid for
short_donation : rule_and_wrong (echo_with (server_with 0 [] [] []) (echo_client (codes "cli") 16384 0 21)) ((0, Turns 1) ∷ (1, Turns 1) ∷ (0, Turns 1) ∷ [])
    ≡ (Some rule.ShortDonation, Some (0, wrong.ExceededQuota))
short_donation = refl

over_need : rule_and_wrong (echo_with (server_with 0 (Make Space (Shared 0) 8192 ∷ []) [] (Free (Shared 0) ∷ [])) asks_once) ((0, Turns 1) ∷ (1, Turns 1) ∷
    (0, Turns 2) ∷ [])
    ≡ (Some rule.OverNeed, Some (0, wrong.ExceededQuota))
over_need = refl

link_left_open : rule_and_wrong (echo_with (server_with 0 [] [] []) (leaf (codes "cli") 16384 (main_of (Open (Own 0) (codes "echo") 8192 ∷ []))))
    ((0, Turns 1) ∷ (1, Turns 1) ∷ (0, Turns 2) ∷ (1, Turns 1) ∷ []) ≡ (Some rule.LinkLeftOpen, Some (1, wrong.WrongKind))
link_left_open = refl

unknown_service : rule_and_wrong (with_all (Open (Own 0) (codes "who") 1 ∷ [])) ((0, Turns 1) ∷ []) ≡ (Some rule.UnknownService, Some (0, wrong.WrongKind))
unknown_service = refl

-- a server that can not close
missing_section : rule_and_wrong (echo_with (server (codes "srv") 0 (codes "echo") ((Main, Done) ∷ (Opening, Done) ∷ (Calling 0, Done) ∷ [])) asks_once)
    ((0, Turns 1) ∷ (1, Turns 1) ∷ (0, Turns 2) ∷ (1, Turns 2) ∷ (0, Turns 2) ∷ (1, Turns 2) ∷ (0, Turns 1) ∷ [])
    ≡ (Some rule.MissingSection, Some (0, wrong.MissingSection))
missing_section = refl

-- the object's capability is not paid for
over_caps : rule_and_wrong (echo_with_caps 0 1) ((0, Turns 1) ∷ (1, Turns 1) ∷ (0, Turns 1) ∷ []) ≡ (Some rule.OverCaps, Some (0, wrong.ExceededQuota))
over_caps = refl

-- BUDGETS

-- more is used than the quantum, and more capabilities than there are
abbrev refusal_and_wrong : Scenario → Acts → Option Refusal × Option (ℕ × Wrong)
refusal_and_wrong s turns = (refusal s, (run (system s) turns).wrong)

over_quantum : refusal_and_wrong (one 65536 4096 (Make Space (Own 0) 4097 ∷ [])) ((0, Turns 1) ∷ [])
    ≡ (Some (Over_own Ram (codes "a") 8192 4096), Some (0, wrong.ExceededQuota))
over_quantum = refl

over_own_caps : refusal_and_wrong two_blocks ((0, Turns 2) ∷ []) ≡ (Some (Over_own Caps (codes "a") 2 1), Some (0, wrong.ExceededQuota))
over_own_caps = refl

-- STEPS

-- no run is long enough to come to a wrong step by the steps alone: without the rule a budget would be above the greatest one
abbrev long : Scenario
long = with_main (Loop 65535 (Loop 65535 (Loop 65535 Done Done) Done) Done)

budget_too_large : rule_of (refusal long) ≡ Some rule.BudgetTooLarge
budget_too_large = refl

above_the_greatest : map (λ (b : Budget). b.steps.from_start) (budgets long) ≡ 281470681808897 ∷ []
above_the_greatest = refl
