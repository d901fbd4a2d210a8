-- Refused scenarios and the texts of their faults, by computation.
use Rattle.std.proofs.Common.{◌≡◌, List, [], ◌∷◌, Some, None, refl}
use Rattle.std.specs.Prelude.{codes}
use Rattle.std.specs.Fmt.{digits}
use Rattle.gq_model.specs.machine.Amounts.{amount}
use Rattle.gq_model.specs.machine.Program.{Own, Shared, Block, Space, Multiply, Out, Make, Open, Call, Close, Statements, Done}
use Rattle.gq_model.specs.machine.Program.{Do, If, Loop, Program}
use Rattle.gq_model.specs.machine.Sections.{Section, Main, Opening, Calling, Closing}
use Rattle.gq_model.specs.machine.Scenario.{Scenario, Child, Parent, LeafNode}
use Rattle.gq_model.specs.rules.Accept.{refusal}
use Rattle.gq_model.specs.texts.Fault_texts.{said_of}
use Rattle.gq_model.proofs.Sample_scenarios.{program, leaf, leaves, server, any_to, scenario, served, one, main_of, echo, echo_sections, echo_server}
use Rattle.gq_model.proofs.Sample_scenarios.{echo_client}
use Rattle.gq_model.proofs.Sample_scenarios.{asking, echo_of, log_of, row_of_leaves, echo_with_caps, two_blocks, two_caps}
use Rattle.gq_model.proofs.Statement_word_rows.{drop, combine, push, get, set}

-- PROGRAMS

over_quantum : said_of (refusal (one 65536 4096 (Make Space (Own 0) 4097 ∷ []))) ≡ codes "a: B1 OverQuantum own 8192 quantum 4096"
unfolding digits
over_quantum = refl

short_donation : said_of (refusal (echo_of 8191)) ≡ codes "cli: V12 ShortDonation in main at 1"
unfolding digits
short_donation = refl

abbrev one_main : Statements → Scenario
one_main body = scenario 65536 (leaves (leaf (codes "a") 4096 (program ((Main, body) ∷ [])) ∷ []))

-- a join bears the number of its `if`
join_differs : said_of (refusal (one_main (Do (push 1) (If (Do (Make Space (Own 0) 4096) Done) Done Done)))) ≡ codes "a: V8 JoinDiffers in main at 2"
unfolding digits
join_differs = refl

-- a fault in the second arm comes before that of the join
second_arm : said_of (refusal (one_main (Do (push 1) (If (Do (Make Space (Own 0) 4096) Done) (Do Out Done) Done)))) ≡ codes "a: V1 MissingOperand in main at 4"
unfolding digits
second_arm = refl

-- a fault after a loop counts what is in it
after_a_loop : said_of (refusal (one_main (Loop 2 (Do (push 1) (Do drop Done)) (Do Out Done)))) ≡ codes "a: V1 MissingOperand in main at 4"
unfolding digits
after_a_loop = refl

leftover_at_the_end : said_of (refusal (one_main (Do (push 1) Done))) ≡ codes "a: V3 LeftoverOperand in main at 2"
unfolding digits
leftover_at_the_end = refl

budget_too_large : said_of (refusal (one_main (Loop 65535 (Loop 65535 (Loop 65535 (Loop 65535 Done Done) Done) Done) Done)))
    ≡ codes "a: V17 BudgetTooLarge in main at 5"
unfolding digits
budget_too_large = refl

abbrev echo_by : List (Section × Statements) → Program → Scenario
echo_by sections client =
    served ((codes "echo", echo) ∷ []) (leaves (server (codes "srv") 4096 (codes "echo") sections ∷ leaf (codes "cli") 16384 client ∷ []))

abbrev good_client : Program
good_client = main_of (asking (codes "echo") 8192 21)

heap_in_session : said_of (refusal (echo_by ((Main, Done) ∷ (Opening, Done)
    ∷ (Calling 0, Do (Make Block (Shared 1) 32) (Do (push 2) (Do (combine Multiply) Done))) ∷ (Closing 0, Done) ∷ []) good_client))
    ≡ codes "srv: V11 HeapInSession in call 0 at 1"
unfolding digits
heap_in_session = refl

link_left_open : said_of (refusal (echo_by echo_sections (main_of (Open (Own 0) (codes "echo") 8192 ∷ push 21 ∷ Call (Own 0) ∷ Out ∷ []))))
    ≡ codes "cli: V14 LinkLeftOpen in main at 5"
unfolding digits
link_left_open = refl

missing_section : said_of (refusal (echo_by ((Main, Done) ∷ (Opening, Done) ∷ (Calling 0, Do (push 2) (Do (combine Multiply) Done)) ∷ []) good_client))
    ≡ codes "srv: V16 MissingSection in close 0 at 0"
unfolding digits
missing_section = refl

-- a service without an interface, whatever is given
unknown_service : said_of (refusal (one_main (Do (Open (Own 0) (codes "none") 0) Done))) ≡ codes "a: V15 UnknownService in main at 1"
unfolding digits
unknown_service = refl

-- a call in two loops of 65535 rounds
abbrev looping : Scenario
looping =
    record (echo_by [] good_client) {
      nodes = leaves (record (server (codes "srv") 4096 (codes "echo") []) {
        program = record {
          locals = 1000 ∷ [];
          sections = (Main, Done) ∷ (Opening, Done) ∷ (Calling 0, Do (set 0) (Loop 65535 Done (Do (get 0) Done))) ∷ (Closing 0, Done) ∷ [];
        };
      } ∷ leaf (codes "cli") 16384 (program ((
        Main,
        Do (Open (Own 0) (codes "echo") 8192)
            (Loop 65535 (Loop 65535 (Do (push 1) (Do (Call (Own 0)) (Do drop Done))) Done) (Do (Close (Own 0)) Done)),
      ) ∷ [])) ∷ []);
    }

over_steps : said_of (refusal looping) ≡ codes "srv: B2 OverSteps"
unfolding digits
over_steps = refl

log_without_buffer : said_of (refusal (log_of [])) ≡ codes "srv: V9 SessionBankChanged in open at 1"
unfolding digits
log_without_buffer = refl

-- ROUTES AND QUANTA

abbrev echo_nodes : List LeafNode → Scenario
echo_nodes nodes = served ((codes "echo", echo) ∷ []) (leaves nodes)

abbrev cli : LeafNode
cli = echo_client (codes "cli") 16384 8192 21

ambiguous : said_of (refusal (echo_nodes (echo_server ∷ record echo_server { name = codes "other" } ∷ cli ∷ []))) ≡ codes "S9 Ambiguous cli echo"
unfolding digits
ambiguous = refl

no_route : said_of (refusal (echo_nodes (echo_server ∷ record cli { routes = any_to Parent } ∷ []))) ≡ codes "S8 NoRoute cli echo"
unfolding digits
no_route = refl

own_cycle : said_of (refusal (echo_nodes (record echo_server {
  quantum = amount 16384 0;
  program = program ((Main, Do (Open (Own 0) (codes "echo") 8192) Done) ∷ (Opening, Done) ∷ (Calling 0, Do (push 2) (Do (combine Multiply) Done))
      ∷ (Closing 0, Done) ∷ []);
} ∷ cli ∷ []))) ≡ codes "S10 Cycle srv"
unfolding digits
own_cycle = refl

provides_differs : said_of (refusal (echo_nodes (echo_server ∷ record cli { routes = any_to (Child (codes "cli")) } ∷ [])))
    ≡ codes "S12 ProvidesDiffers cli echo"
unfolding digits
provides_differs = refl

quanta_exceed : said_of (refusal (scenario 65536 (leaves (leaf (codes "a") 69632 (main_of []) ∷ [])))) ≡ codes "S11 QuantaExceed init"
unfolding digits
quanta_exceed = refl

after_too_large : said_of (refusal (row_of_leaves 12288 None)) ≡ codes "S13 BadAfter two"
unfolding digits
after_too_large = refl

after_in_a_ring : said_of (refusal (row_of_leaves 8192 (Some (codes "three")))) ≡ codes "S13 BadAfter one"
unfolding digits
after_in_a_ring = refl

-- CAPABILITIES

over_caps : said_of (refusal (echo_with_caps 1 0)) ≡ codes "cli: B3 OverCaps own 1 caps 0"
unfolding digits
over_caps = refl

session_over_caps : said_of (refusal (echo_with_caps 0 1)) ≡ codes "srv: V18 OverCaps in open at 0"
unfolding digits
session_over_caps = refl

heap_over_caps : said_of (refusal two_blocks) ≡ codes "a: B3 OverCaps own 2 caps 1"
unfolding digits
heap_over_caps = refl

caps_exceed : said_of (refusal two_caps) ≡ codes "S14 CapsExceed init"
unfolding digits
caps_exceed = refl
