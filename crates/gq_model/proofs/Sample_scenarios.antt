-- The scenarios of the worked rows.
use Rattle.std.proofs.Common.{ℕ, List, [], ◌∷◌, Option, Some, None}
use Rattle.std.specs.Prelude.{codes, replicate}
use Rattle.gq_model.specs.machine.Amounts.{Ram, Caps, amount}
use Rattle.gq_model.specs.machine.Program.{Own, Shared, Block, Slice, Space, Byte, Subtract, Multiply, Instruction, Say, Out}
use Rattle.gq_model.specs.machine.Program.{Make, MakePool, Load, Store, Free, Take, Give, Open, Upgrade, Call, Close, Statements, Done, Do, Loop}
use Rattle.gq_model.specs.machine.Program.{Program}
use Rattle.gq_model.specs.machine.Sections.{Section, Main, Opening, Upgrading, Calling, Closing}
use Rattle.gq_model.specs.machine.Scenario.{Scenario, Interface, Interfaces, Route, Target, Any_child, Parent, As_text, LeafNode, InitNode, Nodes, End}
use Rattle.gq_model.specs.machine.Scenario.{Leaf_node, Init_node}
use Rattle.gq_model.proofs.Statement_word_rows.{drop, combine, push, modulo, index}
use Rattle.gq_model.specs.machine.Run.{Turns, Acts}
use Rattle.gq_model.specs.machine.Step_budgets.{StepBudget}

-- PROGRAMS

-- a list of plain statements
abbrev pub all_do : List Instruction → Statements
all_do [] = Done
all_do (i ∷ is) = Do i (all_do is)

abbrev pub no_limits : List ℕ
no_limits = replicate 8 4294967295

abbrev pub program : List (Section × Statements) → Program
program sections = record { sections = sections; locals = no_limits }

abbrev pub main_of : List Instruction → Program
main_of is = program ((Main, all_do is) ∷ [])

-- NODES

abbrev pub leaf : List ℕ → ℕ → Program → LeafNode
leaf name ram p =
    record { name = name; quantum = amount ram 0; source = As_text []; program = p; provides = None; after = None; inputs = []; signals = 0; routes = None }

abbrev pub server : List ℕ → ℕ → List ℕ → List (Section × Statements) → LeafNode
server name ram service sections = record (leaf name ram (program sections)) { provides = Some service }

abbrev pub leaves : List LeafNode → Nodes
leaves [] = End
leaves (l ∷ rest) = Leaf_node l (leaves rest)

abbrev pub any_to : Target → Option (List Route)
any_to target = Some (record { service = None; target = target } ∷ [])

abbrev pub init_node : List ℕ → ℕ → InitNode
init_node name ram = record { name = name; quantum = amount ram 0; routes = None; default_routes = any_to Parent; offers = [] }

-- SCENARIOS

abbrev pub scenario : ℕ → Nodes → Scenario
scenario ram nodes = record { version = 1; total = amount ram 0; default_routes = None; interfaces = []; nodes = nodes }

-- with interfaces, and a route from any service to any child
abbrev pub served : Interfaces → Nodes → Scenario
served interfaces nodes = record { version = 1; total = amount 65536 0; default_routes = any_to Any_child; interfaces = interfaces; nodes = nodes }

-- one leaf
abbrev pub one : ℕ → ℕ → List Instruction → Scenario
one ram quantum is = scenario ram (leaves (leaf (codes "a") quantum (main_of is) ∷ []))

abbrev pub hello_leaf : LeafNode
hello_leaf = leaf (codes "hello") 4096 (main_of (Say (codes "hello") ∷ []))

-- one leaf says hello
abbrev pub hello : Scenario
hello = scenario 65536 (leaves (hello_leaf ∷ []))

-- a leaf inside an init
abbrev pub hello_below : Scenario
hello_below = scenario 65536 (Init_node (init_node (codes "a") 16384) (leaves (hello_leaf ∷ [])) End)

-- AN ECHO THAT DOUBLES

abbrev pub echo : Interface
echo = record { arg = 1000; reply = 2000; need = amount 8192 0; object = 100; upgrades = []; buffer = 0; counted = Ram ∷ [] }

abbrev pub echo_sections : List (Section × Statements)
echo_sections = (Main, Done) ∷ (Opening, Done) ∷ (Calling 0, all_do (push 2 ∷ combine Multiply ∷ [])) ∷ (Closing 0, Done) ∷ []

abbrev pub echo_server : LeafNode
echo_server = server (codes "srv") 4096 (codes "echo") echo_sections

-- a client that gives n and asks for the double of v
abbrev pub asking : List ℕ → ℕ → ℕ → List Instruction
asking service n v = Open (Own 0) service n ∷ push v ∷ Call (Own 0) ∷ Out ∷ Close (Own 0) ∷ []

abbrev pub echo_client : List ℕ → ℕ → ℕ → ℕ → LeafNode
echo_client name ram n v = leaf name ram (main_of (asking (codes "echo") n v))

-- one client, which gives n bytes
abbrev pub echo_of : ℕ → Scenario
echo_of n = served ((codes "echo", echo) ∷ []) (leaves (echo_server ∷ echo_client (codes "cli") 16384 n 21 ∷ []))

abbrev pub echo_turns : Acts
echo_turns = (0, Turns 1) ∷ (1, Turns 1) ∷ (0, Turns 2) ∷ (1, Turns 2) ∷ (0, Turns 4) ∷ (1, Turns 2) ∷ (0, Turns 2) ∷ (1, Turns 1) ∷ []

-- two clients
abbrev pub echo_twice : Scenario
echo_twice =
    served ((codes "echo", echo) ∷ []) (leaves (echo_server ∷ echo_client (codes "one") 8192 8192 1 ∷ echo_client (codes "two") 8192 8192 2 ∷ []))

-- the client two inits below the server
abbrev pub echo_nested : Scenario
echo_nested =
    served ((codes "echo", echo) ∷ []) (Leaf_node echo_server (Init_node (init_node (codes "apps") 40960)
    (Init_node (init_node (codes "inner") 24576) (leaves (echo_client (codes "cli") 16384 8192 21 ∷ [])) End) End))

-- A SERVER THAT IS A CLIENT

abbrev pub prefix : Interface
prefix = record { arg = 1000; reply = 2000; need = amount 4096 0; object = 0; upgrades = []; buffer = 0; counted = Ram ∷ [] }

abbrev pub prefix_server : LeafNode
prefix_server =
    server (codes "mid") 8192 (codes "front") ((Main, all_do (Open (Own 0) (codes "echo") 8192 ∷ [])) ∷ (Opening, Done)
    ∷ (Calling 0, all_do (Call (Own 0) ∷ [])) ∷ (Closing 0, Done) ∷ [])

abbrev pub prefix_client : LeafNode
prefix_client = leaf (codes "cli") 8192 (main_of (asking (codes "front") 4096 21))

abbrev pub chain : Scenario
chain = served ((codes "echo", echo) ∷ (codes "front", prefix) ∷ []) (leaves (echo_server ∷ prefix_server ∷ prefix_client ∷ []))

-- A SHARED BUFFER

abbrev pub log_interface : Interface
log_interface = record { arg = 10; reply = 255; need = amount 8192 0; object = 0; upgrades = amount 4096 0 ∷ []; buffer = 16; counted = Ram ∷ [] }

abbrev pub log_server : List Instruction → LeafNode
log_server opening =
    server (codes "srv") 0 (codes "log") ((Main, Done) ∷ (Opening, all_do opening) ∷ (Upgrading 1, all_do (Make Slice (Shared 1) 64 ∷ []))
    ∷ (Calling 0, all_do (Load Byte (Shared 0) ∷ [])) ∷ (Calling 1, all_do (Load Byte (Shared 0) ∷ []))
    ∷ (Closing 0, all_do (Free (Shared 0) ∷ [])) ∷ (Closing 1, all_do (Free (Shared 1) ∷ Free (Shared 0) ∷ [])) ∷ [])

abbrev pub log_client : LeafNode
log_client =
    leaf (codes "cli") 12288 (main_of (Open (Own 0) (codes "log") 8192 ∷ push 3 ∷ push 77 ∷ Store Byte (Own 0) ∷ push 3 ∷ Call (Own 0) ∷ Out
    ∷ Upgrade (Own 0) 4096 ∷ push 3 ∷ Call (Own 0) ∷ Out ∷ Close (Own 0) ∷ []))

-- a server whose opening is this
abbrev pub log_of : List Instruction → Scenario
log_of opening = served ((codes "log", log_interface) ∷ []) (leaves (log_server opening ∷ log_client ∷ []))

abbrev pub good_log : Scenario
good_log = log_of (Make Space (Shared 0) 16 ∷ [])

-- LEAVES THAT START AFTER OTHERS

abbrev pub speaker : List ℕ → ℕ → List ℕ → Option (List ℕ) → LeafNode
speaker name ram text after = record (leaf name ram (main_of (Say text ∷ []))) { after = after }

-- the second leaf's quantum, and what the first starts after
abbrev pub row_of_leaves : ℕ → Option (List ℕ) → Scenario
row_of_leaves ram first =
    scenario 8192 (leaves (speaker (codes "one") 8192 (codes "a") first ∷ speaker (codes "two") ram (codes "b") (Some (codes "one"))
    ∷ speaker (codes "three") 4096 (codes "c") (Some (codes "two")) ∷ []))

-- CAPABILITIES

abbrev pub counting : Interface → ℕ → Interface
counting i caps = record i { need = amount i.need.ram caps; counted = Ram ∷ Caps ∷ [] }

abbrev pub with_caps : LeafNode → ℕ → LeafNode
with_caps l caps = record l { quantum = amount l.quantum.ram caps }

-- the echo with capabilities: what the interface needs and what the client has
abbrev pub echo_with_caps : ℕ → ℕ → Scenario
echo_with_caps need caps =
    record (served ((codes "echo", counting echo need) ∷ []) (leaves (echo_server ∷ with_caps (echo_client (codes "cli") 16384 8192 21) caps ∷ []))) {
      version = 2;
      total = amount 65536 10;
    }

-- two blocks of different classes, each with a chunk of its own
abbrev pub two_blocks : Scenario
two_blocks =
    record (scenario 65536 (leaves (with_caps (leaf (codes "a") 8192 (main_of (Make Block (Own 0) 16 ∷ Make Block (Own 1) 32 ∷ []))) 1 ∷ []))) {
      version = 2;
      total = amount 65536 1;
    }

-- two leaves of one capability each
abbrev pub two_caps : Scenario
two_caps =
    record (scenario 65536 (leaves (with_caps (leaf (codes "a") 4096 (main_of [])) 1 ∷ with_caps (leaf (codes "b") 4096 (main_of [])) 1 ∷ []))) {
      version = 2;
      total = amount 65536 1;
    }

-- A POOL

-- entries taken, given back and taken in another order
abbrev pub pool_main : Statements
pool_main =
    Do (MakePool (Own 0) 16 1024) (Loop 256 (Do (index 0) (Do (Take (Own 0)) (Do drop Done))) (Do (push 256) (Do (Take (Own 0)) (Do drop
    (Loop 256 (Do (index 0) (Do (Give (Own 0)) (Do drop Done)))
    (Loop 256 (Do (push 255) (Do (index 0) (Do (combine Subtract) (Do (modulo 1024) (Do (Take (Own 0)) (Do drop Done)))))) Done))))))

abbrev pub pooled : Scenario
pooled = scenario 65536 (leaves (leaf (codes "a") 20480 (program ((Main, pool_main) ∷ [])) ∷ []))

-- BUDGETS

-- budgets of leaves in scenarios without signals: so many steps for the start
abbrev pub started : List ℕ → List StepBudget
started [] = []
started (n ∷ rest) = record { from_start = n; for_signals = [] } ∷ started rest
