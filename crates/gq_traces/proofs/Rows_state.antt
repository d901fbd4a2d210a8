-- Worked examples, by computation.
use Rattle.std.proofs.Common.{◌≡◌, ℕ, [], ◌∷◌, ◌++◌, List, Some, None, Result, Ok, Err, refl}
use Rattle.std.specs.Prelude.{codes, map}
use Rattle.std.specs.Fmt.{digits}
use Rattle.gq_model.specs.machine.Amounts.{Ram, Caps, amount}
use Rattle.gq_model.specs.machine.Program.{Program}
use Rattle.gq_model.specs.declared.act.Act.TheVariants.{Turns}
use Rattle.gq_model.specs.machine.Scenario.{Scenario, Any_child, As_text, End, Leaf_node}
use Rattle.gq_model.specs.texts.Text.{assembled}
use Rattle.gq_model.specs.declared.fault.TextFault.{TextFault}
use Rattle.gq_traces.specs.Remaining_text.{left_in}
use Rattle.gq_traces.specs.Made_of.{after}
use Rattle.gq_traces.specs.Step_positions.{Does, Ends}
use Rattle.gq_traces.specs.Account_state.{state_text}

abbrev or_empty : Result Program (TextFault × ℕ) → Program
or_empty (Ok p) = p
or_empty (Err fault) = record { sections = []; locals = [] }

abbrev read_program : List ℕ → Program
read_program text = or_empty (assembled text)

abbrev echo_cli : Program
echo_cli = read_program (codes "main\n" ++ codes "  open o0 echo 8192\n" ++ codes "  push 21\n" ++ codes "  call o0\n" ++ codes "  out\n" ++ codes
    "  close o0\n" ++ codes "end\n")

abbrev echo_srv : Program
echo_srv = read_program (codes "main\n" ++ codes "end\n" ++ codes "open\n" ++ codes "end\n" ++ codes "call 0\n" ++ codes "  push 2\n" ++ codes "  mul\n" ++
    codes "end\n" ++ codes "close 0\n" ++ codes "end\n")

abbrev echo : Scenario
echo = record {
  version = 1;
  total = amount 65536 0;
  default_routes = Some ((record { service = None; target = Any_child }) ∷ []);
  interfaces = (
    codes
        "echo",
    record { arg = 1000; reply = 2000; need = amount 8192 0; object = 100; upgrades = []; buffer = 0; counted = Ram ∷ [] },
  ) ∷ [];
  nodes = (Leaf_node
      (record {
        name = codes "srv";
        quantum = amount 0 0;
        source = As_text [];
        program = echo_srv;
        provides = Some (codes "echo");
        after = None;
        inputs = [];
        signals = 0;
        routes = None;
      }) (Leaf_node (record {
        name = codes "cli";
        quantum = amount 16384 0;
        source = As_text [];
        program = echo_cli;
        provides = None;
        after = None;
        inputs = [];
        signals = 0;
        routes =
            None;
      }) End));
}

pub echo_state : state_text echo ((0, Turns 1) ∷ (1, Turns 1) ∷ (0, Turns 2) ∷ (1, Turns 2) ∷ (0, Turns 4) ∷ (1, Turns 2) ∷ (0, Turns 2) ∷ (1, Turns 1) ∷ [])
    ≡ codes "account init quota 65536\n" ++ codes
    "  quantum 65536\n" ++ codes "  hands 0 to init -> srv\n" ++ codes "account init -> srv quota 0 used 0 steps 9/9 serving\n" ++ codes "  quantum 0\n" ++
    codes "account init -> cli quota 0 used 0 steps 6/6 exited\n"
unfolding digits
echo_state = refl

-- what is left to do once the client has asked for a session: nothing of the server's `main`, and what follows the `open`
pub echo_left : map (λ a. a.todo) (left_in (after echo ((1, Turns 1) ∷ [])).world)
    ≡ Ends ∷ Does 0 (codes "push 21") (Does 0 (codes "call o0") (Does 0 (codes "out") (Does 0 (codes "close o0") Ends))) ∷ []
unfolding digits
echo_left = refl

abbrev counted_cli : Program
counted_cli = read_program (codes "main\n" ++ codes "  open o0 echo 8192\n" ++ codes "  push 21\n" ++ codes "  call o0\n" ++ codes "  out\n" ++ codes
    "  close o0\n" ++ codes "end\n")

abbrev counted_srv : Program
counted_srv = read_program (codes "main\n" ++ codes "end\n" ++ codes "open\n" ++ codes "end\n" ++ codes "call 0\n" ++ codes "  push 2\n" ++ codes "  mul\n"
    ++ codes "end\n" ++ codes "close 0\n" ++ codes "end\n")

abbrev counted : Scenario
counted = record {
  version = 2;
  total = amount 65536 10;
  default_routes = Some ((record { service = None; target = Any_child }) ∷ []);
  interfaces = (
    codes
        "echo",
    record { arg = 1000; reply = 2000; need = amount 8192 1; object = 100; upgrades = []; buffer = 0; counted = Ram ∷ Caps ∷ [] },
  ) ∷ [];
  nodes =
      (Leaf_node (record {
        name = codes "srv";
        quantum = amount 4096 0;
        source = As_text [];
        program = counted_srv;
        provides = Some (codes "echo");
        after = None;
        inputs = [];
        signals = 0;
        routes = None;
      }) (Leaf_node (record {
        name = codes "cli";
        quantum = amount 16384 1;
        source = As_text [];
        program = counted_cli;
        provides = None;
        after = None;
        inputs = [];
        signals = 0;
        routes = None;
      }) End));
}

pub counted_state : state_text counted ((0, Turns 1) ∷ (1, Turns 1) ∷ (0, Turns 2) ∷ (1, Turns 2) ∷ (0, Turns 4) ∷ (1, Turns 2) ∷ (0, Turns 2) ∷
    (1, Turns 1) ∷ []) ≡ codes
    "account init quota 61440 caps 10\n" ++ codes "  quantum 65536 caps 10\n" ++ codes "  hands 4096 caps 0 to init -> srv\n" ++ codes
    "account init -> srv quota 4096 used 0 caps 0 taken 0 steps 9/9 serving\n" ++ codes "  quantum 4096 caps 0\n" ++ codes
    "account init -> cli quota 0 used 0 caps 0 taken 0 steps 6/6 exited\n"
unfolding digits
counted_state = refl
