-- Worked examples, by computation.
use Rattle.std.proofs.Common.{◌≡◌, ℕ, [], ◌∷◌, ◌++◌, List, None, Some, Result, Ok, Err, refl}
use Rattle.std.specs.Prelude.{codes}
use Rattle.std.specs.Fmt.{digits}
use Rattle.gq_model.specs.machine.Amounts.{Ram, Caps, amount}
use Rattle.gq_model.specs.machine.Program.{Program}
use Rattle.gq_model.specs.declared.act.Act.TheVariants.{Turns}
use Rattle.gq_model.specs.machine.Scenario.{LeafNode, Nodes, Scenario, Any_child, As_text, End, Leaf_node}
use Rattle.gq_model.specs.texts.Text.{assembled}
use Rattle.gq_model.specs.declared.fault.TextFault.{TextFault}
use Rattle.gq_traces.specs.Account_peaks.{peaks_text}

abbrev or_empty : Result Program (TextFault × ℕ) → Program
or_empty (Ok p) = p
or_empty (Err fault) = record { sections = []; locals = [] }

abbrev leaf : List ℕ → ℕ → ℕ → List ℕ → LeafNode
leaf name ram caps text = record {
  name = name;
  quantum = amount ram caps;
  source = As_text [];
  program = or_empty (assembled text);
  provides = None;
  after = None;
  inputs = [];
  signals = 0;
  routes = None;
}

abbrev scenario : Nodes → Scenario
scenario nodes = record {
  version = 2;
  total = amount 65536 10;
  default_routes = Some (record { service = None; target = Any_child } ∷ []);
  interfaces = (codes "echo", record { arg = 1000; reply = 2000; need = amount 4096 1; object = 0; upgrades = []; buffer = 0; counted = Ram ∷ Caps ∷ [] })
      ∷ [];
  nodes = nodes;
}

-- more bytes at first, and more capabilities later
abbrev two_kinds : Scenario
two_kinds =
    scenario (Leaf_node
    (leaf (codes "a") 8192 2 (codes "main\n" ++ codes "  slice o0 5000\n" ++ codes "  free o0\n" ++ codes "  slice o0 1\n" ++ codes "  slice o1 1\n" ++ codes
    "  free o1\n" ++ codes "  free o0\n" ++ codes "end\n")) End)

two_peaks : peaks_text two_kinds ((0, Turns 7) ∷ []) ≡ codes "peak init -> a used 8192 quota 8192 turn 1 caps 2 taken 2 turn 4\n"
unfolding digits
two_peaks = refl

-- over fewer turns
one_peak : peaks_text two_kinds ((0, Turns 3) ∷ []) ≡ codes "peak init -> a used 8192 quota 8192 turn 1 caps 2 taken 1 turn 1\n"
unfolding digits
one_peak = refl

no_peak : peaks_text two_kinds [] ≡ codes "peak init -> a used 0 quota 8192 turn 0 caps 2 taken 0 turn 0\n"
unfolding digits
no_peak = refl

-- a server takes what it is given with a session
abbrev echo : Scenario
echo =
    scenario (Leaf_node
    (record
    (leaf (codes "srv") 4096 1 (codes "main\n" ++ codes "end\n" ++ codes "open\n" ++ codes "end\n" ++ codes "call 0\n" ++ codes "  push 2\n" ++ codes
    "  mul\n" ++ codes "end\n" ++ codes "close 0\n" ++ codes "end\n"))
    { provides = Some (codes "echo") })
    (Leaf_node
    (leaf (codes "cli") 16384 3 (codes "main\n" ++ codes "  slice o1 5000\n" ++ codes "  free o1\n" ++ codes "  open o0 echo 4096\n" ++ codes "  push 21\n" ++
    codes "  call o0\n" ++ codes "  out\n" ++ codes "  close o0\n" ++ codes "end\n"))
    End))

echo_peaks : peaks_text echo ((0, Turns 2) ∷ (1, Turns 1) ∷ (1, Turns 2) ∷ (0, Turns 3) ∷ (1, Turns 2) ∷ []) ≡ codes
    "peak init -> srv used 4096 quota 8192 turn 6 caps 2 taken 1 turn 6\n" ++ codes "peak init -> cli used 8192 quota 16384 turn 3 caps 3 taken 1 turn 3\n"
unfolding digits
echo_peaks = refl
