-- Steps that a leaf takes alone, and where it stands past each of them.
use Rattle.std.specs.Prelude.{◌≡◌, ℕ, zero, suc, List, [], Option, Some, None, Ok, slice_get}
use Rattle.gq_bytecode.specs.Alones.{LocalState}
use Rattle.gq_bytecode.specs.Nexts.{Active, leaf_with}
use Rattle.gq_model.specs.machine.Doing.{Quiet}
use Rattle.gq_model.specs.machine.Scenario.{System}
use Rattle.gq_model.specs.machine.Step.{next}
use Rattle.gq_model.specs.machine.World.{Leaf, World, with_leaf}
use Rattle.gq_traces.specs.declared.numbered_program.NumberedStatement.{NumberedStatement}
use Rattle.gq_traces.specs.declared.numbered_program.NumberedProgram.{NumberedProgram as Entries}
use Rattle.gq_traces.specs.declared.tracker.Ahead as places
use Rattle.gq_traces.specs.internal.Flat.{plain_ahead}
use Rattle.gq_traces.specs.internal.Printed_steps.{PassesBy}

-- n steps that the x-th leaf takes alone lead from one world to another, and it stands past each of them
abbrev pub StepsAlone : System → List Entries → ℕ → ℕ → World → World → List places.Ahead → List places.Ahead → Type 0
StepsAlone system programs x zero w v old new = (w ≡ v) × (old ≡ new)
StepsAlone system programs x (suc n) w v old new =
    (leaf : Leaf) × (s : LocalState) × (mid : List places.Ahead) × (slice_get w.leaves x ≡ Some leaf) × Active leaf.phase
    × (next system w x ≡ Ok (with_leaf w x (leaf_with leaf s), Quiet)) × PassesBy programs old mid x leaf.operands
    × StepsAlone system programs x n (with_leaf w x (leaf_with leaf s)) v mid new

abbrev pub entries_of : Option Entries → List NumberedStatement
entries_of None = []
entries_of (Some es) = es.entries.items

abbrev pub next_of : Option places.Ahead → Option ℕ
next_of None = None
next_of (Some a) = a.next

-- so many statements with none in them that the x-th leaf has before it, one after the other, lead on there
abbrev pub IsStraight : List Entries → List places.Ahead → ℕ → ℕ → Option ℕ → Type 0
IsStraight programs stands x n to = plain_ahead (entries_of (slice_get programs x)) n (next_of (slice_get stands x)) ≡ Some to
