-- The end of a section for a session, and leaves after the reply.
use Rattle.std.specs.Prelude.{◌≡◌, ℕ, ◌+◌, ◌<◌, ◌^◌, List, length, slice_get, slice_set, Some}
use Rattle.gq_bytecode.specs.declared.operation.Operation.TheVariants.{End}
use Rattle.gq_model.specs.declared.section.Section.TheVariants.{Calling}
use Rattle.gq_contents.specs.declared.content.Content.TheVariants.{Empty}
use Rattle.gq_trade.specs.declared.session.SlotId.TheVariants.{InObject}
use Rattle.gq_trade.specs.Trading.{AreOfOthers, client_of}
use Rattle.gq_slots.specs.Slots.{content_at}
use Rattle.gq_statements.specs.Serving.{IsAwaited}
use Rattle.gq_statements.specs.Systems.{AreLawful}
use Rattle.gq_statements.specs.declared.actor.Current.{Current}
use Rattle.gq_leaf.specs.Coded.{Coded}
use Rattle.gq_leaf.specs.Section_boundaries.{resumed, served}
use Rattle.gq_machine.specs.declared.machine_state.Fixed.{Fixed}
use Rattle.gq_machine.specs.declared.machine_state.MachineState.{MachineState}
use Rattle.gq_machine.specs.internal.Machine_invariant.{CanStep, IsNext, OfLeaf}

-- the leaf x is at the end of a section for a session, whose client is the leaf y
pub record IsEnd (f : Fixed) (m : MachineState) (x y : ℕ) (current : Current) : Type 0 where
  pub can : CanStep f m x
  pub next : IsNext m x End
  pub at_current : OfLeaf (λ l. l.state.current ≡ Some current) (slice_get m.leaves.items x)
  pub lawful : AreLawful m.slots
  pub client : y ≡ client_of m.slots.trades.trading current.session

-- The leaf y waits for the reply from the leaf x at the end of its section: it is another, and its session is there until then.
pub record HasClient (f : Fixed) (m : MachineState) (x y : ℕ) (current : Current) : Type 0 where
  pub end : IsEnd f m x y current
  pub there : y < length m.leaves.items
  pub apart : y ≡ x → ⊥
  pub countable : OfLeaf (λ l. l.state.steps + 1 < 2 ^ 64) (slice_get m.leaves.items x)
  pub room : (level : ℕ) → current.section ≡ Calling level → OfLeaf (λ l. length l.state.registers.operands < 16) (slice_get m.leaves.items y)
  pub awaited : IsAwaited m.slots current.session
  pub small : current.session < 4294967296
  pub object : content_at m.slots (InObject current.session) ≡ Empty → ⊥
  pub none_waits : AreOfOthers current.session m.slots.trades.trading.requests

-- the leaf x, which was l, serves, and the leaf y, which was d, goes on with these operands
abbrev pub replied : List Coded → ℕ → ℕ → Coded → Coded → List ℕ → List Coded
replied ls x y l d ops = slice_set (slice_set ls y (record d { state = resumed d.state ops })) x (record l { state = served l.state })
