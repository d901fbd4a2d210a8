-- What a step shows, and the text of its line.
use Rattle.std.specs.Prelude.{ℕ, List}
use Rattle.gq_model.specs.machine.Doing as model
use Rattle.gq_machine.specs.declared.event.Event.{Event}
use Rattle.gq_machine.specs.declared.event.Event.TheVariants.{Idle, Quiet, Line, Finished}

-- the event of the abstract machine: a line carries its text
abbrev pub event_of : Event → List ℕ → model.Event
event_of Idle text = model.Idle
event_of Quiet text = model.Quiet
event_of Line text = model.Line text
event_of Finished text = model.Finished
