-- What is known of the lines of a list of turns that was read.
use Rattle.std.specs.Prelude.{◌≤◌, List, [], ◌∷◌}
use Rattle.gq_model.specs.declared.act.TurnLine.{TurnLine}
use Rattle.gq_model.specs.machine.Rest.{greatest_turns}
use Rattle.gq_model.specs.texts.Turns.{line_turns}

-- no more turns count for a line than a list may have
abbrev pub IsFew : TurnLine → Type 0
IsFew line = line_turns line ≤ greatest_turns

abbrev pub AreFew : List TurnLine → Type 0
AreFew [] = Unit {0}
AreFew (line ∷ rest) = IsFew line × AreFew rest
