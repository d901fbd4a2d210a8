use Rattle.std.proofs.Common.{◌≡◌, ◌≤◌, ◌+◌, ◌++◌, Bool, List, ℕ, None, length}
use Rattle.gq_model.specs.texts.Letters.{lines}
use Rattle.gq_model.specs.machine.Rest.{greatest_turns}
use Rattle.gq_init.specs.TurnReading.{reported}
use Rattle.gq_init.specs.internal.Piecewise_lines.{lines_read}
use Rattle.gq_init.proofs.turn_list.TurnList.read_ahead.Given as goal

abbrev pub invariant-loop-turn : goal.invariant-loop-turn
invariant-loop-turn l =
    record {
      reported : (is_last : Bool) (more : List (List ℕ))
          → reported l.table l.self.items.items l.total l.line None (lines_read is_last (lines l.left) ++ more)
          ≡ reported l.table l.initial.self.items.items l.initial.self.total l.initial.self.line None (lines_read is_last (lines l.text) ++ more);
      kept_total : l.self.total ≡ l.initial.self.total;
      kept_line : l.self.line ≡ l.initial.self.line;
      clear : l.self.fault ≡ None;
      few : l.total ≤ greatest_turns;
      shorter : length l.left ≤ length l.text;
      counted : l.line + length l.left ≤ l.initial.self.line + length l.text;
    }

abbrev pub decreases-loop-turn : goal.decreases-loop-turn
decreases-loop-turn l = length l.left
