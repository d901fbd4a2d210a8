use Rattle.std.proofs.Common.{◌≡◌, ◌≤◌, ◌+◌, ◌++◌, List, ℕ, None, length, option_map}
use Rattle.gq_model.specs.texts.Letters.{lines}
use Rattle.gq_model.specs.machine.Rest.{greatest_turns}
use Rattle.gq_scenario.specs.Text_pieces.{lines_left, length_left}
use Rattle.gq_init.specs.TurnReading.{reported}
use Rattle.gq_init.specs.internal.Piecewise_lines.{lines_read}
use Rattle.gq_init.proofs.turn_list.TurnList.read_lines.Given as goal

abbrev pub invariant-loop-left : goal.invariant-loop-left
invariant-loop-left l =
    record {
      reported : (more : List (List ℕ))
          → reported l.table l.self.items.items l.self.total l.self.line None
          (lines_read l.is_last (lines_left (option_map (λ rest. rest.now) l.left)) ++ more)
          ≡ reported l.table l.initial.self.items.items l.initial.self.total l.initial.self.line None (lines_read l.is_last (lines l.text) ++ more);
      clear : l.self.fault ≡ None;
      few : l.self.total ≤ greatest_turns;
      counted : l.self.line + length_left (option_map (λ rest. rest.now) l.left) ≤ l.initial.self.line + length l.text + 1;
    }

abbrev pub decreases-loop-left : goal.decreases-loop-left
decreases-loop-left l = length_left (option_map (λ rest. rest.now) l.left)
