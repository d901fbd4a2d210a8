use Rattle.std.proofs.Common.{◌≡◌, ◌++◌, drop}
use Rattle.gq_model.specs.machine.Scenario.{components, system}
use Rattle.gq_races.specs.Race_text.{races_text}
use Rattle.gq_races.proofs.Race_leaf_lines.{reported}
use Rattle.gq_races.proofs.races.push_leaves.Given as goal

-- the lines so far, with those of the leaves that are left, are all
abbrev pub invariant-loop-number : goal.invariant-loop-number
invariant-loop-number l =
    l.text.items ++ reported (system l.table) l.number (drop l.number (components l.table)) ≡ l.fn.text.items ++ races_text l.table
