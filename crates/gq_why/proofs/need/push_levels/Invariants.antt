use Rattle.std.proofs.Common.{◌≡◌, ◌-◌, ◌++◌, suc, length}
use Rattle.gq_scenario.specs.Component_trees.{version_number}
use Rattle.gq_why.specs.Why.{level_parts}
use Rattle.gq_why.proofs.need.push_levels.Given as goal

-- the parts so far, with those of the levels that are left, are all
abbrev pub invariant-loop-level : goal.invariant-loop-level
invariant-loop-level l =
    l.text.items ++ level_parts (version_number l.version) l.verified l.service l.interface l.level (suc (length l.interface.upgrades) - l.level)
    ≡ l.fn.text.items ++ level_parts (version_number l.version) l.verified l.service l.interface 0 (suc (length l.interface.upgrades))
