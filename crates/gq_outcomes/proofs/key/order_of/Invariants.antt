use Rattle.std.proofs.Common.{◌≡◌, ◌-◌, ◌++◌, length}
use Rattle.gq_outcomes.specs.Same.{named, named_from}
use Rattle.gq_outcomes.proofs.key.order_of.Given as goal

-- the sessions so far, with those of the levels that are left, are all
abbrev pub invariant-loop-depth : goal.invariant-loop-depth
invariant-loop-depth l =
    l.order.items ++ named_from (length l.machine.world.leaves - l._depth) l.machine.world l.level.items ≡ named l.machine.world
