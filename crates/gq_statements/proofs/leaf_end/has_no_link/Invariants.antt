use Rattle.std.proofs.Common.{◌≡◌, drop}
use Rattle.gq_statements.specs.Serving.{own_slots}
use Rattle.gq_statements.specs.internal.Content_tests.{has_no_link}
use Rattle.gq_statements.proofs.leaf_end.has_no_link.Given as goal

-- the slots so far are no links
abbrev pub invariant-loop-slot : goal.invariant-loop-slot
invariant-loop-slot l = has_no_link (drop l.slot (own_slots l.slots l.leaf)) ≡ has_no_link (own_slots l.slots l.leaf)
