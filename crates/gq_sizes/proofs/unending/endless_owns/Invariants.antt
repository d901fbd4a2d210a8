use Rattle.std.proofs.Common.{◌≡◌, ◌++◌, drop, map}
use Rattle.gq_sizes.specs.Passing.{passing}
use Rattle.gq_sizes.proofs.Leaves_endless.{own_leads}
use Rattle.gq_sizes.proofs.unending.endless_owns.Given as goal

-- those so far, with those of the leaves that are left, are all
abbrev pub invariant-loop-verified : goal.invariant-loop-verified
invariant-loop-verified l =
    l.owns.items ++ map (own_leads (passing l.sessions.interfaces.now l.sessions.tests.now)) (drop l.verified-index l.leaves)
    ≡ map (own_leads (passing l.sessions.interfaces.now l.sessions.tests.now)) l.leaves
