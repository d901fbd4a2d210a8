use Rattle.std.proofs.Common.{◌≡◌, ◌+◌, drop}
use Rattle.gq_outcomes.specs.Same.{place_of}
use Rattle.gq_outcomes.proofs.slot_key.place_of.Given as goal

-- the place is among those that are left
abbrev pub invariant-loop-place : goal.invariant-loop-place
invariant-loop-place l = l.place + place_of l.session (drop l.place l.order) ≡ place_of l.session l.order
