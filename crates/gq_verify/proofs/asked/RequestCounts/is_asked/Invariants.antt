use Rattle.std.proofs.Common.{◌≡◌, drop}
use Rattle.gq_verify.specs.Requested.{is_asked}
use Rattle.gq_verify.proofs.asked.RequestCounts.is_asked.Given as goal

-- none so far is
abbrev pub invariant-loop-place : goal.invariant-loop-place
invariant-loop-place l = is_asked l.service (drop l.place l.self) ≡ is_asked l.service l.self
