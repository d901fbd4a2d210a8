use Rattle.std.proofs.Common.{◌≡◌, ◌++◌, drop}
use Rattle.gq_verify.specs.Askers.{askers_of}
use Rattle.gq_verify.proofs.asked.RequestCounts.put_askers.Given as goal

-- those so far, with those of the entries that are left, are all
abbrev pub invariant-loop-place : goal.invariant-loop-place
invariant-loop-place l =
    l.askers.items ++ askers_of l.service l.leaf l.part (drop l.place l.self) ≡ l.fn.askers.items ++ askers_of l.service l.leaf l.part l.self
