use Rattle.std.proofs.Common.{◌≡◌, drop}
use Rattle.gq_model.specs.machine.Routes.{numbered}
use Rattle.gq_resolve.proofs.leaf_names.LeafNames.numbered.Given as goal

-- none so far has the name
abbrev pub invariant-loop-place : goal.invariant-loop-place
invariant-loop-place l = numbered 0 l.name l.self ≡ numbered l.place l.name (drop l.place l.self)
