use Rattle.std.proofs.Common.{◌≡◌, drop}
use Rattle.gq_caps.specs.Known.{known}
use Rattle.gq_model.specs.machine.Lists.{any_of}
use Rattle.gq_sizes.specs.Endless.{leads}
use Rattle.gq_sizes.specs.Passing.{passing}
use Rattle.gq_sizes.proofs.endless.Sessions.held.Given as goal

-- one is among the slots that are left
abbrev pub invariant-loop-kind : goal.invariant-loop-kind
invariant-loop-kind g l =
    any_of (λ k. leads (passing l.self.interfaces.now l.self.tests.now) (known k)) (drop l.kind-index l.kind-items)
    ≡ any_of (λ k. leads (passing l.self.interfaces.now l.self.tests.now) (known k)) l.kind-items
