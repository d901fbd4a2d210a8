use Rattle.std.proofs.Common.{◌≡◌, drop}
use Rattle.gq_load.specs.Load.{sources_fault}
use Rattle.gq_load.proofs.leaf_programs.check_programs.Given as goal

-- no text and no code so far has a fault
abbrev pub invariant-loop-component : goal.invariant-loop-component
invariant-loop-component l = sources_fault (drop l.component-index l.components) ≡ sources_fault l.components
