use Rattle.std.proofs.Common.{◌≡◌, ◌++◌, drop}
use Rattle.gq_load.specs.internal.Judged_programs.{programs_of}
use Rattle.gq_load.specs.Load.{sources_fault}
use Rattle.gq_load.proofs.leaf_programs.read_programs.Given as goal

-- the programs so far, with those of the leaves that are left, are all; no text and no code so far has a fault
abbrev pub invariant-loop-component : goal.invariant-loop-component
invariant-loop-component l = record {
  made : l.programs.items ++ programs_of (drop l.component-index l.components) ≡ programs_of l.components;
  faultless : sources_fault (drop l.component-index l.components) ≡ sources_fault l.components;
}
