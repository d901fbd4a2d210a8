use Rattle.std.proofs.Common.{◌≡◌, drop}
use Rattle.gq_model.specs.machine.Program.{text_eq}
use Rattle.gq_resolve.specs.internal.Afters.{is_named}
use Rattle.gq_resolve.proofs.start_after.is_named.Given as goal

abbrev pub invariant-loop-component : goal.invariant-loop-component
invariant-loop-component l = is_named (text_eq l.name) l.components ≡ is_named (text_eq l.name) (drop l.component-index l.components)
