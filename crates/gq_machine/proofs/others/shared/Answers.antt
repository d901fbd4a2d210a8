-- A step of a leaf in which others have a part.
use Rattle.std.proofs.Common.{◌≡◌, ℕ, refl}
use Rattle.std.specs.Prelude.{IsTrue}
use Rattle.gq_bytecode.specs.Cores.{is_shared}
use Rattle.gq_bytecode.specs.declared.operation.Operation.{Operation}
use Rattle.gq_bytecode.specs.declared.operation.Operation.TheVariants.{End, Long, Out}
use Rattle.gq_machine.specs.internal.Operation_kinds.{is_quiet}
use Rattle.gq_machine.proofs.others.shared.Goals as goal

quiet_else : (does : Operation) → IsTrue (is_shared does) → (does ≡ Out → ⊥) → ((n : ℕ) → does ≡ Long n → ⊥) → (does ≡ End → ⊥) → IsTrue (is_quiet does)
quiet_else Out h out long end = absurd (out refl)
quiet_else (Long n) h out long end = absurd (long n refl)
quiet_else End h out long end = absurd (end refl)
quiet_else _ h out long end = h

pub quiet-requires : goal.quiet-requires
quiet-requires c = record {
  does = c.requires.does;
  quiet = quiet_else c.args.operation c.requires.shared c.in_default.not-Out c.in_default.not-Long c.in_default.not-End;
}

pub returns-in-End-clause-step : goal.returns-in-End-clause-step
returns-in-End-clause-step c = c.end.ensures.step c.args.line.now.items
