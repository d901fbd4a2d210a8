use Rattle.std.proofs.Common.{◌≡◌, ◌++◌, drop}
use Rattle.gq_model.specs.texts.Code.{limits_code}
use Rattle.gq_code.proofs.program_code.write_limits.Given as goal

-- the bytes so far, with those of the locals that are left, are all
abbrev pub invariant-loop-local : goal.invariant-loop-local
invariant-loop-local l = l.out.items ++ limits_code (drop l.local-index l.locals) ≡ l.fn.out.items ++ limits_code l.locals
