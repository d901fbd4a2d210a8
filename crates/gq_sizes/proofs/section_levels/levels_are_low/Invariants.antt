use Rattle.std.proofs.Common.{◌≡◌, ℕ, ◌<◌, Some}
use Rattle.std.specs.Prelude.{slice_get}
use Rattle.gq_model.specs.rules.Kinds.{Subject}
use Rattle.gq_model.specs.texts.Code.{IsProgram}
use Rattle.gq_sizes.proofs.section_levels.levels_are_low.Given as goal

-- each program so far is one
abbrev pub invariant-loop-verified : goal.invariant-loop-verified
invariant-loop-verified l = (k : ℕ) → k < l.verified-index → (v : Subject) → slice_get l.leaves k ≡ Some v → IsProgram v.program
