-- How a run with tests ends.
use Rattle.std.specs.Prelude.{◌≡◌, ℕ, List, Option, Result, Ok, Err, IfOk, IfErr, OnOk}
use Rattle.std.specs.Io.KnownBytes.{Appends}
use Rattle.gq_model.specs.declared.fault.Wrong.{Wrong}
use Rattle.gq_load.specs.Load_faults.{load_fault_text}
use Rattle.gq_output.specs.Writer_failures.{failures_of, written_to}
use Rattle.gq_output.specs.Writes.{IsPrefix, IsRaised}
use Rattle.gq_output.specs.declared.counted.Counted.{Counted}
use Rattle.gq_reports.specs.Command_outcomes.{IsBefore}
use Rattle.gq_reports.specs.Whole.{refused_with, turn_fault_text}
use Rattle.gq_reports.specs.declared.run_fault.RunFault.{RunFault}
use Rattle.gq_reports.specs.declared.run_fault.RunFault.TheVariants.{Load, NoComponent, NoOutcome, Turns, Memory, Write}
use Rattle.gq_unverified.specs.Tested.{Tested}

-- the definition gives a text and this wrong step, or none, and just the text was written
pub record IsTested (t : Tested) (wrong : Option (List ℕ × Wrong)) (before after : Option (List ℕ)) : Type 0 where
  pub text : List ℕ
  pub given : t ≡ Ok (text, wrong)
  pub written : Appends before after text

-- the definition gives a text, and a prefix of it was written
pub record IsTestedShort (t : Tested) (before after : Option (List ℕ)) : Type 0 where
  pub text : List ℕ
  pub wrong : Option (List ℕ × Wrong)
  pub given : t ≡ Ok (text, wrong)
  pub written : IsPrefix before after text

-- a fault of the texts is the definition's, by its line; a failed write comes where there is a text
abbrev pub IsTestFault : RunFault → Tested → Type 0
IsTestFault (Load fault) t = t ≡ Err (refused_with (load_fault_text fault))
IsTestFault (NoComponent name) t = ⊥
IsTestFault (NoOutcome number) t = ⊥
IsTestFault (Turns fault line) t = t ≡ Err (refused_with (turn_fault_text fault line))
IsTestFault Memory t = Unit {0}
IsTestFault Write t = (text : List ℕ) × (wrong : Option (List ℕ × Wrong)) × (t ≡ Ok (text, wrong))

-- a run with tests ends, by what the definition gives
pub record EndsTested {W : Type 0} (contents : W → Option (List ℕ)) (t : Tested) (old new : Counted W) (result : Result (Option (List ℕ × Wrong)) RunFault)
    : Type 0 where
  -- the whole text of the definition was written, and nothing else, and the wrong step is the definition's
  pub tested : IfOk result (λ wrong. IsTested t wrong (written_to contents old) (written_to contents new))
  pub counted : OnOk result (failures_of new ≡ failures_of old)
  -- the fault is that of the definition
  pub refused : IfErr result (λ fault. IsTestFault fault t)
  pub silent : IfErr result (λ fault. IsBefore fault → new ≡ old)
  -- a write failed: a prefix of the text was written
  pub cut : result ≡ Err Write → IsTestedShort t (written_to contents old) (written_to contents new)
  pub raised : result ≡ Err Write → IsRaised (failures_of old) (failures_of new)
