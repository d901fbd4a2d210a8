-- How a command ends, by what the definition says of its texts.
use Rattle.std.specs.Prelude.{◌≡◌, ℕ, List, ◌++◌, Option, Result, Ok, Err, OnOk, IfErr, codes, decimal}
use Rattle.std.specs.Io.KnownBytes.{Appends}
use Rattle.gq_load.specs.Load.{loaded}
use Rattle.gq_load.specs.Load_faults.{load_fault_text, Refuses}
use Rattle.gq_load.specs.declared.load_fault.LoadError.{LoadError}
use Rattle.gq_load.specs.declared.load_fault.LoadError.TheVariants as error
use Rattle.gq_reports.specs.declared.run_fault.RunFault.{RunFault}
use Rattle.gq_reports.specs.declared.run_fault.RunFault.TheVariants.{Load, NoComponent, NoOutcome, Turns, Memory, Write}
use Rattle.gq_output.specs.declared.counted.Counted.{Counted}
use Rattle.gq_output.specs.Writer_failures.{written_to, failures_of}
use Rattle.gq_output.specs.Writes.{IsPrefix, IsRaised}
use Rattle.gq_reports.specs.Whole.{Written, refused_with, turn_fault_text}

-- the line that a fault prints
abbrev pub run_fault_text : RunFault → List ℕ
run_fault_text (Load fault) = load_fault_text fault
run_fault_text (NoComponent name) = codes "no component " ++ name.now
run_fault_text (NoOutcome number) = codes "no outcome " ++ decimal number
run_fault_text (Turns fault line) = turn_fault_text fault line
run_fault_text Memory = codes "host memory refused"
run_fault_text Write = codes "file fault"

-- a refusal to load as the fault of a command
abbrev pub run_fault_of : LoadError → RunFault
run_fault_of error.Memory = Memory
run_fault_of (error.Fault fault) = Load fault

-- the definition gives a text, and just this was written
pub record IsWhole (w : Written) (before after : Option (List ℕ)) : Type 0 where
  pub text : List ℕ
  pub given : w ≡ Ok text
  pub written : Appends before after text

-- the definition gives a text, and a prefix of it was written
pub record IsCutShort (w : Written) (before after : Option (List ℕ)) : Type 0 where
  pub text : List ℕ
  pub given : w ≡ Ok text
  pub written : IsPrefix before after text

-- a fault of the texts is the definition's, by its line; a failed write comes where there is a text
abbrev pub IsFaultOf : RunFault → Written → Type 0
IsFaultOf (Load fault) w = w ≡ Err (refused_with (load_fault_text fault))
IsFaultOf (NoComponent name) w = w ≡ Err (refused_with (codes "no component " ++ name.now))
IsFaultOf (NoOutcome number) w = w ≡ Err (refused_with (codes "no outcome " ++ decimal number))
IsFaultOf (Turns fault line) w = w ≡ Err (refused_with (turn_fault_text fault line))
IsFaultOf Memory w = Unit {0}
IsFaultOf Write w = (text : List ℕ) × (w ≡ Ok text)

-- nothing was to be written: the fault is no failed write
abbrev pub IsBefore : RunFault → Type 0
IsBefore (Load fault) = Unit {0}
IsBefore (NoComponent name) = Unit {0}
IsBefore (NoOutcome number) = Unit {0}
IsBefore (Turns fault line) = Unit {0}
IsBefore Memory = Unit {0}
IsBefore Write = ⊥

-- a command writes its text as the definition says
pub record WritesAs {W A : Type 0} (contents : W → Option (List ℕ)) (w : Written) (old new : Counted W) (result : Result A RunFault) : Type 0 where
  -- the text of the definition was written whole, and nothing else
  pub written : OnOk result (IsWhole w (written_to contents old) (written_to contents new))
  pub counted : OnOk result (failures_of new ≡ failures_of old)
  -- the fault is that of the definition; then nothing was written
  pub refused : IfErr result (λ fault. IsFaultOf fault w)
  pub silent : IfErr result (λ fault. IsBefore fault → new ≡ old)
  -- a write failed, which was counted, and a prefix of the text was written
  pub cut : result ≡ Err Write → IsCutShort w (written_to contents old) (written_to contents new)
  pub raised : result ≡ Err Write → IsRaised (failures_of old) (failures_of new)

-- why a scenario is not run: it is refused
abbrev pub GivesOf : RunFault → List ℕ → Type 0
GivesOf (Load fault) text = Refuses (error.Fault fault) (loaded text)
GivesOf (NoComponent name) text = ⊥
GivesOf (NoOutcome number) text = ⊥
GivesOf (Turns fault line) text = ⊥
GivesOf Memory text = Unit {0}
GivesOf Write text = ⊥
