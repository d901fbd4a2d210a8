-- A run with tests, of a scenario that need not be accepted: what it writes, and its first wrong step.
use Rattle.std.specs.Prelude.{ℕ, List, [], ◌++◌, Option, Some, None, Result, Ok, Err, codes, slice_get}
use Rattle.gq_model.specs.machine.Scenario.{Scenario, Component, system, components}
use Rattle.gq_model.specs.declared.fault.Wrong.{Wrong}
use Rattle.gq_model.specs.declared.fault.Wrong.TheVariants.{MissingOperand, WrongKind, UnmappedByte, ExceededQuota, MissingSection}
use Rattle.gq_model.specs.machine.Run.{Acts, run}
use Rattle.gq_model.specs.machine.Accounts.{text_of}
use Rattle.gq_model.specs.texts.Turns.{Turned, turned}
use Rattle.gq_load.specs.Load.{LoadRefusal, fault_text}
use Rattle.gq_load.specs.Unverified.{unverified}
use Rattle.gq_reports.specs.Whole.{refused_with, turn_fault_text}

-- the lines of these turns and settings up to a wrong step, and, where none is wrong, the accounts; no account reports a step budget
unfoldable pub tested_text : Scenario → Acts → List ℕ
tested_text s turns = let ran = run (system s) turns in text_of s [] ran ran.wrong

-- the first wrong step of these turns, and the leaf that came to it
unfoldable pub first_wrong : Scenario → Acts → Option (ℕ × Wrong)
first_wrong s turns = (run (system s) turns).wrong

-- the name of a leaf that is there
abbrev pub name_at : Option Component → List ℕ
name_at None = []
name_at (Some c) = c.node.name

-- a wrong step, with the name of the leaf
abbrev pub named : Scenario → Option (ℕ × Wrong) → Option (List ℕ × Wrong)
named s None = None
named s (Some p) = Some (name_at (slice_get (components s) p.0), p.1)

-- the text and the first wrong step with its leaf, or the line that says why nothing runs
abbrev pub Tested : Type 0
Tested = Result (List ℕ × Option (List ℕ × Wrong)) (List ℕ)

abbrev pub tested_turns : Scenario → Turned → Tested
tested_turns s (Ok turns) = Ok (tested_text s turns, named s (first_wrong s turns))
tested_turns s (Err fault) = Err (refused_with (turn_fault_text fault.0 fault.1))

abbrev pub tested_from : Result Scenario LoadRefusal → List ℕ → Tested
tested_from (Ok s) turns = tested_turns s (turned s turns)
tested_from (Err fault) turns = Err (refused_with (fault_text fault))

abbrev pub run_tested : List ℕ → List ℕ → Tested
run_tested scenario turns = tested_from (unverified scenario) turns

-- TELLING

-- the number of what is wrong
abbrev pub wrong_code : Wrong → List ℕ
wrong_code MissingOperand = codes "X1"
wrong_code WrongKind = codes "X2"
wrong_code UnmappedByte = codes "X3"
wrong_code ExceededQuota = codes "X4"
wrong_code MissingSection = codes "X5"

-- how a wrong step is reported
abbrev pub wrong_text : List ℕ × Wrong → List ℕ
wrong_text p = codes "wrong " ++ p.0 ++ codes " " ++ wrong_code p.1
