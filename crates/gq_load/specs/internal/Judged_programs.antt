-- The programs of a scenario's leaves, and what is said of them.
use Rattle.std.specs.Prelude.{List, [], ◌∷◌, Option, None, map}
use Rattle.gq_model.specs.machine.Lists.{or_first}
use Rattle.gq_model.specs.machine.Program.{Program}
use Rattle.gq_model.specs.rules.Kinds.{Subject}
use Rattle.gq_model.specs.machine.Scenario.{Interfaces, Component}
use Rattle.gq_model.specs.rules.Verdict.{program_fault}
use Rattle.gq_model.specs.rules.Accept.{Refusal, bad_program}
use Rattle.gq_verify.specs.Subjects.{subject_of}

abbrev pub programs_of : List Component → List Program
programs_of = map (λ c. c.node.program)

-- what a leaf's program is judged by
abbrev pub judged_by : Interfaces → Component → Subject
judged_by interfaces c = subject_of c.node.program c.node.provides interfaces c.node.inputs c.node.signals

-- the refusal of a leaf whose program breaks a rule
abbrev pub leaf_refusal : Interfaces → Component → Option Refusal
leaf_refusal interfaces c = bad_program c.node.name (program_fault (judged_by interfaces c))

-- that of the first such leaf
abbrev pub first_refusal : Interfaces → List Component → Option Refusal
first_refusal interfaces [] = None
first_refusal interfaces (c ∷ rest) = or_first (leaf_refusal interfaces c) (first_refusal interfaces rest)
