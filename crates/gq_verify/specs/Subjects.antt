-- What a program is judged by.
use Rattle.std.specs.Prelude.{ℕ, List, Option, Some, None, if◌then◌else◌, ◌∷◌, []}
use Rattle.gq_model.specs.machine.Program.{Program, Statements}
use Rattle.gq_model.specs.machine.Sections.{same_section}
use Rattle.gq_model.specs.declared.section.Section.{Section}
use Rattle.gq_model.specs.machine.Scenario.{Interfaces, service_in}
use Rattle.gq_model.specs.rules.Kinds.{Subject}
use Rattle.gq_model.specs.rules.Budgets.{section_cost}

-- a program, the interface of the service that it provides, all interfaces, the greatest values of its inputs, and the number of its signals
abbrev pub subject_of : Program → Option (List ℕ) → Interfaces → List ℕ → ℕ → Subject
subject_of program provides interfaces inputs signals =
    record { program = program; provided = service_in provides interfaces; interfaces = interfaces; inputs = inputs; signals = signals }

-- what a section costs, where it is among these
abbrev pub cost_in : Section → List (Section × Statements) → Option ℕ
cost_in s [] = None
cost_in s (p ∷ rest) = if same_section s p.0 then Some (section_cost s p.1) else cost_in s rest
