-- How many statements sections have.
use Rattle.std.specs.Prelude.{ℕ, List, sum_by}
use Rattle.gq_model.specs.declared.section.Section.{Section}
use Rattle.gq_model.specs.machine.Program.{Statements, size}

abbrev pub total : List (Section × Statements) → ℕ
total sections = sum_by (λ p. size p.1) sections
