-- Lines of statements that open sessions for less than they need, by what is least for a service.
use Rattle.std.specs.Prelude.{ℕ, nat_lt, if◌then◌else◌, List, [], ◌∷◌, ◌++◌, Option, Some, None, decimal, codes}
use Rattle.gq_model.specs.declared.section.Section.{Section}
use Rattle.gq_model.specs.machine.Accounts.{entry}
use Rattle.gq_model.specs.machine.Program.{Program, Statements}
use Rattle.gq_model.specs.machine.Scenario.{Component}
use Rattle.gq_model.specs.machine.Sections.{section_word}
use Rattle.gq_sizes.specs.Size.{Given, opens_from}

-- the prefix of a line
abbrev pub short_prefix : List ℕ → Section → List ℕ
short_prefix label section = codes "short " ++ label ++ codes " in " ++ section_word section

-- the line of a statement of that number, which gives less than is needed
abbrev pub short_text : List ℕ → Section → ℕ → ℕ → ℕ → List ℕ
short_text label section number gives least =
    short_prefix label section ++ codes " at " ++ decimal number ++ entry (codes "gives") gives ++ entry (codes "least") least ++ 10 ∷ []

abbrev pub line_by : Given → List ℕ → Section → ℕ × List ℕ × ℕ → List ℕ
line_by least label section o = if nat_lt o.2 (least o.1 0) then short_text label section o.0 o.2 (least o.1 0) else []

-- those of these `open` statements
abbrev pub lines_by : Given → List ℕ → Section → List (ℕ × List ℕ × ℕ) → List ℕ
lines_by least label section [] = []
lines_by least label section (o ∷ rest) = line_by least label section o ++ lines_by least label section rest

abbrev pub sections_by : Given → List ℕ → List (Section × Statements) → List ℕ
sections_by least label [] = []
sections_by least label (p ∷ rest) = lines_by least label p.0 (opens_from 1 p.1) ++ sections_by least label rest

-- those of a program, where there is one
abbrev pub program_by : Given → List ℕ → Option Program → List ℕ
program_by least label None = []
program_by least label (Some program) = sections_by least label program.sections

abbrev pub leaves_by : Given → List Component → List ℕ
leaves_by least [] = []
leaves_by least (c ∷ rest) = sections_by least c.label c.node.program.sections ++ leaves_by least rest
