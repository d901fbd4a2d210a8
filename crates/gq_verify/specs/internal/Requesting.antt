-- Requests, statement by statement.
use Rattle.std.specs.Prelude.{ℕ, suc, ◌*◌, max, List}
use Rattle.gq_model.specs.declared.section.Section.{Section}
use Rattle.gq_model.specs.declared.section.Section.TheVariants as section
use Rattle.gq_model.specs.rules.Kinds.{AbstractState, Context, inside}
use Rattle.gq_model.specs.rules.Budgets.{asks, requests}
use Rattle.gq_program.specs.declared.program_tree.Statement.{Statement}
use Rattle.gq_program.specs.declared.program_tree.Statement.TheVariants.{Plain, If, Loop}
use Rattle.gq_rules.specs.internal.List_states.{chosen}
use Rattle.gq_verify.specs.declared.asked_sections.ByLevel.{ByLevel}
use Rattle.gq_verify.specs.declared.asked_sections.ByLevel.TheVariants.{Upgrading, Calling, Closing}

-- the section of a session of a level; an upgrade is for the next level
abbrev pub section_by : ByLevel → ℕ → Section
section_by Upgrading level = section.Upgrading (suc level)
section_by Calling level = section.Calling level
section_by Closing level = section.Closing level

-- the greatest number of requests of a statement and those in it
abbrev pub requests_in : List ℕ → Section → Context → AbstractState → Statement → ℕ
requests_in v r c s (Plain i) = asks v r c s i
requests_in v r c s (If arm other) = max (requests v r c (chosen s) arm) (requests v r c (chosen s) other)
requests_in v r c s (Loop count body) = count * requests v r (inside c count) s body
