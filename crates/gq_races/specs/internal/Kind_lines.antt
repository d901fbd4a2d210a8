-- The lines of the statements of a kind in a list.
use Rattle.std.specs.Prelude.{ℕ, List, ◌++◌, codes, decimal}
use Rattle.gq_model.specs.declared.program.Instruction.{Instruction}
use Rattle.gq_views.specs.Listing.{instruction_text}
use Rattle.gq_races.specs.Race_text.{word_of}

-- a race or an order, by what stands before its number
abbrev pub effect_line : List ℕ → ℕ × Instruction → List ℕ
effect_line prefix c = word_of c.1 ++ (prefix ++ decimal c.0) ++ codes " " ++ instruction_text c.1

-- where a session is opened
abbrev pub opened_line : List ℕ → ℕ × Instruction → List ℕ
opened_line prefix c = codes "  opened by " ++ prefix ++ decimal c.0
