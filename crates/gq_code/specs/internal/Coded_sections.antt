-- Sections whose statements have a code.
use Rattle.std.specs.Prelude.{Bool, true, ◌&&◌, List, [], ◌∷◌}
use Rattle.gq_model.specs.machine.Program.{Statements}
use Rattle.gq_model.specs.declared.section.Section.{Section}
use Rattle.gq_code.specs.Codes.{has_code}

abbrev pub have_codes : List (Section × Statements) → Bool
have_codes [] = true
have_codes (p ∷ rest) = has_code p.1 && have_codes rest
