-- What is counted of a leaf's sections.
use Rattle.std.specs.Prelude.{◌≡◌, ℕ, List, [], ◌∷◌}
use Rattle.gq_model.specs.machine.Program.{Statements}
use Rattle.gq_model.specs.declared.section.Section.{Section}
use Rattle.gq_model.specs.rules.Kinds.{Subject}
use Rattle.gq_model.specs.rules.Budgets.{section_cost, section_requests}
use Rattle.gq_verify.specs.Saturated_numbers.{saturated}
use Rattle.gq_verify.specs.Requested.{Requested, requests_for}

-- all requests of each of these sections of a leaf
abbrev pub AreRequests : Subject → List (Section × Statements) → List (List Requested) → Type 0
AreRequests v [] [] = Unit {0}
AreRequests v (p ∷ rest) (asked ∷ more) =
    ((service : List ℕ) (section : Section) → saturated (requests_for asked service section) ≡ saturated (section_requests v p.0 service section))
    × AreRequests v rest more
AreRequests v [] (asked ∷ more) = ⊥
AreRequests v (p ∷ rest) [] = ⊥

-- the steps of each of these sections
abbrev pub costs_of : List (Section × Statements) → List ℕ
costs_of [] = []
costs_of (p ∷ rest) = saturated (section_cost p.0 p.1) ∷ costs_of rest
