-- Requests, by the section of a service that they are for.
use Rattle.std.specs.Prelude.{ℕ, ◌+◌, ◌*◌, Bool, ◌&&◌, List, [], ◌∷◌}
use Rattle.gq_model.specs.declared.section.Section.{Section}
use Rattle.gq_model.specs.machine.Lists.{any_of}
use Rattle.gq_model.specs.machine.Program.{text_eq}
use Rattle.gq_model.specs.machine.Sections.{same_section}
use Rattle.gq_model.specs.rules.Budgets.{is_one}

-- so many requests for a section of a service
pub record Requested : Type 0 where
  pub service : List ℕ
  pub section : Section
  pub count : ℕ

-- whether they are for this section of this service
abbrev pub is_for : List ℕ → Section → Requested → Bool
is_for service section a = text_eq service a.service && same_section section a.section

-- how many of them all are for a section of a service
abbrev pub requests_for : List Requested → List ℕ → Section → ℕ
requests_for [] service section = 0
requests_for (a ∷ rest) service section = is_one service section a.service a.section * a.count + requests_for rest service section

-- whether one of them is for a section of a service
abbrev pub is_asked : List ℕ → List Requested → Bool
is_asked service entries = any_of (λ a. text_eq service a.service) entries
