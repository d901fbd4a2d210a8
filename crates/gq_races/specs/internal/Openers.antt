-- The leaves that serve what a leaf opens, as the code keeps them: those of `main` apart from all others.
use Rattle.std.specs.Prelude.{ℕ, if◌then◌else◌, Bool, false, List, [], ◌∷◌, ◌++◌, map, Option}
use Rattle.gq_model.specs.declared.program.Instruction.{Instruction}
use Rattle.gq_model.specs.declared.program.Instruction.TheVariants.{Open}
use Rattle.gq_model.specs.declared.section.Section.{Section}
use Rattle.gq_model.specs.machine.Program.{Statements}
use Rattle.gq_model.specs.machine.Scenario.{Component}
use Rattle.gq_model.specs.machine.Sections.{is_own_section}
use Rattle.gq_model.specs.rules.Use.{is_there, services_of}
use Rattle.gq_resolve.specs.Served.{once, server_among}
use Rattle.gq_races.specs.Races.{Stated, stated_in}

-- the servers of these services, each asked for once
abbrev pub servers_of : (List ℕ → Option ℕ) → List (List ℕ) → List (Option ℕ)
servers_of server services = map server (once services)

-- of what is opened in `main`
abbrev pub first_servers : (List ℕ → Option ℕ) → List (Section × Statements) → List (Option ℕ)
first_servers server [] = []
first_servers server (p ∷ rest) = (if is_own_section p.0 then servers_of server (services_of p.1) else []) ++ first_servers server rest

-- and in all other sections
abbrev pub later_servers : (List ℕ → Option ℕ) → List (Section × Statements) → List (Option ℕ)
later_servers server [] = []
later_servers server (p ∷ rest) = (if is_own_section p.0 then [] else servers_of server (services_of p.1)) ++ later_servers server rest

-- a leaf's servers
abbrev pub opened_from : List Component → Component → List (Option ℕ) × List (Option ℕ)
opened_from all c = (first_servers (server_among all c) c.node.program.sections, later_servers (server_among all c) c.node.program.sections)

-- a statement opens a session with the x-th leaf
abbrev pub opens_among : (List ℕ → Option ℕ) → ℕ → Instruction → Bool
opens_among server x (Open place service n) = is_there x (server service)
opens_among server x _ = false

-- where these leaves open sessions with the x-th of all
abbrev pub opened_among : List Component → ℕ → List Component → List Stated
opened_among all x [] = []
opened_among all x (c ∷ rest) =
    stated_in (λ section. opens_among (server_among all c) x) c.label c.node.program.sections ++ opened_among all x rest
