-- Races of own slots, and the uses that lead to them, as the code finds them.
use Rattle.std.specs.Prelude.{ℕ, zero, suc, Bool, false, ◌&&◌, ◌||◌, not, List, [], ◌∷◌, Option, Some, None, get_or}
use Rattle.gq_model.specs.declared.section.Section.{Section}
use Rattle.gq_model.specs.machine.Lists.{any_of}
use Rattle.gq_model.specs.machine.Program.{Statements, Done, Do, If, Loop}
use Rattle.gq_model.specs.machine.Routes.{leaf_routed, route}
use Rattle.gq_model.specs.machine.Scenario.{Component}
use Rattle.gq_model.specs.machine.Sections.{is_start_section}
use Rattle.gq_model.specs.rules.Use.{services_in}
use Rattle.gq_races.specs.Races.{changes_own}

-- a statement, or one in it, changes an own slot
abbrev pub changes_in : Statements → Bool
changes_in Done = false
changes_in (Do i rest) = changes_own i || changes_in rest
changes_in (If arm other rest) = changes_in arm || changes_in other || changes_in rest
changes_in (Loop n body rest) = changes_in body || changes_in rest

-- one of a section other than `main` does
abbrev pub changes_later : List (Section × Statements) → Bool
changes_later [] = false
changes_later (p ∷ rest) = not (is_start_section p.0) && changes_in p.1 || changes_later rest

-- the leaf that is found is marked
abbrev pub is_marked : List Bool → Option ℕ → Bool
is_marked marked None = false
is_marked marked (Some x) = get_or marked x false

-- the component uses one of the leaves that are marked, of all of these
abbrev pub uses_marked : List Component → Component → List Bool → Bool
uses_marked all c marked = any_of (λ service. is_marked marked (leaf_routed (route c.levels service) all)) (services_in c.node.program.sections)

-- of each of these leaves, of which the first is the x-th, whether it is marked by the first list, or uses one that is by the second
abbrev pub with_users : List Component → List Bool → List Bool → ℕ → List Component → List Bool
with_users all marked found x [] = []
with_users all marked found x (c ∷ rest) = (get_or marked x false || uses_marked all c found) ∷ with_users all marked found (suc x) rest

-- the leaves from which at most so many uses lead to one that is marked
abbrev pub leading : ℕ → List Component → List Bool → List Bool
leading zero all marked = marked
leading (suc n) all marked = with_users all marked (leading n all marked) 0 all

-- the shared ones among these leaves that change own slots
abbrev pub with_race : List Bool → ℕ → List Component → List Bool
with_race shared x [] = []
with_race shared x (c ∷ rest) = (get_or shared x false && changes_later c.node.program.sections) ∷ with_race shared (suc x) rest

-- those that both lists mark
abbrev pub both : List Bool → List Bool → List Bool
both [] others = []
both (a ∷ more) [] = false ∷ both more []
both (a ∷ more) (b ∷ others) = (a && b) ∷ both more others
