-- What sessions need, along leaves and along the sections of a program.
use Rattle.std.specs.Prelude.{◌≡◌, ℕ, max, if◌then◌else◌, nat_le, IsTrue, List, [], ◌∷◌, ◌++◌, Option, Some, None}
use Rattle.gq_model.specs.declared.section.Section.{Section}
use Rattle.gq_model.specs.machine.Amounts.{Resource}
use Rattle.gq_model.specs.machine.Lists.{all_of, greatest}
use Rattle.gq_model.specs.machine.Program.{Program, Statements}
use Rattle.gq_model.specs.machine.Scenario.{Component, Interface, Interfaces}
use Rattle.gq_model.specs.rules.Kinds.{Subject}
use Rattle.gq_model.specs.machine.Sections.{level_of}
use Rattle.gq_model.specs.rules.Verdict.{program_fault}
use Rattle.gq_verify.specs.Subjects.{subject_of}
use Rattle.gq_verify.specs.Visits.{Sight, At_statement, At_point}
use Rattle.gq_sizes.specs.Size.{Gift, Given, gift_of, gifts_in, is_named, is_up_to, least_gift, lesser, section_points, session_cost}

-- the greatest number of the leaves that provide a service, each with what it is judged by
abbrev pub needed_of : (Subject → ℕ) → List ℕ → List Component → List Subject → ℕ
needed_of f service [] vs = 0
needed_of f service (c ∷ cs) [] = 0
needed_of f service (c ∷ cs) (v ∷ vs) = max (if is_named service c.node.provides then f v else 0) (needed_of f service cs vs)

-- the most that a section of a level up to one costs a session
abbrev pub section_needed : Given → Resource → Subject → Interface → ℕ → Section × Statements → ℕ
section_needed given r v i l p = if is_up_to l p.0 then greatest (session_cost given r i) (section_points v p.0) else 0

-- what these leaves with these programs are judged by
abbrev pub subjects_by : Interfaces → List Component → List Program → List Subject
subjects_by interfaces [] ps = []
subjects_by interfaces (c ∷ cs) [] = []
subjects_by interfaces (c ∷ cs) (p ∷ ps) = subject_of p c.node.provides interfaces c.node.inputs c.node.signals ∷ subjects_by interfaces cs ps

-- none of them breaks a rule
abbrev pub BreakNothing : Interfaces → List Component → List Program → Type 0
BreakNothing interfaces [] ps = Unit {0}
BreakNothing interfaces (c ∷ cs) [] = Unit {0}
BreakNothing interfaces (c ∷ cs) (p ∷ ps) =
    (program_fault (subject_of p c.node.provides interfaces c.node.inputs c.node.signals) ≡ None) × BreakNothing interfaces cs ps

-- no leaf has a section of a level above 3
abbrev pub AreLow : List Subject → Type 0
AreLow [] = Unit {0}
AreLow (v ∷ rest) = IsTrue (all_of (λ (p : Section × Statements). nat_le (level_of p.0) 3) v.program.sections) × AreLow rest

-- GIFTS

-- the lesser of two that may be none
abbrev pub least_of : Option ℕ → Option ℕ → Option ℕ
least_of None least = least
least_of (Some n) least = lesser n least

-- what is given for a level of a service by what is shown next
abbrev pub given_at : List ℕ → ℕ → Option ℕ → Sight → Option ℕ
given_at service level least (At_statement c s i) = least_of least (least_gift service level (gift_of c s i))
given_at service level least (At_point k s) = least

-- the least gifts for the levels of a service, up to one
abbrev pub up_to : ℕ → (ℕ → Option ℕ) → ℕ → Option ℕ
up_to u f l = if nat_le l u then f l else None

abbrev pub gift_row : List Gift → List ℕ → ℕ → List (Option ℕ)
gift_row given service u =
    let f : ℕ → Option ℕ = λ l. least_gift service l given in None ∷ up_to u f 1 ∷ up_to u f 2 ∷ up_to u f 3 ∷ []

-- what all leaves give
abbrev pub gifts_of : List Subject → List Gift
gifts_of [] = []
gifts_of (v ∷ rest) = gifts_in v v.program.sections ++ gifts_of rest
