-- What the statements of a scenario are to give for sessions: an `open` what a session needs, an `upgrade` what one of the next level needs more.
use Rattle.std.specs.Prelude.{ℕ, suc, ◌-◌, List, [], ◌∷◌, ◌++◌, map, Option, Some, None, Vec}
use Rattle.std.specs.declared.alloc.Global.{Global}
use Rattle.gq_model.specs.declared.program.Instruction.TheVariants.{Open, Upgrade}
use Rattle.gq_model.specs.declared.section.Section.{Section}
use Rattle.gq_model.specs.machine.Amounts.{Ram, Amount}
use Rattle.gq_model.specs.machine.Program.{Statements}
use Rattle.gq_model.specs.machine.Scenario.{Component, System, interface_in}
use Rattle.gq_model.specs.rules.Kinds.{Subject, kind_at}
use Rattle.gq_model.specs.rules.Rules.{link_kind}
use Rattle.gq_model.specs.rules.Use.{subject}
use Rattle.gq_verify.specs.Visits.{Sight, At_statement, At_point, section_sights}
use Rattle.gq_sizes.specs.declared.donations.SectionDonations.{SectionDonations}
use Rattle.gq_sizes.specs.Size.{Given, needed, sum_in}

-- the bytes that sessions of a service need, up to a level
abbrev pub needed_by : System → Given
needed_by all service l = sum_in (λ i. needed (λ _ _. 0) Ram all service i l) (interface_in service all.interfaces)

-- what an upgrade of a session is to give
abbrev pub donated_on : Given → Option (List ℕ × ℕ × Amount) → List ℕ
donated_on needs None = []
donated_on needs (Some l) = (needs l.0 (suc l.1) - needs l.0 l.1) ∷ []

-- what a statement is to give, if it gives for a session
abbrev pub donated : Given → Sight → List ℕ
donated needs (At_statement c s (Open place service n)) = needs service 0 ∷ []
donated needs (At_statement c s (Upgrade place n)) = donated_on needs (link_kind (kind_at c s place))
donated needs (At_statement c s i) = []
donated needs (At_point k s) = []

-- all statements of a section, in their order
abbrev pub donated_in : Given → List Sight → List ℕ
donated_in needs [] = []
donated_in needs (e ∷ rest) = donated needs e ++ donated_in needs rest

abbrev pub section_donated : Given → Subject → Section × Statements → Section × List ℕ
section_donated needs v p = (p.0, donated_in needs (section_sights v p.0))

abbrev pub leaf_donated : Given → Subject → List (Section × List ℕ)
leaf_donated needs v = map (section_donated needs v) v.program.sections

-- of each leaf, of each of its sections
abbrev pub all_donated : System → List (List (Section × List ℕ))
all_donated all = map (λ (c : Component). leaf_donated (needed_by all) (subject all c)) all.components

-- what code has of a section, and of a leaf
abbrev pub section_list : SectionDonations → Section × List ℕ
section_list d = (d.section, d.amounts.items)

abbrev pub leaf_list : Vec SectionDonations Global → List (Section × List ℕ)
leaf_list sections = map section_list sections.items
