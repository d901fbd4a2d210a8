-- Statements that give for sessions just what the interfaces ask.
use Rattle.std.specs.Prelude.{◌≡◌, ℕ, ◌-◌, ◌≤◌, ◌==◌, ◌&&◌, Bool, true, List, length, map, get_or, Some}
use Rattle.gq_model.specs.declared.section.Section.{Section}
use Rattle.gq_model.specs.machine.Amounts.{Ram, Amount}
use Rattle.gq_model.specs.machine.Lists.{all_of}
use Rattle.gq_model.specs.machine.Program.{Statements}
use Rattle.gq_model.specs.machine.Scenario.{Component, Interface, Interfaces, Scenario, System, interface_in, number_of, system}
use Rattle.gq_model.specs.rules.Kinds.{Subject, need_of}
use Rattle.gq_model.specs.rules.Use.{subject}
use Rattle.gq_verify.specs.Visits.{Sight, At_statement, At_point, section_sights}
use Rattle.gq_sizes.specs.Size.{Gift, gift_of, needed, open_at}
use Rattle.gq_scenario.specs.Without_quantities.{unsized}

-- the bytes that an interface asks for its upgrade to a level
abbrev pub upgrade_to : ℕ → Interface → ℕ
upgrade_to level i = get_or (map (λ (a : Amount). a.ram) i.upgrades) (level - 1) 0

-- an `open`, by its number, its service and what it gives
abbrev pub opens_right : Interfaces → ℕ × List ℕ × ℕ → Bool
opens_right interfaces o = o.2 == number_of (interface_in o.1 interfaces) (λ i. i.need.ram)

-- what is given for a level of a service
abbrev pub upgrades_right : Interfaces → Gift → Bool
upgrades_right interfaces g = g.2 == number_of (interface_in g.0 interfaces) (upgrade_to g.1)

-- a statement gives just what its interface asks, if it gives for a session
abbrev pub gives_right : Interfaces → Sight → Bool
gives_right interfaces (At_statement c s i) =
    all_of (opens_right interfaces) (open_at 0 i) && all_of (upgrades_right interfaces) (gift_of c s i)
gives_right interfaces (At_point k s) = true

-- so it is with all statements of a leaf
abbrev pub leaf_gives_right : Interfaces → Subject → Bool
leaf_gives_right interfaces v =
    all_of (λ (p : Section × Statements). all_of (gives_right interfaces) (section_sights v p.0)) v.program.sections

-- each `open` of a scenario gives just the need of its interface, and each `upgrade` just its upgrade
abbrev pub StatementsGive : Scenario → Type 0
StatementsGive s =
    let all = system (unsized s) in all_of (λ (c : Component). leaf_gives_right s.interfaces (subject all c)) all.components ≡ true

-- what each interface asks up to each level that it has is just the bytes that sessions of that level need, so nothing is given before it is needed
abbrev pub AskJust : System → Interfaces → Type 0
AskJust all interfaces = (service : List ℕ) (i : Interface) (l : ℕ) → interface_in service interfaces ≡ Some i → l ≤ length i.upgrades
    → (need_of i l).ram ≡ needed (λ _ _. 0) Ram all service i l

-- statements give just what the interfaces ask, and the interfaces ask just what sessions need
pub record GivesLeast (s : Scenario) : Type 0 where
  pub statements : StatementsGive s
  pub just : AskJust (system (unsized s)) s.interfaces
