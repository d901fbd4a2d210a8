-- What each number that is reported of a leaf is made of adds up to it.
use Rattle.std.specs.Prelude.{◌≡◌, ℕ, ◌+◌, ◌*◌, if◌then◌else◌, false, List, [], ◌∷◌, Option, Some, None, slice_get, sum_by}
use Rattle.gq_tariff.specs.Prices.{classes}
use Rattle.gq_model.specs.declared.program.Form.TheVariants.{Slice}
use Rattle.gq_model.specs.declared.section.Section.{Section}
use Rattle.gq_model.specs.declared.section.Section.TheVariants.{Main}
use Rattle.gq_model.specs.machine.Amounts.{Resource}
use Rattle.gq_model.specs.machine.Program.{Statements}
use Rattle.gq_model.specs.machine.Scenario.{Interface, Scenario, System, Component, system}
use Rattle.gq_model.specs.rules.Budgets.{own, section_cost}
use Rattle.gq_model.specs.rules.Kinds.{Kind, Memory, AbstractState, Subject, kind_price, kinds_cost, session_cost}
use Rattle.gq_model.specs.machine.Sections.{is_own_section}
use Rattle.gq_model.specs.rules.Use.{Cause, from_leaves, steps_for}
use Rattle.gq_scenario.specs.Without_quantities.{unsized}
use Rattle.gq_load.specs.Unsized_judgement.{unsized_fault}
use Rattle.gq_why.specs.Why.{Point, highest, is_shown, kind_cost, often, places_at, places_cost, points_of}

-- a number at a point, if there is one
abbrev pub number_at : (AbstractState → ℕ) → Option Point → ℕ
number_at f None = 0
number_at f (Some p) = f p.state

-- what slots hold and have lent is the sum over their lines
abbrev pub ItemsAddUp : Type 0
ItemsAddUp = (r : Resource) (kinds : List Kind) → sum_by (kind_cost r) kinds ≡ kinds_cost r kinds

-- what a session costs is the sum over the lines of its object and its slots
abbrev pub SessionsAddUp : Type 0
SessionsAddUp = (r : Resource) (i : Interface) (bank : List Kind) →
    kind_price r (Memory Slice i.object) + sum_by (kind_cost r) bank ≡ session_cost r i bank

-- the lines of the places of these classes
abbrev pub classes_sum : Resource → List Point → List ℕ → ℕ
classes_sum r points [] = 0
classes_sum r points (c ∷ cs) = places_cost r c (number_at (places_at c) (highest (places_at c) points)) + classes_sum r points cs

-- what a leaf uses of its own is the sum over the line of its slots and those of places
abbrev pub OwnAddsUp : Type 0
OwnAddsUp = (r : Resource) (v : Subject) → let points = points_of v Main in
    number_at (λ s. kinds_cost r s.own) (highest (λ s. kinds_cost r s.own) points) + classes_sum r points classes ≡ own r v

-- how often a section runs by its line, 0 where it has none
abbrev pub shown_times : Cause → System → ℕ → Section → ℕ
shown_times cause all x section = let t = often cause all x section in if is_shown cause section t then t else 0

-- the steps of a leaf for one cause are the sum over the products of the sections that have a line
abbrev pub StepsAddUp : Type 0
StepsAddUp = (cause : Cause) (all : System) (x : ℕ) (c : Component) →
    sum_by (λ (p : Section × Statements). shown_times cause all x p.0 * section_cost p.0 p.1) c.node.program.sections ≡ steps_for cause all x c

-- how often a section of a service runs for one cause is the sum over the products of those that ask for it and have a line
abbrev pub TimesAddUp : Type 0
TimesAddUp = (cause : Cause) (s : Scenario) → unsized_fault (unsized s) ≡ None → let all = system (unsized s) in
    (x : ℕ) (c : Component) (service : List ℕ) (section : Section) → slice_get all.components x ≡ Some c → c.node.provides ≡ Some service →
    is_own_section section ≡ false → from_leaves (shown_times cause all) all x service section 0 all.components ≡ often cause all x section
