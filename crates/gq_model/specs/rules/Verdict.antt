-- What the verifier says of a program.
use Rattle.std.specs.Prelude.{ℕ, suc, ◌^◌, nat_lt, nat_le, if◌then◌else◌, Bool, true, false, List, [], ◌∷◌, length, Option, Some, None, Result, Ok, Err}
use Rattle.std.specs.Prelude.{is_some}
use Rattle.gq_model.specs.machine.Amounts.{Ram, Caps, Amount, amount}
use Rattle.gq_model.specs.machine.Program.{Statements, size, section_in, Program}
use Rattle.gq_model.specs.machine.Sections.{Section, Main, Opening, Upgrading, Calling, Closing, Reacting, all_sections}
use Rattle.gq_model.specs.machine.Scenario.{Interface, Interfaces, service_in}
use Rattle.gq_model.specs.machine.Lists.{or_first}
use Rattle.gq_model.specs.rules.Kinds.{Subject}
use Rattle.gq_model.specs.rules.Rules.{Rule, MissingSection, BudgetTooLarge}
use Rattle.gq_model.specs.rules.Flow.{Flowed, section_flow, body}
use Rattle.gq_model.specs.rules.Budgets.{own, section_cost, section_requests}

-- the rule that is broken first, its section and the number of its statement there
pub record Fault : Type 0 where
  pub rule : Rule
  pub section : Section
  pub place : ℕ

-- what an accepted program uses at most: of its own account, in steps of each of its sections, and in requests of a section for a section of a service
pub record Verified : Type 0 where
  pub own : Amount
  pub cost : List (Section × ℕ)
  pub requests : Section → List ℕ → Section → ℕ

-- a level that an interface has
abbrev pub has_level : ℕ → Interface → Bool
has_level l i = nat_le l (length i.upgrades)

-- each leaf has `main` and a section for each of its signals, and a server has the sections of the levels of its interface
abbrev pub is_wanted : Option Interface → ℕ → Section → Bool
is_wanted provided signals Main = true
is_wanted provided signals (Reacting i) = nat_lt i signals
is_wanted None signals section = false
is_wanted (Some i) signals Opening = true
is_wanted (Some i) signals (Upgrading l) = has_level l i
is_wanted (Some i) signals (Calling l) = has_level l i
is_wanted (Some i) signals (Closing l) = has_level l i

abbrev pub same_truth : Bool → Bool → Bool
same_truth true b = b
same_truth false true = false
same_truth false false = true

-- the first of these sections that is missing or too many
abbrev pub first_unwanted : Subject → List Section → Option Section
first_unwanted v [] = None
first_unwanted v (s ∷ rest) =
    if same_truth (is_wanted v.provided v.signals s) (is_some (section_in s v.program.sections)) then first_unwanted v rest else Some s

-- no section takes more than 10 to the 12 steps
abbrev pub greatest_cost : ℕ
greatest_cost = 10 ^ 12

abbrev pub cost_fault : Section → Statements → Option Fault
cost_fault section body =
    if nat_le (section_cost section body) greatest_cost then None else Some (record { rule = BudgetTooLarge; section = section; place = suc (size body) })

-- a section's first fault; its cost is judged last, at its end
abbrev pub fault_of : Section → Statements → Flowed → Option Fault
fault_of section body (Err fault) = Some (record { rule = fault.0; section = section; place = fault.1 })
fault_of section body (Ok s) = cost_fault section body

-- the first fault of these sections
abbrev pub first_fault : Subject → List (Section × Statements) → Option Fault
first_fault v [] = None
first_fault v (p ∷ rest) = or_first (fault_of p.0 p.1 (section_flow v p.0)) (first_fault v rest)

-- sections are looked for before any is walked through
abbrev pub walked : Subject → Option Section → Option Fault
walked v None = first_fault v v.program.sections
walked v (Some section) = Some (record { rule = MissingSection; section = section; place = 0 })

abbrev pub program_fault : Subject → Option Fault
program_fault v = walked v (first_unwanted v all_sections)

abbrev pub costs : List (Section × Statements) → List (Section × ℕ)
costs [] = []
costs (p ∷ rest) = (p.0, section_cost p.0 p.1) ∷ costs rest

abbrev pub verified : Subject → Verified
verified v = record { own = amount (own Ram v) (own Caps v); cost = costs v.program.sections; requests = section_requests v }

abbrev pub verdict_of : Subject → Option Fault → Result Verified Fault
verdict_of v None = Ok (verified v)
verdict_of v (Some fault) = Err fault

-- what the verifier says of a program, with the service that it provides, all interfaces, the greatest values of its inputs and the number of its signals
abbrev pub verdict : Program → Option (List ℕ) → Interfaces → List ℕ → ℕ → Result Verified Fault
verdict program provides interfaces inputs signals =
    let v : Subject = record { program = program; provided = service_in provides interfaces; interfaces = interfaces; inputs = inputs; signals = signals } in
    verdict_of v (program_fault v)
