-- Who uses whom, how often, and the budgets of steps.
use Rattle.std.specs.Prelude.{ℕ, zero, suc, ◌+◌, ◌*◌, ◌==◌, if◌then◌else◌, Bool, false, ◌&&◌, ◌||◌, List, [], ◌∷◌, ◌++◌, length, Option, Some, None, slice_get}
use Rattle.gq_model.specs.machine.Lists.{any_of}
use Rattle.gq_model.specs.machine.Program.{Instruction, Open, Statements, Done, Do, If, Loop}
use Rattle.gq_model.specs.machine.Sections.{Section, Main, Reacting}
use Rattle.gq_model.specs.machine.Scenario.{System, Component, service_in}
use Rattle.gq_model.specs.machine.Routes.{server_of}
use Rattle.gq_model.specs.machine.Step_budgets.{StepBudget}
use Rattle.gq_model.specs.rules.Kinds.{Subject}
use Rattle.gq_model.specs.rules.Budgets.{section_cost, section_requests}

-- a leaf's program and what it is judged by
abbrev pub subject : System → Component → Subject
subject system c =
    record {
      program = c.node.program;
      provided = service_in c.node.provides system.interfaces;
      interfaces = system.interfaces;
      inputs = c.node.inputs;
      signals = c.node.signals;
    }

-- SERVICES

abbrev pub opened_by : Instruction → List (List ℕ)
opened_by (Open at service n) = service ∷ []
opened_by _ = []

-- the services of the open statements, in the order of the text
abbrev pub services_of : Statements → List (List ℕ)
services_of Done = []
services_of (Do i rest) = opened_by i ++ services_of rest
services_of (If arm other rest) = services_of arm ++ services_of other ++ services_of rest
services_of (Loop n body rest) = services_of body ++ services_of rest

abbrev pub services_in : List (Section × Statements) → List (List ℕ)
services_in [] = []
services_in (p ∷ rest) = services_of p.1 ++ services_in rest

abbrev pub services : Component → List (List ℕ)
services c = services_in c.node.program.sections

-- a leaf that has been found is the x-th
abbrev pub is_there : ℕ → Option ℕ → Bool
is_there x None = false
is_there x (Some y) = y == x

-- this leaf opens a service of the x-th
abbrev pub uses : System → Component → ℕ → Bool
uses system c x = any_of (λ service. is_there x (server_of system c service)) (services c)

-- the leaves from the x-th on that this leaf uses
abbrev pub used_from : System → Component → ℕ → List Component → List ℕ
used_from system c x [] = []
used_from system c x (d ∷ rest) = (if uses system c x then x ∷ [] else []) ++ used_from system c (suc x) rest

abbrev pub used_at : System → Option Component → List ℕ
used_at system None = []
used_at system (Some c) = used_from system c 0 system.components

-- by a chain of at most n uses the x-th leaf reaches the y-th
abbrev pub reaches : ℕ → System → ℕ → ℕ → Bool
reaches zero system y x = false
reaches (suc n) system y x = any_of (λ z. z == y || reaches n system y z) (used_at system (slice_get system.components x))

-- TIMES

-- requests of these sections of a leaf, each as often as it runs
abbrev pub from_sections : (Section → ℕ) → Subject → List ℕ → Section → List (Section × Statements) → ℕ
from_sections often v service section [] = 0
from_sections often v service section (p ∷ rest) =
    often p.0 * section_requests v p.0 service section + from_sections often v service section rest

-- requests of the leaves from the y-th on whose route for the service leads to the x-th
abbrev pub from_leaves : (ℕ → Section → ℕ) → System → ℕ → List ℕ → Section → ℕ → List Component → ℕ
from_leaves often system x service section y [] = 0
from_leaves often system x service section y (c ∷ rest) =
    (if is_there x (server_of system c service) then from_sections (often y) (subject system c) service section c.node.program.sections else 0)
    + from_leaves often system x service section (suc y) rest

abbrev pub asked_of : (ℕ → Section → ℕ) → System → ℕ → Section → Option (List ℕ) → ℕ
asked_of often system x section None = 0
asked_of often system x section (Some service) = from_leaves often system x service section 0 system.components

abbrev pub provided_by : Option Component → Option (List ℕ)
provided_by None = None
provided_by (Some c) = c.node.provides

-- what makes leaves run: the start, or the i-th signal of a leaf
pub data Cause : Type 0 where
  The_start : Cause
  A_signal : (leaf i : ℕ) → Cause

-- how often the start runs `main`, and a signal each section that is done for one
abbrev pub starts_main : Cause → ℕ
starts_main The_start = 1
starts_main (A_signal y i) = 0

abbrev pub is_signal : Cause → ℕ → ℕ → Bool
is_signal The_start x i = false
is_signal (A_signal y j) x i = y == x && j == i

-- how often a section of the x-th leaf runs for one cause, by chains of at most `depth` uses: one of the service as often as it is asked for
abbrev pub times : ℕ → Cause → System → ℕ → Section → ℕ
times depth cause system x Main = starts_main cause
times depth cause system x (Reacting i) = if is_signal cause x i then 1 else 0
times zero cause system x section = 0
times (suc depth) cause system x section = asked_of (times depth cause system) system x section (provided_by (slice_get system.components x))

-- BUDGETS

abbrev pub steps_of : (Section → ℕ) → List (Section × Statements) → ℕ
steps_of often [] = 0
steps_of often (p ∷ rest) = often p.0 * section_cost p.0 p.1 + steps_of often rest

-- the steps of the x-th leaf for one cause: what its sections cost, each as often as it runs
abbrev pub steps_for : Cause → System → ℕ → Component → ℕ
steps_for cause system x c = steps_of (times (length system.components) cause system x) c.node.program.sections

-- those for the signals of the y-th leaf, from the i-th on
abbrev pub steps_for_signals : System → ℕ → Component → ℕ → ℕ → ℕ → List ℕ
steps_for_signals system x c y i zero = []
steps_for_signals system x c y i (suc n) = steps_for (A_signal y i) system x c ∷ steps_for_signals system x c y (suc i) n

-- those for the signals of the leaves from the y-th on
abbrev pub steps_for_leaves : System → ℕ → Component → ℕ → List Component → List (List ℕ)
steps_for_leaves system x c y [] = []
steps_for_leaves system x c y (d ∷ rest) = steps_for_signals system x c y 0 d.node.signals ∷ steps_for_leaves system x c (suc y) rest

-- its steps for the start, and for each signal of each leaf
abbrev pub step_budget : System → ℕ → Component → StepBudget
step_budget system x c = record { from_start = steps_for The_start system x c; for_signals = steps_for_leaves system x c 0 system.components }
