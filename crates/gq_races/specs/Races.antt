-- Leaves whose sections may run for several threads, the statements by which these threads can report of one another, those that read inputs, and the
-- sections that signals begin.
use Rattle.std.specs.Prelude.{◌≡◌, ◌<◌, ℕ, zero, suc, ◌+◌, ◌==◌, if◌then◌else◌, Bool, true, false, ◌&&◌, ◌||◌, not, List, [], ◌∷◌, ◌++◌, length, get_or}
use Rattle.gq_model.specs.declared.program.Instruction.{Instruction}
use Rattle.gq_model.specs.declared.program.Instruction.TheVariants.{Say, Out, Operands, Store, Take, Give, Poke, Call, Make, MakePool, Free, Open, Upgrade}
use Rattle.gq_model.specs.declared.program.Instruction.TheVariants.{Close}
use Rattle.gq_model.specs.declared.program.OperandStatement.TheVariants.{Numbered}
use Rattle.gq_model.specs.declared.program.WithNumber.TheVariants.{Input}
use Rattle.gq_model.specs.declared.program.OperandSlot.{OperandSlot}
use Rattle.gq_model.specs.declared.program.OperandSlot.TheVariants.{Own, Shared, Object}
use Rattle.gq_model.specs.declared.section.Section.{Section}
use Rattle.gq_model.specs.declared.section.Section.TheVariants.{Reacting}
use Rattle.gq_model.specs.machine.Program.{Statements, Done, Do, If, Loop, size}
use Rattle.gq_model.specs.machine.Lists.{any_of}
use Rattle.gq_model.specs.machine.Scenario.{Scenario, System, Component, system}
use Rattle.gq_model.specs.machine.Routes.{server_of}
use Rattle.gq_model.specs.machine.Sections.{is_own_section, is_start_section}
use Rattle.gq_model.specs.rules.Use.{services_of, is_there}

-- OWNERS

-- these statements of a leaf open sessions with the x-th
abbrev pub opens : System → ℕ → Component → Statements → Bool
opens system x c statements = any_of (λ service. is_there x (server_of system c service)) (services_of statements)

-- a leaf opens sessions with the x-th in `main`, or for a signal, where an accepted program opens none: `main` and these sections are one thread
abbrev pub opens_first : System → ℕ → Component → Bool
opens_first system x c = any_of (λ p. is_own_section p.0 && opens system x c p.1) c.node.program.sections

-- and in another section
abbrev pub opens_later : System → ℕ → Component → Bool
opens_later system x c = any_of (λ p. not (is_own_section p.0) && opens system x c p.1) c.node.program.sections

-- where one holds, the other does
abbrev pub implies : Bool → Bool → Bool
implies a b = not a || b

-- each of these leaves, of which the first is the y-th, opens sessions with the x-th in `main` only if it is z, and in another section only if its owner is z
abbrev pub all_for : (ℕ → Bool) → System → ℕ → ℕ → ℕ → List Component → Bool
all_for owned system z x y [] = true
all_for owned system z x y (c ∷ rest) =
    implies (opens_first system x c) (y == z) && implies (opens_later system x c) (owned y) && all_for owned system z x (suc y) rest

-- by chains of fewer than n leaves the owner of the x-th leaf is z: all sessions with it are opened in `main` of z, or in another section of a leaf whose owner
-- is z
abbrev pub owns : ℕ → System → ℕ → ℕ → Bool
owns zero system z x = false
owns (suc n) system z x = all_for (owns n system z) system z x 0 system.components

-- uses have no cycle, so no chain has more leaves than there are
abbrev pub is_owner : System → ℕ → ℕ → Bool
is_owner system z x = owns (length system.components) system z x

abbrev pub any_below : (ℕ → Bool) → ℕ → Bool
any_below test zero = false
any_below test (suc n) = test n || any_below test n

-- no leaf is the owner; where nobody opens sessions with a leaf, each is
abbrev pub is_shared : System → ℕ → Bool
is_shared system x = not (any_below (λ z. is_owner system z x) (length system.components))

-- of each leaf of a scenario whether it is shared
pub record AreSharedOf (s : Scenario) (shared : List Bool) : Type 0 where
  pub count : length shared ≡ length (system s).components
  pub each : (x : ℕ) (b : Bool) → x < length shared → b ≡ get_or shared x b → b ≡ is_shared (system s) x

-- STATEMENTS

abbrev pub is_own : OperandSlot → Bool
is_own (Own i) = true
is_own (Shared i) = false
is_own Object = false

-- changes an own slot, what is in it, or what is behind it; of these an accepted program stores, takes, gives, pokes and calls alone outside `main`
abbrev pub changes_own : Instruction → Bool
changes_own (Store width place) = is_own place
changes_own (Take place) = is_own place
changes_own (Give place) = is_own place
changes_own (Poke place) = is_own place
changes_own (Call place) = is_own place
changes_own (Make form place n) = is_own place
changes_own (MakePool place n m) = is_own place
changes_own (Free place) = is_own place
changes_own (Open place service n) = is_own place
changes_own (Upgrade place n) = is_own place
changes_own (Close place) = is_own place
changes_own _ = false

-- reads an input of its leaf
abbrev pub reads_input : Instruction → Bool
reads_input (Operands (Numbered Input n)) = true
reads_input _ = false

-- writes a line
abbrev pub writes_line : Instruction → Bool
writes_line (Say text) = true
writes_line Out = true
writes_line _ = false

-- opens a session of a leaf with the x-th
abbrev pub opens_with : System → ℕ → Component → Instruction → Bool
opens_with system x c (Open place service n) = is_there x (server_of system c service)
opens_with system x c _ = false

-- the statements of a kind in a list whose first is the n-th, with their numbers
abbrev pub found_in : (Instruction → Bool) → ℕ → Statements → List (ℕ × Instruction)
found_in test n Done = []
found_in test n (Do i rest) = (if test i then (n, i) ∷ [] else []) ++ found_in test (suc n) rest
found_in test n (If arm other rest) =
    found_in test (suc n) arm ++ found_in test (suc n + size arm) other ++ found_in test (suc n + size arm + size other) rest
found_in test n (Loop count body rest) = found_in test (suc n) body ++ found_in test (suc n + size body) rest

-- a statement of a leaf, with its section and its number there, which counts from 1
pub record Stated : Type 0 where
  pub leaf : List ℕ
  pub section : Section
  pub place : ℕ
  pub statement : Instruction

abbrev pub each_stated : List ℕ → Section → List (ℕ × Instruction) → List Stated
each_stated leaf section [] = []
each_stated leaf section (c ∷ rest) = record { leaf = leaf; section = section; place = c.0; statement = c.1 } ∷ each_stated leaf section rest

-- those of a leaf, of a kind in each section
abbrev pub stated_in : (Section → Instruction → Bool) → List ℕ → List (Section × Statements) → List Stated
stated_in test leaf [] = []
stated_in test leaf (p ∷ rest) = each_stated leaf p.0 (found_in (test p.0) 1 p.1) ++ stated_in test leaf rest

-- RACES, INPUTS AND ORDERS

-- a section of a leaf that is shared, or not, may run for several threads: each of a shared leaf but `main`
abbrev pub for_several : Bool → Section → Bool
for_several shared section = shared && not (is_start_section section)

-- a race: a statement that changes an own slot, where the section may run for several threads
abbrev pub is_race : Bool → Instruction → Bool
is_race several i = several && changes_own i

-- an input: an `in`, in any section
abbrev pub is_input : Bool → Instruction → Bool
is_input several i = reads_input i

-- an order: a statement that writes a line, where the section may run for several threads
abbrev pub is_order : Bool → Instruction → Bool
is_order several i = several && writes_line i

-- those of a leaf that is shared, or not
abbrev pub stated_of : (Bool → Instruction → Bool) → Bool → Component → List Stated
stated_of test shared c = stated_in (λ section. test (for_several shared section)) c.label c.node.program.sections

-- those of all leaves from the x-th on
abbrev pub stated_from : (Bool → Instruction → Bool) → System → ℕ → List Component → List Stated
stated_from test system x [] = []
stated_from test system x (c ∷ rest) = stated_of test (is_shared system x) c ++ stated_from test system (suc x) rest

abbrev pub races : Scenario → List Stated
races s = let all = system s in stated_from is_race all 0 all.components

abbrev pub inputs : Scenario → List Stated
inputs s = let all = system s in stated_from is_input all 0 all.components

abbrev pub orders : Scenario → List Stated
orders s = let all = system s in stated_from is_order all 0 all.components

-- no shared leaf changes an own slot outside `main`
abbrev pub IsRaceFree : Scenario → Type 0
IsRaceFree s = races s ≡ []

-- no leaf reads an input
abbrev pub IsInputFree : Scenario → Type 0
IsInputFree s = inputs s ≡ []

-- no shared leaf writes a line outside `main`
abbrev pub IsOrderFree : Scenario → Type 0
IsOrderFree s = orders s ≡ []

-- SIGNALS

-- a signal begins the section
abbrev pub is_reaction : Section → Bool
is_reaction (Reacting i) = true
is_reaction _ = false

-- a section of a leaf that a signal begins
pub record Reaction : Type 0 where
  pub leaf : List ℕ
  pub section : Section

abbrev pub reactions_in : List ℕ → List (Section × Statements) → List Reaction
reactions_in leaf [] = []
reactions_in leaf (p ∷ rest) = (if is_reaction p.0 then record { leaf = leaf; section = p.0 } ∷ [] else []) ++ reactions_in leaf rest

-- those of these leaves
abbrev pub reactions_from : List Component → List Reaction
reactions_from [] = []
reactions_from (c ∷ rest) = reactions_in c.label c.node.program.sections ++ reactions_from rest

abbrev pub reactions : Scenario → List Reaction
reactions s = reactions_from (system s).components

-- no leaf handles a signal
abbrev pub IsSignalFree : Scenario → Type 0
IsSignalFree s = reactions s ≡ []

-- OPENERS

-- where these leaves open sessions with the x-th
abbrev pub opened_by_from : System → ℕ → List Component → List Stated
opened_by_from system x [] = []
opened_by_from system x (c ∷ rest) =
    stated_in (λ section. opens_with system x c) c.label c.node.program.sections ++ opened_by_from system x rest

abbrev pub openers : System → ℕ → List Stated
openers system x = opened_by_from system x system.components
