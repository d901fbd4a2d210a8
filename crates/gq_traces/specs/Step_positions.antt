-- Where a leaf stands in the text of its program: its section and the number of its next statement.
use Rattle.std.specs.Prelude.{ℕ, zero, suc, ◌+◌, nat_lt, Bool, true, false, List, [], ◌∷◌, ◌++◌, Option, Some, None, codes}
use Rattle.gq_model.specs.declared.section.Section.{Section}
use Rattle.gq_model.specs.declared.section.Section.TheVariants.{Main, Reacting}
use Rattle.gq_model.specs.declared.phase.Phase.{Phase}
use Rattle.gq_model.specs.declared.phase.Phase.TheVariants.{Pending, Running, Blocked, Serving, Handling, Exited}
use Rattle.gq_model.specs.machine.Program.{Statements, Done, Do, If, Loop, size, section_in, body_of}
use Rattle.gq_model.specs.machine.Scenario.{Component}
use Rattle.gq_model.specs.machine.World.{Request, Signal, Leaf, World, section_of}
use Rattle.gq_model.specs.machine.Step.{first_signal, oldest}
use Rattle.gq_machine.specs.Readers.{requested}
use Rattle.gq_views.specs.Listing.{instruction_text, loop_text}

-- Statements, each with its number in the text of its section; one with no statement in it has its text. Each arm of an `if` has behind it what follows
-- the `if`.
pub data NumberedStatements : Type 0 where
  Ends : NumberedStatements
  Does : (number : ℕ) (text : List ℕ) (rest : NumberedStatements) → NumberedStatements
  Chooses : (number : ℕ) (arm other : NumberedStatements) → NumberedStatements
  Repeats : (number count : ℕ) (body rest : NumberedStatements) → NumberedStatements

-- Statements, the first of which has this number, before others. An `if` or a `loop` is counted before what is in it.
abbrev pub numbered : ℕ → Statements → NumberedStatements → NumberedStatements
numbered k Done after = after
numbered k (Do i rest) after = Does k (instruction_text i) (numbered (suc k) rest after)
numbered k (If arm other rest) after =
    let next = numbered (suc k + size arm + size other) rest after in
    Chooses k (numbered (suc k) arm next) (numbered (suc k + size arm) other next)
numbered k (Loop n body rest) after = Repeats k n (numbered (suc k) body Ends) (numbered (suc k + size body) rest after)

-- a loop that was entered: its number, how often it goes round and in which round it is, from 0, its body, and what comes after it
pub record Entered : Type 0 where
  pub number : ℕ
  pub count : ℕ
  pub round : ℕ
  pub body : NumberedStatements
  pub rest : NumberedStatements

-- what a leaf has before it: statements, and the loops that it is in, the innermost first
pub record Ahead : Type 0 where
  pub todo : NumberedStatements
  pub loops : List Entered

-- at the start of a section
abbrev pub ahead : Statements → Ahead
ahead body = record { todo = numbered 1 body Ends; loops = [] }

-- MOVES

-- any top operand but 0 chooses the first
abbrev pub chosen : {A : Type 0} → List ℕ → A → A → A
chosen [] arm other = other
chosen (zero ∷ operands) arm other = other
chosen (suc n ∷ operands) arm other = arm

-- after the body of a loop comes its next round, or what follows the loop
abbrev pub after_round : Bool → Entered → List Entered → Ahead
after_round true e loops = record { todo = e.body; loops = record e { round = suc e.round } ∷ loops }
after_round false e loops = record { todo = e.rest; loops = loops }

abbrev pub after_body : List Entered → Ahead
after_body [] = ahead Done
after_body (e ∷ loops) = after_round (nat_lt (suc e.round) e.count) e loops

abbrev pub entered : ℕ → ℕ → NumberedStatements → NumberedStatements → Entered
entered k n body rest = record { number = k; count = n; round = 0; body = body; rest = rest }

-- past the next statement of a leaf with these operands
abbrev pub past : List ℕ → NumberedStatements → List Entered → Ahead
past operands Ends loops = after_body loops
past operands (Does k text rest) loops = record { todo = rest; loops = loops }
past operands (Chooses k arm other) loops = record { todo = chosen operands arm other; loops = loops }
past operands (Repeats k n body rest) loops = record { todo = body; loops = entered k n body rest ∷ loops }

-- REQUESTS AND SIGNALS

abbrev pub first_request : Option (Request × List Request) → Option Request
first_request None = None
first_request (Some p) = Some p.0

abbrev pub body_in : Component → Section → Statements
body_in c section = body_of (section_in section c.node.program.sections)

abbrev pub at_request : Component → World → Option Request → Ahead
at_request c w None = ahead Done
at_request c w (Some r) = ahead (body_in c (requested w r))

-- a signal that is submitted is taken before any request
abbrev pub at_signal : Component → Option (ℕ × List Signal) → Ahead → Ahead
at_signal c None other = other
at_signal c (Some p) other = ahead (body_in c (Reacting p.0))

-- what the x-th leaf has before it once it has taken a step
abbrev pub stepped : World → ℕ → Component → Leaf → Ahead → Phase → Ahead
stepped w x c leaf a Running = past leaf.operands a.todo a.loops
stepped w x c leaf a Handling = past leaf.operands a.todo a.loops
stepped w x c leaf a Serving = at_signal c (first_signal leaf.signals) (at_request c w (first_request (oldest w x w.requests)))
stepped w x c leaf a Pending = a
stepped w x c leaf a Blocked = a
stepped w x c leaf a Exited = a

abbrev pub start_aheads : List Component → List Ahead
start_aheads [] = []
start_aheads (c ∷ rest) = ahead (body_in c Main) ∷ start_aheads rest

-- PLACES

-- the place of a step: a section, a number, and the first line of a statement behind a blank, which is missing at the end and at the start of a section
pub record StepPosition : Type 0 where
  pub section : Section
  pub number : ℕ
  pub statement : List ℕ

abbrev pub place : Section → ℕ → List ℕ → StepPosition
place section k statement = record { section = section; number = k; statement = statement }

-- at the end of a body of a loop the loop itself is next
abbrev pub end_place : Component → Section → List Entered → StepPosition
end_place c section [] = place section (suc (size (body_in c section))) []
end_place c section (e ∷ loops) = place section e.number (codes " " ++ loop_text e.count)

abbrev pub next_place : Component → Section → NumberedStatements → List Entered → StepPosition
next_place c section Ends loops = end_place c section loops
next_place c section (Does k text rest) loops = place section k (codes " " ++ text)
next_place c section (Chooses k arm other) loops = place section k (codes " if")
next_place c section (Repeats k n body rest) loops = place section k (codes " " ++ loop_text n)

abbrev pub request_place : World → Option Request → Option StepPosition
request_place w None = None
request_place w (Some r) = Some (place (requested w r) 0 [])

abbrev pub signal_place : Option (ℕ × List Signal) → Option StepPosition → Option StepPosition
signal_place None other = other
signal_place (Some p) other = Some (place (Reacting p.0) 0 [])

-- the place of the next step of the x-th leaf, if it can take one
abbrev pub place_in : World → ℕ → Component → Leaf → Ahead → Phase → Option StepPosition
place_in w x c leaf a Running = Some (next_place c (section_of leaf.current leaf.reacting) a.todo a.loops)
place_in w x c leaf a Handling = Some (next_place c (section_of leaf.current leaf.reacting) a.todo a.loops)
place_in w x c leaf a Serving = signal_place (first_signal leaf.signals) (request_place w (first_request (oldest w x w.requests)))
place_in w x c leaf a Pending = None
place_in w x c leaf a Blocked = None
place_in w x c leaf a Exited = None
