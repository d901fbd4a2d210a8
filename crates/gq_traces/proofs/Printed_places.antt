-- The places of steps are printed, where programs have their operands in range.
use Rattle.std.proofs.Common.{◌≡◌, ℕ, zero, suc, ◌+◌, Bool, true, false, cond, List, [], ◌∷◌, Option, Some, None, refl}
use Rattle.std.specs.Prelude.{nat_lt, decimal, codes, slice_get, slice_set}
use Rattle.gq_model.specs.declared.phase.Phase.{Phase}
use Rattle.gq_model.specs.declared.phase.Phase.TheVariants.{Pending, Running, Blocked, Serving, Handling, Exited}
use Rattle.gq_model.specs.declared.program.Instruction.{Instruction}
use Rattle.gq_model.specs.declared.section.Section.{Section}
use Rattle.gq_model.specs.declared.section.Section.TheVariants.{Main, Opening, Upgrading, Calling, Closing, Reacting}
use Rattle.gq_model.specs.machine.Lists.{all_of}
use Rattle.gq_model.specs.machine.Program.{Statements, Done, Do, If, Loop, body_of, section_in, size}
use Rattle.gq_model.specs.machine.Sections.{same_section, section_word}
use Rattle.gq_model.specs.machine.Scenario.{Component}
use Rattle.gq_model.specs.machine.Step.{first_signal, oldest}
use Rattle.gq_model.specs.machine.World.{Leaf, Request, Signal, World, section_of}
use Rattle.gq_model.specs.texts.Operands.{in_range, operands}
use Rattle.gq_laws.specs.Shapes.{Each}
use Rattle.gq_laws.specs.internal.Remaining_instructions.{AllAre}
use Rattle.gq_machine.specs.Readers.{requested}
use Rattle.gq_views.specs.Listing.{loop_text}
use Rattle.gq_traces.specs.Step_positions.{Ahead, Entered, NumberedStatements, Ends, Does, Chooses, Repeats, StepPosition, after_body, after_round, ahead}
use Rattle.gq_traces.specs.Step_positions.{at_request, at_signal, body_in, chosen}
use Rattle.gq_traces.specs.Step_positions.{end_place, first_request, next_place, numbered, past, place_in, request_place, signal_place, start_aheads, stepped}
use Rattle.gq_traces.proofs.Printed_instructions.{instruction_printed}
use Rattle.gq_traces.proofs.Printed_numbers.{IsPrinted, both, number_printed}

abbrev pub IsInRange : Instruction → Type 0
IsInRange i = all_of in_range (operands i) ≡ true

-- STATEMENTS

abbrev pub AreTexts : NumberedStatements → Type 0
AreTexts Ends = Unit {0}
AreTexts (Does k text rest) = IsPrinted text × AreTexts rest
AreTexts (Chooses k arm other) = AreTexts arm × AreTexts other
AreTexts (Repeats k n body rest) = AreTexts body × AreTexts rest

abbrev pub AreEntered : List Entered → Type 0
AreEntered = Each (λ e. AreTexts e.body × AreTexts e.rest)

pub record AreAhead (a : Ahead) : Type 0 where
  pub todo : AreTexts a.todo
  pub loops : AreEntered a.loops

numbered_texts : (k : ℕ) (s : Statements) (after : NumberedStatements) → AllAre IsInRange s → AreTexts after → AreTexts (numbered k s after)
numbered_texts k Done after h g = g
numbered_texts k (Do i rest) after h g = (instruction_printed i h.0, numbered_texts (suc k) rest after h.1 g)
numbered_texts k (If arm other rest) after h g =
    let later = numbered_texts (suc k + size arm + size other) rest after h.2 g in (
      numbered_texts (suc k) arm (numbered (suc k + size arm + size other) rest after) h.0 later,
      numbered_texts (suc k + size arm) other (numbered (suc k + size arm + size other) rest after) h.1 later,
    )
numbered_texts k (Loop n body rest) after h g = (numbered_texts (suc k) body Ends h.1 tt, numbered_texts (suc k + size body) rest after h.2 g)

ahead_texts : (body : Statements) → AllAre IsInRange body → AreAhead (ahead body)
ahead_texts body h = record { todo = numbered_texts 1 body Ends h tt; loops = tt }

-- SECTIONS

-- the sections of a component's program
abbrev pub AreSections : Component → Type 0
AreSections c = Each (λ p. AllAre IsInRange p.1) c.node.program.sections

body_ranged : (section : Section) (sections : List (Section × Statements)) → Each (λ p. AllAre IsInRange p.1) sections
    → AllAre IsInRange (body_of (section_in section sections))
body_ranged section [] h = tt
body_ranged section (p ∷ rest) h = by (same_section section p.0) (body_ranged section rest h.1)
  where
    by : (b : Bool) → AllAre IsInRange (body_of (section_in section rest)) → AllAre IsInRange (body_of (cond b (Some p.1) (section_in section rest)))
    by true k = h.0
    by false k = k

section_texts : (c : Component) (section : Section) → AreSections c → AreAhead (ahead (body_in c section))
section_texts c section h = ahead_texts (body_in c section) (body_ranged section c.node.program.sections h)

pub start_texts : (cs : List Component) → ((x : ℕ) (c : Component) → slice_get cs x ≡ Some c → AreSections c) → Each AreAhead (start_aheads cs)
start_texts [] h = tt
start_texts (c ∷ rest) h = (section_texts c Main (h 0 c refl), start_texts rest (λ x d e. h (suc x) d e))

-- MOVES

round_texts : (again : Bool) (e : Entered) (loops : List Entered) → AreEntered (e ∷ loops) → AreAhead (after_round again e loops)
round_texts true e loops h = record { todo = h.0.0; loops = (h.0, h.1) }
round_texts false e loops h = record { todo = h.0.1; loops = h.1 }

body_texts : (loops : List Entered) → AreEntered loops → AreAhead (after_body loops)
body_texts [] h = record { todo = tt; loops = tt }
body_texts (e ∷ loops) h = round_texts (nat_lt (suc e.round) e.count) e loops h

chosen_texts : (ops : List ℕ) (arm other : NumberedStatements) → AreTexts arm → AreTexts other → AreTexts (chosen ops arm other)
chosen_texts [] arm other h g = g
chosen_texts (zero ∷ ops) arm other h g = g
chosen_texts (suc n ∷ ops) arm other h g = h

past_texts : (ops : List ℕ) (n : NumberedStatements) (loops : List Entered) → AreTexts n → AreEntered loops → AreAhead (past ops n loops)
past_texts ops Ends loops h g = body_texts loops g
past_texts ops (Does k text rest) loops h g = record { todo = h.1; loops = g }
past_texts ops (Chooses k arm other) loops h g = record { todo = chosen_texts ops arm other h.0 h.1; loops = g }
past_texts ops (Repeats k n body rest) loops h g = record { todo = h.0; loops = (h, g) }

request_texts : (c : Component) (w : World) (o : Option Request) → AreSections c → AreAhead (at_request c w o)
request_texts c w None h = record { todo = tt; loops = tt }
request_texts c w (Some r) h = section_texts c (requested w r) h

signal_texts : (c : Component) (f : Option (ℕ × List Signal)) (other : Ahead) → AreSections c → AreAhead other → AreAhead (at_signal c f other)
signal_texts c None other h g = g
signal_texts c (Some p) other h g = section_texts c (Reacting p.0) h

pub stepped_texts : (w : World) (x : ℕ) (c : Component) (leaf : Leaf) (a : Ahead) (phase : Phase) → AreSections c → AreAhead a
    → AreAhead (stepped w x c leaf a phase)
stepped_texts w x c leaf a Running h g = past_texts leaf.operands a.todo a.loops g.todo g.loops
stepped_texts w x c leaf a Handling h g = past_texts leaf.operands a.todo a.loops g.todo g.loops
stepped_texts w x c leaf a Serving h g =
    signal_texts c (first_signal leaf.signals) (at_request c w (first_request (oldest w x w.requests))) h
    (request_texts c w (first_request (oldest w x w.requests)) h)
stepped_texts w x c leaf a Pending h g = g
stepped_texts w x c leaf a Blocked h g = g
stepped_texts w x c leaf a Exited h g = g

-- one of some is another
pub set_texts : (aheads : List Ahead) (x : ℕ) (a : Ahead) → Each AreAhead aheads → AreAhead a → Each AreAhead (slice_set aheads x a)
set_texts [] x a h g = tt
set_texts (b ∷ rest) zero a h g = (g, h.1)
set_texts (b ∷ rest) (suc x) a h g = (h.0, set_texts rest x a h.1 g)

-- PLACES

loop_printed : (n : ℕ) → IsPrinted (loop_text n)
loop_printed n = both (codes "loop ") (decimal n) refl (number_printed n)

end_printed : (c : Component) (section : Section) (loops : List Entered) → IsPrinted (end_place c section loops).statement
end_printed c section [] = refl
end_printed c section (e ∷ loops) = both (codes " ") (loop_text e.count) refl (loop_printed e.count)

next_printed : (c : Component) (section : Section) (n : NumberedStatements) (loops : List Entered) → AreTexts n → IsPrinted
    (next_place c section n loops).statement
next_printed c section Ends loops h = end_printed c section loops
next_printed c section (Does k text rest) loops h = both (codes " ") text refl h.0
next_printed c section (Chooses k arm other) loops h = refl
next_printed c section (Repeats k n body rest) loops h = both (codes " ") (loop_text n) refl (loop_printed n)

abbrev pub IsPlace : Option StepPosition → Type 0
IsPlace None = Unit {0}
IsPlace (Some p) = IsPrinted p.statement

request_printed : (w : World) (o : Option Request) → IsPlace (request_place w o)
request_printed w None = tt
request_printed w (Some r) = refl

signal_printed : (f : Option (ℕ × List Signal)) (other : Option StepPosition) → IsPlace other → IsPlace (signal_place f other)
signal_printed None other h = h
signal_printed (Some p) other h = refl

pub place_printed : (w : World) (x : ℕ) (c : Component) (leaf : Leaf) (a : Ahead) (phase : Phase) → AreAhead a → IsPlace (place_in w x c leaf a phase)
place_printed w x c leaf a Running h = next_printed c (section_of leaf.current leaf.reacting) a.todo a.loops h.todo
place_printed w x c leaf a Handling h = next_printed c (section_of leaf.current leaf.reacting) a.todo a.loops h.todo
place_printed w x c leaf a Serving h =
    signal_printed (first_signal leaf.signals) (request_place w (first_request (oldest w x w.requests)))
    (request_printed w (first_request (oldest w x w.requests)))
place_printed w x c leaf a Pending h = tt
place_printed w x c leaf a Blocked h = tt
place_printed w x c leaf a Exited h = tt

pub section_printed : (section : Section) → IsPrinted (section_word section)
section_printed Main = refl
section_printed Opening = refl
section_printed (Upgrading l) = both (codes "up ") (decimal l) refl (number_printed l)
section_printed (Calling l) = both (codes "call ") (decimal l) refl (number_printed l)
section_printed (Closing l) = both (codes "close ") (decimal l) refl (number_printed l)
section_printed (Reacting i) = both (codes "on ") (decimal i) refl (number_printed i)
