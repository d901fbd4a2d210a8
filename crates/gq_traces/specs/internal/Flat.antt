-- Numbered statements as a list of entries, each of which leads to others by their places.
use Rattle.std.specs.Prelude.{◌≡◌, ◌++◌, ◌-◌, ℕ, zero, suc, ◌+◌, ◌<◌, ◌∷◌, [], List, Option, Some, None, length, map, slice_get}
use Rattle.gq_model.specs.declared.section.Section.{Section}
use Rattle.gq_model.specs.machine.Program.{Program, Statements, size}
use Rattle.gq_model.specs.machine.Scenario.{Scenario, components}
use Rattle.gq_traces.specs.Step_positions.{Ahead, Chooses, Does, Ends, Entered, NumberedStatements, Repeats, numbered, past}
use Rattle.gq_traces.specs.declared.numbered_program.NumberedStatement.{NumberedStatement}
use Rattle.gq_traces.specs.declared.numbered_program.NumberedProgram.{NumberedProgram as Entries}
use Rattle.gq_traces.specs.declared.numbered_program.NumberedSection.{NumberedSection}
use Rattle.gq_traces.specs.declared.numbered_program.Way.{Way}
use Rattle.gq_traces.specs.declared.numbered_program.Way.TheVariants as way
use Rattle.gq_traces.specs.declared.tracker.Ahead as places
use Rattle.gq_traces.specs.declared.tracker.Round.{Round}

-- ENTRIES

-- there is an entry of this number, and of its way this holds
abbrev pub IsAt : List NumberedStatement → Option ℕ → ℕ → (Way → Type 0) → Type 0
IsAt es next k P = (place : ℕ) × (w : Way) × (next ≡ Some place) × (slice_get es place ≡ Some (record { number = k; way = w })) × P w

abbrev pub IsPlain : (List ℕ → Option ℕ → Type 0) → Way → Type 0
IsPlain P (way.Plain text next) = P text.items next
IsPlain P (way.If arm other) = ⊥
IsPlain P (way.Loop count body next) = ⊥

abbrev pub IsIf : (Option ℕ → Option ℕ → Type 0) → Way → Type 0
IsIf P (way.Plain text next) = ⊥
IsIf P (way.If arm other) = P arm other
IsIf P (way.Loop count body next) = ⊥

abbrev pub IsLoop : (ℕ → Option ℕ → Option ℕ → Type 0) → Way → Type 0
IsLoop P (way.Plain text next) = ⊥
IsLoop P (way.If arm other) = ⊥
IsLoop P (way.Loop count body next) = P count body next

-- the entries from a place on are these statements
abbrev pub IsRead : List NumberedStatement → Option ℕ → NumberedStatements → Type 0
IsRead es next Ends = next ≡ None
IsRead es next (Does k text rest) = IsAt es next k (IsPlain (λ t n. (t ≡ text) × IsRead es n rest))
IsRead es next (Chooses k arm other) = IsAt es next k (IsIf (λ a o. IsRead es a arm × IsRead es o other))
IsRead es next (Repeats k n body rest) = IsAt es next k (IsLoop (λ m b r. (m ≡ n) × IsRead es b body × IsRead es r rest))

-- PUTTING

-- what was read before is read still
abbrev pub Keeps : List NumberedStatement → List NumberedStatement → Type 0
Keeps old new = (next : Option ℕ) (t : NumberedStatements) → IsRead old next t → IsRead new next t

-- an entry of the last number that is left was put behind all others
pub record PutsEntry (old new : Entries) (w : Way) (first : Option ℕ) : Type 0 where
  pub number : old.left ≡ suc new.left
  pub here : IsAt new.entries.items first (suc new.left) (λ v. v ≡ w)
  pub keeps : Keeps old.entries.items new.entries.items
  pub parts : new.parts ≡ old.parts

-- Statements were put, behind which a leaf goes on at `next`, and of which the first stands at `first`.
pub record Puts (old new : Entries) (statements : Statements) (next first : Option ℕ) : Type 0 where
  pub number : old.left ≡ new.left + size statements
  pub reads : (after : NumberedStatements) → IsRead old.entries.items next after → IsRead new.entries.items first (numbered (suc new.left) statements after)
  pub keeps : Keeps old.entries.items new.entries.items
  pub parts : new.parts ≡ old.parts

-- how many loops stand in one another in statements is at most n
abbrev pub IsWithin : ℕ → NumberedStatements → Type 0
IsWithin n Ends = Unit {0}
IsWithin n (Does k text rest) = IsWithin n rest
IsWithin n (Chooses k arm other) = IsWithin n arm × IsWithin n other
IsWithin n (Repeats k count body rest) = (0 < n) × IsWithin (n - 1) body × IsWithin n rest

-- a section of these statements
pub record IsPart (es : Entries) (statements : Statements) (p : NumberedSection) : Type 0 where
  pub reads : IsRead es.entries.items p.first (numbered 1 statements Ends)
  pub size : p.size ≡ size statements
  pub deep : IsWithin 4 (numbered 1 statements Ends)

abbrev pub ArePartsIn : Entries → List NumberedSection → List (Section × Statements) → Type 0
ArePartsIn es [] [] = Unit {0}
ArePartsIn es [] (s ∷ sections) = ⊥
ArePartsIn es (p ∷ parts) [] = ⊥
ArePartsIn es (p ∷ parts) (s ∷ sections) = (p.section ≡ s.0) × IsPart es s.1 p × ArePartsIn es parts sections

abbrev pub AreParts : Entries → List (Section × Statements) → Type 0
AreParts es sections = ArePartsIn es es.parts.items sections

-- one more section was put
abbrev pub PutsSection : Entries → Entries → Section → Statements → Type 0
PutsSection old new section statements =
    (sections : List (Section × Statements)) → AreParts old sections → AreParts new (sections ++ (section, statements) ∷ [])

abbrev pub IsProgramOf : Entries → Program → Type 0
IsProgramOf es p = AreParts es p.sections

abbrev pub ArePrograms : List Entries → List Program → Type 0
ArePrograms [] [] = Unit {0}
ArePrograms [] (p ∷ ps) = ⊥
ArePrograms (es ∷ programs) [] = ⊥
ArePrograms (es ∷ programs) (p ∷ ps) = IsProgramOf es p × ArePrograms programs ps

abbrev pub programs_of : Scenario → List Program
programs_of s = map (λ c. c.node.program) (components s)

-- WHERE A LEAF STANDS

-- a loop that was entered, by its entry
abbrev pub IsEntered : List NumberedStatement → Round → Entered → Type 0
IsEntered es r e =
    IsAt es (Some r.place) e.number (IsLoop (λ m b n. (m ≡ e.count) × IsRead es b e.body × IsRead es n e.rest)) × (r.round ≡ e.round)

abbrev pub AreEntered : List NumberedStatement → List Round → List Entered → Type 0
AreEntered es [] [] = Unit {0}
AreEntered es [] (e ∷ loops) = ⊥
AreEntered es (r ∷ rounds) [] = ⊥
AreEntered es (r ∷ rounds) (e ∷ loops) = IsEntered es r e × AreEntered es rounds loops

-- so it is of those after each loop that was entered, and of its body, of n in all
abbrev pub AreWithin : ℕ → List Entered → Type 0
AreWithin n [] = Unit {0}
AreWithin n (e ∷ loops) = (length loops < n) × IsWithin (n - suc (length loops)) e.body × IsWithin (n - length loops) e.rest × AreWithin n loops

pub record IsAhead (es : List NumberedStatement) (a : places.Ahead) (ahead : Ahead) : Type 0 where
  pub reads : IsRead es a.next ahead.todo
  pub loops : AreEntered es a.loops.items ahead.loops
  pub deep : IsWithin (4 - length ahead.loops) ahead.todo
  pub deep_loops : AreWithin 4 ahead.loops

-- a leaf stands somewhere
pub record Stands (es : List NumberedStatement) (a : places.Ahead) : Type 0 where
  pub ahead : Ahead
  pub is : IsAhead es a ahead

-- it stands past the step that it takes with these operands
abbrev pub Passes : List NumberedStatement → places.Ahead → places.Ahead → List ℕ → Type 0
Passes es old new operands = (t : Ahead) → IsAhead es old t → IsAhead es new (past operands t.todo t.loops)

-- where all leaves stand
abbrev pub AreAheads : List Entries → List places.Ahead → List Ahead → Type 0
AreAheads [] [] [] = Unit {0}
AreAheads (es ∷ programs) (a ∷ rest) (t ∷ aheads) = IsAhead es.entries.items a t × AreAheads programs rest aheads
AreAheads _ _ _ = ⊥

-- each leaf stands somewhere
abbrev pub AllStand : List Entries → List places.Ahead → Type 0
AllStand [] [] = Unit {0}
AllStand [] (a ∷ rest) = ⊥
AllStand (es ∷ programs) [] = ⊥
AllStand (es ∷ programs) (a ∷ rest) = Stands es.entries.items a × AllStand programs rest

-- where a leaf goes on after a statement of this way that has none in it
abbrev pub plain_way : Way → Option (Option ℕ)
plain_way (way.Plain text next) = Some next
plain_way (way.If arm other) = None
plain_way (way.Loop count body next) = None

abbrev pub plain_at : Option NumberedStatement → Option (Option ℕ)
plain_at None = None
plain_at (Some e) = plain_way e.way

-- where it goes on after the statement there, if that has none in it
abbrev pub plain_after : List NumberedStatement → Option ℕ → Option (Option ℕ)
plain_after es None = None
plain_after es (Some place) = plain_at (slice_get es place)

abbrev pub then_plain : Option (Option ℕ) → (Option ℕ → Option (Option ℕ)) → Option (Option ℕ)
then_plain None go = None
then_plain (Some next) go = go next

-- and after so many of them, one after the other
abbrev pub plain_ahead : List NumberedStatement → ℕ → Option ℕ → Option (Option ℕ)
plain_ahead es zero next = Some next
plain_ahead es (suc n) next = then_plain (plain_after es next) (plain_ahead es n)

-- the innermost loop goes round once more
abbrev pub another_round : List Round → List Round
another_round [] = []
another_round (r ∷ rounds) = record { place = r.place; round = r.round + 1 } ∷ rounds
