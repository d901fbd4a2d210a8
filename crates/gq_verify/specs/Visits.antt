-- What a visitor is shown of a section, one after the other.
use Rattle.std.specs.Prelude.{◌≡◌, ℕ, ◌+◌, max, List, [], ◌∷◌, ◌++◌, Option, Some, None}
use Rattle.gq_model.specs.declared.program.Instruction.{Instruction}
use Rattle.gq_model.specs.declared.section.Section.{Section}
use Rattle.gq_model.specs.machine.Lists.{greatest}
use Rattle.gq_model.specs.machine.Program.{Statements, Done, Do, If, Loop, size, section_in}
use Rattle.gq_model.specs.rules.Flow.{at, context, flow, start_of, state_or}
use Rattle.gq_model.specs.rules.Kinds.{AbstractState, Subject, Context, inside}
use Rattle.gq_model.specs.rules.Rules.{judged}

-- what is known of slots alone
abbrev pub slots_of : AbstractState → AbstractState
slots_of s = record s { bounds = [] }

-- a statement, with what is known before it; or a point: the number of the statement that it comes after, and what is known there
pub data Sight : Type 0 where
  At_statement : Context → AbstractState → Instruction → Sight
  At_point : ℕ → AbstractState → Sight

-- what is shown of the statements of a list, before which there are k; the point after an `if` or a `loop` comes after those inside it
abbrev pub sights : Context → ℕ → AbstractState → Statements → List Sight
sights c k s Done = []
sights c k s (Do i rest) =
    let t = state_or s (at 1 (judged c s i)) in At_statement c (slots_of s) i ∷ At_point (k + 1) (slots_of t) ∷ sights c (k + 1) t rest
sights c k s (If arm other rest) =
    let t = slots_of s in
    let w = state_or t (flow c t arm) in
    sights c (k + 1) t arm ++ sights c (k + 1 + size arm) t other ++ At_point (k + 1) (slots_of w) ∷ sights c (k + 1 + size arm + size other) w rest
sights c k s (Loop n body rest) =
    sights (inside c n) (k + 1) s body ++ At_point (k + 1) (slots_of s) ∷ sights c (k + 1 + size body) s rest

-- from the start of a section on, where it is there
abbrev pub sights_by : Subject → Section → Option Statements → List Sight
sights_by v section None = []
sights_by v section (Some body) =
    let s = start_of v section in At_point 0 (slots_of s) ∷ sights (context v section) 0 s body

-- what is shown of a section
abbrev pub section_sights : Subject → Section → List Sight
section_sights v section = sights_by v section (section_in section v.program.sections)

-- each of these leads on, from the first value to the last
abbrev pub Shows : {A : Type 0} → (A → Sight → A → Type 0) → A → List Sight → A → Type 0
Shows f a [] b = a ≡ b
Shows {A = A} f a (e ∷ rest) b = (m : A) × f a e m × Shows f m rest b

-- OF POINTS

-- the points among what is shown, each with the number of the statement before it
abbrev pub shown_points : List Sight → List (ℕ × AbstractState)
shown_points [] = []
shown_points (At_statement c s i ∷ rest) = shown_points rest
shown_points (At_point k s ∷ rest) = (k, s) ∷ shown_points rest

-- the greatest number at a point that is shown
abbrev pub most_shown : (AbstractState → ℕ) → List Sight → ℕ
most_shown f seen = greatest (λ (p : ℕ × AbstractState). f p.1) (shown_points seen)

-- a number after what is shown next, where points raise it
abbrev pub raised : (AbstractState → ℕ) → ℕ → Sight → ℕ
raised f n (At_statement c s i) = n
raised f n (At_point k s) = max n (f s)

-- what is kept after all of these, of which each changes it so
abbrev pub after_all : {B : Type 0} → (B → Sight → B) → B → List Sight → B
after_all go x [] = x
after_all go x (e ∷ rest) = after_all go (go x e) rest
