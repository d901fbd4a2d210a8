-- What comes next at the places of programs, and what it asks.
use Rattle.std.specs.Prelude.{◌≡◌, ℕ, suc, List, [], ◌∷◌, length, Option, Some, slice_get}
use Rattle.gq_model.specs.declared.program.Instruction.{Instruction}
use Rattle.gq_model.specs.declared.program.Instruction.TheVariants.{Open, Upgrade, Call, Close}
use Rattle.gq_model.specs.declared.section.Section.{Section}
use Rattle.gq_model.specs.machine.Program.{Statements}
use Rattle.gq_bytecode.specs.Bytecode_layout.{width}
use Rattle.gq_outcomes.specs.internal.Left.{Ahead, Nothing, Instructs, Other, ahead_in}
use Rattle.gq_outcomes.specs.declared.asks.Asks.{Asks}
use Rattle.gq_outcomes.specs.declared.asks.Asks.TheVariants as asks
use Rattle.gq_outcomes.specs.declared.asks.SectionAsks.{SectionAsks}

-- what an instruction asks, by the servers of services
abbrev pub asked : (List ℕ → Option ℕ) → Instruction → Asks
asked server (Open place service n) = asks.Opens (server service)
asked server (Upgrade place n) = asks.Names place
asked server (Call place) = asks.Names place
asked server (Close place) = asks.Names place
asked server _ = asks.Other

abbrev pub asks_of : (List ℕ → Option ℕ) → Ahead → Asks
asks_of server Nothing = asks.Nothing
asks_of server (Instructs i) = asked server i
asks_of server Other = asks.Other

-- these are of the places of a section
pub record IsOfSection (server : List ℕ → Option ℕ) (p : Section × Statements) (s : SectionAsks) : Type 0 where
  pub section : s.section ≡ p.0
  pub count : length s.asks.items ≡ suc (width p.1)
  pub each : (k : ℕ) (a : Asks) → slice_get s.asks.items k ≡ Some a → a ≡ asks_of server (ahead_in p.1 k)

-- of the sections of a program, in their order
abbrev pub AreOfSections : (List ℕ → Option ℕ) → List (Section × Statements) → List SectionAsks → Type 0
AreOfSections server [] [] = Unit {0}
AreOfSections server (p ∷ sections) (s ∷ found) = IsOfSection server p s × AreOfSections server sections found
AreOfSections server [] (s ∷ found) = ⊥
AreOfSections server (p ∷ sections) [] = ⊥
