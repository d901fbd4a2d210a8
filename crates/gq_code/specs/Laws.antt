-- What programs and their code are to each other.
use Rattle.std.specs.Prelude.{◌≡◌, ℕ, List, ◌∷◌, ◌++◌, Ok, IsErr, IsTrue}
use Rattle.gq_model.specs.machine.Lists.{all_of, between}
use Rattle.gq_model.specs.machine.Program.{Program}
use Rattle.gq_model.specs.texts.Code.{IsProgram, code_of}
use Rattle.gq_model.specs.texts.Decode.{decoded}

-- a list of bytes
abbrev pub AreBytes : List ℕ → Type 0
AreBytes bytes = IsTrue (all_of (between 0 255) bytes)

-- the code of a program is a list of bytes
abbrev pub CodeIsBytes : Type 0
CodeIsBytes = (p : Program) → IsProgram p → AreBytes (code_of p)

-- it is decoded as that program
abbrev pub CodeIsReadBack : Type 0
CodeIsReadBack = (p : Program) → IsProgram p → decoded (code_of p) ≡ Ok p

-- what bytes are decoded as is a program, and they are its code
abbrev pub OnlyCodeIsRead : Type 0
OnlyCodeIsRead = (bytes : List ℕ) (p : Program) → AreBytes bytes → decoded bytes ≡ Ok p → IsProgram p × (code_of p ≡ bytes)

-- programs with the same code are the same
abbrev pub CodeReportsPrograms : Type 0
CodeReportsPrograms = (p q : Program) → IsProgram p → IsProgram q → code_of p ≡ code_of q → p ≡ q

-- no two codes begin the same bytes: none is a proper prefix of another
abbrev pub CodeEndsItself : Type 0
CodeEndsItself = (p q : Program) (a b : List ℕ) → IsProgram p → IsProgram q → code_of p ++ a ≡ code_of q ++ b → (p ≡ q) × (a ≡ b)

-- a part of a program's code, from its first byte but not up to its last, is refused
abbrev pub PartsAreRefused : Type 0
PartsAreRefused = (p : Program) (prefix : List ℕ) (b : ℕ) (rest : List ℕ) → IsProgram p → code_of p ≡ prefix ++ b ∷ rest → IsErr (decoded prefix)
