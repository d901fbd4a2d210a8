-- The words of the table of statements.
use Rattle.std.proofs.Common.{◌≡◌, ℕ, ◌==◌, Bool, true, false, List, [], ◌∷◌, Some}
use Rattle.std.specs.Prelude.{if◌then◌else◌}
use Rattle.std.proofs.lemmas.Bool.{and_parts}
use Rattle.gq_model.specs.machine.Lists.{all_of}
use Rattle.gq_model.specs.texts.Spelling.{Shape, Spelling, shape_of_opcode, word_of_opcode}
use Rattle.gq_model.proofs.Small_facts.{none_some}

-- a test that each word of the table passes is passed by the word of the statement with a number that is there
pub word_passes : (test : List ℕ → Bool) (ps : List Spelling) (code : ℕ) (shape : Shape) → shape_of_opcode code ps ≡ Some shape
    → all_of (λ p. test p.word) ps ≡ true → test (word_of_opcode code ps) ≡ true
word_passes test [] code shape e h = absurd (none_some e)
word_passes test (p ∷ rest) code shape e h =
    let both = and_parts (test p.word) (all_of (λ p. test p.word) rest) h in
    by (code == p.opcode) both.0 e (λ f. word_passes test rest code shape f both.1)
  where
    by : (b : Bool) → test p.word ≡ true → (if b then Some p.shape else shape_of_opcode code rest) ≡ Some shape
        → (shape_of_opcode code rest ≡ Some shape → test (word_of_opcode code rest) ≡ true)
        → test (if b then p.word else word_of_opcode code rest) ≡ true
    by true here f further = here
    by false here f further = further f
