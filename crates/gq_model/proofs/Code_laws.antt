-- What is written for a number or a text is read back.
use Rattle.std.proofs.Common.{◌≡◌, ℕ, ◌≤◌, List, [], ◌∷◌, ◌++◌, length, Bool, true, refl, ap, ◌∙◌, arith}
use Rattle.std.specs.Prelude.{Ok}
use Rattle.gq_model.specs.machine.Program.{spelled, little}
use Rattle.gq_model.specs.machine.Lists.{between, all_of}
use Rattle.gq_model.specs.texts.Decode.{CodeFault, BadNesting, BadOperand, Decoded, decoded_then, first_onto, cut, number_at, checked, text_at}

-- as many bytes as there are before others
pub cut-append : (fault : CodeFault) (xs rest : List ℕ) → cut (length xs) fault (xs ++ rest) ≡ Ok (xs, rest)
cut-append fault [] rest = refl
cut-append fault (x ∷ xs) rest = ap (first_onto x) (cut-append fault xs rest)

little-spelled_1 : (n : ℕ) → n ≤ 255 → little (spelled 1 n) ≡ n
little-spelled_1 n h = omega (arith, h)

little-spelled_2 : (n : ℕ) → n ≤ 65535 → little (spelled 2 n) ≡ n
little-spelled_2 n h = omega (arith, h)

little-spelled_4 : (n : ℕ) → n ≤ 4294967295 → little (spelled 4 n) ≡ n
little-spelled_4 n h = omega (arith, h)

-- a number of one, two or four bytes before others
pub number_at-spelled_1 : (fault : CodeFault) (n : ℕ) (rest : List ℕ) → n ≤ 255 → number_at 1 fault (spelled 1 n ++ rest) ≡ Ok (n, rest)
number_at-spelled_1 fault n rest h = ap (λ m. Ok (m, rest)) (little-spelled_1 n h)

pub number_at-spelled_2 : (fault : CodeFault) (n : ℕ) (rest : List ℕ) → n ≤ 65535 → number_at 2 fault (spelled 2 n ++ rest) ≡ Ok (n, rest)
number_at-spelled_2 fault n rest h = ap (λ m. Ok (m, rest)) (little-spelled_2 n h)

pub number_at-spelled_4 : (fault : CodeFault) (n : ℕ) (rest : List ℕ) → n ≤ 4294967295 → number_at 4 fault (spelled 4 n ++ rest) ≡ Ok (n, rest)
number_at-spelled_4 fault n rest h = ap (λ m. Ok (m, rest)) (little-spelled_4 n h)

pub checked_true : {A : Type 0} (b : Bool) (fault : CodeFault) (a : A) → b ≡ true → checked b fault a ≡ Ok a
checked_true b fault a e = ap (λ c. checked c fault a) e

-- a text after its length before others
pub text_at-length : (low high : ℕ) (test : ℕ → Bool) (text rest : List ℕ) → length text ≤ 255 → between low high (length text) ≡ true → all_of test text ≡ true
    → text_at low high test (length text ∷ text ++ rest) ≡ Ok (text, rest)
text_at-length low high test text rest short length_fits fits =
    let n = length text in
    let after : Decoded (ℕ × List ℕ) → Decoded (List ℕ × List ℕ) =
    λ q. decoded_then q (λ q. decoded_then (cut q.0 BadNesting q.1) (λ r. checked (all_of test r.0) BadOperand r)) in
    ap (λ m. after (checked (between low high m) BadOperand (m, text ++ rest))) (omega arith)
    ∙ ap after (checked_true (between low high n) BadOperand (n, text ++ rest) length_fits)
    ∙ ap (λ r. decoded_then r (λ r. checked (all_of test r.0) BadOperand r)) (cut-append BadNesting text rest)
    ∙ checked_true (all_of test text) BadOperand (text, rest) fits
