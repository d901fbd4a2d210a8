-- The four bytes of a number.
use Rattle.std.proofs.Common.{◌≡◌, ℕ, zero, suc, ◌+◌, ◌/◌, ◌%◌, ◌^◌, ◌<◌, ◌≤◌, [], ◌∷◌, ap, ◌∙◌, arith}
use Rattle.std.proofs.Math.Nat.{div-div-eq-div-mul}
use Rattle.gq_model.specs.machine.Program.{spelled, little}
use Rattle.gq_store.specs.Store.{word, IsWord}
use Rattle.gq_store.specs.Chunk_bytes.{HasBytes}

-- one byte that is there
pub one_there : (f : ℕ → ℕ) (o b : ℕ) → f o ≡ b → HasBytes f o (b ∷ [])
one_there f o b e zero l = ap f (omega arith) ∙ e
one_there f o b e (suc j) l = absurd (omega arith)

second : (n : ℕ) → n / 65536 ≡ n / 256 / 256
second n = let e : n / 256 / 256 ≡ n / 65536 = div-div-eq-div-mul n 256 256 in omega arith

third : (n : ℕ) → n / 16777216 ≡ n / 256 / 256 / 256
third n =
    let e : n / 256 / 256 ≡ n / 65536 = div-div-eq-div-mul n 256 256 in
    let f : n / 65536 / 256 ≡ n / 16777216 = div-div-eq-div-mul n 65536 256 in
    omega (arith, ap (λ m. m / 256) e)

-- the bytes of a word are those that its number is spelled by
pub word_there : (f : ℕ → ℕ) (o n : ℕ) → n < 2 ^ 32 → IsWord f o n → HasBytes f o (spelled 4 n)
word_there f o n s w zero l = ap f (omega arith) ∙ w.at_0
word_there f o n s w (suc zero) l = w.at_1
word_there f o n s w (suc (suc zero)) l = w.at_2 ∙ ap (λ m. m % 256) (second n)
word_there f o n s w (suc (suc (suc zero))) l = w.at_3 ∙ omega (arith, third n)
word_there f o n s w (suc (suc (suc (suc j)))) l = absurd (omega arith)

-- four bytes that spell a number are its word
pub little_word : (f : ℕ → ℕ) (o : ℕ) → little (f o ∷ f (o + 1) ∷ f (o + 2) ∷ f (o + 3) ∷ []) ≡ word f o
little_word f o = omega arith

-- the number that the bytes of a word spell
pub spelt : (f : ℕ → ℕ) (o n : ℕ) → IsWord f o n → word f o ≡ n
spelt f o n w =
    let a : n / 256 / 256 ≡ n / 65536 = div-div-eq-div-mul n 256 256 in
    let b : n / 65536 / 256 ≡ n / 16777216 = div-div-eq-div-mul n 65536 256 in
    omega (arith, w.at_0, w.at_1, w.at_2, w.at_3)

-- where four bytes are the same, so is the word
pub word_same : (f g : ℕ → ℕ) (o : ℕ) → ((i : ℕ) → o ≤ i → i < o + 4 → f i ≡ g i) → word f o ≡ word g o
word_same f g o h = omega (
  arith,
  h o (omega arith) (omega arith),
  h (o + 1) (omega arith) (omega arith),
  h (o + 2) (omega arith) (omega arith),
  h (o + 3)
      (omega arith) (omega arith),
)

-- the word of the bytes from o on
pub word_shifted : (f : ℕ → ℕ) (o i : ℕ) → word (λ j. f (o + j)) i ≡ word f (o + i)
word_shifted f o i =
    let a : f (o + (i + 1)) ≡ f (o + i + 1) = ap f (omega arith) in
    let b : f (o + (i + 2)) ≡ f (o + i + 2) = ap f (omega arith) in
    let c : f (o + (i + 3)) ≡ f (o + i + 3) = ap f (omega arith) in
    omega (arith, a, b, c)
