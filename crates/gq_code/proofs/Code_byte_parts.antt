-- The parts of code.
use Rattle.std.proofs.Common.{◌≡◌, ◌<◌, ◌≤◌, ℕ, zero, suc, arith, List, [], ◌∷◌, take, drop, ◌-◌, length, Ok, Err, refl, ap, sym, ◌∙◌, ◌^◌, get_or, Fits, w32}
use Rattle.std.proofs.Math.Nat.{pow-le-pow_right}
use Rattle.std.proofs.Math.Seq.{take-length}
use Rattle.gq_model.specs.declared.fault.CodeFault.{CodeFault}
use Rattle.gq_model.specs.texts.Decode.{first_onto, cut}

-- all of what follows
pub rest-all : (n : ℕ) (bytes : List ℕ) → take (length bytes - n) (drop n bytes) ≡ drop n bytes
rest-all zero bytes = ap (λ n. take n bytes) {x = length bytes - 0} {y = length bytes} (omega arith) ∙ take-length bytes
rest-all (suc n) [] = ap (λ m. take {A = ℕ} m []) {x = 0 - suc n} {y = 0} (omega arith)
rest-all (suc n) (b ∷ bytes) = ap (λ m. take m (drop n bytes)) {x = suc (length bytes) - suc n} {y = length bytes - n} (omega arith) ∙ rest-all n bytes

cut-taken : (n : ℕ) (fault : CodeFault) (bytes : List ℕ) → n ≤ length bytes → cut n fault bytes ≡ Ok (take n bytes, drop n bytes)
cut-taken zero fault bytes h = refl
cut-taken (suc n) fault [] h = absurd (omega (arith, h))
cut-taken (suc n) fault (b ∷ bytes) h = ap (first_onto b) (cut-taken n fault bytes (omega (arith, h)))

pub cut-take : (n : ℕ) (fault : CodeFault) (bytes : List ℕ) → n ≤ length bytes → cut n fault bytes ≡ Ok (take n bytes, take (length bytes - n) (drop n bytes))
cut-take n fault bytes h = cut-taken n fault bytes h ∙ ap (λ l. Ok (take n bytes, l)) (sym (rest-all n bytes))

pub cut-short : (n : ℕ) (fault : CodeFault) (bytes : List ℕ) → length bytes < n → cut n fault bytes ≡ Err fault
cut-short zero fault bytes h = absurd (omega (arith, h))
cut-short (suc n) fault [] h = refl
cut-short (suc n) fault (b ∷ bytes) h = ap (first_onto b) (cut-short n fault bytes (omega (arith, h)))

-- three bytes spell less than 2 to the 24
pub below : (n len : ℕ) → n < 256 ^ len → len ≤ 3 → n < 16777216
below n len h l = let k = pow-le-pow_right {n = 256} (omega arith) {i = len} {j = 3} l in omega (arith, h, k)

pub below_4 : (n len : ℕ) → n < 256 ^ len → len ≤ 4 → Fits w32 n
below_4 n len h l = let k = pow-le-pow_right {n = 256} (omega arith) {i = len} {j = 4} l in omega (arith, h, k)

-- all but the first byte
pub rest_length : (bytes : List ℕ) → 1 ≤ length bytes → suc (length (take (length bytes - 1) (drop 1 bytes))) ≡ length bytes
rest_length [] h = absurd (omega (arith, h))
rest_length (b ∷ bytes) h = ap (λ (l : List ℕ). suc (length l)) (rest-all 1 (b ∷ bytes))

-- the first byte, and the others
pub prefix : (bytes : List ℕ) → 1 ≤ length bytes → bytes ≡ get_or bytes 0 0 ∷ take (length bytes - 1) (drop 1 bytes)
prefix [] h = absurd (omega (arith, h))
prefix (b ∷ bytes) h = ap (λ l. b ∷ l) (sym (rest-all 1 (b ∷ bytes)))
