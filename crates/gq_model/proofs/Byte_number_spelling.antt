-- Lists of bytes, and the numbers that they spell.
use Rattle.std.proofs.Common.{◌≡◌, ℕ, zero, suc, ◌+◌, ◌*◌, ◌/◌, ◌%◌, ◌<◌, ◌≤◌, List, [], ◌∷◌, length, true, refl, ap, arith, IsTrue}
use Rattle.std.proofs.lemmas.Bool.{and_parts, and_from, leb-true, le-leb}
use Rattle.std.specs.Prelude.{nat_le}
use Rattle.gq_model.specs.machine.Lists.{all_of, between}
use Rattle.gq_model.specs.machine.Program.{spelled, little}

abbrev pub AreBytes : List ℕ → Type 0
AreBytes [] = Unit {0}
AreBytes (b ∷ bytes) = (b < 256) × AreBytes bytes

-- the same as a test
pub bytes_by_test : (bytes : List ℕ) → IsTrue (all_of (between 0 255) bytes) → AreBytes bytes
bytes_by_test [] h = tt
bytes_by_test (b ∷ bytes) h =
    let parts = and_parts (between 0 255 b) (all_of (between 0 255) bytes) h in
    let le : b ≤ 255 = leb-true b 255 (and_parts (nat_le 0 b) (nat_le b 255) parts.0).1 in (omega (arith, le), bytes_by_test bytes parts.1)

pub test_of_bytes : (bytes : List ℕ) → AreBytes bytes → IsTrue (all_of (between 0 255) bytes)
test_of_bytes [] h = refl
test_of_bytes (b ∷ bytes) h =
    let low : nat_le 0 b ≡ true = le-leb 0 b (omega arith) in
    let high : nat_le b 255 ≡ true = le-leb b 255 (omega (arith, h.0)) in
    and_from (between 0 255 b) (all_of (between 0 255) bytes) (and_from (nat_le 0 b) (nat_le b 255) low high) (test_of_bytes bytes h.1)

-- a number is spelled by bytes
pub spelled_bytes : (k n : ℕ) → AreBytes (spelled k n)
spelled_bytes zero n = tt
spelled_bytes (suc k) n = (omega arith, spelled_bytes k (n / 256))

-- they are spelled by the number that they spell
pub spelled-little : (bytes : List ℕ) → AreBytes bytes → spelled (length bytes) (little bytes) ≡ bytes
spelled-little [] h = refl
spelled-little (b ∷ bytes) h =
    let n = little bytes in
    let first : (b + 256 * n) % 256 ≡ b = omega (arith, h.0) in
    let rest : (b + 256 * n) / 256 ≡ n = omega (arith, h.0) in rw (first, rest) (ap (λ l. b ∷ l) (spelled-little bytes h.1))
