-- Names are ASCII.
use Rattle.std.proofs.Common.{◌≡◌, ℕ, zero, suc, ◌<◌, true, List, [], ◌∷◌, length, slice_index, arith}
use Rattle.std.proofs.lemmas.Bool.{and_parts}
use Rattle.std.proofs.lemmas.Bool.Decides.{nat_tests}
use Rattle.gq_model.specs.machine.Lists.{all_of, between}
use Rattle.gq_model.specs.texts.Letters.{is_name_byte, is_name}

ascii_byte : (c : ℕ) → is_name_byte c ≡ true → c < 128
ascii_byte c e = grind (arith, nat_tests)

ascii_bytes : (bytes : List ℕ) → all_of is_name_byte bytes ≡ true → (i : ℕ) → slice_index bytes i < 128
ascii_bytes [] e i = omega arith
ascii_bytes (c ∷ rest) e zero = let (here, more) = and_parts (is_name_byte c) (all_of is_name_byte rest) e in ascii_byte c here
ascii_bytes (c ∷ rest) e (suc i) = let (here, more) = and_parts (is_name_byte c) (all_of is_name_byte rest) e in ascii_bytes rest more i

pub ascii_name : (name : List ℕ) → is_name name ≡ true → (i : ℕ) → slice_index name i < 128
ascii_name name e = let (few, bytes) = and_parts (between 1 16 (length name)) (all_of is_name_byte name) e in ascii_bytes name bytes
