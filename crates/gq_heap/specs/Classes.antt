-- The eight classes by number, from the least on.
use Rattle.std.specs.Prelude.{ℕ, suc, ◌*◌, ◌/◌, ◌^◌, nat_lt, if◌then◌else◌, List, [], ◌∷◌}
use Rattle.gq_tariff.specs.Prices.{classes}
use Rattle.gq_tariff.specs.declared.class.Class.{Class}
use Rattle.gq_tariff.specs.declared.class.Class.TheVariants.{Bytes16, Bytes32, Bytes64, Bytes128, Bytes256, Bytes512, Bytes1024, Bytes2048}

-- the number of a class
abbrev pub index_of : Class → ℕ
index_of Bytes16 = 0
index_of Bytes32 = 1
index_of Bytes64 = 2
index_of Bytes128 = 3
index_of Bytes256 = 4
index_of Bytes512 = 5
index_of Bytes1024 = 6
index_of Bytes2048 = 7

-- how many bytes a place of the i-th class has
unfoldable pub size_at : ℕ → ℕ
size_at i = 16 * 2 ^ i

-- how many places of the i-th class a chunk has
unfoldable pub places_at : ℕ → ℕ
places_at i = 256 / 2 ^ i

-- how many of these sizes are too small for n bytes, before the first that is not
abbrev pub too_small : List ℕ → ℕ → ℕ
too_small [] n = 0
too_small (c ∷ cs) n = if nat_lt c n then suc (too_small cs n) else 0

-- the number of the class of a block of n bytes
abbrev pub class_for : ℕ → ℕ
class_for = too_small classes
