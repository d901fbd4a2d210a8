-- The price list: what is paid, in bytes and in capabilities, for what is held.
use Rattle.std.specs.Prelude.{ℕ, ◌+◌, ◌*◌, ◌/◌, nat_lt, if◌then◌else◌, List, [], ◌∷◌}
use Rattle.gq_tariff.specs.declared.class.Class.{Class}
use Rattle.gq_tariff.specs.declared.class.Class.TheVariants.{Bytes16, Bytes32, Bytes64, Bytes128, Bytes256, Bytes512, Bytes1024, Bytes2048}
use Rattle.gq_tariff.specs.declared.price.Held.{Held}
use Rattle.gq_tariff.specs.declared.price.Held.TheVariants.{Space, Slice, Block, Pool, Places}

-- n in whole pages of 4096 bytes
abbrev pub up : ℕ → ℕ
up n = (n + 4095) / 4096 * 4096

-- CLASSES OF THE HEAP

-- the bytes of a place of a class
abbrev pub class_size : Class → ℕ
class_size Bytes16 = 16
class_size Bytes32 = 32
class_size Bytes64 = 64
class_size Bytes128 = 128
class_size Bytes256 = 256
class_size Bytes512 = 512
class_size Bytes1024 = 1024
class_size Bytes2048 = 2048

-- the sizes of the eight classes
abbrev pub classes : List ℕ
classes = 16 ∷ 32 ∷ 64 ∷ 128 ∷ 256 ∷ 512 ∷ 1024 ∷ 2048 ∷ []

-- the least of these sizes that holds n bytes, or 0 where none does
abbrev pub least_of : List ℕ → ℕ → ℕ
least_of [] n = 0
least_of (c ∷ cs) n = if nat_lt c n then least_of cs n else c

-- the size of the class of a block of n bytes
abbrev pub size_for : ℕ → ℕ
size_for = least_of classes

-- THE LIST

-- how much is held: bytes, the entries of a table, or places
abbrev pub amount_of : Held → ℕ
amount_of (Space n) = n
amount_of (Slice n) = n
amount_of (Block n) = n
amount_of (Pool m) = m
amount_of (Places class peak) = peak

-- a slice has 32 bytes of bookkeeping, a block of at most 2048 bytes is a place of the heap, the table of a pool has
-- four bytes for each of its entries, and places of a class are paid for by the greatest number in use at one time
abbrev pub price_bytes : Held → ℕ
price_bytes (Space n) = up n
price_bytes (Slice n) = up (n + 32)
price_bytes (Block n) = if nat_lt 2048 n then up n else 0
price_bytes (Pool m) = up (4 * m)
price_bytes (Places class peak) = up (class_size class * peak)

-- a dataspace costs one capability; places of a class lie in chunks of one page, each a dataspace
abbrev pub price_capabilities : Held → ℕ
price_capabilities (Space n) = 1
price_capabilities (Slice n) = 1
price_capabilities (Block n) = if nat_lt 2048 n then 1 else 0
price_capabilities (Pool m) = 1
price_capabilities (Places class peak) = up (class_size class * peak) / 4096
