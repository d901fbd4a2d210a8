-- The price list, for each resource.
use Rattle.std.specs.Prelude.{ℕ, ◌+◌, ◌*◌, ◌/◌, List, [], ◌∷◌}
use Rattle.gq_tariff.specs.Prices.{up, classes, price_bytes, price_capabilities}
use Rattle.gq_tariff.specs.declared.price.Held.{Held}
use Rattle.gq_tariff.specs.declared.price.Held.TheVariants as held
use Rattle.gq_model.specs.machine.Amounts.{Resource, Ram, Caps}
use Rattle.gq_model.specs.machine.Program.{Form, Block, Slice, Space}

-- what is paid of each resource for what is held
abbrev pub price : Resource → Held → ℕ
price Ram h = price_bytes h
price Caps h = price_capabilities h

abbrev pub price_memory : Resource → Form → ℕ → ℕ
price_memory r Space n = price r (held.Space n)
price_memory r Slice n = price r (held.Slice n)
price_memory r Block n = price r (held.Block n)

-- the table of a pool with m entries
abbrev pub price_pool : Resource → ℕ → ℕ
price_pool r m = price r (held.Pool m)

-- n bytes of a class, in chunks of one page of which each costs a capability
abbrev pub chunks : Resource → ℕ → ℕ
chunks Ram n = up n
chunks Caps n = up n / 4096

-- what these classes cost, by the greatest number of places in use of each
abbrev pub heap_of : Resource → List ℕ → List ℕ → ℕ
heap_of r [] peaks = 0
heap_of r (c ∷ cs) [] = 0
heap_of r (c ∷ cs) (peak ∷ peaks) = chunks r (c * peak) + heap_of r cs peaks

abbrev pub heap : Resource → List ℕ → ℕ
heap r = heap_of r classes
