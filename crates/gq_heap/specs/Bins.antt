-- What the places of a class cost.
use Rattle.std.specs.Prelude.{ℕ, ◌+◌, ◌*◌, max}
use Rattle.gq_tariff.specs.Prices.{up}
use Rattle.gq_heap.specs.declared.bin.Bin.{Bin}

-- the price of places of z bytes with this peak
abbrev pub bin_price : ℕ → ℕ → ℕ
bin_price z peak = up (z * peak)

-- the peak when one place more is in use
abbrev pub next_peak : Bin → ℕ
next_peak bin = max bin.peak (bin.count + 1)
