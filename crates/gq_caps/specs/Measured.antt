-- What is measured of slots.
use Rattle.std.specs.Prelude.{◌≤◌, ℕ, ◌*◌, ◌^◌, List, sum_by}
use Rattle.gq_tariff.specs.Prices.{class_size}
use Rattle.gq_tariff.specs.declared.class.Class.TheVariants.{Bytes16, Bytes32, Bytes64, Bytes128, Bytes256, Bytes512, Bytes1024, Bytes2048}
use Rattle.gq_model.specs.machine.Amounts as amounts
use Rattle.gq_model.specs.rules.Kinds as kinds
use Rattle.gq_caps.specs.declared.totals.Measure.{Measure}
use Rattle.gq_caps.specs.declared.totals.Measure.TheVariants.{Ram, Caps, Places}
use Rattle.gq_caps.specs.declared.totals.Totals.{Totals}

-- one of the numbers
abbrev pub total_of : Totals → Measure → ℕ
total_of t Ram = t.ram
total_of t Caps = t.caps
total_of t (Places Bytes16) = t.bytes16
total_of t (Places Bytes32) = t.bytes32
total_of t (Places Bytes64) = t.bytes64
total_of t (Places Bytes128) = t.bytes128
total_of t (Places Bytes256) = t.bytes256
total_of t (Places Bytes512) = t.bytes512
total_of t (Places Bytes1024) = t.bytes1024
total_of t (Places Bytes2048) = t.bytes2048

-- what is measured of slots
abbrev pub measured : Measure → List kinds.Kind → ℕ
measured Ram ks = kinds.kinds_cost amounts.Ram ks
measured Caps ks = kinds.kinds_cost amounts.Caps ks
measured (Places class) ks = sum_by (kinds.kind_places (class_size class)) ks

-- the most that is measured of one slot
abbrev pub limit_of : Measure → ℕ
limit_of Ram = 2 ^ 35
limit_of Caps = 2 ^ 35
limit_of (Places class) = 2 ^ 16

-- no more than that is measured of 64 slots
abbrev pub AreFew : Totals → Type 0
AreFew t = (m : Measure) → total_of t m ≤ 64 * limit_of m
