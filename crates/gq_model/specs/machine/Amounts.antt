-- The two kinds of quota.
use Rattle.std.specs.Prelude.{ℕ, ◌+◌, nat_le, ◌==◌, if◌then◌else◌, Bool, ◌&&◌, List, [], ◌∷◌}
-- quota of RAM is in bytes, quota of capabilities in their number
pub use Rattle.gq_tariff.specs.declared.amount.Resource.{Resource}
pub use Rattle.gq_tariff.specs.declared.amount.Resource.TheVariants.{Ram, Caps}
-- how much there is of each
pub use Rattle.gq_tariff.specs.declared.amount.Amount.{Amount}

abbrev pub amount : ℕ → ℕ → Amount
amount ram caps = record { ram = ram; caps = caps }

-- how much of one resource an amount has
abbrev pub part : Resource → Amount → ℕ
part Ram a = a.ram
part Caps a = a.caps

-- both parts added
abbrev pub plus : Amount → Amount → Amount
plus a b = amount (a.ram + b.ram) (a.caps + b.caps)

abbrev pub total : List Amount → Amount
total [] = amount 0 0
total (a ∷ rest) = plus a (total rest)

abbrev pub same_amount : Amount → Amount → Bool
same_amount a b = a.ram == b.ram && a.caps == b.caps

-- versions from 2 on count capabilities
abbrev pub counts_caps : ℕ → Bool
counts_caps version = nat_le 2 version

-- version 1 counts RAM alone, and refuses nothing for want of capabilities
abbrev pub counted_in : ℕ → List Resource
counted_in version = if counts_caps version then Ram ∷ Caps ∷ [] else Ram ∷ []
