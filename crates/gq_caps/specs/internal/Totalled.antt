-- What is measured of each slot of a bank, and the sums that the bank keeps.
use Rattle.std.specs.Prelude.{◌≡◌, ◌≤◌, ℕ, ◌+◌, List, [], ◌∷◌, length}
use Rattle.std.proofs.Common.{sym}
use Rattle.gq_tariff.specs.Prices.{class_size}
use Rattle.gq_model.specs.machine.Amounts as amounts
use Rattle.gq_model.specs.rules.Kinds as kinds
use Rattle.gq_caps.specs.declared.kind.Kind.{Kind}
use Rattle.gq_caps.specs.Known.{all_known}
use Rattle.gq_caps.specs.Measured.{total_of, measured, limit_of}
use Rattle.gq_caps.specs.declared.totals.Measure.{Measure}
use Rattle.gq_tariff.specs.declared.class.Class.TheVariants.{Bytes16, Bytes32, Bytes64, Bytes128, Bytes256, Bytes512, Bytes1024, Bytes2048}
use Rattle.gq_caps.specs.declared.totals.Measure.TheVariants.{Ram, Caps, Places}
use Rattle.gq_caps.specs.declared.totals.Totals.{Totals}

-- what is measured of one slot
abbrev pub weight : Measure → kinds.Kind → ℕ
weight Ram k = kinds.kind_price amounts.Ram k + kinds.kind_lent amounts.Ram k
weight Caps k = kinds.kind_price amounts.Caps k + kinds.kind_lent amounts.Caps k
weight (Places class) k = kinds.kind_places (class_size class) k

-- no more than that is measured of a slot
abbrev pub IsSmall : kinds.Kind → Type 0
IsSmall k = (m : Measure) → weight m k ≤ limit_of m

-- nor of any of these
abbrev pub AreSmall : List kinds.Kind → Type 0
AreSmall [] = Unit {0}
AreSmall (k ∷ ks) = IsSmall k × AreSmall ks

-- the slots are few and small, and these are their sums
pub record IsTotalled (ks : List Kind) (t : Totals) : Type 0 where
  pub few : length ks ≤ 64
  pub small : AreSmall (all_known ks)
  pub sums : (m : Measure) → total_of t m ≡ measured m (all_known ks)

-- the sums of these
abbrev pub totals_of : List Kind → Totals
totals_of ks =
    record {
      ram = measured Ram (all_known ks);
      caps = measured Caps (all_known ks);
      bytes16 = measured (Places Bytes16) (all_known ks);
      bytes32 = measured (Places Bytes32) (all_known ks);
      bytes64 = measured (Places Bytes64) (all_known ks);
      bytes128 = measured (Places Bytes128) (all_known ks);
      bytes256 = measured (Places Bytes256) (all_known ks);
      bytes512 = measured (Places Bytes512) (all_known ks);
      bytes1024 = measured (Places Bytes1024) (all_known ks);
      bytes2048 = measured (Places Bytes2048) (all_known ks);
    }

-- no others are kept
pub totals_are : (ks : List Kind) (t : Totals) → IsTotalled ks t → totals_of ks ≡ t
totals_are ks t h =
    λ i. record {
      ram = sym (h.sums Ram) i;
      caps = sym (h.sums Caps) i;
      bytes16 = sym (h.sums (Places Bytes16)) i;
      bytes32 = sym (h.sums (Places Bytes32)) i;
      bytes64 = sym (h.sums (Places Bytes64)) i;
      bytes128 = sym (h.sums (Places Bytes128)) i;
      bytes256 = sym (h.sums (Places Bytes256)) i;
      bytes512 = sym (h.sums (Places Bytes512)) i;
      bytes1024 = sym (h.sums (Places Bytes1024)) i;
      bytes2048 = sym (h.sums (Places Bytes2048)) i;
    }
