-- How the charge rises.
use Rattle.std.proofs.Common.{◌≡◌, ℕ, zero, suc, ◌+◌, ◌-◌, ◌/◌, ◌<◌, ◌≤◌, List, [], ◌∷◌, length, get_or, set, cond, true, false, ltb, Option, Some, None, refl}
use Rattle.std.proofs.Common.{sym, ap, ◌∙◌, add-zero, zero-add, arith}
use Rattle.std.proofs.lemmas.Bool.Decides.{nat_tests}
use Rattle.gq_tariff.specs.Prices.{up}
use Rattle.gq_store.specs.Store.{one_more, plus_caps}
use Rattle.gq_heap.specs.declared.bin.Bin.{Bin}
use Rattle.gq_heap.specs.declared.heap.Heap.{Heap}
use Rattle.gq_heap.specs.Classes.{size_at, class_for}
use Rattle.gq_heap.specs.Bins.{bin_price, next_peak}
use Rattle.gq_heap.specs.Heap.{no_bin, bin_at, class_rise, rise, rise_caps}
use Rattle.gq_heap.proofs.Heap_change_parts.{price_from, charge_from}

pub price_set : (i j : ℕ) (ss : List Bin) (s : Bin) → j < length ss
    → price_from i (set ss j s) + bin_price (size_at (i + j)) (get_or ss j no_bin).peak ≡ price_from i ss + bin_price (size_at (i + j)) s.peak
price_set i j [] s h = absurd (omega arith)
price_set i zero (x ∷ ss) s h = omega (arith, ap (λ m. bin_price (size_at m) s.peak) (add-zero i), ap (λ m. bin_price (size_at m) x.peak) (add-zero i))
price_set i (suc j) (x ∷ ss) s h =
    let e : i + suc j ≡ i + 1 + j = omega arith in
    rw e (omega (arith, price_set (i + 1) j ss s (omega arith)))

pub charge_set : (before after : Heap) (j : ℕ) (s : Bin) → j < length before.bins → after.bins ≡ set before.bins j s → after.large ≡ before.large
    → charge_from after + bin_price (size_at j) (bin_at before j).peak ≡ charge_from before + bin_price (size_at j) s.peak
charge_set before after j s h bins large =
    omega (
      arith,
      ap (price_from 0) bins,
      large,
      price_set 0 j before.bins s h,
      ap (λ m. bin_price (size_at m) s.peak) (zero-add j),
      ap (λ m. bin_price (size_at m) (bin_at before j).peak) (zero-add j),
    )

pub is_small : (n : ℕ) → n ≤ 2048 → ltb 2048 n ≡ false
is_small n h = grind (arith, nat_tests)

pub is_large : (n : ℕ) → 2048 < n → ltb 2048 n ≡ true
is_large n h = grind (arith, nat_tests)

pub rise_small : (heap : Heap) (n i : ℕ) → n ≤ 2048 → i ≡ class_for n
    → rise heap n ≡ bin_price (size_at i) (next_peak (bin_at heap i)) - bin_price (size_at i) (bin_at heap i).peak
rise_small heap n i h e =
    ap (λ b. cond b (up n) (class_rise heap n)) (is_small n h)
    ∙ ap (λ j. bin_price (size_at j) (next_peak (bin_at heap j)) - bin_price (size_at j) (bin_at heap j).peak) (sym e)

pub cancel : (a b d : ℕ) (x y : Option ℕ) → plus_caps a x ≡ plus_caps b y → a ≡ b + d → y ≡ plus_caps d x
cancel a b d None None h e = refl
cancel a b d None (Some n) h e = absurd (cc)
cancel a b d (Some m) None h e = absurd (cc)
cancel a b d (Some m) (Some n) h e = let f : m + a ≡ n + b = cc in ap Some (omega arith)

pub plus_one : (x : Option ℕ) → one_more x ≡ plus_caps 1 x
plus_one None = refl
plus_one (Some n) = refl

pub plus_none : (x : Option ℕ) → x ≡ plus_caps 0 x
plus_none None = refl
plus_none (Some n) = ap Some (omega arith)

pub pages_more : (m n : ℕ) → up m ≤ up n → up n / 4096 ≡ up m / 4096 + (up n - up m) / 4096
pages_more m n h = omega arith

pub caps_small : (heap : Heap) (n : ℕ) → n ≤ 2048 → rise_caps heap n ≡ rise heap n / 4096
caps_small heap n h =
    let b : ltb 2048 n ≡ false = is_small n h in
    ap (λ b. cond b 1 (class_rise heap n / 4096)) b ∙ sym (ap (λ b. cond b (up n) (class_rise heap n) / 4096) b)

pub caps_large : (heap : Heap) (n : ℕ) → 2048 < n → rise_caps heap n ≡ 1
caps_large heap n h = ap (λ b. cond b 1 (class_rise heap n / 4096)) (is_large n h)
