-- The charge, class by class.
use Rattle.std.proofs.Common.{◌≡◌, ℕ, zero, suc, ◌+◌, ◌*◌, ◌<◌, ◌≤◌, List, [], ◌∷◌, length, get_or, set, replicate, drop, refl, ap, ◌∙◌, arith}
use Rattle.std.proofs.lemmas.List.{drop_more}
use Rattle.std.proofs.lemmas.Nat.{mul-le}
use Rattle.gq_tariff.specs.Prices.{up, classes}
use Rattle.gq_model.specs.machine.Amounts.{Ram, Caps}
use Rattle.gq_model.specs.machine.Resource_prices.{heap_of, heap as class_prices}
use Rattle.gq_heap.specs.declared.bin.Bin.{Bin}
use Rattle.gq_heap.specs.declared.heap.Heap.{Heap}
use Rattle.gq_heap.specs.Classes.{size_at}
use Rattle.gq_heap.specs.Heap.{no_bin, peaks_of, peaks, charge, charge_caps}
use Rattle.gq_heap.proofs.Heap_change_parts.{price_from, charge_from, caps_from}

pub class_at : (i : ℕ) → i < 8 → get_or classes i 0 ≡ size_at i
unfolding size_at
class_at zero h = refl
class_at (suc zero) h = refl
class_at (suc (suc zero)) h = refl
class_at (suc (suc (suc zero))) h = refl
class_at (suc (suc (suc (suc zero)))) h = refl
class_at (suc (suc (suc (suc (suc zero))))) h = refl
class_at (suc (suc (suc (suc (suc (suc zero)))))) h = refl
class_at (suc (suc (suc (suc (suc (suc (suc zero))))))) h = refl
class_at (suc (suc (suc (suc (suc (suc (suc (suc i)))))))) h = absurd (omega arith)

prices_are : (i : ℕ) (cs : List ℕ) (bs : List Bin) → length bs ≡ length cs → ((j : ℕ) → j < length cs → get_or cs j 0 ≡ size_at (i + j))
    → price_from i bs ≡ heap_of Ram cs (peaks_of bs)
prices_are i [] [] e h = refl
prices_are i (c ∷ cs) [] e h = absurd (omega arith)
prices_are i [] (b ∷ bs) e h = absurd (omega arith)
prices_are i (c ∷ cs) (b ∷ bs) e h =
    let here : c ≡ size_at i = h zero (omega arith) ∙ ap size_at (omega arith) in
    let rest = prices_are (i + 1) cs bs (omega arith) (λ j l. h (suc j) (omega arith) ∙ ap size_at (omega arith)) in
    omega (arith, rest, ap (λ z. up (z * b.peak)) here)

-- the price of the bins is that of their peaks in the price list
pub price_is : (bs : List Bin) → length bs ≡ 8 → price_from 0 bs ≡ class_prices Ram (peaks_of bs)
price_is bs e = prices_are 0 classes bs e (λ j l. class_at j l ∙ ap size_at (omega arith))

-- a capability for each page
pub pages_are : (cs ps : List ℕ) → heap_of Caps cs ps * 4096 ≡ heap_of Ram cs ps
pages_are [] ps = refl
pages_are (c ∷ cs) [] = refl
pages_are (c ∷ cs) (p ∷ ps) = omega (arith, pages_are cs ps)

pub charge_is : (heap : Heap) → length heap.bins ≡ 8 → charge heap ≡ charge_from heap
charge_is heap e = omega (arith, price_is heap.bins e)

pub caps_are : (heap : Heap) → length heap.bins ≡ 8 → charge_caps heap ≡ caps_from heap
caps_are heap e = omega (arith, price_is heap.bins e, pages_are classes (peaks heap))

price_none : (i n : ℕ) → price_from i (replicate n no_bin) ≡ 0
price_none i zero = refl
price_none i (suc n) = omega (arith, price_none (i + 1) n)

pub none_charged : (heap : Heap) → heap.bins ≡ replicate 8 no_bin → heap.large ≡ 0 → charge heap ≡ 0
none_charged heap bins large = omega (arith, charge_is heap (ap length bins), ap (price_from 0) bins, large, price_none 0 8)

pub no_caps : (heap : Heap) → heap.bins ≡ replicate 8 no_bin → heap.large_count ≡ 0 → charge_caps heap ≡ 0
no_caps heap bins count = omega (arith, caps_are heap (ap length bins), ap (price_from 0) bins, count, price_none 0 8)

pub charge_step : (i : ℕ) (bs : List Bin) → i < length bs
    → price_from i (drop i bs) ≡ up (size_at i * (get_or bs i no_bin).peak) + price_from (i + 1) (drop (i + 1) bs)
charge_step i bs h = ap (price_from i) (drop_more bs i no_bin h)

-- a bin with the same peak in place of another
pub peaks_stay : (bs : List Bin) (j : ℕ) (b : Bin) → b.peak ≡ (get_or bs j no_bin).peak → peaks_of (set bs j b) ≡ peaks_of bs
peaks_stay [] j b e = refl
peaks_stay (x ∷ bs) zero b e = ap (λ p. p ∷ peaks_of bs) e
peaks_stay (x ∷ bs) (suc j) b e = ap (λ ps. x.peak ∷ ps) (peaks_stay bs j b e)

pub peak_small : (z n : ℕ) → z ≤ 4096 → n < 4294967296 → z * n ≤ 4096 * 4294967295
peak_small z n a b = mul-le z n 4096 4294967295 a (omega arith)
