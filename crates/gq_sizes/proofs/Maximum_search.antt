-- The greatest of all, found one after the other.
use Rattle.std.proofs.Common.{◌≡◌, ℕ, ◌+◌, ◌<◌, ◌≤◌, max, Bool, true, false, List, length, get_or, drop, ap, arith}
use Rattle.std.specs.Prelude.{if◌then◌else◌}
use Rattle.gq_model.specs.machine.Lists.{greatest}
use Rattle.gq_verify.specs.Saturated_numbers.{saturated}
use Rattle.gq_verify.proofs.List_remainders.{next_left, none_left}

-- with one more
pub most_more : {A : Type 0} → (f : A → ℕ) (xs : List A) (i : ℕ) (x : A) (now next all : ℕ) → i < length xs → x ≡ get_or xs i x → next ≡ max now (f x) →
    max now (greatest f (drop i xs)) ≡ all → max next (greatest f (drop (i + 1) xs)) ≡ all
most_more f xs i x now next all lt is here whole =
    let left = ap (greatest f) (next_left xs i x lt is) in omega (arith, left, here, whole)

pub most_none : {A : Type 0} → (f : A → ℕ) (xs : List A) (i now all : ℕ) → length xs ≤ i → max now (greatest f (drop i xs)) ≡ all → now ≡ all
most_none f xs i now all end whole = let left = ap (greatest f) (none_left xs i end) in omega (arith, left, whole)

-- the same of what is kept as far as 64 bits go
pub kept_more : {A : Type 0} → (f : A → ℕ) (xs : List A) (i : ℕ) (x : A) (now next all : ℕ) → i < length xs → x ≡ get_or xs i x →
    next ≡ max now (saturated (f x)) → max now (saturated (greatest f (drop i xs))) ≡ all → max next (saturated (greatest f (drop (i + 1) xs))) ≡ all
kept_more f xs i x now next all lt is here whole =
    let left = ap (greatest f) (next_left xs i x lt is) in omega (arith, left, here, whole)

pub kept_none : {A : Type 0} → (f : A → ℕ) (xs : List A) (i now all : ℕ) → length xs ≤ i → max now (saturated (greatest f (drop i xs))) ≡ all → now ≡ all
kept_none f xs i now all end whole = let left = ap (greatest f) (none_left xs i end) in omega (arith, left, whole)

-- what counts, and what does not
pub counts : (b : Bool) (n m now next : ℕ) → b ≡ true → m ≡ n → next ≡ max now m → next ≡ max now (if b then n else 0)
counts true n m now next e is here = omega (arith, is, here)
counts false n m now next e is here = absurd cc

pub counts_not : (b : Bool) (n now next : ℕ) → b ≡ false → next ≡ now → next ≡ max now (if b then n else 0)
counts_not true n now next e here = absurd cc
counts_not false n now next e here = omega (arith, here)

pub counts_kept : (b : Bool) (n m now next : ℕ) → b ≡ true → m ≡ saturated n → next ≡ max now m → next ≡ max now (saturated (if b then n else 0))
counts_kept true n m now next e is here = omega (arith, is, here)
counts_kept false n m now next e is here = absurd cc

pub counts_kept_not : (b : Bool) (n now next : ℕ) → b ≡ false → next ≡ now → next ≡ max now (saturated (if b then n else 0))
counts_kept_not true n now next e here = absurd cc
counts_kept_not false n now next e here = omega (arith, here)
