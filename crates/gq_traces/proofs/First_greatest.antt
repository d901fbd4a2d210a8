-- The first of some numbers at which a function is greatest.
use Rattle.std.proofs.Common.{◌≡◌, ◌<◌, ◌≤◌, ◌⊎◌, ℕ, zero, suc, inl, inr, nat_lt, Bool, true, false, cond, refl, ap, arith}
use Rattle.std.proofs.lemmas.Bool.Decides.{eqb_tells, nat_tests}
use Rattle.gq_traces.specs.Account_peaks.{first_greatest, peak_at, peak_over}
use Rattle.gq_traces.specs.declared.peaks.Peak.{Peak}
use Rattle.gq_traces.specs.internal.Peaking.{higher}

-- the k-th is the first of the greatest up to the n-th
pub record IsFirst (f : ℕ → ℕ) (n k : ℕ) : Type 0 where
  pub within : k ≤ n
  pub greatest : (m : ℕ) → m ≤ n → f m ≤ f k
  pub first : (m : ℕ) → m < k → f m < f k

last_or_less : (m n : ℕ) → m ≤ suc n → (m ≡ suc n) ⊎ (m ≤ n)
last_or_less m n few = elim (eqb_tells m (suc n)) [
  | inl t ↦ inl t.1
  | inr t ↦ (let other = t.1 in inr (below m n few other))
]
  where
    below : (m n : ℕ) → m ≤ suc n → (m ≡ suc n → ⊥) → m ≤ n
    below m n few other = grind (arith, few, other)

one_more : (f : ℕ → ℕ) (n k : ℕ) → IsFirst f n k → (b : Bool) → nat_lt (f k) (f (suc n)) ≡ b → IsFirst f (suc n) (cond b (suc n) k)
one_more f n k h true e =
    let more : f k < f (suc n) = grind (arith, nat_tests, e) in
    record {
      within = omega arith;
      greatest = λ m few. (elim (last_or_less m n few) [
        | inl same ↦ (let at = ap f same in omega (arith, at))
        | inr less ↦ (let below = h.greatest m less in omega (arith, below, more))
      ]);
      first = λ m less. (let below = h.greatest m (omega (arith, less)) in omega (arith, below, more));
    }
one_more f n k h false e =
    let most : f (suc n) ≤ f k = grind (arith, nat_tests, e) in
    let within = h.within in
    record {
      within = omega (arith, within);
      greatest = λ m few. (elim (last_or_less m n few) [
        | inl same ↦ (let at = ap f same in omega (arith, at, most))
        | inr less ↦ h.greatest m less
      ]);
      first = h.first;
    }

pub is_first : (f : ℕ → ℕ) (n : ℕ) → IsFirst f n (first_greatest f n)
is_first f zero = record {
  within = omega arith;
  greatest = λ m few. (let same : m ≡ 0 = omega (arith, few) in let at = ap f same in omega (arith, at));
  first = λ m less. absurd (omega (arith, less));
}
is_first f (suc n) = one_more f n (first_greatest f n) (is_first f n) (nat_lt (f (first_greatest f n)) (f (suc n))) refl

-- where a function stays as it is, so does that number
pub stays : (f : ℕ → ℕ) (n : ℕ) → f (suc n) ≡ f n → first_greatest f (suc n) ≡ first_greatest f n
stays f n same = by (nat_lt (f (first_greatest f n)) (f (suc n))) refl
  where
    by : (b : Bool) → nat_lt (f (first_greatest f n)) (f (suc n)) ≡ b → cond b (suc n) (first_greatest f n) ≡ first_greatest f n
    by false e = refl
    by true e =
        let most = (is_first f n).greatest n (omega arith) in
        let more : f (first_greatest f n) < f (suc n) = grind (arith, nat_tests, e) in
        absurd (omega (arith, most, more, same))

-- PEAKS

pub over_more : (used quota : ℕ → ℕ) (n : ℕ) → higher (peak_over used quota n) (peak_at used quota (suc n)) ≡ peak_over used quota (suc n)
over_more used quota n = by (nat_lt (used (first_greatest used n)) (used (suc n)))
  where
    by : (b : Bool) → cond b (peak_at used quota (suc n)) (peak_at used quota (first_greatest used n))
        ≡ peak_at used quota (cond b (suc n) (first_greatest used n))
    by true = refl
    by false = refl

-- a use that is no greater raises nothing
pub no_higher : (old new : Peak) → new.used ≤ old.used → old ≡ higher old new
no_higher old new few = by (nat_lt old.used new.used) refl
  where
    by : (b : Bool) → nat_lt old.used new.used ≡ b → old ≡ cond b new old
    by false e = refl
    by true e = let more : old.used < new.used = grind (arith, nat_tests, e) in absurd (omega (arith, more, few))
