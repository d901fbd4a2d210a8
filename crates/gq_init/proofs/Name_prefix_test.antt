-- Whether a text begins with a name, from four bytes at a time.
use Rattle.std.proofs.Common.{◌≡◌, ℕ, zero, suc, ◌+◌, ◌-◌, ◌<◌, ◌≤◌, List, [], ◌∷◌, ◌++◌, length, get_or, drop, ap, sym, subst, inl, inr, arith}
use Rattle.std.specs.Prelude.{ltb}
use Rattle.std.proofs.lemmas.Bool.{cases_Bool, ltb-true}
use Rattle.std.proofs.lemmas.Bool.Decides.{nat_tests}
use Rattle.std.proofs.lemmas.List.Prefix.{front_from_reads}
use Rattle.gq_init.specs.internal.Ahead.{four_at}

-- four bytes are below 256
pub four_below : (a b c d : ℕ) → a ≤ 255 → b ≤ 255 → c ≤ 255 → d ≤ 255 → (i : ℕ) → get_or (a ∷ b ∷ c ∷ d ∷ []) i 0 < 256
four_below a b c d ha hb hc hd zero = omega (arith, ha)
four_below a b c d ha hb hc hd (suc zero) = omega (arith, hb)
four_below a b c d ha hb hc hd (suc (suc zero)) = omega (arith, hc)
four_below a b c d ha hb hc hd (suc (suc (suc zero))) = omega (arith, hd)
four_below a b c d ha hb hc hd (suc (suc (suc (suc i)))) = omega arith

at_four : (text name : List ℕ) (k i j : ℕ) → four_at text k ≡ four_at name k → i ≡ k + j → j < 4 → get_or text i 0 ≡ get_or name i 0
at_four text name k i zero e p less =
    let q : i ≡ k = omega (arith, p) in subst (λ m. get_or text m 0 ≡ get_or name m 0) (sym q) (ap (λ l. get_or l 0 0) e)
at_four text name k i (suc zero) e p less = subst (λ m. get_or text m 0 ≡ get_or name m 0) (sym p) (ap (λ l. get_or l 1 0) e)
at_four text name k i (suc (suc zero)) e p less = subst (λ m. get_or text m 0 ≡ get_or name m 0) (sym p) (ap (λ l. get_or l 2 0) e)
at_four text name k i (suc (suc (suc zero))) e p less = subst (λ m. get_or text m 0 ≡ get_or name m 0) (sym p) (ap (λ l. get_or l 3 0) e)
at_four text name k i (suc (suc (suc (suc j)))) e p less = absurd (omega (arith, less))

both_reads : (text name : List ℕ) (k : ℕ) → length name ≡ k + 4 → k ≤ 4 → four_at text 0 ≡ four_at name 0 → four_at text k ≡ four_at name k
    → (i : ℕ) → i < length name → get_or text i 0 ≡ get_or name i 0
both_reads text name k long few first last i less =
    elim (cases_Bool (ltb i 4)) [
      | inl below ↦ at_four text name 0 i i first (omega arith) (ltb-true i 4 below)
      | inr above ↦
          let at : 4 ≤ i = grind (arith, nat_tests) in
          at_four text name k i (i - k) last (omega (arith, at, few)) (omega (arith, at, few, less, long))
    ]

pub fours_ahead : (text name : List ℕ) → 4 ≤ length name → length name ≤ 8 → length name ≤ length text → four_at text 0 ≡ four_at name 0
    → four_at text (length name - 4) ≡ four_at name (length name - 4) → text ≡ name ++ drop (length name) text
fours_ahead text name some few within first last =
    front_from_reads 0 text name within (both_reads text name (length name - 4) (omega (arith, some)) (omega (arith, few)) first last)

few_reads : (text name : List ℕ) → length name ≤ 3 → get_or text 0 0 ≡ get_or name 0 0 → get_or text (length name - 1) 0 ≡ get_or name (length name - 1) 0
    → (3 ≤ length name → get_or text 1 0 ≡ get_or name 1 0) → (i : ℕ) → i < length name → get_or text i 0 ≡ get_or name i 0
few_reads text name few first last middle zero less = first
few_reads text name few first last middle (suc i) less =
    elim (cases_Bool (ltb (suc i) (length name - 1))) [
      | inl below ↦
          let under = ltb-true (suc i) (length name - 1) below in
          let one : suc i ≡ 1 = omega (arith, under, few) in
          subst (λ m. get_or text m 0 ≡ get_or name m 0) (sym one) (middle (omega (arith, under)))
      | inr above ↦
          let end : suc i ≡ length name - 1 = grind (arith, nat_tests) in
          subst (λ m. get_or text m 0 ≡ get_or name m 0) (sym end) last
    ]

pub few_ahead : (text name : List ℕ) → length name ≤ 3 → length name ≤ length text → get_or text 0 0 ≡ get_or name 0 0
    → get_or text (length name - 1) 0 ≡ get_or name (length name - 1) 0 → (3 ≤ length name → get_or text 1 0 ≡ get_or name 1 0)
    → text ≡ name ++ drop (length name) text
few_ahead text name few within first last middle = front_from_reads 0 text name within (few_reads text name few first last middle)
