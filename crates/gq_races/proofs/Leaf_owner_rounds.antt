-- Owners of leaves, round by round.
use Rattle.std.proofs.Common.{◌≡◌, ◌≢◌, ◌∙◌, ◌≤◌, ◌<◌, ◌⊎◌, inl, inr, ℕ, zero, suc, ◌+◌, ◌==◌, Bool, true, false, ◌||◌, ◌&&◌, List, [], ◌∷◌, ◌++◌}
use Rattle.std.proofs.Common.{length, get_or, drop, add-one, ap, sym, refl, subst, arith}
use Rattle.std.specs.Prelude.{not, nat_lt}
use Rattle.std.proofs.lemmas.Bool.Decides.{eqb_tells, nat_tests}
use Rattle.gq_model.specs.machine.Lists.{any_of}
use Rattle.gq_model.specs.rules.Use.{is_there}
use Rattle.gq_resolve.proofs.Mapped_list_growth.{next_is}
use Rattle.gq_races.specs.Races.{any_below, implies}
use Rattle.gq_races.specs.declared.owners.Owner.{Owner}
use Rattle.gq_races.specs.internal.Owners.{admits, admits_at, Opens, all_kept, owns_kept}

-- SETS OF OWNERS

pub both_any : (o : Owner) (z : ℕ) → admits o z ≡ (admits o z && true)
both_any o z = by (admits o z)
  where
    by : (b : Bool) → b ≡ (b && true)
    by true = refl
    by false = refl

pub both_same : (one two z : ℕ) → one ≡ two → (one == z) ≡ (one == z && two == z)
both_same one two z e = by (one == z) ∙ ap (λ n. one == z && n == z) e
  where
    by : (b : Bool) → b ≡ (b && b)
    by true = refl
    by false = refl

pub both_none : (one two z : ℕ) → one ≢ two → false ≡ (one == z && two == z)
both_none one two z ne = elim (eqb_tells one z) [
  | inl p ↦ elim (eqb_tells two z) [
    | inl q ↦ absurd (ne (p.1 ∙ sym q.1))
    | inr q ↦ sym (λ e. p.0 e && q.0 e)
  ]
  | inr p ↦ sym (ap (λ b. b && two == z) p.0)
]

pub any_only : (leaf n : ℕ) → any_below (λ z. leaf == z) n ≡ nat_lt leaf n
any_only leaf zero = grind (arith, nat_tests)
any_only leaf (suc n) = ap (λ b. leaf == n || b) (any_only leaf n) ∙ by (eqb_tells leaf n)
  where
    by : (((leaf == n) ≡ true) × (leaf ≡ n)) ⊎ (((leaf == n) ≡ false) × (leaf ≢ n)) → (leaf == n || nat_lt leaf n) ≡ nat_lt leaf (suc n)
    by (inl q) = ap (λ b. b || nat_lt leaf n) q.0 ∙ grind (arith, nat_tests, q.1)
    by (inr q) = ap (λ b. b || nat_lt leaf n) q.0 ∙ grind (arith, nat_tests, q.1)

pub any_nobody : (n : ℕ) → any_below (λ z. false) n ≡ false
any_nobody zero = refl
any_nobody (suc n) = any_nobody n

pub and_true : (b : Bool) → b ≡ (b && true)
and_true true = refl
and_true false = refl

pub shared_only : (leaf n : ℕ) (b : Bool) → b ≡ not (nat_lt leaf n) → b ≡ not (any_below (λ z. leaf == z) n)
shared_only leaf n b e = e ∙ ap not (sym (any_only leaf n))

-- WHAT IS KNOWN OF LEAVES

pub at_get : (owners : List Owner) (z x : ℕ) (o : Owner) → x < length owners → o ≡ get_or owners x o → admits o z ≡ admits_at owners z x
at_get [] z x o within e = absurd (omega (arith, within))
at_get (p ∷ owners) z zero o within e = ap (λ o. admits o z) e
at_get (p ∷ owners) z (suc x) o within e = at_get owners z x o (omega (arith, within)) e

pub at_over : (owners : List Owner) (z x : ℕ) → length owners ≤ x → false ≡ admits_at owners z x
at_over [] z x over = refl
at_over (p ∷ owners) z zero over = absurd (omega (arith, over))
at_over (p ∷ owners) z (suc x) over = at_over owners z x (omega (arith, over))

at_before : (owners : List Owner) (o : Owner) (z x : ℕ) → x < length owners → admits_at (owners ++ o ∷ []) z x ≡ admits_at owners z x
at_before [] o z x within = absurd (omega (arith, within))
at_before (p ∷ owners) o z zero within = refl
at_before (p ∷ owners) o z (suc x) within = at_before owners o z x (omega (arith, within))

at_end : (owners : List Owner) (o : Owner) (z : ℕ) → admits_at (owners ++ o ∷ []) z (length owners) ≡ admits o z
at_end [] o z = refl
at_end (p ∷ owners) o z = at_end owners o z

-- one leaf more is known
pub pushed : (owners more : List Owner) (o : Owner) (n : ℕ) (P : ℕ → ℕ → Bool) → length owners ≡ n
    → ((z x : ℕ) → x < n → admits_at owners z x ≡ P z x) → ((z : ℕ) → admits o z ≡ P z n) → more ≡ owners ++ o ∷ []
    → (z x : ℕ) → x < n + 1 → admits_at more z x ≡ P z x
pushed owners more o n P count before here put z x within = ap (λ l. admits_at l z x) put ∙ by (eqb_tells x n)
  where
    by : (((x == n) ≡ true) × (x ≡ n)) ⊎ (((x == n) ≡ false) × (x ≢ n)) → admits_at (owners ++ o ∷ []) z x ≡ P z x
    by (inl q) = ap (admits_at (owners ++ o ∷ []) z) (q.1 ∙ sym count) ∙ (at_end owners o z ∙ (here z ∙ ap (P z) (sym q.1)))
    by (inr q) =
        let less : x < n = omega (arith, within, q.1) in
        at_before owners o z x (subst (λ n. x < n) (sym count) less) ∙ before z x less

-- ONE ROUND

-- one leaf more opens sessions
module _ (opened : List Opens) (i : ℕ) (o : Opens) (within : i < length opened) (is : o ≡ get_or opened i o) (owned : ℕ → Bool) (z x : ℕ) where
  kept_here : all_kept owned z x i (drop i opened)
      ≡ (implies (any_of (is_there x) o.0) (i == z) && implies (any_of (is_there x) o.1) (owned i) && all_kept owned z x (i + 1) (drop (i + 1) opened))
  kept_here =
      ap (all_kept owned z x i) (next_is opened i o within is)
      ∙ ap (λ n. implies (any_of (is_there x) o.0) (i == z) && implies (any_of (is_there x) o.1) (owned i) && all_kept owned z x n (drop (i + 1) opened))
      (sym (add-one i))

  pub kept_put : (before first later whole : Bool) → first ≡ (before && implies (any_of (is_there x) o.0) (i == z))
      → later ≡ (first && implies (any_of (is_there x) o.1) (owned i))
      → (before && all_kept owned z x i (drop i opened)) ≡ whole
      → (later && all_kept owned z x (i + 1) (drop (i + 1) opened)) ≡ whole
  kept_put before first later whole a b inv =
      ap (λ l. l && all_kept owned z x (i + 1) (drop (i + 1) opened)) (b ∙ ap (λ f. f && implies (any_of (is_there x) o.1) (owned i)) a)
      ∙ (assoc before (implies (any_of (is_there x) o.0) (i == z)) (implies (any_of (is_there x) o.1) (owned i))
      (all_kept owned z x (i + 1) (drop (i + 1) opened))
      ∙ (ap (λ r. before && r) (sym kept_here) ∙ inv))
    where
      assoc : (a b c d : Bool) → (a && b && c && d) ≡ (a && (b && c && d))
      assoc true b c d = refl
      assoc false b c d = refl

-- what is known of the leaves that are there decides
kept_known : (owned more : ℕ → Bool) (n z x y : ℕ) (opened : List Opens) → y + length opened ≤ n → ((k : ℕ) → k < n → owned k ≡ more k)
    → all_kept owned z x y opened ≡ all_kept more z x y opened
kept_known owned more n z x y [] few same = refl
kept_known owned more n z x y (o ∷ opened) few same =
    let here = same y (omega (arith, few)) in
    let further = kept_known owned more n z x (suc y) opened (omega (arith, few)) same in
    λ e. implies (any_of (is_there x) o.0) (y == z) && implies (any_of (is_there x) o.1) (here e) && further e

pub round_more : (opened : List Opens) (owners more : List Owner) (n : ℕ)
    → ((z x : ℕ) → x < length opened → admits_at owners z x ≡ owns_kept n opened z x)
    → ((z x : ℕ) → x < length opened → admits_at more z x ≡ all_kept (admits_at owners z) z x 0 opened)
    → (z x : ℕ) → x < length opened → admits_at more z x ≡ owns_kept (n + 1) opened z x
round_more opened owners more n before next z x within =
    let next_n : suc n ≡ n + 1 = omega arith in
    next z x within
    ∙ (kept_known (admits_at owners z) (owns_kept n opened z) (length opened) z x 0 opened (omega arith) (λ k less. before z k less)
    ∙ ap (λ n. owns_kept n opened z x) next_n)

-- WHICH ARE SHARED

below_same : (test more : ℕ → Bool) → ((z : ℕ) → test z ≡ more z) → (n : ℕ) → any_below test n ≡ any_below more n
below_same test more same zero = refl
below_same test more same (suc n) = λ e. same n e || below_same test more same n e

get_before : (all : List Bool) (v b : Bool) (x : ℕ) → x < length all → get_or (all ++ v ∷ []) x b ≡ get_or all x b
get_before [] v b x within = absurd (omega (arith, within))
get_before (a ∷ all) v b zero within = refl
get_before (a ∷ all) v b (suc x) within = get_before all v b x (omega (arith, within))

get_end : (all : List Bool) (v b : Bool) → get_or (all ++ v ∷ []) (length all) b ≡ v
get_end [] v b = refl
get_end (a ∷ all) v b = get_end all v b

pub shared_more : (all more : List Bool) (v : Bool) (n : ℕ) (P : ℕ → Bool) → length all ≡ n → ((x : ℕ) (b : Bool) → x < n → b ≡ get_or all x b → b ≡ P x)
    → v ≡ P n → more ≡ all ++ v ∷ [] → (x : ℕ) (b : Bool) → x < n + 1 → b ≡ get_or more x b → b ≡ P x
shared_more all more v n P count before here put x b within is = by (eqb_tells x n) (is ∙ ap (λ l. get_or l x b) put)
  where
    by : (((x == n) ≡ true) × (x ≡ n)) ⊎ (((x == n) ≡ false) × (x ≢ n)) → b ≡ get_or (all ++ v ∷ []) x b → b ≡ P x
    by (inl q) e = e ∙ (ap (λ x. get_or (all ++ v ∷ []) x b) (q.1 ∙ sym count) ∙ (get_end all v b ∙ (here ∙ ap P (sym q.1))))
    by (inr q) e =
        let less : x < n = omega (arith, within, q.1) in
        before x b less (e ∙ get_before all v b x (subst (λ n. x < n) (sym count) less))

pub shared_here : (opened : List Opens) (owners : List Owner) (o : Owner) (n : ℕ) (v : Bool)
    → ((z x : ℕ) → x < length opened → admits_at owners z x ≡ owns_kept (length opened) opened z x) → n < length opened
    → ((z : ℕ) → admits o z ≡ admits_at owners z n) → v ≡ not (any_below (admits o) (length opened))
    → v ≡ not (any_below (λ z. owns_kept (length opened) opened z n) (length opened))
shared_here opened owners o n v all within is e =
    e ∙ ap not (below_same (admits o) (λ z. owns_kept (length opened) opened z n) (λ z. is z ∙ all z n within) (length opened))

pub count_more : {A : Type 0} (all more : List A) (a : A) (n : ℕ) → length all ≡ n → more ≡ all ++ a ∷ [] → length more ≡ n + 1
count_more {A = A} all more a n count put = ap length put ∙ (longer all ∙ ap (λ n. n + 1) count)
  where
    longer : (all : List A) → length (all ++ a ∷ []) ≡ length all + 1
    longer [] = refl
    longer (b ∷ all) = let h = longer all in omega (arith, h)
