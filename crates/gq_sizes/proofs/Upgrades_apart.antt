-- Upgrades and interfaces with the least sums that are put together.
use Rattle.std.proofs.Common.{◌≡◌, ◌∙◌, ℕ, suc, ◌+◌, ◌-◌, ◌*◌, ◌<◌, ◌≤◌, List, [], ◌∷◌, length, get_or, drop, take, ap, sym, arith, add-one, refl}
use Rattle.std.proofs.Common.{Bool, true, false}
use Rattle.std.specs.Prelude.{if◌then◌else◌}
use Rattle.std.proofs.Math.Seq.{take-length}
use Rattle.gq_model.specs.machine.Amounts.{Amount, amount, counts_caps}
use Rattle.gq_model.specs.machine.Scenario.{Interfaces, System}
use Rattle.gq_verify.specs.Saturated_numbers.{saturated}
use Rattle.gq_sizes.specs.Least.{beyond, caps_of, least_interfaces, least_upgrades}
use Rattle.gq_sizes.specs.Size.{Gift}
use Rattle.gq_sizes.specs.Saturated_tables.{row}
use Rattle.gq_sizes.proofs.Capability_need_rounds.{row_get}

-- the number of a level of these rows
pub level_is : (f : ℕ → ℕ) (xs : List ℕ) (n l : ℕ) → xs ≡ row f → n ≡ get_or xs l 0 → l ≤ 3 → n ≡ f l
level_is f xs n l e is h = is ∙ (ap (λ r. get_or r l 0) e ∙ row_get f l h)

kept : (n m sum : ℕ) → sum ≡ n → n ≡ saturated m → sum ≤ 1048576 → sum ≡ m
kept n m sum a b c = omega (arith, a, b, c)

-- the sum up to the level above one, where capabilities are counted
pub sum_is : (g : ℕ → ℕ) (caps : List ℕ) (l before a next : ℕ) → caps ≡ row (λ k. saturated (g k)) → next ≡ get_or caps (l + 1) 0 → l < 3
    → before ≤ (l + 1) * 65536 → a ≤ 65536 → before + a ≡ next → before + a ≡ g (l + 1)
sum_is g caps l before a next is at low small few e =
    let next_is : next ≡ saturated (g (l + 1)) = level_is (λ k. saturated (g k)) caps next (l + 1) is at (omega (arith, low)) in
    kept next (g (l + 1)) (before + a) e next_is (omega (arith, low, small, few))

less : (a before below sum : ℕ) → before + a ≡ sum → before ≡ below → a ≡ sum - below
less a before below sum e is = omega (arith, e, is)

-- an upgrade is what its sum has more than the one below
pub added_is : (version : ℕ) (f g : ℕ → ℕ) (l before : ℕ) (a : Amount) → a.ram ≡ f (l + 1) - f l → (counts_caps version ≡ false → a.caps ≡ 0)
    → (counts_caps version ≡ true → before + a.caps ≡ g (l + 1)) → (counts_caps version ≡ true → before ≡ g l)
    → a ≡ beyond (amount (f (suc l)) (caps_of version (g (suc l)))) (amount (f l) (caps_of version (g l)))
added_is version f g l before a ram none sum is = by (counts_caps version) refl
  where
    by : (b : Bool) → counts_caps version ≡ b
        → a ≡ beyond (amount (f (suc l)) (if◌then◌else◌ b (g (suc l)) 0)) (amount (f l) (if◌then◌else◌ b (g l) 0))
    by false e = (λ j. amount ((ram ∙ ap (λ k. f k - f l) (add-one l)) j) (none e j))
    by true e =
        (λ j. amount ((ram ∙ ap (λ k. f k - f l) (add-one l)) j)
        ((less a.caps before (g l) (g (l + 1)) (sum e) (is e) ∙ ap (λ k. g k - g l) (add-one l)) j))

-- LISTS

rest_all : {A : Type 0} (a : A) (rest : List A) → take (length (a ∷ rest) - 1) rest ≡ rest
rest_all a rest = let e : length (a ∷ rest) - 1 ≡ length rest = omega arith in ap (λ k. take k rest) e ∙ take-length rest

-- the first upgrade and those after it
pub upgrades_joined : (sum : ℕ → Amount) (made upgrades : List Amount) (a : Amount) (l : ℕ) → 1 ≤ length made → 1 ≤ length upgrades → a ≡ get_or made 0 a
    → a ≡ beyond (sum (suc l)) (sum l)
    → take (length made - 1) (drop 1 made) ≡ least_upgrades sum (l + 1) (take (length upgrades - 1) (drop 1 upgrades))
    → made ≡ least_upgrades sum l upgrades
upgrades_joined sum [] upgrades a l some any is first rest = absurd (omega (arith, some))
upgrades_joined sum (b ∷ made) [] a l some any is first rest = absurd (omega (arith, any))
upgrades_joined sum (b ∷ made) (u ∷ upgrades) a l some any is first rest =
    let after =
    sym (rest_all b made) ∙ (rest ∙ ((λ j. least_upgrades sum (add-one l j) (rest_all u upgrades j)))) in
    (λ j. (sym is ∙ first) j ∷ after j)

-- and the other way round: what the first upgrade and those after it are
pub record ArePart (sum : ℕ → Amount) (made upgrades : List Amount) (a : Amount) (l : ℕ) : Type 0 where
  pub first : a ≡ beyond (sum (suc l)) (sum l)
  pub rest : take (length made - 1) (drop 1 made) ≡ least_upgrades sum (l + 1) (take (length upgrades - 1) (drop 1 upgrades))

pub upgrades_parted : (sum : ℕ → Amount) (made upgrades : List Amount) (a : Amount) (l : ℕ) → 1 ≤ length made → 1 ≤ length upgrades → a ≡ get_or made 0 a
    → made ≡ least_upgrades sum l upgrades → ArePart sum made upgrades a l
upgrades_parted sum [] upgrades a l some any is e = absurd (omega (arith, some))
upgrades_parted sum (b ∷ made) [] a l some any is e = absurd (omega (arith, any))
upgrades_parted sum (b ∷ made) (u ∷ upgrades) a l some any is e =
    record {
      first = is ∙ ap (λ xs. get_or xs 0 b) e;
      rest = rest_all b made ∙ (ap (drop 1) e ∙ sym (λ j. least_upgrades sum (add-one l j) (rest_all u upgrades j)));
    }

-- there are as many as there were
pub as_many : (sum : ℕ → Amount) (l : ℕ) (upgrades : List Amount) → length (least_upgrades sum l upgrades) ≡ length upgrades
as_many sum l [] = refl
as_many sum l (a ∷ rest) = ap suc (as_many sum (suc l) rest)

pub all_interfaces : (version : ℕ) (all : System) (given : List Gift) (ifs : Interfaces) → length (least_interfaces version all given ifs) ≡ length ifs
all_interfaces version all given [] = refl
all_interfaces version all given (e ∷ rest) = ap suc (all_interfaces version all given rest)
