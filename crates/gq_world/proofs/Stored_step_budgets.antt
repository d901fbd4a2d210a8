-- Step budgets in a world, summed up leaf by leaf and signal by signal, as 64 bits store them.
use Rattle.std.proofs.Common.{◌≡◌, ◌∙◌, ℕ, zero, suc, ◌+◌, ◌-◌, ◌*◌, ◌^◌, ◌<◌, ◌≤◌, nat_lt, Bool, true, false, List, [], ◌∷◌, drop, get_or, length, Some, None}
use Rattle.std.proofs.Common.{IfSome, refl, ap, sym, arith, add-one}
use Rattle.std.specs.Prelude.{if◌then◌else◌, slice_get, slice_index, slice_index_or}
use Rattle.std.proofs.lemmas.Bool.Decides.{nat_tests}
use Rattle.gq_model.specs.machine.Accounts.{shown}
use Rattle.gq_model.specs.machine.Step_budgets.{reaction_steps, taken_steps}
use Rattle.gq_model.specs.machine.World.{Leaf, Signal}
use Rattle.gq_model.specs.rules.Accept.{Budget, steps_of_signal}
use Rattle.gq_model.proofs.Small_facts.{none_some, some_same}

-- NUMBERS

pub shown_small : (n : ℕ) → n < 2 ^ 64 → shown n ≡ n
shown_small n less = ap (λ (b : Bool). if b then n else 2 ^ 64 - 1) (is n less)
  where
    is : (n : ℕ) → n < 2 ^ 64 → nat_lt n (2 ^ 64) ≡ true
    is n less = grind (arith, nat_tests, less)

shown_large : (n : ℕ) → 2 ^ 64 ≤ n + 1 → shown n ≡ 2 ^ 64 - 1
shown_large n large = by (nat_lt n (2 ^ 64)) refl
  where
    by : (b : Bool) → nat_lt n (2 ^ 64) ≡ b → (if b then n else 2 ^ 64 - 1) ≡ 2 ^ 64 - 1
    by true e = grind (arith, nat_tests, e, large)
    by false e = refl

-- a number that stays at the greatest may do so before more is added
pub shown_more : (a b : ℕ) → shown (shown a + b) ≡ shown (a + b)
shown_more a b = by (nat_lt a (2 ^ 64)) refl
  where
    large : (n : ℕ) → nat_lt n (2 ^ 64) ≡ false → 2 ^ 64 ≤ n
    large n e = grind (arith, nat_tests, e)

    by : (c : Bool) → nat_lt a (2 ^ 64) ≡ c → shown ((if c then a else 2 ^ 64 - 1) + b) ≡ shown (a + b)
    by true e = refl
    by false e = let most = large a e in shown_large (2 ^ 64 - 1 + b) (omega arith) ∙ sym (shown_large (a + b) (omega (arith, most)))

pub shown_twice : (n : ℕ) → shown (shown n) ≡ shown n
shown_twice n = let none : n + 0 ≡ n = omega arith in let same : shown n + 0 ≡ shown n = omega arith in
    sym (ap shown same) ∙ (shown_more n 0 ∙ ap shown none)

-- SIGNALS

none_taken : (signals : List Signal) → taken_steps signals [] ≡ 0
none_taken [] = refl
none_taken (s ∷ signals) = refl

none_index : (i : ℕ) → slice_index [] i ≡ 0
none_index zero = refl
none_index (suc i) = refl

drop_none : (i : ℕ) → ◌≡◌ {A = List ℕ} (drop i []) []
drop_none zero = refl
drop_none (suc i) = refl

times_none : (n : ℕ) → n * 0 ≡ 0
times_none n = omega arith

-- the next signal, and those after it
pub taken_next : (signals : List Signal) (steps : List ℕ) (i : ℕ) (s : Signal) → slice_get signals i ≡ Some s
    → taken_steps (drop i signals) (drop i steps) ≡ s.taken * slice_index steps i + taken_steps (drop (suc i) signals) (drop (suc i) steps)
taken_next [] steps i s e = absurd (none_some e)
taken_next (a ∷ signals) [] i s e =
    let here = ap (taken_steps (drop i (a ∷ signals))) (drop_none i) ∙ none_taken (drop i (a ∷ signals)) in
    let later = ap (taken_steps (drop i signals)) (drop_none (suc i)) ∙ none_taken (drop i signals) in
    let index = ap (λ n. s.taken * n) (none_index i) ∙ times_none s.taken in
    omega (arith, here, later, index)
taken_next (a ∷ signals) (n ∷ steps) zero s e = ap (λ (t : Signal). t.taken * n + taken_steps signals steps) (some_same e)
taken_next (a ∷ signals) (n ∷ steps) (suc i) s e = taken_next signals steps i s e

pub taken_at : (signals : List Signal) (steps : List ℕ) (i : ℕ) (s : Signal) → slice_get signals i ≡ Some s
    → taken_steps (drop i signals) (drop i steps) ≡ s.taken * slice_index steps i + taken_steps (drop (i + 1) signals) (drop (i + 1) steps)
taken_at signals steps i s e =
    taken_next signals steps i s e
    ∙ ap (λ n. s.taken * slice_index steps i + taken_steps (drop n signals) (drop n steps)) (sym (add-one i))

drop_end : {A : Type 0} (xs : List A) (i : ℕ) → length xs ≤ i → drop i xs ≡ []
drop_end [] zero past = refl
drop_end [] (suc i) past = refl
drop_end (x ∷ xs) zero past = absurd (omega (arith, past))
drop_end (x ∷ xs) (suc i) past = drop_end xs i (omega (arith, past))

no_signals : (steps : List ℕ) → taken_steps [] steps ≡ 0
no_signals steps = refl

-- past the last none is left
pub taken_end : (signals : List Signal) (steps : List ℕ) (i : ℕ) → length signals ≤ i → taken_steps (drop i signals) steps ≡ 0
taken_end signals steps i past = ap (λ l. taken_steps l steps) (drop_end signals i past)

-- LEAVES

none_reacts : (leaves : List Leaf) → reaction_steps leaves [] ≡ 0
none_reacts [] = refl
none_reacts (l ∷ leaves) = refl

no_row : (i : ℕ) → ◌≡◌ {A = List ℕ} (slice_index_or [] i []) []
no_row zero = refl
no_row (suc i) = refl

drop_no_row : (i : ℕ) → ◌≡◌ {A = List (List ℕ)} (drop i []) []
drop_no_row zero = refl
drop_no_row (suc i) = refl

-- the signals of the next leaf, and those of the leaves after it
pub reacts_next : (leaves : List Leaf) (all : List (List ℕ)) (i : ℕ) (leaf : Leaf) → slice_get leaves i ≡ Some leaf
    → reaction_steps (drop i leaves) (drop i all) ≡ taken_steps leaf.signals (slice_index_or all i []) + reaction_steps (drop (suc i) leaves) (drop (suc i) all)
reacts_next [] all i leaf e = absurd (none_some e)
reacts_next (a ∷ leaves) [] i leaf e =
    let here = ap (reaction_steps (drop i (a ∷ leaves))) (drop_no_row i) ∙ none_reacts (drop i (a ∷ leaves)) in
    let later = ap (reaction_steps (drop i leaves)) (drop_no_row (suc i)) ∙ none_reacts (drop i leaves) in
    let row = ap (taken_steps leaf.signals) (no_row i) ∙ none_taken leaf.signals in
    omega (arith, here, later, row)
reacts_next (a ∷ leaves) (steps ∷ all) zero leaf e = ap (λ (l : Leaf). taken_steps l.signals steps + reaction_steps leaves all) (some_same e)
reacts_next (a ∷ leaves) (steps ∷ all) (suc i) leaf e = reacts_next leaves all i leaf e

pub reacts_at : (leaves : List Leaf) (all : List (List ℕ)) (i : ℕ) (leaf : Leaf) → slice_get leaves i ≡ Some leaf
    → reaction_steps (drop i leaves) (drop i all) ≡ taken_steps leaf.signals (slice_index_or all i []) + reaction_steps (drop (i + 1) leaves) (drop (i + 1) all)
reacts_at leaves all i leaf e =
    reacts_next leaves all i leaf e
    ∙ ap (λ n. taken_steps leaf.signals (slice_index_or all i []) + reaction_steps (drop n leaves) (drop n all)) (sym (add-one i))

-- the signals of a leaf that is there, whose number is below the count
pub signals_there : (leaves : List Leaf) (i : ℕ) (signals : List Signal) → i < length leaves → IfSome (slice_get leaves i) (λ l. signals ≡ l.signals)
    → (leaf : Leaf) × (slice_get leaves i ≡ Some leaf) × (signals ≡ leaf.signals)
signals_there [] i signals less h = absurd (omega (arith, less))
signals_there (l ∷ leaves) zero signals less h = (l, refl, h)
signals_there (l ∷ leaves) (suc i) signals less h = signals_there leaves i signals (omega (arith, less)) h

pub reacts_end : (leaves : List Leaf) (all : List (List ℕ)) (i : ℕ) → length leaves ≤ i → reaction_steps (drop i leaves) all ≡ 0
reacts_end leaves all i past = ap (λ l. reaction_steps l all) (drop_end leaves i past)

-- SUMS

-- a part more of a sum, and what is left of it
pub sum_next : (sum part rest left all next : ℕ) → next ≡ shown (sum + part) → left ≡ part + rest → shown (sum + left) ≡ all → shown (next + rest) ≡ all
sum_next sum part rest left all next more split is =
    let joined : sum + part + rest ≡ sum + left = omega (arith, split) in
    ap (λ n. shown (n + rest)) more ∙ (shown_more (sum + part) rest ∙ (ap shown joined ∙ is))

-- what is stored stays
pub stored_next : (n next : ℕ) → next ≡ shown n → shown next ≡ next
stored_next n next e = ap shown e ∙ (shown_twice n ∙ sym e)

pub sum_end : (sum left all : ℕ) → left ≡ 0 → shown sum ≡ sum → shown (sum + left) ≡ all → sum ≡ all
sum_end sum left all none stored is = let same : sum + left ≡ sum = omega (arith, none) in sym stored ∙ (sym (ap shown same) ∙ is)

-- BUDGETS OF A SIGNAL

pub steps_of_some : (y i : ℕ) (bs : List Budget) (k : ℕ) (b : Budget) → slice_get bs k ≡ Some b
    → slice_index (slice_index_or b.steps.for_signals y []) i ≡ slice_index (steps_of_signal y i bs) k
steps_of_some y i [] k b e = absurd (none_some e)
steps_of_some y i (a ∷ bs) zero b e = ap (λ (c : Budget). slice_index (slice_index_or c.steps.for_signals y []) i) (sym (some_same e))
steps_of_some y i (a ∷ bs) (suc k) b e = steps_of_some y i bs k b e

pub steps_of_none : (y i : ℕ) (bs : List Budget) (k : ℕ) → slice_get bs k ≡ None → slice_index (steps_of_signal y i bs) k ≡ 0
steps_of_none y i [] k e = none_index k
steps_of_none y i (a ∷ bs) zero e = absurd (none_some (sym e))
steps_of_none y i (a ∷ bs) (suc k) e = steps_of_none y i bs k e

-- LOOKING UP

pub got : {A : Type 0} (xs : List A) (i : ℕ) (a : A) → i < length xs → a ≡ get_or xs i a → slice_get xs i ≡ Some a
got [] i a less e = absurd (omega (arith, less))
got (x ∷ xs) zero a less e = ap Some (sym e)
got (x ∷ xs) (suc i) a less e = got xs i a (omega (arith, less)) e

pub not_got : {A : Type 0} (xs : List A) (i : ℕ) → length xs ≤ i → slice_get xs i ≡ None
not_got [] i past = refl
not_got (x ∷ xs) zero past = absurd (omega (arith, past))
not_got (x ∷ xs) (suc i) past = not_got xs i (omega (arith, past))
