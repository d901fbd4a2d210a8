-- The signals of a leaf: what is submitted, what is taken, and how often.
use Rattle.std.proofs.Common.{◌≡◌, ℕ, zero, suc, ◌+◌, ◌≤◌, ◌<◌, Bool, true, false, cond, List, [], ◌∷◌, map, length, replicate, Option, Some, None, refl, ap}
use Rattle.std.proofs.Common.{sym, ◌∙◌, subst, set, get_or, take, drop, ◌++◌, arith}
use Rattle.std.specs.List.{refill}
use Rattle.std.specs.Prelude.{option_map, slice_get}
use Rattle.gq_model.specs.machine.Run.{signals_with}
use Rattle.gq_model.specs.machine.Step.{first_signal, later_signal}
use Rattle.gq_model.specs.machine.World as world
use Rattle.gq_model.proofs.Small_facts.{some_same}
use Rattle.gq_leaf.specs.declared.signals.Signal.{Signal}
use Rattle.gq_leaf.specs.internal.Signal_lists.{AreTakenWithin, first_from, signal_seen, with_submitted, with_taken}

-- WHAT THE CODE DOES

abbrev none : Signal
none = record { submitted = false; taken = 0 }

-- a write into one of them
pub set_submitted : (xs : List Signal) (i : ℕ) → set xs i (record { submitted = true; taken = (get_or xs i none).taken }) ≡ with_submitted xs i
set_submitted [] i = refl
set_submitted (x ∷ xs) zero = refl
set_submitted (x ∷ xs) (suc i) = ap (λ ys. x ∷ ys) (set_submitted xs i)

pub set_taken : (xs : List Signal) (i : ℕ) → set xs i (record { submitted = false; taken = (get_or xs i none).taken + 1 }) ≡ with_taken xs i
set_taken [] i = refl
set_taken (x ∷ xs) zero = let same : x.taken + 1 ≡ suc x.taken = omega arith in ap (λ n. record { submitted = false; taken = n } ∷ xs) same
set_taken (x ∷ xs) (suc i) = ap (λ ys. x ∷ ys) (set_taken xs i)

submitted_long : (xs : List Signal) (i : ℕ) → length (with_submitted xs i) ≡ length xs
submitted_long [] i = refl
submitted_long (x ∷ xs) zero = refl
submitted_long (x ∷ xs) (suc i) = ap suc (submitted_long xs i)

taken_long : (xs : List Signal) (i : ℕ) → length (with_taken xs i) ≡ length xs
taken_long [] i = refl
taken_long (x ∷ xs) zero = refl
taken_long (x ∷ xs) (suc i) = ap suc (taken_long xs i)

-- as many in place of those that there are
refilled : (xs ws : List Signal) → length ws ≡ length xs → refill (length xs) xs ws ≡ ws
refilled xs ws e = ap (λ n. take n (ws ++ drop (length ws) xs)) (sym e) ∙ seam ws (drop (length ws) xs)
  where
    seam : (front rest : List Signal) → take (length front) (front ++ rest) ≡ front
    seam [] rest = refl
    seam (a ∷ front) rest = ap (λ ys. a ∷ ys) (seam front rest)

pub refilled_submitted : (xs ys ws : List Signal) (i : ℕ) → ys ≡ xs → ws ≡ with_submitted ys i → refill (length xs) xs ws ≡ with_submitted xs i
refilled_submitted xs ys ws i same is =
    let now = is ∙ ap (λ l. with_submitted l i) same in refilled xs ws (ap length now ∙ submitted_long xs i) ∙ now

pub refilled_taken : (xs ys ws : List Signal) (i : ℕ) → ys ≡ xs → ws ≡ with_taken ys i → refill (length xs) xs ws ≡ with_taken xs i
refilled_taken xs ys ws i same is =
    let now = is ∙ ap (λ l. with_taken l i) same in refilled xs ws (ap length now ∙ taken_long xs i) ∙ now

pub submitted_seen : (xs : List Signal) (i : ℕ) → map signal_seen (with_submitted xs i) ≡ signals_with (map signal_seen xs) i
submitted_seen [] i = refl
submitted_seen (x ∷ xs) zero = refl
submitted_seen (x ∷ xs) (suc i) = ap (λ ys. signal_seen x ∷ ys) (submitted_seen xs i)

-- one that is not there changes nothing
pub none_submitted : (xs : List world.Signal) (i : ℕ) → length xs ≤ i → signals_with xs i ≡ xs
none_submitted [] i h = refl
none_submitted (x ∷ xs) zero h = absurd (omega (arith, h))
none_submitted (x ∷ xs) (suc i) h = let shorter : length xs ≤ i = omega (arith, h) in ap (λ ys. x ∷ ys) (none_submitted xs i shorter)

abbrev number_in : Option (ℕ × List world.Signal) → Option ℕ
number_in o = option_map (λ p. p.0) o

-- the number of the first, counted from k
first_counted : (k : ℕ) (xs : List Signal) → first_from k xs ≡ option_map (λ n. k + n) (number_in (first_signal (map signal_seen xs)))
first_counted k [] = refl
first_counted k (x ∷ xs) = by x.submitted (first_signal (map signal_seen xs)) (first_counted (suc k) xs)
  where
    by : (b : Bool) (o : Option (ℕ × List world.Signal)) → first_from (suc k) xs ≡ option_map (λ n. suc k + n) (number_in o)
        → cond b (Some k) (first_from (suc k) xs)
        ≡ option_map (λ n. k + n) (number_in (cond b (Some (0, record { submitted = false; taken = suc x.taken } ∷ map signal_seen xs))
        (later_signal (signal_seen x) o)))
    by true o e = let same : k ≡ k + 0 = omega arith in ap Some same
    by false None e = e
    by false (Some p) e = let same : suc k + p.0 ≡ k + suc p.0 = omega arith in e ∙ ap Some same

pub first_seen : (xs : List Signal) → first_from 0 xs ≡ number_in (first_signal (map signal_seen xs))
first_seen xs = first_counted 0 xs ∙ plain (number_in (first_signal (map signal_seen xs)))
  where
    plain : (o : Option ℕ) → option_map (λ n. 0 + n) o ≡ o
    plain None = refl
    plain (Some n) = let same : 0 + n ≡ n = omega arith in ap Some same

-- the first is taken
pub taken_seen : (xs : List Signal) (i : ℕ) → number_in (first_signal (map signal_seen xs)) ≡ Some i
    → first_signal (map signal_seen xs) ≡ Some (i, map signal_seen (with_taken xs i))
taken_seen [] i e = cc
taken_seen (x ∷ xs) i e = by x.submitted (first_signal (map signal_seen xs)) refl (taken_seen xs) i e
  where
    here : Option (ℕ × List world.Signal)
    here = Some (0, record { submitted = false; taken = suc x.taken } ∷ map signal_seen xs)

    by : (b : Bool) (o : Option (ℕ × List world.Signal)) → first_signal (map signal_seen xs) ≡ o
        → ((j : ℕ) → number_in (first_signal (map signal_seen xs)) ≡ Some j → first_signal (map signal_seen xs) ≡ Some (j, map signal_seen (with_taken xs j)))
        → (j : ℕ) → number_in (cond b here (later_signal (signal_seen x) o)) ≡ Some j
        → cond b here (later_signal (signal_seen x) o) ≡ Some (j, map signal_seen (with_taken (x ∷ xs) j))
    by true o is further zero e = refl
    by true o is further (suc j) e = absurd (let same = some_same e in omega (arith, same))
    by false None is further j e = cc
    by false (Some p) is further zero e = absurd (let same = some_same e in omega (arith, same))
    by false (Some p) is further (suc j) e =
        let same = some_same e in
        let fewer : p.0 ≡ j = omega (arith, same) in
        ap (later_signal (signal_seen x)) (sym is ∙ further j (ap number_in is ∙ ap Some fewer))

-- HOW OFTEN

pub within_more : (m n : ℕ) (xs : List world.Signal) → m ≤ n → AreTakenWithin m xs → AreTakenWithin n xs
within_more m n [] le h = tt
within_more m n (x ∷ xs) le h = let first = h.0 in (omega (arith, le, first), within_more m n xs le h.1)

pub one_more : (n : ℕ) (xs : List world.Signal) → AreTakenWithin n xs → AreTakenWithin (n + 1) xs
one_more n xs h = within_more n (n + 1) xs (omega arith) h

pub within_at_first : (n count : ℕ) → AreTakenWithin n (replicate count (record { submitted = false; taken = 0 }))
within_at_first n zero = tt
within_at_first n (suc count) = (omega arith, within_at_first n count)

pub within_submitted : (n : ℕ) (xs : List world.Signal) (i : ℕ) → AreTakenWithin n xs → AreTakenWithin n (signals_with xs i)
within_submitted n [] i h = tt
within_submitted n (x ∷ xs) zero h = h
within_submitted n (x ∷ xs) (suc i) h = (h.0, within_submitted n xs i h.1)

-- a step in which one is taken
pub within_taken : (n : ℕ) (xs : List world.Signal) (p : ℕ × List world.Signal) → first_signal xs ≡ Some p → AreTakenWithin n xs → AreTakenWithin (n + 1) p.1
within_taken n [] p e h = cc
within_taken n (x ∷ xs) p e h = by x.submitted (first_signal xs) (λ q is. within_taken n xs q is h.1) e
  where
    by : (b : Bool) (o : Option (ℕ × List world.Signal)) → ((q : ℕ × List world.Signal) → o ≡ Some q → AreTakenWithin (n + 1) q.1)
        → cond b (Some (0, record { submitted = false; taken = suc x.taken } ∷ xs)) (later_signal x o) ≡ Some p → AreTakenWithin (n + 1) p.1
    by true o further e =
        let few = h.0 in
        let now : AreTakenWithin (n + 1) (record { submitted = false; taken = suc x.taken } ∷ xs) = (omega (arith, few), one_more n xs h.1) in
        subst (λ (q : ℕ × List world.Signal). AreTakenWithin (n + 1) q.1) (some_same e) now
    by false None further e = cc
    by false (Some q) further e =
        let few = h.0 in
        let now : AreTakenWithin (n + 1) (x ∷ q.1) = (omega (arith, few), further q refl) in
        subst (λ (r : ℕ × List world.Signal). AreTakenWithin (n + 1) r.1) (some_same e) now

-- the count of one that is there
pub within_there : (n : ℕ) (xs : List Signal) (i : ℕ) (s : Signal) → AreTakenWithin n (map signal_seen xs) → slice_get xs i ≡ Some s → s.taken ≤ n
within_there n [] i s h e = cc
within_there n (x ∷ xs) zero s h e =
    let few = h.0 in let same : x.taken ≡ s.taken = ap (λ (t : Signal). t.taken) (some_same e) in omega (arith, few, same)
within_there n (x ∷ xs) (suc i) s h e = within_there n xs i s h.1 e

-- the first is there
pub first_there : (xs : List Signal) (i : ℕ) → number_in (first_signal (map signal_seen xs)) ≡ Some i → i < length xs
first_there [] i e = cc
first_there (x ∷ xs) i e = by x.submitted (first_signal (map signal_seen xs)) (first_there xs) i e
  where
    by : (b : Bool) (o : Option (ℕ × List world.Signal)) → ((j : ℕ) → number_in o ≡ Some j → j < length xs) → (j : ℕ)
        → number_in (cond b (Some (0, record { submitted = false; taken = suc x.taken } ∷ map signal_seen xs)) (later_signal (signal_seen x) o)) ≡ Some j
        → j < suc (length xs)
    by b o further zero e = omega arith
    by true o further (suc j) e = absurd (let same = some_same e in omega (arith, same))
    by false None further (suc j) e = cc
    by false (Some p) further (suc j) e =
        let same = some_same e in
        let fewer : p.0 ≡ j = omega (arith, same) in
        let rest = further j (ap Some fewer) in
        omega (arith, rest)
