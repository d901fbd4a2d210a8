-- The first turns of a list, entry by entry, and move by move.
use Rattle.std.proofs.Common.{◌≡◌, ◌∙◌, ℕ, ◌+◌, ◌-◌, zero, suc, List, [], ◌∷◌, ◌++◌, take, Option, Some, None, refl, ap, sym, arith}
use Rattle.std.specs.Prelude.{min, replicate, slice_get}
use Rattle.std.proofs.lemmas.Bool.Decides.{nat_tests}
use Rattle.gq_model.specs.declared.act.Act.{Act}
use Rattle.gq_model.specs.declared.act.Act.TheVariants.{Turns, Sets, Submits}
use Rattle.gq_model.specs.machine.Run.{Acts}
use Rattle.gq_model.specs.machine.Scenario.{System}
use Rattle.gq_model.specs.texts.Turns.{turns_given}
use Rattle.gq_model.proofs.Small_facts.{none_some, some_same}
use Rattle.gq_traces.specs.First_turns.{AreFirst, first_moves, first_of, first_turns, some_turns, turns_in}
use Rattle.gq_traces.specs.Trace.{Traced, after_act, after_all}
use Rattle.gq_laws.specs.Progress.{Move, Turn_of, Setting_of, Signal_of, each_move, moves_of}

-- WHAT IS LEFT

pub left_at_first : (n : ℕ) → n ≡ n - 0
left_at_first n = omega arith

pub turns_more : (acts : Acts) (i : ℕ) (p : ℕ × Act) → slice_get acts i ≡ Some p → turns_in (take (suc i) acts) ≡ turns_in (take i acts) + turns_given p.1
turns_more [] i p e = absurd (none_some e)
turns_more (q ∷ acts) zero p e = let same = ap (λ (r : ℕ × Act). turns_given r.1) (some_same e) in omega (arith, same)
turns_more (q ∷ acts) (suc i) p e = let more = turns_more acts i p e in omega (arith, more)

-- what is left after what is given
less_by : (left : ℕ) (a : Act) → left - turns_given (first_of left a) ≡ left - turns_given a
less_by left (Turns m) = grind (arith, nat_tests)
less_by zero (Sets i v) = refl
less_by (suc n) (Sets i v) = refl
less_by zero (Submits i) = refl
less_by (suc n) (Submits i) = refl

pub left_then : (n : ℕ) (acts : Acts) (i : ℕ) (p : ℕ × Act) (left : ℕ) → slice_get acts i ≡ Some p → left ≡ n - turns_in (take i acts)
    → left - turns_given (first_of left p.1) ≡ n - turns_in (take (i + 1) acts)
left_then n acts i p left e is =
    let one : suc i ≡ i + 1 = omega arith in
    let more = turns_more acts i p e in
    let less = less_by left p.1 in
    let then : left - turns_given (first_of left p.1) ≡ n - turns_in (take (suc i) acts) = omega (arith, more, less, is) in
    then ∙ ap (λ m. n - turns_in (take m acts)) one

-- ONE ENTRY MORE

pub first_more : (system : System) (n : ℕ) (acts : Acts) (i : ℕ) (p : ℕ × Act) → slice_get acts i ≡ Some p → (t : Traced)
    → after_act system p.0 (first_of (n - turns_in (take i acts)) p.1) (after_all system (first_turns n (take i acts)) t)
    ≡ after_all system (first_turns n (take (i + 1) acts)) t
first_more system n acts i p there t =
    let one : suc i ≡ i + 1 = omega arith in by n acts i there t ∙ ap (λ m. after_all system (first_turns n (take m acts)) t) one
  where
    by : (n : ℕ) (acts : Acts) (i : ℕ) → slice_get acts i ≡ Some p → (t : Traced)
        → after_act system p.0 (first_of (n - turns_in (take i acts)) p.1) (after_all system (first_turns n (take i acts)) t)
        ≡ after_all system (first_turns n (take (suc i) acts)) t
    by n [] i e t = absurd (none_some e)
    by n (q ∷ acts) zero e t =
        ap (λ m. after_act system p.0 (first_of m p.1) t) (sym (left_at_first n))
        ∙ ap (λ (r : ℕ × Act). after_act system r.0 (first_of n r.1) t) (sym (some_same e))
    by n (q ∷ acts) (suc i) e t =
        let c = turns_given q.1 in
        let k = turns_in (take i acts) in
        let less : n - (c + k) ≡ n - c - k = omega arith in
        let then = after_act system q.0 (first_of n q.1) t in
        ap (λ m. after_act system p.0 (first_of m p.1) (after_all system (first_turns (n - c) (take i acts)) then)) less ∙ by (n - c) acts i e then

-- MOVE BY MOVE

take_over : (n x c : ℕ) (rest : List Move) → replicate (min n c) (Turn_of x) ++ first_moves (n - c) rest ≡ first_moves n (replicate c (Turn_of x) ++ rest)
take_over n x zero rest = let none : min n 0 ≡ 0 = grind (arith, nat_tests) in
    ap (λ m. replicate m (Turn_of x) ++ first_moves (n - 0) rest) none ∙ ap (λ m. first_moves m rest) (sym (left_at_first n))
take_over zero x (suc c) rest =
    let none : min 0 (suc c) ≡ 0 = grind (arith, nat_tests) in
    let over : 0 - suc c ≡ 0 = omega arith in
    ap (λ m. replicate m (Turn_of x) ++ first_moves (0 - suc c) rest) none ∙ ap (λ m. first_moves m rest) over ∙ no_moves rest
  where
    no_moves : (rest : List Move) → first_moves 0 rest ≡ []
    no_moves [] = refl
    no_moves (m ∷ rest) = refl
take_over (suc n) x (suc c) rest =
    let both : min (suc n) (suc c) ≡ suc (min n c) = grind (arith, nat_tests) in
    let less : suc n - suc c ≡ n - c = omega arith in
    ap (λ m. replicate m (Turn_of x) ++ first_moves (suc n - suc c) rest) both
    ∙ ap (λ m. Turn_of x ∷ replicate (min n c) (Turn_of x) ++ first_moves m rest) less
    ∙ ap (λ l. Turn_of x ∷ l) (take_over n x c rest)

-- what a leaf is given, then what follows
act_over : (n x : ℕ) (a : Act) (rest : List Move)
    → moves_of x (first_of n a) ++ first_moves (n - turns_given a) rest ≡ first_moves n (moves_of x a ++ rest)
act_over n x (Turns c) rest = take_over n x c rest
act_over zero x (Sets i v) [] = refl
act_over zero x (Sets i v) (m ∷ rest) = refl
act_over (suc n) x (Sets i v) rest =
    let all : suc n - 0 ≡ suc n = omega arith in ap (λ m. Setting_of x i v ∷ first_moves m rest) all
act_over zero x (Submits i) [] = refl
act_over zero x (Submits i) (m ∷ rest) = refl
act_over (suc n) x (Submits i) rest = let all : suc n - 0 ≡ suc n = omega arith in ap (λ m. Signal_of x i ∷ first_moves m rest) all

each_first : (n : ℕ) (acts : Acts) → each_move (first_turns n acts) ≡ first_moves n (each_move acts)
each_first zero [] = refl
each_first (suc n) [] = refl
each_first n (a ∷ rest) =
    ap (λ l. moves_of a.0 (first_of n a.1) ++ l) (each_first (n - turns_given a.1) rest) ∙ act_over n a.0 a.1 (each_move rest)

-- some turns are the first of all
pub are_first : (first : Option ℕ) (acts : Acts) → AreFirst first acts (some_turns first acts)
are_first None acts = refl
are_first (Some n) acts = each_first n acts
