-- The steps of leaves for signals, as lines have them.
use Rattle.std.proofs.Common.{◌≡◌, ℕ, zero, suc, ◌+◌, ◌-◌, ◌<◌, ◌≤◌, Bool, true, false, List, [], ◌∷◌, ◌++◌, length, get_or, drop, Some, None, Option}
use Rattle.std.proofs.Common.{refl, ap, sym, subst, ◌∙◌, arith, append_assoc}
use Rattle.std.specs.Prelude.{sum, slice_index, slice_index_or, ◌&&◌, if◌then◌else◌, codes, decimal}
use Rattle.std.proofs.lemmas.Bool.{and_parts, and_from, leb-true}
use Rattle.std.proofs.lemmas.List.{drop_more, drop_all}
use Rattle.std.proofs.lemmas.List.Sums.{sum_by-cons}
use Rattle.gq_model.specs.machine.Accounts.{entry}
use Rattle.gq_model.specs.machine.Lists.{all_of, or_first}
use Rattle.gq_model.specs.machine.Scenario.{Scenario, Component, components, system}
use Rattle.gq_model.specs.machine.Step_budgets.{StepBudget}
use Rattle.gq_model.specs.rules.Verdict.{greatest_cost}
use Rattle.gq_model.specs.rules.Resolve.{unresolved}
use Rattle.gq_model.specs.rules.Accept.{Budget, Refusal, is_small, are_small, steps_refusal, own_refusal, not_resolved, program_refusal, budgets, refusal}
use Rattle.gq_model.specs.rules.Accept.{steps_of_signal, signal_line, signal_lines_of, signal_lines_from, Over_steps}
use Rattle.gq_model.specs.machine.Amounts.{Ram, Caps}
use Rattle.gq_model.proofs.Small_facts.{or_first_none}
use Rattle.gq_load.specs.internal.Small_budgets.{all_small}
use Rattle.gq_load.proofs.Saturated_step_budgets.{small_first}

-- SMALL NUMBERS

row_small : (steps : List ℕ) (i : ℕ) → all_of is_small steps ≡ true → get_or steps i 0 ≤ 1000000000000
row_small [] i e = omega arith
row_small (n ∷ steps) zero e = leb-true n greatest_cost (and_parts (is_small n) (all_of is_small steps) e).0
row_small (n ∷ steps) (suc i) e = row_small steps i (and_parts (is_small n) (all_of is_small steps) e).1

rows_small : (rows : List (List ℕ)) (y : ℕ) → all_of (all_of is_small) rows ≡ true → all_of is_small (get_or rows y []) ≡ true
rows_small [] y e = refl
rows_small (steps ∷ rows) zero e = (and_parts (all_of is_small steps) (all_of (all_of is_small) rows) e).0
rows_small (steps ∷ rows) (suc y) e = rows_small rows y (and_parts (all_of is_small steps) (all_of (all_of is_small) rows) e).1

abbrev step : ℕ → ℕ → Budget → ℕ
step y i b = slice_index (slice_index_or b.steps.for_signals y []) i

step_small : (y i : ℕ) (b : Budget) → are_small b.steps ≡ true → step y i b ≤ 1000000000000
step_small y i b e =
    let p = and_parts (is_small b.steps.from_start) (all_of (all_of is_small) b.steps.for_signals) e in
    row_small (slice_index_or b.steps.for_signals y []) i (rows_small b.steps.for_signals y p.1)

small_at : (bs : List Budget) (k : ℕ) (b : Budget) → all_small bs ≡ true → k < length bs → b ≡ get_or bs k b → are_small b.steps ≡ true
small_at [] k b e less is = absurd (omega (arith, less))
small_at (a ∷ bs) zero b e less is = ap (λ (c : Budget). are_small c.steps) is ∙ (and_parts (are_small a.steps) (all_small bs) e).0
small_at (a ∷ bs) (suc k) b e less is = small_at bs k b (and_parts (are_small a.steps) (all_small bs) e).1 (omega (arith, less)) is

pub step_at_small : (y i k : ℕ) (bs : List Budget) (b : Budget) → all_small bs ≡ true → k < length bs → b ≡ get_or bs k b → step y i b ≤ 1000000000000
step_at_small y i k bs b e less is = step_small y i b (small_at bs k b e less is)

-- SUMS

-- one leaf more
pub sum_next : (y i k : ℕ) (bs : List Budget) (b : Budget) → k < length bs → b ≡ get_or bs k b
    → sum (steps_of_signal y i (drop k bs)) ≡ step y i b + sum (steps_of_signal y i (drop (k + 1) bs))
sum_next y i k bs b less is =
    ap (λ l. sum (steps_of_signal y i l)) (drop_more bs k b less)
    ∙ (sum_by-cons (λ n. n) (step y i (get_or bs k b)) (steps_of_signal y i (drop (k + 1) bs))
    ∙ ap (λ c. step y i c + sum (steps_of_signal y i (drop (k + 1) bs))) (sym is))

pub sum_end : (y i k : ℕ) (bs : List Budget) → length bs ≤ k → sum (steps_of_signal y i (drop k bs)) ≡ 0
sum_end y i k bs past = ap (λ l. sum (steps_of_signal y i l)) (drop_all k bs past)

-- LINES

-- the steps of the k-th leaf
pub step_of : (y i k : ℕ) (bs : List Budget) (b : Budget) → k < length bs → b ≡ get_or bs k b → slice_index (steps_of_signal y i bs) k ≡ step y i b
step_of y i k [] b less is = absurd (omega (arith, less))
step_of y i zero (a ∷ bs) b less is = ap (step y i) (sym is)
step_of y i (suc k) (a ∷ bs) b less is = step_of y i k bs b (omega (arith, less)) is

-- one signal more
pub lines_next : (y i n : ℕ) (c : Component) (bs : List Budget) → i < n
    → signal_lines_of y i (n - i) c bs ≡ signal_line y i c (steps_of_signal y i bs) ++ signal_lines_of y (i + 1) (n - (i + 1)) c bs
lines_next y i n c bs less =
    let left : n - i ≡ suc (n - (i + 1)) = omega (arith, less) in
    let next : suc i ≡ i + 1 = omega arith in
    ap (λ m. signal_lines_of y i m c bs) left
    ∙ ap (λ k. signal_line y i c (steps_of_signal y i bs) ++ signal_lines_of y k (n - (i + 1)) c bs) next

two : (t a b : List ℕ) → t ++ (a ++ b) ≡ t ++ a ++ b
two t a b = sym (append_assoc t a b)

three : (t a b c : List ℕ) → t ++ (a ++ b ++ c) ≡ t ++ a ++ b ++ c
three t a b c = sym (append_assoc t (a ++ b) c) ∙ ap (λ l. l ++ c) (two t a b)

five : (t a b c d e : List ℕ) → t ++ (a ++ b ++ c ++ d ++ e) ≡ t ++ a ++ b ++ c ++ d ++ e
five t a b c d e =
    sym (append_assoc t (a ++ b ++ c ++ d) e)
    ∙ ap (λ l. l ++ e) (sym (append_assoc t (a ++ b ++ c) d) ∙ ap (λ l. l ++ d) (three t a b c))

-- seven parts behind a text
seven : (t a b c d e f g : List ℕ) → t ++ (a ++ b ++ c ++ d ++ e ++ f ++ g) ≡ t ++ a ++ b ++ c ++ d ++ e ++ f ++ g
seven t a b c d e f g =
    sym (append_assoc t (a ++ b ++ c ++ d ++ e ++ f) g)
    ∙ ap (λ l. l ++ g) (sym (append_assoc t (a ++ b ++ c ++ d ++ e) f) ∙ ap (λ l. l ++ f) (five t a b c d e))

-- a line, part by part
pub line_made : (y i : ℕ) (c : Component) (steps label t t1 t2 t3 t4 t5 t6 t7 : List ℕ) (n m : ℕ) → t1 ≡ t ++ codes "signal " → t2 ≡ t1 ++ label
    → t3 ≡ t2 ++ codes " " → t4 ≡ t3 ++ decimal i → t5 ≡ t4 ++ entry (codes "steps") n → t6 ≡ t5 ++ entry (codes "all") m → t7 ≡ t6 ++ 10 ∷ []
    → c.label ≡ label → n ≡ slice_index steps y → m ≡ sum steps → t7 ≡ t ++ signal_line y i c steps
line_made y i c steps label t t1 t2 t3 t4 t5 t6 t7 n m e1 e2 e3 e4 e5 e6 e7 same own all =
    rw (e7, e6, e5, e4, e3, e2, e1, ← same, own, all)
    (sym (seven t (codes "signal ") c.label (codes " ") (decimal i) (entry (codes "steps") (slice_index steps y)) (entry (codes "all") (sum steps)) (10 ∷ [])))

-- one line more
pub line_more : (t t' line rest lines all : List ℕ) → t' ≡ t ++ line → lines ≡ line ++ rest → t ++ lines ≡ all → t' ++ rest ≡ all
line_more t t' line rest lines all more split e =
    ap (λ l. l ++ rest) more ∙ (append_assoc t line rest ∙ (ap (λ l. t ++ l) (sym split) ∙ e))

-- WHERE A SCENARIO IS ACCEPTED

small_where : (cs : List Component) (bs : List Budget) → length bs ≡ length cs → steps_refusal cs bs ≡ None → all_small bs ≡ true
small_where cs [] e none = refl
small_where [] (b ∷ bs) e none = absurd (omega (arith, e))
small_where (c ∷ cs) (b ∷ bs) e none =
    let p = small_first (are_small b.steps) c.node.name (steps_refusal cs bs) none in
    and_from (are_small b.steps) (all_small bs) p.0 (small_where cs bs (omega (arith, e)) p.1)

-- no leaf may take too many steps
pub accepted_small : (s : Scenario) → refusal s ≡ None → length (budgets s) ≡ length (components s) → all_small (budgets s) ≡ true
accepted_small s none e =
    let cs = components s in
    let a = or_first_none (program_refusal (system s) cs) _ none in
    let b = or_first_none (not_resolved (unresolved s)) _ a.1 in
    let c = or_first_none (own_refusal Ram cs (budgets s)) _ b.1 in
    let d = or_first_none (steps_refusal cs (budgets s)) _ c.1 in
    small_where cs (budgets s) e d.0
