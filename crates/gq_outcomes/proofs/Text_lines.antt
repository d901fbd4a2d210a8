-- Texts that grow line by line.
use Rattle.std.proofs.Common.{◌≡◌, ℕ, zero, suc, ◌+◌, ◌<◌, ◌≤◌, List, [], ◌∷◌, ◌++◌, length, drop, get_or, map, Option, Some}
use Rattle.std.proofs.Common.{refl, ap, sym, subst, ◌∙◌, append_assoc, append-nil, arith, IfSome}
use Rattle.std.specs.Prelude.{slice_get, if◌then◌else◌, Result, Ok, Err, OnOk}
use Rattle.std.specs.Result.{is_ok}
use Rattle.gq_model.specs.machine.Accounts.{Account, account_line, account_lines}
use Rattle.gq_model.specs.machine.Scenario.{Scenario, components}
use Rattle.gq_resolve.specs.NodeTables.{LeafRow, leaf_rows}
use Rattle.gq_resolve.proofs.Node_table_rows.{row_at}
use Rattle.gq_outcomes.specs.Outcomes.{Outcome, lines_of}
use Rattle.gq_outcomes.specs.Text.{name_at, outcome_text, outcomes_text_from}

-- what is put at the end stands before what is left
grown : (old new first rest : List ℕ) → new ≡ old ++ first → new ++ rest ≡ old ++ (first ++ rest)
grown old new first rest e = ap (λ l. l ++ rest) e ∙ append_assoc old first rest

pub none_left : {A : Type 0} (xs : List A) (k : ℕ) → length xs ≤ k → drop k xs ≡ []
none_left [] zero l = refl
none_left [] (suc k) l = refl
none_left (x ∷ xs) zero l = absurd (omega (arith, l))
none_left (x ∷ xs) (suc k) l = none_left xs k (omega (arith, l))

pub one_left : {A : Type 0} (xs : List A) (k : ℕ) (x : A) → k < length xs → x ≡ get_or xs k x → drop k xs ≡ x ∷ drop (k + 1) xs
one_left [] k x l e = absurd (omega (arith, l))
one_left (y ∷ xs) zero x l e = ap (λ z. z ∷ xs) (sym e)
one_left (y ∷ xs) (suc k) x l e =
    let on : suc (k + 1) ≡ suc k + 1 = omega arith in one_left xs k x (omega (arith, l)) e ∙ ap (λ n. x ∷ drop n (y ∷ xs)) on

-- what was put, if it was
pub ok_added : {T E : Type 0} (r : Result T E) (new a b : List ℕ) → new ≡ (if is_ok r then a else b) → OnOk r (new ≡ a)
ok_added (Ok u) new a b e = e
ok_added (Err x) new a b e = tt

-- texts in a row
pub three_joined : (old a b c : List ℕ) → ((old ++ a) ++ b) ++ c ≡ old ++ ((a ++ b) ++ c)
three_joined old a b c = ap (λ l. l ++ c) (append_assoc old a b) ∙ append_assoc old (a ++ b) c

pub five_joined : (old a b c d e : List ℕ) → ((((old ++ a) ++ b) ++ c) ++ d) ++ e ≡ old ++ ((((a ++ b) ++ c) ++ d) ++ e)
five_joined old a b c d e =
    ap (λ l. (l ++ d) ++ e) (three_joined old a b c)
    ∙ ap (λ l. l ++ e) (append_assoc old ((a ++ b) ++ c) d) ∙ append_assoc old (((a ++ b) ++ c) ++ d) e

pub six_joined : (old a b c d e f : List ℕ) → (((((old ++ a) ++ b) ++ c) ++ d) ++ e) ++ f ≡ old ++ (((((a ++ b) ++ c) ++ d) ++ e) ++ f)
six_joined old a b c d e f = ap (λ l. l ++ f) (five_joined old a b c d e) ∙ append_assoc old ((((a ++ b) ++ c) ++ d) ++ e) f

pub row_joined : (old name number : List ℕ) → (((old ++ name) ++ 32 ∷ []) ++ number) ++ 10 ∷ [] ≡ old ++ ((name ++ (32 ∷ number)) ++ 10 ∷ [])
row_joined old name number =
    ap (λ l. l ++ 10 ∷ []) (append_assoc (old ++ name) (32 ∷ []) number ∙ append_assoc old name (32 ∷ number))
    ∙ append_assoc old (name ++ (32 ∷ number)) (10 ∷ [])

-- the name that is reported of a leaf is its component's
pub name_of : (s : Scenario) (x : ℕ) (name : List ℕ) → x < length (components s) → IfSome (slice_get (leaf_rows s) x) (λ (r : LeafRow). name ≡ r.name)
    → name ≡ name_at (slice_get (components s) x)
name_of s x name less reported =
    let r = row_at s x less in
    subst (λ (o : Option LeafRow). IfSome o (λ (l : LeafRow). name ≡ l.name)) r.row reported ∙ ap name_at (sym r.there)

-- ACCOUNTS

pub accounts_more : (v : ℕ) (all : List Account) (k : ℕ) (line old new : List ℕ) → k < length all
    → ((a : Account) → slice_get all k ≡ Some a → line ≡ account_line v a) → new ≡ old ++ line
    → new ++ account_lines v (drop (k + 1) all) ≡ old ++ account_lines v (drop k all)
accounts_more v [] k line old new l is e = absurd (omega (arith, l))
accounts_more v (a ∷ all) zero line old new l is e =
    grown old new line (account_lines v all) e ∙ ap (λ t. old ++ (t ++ account_lines v all)) (is a refl)
accounts_more v (a ∷ all) (suc k) line old new l is e =
    let on : suc k + 1 ≡ suc (k + 1) = omega arith in
    ap (λ n. new ++ account_lines v (drop n (a ∷ all))) on ∙ accounts_more v all k line old new (omega (arith, l)) is e

pub accounts_all : (v : ℕ) (all : List Account) (k : ℕ) (old : List ℕ) → length all ≤ k → old ++ account_lines v (drop k all) ≡ old
accounts_all v all k old l = ap (λ t. old ++ account_lines v t) (none_left all k l) ∙ append-nil old

-- LINES OF LEAVES

pub lines_more : {A : Type 0} (f : A → List ℕ) (xs : List A) (k : ℕ) (x : A) (old new : List ℕ) → k < length xs → x ≡ get_or xs k x → new ≡ old ++ f x
    → new ++ lines_of (map f (drop (k + 1) xs)) ≡ old ++ lines_of (map f (drop k xs))
lines_more f xs k x old new l e pushed =
    grown old new (f x) (lines_of (map f (drop (k + 1) xs))) pushed ∙ ap (λ t. old ++ lines_of (map f t)) (sym (one_left xs k x l e))

pub lines_all : {A : Type 0} (f : A → List ℕ) (xs : List A) (k : ℕ) (old : List ℕ) → length xs ≤ k → old ++ lines_of (map f (drop k xs)) ≡ old
lines_all f xs k old l = ap (λ t. old ++ lines_of (map f t)) (none_left xs k l) ∙ append-nil old

-- OUTCOMES

pub outcomes_more : {A : Type 0} (f : A → Outcome) (xs : List A) (k : ℕ) (x : A) (old new : List ℕ) → k < length xs → x ≡ get_or xs k x
    → new ≡ old ++ outcome_text (k + 1) (f x)
    → new ++ outcomes_text_from (k + 1 + 1) (map f (drop (k + 1) xs)) ≡ old ++ outcomes_text_from (k + 1) (map f (drop k xs))
outcomes_more f xs k x old new l e pushed =
    let on : k + 1 + 1 ≡ suc (k + 1) = omega arith in
    ap (λ n. new ++ outcomes_text_from n (map f (drop (k + 1) xs))) on
    ∙ grown old new (outcome_text (k + 1) (f x)) (outcomes_text_from (suc (k + 1)) (map f (drop (k + 1) xs))) pushed
    ∙ ap (λ t. old ++ outcomes_text_from (k + 1) (map f t)) (sym (one_left xs k x l e))

pub outcomes_all : {A : Type 0} (f : A → Outcome) (xs : List A) (k n : ℕ) (old : List ℕ) → length xs ≤ k
    → old ++ outcomes_text_from n (map f (drop k xs)) ≡ old
outcomes_all f xs k n old l = ap (λ t. old ++ outcomes_text_from n (map f t)) (none_left xs k l) ∙ append-nil old
