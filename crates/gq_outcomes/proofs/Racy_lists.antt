-- Lists of marks, one leaf after the other.
use Rattle.std.proofs.Common.{◌≡◌, ℕ, zero, suc, ◌+◌, ◌<◌, ◌≤◌, Bool, true, false, ◌||◌, ◌&&◌, List, [], ◌∷◌, ◌++◌, length, drop, get_or, map, Some}
use Rattle.std.proofs.Common.{refl, ap, sym, ◌∙◌, append_assoc, append-nil, arith}
use Rattle.std.specs.Prelude.{slice_get}
use Rattle.gq_model.specs.machine.Lists.{any_of}
use Rattle.gq_model.specs.machine.Program.{Program}
use Rattle.gq_model.specs.machine.Scenario.{Component}
use Rattle.gq_model.proofs.Small_facts.{none_some, some_same}
use Rattle.gq_outcomes.specs.internal.Racy.{both, changes_later, leading, uses_marked, with_race, with_users}

put : (old new rest : List Bool) (a b : Bool) → new ≡ old ++ a ∷ [] → a ≡ b → new ++ rest ≡ old ++ b ∷ rest
put old new rest a b e f = ap (λ l. l ++ rest) e ∙ append_assoc old (a ∷ []) rest ∙ ap (λ c. old ++ c ∷ rest) f

bool_at : (bs : List Bool) (k : ℕ) (a : Bool) → k < length bs → a ≡ get_or bs k a → a ≡ get_or bs k false
bool_at [] k a l e = absurd (omega (arith, l))
bool_at (b ∷ bs) zero a l e = e
bool_at (b ∷ bs) (suc k) a l e = bool_at bs k a (omega (arith, l)) e

abbrev programs : List Component → List Program
programs cs = map (λ (c : Component). c.node.program) cs

record Here (cs : List Component) (k : ℕ) : Type 0 where
  component : Component
  at : slice_get cs k ≡ Some component
  rest : drop k cs ≡ component ∷ drop (k + 1) cs

here : (cs : List Component) (k : ℕ) → k < length cs → Here cs k
here [] k l = absurd (omega (arith, l))
here (c ∷ cs) zero l = record { component = c; at = refl; rest = refl }
here (c ∷ cs) (suc k) l =
    let h = here cs k (omega (arith, l)) in
    let on : suc (k + 1) ≡ suc k + 1 = omega arith in
    record { component = h.component; at = h.at; rest = h.rest ∙ ap (λ n. h.component ∷ drop n (c ∷ cs)) on }

program_at : (cs : List Component) (k : ℕ) (p : Program) (c : Component) → slice_get cs k ≡ Some c → p ≡ get_or (programs cs) k p → p ≡ c.node.program
program_at [] k p c e f = absurd (none_some e)
program_at (d ∷ cs) zero p c e f = f ∙ ap (λ (x : Component). x.node.program) (some_same e)
program_at (d ∷ cs) (suc k) p c e f = program_at cs k p c e f

component_at : (cs : List Component) (k : ℕ) (d c : Component) → slice_get cs k ≡ Some c → d ≡ get_or cs k d → d ≡ c
component_at [] k d c e f = absurd (none_some e)
component_at (x ∷ cs) zero d c e f = f ∙ some_same e
component_at (x ∷ cs) (suc k) d c e f = component_at cs k d c e f

pub get_or_same : (xs : List Bool) (k : ℕ) (d : Bool) → k < length xs → get_or xs k d ≡ get_or xs k (get_or xs k d)
get_or_same [] k d l = absurd (omega (arith, l))
get_or_same (x ∷ xs) zero d l = refl
get_or_same (x ∷ xs) (suc k) d l = get_or_same xs k d (omega (arith, l))

-- RACES

pub race_more : (shared : List Bool) (cs : List Component) (k : ℕ) (p : Program) (s b : Bool) (old new : List Bool) → k < length cs → k < length shared
    → p ≡ get_or (programs cs) k p → s ≡ get_or shared k s → b ≡ (s && changes_later p.sections) → new ≡ old ++ b ∷ []
    → new ++ with_race shared (k + 1) (drop (k + 1) cs) ≡ old ++ with_race shared k (drop k cs)
race_more shared cs k p s b old new less there e f is pushed =
    let h = here cs k less in
    let on : suc k ≡ k + 1 = omega arith in
    let same : b ≡ (get_or shared k false && changes_later h.component.node.program.sections) =
    is ∙ (λ i. bool_at shared k s there f i && changes_later (program_at cs k p h.component h.at e i).sections) in
    put old new (with_race shared (k + 1) (drop (k + 1) cs)) b _ pushed same
    ∙ ap (λ n. old ++ (get_or shared k false && changes_later h.component.node.program.sections) ∷ with_race shared n (drop (k + 1) cs)) (sym on)
    ∙ ap (λ l. old ++ with_race shared k l) (sym h.rest)

pub race_all : (shared : List Bool) (cs : List Component) (k : ℕ) (old : List Bool) → length cs ≤ k → old ++ with_race shared k (drop k cs) ≡ old
race_all shared cs k old past = ap (λ l. old ++ with_race shared k l) (none_left cs k past) ∙ append-nil old
  where
    none_left : (cs : List Component) (k : ℕ) → length cs ≤ k → drop k cs ≡ []
    none_left [] zero l = refl
    none_left [] (suc k) l = refl
    none_left (c ∷ cs) zero l = absurd (omega (arith, l))
    none_left (c ∷ cs) (suc k) l = none_left cs k (omega (arith, l))

-- USERS

pub user_more : (marked found : List Bool) (cs : List Component) (k : ℕ) (c : Component) (m u b : Bool) (old new : List Bool) → k < length cs
    → k < length marked → c ≡ get_or cs k c → m ≡ get_or marked k m → u ≡ uses_marked cs c found → b ≡ (m || u) → new ≡ old ++ b ∷ []
    → new ++ with_users cs marked found (k + 1) (drop (k + 1) cs) ≡ old ++ with_users cs marked found k (drop k cs)
user_more marked found cs k c m u b old new less there e f uses is pushed =
    let h = here cs k less in
    let on : suc k ≡ k + 1 = omega arith in
    let same : b ≡ (get_or marked k false || uses_marked cs h.component found) =
    is ∙ (λ i. bool_at marked k m there f i || (uses ∙ ap (λ d. uses_marked cs d found) (component_at cs k c h.component h.at e)) i) in
    put old new (with_users cs marked found (k + 1) (drop (k + 1) cs)) b _ pushed same
    ∙ ap (λ n. old ++ (get_or marked k false || uses_marked cs h.component found) ∷ with_users cs marked found n (drop (k + 1) cs)) (sym on)
    ∙ ap (λ l. old ++ with_users cs marked found k l) (sym h.rest)

pub user_all : (marked found : List Bool) (all cs : List Component) (k : ℕ) (old : List Bool) → length cs ≤ k
    → old ++ with_users all marked found k (drop k cs) ≡ old
user_all marked found all cs k old past = ap (λ l. old ++ with_users all marked found k l) (none_left cs k past) ∙ append-nil old
  where
    none_left : (cs : List Component) (k : ℕ) → length cs ≤ k → drop k cs ≡ []
    none_left [] zero l = refl
    none_left [] (suc k) l = refl
    none_left (c ∷ cs) zero l = absurd (omega (arith, l))
    none_left (c ∷ cs) (suc k) l = none_left cs k (omega (arith, l))

-- BOTH

pub both_more : (xs ys : List Bool) (k : ℕ) (a b r : Bool) (old new : List Bool) → k < length xs → length xs ≡ length ys → a ≡ get_or xs k a → b ≡ get_or ys k b
    → r ≡ (a && b) → new ≡ old ++ r ∷ [] → new ++ both (drop (k + 1) xs) (drop (k + 1) ys) ≡ old ++ both (drop k xs) (drop k ys)
both_more [] ys k a b r old new less count e f is pushed = absurd (omega (arith, less))
both_more (x ∷ xs) [] k a b r old new less count e f is pushed = absurd (omega (arith, count))
both_more (x ∷ xs) (y ∷ ys) zero a b r old new less count e f is pushed =
    put old new (both xs ys) r (x && y) pushed (is ∙ (λ i. e i && f i))
both_more (x ∷ xs) (y ∷ ys) (suc k) a b r old new less count e f is pushed =
    let on : suc k + 1 ≡ suc (k + 1) = omega arith in
    ap (λ n. new ++ both (drop n (x ∷ xs)) (drop n (y ∷ ys))) on ∙ both_more xs ys k a b r old new (omega (arith, less)) (omega (arith, count)) e f is pushed

pub both_all : (xs ys : List Bool) (k : ℕ) (old : List Bool) → length xs ≤ k → old ++ both (drop k xs) (drop k ys) ≡ old
both_all xs ys k old past = ap (λ l. old ++ both l (drop k ys)) (none_left xs k past) ∙ append-nil old
  where
    none_left : (xs : List Bool) (k : ℕ) → length xs ≤ k → drop k xs ≡ []
    none_left [] zero l = refl
    none_left [] (suc k) l = refl
    none_left (x ∷ xs) zero l = absurd (omega (arith, l))
    none_left (x ∷ xs) (suc k) l = none_left xs k (omega (arith, l))

-- SERVICES

pub service_past : (test : List ℕ → Bool) (services : List (List ℕ)) (k : ℕ) (s : List ℕ) → k < length services → s ≡ get_or services k s → test s ≡ false
    → any_of test (drop k services) ≡ any_of test (drop (k + 1) services)
service_past test [] k s l e other = absurd (omega (arith, l))
service_past test (x ∷ services) zero s l e other = ap (λ b. b || any_of test services) (ap test (sym e) ∙ other)
service_past test (x ∷ services) (suc k) s l e other =
    let on : suc (k + 1) ≡ suc k + 1 = omega arith in
    service_past test services k s (omega (arith, l)) e other ∙ ap (λ n. any_of test (drop n (x ∷ services))) on

pub service_found : (test : List ℕ → Bool) (services : List (List ℕ)) (k : ℕ) (s : List ℕ) → k < length services → s ≡ get_or services k s → test s ≡ true
    → any_of test (drop k services) ≡ true
service_found test [] k s l e this = absurd (omega (arith, l))
service_found test (x ∷ services) zero s l e this = ap (λ b. b || any_of test services) (ap test (sym e) ∙ this)
service_found test (x ∷ services) (suc k) s l e this = service_found test services k s (omega (arith, l)) e this

-- HOW MANY

users_length : (all : List Component) (marked found : List Bool) (x : ℕ) (cs : List Component) → length (with_users all marked found x cs) ≡ length cs
users_length all marked found x [] = refl
users_length all marked found x (c ∷ cs) = ap suc (users_length all marked found (suc x) cs)

pub leading_length : (all : List Component) (marked : List Bool) (n : ℕ) → length marked ≡ length all → length (leading n all marked) ≡ length all
leading_length all marked zero count = count
leading_length all marked (suc n) count = users_length all marked (leading n all marked) 0 all
