-- What sessions need in capabilities, round by round: a round over the sums so far gives the next ones, and one that changes nothing is the last.
use Rattle.std.proofs.Common.{◌≡◌, ℕ, zero, suc, ◌+◌, ◌-◌, ◌≤◌, ◌++◌, min, Bool, true, false, List, [], ◌∷◌, length, map, Option, Some, None, refl, ap, sym}
use Rattle.std.proofs.Common.{◌∙◌, append_assoc, length-append, subst, arith}
use Rattle.std.specs.Prelude.{nat_le, if◌then◌else◌, is_some, get_or}
use Rattle.std.specs.Cmp.Lexicographic.{pointwise}
use Rattle.std.proofs.lemmas.Bool.{and_parts}
use Rattle.std.proofs.lemmas.Bool.Decides.{nat_tests}
use Rattle.gq_model.specs.declared.section.Section.{Section}
use Rattle.gq_model.specs.declared.section.Section.TheVariants.{Main, Opening, Upgrading, Calling, Closing, Reacting}
use Rattle.gq_model.specs.machine.Amounts.{Resource, Caps}
use Rattle.gq_model.specs.machine.Lists.{all_of, greatest}
use Rattle.gq_model.specs.machine.Program.{Statements, text_eq}
use Rattle.gq_model.specs.machine.Scenario.{Interface, Interfaces, Component, System, interface_in}
use Rattle.gq_model.specs.rules.Kinds.{Subject}
use Rattle.gq_model.specs.machine.Sections.{level_of}
use Rattle.gq_model.specs.rules.Use.{subject}
use Rattle.gq_model.proofs.Small_facts.{text_is, text_self}
use Rattle.gq_program.specs.Interfaces.{place_from}
use Rattle.gq_verify.specs.Saturated_numbers.{saturated}
use Rattle.gq_sizes.specs.Size.{Given, caps_sum, is_named, is_up_to, leaf_needed, needed, rounds, section_points, session_cost, sum_in}
use Rattle.gq_sizes.specs.Point_maxima.{given_in, sum_at}
use Rattle.gq_sizes.specs.Needing.{AreLow}
use Rattle.gq_sizes.specs.Saturated_tables.{AreOf, IsLeast, caps_rows, round_rows, row, sum_rows}
use Rattle.gq_sizes.proofs.Saturated_cost_sums.{saturated_needed}

-- LEVELS ABOVE 3

pub as_low : (l : ℕ) (s : Section) → nat_le (level_of s) 3 ≡ true → is_up_to (min l 3) s ≡ is_up_to l s
as_low l Main e = refl
as_low l Opening e = grind (arith, nat_tests)
as_low l (Upgrading k) e = grind (arith, nat_tests)
as_low l (Calling k) e = grind (arith, nat_tests)
as_low l (Closing k) e = grind (arith, nat_tests)
as_low l (Reacting i) e = refl

pub greatest_same : {A : Type 0} → (f g : A → ℕ) (P : A → Bool) → ((x : A) → P x ≡ true → f x ≡ g x) → (l : List A) → all_of P l ≡ true →
    greatest f l ≡ greatest g l
greatest_same f g P same [] e = refl
greatest_same f g P same (x ∷ rest) e =
    let both = and_parts (P x) (all_of P rest) e in
    let here = same x both.0 in
    let more = greatest_same f g P same rest both.1 in omega (arith, here, more)

leaf_low : (f : Given) (r : Resource) (v : Subject) (i : Interface) (l : ℕ) →
    all_of (λ (p : Section × Statements). nat_le (level_of p.0) 3) v.program.sections ≡ true →
    leaf_needed f r v i (min l 3) ≡ leaf_needed f r v i l
leaf_low f r v i l low =
    greatest_same (λ (p : Section × Statements). if is_up_to (min l 3) p.0 then greatest (session_cost f r i) (section_points v p.0) else 0)
    (λ (p : Section × Statements). if is_up_to l p.0 then greatest (session_cost f r i) (section_points v p.0) else 0)
    (λ p. nat_le (level_of p.0) 3)
    (λ p e. ap (λ b. if b then greatest (session_cost f r i) (section_points v p.0) else 0) (as_low l p.0 e)) v.program.sections low

pub needed_low : (f : Given) (r : Resource) (all : System) (service : List ℕ) (i : Interface) (l : ℕ) (cs : List Component) → AreLow (map (subject all) cs) →
    greatest (λ (c : Component). if is_named service c.node.provides then leaf_needed f r (subject all c) i (min l 3) else 0) cs
    ≡ greatest (λ (c : Component). if is_named service c.node.provides then leaf_needed f r (subject all c) i l else 0) cs
needed_low f r all service i l [] low = refl
needed_low f r all service i l (c ∷ rest) low =
    let here = ap (λ n. if is_named service c.node.provides then n else 0) (leaf_low f r (subject all c) i l low.0) in
    let more = needed_low f r all service i l rest low.1 in omega (arith, here, more)

sum_low : (n : ℕ) (all : System) (service : List ℕ) (l : ℕ) → AreLow (map (subject all) all.components) →
    caps_sum n all service (min l 3) ≡ caps_sum n all service l
sum_low zero all service l low = refl
sum_low (suc n) all service l low = by (interface_in service all.interfaces)
  where
    by : (o : Option Interface) → sum_in (λ i. needed (caps_sum n all) Caps all service i (min l 3)) o
        ≡ sum_in (λ i. needed (caps_sum n all) Caps all service i l) o
    by None = refl
    by (Some i) = needed_low (caps_sum n all) Caps all service i l all.components low

-- WHAT A TABLE GIVES

pub row_get : (f : ℕ → ℕ) (m : ℕ) → m ≤ 3 → get_or (row f) m 0 ≡ f m
row_get f zero h = refl
row_get f (suc zero) h = refl
row_get f (suc (suc zero)) h = refl
row_get f (suc (suc (suc zero))) h = refl
row_get f (suc (suc (suc (suc m)))) h = absurd (omega (arith, h))

pub mid : {A : Type 0} → (before : List A) (x : A) (more : List A) (d : A) → get_or (before ++ x ∷ more) (length before) d ≡ x
mid [] x more d = refl
mid (y ∷ before) x more d = mid before x more d

abbrev by_name : (List ℕ → ℕ → ℕ) → Interfaces → List (List ℕ)
by_name f = map (λ (e : List ℕ × Interface). row (f e.0))

-- of rows by name, that of a service is found, where its interface is among these
look : (f : List ℕ → ℕ → ℕ) (service : List ℕ) (l : ℕ) (ifs : Interfaces) (k : ℕ) (before : List (List ℕ)) → length before ≡ k →
    sum_at (place_from k service ifs) (before ++ by_name f ifs) l ≡ (if is_some (interface_in service ifs) then f service (min l 3) else 0)
look f service l [] k before e = refl
look f service l (entry ∷ rest) k before e =
    by (text_eq service entry.0) refl
    (ap (λ rows. sum_at (place_from (suc k) service rest) rows l) (sym (append_assoc before (row (f entry.0) ∷ []) (by_name f rest)))
    ∙ look f service l rest (suc k) (before ++ row (f entry.0) ∷ []) (let n = length-append before (row (f entry.0) ∷ []) in omega (arith, n, e)))
  where
    by : (b : Bool) → text_eq service entry.0 ≡ b →
        sum_at (place_from (suc k) service rest) (before ++ row (f entry.0) ∷ by_name f rest) l
        ≡ (if is_some (interface_in service rest) then f service (min l 3) else 0) →
        sum_at (if b then Some k else place_from (suc k) service rest) (before ++ row (f entry.0) ∷ by_name f rest) l
        ≡ (if is_some (if b then Some entry.1 else interface_in service rest) then f service (min l 3) else 0)
    by true same later =
        ap (λ n. get_or (get_or (before ++ row (f entry.0) ∷ by_name f rest) n []) (min l 3) 0) (sym e)
        ∙ (ap (λ r. get_or r (min l 3) 0) (mid before (row (f entry.0)) (by_name f rest) [])
        ∙ (row_get (f entry.0) (min l 3) (omega arith) ∙ ap (λ n. f n (min l 3)) (sym (text_is service entry.0 same))))
    by false other later = later

-- so what is given by the sums of n uses is what is needed along n uses
given_sum : (n : ℕ) (all : System) → AreLow (map (subject all) all.components) → (service : List ℕ) (l : ℕ) →
    given_in all.interfaces (sum_rows all n all.interfaces) service l ≡ saturated (caps_sum n all service l)
given_sum n all low service l =
    look (λ name l. saturated (caps_sum n all name l)) service l all.interfaces 0 [] refl ∙ by n (interface_in service all.interfaces) refl
  where
    by : (n : ℕ) (o : Option Interface) → interface_in service all.interfaces ≡ o →
        (if is_some o then saturated (caps_sum n all service (min l 3)) else 0) ≡ saturated (caps_sum n all service l)
    by n (Some i) e = ap saturated (sum_low n all service l low)
    by zero None e = refl
    by (suc n) None e = ap (λ o. saturated (sum_in (λ i. needed (caps_sum n all) Caps all service i l) o)) (sym e)

-- ROUNDS

found_first : (e : List ℕ × Interface) (rest : Interfaces) → text_eq e.0 e.0 ≡ true → interface_in e.0 (e ∷ rest) ≡ Some e.1
found_first e rest same = ap (λ b. if b then Some e.1 else interface_in e.0 rest) same

-- each of these names has an interface among all
abbrev pub AreKnown : Interfaces → Interfaces → Type 0
AreKnown all [] = Unit {0}
AreKnown all (e ∷ rest) = (is_some (interface_in e.0 all) ≡ true) × AreKnown all rest

known_more : (e : List ℕ × Interface) (all ifs : Interfaces) → AreKnown all ifs → AreKnown (e ∷ all) ifs
known_more e all [] h = tt
known_more e all (f ∷ rest) h = (by (text_eq f.0 e.0), known_more e all rest h.1)
  where
    by : (b : Bool) → is_some (if b then Some e.1 else interface_in f.0 all) ≡ true
    by true = refl
    by false = h.0

pub all_known : (ifs : Interfaces) → AreKnown ifs ifs
all_known [] = tt
all_known (e ∷ rest) = (ap is_some (found_first e rest (text_self e.0)), known_more e rest rest (all_known rest))

-- a row of the next sums
next_row : (n : ℕ) (all : System) (e : List ℕ × Interface) (l : ℕ) → is_some (interface_in e.0 all.interfaces) ≡ true →
    needed (caps_sum n all) Caps all e.0 e.1 l ≡ caps_sum (suc n) all e.0 l
next_row n all e l there = by (interface_in e.0 all.interfaces) there
  where
    by : (o : Option Interface) → is_some o ≡ true →
        needed (caps_sum n all) Caps all e.0 e.1 l ≡ sum_in (λ i. needed (caps_sum n all) Caps all e.0 i l) o
    by None h = absurd cc
    by (Some i) h = refl

rows_next : (n : ℕ) (all : System) (given : Given) → ((service : List ℕ) (l : ℕ) → given service l ≡ saturated (caps_sum n all service l)) →
    (ifs : Interfaces) → AreKnown all.interfaces ifs → round_rows all given ifs ≡ sum_rows all (suc n) ifs
rows_next n all given is [] known = refl
rows_next n all given is (e ∷ rest) known =
    (λ j. row (λ l. each l j) ∷ rows_next n all given is rest known.1 j)
  where
    each : (l : ℕ) → saturated (needed given Caps all e.0 e.1 l) ≡ saturated (caps_sum (suc n) all e.0 l)
    each l = saturated_needed given (caps_sum n all) is all e.0 e.1 l ∙ ap saturated (next_row n all e l known.0)

round_next : (n : ℕ) (all : System) → AreLow (map (subject all) all.components) →
    round_rows all (given_in all.interfaces (sum_rows all n all.interfaces)) all.interfaces ≡ sum_rows all (suc n) all.interfaces
round_next n all low =
    rows_next n all (given_in all.interfaces (sum_rows all n all.interfaces)) (given_sum n all low) all.interfaces (all_known all.interfaces)

-- sums that a round does not change are those of all further rounds
stays : (n : ℕ) (all : System) → AreLow (map (subject all) all.components) → sum_rows all (suc n) all.interfaces ≡ sum_rows all n all.interfaces →
    (d m : ℕ) → m ≡ d + n → sum_rows all m all.interfaces ≡ sum_rows all n all.interfaces
stays n all low same zero m e = let is : m ≡ n = omega (arith, e) in ap (λ k. sum_rows all k all.interfaces) is
stays n all low same (suc d) m e =
    let is : m ≡ suc (d + n) = omega (arith, e) in
    ap (λ k. sum_rows all k all.interfaces) is
    ∙ (sym (round_next (d + n) all low)
    ∙ (ap (λ rows. round_rows all (given_in all.interfaces rows) all.interfaces) (stays n all low same d (d + n) refl) ∙ (round_next n all low ∙ same)))

pub last : (n m : ℕ) (all : System) → AreLow (map (subject all) all.components) → sum_rows all (suc n) all.interfaces ≡ sum_rows all n all.interfaces →
    n ≤ m → sum_rows all m all.interfaces ≡ sum_rows all n all.interfaces
last n m all low same h = stays n all low same (m - n) m (omega (arith, h))

-- what the last sums give is what is least
least_given : (all : System) → AreLow (map (subject all) all.components) → IsLeast all (given_in all.interfaces (caps_rows all all.interfaces))
least_given all low service level = given_sum (rounds all) all low service level

pub given_least : (all : System) (cs : List Component) (vs : List Subject) (ifs : Interfaces) → AreOf all cs vs ifs → AreLow vs → (known : Interfaces)
    (sums : List (List ℕ)) → known ≡ ifs → sums ≡ caps_rows all ifs → IsLeast all (given_in known sums)
given_least all cs vs ifs are low known sums same is =
    subst (λ l. IsLeast all (given_in l sums)) (sym (same ∙ are.interfaces))
    (subst (λ rows. IsLeast all (given_in all.interfaces rows)) (sym (is ∙ ap (caps_rows all) are.interfaces))
    (least_given all (subst AreLow are.leaves low)))

-- THE LOOP

pub next_sums : (all : System) (cs : List Component) (vs : List Subject) (ifs : Interfaces) → AreOf all cs vs ifs → AreLow vs → (k : ℕ)
    (sums next : List (List ℕ)) → sums ≡ sum_rows all k ifs → next ≡ round_rows all (given_in ifs sums) ifs → next ≡ sum_rows all (k + 1) ifs
next_sums all cs vs ifs are low k sums next so made =
    let all_are_low = subst AreLow are.leaves low in
    let more : suc k ≡ k + 1 = omega arith in
    made
    ∙ (ap (λ rows. round_rows all (given_in ifs rows) ifs) so
    ∙ (ap (λ l. round_rows all (given_in l (sum_rows all k l)) l) are.interfaces
    ∙ (round_next k all all_are_low ∙ (ap (sum_rows all (suc k)) (sym are.interfaces) ∙ ap (λ n. sum_rows all n ifs) more))))

pub last_sums : (all : System) (cs : List Component) (vs : List Subject) (ifs : Interfaces) → AreOf all cs vs ifs → AreLow vs → (k : ℕ)
    (sums next : List (List ℕ)) → sums ≡ sum_rows all k ifs → next ≡ round_rows all (given_in ifs sums) ifs → next ≡ sums → k ≤ rounds all →
    sums ≡ caps_rows all ifs
last_sums all cs vs ifs are low k sums next so made same h =
    let all_are_low = subst AreLow are.leaves low in
    let more : suc k ≡ k + 1 = omega arith in
    let stays = ap (sum_rows all (suc k)) (sym are.interfaces)
    ∙ (ap (λ n. sum_rows all n ifs) more
    ∙ (sym (next_sums all cs vs ifs are low k sums next so made) ∙ (same ∙ (so ∙ ap (sum_rows all k) are.interfaces)))) in
    so ∙ (ap (sum_rows all k) are.interfaces ∙ (sym (last k (rounds all) all all_are_low stays h) ∙ ap (sum_rows all (rounds all)) (sym are.interfaces)))

pub pointwise_is : {A : Type 0} → (f : A → A → Bool) → ((a b : A) → f a b ≡ true → a ≡ b) → (xs ys : List A) → pointwise f xs ys ≡ true → xs ≡ ys
pointwise_is f is [] [] e = refl
pointwise_is f is [] (y ∷ ys) e = absurd cc
pointwise_is f is (x ∷ xs) [] e = absurd cc
pointwise_is f is (x ∷ xs) (y ∷ ys) e =
    let both = and_parts (f x y) (pointwise f xs ys) e in (λ i. is x y both.0 i ∷ pointwise_is f is xs ys both.1 i)
