-- Chains of sessions, round by round: a round over those so far finds those that are one longer, and one that changes nothing is the last.
use Rattle.std.proofs.Common.{◌≡◌, ℕ, zero, suc, ◌+◌, ◌-◌, ◌≤◌, ◌++◌, ◌&&◌, ◌||◌, min, Bool, true, false, List, [], ◌∷◌, length, map, Option, Some, None}
use Rattle.std.proofs.Common.{refl, ap, ap₂, sym, ◌∙◌, append_assoc, length-append, subst, arith}
use Rattle.std.specs.Prelude.{nat_le, is_some, get_or, if◌then◌else◌}
use Rattle.std.proofs.lemmas.Bool.{and_parts}
use Rattle.gq_model.specs.declared.section.Section.{Section}
use Rattle.gq_model.specs.machine.Lists.{all_of, any_of}
use Rattle.gq_model.specs.machine.Program.{Statements, text_eq}
use Rattle.gq_model.specs.machine.Scenario.{Interface, Interfaces, Component, System, interface_in}
use Rattle.gq_model.specs.rules.Kinds.{AbstractState, Subject}
use Rattle.gq_model.specs.machine.Sections.{level_of}
use Rattle.gq_model.specs.rules.Use.{subject}
use Rattle.gq_model.proofs.Small_facts.{text_is}
use Rattle.gq_program.specs.Interfaces.{place_from}
use Rattle.gq_sizes.specs.Endless.{Test, leads, leaf_holds, holds, goes_on}
use Rattle.gq_sizes.specs.Needing.{AreLow}
use Rattle.gq_sizes.specs.Passing.{AreEndless, chain_rows, endless_rows, held_rows, passing, test_at, tests}
use Rattle.gq_sizes.specs.Size.{is_named, is_up_to, rounds, section_points}
use Rattle.gq_sizes.specs.Saturated_tables.{AreOf}
use Rattle.gq_sizes.proofs.Capability_need_rounds.{AreKnown, all_known, as_low, mid}

-- LEVELS ABOVE 3

any_same : {A : Type 0} → (f g : A → Bool) (P : A → Bool) → ((x : A) → P x ≡ true → f x ≡ g x) → (l : List A) → all_of P l ≡ true → any_of f l ≡ any_of g l
any_same f g P same [] e = refl
any_same f g P same (x ∷ rest) e =
    let both = and_parts (P x) (all_of P rest) e in ap₂ (λ b c. b || c) (same x both.0) (any_same f g P same rest both.1)

leaf_low : (test : Test) (v : Subject) (l : ℕ) → all_of (λ (p : Section × Statements). nat_le (level_of p.0) 3) v.program.sections ≡ true →
    leaf_holds test v (min l 3) ≡ leaf_holds test v l
leaf_low test v l low =
    any_same (λ (p : Section × Statements). is_up_to (min l 3) p.0 && any_of (λ (s : AbstractState). any_of (leads test) s.bank) (section_points v p.0))
    (λ (p : Section × Statements). is_up_to l p.0 && any_of (λ (s : AbstractState). any_of (leads test) s.bank) (section_points v p.0))
    (λ p. nat_le (level_of p.0) 3)
    (λ p e. ap (λ b. b && any_of (λ (s : AbstractState). any_of (leads test) s.bank) (section_points v p.0)) (as_low l p.0 e)) v.program.sections low

holds_low : (test : Test) (all : System) (service : List ℕ) (l : ℕ) (cs : List Component) → AreLow (map (subject all) cs) →
    any_of (λ (c : Component). is_named service c.node.provides && leaf_holds test (subject all c) (min l 3)) cs
    ≡ any_of (λ (c : Component). is_named service c.node.provides && leaf_holds test (subject all c) l) cs
holds_low test all service l [] low = refl
holds_low test all service l (c ∷ rest) low =
    ap₂ (λ b d. (is_named service c.node.provides && b) || d) (leaf_low test (subject all c) l low.0) (holds_low test all service l rest low.1)

on_low : (n : ℕ) (all : System) (service : List ℕ) (l : ℕ) → AreLow (map (subject all) all.components) →
    goes_on n all service (min l 3) ≡ goes_on n all service l
on_low zero all service l low = refl
on_low (suc n) all service l low =
    ap (λ b. is_some (interface_in service all.interfaces) && b) (holds_low (goes_on n all) all service l all.components low)

-- WHAT A TABLE GIVES

tests_get : (f : ℕ → Bool) (m : ℕ) → m ≤ 3 → get_or (tests f) m false ≡ f m
tests_get f zero h = refl
tests_get f (suc zero) h = refl
tests_get f (suc (suc zero)) h = refl
tests_get f (suc (suc (suc zero))) h = refl
tests_get f (suc (suc (suc (suc m)))) h = absurd (omega (arith, h))

abbrev by_name : (List ℕ → ℕ → Bool) → Interfaces → List (List Bool)
by_name f = map (λ (e : List ℕ × Interface). tests (f e.0))

-- of rows by name, that of a service is found, where its interface is among these
look : (f : List ℕ → ℕ → Bool) (service : List ℕ) (l : ℕ) (ifs : Interfaces) (k : ℕ) (before : List (List Bool)) → length before ≡ k →
    test_at (place_from k service ifs) (before ++ by_name f ifs) l ≡ (is_some (interface_in service ifs) && f service (min l 3))
look f service l [] k before e = refl
look f service l (entry ∷ rest) k before e =
    by (text_eq service entry.0) refl
    (ap (λ rows. test_at (place_from (suc k) service rest) rows l) (sym (append_assoc before (tests (f entry.0) ∷ []) (by_name f rest)))
    ∙ look f service l rest (suc k) (before ++ tests (f entry.0) ∷ []) (let n = length-append before (tests (f entry.0) ∷ []) in omega (arith, n, e)))
  where
    by : (b : Bool) → text_eq service entry.0 ≡ b →
        test_at (place_from (suc k) service rest) (before ++ tests (f entry.0) ∷ by_name f rest) l
        ≡ (is_some (interface_in service rest) && f service (min l 3)) →
        test_at (if b then Some k else place_from (suc k) service rest) (before ++ tests (f entry.0) ∷ by_name f rest) l
        ≡ (is_some (if b then Some entry.1 else interface_in service rest) && f service (min l 3))
    by true same later =
        ap (λ n. get_or (get_or (before ++ tests (f entry.0) ∷ by_name f rest) n []) (min l 3) false) (sym e)
        ∙ (ap (λ r. get_or r (min l 3) false) (mid before (tests (f entry.0)) (by_name f rest) [])
        ∙ (tests_get (f entry.0) (min l 3) (omega arith) ∙ ap (λ n. f n (min l 3)) (sym (text_is service entry.0 same))))
    by false other later = later

-- so those that pass by the chains of n more are the first of such chains
given_test : (n : ℕ) (all : System) → AreLow (map (subject all) all.components) → (service : List ℕ) (l : ℕ) →
    passing all.interfaces (chain_rows all n all.interfaces) service l ≡ goes_on n all service l
given_test n all low service l =
    look (goes_on n all) service l all.interfaces 0 [] refl ∙ by n (interface_in service all.interfaces) refl
  where
    by : (n : ℕ) (o : Option Interface) → interface_in service all.interfaces ≡ o →
        (is_some o && goes_on n all service (min l 3)) ≡ goes_on n all service l
    by n (Some i) e = on_low n all service l low
    by zero None e = sym (ap is_some e)
    by (suc n) None e = sym (ap (λ o. is_some o && holds (goes_on n all) all service l) e)

-- ROUNDS

-- at first all pass
pub first_rows : (all : System) (ifs : Interfaces) → AreKnown all.interfaces ifs
    → chain_rows all 0 ifs ≡ map (λ (e : List ℕ × Interface). tests (λ l. true)) ifs
first_rows all [] known = refl
first_rows all (e ∷ rest) known = (λ i. tests (λ l. known.0 i) ∷ first_rows all rest known.1 i)

rows_next : (n : ℕ) (all : System) (test : Test) → test ≡ goes_on n all → (ifs : Interfaces) → AreKnown all.interfaces ifs →
    held_rows all test ifs ≡ chain_rows all (suc n) ifs
rows_next n all test is [] known = refl
rows_next n all test is (e ∷ rest) known =
    let there = λ (l : ℕ). (λ i. holds (is i) all e.0 l) ∙ sym (ap (λ b. b && holds (goes_on n all) all e.0 l) known.0) in
    (λ i. tests (λ l. there l i) ∷ rows_next n all test is rest known.1 i)

pub round_next : (n : ℕ) (all : System) → AreLow (map (subject all) all.components) →
    held_rows all (passing all.interfaces (chain_rows all n all.interfaces)) all.interfaces ≡ chain_rows all (suc n) all.interfaces
round_next n all low =
    rows_next n all (passing all.interfaces (chain_rows all n all.interfaces)) (λ i service l. given_test n all low service l i) all.interfaces
    (all_known all.interfaces)

-- the chains that a round does not change are those of all further rounds
stays : (n : ℕ) (all : System) → AreLow (map (subject all) all.components) → chain_rows all (suc n) all.interfaces ≡ chain_rows all n all.interfaces →
    (d m : ℕ) → m ≡ d + n → chain_rows all m all.interfaces ≡ chain_rows all n all.interfaces
stays n all low same zero m e = let is : m ≡ n = omega (arith, e) in ap (λ k. chain_rows all k all.interfaces) is
stays n all low same (suc d) m e =
    let is : m ≡ suc (d + n) = omega (arith, e) in
    ap (λ k. chain_rows all k all.interfaces) is
    ∙ (sym (round_next (d + n) all low)
    ∙ (ap (λ rows. held_rows all (passing all.interfaces rows) all.interfaces) (stays n all low same d (d + n) refl) ∙ (round_next n all low ∙ same)))

last : (n m : ℕ) (all : System) → AreLow (map (subject all) all.components) → chain_rows all (suc n) all.interfaces ≡ chain_rows all n all.interfaces →
    n ≤ m → chain_rows all m all.interfaces ≡ chain_rows all n all.interfaces
last n m all low same h = stays n all low same (m - n) m (omega (arith, h))

pub given_endless : (all : System) (cs : List Component) (vs : List Subject) (ifs : Interfaces) → AreOf all cs vs ifs → AreLow vs → (known : Interfaces)
    (rows : List (List Bool)) → known ≡ ifs → rows ≡ endless_rows all ifs → AreEndless all (passing known rows)
given_endless all cs vs ifs are low known rows same is =
    subst (λ l. AreEndless all (passing l rows)) (sym (same ∙ are.interfaces))
    (subst (λ t. AreEndless all (passing all.interfaces t)) (sym (is ∙ ap (endless_rows all) are.interfaces))
    (λ service level. given_test (rounds all) all (subst AreLow are.leaves low) service level))

-- THE LOOP

pub next_chains : (all : System) (cs : List Component) (vs : List Subject) (ifs : Interfaces) → AreOf all cs vs ifs → AreLow vs → (k : ℕ)
    (rows next : List (List Bool)) → rows ≡ chain_rows all k ifs → next ≡ held_rows all (passing ifs rows) ifs → next ≡ chain_rows all (k + 1) ifs
next_chains all cs vs ifs are low k rows next so made =
    let all_are_low = subst AreLow are.leaves low in
    let more : suc k ≡ k + 1 = omega arith in
    made
    ∙ (ap (λ rows. held_rows all (passing ifs rows) ifs) so
    ∙ (ap (λ l. held_rows all (passing l (chain_rows all k l)) l) are.interfaces
    ∙ (round_next k all all_are_low ∙ (ap (chain_rows all (suc k)) (sym are.interfaces) ∙ ap (λ n. chain_rows all n ifs) more))))

pub last_chains : (all : System) (cs : List Component) (vs : List Subject) (ifs : Interfaces) → AreOf all cs vs ifs → AreLow vs → (k : ℕ)
    (rows next : List (List Bool)) → rows ≡ chain_rows all k ifs → next ≡ held_rows all (passing ifs rows) ifs → next ≡ rows → k ≤ rounds all →
    rows ≡ endless_rows all ifs
last_chains all cs vs ifs are low k rows next so made same h =
    let all_are_low = subst AreLow are.leaves low in
    let more : suc k ≡ k + 1 = omega arith in
    let stays = ap (chain_rows all (suc k)) (sym are.interfaces)
    ∙ (ap (λ n. chain_rows all n ifs) more
    ∙ (sym (next_chains all cs vs ifs are low k rows next so made) ∙ (same ∙ (so ∙ ap (chain_rows all k) are.interfaces)))) in
    so
    ∙ (ap (chain_rows all k) are.interfaces ∙ (sym (last k (rounds all) all all_are_low stays h) ∙ ap (chain_rows all (rounds all)) (sym are.interfaces)))
