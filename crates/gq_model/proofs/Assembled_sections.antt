-- Sections that were read are a program's once they are put in order.
use Rattle.std.proofs.Common.{◌≡◌, ℕ, zero, suc, ◌+◌, ◌*◌, ◌≤◌, List, [], ◌∷◌, ◌++◌, true, Option, Some, None, refl, ap, ◌∙◌, arith}
use Rattle.std.specs.Prelude.{nat_le, ◌==◌, ◌&&◌, if◌then◌else◌, sum_by}
use Rattle.std.proofs.lemmas.Bool.{and_parts, and_from, leb-true, le-leb, cond_both}
use Rattle.std.proofs.lemmas.List.Sums.{sum_by-cons}
use Rattle.gq_model.specs.machine.Program.{Statements, section_in, size}
use Rattle.gq_model.specs.machine.Sections.{Section, Main, Opening, Upgrading, Calling, Closing, Reacting, same_section, all_sections, is_section}
use Rattle.gq_model.specs.machine.Sections.{section_number}
use Rattle.gq_model.specs.machine.Lists.{all_of, between}
use Rattle.gq_model.specs.texts.Operands.{greatest_number}
use Rattle.gq_model.specs.texts.Code.{is_body, are_sections}
use Rattle.gq_model.specs.texts.Text.{limit_of, limit_or_greatest, limits_from, section_entry, in_order}
use Rattle.gq_model.proofs.Decoded_programs.{Sections, InOrder, sections_later}

-- LIMITS

-- a number of 32 bits for each local that was given
abbrev pub AreLimits : List (ℕ × ℕ) → Type 0
AreLimits [] = Unit {0}
AreLimits (p ∷ rest) = (between 0 greatest_number p.1 ≡ true) × AreLimits rest

limit_fits : (i : ℕ) (limits : List (ℕ × ℕ)) → AreLimits limits → between 0 greatest_number (limit_or_greatest (limit_of i limits)) ≡ true
limit_fits i [] h = refl
limit_fits i (p ∷ rest) h = cond_both (p.0 == i) (Some p.1) (limit_of i rest) (λ o. between 0 greatest_number (limit_or_greatest o) ≡ true) (λ _. h.0)
    (λ _. limit_fits i rest h.1)

pub limits_fit : (locals : List ℕ) (limits : List (ℕ × ℕ)) → AreLimits limits → all_of (between 0 greatest_number) (limits_from limits locals) ≡ true
limits_fit [] limits h = refl
limits_fit (i ∷ rest) limits h = and_from (between 0 greatest_number (limit_or_greatest (limit_of i limits)))
    (all_of (between 0 greatest_number) (limits_from limits rest)) (limit_fits i limits h) (limits_fit rest limits h)

-- ORDER

-- closed sections
abbrev pub AreGiven : Sections → Type 0
AreGiven [] = Unit {0}
AreGiven (p ∷ rest) = (is_section p.0 ≡ true) × (is_body 4 p.1 ≡ true) × AreGiven rest

-- where there is a section, it has at most four blocks in one another
abbrev IsBodyOf : Option Statements → Type 0
IsBodyOf None = Unit {0}
IsBodyOf (Some body) = is_body 4 body ≡ true

given_body : (s : Section) (given : Sections) → AreGiven given → IsBodyOf (section_in s given)
given_body s [] h = tt
given_body s (p ∷ rest) h = cond_both (same_section s p.0) (Some p.1) (section_in s rest) IsBodyOf (λ _. h.1) (λ _. given_body s rest h.2)

next_section : (s : Section) (j : ℕ) (body : Option Statements) (rest : Sections) → is_section s ≡ true → section_number s ≡ j → IsBodyOf body
    → are_sections (suc j) rest ≡ true → are_sections j (section_entry s body ++ rest) ≡ true
next_section s j None rest is number b r = sections_later j rest r
next_section s j (Some body) rest is number b r =
    let n = section_number s in
    let here : nat_le j n ≡ true = le-leb j n (omega (arith, number)) in
    let next : are_sections (1 + n) rest ≡ true = ap (λ m. are_sections m rest) {x = 1 + n} {y = suc j} (omega (arith, number)) ∙ r in
    and_from (is_section s && nat_le j n && is_body 4 body) (are_sections (1 + n) rest)
    (and_from (is_section s && nat_le j n) (is_body 4 body) (and_from (is_section s) (nat_le j n) is here) b) next

pub ordered : (order : List Section) (j : ℕ) (given : Sections) → InOrder j order → AreGiven given → are_sections j (in_order given order) ≡ true
ordered [] j given o h = refl
ordered (s ∷ order) j given o h = next_section s j (section_in s given) (in_order given order) o.0 o.1 (given_body s given h)
    (ordered order (suc j) given o.2 h)

-- SIZES

abbrev pub sections_size : Sections → ℕ
sections_size [] = 0
sections_size (p ∷ rest) = size p.1 + sections_size rest

abbrev size_of : Option Statements → ℕ
size_of None = 0
size_of (Some body) = size body

-- the sizes of these sections, where they were given
abbrev taken : Sections → List Section → ℕ
taken given [] = 0
taken given (s ∷ order) = size_of (section_in s given) + taken given order

entry_size : (s : Section) (body : Option Statements) (rest : Sections)
    → sum_by (λ p. size p.1) (section_entry s body ++ rest) ≡ size_of body + sum_by (λ p. size p.1) rest
entry_size s None rest = omega arith
entry_size s (Some body) rest = sum_by-cons (λ (p : Section × Statements). size p.1) (s, body) rest

in_order_size : (given : Sections) (order : List Section) → sum_by (λ p. size p.1) (in_order given order) ≡ taken given order
in_order_size given [] = refl
in_order_size given (s ∷ order) = entry_size s (section_in s given) (in_order given order)
    ∙ ap (λ n. size_of (section_in s given) + n) (in_order_size given order)

-- how often a section stands in the order
abbrev places : Section → List Section → ℕ
places t [] = 0
places t (s ∷ order) = (if same_section s t then 1 else 0) + places t order

-- a section stands there once
once : (t : Section) → is_section t ≡ true → places t all_sections ≤ 1
once Main h = omega arith
once Opening h = omega arith
once (Upgrading zero) h = omega arith
once (Upgrading (suc zero)) h = omega arith
once (Upgrading (suc (suc zero))) h = omega arith
once (Upgrading (suc (suc (suc zero)))) h = omega arith
once (Upgrading (suc (suc (suc (suc l))))) h =
    let n = suc (suc (suc (suc l))) in let k = leb-true n 3 ((and_parts (nat_le 1 n) (nat_le n 3) h).1) in absurd (omega (arith, k))
once (Calling zero) h = omega arith
once (Calling (suc zero)) h = omega arith
once (Calling (suc (suc zero))) h = omega arith
once (Calling (suc (suc (suc zero)))) h = omega arith
once (Calling (suc (suc (suc (suc l))))) h = let k = leb-true (suc (suc (suc (suc l)))) 3 h in absurd (omega (arith, k))
once (Closing zero) h = omega arith
once (Closing (suc zero)) h = omega arith
once (Closing (suc (suc zero))) h = omega arith
once (Closing (suc (suc (suc zero)))) h = omega arith
once (Closing (suc (suc (suc (suc l))))) h = let k = leb-true (suc (suc (suc (suc l)))) 3 h in absurd (omega (arith, k))
once (Reacting zero) h = omega arith
once (Reacting (suc zero)) h = omega arith
once (Reacting (suc (suc zero))) h = omega arith
once (Reacting (suc (suc (suc i)))) h = let k = leb-true (suc (suc (suc i))) 2 h in absurd (omega (arith, k))

-- one section more is taken as often as it stands in the order, at most
taken_first : (p : Section × Statements) (given : Sections) (order : List Section) → taken (p ∷ given) order ≤ places p.0 order * size p.1 + taken given order
taken_first p given [] = omega arith
taken_first p given (s ∷ order) =
    let rest = taken_first p given order in
    cond_both (same_section s p.0) 1 0 (λ n. size_of (if same_section s p.0 then Some p.1 else section_in s given) + taken (p ∷ given) order
    ≤ (n + places p.0 order) * size p.1 + (size_of (section_in s given) + taken given order))
    (λ t. rw t (omega (arith, rest)))
    (λ t. rw t (omega (arith, rest)))

at_most_once : (n m : ℕ) → n ≤ 1 → n * m ≤ m
at_most_once zero m h = omega arith
at_most_once (suc zero) m h = omega arith
at_most_once (suc (suc n)) m h = absurd (omega (arith, h))

taken_none : (order : List Section) → taken [] order ≡ 0
taken_none [] = refl
taken_none (s ∷ order) = omega (arith, taken_none order)

taken_all : (given : Sections) → AreGiven given → taken given all_sections ≤ sections_size given
taken_all [] h = omega (arith, taken_none all_sections)
taken_all (p ∷ given) h =
    let first = taken_first p given all_sections in
    let one = at_most_once (places p.0 all_sections) (size p.1) (once p.0 h.0) in let rest = taken_all given h.2 in omega (arith, first, one, rest)

-- in order they are no more statements
pub ordered_size : (given : Sections) → AreGiven given → sum_by (λ p. size p.1) (in_order given all_sections) ≤ sections_size given
ordered_size given h = let all = taken_all given h in omega (arith, all, in_order_size given all_sections)
