-- How often those who ask for a section ask, kept as far as it goes, is how often the sections of the leaves that lead do.
use Rattle.std.proofs.Common.{◌≡◌, ◌<◌, ℕ, suc, arith, ◌+◌, ◌*◌, ◌-◌, ◌^◌, min, Bool, true, false, List, [], ◌∷◌, ◌++◌, drop, length}
use Rattle.std.proofs.Common.{get_or, refl, ap, sym, ◌∙◌}
use Rattle.std.proofs.lemmas.List.{drop_more}
use Rattle.std.specs.Prelude.{if◌then◌else◌, ◌&&◌, ◌||◌}
use Rattle.std.proofs.lemmas.Bool.{true≢false}
use Rattle.gq_model.specs.machine.Lists.{any_of}
use Rattle.gq_model.specs.machine.Program.{Statements, text_eq}
use Rattle.gq_model.specs.machine.Sections.{same_section}
use Rattle.gq_model.specs.declared.section.Section.{Section}
use Rattle.gq_model.specs.rules.Kinds.{Subject}
use Rattle.gq_model.specs.rules.Budgets.{section_requests}
use Rattle.gq_model.specs.rules.Use.{from_sections}
use Rattle.gq_verify.specs.declared.asked.Asker.{Asker}
use Rattle.gq_verify.specs.Requested.{Requested, is_asked, requests_for}
use Rattle.gq_verify.specs.Askers.{askers_of}
use Rattle.gq_verify.specs.Saturated_numbers.{saturated}
use Rattle.gq_budget.specs.internal.Counted.{AreRequests}
use Rattle.gq_budget.specs.internal.Run_rounds.{askers_in, runs, asked_sum}
use Rattle.gq_budget.proofs.Saturated_product_sums.{product_kept}

abbrev most : ℕ
most = 2 ^ 64 - 1

-- a sum with one product more, of which each part is kept as far as it goes
pub product_and : (m a b c d sum all : ℕ) → min a m ≡ min c m → min b m ≡ min d m → min sum m ≡ min all m → min (a * b + sum) m ≡ min (d * c + all) m
product_and m a b c d sum all a_is b_is e =
    let k : min (min a m * min b m) m ≡ min (min c m * min d m) m =
    ap (λ n. min (n * min b m) m) a_is ∙ ap (λ n. min (min c m * n) m) b_is in
    let l : min (a * b) m ≡ min (c * d) m = sym (product_kept m a b) ∙ (k ∙ product_kept m c d) in
    let s : c * d ≡ d * c = omega arith in
    omega (arith, l, s, e)

-- LISTS OF THOSE WHO ASK

pub asked_append : (section : Section) (xs ys : List Asker) (table : List (List ℕ)) →
    asked_sum section (xs ++ ys) table ≡ asked_sum section xs table + asked_sum section ys table
asked_append section [] ys table = omega arith
asked_append section (x ∷ xs) ys table = omega (arith, asked_append section xs ys table)

pub never : (section : Section) (askers : List Asker) → asked_sum section askers [] ≡ 0
never section [] = refl
never section (a ∷ rest) = no_product (if same_section section a.section then a.count else 0) (asked_sum section rest []) (never section rest)
  where
    no_product : (n rest : ℕ) → rest ≡ 0 → n * 0 + rest ≡ 0
    no_product n rest e = omega (arith, e)

-- ONE SECTION

module _ (service : List ℕ) (section : Section) (leaf part : ℕ) (table : List (List ℕ)) where
  abbrev often : ℕ
  often = get_or (get_or table leaf []) part 0

  with_one : (b s : Bool) (n t sum all : ℕ) → sum ≡ all * t → (if b then (if s then n else 0) * t else 0) + sum ≡ ((if b && s then 1 else 0) * n + all) * t
  with_one true true n t sum all e = omega (arith, e)
  with_one true false n t sum all e = omega (arith, e)
  with_one false s n t sum all e = omega (arith, e)

  one_sum : (b : Bool) (a : Asker) → asked_sum section (if b then a ∷ [] else []) table ≡
      (if b then (if same_section section a.section then a.count else 0) * runs table a else 0)
  one_sum true a = omega arith
  one_sum false a = refl

  -- those of one section ask as often as it does, each time that it runs
  section_asks : (asked : List Requested) → asked_sum section (askers_of service leaf part asked) table ≡ requests_for asked service section * often
  section_asks [] = omega arith
  section_asks (a ∷ rest) =
      let b = text_eq service a.service in
      let here : Asker = record { leaf = leaf; part = part; section = a.section; count = a.count } in
      let first : List Asker = if b then here ∷ [] else [] in
      asked_append section first (askers_of service leaf part rest) table
      ∙ (ap (λ (n : ℕ). n + asked_sum section (askers_of service leaf part rest) table) (one_sum b here)
      ∙ with_one b (same_section section a.section) a.count often (asked_sum section (askers_of service leaf part rest) table)
      (requests_for rest service section) (section_asks rest))

-- ONE LEAF

-- a row has, from its k-th number on, how often these sections run
abbrev pub HasParts : List ℕ → (Section → ℕ) → ℕ → List (Section × Statements) → Type 0
HasParts row f k [] = Unit {0}
HasParts row f k (p ∷ rest) = (get_or row k 0 ≡ saturated (f p.0)) × HasParts row f (suc k) rest

pub parts_kept : (f : Section → ℕ) (v : Subject) (service : List ℕ) (section : Section) (y k : ℕ) (ps : List (Section × Statements))
    (all : List (List Requested)) (table : List (List ℕ)) → AreRequests v ps all → HasParts (get_or table y []) f k ps →
    saturated (asked_sum section (askers_in service y k all) table) ≡ saturated (from_sections f v service section ps)
parts_kept f v service section y k [] [] table h g = refl
parts_kept f v service section y k [] (asked ∷ more) table h g = absurd h
parts_kept f v service section y k (p ∷ rest) [] table h g = absurd h
parts_kept f v service section y k (p ∷ rest) (asked ∷ more) table h g =
    let here = section_asks service section y k table asked in
    let both = asked_append section (askers_of service y k asked) (askers_in service y (suc k) more) table in
    let after = parts_kept f v service section y (suc k) rest more table h.1 g.1 in
    let kept = same (get_or (get_or table y []) k 0) (f p.0) g.0 in
    ap saturated (both ∙ ap (λ (n : ℕ). n + asked_sum section (askers_in service y (suc k) more) table) here)
    ∙ product_and most (requests_for asked service section) (get_or (get_or table y []) k 0) (section_requests v p.0 service section) (f p.0)
    (asked_sum section (askers_in service y (suc k) more) table) (from_sections f v service section rest) (h.0 service section) kept after
  where
    same : (n f : ℕ) → n ≡ saturated f → saturated n ≡ saturated f
    same n f e = omega (arith, e)

-- ONE THAT ASKS FOR NOTHING

either : (a b : Bool) → (a || b) ≡ false → (a ≡ false) × (b ≡ false)
either false false e = (refl, refl)
either false true e = absurd (true≢false e)
either true b e = absurd (true≢false e)

no_asker_of : (service : List ℕ) (leaf part : ℕ) (asked : List Requested) → is_asked service asked ≡ false → askers_of service leaf part asked ≡ []
no_asker_of service leaf part [] h = refl
no_asker_of service leaf part (a ∷ rest) h =
    let e = either (text_eq service a.service) (is_asked service rest) h in
    let here : Asker = record { leaf = leaf; part = part; section = a.section; count = a.count } in
    ap (λ (b : Bool). (if b then here ∷ [] else []) ++ askers_of service leaf part rest) e.0 ∙ no_asker_of service leaf part rest e.1

pub no_asker_in : (service : List ℕ) (y k : ℕ) (all : List (List Requested)) → any_of (is_asked service) all ≡ false → askers_in service y k all ≡ []
no_asker_in service y k [] h = refl
no_asker_in service y k (asked ∷ rest) h =
    let e = either (is_asked service asked) (any_of (is_asked service) rest) h in
    ap (λ (l : List Asker). l ++ askers_in service y (suc k) rest) (no_asker_of service y k asked e.0) ∙ no_asker_in service y (suc k) rest e.1

-- GOING OVER THEM

-- what is left begins with the one that stands there
asked_next : (section : Section) (askers : List Asker) (i : ℕ) (d : Asker) (table : List (List ℕ)) → i < length askers → let a = get_or askers i d in
    asked_sum section (drop i askers) table ≡
    (if same_section section a.section then a.count else 0) * runs table a + asked_sum section (drop (i + 1) askers) table
asked_next section askers i d table less = ap (λ (l : List Asker). asked_sum section l table) (drop_more askers i d less)

-- with one more, which asks for the section
pub asked_more : (section : Section) (askers : List Asker) (i : ℕ) (d : Asker) (table : List (List ℕ)) (sum product next all : ℕ) → i < length askers →
    let a = get_or askers i d in
    same_section section a.section ≡ true → product ≡ min (a.count * runs table a) most → next ≡ min (sum + product) most →
    saturated (sum + asked_sum section (drop i askers) table) ≡ all → saturated (next + asked_sum section (drop (i + 1) askers) table) ≡ all
asked_more section askers i d table sum product next all less is p n e =
    let a = get_or askers i d in
    let k = asked_next section askers i d table less in
    let s : (if same_section section a.section then a.count else 0) * runs table a ≡ a.count * runs table a =
    ap (λ (b : Bool). (if b then a.count else 0) * runs table a) is in
    omega (arith, k, s, p, n, e)

-- without one, which does not
pub asked_past : (section : Section) (askers : List Asker) (i : ℕ) (d : Asker) (table : List (List ℕ)) (sum all : ℕ) → i < length askers →
    same_section section (get_or askers i d).section ≡ false → saturated (sum + asked_sum section (drop i askers) table) ≡ all →
    saturated (sum + asked_sum section (drop (i + 1) askers) table) ≡ all
asked_past section askers i d table sum all less is e =
    let a = get_or askers i d in
    let k = asked_next section askers i d table less in
    let s : (if same_section section a.section then a.count else 0) * runs table a ≡ 0 * runs table a =
    ap (λ (b : Bool). (if b then a.count else 0) * runs table a) is in
    omega (arith, k, s, e)
