-- What is asked of a program without quantities follows from what is reported of the scenario: no `open` is short.
use Rattle.std.proofs.Common.{◌≡◌, ℕ, zero, suc, ◌-◌, ◌≤◌, max, Bool, true, false, List, [], ◌∷◌, ◌++◌, Option, Some, None, refl, ap, sym, ◌∙◌, subst, arith}
use Rattle.std.proofs.Common.{append_assoc}
use Rattle.std.specs.Prelude.{nat_lt, slice_get, if◌then◌else◌, codes, decimal}
use Rattle.std.proofs.lemmas.Bool.Decides.{nat_tests}
use Rattle.gq_model.specs.machine.Amounts.{Ram, Caps, Amount, amount, counts_caps}
use Rattle.gq_model.specs.machine.Accounts.{entry}
use Rattle.gq_model.specs.declared.section.Section.{Section}
use Rattle.gq_model.specs.machine.Program.{Statements, section_in}
use Rattle.gq_model.specs.machine.Sections.{same_section, level_of, section_word}
use Rattle.gq_model.specs.machine.Scenario.{Interface, Interfaces, Component, System, interface_in}
use Rattle.gq_model.specs.rules.Kinds.{Subject}
use Rattle.gq_model.specs.rules.Flow.{context, start_of}
use Rattle.gq_model.specs.rules.Use.{subject}
use Rattle.gq_model.specs.rules.Verdict.{program_fault}
use Rattle.gq_model.proofs.Rules_laws.{same_section_is}
use Rattle.gq_model.proofs.Small_facts.{none_some, some_same, text_self}
use Rattle.gq_sizes.specs.Size.{Gift, asked_above, gifts, gifts_in, all_gifts, is_named, is_up_to, least_caps, least_gift, least_need, needed, opens_from}
use Rattle.gq_sizes.specs.Size.{ram_sum, section_points}
use Rattle.gq_sizes.specs.Size.{session_cost, short_line, short_lines, short_in, all_short, sum_in}
use Rattle.gq_sizes.proofs.Statement_point_predicates.{Each, each_both, each_so}
use Rattle.gq_sizes.proofs.Level_sums_cover.{least_of_gifts, sum_needs}
use Rattle.gq_sizes.proofs.Session_cost_comparison.{point_needed}
use Rattle.gq_program.specs.Interfaces.{unbounded}
use Rattle.gq_sizes.proofs.Least_sizes_fit.{map_length, IsFree, IsSufficient, HasLevel, Enough, Fits, found_free}

-- SECTIONS

-- what holds of each section of a list holds of one that is found in it
section_of_each : (P : Section → Statements → Type 0) (pairs : List (Section × Statements)) (section : Section) (list : Statements)
    → Each (λ (p : Section × Statements). P p.0 p.1) pairs → section_in section pairs ≡ Some list → P section list
section_of_each P [] section list h e = absurd (none_some e)
section_of_each P (p ∷ rest) section list h e = by (same_section section p.0) refl e (section_of_each P rest section list h.1)
  where
    by : (b : Bool) → same_section section p.0 ≡ b → (if◌then◌else◌ b (Some p.1) (section_in section rest)) ≡ Some list
        → (section_in section rest ≡ Some list → P section list) → P section list
    by true is e2 further = subst (P section) (some_same e2) (subst (λ s. P s p.1) (sym (same_section_is section p.0 is)) h.0)
    by false is e2 further = further e2

component_of_each : {A : Type 0} (P : A → Type 0) (xs : List A) (x : ℕ) (a : A) → Each P xs → slice_get xs x ≡ Some a → P a
component_of_each P [] x a h e = absurd (none_some e)
component_of_each P (b ∷ rest) zero a h e = subst P (some_same e) h.0
component_of_each P (b ∷ rest) (suc x) a h e = component_of_each P rest x a h.1 e

each_all : {A : Type 0} (P : A → Type 0) (xs : List A) → ((a : A) → P a) → Each P xs
each_all P [] h = tt
each_all P (a ∷ rest) h = (h a, each_all P rest h)

each_so2 : {A : Type 0} (P Q R : A → Type 0) (xs : List A) → ((a : A) → P a → Q a → R a) → Each P xs → Each Q xs → Each R xs
each_so2 P Q R [] so e f = tt
each_so2 P Q R (a ∷ rest) so e f = (so a e.0 f.0, each_so2 P Q R rest so e.1 f.1)

-- GIFTS

abbrev IsGiftOf : List Gift → Gift → Type 0
IsGiftOf gs g = (m : ℕ) × (least_gift g.0 g.1 gs ≡ Some m) × (m ≤ g.2)

gifts_rest : (prefix rest : List Gift) → Each (IsGiftOf (prefix ++ rest)) rest
gifts_rest prefix [] = tt
gifts_rest prefix (g ∷ rest) = (
  least_of_gifts g.0 g.1 g.2 prefix rest,
  subst (λ l. Each (IsGiftOf l) rest) (append_assoc prefix (g ∷ []) rest) (gifts_rest (prefix ++ g ∷ []) rest),
)

gifts_by_section : (P : Gift → Type 0) (v : Subject) (pairs : List (Section × Statements)) → Each P (gifts_in v pairs)
    → Each (λ (p : Section × Statements). Each P (gifts (context v p.0) (start_of v p.0) p.1)) pairs
gifts_by_section P v [] h = tt
gifts_by_section P v (p ∷ rest) h =
    let b = each_both P (gifts (context v p.0) (start_of v p.0) p.1) (gifts_in v rest) h in (b.0, gifts_by_section P v rest b.1)

pub gifts_by_component : (P : Gift → Type 0) (all : System) (cs : List Component) → Each P (all_gifts all cs)
    → Each (λ (c : Component). Each P (gifts_in (subject all c) c.node.program.sections)) cs
gifts_by_component P all [] h = tt
gifts_by_component P all (c ∷ rest) h =
    let b = each_both P (gifts_in (subject all c) c.node.program.sections) (all_gifts all rest) h in (b.0, gifts_by_component P all rest b.1)

-- SHORT

none_of_both : (xs ys : List ℕ) → xs ++ ys ≡ [] → (xs ≡ []) × (ys ≡ [])
none_of_both [] ys e = (refl, e)
none_of_both (x ∷ xs) ys e = cc

module _ (all : System) (gs : List Gift) where
  -- no line is reported of an `open` that gives enough
  enough_line : (c : Component) (section : Section) (o : ℕ × List ℕ × ℕ) (least : ℕ) → short_line c section o least ≡ [] → least ≤ o.2
  enough_line c section o least e = by (nat_lt o.2 least) refl e
    where
      by : (b : Bool) → nat_lt o.2 least ≡ b
          → (if◌then◌else◌ b (codes "short " ++ c.label ++ codes " in " ++ section_word section ++ codes " at " ++ decimal o.0 ++ entry (codes "gives") o.2
          ++ entry (codes "least") least ++ 10 ∷ []) []) ≡ [] → least ≤ o.2
      by true is e2 = absurd cc
      by false is e2 = grind (arith, nat_tests)

  enough_lines : (c : Component) (section : Section) (os : List (ℕ × List ℕ × ℕ)) → short_lines all gs c section os ≡ []
      → Each (λ (o : ℕ × List ℕ × ℕ). least_need all gs o.1 ≤ o.2) os
  enough_lines c section [] e = tt
  enough_lines c section (o ∷ os) e =
      let b = none_of_both (short_line c section o (least_need all gs o.1)) (short_lines all gs c section os) e in
      (enough_line c section o (least_need all gs o.1) b.0, enough_lines c section os b.1)

  enough_in : (c : Component) (pairs : List (Section × Statements)) → short_in all gs c pairs ≡ []
      → Each (λ (p : Section × Statements). Each (λ (o : ℕ × List ℕ × ℕ). least_need all gs o.1 ≤ o.2) (opens_from 1 p.1)) pairs
  enough_in c [] e = tt
  enough_in c (p ∷ rest) e =
      let b = none_of_both (short_lines all gs c p.0 (opens_from 1 p.1)) (short_in all gs c rest) e in (
        enough_lines c p.0 (opens_from 1 p.1) b.0,
        enough_in c
            rest b.1,
      )

  pub enough_all : (cs : List Component) → all_short all gs cs ≡ []
      → Each (λ (c : Component). Each (λ (p : Section × Statements). Each (λ (o : ℕ × List ℕ × ℕ). least_need all gs o.1 ≤ o.2) (opens_from 1 p.1))
      c.node.program.sections) cs
  enough_all [] e = tt
  enough_all (c ∷ rest) e =
      let b = none_of_both (short_in all gs c c.node.program.sections) (all_short all gs rest) e in (
        enough_in c c.node.program.sections b.0,
        enough_all rest
            b.1,
      )

-- PROGRAMS

ram_sum_as : (all : System) (gs : List Gift) (service : List ℕ) (i : Interface) (l : ℕ) → ram_sum all gs service (unbounded i) l ≡ ram_sum all gs service i l
ram_sum_as all gs service i zero =
    let need : ℕ → ℕ = λ k. needed (λ _ _. 0) Ram all service i k in
    ap (λ n. max (need 0) (asked_above need gs service n 0)) (map_length (λ (a : Amount). amount 0 a.caps) i.upgrades)
ram_sum_as all gs service i (suc l) =
    let need : ℕ → ℕ = λ k. needed (λ _ _. 0) Ram all service i k in
    let long = map_length (λ (a : Amount). amount 0 a.caps) i.upgrades in
    let rest = ram_sum_as all gs service i l in
    (λ k. max (max (need (suc l)) (asked_above need gs service (long k - suc l) (suc l))) (rest k))

module _ (version : ℕ) (all : System) (is : Interfaces) (h : IsFree version all is) (quiet : all_short all (all_gifts all all.components) all.components ≡ [])
  where
    abbrev gs : List Gift
    gs = all_gifts all all.components

    module _ (x : ℕ) (c : Component) (at : slice_get all.components x ≡ Some c) where
      given_so : (section : Section) (list : Statements) → section_in section c.node.program.sections ≡ Some list
          → Each (IsGiftOf gs) (gifts (context (subject all c) section) (start_of (subject all c) section) list)
      given_so section list there =
          let mine = component_of_each _ all.components x c (gifts_by_component (IsGiftOf gs) all all.components (gifts_rest [] gs)) at in
          section_of_each (λ s l. Each (IsGiftOf gs) (gifts (context (subject all c) s) (start_of (subject all c) s) l)) c.node.program.sections section list
          (gifts_by_section (IsGiftOf gs) (subject all c) c.node.program.sections mine) there

      opened_so : (section : Section) (list : Statements) → section_in section c.node.program.sections ≡ Some list
          → Each (λ (o : ℕ × List ℕ × ℕ). Enough version all gs is h c o.1 o.2) (opens_from 1 list)
      opened_so section list there =
          let mine = component_of_each _ all.components x c (enough_all all gs all.components quiet) at in
          let these = section_of_each (λ s l. Each (λ (o : ℕ × List ℕ × ℕ). least_need all gs o.1 ≤ o.2) (opens_from 1 l)) c.node.program.sections section list
          mine there in
          each_so (λ (o : ℕ × List ℕ × ℕ). least_need all gs o.1 ≤ o.2) (λ (o : ℕ × List ℕ × ℕ). Enough version all gs is h c o.1 o.2) (opens_from 1 list)
          (λ o small i e.
          let f : interface_in o.1 all.interfaces ≡ Some (unbounded i) = (λ k. interface_in o.1 (h.interfaces k)) ∙ found_free version all gs is o.1 i e in
          let g : least_need all gs o.1 ≡ ram_sum all gs o.1 i 0 = ap (sum_in (λ i. ram_sum all gs o.1 i 0)) f ∙ ram_sum_as all gs o.1 i 0 in
          omega (arith, small, g)) these

      needed_so : ((section : Section) (list : Statements) → section_in section c.node.program.sections ≡ Some list
          → HasLevel version all gs is h c section) → (section : Section) (list : Statements) → section_in section c.node.program.sections ≡ Some list
          → Each (Fits version all gs is h c section) (section_points (subject all c) section)
      needed_so levels section list there = by (is_up_to (level_of section) section) refl c.node.provides refl
        where
          fits_by : (service : List ℕ) (o : Option Interface) → is_up_to (level_of section) section ≡ true → c.node.provides ≡ Some service
              → interface_in service is ≡ o → Each (Fits version all gs is h c section) (section_points (subject all c) section)
          fits_by service None up p e = each_all _ _ (λ s service2 i2 p2 e2 up2. none_here service service2 i2 (some_same (sym p ∙ p2)) e e2)
            where
              none_here : {A : Type 0} (a b : List ℕ) (i : Interface) → a ≡ b → interface_in a is ≡ None → interface_in b is ≡ Some i → A
              none_here a b i same f g = absurd (none_some (sym f ∙ (λ k. interface_in (same k) is) ∙ g))
          fits_by service (Some i) up p e =
              let named : is_named service c.node.provides ≡ true = ap (is_named service) p ∙ text_self service in
              let l = level_of section in
              let ram = point_needed (λ _ _. 0) Ram all service i l x c section list at named there up in
              let caps = point_needed (least_caps all) Caps all service i l x c section list at named there up in
              each_so2 _ _ _ (section_points (subject all c) section) (λ s a b service2 i2 p2 e2 up2.
              let same : service ≡ service2 = some_same (sym p ∙ p2) in
              let one : i ≡ i2 = some_same (sym e ∙ (λ k. interface_in (same k) is) ∙ e2) in
              subst (λ (j : Interface). (session_cost (λ _ _. 0) Ram j s ≤ ram_sum all gs service2 j l)
              × (counts_caps version ≡ true → session_cost (least_caps all) Caps j s ≤ least_caps all service2 l)) one
              (subst (λ (n : List ℕ). (session_cost (λ _ _. 0) Ram i s ≤ ram_sum all gs n i l)
              × (counts_caps version ≡ true → session_cost (least_caps all) Caps i s ≤ least_caps all n l)) same (
                omega (arith, a, sum_needs all gs service i l),
                λ two. let settled = h.settled two service i l e (levels section list there service i p e up) in
                    omega (arith, b, settled),
              ))) ram caps

          by : (b : Bool) → is_up_to (level_of section) section ≡ b → (p : Option (List ℕ)) → c.node.provides ≡ p
              → Each (Fits version all gs is h c section) (section_points (subject all c) section)
          by false up p f = each_all _ _ (λ s service i p2 e2 up2. absurd cc)
          by true up None f = each_all _ _ (λ s service i p2 e2 up2. absurd (none_some (sym f ∙ p2)))
          by true up (Some service) f = fits_by service (interface_in service is) up f refl

      pub sufficient : program_fault (subject all c) ≡ None
          → ((section : Section) (list : Statements) → section_in section c.node.program.sections ≡ Some list → HasLevel version all gs is h c section)
          → IsSufficient version all gs is h c
      sufficient fine levels = record { fine = fine; levels = levels; opens = opened_so; gives = given_so; needs = needed_so levels }
