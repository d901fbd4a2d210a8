-- What a session costs, and what points of a section need.
use Rattle.std.proofs.Common.{◌≡◌, ℕ, zero, suc, ◌+◌, ◌≤◌, Bool, true, false, List, [], ◌∷◌, max, Some, refl, ap, sym, ◌∙◌, subst, arith}
use Rattle.std.specs.Prelude.{sum_by, slice_get, if◌then◌else◌}
use Rattle.std.proofs.lemmas.List.Sums.{sum_by-cons}
use Rattle.gq_model.specs.machine.Amounts.{Resource, Ram, Caps}
use Rattle.gq_model.specs.declared.section.Section.{Section}
use Rattle.gq_model.specs.declared.program.Form.TheVariants.{Slice}
use Rattle.gq_model.specs.machine.Lists.{greatest}
use Rattle.gq_model.specs.machine.Resource_prices.{price_memory}
use Rattle.gq_model.specs.machine.Program.{Statements, section_in}
use Rattle.gq_model.specs.machine.Sections.{same_section}
use Rattle.gq_model.specs.machine.Scenario.{Interface, Interfaces, Component, System}
use Rattle.gq_model.specs.rules.Kinds.{Kind, Empty_kind, Memory, Pool_kind, Link_kind, AbstractState, kind_price, kind_lent, kinds_cost}
use Rattle.gq_model.specs.rules.Kinds as kinds
use Rattle.gq_model.specs.rules.Use.{subject}
use Rattle.gq_model.proofs.Rules_laws.{same_section_is}
use Rattle.gq_model.proofs.Small_facts.{none_some, some_same}
use Rattle.gq_sizes.specs.Unsized_equality.{KindsAsOne, BanksAsOne, StatesAsOne, caps_for, levels_for}
use Rattle.gq_sizes.specs.Size.{Given, slot_cost, slots_cost, session_cost, section_points, is_up_to, leaf_needed, is_named, needed}
use Rattle.gq_sizes.proofs.Statement_point_predicates.{Each, each_greatest}

-- COSTS OF BANKS

-- the two sums of a list of kinds are one
pub both_sums : (r : Resource) (ks : List Kind) → kinds_cost r ks ≡ sum_by (λ k. kind_price r k + kind_lent r k) ks
both_sums r [] = refl
both_sums r (k ∷ ks) =
    let e = both_sums r ks in
    omega (arith, e, sum_by-cons (kind_price r) k ks, sum_by-cons (kind_lent r) k ks, sum_by-cons (λ k. kind_price r k + kind_lent r k) k ks)

module _ (xs ys : Interfaces) (given : Given) where
  -- what is given for a link by the other's interfaces is what is taken for it here
  abbrev pub Settled : Type 0
  Settled = (service : List ℕ) (l : ℕ) → l ≤ levels_for xs service → caps_for ys service l ≡ given service l

  kind_ram : (k l : Kind) → KindsAsOne xs ys k l → kind_price Ram l + kind_lent Ram l ≡ slot_cost given Ram k
  kind_ram Empty_kind l e = ap (λ x. kind_price Ram x + kind_lent Ram x) e
  kind_ram (Memory form n) l e = ap (λ x. kind_price Ram x + kind_lent Ram x) e
  kind_ram (Pool_kind n m) l e = ap (λ x. kind_price Ram x + kind_lent Ram x) e
  kind_ram (Link_kind s l a) Empty_kind e = absurd e
  kind_ram (Link_kind s l a) (Memory form n) e = absurd e
  kind_ram (Link_kind s l a) (Pool_kind n m) e = absurd e
  kind_ram (Link_kind s l a) (Link_kind t m b) e = ap (λ n. 0 + n) (sym e.2)

  kind_caps : Settled → (k l : Kind) → KindsAsOne xs ys k l → kind_price Caps l + kind_lent Caps l ≡ slot_cost given Caps k
  kind_caps same Empty_kind l e = ap (λ x. kind_price Caps x + kind_lent Caps x) e
  kind_caps same (Memory form n) l e = ap (λ x. kind_price Caps x + kind_lent Caps x) e
  kind_caps same (Pool_kind n m) l e = ap (λ x. kind_price Caps x + kind_lent Caps x) e
  kind_caps same (Link_kind s l a) Empty_kind e = absurd e
  kind_caps same (Link_kind s l a) (Memory form n) e = absurd e
  kind_caps same (Link_kind s l a) (Pool_kind n m) e = absurd e
  kind_caps same (Link_kind s l a) (Link_kind t m b) e = ap (λ n. 0 + n) (e.4 ∙ (λ i. caps_for ys (sym e.0 i) (sym e.1 i)) ∙ same s l e.5)

  bank_cost : (r : Resource) → ((k l : Kind) → KindsAsOne xs ys k l → kind_price r l + kind_lent r l ≡ slot_cost given r k)
      → (ks ls : List Kind) → BanksAsOne xs ys ks ls → kinds_cost r ls ≡ slots_cost given r ks
  bank_cost r each ks ls b = both_sums r ls ∙ by ks ls b
    where
      by : (ks ls : List Kind) → BanksAsOne xs ys ks ls → sum_by (λ k. kind_price r k + kind_lent r k) ls ≡ sum_by (slot_cost given r) ks
      by [] [] b = refl
      by [] (l ∷ ls) b = absurd b
      by (k ∷ ks) [] b = absurd b
      by (k ∷ ks) (l ∷ ls) b =
          let e = by ks ls b.1 in let f = each k l b.0 in
          omega (arith, e, f, sum_by-cons (λ k. kind_price r k + kind_lent r k) l ls, sum_by-cons (slot_cost given r) k ks)

  -- a session's cost in the other
  pub cost_ram : (i j : Interface) (s t : AbstractState) → i.object ≡ j.object → StatesAsOne xs ys s t → kinds.session_cost Ram j t.bank ≡ session_cost given
      Ram i s
  cost_ram i j s t same o =
      let e = bank_cost Ram kind_ram s.bank t.bank o.bank in
      (λ k. price_memory Ram Slice (sym same k) + e k)

  pub cost_caps : Settled → (i j : Interface) (s t : AbstractState) → i.object ≡ j.object → StatesAsOne xs ys s t
      → kinds.session_cost Caps j t.bank ≡ session_cost given Caps i s
  cost_caps settled i j s t same o =
      let e = bank_cost Caps (kind_caps settled) s.bank t.bank o.bank in
      (λ k. price_memory Caps Slice (sym same k) + e k)

  pub own_ram : (s t : AbstractState) → StatesAsOne xs ys s t → kinds_cost Ram t.own ≡ slots_cost given Ram s.own
  own_ram s t o = bank_cost Ram kind_ram s.own t.own o.own

  pub own_caps : Settled → (s t : AbstractState) → StatesAsOne xs ys s t → kinds_cost Caps t.own ≡ slots_cost given Caps s.own
  own_caps settled s t o = bank_cost Caps (kind_caps settled) s.own t.own o.own

-- WHAT IS NEEDED

-- the greatest of sections is not less than that of one that is there
greatest_there : (f : Section × Statements → ℕ) (section : Section) (list : Statements) (pairs : List (Section × Statements))
    → ((p : Section × Statements) → same_section section p.0 ≡ true → f (section, list) ≤ f p)
    → section_in section pairs ≡ Some list → f (section, list) ≤ greatest f pairs
greatest_there f section list [] so e = absurd (none_some e)
greatest_there f section list (p ∷ rest) so e = by (same_section section p.0) refl e (greatest_there f section list rest so)
  where
    by : (b : Bool) → same_section section p.0 ≡ b → (if◌then◌else◌ b (Some p.1) (section_in section rest)) ≡ Some list
        → (section_in section rest ≡ Some list → f (section, list) ≤ greatest f rest) → f (section, list) ≤ greatest f (p ∷ rest)
    by true is e2 further = let h = so p is in grind (arith, h)
    by false is e2 further = let h = further e2 in grind (arith, h)

greatest_at : {A : Type 0} (f : A → ℕ) (xs : List A) (n : ℕ) (a : A) → slice_get xs n ≡ Some a → f a ≤ greatest f xs
greatest_at f [] n a e = absurd (none_some e)
greatest_at f (x ∷ xs) zero a e = subst (λ y. f y ≤ max (f x) (greatest f xs)) (some_same e) (grind arith)
greatest_at f (x ∷ xs) (suc n) a e = let h = greatest_at f xs n a e in grind (arith, h)

-- each point of a section that is there costs no more than is needed
pub point_needed : (given : Given) (r : Resource) (all : System) (service : List ℕ) (i : Interface) (l x : ℕ) (c : Component) (section : Section)
    (list : Statements) → slice_get all.components x ≡ Some c → is_named service c.node.provides ≡ true
    → section_in section c.node.program.sections ≡ Some list → is_up_to l section ≡ true
    → Each (λ s. session_cost given r i s ≤ needed given r all service i l) (section_points (subject all c) section)
point_needed given r all service i l x c section list at named there up =
    let v = subject all c in
    let here = λ (q : Section). if is_up_to l q then greatest (session_cost given r i) (section_points v q) else 0 in
    let f = λ (p : Section × Statements). here p.0 in
    let g = λ (d : Component). if is_named service d.node.provides then leaf_needed given r (subject all d) i l else 0 in
    let a = greatest_there f section list c.node.program.sections (λ p same. subst (λ q. here section ≤ here q) (same_section_is section p.0 same) (omega
    arith)) there in
    let b = greatest_at g all.components x c at in
    let fa : f (section, list) ≡ greatest (session_cost given r i) (section_points v section) =
    ap (λ t. if t then greatest (session_cost given r i) (section_points v section) else 0) up in
    let ga : g c ≡ leaf_needed given r v i l = ap (λ t. if t then leaf_needed given r v i l else 0) named in
    each_greatest (session_cost given r i) (section_points v section) (needed given r all service i l) (omega (arith, a, b, fa, ga))
