-- What a session and a leaf cost without quantities is no more than they cost with those of a scenario, where no more is taken for links.
use Rattle.std.proofs.Common.{◌≡◌, ℕ, suc, ◌+◌, ◌≤◌, List, [], ◌∷◌, Some, refl, ap, sym, subst, arith}
use Rattle.std.specs.Prelude.{sum_by, slice_get}
use Rattle.std.proofs.lemmas.List.Sums.{sum_by-cons}
use Rattle.gq_tariff.specs.Prices.{classes}
use Rattle.gq_model.specs.machine.Amounts.{Resource, Ram, Caps}
use Rattle.gq_model.specs.declared.section.Section.TheVariants.{Main}
use Rattle.gq_model.specs.declared.program.Form.TheVariants.{Slice}
use Rattle.gq_model.specs.machine.Lists.{greatest}
use Rattle.gq_model.specs.machine.Resource_prices.{price_memory}
use Rattle.gq_model.specs.machine.Scenario.{Interface, Interfaces}
use Rattle.gq_model.specs.rules.Budgets.{own}
use Rattle.gq_model.specs.rules.Kinds.{Kind, Empty_kind, Memory, Pool_kind, Link_kind, AbstractState, Subject, kind_price, kind_lent, kinds_cost}
use Rattle.gq_model.specs.rules.Kinds as kinds
use Rattle.gq_sizes.specs.Unsized_equality.{KindsAsOne, BanksAsOne, StatesAsOne, PointsAsOne, caps_for, levels_for}
use Rattle.gq_sizes.specs.Size.{Given, slot_cost, slots_cost, session_cost, section_points, own_by}
use Rattle.gq_sizes.proofs.Session_cost_comparison.{both_sums}
use Rattle.gq_sizes.proofs.Own_need_comparison.{heap_so}

-- LISTS

pub greatest_under : {A : Type 0} (f : A → ℕ) (xs : List A) (n : ℕ) → ((x : ℕ) (a : A) → slice_get xs x ≡ Some a → f a ≤ n) → greatest f xs ≤ n
greatest_under f [] n h = omega arith
greatest_under f (a ∷ xs) n h =
    let r = greatest_under f xs n (λ x b e. h (suc x) b e) in let e = h 0 a refl in grind (arith, r, e)

pub greatest_lower : (xs ys : Interfaces) (f g : AbstractState → ℕ) (ss ts : List AbstractState) →
    ((s t : AbstractState) → StatesAsOne xs ys s t → g t ≤ f s) → PointsAsOne xs ys ss ts
    → greatest g ts ≤ greatest f ss
greatest_lower xs ys f g [] [] so h = omega arith
greatest_lower xs ys f g [] (t ∷ ts) so h = absurd h
greatest_lower xs ys f g (s ∷ ss) [] so h = absurd h
greatest_lower xs ys f g (s ∷ ss) (t ∷ ts) so h =
    let r = greatest_lower xs ys f g ss ts so h.1 in let e = so s t h.0 in grind (arith, r, e)

-- COSTS

module _ (xs ys : Interfaces) (given : Given) where
  -- no more is taken for a link than is given for it by these interfaces; of bytes what was given is known
  abbrev pub Within : Resource → Type 0
  Within Ram = Unit {0}
  Within Caps = (service : List ℕ) (l : ℕ) → l ≤ levels_for xs service → given service l ≤ caps_for xs service l

  kind_lower : (r : Resource) → Within r → (k l : Kind) → KindsAsOne xs ys k l → slot_cost given r l ≤ kind_price r k + kind_lent r k
  kind_lower Ram h Empty_kind l e = subst (λ x. slot_cost given Ram x ≤ 0 + 0) (sym e) (omega arith)
  kind_lower Caps h Empty_kind l e = subst (λ x. slot_cost given Caps x ≤ 0 + 0) (sym e) (omega arith)
  kind_lower Ram h (Memory form n) l e = subst (λ x. slot_cost given Ram x ≤ price_memory Ram form n + 0) (sym e) (omega arith)
  kind_lower Caps h (Memory form n) l e = subst (λ x. slot_cost given Caps x ≤ price_memory Caps form n + 0) (sym e) (omega arith)
  kind_lower Ram h (Pool_kind n m) l e =
      subst (λ x. slot_cost given Ram x ≤ kind_price Ram (Pool_kind n m) + kind_lent Ram (Pool_kind n m)) (sym e) (omega arith)
  kind_lower Caps h (Pool_kind n m) l e =
      subst (λ x. slot_cost given Caps x ≤ kind_price Caps (Pool_kind n m) + kind_lent Caps (Pool_kind n m)) (sym e) (omega arith)
  kind_lower r h (Link_kind s l a) Empty_kind e = absurd e
  kind_lower r h (Link_kind s l a) (Memory form n) e = absurd e
  kind_lower r h (Link_kind s l a) (Pool_kind n m) e = absurd e
  kind_lower Ram h (Link_kind s l a) (Link_kind t m b) e = let same = e.2 in omega (arith, same)
  kind_lower Caps h (Link_kind s l a) (Link_kind t m b) e =
      let small = h s l e.5 in
      let same : given s l ≡ given t m = (λ i. given (e.0 i) (e.1 i)) in
      let is = e.3 in
      omega (arith, small, same, is)

  bank_lower : (r : Resource) → Within r → (ks ls : List Kind) → BanksAsOne xs ys ks ls → slots_cost given r ls ≤ kinds_cost r ks
  bank_lower r h ks ls b = let e = both_sums r ks in let f = by ks ls b in omega (arith, e, f)
    where
      by : (ks ls : List Kind) → BanksAsOne xs ys ks ls → sum_by (slot_cost given r) ls ≤ sum_by (λ k. kind_price r k + kind_lent r k) ks
      by [] [] b = omega arith
      by [] (l ∷ ls) b = absurd b
      by (k ∷ ks) [] b = absurd b
      by (k ∷ ks) (l ∷ ls) b =
          let e = by ks ls b.1 in let f = kind_lower r h k l b.0 in
          omega (arith, e, f, sum_by-cons (λ k. kind_price r k + kind_lent r k) k ks, sum_by-cons (slot_cost given r) l ls)

  pub session_lower : (r : Resource) → Within r → (i j : Interface) (s t : AbstractState) → i.object ≡ j.object → StatesAsOne xs ys s t
      → session_cost given r j t ≤ kinds.session_cost r i s.bank
  session_lower r h i j s t same o =
      let e = bank_lower r h s.bank t.bank o.bank in
      let p : price_memory r Slice i.object ≡ price_memory r Slice j.object = ap (price_memory r Slice) same in
      omega (arith, e, p)

  pub own_lower : (r : Resource) → Within r → (s t : AbstractState) → StatesAsOne xs ys s t → slots_cost given r t.own ≤ kinds_cost r s.own
  own_lower r h s t o = bank_lower r h s.own t.own o.own

-- what a leaf needs of its own
pub own_least : (v w : Subject) (given : Given) (r : Resource) → Within v.interfaces w.interfaces given r
    → PointsAsOne v.interfaces w.interfaces (section_points v Main) (section_points w Main) → own_by given r w ≤ own r v
own_least v w given r h points =
    let a = greatest_lower v.interfaces w.interfaces (λ s. kinds_cost r s.own) (λ s. slots_cost given r s.own) (section_points v Main) (section_points w Main)
    (λ s t o. own_lower v.interfaces w.interfaces given r h s t o) points in
    let b = heap_so v.interfaces w.interfaces r (section_points v Main) (section_points w Main) classes points in
    omega (arith, a, b)
