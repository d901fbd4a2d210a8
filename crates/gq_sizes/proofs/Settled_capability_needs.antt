-- Where no chain of sessions goes on without end, what sessions need in capabilities is the same along one use more.
use Rattle.std.proofs.Common.{◌≡◌, ℕ, zero, suc, ◌+◌, ◌≤◌, ◌&&◌, ◌||◌, Bool, true, false, List, [], ◌∷◌, length, max, Option, Some, None, refl, ap, ap₂, sym}
use Rattle.std.proofs.Common.{◌∙◌, arith}
use Rattle.std.specs.Prelude.{if◌then◌else◌, is_some}
use Rattle.std.proofs.lemmas.Bool.{true≢false}
use Rattle.std.proofs.lemmas.List.Sums.{sum_by-cons}
use Rattle.gq_model.specs.machine.Amounts.{Caps, counts_caps}
use Rattle.gq_model.specs.declared.section.Section.{Section}
use Rattle.gq_model.specs.declared.program.Form.TheVariants.{Slice}
use Rattle.gq_model.specs.machine.Lists.{any_of, greatest}
use Rattle.gq_model.specs.machine.Resource_prices.{price_memory}
use Rattle.gq_model.specs.machine.Program.{Statements}
use Rattle.gq_model.specs.machine.Scenario.{Interface, Component, Scenario, System, system, interface_in}
use Rattle.gq_model.specs.rules.Kinds.{Kind, Empty_kind, Memory, Pool_kind, Link_kind, AbstractState, Subject, kind_price}
use Rattle.gq_model.specs.rules.Use.{subject}
use Rattle.gq_program.specs.Interfaces.{unbounded}
use Rattle.gq_scenario.specs.Without_quantities.{unsized}
use Rattle.gq_sizes.specs.Endless.{Test, leads, leaf_holds, holds, goes_on, HaveEnds}
use Rattle.gq_sizes.specs.Size.{Given, slot_cost, slots_cost, session_cost, section_points, is_up_to, is_named, leaf_needed, needed, caps_sum, least_caps}
use Rattle.gq_sizes.specs.Size.{rounds, sum_in}
use Rattle.gq_sizes.proofs.Least_sizes_fit.{found_free}

-- along one use more, nothing more is needed
abbrev pub IsSettled : Scenario → Type 0
IsSettled s =
    counts_caps s.version ≡ true → (service : List ℕ) (i : Interface) (l : ℕ) → interface_in service s.interfaces ≡ Some i → l ≤ length i.upgrades
    → needed (least_caps (system (unsized s))) Caps (system (unsized s)) service i l ≤ least_caps (system (unsized s)) service l

-- LISTS

none_of : (a b : Bool) → (a || b) ≡ false → (a ≡ false) × (b ≡ false)
none_of false b e = (refl, e)
none_of true b e = absurd (true≢false e)

greatest_when : {A : Type 0} (f g : A → ℕ) (q : A → Bool) → ((a : A) → q a ≡ false → f a ≡ g a) → (xs : List A) → any_of q xs ≡ false
    → greatest f xs ≡ greatest g xs
greatest_when f g q same [] h = refl
greatest_when f g q same (a ∷ xs) h =
    let p = none_of (q a) (any_of q xs) h in ap₂ max (same a p.0) (greatest_when f g q same xs p.1)

when_same : (b c : Bool) (f g : ℕ) → (c ≡ false → f ≡ g) → (b && c) ≡ false → (if◌then◌else◌ b f 0) ≡ (if◌then◌else◌ b g 0)
when_same true c f g same h = same h
when_same false c f g same h = refl

-- COSTS

-- where two give the same for each session that does not pass, and none passes that is held, what is needed is the same
module _ (less more : Given) (test : Test) (same : (service : List ℕ) (l : ℕ) → test service l ≡ false → more service l ≡ less service l) where
  slot_same : (k : Kind) → leads test k ≡ false → slot_cost more Caps k ≡ slot_cost less Caps k
  slot_same Empty_kind h = refl
  slot_same (Memory form n) h = refl
  slot_same (Pool_kind n m) h = refl
  slot_same (Link_kind service l a) h = ap (λ n. kind_price Caps (Link_kind service l a) + n) (same service l h)

  slots_same : (ks : List Kind) → any_of (leads test) ks ≡ false → slots_cost more Caps ks ≡ slots_cost less Caps ks
  slots_same [] h = refl
  slots_same (k ∷ ks) h =
      let p = none_of (leads test k) (any_of (leads test) ks) h in
      sum_by-cons (slot_cost more Caps) k ks ∙ (ap₂ (λ a b. a + b) (slot_same k p.0) (slots_same ks p.1) ∙ sym (sum_by-cons (slot_cost less Caps) k ks))

  leaf_same : (v : Subject) (i : Interface) (l : ℕ) → leaf_holds test v l ≡ false → leaf_needed more Caps v i l ≡ leaf_needed less Caps v i l
  leaf_same v i l =
      greatest_when (λ (p : Section × Statements). if is_up_to l p.0 then greatest (session_cost more Caps i) (section_points v p.0) else 0)
      (λ (p : Section × Statements). if is_up_to l p.0 then greatest (session_cost less Caps i) (section_points v p.0) else 0)
      (λ (p : Section × Statements). is_up_to l p.0 && any_of (λ (s : AbstractState). any_of (leads test) s.bank) (section_points v p.0))
      (λ p h. when_same (is_up_to l p.0) (any_of (λ (s : AbstractState). any_of (leads test) s.bank) (section_points v p.0))
      (greatest (session_cost more Caps i) (section_points v p.0)) (greatest (session_cost less Caps i) (section_points v p.0))
      (greatest_when (session_cost more Caps i) (session_cost less Caps i) (λ (s : AbstractState). any_of (leads test) s.bank)
      (λ s e. ap (λ n. price_memory Caps Slice i.object + n) (slots_same s.bank e)) (section_points v p.0)) h)
      v.program.sections

  needed_same : (all : System) (service : List ℕ) (i : Interface) (l : ℕ) → holds test all service l ≡ false
      → needed more Caps all service i l ≡ needed less Caps all service i l
  needed_same all service i l =
      greatest_when (λ (c : Component). if is_named service c.node.provides then leaf_needed more Caps (subject all c) i l else 0)
      (λ (c : Component). if is_named service c.node.provides then leaf_needed less Caps (subject all c) i l else 0)
      (λ (c : Component). is_named service c.node.provides && leaf_holds test (subject all c) l)
      (λ c h. when_same (is_named service c.node.provides) (leaf_holds test (subject all c) l) (leaf_needed more Caps (subject all c) i l)
      (leaf_needed less Caps (subject all c) i l) (leaf_same (subject all c) i l) h)
      all.components

-- ROUNDS

-- behind the end of all chains nothing more is needed
still : (n : ℕ) (all : System) (service : List ℕ) (l : ℕ) → goes_on n all service l ≡ false → caps_sum (suc n) all service l ≡ caps_sum n all service l
still zero all service l h = by (interface_in service all.interfaces) h
  where
    by : (o : Option Interface) → is_some o ≡ false → sum_in (λ i. needed (caps_sum zero all) Caps all service i l) o ≡ 0
    by None h = refl
    by (Some i) h = absurd (true≢false h)
still (suc n) all service l h = by (interface_in service all.interfaces) h (still n all)
  where
    by : (o : Option Interface) → (is_some o && holds (goes_on n all) all service l) ≡ false
        → ((other : List ℕ) (m : ℕ) → goes_on n all other m ≡ false → caps_sum (suc n) all other m ≡ caps_sum n all other m)
        → sum_in (λ i. needed (caps_sum (suc n) all) Caps all service i l) o ≡ sum_in (λ i. needed (caps_sum n all) Caps all service i l) o
    by None h before = refl
    by (Some i) h before = needed_same (caps_sum n all) (caps_sum (suc n) all) (goes_on n all) before all service i l h

pub settled : (s : Scenario) → HaveEnds s → IsSettled s
settled s ends two service i l known below =
    let all = system (unsized s) in
    let e = still (rounds all) all service l (ends two service i l known below) in
    let f : interface_in service all.interfaces ≡ Some (unbounded i) = found_free s.version all [] s.interfaces service i known in
    let b : caps_sum (suc (rounds all)) all service l ≡ needed (least_caps all) Caps all service i l =
    ap (sum_in (λ i. needed (least_caps all) Caps all service i l)) f in
    omega (arith, e, b)
