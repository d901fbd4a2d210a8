-- Sums that are kept as far as 64 bits go: they are the same where their parts are.
use Rattle.std.proofs.Common.{◌≡◌, ◌∙◌, ℕ, ◌+◌, max, true, false, Bool, List, [], ◌∷◌, refl, ap, sym, arith}
use Rattle.std.specs.Prelude.{if◌then◌else◌}
use Rattle.std.proofs.lemmas.List.Sums.{sum_by-cons}
use Rattle.gq_tariff.specs.Prices.{classes}
use Rattle.gq_model.specs.machine.Amounts.{Caps}
use Rattle.gq_model.specs.machine.Lists.{greatest}
use Rattle.gq_model.specs.machine.Scenario.{Interface, Component, System}
use Rattle.gq_model.specs.machine.Program.{Statements}
use Rattle.gq_model.specs.declared.section.Section.{Section}
use Rattle.gq_model.specs.declared.section.Section.TheVariants.{Main}
use Rattle.gq_model.specs.rules.Budgets.{heap_cost}
use Rattle.gq_model.specs.rules.Kinds.{Kind, Empty_kind, Memory, Pool_kind, Link_kind, AbstractState, Subject, kind_price}
use Rattle.gq_model.specs.rules.Use.{subject}
use Rattle.gq_verify.specs.Saturated_numbers.{saturated}
use Rattle.gq_sizes.specs.Size.{Given, is_named, is_up_to, leaf_needed, lent_by, needed, own_by, section_points, session_cost, slot_cost, slots_cost}

saturated_twice : (n : ℕ) → saturated (saturated n) ≡ saturated n
saturated_twice n = omega arith

pub saturated_both : (a b c d : ℕ) → saturated a ≡ saturated c → saturated b ≡ saturated d → saturated (a + b) ≡ saturated (c + d)
saturated_both a b c d e f = omega (arith, e, f)

saturated_max : (a b c d : ℕ) → saturated a ≡ saturated c → saturated b ≡ saturated d → saturated (max a b) ≡ saturated (max c d)
saturated_max a b c d e f = omega (arith, e, f)

saturated_greatest : {A : Type 0} → (f g : A → ℕ) → ((x : A) → saturated (f x) ≡ saturated (g x)) → (l : List A) →
    saturated (greatest f l) ≡ saturated (greatest g l)
saturated_greatest f g same [] = refl
saturated_greatest f g same (x ∷ rest) = saturated_max (f x) (greatest f rest) (g x) (greatest g rest) (same x) (saturated_greatest f g same rest)

-- so it is of numbers that are kept each
pub greatest_saturated : {A : Type 0} → (f : A → ℕ) (l : List A) → greatest (λ x. saturated (f x)) l ≡ saturated (greatest f l)
greatest_saturated f [] = refl
greatest_saturated f (x ∷ rest) = let h = greatest_saturated f rest in omega (arith, h)

-- WHAT IS HELD, BY WHAT IS GIVEN

module _ (f g : Given) (same : (service : List ℕ) (level : ℕ) → f service level ≡ saturated (g service level)) where
  saturated_lent : (kind : Kind) → saturated (lent_by f Caps kind) ≡ saturated (lent_by g Caps kind)
  saturated_lent Empty_kind = refl
  saturated_lent (Memory form n) = refl
  saturated_lent (Pool_kind n m) = refl
  saturated_lent (Link_kind service level a) = ap saturated (same service level) ∙ saturated_twice (g service level)

  saturated_slot : (kind : Kind) → saturated (slot_cost f Caps kind) ≡ saturated (slot_cost g Caps kind)
  saturated_slot kind =
      saturated_both (kind_price Caps kind) (lent_by f Caps kind) (kind_price Caps kind) (lent_by g Caps kind) refl (saturated_lent kind)

  saturated_slots : (kinds : List Kind) → saturated (slots_cost f Caps kinds) ≡ saturated (slots_cost g Caps kinds)
  saturated_slots [] = refl
  saturated_slots (kind ∷ rest) =
      ap saturated (sum_by-cons (slot_cost f Caps) kind rest)
      ∙ (saturated_both (slot_cost f Caps kind) (slots_cost f Caps rest) (slot_cost g Caps kind) (slots_cost g Caps rest) (saturated_slot kind)
      (saturated_slots rest) ∙ ap saturated (sym (sum_by-cons (slot_cost g Caps) kind rest)))

  -- what a leaf's own slots and heap cost
  pub saturated_own : (v : Subject) → saturated (own_by f Caps v) ≡ saturated (own_by g Caps v)
  saturated_own v =
      let states = section_points v Main in
      let heap = heap_cost Caps states classes in
      saturated_both (greatest (λ (s : AbstractState). slots_cost f Caps s.own) states) heap (greatest (λ (s : AbstractState). slots_cost g Caps s.own) states)
      heap
      (saturated_greatest (λ (s : AbstractState). slots_cost f Caps s.own) (λ (s : AbstractState). slots_cost g Caps s.own) (λ s. saturated_slots s.own)
      states) refl

  -- what a session costs
  saturated_session : (i : Interface) (s : AbstractState) → saturated (session_cost f Caps i s) ≡ saturated (session_cost g Caps i s)
  saturated_session i s = saturated_both _ (slots_cost f Caps s.bank) _ (slots_cost g Caps s.bank) refl (saturated_slots s.bank)

  saturated_if : (b : Bool) (m n : ℕ) → saturated m ≡ saturated n → saturated (if b then m else 0) ≡ saturated (if b then n else 0)
  saturated_if true m n e = e
  saturated_if false m n e = refl

  -- what a session of a level costs a leaf at most
  saturated_leaf : (v : Subject) (i : Interface) (l : ℕ) → saturated (leaf_needed f Caps v i l) ≡ saturated (leaf_needed g Caps v i l)
  saturated_leaf v i l =
      saturated_greatest (λ (p : Section × Statements). if is_up_to l p.0 then greatest (session_cost f Caps i) (section_points v p.0) else 0)
      (λ (p : Section × Statements). if is_up_to l p.0 then greatest (session_cost g Caps i) (section_points v p.0) else 0)
      (λ p. saturated_if (is_up_to l p.0) (greatest (session_cost f Caps i) (section_points v p.0)) (greatest (session_cost g Caps i) (section_points v p.0))
      (saturated_greatest (session_cost f Caps i) (session_cost g Caps i) (saturated_session i) (section_points v p.0))) v.program.sections

  -- and any leaf
  pub saturated_needed : (all : System) (service : List ℕ) (i : Interface) (l : ℕ) →
      saturated (needed f Caps all service i l) ≡ saturated (needed g Caps all service i l)
  saturated_needed all service i l =
      saturated_greatest (λ (c : Component). if is_named service c.node.provides then leaf_needed f Caps (subject all c) i l else 0)
      (λ (c : Component). if is_named service c.node.provides then leaf_needed g Caps (subject all c) i l else 0)
      (λ c. saturated_if (is_named service c.node.provides) (leaf_needed f Caps (subject all c) i l) (leaf_needed g Caps (subject all c) i l)
      (saturated_leaf (subject all c) i l)) all.components
