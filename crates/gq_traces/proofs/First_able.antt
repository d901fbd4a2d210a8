-- The first leaf that can take a turn, from a leaf on.
use Rattle.std.proofs.Common.{◌≡◌, ◌∙◌, ℕ, zero, suc, ◌+◌, ◌<◌, ◌≤◌, Bool, true, false, List, [], ◌∷◌, drop, length, Option, Some, None, IfSome, inl}
use Rattle.std.proofs.Common.{inr, refl, ap, sym}
use Rattle.std.proofs.Common.{subst, arith}
use Rattle.std.proofs.lemmas.Bool.Decides.{leb_tells}
use Rattle.std.specs.Prelude.{if◌then◌else◌}
use Rattle.gq_model.specs.machine.Rest.{can_run}
use Rattle.gq_model.specs.machine.Scenario.{Component, System}
use Rattle.gq_model.specs.machine.World.{World}
use Rattle.gq_model.proofs.Small_facts.{none_some, some_same}
use Rattle.gq_traces.specs.internal.Next_able.{first_able, first_from}

module _ (system : System) (w : World) where
  -- where it is the next one
  here_of : (x : ℕ) (c : Component) (rest : List Component) → can_run system w x ≡ true → first_from system w x (c ∷ rest) ≡ Some x
  here_of x c rest can = ap (λ (b : Bool). if b then Some x else first_from system w (suc x) rest) can

  whole : {A : Type 0} (all : List A) → drop 0 all ≡ all
  whole [] = refl
  whole (a ∷ all) = refl

  split : {A : Type 0} (all : List A) (n : ℕ) → n < length all → (c : A) × (drop n all ≡ c ∷ drop (suc n) all)
  split [] n less = absurd (omega (arith, less))
  split (a ∷ all) zero less = (a, ap (λ l. a ∷ l) (sym (whole all)))
  split (a ∷ all) (suc n) less = split all n (omega (arith, less))

  pub able_here : (cs : List Component) (n : ℕ) → n < length cs → can_run system w n ≡ true → first_able system w n cs ≡ Some n
  able_here cs n less can = let c = split cs n less in ap (first_from system w n) c.1 ∙ here_of n c.0 (drop (suc n) cs) can

  -- and where it is not
  over : {A : Type 0} (all : List A) (n : ℕ) → length all ≤ n → drop n all ≡ []
  over [] zero few = refl
  over [] (suc n) few = refl
  over (a ∷ all) zero few = absurd (omega (arith, few))
  over (a ∷ all) (suc n) few = over all n (omega (arith, few))

  pub able_none : (cs : List Component) (n : ℕ) → length cs ≤ n → first_able system w n cs ≡ None
  able_none cs n few = ap (first_from system w n) (over cs n few)

  later_of : (x : ℕ) (all rest : List Component) → can_run system w x ≡ false → drop x all ≡ rest
      → first_from system w x rest ≡ first_from system w (suc x) (drop (suc x) all)
  later_of x all [] can is = sym (ap (first_from system w (suc x)) (empty x all is))
    where
      empty : {A : Type 0} (x : ℕ) (all : List A) → drop x all ≡ [] → drop (suc x) all ≡ []
      empty zero [] e = refl
      empty zero (a ∷ all) e = absurd cc
      empty (suc x) [] e = refl
      empty (suc x) (a ∷ all) e = empty x all e
  later_of x all (c ∷ rest) can is =
      ap (λ (b : Bool). if b then Some x else first_from system w (suc x) rest) can ∙ sym (ap (first_from system w (suc x)) (one x all is))
    where
      one : (x : ℕ) (all : List Component) → drop x all ≡ c ∷ rest → drop (suc x) all ≡ rest
      one zero [] e = absurd cc
      one zero (a ∷ all) e = ap (drop 1) e ∙ whole rest
      one (suc x) [] e = absurd cc
      one (suc x) (a ∷ all) e = one x all e

  pub able_later : (cs : List Component) (n : ℕ) → can_run system w n ≡ false → first_able system w n cs ≡ first_able system w (suc n) cs
  able_later cs n can = later_of n cs (drop n cs) can refl

  -- it is one of them, and can
  within : (x y : ℕ) (cs : List Component) → first_from system w x cs ≡ Some y → (y < x + length cs) × (can_run system w y ≡ true)
  within x y [] e = absurd (none_some e)
  within x y (c ∷ rest) e = by (can_run system w x) refl (λ f. within (suc x) y rest f) e
    where
      by : (b : Bool) → can_run system w x ≡ b
          → (first_from system w (suc x) rest ≡ Some y → (y < suc x + length rest) × (can_run system w y ≡ true))
          → (if b then Some x else first_from system w (suc x) rest) ≡ Some y → (y < x + suc (length rest)) × (can_run system w y ≡ true)
      by true can later f =
          let same = some_same f in (omega (arith, same), subst (λ z. can_run system w z ≡ true) same can)
      by false can later f = let more = later f in let less = more.0 in (omega (arith, less), more.1)

  few_left : {A : Type 0} (all : List A) (n : ℕ) → length all ≤ n → length (drop n all) ≡ 0
  few_left all n few = ap length (over all n few)

  at_most : {A : Type 0} (n m : ℕ) (all : List A) → length (drop n all) ≡ suc m → n ≤ length all
  at_most n m all e = elim (leb_tells n (length all)) [
    | inl t ↦ t.1
    | inr t ↦ (
        let less = t.1 in
        let none = few_left all n (omega (arith, less)) in
        absurd (omega (arith, e, none)))
  ]

  left : {A : Type 0} (all : List A) (n : ℕ) → n ≤ length all → n + length (drop n all) ≡ length all
  left [] zero few = refl
  left [] (suc n) few = absurd (omega (arith, few))
  left (a ∷ all) zero few = omega arith
  left (a ∷ all) (suc n) few = let more = left all n (omega (arith, few)) in omega (arith, more)

  pub able_within : (n y : ℕ) → first_able system w n system.components ≡ Some y → (y < length system.components) × (can_run system w y ≡ true)
  able_within n y e = by (drop n system.components) refl e
    where
      by : (cs : List Component) → drop n system.components ≡ cs → first_from system w n cs ≡ Some y
          → (y < length system.components) × (can_run system w y ≡ true)
      by [] is f = absurd (none_some f)
      by (c ∷ rest) is f = (
        (let at = within n y (c ∷ rest) f in
            let less = at.0 in
            let few = at_most n (length rest) system.components (ap length is) in
            let all = left system.components n few in
            let long = ap length is in
            omega (arith, less, all, long)),
        (within n y (c ∷ rest) f).1,
      )

  pub able_if : (n : ℕ) (o : Option ℕ) → o ≡ first_able system w n system.components
      → IfSome o (λ y. y < length system.components) × IfSome o (λ y. can_run system w y ≡ true)
  able_if n None e = (tt, tt)
  able_if n (Some y) e = able_within n y (sym e)
