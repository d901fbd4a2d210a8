-- Whether leaves can take a step.
use Rattle.std.proofs.Common.{◌≡◌, ◌∙◌, ◌<◌, ◌≤◌, ℕ, zero, suc, Bool, true, false, List, [], ◌∷◌, drop, length, Option, Some, None, IfSome}
use Rattle.std.proofs.Common.{refl, ap, sym, subst, arith}
use Rattle.std.proofs.Common.{◌+◌, add-one, is_some, option_map}
use Rattle.std.specs.Prelude.{slice_get, ◌||◌}
use Rattle.gq_model.specs.declared.phase.Phase.{Phase}
use Rattle.gq_model.specs.machine.Scenario.{Component, System}
use Rattle.gq_model.specs.machine.World.{Leaf, World}
use Rattle.gq_model.specs.machine.Rest.{can_run, runs, runs_as, some_can}

-- ONE LEAF

there_is : {A : Type 0} (xs : List A) (x : ℕ) → x < length xs → (a : A) × (slice_get xs x ≡ Some a)
there_is [] x less = absurd (omega (arith, less))
there_is (a ∷ xs) zero less = (a, refl)
there_is (a ∷ xs) (suc x) less = there_is xs x (omega (arith, less))

-- whether a leaf can run is read off its phase
pub can_by : (system : System) (w : World) (x : ℕ) (phase : Phase) → x < length system.components → length w.leaves ≡ length system.components
    → IfSome (slice_get w.leaves x) (λ l. phase ≡ l.phase) → (leaf : Leaf) × (slice_get w.leaves x ≡ Some leaf) × (can_run system w x ≡ runs w x leaf phase)
can_by system w x phase less count is =
    let c = there_is system.components x less in
    let leaf = there_is w.leaves x (omega (arith, less, count)) in
    let same : phase ≡ leaf.0.phase = subst (λ (o : Option Leaf). IfSome o (λ l. phase ≡ l.phase)) leaf.1 is in (
      leaf.0,
      leaf.1,
      ap (λ (o : Option Component). runs_as w x o (slice_get w.leaves x)) c.1 ∙ (ap (runs_as w x (Some c.0)) leaf.1 ∙ ap (runs w x leaf.0) (sym same)),
    )

pub some_map : {A B : Type 0} (f : A → B) (o : Option A) → is_some (option_map f o) ≡ is_some o
some_map f None = refl
some_map f (Some a) = refl

-- ALL LEAVES

drop_at : (cs : List Component) (x : ℕ) → x < length cs → (c : Component) × (drop x cs ≡ c ∷ drop (suc x) cs)
drop_at [] x less = absurd (omega (arith, less))
drop_at (c ∷ cs) zero less = (c, refl)
drop_at (c ∷ cs) (suc x) less = drop_at cs x (omega (arith, less))

drop_all : (cs : List Component) (x : ℕ) → length cs ≤ x → drop x cs ≡ []
drop_all [] zero past = refl
drop_all [] (suc x) past = refl
drop_all (c ∷ cs) zero past = absurd (omega (arith, past))
drop_all (c ∷ cs) (suc x) past = drop_all cs x (omega (arith, past))

-- none of the leaves before the x-th can
abbrev pub NoneBefore : System → ℕ → World → Type 0
NoneBefore system x w = some_can system w 0 system.components ≡ some_can system w x (drop x system.components)

module _ (system : System) (x : ℕ) (w : World) (less : x < length system.components) (h : NoneBefore system x w) where
  can_from : some_can system w 0 system.components ≡ can_run system w x || some_can system w (suc x) (drop (suc x) system.components)
  can_from = h ∙ ap (some_can system w x) (drop_at system.components x less).1

  pub one_can : can_run system w x ≡ true → some_can system w 0 system.components ≡ true
  one_can can = can_from ∙ ap (λ (b : Bool). b || some_can system w (suc x) (drop (suc x) system.components)) can

  pub none_on : can_run system w x ≡ false → NoneBefore system (suc x) w
  none_on can = can_from ∙ ap (λ (b : Bool). b || some_can system w (suc x) (drop (suc x) system.components)) can

pub none_end : (system : System) (x : ℕ) (w : World) → length system.components ≤ x → NoneBefore system x w → some_can system w 0 system.components ≡ false
none_end system x w past h = h ∙ ap (some_can system w x) (drop_all system.components x past)

-- the component that comes next, and the end of them
pub component_next : (cs : List Component) (x : ℕ) → x < length cs → (c : Component) × (drop x cs ≡ c ∷ drop (x + 1) cs)
component_next cs x less =
    let c = drop_at cs x less in (c.0, c.1 ∙ ap (λ n. c.0 ∷ drop n cs) (sym (add-one x)))

pub no_component : (cs : List Component) (x : ℕ) → length cs ≤ x → drop x cs ≡ []
no_component = drop_all
