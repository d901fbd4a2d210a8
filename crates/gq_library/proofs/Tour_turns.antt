-- Turns of all leaves, round by round.
use Rattle.std.proofs.Common.{◌≡◌, ◌∙◌, ◌+◌, ◌-◌, ◌<◌, ◌≤◌, ℕ, zero, suc, Bool, true, false, not, ◌&&◌, List, [], ◌∷◌, length, Option, Some, None}
use Rattle.std.proofs.Common.{refl, ap, sym}
use Rattle.std.proofs.Common.{arith, add-one}
use Rattle.std.specs.Prelude.{◌||◌, if◌then◌else◌, nat_eq, nat_le, nat_lt, slice_get}
use Rattle.std.proofs.lemmas.Bool.Decides.{nat_tests}
use Rattle.gq_model.proofs.Small_facts.{some_same}
use Rattle.gq_machine.specs.Events.{event_of}
use Rattle.gq_machine.specs.declared.event.Event.{Event}
use Rattle.gq_machine.specs.declared.event.Event.TheVariants as events
use Rattle.gq_model.specs.machine.Lists.{or_first}
use Rattle.gq_model.specs.machine.Rest.{runs_as}
use Rattle.gq_model.specs.machine.Scenario.{Component, System}
use Rattle.gq_model.specs.machine.World.{World}
use Rattle.gq_library.specs.internal.Turns_left.{IsSilent}
use Rattle.gq_library.specs.C_turns.{AllRest, Burst, Tour, can_take, first_able, is_last, is_over, is_spent, next_able, taken_on, tour, tour_on}

-- THE NEXT LEAF

left_is : (n m : ℕ) → n < m → m - n ≡ suc (m - (n + 1))
left_is n m less = omega (arith, less)

module _ (system : System) (w : World) (x n : ℕ) (less : x < n) where
  -- whether the next leaf can
  able_from : first_able system w x (n - x) ≡ (if can_take system w x then Some x else first_able system w (suc x) (n - (x + 1)))
  able_from = ap (first_able system w x) (left_is x n less)

  pub able_here : can_take system w x ≡ true → first_able system w x (n - x) ≡ Some x
  able_here can = able_from ∙ ap (λ (b : Bool). if b then Some x else first_able system w (suc x) (n - (x + 1))) can

  pub able_later : can_take system w x ≡ false → first_able system w x (n - x) ≡ first_able system w (x + 1) (n - (x + 1))
  able_later can =
      able_from ∙ ap (λ (b : Bool). if b then Some x else first_able system w (suc x) (n - (x + 1))) can
      ∙ ap (λ k. first_able system w k (n - (x + 1))) (sym (add-one x))

pub able_none : (system : System) (w : World) (x n : ℕ) → n ≤ x → first_able system w x (n - x) ≡ None
able_none system w x n past = let none : n - x ≡ 0 = omega (arith, past) in ap (first_able system w x) none

-- REST

no_component : (cs : List Component) (x : ℕ) → length cs ≤ x → slice_get cs x ≡ None
no_component [] x past = refl
no_component (c ∷ cs) zero past = absurd (omega (arith, past))
no_component (c ∷ cs) (suc x) past = no_component cs x (omega (arith, past))

some_not : {A : Type 0} {a : A} → ◌≡◌ {A = Option A} (Some a) None → ⊥
some_not e = cc

none_step : (b : Bool) (system : System) (w : World) (x n y : ℕ) → can_take system w x ≡ b → (if b then Some x else first_able system w (suc x) n) ≡ None
    → (first_able system w (suc x) n ≡ None → suc x ≤ y → y < suc x + n → can_take system w y ≡ false) → x ≤ y → y < x + suc n → can_take system w y ≡ false
none_step true system w x n y can e go least less = absurd (some_not e)
none_step false system w x n y can e go least less = by (nat_eq y x) refl
  where
    is : (a b : ℕ) → nat_eq a b ≡ true → a ≡ b
    is a b e = grind (arith, nat_tests, e)

    above : (a b : ℕ) → nat_eq a b ≡ false → b ≤ a → suc b ≤ a
    above a b e h = grind (arith, nat_tests, e, h)

    by : (t : Bool) → nat_eq y x ≡ t → can_take system w y ≡ false
    by true same = ap (can_take system w) (is y x same) ∙ can
    by false other = go e (above y x other least) (omega (arith, less))

-- none of these leaves can
none_able : (system : System) (w : World) (x n : ℕ) → first_able system w x n ≡ None → (y : ℕ) → x ≤ y → y < x + n → can_take system w y ≡ false
none_able system w x zero e y least less = absurd (omega (arith, least, less))
none_able system w x (suc n) e y least less =
    none_step (can_take system w x) system w x n y refl e (λ f l m. none_able system w (suc x) n f y l m) least less

second_none : (a b : Option ℕ) → or_first a b ≡ None → b ≡ None
second_none (Some x) b e = absurd (some_not e)
second_none None b e = e

-- no leaf can
pub all_rest : (system : System) (w : World) (at : ℕ) → next_able system w at ≡ None → AllRest system w
all_rest system w at e y = by (nat_lt y (length system.components)) refl
  where
    none : first_able system w 0 (length system.components) ≡ None
    none = second_none (first_able system w at (length system.components - at)) (first_able system w 0 (length system.components)) e

    below : (a b : ℕ) → nat_lt a b ≡ true → a < 0 + b
    below a b e = grind (arith, nat_tests, e)

    past : (a b : ℕ) → nat_lt a b ≡ false → b ≤ a
    past a b e = grind (arith, nat_tests, e)

    by : (t : Bool) → nat_lt y (length system.components) ≡ t → can_take system w y ≡ false
    by true less = none_able system w 0 (length system.components) none y (omega arith) (below y (length system.components) less)
    by false more = ap (λ (c : Option Component). runs_as w y c (slice_get w.leaves y) && not (is_spent w y))
        (no_component system.components y (past y (length system.components) more))

able_step : (b : Bool) (system : System) (w : World) (x n y : ℕ) → can_take system w x ≡ b → (if b then Some x else first_able system w (suc x) n) ≡ Some y
    → (first_able system w (suc x) n ≡ Some y → can_take system w y ≡ true) → can_take system w y ≡ true
able_step true system w x n y can e go = ap (can_take system w) (some_same (sym e)) ∙ can
able_step false system w x n y can e go = go e

able_can : (system : System) (w : World) (x n y : ℕ) → first_able system w x n ≡ Some y → can_take system w y ≡ true
able_can system w x zero y e = absurd (some_not (sym e))
able_can system w x (suc n) y e = able_step (can_take system w x) system w x n y refl e (λ f. able_can system w (suc x) n y f)

either_can : (system : System) (w : World) (y : ℕ) (a b : Option ℕ) → (a ≡ Some y → can_take system w y ≡ true) → (b ≡ Some y → can_take system w y ≡ true)
    → or_first a b ≡ Some y → can_take system w y ≡ true
either_can system w y (Some x) b f g e = f e
either_can system w y None b f g e = g e

-- the next leaf can
pub next_can : (system : System) (w : World) (at y : ℕ) → next_able system w at ≡ Some y → can_take system w y ≡ true
next_can system w at y e =
    either_can system w y (first_able system w at (length system.components - at)) (first_able system w 0 (length system.components))
    (able_can system w at (length system.components - at) y) (able_can system w 0 (length system.components) y) e

-- A TOUR

module _ (system : System) (k most at : ℕ) (t : Tour) where
  pub tour_none : next_able system t.burst.world at ≡ None → tour (suc k) system most at t ≡ t
  tour_none none = ap (λ o. tour_on system most t o (λ y u. tour k system most y u)) none

  module _ (x : ℕ) (b : Burst) (able : next_able system t.burst.world at ≡ Some x) (takes : taken_on system x (most - t.burst.taken) t.burst ≡ b) where
    tour_is : tour (suc k) system most at t
        ≡ (if is_over most b then record { leaf = x; burst = b } else tour k system most (suc x) (record { leaf = x; burst = b }))
    tour_is =
        ap (λ o. tour_on system most t o (λ y u. tour k system most y u)) able
        ∙ ap (λ (c : Burst). if is_over most c then record { leaf = x; burst = c } else tour k system most (suc x) (record { leaf = x; burst = c })) takes

    pub tour_over : is_over most b ≡ true → tour (suc k) system most at t ≡ record { leaf = x; burst = b }
    tour_over over =
        tour_is
        ∙ ap (λ (c : Bool). if c then record { leaf = x; burst = b } else tour k system most (suc x) (record { leaf = x; burst = b })) over

    pub tour_more : is_over most b ≡ false → tour (suc k) system most at t ≡ tour k system most (suc x) (record { leaf = x; burst = b })
    tour_more goes =
        tour_is
        ∙ ap (λ (c : Bool). if c then record { leaf = x; burst = b } else tour k system most (suc x) (record { leaf = x; burst = b })) goes

-- where all turns are taken
pub over_all : (most : ℕ) (b : Burst) → most ≤ b.taken → is_over most b ≡ true
over_all most b all = by (is_last b.event)
  where
    full : (a b : ℕ) → a ≤ b → nat_le a b ≡ true
    full a b h = grind (arith, nat_tests, h)

    by : (t : Bool) → t || nat_le most b.taken ≡ true
    by true = refl
    by false = full most b.taken all

pub over_last : (most : ℕ) (b : Burst) → is_last b.event ≡ true → is_over most b ≡ true
over_last most b last = ap (λ t. t || nat_le most b.taken) last

pub not_over : (most : ℕ) (b : Burst) → is_last b.event ≡ false → b.taken < most → is_over most b ≡ false
not_over most b last less = ap (λ t. t || nat_le most b.taken) last ∙ few most b.taken less
  where
    few : (a b : ℕ) → b < a → nat_le a b ≡ false
    few a b h = grind (arith, nat_tests, h)

-- EVENTS

pub silent_not_last : (e : Event) (text : List ℕ) → IsSilent e → is_last (event_of e text) ≡ false
silent_not_last events.Idle text h = refl
silent_not_last events.Quiet text h = refl
silent_not_last events.Line text h = absurd h
silent_not_last events.Finished text h = absurd h

pub not_last_silent : (e : Event) → is_last (event_of e []) ≡ false → IsSilent e
not_last_silent events.Idle h = tt
not_last_silent events.Quiet h = tt
not_last_silent events.Line h = cc
not_last_silent events.Finished h = cc

-- what is silent has no text
pub silent_text : (e : Event) (text : List ℕ) → IsSilent e → event_of e [] ≡ event_of e text
silent_text events.Idle text h = refl
silent_text events.Quiet text h = refl
silent_text events.Line text h = absurd h
silent_text events.Finished text h = absurd h

-- whether an event is the last does not depend on the text
pub last_same : (e : Event) (text : List ℕ) → is_last (event_of e []) ≡ is_last (event_of e text)
last_same events.Idle text = refl
last_same events.Quiet text = refl
last_same events.Line text = refl
last_same events.Finished text = refl
