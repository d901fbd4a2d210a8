-- Without a race no leaf stands at a choice, so there is one outcome.
use Rattle.std.proofs.Common.{◌≡◌, ℕ, zero, suc, ◌+◌, Bool, true, false, cond, ◌&&◌, ◌||◌, List, [], ◌∷◌, ◌++◌, length}
use Rattle.std.proofs.Common.{Option, Some, None, refl, ap, sym, ◌∙◌, arith}
use Rattle.std.specs.Prelude.{slice_get, get_or}
use Rattle.std.proofs.lemmas.Bool.{true≢false}
use Rattle.gq_model.specs.machine.Scenario.{Component, Scenario, System, system}
use Rattle.gq_model.specs.machine.World.{World}
use Rattle.gq_model.specs.rules.Use.{reaches}
use Rattle.gq_model.specs.machine.Rest.{can_run}
use Rattle.gq_races.specs.Races.{IsRaceFree, is_race, is_shared, stated_from}
use Rattle.gq_races.specs.Races.{stated_of}
use Rattle.gq_outcomes.specs.Choices.{are_some, asks_next, choices, choices_from, has_race, is_at_choice, is_one_of, is_racy}
use Rattle.gq_outcomes.specs.Choices.{is_settled, leads_to_race, races_at, racy_from, racy_servers}
use Rattle.gq_outcomes.specs.Laws.{IsOne}
use Rattle.gq_outcomes.specs.Outcomes.{Explored, Going, Outcome, Point, Search, branch, enter, explored, first_point, kept, most_turns}
use Rattle.gq_outcomes.specs.Outcomes.{outcome_of, outcomes, search_of, settled, visit, with_outcome}

-- STATEMENTS

prefix_none : {A : Type 0} (xs ys : List A) → xs ++ ys ≡ [] → xs ≡ []
prefix_none [] ys e = refl
prefix_none (x ∷ xs) ys e = absurd (cc e)

back_none : {A : Type 0} (xs ys : List A) → xs ++ ys ≡ [] → ys ≡ []
back_none [] ys e = e
back_none (x ∷ xs) ys e = absurd (cc e)

-- SERVERS

module _ (u : System) where
  leaves_none : (x k : ℕ) (cs : List Component) (c : Component) → stated_from is_race u x cs ≡ [] → slice_get cs k ≡ Some c
      → stated_of is_race (is_shared u (x + k)) c ≡ []
  leaves_none x k [] c e there = absurd (cc there)
  leaves_none x zero (d ∷ cs) c e there =
      let at : x + 0 ≡ x = omega arith in
      let first = prefix_none (stated_of is_race (is_shared u x) d) (stated_from is_race u (suc x) cs) e in
      let same : d ≡ c = cc there in
      ap (λ n. stated_of is_race (is_shared u n) c) at ∙ (ap (stated_of is_race (is_shared u x)) (sym same) ∙ first)
  leaves_none x (suc k) (d ∷ cs) c e there =
      let at : x + suc k ≡ suc x + k = omega arith in
      ap (λ n. stated_of is_race (is_shared u n) c) at
      ∙ leaves_none (suc x) k cs c (back_none (stated_of is_race (is_shared u x) d) (stated_from is_race u (suc x) cs) e) there

  module _ (free : stated_from is_race u 0 u.components ≡ []) where
    no_race : (x : ℕ) → has_race u x ≡ false
    no_race x = by (slice_get u.components x) refl
      where
        by : (o : Option Component) → slice_get u.components x ≡ o → races_at (is_shared u x) o ≡ false
        by None e = refl
        by (Some c) e =
            let at : 0 + x ≡ x = omega arith in
            let none = leaves_none 0 x u.components c free e in
            ap are_some (ap (λ n. stated_of is_race (is_shared u n) c) (sym at) ∙ none)

    none_led : (x y : ℕ) (cs : List Component) → leads_to_race u x y cs ≡ false
    none_led x y [] = refl
    none_led x y (c ∷ cs) = by (reaches (length u.components) u y x) (has_race u y) (no_race y) (none_led x (suc y) cs)
      where
        by : (a b : Bool) → b ≡ false → leads_to_race u x (suc y) cs ≡ false → (a && b || leads_to_race u x (suc y) cs) ≡ false
        by true true e f = absurd (true≢false e)
        by true false e f = f
        by false b e f = f

    not_racy : (x : ℕ) → is_racy u x ≡ false
    not_racy x = by (is_shared u x) (has_race u x) (leads_to_race u x 0 u.components) (no_race x) (none_led x 0 u.components)
      where
        by : (a b c : Bool) → b ≡ false → c ≡ false → (a && (b || c)) ≡ false
        by true true c e f = absurd (true≢false e)
        by true false c e f = f
        by false b c e f = refl

    none_from : (x y : ℕ) (cs : List Component) → get_or (racy_from u y cs) x false ≡ false
    none_from x y [] = refl
    none_from zero y (c ∷ cs) = not_racy y
    none_from (suc x) y (c ∷ cs) = none_from x (suc y) cs

    no_choice : (w : World) (x : ℕ) → is_at_choice u (racy_servers u) w x ≡ false
    no_choice w x = by (can_run u w x) (asks_next u w x (slice_get u.components x) (slice_get w.leaves x))
      where
        one : (o : Option ℕ) → is_one_of (racy_servers u) o ≡ false
        one None = refl
        one (Some y) = none_from y 0 u.components

        by : (b : Bool) (o : Option ℕ) → (b && is_one_of (racy_servers u) o) ≡ false
        by true o = one o
        by false o = refl

    none_chosen : (w : World) (x : ℕ) (cs : List Component) → choices_from u (racy_servers u) w x cs ≡ []
    none_chosen w x [] = refl
    none_chosen w x (c ∷ cs) =
        let rest = choices_from u (racy_servers u) w (suc x) cs in ap (λ b. cond b (x ∷ rest) rest) (no_choice w x) ∙ none_chosen w (suc x) cs

-- THE SEARCH

module _ (s : Scenario) (free : IsRaceFree s) where
  abbrev e : Explored
  e = explored s

  abbrev nothing : ℕ → Search
  nothing n = record { seen = []; found = []; left = n; cut = false }

  -- at a settled world with no choice there is its outcome
  entered : (go : Point → Search → Search) (p : Point) (b : Bool) (t : Search) → t.found ≡ [] → choices e.system e.racy p.world ≡ []
      → (enter b false e go p (kept p) t).cut ≡ false → length (enter b false e go p (kept p) t).found ≡ 1
  entered go p false t none calm cut = absurd (true≢false cut)
  entered go p true t none calm cut =
      let u : Search = record t { seen = kept p ∷ t.seen } in
      ap (λ xs. length (branch e go p xs u).found) calm ∙ ap (λ (f : List Outcome). length (with_outcome (outcome_of e p) f)) none

  pub one_found : (most : ℕ) → (search_of most s).cut ≡ false → length (search_of most s).found ≡ 1
  one_found most cut =
      let g : Going = settled e (record { point = first_point e.system; left = most }) in
      entered (λ q t. visit most e q t) g.point (is_settled e.system e.racy g.point.world) (nothing g.left) refl
      (none_chosen (system s) free g.point.world 0 (system s).components) cut

pub is_one : (s : Scenario) → IsOne s
unfolding outcomes
is_one s free cut = one_found s free most_turns cut
