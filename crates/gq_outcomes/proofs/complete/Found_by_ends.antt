-- If turns that are no choices can be taken first, a search that was not cut has found how each run to rest ends.
use Rattle.std.proofs.Common.{◌≡◌, ◌≤◌, ℕ, zero, suc, ◌+◌, ◌==◌, Bool, true, false, cond, not, ◌&&◌, List, [], ◌∷◌, length, Option, Some, None}
use Rattle.std.proofs.Common.{refl, ap, sym, ◌∙◌, subst, arith}
use Rattle.std.specs.Prelude.{slice_get}
use Rattle.std.proofs.lemmas.Bool.{true≢false}
use Rattle.gq_model.specs.declared.phase.Phase.{Phase}
use Rattle.gq_model.specs.declared.phase.Phase.TheVariants.{Pending, Running, Blocked, Serving, Handling, Exited}
use Rattle.gq_model.specs.machine.Scenario.{Component, Scenario, System, system}
use Rattle.gq_model.specs.machine.World.{Leaf, World}
use Rattle.gq_model.proofs.Small_facts.{none_some}
use Rattle.gq_laws.specs.Progress.{AllRest, rests}
use Rattle.gq_laws.specs.Shapes.{Each}
use Rattle.gq_model.specs.machine.Rest.{can_run, runs, runs_as}
use Rattle.gq_outcomes.specs.Choices.{asks_racy, can_settle, choices, choices_from, is_at_choice, is_settled, some_settle}
use Rattle.gq_outcomes.specs.Outcomes.{Explored, Going, Kept, Point, Search, after_turn, and_further, and_on, explored, first_point, is_found, kept, outcome_of}
use Rattle.gq_outcomes.specs.Outcomes.{round, rounds, search_of, settled, while_settling}
use Rattle.gq_outcomes.proofs.sound.Reaches.{Reaches, first_reaches, turn_reaches}
use Rattle.gq_outcomes.proofs.sound.Found.{no_false, none_settles, rounds_reaches}
use Rattle.gq_outcomes.proofs.complete.Search_closed.{In, IsNext, IsDone, arrived, visit_closed}

-- SETTLED WORLDS

module _ (u : System) (racy : List Bool) (w : World) where
  -- at rest no leaf can take a turn
  pub rests_still : AllRest w → (x : ℕ) → can_run u w x ≡ false
  rests_still rest x = by (slice_get u.components x) (slice_get w.leaves x) refl
    where
      of : (leaf : Leaf) (p : Phase) → rests w x leaf p ≡ true → runs w x leaf p ≡ false
      of leaf Pending e = refl
      of leaf Running e = absurd (true≢false (sym e))
      of leaf Blocked e = refl
      of leaf Serving e = no_false (runs w x leaf Serving) e
      of leaf Handling e = absurd (true≢false (sym e))
      of leaf Exited e = refl

      by : (c : Option Component) (o : Option Leaf) → slice_get w.leaves x ≡ o → runs_as w x c o ≡ false
      by (Some c) None e = refl
      by None o e = refl
      by (Some c) (Some leaf) e = of leaf leaf.phase (rest x leaf e)

  still_chooses : ((x : ℕ) → can_run u w x ≡ false) → (x : ℕ) (cs : List Component) → choices_from u racy w x cs ≡ []
  still_chooses still x [] = refl
  still_chooses still x (c ∷ cs) =
      let rest = choices_from u racy w (suc x) cs in
      ap (λ b. cond (b && asks_racy u racy w x) (x ∷ rest) rest) (still x) ∙ still_chooses still (suc x) cs

  pub rest_chooses : AllRest w → choices u racy w ≡ []
  rest_chooses rest = still_chooses (rests_still rest) 0 u.components

  -- what holds of all leaves at a choice holds of each
  each_chosen : (P : ℕ → Type 0) (x k : ℕ) (cs : List Component) (c : Component) → slice_get cs k ≡ Some c → is_at_choice u racy w (x + k) ≡ true
      → Each P (choices_from u racy w x cs) → P (x + k)
  each_chosen P x k [] c there at h = absurd (none_some there)
  each_chosen P x k (d ∷ cs) c there at h = by (λ j e f g. each_chosen P (suc x) j cs c e f g) (is_at_choice u racy w x) refl k there at h
    where
      by : ((j : ℕ) → slice_get cs j ≡ Some c → is_at_choice u racy w (suc x + j) ≡ true → Each P (choices_from u racy w (suc x) cs) → P (suc x + j))
          → (b : Bool) → is_at_choice u racy w x ≡ b → (k : ℕ) → slice_get (d ∷ cs) k ≡ Some c → is_at_choice u racy w (x + k) ≡ true
          → Each P (cond b (x ∷ choices_from u racy w (suc x) cs) (choices_from u racy w (suc x) cs)) → P (x + k)
      by more true is zero there at h = let e : x ≡ x + 0 = omega arith in subst P e h.0
      by more false is zero there at h = let e : x + 0 ≡ x = omega arith in absurd (true≢false (sym at ∙ (ap (is_at_choice u racy w) e ∙ is)))
      by more true is (suc k) there at h =
          let e : suc x + k ≡ x + suc k = omega arith in subst P e (more k there (ap (is_at_choice u racy w) e ∙ at) h.1)
      by more false is (suc k) there at h =
          let e : suc x + k ≡ x + suc k = omega arith in subst P e (more k there (ap (is_at_choice u racy w) e ∙ at) h)

  chooses : (a b : Bool) → (a && not b) ≡ false → a ≡ true → (a && b) ≡ true
  chooses true true e f = refl
  chooses true false e f = absurd (true≢false e)
  chooses false b e f = absurd (true≢false (sym f))

  pub each_at : (P : ℕ → Type 0) → is_settled u racy w ≡ true → (x : ℕ) → can_run u w x ≡ true → Each P (choices u racy w) → P x
  each_at P calm x can h = by (slice_get u.components x) refl
    where
      by : (o : Option Component) → slice_get u.components x ≡ o → P x
      by None e = absurd (true≢false (sym can ∙ ap (λ o. runs_as w x o (slice_get w.leaves x)) e))
      by (Some c) e =
          let at : 0 + x ≡ x = omega arith in
          let one = none_settles u racy w 0 x u.components c (no_false (some_settle u racy w 0 u.components) calm) e in
          let is = chooses (can_run u w x) (asks_racy u racy w x) (ap (can_settle u racy w) (sym at) ∙ one) can in
          subst P at (each_chosen P 0 x u.components c e (ap (is_at_choice u racy w) at ∙ is) h)

-- RUNS FROM A POINT

module _ (s : Scenario) where
  abbrev real : System
  real = system s

  abbrev e : Explored
  e = explored s

  -- these leaves, each of which can take its turn then, come to rest with this outcome
  abbrev pub Ends : Point → List ℕ → List ℕ → Type 0
  Ends p [] t = AllRest p.world × ((outcome_of e p).text ≡ t)
  Ends p (x ∷ xs) t = (can_run real p.world x ≡ true) × Ends (after_turn real x p) xs t

  -- some do, in at most n turns
  pub record EndsWithin (n : ℕ) (t : List ℕ) (p : Point) : Type 0 where
    pub turns : List ℕ
    pub few : length turns ≤ n
    pub ends : Ends p turns t

  -- a turn that is no choice may be taken first, and worlds of which the same is kept have the same outcomes
  pub record Exchanges : Type 0 where
    pub settles : (n : ℕ) (t : List ℕ) (p : Point) (x : ℕ) → Reaches s p → can_settle real e.racy p.world x ≡ true → EndsWithin n t p
        → EndsWithin n t (after_turn real x p)
    pub same : (n : ℕ) (t : List ℕ) (p q : Point) → Reaches s p → Reaches s q → kept p ≡ kept q → EndsWithin n t p → EndsWithin n t q

  module _ (h : Exchanges) (n : ℕ) (t : List ℕ) where
    -- SETTLING

    record Holds (p : Point) : Type 0 where
      reaches : Reaches s p
      ends : EndsWithin n t p

    while_holds : (k x : ℕ) (p : Point) → Holds p → Holds (while_settling k e x p).point
    while_holds zero x p g = g
    while_holds (suc k) x p g = by (λ q f. while_holds k x q f) (can_settle real e.racy p.world x) refl
      where
        by : ((q : Point) → Holds q → Holds (while_settling k e x q).point) → (b : Bool) → can_settle real e.racy p.world x ≡ b
            → Holds (and_on b (record { point = p; left = suc k }) (λ q. while_settling k e x q) (after_turn real x p)).point
        by more true is =
            more (after_turn real x p) (record { reaches = turn_reaches s x p g.reaches; ends = h.settles n t p x g.reaches is g.ends })
        by more false is = g

    round_holds : (x : ℕ) (cs : List Component) (g : Going) → Holds g.point → Holds (round e x cs g).point
    round_holds x [] g f = f
    round_holds x (c ∷ cs) g f = round_holds (suc x) cs (while_settling g.left e x g.point) (while_holds g.left x g.point f)

    rounds_holds : (k : ℕ) (g : Going) → Holds g.point → Holds (rounds k e g).point
    rounds_holds zero g f = f
    rounds_holds (suc k) g f = by (λ g f. rounds_holds k g f) ((round e 0 real.components g).left == g.left)
      where
        by : ((g : Going) → Holds g.point → Holds (rounds k e g).point) → (b : Bool)
            → Holds (and_further b (λ g. rounds k e g) (round e 0 real.components g)).point
        by more true = round_holds 0 real.components g f
        by more false = more (round e 0 real.components g) (round_holds 0 real.components g f)

    pub settled_ends : (p : Point) (left : ℕ) → Reaches s p → EndsWithin n t p → EndsWithin n t (settled e (record { point = p; left = left })).point
    settled_ends p left r g = (rounds_holds (suc left) (record { point = p; left = left }) (record { reaches = r; ends = g })).ends

  -- WHAT IS FOUND

  module _ (h : Exchanges) (u : Search) (all : (k : Kept) → In k u.seen → IsDone s u k) (t : List ℕ) where
    abbrev FoundWithin : ℕ → Type 0
    FoundWithin n = (p : Point) → Reaches s p → In (kept p) u.seen → EndsWithin n t p → is_found t u.found ≡ true

    -- from a point from which the search has gone on
    module _ (n : ℕ) (k : Kept) (d : IsDone s u k) where
      at_rest : Ends d.point [] t → is_found t u.found ≡ true
      at_rest r = subst (λ t. is_found t u.found ≡ true) r.1 (d.found (rest_chooses real e.racy d.point.world r.0))

      further : FoundWithin n → (x : ℕ) (xs : List ℕ) → length xs ≤ n → Ends d.point (x ∷ xs) t → is_found t u.found ≡ true
      further more x xs few r =
          let next = each_at real e.racy d.point.world (IsNext s u d.point) d.calm x r.0 d.next in
          let q = after_turn real x d.point in
          let reaches = turn_reaches s x d.point d.reaches in
          more (arrived s d.point x next.left) (rounds_reaches s (suc next.left) (record { point = q; left = next.left }) reaches) next.seen
          (settled_ends h n t q next.left reaches (record { turns = xs; few = few; ends = r.1 }))

    by_turns : (n : ℕ) → ((m : ℕ) → n ≡ suc m → FoundWithin m) → (k : Kept) (d : IsDone s u k) (xs : List ℕ) → length xs ≤ n → Ends d.point xs t
        → is_found t u.found ≡ true
    by_turns n less k d [] few r = at_rest n k d r
    by_turns zero less k d (x ∷ xs) few r = absurd (omega (arith, few))
    by_turns (suc n) less k d (x ∷ xs) few r = further n k d (less n refl) x xs (omega (arith, few)) r

    from_done : (n : ℕ) → ((m : ℕ) → n ≡ suc m → FoundWithin m) → FoundWithin n
    from_done n less p reaches seen ends =
        let d = all (kept p) seen in
        let there = h.same n t p d.point reaches d.reaches (sym d.is) ends in
        by_turns n less (kept p) d there.turns there.few there.ends

    found_within : (n : ℕ) → FoundWithin n
    found_within zero = from_done zero (λ m e. absurd (omega (arith, e)))
    found_within (suc n) = from_done (suc n) (λ m e. subst FoundWithin (pred n m e) (found_within n))
      where
        pred : (n m : ℕ) → suc n ≡ suc m → n ≡ m
        pred n m e = omega (arith, e)

  -- a search that was not cut has found what each run to rest from the start ends with
  pub all_found : Exchanges → (most : ℕ) → (search_of most s).cut ≡ false → (n : ℕ) (t : List ℕ) → EndsWithin n t (first_point real)
      → is_found t (search_of most s).found ≡ true
  all_found h most whole n t ends =
      let p = first_point real in
      let c = visit_closed s (suc most) most p (first_reaches s) whole in
      found_within h (search_of most s) c.all t n (settled e (record { point = p; left = most })).point
      (rounds_reaches s (suc most) (record { point = p; left = most }) (first_reaches s)) c.first (settled_ends h n t p most (first_reaches s) ends)
