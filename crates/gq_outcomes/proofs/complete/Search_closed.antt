-- A search that was not cut has gone on from each world that it has seen: by each choice there, to a world that it has seen.
use Rattle.std.proofs.Common.{◌≡◌, ◌⊎◌, inl, inr, ℕ, zero, suc, Bool, true, false, cond, ◌&&◌, ◌||◌, List, [], ◌∷◌, ◌++◌, refl, ap, sym, ◌∙◌, subst}
use Rattle.std.proofs.lemmas.Bool.{true≢false}
use Rattle.gq_model.specs.machine.Program.{text_eq}
use Rattle.gq_model.specs.machine.Scenario.{Scenario, System, system}
use Rattle.gq_model.proofs.Small_facts.{equal_self}
use Rattle.gq_laws.specs.Shapes.{Each}
use Rattle.gq_outcomes.specs.Choices.{choices, is_settled}
use Rattle.gq_outcomes.specs.Outcomes.{Explored, Going, Kept, Outcome, Point, Search, after_turn, arrive, branch, choose, each_choice, enter, explored}
use Rattle.gq_outcomes.specs.Outcomes.{is_found, is_seen, kept, outcome_of, same_kept, settled, unless_cut, visit, with_outcome}
use Rattle.gq_outcomes.proofs.same.Worlds.{kept_is_equal}
use Rattle.gq_outcomes.proofs.sound.Reaches.{Reaches, turn_reaches}
use Rattle.gq_outcomes.proofs.sound.Found.{rounds_reaches}

-- it is among these
abbrev pub In : Kept → List Kept → Type 0
In k [] = ⊥
In k (l ∷ ls) = (l ≡ k) ⊎ In k ls

seen_in : (k : Kept) (ls : List Kept) → is_seen k ls ≡ true → In k ls
seen_in k [] e = absurd (true≢false (sym e))
seen_in k (l ∷ ls) e = by (seen_in k ls) (same_kept l k) refl e
  where
    by : (is_seen k ls ≡ true → In k ls) → (b : Bool) → same_kept l k ≡ b → (b || is_seen k ls) ≡ true → (l ≡ k) ⊎ In k ls
    by further true is e = inl (kept_is_equal l k is)
    by further false is e = inr (further e)

text_itself : (a : List ℕ) → text_eq a a ≡ true
text_itself [] = refl
text_itself (x ∷ a) = (λ i. equal_self x i && text_itself a i)

found_last : (found : List Outcome) (o : Outcome) → is_found o.text (found ++ (o ∷ [])) ≡ true
found_last [] o = ap (λ b. b || false) (text_itself o.text)
found_last (f ∷ found) o = by (text_eq f.text o.text) (found_last found o)
  where
    by : (b : Bool) → is_found o.text (found ++ (o ∷ [])) ≡ true → (b || is_found o.text (found ++ (o ∷ []))) ≡ true
    by true e = refl
    by false e = e

found_more : (found : List Outcome) (o : Outcome) (t : List ℕ) → is_found t found ≡ true → is_found t (found ++ (o ∷ [])) ≡ true
found_more [] o t e = absurd (true≢false (sym e))
found_more (f ∷ found) o t e = by (text_eq f.text t) (found_more found o t) e
  where
    by : (b : Bool) → (is_found t found ≡ true → is_found t (found ++ (o ∷ [])) ≡ true) → (b || is_found t found) ≡ true
        → (b || is_found t (found ++ (o ∷ []))) ≡ true
    by true more e = refl
    by false more e = more e

outcome_found : (o : Outcome) (found : List Outcome) → is_found o.text (with_outcome o found) ≡ true
outcome_found o found = by (is_found o.text found) refl
  where
    by : (b : Bool) → is_found o.text found ≡ b → is_found o.text (cond b found (found ++ (o ∷ []))) ≡ true
    by true e = e
    by false e = found_last found o

outcome_keeps : (o : Outcome) (found : List Outcome) (t : List ℕ) → is_found t found ≡ true → is_found t (with_outcome o found) ≡ true
outcome_keeps o found t e = by (is_found o.text found)
  where
    by : (b : Bool) → is_found t (cond b found (found ++ (o ∷ []))) ≡ true
    by true = e
    by false = found_more found o t e

module _ (s : Scenario) where
  abbrev real : System
  real = system s

  abbrev e : Explored
  e = explored s

  -- the settled point after a choice
  abbrev pub arrived : Point → ℕ → ℕ → Point
  arrived p x n = (settled e (record { point = after_turn real x p; left = n })).point

  -- a choice of a point leads to a world that was seen
  pub record IsNext (u : Search) (p : Point) (x : ℕ) : Type 0 where
    pub left : ℕ
    pub seen : In (kept (arrived p x left)) u.seen

  -- a world that was seen is that of a settled point, from which the search has gone on
  pub record IsDone (u : Search) (k : Kept) : Type 0 where
    pub point : Point
    pub reaches : Reaches s point
    pub is : kept point ≡ k
    pub calm : is_settled real e.racy point.world ≡ true
    pub found : choices real e.racy point.world ≡ [] → is_found (outcome_of e point).text u.found ≡ true
    pub next : Each (IsNext u point) (choices real e.racy point.world)

  -- a search that goes on from another
  pub record GoesOn (u v : Search) : Type 0 where
    pub seen : (k : Kept) → In k u.seen → In k v.seen
    pub found : (t : List ℕ) → is_found t u.found ≡ true → is_found t v.found ≡ true
    pub done : (k : Kept) → In k v.seen → In k u.seen ⊎ IsDone v k

  next_more : (u v : Search) → GoesOn u v → (p : Point) (x : ℕ) → IsNext u p x → IsNext v p x
  next_more u v g p x n = record { left = n.left; seen = g.seen (kept (arrived p x n.left)) n.seen }

  each_more : (u v : Search) → GoesOn u v → (p : Point) (xs : List ℕ) → Each (IsNext u p) xs → Each (IsNext v p) xs
  each_more u v g p [] h = h
  each_more u v g p (x ∷ xs) h = (next_more u v g p x h.0, each_more u v g p xs h.1)

  done_more : (u v : Search) → GoesOn u v → (k : Kept) → IsDone u k → IsDone v k
  done_more u v g k d =
      record {
        point = d.point;
        reaches = d.reaches;
        is = d.is;
        calm = d.calm;
        found = λ none. g.found (outcome_of e d.point).text (d.found none);
        next = each_more u v g d.point (choices real e.racy d.point.world) d.next;
      }

  goes_itself : (u v : Search) → u.seen ≡ v.seen → u.found ≡ v.found → GoesOn u v
  goes_itself u v seen found =
      record {
        seen = λ k. subst (In k) seen;
        found = λ t. subst (λ f. is_found t f ≡ true) found;
        done = λ k i. inl (subst (In k) (sym seen) i);
      }

  goes_both : (u v w : Search) → GoesOn u v → GoesOn v w → GoesOn u w
  goes_both u v w g h =
      record {
        seen = λ k i. h.seen k (g.seen k i);
        found = λ t f. h.found t (g.found t f);
        done = λ k i. elim (h.done k i) [
          | inl old ↦ elim (g.done k old) [ inl older ↦ inl older | inr d ↦ inr (done_more v w h k d) ]
          | inr d ↦ inr d
        ];
      }

  -- what a part of the search comes to, if it is not cut
  pub record Comes (u v : Search) (k : Kept) : Type 0 where
    pub whole : u.cut ≡ false
    pub goes : GoesOn u v
    pub seen : In k v.seen

  module _ (go : Point → Search → Search)
      (comes : (q : Point) (u : Search) → Reaches s q → (go q u).cut ≡ false
      → Comes u (go q u) (kept (settled e (record { point = q; left = u.left })).point)) where
    record Chooses (u v : Search) (p : Point) (x : ℕ) : Type 0 where
      whole : u.cut ≡ false
      goes : GoesOn u v
      next : IsNext v p x

    choose_comes : (p : Point) (x n : ℕ) (u : Search) → Reaches s p → (choose e go p x n u).cut ≡ false → Chooses u (choose e go p x n u) p x
    choose_comes p x zero u h whole = absurd (true≢false whole)
    choose_comes p x (suc n) u h whole =
        let c = comes (after_turn real x p) (record u { left = n }) (turn_reaches s x p h) whole in
        record { whole = c.whole; goes = record { seen = c.goes.seen; found = c.goes.found; done = c.goes.done }; next = record { left = n; seen = c.seen } }

    record Each_comes (u v : Search) (p : Point) (xs : List ℕ) : Type 0 where
      whole : u.cut ≡ false
      goes : GoesOn u v
      next : Each (IsNext v p) xs

    each_comes : (p : Point) (xs : List ℕ) (u : Search) → Reaches s p → (each_choice e go p xs u).cut ≡ false → Each_comes u (each_choice e go p xs u) p xs
    each_comes p [] u h whole = record { whole = whole; goes = goes_itself u u refl refl; next = tt {0} }
    each_comes p (x ∷ xs) u h whole =
        let v = choose e go p x u.left u in
        let rest = each_comes p xs v h whole in
        let c = choose_comes p x u.left u h rest.whole in
        record {
          whole = c.whole;
          goes = goes_both u v (each_choice e go p xs v) c.goes rest.goes;
          next = (next_more v (each_choice e go p xs v) rest.goes p x c.next, rest.next);
        }

    record Branches (u v : Search) (p : Point) (xs : List ℕ) : Type 0 where
      whole : u.cut ≡ false
      goes : GoesOn u v
      found : xs ≡ [] → is_found (outcome_of e p).text v.found ≡ true
      next : Each (IsNext v p) xs

    branch_comes : (p : Point) (xs : List ℕ) (u : Search) → Reaches s p → (branch e go p xs u).cut ≡ false → Branches u (branch e go p xs u) p xs
    branch_comes p [] u h whole =
        record {
          whole = whole;
          goes = record { seen = λ k i. i; found = λ t f. outcome_keeps (outcome_of e p) u.found t f; done = λ k i. inl i };
          found = λ none. outcome_found (outcome_of e p) u.found;
          next = tt {0};
        }
    branch_comes p (x ∷ xs) u h whole =
        let c = each_comes p (x ∷ xs) u h whole in
        record { whole = c.whole; goes = c.goes; found = λ none. absurd (cc none); next = c.next }

    enter_comes : (p : Point) (b c : Bool) (u : Search) → is_settled real e.racy p.world ≡ b → is_seen (kept p) u.seen ≡ c → Reaches s p
        → (enter b c e go p (kept p) u).cut ≡ false → Comes u (enter b c e go p (kept p) u) (kept p)
    enter_comes p false c u calm seen h whole = absurd (true≢false whole)
    enter_comes p true true u calm seen h whole =
        record { whole = whole; goes = goes_itself u u refl refl; seen = seen_in (kept p) u.seen seen }
    enter_comes p true false u calm seen h whole =
        let v : Search = record u { seen = kept p ∷ u.seen } in
        let xs = choices real e.racy p.world in
        let r = branch e go p xs v in
        let c = branch_comes p xs v h whole in
        let here : IsDone r (kept p) = record { point = p; reaches = h; is = refl; calm = calm; found = c.found; next = c.next } in
        record {
          whole = c.whole;
          goes = record {
            seen = λ k i. c.goes.seen k (inr i);
            found = c.goes.found;
            done = λ k i. elim (c.goes.done k i) [
              | inl old ↦ elim old [ inl same ↦ inr (subst (IsDone r) same here) | inr older ↦ inl older ]
              | inr d ↦ inr d
            ];
          };
          seen = c.goes.seen (kept p) (inl refl);
        }

    arrive_comes : (g : Going) (u : Search) → Reaches s g.point → (arrive e go g u).cut ≡ false → Comes u (arrive e go g u) (kept g.point)
    arrive_comes g u h whole =
        let c = enter_comes g.point (is_settled real e.racy g.point.world) (is_seen (kept g.point) u.seen) (record u { left = g.left }) refl refl h whole in
        record { whole = c.whole; goes = record { seen = c.goes.seen; found = c.goes.found; done = c.goes.done }; seen = c.seen }

  abbrev pub going : Point → ℕ → Going
  going p n = settled e (record { point = p; left = n })

  abbrev on : ℕ → Point → Search → Search
  on n p v = arrive e (λ q t. visit n e q t) (going p v.left) v

  abbrev pub VisitComes : ℕ → Type 0
  VisitComes n = (q : Point) (v : Search) → Reaches s q → (visit n e q v).cut ≡ false → Comes v (visit n e q v) (kept (going q v.left).point)

  pub visit_comes : (n : ℕ) → VisitComes n
  visit_comes zero p u h whole = absurd (true≢false whole)
  visit_comes (suc n) p u h whole = by (visit_comes n) u.cut refl whole
    where
      by : VisitComes n → (b : Bool) → u.cut ≡ b → (unless_cut b (on n p) u).cut ≡ false → Comes u (unless_cut b (on n p) u) (kept (going p u.left).point)
      by more true is whole = absurd (true≢false (sym is ∙ whole))
      by more false is whole =
          arrive_comes (λ q t. visit n e q t) more (going p u.left) u (rounds_reaches s (suc u.left) (record { point = p; left = u.left }) h) whole

  -- all that a search has seen that began with nothing
  pub record IsClosed (u : Search) (k : Kept) : Type 0 where
    pub all : (l : Kept) → In l u.seen → IsDone u l
    pub first : In k u.seen

  pub visit_closed : (n m : ℕ) (p : Point) → Reaches s p → (visit n e p (record { seen = []; found = []; left = m; cut = false })).cut ≡ false
      → IsClosed (visit n e p (record { seen = []; found = []; left = m; cut = false })) (kept (settled e (record { point = p; left = m })).point)
  visit_closed n m p h whole =
      let c = visit_comes n p (record { seen = []; found = []; left = m; cut = false }) h whole in
      record { all = λ l i. elim (c.goes.done l i) [ inl none ↦ absurd none | inr d ↦ d ]; first = c.seen }
