-- Runs of a machine from two starts, whose steps are each taken for one thread: where threads have the same at the starts, and what a thread has depends on its
-- own steps and on threads that take none, each has the same once it can go on in neither run, and has shown the same.
use Rattle.std.proofs.Common.{◌≡◌, ◌≢◌, ◌<◌, inl, inr, ℕ, suc, ◌+◌, Bool, true, false, cond, List, [], ◌∷◌, ◌++◌}
use Rattle.std.proofs.Common.{Option, Some, None, refl, ap, sym, ◌∙◌, subst, arith}
use Rattle.std.proofs.lemmas.Bool.Decides.{eqb_tells}
use Rattle.std.proofs.lemmas.List.{append-nil}
use Rattle.gq_determined.specs.internal.Thread_machines.{is_for}
use Rattle.gq_determined.specs.internal.Thread_machines as machine

pub is_for_some : (i : ℕ) (o : Option ℕ) → is_for i o ≡ true → o ≡ Some i
is_for_some i None e = absurd cc
is_for_some i (Some j) e = elim (eqb_tells j i) [ inl t ↦ ap Some t.1 | inr t ↦ absurd (cc (e, t.0)) ]

pub is_for_not : (i : ℕ) (o : Option ℕ) → o ≢ Some i → is_for i o ≡ false
is_for_not i None ne = refl
is_for_not i (Some j) ne = elim (eqb_tells j i) [ inl t ↦ absurd (ne (ap Some t.1)) | inr t ↦ t.0 ]

module _ (W : Type 0) (E : Type 0) (step : W → ℕ → W) (who : W → ℕ → Option ℕ) (shows : W → ℕ → List E) where
  -- RUNS FROM ONE START

  module _ (first : W) where
    abbrev pub after : List ℕ → W
    after = machine.after W E first step who shows

    abbrev pub taken : ℕ → List ℕ → ℕ
    taken = machine.taken W E first step who shows

    abbrev pub shown : ℕ → List ℕ → List E
    shown = machine.shown W E first step who shows

    -- a turn for another thread is not counted
    taken_else : (i : ℕ) (past : List ℕ) (x : ℕ) → is_for i (who (after past) x) ≡ false → taken i (x ∷ past) ≡ taken i past
    taken_else i past x e = ap (λ b. cond b 1 0 + taken i past) e ∙ omega arith

    taken_own : (i : ℕ) (past : List ℕ) (x : ℕ) → is_for i (who (after past) x) ≡ true → taken i (x ∷ past) ≡ suc (taken i past)
    taken_own i past x e = ap (λ b. cond b 1 0 + taken i past) e ∙ omega arith

    pub shown_else : (i : ℕ) (past : List ℕ) (x : ℕ) → is_for i (who (after past) x) ≡ false → shown i (x ∷ past) ≡ shown i past
    shown_else i past x e = ap (λ b. shown i past ++ cond b (shows (after past) x) []) e ∙ append-nil (shown i past)

    pub shown_own : (i : ℕ) (past : List ℕ) (x : ℕ) → is_for i (who (after past) x) ≡ true → shown i (x ∷ past) ≡ shown i past ++ shows (after past) x
    shown_own i past x e = ap (λ b. shown i past ++ cond b (shows (after past) x) []) e

    -- a turn of a thread, after some of these turns
    record Turn (i n : ℕ) : Type 0 where
      before : List ℕ
      x : ℕ
      count : taken i before ≡ n
      own : who (after before) x ≡ Some i

    -- each step of a thread is the n-th for some n
    nth : (i n : ℕ) (past : List ℕ) → n < taken i past → Turn i n
    nth i n [] h = absurd (omega (arith, h))
    nth i n (x ∷ past) h = by (nth i n past) (is_for i (who (after past) x)) refl
      where
        by : (n < taken i past → Turn i n) → (b : Bool) → is_for i (who (after past) x) ≡ b → Turn i n
        by old false e = old (subst (λ m. n < m) (taken_else i past x e) h)
        by old true e = elim (eqb_tells n (taken i past)) [
          | inl t ↦ record { before = past; x = x; count = sym t.1; own = is_for_some i (who (after past) x) e }
          | inr t ↦ old (omega (arith, subst (λ m. n < m) (taken_own i past x e) h, t.1))
        ]

  -- RUNS FROM TWO STARTS

  -- two starts; a thread has the same in two worlds; it is one that is told of; it takes no step from either start
  module _ (one other : W) (Same : ℕ → W → W → Type 0) (Told Rests : ℕ → Type 0) where
    pub record AreTwo : Type 0 where
      -- at the starts
      pub begins : (i : ℕ) → Told i → Same i one other
      -- a turn for another thread, in either run
      pub left : (i : ℕ) (a b : List ℕ) (x : ℕ) → Told i → is_for i (who (after one a) x) ≡ false → Same i (after one a) (after other b)
          → Same i (after one (x ∷ a)) (after other b)
      pub right : (i : ℕ) (a b : List ℕ) (x : ℕ) → Told i → is_for i (who (after other b) x) ≡ false → Same i (after one a) (after other b)
          → Same i (after one a) (after other (x ∷ b))
      -- a turn for this thread in both, where threads that take no step have the same
      pub own : (i : ℕ) (a b : List ℕ) (x y : ℕ) → Told i → who (after one a) x ≡ Some i → who (after other b) y ≡ Some i
          → Same i (after one a) (after other b) → ((j : ℕ) → Rests j → Same j (after one a) (after other b))
          → Same i (after one (x ∷ a)) (after other (y ∷ b)) × (shows (after one a) x ≡ shows (after other b) y)
      pub told : (i : ℕ) → Rests i → Told i
      pub rests_one : (i : ℕ) (a : List ℕ) (x : ℕ) → Rests i → who (after one a) x ≢ Some i
      pub rests_other : (i : ℕ) (b : List ℕ) (x : ℕ) → Rests i → who (after other b) x ≢ Some i

    module _ (t : AreTwo) where
      -- what takes no step has the same
      rest_same : (j : ℕ) → Rests j → (a b : List ℕ) → Same j (after one a) (after other b)
      rest_same j r [] [] = t.begins j (t.told j r)
      rest_same j r [] (y ∷ b) =
          t.right j [] b y (t.told j r) (is_for_not j (who (after other b) y) (t.rests_other j b y r)) (rest_same j r [] b)
      rest_same j r (x ∷ a) b = t.left j a b x (t.told j r) (is_for_not j (who (after one a) x) (t.rests_one j a x r)) (rest_same j r a b)

      abbrev pub Agrees : ℕ → List ℕ → List ℕ → Type 0
      Agrees i a b = Same i (after one a) (after other b) × (shown one i a ≡ shown other i b)

      module _ (i : ℕ) (is_told : Told i) where
        agree_left : (a b : List ℕ) (x : ℕ) → is_for i (who (after one a) x) ≡ false → Agrees i a b → Agrees i (x ∷ a) b
        agree_left a b x g old = (t.left i a b x is_told g old.0, shown_else one i a x g ∙ old.1)

        agree_right : (a b : List ℕ) (y : ℕ) → is_for i (who (after other b) y) ≡ false → Agrees i a b → Agrees i a (y ∷ b)
        agree_right a b y g old = (t.right i a b y is_told g old.0, old.1 ∙ sym (shown_else other i b y g))

        agree_own : (a b : List ℕ) (x y : ℕ) → is_for i (who (after one a) x) ≡ true → is_for i (who (after other b) y) ≡ true → Agrees i a b
            → Agrees i (x ∷ a) (y ∷ b)
        agree_own a b x y g k old =
            let new = t.own i a b x y is_told (is_for_some i (who (after one a) x) g) (is_for_some i (who (after other b) y) k) old.0
            (λ j r. rest_same j r a b) in (
              new.0,
              shown_own one i a x g ∙ (ap (λ l. l ++ shows (after one a) x) old.1 ∙ (ap (λ l. shown other i b ++ l) new.1 ∙ sym (shown_own other i b y k))),
            )

        agree_none : (b : List ℕ) → 0 ≡ taken other i b → Agrees i [] b
        agree_none [] e = (t.begins i is_told, refl)
        agree_none (y ∷ b) e = by (is_for i (who (after other b) y)) refl (agree_none b)
          where
            by : (c : Bool) → is_for i (who (after other b) y) ≡ c → (0 ≡ taken other i b → Agrees i [] b) → Agrees i [] (y ∷ b)
            by false g h = agree_right [] b y g (h (e ∙ taken_else other i b y g))
            by true g h = absurd (omega (arith, e, taken_own other i b y g))

        -- one turn more for the thread, where it has the same after as many before
        agree_more : (a : List ℕ) (x : ℕ) → is_for i (who (after one a) x) ≡ true → ((b : List ℕ) → taken one i a ≡ taken other i b → Agrees i a b)
            → (b : List ℕ) → taken one i (x ∷ a) ≡ taken other i b → Agrees i (x ∷ a) b
        agree_more a x g h [] e = absurd (omega (arith, e, taken_own one i a x g))
        agree_more a x g h (y ∷ b) e = by (is_for i (who (after other b) y)) refl (agree_more a x g h b)
          where
            by : (c : Bool) → is_for i (who (after other b) y) ≡ c → (taken one i (x ∷ a) ≡ taken other i b → Agrees i (x ∷ a) b) → Agrees i (x ∷ a) (y ∷ b)
            by false k less = agree_right (x ∷ a) b y k (less (e ∙ taken_else other i b y k))
            by true k less = agree_own a b x y g k (h b (omega (arith, e, taken_own one i a x g, taken_own other i b y k)))

        -- after as many steps of a thread in both runs
        pub agree : (a b : List ℕ) → taken one i a ≡ taken other i b → Agrees i a b
        agree [] b e = agree_none b e
        agree (x ∷ a) b e = by (is_for i (who (after one a) x)) refl (λ b. agree a b) b e
          where
            by : (c : Bool) → is_for i (who (after one a) x) ≡ c → ((b : List ℕ) → taken one i a ≡ taken other i b → Agrees i a b)
                → (b : List ℕ) → taken one i (x ∷ a) ≡ taken other i b → Agrees i (x ∷ a) b
            by false g h b e = agree_left a b x g (h b (sym (taken_else one i a x g) ∙ e))
            by true g h b e = agree_more a x g h b e

        -- where it can go on in neither run, though it could if it had the same where it goes on
        pub settled_agree : (a b : List ℕ)
            → ((c : List ℕ) (y : ℕ) → who (after other c) y ≡ Some i → Same i (after one a) (after other c) → ⊥)
            → ((c : List ℕ) (x : ℕ) → who (after one c) x ≡ Some i → Same i (after one c) (after other b) → ⊥) → Agrees i a b
        settled_agree a b no_one no_other = agree a b (omega (arith, less, more))
          where
            less : taken one i a < taken other i b → ⊥
            less l = let turn = nth other i (taken one i a) b l in no_one turn.before turn.x turn.own (agree a turn.before (sym turn.count)).0

            more : taken other i b < taken one i a → ⊥
            more l = let turn = nth one i (taken other i b) a l in no_other turn.before turn.x turn.own (agree turn.before b turn.count).0
