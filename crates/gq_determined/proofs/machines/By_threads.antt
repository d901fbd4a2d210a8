-- Runs of a machine whose steps are each taken for one thread: where what a thread has and shows depends on nothing but its own steps, so does all.
use Rattle.std.proofs.Common.{◌≡◌, ◌≢◌, ◌<◌, ◌≤◌, ◌⊎◌, inl, inr, ℕ, zero, suc, ◌+◌, Bool, true, false, cond, List, [], ◌∷◌, ◌++◌, length}
use Rattle.std.proofs.Common.{Option, Some, None, refl, ap, sym, ◌∙◌, subst, arith}
use Rattle.std.proofs.lemmas.Bool.Decides.{eqb_tells}
use Rattle.std.proofs.lemmas.List.{append_assoc, append-nil}
use Rattle.gq_determined.specs.internal.Thread_machines.{is_for}
use Rattle.gq_determined.specs.internal.Thread_machines as machine

is_for_some : (i : ℕ) (o : Option ℕ) → is_for i o ≡ true → o ≡ Some i
is_for_some i None e = absurd cc
is_for_some i (Some j) e = elim (eqb_tells j i) [ inl t ↦ ap Some t.1 | inr t ↦ absurd (cc (e, t.0)) ]

-- what a machine is: where it starts, its turns, the thread that a turn is for (none, where it changes nothing), and what it shows
module _ (W : Type 0) (E : Type 0) (first : W) (step : W → ℕ → W) (who : W → ℕ → Option ℕ) (shows : W → ℕ → List E) where
  abbrev pub after : List ℕ → W
  after = machine.after W E first step who shows

  abbrev pub taken : ℕ → List ℕ → ℕ
  taken = machine.taken W E first step who shows

  abbrev pub shown : ℕ → List ℕ → List E
  shown = machine.shown W E first step who shows

  -- a turn for another thread is not counted
  taken_else : (i : ℕ) (past : List ℕ) (x : ℕ) → is_for i (who (after past) x) ≡ false → taken i (x ∷ past) ≡ taken i past
  taken_else i past x e = ap (λ b. cond b 1 0 + taken i past) e ∙ omega arith

  taken_own : (i : ℕ) (past : List ℕ) (x : ℕ) → is_for i (who (after past) x) ≡ true → taken i (x ∷ past) ≡ suc (taken i past)
  taken_own i past x e = ap (λ b. cond b 1 0 + taken i past) e ∙ omega arith

  shown_else : (i : ℕ) (past : List ℕ) (x : ℕ) → is_for i (who (after past) x) ≡ false → shown i (x ∷ past) ≡ shown i past
  shown_else i past x e = ap (λ b. shown i past ++ cond b (shows (after past) x) []) e ∙ append-nil (shown i past)

  shown_own : (i : ℕ) (past : List ℕ) (x : ℕ) → is_for i (who (after past) x) ≡ true → shown i (x ∷ past) ≡ shown i past ++ shows (after past) x
  shown_own i past x e = ap (λ b. shown i past ++ cond b (shows (after past) x) []) e

  -- a turn of a thread, after some of these turns
  record Turn (i n : ℕ) (past : List ℕ) : Type 0 where
    before : List ℕ
    x : ℕ
    shorter : length before < length past
    count : taken i before ≡ n
    own : who (after before) x ≡ Some i
    more : List E
    prefix : shown i past ≡ shown i before ++ more
    later : List ℕ
    is : past ≡ later ++ before

  -- each step of a thread is the n-th for some n
  nth : (i n : ℕ) (past : List ℕ) → n < taken i past → Turn i n past
  nth i n [] h = absurd (omega (arith, h))
  nth i n (x ∷ past) h = by (nth i n past) (is_for i (who (after past) x)) refl
    where
      further : Turn i n past → (more : List E) → shown i (x ∷ past) ≡ shown i past ++ more → Turn i n (x ∷ past)
      further t more e =
          record {
            before = t.before;
            x = t.x;
            shorter = omega (arith, t.shorter);
            count = t.count;
            own = t.own;
            more = t.more ++ more;
            prefix = e ∙ (ap (λ l. l ++ more) t.prefix ∙ append_assoc (shown i t.before) t.more more);
            later = x ∷ t.later;
            is = ap (λ l. x ∷ l) t.is;
          }

      by : (n < taken i past → Turn i n past) → (b : Bool) → is_for i (who (after past) x) ≡ b → Turn i n (x ∷ past)
      by old false e = further (old (subst (λ m. n < m) (taken_else i past x e) h)) [] (shown_else i past x e ∙ sym (append-nil (shown i past)))
      by old true e = elim (eqb_tells n (taken i past)) [
        | inl t ↦ record {
          before = past;
          x = x;
          shorter = omega arith;
          count = sym t.1;
          own = is_for_some i (who (after past) x) e;
          more = shows (after past) x;
          prefix = shown_own i past x e;
          later = x ∷ [];
          is = refl;
        }
        | inr t ↦
            let g : n < taken i past = omega (arith, subst (λ m. n < m) (taken_own i past x e) h, t.1) in
            further (old g) (shows (after past) x) (shown_own i past x e)
      ]

  -- WHERE THREADS DEPEND ON THEMSELVES ALONE

  -- a thread has the same in two worlds; it has ended in a world
  module _ (Same : ℕ → W → W → Type 0) (Ended : ℕ → W → Type 0) where
    -- threads that have ended in both worlds have the same there
    abbrev pub SameEnds : W → W → Type 0
    SameEnds w v = (j : ℕ) → Ended j w → Ended j v → Same j w v

    pub record AreThreads : Type 0 where
      -- at the start
      pub begins : (i : ℕ) → Same i first first
      -- a turn for another thread, in either run
      pub left : (i : ℕ) (a b : List ℕ) (x : ℕ) → is_for i (who (after a) x) ≡ false → Same i (after a) (after b) → Same i (after (x ∷ a)) (after b)
      pub right : (i : ℕ) (a b : List ℕ) (x : ℕ) → is_for i (who (after b) x) ≡ false → Same i (after a) (after b) → Same i (after a) (after (x ∷ b))
      -- a turn for this thread in both, which finds in what others have left what those had at their ends
      pub own : (i : ℕ) (a b : List ℕ) (x y : ℕ) → who (after a) x ≡ Some i → who (after b) y ≡ Some i → Same i (after a) (after b)
          → SameEnds (after a) (after b) → Same i (after (x ∷ a)) (after (y ∷ b)) × (shows (after a) x ≡ shows (after b) y)
      -- a thread that has ended takes no step, and has ended in each world in which it has the same
      pub stops : (i : ℕ) (a : List ℕ) (x : ℕ) → Ended i (after a) → who (after a) x ≢ Some i
      pub ends : (i : ℕ) (a b : List ℕ) → Same i (after a) (after b) → Ended i (after a) → Ended i (after b)
      pub ended : (i : ℕ) (a b : List ℕ) → Same i (after a) (after b) → Ended i (after b) → Ended i (after a)

    module _ (t : AreThreads) where
      -- the same, and the same was shown
      abbrev Agrees : ℕ → List ℕ → List ℕ → Type 0
      Agrees i a b = Same i (after a) (after b) × (shown i a ≡ shown i b)

      -- so it is after the same number of steps of a thread, in runs that are together no longer than n turns
      abbrev AgreeWithin : ℕ → Type 0
      AgreeWithin n = (i : ℕ) (a b : List ℕ) → length a + length b ≤ n → taken i a ≡ taken i b → Agrees i a b

      -- a thread that has ended in both has taken the same number of steps
      more_steps : (n : ℕ) → AgreeWithin n → (i : ℕ) (a b : List ℕ) → length a + length b ≤ n → Ended i (after a) → taken i a < taken i b → ⊥
      more_steps n h i a b within end less =
          let turn = nth i (taken i a) b less in
          let same = h i a turn.before (omega (arith, within, turn.shorter)) (sym turn.count) in
          t.stops i turn.before turn.x (t.ends i a turn.before same.0 end) turn.own

      fewer_steps : (n : ℕ) → AgreeWithin n → (i : ℕ) (a b : List ℕ) → length a + length b ≤ n → Ended i (after b) → taken i b < taken i a → ⊥
      fewer_steps n h i a b within end less =
          let turn = nth i (taken i b) a less in
          let same = h i turn.before b (omega (arith, within, turn.shorter)) turn.count in
          t.stops i turn.before turn.x (t.ended i turn.before b same.0 end) turn.own

      as_many : (n : ℕ) → AgreeWithin n → (i : ℕ) (a b : List ℕ) → length a + length b ≤ n → Ended i (after a) → Ended i (after b)
          → taken i a ≡ taken i b
      as_many n h i a b within end end_b =
          let less : (taken i a < taken i b) → ⊥ = more_steps n h i a b within end in
          let more : (taken i b < taken i a) → ⊥ = fewer_steps n h i a b within end_b in
          omega (arith, less, more)

      same_ends : (n : ℕ) → AgreeWithin n → (a b : List ℕ) → length a + length b ≤ n → SameEnds (after a) (after b)
      same_ends n h a b within j end end_b = (h j a b within (as_many n h j a b within end end_b)).0

      -- one turn more
      agree_next : (n : ℕ) → AgreeWithin n → AgreeWithin (suc n)
      agree_next n h i [] [] within e = (t.begins i, refl)
      agree_next n h i [] (y ∷ b) within e = by (is_for i (who (after b) y)) refl
        where
          by : (c : Bool) → is_for i (who (after b) y) ≡ c → Agrees i [] (y ∷ b)
          by false g =
              let old = h i [] b (omega (arith, within)) (e ∙ taken_else i b y g) in
              (t.right i [] b y g old.0, old.1 ∙ sym (shown_else i b y g))
          by true g = absurd (omega (arith, e, taken_own i b y g))
      agree_next n h i (x ∷ a) b within e = by (is_for i (who (after a) x)) refl b within e
        where
          by : (c : Bool) → is_for i (who (after a) x) ≡ c → (b : List ℕ) → length (x ∷ a) + length b ≤ suc n → taken i (x ∷ a) ≡ taken i b
              → Agrees i (x ∷ a) b
          by false g b within e =
              let old = h i a b (omega (arith, within)) (sym (taken_else i a x g) ∙ e) in
              (t.left i a b x g old.0, shown_else i a x g ∙ old.1)
          by true g [] within e = absurd (omega (arith, e, taken_own i a x g))
          by true g (y ∷ b) within e = also (is_for i (who (after b) y)) refl
            where
              also : (c : Bool) → is_for i (who (after b) y) ≡ c → Agrees i (x ∷ a) (y ∷ b)
              also false k =
                  let old = h i (x ∷ a) b (omega (arith, within)) (e ∙ taken_else i b y k) in
                  (t.right i (x ∷ a) b y k old.0, old.1 ∙ sym (shown_else i b y k))
              also true k =
                  let short : length a + length b ≤ n = omega (arith, within) in
                  let old = h i a b short (omega (arith, e, taken_own i a x g, taken_own i b y k)) in
                  let new = t.own i a b x y (is_for_some i (who (after a) x) g) (is_for_some i (who (after b) y) k) old.0 (same_ends n h a b short) in (
                    new.0,
                    shown_own i a x g ∙ (ap (λ l. l ++ shows (after a) x) old.1 ∙ (ap (λ l. shown i b ++ l) new.1 ∙ sym (shown_own i b y k))),
                  )

      agree_none : AgreeWithin 0
      agree_none i [] [] within e = (t.begins i, refl)
      agree_none i (x ∷ a) b within e = absurd (omega (arith, within))
      agree_none i [] (y ∷ b) within e = absurd (omega (arith, within))

      agree_within : (n : ℕ) → AgreeWithin n
      agree_within zero = agree_none
      agree_within (suc n) = agree_next n (agree_within n)

      -- after as many steps of a thread in both runs
      pub agree : (i : ℕ) (a b : List ℕ) → taken i a ≡ taken i b → Same i (after a) (after b) × (shown i a ≡ shown i b)
      agree i a b = agree_within (length a + length b) i a b (omega arith)

      -- where it has ended in both
      pub agree_ended : (i : ℕ) (a b : List ℕ) → Ended i (after a) → Ended i (after b) → Same i (after a) (after b) × (shown i a ≡ shown i b)
      agree_ended i a b end end_b =
          let n = length a + length b in agree i a b (as_many n (agree_within n) i a b (omega arith) end end_b)

      -- a run has been where a thread is in another, if it has taken as many steps for it
      pub record HasBeen (i : ℕ) (a b : List ℕ) : Type 0 where
        pub before : List ℕ
        pub later : List ℕ
        pub is : b ≡ later ++ before
        pub same : Same i (after a) (after before)

      pub been : (i : ℕ) (a b : List ℕ) → taken i a ≤ taken i b → HasBeen i a b
      been i a b few = elim (eqb_tells (taken i a) (taken i b)) [
        | inl e ↦ record { before = b; later = []; is = refl; same = (agree i a b e.1).0 }
        | inr e ↦
            let turn = nth i (taken i a) b (omega (arith, few, e.1)) in
            record { before = turn.before; later = turn.later; is = turn.is; same = (agree i a turn.before (sym turn.count)).0 }
      ]

      -- no run takes more steps for a thread than one in which it has ended
      pub no_further : (i : ℕ) (a b : List ℕ) → Ended i (after a) → taken i b ≤ taken i a
      no_further i a b end =
          let n = length a + length b in
          let less : (taken i a < taken i b) → ⊥ = more_steps n (agree_within n) i a b (omega arith) end in omega (arith, less)

      abbrev pub Prefix : List E → List E → Type 0
      Prefix one other = (rest : List E) × (other ≡ one ++ rest)

      prefix_less : (i : ℕ) (a b : List ℕ) → taken i a < taken i b → Prefix (shown i a) (shown i b)
      prefix_less i a b less =
          let turn = nth i (taken i a) b less in
          (turn.more, turn.prefix ∙ ap (λ l. l ++ turn.more) (sym ((agree i a turn.before (sym turn.count)).1)))

      -- what a thread shows in one run is a prefix of what it shows in the other, or the other way round
      pub prefixes : (i : ℕ) (a b : List ℕ) → Prefix (shown i a) (shown i b) ⊎ Prefix (shown i b) (shown i a)
      prefixes i a b = by (less_or (taken i a) (taken i b))
        where
          less_or : (m n : ℕ) → (m < n) ⊎ ((m ≡ n) ⊎ (n < m))
          less_or zero zero = inr (inl refl)
          less_or zero (suc n) = inl (omega arith)
          less_or (suc m) zero = inr (inr (omega arith))
          less_or (suc m) (suc n) = elim (less_or m n) [
            | inl h ↦ inl (omega (arith, h))
            | inr h ↦ elim h [ inl e ↦ inr (inl (ap suc e)) | inr g ↦ inr (inr (omega (arith, g))) ]
          ]

          by : (taken i a < taken i b) ⊎ ((taken i a ≡ taken i b) ⊎ (taken i b < taken i a))
              → Prefix (shown i a) (shown i b) ⊎ Prefix (shown i b) (shown i a)
          by (inl h) = inl (prefix_less i a b h)
          by (inr (inl e)) = inl ([], sym ((agree i a b e).1) ∙ sym (append-nil (shown i a)))
          by (inr (inr h)) = inr (prefix_less i b a h)
