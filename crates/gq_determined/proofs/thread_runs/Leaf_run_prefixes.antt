-- Of any two runs, what a leaf showed for the threads whose it was in one is a prefix of what it showed in the other, or the other way round.
use Rattle.std.proofs.Common.{◌≡◌, ◌≢◌, ◌≤◌, ◌<◌, ◌⊎◌, ℕ, zero, suc, ◌+◌, ◌==◌, ◌&&◌, inl, inr, Bool, true, false, cond, List, [], ◌∷◌, ◌++◌, length}
use Rattle.std.proofs.Common.{Option, Some, None, refl, ap, sym, ◌∙◌, subst, arith}
use Rattle.std.proofs.lemmas.Bool.Decides.{eqb_tells}
use Rattle.std.proofs.lemmas.List.{append_assoc, append-nil}
use Rattle.gq_model.specs.machine.Scenario.{System}
use Rattle.gq_model.specs.machine.World.{World}
use Rattle.gq_model.specs.machine.Doing.{Event}
use Rattle.gq_model.specs.machine.Sums.{paid}
use Rattle.gq_laws.proofs.verified_programs.Use_chains.{Chain, chain_short}
use Rattle.gq_determined.specs.internal.Threads.{Starts, Tracked, who, tracked_turn, tracked_from, shows, IsAlike, HasEnded}
use Rattle.gq_determined.specs.internal.Thread_machines.{taken}
use Rattle.gq_determined.proofs.machines.By_threads.{been, no_further}
use Rattle.gq_determined.proofs.thread_positions.Unshared_leaf_owner.{one_start}
use Rattle.gq_determined.proofs.thread_runs.Opened_session_owner.{there_uses}
use Rattle.gq_determined.proofs.thread_runs.Thread_run_determinism.{tracked, AreGood, all_tracked, are_threads, own_before, turn_is, turn_none, before}
use Rattle.gq_determined.proofs.thread_runs.Thread_run_determinism.{before_given}

abbrev pub IsPrefixOf : List Event → List Event → Type 0
IsPrefixOf one other = (rest : List Event) × (other ≡ one ++ rest)

prefix_same : (one : List Event) → IsPrefixOf one one
prefix_same one = ([], sym (append-nil one))

prefix_on : (one two three : List Event) → IsPrefixOf one two → IsPrefixOf two three → IsPrefixOf one three
prefix_on one two three f g = (f.0 ++ g.0, g.1 ∙ (ap (λ l. l ++ g.0) f.1 ∙ append_assoc one f.0 g.0))

-- a chain of uses leads to a leaf from whoever sessions with it are opened for
starts_chain : (u : System) (n z y : ℕ) → Starts u n z y → (rest : List ℕ) → Chain u y rest → (more : List ℕ) × Chain u z more × (length rest < length more)
starts_chain u zero z y s rest chain = (y ∷ rest, ((s.0, s.1, there_uses u y s.0 false s.2), chain), omega arith)
starts_chain u (suc n) z y s rest chain =
    let more = starts_chain u n z s.0 s.4 (y ∷ rest) ((s.1, s.2, there_uses u y s.1 true s.3), chain) in
    let long = more.2 in
    (more.0, more.1, omega (arith, long))

module _ (u : System) (pays : (z : World) → paid u z ≡ true) (w : World) (root : ℕ → ℕ) (good : AreGood u pays w root) where
  abbrev at : List ℕ → Tracked
  at = tracked u pays w root

  abbrev steps : ℕ → List ℕ → ℕ
  steps = taken Tracked (ℕ × Event) (tracked_from w root) (tracked_turn u) who (shows u)

  -- MORE TURNS

  wrote_next : (a : List ℕ) (x y : ℕ) → IsPrefixOf ((at a).wrote y) ((at (x ∷ a)).wrote y)
  wrote_next a x y = by (who (at a) x) refl
    where
      more : (b : Bool) (wrote : List Event) (event : Event) → IsPrefixOf wrote (cond b (wrote ++ event ∷ []) wrote)
      more true wrote event = (event ∷ [], refl)
      more false wrote event = prefix_same wrote

      by : (o : Option ℕ) → who (at a) x ≡ o → IsPrefixOf ((at a).wrote y) ((at (x ∷ a)).wrote y)
      by None e = subst (λ (g : Tracked). IsPrefixOf ((at a).wrote y) (g.wrote y)) (sym (turn_none u pays w root good a x e)) (prefix_same ((at a).wrote y))
      by (Some i) e = subst (λ (g : Tracked). IsPrefixOf ((at a).wrote y) (g.wrote y)) (sym (turn_is u pays w root good a x i e))
          (more (y == x && ((before u pays w root good a x i).own x == i)) ((at a).wrote y) (good.goes a x).0.1)

  wrote_on : (later a : List ℕ) (y : ℕ) → IsPrefixOf ((at a).wrote y) ((at (later ++ a)).wrote y)
  wrote_on [] a y = prefix_same ((at a).wrote y)
  wrote_on (x ∷ later) a y = prefix_on _ _ _ (wrote_on later a y) (wrote_next (later ++ a) x y)

  own_earlier : (later a : List ℕ) (i : ℕ) → (at (later ++ a)).own i ≡ i → (at a).own i ≡ i
  own_earlier [] a i own = own
  own_earlier (x ∷ later) a i own = own_earlier later a i (own_before u pays w root good (later ++ a) x i own)

  -- WHERE ONE RUN HAS BEEN WHERE THE OTHER IS

  -- what a leaf showed where its thread has its own leaf, and the other run has been there
  been_prefix : (a b : List ℕ) (y : ℕ) (more run : List ℕ) → b ≡ more ++ run → (at run).own ((at a).own y) ≡ (at a).own y
      → steps ((at a).own y) a ≤ steps ((at a).own y) run → IsPrefixOf ((at a).wrote y) ((at b).wrote y)
  been_prefix a b y more run is own few =
      let i = (at a).own y in
      let m = been Tracked (ℕ × Event) (tracked_from w root) (tracked_turn u) who (shows u) IsAlike HasEnded (are_threads u pays w root good) i a run few in
      let own_m : (at m.before).own i ≡ i = own_earlier m.later m.before i (subst (λ l. (at l).own i ≡ i) m.is own) in
      let s = m.same.whole ((all_tracked u pays w root good a).owned.whole y) own_m in
      subst (λ b. IsPrefixOf ((at a).wrote y) ((at b).wrote y)) (sym is)
      (prefix_on ((at a).wrote y) ((at run).wrote y) ((at (more ++ run)).wrote y)
      (subst (λ l. IsPrefixOf ((at a).wrote y) ((at l).wrote y)) (sym m.is)
      (subst (λ l. IsPrefixOf l ((at (m.later ++ m.before)).wrote y)) (sym (s.wrote y refl)) (wrote_on m.later m.before y)))
      (wrote_on more run y))

  -- the other has not
  record IsAhead (a b : List ℕ) (y : ℕ) : Type 0 where
    own : (at b).own ((at a).own y) ≡ (at a).own y
    more : steps ((at a).own y) b < steps ((at a).own y) a

  been_or : (a b : List ℕ) (y : ℕ) → IsPrefixOf ((at a).wrote y) ((at b).wrote y) ⊎ IsAhead a b y
  been_or a b y = by (eqb_tells ((at b).own i) i)
    where
      i : ℕ
      i = (at a).own y

      at_most : (m n : ℕ) → (m ≤ n) ⊎ (n < m)
      at_most zero n = inl (omega arith)
      at_most (suc m) zero = inr (omega arith)
      at_most (suc m) (suc n) = elim (at_most m n) [ inl h ↦ inl (omega (arith, h)) | inr h ↦ inr (omega (arith, h)) ]

      by : ((((at b).own i == i) ≡ true) × ((at b).own i ≡ i)) ⊎ ((((at b).own i == i) ≡ false) × ((at b).own i ≢ i))
          → IsPrefixOf ((at a).wrote y) ((at b).wrote y) ⊎ IsAhead a b y
      by (inl own) = elim (at_most (steps i a) (steps i b)) [
        | inl few ↦ inl (been_prefix a b y [] b refl own.1 few)
        | inr more ↦ inr record { own = own.1; more = more }
      ]
      by (inr given) =
          let p = before_given u pays w root good b i given.1 in
          let few = no_further Tracked (ℕ × Event) (tracked_from w root) (tracked_turn u) who (shows u) IsAlike HasEnded
          (are_threads u pays w root good) i p.run a
          p.ended in
          inl (been_prefix a b y p.more p.run p.is p.own few)

  -- a leaf is not one thread's in one run and another's in the other, if both have their own leaves in both
  module _ (a b : List ℕ) (i j : ℕ) (ne : i ≢ j) (own_a : (at a).own j ≡ j) (own_b : (at b).own i ≡ i) where
    parted : (fuel y : ℕ) → (at a).own y ≡ i → (at b).own y ≡ j → (rest : List ℕ) → Chain u y rest → length u.components ≤ fuel + length rest → ⊥
    parted zero y in_a in_b rest chain enough = let short = chain_short u good.first.placed.acyclic y rest chain in omega (arith, short, enough)
    parted (suc fuel) y in_a in_b rest chain enough =
        let over = (all_tracked u pays w root good a).owned.opened y (λ e. ne (sym own_b ∙ (ap (at b).own (sym in_a ∙ e) ∙ in_b))) in
        let under = (all_tracked u pays w root good b).owned.opened y (λ e. ne (sym in_a ∙ (ap (at a).own (sym e ∙ in_b) ∙ own_a))) in
        let same : over.z ≡ under.z = one_start u y over.single over.n under.n over.z under.z over.starts under.starts in
        let up = starts_chain u over.n over.z y over.starts rest chain in
        let long = up.2 in
        parted fuel over.z (sym over.is ∙ in_a) (ap (at b).own same ∙ (sym under.is ∙ in_b)) up.0 up.1 (omega (arith, enough, long))

  -- so one of two runs has been where the other is
  never_both : (a b : List ℕ) (y : ℕ) → y < length u.components → IsAhead a b y → IsAhead b a y → ⊥
  never_both a b y within p q = elim (eqb_tells ((at a).own y) ((at b).own y)) [
    | inl e ↦
        let one = p.more in
        let other = subst (λ i. steps i a < steps i b) (sym e.1) q.more in omega (arith, one, other)
    | inr e ↦ parted a b ((at a).own y) ((at b).own y) e.1 q.own p.own (length u.components) y refl refl [] within (omega arith)
  ]

  pub leaf_prefixes : (a b : List ℕ) (y : ℕ) → y < length u.components
      → IsPrefixOf ((at a).wrote y) ((at b).wrote y) ⊎ IsPrefixOf ((at b).wrote y) ((at a).wrote y)
  leaf_prefixes a b y within = elim (been_or a b y) [
    | inl f ↦ inl f
    | inr p ↦ elim (been_or b a y) [ inl f ↦ inr f | inr q ↦ absurd (never_both a b y within p q) ]
  ]
