-- Steps of two leaves come to the same in either order, up to what is left open of worlds in which all threads have the same.
use Rattle.std.proofs.Common.{◌≡◌, ◌≢◌, ◌⊎◌, inl, inr, ℕ, zero, suc, ◌==◌, ◌&&◌, ◌||◌, Bool, true, false, ◌++◌, List, [], ◌∷◌, Option, Some, None}
use Rattle.std.proofs.Common.{refl, ap, sym, ◌∙◌, subst, arith}
use Rattle.std.specs.Prelude.{option_map, slice_get, slice_set, slice_index}
use Rattle.std.proofs.lemmas.Bool.{true≢false}
use Rattle.std.proofs.lemmas.Bool.Decides.{eqb_tells}
use Rattle.std.proofs.lemmas.Option.{slice_get_within}
use Rattle.gq_model.specs.declared.phase.Phase.{Phase}
use Rattle.gq_model.specs.declared.phase.Phase.TheVariants.{Pending, Running, Blocked, Serving, Handling, Exited}
use Rattle.gq_model.specs.declared.program.Instruction.{Instruction}
use Rattle.gq_model.specs.machine.Scenario.{Component, Scenario, System, system}
use Rattle.gq_model.specs.machine.World.{Current, Leaf, World}
use Rattle.gq_model.proofs.Small_facts.{none_some, some_same, equal_self, get_within, text_is}
use Rattle.gq_laws.specs.Leaf_phases.{Suits, serves}
use Rattle.gq_model.specs.machine.Step.{oldest}
use Rattle.gq_laws.specs.Session_links.{links, stance, stance_in}
use Rattle.gq_laws.specs.Sound_scenarios.{IsSound}
use Rattle.gq_laws.specs.Renamed.{renamed_leaf}
use Rattle.gq_laws.specs.internal.Uncounted.{uncounted}
use Rattle.gq_laws.proofs.session_links.Asked_request_changes.{same_phase}
use Rattle.gq_determined.specs.internal.Threads.{asker, has_work, is_active, seen, served_for, seen_by, thread_by, who, who_by, who_of, works, works_for}
use Rattle.gq_determined.specs.internal.Threads.{IsSameThread}
use Rattle.gq_determined.proofs.thread_positions.Single_thread_position.{handled, root_waits}
use Rattle.gq_determined.proofs.thread_positions.Turn_thread_position.{IsServing, IsWorking, at_other, requested, same_place, who_is, works_at}
use Rattle.gq_determined.proofs.thread_runs.Remaining_section_statements.{AreSections, Lefts}
use Rattle.gq_determined.proofs.thread_steps.Thread_reflexivity.{thread_itself}
use Rattle.gq_outcomes.proofs.complete.Held_worlds.{AreQuiet, Held, view, taken}
use Rattle.gq_outcomes.proofs.complete.Good_worlds.{exited_kept, placed, solo_one}
use Rattle.gq_outcomes.proofs.complete.Order_of_requests.{asked_of, oldest_roots, oldest_some, roots_in, roots_to}
use Rattle.gq_outcomes.proofs.complete.Order_steps.{ordered}
use Rattle.gq_outcomes.proofs.complete.Alike_held.{AreOne, IsGood, alive, end, frame_right, good_end}
use Rattle.gq_outcomes.proofs.complete.Unsubmitted_signals.{goes_on, works_as}

-- what is seen of a leaf that serves
pub seen_serving : (l k : Leaf) → seen l ≡ seen k → k.phase ≡ Serving → l.phase ≡ Serving
seen_serving l k e is = by l.phase refl
  where
    phase : (seen l).phase ≡ Serving
    phase = ap (λ (l : Leaf). l.phase) e ∙ ap (λ p. (seen_by p k).phase) is

    by : (p : Phase) → l.phase ≡ p → p ≡ Serving
    by Serving f = refl
    by Pending f = absurd (ne (sym (ap (λ p. (seen_by p l).phase) f) ∙ phase))
      where
        ne : Running ≡ Serving → ⊥
        ne e = cc
    by Running f = absurd (ne (sym (ap (λ p. (seen_by p l).phase) f) ∙ phase))
      where
        ne : Running ≡ Serving → ⊥
        ne e = cc
    by Blocked f = absurd (ne (sym (ap (λ p. (seen_by p l).phase) f) ∙ phase))
      where
        ne : Blocked ≡ Serving → ⊥
        ne e = cc
    by Handling f = absurd (ne (sym (ap (λ p. (seen_by p l).phase) f) ∙ phase))
      where
        ne : Handling ≡ Serving → ⊥
        ne e = cc
    by Exited f = absurd (ne (sym (ap (λ p. (seen_by p l).phase) f) ∙ phase))
      where
        ne : Exited ≡ Serving → ⊥
        ne e = cc

-- a leaf that is seen to run or to handle a request does so, unless it is pending
seen_runs : (l : Leaf) → ((seen l).phase ≡ Running) ⊎ ((seen l).phase ≡ Handling) → (l.phase ≡ Pending → ⊥) → (l.phase ≡ Running) ⊎ (l.phase ≡ Handling)
seen_runs l h not = by l.phase refl h
  where
    by : (p : Phase) → l.phase ≡ p → ((seen_by p l).phase ≡ Running) ⊎ ((seen_by p l).phase ≡ Handling) → (l.phase ≡ Running) ⊎ (l.phase ≡ Handling)
    by Pending f h = absurd (not f)
    by Running f h = inl f
    by Handling f h = inr f
    by Blocked f (inl e) = absurd (ne e)
      where
        ne : Blocked ≡ Running → ⊥
        ne e = cc
    by Blocked f (inr e) = absurd (ne e)
      where
        ne : Blocked ≡ Handling → ⊥
        ne e = cc
    by Serving f (inl e) = absurd (ne e)
      where
        ne : Serving ≡ Running → ⊥
        ne e = cc
    by Serving f (inr e) = absurd (ne e)
      where
        ne : Serving ≡ Handling → ⊥
        ne e = cc
    by Exited f (inl e) = absurd (ne e)
      where
        ne : Exited ≡ Running → ⊥
        ne e = cc
    by Exited f (inr e) = absurd (ne e)
      where
        ne : Exited ≡ Handling → ⊥
        ne e = cc

pub set_both : (l : List ℕ) (x y a b : ℕ) → x ≢ y → slice_set (slice_set l x a) y b ≡ slice_set (slice_set l y b) x a
set_both [] x y a b ne = refl
set_both (c ∷ l) zero zero a b ne = absurd (ne refl)
set_both (c ∷ l) zero (suc y) a b ne = refl
set_both (c ∷ l) (suc x) zero a b ne = refl
set_both (c ∷ l) (suc x) (suc y) a b ne = ap (λ l. c ∷ l) (set_both l x y a b (λ e. ne (ap suc e)))

pub index_else : (l : List ℕ) (x y a : ℕ) → x ≢ y → slice_index (slice_set l x a) y ≡ slice_index l y
index_else [] x y a ne = refl
index_else (c ∷ l) zero zero a ne = absurd (ne refl)
index_else (c ∷ l) zero (suc y) a ne = refl
index_else (c ∷ l) (suc x) zero a ne = refl
index_else (c ∷ l) (suc x) (suc y) a ne = index_else l x y a (λ e. ne (ap suc e))

inactive_phases : (p : Phase) (provides : Option (List ℕ)) (n : ℕ) → is_active p ≡ false → Suits provides n p
    → ((p ≡ Serving) × (serves provides n ≡ true)) ⊎ ((p ≡ Exited) × (serves provides n ≡ false))
inactive_phases Serving provides n e suits = inl (refl, suits)
inactive_phases Exited provides n e suits = inr (refl, suits)
inactive_phases Pending provides n e suits = absurd (true≢false e)
inactive_phases Running provides n e suits = absurd (true≢false e)
inactive_phases Blocked provides n e suits = absurd (true≢false e)
inactive_phases Handling provides n e suits = absurd (true≢false e)

module _ (s : Scenario) (sound : IsSound s) (holds : ℕ → Bool) (P : ℕ → Component → Bool → Instruction → Type 0)
    (sections : AreSections P (uncounted (system s))) (quiet_of : (w : World) → Lefts P (uncounted (system s)) w → AreQuiet holds w) where
  abbrev u : System
  u = uncounted (system s)

  abbrev G : Held → Type 0
  G m = IsGood s sound holds P sections quiet_of m

  abbrev One : Held → Held → Type 0
  One m n = AreOne s sound holds P sections quiet_of m n

  -- WHO STEPS WHERE

  -- a leaf that works in one world does so in another in which its thread has the same, if what had exited has
  pub works_other : (m n : Held) (h : G m) (g : G n) (j y : ℕ) → IsSameThread j (view m) (view n)
      → ((z : ℕ) (k : Leaf) → slice_get m.world.leaves z ≡ Some k → k.phase ≡ Exited → (l : Leaf) × (slice_get n.world.leaves z ≡ Some l) × (l.phase ≡ Exited))
      → IsWorking (view m) j y → IsWorking (view n) j y
  works_other m n h g j y t exits w =
      let a = at_other (view m) (view n) j y t w.at in
      let same : seen a.leaf ≡ renamed_leaf t.f (seen w.at.leaf)
      = some_same (ap (option_map seen) (sym a.there) ∙ (t.alike y (works_at (view m) j y w.at)
      ∙ ap (option_map (λ l. renamed_leaf t.f (seen l))) w.at.there)) in
      let runs : ((seen a.leaf).phase ≡ Running) ⊎ ((seen a.leaf).phase ≡ Handling)
      = elim (goes_on (view m) h.held.calm j y w) [
        | inl r ↦ inl (ap (λ (l : Leaf). l.phase) same ∙ ap (λ p. (seen_by p w.at.leaf).phase) r)
        | inr r ↦ inr (ap (λ (l : Leaf). l.phase) same ∙ ap (λ p. (seen_by p w.at.leaf).phase) r)
      ] in
      record { at = a; runs = inl (seen_runs a.leaf runs (pending a.leaf a.there)) }
    where
      not_m : w.at.leaf.phase ≡ Pending → ⊥
      not_m e = elim (goes_on (view m) h.held.calm j y w) [ inl r ↦ ne1 (sym r ∙ e) | inr r ↦ ne2 (sym r ∙ e) ]
        where
          ne1 : Running ≡ Pending → ⊥
          ne1 e = cc

          ne2 : Handling ≡ Pending → ⊥
          ne2 e = cc

      pending : (l : Leaf) → slice_get n.world.leaves y ≡ Some l → l.phase ≡ Pending → ⊥
      pending l at e =
          let c = placed s sound holds P sections quiet_of n g y l at in
          let r = g.lasts.ready.waits y c.0 l c.1 at e in
          let o = h.started.each y c.0 w.at.leaf r.0 c.1 w.at.there r.1 not_m in
          let k = exits o.z o.leaf o.there o.phase in
          r.2 o.z o.component k.0 o.placed (text_is o.component.node.name r.0 o.named) k.1 k.2

  who_working : (m : Held) (h : G m) (j y : ℕ) → IsWorking (view m) j y → who (view m) y ≡ Some j
  who_working m h j y w =
      ap (who_of (view m) y) w.at.there
      ∙ elim (goes_on (view m) h.held.calm j y w) [
        | inl r ↦ ap (who_by (view m) y w.at.leaf.current w.at.leaf.signals) r ∙ ap Some w.at.thread
        | inr r ↦ ap (who_by (view m) y w.at.leaf.current w.at.leaf.signals) r ∙ ap Some w.at.thread
      ]

  pub who_serving : (m : Held) (h : G m) (j y : ℕ) (l : Leaf) (rest : List ℕ) → slice_get m.world.leaves y ≡ Some l → l.phase ≡ Serving
      → roots_to m y ≡ j ∷ rest
      → who (view m) y ≡ Some j
  who_serving m h j y l rest at serves order =
      let p = oldest_some (view m).root m.world y m.world.requests j rest order in
      ap (who_of (view m) y) at
      ∙ (ap (who_by (view m) y l.current l.signals) serves
      ∙ (ap (λ s. served_for (view m).root (thread_by (view m).root y l.current) s (oldest m.world y m.world.requests)) (h.held.calm.none y l at)
      ∙ (ap (asker (view m).root) p.1 ∙ ap Some p.2)))

  -- a thread for which a leaf takes a step has no other leaf's number
  pub not_leaf : (m : Held) (h : G m) (i x j y : ℕ) → who (view m) x ≡ Some i → who (view m) y ≡ Some j → x ≢ y → j ≢ x
  not_leaf m h i x j y is is_y ne e = of (who_is (view m) j y is_y)
    where
      blocked : (links m.world).stances j ≡ Some (stance Blocked None) → ⊥
      blocked b = by (who_is (view m) i x is)
        where
          here : (l : Leaf) → slice_get m.world.leaves x ≡ Some l → l.phase ≡ Blocked
          here l at = same_phase (sym (ap stance_in at) ∙ (ap (links m.world).stances (sym e) ∙ b))

          by : IsWorking (view m) i x ⊎ IsServing (view m) i x → ⊥
          by (inl w) = w.at.goes (here w.at.leaf w.at.there)
          by (inr p) = no (sym p.serves ∙ here p.leaf p.there)
            where
              no : Serving ≡ Blocked → ⊥
              no e = cc

      of : IsWorking (view m) j y ⊎ IsServing (view m) j y → ⊥
      of (inr p) =
          blocked (ap (links m.world).stances (sym p.root)
          ∙ root_waits u (view m) h.held.placed p.taken.0.session (requested u (view m) h.held.placed j y p).waiting)
      of (inl w) = by w.at.leaf.current refl
        where
          by : (current : Option Current) → w.at.leaf.current ≡ current → ⊥
          by None f = ne (sym e ∙ (sym w.at.thread ∙ ap (thread_by (view m).root y) f))
          by (Some q) f =
              let wait = (handled u (view m) h.held.placed y w.at.leaf.phase q
              (ap stance_in w.at.there ∙ ap (λ o. Some (stance w.at.leaf.phase o)) f)).waiting in
              blocked (ap (links m.world).stances (sym (sym (ap (thread_by (view m).root y) f) ∙ w.at.thread))
              ∙ root_waits u (view m) h.held.placed q.session wait)

  pub apart : (m : Held) (h : G m) (i x j y : ℕ) → who (view m) x ≡ Some i → who (view m) y ≡ Some j → x ≢ y → i ≢ j
  apart m h i x j y is is_y ne e =
      ne (same_place u (view m) (view m) h.held.placed h.held.placed i (thread_itself i (view m)) x y is (is_y ∙ ap Some (sym e))).leaf

  -- a leaf that could take a step can so after that of another
  pub who_stays : (m : Held) (h : G m) (i x j y : ℕ) (is : who (view m) x ≡ Some i) → who (view m) y ≡ Some j → x ≢ y
      → who (view (end s sound holds P sections quiet_of m h i x is)) y ≡ Some j
  who_stays m h i x j y is is_y ne = by (who_is (view m) j y is_y)
    where
      t : IsSameThread j (view m) (view (end s sound holds P sections quiet_of m h i x is))
      t = frame_right s sound holds P sections quiet_of m h i x is j (λ q. apart m h i x j y is is_y ne (sym q)) (not_leaf m h i x j y is is_y ne) m
          (thread_itself j (view m))

      by : IsWorking (view m) j y ⊎ IsServing (view m) j y → who (view (end s sound holds P sections quiet_of m h i x is)) y ≡ Some j
      by (inl w) =
          who_working (end s sound holds P sections quiet_of m h i x is) (good_end s sound holds P sections quiet_of m h i x is) j y
          (works_other m (end s sound holds P sections quiet_of m h i x is) h (good_end s sound holds P sections quiet_of m h i x is) j y t
          (λ z k at e. exited_kept s sound holds P sections quiet_of m h i x is z k at e) w)
      by (inr p) = serves (slice_get (end s sound holds P sections quiet_of m h i x is).world.leaves y) refl
        where
          order : roots_to (end s sound holds P sections quiet_of m h i x is) y
              ≡ roots_to m y ++ asked_of (end s sound holds P sections quiet_of m h i x is) i y
          order = (ordered s sound holds P sections quiet_of m h i x is).else y (λ e. ne (sym e))

          old : (rest : List ℕ) × (roots_to m y ≡ j ∷ rest)
          old = let r = oldest_roots (view m).root m.world y m.world.requests p.taken p.found in
              (roots_in (view m).root m.world y p.taken.1, r.0 ∙ ap (λ n. n ∷ roots_in (view m).root m.world y p.taken.1) p.root)

          out : (works (view (taken holds m x i)) i y || y == x) ≡ false
          out = ap (λ o. works_for (view (taken holds m x i)).root i y o || y == x) p.there
              ∙ ((λ e. has_work (p.serves e) (p.idle e) && (thread_by (view (taken holds m x i)).root y p.leaf.current == i) || y == x) ∙ unequal)
            where
              unequal : (y == x) ≡ false
              unequal = elim (eqb_tells y x) [ inl q ↦ absurd (ne (sym q.1)) | inr q ↦ q.0 ]

          seen_same : option_map seen (slice_get (end s sound holds P sections quiet_of m h i x is).world.leaves y)
              ≡ option_map seen (slice_get m.world.leaves y)
          seen_same = (solo_one s sound holds P sections quiet_of m h i x is).done.rest.at y out

          serves : (o : Option Leaf) → slice_get (end s sound holds P sections quiet_of m h i x is).world.leaves y ≡ o
              → who (view (end s sound holds P sections quiet_of m h i x is)) y ≡ Some j
          serves None e = absurd (none_some (sym (ap (option_map seen) e) ∙ (seen_same ∙ ap (option_map seen) p.there)))
          serves (Some l) e =
              who_serving (end s sound holds P sections quiet_of m h i x is) (good_end s sound holds P sections quiet_of m h i x is) j y l
              (old.0 ++ asked_of (end s sound holds P sections quiet_of m h i x is) i y) e
              (seen_serving l p.leaf (some_same (sym (ap (option_map seen) e) ∙ (seen_same ∙ ap (option_map seen) p.there))) p.serves)
              (order ∙ ap (λ l. l ++ asked_of (end s sound holds P sections quiet_of m h i x is) i y) old.1)

  -- IN ALIKE WORLDS

  -- a leaf that does not work does not in the other world
  inactive_one : (m n : Held) (h : G m) (g : G n) → One m n → (z : ℕ) (k l : Leaf) → slice_get m.world.leaves z ≡ Some k → is_active k.phase ≡ false
      → slice_get n.world.leaves z ≡ Some l → is_active l.phase ≡ false
  inactive_one m n h g o z k l at off at_n = by (is_active l.phase) refl
    where
      of : (j : ℕ) → thread_by (view n).root z l.current ≡ j → is_active l.phase ≡ true → n.hold j ≡ j → ⊥
      of j thread act own =
          let t = o.same j (o.back j own) in
          let there : works (view n) j z ≡ true
          = ap (works_for (view n).root j z) at_n ∙ ((λ e. (works_as l (g.held.calm.none z l at_n) ∙ act) e && (thread e == j)) ∙ equal_self j) in
          let none : works (view m) j z ≡ false
          = ap (works_for (view m).root j z) at ∙ ap (λ b. b && (thread_by (view m).root z k.current == j)) (works_as k (h.held.calm.none z k at) ∙ off) in
          true≢false (sym there ∙ (sym (t.leaves z) ∙ none))

      alive_n : (current : Option Current) → l.current ≡ current → is_active l.phase ≡ true → ⊥
      alive_n None e act =
          of z (ap (thread_by (view n).root z) e) act
          (g.held.placed.main z l.phase (ap stance_in at_n ∙ ap (λ o. Some (stance l.phase o)) e) act)
      alive_n (Some q) e act =
          of ((view n).root q.session) (ap (thread_by (view n).root z) e) act (g.held.whole (n.base q.session))

      by : (b : Bool) → is_active l.phase ≡ b → is_active l.phase ≡ false
      by false e = e
      by true e = absurd (alive_n l.current refl e)

  leaf_there : (m n : Held) (h : G m) (g : G n) (z : ℕ) (k : Leaf) → slice_get m.world.leaves z ≡ Some k → (l : Leaf) × (slice_get n.world.leaves z ≡ Some l)
  leaf_there m n h g z k at =
      let a = placed s sound holds P sections quiet_of m h z k at in
      let below = slice_get_within u.components z a.0 a.1 in
      let count = g.lasts.stands.whole.count in
      let l = get_within n.world.leaves z (omega (arith, below, count)) in (l.0, l.1)

  pub exited_one : (m n : Held) (h : G m) (g : G n) → One m n → (z : ℕ) (k : Leaf) → slice_get m.world.leaves z ≡ Some k → k.phase ≡ Exited
      → (l : Leaf) × (slice_get n.world.leaves z ≡ Some l) × (l.phase ≡ Exited)
  exited_one m n h g o z k at e =
      let l = leaf_there m n h g z k at in
      let c = placed s sound holds P sections quiet_of m h z k at in
      let off = inactive_one m n h g o z k l.0 at (ap is_active e) l.1 in
      let none = subst (Suits c.0.node.provides c.0.node.signals) e (h.lasts.ready.suits z c.0 k c.1 at) in
      elim (inactive_phases l.0.phase c.0.node.provides c.0.node.signals off (g.lasts.ready.suits z c.0 l.0 c.1 l.1)) [
        | inl q ↦ absurd (true≢false (sym q.1 ∙ none))
        | inr q ↦ (l.0, l.1, q.0)
      ]

  pub serving_one : (m n : Held) (h : G m) (g : G n) → One m n → (z : ℕ) (k : Leaf) → slice_get m.world.leaves z ≡ Some k → k.phase ≡ Serving
      → (l : Leaf) × (slice_get n.world.leaves z ≡ Some l) × (l.phase ≡ Serving)
  serving_one m n h g o z k at e =
      let l = leaf_there m n h g z k at in
      let c = placed s sound holds P sections quiet_of m h z k at in
      let off = inactive_one m n h g o z k l.0 at (ap is_active e) l.1 in
      let some = subst (Suits c.0.node.provides c.0.node.signals) e (h.lasts.ready.suits z c.0 k c.1 at) in
      elim (inactive_phases l.0.phase c.0.node.provides c.0.node.signals off (g.lasts.ready.suits z c.0 l.0 c.1 l.1)) [
        | inl q ↦ (l.0, l.1, q.0)
        | inr q ↦ absurd (true≢false (sym some ∙ q.1))
      ]

  -- who works in one world does in the other, and a server that is held takes the same request
  pub who_one : (m n : Held) (h : G m) (g : G n) → One m n → (i x : ℕ) → who (view m) x ≡ Some i → IsWorking (view m) i x ⊎ (holds x ≡ true)
      → who (view n) x ≡ Some i
  who_one m n h g o i x is how = by (who_is (view m) i x is) how
    where
      by : IsWorking (view m) i x ⊎ IsServing (view m) i x → IsWorking (view m) i x ⊎ (holds x ≡ true) → who (view n) x ≡ Some i
      by (inl w) q = who_working n g i x (works_other m n h g i x (o.same i (alive s sound holds P sections quiet_of m h i x is)) (exited_one m n h g o) w)
      by (inr p) (inl w) = who_working n g i x (works_other m n h g i x (o.same i (alive s sound holds P sections quiet_of m h i x is))
          (exited_one m n h g o) w)
      by (inr p) (inr can) =
          let k = serving_one m n h g o x p.leaf p.there p.serves in
          let r = oldest_roots (view m).root m.world x m.world.requests p.taken p.found in
          who_serving n g i x k.0 (roots_in (view m).root m.world x p.taken.1) k.1 k.2
          (sym (o.order x can) ∙ (r.0 ∙ ap (λ n. n ∷ roots_in (view m).root m.world x p.taken.1) p.root))
