-- The peaks of a leaf that provides a service or has signals depend on the steps of the thread alone that it is of.
use Rattle.std.proofs.Common.{◌≡◌, ◌≢◌, ◌⊎◌, inl, inr, ℕ, zero, suc, ◌==◌, max, true, false, List, [], ◌∷◌, length, map, Option, Some, None}
use Rattle.std.proofs.Common.{refl, ap, sym, ◌∙◌, subst, arith}
use Rattle.std.specs.Prelude.{option_map, slice_get, sum_by}
use Rattle.std.proofs.lemmas.List.Sums.{sum_by-cons}
use Rattle.gq_tariff.specs.Prices.{classes}
use Rattle.gq_model.specs.machine.Scenario.{Scenario, System, Component, system}
use Rattle.gq_model.specs.machine.World.{Slot, Empty, Bytes, Pool, Link, Waiting, Leaf, World}
use Rattle.gq_model.specs.machine.Doing.{Event}
use Rattle.gq_model.specs.machine.Sums.{places, raised, slot_places}
use Rattle.gq_model.proofs.Small_facts.{get_within, none_some, some_same, equal_self}
use Rattle.gq_laws.specs.Shapes.{Each, IsWholeLeaf}
use Rattle.gq_laws.specs.Sound_scenarios.{IsSound}
use Rattle.gq_laws.specs.Leaf_phases.{serves}
use Rattle.gq_laws.specs.Renamed.{renamed_slot}
use Rattle.gq_laws.specs.internal.Uncounted.{uncounted}
use Rattle.gq_races.specs.Races.{IsRaceFree}
use Rattle.gq_determined.specs.internal.Thread_machines.{is_for}
use Rattle.gq_determined.specs.internal.Threads.{Tracked, who, stepped_to, ready, turn_for, tracked_from, tracked_turn, tracked_after, shows, slots_of}
use Rattle.gq_determined.specs.internal.Threads.{IsSameThread, IsAlike, HasEnded}
use Rattle.gq_determined.proofs.machines.By_threads.{AreThreads, agree_ended}
use Rattle.gq_determined.proofs.thread_steps.Thread_reflexivity.{thread_itself}
use Rattle.gq_determined.proofs.thread_positions.Single_thread_position.{IsTracked}
use Rattle.gq_determined.proofs.thread_positions.Turn_thread_position.{is_equal, lives_who, same_place}
use Rattle.gq_determined.proofs.thread_steps.Paired_thread_step.{ended_of}
use Rattle.gq_determined.proofs.thread_runs.Thread_run_determinism.{not_for, own_is, ready_at, all_tracked, are_threads, same_owners}
use Rattle.gq_determined.proofs.thread_runs.Sound_runs.{IsFirst, all_pay, all_stand, goes_by, good, placed, within}
use Rattle.gq_determined.proofs.rest_accounts.Own_peak_bounds.{Within, AreWithin}
use Rattle.gq_determined.proofs.rest_accounts.Own_peaks_kept.{all_within}
use Rattle.gq_determined.proofs.rest_accounts.Peaks_steps.{next_raises}
use Rattle.gq_determined.proofs.rest_accounts.Session_places.{own_only}

-- peaks raised to what these slots have in use
abbrev pub most : List ℕ → List ℕ → List Slot → List ℕ
most [] peaks slots = []
most (c ∷ cs) [] slots = []
most (c ∷ cs) (peak ∷ peaks) slots = max peak (sum_by (slot_places c) slots) ∷ most cs peaks slots

-- they are these peaks where none is below that
pub most_within : (cs peaks : List ℕ) (slots : List Slot) → length peaks ≡ length cs → Within cs slots peaks → most cs peaks slots ≡ peaks
most_within [] [] slots e h = refl
most_within [] (peak ∷ peaks) slots e h = absurd (omega (arith, e))
most_within (c ∷ cs) [] slots e h = refl
most_within (c ∷ cs) (peak ∷ peaks) slots e h =
    let less = h.0 in
    let here : max peak (sum_by (slot_places c) slots) ≡ peak = omega (arith, less) in
    λ i. here i ∷ most_within cs peaks slots (omega (arith, e)) h.1 i

pub most_same : (cs peaks : List ℕ) (slots more : List Slot) → ((c : ℕ) → sum_by (slot_places c) slots ≡ sum_by (slot_places c) more)
    → most cs peaks slots ≡ most cs peaks more
most_same [] peaks slots more same = refl
most_same (c ∷ cs) [] slots more same = refl
most_same (c ∷ cs) (peak ∷ peaks) slots more same = λ i. max peak (same c i) ∷ most_same cs peaks slots more same i

pub raised_most : (w : World) (x : ℕ) (leaf : Leaf) → ((c : ℕ) → places w x leaf c ≡ sum_by (slot_places c) leaf.slots) → (cs peaks : List ℕ)
    → raised w x leaf cs peaks ≡ most cs peaks leaf.slots
raised_most w x leaf own [] peaks = refl
raised_most w x leaf own (c ∷ cs) [] = refl
raised_most w x leaf own (c ∷ cs) (peak ∷ peaks) = λ i. max peak (own c i) ∷ raised_most w x leaf own cs peaks i

-- by other numbers of sessions slots have the same in use
pub renamed_places : (f : ℕ → ℕ) (c : ℕ) (slots : List Slot) → sum_by (slot_places c) (map (renamed_slot f) slots) ≡ sum_by (slot_places c) slots
renamed_places f c [] = refl
renamed_places f c (slot ∷ slots) =
    let here = by slot in
    let further = renamed_places f c slots in
    omega (arith, here, further, sum_by-cons (slot_places c) slot slots, sum_by-cons (slot_places c) (renamed_slot f slot) (map (renamed_slot f) slots))
  where
    by : (slot : Slot) → slot_places c (renamed_slot f slot) ≡ slot_places c slot
    by Empty = refl
    by (Bytes form n bytes) = refl
    by (Pool n entries) = refl
    by (Link k) = refl
    by (Waiting k) = refl

pub each_at : {A : Type 0} (P : A → Type 0) (items : List A) → Each P items → (i : ℕ) (a : A) → slice_get items i ≡ Some a → P a
each_at P [] h i a e = absurd (none_some e)
each_at P (b ∷ items) h zero a e = subst P (some_same e) h.0
each_at P (b ∷ items) h (suc i) a e = each_at P items h.1 i a e

module _ (s : Scenario) (sound : IsSound s) (w : World) (root : ℕ → ℕ) (first : IsFirst s w root) (within_first : AreWithin w) (none : IsRaceFree s) where
  abbrev u : System
  u = uncounted (system s)

  abbrev at : List ℕ → Tracked
  at = tracked_after u w root

  -- the leaf provides a service or has signals
  abbrev pub Serves : ℕ → Type 0
  Serves i = (c : Component) → slice_get u.components i ≡ Some c → serves c.node.provides c.node.signals ≡ true

  abbrev pub SamePeaks : ℕ → Tracked → Tracked → Type 0
  SamePeaks i g h = (l m : Leaf) → slice_get g.world.leaves i ≡ Some l → slice_get h.world.leaves i ≡ Some m → l.peaks ≡ m.peaks

  threads : AreThreads Tracked (ℕ × Event) (tracked_from w root) (tracked_turn u) who (shows u) IsAlike HasEnded
  threads = are_threads u (all_pay (system s)) w root (good s sound w root first none)

  -- a leaf that is there was there
  before : (a : List ℕ) (x y : ℕ) (new : Leaf) → slice_get (at (x ∷ a)).world.leaves y ≡ Some new → (l : Leaf) × (slice_get (at a).world.leaves y ≡ Some l)
  before a x y new e =
      let less = within s sound (at (x ∷ a)).world.leaves y new e in
      let now = (all_stand s sound w root first (x ∷ a)).whole.count in
      let old = (all_stand s sound w root first a).whole.count in
      get_within (at a).world.leaves y (omega (arith, less, now, old))

  full : (a : List ℕ) (y : ℕ) (l : Leaf) → slice_get (at a).world.leaves y ≡ Some l → most classes l.peaks l.slots ≡ l.peaks
  full a y l e =
      most_within classes l.peaks l.slots (each_at IsWholeLeaf (at a).world.leaves (all_stand s sound w root first a).whole.leaves y l e).2
      ((all_within s sound w root first within_first a).each y l e)

  -- after a step the peaks are the old ones, raised to what is in use
  raises : (a : List ℕ) (x j y : ℕ) → who (at a) x ≡ Some j → Serves y → (l new : Leaf) → slice_get (at a).world.leaves y ≡ Some l
      → slice_get (at (x ∷ a)).world.leaves y ≡ Some new → new.peaks ≡ most classes l.peaks new.slots
  raises a x j y is lasts l new there now =
      let p = goes_by s sound (at a).world x (all_stand s sound w root first a) in
      let world : (at (x ∷ a)).world ≡ p.0.0 = ap (λ o. (turn_for u (at a) x o).world) is ∙ ap (λ r. (stepped_to (ready u (at a) x j) x j r).world) p.1 in
      let step = (next_raises (system s) (at a).world x y l there lasts (λ c leaf e f. ((all_stand s sound w root first a).left x c leaf e f).todo)).holds
      p.0.0 p.0.1
      p.2 in
      by p.0.0 world (step.raises new (ap (λ (w : World). slice_get w.leaves y) (sym world) ∙ now))
    where
      by : (z : World) → (at (x ∷ a)).world ≡ z → (new.peaks ≡ l.peaks) ⊎ (new.peaks ≡ raised z y new classes l.peaks)
          → new.peaks ≡ most classes l.peaks new.slots
      by z world (inl e) = sym (full (x ∷ a) y new now) ∙ ap (λ p. most classes p new.slots) e
      by z world (inr e) =
          let c = placed s sound w root first (x ∷ a) y new now in
          e ∙ (ap (λ v. raised v y new classes l.peaks) (sym world)
          ∙ raised_most (at (x ∷ a)).world y new (own_only s (at (x ∷ a)).world (all_stand s sound w root first (x ∷ a)) y c.0 c.1 new now) classes l.peaks)

  -- the slots of a leaf of a thread have as much in use in two worlds in which the thread has the same
  places_same : (i y : ℕ) (g h : Tracked) (l m : Leaf) → slice_get g.world.leaves y ≡ Some l → slice_get h.world.leaves y ≡ Some m → IsSameThread i g h
      → g.own y ≡ i → (c : ℕ)
      → sum_by (slot_places c) m.slots ≡ sum_by (slot_places c) l.slots
  places_same i y g h l m e f t is c =
      let slots : m.slots ≡ map (renamed_slot t.f) l.slots
      = some_same (sym (ap (option_map slots_of) f) ∙ (t.region.slots y is ∙ ap (option_map (λ (leaf : Leaf). map (renamed_slot t.f) (slots_of leaf))) e)) in
      ap (sum_by (slot_places c)) slots ∙ renamed_places t.f c l.slots

  itself : (i : ℕ) (g : Tracked) → IsAlike i g g
  itself i g = record { main = refl; whole = λ own other. thread_itself i g }

  -- WHOSE A LEAF WAS

  -- a turn for another thread gives a thread nothing
  was_own : (i : ℕ) (a : List ℕ) (x : ℕ) → is_for i (who (at a) x) ≡ false → (y : ℕ) → (at (x ∷ a)).own y ≡ i → (at a).own y ≡ i
  was_own i a x out y is = by (who (at a) x) refl out
    where
      by : (o : Option ℕ) → who (at a) x ≡ o → is_for i o ≡ false → (at a).own y ≡ i
      by None e out = sym (ap (λ o. (turn_for u (at a) x o).own y) e) ∙ is
      by (Some j) e out =
          (ready_at u (all_pay (system s)) w root (good s sound w root first none) a x j e).own_back i y
          (not_for u (all_pay (system s)) w root (good s sound w root first none) i j out)
          (sym (own_is u (all_pay (system s)) w root (good s sound w root first none) a x j e y) ∙ is)

  -- a turn for the thread gives it what was of the leaf that takes the step
  was_of : (a : List ℕ) (x i : ℕ) → who (at a) x ≡ Some i → (y : ℕ) → (at (x ∷ a)).own y ≡ i
      → ((at a).own y ≡ i) ⊎ (((at a).own y ≡ x) × ((at a).own x ≡ x) × (x ≢ i) × ((at (x ∷ a)).own x ≡ i))
  was_of a x i is y own =
      let r = ready_at u (all_pay (system s)) w root (good s sound w root first none) a x i is in
      let same = own_is u (all_pay (system s)) w root (good s sound w root first none) a x i is in
      elim (r.own_from y (sym (same y) ∙ own)) [ inl q ↦ inl q | inr q ↦ inr (q.0, q.1, q.2, same x ∙ q.3) ]

  tracks : (a : List ℕ) → IsTracked u (at a)
  tracks = all_tracked u (all_pay (system s)) w root (good s sound w root first none)

  lives_at : (a : List ℕ) (x i : ℕ) → who (at a) x ≡ Some i → (at a).own i ≡ i
  lives_at a x i is = lives_who u (at a) (tracks a).placed i x is

  ended_at : (a : List ℕ) (x i : ℕ) → who (at a) x ≡ Some i → x ≢ i → HasEnded x (at a)
  ended_at a x i is ne = ended_of u (at a) (tracks a).placed i x is ne

  same_step : (i : ℕ) (a b : List ℕ) (x y : ℕ) → who (at a) x ≡ Some i → who (at b) y ≡ Some i → IsSameThread i (at a) (at b) → x ≡ y
  same_step i a b x y is is_b t = (same_place u (at a) (at b) (tracks a).placed (tracks b).placed i t x y is is_b).leaf

  -- a turn for another thread leaves the peaks of a thread's leaves
  else_same : (i y : ℕ) (a : List ℕ) (x : ℕ) → is_for i (who (at a) x) ≡ false → (at (x ∷ a)).own i ≡ i → (at (x ∷ a)).own y ≡ i → Serves y
      → SamePeaks y (at (x ∷ a)) (at a)
  else_same i y a x out own is lasts new l now there = by (who (at a) x) refl
    where
      by : (o : Option ℕ) → who (at a) x ≡ o → new.peaks ≡ l.peaks
      by None e =
          let world : (at (x ∷ a)).world ≡ (at a).world = ap (λ o. (turn_for u (at a) x o).world) e in
          ap (λ (k : Leaf). k.peaks) (some_same (sym now ∙ (ap (λ (w : World). slice_get w.leaves y) world ∙ there)))
      by (Some j) e =
          let t = (threads.left i a a x out (itself i (at a))).whole own (was_own i a x out i own) in
          raises a x j y e lasts l new there now
          ∙ (most_same classes l.peaks new.slots l.slots (λ c. sym (places_same i y (at (x ∷ a)) (at a) new l now there t is c)) ∙ full a y l there)

  -- with the peaks of leaves that do not exit
  abbrev PeaksToo : ℕ → Tracked → Tracked → Type 0
  PeaksToo i g h = g.own i ≡ i → h.own i ≡ i → (y : ℕ) → g.own y ≡ i → Serves y → SamePeaks y g h

  abbrev Same : ℕ → Tracked → Tracked → Type 0
  Same i g h = IsAlike i g h × PeaksToo i g h

  left : (i : ℕ) (a b : List ℕ) (x : ℕ) → is_for i (who (at a) x) ≡ false → Same i (at a) (at b) → Same i (at (x ∷ a)) (at b)
  left i a b x out t = (
    threads.left i a b x out t.0,
    λ own other y is lasts new m now there. (
        let l = before a x y new now in
        else_same i y a x out own is lasts new l.0 now l.1 ∙ t.1 (was_own i a x out i own) other y (was_own i a x out y is) lasts l.0 m l.1 there),
  )

  right : (i : ℕ) (a b : List ℕ) (x : ℕ) → is_for i (who (at b) x) ≡ false → Same i (at a) (at b) → Same i (at a) (at (x ∷ b))
  right i a b x out t = (
    threads.right i a b x out t.0,
    λ own other y is lasts l new there now. (
        let m = before b x y new now in
        let s = (threads.right i a b x out t.0).whole own other in
        let is_new : (at (x ∷ b)).own y ≡ i = is_equal ((at (x ∷ b)).own y) i (sym (s.owned y) ∙ (ap (λ n. n == i) is ∙ equal_self i)) in
        t.1 own (was_own i b x out i other) y is lasts l m.0 there m.1 ∙ sym (else_same i y b x out other is_new lasts new m.0 now m.1)),
  )

  own : (i : ℕ) (a b : List ℕ) (x y : ℕ) → who (at a) x ≡ Some i → who (at b) y ≡ Some i → Same i (at a) (at b)
      → ((j : ℕ) → HasEnded j (at a) → HasEnded j (at b) → Same j (at a) (at b)) → Same i (at (x ∷ a)) (at (y ∷ b)) × (shows u (at a) x ≡ shows u (at b) y)
  own i a b x y is is_b t ends =
      let r = threads.own i a b x y is is_b t.0 (λ j e f. (ends j e f).0) in (
        (
          r.0,
          λ own other z is_z lasts new other_new now there.
              (let l = before a x z new now in
              let m = before b y z other_new there in
              let whole = r.0.whole own other in
              raises a x i z is lasts l.0 new l.1 now
              ∙ (ap (λ p. most classes p new.slots) (old whole z is_z lasts l.0 m.0 l.1 m.1)
              ∙ (most_same classes m.0.peaks new.slots other_new.slots
              (λ c. sym (places_same i z (at (x ∷ a)) (at (y ∷ b)) new other_new now there whole is_z c))
              ∙ sym (raises b y i z is_b lasts m.0 other_new m.1 there)))),
        ),
        r.1,
      )
    where
      before_step : IsSameThread i (at a) (at b)
      before_step = t.0.whole (lives_at a x i is) (lives_at b y i is_b)

      -- the peaks were the same, whosever the leaf was
      old : IsSameThread i (at (x ∷ a)) (at (y ∷ b)) → (z : ℕ) → (at (x ∷ a)).own z ≡ i → Serves z → SamePeaks z (at a) (at b)
      old whole z is_z lasts = elim (was_of a x i is z is_z) [
        | inl q ↦ t.1 (lives_at a x i is) (lives_at b y i is_b) z q lasts
        | inr q ↦
            let place = same_step i a b x y is is_b before_step in
            let other : (at (y ∷ b)).own x ≡ i = is_equal ((at (y ∷ b)).own x) i (sym (whole.owned x) ∙ (ap (λ n. n == i) q.3 ∙ equal_self i)) in
            let own_b : (at b).own x ≡ x = elim (was_of b y i is_b x other) [
              | inl e ↦ absurd (q.2 (sym q.1 ∙ is_equal ((at a).own x) i (before_step.owned x ∙ (ap (λ n. n == i) e ∙ equal_self i))))
              | inr e ↦ e.0 ∙ sym place
            ] in
            (ends x (ended_at a x i is q.2) (ended_at b x i (subst (λ n. who (at b) n ≡ Some i) (sym place) is_b) q.2)).1 q.1 own_b z q.0 lasts
      ]

  same_threads : AreThreads Tracked (ℕ × Event) (tracked_from w root) (tracked_turn u) who (shows u) Same HasEnded
  same_threads = record {
    begins = λ i. (threads.begins i, λ own other y is lasts l m e f. ap (λ (k : Leaf). k.peaks) (some_same (sym e ∙ f)));
    left = left;
    right = right;
    own = own;
    stops = threads.stops;
    ends = λ i a b t. threads.ends i a b t.0;
    ended = λ i a b t. threads.ended i a b t.0;
  }

  -- where all threads have ended in two runs each leaf has the same peaks
  pub peaks_ended : (y : ℕ) (a b : List ℕ) → ((i : ℕ) → HasEnded i (at a)) → ((i : ℕ) → HasEnded i (at b)) → Serves y → SamePeaks y (at a) (at b)
  peaks_ended y a b e f lasts =
      let i = (at a).own y in
      let own = (all_tracked u (all_pay (system s)) w root (good s sound w root first none) a).owned.whole y in
      (agree_ended Tracked (ℕ × Event) (tracked_from w root) (tracked_turn u) who (shows u) Same HasEnded same_threads i a b (e i) (f i)).0.1 own
      (same_owners u (all_pay (system s)) w root (good s sound w root first none) a b e f i own) y refl lasts
