-- Two steps that ask no server the same come to worlds in which all threads have the same, in either order.
use Rattle.std.proofs.Common.{◌≡◌, ◌≢◌, ◌⊎◌, inl, inr, ℕ, suc, ◌==◌, Bool, true, ◌++◌, List, [], ◌∷◌, Some}
use Rattle.std.proofs.Common.{refl, ap, sym, ◌∙◌, subst}
use Rattle.std.specs.Prelude.{slice_get, slice_set, slice_index, sum_by}
use Rattle.std.proofs.lemmas.Bool.Decides.{eqb_tells}
use Rattle.std.proofs.lemmas.List.{append-nil}
use Rattle.gq_tariff.specs.Prices.{classes}
use Rattle.gq_model.specs.declared.phase.Phase.TheVariants.{Serving}
use Rattle.gq_model.specs.declared.program.Instruction.{Instruction}
use Rattle.gq_model.specs.machine.Scenario.{Component, Scenario, System, system}
use Rattle.gq_model.specs.machine.Sums.{slot_places}
use Rattle.gq_model.specs.machine.World.{Leaf, World}
use Rattle.gq_model.proofs.Small_facts.{some_same, equal_self}
use Rattle.gq_laws.specs.Sound_scenarios.{IsSound}
use Rattle.gq_laws.specs.Turn_effects.{steps_of}
use Rattle.gq_laws.specs.internal.Uncounted.{uncounted}
use Rattle.gq_determined.specs.internal.Threads.{Tracked, who, IsSameThread}
use Rattle.gq_determined.proofs.rest_accounts.Peaks_same.{most, most_same}
use Rattle.gq_determined.proofs.thread_positions.Turn_thread_position.{IsWorking, ServesSame, same_place}
use Rattle.gq_determined.proofs.thread_positions.First_request_given.{equal_of, working_serving}
use Rattle.gq_determined.proofs.thread_runs.Remaining_section_statements.{AreSections, Lefts}
use Rattle.gq_determined.proofs.thread_steps.Thread_reflexivity.{thread_itself}
use Rattle.gq_outcomes.proofs.complete.Held_worlds.{AreQuiet, Held, view}
use Rattle.gq_outcomes.proofs.complete.Order_of_requests.{asked_of, roots_to}
use Rattle.gq_outcomes.proofs.complete.Order_steps.{IsOrdered, ordered}
use Rattle.gq_outcomes.proofs.complete.Alike_held.{AreOne, IsGood, Serves, asked_same, end, frame_left, frame_right, full, good_end, leaf_before, leaf_end}
use Rattle.gq_outcomes.proofs.complete.Alike_held.{own_back, own_kept, own_x, raises, shown, shows_same, slots_same, steps_end, thread_end}
use Rattle.gq_outcomes.proofs.complete.Two_orders.{apart, index_else, not_leaf, set_both}
use Rattle.gq_outcomes.proofs.complete.Unsubmitted_signals.{Unsubmitted, goes_on}

both_same : {A : Type 0} (l a b : List A) → (a ≡ []) ⊎ (b ≡ []) → (l ++ a) ++ b ≡ (l ++ b) ++ a
both_same l a b (inl e) = ap (λ a. (l ++ a) ++ b) e ∙ (ap (λ l. l ++ b) (append-nil l) ∙ (sym (append-nil (l ++ b)) ∙ sym (ap (λ a. (l ++ b) ++ a) e)))
both_same l a b (inr e) = ap (λ b. (l ++ a) ++ b) e ∙ (append-nil (l ++ a) ∙ (ap (λ l. l ++ a) (sym (append-nil l)) ∙ sym (ap (λ b. (l ++ b) ++ a) e)))

cons_tail : {i : ℕ} {a b : List ℕ} → i ∷ a ≡ i ∷ b → a ≡ b
cons_tail e = cc

module _ (s : Scenario) (sound : IsSound s) (holds : ℕ → Bool) (P : ℕ → Component → Bool → Instruction → Type 0)
    (sections : AreSections P (uncounted (system s))) (quiet_of : (w : World) → Lefts P (uncounted (system s)) w → AreQuiet holds w) where
  abbrev u : System
  u = uncounted (system s)

  abbrev G : Held → Type 0
  G m = IsGood s sound holds P sections quiet_of m

  abbrev One : Held → Held → Type 0
  One m n = AreOne s sound holds P sections quiet_of m n

  abbrev E : (m : Held) (h : G m) (i x : ℕ) → who (view m) x ≡ Some i → Held
  E m h i x is = end s sound holds P sections quiet_of m h i x is

  abbrev good : (m : Held) (h : G m) (i x : ℕ) (is : who (view m) x ≡ Some i) → G (E m h i x is)
  good m h i x is = good_end s sound holds P sections quiet_of m h i x is

  abbrev Srv : ℕ → Type 0
  Srv y = Serves s sound holds P sections quiet_of y

  -- a step for a thread that does not own a leaf leaves its peaks
  peaks_left : (m : Held) (h : G m) (j y : ℕ) (is : who (view m) y ≡ Some j) (z : ℕ) → Srv z → m.hold z ≢ j → m.hold z ≢ y
      → (l k : Leaf) → slice_get m.world.leaves z ≡ Some l → slice_get (E m h j y is).world.leaves z ≡ Some k
      → ((c : ℕ) → sum_by (slot_places c) k.slots ≡ sum_by (slot_places c) l.slots) × (k.peaks ≡ l.peaks)
  peaks_left m h j y is z serves nj ny l k at now =
      let t = frame_right s sound holds P sections quiet_of m h j y is (m.hold z) nj ny m (thread_itself (m.hold z) (view m)) in
      let sums = slots_same s sound holds P sections quiet_of (m.hold z) z m (E m h j y is) l k at now t refl in (
        sums,
        raises s sound holds P sections quiet_of m h j y is z serves l k at now
            ∙ (sym (most_same classes l.peaks l.slots k.slots (λ c. sym (sums c))) ∙ full s sound holds P sections quiet_of m h z l at),
      )

  module _ (m : Held) (h : G m) (i x : ℕ) (is : who (view m) x ≡ Some i) (j y : ℕ) (is_y : who (view m) y ≡ Some j) (ne : x ≢ y)
      (y_then : who (view (E m h i x is)) y ≡ Some j) (x_then : who (view (E m h j y is_y)) x ≡ Some i) where
    abbrev mx : Held
    mx = E m h i x is

    abbrev my : Held
    my = E m h j y is_y

    abbrev hx : G mx
    hx = good m h i x is

    abbrev hy : G my
    hy = good m h j y is_y

    abbrev pub mxy : Held
    mxy = E mx hx j y y_then

    abbrev pub myx : Held
    myx = E my hy i x x_then

    abbrev hxy : G mxy
    hxy = good mx hx j y y_then

    i_j : i ≢ j
    i_j = apart s sound holds P sections quiet_of m h i x j y is is_y ne

    j_i : j ≢ i
    j_i e = i_j (sym e)

    j_x : j ≢ x
    j_x = not_leaf s sound holds P sections quiet_of m h i x j y is is_y ne

    i_y : i ≢ y
    i_y = not_leaf s sound holds P sections quiet_of m h j y i x is_y is (λ e. ne (sym e))

    y_x : y ≢ x
    y_x e = ne (sym e)

    x_j : x ≢ j
    x_j e = j_x (sym e)

    y_i : y ≢ i
    y_i e = i_y (sym e)

    -- what the other step leaves
    left_x : (k : ℕ) → k ≢ i → k ≢ x → IsSameThread k (view m) (view mx)
    left_x k ni nx = frame_right s sound holds P sections quiet_of m h i x is k ni nx m (thread_itself k (view m))

    back_x : (k : ℕ) → k ≢ i → k ≢ x → IsSameThread k (view mx) (view m)
    back_x k ni nx = frame_left s sound holds P sections quiet_of m h i x is k ni nx m (thread_itself k (view m))

    left_y : (k : ℕ) → k ≢ j → k ≢ y → IsSameThread k (view m) (view my)
    left_y k nj ny = frame_right s sound holds P sections quiet_of m h j y is_y k nj ny m (thread_itself k (view m))

    -- the same step, before the other or after
    i_then : IsSameThread i (view mx) (view myx)
    i_then =
        thread_end s sound holds P sections quiet_of m my h hy i x is x_then (left_y i i_j i_y) (λ own own_n n. left_y x x_j ne)

    j_then : IsSameThread j (view mxy) (view my)
    j_then =
        thread_end s sound holds P sections quiet_of mx m hx h j y y_then is_y (back_x j j_i j_x) (λ own own_n n. back_x y y_i y_x)

    x_leaf : x ≢ i → mx.hold x ≡ x → IsSameThread x (view mx) (view myx)
    x_leaf = leaf_end s sound holds P sections quiet_of m my h hy i x is x_then (left_y i i_j i_y) (λ own own_n n. left_y x x_j ne)

    y_leaf : y ≢ j → mxy.hold y ≡ y → IsSameThread y (view mxy) (view my)
    y_leaf = leaf_end s sound holds P sections quiet_of mx m hx h j y y_then is_y (back_x j j_i j_x) (λ own own_n n. back_x y y_i y_x)

    pub show_x : shown s sound holds P sections quiet_of m h i x is ≡ shown s sound holds P sections quiet_of my hy i x x_then
    show_x = shows_same s sound holds P sections quiet_of m my h hy i x is x_then (left_y i i_j i_y) (λ own own_n n. left_y x x_j ne)

    pub show_y : shown s sound holds P sections quiet_of mx hx j y y_then ≡ shown s sound holds P sections quiet_of m h j y is_y
    show_y = shows_same s sound holds P sections quiet_of mx m hx h j y y_then is_y (back_x j j_i j_x) (λ own own_n n. back_x y y_i y_x)

    pub asked_then : (z : ℕ) → asked_of mx i z ≡ asked_of myx i z
    asked_then z = asked_same s sound holds P sections quiet_of mx myx hx i z i_then

    pub asked_y : (z : ℕ) → asked_of mxy j z ≡ asked_of my j z
    asked_y z = asked_same s sound holds P sections quiet_of mxy my hxy j z j_then

    pub asked_x : (z : ℕ) → asked_of mx i z ≡ asked_of mxy i z
    asked_x z = asked_same s sound holds P sections quiet_of mx mxy hx i z
        (frame_right s sound holds P sections quiet_of mx hx j y y_then i i_j i_y mx (thread_itself i (view mx)))

    same_both : (k : ℕ) → mxy.hold k ≡ k → IsSameThread k (view mxy) (view myx)
    same_both k own = elim (eqb_tells k i) [
      | inl q ↦ subst (λ k. IsSameThread k (view mxy) (view myx)) (sym q.1)
          (frame_left s sound holds P sections quiet_of mx hx j y y_then i i_j i_y myx i_then)
      | inr qi ↦ elim (eqb_tells k j) [
        | inl q ↦ subst (λ k. IsSameThread k (view mxy) (view myx)) (sym q.1)
            (frame_right s sound holds P sections quiet_of my hy i x x_then j j_i j_x mxy j_then)
        | inr qj ↦ elim (eqb_tells k x) [
          | inl q ↦ subst (λ k. IsSameThread k (view mxy) (view myx)) (sym q.1)
              (let own_x = ap mxy.hold (sym q.1) ∙ (own ∙ q.1) in
              frame_left s sound holds P sections quiet_of mx hx j y y_then x x_j ne myx
              (x_leaf (λ e. qi.1 (q.1 ∙ e)) (own_back s sound holds P sections quiet_of mx hx j y y_then x ne own_x)))
          | inr qx ↦ elim (eqb_tells k y) [
            | inl q ↦ subst (λ k. IsSameThread k (view mxy) (view myx)) (sym q.1)
                (let own_y = ap mxy.hold (sym q.1) ∙ (own ∙ q.1) in
                frame_right s sound holds P sections quiet_of my hy i x x_then y y_i y_x mxy (y_leaf (λ e. qj.1 (q.1 ∙ e)) own_y))
            | inr qy ↦
                frame_left s sound holds P sections quiet_of mx hx j y y_then k qj.1 qy.1 myx
                (frame_left s sound holds P sections quiet_of m h i x is k qi.1 qx.1 myx
                (frame_right s sound holds P sections quiet_of my hy i x x_then k qi.1 qx.1 m (left_y k qj.1 qy.1)))
          ]
        ]
      ]
    ]

    back_both : (k : ℕ) → myx.hold k ≡ k → mxy.hold k ≡ k
    back_both k own = elim (eqb_tells k x) [
      | inl q ↦
          let own_x0 = ap myx.hold (sym q.1) ∙ (own ∙ q.1) in
          ap mxy.hold q.1 ∙ (own_kept s sound holds P sections quiet_of mx hx j y y_then x ne (at_x own_x0) ∙ sym q.1)
      | inr qx ↦ elim (eqb_tells k y) [
        | inl q ↦
            let own_y0 = ap myx.hold (sym q.1) ∙ (own ∙ q.1) in
            ap mxy.hold q.1 ∙ (at_y (own_back s sound holds P sections quiet_of my hy i x x_then y y_x own_y0) ∙ sym q.1)
        | inr qy ↦
            own_kept s sound holds P sections quiet_of mx hx j y y_then k qy.1
            (own_kept s sound holds P sections quiet_of m h i x is k qx.1
            (own_back s sound holds P sections quiet_of m h j y is_y k qy.1
            (own_back s sound holds P sections quiet_of my hy i x x_then k qx.1 own)))
      ]
    ]
      where
        at_x : myx.hold x ≡ x → mx.hold x ≡ x
        at_x own = elim (own_x s sound holds P sections quiet_of m h i x is) [
          | inr e ↦ e
          | inl e ↦
              let other : myx.hold x ≡ i = equal_of _ _ (sym (i_then.owned x) ∙ (ap (λ a. a == i) e ∙ equal_self i)) in
              e ∙ (sym other ∙ own)
        ]

        at_y : my.hold y ≡ y → mxy.hold y ≡ y
        at_y own = elim (own_x s sound holds P sections quiet_of mx hx j y y_then) [
          | inr e ↦ e
          | inl e ↦
              let other : my.hold y ≡ j = equal_of _ _ (sym (j_then.owned y) ∙ (ap (λ a. a == j) e ∙ equal_self j)) in
              e ∙ (sym other ∙ own)
        ]

    steps_both : steps_of mxy.world ≡ steps_of myx.world
    steps_both =
        let l = steps_of m.world in
        let ex : steps_of mx.world ≡ slice_set l x (suc (slice_index l x)) = steps_end s sound holds P sections quiet_of m h i x is in
        let ey : steps_of my.world ≡ slice_set l y (suc (slice_index l y)) = steps_end s sound holds P sections quiet_of m h j y is_y in
        steps_end s sound holds P sections quiet_of mx hx j y y_then
        ∙ ((λ e. slice_set (ex e) y (suc (slice_index (ex e) y)))
        ∙ (ap (λ n. slice_set (slice_set l x (suc (slice_index l x))) y (suc n)) (index_else l x y (suc (slice_index l x)) ne)
        ∙ (set_both l x y (suc (slice_index l x)) (suc (slice_index l y)) ne
        ∙ (ap (λ n. slice_set (slice_set l y (suc (slice_index l y))) x (suc n)) (sym (index_else l y x (suc (slice_index l y)) y_x))
        ∙ (sym (λ e. slice_set (ey e) x (suc (slice_index (ey e) x))) ∙ sym (steps_end s sound holds P sections quiet_of my hy i x x_then))))))

    -- the peaks where the second thread does not own the leaf
    peaks_half : (z : ℕ) → Srv z → m.hold z ≢ j → m.hold z ≢ y → (l k : Leaf) → slice_get mxy.world.leaves z ≡ Some l → slice_get myx.world.leaves z ≡ Some k
        → ((c : ℕ) → sum_by (slot_places c) k.slots ≡ sum_by (slot_places c) l.slots) → l.peaks ≡ k.peaks
    peaks_half z serves nj ny l k at at_k sums =
        let l1 = leaf_before s sound holds P sections quiet_of mx hx j y y_then z l at in
        let k1 = leaf_before s sound holds P sections quiet_of my hy i x x_then z k at_k in
        let l0 = leaf_before s sound holds P sections quiet_of m h i x is z l1.0 l1.1 in
        let first = peaks_left mx hx j y y_then z serves (other j j_i j_x nj) (other y y_i y_x ny) l1.0 l l1.1 at in
        let second = peaks_left m h j y is_y z serves nj ny l0.0 k1.0 l0.1 k1.1 in
        first.1 ∙ (raises s sound holds P sections quiet_of m h i x is z serves l0.0 l1.0 l0.1 l1.1
        ∙ (most_same classes l0.0.peaks l1.0.slots k.slots (λ c. sym (sums c ∙ first.0 c))
        ∙ (ap (λ p. most classes p k.slots) (sym second.1) ∙ sym (raises s sound holds P sections quiet_of my hy i x x_then z serves k1.0 k k1.1 at_k))))
      where
        other : (n : ℕ) → n ≢ i → n ≢ x → m.hold z ≢ n → mx.hold z ≢ n
        other n ni nx not e =
            not (equal_of _ _ ((left_x n ni nx).owned z ∙ (ap (λ a. a == n) e ∙ equal_self n)))

    order_both : (z : ℕ) → (asked_of mx i z ≡ []) ⊎ (asked_of my j z ≡ []) → roots_to mxy z ≡ roots_to myx z
    order_both z free = elim (eqb_tells z x) [
      | inl q ↦ ap (roots_to mxy) q.1 ∙ (at_x (same_place u (view m) (view my) h.held.placed hy.held.placed i (left_y i i_j i_y) x x is x_then).how q.1
          ∙ sym (ap (roots_to myx) q.1))
      | inr qx ↦ elim (eqb_tells z y) [
        | inl q ↦ ap (roots_to mxy) q.1 ∙ (at_y (same_place u (view m) (view mx) h.held.placed hx.held.placed j (left_x j j_i j_x) y y is_y y_then).how q.1
            ∙ sym (ap (roots_to myx) q.1))
        | inr qy ↦
            oxy.else z qy.1 ∙ (ap (λ l. l ++ asked_of mxy j z) (ox.else z qx.1)
            ∙ (ap (λ b. (roots_to m z ++ asked_of mx i z) ++ b) (b_same z)
            ∙ (both_same (roots_to m z) (asked_of mx i z) (asked_of my j z) free
            ∙ (ap (λ a. (roots_to m z ++ asked_of my j z) ++ a) (a_same z)
            ∙ (ap (λ l. l ++ asked_of myx i z) (sym (oy.else z qy.1)) ∙ sym (oyx.else z qx.1))))))
      ]
    ]
      where
        ox : IsOrdered s sound holds P sections quiet_of m h i x is
        ox = ordered s sound holds P sections quiet_of m h i x is

        oy : IsOrdered s sound holds P sections quiet_of m h j y is_y
        oy = ordered s sound holds P sections quiet_of m h j y is_y

        oxy : IsOrdered s sound holds P sections quiet_of mx hx j y y_then
        oxy = ordered s sound holds P sections quiet_of mx hx j y y_then

        oyx : IsOrdered s sound holds P sections quiet_of my hy i x x_then
        oyx = ordered s sound holds P sections quiet_of my hy i x x_then

        a_same : (z : ℕ) → asked_of mx i z ≡ asked_of myx i z
        a_same z = asked_same s sound holds P sections quiet_of mx myx hx i z i_then

        b_same : (z : ℕ) → asked_of mxy j z ≡ asked_of my j z
        b_same z = asked_same s sound holds P sections quiet_of mxy my hxy j z j_then

        busy : (g : Tracked) → Unsubmitted g.world → (k z : ℕ) → (w : IsWorking g k z) → (l : Leaf) → slice_get g.world.leaves z ≡ Some l
            → l.phase ≡ Serving → ⊥
        busy g calm k z w l at e = working_serving w.at.leaf.phase (goes_on g calm k z w) (ap (λ (l : Leaf). l.phase) (some_same (sym w.at.there ∙ at)) ∙ e)

        at_x : (IsWorking (view m) i x × IsWorking (view my) i x) ⊎ ServesSame u (view m) (view my) h.held.placed hy.held.placed i (left_y i i_j i_y) x → z ≡ x
            → roots_to mxy x ≡ roots_to myx x
        at_x how is_z = by how
          where
            free_x : (asked_of mx i x ≡ []) ⊎ (asked_of my j x ≡ [])
            free_x = elim free [ inl e ↦ inl (ap (asked_of mx i) (sym is_z) ∙ e) | inr e ↦ inr (ap (asked_of my j) (sym is_z) ∙ e) ]

            by : (IsWorking (view m) i x × IsWorking (view my) i x) ⊎ ServesSame u (view m) (view my) h.held.placed hy.held.placed i (left_y i i_j i_y) x
                → roots_to mxy x ≡ roots_to myx x
            by (inl w) =
                oxy.else x ne ∙ (ap (λ l. l ++ asked_of mxy j x) (ox.works_on (busy (view m) h.held.calm i x w.0) x)
                ∙ (ap (λ b. (roots_to m x ++ asked_of mx i x) ++ b) (b_same x)
                ∙ (both_same (roots_to m x) (asked_of mx i x) (asked_of my j x) free_x
                ∙ (ap (λ a. (roots_to m x ++ asked_of my j x) ++ a) (a_same x)
                ∙ (ap (λ l. l ++ asked_of myx i x) (sym (oy.else x ne)) ∙ sym (oyx.works_on (busy (view my) hy.held.calm i x w.1) x))))))
            by (inr p) = cons_tail
                (ap (λ l. i ∷ l) (oxy.else x ne) ∙ (ap (λ l. l ++ asked_of mxy j x) (sym (ox.takes p.first.leaf p.first.there p.first.serves))
                ∙ (ap (λ b. (roots_to m x ++ asked_of mx i x) ++ b) (b_same x)
                ∙ (both_same (roots_to m x) (asked_of mx i x) (asked_of my j x) free_x
                ∙ (ap (λ a. (roots_to m x ++ asked_of my j x) ++ a) (a_same x)
                ∙ (ap (λ l. l ++ asked_of myx i x) (sym (oy.else x ne)) ∙ oyx.takes p.other.leaf p.other.there p.other.serves))))))

        at_y : (IsWorking (view m) j y × IsWorking (view mx) j y) ⊎ ServesSame u (view m) (view mx) h.held.placed hx.held.placed j (left_x j j_i j_x) y → z ≡ y
            → roots_to mxy y ≡ roots_to myx y
        at_y how is_z = by how
          where
            free_y : (asked_of mx i y ≡ []) ⊎ (asked_of my j y ≡ [])
            free_y = elim free [ inl e ↦ inl (ap (asked_of mx i) (sym is_z) ∙ e) | inr e ↦ inr (ap (asked_of my j) (sym is_z) ∙ e) ]

            by : (IsWorking (view m) j y × IsWorking (view mx) j y) ⊎ ServesSame u (view m) (view mx) h.held.placed hx.held.placed j (left_x j j_i j_x) y
                → roots_to mxy y ≡ roots_to myx y
            by (inl w) =
                oxy.works_on (busy (view mx) hx.held.calm j y w.1) y ∙ (ap (λ l. l ++ asked_of mxy j y) (ox.else y y_x)
                ∙ (ap (λ b. (roots_to m y ++ asked_of mx i y) ++ b) (b_same y)
                ∙ (both_same (roots_to m y) (asked_of mx i y) (asked_of my j y) free_y
                ∙ (ap (λ a. (roots_to m y ++ asked_of my j y) ++ a) (a_same y)
                ∙ (ap (λ l. l ++ asked_of myx i y) (sym (oy.works_on (busy (view m) h.held.calm j y w.0) y)) ∙ sym (oyx.else y y_x))))))
            by (inr p) = cons_tail
                (sym (oxy.takes p.other.leaf p.other.there p.other.serves) ∙ (ap (λ l. l ++ asked_of mxy j y) (ox.else y y_x)
                ∙ (ap (λ b. (roots_to m y ++ asked_of mx i y) ++ b) (b_same y)
                ∙ (both_same (roots_to m y) (asked_of mx i y) (asked_of my j y) free_y
                ∙ (ap (λ a. (roots_to m y ++ asked_of my j y) ++ a) (a_same y)
                ∙ (ap (λ l. l ++ asked_of myx i y) (oy.takes p.first.leaf p.first.there p.first.serves) ∙ ap (λ l. j ∷ l) (sym (oyx.else y y_x))))))))

  -- either order
  pub either : (m : Held) (h : G m) (i x : ℕ) (is : who (view m) x ≡ Some i) (j y : ℕ) (is_y : who (view m) y ≡ Some j) (ne : x ≢ y)
      (y_then : who (view (E m h i x is)) y ≡ Some j) (x_then : who (view (E m h j y is_y)) x ≡ Some i)
      → ((z : ℕ) → holds z ≡ true → (asked_of (E m h i x is) i z ≡ []) ⊎ (asked_of (E m h j y is_y) j z ≡ []))
      → One (mxy m h i x is j y is_y ne y_then x_then) (myx m h i x is j y is_y ne y_then x_then)
  either m h i x is j y is_y ne y_then x_then free = record {
    same = same_both m h i x is j y is_y ne y_then x_then;
    back = back_both m h i x is j y is_y ne y_then x_then;
    steps = steps_both m h i x is j y is_y ne y_then x_then;
    peaks = peaks;
    order = λ z can. order_both m h i x is j y is_y ne y_then x_then z (free z can);
  }
    where
      a : Held
      a = mxy m h i x is j y is_y ne y_then x_then

      b : Held
      b = myx m h i x is j y is_y ne y_then x_then

      sums : (z : ℕ) (l k : Leaf) → slice_get a.world.leaves z ≡ Some l → slice_get b.world.leaves z ≡ Some k
          → (c : ℕ) → sum_by (slot_places c) k.slots ≡ sum_by (slot_places c) l.slots
      sums z l k at at_k =
          slots_same s sound holds P sections quiet_of (a.hold z) z a b l k at at_k
          (same_both m h i x is j y is_y ne y_then x_then (a.hold z)
          ((good (E m h i x is) (good m h i x is) j y y_then).held.whole z)) refl

      y_half : (z : ℕ) → Srv z → (m.hold z ≡ j) ⊎ (m.hold z ≡ y) → (l k : Leaf) → slice_get a.world.leaves z ≡ Some l → slice_get b.world.leaves z ≡ Some k
          → l.peaks ≡ k.peaks
      y_half z serves o l k at at_k =
          sym (peaks_half m h j y is_y i x is (λ e. ne (sym e)) x_then y_then z serves (not i i_j2 i_y2) (not x x_j2 ne) k l at_k at
          (λ c. sym (sums z l k at at_k c)))
        where
          i_j2 : i ≢ j
          i_j2 = apart s sound holds P sections quiet_of m h i x j y is is_y ne

          i_y2 : i ≢ y
          i_y2 = not_leaf s sound holds P sections quiet_of m h j y i x is_y is (λ e. ne (sym e))

          x_j2 : x ≢ j
          x_j2 e = not_leaf s sound holds P sections quiet_of m h i x j y is is_y ne (sym e)

          not : (n : ℕ) → n ≢ j → n ≢ y → m.hold z ≢ n
          not n nj ny e = elim o [ inl q ↦ nj (sym e ∙ q) | inr q ↦ ny (sym e ∙ q) ]

      peaks : (z : ℕ) → Srv z → (l k : Leaf) → slice_get a.world.leaves z ≡ Some l → slice_get b.world.leaves z ≡ Some k → l.peaks ≡ k.peaks
      peaks z serves l k at at_k = elim (eqb_tells (m.hold z) j) [
        | inl q ↦ y_half z serves (inl q.1) l k at at_k
        | inr qj ↦ elim (eqb_tells (m.hold z) y) [
          | inl q ↦ y_half z serves (inr q.1) l k at at_k
          | inr qy ↦ peaks_half m h i x is j y is_y ne y_then x_then z serves qj.1 qy.1 l k at at_k (sums z l k at at_k)
        ]
      ]
