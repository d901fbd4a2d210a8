-- A thread that has the same in two worlds has the same after a step of its own in both, and shows the same.
use Rattle.std.proofs.Common.{◌≡◌, ◌≢◌, ◌⊎◌, ℕ, ◌==◌, ◌&&◌, ◌||◌, inl, inr, Bool, true, false, cond, [], ◌∷◌, ◌++◌, Option, Some, None, Ok}
use Rattle.std.proofs.Common.{refl, ap, sym, ◌∙◌}
use Rattle.std.specs.Prelude.{option_map, slice_get}
use Rattle.std.proofs.lemmas.Bool.{true≢false}
use Rattle.std.proofs.lemmas.Bool.Decides.{eqb_tells}
use Rattle.gq_model.specs.machine.Scenario.{System, Component}
use Rattle.gq_model.specs.machine.World.{Leaf, World}
use Rattle.gq_model.specs.machine.Sums.{paid}
use Rattle.gq_model.specs.machine.Doing.{Event}
use Rattle.gq_model.specs.machine.Step.{first_signal, next}
use Rattle.gq_model.proofs.Small_facts.{none_some, some_none, some_same}
use Rattle.gq_laws.specs.Renamed.{renamed_leaf}
use Rattle.gq_determined.specs.internal.Threads.{Tracked, thread_by, who, more_of, stepped_to, works, works_for, has_work, seen, IsAtSame, IsSameThread}
use Rattle.gq_determined.proofs.thread_positions.Single_thread_position.{IsPlaced}
use Rattle.gq_determined.proofs.thread_positions.Turn_thread_position.{IsWorking, ServesSame, same_place}
use Rattle.gq_determined.proofs.thread_steps.Thread_reflexivity.{thread_itself}
use Rattle.gq_determined.proofs.thread_steps.Own_steps.{Goes}
use Rattle.gq_determined.proofs.thread_steps.Own_steps as own
use Rattle.gq_determined.proofs.thread_steps.Thread_step_frame.{seen_works, works_else, thread_new}
use Rattle.gq_determined.proofs.thread_steps.Stateless_thread_agreement.{IsStill, ReadSame, Solo, solo, BothGo, both_go}

and_false : (b : Bool) → (b && false) ≡ false
and_false true = refl
and_false false = refl

-- where a leaf takes a step for another thread, its `main` has ended
pub ended_of : (u : System) (g : Tracked) (t : IsPlaced u g) (i x : ℕ) → who g x ≡ Some i → x ≢ i → works g x x ≡ false
ended_of u g t i x is ne = by (same_place u g g t t i (thread_itself i g) x x is is).how
  where
    by : (IsWorking g i x × IsWorking g i x) ⊎ ServesSame u g g t t i (thread_itself i g) x → works g x x ≡ false
    by (inl w) = ap (works_for g.root x x) w.0.at.there
        ∙ (ap (λ b. has_work w.0.at.leaf.phase (first_signal w.0.at.leaf.signals) && b) out
        ∙ and_false (has_work w.0.at.leaf.phase (first_signal w.0.at.leaf.signals)))
      where
        out : (thread_by g.root x w.0.at.leaf.current == x) ≡ false
        out = elim (eqb_tells (thread_by g.root x w.0.at.leaf.current) x) [ inl q ↦ absurd (ne (sym q.1 ∙ w.0.at.thread)) | inr q ↦ q.0 ]
    by (inr w) = ap (works_for g.root x x) w.first.there
        ∙ (λ j. has_work (w.first.serves j) (w.first.idle j) && (thread_by g.root x w.first.leaf.current == x))

module _ (u : System) (pays : (z : World) → paid u z ≡ true) (g h : Tracked) (t : IsPlaced u g) (th : IsPlaced u h) (sg : IsStill g)
    (sh : IsStill h) (reads : ReadSame g.world h.world) (i x : ℕ) (s : IsSameThread i g h) (sx : g.own x ≢ i → IsSameThread (g.own x) g h)
    (is : who g x ≡ Some i)
    (is_h : who h x ≡ Some i)
    (component : Component) (placed : slice_get u.components x ≡ Some component) (new : World) (event : Event)
    (stepped : next u g.world x ≡ Ok (new, event)) where
  abbrev pub go : BothGo u pays g h t th sg reads i x is s sx component placed new event
  go = both_go u pays g h t th sg reads i x is s sx component placed (same_place u g h t th i s x x is is_h).how new event stepped

  module _ (r : BothGo u pays g h t th sg reads i x is s sx component placed new event) where
    abbrev v : World
    v = r.goes.other_new

    abbrev f : ℕ → ℕ
    f = own.f u pays g h t th i x s sx component r.a r.b r.there r.there_h

    abbrev g_new : Tracked
    g_new = stepped_to g x i (Ok (new, event))

    abbrev h_new : Tracked
    h_new = stepped_to h x i (Ok (v, event))

    one : Solo u pays g t sg i x is component placed new
    one = solo u pays g t sg i x is component placed new event stepped

    two : Solo u pays h th sh i x is_h component placed v
    two = solo u pays h th sh i x is_h component placed v event r.goes.goes

    abbrev c : ℕ → Bool
    c y = works g i y || y == x

    out_h : (y : ℕ) → c y ≡ false → (works h i y || y == x) ≡ false
    out_h y e = ap (λ b. b || y == x) (sym (s.leaves y)) ∙ e

    in_h : (y : ℕ) → c y ≡ true → (works h i y || y == x) ≡ true
    in_h y e = ap (λ b. b || y == x) (sym (s.leaves y)) ∙ e

    leaves_in : (y : ℕ) → c y ≡ true → works g_new i y ≡ works h_new i y
    leaves_in y ours = by (slice_get new.leaves y) (slice_get v.leaves y) refl refl (r.goes.related.at y ours)
      where
        of : (l m : Leaf) → slice_get new.leaves y ≡ Some l → slice_get v.leaves y ≡ Some m → (b : Bool)
            → has_work l.phase (first_signal l.signals) ≡ b → has_work m.phase (first_signal m.signals) ≡ b
            → (has_work l.phase (first_signal l.signals) && (thread_by g_new.root y l.current == i))
            ≡ (has_work m.phase (first_signal m.signals) && (thread_by h_new.root y m.current == i))
        of l m at at_m false act act_m =
            ap (λ b. b && (thread_by g_new.root y l.current == i)) act ∙ sym (ap (λ b. b && (thread_by h_new.root y m.current == i)) act_m)
        of l m at at_m true act act_m =
            let p = thread_new u g t i x component one.a one.there new one.done y ours l at act in
            let q = thread_new u h th i x component two.a two.there v two.done y (in_h y ours) m at_m act_m in
            (λ e. (act e && (p e == i))) ∙ sym (λ e. (act_m e && (q e == i)))

        none_some_same : (o p : Option Leaf) → slice_get new.leaves y ≡ o → slice_get v.leaves y ≡ p
            → option_map seen p ≡ option_map (λ l. renamed_leaf f (seen l)) o → works_for g_new.root i y o ≡ works_for h_new.root i y p
        none_some_same None None at at_p e = refl
        none_some_same None (Some m) at at_p e = absurd (some_none e)
        none_some_same (Some l) None at at_p e = absurd (none_some e)
        none_some_same (Some l) (Some m) at at_p e =
            let same : has_work m.phase (first_signal m.signals) ≡ has_work l.phase (first_signal l.signals)
            = sym (seen_works m) ∙ (ap (λ (l : Leaf). has_work l.phase (first_signal l.signals)) (some_same e) ∙ seen_works l) in
            of l m at at_p (has_work l.phase (first_signal l.signals)) refl same

        by : (o p : Option Leaf) → slice_get new.leaves y ≡ o → slice_get v.leaves y ≡ p → IsAtSame f y new v
            → works_for g_new.root i y (slice_get new.leaves y) ≡ works_for h_new.root i y (slice_get v.leaves y)
        by o p at at_p same =
            ap (works_for g_new.root i y) at
            ∙ (none_some_same o p at at_p (ap (option_map seen) (sym at_p) ∙ (same ∙ ap (option_map (λ l. renamed_leaf f (seen l))) at))
            ∙ sym (ap (works_for h_new.root i y) at_p))

    leaves_out : (y : ℕ) → c y ≡ false → works g_new i y ≡ works h_new i y
    leaves_out y out =
        works_else u g t i x component one.a one.there new one.done i y out
        ∙ (s.leaves y ∙ sym (works_else u h th i x component two.a two.there v two.done i y (out_h y out)))

    leaves_same : (y : ℕ) → works g_new i y ≡ works h_new i y
    leaves_same y = by (c y) refl
      where
        by : (b : Bool) → c y ≡ b → works g_new i y ≡ works h_new i y
        by true e = leaves_in y e
        by false e = leaves_out y e

    or_left : (b c : Bool) → (b || c) ≡ false → b ≡ false
    or_left true c e = e
    or_left false c e = refl

    in_c : (y : ℕ) → works g_new i y ≡ true → c y ≡ true
    in_c y w = by (c y) refl
      where
        by : (b : Bool) → c y ≡ b → c y ≡ true
        by true e = e
        by false e = absurd (true≢false (sym w ∙ (works_else u g t i x component one.a one.there new one.done i y e ∙ or_left (works g i y) (y == x) e)))

    pub same_after : IsSameThread i g_new h_new
    same_after = record {
      f = f;
      owned = s.owned;
      leaves = leaves_same;
      alike = λ y w. r.goes.related.at y (in_c y w);
      region = r.goes.related.regions i (inl refl);
      wrote = wrote;
    }
      where
        wrote : (y : ℕ) → g.own y ≡ i → more_of g.wrote x (g.own x == i) event y ≡ more_of h.wrote x (h.own x == i) event y
        wrote y is = λ e. cond (y == x && s.owned x e) (s.wrote y is e ++ event ∷ []) (s.wrote y is e)
