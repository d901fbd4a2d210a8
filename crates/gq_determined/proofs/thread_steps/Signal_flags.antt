-- The signals of leaves in a step, and over any number of them: a step takes one or none, and submits none.
use Rattle.std.proofs.Common.{◌≡◌, ◌⊎◌, ℕ, suc, inl, inr, Bool, true, false, cond, List, [], ◌∷◌, Option, Some, None, Ok, is_some}
use Rattle.std.proofs.Common.{refl, ap, sym, ◌∙◌, subst}
use Rattle.std.specs.Prelude.{option_map, slice_get, slice_set}
use Rattle.std.proofs.lemmas.Bool.{true≢false}
use Rattle.std.proofs.lemmas.Bool.Decides.{eqb_tells}
use Rattle.std.proofs.lemmas.Option.{slice_get-map}
use Rattle.gq_model.specs.declared.phase.Phase.{Phase}
use Rattle.gq_model.specs.declared.phase.Phase.TheVariants.{Pending, Running, Blocked, Serving, Handling, Exited}
use Rattle.gq_model.specs.machine.Scenario.{System}
use Rattle.gq_model.specs.machine.World.{Signal, Leaf, World}
use Rattle.gq_model.specs.machine.Doing.{Event, Idle, Stepped}
use Rattle.gq_model.specs.machine.Rest.{can_run}
use Rattle.gq_model.specs.machine.Step.{later_signal, first_signal, next}
use Rattle.gq_model.proofs.Small_facts.{none_some, some_same}
use Rattle.gq_laws.specs.Progress.{once_taken}
use Rattle.gq_laws.specs.Turn_effects.{signals_of, signals_if, signals_then}
use Rattle.gq_laws.proofs.session_links.Written_world_links.{set_else}
use Rattle.gq_laws.proofs.step_shapes.Step_counting.{leaf_runs, stands_still, takes_signals}
use Rattle.gq_determined.proofs.regions.Region_changes.{put_at}

-- ONE STEP

-- a leaf has the signals that it had, or those that it had without the first that was submitted
pub record Changed (w : World) (y : ℕ) (l : Leaf) : Type 0 where
  pub old : Leaf
  pub there : slice_get w.leaves y ≡ Some old
  pub how : (l.signals ≡ old.signals) ⊎ ((p : ℕ × List Signal) × (first_signal old.signals ≡ Some p) × (l.signals ≡ p.1))

abbrev sig : Leaf → List Signal
sig leaf = leaf.signals

mapped : (o : Option Leaf) (s : List Signal) → option_map sig o ≡ Some s → (m : Leaf) × (o ≡ Some m) × (m.signals ≡ s)
mapped None s e = absurd (none_some e)
mapped (Some m) s e = (m, refl, some_same e)

of_world : (w : World) (y : ℕ) → slice_get (signals_of w) y ≡ option_map sig (slice_get w.leaves y)
of_world w y = slice_get-map sig w.leaves y

then_how : (leaf : Leaf) (p : Phase) (l : List Signal) → l ≡ signals_then leaf p
    → (l ≡ leaf.signals) ⊎ ((q : ℕ × List Signal) × (first_signal leaf.signals ≡ Some q) × (l ≡ q.1))
then_how leaf Serving l e = by (first_signal leaf.signals) refl e
  where
    by : (o : Option (ℕ × List Signal)) → first_signal leaf.signals ≡ o → l ≡ signals_if leaf.signals o
        → (l ≡ leaf.signals) ⊎ ((q : ℕ × List Signal) × (first_signal leaf.signals ≡ Some q) × (l ≡ q.1))
    by None f e = inl e
    by (Some q) f e = inr (q, f, e)
then_how leaf Pending l e = inl e
then_how leaf Running l e = inl e
then_how leaf Blocked l e = inl e
then_how leaf Handling l e = inl e
then_how leaf Exited l e = inl e

pub signals_after : (system : System) (w : World) (x : ℕ) (new : World) (event : Event) → next system w x ≡ Ok (new, event) → (y : ℕ) (l : Leaf)
    → slice_get new.leaves y ≡ Some l → Changed w y l
signals_after system w x new event stepped y l at = by (can_run system w x) refl
  where
    new_world : (a b : World × Event) → ◌≡◌ {A = Stepped} (Ok a) (Ok b) → a ≡ b
    new_world a b e = cc

    by : (b : Bool) → can_run system w x ≡ b → Changed w y l
    by false can =
        let same = ap (λ (p : World × Event). p.0) (new_world (w, Idle) (new, event) (sym (stands_still system w x can) ∙ stepped)) in
        record { old = l; there = ap (λ (w : World). slice_get w.leaves y) same ∙ at; how = inl refl }
    by true can =
        let leaf = leaf_runs system w x can in
        let all = takes_signals system w x leaf.0 new event can leaf.1 stepped in
        let here : slice_get (slice_set (signals_of w) x (signals_then leaf.0 leaf.0.phase)) y ≡ Some l.signals
        = ap (λ s. slice_get s y) (sym all) ∙ (of_world new y ∙ ap (option_map sig) at) in
        elim (eqb_tells y x) [
          | inl e ↦ record {
            old = leaf.0;
            there = ap (slice_get w.leaves) e.1 ∙ leaf.1;
            how = then_how leaf.0 leaf.0.phase l.signals (sym (of_put (slice_get (signals_of w) y)
                (sym (put_at (signals_of w) x y (signals_then leaf.0 leaf.0.phase) e.1) ∙ here)));
          }
          | inr e ↦
              let m = mapped (slice_get w.leaves y) l.signals (sym (of_world w y) ∙ (sym (set_else (signals_of w) x y _ e.1) ∙ here)) in
              record { old = m.0; there = m.1; how = inl (sym m.2) }
        ]
      where
        of_put : {s t : List Signal} (o : Option (List Signal)) → option_map (λ (a : List Signal). s) o ≡ Some t → s ≡ t
        of_put None e = absurd (none_some e)
        of_put (Some a) e = some_same e

-- a signal that is submitted after a step was so before it
pub flagged_before : (system : System) (w : World) (x : ℕ) (new : World) (event : Event) → next system w x ≡ Ok (new, event) → (y : ℕ) (l : Leaf)
    → slice_get new.leaves y ≡ Some l → is_some (first_signal l.signals) ≡ true
    → (m : Leaf) × (slice_get w.leaves y ≡ Some m) × (is_some (first_signal m.signals) ≡ true)
flagged_before system w x new event stepped y l at flag =
    let c = signals_after system w x new event stepped y l at in (
      c.old,
      c.there,
      elim c.how [ inl e ↦ ap (λ s. is_some (first_signal s)) (sym e) ∙ flag | inr e ↦ ap is_some e.1 ],
    )

-- OVER SEVERAL

-- a signal once it is taken
abbrev pub without : Signal → Signal
without s = record { submitted = false; taken = suc s.taken }

-- each is as it was, or was submitted and has been taken
abbrev pub IsSince : List Signal → List Signal → Type 0
IsSince [] [] = Unit {0}
IsSince [] (t ∷ later) = ⊥
IsSince (s ∷ first) [] = ⊥
IsSince (s ∷ first) (t ∷ later) =
    ((t ≡ s) ⊎ ((s.submitted ≡ true) × (t ≡ without s))) × IsSince first later

pub since_itself : (first : List Signal) → IsSince first first
since_itself [] = tt
since_itself (s ∷ first) = (inl refl, since_itself first)

pub since_taken : (first later : List Signal) (p : ℕ × List Signal) → IsSince first later → first_signal later ≡ Some p → IsSince first p.1
since_taken [] [] p h e = absurd (none_some e)
since_taken [] (t ∷ later) p h e = absurd h
since_taken (s ∷ first) [] p h e = absurd h
since_taken (s ∷ first) (t ∷ later) p h e = by t.submitted refl (first_signal later) refl e (λ q f. since_taken first later q h.1 f)
  where
    one : (t ≡ s) ⊎ ((s.submitted ≡ true) × (t ≡ without s)) → t.submitted ≡ true → (without t ≡ s) ⊎ ((s.submitted ≡ true) × (without t ≡ without s))
    one (inl f) sub = inr (ap (λ (t : Signal). t.submitted) (sym f) ∙ sub, ap without f)
    one (inr f) sub = absurd (true≢false (sym sub ∙ ap (λ (t : Signal). t.submitted) f.1))

    by : (b : Bool) → t.submitted ≡ b → (o : Option (ℕ × List Signal)) → first_signal later ≡ o
        → cond b (Some (0, record { submitted = false; taken = suc t.taken } ∷ later)) (later_signal t o) ≡ Some p
        → ((q : ℕ × List Signal) → first_signal later ≡ Some q → IsSince first q.1) → IsSince (s ∷ first) p.1
    by true sub o f e more = subst (λ (p : ℕ × List Signal). IsSince (s ∷ first) p.1) (some_same e) (one h.0 sub, h.1)
    by false sub None f e more = absurd (none_some e)
    by false sub (Some q) f e more = subst (λ (p : ℕ × List Signal). IsSince (s ∷ first) p.1) (some_same e) (h.0, more q f)

-- where none is submitted any more, each that was has been taken
pub since_none : (first later : List Signal) → IsSince first later → first_signal later ≡ None → later ≡ once_taken first
since_none [] [] h e = refl
since_none [] (t ∷ later) h e = absurd h
since_none (s ∷ first) [] h e = absurd h
since_none (s ∷ first) (t ∷ later) h e = by t.submitted refl (first_signal later) refl e (since_none first later h.1)
  where
    some_none : {A : Type 0} {a : A} → Some a ≡ None → ⊥
    some_none e = none_some (sym e)

    one : (t ≡ s) ⊎ ((s.submitted ≡ true) × (t ≡ without s)) → t.submitted ≡ false → t ≡ cond s.submitted (without s) s
    one (inl f) sub = f ∙ sym (ap (λ b. cond b (without s) s) (ap (λ (t : Signal). t.submitted) (sym f) ∙ sub))
    one (inr f) sub = f.1 ∙ sym (ap (λ b. cond b (without s) s) f.0)

    by : (b : Bool) → t.submitted ≡ b → (o : Option (ℕ × List Signal)) → first_signal later ≡ o
        → cond b (Some (0, record { submitted = false; taken = suc t.taken } ∷ later)) (later_signal t o) ≡ None
        → (first_signal later ≡ None → later ≡ once_taken first) → t ∷ later ≡ once_taken (s ∷ first)
    by true sub o f e more = absurd (some_none e)
    by false sub None f e more = λ j. one h.0 sub j ∷ more f j
    by false sub (Some q) f e more = absurd (some_none e)

-- of all leaves
pub record AreSince (first : ℕ → List Signal) (w : World) : Type 0 where
  pub at : (y : ℕ) (l : Leaf) → slice_get w.leaves y ≡ Some l → IsSince (first y) l.signals

pub since_next : (first : ℕ → List Signal) (system : System) (w : World) (x : ℕ) (new : World) (event : Event) → AreSince first w
    → next system w x ≡ Ok (new, event) → AreSince first new
since_next first system w x new event h stepped = record {
  at = λ y l at. (
      let c = signals_after system w x new event stepped y l at in
      elim c.how [
        | inl e ↦ subst (IsSince (first y)) (sym e) (h.at y c.old c.there)
        | inr e ↦ subst (IsSince (first y)) (sym e.2) (since_taken (first y) c.old.signals e.0 (h.at y c.old c.there) e.1)
      ]);
}

-- those of a leaf
abbrev pub signals_in : Option Leaf → List Signal
signals_in None = []
signals_in (Some l) = l.signals

abbrev pub signals_at : World → ℕ → List Signal
signals_at w y = signals_in (slice_get w.leaves y)

pub since_first : (w : World) → AreSince (signals_at w) w
since_first w = record { at = λ y l at. subst (λ o. IsSince (signals_in o) l.signals) (sym at) (since_itself l.signals) }
