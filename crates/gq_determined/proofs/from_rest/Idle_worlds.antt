-- Worlds in which each leaf has exited or serves: worlds at rest, whatever is set and submitted there.
use Rattle.std.proofs.Common.{◌≡◌, ◌⊎◌, inl, inr, ℕ, true, Option, Some, None, refl, ap, sym, ◌∙◌, subst}
use Rattle.std.specs.Prelude.{slice_get}
use Rattle.std.proofs.lemmas.Bool.{true≢false}
use Rattle.gq_model.specs.declared.phase.Phase.{Phase}
use Rattle.gq_model.specs.declared.phase.Phase.TheVariants.{Pending, Running, Blocked, Serving, Handling, Exited}
use Rattle.gq_model.specs.machine.Run.{set_input, submit}
use Rattle.gq_model.specs.machine.Scenario.{System}
use Rattle.gq_model.specs.machine.World.{Current, Leaf, World}
use Rattle.gq_laws.specs.Progress.{AllRest, rests}
use Rattle.gq_laws.specs.Session_links.{Fits, IsLinkedWorld, links, stance, stance_in}
use Rattle.gq_laws.proofs.input_settings.Setting_keeps_invariants.{of_setting, of_submit}
use Rattle.gq_determined.proofs.thread_runs.Remaining_section_statements.{set_get}

abbrev pub IsIdlePhase : Phase → Type 0
IsIdlePhase phase = (phase ≡ Serving) ⊎ (phase ≡ Exited)

pub record IsIdle (w : World) : Type 0 where
  pub phase : (y : ℕ) (l : Leaf) → slice_get w.leaves y ≡ Some l → IsIdlePhase l.phase

pub idle_at_rest : (w : World) → AllRest w → IsIdle w
idle_at_rest w rest = record { phase = λ y l at. by y l l.phase (rest y l at) }
  where
    by : (y : ℕ) (l : Leaf) (p : Phase) → rests w y l p ≡ true → IsIdlePhase p
    by y l Serving e = inl refl
    by y l Exited e = inr refl
    by y l Pending e = absurd (true≢false (sym e))
    by y l Running e = absurd (true≢false (sym e))
    by y l Blocked e = absurd (true≢false (sym e))
    by y l Handling e = absurd (true≢false (sym e))

pub idle_set : (system : System) (w : World) (x i n : ℕ) → IsIdle w → IsIdle (set_input system w x i n)
idle_set system w x i n h =
    of_setting system IsIdle w x i n (λ leaf inputs there. record {
      phase = λ y l at. elim (set_get w.leaves x y (record leaf { inputs = inputs }) l at) [
        | inl e ↦ subst (λ (l : Leaf). IsIdlePhase l.phase) e.1 (h.phase x leaf there)
        | inr e ↦ h.phase y l e
      ];
    }) h

pub idle_submit : (w : World) (x i : ℕ) → IsIdle w → IsIdle (submit w x i)
idle_submit w x i h =
    of_submit IsIdle w x i (λ leaf there. record {
      phase = λ y l at. elim (set_get w.leaves x y _ l at) [
        | inl e ↦ subst (λ (l : Leaf). IsIdlePhase l.phase) e.1 (h.phase x leaf there)
        | inr e ↦ h.phase y l e
      ];
    }) h

-- in such a world nothing is current
module _ (system : System) (w : World) (linked : IsLinkedWorld system w) (h : IsIdle w) where
  none_by : (p : Phase) (current : Option Current) → Fits p current → IsIdlePhase p → current ≡ None
  none_by p None f idle = refl
  none_by p (Some q) f (inl e) = absurd (subst (λ p. Fits p (Some q)) e f)
  none_by p (Some q) f (inr e) = absurd (subst (λ p. Fits p (Some q)) e f)

  pub idle_current : (y : ℕ) (l : Leaf) → slice_get w.leaves y ≡ Some l → l.current ≡ None
  idle_current y l at = none_by l.phase l.current (linked.fits y (stance l.phase l.current) (ap stance_in at)) (h.phase y l at)

  -- the leaf of a stance
  leaf_of : (o : Option Leaf) (p : Phase) (current : Option Current) → stance_in o ≡ Some (stance p current)
      → (l : Leaf) × (o ≡ Some l) × (stance l.phase l.current ≡ stance p current)
  leaf_of (Some l) p current e = (l, refl, cc)
  leaf_of None p current e = absurd cc

  -- no leaf does a section, and none waits
  pub no_stance : (y : ℕ) (p : Phase) (q : Current) → (links w).stances y ≡ Some (stance p (Some q)) → ⊥
  no_stance y p q e =
      let l = leaf_of (slice_get w.leaves y) p (Some q) e in
      some (sym (ap (λ s. s.current) l.2) ∙ idle_current y l.0 l.1)
    where
      some : Some q ≡ None → ⊥
      some e = cc

  pub none_waits : (y : ℕ) (current : Option Current) → (links w).stances y ≡ Some (stance Blocked current) → ⊥
  none_waits y current e =
      let l = leaf_of (slice_get w.leaves y) Blocked current e in
      by (h.phase y l.0 l.1) (ap (λ s. s.phase) l.2)
    where
      serving : Serving ≡ Blocked → ⊥
      serving e = cc

      exited : Exited ≡ Blocked → ⊥
      exited e = cc

      by : {p : Phase} → IsIdlePhase p → p ≡ Blocked → ⊥
      by (inl s) b = serving (sym s ∙ b)
      by (inr s) b = exited (sym s ∙ b)
