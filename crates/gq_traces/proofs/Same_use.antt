-- Worlds in which each leaf holds and has the same.
use Rattle.std.proofs.Common.{◌≡◌, ◌∙◌, ℕ, inl, inr, List, Option, Some, None, refl, ap, sym, subst}
use Rattle.std.specs.Prelude.{slice_get}
use Rattle.std.proofs.lemmas.Bool.Decides.{eqb_tells}
use Rattle.gq_laws.proofs.session_links.Written_world_links.{set_else, set_here}
use Rattle.gq_laws.proofs.input_settings.Setting_keeps_invariants.{of_setting, of_submit}
use Rattle.gq_model.specs.machine.Amounts.{Resource}
use Rattle.gq_model.specs.machine.Run.{set_input, signals_with, submit}
use Rattle.gq_model.specs.machine.Scenario.{Component, System}
use Rattle.gq_model.specs.machine.World.{Leaf, Signal, World, with_leaf}
use Rattle.gq_traces.specs.Account_peaks.{held_by, quota_in, quota_of, used_in}
use Rattle.gq_traces.specs.internal.Peaking.{SameUse}

pub same_self : (system : System) (w : World) → SameUse system w w
same_self system w = record { used = λ r y. refl; quota = λ r y. refl }

pub same_both : (system : System) (u v w : World) → SameUse system u v → SameUse system v w → SameUse system u w
same_both system u v w g h = record { used = λ r y. g.used r y ∙ h.used r y; quota = λ r y. g.quota r y ∙ h.quota r y }

-- a leaf with other inputs and signals
module _ (system : System) (w : World) (x : ℕ) (leaf : Leaf) (there : slice_get w.leaves x ≡ Some leaf) (inputs : List ℕ) (signals : List Signal) where
  abbrev new : World
  new = with_leaf w x (record leaf { inputs = inputs; signals = signals })

  held_so : (r : Resource) (y : ℕ) (o : Option Leaf) → held_by r w y o ≡ held_by r new y o
  held_so r y None = refl
  held_so r y (Some l) = refl

  used_so : (r : Resource) (y : ℕ) → used_in r y w ≡ used_in r y new
  used_so r y = elim (eqb_tells y x) [
    | inl e ↦ subst (λ z. used_in r z w ≡ used_in r z new) (sym e.1)
        (ap (held_by r w x) there ∙ sym (ap (held_by r new x) (set_here w.leaves x (record leaf { inputs = inputs; signals = signals }) leaf there)))
    | inr e ↦ held_so r y (slice_get w.leaves y) ∙ sym (ap (held_by r new y) (set_else w.leaves x y (record leaf { inputs = inputs; signals = signals }) e.1))
  ]

  quota_so : (r : Resource) (y : ℕ) (c : Option Component) (o : Option Leaf) → quota_of r w y c o ≡ quota_of r new y c o
  quota_so r y None o = refl
  quota_so r y (Some c) None = refl
  quota_so r y (Some c) (Some l) = refl

  quota_here : (r : Resource) (c : Option Component) → quota_of r w x c (Some leaf) ≡ quota_of r new x c (Some (record leaf {
    inputs = inputs;
    signals =
        signals;
  }))
  quota_here r None = refl
  quota_here r (Some c) = refl

  quotas_so : (r : Resource) (y : ℕ) → quota_in system r y w ≡ quota_in system r y new
  quotas_so r y = elim (eqb_tells y x) [
    | inl e ↦ subst (λ z. quota_in system r z w ≡ quota_in system r z new) (sym e.1)
        (ap (quota_of r w x (slice_get system.components x)) there ∙ (quota_here r (slice_get system.components x)
        ∙ sym (ap (quota_of r new x (slice_get system.components x)) (set_here w.leaves x (record leaf { inputs = inputs; signals = signals }) leaf there))))
    | inr e ↦ quota_so r y (slice_get system.components y) (slice_get w.leaves y)
        ∙ sym (ap (quota_of r new y (slice_get system.components y)) (set_else w.leaves x y (record leaf { inputs = inputs; signals = signals }) e.1))
  ]

pub set_same : (system : System) (w : World) (x i n : ℕ) → SameUse system w (set_input system w x i n)
set_same system w x i n =
    of_setting system (SameUse system w) w x i n
    (λ leaf inputs there. record { used = used_so system w x leaf there inputs leaf.signals; quota = quotas_so system w x leaf there inputs leaf.signals })
    (same_self system w)

pub submit_same : (system : System) (w : World) (x i : ℕ) → SameUse system w (submit w x i)
submit_same system w x i =
    of_submit (SameUse system w) w x i
    (λ leaf there. (let signals = signals_with leaf.signals i in
    record { used = used_so system w x leaf there leaf.inputs signals; quota = quotas_so system w x leaf there leaf.inputs signals })) (same_self system w)
