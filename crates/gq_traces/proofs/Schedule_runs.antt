-- Turns that are scheduled are turns of leaves, and where they are all of them every leaf is at rest.
use Rattle.std.proofs.Common.{◌≡◌, ◌∙◌, ℕ, zero, suc, ◌+◌, ◌⊎◌, inl, inr, Bool, true, false, List, [], ◌∷◌, Option, Some, None}
use Rattle.std.proofs.Common.{refl, ap, sym, subst, arith, true≢false}
use Rattle.std.specs.Prelude.{◌||◌, if◌then◌else◌, slice_get}
use Rattle.gq_model.specs.machine.Program.{text_eq}
use Rattle.gq_model.specs.machine.Routes.{numbered}
use Rattle.gq_model.specs.machine.Scenario.{Component, Scenario, System, components, system}
use Rattle.gq_model.specs.machine.World.{Leaf, World}
use Rattle.gq_model.specs.texts.Letters.{is_name}
use Rattle.gq_model.specs.machine.Rest.{greatest_turns, can_run, runs_as, some_can}
use Rattle.gq_model.proofs.Small_facts.{text_is, text_self}
use Rattle.gq_laws.specs.Names.{NamesDiffer}
use Rattle.gq_laws.specs.Progress.{AllRest}
use Rattle.gq_traces.specs.Schedule.{greatest_choices, name_at, rest_by}
use Rattle.rand_core.specs.Pcg32Seed.{pcg32_seed}
use Rattle.rand_pcg.specs.Pcg.{pcg32_of_seed}
use Rattle.gq_traces.proofs.Random_turn_schedule.{choices_taken}
use Rattle.gq_traces.proofs.Turned_back.{IsCalled}
use Rattle.gq_traces.proofs.Scheduled_turn_runs.{IsTaken, rounds_taken}

-- leaves have names
abbrev pub AreNames : Scenario → Type 0
AreNames s = (x : ℕ) (c : Component) → slice_get (components s) x ≡ Some c → is_name c.node.name ≡ true

numbered_at : (cs : List Component) (k x : ℕ) (c : Component) → slice_get cs x ≡ Some c
    → ((y : ℕ) (d : Component) → slice_get cs y ≡ Some d → c.node.name ≡ d.node.name → y ≡ x) → numbered k c.node.name cs ≡ Some (k + x)
numbered_at [] k x c e differ = absurd cc
numbered_at (d ∷ cs) k zero c e differ =
    let same : d ≡ c = cc in
    ap (λ (b : Bool). if b then Some k else numbered (suc k) c.node.name cs)
    (ap (λ (a : Component). text_eq c.node.name a.node.name) same ∙ text_self c.node.name)
    ∙ ap Some (omega arith)
numbered_at (d ∷ cs) k (suc x) c e differ =
    by (text_eq c.node.name d.node.name) refl
    (numbered_at cs (suc k) x c e (λ y a f same. let n = differ (suc y) a f same in omega (arith, n)))
  where
    by : (b : Bool) → text_eq c.node.name d.node.name ≡ b → numbered (suc k) c.node.name cs ≡ Some (suc k + x)
        → (if b then Some k else numbered (suc k) c.node.name cs) ≡ Some (k + suc x)
    by true same later = let n = differ 0 d refl (text_is c.node.name d.node.name same) in absurd (omega (arith, n))
    by false other later = later ∙ ap Some (omega arith)

pub called : (s : Scenario) → NamesDiffer s → AreNames s → (x : ℕ) (c : Component) → slice_get (components s) x ≡ Some c → IsCalled (components s) x
called s differ names x c e =
    record {
      name = c.node.name;
      there = ap name_at e;
      is_name = names x c e;
      found = numbered_at (components s) 0 x c e (λ y d f same. differ y x d c f e (sym same)) ∙ ap Some (omega arith);
    }

-- turns from any world on
pub taken_by : (seed : Option ℕ) (s : Scenario) (n : ℕ) (w : World) → NamesDiffer s → AreNames s
    → IsTaken (system s) n w (rest_by seed (system s) n w)
unfolding rest_by
taken_by None s n w differ names = rounds_taken (system s) (called s differ names) (suc greatest_turns) n w
taken_by (Some seed) s n w differ names =
    choices_taken (system s) (called s differ names) greatest_choices n w (pcg32_of_seed (pcg32_seed 16 seed))

-- REST

none_can : (system : System) (w : World) (x : ℕ) (cs : List Component) → some_can system w x cs ≡ false
    → (y : ℕ) (c : Component) → slice_get cs y ≡ Some c → can_run system w (x + y) ≡ false
none_can system w x [] h y c e = absurd cc
none_can system w x (d ∷ cs) h zero c e = by (can_run system w x) refl
  where
    by : (b : Bool) → can_run system w x ≡ b → can_run system w (x + 0) ≡ false
    by true can = absurd (true≢false (sym (ap (λ (b : Bool). b || some_can system w (suc x) cs) can) ∙ h))
    by false can = subst (λ (n : ℕ). can_run system w n ≡ false) (omega arith) can
none_can system w x (d ∷ cs) h (suc y) c e =
    subst (λ (n : ℕ). can_run system w n ≡ false) (omega arith) (none_can system w (suc x) cs (by (can_run system w x) refl) y c e)
  where
    by : (b : Bool) → can_run system w x ≡ b → some_can system w (suc x) cs ≡ false
    by true can = absurd (true≢false (sym (ap (λ (b : Bool). b || some_can system w (suc x) cs) can) ∙ h))
    by false can = sym (ap (λ (b : Bool). b || some_can system w (suc x) cs) can) ∙ h

no_leaf : (system : System) (w : World) → some_can system w 0 system.components ≡ false → (x : ℕ) → can_run system w x ≡ false
no_leaf system w h x = by (slice_get system.components x) refl
  where
    without : (o : Option Leaf) → runs_as w x None o ≡ false
    without None = refl
    without (Some leaf) = refl

    by : (o : Option Component) → slice_get system.components x ≡ o → can_run system w x ≡ false
    by None e = ap (λ (c : Option Component). runs_as w x c (slice_get w.leaves x)) e ∙ without (slice_get w.leaves x)
    by (Some c) e = subst (λ (n : ℕ). can_run system w n ≡ false) (omega arith) (none_can system w 0 system.components h x c e)

-- where all leaves are at rest or some leaf can take a turn, and none can, all are at rest
pub at_rest : (system : System) (w : World) → AllRest w ⊎ ((x : ℕ) × (can_run system w x ≡ true)) → some_can system w 0 system.components ≡ false → AllRest w
at_rest system w goes h = elim goes [ inl rest ↦ rest | inr can ↦ absurd (true≢false (sym can.1 ∙ no_leaf system w h can.0)) ]
