-- Steps that a leaf takes alone, of which nothing is reported.
use Rattle.std.proofs.Common.{◌≡◌, ◌∙◌, ℕ, zero, suc, ◌+◌, ◌<◌, Bool, true, false, List, [], ◌∷◌, ◌++◌, length, Option, Some, None, Ok, refl, ap, sym}
use Rattle.std.proofs.Common.{subst, arith, true≢false}
use Rattle.std.proofs.Math.Logic.{∥∥₁_elim}
use Rattle.std.specs.Prelude.{slice_get, slice_set}
use Rattle.gq_bytecode.specs.Alones.{LocalState}
use Rattle.gq_bytecode.specs.Nexts.{Active, leaf_with}
use Rattle.gq_laws.proofs.upheld_worlds.Standing_world_invariant.{stands_next}
use Rattle.gq_laws.proofs.session_links.Written_world_links.{set_here}
use Rattle.gq_laws.specs.Stands.{Stands}
use Rattle.gq_model.proofs.Small_facts.{some_same}
use Rattle.gq_model.specs.declared.phase.Phase.{Phase}
use Rattle.gq_model.specs.declared.phase.Phase.TheVariants as phase
use Rattle.gq_model.specs.machine.Amounts.{Ram, Caps}
use Rattle.gq_model.specs.machine.Doing.{Quiet}
use Rattle.gq_model.specs.machine.Scenario.{Component, Scenario, System, components, system}
use Rattle.gq_model.specs.machine.Rest.{can_run, runs, runs_as, while_can}
use Rattle.gq_model.specs.machine.Step.{next}
use Rattle.gq_model.specs.machine.Sums.{held}
use Rattle.gq_model.specs.machine.World as model
use Rattle.gq_model.specs.machine.World.{Leaf, with_leaf}
use Rattle.gq_model.specs.machine.Run.{label_at}
use Rattle.gq_world.specs.World_between_turns.{World}
use Rattle.gq_traces.specs.Trace.{Traced, after_turn, after_turns, changes, turn_text, turns_text}
use Rattle.gq_traces.specs.declared.follow.Followed.{Followed}
use Rattle.gq_traces.specs.declared.noted.PrintedState.{PrintedState}
use Rattle.gq_traces.specs.declared.noted.Use.{Use}
use Rattle.gq_traces.specs.declared.numbered_program.NumberedProgram.{NumberedProgram as Entries}
use Rattle.gq_traces.specs.declared.trace.Tracing.{Tracing}
use Rattle.gq_traces.specs.declared.tracker.Ahead as places
use Rattle.gq_traces.specs.internal.Alone_positions.{StepsAlone}
use Rattle.gq_traces.specs.internal.Flat.{AllStand, AreAheads, ArePrograms, programs_of}
use Rattle.gq_traces.specs.internal.Follows.{Follows, IsFollowed}
use Rattle.gq_traces.specs.internal.Noted.{AreNoted, IsUse}
use Rattle.gq_traces.specs.internal.Printed_steps.{CanTrace, GoesOn, IsOn, IsSilent, PassesBy, budgets_of, takes_own}
use Rattle.gq_traces.proofs.Own_turns.{due_there, own_goes_by, own_stand}
use Rattle.gq_traces.proofs.Repeated_leaf_turns.{while_step}
use Rattle.gq_traces.proofs.Still_noted.{step_left}
use Rattle.gq_traces.proofs.Printed_turns.{silent_text, taken_on}
use Rattle.gq_traces.proofs.Unchanged_accounts_step.{amount_self, phase_self}

set_long : {A : Type 0} (items : List A) (i : ℕ) (a : A) → length (slice_set items i a) ≡ length items
set_long [] i a = refl
set_long (b ∷ items) zero a = refl
set_long (b ∷ items) (suc i) a = ap suc (set_long items i a)

active_own : (p : Phase) → Active p → takes_own p ≡ true
active_own phase.Running h = refl
active_own phase.Handling h = refl
active_own phase.Pending h = absurd h
active_own phase.Blocked h = absurd h
active_own phase.Serving h = absurd h
active_own phase.Exited h = absurd h

-- WHAT THE LEAF HOLDS AND DOES

module _ (s : Scenario) (x : ℕ) where
  module _ (w : model.World) (leaf : Leaf) (st : LocalState) (there : slice_get w.leaves x ≡ Some leaf) where
    pub use_then : (u : Use) → IsUse s w x u → IsUse s (with_leaf w x (leaf_with leaf st)) x u
    use_then u h =
        let same : h.leaf ≡ leaf = some_same (sym h.there ∙ there) in
        record {
          leaf = leaf_with leaf st;
          there = set_here w.leaves x (leaf_with leaf st) leaf there;
          phase = h.phase ∙ ap (λ (l : Leaf). l.phase) same;
          ram = h.ram ∙ ap (held Ram w x) same;
          caps = λ two. h.caps two ∙ ap (held Caps w x) same;
        }

    abbrev use_of : Use
    use_of = record { used = record { ram = held Ram w x leaf; caps = held Caps w x leaf }; phase = leaf.phase }

    use_is : IsUse s w x use_of
    use_is = record { leaf = leaf; there = there; phase = refl; ram = refl; caps = λ two. refl }

  pub use_after : (programs : List Entries) (n : ℕ) (w v : model.World) (old new : List places.Ahead) → StepsAlone (system s) programs x n w v old new
      → (u : Use) → IsUse s w x u → IsUse s v x u
  use_after programs zero w v old new h u is = subst (λ (z : model.World). IsUse s z x u) h.0 is
  use_after programs (suc n) w v old new h u is =
      use_after programs n (with_leaf w x (leaf_with h.0 h.1)) v h.2 new h.7 u (use_then w h.0 h.1 h.3 u is)

-- WHERE IT STANDS

module _ (s : Scenario) (x : ℕ) (less : x < length (components s)) (programs : List Entries) (are : ArePrograms programs (programs_of s)) (stopped : Bool) where
  abbrev at : model.World → World
  at w = record { scenario = s; world = w; failed = false; stopped = stopped; signals = 0 }

  module _ (w : model.World) (leaf : Leaf) (st : LocalState) (old mid : List places.Ahead) (there : slice_get w.leaves x ≡ Some leaf)
      (active : Active leaf.phase)
      (goes : next (system s) w x ≡ Ok (with_leaf w x (leaf_with leaf st), Quiet)) (passes : PassesBy programs old mid x leaf.operands)
      (count : length w.leaves ≡ length (components s)) where
    abbrev then : model.World
    then = with_leaf w x (leaf_with leaf st)

    abbrev u : Use
    u = use_of s x w leaf st there

    u_is : IsUse s w x u
    u_is = use_is s x w leaf st there

    own : takes_own u.phase ≡ true
    own = active_own leaf.phase active

    goes_on : GoesOn programs old mid s w x
    goes_on =
        own_goes_by (at w) x u u_is own less count programs old are mid
        (λ l here. subst (λ (k : Leaf). PassesBy programs old mid x k.operands) (some_same (sym there ∙ here)) passes)

    stand_then : AllStand programs old → AllStand programs mid
    stand_then all = own_stand (at w) x u u_is own less count programs old are mid all goes_on

    on_then : (turns : ℕ) (t : Traced) → IsOn programs old (at w) turns t → IsOn programs mid (at then) (turns + 1) (after_turn (system s) x t)
    on_then turns t on =
        let d = due_there (at w) x u u_is own less count programs old are t.aheads on.aheads in
        taken_on false s (budgets_of s) x programs old (at w) turns t on d.0 d.1 (at then) Quiet goes mid (goes_on t.aheads d.0 on.aheads d.1)

    count_then : length then.leaves ≡ length (components s)
    count_then = set_long w.leaves x (leaf_with leaf st) ∙ count

    -- WHAT IS PRINTED

    module _ (stands : ∥ Stands s w ∥₁) (notes : PrintedState) (noted : AreNoted s w notes) where
      left : AreNoted s then notes × (changes s (budgets_of s) (label_at (slice_get (components s) x)) w then Quiet ≡ [])
      left =
          step_left (at w) (at then) x Quiet (record { scenario = s; world = w }) (record { scenario = s; world = then }) u u stands refl goes refl refl u_is
          (use_then s x w leaf st there u u_is) (phase_self u.phase) (amount_self u.used) notes noted (label_at (slice_get (components s) x))

      none_reported : (turns : ℕ) (t : Traced) → IsOn programs old (at w) turns t → [] ≡ turn_text false s (budgets_of s) x t
      none_reported turns t on =
          let d = due_there (at w) x u u_is own less count programs old are t.aheads on.aheads in
          silent_text false s (budgets_of s) x programs old (at w) turns t on d.0 d.1 (at then) Quiet goes refl left.1

      stands_then : ∥ Stands s then ∥₁
      stands_then = ∥∥₁_elim stands (hlevel) (λ h. ∣ stands_next s w x then Quiet h goes ∣₁)

  -- after so many steps
  record Gone (n : ℕ) (w v : model.World) (old new : List places.Ahead) : Type 0 where
    stand : AllStand programs old → AllStand programs new
    on : (turns : ℕ) (t : Traced) → IsOn programs old (at w) turns t → IsOn programs new (at v) (turns + n) (after_turns (system s) x n t)

  gone : (n : ℕ) (w v : model.World) (old new : List places.Ahead) → StepsAlone (system s) programs x n w v old new
      → length w.leaves ≡ length (components s) → Gone n w v old new
  gone zero w v old new h count =
      subst (λ (z : model.World). Gone 0 w z old new) h.0 (subst (λ l. Gone 0 w w old l) h.1 (record {
        stand = λ all. all;
        on = λ turns t on. (let same : turns ≡ turns + 0 = omega arith in subst (λ k. IsOn programs old (at w) k t) same on);
      }))
  gone (suc n) w v old new h count =
      let then = with_leaf w x (leaf_with h.0 h.1) in
      let on = on_then w h.0 h.1 old h.2 h.3 h.4 h.5 h.6 count in
      let more = gone n then v h.2 new h.7 (count_then w h.0 h.1 old h.2 h.3 h.4 h.5 h.6 count) in
      record {
        stand = λ all. more.stand (stand_then w h.0 h.1 old h.2 h.3 h.4 h.5 h.6 count all);
        on = λ turns t is. (let same : turns + 1 + n ≡ turns + suc n = omega arith in
            subst (λ k. IsOn programs new (at v) k (after_turns (system s) x n (after_turn (system s) x t))) same
            (more.on (turns + 1) (after_turn (system s) x t) (on turns t is)));
      }

  -- of which nothing is reported
  record Unprinted (n : ℕ) (w v : model.World) (old new : List places.Ahead) (notes : PrintedState) : Type 0 where
    noted : AreNoted s v notes
    none : (turns : ℕ) (t : Traced) → IsOn programs old (at w) turns t → [] ≡ turns_text false s (budgets_of s) x n t

  unreported : (n : ℕ) (w v : model.World) (old new : List places.Ahead) (notes : PrintedState) → StepsAlone (system s) programs x n w v old new
      → length w.leaves ≡ length (components s) → ∥ Stands s w ∥₁ → AreNoted s w notes → Unprinted n w v old new notes
  unreported zero w v old new notes h count stands noted =
      subst (λ (z : model.World). Unprinted 0 w z old new notes) h.0
      (subst (λ l. Unprinted 0 w w old l notes) h.1 (record { noted = noted; none = λ turns t on. refl }))
  unreported (suc n) w v old new notes h count stands noted =
      let then = with_leaf w x (leaf_with h.0 h.1) in
      let none = none_reported w h.0 h.1 old h.2 h.3 h.4 h.5 h.6 count stands notes noted in
      let on = on_then w h.0 h.1 old h.2 h.3 h.4 h.5 h.6 count in
      let more = unreported n then v h.2 new notes h.7 (count_then w h.0 h.1 old h.2 h.3 h.4 h.5 h.6 count)
      (stands_then w h.0 h.1 old h.2 h.3 h.4 h.5 h.6 count stands notes noted) (left w h.0 h.1 old h.2 h.3 h.4 h.5 h.6 count stands notes noted).0 in
      record {
        noted = more.noted;
        none = λ turns t is. (λ i. none turns t is i ++ more.none (turns + 1) (after_turn (system s) x t) (on turns t is) i);
      }

-- where all leaves stand, they do so after such steps
pub stands_still : (s : Scenario) (x : ℕ) → x < length (components s) → (programs : List Entries) → ArePrograms programs (programs_of s) → (stopped : Bool)
    → (n : ℕ) (w v : model.World) (old new : List places.Ahead) → StepsAlone (system s) programs x n w v old new
    → length w.leaves ≡ length (components s) → AllStand programs old → AllStand programs new
stands_still s x less programs are stopped n w v old new h count = (gone s x less programs are stopped n w v old new h count).stand

-- a leaf that takes a step alone can take a further one
runs_active : (w : model.World) (x : ℕ) (leaf : Leaf) (p : Phase) → Active p → runs w x leaf p ≡ true
runs_active w x leaf phase.Running h = refl
runs_active w x leaf phase.Handling h = refl
runs_active w x leaf phase.Pending h = absurd h
runs_active w x leaf phase.Blocked h = absurd h
runs_active w x leaf phase.Serving h = absurd h
runs_active w x leaf phase.Exited h = absurd h

pub still_able : (system : System) (w : model.World) (x : ℕ) (leaf : Leaf) (st : LocalState) → slice_get w.leaves x ≡ Some leaf → Active leaf.phase
    → can_run system w x ≡ true → can_run system (with_leaf w x (leaf_with leaf st)) x ≡ true
still_able system w x leaf st there active can =
    let new = leaf_with leaf st in
    let u = with_leaf w x new in
    ap (runs_as u x (slice_get system.components x)) (set_here w.leaves x new leaf there)
    ∙ by (slice_get system.components x) (sym (ap (runs_as w x (slice_get system.components x)) there) ∙ can)
  where
    by : (c : Option Component) → runs_as w x c (Some leaf) ≡ true → runs_as (with_leaf w x (leaf_with leaf st)) x c (Some (leaf_with leaf st)) ≡ true
    by None e = absurd (true≢false (sym e))
    by (Some c) e = runs_active (with_leaf w x (leaf_with leaf st)) x (leaf_with leaf st) leaf.phase active

-- steps and more steps
module _ (system : System) (programs : List Entries) (x : ℕ) where
  pub steps_then : (n m k : ℕ) → k ≡ n + m → (w v u : model.World) (a b c : List places.Ahead) → StepsAlone system programs x n w v a b
      → StepsAlone system programs x m v u b c → StepsAlone system programs x k w u a c
  steps_then zero m k e w v u a b c h g =
      let same : m ≡ k = omega (arith, e) in
      subst (λ j. StepsAlone system programs x j w u a c) same
      (subst (λ (z : model.World). StepsAlone system programs x m z u a c) (sym h.0) (subst (λ l. StepsAlone system programs x m v u l c) (sym h.1) g))
  steps_then (suc n) m zero e w v u a b c h g = absurd (omega (arith, e))
  steps_then (suc n) m (suc k) e w v u a b c h g =
      (h.0, h.1, h.2, h.3, h.4, h.5, h.6, steps_then n m k (omega (arith, e)) (with_leaf w x (leaf_with h.0 h.1)) v u h.2 b c h.7 g)

-- by lists of other names
pub steps_as : (s : Scenario) (P Q : List Entries) (A B C D : List places.Ahead) (x n : ℕ) (w v : model.World) → P ≡ Q → A ≡ B → C ≡ D
    → StepsAlone (system s) P x n w v A C → StepsAlone (system s) Q x n w v B D
steps_as s P Q A B C D x n w v p a c h =
    subst (λ R. StepsAlone (system s) R x n w v B D) p
    (subst (λ l. StepsAlone (system s) P x n w v l D) a (subst (λ l. StepsAlone (system s) P x n w v A l) c h))

-- each is a step, after which the leaf can take a further one
pub able_alone : (programs : List Entries) (x n : ℕ) (w v : model.World) (old new : List places.Ahead) (system : System)
    → StepsAlone system programs x n w v old new → can_run system w x ≡ true
    → (while_can n system w x ≡ (n, v)) × (can_run system v x ≡ true)
able_alone programs x zero w v old new system h can = (ap (λ (u : model.World). (0, u)) h.0, subst (λ (u : model.World). can_run system u x ≡ true) h.0 can)
able_alone programs x (suc n) w v old new system h can =
    let u = with_leaf w x (leaf_with h.0 h.1) in
    let more = able_alone programs x n u v h.2 new system h.7 (still_able system w x h.0 h.1 h.3 h.4 can) in
    (while_step n system w u x can (record { event = Quiet; goes = h.5 }) ∙ ap (λ (p : ℕ × model.World). (suc p.0, p.1)) more.0, more.1)

-- turns of which nothing is reported, of a trace on the way
pub silent : (old new : World) (before after : Tracing) (x n : ℕ) → new.scenario ≡ old.scenario → new.stopped ≡ false → new.signals ≡ old.signals → x <
    length (components old.scenario)
    → ∥ Stands old.scenario old.world ∥₁ → length old.world.leaves ≡ length (components old.scenario) → CanTrace old before
    → after.programs ≡ before.programs → after.notes ≡ before.notes
    → StepsAlone (system old.scenario) before.programs.items x n old.world new.world before.aheads.items after.aheads.items
    → IsSilent false x n old new before after
silent old new before after x n same running signals less stands count can programs notes steps =
    let s = old.scenario in
    let g = gone s x less before.programs.items can.programs old.stopped n old.world new.world before.aheads.items after.aheads.items steps count in
    let h = unreported s x less before.programs.items can.programs old.stopped n old.world new.world before.aheads.items after.aheads.items before.notes steps
    count stands can.noted in
    let items = ap (λ p. p.items) programs in
    record {
      scenario = same;
      signals = signals;
      able = able_alone before.programs.items x n old.world new.world before.aheads.items after.aheads.items (system s) steps;
      can = record {
        running = running;
        programs = subst (λ l. ArePrograms l (programs_of new.scenario)) (sym items)
            (subst (λ (r : Scenario). ArePrograms before.programs.items (programs_of r)) (sym same) can.programs);
        stands = subst (λ l. AllStand l after.aheads.items) (sym items) (g.stand can.stands);
        noted = subst (AreNoted new.scenario new.world) (sym notes) (subst (λ (r : Scenario). AreNoted r new.world before.notes) (sym same) h.noted);
      };
      uses = λ u is.
          subst (λ (r : Scenario). IsUse r new.world x u) (sym same)
          (use_after s x before.programs.items n old.world new.world before.aheads.items after.aheads.items steps u is);
      none = λ turns t on. h.none turns t (record { world = on.world; aheads = on.aheads; count = on.count });
      on = λ turns t on. (let is = g.on turns t (record { world = on.world; aheads = on.aheads; count = on.count }) in record {
        world = is.world;
        aheads = subst (λ l. AreAheads l after.aheads.items (after_turns (system s) x n t).aheads) (sym items) is.aheads;
        count = is.count;
      });
    }

-- no turn at all
pub no_silent : (all : Bool) (w : World) (t : Tracing) (x : ℕ) → CanTrace w t → IsSilent all x 0 w w t t
no_silent all w t x can =
    record {
      scenario = refl;
      signals = refl;
      able = λ can. (refl, can);
      can = can;
      uses = λ u is. is;
      none = λ turns v on. refl;
      on = λ turns v on. (let same : turns ≡ turns + 0 = omega arith in subst (λ k. IsOn t.programs.items t.aheads.items w k v) same on);
    }

-- turns that are taken unreported
pub followed : (old new : World) (before after : Followed) (x n : ℕ) → new.scenario ≡ old.scenario → new.stopped ≡ false → new.signals ≡ old.signals
    → x < length (components old.scenario) → length old.world.leaves ≡ length (components old.scenario) → IsFollowed before old
    → after.programs ≡ before.programs
    → StepsAlone (system old.scenario) before.programs.items x n old.world new.world before.aheads.items after.aheads.items
    → Follows 0 (after_turns (system old.scenario) x n) old new before after
followed old new before after x n same running signals less count h programs steps =
    let s = old.scenario in
    let g = gone s x less before.programs.items h.programs old.stopped n old.world new.world before.aheads.items after.aheads.items steps count in
    let items = ap (λ p. p.items) programs in
    record {
      scenario = same;
      signals = omega (arith, signals);
      followed = record {
        running = running;
        programs = subst (λ l. ArePrograms l (programs_of new.scenario)) (sym items)
            (subst (λ (r : Scenario). ArePrograms before.programs.items (programs_of r)) (sym same) h.programs);
        stand = subst (λ l. AllStand l after.aheads.items) (sym items) (g.stand h.stand);
      };
      at = λ t is. (let on = g.on t.turns t (record { world = is.world; aheads = is.aheads; count = refl }) in record {
        world = on.world;
        aheads = subst (λ l. AreAheads l after.aheads.items (after_turns (system s) x n t).aheads) (sym items) on.aheads;
      });
    }
