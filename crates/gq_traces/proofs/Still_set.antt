-- What was noted of a world, after a setting or a submission: nothing of it is reported of accounts and sessions.
use Rattle.std.proofs.Common.{◌≡◌, ◌∙◌, ◌<◌, ℕ, inl, inr, List, length, map, Some, refl, ap, sym}
use Rattle.std.specs.Prelude.{slice_get}
use Rattle.std.proofs.lemmas.Bool.Decides.{eqb_tells}
use Rattle.gq_model.specs.machine.Step_budgets.{all_steps_in}
use Rattle.gq_model.specs.machine.Run.{set_input, signals_with, submit}
use Rattle.gq_model.specs.machine.Scenario.{Scenario, System, system}
use Rattle.gq_model.specs.machine.World.{Leaf, Signal, World, session_at, with_leaf}
use Rattle.gq_laws.specs.Session_links.{stance_in}
use Rattle.gq_laws.proofs.session_links.Written_world_links.{set_else, set_here}
use Rattle.gq_laws.proofs.input_settings.Setting_keeps_invariants.{of_setting, of_submit}
use Rattle.gq_traces.specs.Trace.{accounts_in, standing_of}
use Rattle.gq_traces.specs.declared.noted.PrintedState.{PrintedState}
use Rattle.gq_traces.specs.internal.Noted.{AreNoted}
use Rattle.gq_traces.specs.internal.Printed_steps.{budgets_of}
use Rattle.gq_traces.proofs.Accounts_by_budgets.{standing_free}
use Rattle.gq_traces.proofs.Sound_world_leaves.{there_is}
use Rattle.gq_traces.proofs.Same_phase_step.{LeavesAll, keeps_self, leaves_self}
use Rattle.gq_traces.proofs.Unchanged_accounts_step.{SamePhase, StaysSo, accounts_stand, printed_same}

-- a leaf with other inputs
with_leaves : (w : World) (x : ℕ) (leaf : Leaf) (inputs : List ℕ) → slice_get w.leaves x ≡ Some leaf
    → LeavesAll w x (with_leaf w x (record leaf { inputs = inputs }))
with_leaves w x leaf inputs there =
    let other = record leaf { inputs = inputs } in
    record {
      leaves = λ y ne. set_else w.leaves x y other ne;
      stances = λ y. elim (eqb_tells y x) [
        | inl e ↦ ap (λ z. stance_in (slice_get (with_leaf w x other).leaves z)) e.1 ∙ ap stance_in (set_here w.leaves x other leaf there)
            ∙ ap stance_in (sym there) ∙ ap (λ z. stance_in (slice_get w.leaves z)) (sym e.1)
        | inr e ↦ ap stance_in (set_else w.leaves x y other e.1)
      ];
      requests = refl;
      count = refl;
      sessions = λ k. keeps_self x (session_at w k);
    }

pub set_leaves_all : (system : System) (w : World) (x i n : ℕ) → LeavesAll w x (set_input system w x i n)
set_leaves_all system w x i n = of_setting system (LeavesAll w x) w x i n (λ leaf inputs there. with_leaves w x leaf inputs there) (leaves_self w x)

-- the leaf is in its phase, with what it holds
abbrev Stays : ℕ → World → ℕ → World → Type 0
Stays version w x new = (p : SamePhase w new x) × StaysSo version w new x p

set_stays : (version : ℕ) (system : System) (w : World) (x i n : ℕ) → x < length w.leaves → Stays version w x (set_input system w x i n)
set_stays version system w x i n less =
    let l = there_is w.leaves x less in
    of_setting system (Stays version w x) w x i n
    (λ leaf inputs there. (
      record {
        was = leaf;
        there = there;
        is = record leaf { inputs = inputs };
        here =
            set_here w.leaves x (record leaf { inputs = inputs }) leaf there;
        phase = refl;
      },
      record { used = refl; caps = λ counted. refl },
    ))
    (record { was = l.0; there = l.1; is = l.0; here = l.1; phase = refl }, record { used = refl; caps = λ counted. refl })

-- how accounts stand
accounts_left : (s : Scenario) (w : World) (x : ℕ) (new : World) → LeavesAll w x new → (p : SamePhase w new x) → StaysSo s.version w new x p
    → map standing_of (accounts_in s w (budgets_of s)) ≡ map standing_of (accounts_in s new (budgets_of s))
accounts_left s w x new all p so =
    let b = all_steps_in w (budgets_of s) in
    sym (accounts_stand s w x new all p so b) ∙ standing_free s new b (all_steps_in new (budgets_of s))

pub set_noted : (s : Scenario) (w : World) (x i n : ℕ) (notes : PrintedState) → x < length w.leaves → AreNoted s w notes
    → AreNoted s (set_input (system s) w x i n) notes
set_noted s w x i n notes less h =
    let new = set_input (system s) w x i n in
    let all = set_leaves_all (system s) w x i n in
    let stays = set_stays s.version (system s) w x i n less in
    record {
      accounts = h.accounts ∙ accounts_left s w x new all stays.0 stays.1;
      sessions = λ k few. (let t = h.sessions k few in record { is = t.is ∙ sym (printed_same w x new all k); known = t.known });
      room = h.room;
      count = h.count ∙ sym all.count;
      few = h.few;
      beyond = h.beyond;
    }

-- SIGNALS

-- a leaf with other signals
with_signals : (w : World) (x : ℕ) (leaf : Leaf) (signals : List Signal) → slice_get w.leaves x ≡ Some leaf
    → LeavesAll w x (with_leaf w x (record leaf { signals = signals }))
with_signals w x leaf signals there =
    let other = record leaf { signals = signals } in
    record {
      leaves = λ y ne. set_else w.leaves x y other ne;
      stances = λ y. elim (eqb_tells y x) [
        | inl e ↦ ap (λ z. stance_in (slice_get (with_leaf w x other).leaves z)) e.1 ∙ ap stance_in (set_here w.leaves x other leaf there)
            ∙ ap stance_in (sym there) ∙ ap (λ z. stance_in (slice_get w.leaves z)) (sym e.1)
        | inr e ↦ ap stance_in (set_else w.leaves x y other e.1)
      ];
      requests = refl;
      count = refl;
      sessions = λ k. keeps_self x (session_at w k);
    }

submission_leaves_all : (w : World) (x i : ℕ) → LeavesAll w x (submit w x i)
submission_leaves_all w x i = of_submit (LeavesAll w x) w x i (λ leaf there. with_signals w x leaf (signals_with leaf.signals i) there) (leaves_self w x)

submission_stays : (version : ℕ) (w : World) (x i : ℕ) → x < length w.leaves → Stays version w x (submit w x i)
submission_stays version w x i less =
    let l = there_is w.leaves x less in
    of_submit (Stays version w x) w x i
    (λ leaf there. (
      record {
        was = leaf;
        there = there;
        is = record leaf { signals = signals_with leaf.signals i };
        here = set_here w.leaves x (record leaf { signals = signals_with leaf.signals i }) leaf there;
        phase = refl;
      },
      record { used = refl; caps = λ counted. refl },
    ))
    (record { was = l.0; there = l.1; is = l.0; here = l.1; phase = refl }, record { used = refl; caps = λ counted. refl })

pub submission_noted : (s : Scenario) (w : World) (x i : ℕ) (notes : PrintedState) → x < length w.leaves → AreNoted s w notes
    → AreNoted s (submit w x i) notes
submission_noted s w x i notes less h =
    let new = submit w x i in
    let all = submission_leaves_all w x i in
    let stays = submission_stays s.version w x i less in
    record {
      accounts = h.accounts ∙ accounts_left s w x new all stays.0 stays.1;
      sessions = λ k few. (let t = h.sessions k few in record { is = t.is ∙ sym (printed_same w x new all k); known = t.known });
      room = h.room;
      count = h.count ∙ sym all.count;
      few = h.few;
      beyond = h.beyond;
    }
