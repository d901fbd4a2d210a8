-- Turns with tests that bring all work to rest, as the turns of a world of the code.
use Rattle.std.proofs.Common.{◌≡◌, ◌∙◌, ℕ, zero, suc, ◌+◌, ◌-◌, ◌<◌, ◌≤◌, Bool, true, false, List, [], ◌++◌, Option, Some, None, Ok, Err, IfSome, length}
use Rattle.std.proofs.Common.{◌∷◌, append-nil, refl, ap, sym, subst, arith}
use Rattle.std.specs.Prelude.{if◌then◌else◌, slice_get}
use Rattle.gq_model.specs.declared.fault.Wrong.{Wrong}
use Rattle.gq_model.specs.machine.Doing.{Event, Stepped}
use Rattle.gq_model.specs.machine.Rest.{can_run, one_and, while_can}
use Rattle.gq_model.specs.machine.Run.{Ran, after_step, turns_of}
use Rattle.gq_model.specs.machine.Scenario.{Scenario, System, system}
use Rattle.gq_model.specs.machine.Step.{next}
use Rattle.gq_model.specs.machine.World.{Leaf, World}
use Rattle.gq_laws.specs.Turn_effects.{CountsSteps, StandsStill}
use Rattle.gq_world.specs.World_between_turns as worlds
use Rattle.gq_world.specs.World_between_turns.{HasTaken}
use Rattle.gq_world.specs.internal.Act_transitions as code
use Rattle.gq_world.specs.internal.Act_transitions.{going}
use Rattle.gq_world.proofs.Rest_runs.{AllCount, AllStand, most_cut, most_few, most_ran, most_taken}
use Rattle.gq_output.proofs.Written_byte_facts.{appends_nothing}
use Rattle.gq_unverified.specs.internal.Taking.{HasCome, HasLeft, IsCut}

-- WORLDS OF THE CODE

-- a world of the abstract machine, as one of the code that is not stopped
abbrev pub as_world : Scenario → World → worlds.World
as_world s w = record { scenario = s; world = w; failed = false; stopped = false; signals = 0 }

module _ (s : Scenario) (turns : Ran → Ran) (old new : World) (before after : Option (List ℕ)) where
  pub to_run : HasCome turns old new None before after → code.HasRun turns (as_world s old) (as_world s new) before after
  to_run h = record { text = h.text; written = h.written; ran = h.ran; running = refl }

  pub from_run : code.HasRun turns (as_world s old) (as_world s new) before after → HasCome turns old new None before after
  from_run h = record { text = h.text; written = h.written; ran = h.ran }

pub to_cut : (s : Scenario) (turns : Ran → Ran) (old : World) (before after : Option (List ℕ)) → IsCut turns old before after
    → code.IsCut turns (as_world s old) before after
to_cut s turns old before after h = record { text = h.text; more = h.more; written = h.written; prefix = h.prefix }

pub from_cut : (s : Scenario) (turns : Ran → Ran) (old : World) (before after : Option (List ℕ)) → code.IsCut turns (as_world s old) before after
    → IsCut turns old before after
from_cut s turns old before after h = record { text = h.text; more = h.more; written = h.written; prefix = h.prefix }

-- ONE TURN

-- a leaf that is there has taken these steps
pub taken_there : (w : World) (x n : ℕ) → x < length w.leaves → IfSome (slice_get w.leaves x) (λ (l : Leaf). n ≡ l.steps) → HasTaken w x n
taken_there w x n less h = by (slice_get w.leaves x) refl h
  where
    none_there : (xs : List Leaf) (i : ℕ) → slice_get xs i ≡ None → length xs ≤ i
    none_there [] i e = omega arith
    none_there (l ∷ xs) zero e = cc
    none_there (l ∷ xs) (suc i) e = omega (arith, none_there xs i e)

    by : (o : Option Leaf) → slice_get w.leaves x ≡ o → IfSome o (λ (l : Leaf). n ≡ l.steps) → HasTaken w x n
    by None e k = absurd (omega (arith, less, none_there w.leaves x e))
    by (Some leaf) e k = record { leaf = leaf; there = e; taken = sym k }

no_wrong : {p : ℕ × Wrong} → ◌≡◌ {A = Option (ℕ × Wrong)} None (Some p) → ⊥
no_wrong e = cc

-- a turn that is wrong is none that the leaf can take
module _ (s : Scenario) (x : ℕ) (old new : World) (p : ℕ × Wrong) (before after : Option (List ℕ))
    (t : HasCome (turns_of (system s) x 1) old new (Some p) before after) where
  abbrev ran : Ran
  ran = record { world = new; text = [] ++ t.text; wrong = Some p }

  step_is : after_step (system s) x (going old []) (next (system s) old x) ≡ ran
  step_is = t.ran []

  -- what the step is
  abbrev Failed : Stepped → Type 0
  Failed r = (new ≡ old) × (t.text ≡ []) × ((go : World → ℕ × World) → one_and old r go ≡ (0, old))

  failed : (r : Stepped) → after_step (system s) x (going old []) r ≡ ran → Failed r
  failed (Ok q) e = absurd (no_wrong (ap (λ (r : Ran). r.wrong) e))
  failed (Err wrong) e = (sym (ap (λ (r : Ran). r.world) e), sym (ap (λ (r : Ran). r.text) e), λ go. refl)

  here : Failed (next (system s) old x)
  here = failed (next (system s) old x) step_is

  pub wrong_none : while_can 1 (system s) old x ≡ (0, new)
  wrong_none = by (can_run (system s) old x) ∙ ap (λ w. (0, w)) (sym here.0)
    where
      by : (b : Bool) → (if b then one_and old (next (system s) old x) (λ u. while_can 0 (system s) u x) else (0, old)) ≡ (0, old)
      by true = here.2 (λ u. while_can 0 (system s) u x)
      by false = refl

  pub wrong_same : HasCome (turns_of (system s) x (while_can 1 (system s) old x).0) old new None before after
  wrong_same =
      subst (λ n. HasCome (turns_of (system s) x n) old new None before after) (sym (ap (λ (q : ℕ × World). q.0) wrong_none))
      (record {
        text = t.text;
        written = t.written;
        ran = λ prefix. (λ i. record { world = sym here.0 i; text = (sym (same prefix)) i; wrong = None });
      })
    where
      same : (prefix : List ℕ) → prefix ++ t.text ≡ prefix
      same prefix = ap (λ l. prefix ++ l) here.1 ∙ append-nil prefix

-- a turn that is not wrong, and the steps of the leaf before and after it
module _ (s : Scenario) (x : ℕ) (stand : AllStand (system s) x) (count : AllCount (system s) x) (old new : World) (before after : Option (List ℕ)) where
  pub turn_cut : (most : ℕ) → IsCut (turns_of (system s) x most) old before after
      → IsCut (turns_of (system s) x (while_can most (system s) old x).0) old before after
  turn_cut most cut =
      from_cut s (turns_of (system s) x (while_can most (system s) old x).0) old before after
      (most_cut (system s) x most stand count (as_world s old) (as_world s new) before after (to_cut s (turns_of (system s) x most) old before after cut))

  module _ (t : HasCome (turns_of (system s) x 1) old new None before after) (a b : ℕ) (was : HasTaken old x a) (is : HasTaken new x b) where
    run_of : code.HasRun (turns_of (system s) x 1) (as_world s old) (as_world s new) before after
    run_of = to_run s (turns_of (system s) x 1) old new before after t

    pub turn_ran : HasCome (turns_of (system s) x (while_can 1 (system s) old x).0) old new None before after
    turn_ran = from_run s (turns_of (system s) x (while_can 1 (system s) old x).0) old new before after
        (most_ran (system s) x 1 stand count (as_world s old) (as_world s new) before after run_of)

    pub turn_taken : while_can 1 (system s) old x ≡ (b - a, new)
    turn_taken = most_taken (system s) x 1 stand count (as_world s old) (as_world s new) before after run_of a b was is

    pub turn_few : (a ≤ b) × (b - a ≤ 1)
    turn_few = most_few (system s) x 1 stand count (as_world s old) (as_world s new) before after run_of a b was is

-- MANY TURNS

-- so many turns more
abbrev further : ℕ → ℕ × World → ℕ × World
further k p = (k + p.0, p.1)

one_by : (b : Bool) (n : ℕ) (system : System) (w u : World) (x : ℕ) (r : Stepped) → next system w x ≡ r
    → (if b then one_and w r (λ v. (0, v)) else (0, w)) ≡ (1, u)
    → (if b then one_and w r (λ v. while_can n system v x) else (0, w)) ≡ further 1 (while_can n system u x)
one_by true n system w u x (Ok p) e h =
    let same : p.0 ≡ u = ap (λ (q : ℕ × World). q.1) h in
    ap (λ v. (suc (while_can n system v x).0, (while_can n system v x).1)) same
    ∙ ap (λ k. (k, (while_can n system u x).1)) (omega arith)
one_by true n system w u x (Err wrong) e h = absurd (omega (arith, ap (λ (q : ℕ × World). q.0) h))
one_by false n system w u x r e h = absurd (omega (arith, ap (λ (q : ℕ × World). q.0) h))

-- one that it took, and the rest
one_on : (n : ℕ) (system : System) (w u : World) (x : ℕ) → while_can 1 system w x ≡ (1, u) → while_can (suc n) system w x ≡ further 1 (while_can n system u x)
one_on n system w u x h = one_by (can_run system w x) n system w u x (next system w x) refl h

none_by : (b : Bool) (n : ℕ) (system : System) (w u : World) (x : ℕ) (r : Stepped)
    → (if b then one_and w r (λ v. (0, v)) else (0, w)) ≡ (0, u)
    → (if b then one_and w r (λ v. while_can n system v x) else (0, w)) ≡ (0, u)
none_by true n system w u x (Ok p) h = absurd (omega (arith, ap (λ (q : ℕ × World). q.0) h))
none_by true n system w u x (Err wrong) h = h
none_by false n system w u x r h = h

-- one that it could not take
none_on : (n : ℕ) (system : System) (w u : World) (x : ℕ) → while_can 1 system w x ≡ (0, u) → while_can (suc n) system w x ≡ (0, u)
none_on n system w u x h = none_by (can_run system w x) n system w u x (next system w x) h

-- after so many turns what is left of the most leads where all of them lead
pub record HasGone (system : System) (x most taken : ℕ) (old now : World) : Type 0 where
  pub few : taken ≤ most
  pub gone : while_can most system old x ≡ further taken (while_can (most - taken) system now x)

pub gone_first : (system : System) (x most : ℕ) (w : World) → HasGone system x most 0 w w
gone_first system x most w =
    record { few = omega arith; gone = ap (λ n. while_can n system w x) (omega arith) ∙ ap (λ n. (n, (while_can (most - 0) system w x).1)) (omega arith) }

pub gone_on : (system : System) (x most taken : ℕ) (old w u : World) → taken < most → while_can 1 system w x ≡ (1, u) → HasGone system x most taken old w
    → HasGone system x most (taken + 1) old u
gone_on system x most taken old w u less one h =
    let left : most - taken ≡ suc (most - (taken + 1)) = omega (arith, less) in
    let rest = while_can (most - (taken + 1)) system u x in
    record {
      few = omega (arith, less);
      gone = h.gone ∙ (ap (λ n. further taken (while_can n system w x)) left
          ∙ (ap (further taken) (one_on (most - (taken + 1)) system w u x one) ∙ ap (λ n. (n, rest.1)) (omega arith)));
    }

pub gone_rest : (system : System) (x most taken : ℕ) (old w u : World) → taken < most → while_can 1 system w x ≡ (0, u) → HasGone system x most taken old w
    → while_can most system old x ≡ (taken, u)
gone_rest system x most taken old w u less none h =
    let left : most - taken ≡ suc (most - (taken + 1)) = omega (arith, less) in
    h.gone ∙ (ap (λ n. further taken (while_can n system w x)) left
    ∙ (ap (further taken) (none_on (most - (taken + 1)) system w u x none) ∙ ap (λ n. (n, u)) (omega arith)))

pub gone_end : (system : System) (x most taken : ℕ) (old w : World) → most ≤ taken → HasGone system x most taken old w
    → while_can most system old x ≡ (taken, w)
gone_end system x most taken old w over h =
    let few = h.few in
    let none : most - taken ≡ 0 = omega (arith, few, over) in
    h.gone ∙ (ap (λ n. further taken (while_can n system w x)) none ∙ ap (λ n. (n, w)) (omega arith))

-- turns that a leaf can take are the first of them, if it can take it, and the rest
split_by : (b : Bool) (k : ℕ) (system : System) (w : World) (x : ℕ) (r : Stepped) → (n : ℕ) × ((ran : Ran)
    → turns_of system x (if b then one_and w r (λ v. while_can k system v x) else (0, w)).0 ran
    ≡ turns_of system x n (turns_of system x (if b then one_and w r (λ v. (0, v)) else (0, w)).0 ran))
split_by true k system w x (Ok p) = ((while_can k system p.0 x).0, λ ran. refl)
split_by true k system w x (Err wrong) = (0, λ ran. refl)
split_by false k system w x r = (0, λ ran. refl)

pub split_one : (k : ℕ) (system : System) (w : World) (x : ℕ) → (n : ℕ) × ((ran : Ran)
    → turns_of system x (while_can (suc k) system w x).0 ran ≡ turns_of system x n (turns_of system x (while_can 1 system w x).0 ran))
split_one k system w x = split_by (can_run system w x) k system w x (next system w x)

one_and_more : (n : ℕ) → 1 + n ≡ suc n
one_and_more n = omega arith

-- after one that it took
pub split_taken : (k : ℕ) (system : System) (w u : World) (x : ℕ) → while_can 1 system w x ≡ (1, u) → (ran : Ran)
    → turns_of system x (while_can (suc k) system w x).0 ran ≡ turns_of system x (while_can k system u x).0 (turns_of system x (while_can 1 system w x).0 ran)
split_taken k system w u x one ran =
    let n = (while_can k system u x).0 in
    ap (λ (p : ℕ × World). turns_of system x p.0 ran) (one_on k system w u x one)
    ∙ (ap (λ m. turns_of system x m ran) (one_and_more n) ∙ sym (ap (λ (p : ℕ × World). turns_of system x n (turns_of system x p.0 ran)) one))

-- after one that it could not take
pub split_none : (k : ℕ) (system : System) (w u : World) (x : ℕ) → while_can 1 system w x ≡ (0, u) → (ran : Ran)
    → turns_of system x (while_can (suc k) system w x).0 ran ≡ turns_of system x (while_can 1 system w x).0 ran
split_none k system w u x none ran =
    ap (λ (p : ℕ × World). turns_of system x p.0 ran) (none_on k system w u x none) ∙ sym (ap (λ (p : ℕ × World). turns_of system x p.0 ran) none)

-- nothing is left
pub over : (turns all : Ran → Ran) (old new : World) (before after : Option (List ℕ)) → ((ran : Ran) → turns ran ≡ ran)
    → HasLeft turns all old new before after → HasCome all old new None before after
over turns all old new before after id h =
    record { text = h.text; written = h.written; ran = λ prefix. sym (h.same prefix) ∙ id (going new (prefix ++ h.text)) }
