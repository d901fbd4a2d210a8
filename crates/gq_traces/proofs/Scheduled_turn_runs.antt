-- What is scheduled are turns of leaves, and a run over them ends in the world that is scheduled.
use Rattle.std.proofs.Common.{◌≡◌, ◌∙◌, ℕ, zero, suc, ◌+◌, ◌-◌, ◌≤◌, Bool, true, false, List, [], ◌∷◌, ◌++◌, Option, Some, None, Ok, Err}
use Rattle.std.proofs.Common.{refl, ap, sym, subst, arith}
use Rattle.std.specs.Prelude.{if◌then◌else◌, slice_get}
use Rattle.std.proofs.lemmas.List.Sums.{sum_by-append}
use Rattle.gq_model.specs.declared.act.Act.TheVariants.{Turns}
use Rattle.gq_model.specs.machine.Scenario.{Component, System}
use Rattle.gq_model.specs.machine.World.{World}
use Rattle.gq_model.specs.machine.Doing.{Event, Stepped}
use Rattle.gq_model.specs.declared.fault.Wrong.{Wrong}
use Rattle.gq_model.specs.machine.Step.{next}
use Rattle.gq_model.specs.machine.Run.{Ran, Acts, act_on, after_step, run_on, turn_from, turns_of}
use Rattle.gq_model.specs.machine.Rest.{can_run, Taken, and_further, as_acts, one_and, round, rounds, reported_turns, while_can}
use Rattle.gq_traces.proofs.Turned_back.{AreTurns, IsCalled, all_turns}

and_few : (r : Stepped) (w : World) (n : ℕ) (go : World → ℕ × World) → ((u : World) → (go u).0 ≤ n) → (one_and w r go).0 ≤ suc n
and_few (Ok p) w n go few = omega (arith, few p.0)
and_few (Err wrong) w n go few = omega arith

pub while_few : (n : ℕ) (system : System) (w : World) (x : ℕ) → (while_can n system w x).0 ≤ n
while_few zero system w x = omega arith
while_few (suc n) system w x = by (can_run system w x) (and_few (next system w x) w n (λ u. while_can n system u x) (λ u. while_few n system u x))
  where
    by : (b : Bool) → (one_and w (next system w x) (λ u. while_can n system u x)).0 ≤ suc n
        → (if b then one_and w (next system w x) (λ u. while_can n system u x) else (0, w)).0 ≤ suc n
    by true few = few
    by false few = omega arith

-- a run so far that is in this world, and in which no step was wrong
pub record IsAt (ran : Ran) (w : World) : Type 0 where
  pub world : ran.world ≡ w
  pub right : ran.wrong ≡ None

pub step_runs : (system : System) (w : World) (x : ℕ) (ran : Ran) (p : World × Event) → IsAt ran w → next system w x ≡ Ok p
    → IsAt (turn_from system x ran ran.wrong) p.0
step_runs system w x ran p h e =
    subst (λ (o : Option (ℕ × Wrong)). IsAt (turn_from system x ran o) p.0) (sym h.right)
    (subst (λ (r : Stepped). IsAt (after_step system x ran r) p.0) (sym (ap (λ (v : World). next system v x) h.world ∙ e))
    (record { world = refl; right = refl }))

-- a number of turns of the x-th leaf, after which a run is in that world
abbrev Comes : System → ℕ → Ran → ℕ × World → Type 0
Comes system x ran p = IsAt (turns_of system x p.0 ran) p.1

one_runs : (system : System) (w : World) (x : ℕ) (ran : Ran) (go : World → ℕ × World) → IsAt ran w
    → ((u : World) (r : Ran) → IsAt r u → Comes system x r (go u)) → (o : Stepped) → next system w x ≡ o → Comes system x ran (one_and w o go)
one_runs system w x ran go h further (Ok p) e = further p.0 (turn_from system x ran ran.wrong) (step_runs system w x ran p h e)
one_runs system w x ran go h further (Err wrong) e = h

pub while_runs : (n : ℕ) (system : System) (w : World) (x : ℕ) (ran : Ran) → IsAt ran w → Comes system x ran (while_can n system w x)
while_runs zero system w x ran h = h
while_runs (suc n) system w x ran h =
    by (can_run system w x)
    (one_runs system w x ran (λ u. while_can n system u x) h (λ u r at. while_runs n system u x r at) (next system w x) refl)
  where
    by : (b : Bool) → Comes system x ran (one_and w (next system w x) (λ u. while_can n system u x))
        → Comes system x ran (if b then one_and w (next system w x) (λ u. while_can n system u x) else (0, w))
    by true comes = comes
    by false comes = h

pub run_on_both : (system : System) (xs ys : Acts) (ran : Ran) → run_on system (xs ++ ys) ran ≡ run_on system ys (run_on system xs ran)
run_on_both system [] ys ran = refl
run_on_both system (t ∷ xs) ys ran = run_on_both system xs ys (act_on system t.0 t.1 ran)

pub acts_both : (xs ys : List (ℕ × ℕ)) → as_acts (xs ++ ys) ≡ as_acts xs ++ as_acts ys
acts_both [] ys = refl
acts_both (t ∷ xs) ys = ap (λ l. (t.0, Turns t.1) ∷ l) (acts_both xs ys)

both_turns : (components : List Component) (xs ys : List (ℕ × ℕ)) → AreTurns components xs → AreTurns components ys → AreTurns components (xs ++ ys)
both_turns components [] ys h g = g
both_turns components (t ∷ xs) ys h g = (h.0, h.1, both_turns components xs ys h.2 g)

-- turns of leaves, with what is left n together, over which a run comes from one world to the other
pub record IsTaken (system : System) (n : ℕ) (w : World) (t : Taken) : Type 0 where
  pub turns : AreTurns system.components t.turns
  pub counted : all_turns t.turns + t.left ≡ n
  pub runs : (ran : Ran) → IsAt ran w → IsAt (run_on system (as_acts t.turns) ran) t.world

pub both_taken : (system : System) (n : ℕ) (w : World) (a b : Taken) → IsTaken system n w a → IsTaken system a.left a.world b
    → IsTaken system n w (record b { turns = a.turns ++ b.turns })
both_taken system n w a b h g =
    record {
      turns = both_turns system.components a.turns b.turns h.turns g.turns;
      counted = omega (arith, sum_by-append (λ (t : ℕ × ℕ). t.1) a.turns b.turns, h.counted, g.counted);
      runs = λ ran at. subst (λ (r : Ran). IsAt r b.world) (sym (ap (λ l. run_on system l ran) (acts_both a.turns b.turns)
          ∙ run_on_both system (as_acts a.turns) (as_acts b.turns) ran))
          (g.runs (run_on system (as_acts a.turns) ran) (h.runs ran at));
    }

pub one_taken : (system : System) (n : ℕ) (w new : World) (x k : ℕ) → IsCalled system.components x → k ≤ n
    → ((ran : Ran) → IsAt ran w → IsAt (turns_of system x k ran) new) → IsTaken system n w (record { turns = reported_turns x k; left = n - k; world = new })
one_taken system n w new x zero called few runs = record { turns = tt; counted = omega arith; runs = runs }
one_taken system n w new x (suc k) called few runs = record { turns = (called, omega arith, tt); counted = omega (arith, few); runs = runs }

round_taken : (system : System) → ((x : ℕ) (c : Component) → slice_get system.components x ≡ Some c → IsCalled system.components x)
    → (n : ℕ) (w : World) (x : ℕ) (cs : List Component) → ((y : ℕ) (c : Component) → slice_get cs y ≡ Some c → IsCalled system.components (x + y))
    → IsTaken system n w (round system n w x cs)
round_taken system called n w x [] h = record { turns = tt; counted = omega arith; runs = λ ran at. at }
round_taken system called n w x (c ∷ rest) h =
    let p = while_can n system w x in
    let first = one_taken system n w p.1 x p.0 (subst (IsCalled system.components) (omega arith) (h 0 c refl)) (while_few n system w x)
    (while_runs n system w x) in
    both_taken system n w (record { turns = reported_turns x p.0; left = n - p.0; world = p.1 }) (round system (n - p.0) p.1 (suc x) rest) first
    (round_taken system called (n - p.0) p.1 (suc x) rest (λ y d e. subst (IsCalled system.components) (omega arith) (h (suc y) d e)))

further_taken : (system : System) (n : ℕ) (w : World) (t : Taken) (ts : List (ℕ × ℕ)) (go : ℕ → World → Taken) → IsTaken system n w t
    → ((left : ℕ) (u : World) → IsTaken system left u (go left u)) → IsTaken system n w (and_further t ts go)
further_taken system n w t [] go h g = h
further_taken system n w t (x ∷ ts) go h g = both_taken system n w t (go t.left t.world) h (g t.left t.world)

pub rounds_taken : (system : System) → ((x : ℕ) (c : Component) → slice_get system.components x ≡ Some c → IsCalled system.components x)
    → (k n : ℕ) (w : World) → IsTaken system n w (rounds k system n w)
rounds_taken system called zero n w = record { turns = tt; counted = omega arith; runs = λ ran at. at }
rounds_taken system called (suc k) n w =
    let t = round system n w 0 system.components in
    further_taken system n w t t.turns (λ left u. rounds k system left u)
    (round_taken system called n w 0 system.components (λ y c e. subst (IsCalled system.components) (omega arith) (called y c e)))
    (λ left u. rounds_taken system called k left u)
