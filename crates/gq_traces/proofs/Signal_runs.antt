-- Turns to rest and signals, again and again: a run over them ends in the world that they lead to, and all of them can be read.
use Rattle.std.proofs.Common.{◌≡◌, ◌∙◌, ℕ, zero, suc, ◌+◌, ◌≤◌, Bool, true, false, List, [], ◌∷◌, ◌++◌, Option, Some, None, refl, ap, sym, subst, arith}
use Rattle.std.specs.Prelude.{if◌then◌else◌, slice_get, unwrap_or}
use Rattle.std.proofs.lemmas.List.Sums.{sum_by-append, sum_by-cons}
use Rattle.gq_model.specs.declared.act.Act.{Act}
use Rattle.gq_model.specs.declared.act.Act.TheVariants.{Turns, Sets, Submits}
use Rattle.gq_model.specs.declared.fault.Wrong.{Wrong}
use Rattle.gq_model.specs.machine.Rest.{as_acts, greatest_turns}
use Rattle.gq_model.specs.machine.Run.{Acts, Ran, act_on, begun, run, run_on, set_from, submit, submit_from, turn_from, turns_of}
use Rattle.gq_model.specs.machine.Scenario.{Component, Scenario, System, components, system}
use Rattle.gq_model.specs.machine.World.{World, start}
use Rattle.gq_model.specs.declared.act.TurnLine.{TurnLine}
use Rattle.gq_model.specs.declared.act.TurnLine.TheVariants.{Gives, Rests}
use Rattle.gq_model.specs.texts.Turns.{has_signals, line_turns, signals_at}
use Rattle.gq_laws.specs.Names.{NamesDiffer}
use Rattle.gq_traces.specs.Schedule.{Listed, acts_given, all_listed, all_signals, as_lines, first_listed, is_over, listed_turns, next_seed, reaction, reactions}
use Rattle.gq_traces.specs.Schedule.{rest_by, scheduled_by, signals_from, with_all_signals, with_signals_from}
use Rattle.gq_traces.proofs.Schedule_runs.{AreNames, called, taken_by}
use Rattle.gq_traces.proofs.Scheduled_turn_runs.{IsAt, run_on_both}
use Rattle.gq_traces.proofs.Turned_back.{AreGiven, AreTurns, IsCalled, all_turns}

-- LISTS

pub acts_given_both : (xs ys : List TurnLine) → acts_given (xs ++ ys) ≡ acts_given xs ++ acts_given ys
acts_given_both [] ys = refl
acts_given_both (Gives x act ∷ xs) ys = ap (λ l. (x, act) ∷ l) (acts_given_both xs ys)
acts_given_both (Rests ∷ xs) ys = acts_given_both xs ys

pub turns_as_acts : (ts : List (ℕ × ℕ)) → acts_given (as_lines ts) ≡ as_acts ts
turns_as_acts [] = refl
turns_as_acts (t ∷ ts) = ap (λ l. (t.0, Turns t.1) ∷ l) (turns_as_acts ts)

pub turns_as_lines : (ts : List (ℕ × ℕ)) → listed_turns (as_lines ts) ≡ all_turns ts
turns_as_lines [] = refl
turns_as_lines (t ∷ ts) =
    let rest = turns_as_lines ts in
    let sum = sum_by-cons (λ (t : ℕ × ℕ). t.1) t ts in
    let lines = sum_by-cons line_turns (Gives t.0 (Turns t.1)) (as_lines ts) in
    omega (arith, rest, sum, lines)

pub given_both : (version : ℕ) (cs : List Component) (xs ys : List TurnLine) → AreGiven version cs xs → AreGiven version cs ys → AreGiven version cs (xs ++ ys)
given_both version cs [] ys h g = g
given_both version cs (line ∷ xs) ys h g = (h.0, given_both version cs xs ys h.1 g)

turns_given : (version : ℕ) (cs : List Component) (ts : List (ℕ × ℕ)) → AreTurns cs ts → AreGiven version cs (as_lines ts)
turns_given version cs [] h = tt
turns_given version cs (t ∷ ts) h = ((h.0, h.1), turns_given version cs ts h.2)

-- SIGNALS

no_turns_from : (x i k : ℕ) → listed_turns (signals_from x i k) ≡ 0
no_turns_from x i zero = refl
no_turns_from x i (suc k) =
    let rest = no_turns_from x (suc i) k in
    let sum = sum_by-cons line_turns (Gives x (Submits i)) (signals_from x (suc i) k) in
    omega (arith, rest, sum)

pub no_turns : (x : ℕ) (cs : List Component) → listed_turns (all_signals x cs) ≡ 0
no_turns x [] = refl
no_turns x (c ∷ rest) =
    let here = no_turns_from x 0 c.node.signals in
    let more = no_turns (suc x) rest in
    let sum = sum_by-append line_turns (signals_from x 0 c.node.signals) (all_signals (suc x) rest) in
    omega (arith, here, more, sum)

submit_runs : (system : System) (x i : ℕ) (ran : Ran) (w : World) → IsAt ran w → IsAt (act_on system x (Submits i) ran) (submit w x i)
submit_runs system x i ran w at =
    subst (λ (o : Option (ℕ × Wrong)). IsAt (submit_from x i ran o) (submit w x i)) (sym at.right)
    (record { world = ap (λ (v : World). submit v x i) at.world; right = at.right })

from_run : (system : System) (x i k : ℕ) (ran : Ran) (w : World) → IsAt ran w
    → IsAt (run_on system (acts_given (signals_from x i k)) ran) (with_signals_from x i k w)
from_run system x i zero ran w at = at
from_run system x i (suc k) ran w at =
    from_run system x (suc i) k (act_on system x (Submits i) ran) (submit w x i) (submit_runs system x i ran w at)

signals_run : (system : System) (x : ℕ) (cs : List Component) (ran : Ran) (w : World) → IsAt ran w
    → IsAt (run_on system (acts_given (all_signals x cs)) ran) (with_all_signals x cs w)
signals_run system x [] ran w at = at
signals_run system x (c ∷ rest) ran w at =
    let here = acts_given (signals_from x 0 c.node.signals) in
    subst (λ (r : Ran). IsAt r (with_all_signals (suc x) rest (with_signals_from x 0 c.node.signals w)))
    (sym (ap (λ l. run_on system l ran) (acts_given_both (signals_from x 0 c.node.signals) (all_signals (suc x) rest))
    ∙ run_on_both system here (acts_given (all_signals (suc x) rest)) ran))
    (signals_run system (suc x) rest (run_on system here ran) (with_signals_from x 0 c.node.signals w)
    (from_run system x 0 c.node.signals ran w at))

-- ALL OF IT

module _ (s : Scenario) (differ : NamesDiffer s) (names : AreNames s)
    (few : (x : ℕ) (c : Component) → slice_get (components s) x ≡ Some c → c.node.signals ≤ 3) where
  from_given : (x i k : ℕ) → has_signals s.version ≡ true → IsCalled (components s) x → i + k ≤ signals_at (slice_get (components s) x)
      → signals_at (slice_get (components s) x) ≤ 3 → AreGiven s.version (components s) (signals_from x i k)
  from_given x i zero has is within most = tt
  from_given x i (suc k) has is within most =
      ((is, has, omega (arith, within), omega (arith, within, most)), from_given x (suc i) k has is (omega (arith, within)) most)

  signals_given : (x : ℕ) (cs : List Component) → has_signals s.version ≡ true
      → ((y : ℕ) (c : Component) → slice_get cs y ≡ Some c → slice_get (components s) (x + y) ≡ Some c)
      → AreGiven s.version (components s) (all_signals x cs)
  signals_given x [] has h = tt
  signals_given x (c ∷ rest) has h =
      let same : x + 0 ≡ x = omega arith in
      let there : slice_get (components s) x ≡ Some c = ap (slice_get (components s)) (sym same) ∙ h 0 c refl in
      let all = ap signals_at there in
      let most = few x c there in
      given_both s.version (components s) (signals_from x 0 c.node.signals) (all_signals (suc x) rest)
      (from_given x 0 c.node.signals has (called s differ names x c there) (omega (arith, all)) (omega (arith, all, most)))
      (signals_given (suc x) rest has (λ y d e. (let next : suc x + y ≡ x + suc y = omega arith in ap (slice_get (components s)) next ∙ h (suc y) d e)))

  -- what is listed so far: a run over it ends in its world with no wrong step, all of it can be read, and the turns are those that were taken
  pub record IsRun (l : Listed) : Type 0 where
    pub runs : IsAt (run (system s) (acts_given l.lines)) l.world
    pub given : AreGiven s.version (components s) l.lines
    pub counted : listed_turns l.lines + l.left ≡ greatest_turns

  pub first_run : (seed : Option ℕ) → IsRun (first_listed seed s)
  first_run seed =
      let t = scheduled_by seed s in
      let taken = taken_by seed s greatest_turns (start (system s)) differ names in
      let sum = turns_as_lines t.turns in
      let count = taken.counted in
      record {
        runs = subst (λ (acts : Acts). IsAt (run (system s) acts) t.world) (sym (turns_as_acts t.turns))
            (taken.runs (begun (system s)) (record { world = refl; right = refl }));
        given = turns_given s.version (components s) t.turns taken.turns;
        counted = omega (arith, sum, count);
      }

  reaction_run : (seed : Option ℕ) (l : Listed) → has_signals s.version ≡ true → IsRun l → IsRun (reaction seed (system s) l)
  reaction_run seed l has h =
      let signals = all_signals 0 (components s) in
      let w = with_all_signals 0 (components s) l.world in
      let t = rest_by seed (system s) l.left w in
      let taken = taken_by seed s l.left w differ names in
      let first = run (system s) (acts_given l.lines) in
      let second = run_on (system s) (acts_given signals) first in
      let parts : run (system s) (acts_given (l.lines ++ (signals ++ as_lines t.turns))) ≡ run_on (system s) (as_acts t.turns) second =
      ap (run (system s)) (acts_given_both l.lines (signals ++ as_lines t.turns))
      ∙ (run_on_both (system s) (acts_given l.lines) (acts_given (signals ++ as_lines t.turns)) (begun (system s))
      ∙ (ap (λ acts. run_on (system s) acts first) (acts_given_both signals (as_lines t.turns))
      ∙ (run_on_both (system s) (acts_given signals) (acts_given (as_lines t.turns)) first
      ∙ ap (λ acts. run_on (system s) acts second) (turns_as_acts t.turns)))) in
      let sum = sum_by-append line_turns l.lines (signals ++ as_lines t.turns) in
      let more = sum_by-append line_turns signals (as_lines t.turns) in
      let none = no_turns 0 (components s) in
      let turns = turns_as_lines t.turns in
      let count = taken.counted in
      let before = h.counted in
      record {
        runs = subst (λ (r : Ran). IsAt r t.world) (sym parts) (taken.runs second (signals_run (system s) 0 (components s) first l.world h.runs));
        given = given_both s.version (components s) l.lines (signals ++ as_lines t.turns) h.given
            (given_both s.version (components s) signals (as_lines t.turns)
            (signals_given 0 (components s) has (λ y c e. (let same : 0 + y ≡ y = omega arith in ap (slice_get (components s)) same ∙ e)))
            (turns_given s.version (components s) t.turns taken.turns));
        counted = omega (arith, sum, more, none, turns, count, before);
      }

  reactions_run : (k : ℕ) (seed : Option ℕ) (l : Listed) → has_signals s.version ≡ true → IsRun l → IsRun (reactions k seed (system s) l)
  reactions_run zero seed l has h = h
  reactions_run (suc k) seed l has h =
      by (is_over (system s) l)
      (reactions_run k (next_seed seed) (reaction (next_seed seed) (system s) l) has (reaction_run (next_seed seed) l has h))
    where
      by : (b : Bool) → IsRun (reactions k (next_seed seed) (system s) (reaction (next_seed seed) (system s) l))
          → IsRun (if b then l else reactions k (next_seed seed) (system s) (reaction (next_seed seed) (system s) l))
      by true more = h
      by false more = more

  pub all_run : (seed times : Option ℕ) → IsRun (all_listed seed times s)
  unfolding all_listed
  all_run seed times = by (has_signals s.version) refl
    where
      by : (b : Bool) → has_signals s.version ≡ b
          → IsRun (reactions (if b then unwrap_or times 0 else 0) seed (system s) (first_listed seed s))
      by true has = reactions_run (unwrap_or times 0) seed (first_listed seed s) has (first_run seed)
      by false none = first_run seed

-- A PREFIX OF A RUN

turns_stuck : (system : System) (x n : ℕ) (ran : Ran) (p : ℕ × Wrong) → ran.wrong ≡ Some p → turns_of system x n ran ≡ ran
turns_stuck system x zero ran p e = refl
turns_stuck system x (suc n) ran p e =
    let same : turn_from system x ran ran.wrong ≡ ran = ap (turn_from system x ran) e in
    ap (turns_of system x n) same ∙ turns_stuck system x n ran p e

act_stuck : (system : System) (x : ℕ) (a : Act) (ran : Ran) (p : ℕ × Wrong) → ran.wrong ≡ Some p → act_on system x a ran ≡ ran
act_stuck system x (Turns n) ran p e = turns_stuck system x n ran p e
act_stuck system x (Sets i n) ran p e = ap (set_from system x i n ran) e
act_stuck system x (Submits i) ran p e = ap (submit_from x i ran) e

runs_stuck : (system : System) (acts : Acts) (ran : Ran) (p : ℕ × Wrong) → ran.wrong ≡ Some p → run_on system acts ran ≡ ran
runs_stuck system [] ran p e = refl
runs_stuck system (t ∷ acts) ran p e = ap (run_on system acts) (act_stuck system t.0 t.1 ran p e) ∙ runs_stuck system acts ran p e

-- no step of it was wrong where none of the whole was
pub prefix_right : (system : System) (xs ys : Acts) (ran : Ran) → (run_on system (xs ++ ys) ran).wrong ≡ None → (run_on system xs ran).wrong ≡ None
prefix_right system xs ys ran right = by (run_on system xs ran).wrong refl
  where
    none_not : (p : ℕ × Wrong) → ◌≡◌ {A = Option (ℕ × Wrong)} (Some p) None → ⊥
    none_not p e = cc

    by : (o : Option (ℕ × Wrong)) → (run_on system xs ran).wrong ≡ o → (run_on system xs ran).wrong ≡ None
    by None e = e
    by (Some p) e =
        absurd (none_not p (sym e ∙ sym (ap (λ (r : Ran). r.wrong)
        (run_on_both system xs ys ran ∙ runs_stuck system ys (run_on system xs ran) p e)) ∙ right))
