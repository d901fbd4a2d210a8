-- The lines of turns by chance have room in a text that is read.
use Rattle.std.proofs.Common.{ℕ, zero, suc, ◌-◌, ◌*◌, ◌≤◌, min, List, [], ◌∷◌, ◌++◌, length, Some, arith}
use Rattle.std.specs.Prelude.{map}
use Rattle.std.proofs.lemmas.Bool.Decides.{nat_tests}
use Rattle.std.proofs.lemmas.Fmt.{length-decimal-le}
use Rattle.std.proofs.lemmas.Nat.{mod_below}
use Rattle.rand_core.specs.Pcg32Seed.{pcg32_seed}
use Rattle.rand_pcg.specs.Lcg.{Lcg}
use Rattle.rand_pcg.specs.Pcg.{pcg32, pcg32_of_seed}
use Rattle.gq_model.specs.machine.Scenario.{Component, Scenario, System, components, system}
use Rattle.gq_model.specs.machine.World.{World, start}
use Rattle.gq_model.specs.machine.Rest.{greatest_turns, Taken, reported_turns, while_can}
use Rattle.gq_laws.specs.Names.{NamesDiffer}
use Rattle.gq_traces.specs.Schedule.{able, as_lines, choice, choices, drawn, given_line, greatest_choices, greatest_text, no_turns, rest_by, scheduled_by}
use Rattle.gq_traces.specs.Schedule.{where_some}
use Rattle.gq_traces.proofs.Fitting_lines.{bytes}
use Rattle.gq_traces.proofs.Schedule_runs.{AreNames, taken_by}
use Rattle.gq_traces.proofs.Scheduled_turn_runs.{while_few}
use Rattle.gq_traces.proofs.Text_length.{joined_both, line_short, turn_line}
use Rattle.gq_traces.proofs.Turned_back.{AreTurns}

-- at most k lines, of at most 16 turns each
abbrev pub AreShort : ℕ → List (ℕ × ℕ) → Type 0
AreShort k [] = Unit {0}
AreShort zero (t ∷ ts) = ⊥
AreShort (suc k) (t ∷ ts) = (t.1 ≤ 16) × AreShort k ts

none_short : (k : ℕ) → AreShort k []
none_short zero = tt
none_short (suc k) = tt

more_short : (k : ℕ) (ts : List (ℕ × ℕ)) → AreShort k ts → AreShort (suc k) ts
more_short k [] h = tt
more_short zero (t ∷ ts) h = absurd h
more_short (suc k) (t ∷ ts) h = (h.0, more_short k ts h.1)

one_short : (k x n : ℕ) (ts : List (ℕ × ℕ)) → n ≤ 16 → AreShort k ts → AreShort (suc k) (reported_turns x n ++ ts)
one_short k x zero ts few h = more_short k ts h
one_short k x (suc n) ts few h = (few, h)

module _ (system : System) where
  module _ (n : ℕ) (w : World) (g : Lcg) where
    abbrev leaves : List ℕ
    leaves = able system w 0 system.components

    abbrev most : ℕ
    most = min (choice g leaves).most (suc n)

    abbrev taken : ℕ × World
    taken = while_can most system w (choice g leaves).leaf

    few : taken.0 ≤ 16
    few =
        let h = while_few most system w (choice g leaves).leaf in
        let drawn = mod_below (pcg32 (drawn g (length leaves)).1).0 16 (omega arith) in
        let less : most ≤ (choice g leaves).most = grind (arith, nat_tests) in
        omega (arith, h, less, drawn)

    choice_short : (k : ℕ) (more : Taken) → AreShort k more.turns → (found : List ℕ)
        → AreShort (suc k) (where_some found (no_turns (suc n) w) (record more { turns = reported_turns (choice g leaves).leaf taken.0 ++ more.turns })).turns
    choice_short k more h [] = tt
    choice_short k more h (x ∷ rest) = one_short k (choice g leaves).leaf taken.0 more.turns few h

  choices_short : (k n : ℕ) (w : World) (g : Lcg) → AreShort k (choices k system n w g).turns
  choices_short zero n w g = tt
  choices_short (suc k) zero w g = tt
  choices_short (suc k) (suc n) w g =
      let t = taken n w g in
      let after = (choice g (leaves n w g)).generator in
      choice_short n w g k (choices k system (suc n - t.0) t.1 after) (choices_short k (suc n - t.0) t.1 after) (leaves n w g)

lines_short : (cs : List Component) (k : ℕ) (ts : List (ℕ × ℕ)) → AreTurns cs ts → AreShort k ts → bytes cs (as_lines ts) ≤ 20 * k
lines_short cs k [] h few = omega arith
lines_short cs zero (t ∷ ts) h few = absurd few
lines_short cs (suc k) (t ∷ ts) h few =
    omega (
      arith,
      joined_both (turn_line cs t) (map (given_line cs) (as_lines ts)),
      line_short cs t h.0,
      length-decimal-le 2 t.1 (omega arith) (omega (arith, few.0)) (omega (arith, few.0)),
      lines_short cs k ts h.2 few.1,
    )

chosen_short : (seed : ℕ) (s : Scenario) → AreShort greatest_choices (scheduled_by (Some seed) s).turns
unfolding rest_by
chosen_short seed s = choices_short (system s) greatest_choices greatest_turns (start (system s)) (pcg32_of_seed (pcg32_seed 16 seed))

pub chance_short : (seed : ℕ) (s : Scenario) → NamesDiffer s → AreNames s
    → bytes (components s) (as_lines (scheduled_by (Some seed) s).turns) ≤ greatest_text
unfolding greatest_choices greatest_text
chance_short seed s differ names =
    let t = scheduled_by (Some seed) s in
    let text = lines_short (components s) greatest_choices t.turns (taken_by (Some seed) s greatest_turns (start (system s)) differ names).turns
    (chosen_short seed s) in
    omega (arith, text)
