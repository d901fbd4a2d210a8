-- A run over the rows of turns ends as the run over the turns one by one.
use Rattle.std.proofs.Common.{◌≡◌, ℕ, zero, suc, ◌==◌, ◌&&◌, cond, Bool, true, false, ◌++◌, List, [], ◌∷◌, None, refl, ap, sym, ◌∙◌, subst}
use Rattle.std.specs.Prelude.{nat_lt, reverse}
use Rattle.std.proofs.lemmas.Bool.{and_parts, eqb-true}
use Rattle.gq_model.specs.declared.act.Act.TheVariants.{Turns}
use Rattle.gq_model.specs.machine.Run.{run}
use Rattle.gq_model.specs.machine.Scenario.{Scenario, System, system}
use Rattle.gq_laws.specs.Progress.{AllRest}
use Rattle.gq_laws.specs.Sound_scenarios.{IsSound}
use Rattle.gq_outcomes.specs.Laws.{IsOutcome, acts_of, ending, turns_alone}
use Rattle.gq_outcomes.specs.Outcomes.{Outcome, Point, after_turn, explored, first_point, outcome_of}
use Rattle.gq_outcomes.specs.Text.{greatest_row, onto_row, rows_back, rows_of}
use Rattle.gq_outcomes.proofs.Turns_read_back.{reverse_first}
use Rattle.gq_outcomes.proofs.sound.Reaches.{last_is}
use Rattle.gq_outcomes.proofs.complete.Runs_end.{each_time, ends_so, stands_all, stands_first, times}

module _ (s : Scenario) (sound : IsSound s) where
  abbrev real : System
  real = system s

  abbrev all : List (ℕ × ℕ) → Point
  all turns = each_time s sound turns (first_point real)

  -- the point after turns, of which the last comes first
  abbrev after : List ℕ → Point
  after [] = first_point real
  after (x ∷ past) = after_turn real x (after past)

  more_turns : (a b : List (ℕ × ℕ)) (p : Point) → each_time s sound (a ++ b) p ≡ each_time s sound b (each_time s sound a p)
  more_turns [] b p = refl
  more_turns (t ∷ a) b p = more_turns a b (times s sound t.0 t.1 p)

  -- ONE BY ONE

  abbrev ones : List ℕ → List (ℕ × ℕ)
  ones [] = []
  ones (x ∷ past) = ones past ++ (x, 1) ∷ []

  alone_more : (a b : List (ℕ × ℕ)) → turns_alone (a ++ b) ≡ turns_alone a ++ turns_alone b
  alone_more [] b = refl
  alone_more (t ∷ a) b = ap (λ l. (t.0, Turns t.1) ∷ l) (alone_more a b)

  ones_are : (past : List ℕ) → turns_alone (ones past) ≡ acts_of past
  ones_are [] = refl
  ones_are (x ∷ past) = alone_more (ones past) ((x, 1) ∷ []) ∙ ap (λ l. l ++ (x, Turns 1) ∷ []) (ones_are past) ∙ sym (last_is x past)

  after_ones : (past : List ℕ) → all (ones past) ≡ after past
  after_ones [] = refl
  after_ones (x ∷ past) = more_turns (ones past) ((x, 1) ∷ []) (first_point real) ∙ ap (after_turn real x) (after_ones past)

  -- IN ROWS

  times_last : (x n : ℕ) (p : Point) → times s sound x (suc n) p ≡ after_turn real x (times s sound x n p)
  times_last x zero p = refl
  times_last x (suc n) p = times_last x n (after_turn real x p)

  last_row : (r : ℕ × ℕ) (rows : List (ℕ × ℕ)) → all (reverse (r ∷ rows)) ≡ times s sound r.0 r.1 (all (reverse rows))
  last_row r rows = ap all (reverse_first r rows) ∙ more_turns (reverse rows) (r ∷ []) (first_point real)

  after_onto : (x : ℕ) (rows : List (ℕ × ℕ)) → all (reverse (onto_row x rows)) ≡ after_turn real x (all (reverse rows))
  after_onto x [] = refl
  after_onto x (r ∷ rows) = by (r.0 == x && nat_lt r.1 greatest_row) refl
    where
      by : (b : Bool) → (r.0 == x && nat_lt r.1 greatest_row) ≡ b
          → all (reverse (cond b ((x, suc r.1) ∷ rows) ((x, 1) ∷ r ∷ rows))) ≡ after_turn real x (all (reverse (r ∷ rows)))
      by true e =
          let same : r.0 ≡ x = eqb-true r.0 x (and_parts (r.0 == x) (nat_lt r.1 greatest_row) e).0 in
          last_row (x, suc r.1) rows ∙ times_last x r.1 (all (reverse rows))
          ∙ ap (λ y. after_turn real x (times s sound y r.1 (all (reverse rows)))) (sym same) ∙ ap (after_turn real x) (sym (last_row r rows))
      by false e = last_row (x, 1) (r ∷ rows)

  after_rows : (past : List ℕ) → all (rows_of past) ≡ after past
  after_rows [] = refl
  after_rows (x ∷ past) = after_onto x (rows_back past) ∙ ap (after_turn real x) (after_rows past)

  -- THE RUN

  -- a run over the rows of an outcome's turns is one that the outcome is of
  pub record RunsTo (o : Outcome) : Type 0 where
    pub right : (run real (turns_alone (rows_of o.past))).wrong ≡ None
    pub rests : AllRest (run real (turns_alone (rows_of o.past))).world
    pub ends : ending s (turns_alone (rows_of o.past)) ≡ o.text

  pub rows_run : (o : Outcome) → IsOutcome s o → RunsTo o
  rows_run o is =
      let rows = rows_of o.past in
      let h = stands_all s sound rows [] (first_point real) (stands_first s sound) in
      let g = stands_all s sound (ones o.past) [] (first_point real) (stands_first s sound) in
      let same : all rows ≡ all (ones o.past) = after_rows o.past ∙ sym (after_ones o.past) in
      let world : (run real (turns_alone rows)).world ≡ (run real (acts_of o.past)).world
      = h.world ∙ (ap (λ (p : Point). p.world) same ∙ (sym g.world ∙ ap (λ a. (run real a).world) (ones_are o.past))) in
      record {
        right = h.right;
        rests = subst AllRest (sym world) is.rests;
        ends = ends_so s sound rows
            ∙ (ap (λ p. (outcome_of (explored s) p).text) same
            ∙ (sym (ends_so s sound (ones o.past)) ∙ (ap (ending s) (ones_are o.past) ∙ is.ends)));
      }
