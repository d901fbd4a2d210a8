-- The laws of lists of turns and signals, from what holds of every world that a sound scenario comes to.
use Rattle.std.proofs.Common.{◌≡◌, ◌∙◌, ℕ, ◌<◌, ◌≤◌, ◌⊎◌, inl, inr, Bool, true, false, List, [], ◌∷◌, length, Option, Some, None, Ok, refl, ap, sym, arith}
use Rattle.std.proofs.Common.{length-append, true≢false}
use Rattle.std.specs.Prelude.{◌==◌, ◌||◌, if◌then◌else◌, map, not, slice_get, unwrap_or}
use Rattle.std.proofs.lemmas.Bool.Decides.{nat_tests}
use Rattle.std.proofs.lemmas.Option.{slice_get_within}
use Rattle.gq_model.specs.machine.Rest.{can_run, greatest_turns, some_can}
use Rattle.gq_model.specs.machine.Run.{Acts, begun, run}
use Rattle.gq_model.specs.machine.Scenario.{Component, Scenario, components, system}
use Rattle.gq_model.specs.machine.World.{World}
use Rattle.gq_model.specs.Promises.{IsUpheld}
use Rattle.gq_model.specs.texts.Letters.{is_name}
use Rattle.gq_world.specs.World_between_turns.{AreOf}
use Rattle.gq_model.specs.declared.act.Act.TheVariants.{Turns, Sets, Submits}
use Rattle.gq_model.specs.declared.act.TurnLine.{TurnLine}
use Rattle.gq_model.specs.declared.act.TurnLine.TheVariants.{Gives, Rests}
use Rattle.gq_model.specs.texts.Turns.{has_signals, turned}
use Rattle.gq_laws.specs.Session_links.{IsLinkedWorld}
use Rattle.gq_laws.specs.Progress.{AllRest, GoesOn}
use Rattle.gq_laws.specs.Reached_worlds.{IsReached}
use Rattle.gq_laws.specs.Shapes.{IsWholeWorld}
use Rattle.gq_laws.specs.Sound_scenarios.{IsSound}
use Rattle.gq_views.specs.Listing.{joined}
use Rattle.gq_traces.specs.Rest_runs.{RestsUnless}
use Rattle.gq_traces.specs.Schedule.{Listed, acts_given, all_listed, as_lines, cut_lines, fitting, given_line, greatest_text}
use Rattle.gq_traces.specs.Schedule.{is_cut, listed_turns, name_at, reactions}
use Rattle.gq_traces.specs.Schedule.{first_listed, schedule_text, scheduled_by, written_lines}
use Rattle.gq_traces.proofs.Chance_length.{chance_short}
use Rattle.gq_traces.proofs.Fitting_lines.{bytes, fitting_all, fitting_few, fitting_given, fitting_prefix, fitting_short, fitting_whole}
use Rattle.gq_traces.proofs.Leaf_table_names.{HasNames}
use Rattle.gq_traces.proofs.Schedule_runs.{at_rest}
use Rattle.gq_traces.proofs.Signal_runs.{IsRun, acts_given_both, all_run, prefix_right}
use Rattle.gq_traces.proofs.Text_length.{cut_short, text_short}
use Rattle.gq_traces.proofs.Turned_back.{AreGiven, IsCalled, read_back}
use Rattle.gq_traces.proofs.Whole_text.{text_parts}

cut_lines_short : (cut : Bool) (n : ℕ) → n ≤ greatest_turns → length (joined (cut_lines cut n)) ≤ 26
cut_lines_short true n few = cut_short n few
cut_lines_short false n few = omega arith

-- neither is there more nor can some leaf go on
not_cut : (m n : ℕ) (can : Bool) → not (m == n) || can ≡ false → (m ≡ n) × (can ≡ false)
not_cut m n true e = by (not (m == n)) e
  where
    by : (b : Bool) → b || true ≡ false → (m ≡ n) × (true ≡ false)
    by true e = absurd (true≢false e)
    by false e = absurd (true≢false e)
not_cut m n false e = by (m == n) refl e
  where
    by : (b : Bool) → (m == n) ≡ b → not b || false ≡ false → (m ≡ n) × (false ≡ false)
    by true same e = (grind (arith, nat_tests, same), refl)
    by false other e = absurd (true≢false e)

-- what has a name is there
called_less : (cs : List Component) (x : ℕ) → IsCalled cs x → x < length cs
called_less cs x called = by (slice_get cs x) refl
  where
    nameless : ◌≡◌ {A = Bool} false true → ⊥
    nameless e = cc

    by : (o : Option Component) → slice_get cs x ≡ o → x < length cs
    by (Some c) e = slice_get_within cs x c e
    by None e = absurd (nameless (ap is_name (sym (ap name_at e) ∙ called.there) ∙ called.is_name))

given_of : (version : ℕ) (cs : List Component) (lines : List TurnLine) → AreGiven version cs lines → AreOf (length cs) lines
given_of version cs [] h = tt
given_of version cs (Gives x (Turns n) ∷ lines) h = (called_less cs x h.0.0, given_of version cs lines h.1)
given_of version cs (Gives x (Sets i n) ∷ lines) h = absurd h.0
given_of version cs (Gives x (Submits i) ∷ lines) h = (called_less cs x h.0.0, given_of version cs lines h.1)
given_of version cs (Rests ∷ lines) h = absurd h.0

module _ (s : Scenario) (sound : IsSound s) (names : HasNames s) (seed : Option ℕ) where
  abbrev all : Option ℕ → Listed
  all times = all_listed seed times s

  is_run : (times : Option ℕ) → IsRun s sound.formed.differ names.names sound.formed.signals (all times)
  is_run times = all_run s sound.formed.differ names.names sound.formed.signals seed times

  pub lines_few : (times : Option ℕ) → listed_turns (all times).lines ≤ greatest_turns
  lines_few times = let counted = (is_run times).counted in omega (arith, counted)

  pub lines_of : (times : Option ℕ) → AreOf (length (components s)) (all times).lines
  lines_of times = given_of s.version (components s) (all times).lines (is_run times).given

  pub reported : (times : Option ℕ) → turned s (schedule_text seed times s) ≡ Ok (acts_given (written_lines seed times s))
  unfolding greatest_text
  reported times =
      let cs = components s in
      let lines = (all times).lines in
      let kept = written_lines seed times s in
      let cut = is_cut seed times s in
      let counted = (is_run times).counted in
      let fewer = fitting_few cs greatest_text lines in
      let few : listed_turns kept ≤ greatest_turns = omega (arith, counted, fewer) in
      let short = fitting_short cs greatest_text lines in
      let long = ap length (text_parts cs kept cut) ∙ length-append (joined (map (given_line cs) kept)) (joined (cut_lines cut (listed_turns kept))) in
      let end = cut_lines_short cut (listed_turns kept) few in
      read_back s kept cut (fitting_given cs s.version greatest_text lines (is_run times).given) few (omega (arith, short, long, end))

  pub run_right : (times : Option ℕ) → (run (system s) (acts_given (written_lines seed times s))).wrong ≡ None
  run_right times =
      let lines = (all times).lines in
      let kept = written_lines seed times s in
      let rest = fitting_prefix (components s) greatest_text lines in
      prefix_right (system s) (acts_given kept) (acts_given rest.0) (begun (system s))
      (ap (λ (acts : Acts). (run (system s) acts).wrong) (sym (ap acts_given rest.1 ∙ acts_given_both kept rest.0)) ∙ (is_run times).runs.right)

  pub run_ends : (times : Option ℕ) → is_cut seed times s ≡ false
      → (run (system s) (acts_given (written_lines seed times s))).world ≡ (all times).world
  run_ends times e =
      let lines = (all times).lines in
      let h = not_cut (length (fitting (components s) greatest_text lines)) (length lines) (some_can (system s) (all times).world 0 (components s)) e in
      ap (λ (l : List TurnLine). (run (system s) (acts_given l)).world) (fitting_whole (components s) greatest_text lines h.0) ∙ (is_run times).runs.world

  -- turns without signals all fit
  pub all_written : ((w : World) → IsReached s w → IsLinkedWorld (system s) w) → ((w : World) → IsReached s w → IsWholeWorld (system s) w)
      → ((w : World) → IsReached s w → IsUpheld s w) → written_lines seed None s ≡ (all None).lines
  unfolding all_listed
  all_written linked whole upheld =
      ap (fitting (components s) greatest_text) first ∙ (fitting_all (components s) greatest_text (first_listed seed s).lines (short seed) ∙ sym first)
    where
      first : (all None).lines ≡ (first_listed seed s).lines
      first = by (has_signals s.version)
        where
          by : (b : Bool) → (reactions (if b then unwrap_or None 0 else 0) seed (system s) (first_listed seed s)).lines ≡ (first_listed seed s).lines
          by true = refl
          by false = refl

      short : (seed : Option ℕ) → bytes (components s) (as_lines (scheduled_by seed s).turns) ≤ greatest_text
      short None =
          text_short s linked (λ w x reached. (upheld w reached).goes_on x) (λ w reached. (whole w reached).count) sound.formed.differ names.names names.few
      short (Some seed) = chance_short seed s sound.formed.differ names.names

  pub rests_unless : ((w : World) → IsReached s w → GoesOn (system s) w) → (times : Option ℕ)
      → RestsUnless (is_cut seed times s) (run (system s) (acts_given (written_lines seed times s))).world
  rests_unless goes times = by (is_cut seed times s) refl
    where
      can : (w : World) → GoesOn (system s) w → AllRest w ⊎ ((x : ℕ) × (can_run (system s) w x ≡ true))
      can w h = elim h [ inl rest ↦ inl rest | inr step ↦ inr (step.0, step.1.can) ]

      by : (b : Bool) → is_cut seed times s ≡ b → RestsUnless b (run (system s) (acts_given (written_lines seed times s))).world
      by true e = tt
      by false e =
          let w = (run (system s) (acts_given (written_lines seed times s))).world in
          let lines = (all times).lines in
          let h = not_cut (length (fitting (components s) greatest_text lines)) (length lines) (some_can (system s) (all times).world 0 (components s)) e in
          at_rest (system s) w (can w (goes w (record { turns = acts_given (written_lines seed times s); is = refl })))
          (ap (λ (v : World). some_can (system s) v 0 (components s)) (run_ends times e) ∙ h.1)
