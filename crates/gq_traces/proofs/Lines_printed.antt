-- What lines of a list of turns give to a trace, one after the other, and as turns, settings and signals.
use Rattle.std.proofs.Common.{◌≡◌, ◌∙◌, ℕ, ◌+◌, Bool, List, [], ◌∷◌, ◌++◌, Ok, refl, ap, sym, arith, append_assoc, append-nil}
use Rattle.std.proofs.lemmas.List.Sums.{sum_by-cons}
use Rattle.gq_model.specs.declared.act.TurnLine.{TurnLine}
use Rattle.gq_model.specs.declared.act.TurnLine.TheVariants.{Gives, Rests}
use Rattle.gq_model.specs.machine.Rest.{as_acts}
use Rattle.gq_model.specs.machine.Run.{Acts, Ran, begun, run, run_on}
use Rattle.gq_model.specs.machine.Scenario.{Scenario, System, system}
use Rattle.gq_model.specs.machine.Step_budgets.{StepBudget}
use Rattle.gq_model.specs.machine.World.{World}
use Rattle.gq_model.specs.texts.Turns.{acts_from, acts_of, line_acts, listed, turned}
use Rattle.gq_traces.specs.First_turns.{turns_in}
use Rattle.gq_traces.specs.Trace.{Traced, act_text, after_act, after_all, all_text, start_traced}
use Rattle.gq_traces.specs.internal.Line_acts.{acts_along, acts_at, after_line, after_lines, line_text, lines_text}
use Rattle.gq_traces.proofs.Scheduled_turn_runs.{run_on_both}
use Rattle.gq_traces.proofs.Turned_back.{all_turns}

-- ACTS IN PARTS

pub after_both : (system : System) (acts more : Acts) (t : Traced) → after_all system more (after_all system acts t) ≡ after_all system (acts ++ more) t
after_both system [] more t = refl
after_both system (a ∷ acts) more t = after_both system acts more (after_act system a.0 a.1 t)

pub text_both : (all : Bool) (s : Scenario) (b : List StepBudget) (acts more : Acts) (t : Traced)
    → all_text all s b acts t ++ all_text all s b more (after_all (system s) acts t) ≡ all_text all s b (acts ++ more) t
text_both all s b [] more t = refl
text_both all s b (a ∷ acts) more t =
    let u = after_act (system s) a.0 a.1 t in
    append_assoc (act_text all s b a.0 a.1 t) (all_text all s b acts u) (all_text all s b more (after_all (system s) acts u))
    ∙ ap (λ l. act_text all s b a.0 a.1 t ++ l) (text_both all s b acts more u)

pub turns_both : (acts more : Acts) → turns_in (acts ++ more) ≡ turns_in acts + turns_in more
turns_both [] more = omega arith
turns_both (a ∷ acts) more = let rest = turns_both acts more in omega (arith, rest)

pub turns_are : (ts : List (ℕ × ℕ)) → turns_in (as_acts ts) ≡ all_turns ts
turns_are [] = refl
turns_are (t ∷ ts) = let rest = turns_are ts in let sum = sum_by-cons (λ (t : ℕ × ℕ). t.1) t ts in omega (arith, rest, sum)

-- LINES IN PARTS

pub after_lines_more : (system : System) (lines : List TurnLine) (line : TurnLine) (t : Traced)
    → after_line system line (after_lines system lines t) ≡ after_lines system (lines ++ line ∷ []) t
after_lines_more system [] line t = refl
after_lines_more system (l ∷ lines) line t = after_lines_more system lines line (after_line system l t)

pub lines_text_more : (all : Bool) (s : Scenario) (b : List StepBudget) (lines : List TurnLine) (line : TurnLine) (t : Traced)
    → lines_text all s b lines t ++ line_text all s b line (after_lines (system s) lines t) ≡ lines_text all s b (lines ++ line ∷ []) t
lines_text_more all s b [] line t = sym (append-nil (line_text all s b line t))
lines_text_more all s b (l ∷ lines) line t =
    let u = after_line (system s) l t in
    append_assoc (line_text all s b l t) (lines_text all s b lines u) (line_text all s b line (after_lines (system s) lines u))
    ∙ ap (λ r. line_text all s b l t ++ r) (lines_text_more all s b lines line u)

-- LINES AS ACTS

pub after_along : (system : System) (lines : List TurnLine) (t : Traced) → after_lines system lines t ≡ after_all system (acts_along system lines t) t
after_along system [] t = refl
after_along system (line ∷ rest) t =
    let u = after_line system line t in
    after_along system rest u ∙ after_both system (acts_at system t.world line) (acts_along system rest u) t

pub text_along : (all : Bool) (s : Scenario) (b : List StepBudget) (lines : List TurnLine) (t : Traced)
    → lines_text all s b lines t ≡ all_text all s b (acts_along (system s) lines t) t
text_along all s b [] t = refl
text_along all s b (line ∷ rest) t =
    let u = after_line (system s) line t in
    ap (λ l. line_text all s b line t ++ l) (text_along all s b rest u)
    ∙ text_both all s b (acts_at (system s) t.world line) (acts_along (system s) rest u) t

-- what a line gives in a run so far is what it gives in its world
pub given_at : (system : System) (ran : Ran) (line : TurnLine) → line_acts system ran line ≡ acts_at system ran.world line
given_at system ran (Gives x act) = refl
given_at system ran Rests = refl

-- where the trace is in the world of the run over the same, the lines give the same to both
module _ (system : System) (same : (acts : Acts) → (after_all system acts (start_traced system)).world ≡ (run system acts).world) where
  along : (acts : Acts) (lines : List TurnLine) → acts_from system (run system acts) lines ≡ acts_along system lines (after_all system acts (start_traced
      system))
  along acts [] = refl
  along acts (line ∷ rest) =
      let ran = run system acts in
      let t = after_all system acts (start_traced system) in
      let here : line_acts system ran line ≡ acts_at system t.world line =
      given_at system ran line ∙ ap (λ (w : World). acts_at system w line) (sym (same acts)) in
      let given = acts_at system t.world line in
      (λ i. here i ++ acts_from system (run_on system (here i) ran) rest)
      ∙ ap (λ (l : Acts). given ++ l)
      (ap (λ (r : Ran). acts_from system r rest) (sym (run_on_both system acts given (begun system)))
      ∙ (along (acts ++ given) rest ∙ ap (acts_along system rest) (sym (after_both system acts given (start_traced system)))))

  pub lines_along : (lines : List TurnLine) → acts_from system (begun system) lines ≡ acts_along system lines (start_traced system)
  lines_along lines = along [] lines

-- a text of turns
pub turned_along : (s : Scenario) (text : List ℕ) (lines : List TurnLine)
    → ((acts : Acts) → (after_all (system s) acts (start_traced (system s))).world ≡ (run (system s) acts).world) → listed s text ≡ Ok lines
    → turned s text ≡ Ok (acts_along (system s) lines (start_traced (system s)))
turned_along s text lines same reads = ap (acts_of (system s)) reads ∙ ap (λ acts. Ok acts) (lines_along (system s) same lines)
