-- The text of an outcome's turns leads to the outcome.
use Rattle.std.proofs.Common.{◌≡◌, ◌∙◌, ◌≤◌, ◌^◌, ◌-◌, ◌==◌, ℕ, zero, suc, Bool, true, false, List, [], ◌∷◌, ◌++◌, codes, length, map, Option, Some, None, Ok}
use Rattle.std.proofs.Common.{Err, Result, ap, refl, sym, subst, arith}
use Rattle.std.specs.Prelude.{decimal, if◌then◌else◌, slice_get}
use Rattle.std.specs.Io.KnownBytes.{Appends}
use Rattle.std.proofs.lemmas.Bool.{le-leb}
use Rattle.gq_model.specs.machine.Scenario.{Component, Scenario, components}
use Rattle.gq_model.specs.texts.Letters.{is_name}
use Rattle.gq_model.specs.texts.Turns.{turned}
use Rattle.gq_model.specs.machine.Rest.{greatest_turns}
use Rattle.gq_laws.specs.Shapes.{Each}
use Rattle.gq_laws.specs.Sound_scenarios.{IsSound}
use Rattle.gq_views.specs.Listing.{joined}
use Rattle.gq_model.proofs.Small_facts.{none_some, some_same}
use Rattle.gq_load.specs.Load.{LoadRefusal, loaded}
use Rattle.gq_reports.specs.Whole.{with_scenario}
use Rattle.gq_outcomes.specs.Laws.{AllLeadBack, IsOutcome, LeadsBack, LeadsToOutcome, WritesTurnsTo}
use Rattle.gq_outcomes.specs.Outcomes.{Outcome, outcomes}
use Rattle.gq_outcomes.specs.Text.{nth_outcome, row_line, rows_of, turns_text}
use Rattle.gq_outcomes.specs.Written.{outcome_turns_written, turns_of_outcome}
use Rattle.gq_outcomes.proofs.Turns_read_back.{IsCalled, called, lines_short, read_back, rows_are_rows, rows_count}
use Rattle.gq_outcomes.proofs.sound.Found.{are_outcomes}
use Rattle.gq_outcomes.proofs.sound.Own_leaves.{AreThere, all_there, component_at}
use Rattle.gq_outcomes.proofs.complete.Runs_of_rows.{rows_run}

module _ (s : Scenario) (sound : IsSound s)
    (names : (x : ℕ) (c : Component) → slice_get (components s) x ≡ Some c → is_name c.node.name ≡ true) where
  all_called : (past : List ℕ) → AreThere s past → Each (IsCalled (components s)) past
  all_called [] h = tt
  all_called (x ∷ past) h =
      let c = component_at (components s) x h.0 in (called s sound.formed.differ x c.0 c.1 (names x c.0 c.1), all_called past h.1)

  -- where there are few turns, the text has no comment
  few_text : (o : Outcome) → length o.past ≤ greatest_turns
      → turns_text (components s) o ≡ joined (map (row_line (components s)) (rows_of o.past))
  few_text o few =
      let n = length o.past in
      let comment : List (List ℕ) = (codes "# " ++ decimal n ++ codes " turns, more than a list may have") ∷ [] in
      ap (λ (b : Bool). joined ((if b then [] else comment) ++ map (row_line (components s)) (rows_of o.past))) (le-leb n greatest_turns few)

  leads_back : (o : Outcome) → IsOutcome s o → AreThere s o.past → LeadsBack s o
  leads_back o is there =
      let rows = rows_are_rows (components s) o.past (all_called o.past there) in
      let count = rows_count o.past in
      record {
        reads = λ few short.
            let same = few_text o few in
            let runs = rows_run s sound o is in
            record {
              turns = rows_of o.past;
              reads = ap (turned s) same
                  ∙ read_back s (rows_of o.past) rows (omega (arith, count, few)) (subst (λ t. length t ≤ 2 ^ 24) same short);
              right = runs.right;
              rests = runs.rests;
              ends_so = runs.ends;
            };
        short = λ few.
            let same = ap length (few_text o (omega (arith, few))) in
            let long = lines_short (components s) (rows_of o.past) rows (omega (arith, count, few)) in
            omega (arith, same, long, count, few);
      }

  each_leads : (found : List Outcome) → Each (IsOutcome s) found → Each (λ (o : Outcome). AreThere s o.past) found → Each (LeadsBack s) found
  each_leads [] h g = tt
  each_leads (o ∷ found) h g = (leads_back o h.0 g.0, each_leads found h.1 g.1)

  -- that of each outcome that is found
  pub all_lead_back : AllLeadBack s
  all_lead_back = each_leads (outcomes s).found (are_outcomes s sound) (all_there s)

-- WHAT IS WRITTEN

each_at : (P : Outcome → Type 0) (found : List Outcome) (k : ℕ) (o : Outcome) → Each P found → slice_get found k ≡ Some o → P o
each_at P [] k o h e = absurd (none_some e)
each_at P (f ∷ found) zero o h e = subst P (some_same e) h.0
each_at P (f ∷ found) (suc k) o h e = each_at P found k o h.1 e

each_nth : (P : Outcome → Type 0) (found : List Outcome) (n : ℕ) (o : Outcome) → Each P found → nth_outcome n found ≡ Some o → P o
each_nth P found n o h = by (n == 0)
  where
    by : (b : Bool) → (if b then None else slice_get found (n - 1)) ≡ Some o → P o
    by true e = absurd (none_some e)
    by false e = each_at P found (n - 1) o h e

module _ (n : ℕ) (scenario text : List ℕ) (lead : (s : Scenario) → loaded scenario ≡ Ok s → AllLeadBack s) where
  of_scenario : (s : Scenario) → loaded scenario ≡ Ok s → turns_of_outcome s n (nth_outcome n (outcomes s).found) ≡ Ok text → LeadsToOutcome n scenario text
  of_scenario s loads = by (nth_outcome n (outcomes s).found) refl
    where
      by : (o : Option Outcome) → nth_outcome n (outcomes s).found ≡ o → turns_of_outcome s n o ≡ Ok text → LeadsToOutcome n scenario text
      by None is e = absurd cc
      by (Some o) is e =
          record {
            accepted = s;
            loads = loads;
            outcome = o;
            is = is;
            prints = cc (sym e);
            leads = each_nth (LeadsBack s) (outcomes s).found n o (lead s loads) is;
          }

  of_text : outcome_turns_written n scenario ≡ Ok text → LeadsToOutcome n scenario text
  of_text = by (loaded scenario) refl
    where
      by : (l : Result Scenario LoadRefusal) → loaded scenario ≡ l
          → with_scenario l (λ s. turns_of_outcome s n (nth_outcome n (outcomes s).found)) ≡ Ok text → LeadsToOutcome n scenario text
      by (Ok s) is e = of_scenario s is e
      by (Err fault) is e = absurd cc

  -- the text leads to the outcome
  pub leads_to : outcome_turns_written n scenario ≡ Ok text → (before after : Option (List ℕ)) → Appends before after text
      → WritesTurnsTo n scenario before after
  leads_to given before after written = record { text = text; leads = of_text given; written = written }
