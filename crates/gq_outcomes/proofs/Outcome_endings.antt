-- How the commands of outcomes end.
use Rattle.std.proofs.Common.{◌≡◌, ◌∙◌, ◌≤◌, ◌<◌, ◌-◌, ℕ, zero, suc, List, [], ◌∷◌, ◌++◌, Some, None, Result, Ok, Err, length, map, get_or}
use Rattle.std.proofs.Common.{ap, sym, refl, subst, inl, inr, arith}
use Rattle.std.specs.Prelude.{IfErr, IsErrAnd, if◌then◌else◌, slice_get}
use Rattle.std.proofs.lemmas.Bool.Decides.{eqb_tells}
use Rattle.std.proofs.lemmas.List.{length-map}
use Rattle.gq_load.specs.Load.{LoadRefusal, loaded}
use Rattle.gq_load.specs.Load_faults.{Refuses, load_fault_text}
use Rattle.gq_load.specs.declared.load_fault.LoadError.TheVariants as error
use Rattle.gq_load.specs.declared.load_fault.LoadFault.{LoadFault}
use Rattle.gq_model.specs.machine.Scenario.{Scenario, components}
use Rattle.gq_reports.specs.Command_outcomes.{GivesOf, IsBefore, IsFaultOf}
use Rattle.gq_reports.specs.Whole.{Written, refused_with, with_scenario}
use Rattle.gq_reports.specs.declared.run_fault.RunFault.{RunFault}
use Rattle.gq_reports.specs.declared.run_fault.RunFault.TheVariants.{Load, NoComponent, NoOutcome, Turns, Memory, Write}
use Rattle.gq_outcomes.specs.Outcomes.{Outcome, Search, outcomes}
use Rattle.gq_outcomes.specs.Text.{count_text, many_lines, nth_outcome, outcomes_text_from, row_line, rows_of, search_text}
use Rattle.gq_outcomes.specs.Written.{outcome_turns_written, outcomes_written, turns_of_outcome}
use Rattle.gq_outcomes.specs.declared.search.Found.{Found}
use Rattle.gq_outcomes.specs.declared.search.Search.{Search as KeptSearch}
use Rattle.gq_outcomes.specs.internal.Found_outcomes.{outcome_seen}
use Rattle.gq_outcomes.specs.internal.Search_states.{Finds}
use Rattle.gq_outcomes.specs.internal.Turn_rows.{past_of}
use Rattle.gq_outcomes.proofs.Turn_rows.{past_count}
use Rattle.gq_views.specs.Listing.{joined}

-- REFUSALS

not_loaded : (fault : LoadFault) (l : Result Scenario LoadRefusal) (go : Scenario → Written) → Refuses (error.Fault fault) l
    → with_scenario l go ≡ Err (refused_with (load_fault_text fault))
not_loaded fault (Ok s) go h = absurd h
not_loaded fault (Err f) go h = ap (λ t. Err (refused_with t)) (sym h)

-- why nothing is loaded is why nothing is written
pub refused_by : (fault : RunFault) (scenario : List ℕ) (go : Scenario → Written) → GivesOf fault scenario
    → IsBefore fault × IsFaultOf fault (with_scenario (loaded scenario) go)
refused_by (Load fault) scenario go h = (tt, not_loaded fault (loaded scenario) go h)
refused_by (NoComponent name) scenario go h = absurd h
refused_by (NoOutcome number) scenario go h = absurd h
refused_by (Turns fault line) scenario go h = absurd h
refused_by Memory scenario go h = (tt, tt)
refused_by Write scenario go h = absurd h

-- a fault that is passed on
pub passed_on : {A : Type 0} (r : Result A RunFault) (fault : RunFault) (scenario : List ℕ) (go : Scenario → Written) → IsErrAnd r (λ f. f ≡ fault)
    → GivesOf fault scenario → IfErr r (λ f. IsBefore f × IsFaultOf f (with_scenario (loaded scenario) go))
passed_on (Ok a) fault scenario go is gives = absurd is
passed_on (Err f) fault scenario go is gives = refused_by f scenario go (subst (λ x. GivesOf x scenario) (sym is) gives)

-- TEXTS

-- the text of what was found
pub found_text : (c : KeptSearch) (t : Search) (text : List ℕ) → Finds c t
    → text ≡ outcomes_text_from 1 (map outcome_seen c.found.items) ++ count_text c.cut (length c.found.items) → text ≡ search_text t
found_text c t text h is =
    let count : length c.found.items ≡ length t.found = sym (length-map c.found.items outcome_seen) ∙ ap length h.found in
    is ∙ (λ i. outcomes_text_from 1 (h.found i) ++ count_text (h.cut i) (count i))

pub outcomes_are : (scenario : List ℕ) (s : Scenario) (c : KeptSearch) (text : List ℕ) → loaded scenario ≡ Ok s → Finds c (outcomes s)
    → text ≡ outcomes_text_from 1 (map outcome_seen c.found.items) ++ count_text c.cut (length c.found.items)
    → outcomes_written scenario ≡ Ok text
outcomes_are scenario s c text load h is =
    ap (λ l. with_scenario l (λ s. Ok (search_text (outcomes s)))) load ∙ ap Ok (sym (found_text c (outcomes s) text h is))

-- TURNS

-- there is no outcome of this number
pub none_numbered : (found : List Outcome) (n : ℕ) → n ≡ 0 → nth_outcome n found ≡ None
none_numbered found n e = ap (λ k. nth_outcome k found) e

nothing_past : {A : Type 0} (xs : List A) (k : ℕ) → length xs ≤ k → slice_get xs k ≡ None
nothing_past [] zero l = refl
nothing_past [] (suc k) l = refl
nothing_past (x ∷ xs) zero l = absurd (omega (arith, l))
nothing_past (x ∷ xs) (suc k) l = nothing_past xs k (omega (arith, l))

one_there : {A B : Type 0} (f : A → B) (xs : List A) (k : ℕ) (a : A) → k < length xs → a ≡ get_or xs k a → slice_get (map f xs) k ≡ Some (f a)
one_there f [] k a l e = absurd (omega (arith, l))
one_there f (x ∷ xs) zero a l e = ap (λ b. Some (f b)) (sym e)
one_there f (x ∷ xs) (suc k) a l e = one_there f xs k a (omega (arith, l)) e

some_number : (found : List Outcome) (n : ℕ) → 0 < n → nth_outcome n found ≡ slice_get found (n - 1)
some_number found n some = elim (eqb_tells n 0) [
  | inl t ↦ (let none = t.1 in absurd (omega (arith, none, some)))
  | inr t ↦ ap (λ b. if b then None else slice_get found (n - 1)) t.0
]

module _ (s : Scenario) (c : KeptSearch) (t : Search) (h : Finds c t) (n : ℕ) where
  same_number : nth_outcome n t.found ≡ nth_outcome n (map outcome_seen c.found.items)
  same_number = ap (nth_outcome n) (sym h.found)

  none_turns : nth_outcome n t.found ≡ None → IsBefore (NoOutcome n) × IsFaultOf (NoOutcome n) (turns_of_outcome s n (nth_outcome n t.found))
  none_turns e = (tt, ap (turns_of_outcome s n) e)

  pub no_outcome_zero : n ≡ 0 → IsBefore (NoOutcome n) × IsFaultOf (NoOutcome n) (turns_of_outcome s n (nth_outcome n t.found))
  no_outcome_zero e = none_turns (none_numbered t.found n e)

  pub no_outcome_past : 0 < n → length c.found.items ≤ n - 1
      → IsBefore (NoOutcome n) × IsFaultOf (NoOutcome n) (turns_of_outcome s n (nth_outcome n t.found))
  no_outcome_past some past =
      let count = length-map c.found.items outcome_seen in
      none_turns (same_number ∙ some_number (map outcome_seen c.found.items) n some ∙ nothing_past (map outcome_seen c.found.items) (n - 1) (omega (
        arith,
        count,
        past,
      )))

  pub turns_are : (f : Found) (text : List ℕ) → 0 < n → n - 1 < length c.found.items → f ≡ get_or c.found.items (n - 1) f
      → text ≡ joined (many_lines (length f.past.items) ++ map (row_line (components s)) (rows_of (past_of f.past.items)))
      → turns_of_outcome s n (nth_outcome n t.found) ≡ Ok text
  turns_are f text some less there is =
      ap (turns_of_outcome s n) (same_number ∙ some_number (map outcome_seen c.found.items) n some ∙ one_there outcome_seen c.found.items (n - 1) f less there)
      ∙ ap (λ k. Ok (joined (many_lines k ++ map (row_line (components s)) (rows_of (past_of f.past.items))))) (past_count f.past.items) ∙ ap Ok (sym is)

-- what is written of the turns of an outcome
pub turns_written : (scenario : List ℕ) (s : Scenario) (n : ℕ) → loaded scenario ≡ Ok s
    → outcome_turns_written n scenario ≡ turns_of_outcome s n (nth_outcome n (outcomes s).found)
turns_written scenario s n load = ap (λ l. with_scenario l (λ s. turns_of_outcome s n (nth_outcome n (outcomes s).found))) load
