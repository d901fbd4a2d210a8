-- No world of a run has a greater use than its peaks, and some world has each of them.
use Rattle.std.proofs.Common.{◌≡◌, ◌∙◌, ◌<◌, ◌≤◌, ◌⊎◌, ℕ, suc, inl, inr, List, [], ◌∷◌, Result, Ok, Err, refl, sym, arith}
use Rattle.gq_model.specs.machine.Amounts.{Resource, Ram, Caps}
use Rattle.gq_model.specs.machine.Run.{Acts}
use Rattle.gq_model.specs.machine.Scenario.{Component, Scenario, components, system}
use Rattle.gq_model.specs.texts.Turns.{Turned, turned}
use Rattle.gq_load.specs.Load.{LoadRefusal, loaded}
use Rattle.gq_reports.specs.Whole.{Written, with_scenario}
use Rattle.gq_traces.specs.First_turns.{turns_in}
use Rattle.gq_traces.specs.Greatest.{AreGreatest, IsGreatest, ShowsPeaks, used_after}
use Rattle.gq_traces.specs.Account_peaks.{peak_in, peaks_from, peaks_of, peaks_text, world_after}
use Rattle.gq_traces.specs.internal.Peaking.{SameUse}
use Rattle.gq_traces.specs.Traces_written as written
use Rattle.gq_traces.specs.Traces_written.{peaks_written, with_turns}
use Rattle.gq_traces.proofs.First_greatest.{is_first}
use Rattle.gq_traces.proofs.Runs_on.{all_first}

le_or_lt : (n m : ℕ) → (n ≤ m) ⊎ (m < n)
le_or_lt n m = grind arith

module _ (s : Scenario) (turns : Acts) where
  abbrev count : ℕ
  count = turns_in turns

  -- after more turns than there are leaves use what they use at the end
  after_all : (n m : ℕ) → count ≤ n → count ≤ m → SameUse (system s) (world_after (system s) turns n) (world_after (system s) turns m)
  after_all n m over past =
      let first = all_first (system s) n turns over in
      let second = all_first (system s) m turns past in
      record { used = λ r y. first.used r y ∙ sym (second.used r y); quota = λ r y. first.quota r y ∙ sym (second.quota r y) }

  greatest_is : (r : Resource) (x : ℕ) → IsGreatest s turns r x (peak_in (system s) (world_after (system s) turns) r x count)
  greatest_is r x =
      let f = used_after s turns r x in
      let h = is_first f count in
      record {
        greatest = λ n. (elim (le_or_lt n count) [
          | inl few ↦ h.greatest n few
          | inr over ↦ (let same = (after_all n count (omega (arith, over)) (omega arith)).used r x in
              let last = h.greatest count (omega arith) in omega (arith, same, last))
        ]);
        within = h.within;
        reached = refl;
        quota = refl;
        first = h.first;
      }

  all_greatest : (x : ℕ) (cs : List Component) → AreGreatest s turns x cs (peaks_from (system s) (world_after (system s) turns) count x cs)
  all_greatest x [] = tt
  all_greatest x (c ∷ cs) = (greatest_is Ram x, greatest_is Caps x, all_greatest (suc x) cs)

-- FROM BYTES TO BYTES

not_written : {A : Type 0} (why text : List ℕ) → ◌≡◌ {A = Written} (Err why) (Ok text) → A
not_written why text e = absurd cc

same_text : (a b : List ℕ) → ◌≡◌ {A = Written} (Ok a) (Ok b) → a ≡ b
same_text a b e = cc

pub shows_peaks : (scenario turns text : List ℕ) → peaks_written scenario turns ≡ Ok text → ShowsPeaks scenario turns text
shows_peaks scenario turns text e = from (loaded scenario) refl e
  where
    read : (s : Scenario) → loaded scenario ≡ Ok s → (r : Turned) → turned s turns ≡ r → with_turns r (peaks_text s) ≡ Ok text
        → ShowsPeaks scenario turns text
    read s loads (Err fault) reads f = not_written _ text f
    read s loads (Ok all) reads f = record {
      accepted = s;
      loads = loads;
      all = all;
      reads = reads;
      peaks = peaks_of s all;
      shows = sym (same_text (peaks_text s all) text f);
      greatest = all_greatest s all 0 (components s);
    }

    from : (r : Result Scenario LoadRefusal) → loaded scenario ≡ r → with_scenario r (λ s. written.peaks_from s turns) ≡ Ok text → ShowsPeaks scenario turns
        text
    from (Err fault) loads f = not_written _ text f
    from (Ok s) loads f = read s loads (turned s turns) refl f
