-- The lines of peaks.
use Rattle.std.proofs.Common.{◌≡◌, ◌∙◌, ◌<◌, ◌≤◌, ◌+◌, ℕ, zero, suc, inl, inr, Bool, cond, List, [], ◌∷◌, ◌++◌, length, drop, codes, decimal}
use Rattle.std.proofs.Common.{Option, Some, append_assoc, get_or, refl, ap, sym, subst, arith}
use Rattle.std.specs.Prelude.{slice_get, true}
use Rattle.std.proofs.lemmas.Bool.{cases_Bool}
use Rattle.gq_output.specs.declared.counted.Counted.{Counted}
use Rattle.gq_model.proofs.Small_facts.{some_same}
use Rattle.gq_model.specs.machine.Accounts.{entry}
use Rattle.gq_model.specs.machine.Run.{Ran, Acts, label_at, run}
use Rattle.gq_model.specs.machine.Scenario.{Component, Scenario, components, system}
use Rattle.gq_traces.specs.First_turns.{first_turns, turns_in}
use Rattle.gq_traces.specs.Account_peaks.{peak_line, peak_lines, peaks_at, peaks_from, peaks_text}
use Rattle.gq_traces.specs.declared.peaks.LeafPeaks.{LeafPeaks}
use Rattle.gq_traces.specs.declared.peaks.Peak.{Peak}
use Rattle.gq_traces.specs.internal.Peaking.{AllPeaks, ArePeaks}
use Rattle.gq_traces.specs.internal.Printed_steps.{Goes}
use Rattle.gq_traces.proofs.So_far.{So_far, next_one, none_left, reported_end, printed_first, printed_next}
use Rattle.gq_model.specs.machine.Amounts.{counts_caps}

-- WHAT IS SHOWN OF THEM

-- a line, with capabilities or without
abbrev line_with : Bool → List ℕ → Peak → Peak → List ℕ
line_with shown label ram caps =
    codes "peak " ++ label ++ entry (codes "used") ram.used ++ entry (codes "quota") ram.quota ++ entry (codes "turn") ram.turn
    ++ cond shown (entry (codes "caps") caps.quota ++ entry (codes "taken") caps.used ++ entry (codes "turn") caps.turn) [] ++ 10 ∷ []

-- it shows of them nothing where they are not counted
line_same : (version : ℕ) (label : List ℕ) (p q : LeafPeaks) → p.ram ≡ q.ram → (counts_caps version ≡ true → p.caps ≡ q.caps)
    → peak_line version label p ≡ peak_line version label q
line_same version label p q ram caps = elim (cases_Bool (counts_caps version)) [
  | inl t ↦ λ i. line_with (counts_caps version) label (ram i) (caps t i)
  | inr t ↦ (λ i. line_with (counts_caps version) label (ram i) p.caps)
      ∙ (ap (λ b. line_with b label q.ram p.caps) t ∙ sym (ap (λ b. line_with b label q.ram q.caps) t))
]

module _ (s : Scenario) (runs : ℕ → Ran) (n : ℕ) where
  lines_same : (cs : List Component) (peaks : List LeafPeaks) (x : ℕ) → length peaks ≡ length cs
      → ((i : ℕ) (p : LeafPeaks) → slice_get peaks i ≡ Some p → ArePeaks s runs n (x + i) p)
      → peak_lines s.version cs peaks ≡ peak_lines s.version cs (peaks_from (system s) (λ k. (runs k).world) n x cs)
  lines_same [] peaks x long h = refl
  lines_same (c ∷ cs) [] x long h = absurd (omega (arith, long))
  lines_same (c ∷ cs) (p ∷ peaks) x long h =
      let none : x + 0 ≡ x = omega arith in
      let here = subst (λ y. ArePeaks s runs n y p) none (h 0 p refl) in
      let rest = lines_same cs peaks (suc x) (omega (arith, long))
      (λ i q there. (let next : x + suc i ≡ suc x + i = omega arith in subst (λ y. ArePeaks s runs n y q) next (h (suc i) q there))) in
      λ i. line_same s.version c.label p (peaks_at (system s) (λ k. (runs k).world) n x) here.ram here.caps i ++ rest i

-- the lines of the peaks over all turns are the text
pub all_shown : (s : Scenario) (turns : Acts) (peaks : List LeafPeaks) → length peaks ≡ length (components s)
    → AllPeaks s (λ n. run (system s) (first_turns n turns)) (turns_in turns) peaks → peak_lines s.version (components s) peaks ≡ peaks_text s turns
all_shown s turns peaks long h =
    lines_same s (λ n. run (system s) (first_turns n turns)) (turns_in turns) (components s) peaks 0 long
    (λ i p there. (let first : i ≡ 0 + i = omega arith in
    subst (λ y. ArePeaks s (λ n. run (system s) (first_turns n turns)) (turns_in turns) y p) first (h i p there)))

-- PARTS OF A LINE

pub entry_put : (old word : List ℕ) (n : ℕ) → old ++ (32 ∷ word) ++ codes " " ++ decimal n ≡ old ++ entry word n
entry_put old word n =
    append_assoc (old ++ (32 ∷ word)) (codes " ") (decimal n)
    ∙ (append_assoc old (32 ∷ word) (codes " " ++ decimal n) ∙ ap (λ l. old ++ l) (sym (append_assoc (32 ∷ word) (codes " ") (decimal n))))

pub three_put : (old a b c : List ℕ) → ((old ++ a) ++ b) ++ c ≡ old ++ ((a ++ b) ++ c)
three_put old a b c = ap (λ l. l ++ c) (append_assoc old a b) ∙ append_assoc old (a ++ b) c

-- ONE LINE AFTER THE OTHER

module _ {W : Type 0} (contents : W → Option (List ℕ)) (s : Scenario) (peaks : List LeafPeaks) where
  -- the lines so far were written
  abbrev pub Lines_so_far : Counted W → Counted W → Bool → Bool → ℕ → Type 0
  Lines_so_far old new was now n =
      So_far contents old new was now (peak_lines s.version (drop n (components s)) (drop n peaks)) (peak_lines s.version (components s) peaks)

  pub lines_first : (out : Counted W) (was : Bool) → Lines_so_far out out was was 0
  lines_first out was = printed_first contents out was _

  got : (xs : List LeafPeaks) (n : ℕ) (d : LeafPeaks) → n < length xs → slice_get xs n ≡ Some (get_or xs n d)
  got [] n d less = absurd (omega (arith, less))
  got (p ∷ xs) zero d less = refl
  got (p ∷ xs) (suc n) d less = got xs n d (omega (arith, less))

  pub lines_next : (a b c : Counted W) (x y z : Bool) (n k version : ℕ) (t : Scenario) (label line text : List ℕ) (d : LeafPeaks) → n < length (components s)
      → length peaks ≡ length (components s) → t ≡ s → k ≡ n → version ≡ s.version → label ≡ label_at (slice_get (components t) k)
      → text ≡ line → line ≡ peak_line version label (get_or peaks n d) → Lines_so_far a b x y n → Goes contents b c y z text → Lines_so_far a c x z (n + 1)
  lines_next a b c x y z n k version t label line text d less long same at counts is copied shown so_far goes =
      let i = next_one (components s) n less in
      let j = next_one peaks n (omega (arith, less, long)) in
      let own : get_or peaks n d ≡ j.here = some_same (sym (got peaks n d (omega (arith, less, long))) ∙ j.is) in
      let named : label ≡ i.here.label = is ∙ ((λ m. label_at (slice_get (components (same m)) (at m))) ∙ ap label_at i.is) in
      printed_next contents a b c x y z text (peak_lines s.version (drop (n + 1) (components s)) (drop (n + 1) peaks)) _ _
      ((λ m. peak_lines s.version (i.next m) (j.next m))
      ∙ ap (λ l. l ++ peak_lines s.version (drop (n + 1) (components s)) (drop (n + 1) peaks))
      (sym (copied ∙ (shown ∙ (λ m. peak_line (counts m) (named m) (own m))))))
      so_far goes

  pub lines_end : (a b : Counted W) (x y : Bool) (n : ℕ) → length (components s) ≤ n → Lines_so_far a b x y n
      → Goes contents a b x y (peak_lines s.version (components s) peaks)
  lines_end a b x y n over so_far =
      reported_end contents a b x y _ _ (ap (λ l. peak_lines s.version l (drop n peaks)) (none_left (components s) n over)) so_far
