-- Lines that are written as long as they fit.
use Rattle.std.proofs.Common.{◌≡◌, ◌∙◌, ℕ, suc, ◌+◌, ◌-◌, ◌<◌, ◌≤◌, Bool, true, false, List, [], ◌∷◌, ◌++◌, length, Option, refl, ap, sym, subst, arith}
use Rattle.std.proofs.Common.{append-nil, append_assoc, length-append}
use Rattle.std.specs.Prelude.{◌==◌, ◌||◌, if◌then◌else◌, map, nat_le, not, Result, Ok, Err}
use Rattle.std.specs.Io.KnownBytes.{Appends}
use Rattle.std.proofs.lemmas.Bool.{le-leb}
use Rattle.std.proofs.lemmas.Bool.Decides.{nat_tests}
use Rattle.std.proofs.lemmas.List.Sums.{sum_by-append, sum_by-cons}
use Rattle.gq_model.specs.declared.act.TurnLine.{TurnLine}
use Rattle.gq_model.specs.machine.Rest.{some_can}
use Rattle.gq_model.specs.machine.Scenario.{Component, Scenario, components, system}
use Rattle.gq_model.specs.machine.World.{World}
use Rattle.gq_model.specs.texts.Turns.{line_turns}
use Rattle.gq_output.specs.Writer_failures.{Writes}
use Rattle.gq_output.specs.Writes.{IsPrefix, IsRaised}
use Rattle.gq_output.specs.declared.counted.Counted.{Counted}
use Rattle.gq_output.proofs.Written_byte_facts.{appends_both, appends_nothing}
use Rattle.gq_views.specs.Listing.{joined}
use Rattle.gq_world.proofs.Line_text_prefixes.{prefix_after}
use Rattle.gq_traces.specs.Schedule.{cut_lines, fitting, given_line, greatest_text, is_cut_in, list_text, listed_turns}

-- the text of lines
abbrev pub lines_text : List Component → List TurnLine → List ℕ
lines_text cs lines = joined (map (given_line cs) lines)

pub text_both : (cs : List Component) (xs ys : List TurnLine) → lines_text cs (xs ++ ys) ≡ lines_text cs xs ++ lines_text cs ys
text_both cs [] ys = refl
text_both cs (line ∷ xs) ys =
    ap (λ (l : List ℕ). given_line cs line ++ 10 ∷ l) (text_both cs xs ys)
    ∙ sym (append_assoc (given_line cs line) (10 ∷ lines_text cs xs) (lines_text cs ys))

-- the lines so far fit and were written; of those that are left, the ones that fit into the room that is left are all that fit of the whole
pub record HasWritten (cs : List Component) (whole rest : List TurnLine) (room turns : ℕ) (before after : Option (List ℕ)) : Type 0 where
  pub done : List TurnLine
  pub fits : fitting cs greatest_text whole ≡ done ++ fitting cs room rest
  pub whole_is : length whole ≡ length done + length rest
  pub turns_is : turns ≡ listed_turns done
  pub written : Appends before after (lines_text cs done)

pub first_written : (cs : List Component) (whole : List TurnLine) (room : ℕ) (o : Option (List ℕ)) → room ≡ greatest_text → HasWritten cs whole whole room 0 o o
first_written cs whole room o is =
    record {
      done = [];
      fits = ap (λ n. fitting cs n whole) (sym is);
      whole_is = omega arith;
      turns_is = refl;
      written = appends_nothing o;
    }

-- a line that fits, and one that does not
fit_next : (cs : List Component) (room : ℕ) (line : TurnLine) (rest : List TurnLine) → suc (length (given_line cs line)) ≤ room
    → fitting cs room (line ∷ rest) ≡ line ∷ fitting cs (room - suc (length (given_line cs line))) rest
fit_next cs room line rest few =
    ap (λ (b : Bool). if b then line ∷ fitting cs (room - suc (length (given_line cs line))) rest else []) (le-leb (suc (length (given_line cs line))) room few)

fit_none : (cs : List Component) (room : ℕ) (line : TurnLine) (rest : List TurnLine) → room < suc (length (given_line cs line))
    → fitting cs room (line ∷ rest) ≡ []
fit_none cs room line rest many =
    let over : nat_le (suc (length (given_line cs line))) room ≡ false = grind (arith, nat_tests, many) in
    ap (λ (b : Bool). if b then line ∷ fitting cs (room - suc (length (given_line cs line))) rest else []) over

-- how long a line is with its line feed
size_is : (cs : List Component) (line : TurnLine) (text : List ℕ) → text ≡ given_line cs line ++ 10 ∷ [] → length text ≡ suc (length (given_line cs line))
size_is cs line text is = ap length is ∙ (length-append (given_line cs line) (10 ∷ []) ∙ omega arith)

module _ (cs : List Component) (whole rest left : List TurnLine) (line : TurnLine) (room turns : ℕ) (text : List ℕ) (before between after : Option (List ℕ))
    (at : left ≡ line ∷ rest) (is : text ≡ given_line cs line ++ 10 ∷ []) (h : HasWritten cs whole left room turns before between) where
  pub next_written : (more : ℕ) → length text ≤ room → more ≡ line_turns line → Appends between after text
      → HasWritten cs whole rest (room - length text) (turns + more) before after
  next_written more few count written =
      let size = size_is cs line text is in
      let long = h.whole_is in
      let here = ap length at in
      let both = length-append h.done (line ∷ []) in
      let so_far = h.turns_is in
      record {
        done = h.done ++ line ∷ [];
        fits = h.fits ∙ (ap (λ l. h.done ++ fitting cs room l) at ∙ (ap (λ l. h.done ++ l) (fit_next cs room line rest (omega (arith, size, few)))
            ∙ (ap (λ n. h.done ++ line ∷ fitting cs (room - n) rest) (sym size)
            ∙ sym (append_assoc h.done (line ∷ []) (fitting cs (room - length text) rest)))));
        whole_is = omega (arith, long, here, both);
        turns_is = omega (arith, so_far, count, sum_by-append line_turns h.done (line ∷ []), sum_by-cons line_turns line []);
        written = subst (Appends before after) (sym (text_both cs h.done (line ∷ [])))
            (appends_both before between after (lines_text cs h.done) (lines_text cs (line ∷ [])) h.written (subst (Appends between after) is written));
      }

  -- this one has no room, and so nothing more has
  pub all_fitting : room < length text → fitting cs greatest_text whole ≡ h.done
  all_fitting many =
      let size = size_is cs line text is in
      h.fits ∙ (ap (λ l. h.done ++ fitting cs room l) at ∙ (ap (λ l. h.done ++ l) (fit_none cs room line rest (omega (arith, size, many))) ∙ append-nil h.done))

  pub fewer_fit : room < length text → length (fitting cs greatest_text whole) < length whole
  fewer_fit many =
      let some = ap length (all_fitting many) in
      let long = h.whole_is in
      let here = ap length at in
      omega (arith, some, long, here)

  -- a prefix of its line was written
  pub prefix_written : length text ≤ room → IsPrefix between after text → IsPrefix before after (lines_text cs (fitting cs greatest_text whole))
  prefix_written few prefix =
      let size = size_is cs line text is in
      let more = fitting cs (room - suc (length (given_line cs line))) rest in
      let all : fitting cs greatest_text whole ≡ h.done ++ ((line ∷ []) ++ more) =
      h.fits ∙ (ap (λ l. h.done ++ fitting cs room l) at ∙ ap (λ l. h.done ++ l) (fit_next cs room line rest (omega (arith, size, few)))) in
      prefix_after before between after (lines_text cs h.done) (lines_text cs (line ∷ [])) (lines_text cs more)
      (lines_text cs (fitting cs greatest_text whole)) h.written (subst (IsPrefix between after) is prefix)
      (ap (lines_text cs) all ∙ (text_both cs h.done ((line ∷ []) ++ more)
      ∙ ap (λ l. lines_text cs h.done ++ l) (text_both cs (line ∷ []) more)))

-- all lines fit
pub whole_fits : (cs : List Component) (whole rest : List TurnLine) (room turns : ℕ) (before after : Option (List ℕ)) → rest ≡ []
    → (h : HasWritten cs whole rest room turns before after) → fitting cs greatest_text whole ≡ h.done
whole_fits cs whole rest room turns before after none h = h.fits ∙ (ap (λ l. h.done ++ fitting cs room l) none ∙ append-nil h.done)

-- A LIST AND THE LINE BEHIND IT

list_parts : (cs : List Component) (lines : List TurnLine) (behind : List (List ℕ))
    → joined (map (given_line cs) lines ++ behind) ≡ lines_text cs lines ++ joined behind
list_parts cs [] behind = refl
list_parts cs (line ∷ lines) behind =
    ap (λ (l : List ℕ). given_line cs line ++ 10 ∷ l) (list_parts cs lines behind)
    ∙ sym (append_assoc (given_line cs line) (10 ∷ lines_text cs lines) (joined behind))

module _ (s t : Scenario) (w : World) (lines : List TurnLine) (same : t ≡ s) where
  abbrev fit : List TurnLine
  fit = fitting (components s) greatest_text lines

  cut_text : (b : Bool) → is_cut_in s w lines ≡ b → list_text s w lines ≡ lines_text (components s) fit ++ joined (cut_lines b (listed_turns fit))
  cut_text b is =
      list_parts (components s) fit (cut_lines (is_cut_in s w lines) (listed_turns fit))
      ∙ ap (λ (c : Bool). lines_text (components s) fit ++ joined (cut_lines c (listed_turns fit))) is

  -- not all lines had room
  pub fewer_text : (all : Bool) (turns : ℕ) → all ≡ (length (fitting (components t) greatest_text lines) == length lines) → all ≡ false
      → turns ≡ listed_turns (fitting (components t) greatest_text lines)
      → list_text s w lines ≡ lines_text (components t) (fitting (components t) greatest_text lines) ++ joined (cut_lines true turns)
  fewer_text all turns is none count =
      cut_text true (ap (λ (b : Bool). not b || some_can (system s) w 0 (components s))
      (sym (subst (λ (r : Scenario). all ≡ (length (fitting (components r) greatest_text lines) == length lines)) same is) ∙ none))
      ∙ (sym (ap (λ (r : Scenario). lines_text (components r) (fitting (components r) greatest_text lines)
      ++ joined (cut_lines true (listed_turns (fitting (components r) greatest_text lines)))) same)
      ∙ ap (λ n. lines_text (components t) (fitting (components t) greatest_text lines) ++ joined (cut_lines true n)) (sym count))

  -- some leaf could go on
  or_true : (a b : Bool) → b ≡ true → a || b ≡ true
  or_true true b e = refl
  or_true false b e = e

  pub going_text : (turns : ℕ) → some_can (system s) w 0 (components s) ≡ true → turns ≡ listed_turns (fitting (components t) greatest_text lines)
      → list_text s w lines ≡ lines_text (components t) (fitting (components t) greatest_text lines) ++ joined (cut_lines true turns)
  going_text turns can count =
      cut_text true (or_true (not (length fit == length lines)) (some_can (system s) w 0 (components s)) can)
      ∙ (sym (ap (λ (r : Scenario). lines_text (components r) (fitting (components r) greatest_text lines)
      ++ joined (cut_lines true (listed_turns (fitting (components r) greatest_text lines)))) same)
      ∙ ap (λ n. lines_text (components t) (fitting (components t) greatest_text lines) ++ joined (cut_lines true n)) (sym count))

  -- a prefix of the lines is one of the whole
  pub lines_prefix : (old new : Option (List ℕ)) → IsPrefix old new (lines_text (components t) (fitting (components t) greatest_text lines))
      → IsPrefix old new (list_text s w lines)
  lines_prefix old new prefix =
      prefix_after old old new [] (lines_text (components s) fit) (joined (cut_lines (is_cut_in s w lines) (listed_turns fit))) (list_text s w lines)
      (appends_nothing old)
      (subst (λ (r : Scenario). IsPrefix old new (lines_text (components r) (fitting (components r) greatest_text lines))) same prefix)
      (cut_text (is_cut_in s w lines) refl)

-- the line behind was written, or a prefix of it
pub written_behind : {W A E : Type 0} (contents : W → Option (List ℕ)) (a b d : Counted W) (s t u : List ℕ) (r : Result A E) → u ≡ s ++ t
    → Appends (contents a.writer) (contents b.writer) s → b.failures ≡ a.failures → Writes contents b d t r → Writes contents a d u r
written_behind contents a b d s t u (Ok x) is first count h =
    record {
      written = subst (Appends (contents a.writer) (contents d.writer)) (sym is)
          (appends_both (contents a.writer) (contents b.writer) (contents d.writer) s t first h.written);
      counted = h.counted ∙ count;
      prefix = tt;
      raised = tt;
    }
written_behind contents a b d s t u (Err x) is first count h =
    record {
      written = tt;
      counted = tt;
      prefix = prefix_after (contents a.writer) (contents b.writer) (contents d.writer) s t [] u first h.prefix
          (is ∙ ap (λ l. s ++ l) (sym (append-nil t)));
      raised = subst (λ n. IsRaised n d.failures) count h.raised;
    }
