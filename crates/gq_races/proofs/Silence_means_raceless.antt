-- Where no line of the text is that of a race there is no race; and so it is with inputs, orders and signals.
use Rattle.std.proofs.Common.{◌≡◌, ◌∙◌, ℕ, suc, ◌+◌, ◌==◌, Bool, true, false, ◌&&◌, ◌||◌, cond, List, [], ◌∷◌, ◌++◌, map, codes, Option, Some, Result, Ok, Err}
use Rattle.std.proofs.Common.{ap, sym, refl, subst, append_assoc, append-nil}
use Rattle.std.specs.Prelude.{IsOkAnd}
use Rattle.std.specs.Io.KnownBytes.{Appends}
use Rattle.std.proofs.lemmas.Bool.{true≢false}
use Rattle.gq_model.specs.declared.program.Instruction.{Instruction}
use Rattle.gq_model.specs.declared.program.Instruction.TheVariants.{Say, Out, Operands}
use Rattle.gq_model.specs.declared.section.Section.{Section}
use Rattle.gq_model.specs.declared.section.Section.TheVariants.{Main, Opening, Upgrading, Calling, Closing, Reacting}
use Rattle.gq_model.specs.machine.Sections.{section_word}
use Rattle.gq_model.specs.machine.Lists.{any_of}
use Rattle.gq_model.specs.machine.Program.{Statements, Done, Do, If, Loop, size}
use Rattle.gq_model.specs.machine.Scenario.{Component, Scenario, System, system}
use Rattle.gq_model.specs.texts.Letters.{fed_lines, onto_first}
use Rattle.gq_load.specs.Load.{LoadRefusal}
use Rattle.gq_races.specs.Races.{Reaction, Stated, IsInputFree, IsOrderFree, IsRaceFree, IsSignalFree}
use Rattle.gq_races.specs.Races.{changes_own, each_stated, for_several, found_in, is_input}
use Rattle.gq_races.specs.Races.{is_order, is_race, is_reaction, is_shared, openers, reactions_from, reactions_in, reads_input, stated_from, stated_in}
use Rattle.gq_races.specs.Races.{stated_of, writes_line}
use Rattle.gq_races.specs.Race_text.{effect_text, has_effect, is_conflict, leaf_lines, lines_from, place_text, races_text, reaction_lines, section_lines}
use Rattle.gq_races.specs.Race_text.{sections_lines, sharing_lines, word_of}
use Rattle.gq_races.specs.Races_written.{HasNoLine, WroteNothing, Wrote, begins}
use Rattle.gq_views.specs.Listing.{instruction_text, joined}

-- LINES OF A TEXT

-- one of these but the first passes the test
abbrev any_later : (List ℕ → Bool) → List (List ℕ) → Bool
any_later test [] = false
any_later test (piece ∷ pieces) = any_of test pieces

or_true : (b : Bool) → (b || true) ≡ true
or_true true = refl
or_true false = refl

later_any : (test : List ℕ → Bool) (pieces : List (List ℕ)) → any_later test pieces ≡ true → any_of test pieces ≡ true
later_any test [] e = absurd (true≢false (sym e))
later_any test (piece ∷ pieces) e = ap (λ b. test piece || b) e ∙ or_true (test piece)

later_onto : (test : List ℕ → Bool) (c : ℕ) (b : Bool) (pieces : List (List ℕ)) → any_later test pieces ≡ true
    → any_later test (cond b ([] ∷ pieces) (onto_first c pieces)) ≡ true
later_onto test c true pieces e = later_any test pieces e
later_onto test c false [] e = absurd (true≢false (sym e))
later_onto test c false (piece ∷ pieces) e = e

-- a line of what follows a line feed is one of the text
later_line : (test : List ℕ → Bool) (line rest : List ℕ) → any_of test (fed_lines rest) ≡ true → any_later test (fed_lines (line ++ 10 ∷ rest)) ≡ true
later_line test [] rest e = e
later_line test (c ∷ line) rest e = later_onto test c (c == 10) (fed_lines (line ++ 10 ∷ rest)) (later_line test line rest e)

not_true : (b : Bool) → (b ≡ true → ⊥) → b ≡ false
not_true true h = absurd (h refl)
not_true false h = refl

-- no line begins with the word
module _ (word : List ℕ) (first : (rest : List ℕ) → any_of (begins word) (fed_lines (word ++ rest)) ≡ true) where
  -- none of these is the word with something behind it
  abbrev NoneBegin : List (List ℕ) → Type 0
  NoneBegin [] = Unit {0}
  NoneBegin (line ∷ lines) = ((rest : List ℕ) → line ≡ word ++ rest → ⊥) × NoneBegin lines

  none_begin : (lines : List (List ℕ)) → HasNoLine word (joined lines) → NoneBegin lines
  none_begin [] h = tt
  none_begin (line ∷ lines) h = (
    λ rest e. true≢false (sym (first (rest ++ 10 ∷ joined lines))
        ∙ ap (λ l. any_of (begins word) (fed_lines l)) (sym (ap (λ l. l ++ 10 ∷ joined lines) e ∙ append_assoc word rest (10 ∷ joined lines))) ∙ h),
    none_begin lines (not_true (any_of (begins word) (fed_lines (joined lines))) (λ e. true≢false (sym (later_any (begins word)
        (fed_lines (line ++ 10 ∷ joined lines)) (later_line (begins word) line (joined lines) e)) ∙ h))),
  )

  both_none : (a b : List (List ℕ)) → NoneBegin (a ++ b) → NoneBegin a × NoneBegin b
  both_none [] b h = (tt, h)
  both_none (line ∷ a) b h = let more = both_none a b h.1 in ((h.0, more.0), more.1)

  -- STATEMENTS

  -- the line of none of these begins with the word
  abbrev Spared : List (ℕ × Instruction) → Type 0
  Spared [] = Unit {0}
  Spared (c ∷ found) = (word_of c.1 ≡ word → ⊥) × Spared found

  abbrev Unnamed : List Stated → Type 0
  Unnamed [] = Unit {0}
  Unnamed (r ∷ found) = (word_of r.statement ≡ word → ⊥) × Unnamed found

  unnamed : (found : List Stated) → NoneBegin (map effect_text found) → Unnamed found
  unnamed [] h = tt
  unnamed (r ∷ found) h = (λ e. h.0 (place_text r ++ codes " " ++ instruction_text r.statement) (begun r e), unnamed found h.1)
    where
      begun : (r : Stated) → word_of r.statement ≡ word → effect_text r ≡ word ++ (place_text r ++ codes " " ++ instruction_text r.statement)
      begun r e =
          ap (λ l. l ++ place_text r ++ codes " " ++ instruction_text r.statement) e
          ∙ ap (λ l. l ++ instruction_text r.statement) (append_assoc word (place_text r) (codes " "))
          ∙ append_assoc word (place_text r ++ codes " ") (instruction_text r.statement)

  spared_both : (a b : List (ℕ × Instruction)) → Spared (a ++ b) → Spared a × Spared b
  spared_both [] b h = (tt, h)
  spared_both (c ∷ a) b h = let more = spared_both a b h.1 in ((h.0, more.0), more.1)

  unnamed_both : (a b : List Stated) → Unnamed (a ++ b) → Unnamed a × Unnamed b
  unnamed_both [] b h = (tt, h)
  unnamed_both (r ∷ a) b h = let more = unnamed_both a b h.1 in ((h.0, more.0), more.1)

  spared : (leaf : List ℕ) (section : Section) (found : List (ℕ × Instruction)) → Unnamed (each_stated leaf section found) → Spared found
  spared leaf section [] h = tt
  spared leaf section (c ∷ found) h = (h.0, spared leaf section found h.1)

  -- each statement of a kind has a line that begins with the word
  module _ (test : Bool → Instruction → Bool)
      (meant : (several : Bool) (i : Instruction) → test several i ≡ true → (has_effect several i ≡ true) × (word_of i ≡ word)) where
    found_none : (several : Bool) (n : ℕ) (b : Statements) → Spared (found_in (has_effect several) n b) → found_in (test several) n b ≡ []
    found_none several n Done h = refl
    found_none several n (Do i rest) h =
        let one = spared_both (cond (has_effect several i) ((n, i) ∷ []) []) (found_in (has_effect several) (suc n) rest) h in
        ap (λ b. cond b ((n, i) ∷ []) [] ++ found_in (test several) (suc n) rest) (not_true (test several i) (λ e. by (meant several i e) one.0))
        ∙ found_none several (suc n) rest one.1
      where
        by : (has_effect several i ≡ true) × (word_of i ≡ word) → Spared (cond (has_effect several i) ((n, i) ∷ []) []) → ⊥
        by m s = (subst (λ b. Spared (cond b ((n, i) ∷ []) [])) m.0 s).0 m.1
    found_none several n (If arm other rest) h =
        let all = spared_both (found_in (has_effect several) (suc n) arm ++ found_in (has_effect several) (suc n + size arm) other) _ h in
        let arms = spared_both (found_in (has_effect several) (suc n) arm) _ all.0 in
        λ e. (found_none several (suc n) arm arms.0 e ++ found_none several (suc n + size arm) other arms.1 e)
        ++ found_none several (suc n + size arm + size other) rest all.1 e
    found_none several n (Loop count body rest) h =
        let all = spared_both (found_in (has_effect several) (suc n) body) _ h in
        λ e. found_none several (suc n) body all.0 e ++ found_none several (suc n + size body) rest all.1 e

    stated_none : (shared : Bool) (leaf : List ℕ) (sections : List (Section × Statements)) → NoneBegin (sections_lines shared leaf sections)
        → stated_in (λ section. test (for_several shared section)) leaf sections ≡ []
    stated_none shared leaf [] h = refl
    stated_none shared leaf (p ∷ rest) h =
        let several = for_several shared p.0 in
        let found = found_in (has_effect several) 1 p.1 in
        let all = both_none (section_lines shared leaf p.0 p.1) (sections_lines shared leaf rest) h in
        let here = (both_none (reaction_lines leaf p.0) (map effect_text (each_stated leaf p.0 found)) all.0).1 in
        λ e. each_stated leaf p.0 (found_none several 1 p.1 (spared leaf p.0 found (unnamed (each_stated leaf p.0 found) here)) e)
        ++ stated_none shared leaf rest all.1 e

    lines_none : (system : System) (x : ℕ) (cs : List Component) → NoneBegin (lines_from system x cs) → stated_from test system x cs ≡ []
    lines_none system x [] h = refl
    lines_none system x (c ∷ cs) h =
        let shared = is_shared system x in
        let all = both_none (leaf_lines system x c) (lines_from system (suc x) cs) h in
        let here = (both_none (sharing_lines c (openers system x) (stated_of is_conflict shared c)) (sections_lines shared c.label c.node.program.sections)
        all.0).1 in
        λ e. stated_none shared c.label c.node.program.sections here e ++ lines_none system (suc x) cs all.1 e

    -- of the text of a scenario
    text_none : (s : Scenario) → HasNoLine word (races_text s) → stated_from test (system s) 0 (system s).components ≡ []
    text_none s h = lines_none (system s) 0 (system s).components (none_begin (lines_from (system s) 0 (system s).components) h)

-- RACES, INPUTS AND ORDERS

race_first : (rest : List ℕ) → any_of (begins (codes "race ")) (fed_lines (codes "race " ++ rest)) ≡ true
race_first rest = by (fed_lines rest)
  where
    by : (pieces : List (List ℕ))
        → any_of (begins (codes "race ")) (onto_first 114 (onto_first 97 (onto_first 99 (onto_first 101 (onto_first 32 pieces))))) ≡ true
    by [] = refl
    by (piece ∷ pieces) = refl

input_first : (rest : List ℕ) → any_of (begins (codes "input ")) (fed_lines (codes "input " ++ rest)) ≡ true
input_first rest = by (fed_lines rest)
  where
    by : (pieces : List (List ℕ))
        → any_of (begins (codes "input ")) (onto_first 105 (onto_first 110 (onto_first 112 (onto_first 117 (onto_first 116 (onto_first 32 pieces)))))) ≡ true
    by [] = refl
    by (piece ∷ pieces) = refl

order_first : (rest : List ℕ) → any_of (begins (codes "order ")) (fed_lines (codes "order " ++ rest)) ≡ true
order_first rest = by (fed_lines rest)
  where
    by : (pieces : List (List ℕ))
        → any_of (begins (codes "order ")) (onto_first 111 (onto_first 114 (onto_first 100 (onto_first 101 (onto_first 114 (onto_first 32 pieces)))))) ≡ true
    by [] = refl
    by (piece ∷ pieces) = refl

signal_first : (rest : List ℕ) → any_of (begins (codes "signal ")) (fed_lines (codes "signal " ++ rest)) ≡ true
signal_first rest = by (fed_lines rest)
  where
    by : (pieces : List (List ℕ)) → any_of (begins (codes "signal "))
        (onto_first 115 (onto_first 105 (onto_first 103 (onto_first 110 (onto_first 97 (onto_first 108 (onto_first 32 pieces))))))) ≡ true
    by [] = refl
    by (piece ∷ pieces) = refl

second : (a b : Bool) → (a && b) ≡ true → b ≡ true
second true b e = e
second false b e = absurd (true≢false (sym e))

-- what changes an own slot writes no line and reads no input
changing_silent : (i : Instruction) → changes_own i ≡ true → (writes_line i ≡ false) × (reads_input i ≡ false)
changing_silent (Say text) e = absurd (true≢false (sym e))
changing_silent Out e = absurd (true≢false (sym e))
changing_silent (Operands s) e = absurd (true≢false (sym e))
changing_silent _ e = (refl, refl)

-- what reads one writes no line
reading_silent : (i : Instruction) → reads_input i ≡ true → writes_line i ≡ false
reading_silent (Say text) e = absurd (true≢false (sym e))
reading_silent Out e = absurd (true≢false (sym e))
reading_silent _ e = refl

abbrev worded : Bool → Bool → List ℕ
worded writes reads = cond writes (codes "order ") (cond reads (codes "input ") (codes "race "))

race_meant : (several : Bool) (i : Instruction) → is_race several i ≡ true → (has_effect several i ≡ true) × (word_of i ≡ codes "race ")
race_meant several i e =
    let silent = changing_silent i (second several (changes_own i) e) in
    (ap (λ b. b || is_input several i || is_order several i) e, λ j. worded (silent.0 j) (silent.1 j))

input_meant : (several : Bool) (i : Instruction) → is_input several i ≡ true → (has_effect several i ≡ true) × (word_of i ≡ codes "input ")
input_meant several i e = (
  ap (λ b. is_race several i || b || is_order several i) e ∙ ap (λ b. b || is_order several i) (or_true (is_race several i)),
  λ j. worded (reading_silent i e j) (e j),
)

order_meant : (several : Bool) (i : Instruction) → is_order several i ≡ true → (has_effect several i ≡ true) × (word_of i ≡ codes "order ")
order_meant several i e = (
  ap (λ b. is_race several i || is_input several i || b) e ∙ or_true (is_race several i || is_input several i),
  ap (λ b. worded b (reads_input i)) (second several (writes_line i) e),
)

-- SIGNALS

spaced : (a b c d : List ℕ) → ((a ++ b) ++ c) ++ d ≡ a ++ ((b ++ c) ++ d)
spaced a b c d = ap (λ l. l ++ d) (append_assoc a b c) ∙ append_assoc a (b ++ c) d

-- no section has the line of a signal
module _ (first : (rest : List ℕ) → any_of (begins (codes "signal ")) (fed_lines (codes "signal " ++ rest)) ≡ true) where
  reactions_none : (shared : Bool) (leaf : List ℕ) (sections : List (Section × Statements))
      → NoneBegin (codes "signal ") first (sections_lines shared leaf sections) → reactions_in leaf sections ≡ []
  reactions_none shared leaf [] h = refl
  reactions_none shared leaf (p ∷ rest) h =
      let all = both_none (codes "signal ") first (section_lines shared leaf p.0 p.1) (sections_lines shared leaf rest) h in
      let here = (both_none (codes "signal ") first (reaction_lines leaf p.0) _ all.0).0 in
      λ e. one p.0 here e ++ reactions_none shared leaf rest all.1 e
    where
      one : (section : Section) → NoneBegin (codes "signal ") first (reaction_lines leaf section)
          → cond {A = List Reaction} (is_reaction section) (record { leaf = leaf; section = section } ∷ []) [] ≡ []
      one (Reacting i) h = absurd (h.0 (leaf ++ codes " in " ++ section_word (Reacting i))
          (spaced (codes "signal ") leaf (codes " in ") (section_word (Reacting i))))
      one Main h = refl
      one Opening h = refl
      one (Upgrading l) h = refl
      one (Calling l) h = refl
      one (Closing l) h = refl

  lines_unsignalled : (system : System) (x : ℕ) (cs : List Component) → NoneBegin (codes "signal ") first (lines_from system x cs) → reactions_from cs ≡ []
  lines_unsignalled system x [] h = refl
  lines_unsignalled system x (c ∷ cs) h =
      let shared = is_shared system x in
      let all = both_none (codes "signal ") first (leaf_lines system x c) (lines_from system (suc x) cs) h in
      let here = (both_none (codes "signal ") first (sharing_lines c (openers system x) (stated_of is_conflict shared c))
      (sections_lines shared c.label c.node.program.sections) all.0).1 in
      λ e. reactions_none shared c.label c.node.program.sections here e ++ lines_unsignalled system (suc x) cs all.1 e

  text_unsignalled : (s : Scenario) → HasNoLine (codes "signal ") (races_text s) → IsSignalFree s
  text_unsignalled s h =
      lines_unsignalled (system s) 0 (system s).components (none_begin (codes "signal ") first (lines_from (system s) 0 (system s).components) h)

-- WHAT WAS WRITTEN

same_more : (t a b : List ℕ) → t ++ a ≡ t ++ b → a ≡ b
same_more [] a b e = e
same_more (x ∷ t) a b e = same_more t a b cc

same_text : (old new : Option (List ℕ)) (text given : List ℕ) → Appends old new text → Wrote given old new → text ≡ given
same_text old new text given h w = by (subst (λ o. Appends o new text) w.1 h)
  where
    by : Appends (Some w.0) new text → text ≡ given
    by g = sym (same_more w.0 given text (subst (λ o. Appends (Some w.0) o text) w.2 g))

-- the text that was written is that of a scenario that was loaded
module _ (r : Result Scenario LoadRefusal) (text : List ℕ) (old new : Option (List ℕ)) (put : Appends old new text) where
  -- if a text without lines that begin with the word is of such a scenario
  meant : (word : List ℕ) (IsSo : Scenario → Type 0) → ((s : Scenario) → HasNoLine word (races_text s) → IsSo s) → IsOkAnd r (λ s. text ≡ races_text s)
      → (given : List ℕ) → Wrote given old new → HasNoLine word given → IsOkAnd r IsSo
  meant word IsSo means h given w none = by r h
    where
      by : (r : Result Scenario LoadRefusal) → IsOkAnd r (λ s. text ≡ races_text s) → IsOkAnd r IsSo
      by (Ok s) h = means s (subst (HasNoLine word) (sym (same_text old new text given put w) ∙ h) none)
      by (Err fault) h = absurd h

  pub raceless : IsOkAnd r (λ s. text ≡ races_text s) → (given : List ℕ) → Wrote given old new → HasNoLine (codes "race ") given → IsOkAnd r IsRaceFree
  raceless = meant (codes "race ") IsRaceFree (text_none (codes "race ") race_first is_race race_meant)

  pub inputless : IsOkAnd r (λ s. text ≡ races_text s) → (given : List ℕ) → Wrote given old new → HasNoLine (codes "input ") given → IsOkAnd r IsInputFree
  inputless = meant (codes "input ") IsInputFree (text_none (codes "input ") input_first is_input input_meant)

  pub signalless : IsOkAnd r (λ s. text ≡ races_text s) → (given : List ℕ) → Wrote given old new → HasNoLine (codes "signal ") given → IsOkAnd r IsSignalFree
  signalless = meant (codes "signal ") IsSignalFree (text_unsignalled signal_first)

  pub orderless : IsOkAnd r (λ s. text ≡ races_text s) → (given : List ℕ) → Wrote given old new → HasNoLine (codes "order ") given → IsOkAnd r IsOrderFree
  orderless = meant (codes "order ") IsOrderFree (text_none (codes "order ") order_first is_order order_meant)

  nothing : WroteNothing old new → Wrote [] old new
  nothing n = (n.0, n.1, n.2 ∙ ap Some (sym (append-nil n.0)))

  -- an empty text has no line
  pub free_printed : IsOkAnd r (λ s. text ≡ races_text s) → WroteNothing old new → IsOkAnd r IsRaceFree
  free_printed h n = raceless h [] (nothing n) refl

  pub unset_printed : IsOkAnd r (λ s. text ≡ races_text s) → WroteNothing old new → IsOkAnd r IsInputFree
  unset_printed h n = inputless h [] (nothing n) refl

  pub unsignalled_printed : IsOkAnd r (λ s. text ≡ races_text s) → WroteNothing old new → IsOkAnd r IsSignalFree
  unsignalled_printed h n = signalless h [] (nothing n) refl

  pub quiet_printed : IsOkAnd r (λ s. text ≡ races_text s) → WroteNothing old new → IsOkAnd r IsOrderFree
  quiet_printed h n = orderless h [] (nothing n) refl
