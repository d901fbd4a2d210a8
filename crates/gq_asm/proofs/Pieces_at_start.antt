-- The pieces of a text, by what stands at its start.
use Rattle.std.proofs.Common.{◌≡◌, ◌<◌, ◌≤◌, ◌-◌, ℕ, ◌==◌, suc, if◌then◌else◌, Bool, true, false, List, [], ◌∷◌, ◌++◌, length, get_or, take, drop}
use Rattle.std.proofs.Common.{Option, Some, None, zero, drop-cons, append-nil, ◌+◌, add-one, refl, sym, ◌∙◌, ap, subst, arith}
use Rattle.std.proofs.lemmas.Bool.{eqb-true, eqb-false}
use Rattle.std.proofs.Math.Seq.{take-suc, drop-length}
use Rattle.gq_model.specs.machine.Lists.{all_of}
use Rattle.gq_model.specs.texts.Letters.{is_blank, onto_first, pieces, non_empty, words, unindented, past_word, lines, without_return, without_returns}
use Rattle.gq_model.specs.texts.Spelling.{before, quoted}
use Rattle.std.specs.Prelude.{IfSome, IfNone}
use Rattle.std.specs.Iterator.{YieldsFirst}
use Rattle.memchr.specs.Find.{is_byte, places_from, places}
use Rattle.gq_asm.specs.Pieces.{prefix_word, NextWord, prefix_line, past_feed}
use Rattle.gq_asm.specs.internal.Quotes.{onto}

-- by the truth of a test
pub by_test : {P : Type 0} (b : Bool) → (b ≡ true → P) → (b ≡ false → P) → P
by_test true f g = f refl
by_test false f g = g refl

-- a test of two numbers that differ
pub ne_test : (a b : ℕ) → (a ≡ b → ⊥) → a == b ≡ false
ne_test a b h = by_test (a == b) (λ e. absurd (h (eqb-true a b e))) (λ e. e)

pub no_length : (text : List ℕ) → length text == 0 ≡ true → text ≡ []
no_length [] e = refl
no_length (c ∷ rest) e = absurd (omega (arith, eqb-true (length (c ∷ rest)) 0 e))

pub some_length : (text : List ℕ) → length text == 0 ≡ false → 0 < length text
some_length [] e = absurd (eqb-false 0 0 e refl)
some_length (c ∷ rest) e = omega arith

-- WORDS

-- what follows the blank at the start, in pieces
abbrev pub after_blank : List ℕ → List (List ℕ)
after_blank [] = []
after_blank (b ∷ rest) = pieces is_blank rest

pub pieces-word : (text : List ℕ) → pieces is_blank text ≡ prefix_word text ∷ after_blank (past_word text)
pieces-word [] = refl
pieces-word (c ∷ rest) = by_test (is_blank c) (λ e. rw e refl) (λ e. rw e (ap (onto_first c) (pieces-word rest)))

pub words-past : (text : List ℕ) → non_empty (after_blank (past_word text)) ≡ words (past_word text)
words-past [] = refl
words-past (c ∷ rest) = by_test (is_blank c) (λ e. rw e (rw e refl)) (λ e. rw e (words-past rest))

-- the words of a text, by its first
pub next : (text : List ℕ) →
    (unindented text ≡ [] → words text ≡ []) × (0 < length (unindented text) → NextWord text (prefix_word (unindented text)) (past_word (unindented text)))
next [] = (λ _. refl, λ h. absurd (omega arith))
next (c ∷ rest) =
    by_test (is_blank c)
    (λ e. rw e ((next rest).0, λ h. record { all = rw e ((next rest).1 h).all; rest = rw e refl }))
    (λ e. rw e (
      λ h. absurd (cc),
      λ h. record { all = rw e (rw (pieces-word rest) (ap (λ ws. (c ∷ prefix_word rest) ∷ ws) (words-past rest))); rest = rw e (rw e refl) },
    ))

-- LINES

-- what follows the line feed, in pieces
abbrev pub pieces_left : Option (List ℕ) → List (List ℕ)
pieces_left None = []
pieces_left (Some text) = pieces (λ c. c == 10) text

pub pieces-line : (text : List ℕ) → pieces (λ c. c == 10) text ≡ prefix_line text ∷ pieces_left (past_feed text)
pieces-line [] = refl
pieces-line (c ∷ rest) = by_test (c == 10) (λ e. rw e refl) (λ e. rw e (ap (onto_first c) (pieces-line rest)))

-- a line before what is left; its carriage return goes where there is a line feed
abbrev pub lines_of : List ℕ → Option (List ℕ) → List (List ℕ)
lines_of prefix None = prefix ∷ []
lines_of prefix (Some text) = without_return prefix ∷ lines text

pub returns_of : (prefix : List ℕ) (left : Option (List ℕ)) → without_returns (prefix ∷ pieces_left left) ≡ lines_of prefix left
returns_of prefix None = refl
returns_of prefix (Some text) = rw (pieces-line text) refl

pub lines-split : (text : List ℕ) → lines text ≡ lines_of (prefix_line text) (past_feed text)
lines-split text = rw (pieces-line text) (returns_of (prefix_line text) (past_feed text))

-- the first of the places of line feeds
first_place : (text : List ℕ) (i n k : ℕ) (more : List ℕ) → places_from (is_byte 10) text i n ≡ k ∷ more →
    (i ≤ k) × (k < i + n) × (get_or text k 0 ≡ 10) × ((j : ℕ) → i ≤ j → j < k → get_or text j 0 ≡ 10 → ⊥)
unfolding places_from
first_place text i zero k more e = absurd cc
first_place text i (suc n) k more e =
    by_test (get_or text i 0 == 10)
    (λ yes.
    let is : i ≡ k = cc (rw yes at e) in
    let here : get_or text k 0 ≡ 10 = subst (λ m. get_or text m 0 ≡ 10) is (eqb-true (get_or text i 0) 10 yes) in
    (omega (arith, is), omega (arith, is), here, λ j low high. absurd (omega (arith, is))))
    (λ no.
    let later = first_place text (i + 1) n k more (rw no at e) in (
      omega (arith, later.0),
      omega (arith, later.1),
      later.2,
      λ j low high is.
          by_test (j == i)
          (λ same. eqb-false (get_or text i 0) 10 no (subst (λ m. get_or text m 0 ≡ 10) (eqb-true j i same) is))
          (λ other. later.3 j (omega (arith, eqb-false j i other)) high is),
    ))

-- there is none
no_place : (text : List ℕ) (i n : ℕ) → places_from (is_byte 10) text i n ≡ [] → (j : ℕ) → i ≤ j → j < i + n → get_or text j 0 ≡ 10 → ⊥
unfolding places_from
no_place text i zero e j low high is = absurd (omega arith)
no_place text i (suc n) e j low high is =
    by_test (get_or text i 0 == 10)
    (λ yes. absurd (cc (rw yes at e)))
    (λ no.
    by_test (j == i)
    (λ same. eqb-false (get_or text i 0) 10 no (subst (λ m. get_or text m 0 ≡ 10) (eqb-true j i same) is))
    (λ other. no_place text (i + 1) n (rw no at e) j (omega (arith, eqb-false j i other)) (omega arith) is))

-- what a search for a line feed gives
module _ (text s t : List ℕ) where
  pub feed_there : (r : Option ℕ) → s ≡ places (is_byte 10) text → YieldsFirst (λ rest. rest) s r t →
      IfSome r (λ k. (k < length text) × (get_or text k 0 ≡ 10))
  feed_there None is found = tt
  feed_there (Some k) is found = let first = first_place text 0 (length text - 0) k t (sym is ∙ found) in (omega (arith, first.1), first.2)

  pub feed_first : (r : Option ℕ) → s ≡ places (is_byte 10) text → YieldsFirst (λ rest. rest) s r t →
      IfSome r (λ k. (j : ℕ) → j < k → get_or text j 0 ≡ 10 → ⊥)
  feed_first None is found = tt
  feed_first (Some k) is found = λ j less. (first_place text 0 (length text - 0) k t (sym is ∙ found)).3 j (omega arith) less

  pub feed_none : (r : Option ℕ) → s ≡ places (is_byte 10) text → YieldsFirst (λ rest. rest) s r t →
      IfNone r ((j : ℕ) → j < length text → get_or text j 0 ≡ 10 → ⊥)
  feed_none None is found = λ j less. no_place text 0 (length text - 0) (sym is ∙ found.0) j (omega arith) (omega arith)
  feed_none (Some k) is found = tt

-- the line that ends there
pub line_ends : (text : List ℕ) (k : ℕ) → k < length text → get_or text k 0 ≡ 10 → ((j : ℕ) → j < k → get_or text j 0 ≡ 10 → ⊥) →
    (take k text ≡ prefix_line text) × (Some (drop (suc k) text) ≡ past_feed text)
line_ends [] k h e none = absurd (omega arith)
line_ends (c ∷ rest) zero h e none = rw e (refl, refl)
line_ends (c ∷ rest) (suc k) h e none =
    let later = line_ends rest k (omega arith) e (λ j less. none (suc j) (omega arith)) in
    rw (ne_test c 10 (none 0 (omega arith))) (ap (λ (l : List ℕ). c ∷ l) later.0, later.1)

pub line_only : (text : List ℕ) → ((j : ℕ) → j < length text → get_or text j 0 ≡ 10 → ⊥) → (text ≡ prefix_line text) × (None ≡ past_feed text)
line_only [] none = (refl, refl)
line_only (c ∷ rest) none =
    let later = line_only rest (λ j less. none (suc j) (omega arith)) in
    rw (ne_test c 10 (none 0 (omega arith))) (ap (λ (l : List ℕ). c ∷ l) later.0, later.1)

pub dropped_return : (line : List ℕ) (k : ℕ) → length line ≡ suc k → without_return line ≡ (if get_or line k 0 == 13 then take k line else line)
dropped_return [] k h = absurd (omega arith)
dropped_return (c ∷ []) zero h = refl
dropped_return (c ∷ []) (suc k) h = absurd (omega arith)
dropped_return (c ∷ d ∷ rest) zero h = absurd (omega arith)
dropped_return (c ∷ d ∷ rest) (suc k) h =
    let e : length (d ∷ rest) ≡ suc k = omega arith in
    rw (dropped_return (d ∷ rest) k e) (by_test (get_or (d ∷ rest) k 0 == 13) (λ t. rw t refl) (λ t. rw t refl))

pub return_there : (line : List ℕ) → get_or line (length line - 1) 0 ≡ 13 → take (length line - 1) line ≡ without_return line
return_there [] e = cc
return_there (c ∷ rest) e =
    let n : length (c ∷ rest) ≡ suc (length (c ∷ rest) - 1) = omega arith in sym (dropped_return (c ∷ rest) (length (c ∷ rest) - 1) n ∙ rw e refl)

pub return_absent : (line : List ℕ) → (get_or line (length line - 1) 0 ≡ 13 → ⊥) → line ≡ without_return line
return_absent [] e = refl
return_absent (c ∷ rest) e =
    let n : length (c ∷ rest) ≡ suc (length (c ∷ rest) - 1) = omega arith in
    sym (dropped_return (c ∷ rest) (length (c ∷ rest) - 1) n ∙ rw (ne_test _ 13 e) refl)

pub return_empty : (line : List ℕ) → length line == 0 ≡ true → line ≡ without_return line
return_empty [] e = refl
return_empty (c ∷ rest) e = absurd (omega (arith, eqb-true (length (c ∷ rest)) 0 e))

-- QUOTES

pub onto_none : (prefix : List ℕ) → onto prefix None ≡ None
onto_none [] = refl
onto_none (c ∷ rest) = ap (before c) (onto_none rest)

pub onto_some : (prefix text : List ℕ) → onto prefix (Some text) ≡ Some (prefix ++ text)
onto_some [] text = refl
onto_some (c ∷ rest) text = ap (before c) (onto_some rest text)

pub onto_append : (prefix more : List ℕ) (text : Option (List ℕ)) → onto (prefix ++ more) text ≡ onto prefix (onto more text)
onto_append [] more text = refl
onto_append (c ∷ rest) more text = ap (before c) (onto_append rest more text)

-- at a quotation mark
pub quoted_mark : (text : List ℕ) (i : ℕ) → i < length text → get_or text i 0 ≡ 34 →
    onto (take i text) (quoted (drop i text)) ≡ onto (take i text) (if all_of is_blank (drop (suc i) text) then Some [] else None)
quoted_mark text i h e = rw (drop-cons text i 0) (rw e refl)

pub quoted_found : (text : List ℕ) (i : ℕ) → i < length text → get_or text i 0 ≡ 34 → all_of is_blank (drop (i + 1) text) ≡ true →
    onto (take i text) (quoted (drop i text)) ≡ Some (take i text)
quoted_found text i h e blank =
    let b : all_of is_blank (drop (suc i) text) ≡ true = rw (← add-one i) blank in
    quoted_mark text i h e ∙ rw b (onto_some (take i text) [] ∙ ap Some (append-nil (take i text)))

pub quoted_more : (text : List ℕ) (i : ℕ) → i < length text → get_or text i 0 ≡ 34 → all_of is_blank (drop (i + 1) text) ≡ false →
    onto (take i text) (quoted (drop i text)) ≡ None
quoted_more text i h e more =
    let b : all_of is_blank (drop (suc i) text) ≡ false = rw (← add-one i) more in quoted_mark text i h e ∙ rw b (onto_none (take i text))

pub quoted_step : (text : List ℕ) (i : ℕ) → i < length text → (get_or text i 0 ≡ 34 → ⊥) →
    onto (take (i + 1) text) (quoted (drop (i + 1) text)) ≡ onto (take i text) (quoted (drop i text))
quoted_step text i h e =
    rw (add-one i, drop-cons text i 0, take-suc text i 0)
    (rw (ne_test (get_or text i 0) 34 e) (onto_append (take i text) (get_or text i 0 ∷ []) (quoted (drop (suc i) text))))

pub quoted_end : (text : List ℕ) → onto (take (length text) text) (quoted (drop (length text) text)) ≡ None
quoted_end text = rw (drop-length text) (onto_none (take (length text) text))
