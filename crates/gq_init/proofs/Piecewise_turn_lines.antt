-- The lines of a text that comes in pieces, and what they say.
use Rattle.std.proofs.Common.{◌≡◌, ◌==◌, ℕ, ◌+◌, ◌^◌, ◌<◌, ◌≤◌, nat_le, Bool, true, false, cond, ◌&&◌, not, List, [], ◌∷◌, ◌++◌, length, map}
use Rattle.std.proofs.Common.{Option, Some, None}
use Rattle.std.proofs.Common.{Result, Ok, Err, refl, ap, sym, subst, ◌∙◌, arith, append_assoc, append-nil, length-append, is_none, option_map, Bor, take, drop}
use Rattle.std.proofs.lemmas.Bool.Decides.{nat_tests}
use Rattle.std.proofs.lemmas.List.{take-append-drop}
use Rattle.std.specs.Prelude.{Vec}
use Rattle.std.specs.declared.alloc.Global.{Global}
use Rattle.gq_model.specs.declared.fault.TurnFault.{TurnFault}
use Rattle.gq_model.specs.declared.fault.TurnFault.TheVariants.{TooMany}
use Rattle.gq_model.specs.declared.act.TurnLine.{TurnLine}
use Rattle.gq_model.specs.machine.Scenario.{Scenario}
use Rattle.gq_model.specs.texts.Letters.{lines, onto_first, pieces, without_return, without_returns}
use Rattle.gq_model.specs.texts.Turns.{Listed, listed, line_turns}
use Rattle.gq_model.specs.machine.Rest.{greatest_turns}
use Rattle.gq_scenario.specs.Text_pieces.{lines_left}
use Rattle.gq_scenario.proofs.Text_line_pieces.{without_returns-pieces}
use Rattle.gq_init.specs.TurnLines.{IsTurned, given_in, limited, line_turn, turn_on}
use Rattle.gq_init.specs.declared.turns.TurnsError.{TurnsError}
use Rattle.gq_init.specs.TurnReading.{Reading, answer, prepended, reported}
use Rattle.gq_init.specs.internal.Ahead.{IsLineAhead, IsTurnAhead}
use Rattle.gq_init.specs.internal.Piecewise_lines.{IsEnded, all_but_last, lines_read}
use Rattle.gq_init.proofs.Line_turn_lists.{prepended-empty, said_from, turned_none, turned_some, turned_fault}

-- LINES

-- the lines of a text with a line feed behind it, which all end
abbrev ended : List ℕ → List (List ℕ)
ended prefix = map without_return (pieces (λ c. c == 10) prefix)

longer : (c : ℕ) (xs : List (List ℕ)) → 0 < length (onto_first c xs)
longer c [] = omega arith
longer c (x ∷ xs) = omega arith

some_by : (b : Bool) (c : ℕ) (xs : List (List ℕ)) → 0 < length (cond b ([] ∷ xs) (onto_first c xs))
some_by true c xs = omega arith
some_by false c xs = longer c xs

some_pieces : (text : List ℕ) → 0 < length (pieces (λ c. c == 10) text)
some_pieces [] = omega arith
some_pieces (c ∷ text) = some_by (c == 10) c (pieces (λ d. d == 10) text)

onto_more : (c : ℕ) (xs ys : List (List ℕ)) → 0 < length xs → onto_first c (xs ++ ys) ≡ onto_first c xs ++ ys
onto_more c [] ys some = absurd (omega (arith, some))
onto_more c (x ∷ xs) ys some = refl

more_by : (b : Bool) (c : ℕ) (xs ys : List (List ℕ)) → 0 < length xs
    → cond b ([] ∷ (xs ++ ys)) (onto_first c (xs ++ ys)) ≡ cond b ([] ∷ xs) (onto_first c xs) ++ ys
more_by true c xs ys some = refl
more_by false c xs ys some = onto_more c xs ys some

pieces_both : (prefix more : List ℕ) → pieces (λ c. c == 10) (prefix ++ 10 ∷ more) ≡ pieces (λ c. c == 10) prefix ++ pieces (λ c. c == 10) more
pieces_both [] more = refl
pieces_both (c ∷ prefix) more =
    ap (λ ps. cond (c == 10) ([] ∷ ps) (onto_first c ps)) (pieces_both prefix more)
    ∙ more_by (c == 10) c (pieces (λ d. d == 10) prefix) (pieces (λ d. d == 10) more) (some_pieces prefix)

returns_both : (xs : List (List ℕ)) (more : List ℕ)
    → without_returns (xs ++ pieces (λ c. c == 10) more) ≡ map without_return xs ++ without_returns (pieces (λ c. c == 10) more)
returns_both [] more = refl
returns_both (x ∷ []) more = without_returns-pieces x 10 more
returns_both (x ∷ y ∷ xs) more = ap (λ ls. without_return x ∷ ls) (returns_both (y ∷ xs) more)

lines_both : (prefix more : List ℕ) → lines (prefix ++ 10 ∷ more) ≡ ended prefix ++ lines more
lines_both prefix more = ap without_returns (pieces_both prefix more) ∙ returns_both (pieces (λ c. c == 10) prefix) more

but_last : (xs : List (List ℕ)) (x : List ℕ) → all_but_last (xs ++ x ∷ []) ≡ xs
but_last [] x = refl
but_last (y ∷ []) x = refl
but_last (y ∷ z ∷ xs) x = ap (λ ls. y ∷ ls) (but_last (z ∷ xs) x)

pub lines_ended : (piece more : List ℕ) → IsEnded piece → lines (piece ++ more) ≡ lines_read false (lines piece) ++ lines more
lines_ended piece more h =
    ap (λ t. lines (t ++ more)) h.is
    ∙ ap lines (append_assoc h.prefix (10 ∷ []) more)
    ∙ lines_both h.prefix more
    ∙ ap (λ ls. ls ++ lines more) (sym (ap (λ t. all_but_last (lines t)) h.is ∙ ap all_but_last (lines_both h.prefix []) ∙ but_last (ended h.prefix) []))

pub ended_behind : (prefix piece : List ℕ) → IsEnded piece → IsEnded (prefix ++ piece)
ended_behind prefix piece h = record { prefix = prefix ++ h.prefix; is = ap (λ t. prefix ++ t) h.is ∙ sym (append_assoc prefix h.prefix (10 ∷ [])) }

some_lines : (xs : List (List ℕ)) → 0 < length xs → 0 < length (without_returns xs)
some_lines [] some = absurd (omega (arith, some))
some_lines (x ∷ []) some = omega arith
some_lines (x ∷ y ∷ xs) some = omega arith

last_later : (line : List ℕ) (xs : List (List ℕ)) → 0 < length xs → all_but_last (line ∷ xs) ≡ line ∷ all_but_last xs
last_later line [] some = absurd (omega (arith, some))
last_later line (x ∷ xs) some = refl

-- the lines of what follows a line feed
abbrev pub behind : Option (Bor (List ℕ)) → List (List ℕ)
behind after = lines_left (option_map (λ rest. rest.now) after)

-- a line that is read: it has ended, or it is the last one
reads_line : (is_last : Bool) (line : List ℕ) (after : Option (Bor (List ℕ))) → (is_none after && not is_last) ≡ false
    → lines_read is_last (line ∷ behind after) ≡ line ∷ lines_read is_last (behind after)
reads_line true line after h = refl
reads_line false line None h = cc
reads_line false line (Some rest) h = last_later line (lines rest.now) (some_lines (pieces (λ c. c == 10) rest.now) (some_pieces rest.now))

-- a line that is not read: more of it may come
reads_none : (is_last : Bool) (line : List ℕ) (after : Option (Bor (List ℕ))) → (is_none after && not is_last) ≡ true
    → lines_read is_last (line ∷ behind after) ≡ []
reads_none true line None h = cc
reads_none true line (Some rest) h = cc
reads_none false line None h = refl
reads_none false line (Some rest) h = cc

-- READING

module _ (s : Scenario) (items : List TurnLine) (total line : ℕ) (is_last : Bool) (text : List ℕ) (said : Result (Option TurnLine) TurnFault)
    (after : Option (Bor (List ℕ))) (ahead : IsLineAhead s total text said (option_map (λ rest. rest.now) after)) where
  -- what is reported by these lines of the text
  abbrev before : List (List ℕ) → List (List ℕ) → Listed
  before ls more = reported s items total line None (ls ++ more)

  first_is : (is_none after && not is_last) ≡ false → lines_read is_last (lines text) ≡ ahead.line ∷ lines_read is_last (behind after)
  first_is h = ap (lines_read is_last) ahead.is ∙ reads_line is_last ahead.line after h

  pub read_none : (is_none after && not is_last) ≡ false → said ≡ Ok None → (more : List (List ℕ))
      → reported s items total (line + 1) None (lines_read is_last (behind after) ++ more) ≡ before (lines_read is_last (lines text)) more
  read_none h e more =
      ap (prepended items) (sym (turned_none s (line + 1) total ahead.line (lines_read is_last (behind after) ++ more) (sym ahead.said_is ∙ e)))
      ∙ ap (λ ls. before ls more) (sym (first_is h))

  pub read_some : (is_none after && not is_last) ≡ false → (turn : TurnLine) → said ≡ Ok (Some turn) → (more : List (List ℕ))
      → reported s (items ++ turn ∷ []) (total + line_turns turn) (line + 1) None (lines_read is_last (behind after) ++ more)
      ≡ before (lines_read is_last (lines text)) more
  read_some h turn e more =
      sym (turned_some s (line + 1) total ahead.line (lines_read is_last (behind after) ++ more) items turn (sym ahead.said_is ∙ e))
      ∙ ap (λ ls. before ls more) (sym (first_is h))

  pub read_fault : (is_none after && not is_last) ≡ false → (fault : TurnFault) → said ≡ Err fault → (more : List (List ℕ))
      → Err (fault, line + 1) ≡ before (lines_read is_last (lines text)) more
  read_fault h fault e more =
      sym (turned_fault s (line + 1) total ahead.line (lines_read is_last (behind after) ++ more) items fault (sym ahead.said_is ∙ e))
      ∙ ap (λ ls. before ls more) (sym (first_is h))

  pub read_begun : (is_none after && not is_last) ≡ true → (more : List (List ℕ))
      → reported s items total line None more ≡ before (lines_read is_last (lines text)) more
  read_begun h more = ap (λ ls. before ls more) (sym (ap (lines_read is_last) ahead.is ∙ reads_none is_last ahead.line after h))

within : (n : ℕ) → n ≤ greatest_turns → nat_le n greatest_turns ≡ true
within n few = grind (arith, nat_tests, few)

reads_ended : (is_last : Bool) (line rest : List ℕ) → lines_read is_last (line ∷ lines rest) ≡ line ∷ lines_read is_last (lines rest)
reads_ended true line rest = refl
reads_ended false line rest = last_later line (lines rest) (some_lines (pieces (λ c. c == 10) rest) (some_pieces rest))

-- a line that is a turn
pub read_turn_ahead : (s : Scenario) (items : List TurnLine) (total line : ℕ) (text rest : List ℕ) (turn : TurnLine) → IsTurnAhead s text turn rest
    → total + line_turns turn ≤ greatest_turns → (is_last : Bool) (more : List (List ℕ))
    → reported s (items ++ turn ∷ []) (total + line_turns turn) (line + 1) None (lines_read is_last (lines rest) ++ more)
    ≡ reported s items total line None (lines_read is_last (lines text) ++ more)
read_turn_ahead s items total line text rest turn h few is_last more =
    let said : line_turn s total h.line ≡ Ok (Some turn) =
    ap (λ b. turn_on b total (given_in s (pieces (λ c. c == 32) h.line))) h.says
    ∙ (ap (limited total) h.turn_is ∙ ap (λ b. cond b (Ok (Some turn)) (Err TooMany)) (within (total + line_turns turn) few)) in
    sym (turned_some s (line + 1) total h.line (lines_read is_last (lines rest) ++ more) items turn said)
    ∙ ap (λ ls. reported s items total line None (ls ++ more)) (sym (ap (lines_read is_last) h.is ∙ reads_ended is_last h.line rest))

pub reported_end : (s : Scenario) (items : List TurnLine) (total line : ℕ) → reported s items total line None [] ≡ Ok items
reported_end s items total line = ap Ok (append-nil items)

-- PIECES

pub answer_start : (s : Scenario) (rest : List ℕ)
    → answer s (record { items = []; total = 0; line = 0; fault = None; size = 0; last = [] }) rest ≡ listed s rest
answer_start s rest =
    ap (λ n. cond (nat_le n (2 ^ 24)) (prepended [] (said_from s 1 0 (lines rest))) (Err (TooMany, 0))) (omega arith)
    ∙ ap (λ t. cond (nat_le (length rest) (2 ^ 24)) t (Err (TooMany, 0))) (prepended-empty (said_from s 1 0 (lines rest)))

pub answer_kept : (s : Scenario) (old : Reading) (piece rest : List ℕ)
    → answer s (record old { size = old.size + length piece; last = old.last ++ piece }) rest ≡ answer s old (piece ++ rest)
answer_kept s old piece rest =
    let size : old.size + length piece + length rest ≡ old.size + length (piece ++ rest) = omega (arith, length-append piece rest) in
    ap (λ n. cond (nat_le n (2 ^ 24)) (reported s old.items old.total old.line old.fault (lines ((old.last ++ piece) ++ rest))) (Err (TooMany, 0))) size
    ∙ ap (λ t. cond (nat_le (old.size + length (piece ++ rest)) (2 ^ 24)) (reported s old.items old.total old.line old.fault (lines t)) (Err (TooMany, 0)))
    (append_assoc old.last piece rest)

-- lines that ended were read, and nothing is kept
pub answer_read : (s : Scenario) (old new : Reading) → IsEnded old.last → new.last ≡ [] → new.size ≡ old.size
    → ((more : List (List ℕ)) → reported s new.items new.total new.line new.fault more
    ≡ reported s old.items old.total old.line old.fault (lines_read false (lines old.last) ++ more))
    → (rest : List ℕ) → answer s new rest ≡ answer s old rest
answer_read s old new ended last size same rest =
    ap (λ n. cond (nat_le (n + length rest) (2 ^ 24)) (reported s new.items new.total new.line new.fault (lines (new.last ++ rest))) (Err (TooMany, 0))) size
    ∙ ap (λ t. cond (nat_le (old.size + length rest) (2 ^ 24)) t (Err (TooMany, 0)))
    (ap (λ l. reported s new.items new.total new.line new.fault (lines (l ++ rest))) last
    ∙ (same (lines rest) ∙ ap (reported s old.items old.total old.line old.fault) (sym (lines_ended old.last rest ended))))

-- END

-- what was read at last is the answer
pub answer_finished : (s : Scenario) (r : Reading) (items : List TurnLine) (total line : ℕ) (fault : Option (TurnFault × ℕ))
    (result : Result (Vec TurnLine Global) TurnsError) → nat_le r.size (2 ^ 24) ≡ true
    → ((more : List (List ℕ)) → reported s items total line fault more ≡ reported s r.items r.total r.line r.fault (lines r.last ++ more))
    → IsTurned result (reported s items total line fault []) → IsTurned result (answer s r [])
answer_finished s r items total line fault result small same is =
    subst (IsTurned result) (same []
    ∙ ap (reported s r.items r.total r.line r.fault) (append-nil (lines r.last) ∙ ap lines (sym (append-nil r.last)))
    ∙ sym (ap (λ n. cond (nat_le n (2 ^ 24)) (reported s r.items r.total r.line r.fault (lines (r.last ++ []))) (Err (TooMany, 0))) (omega arith)
    ∙ ap (λ b. cond b (reported s r.items r.total r.line r.fault (lines (r.last ++ []))) (Err (TooMany, 0))) small)) is

-- a text in one piece
pub text_finished : (s : Scenario) (text : List ℕ) (items : List TurnLine) (total line : ℕ) (fault : Option (TurnFault × ℕ))
    (result : Result (Vec TurnLine Global) TurnsError) → nat_le (length text) (2 ^ 24) ≡ true
    → ((more : List (List ℕ)) → reported s items total line fault more ≡ reported s [] 0 0 None (lines text ++ more))
    → IsTurned result (reported s items total line fault []) → IsTurned result (listed s text)
text_finished s text items total line fault result small same is =
    subst (IsTurned result) (same [] ∙ ap (reported s [] 0 0 None) (append-nil (lines text)) ∙ prepended-empty (said_from s 1 0 (lines text))
    ∙ sym (ap (λ b. cond b (said_from s 1 0 (lines text)) (Err (TooMany, 0))) small)) is

-- of which nothing was read before
pub reported_start : (s : Scenario) (items : List TurnLine) (total line : ℕ) (fault : Option (TurnFault × ℕ)) (more : List (List ℕ)) → items ≡ [] → total ≡ 0
    → line ≡ 0 → fault ≡ None → reported s items total line fault more ≡ reported s [] 0 0 None more
reported_start s items total line fault more a b d e = rw (a, b, d, e) refl

-- a piece in two parts
pub in_parts : (s : Scenario) (old : Reading) (piece rest : List ℕ) (k : ℕ)
    → answer s old (take k piece ++ (drop k piece ++ rest)) ≡ answer s old (piece ++ rest)
in_parts s old piece rest k =
    ap (answer s old) (sym (append_assoc (take k piece) (drop k piece) rest) ∙ ap (λ t. t ++ rest) (take-append-drop k piece))
