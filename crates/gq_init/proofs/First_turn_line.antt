-- The first line of a text of turns, reported from what stands at the start of the text.
use Rattle.std.proofs.Common.{◌≡◌, ◌==◌, ◌≢◌, ℕ, zero, suc, ◌+◌, ◌*◌, ◌-◌, ◌^◌, ◌<◌, ◌≤◌, Bool, true, false, ◌&&◌, cond, List, [], ◌∷◌, ◌++◌, length}
use Rattle.std.proofs.Common.{get_or, take, drop, Option, Some, None, Ok, Err, refl, ap, sym, subst, ◌∙◌, arith, append_assoc, add-one}
use Rattle.std.proofs.lemmas.Bool.Decides.{nat_tests}
use Rattle.std.proofs.Math.Nat.{pow-succ'}
use Rattle.std.proofs.lemmas.List.{drop_more, get_or-take, length-take-le, take-append-drop, take_more}
use Rattle.gq_model.specs.machine.Lists.{all_of, between}
use Rattle.gq_model.specs.machine.Program.{text_eq}
use Rattle.gq_model.specs.machine.Routes.{numbered}
use Rattle.gq_model.specs.declared.act.Act.TheVariants.{Turns}
use Rattle.gq_model.specs.declared.act.TurnLine.TheVariants.{Gives}
use Rattle.gq_model.specs.machine.Scenario.{Scenario, components}
use Rattle.gq_model.specs.texts.Letters.{is_digit, is_name, is_name_byte, lines, onto_first, pieces, spelled_on, without_return, without_returns}
use Rattle.gq_model.specs.declared.fault.TurnFault.TheVariants.{BadLine}
use Rattle.gq_model.specs.texts.Turns.{says_nothing, turn_count, turn_of}
use Rattle.gq_model.proofs.Small_facts.{text_self}
use Rattle.gq_scenario.proofs.Text_line_pieces.{pieces_first, pieces_only, without_returns-pieces}
use Rattle.gq_init.specs.TurnLines.{given_in, turn_on}
use Rattle.gq_init.proofs.Line_number_counts.{turn_count-some}
use Rattle.gq_init.specs.internal.Ahead.{IsCountAhead, IsCommentAhead, IsLeafAhead, IsLineAhead, IsTurnAhead}

-- BYTES

is_itself : (s : ℕ) → (s == s) ≡ true
is_itself s = grind (arith, nat_tests)

-- each byte is a greater number
abbrev Above : ℕ → List ℕ → Type 0
Above k [] = Unit {0}
Above k (c ∷ rest) = (k < c) × Above k rest

and_first : (a b : Bool) → (a && b) ≡ true → a ≡ true
and_first true b e = refl
and_first false b e = cc

and_second : (a b : Bool) → (a && b) ≡ true → b ≡ true
and_second true b e = e
and_second false b e = cc

name_byte_above : (c : ℕ) → is_name_byte c ≡ true → 35 < c
name_byte_above c e = grind (arith, nat_tests, e)

digit_above : (c : ℕ) → is_digit c ≡ true → 35 < c
digit_above c e = grind (arith, nat_tests, e)

name_above : (name : List ℕ) → all_of is_name_byte name ≡ true → Above 35 name
name_above [] e = tt
name_above (c ∷ rest) e =
    (name_byte_above c (and_first (is_name_byte c) (all_of is_name_byte rest) e), name_above rest (and_second (is_name_byte c) (all_of is_name_byte rest) e))

digits_above : (digits : List ℕ) → all_of is_digit digits ≡ true → Above 35 digits
digits_above [] e = tt
digits_above (c ∷ rest) e =
    (digit_above c (and_first (is_digit c) (all_of is_digit rest) e), digits_above rest (and_second (is_digit c) (all_of is_digit rest) e))

above_less : (j k : ℕ) (xs : List ℕ) → j ≤ k → Above k xs → Above j xs
above_less j k [] le h = tt
above_less j k (c ∷ xs) le h = (omega (arith, le, h.0), above_less j k xs le h.1)

above_both : (k : ℕ) (xs ys : List ℕ) → Above k xs → Above k ys → Above k (xs ++ ys)
above_both k [] ys h g = g
above_both k (c ∷ xs) ys h g = (h.0, above_both k xs ys h.1 g)

pub name_is_some : (name : List ℕ) → is_name name ≡ true → 0 < length name
name_is_some [] e = cc
name_is_some (c ∷ rest) e = omega arith

pub same_name : (name own : List ℕ) → name ≡ own → text_eq name own ≡ true
same_name name own e = subst (λ n. text_eq name n ≡ true) e (text_self name)

-- LINES

is_other : (s c : ℕ) → s < c → (c == s) ≡ false
is_other s c less = grind (arith, nat_tests)

-- where the first separator stands
pieces_before : (s : ℕ) (xs rest : List ℕ) → Above s xs → pieces (λ c. c == s) (xs ++ s ∷ rest) ≡ xs ∷ pieces (λ c. c == s) rest
pieces_before s [] rest h = ap (λ b. cond b ([] ∷ pieces (λ c. c == s) rest) (onto_first s (pieces (λ c. c == s) rest))) (is_itself s)
pieces_before s (c ∷ xs) rest h =
    ap (λ b. cond b ([] ∷ pieces (λ d. d == s) (xs ++ s ∷ rest)) (onto_first c (pieces (λ d. d == s) (xs ++ s ∷ rest)))) (is_other s c h.0)
    ∙ ap (onto_first c) (pieces_before s xs rest h.1)

-- no separator stands there
pieces_alone : (s : ℕ) (xs : List ℕ) → Above s xs → pieces (λ c. c == s) xs ≡ xs ∷ []
pieces_alone s [] h = refl
pieces_alone s (c ∷ xs) h =
    ap (λ b. cond b ([] ∷ pieces (λ d. d == s) xs) (onto_first c (pieces (λ d. d == s) xs))) (is_other s c h.0) ∙ ap (onto_first c) (pieces_alone s xs h.1)

keeps_end : (line : List ℕ) → Above 13 line → without_return line ≡ line
keeps_end [] h = refl
keeps_end (c ∷ []) h = ap (λ b. cond b [] (c ∷ [])) (is_other 13 c h.0)
keeps_end (c ∷ d ∷ rest) h = ap (λ t. c ∷ t) (keeps_end (d ∷ rest) h.1)

says_something : (name rest : List ℕ) → is_name name ≡ true → Above 35 name → says_nothing (name ++ rest) ≡ false
says_something [] rest e h = cc
says_something (c ∷ name) rest e h = is_other 35 c h.0

shorter_behind : (prefix : List ℕ) (c : ℕ) (rest : List ℕ) → length rest < length (prefix ++ c ∷ rest)
shorter_behind [] c rest = omega arith
shorter_behind (d ∷ prefix) c rest = omega (arith, shorter_behind prefix c rest)

-- a line of a name and a number
given_named : (s : Scenario) (name digits : List ℕ) (x n : ℕ) → is_name name ≡ true → numbered 0 name (components s) ≡ Some x → turn_count digits ≡ Some n
    → given_in s (name ∷ digits ∷ []) ≡ Ok (Gives x (Turns n))
given_named s name digits x n named number spells =
    ap (λ b. cond b (turn_of (numbered 0 name (components s)) (turn_count digits)) (Err BadLine)) named
    ∙ (ap (λ o. turn_of o (turn_count digits)) number ∙ ap (turn_of (Some x)) spells)

reported : (s : Scenario) (name digits rest : List ℕ) (x n : ℕ) → is_name name ≡ true → numbered 0 name (components s) ≡ Some x → all_of is_digit digits ≡ true
    → turn_count digits ≡ Some n → IsTurnAhead s (name ++ (32 ∷ (digits ++ (10 ∷ rest)))) (Gives x (Turns n)) rest
reported s name digits rest x n named number are spells =
    let letters = name_above name (and_second (between 1 16 (length name)) (all_of is_name_byte name) named) in
    let figures = digits_above digits are in
    let line : List ℕ = name ++ (32 ∷ digits) in
    let above : Above 13 line = above_both 13 name (32 ∷ digits) (above_less 13 35 name (omega arith) letters)
    (omega arith, above_less 13 35 digits (omega arith) figures) in
    let joined : name ++ (32 ∷ (digits ++ (10 ∷ rest))) ≡ line ++ (10 ∷ rest) = sym (append_assoc name (32 ∷ digits) (10 ∷ rest)) in
    record {
      line = line;
      is = ap lines joined ∙ (ap without_returns (pieces_before 10 line rest (above_less 10 13 line (omega arith) above))
          ∙ (without_returns-pieces line 10 rest ∙ ap (λ l. l ∷ lines rest) (keeps_end line above)));
      says = says_something name (32 ∷ digits) named letters;
      turn_is = ap (given_in s) (pieces_before 32 name digits (above_less 32 35 name (omega arith) letters)
          ∙ ap (λ ps. name ∷ ps) (pieces_alone 32 digits (above_less 32 35 digits (omega arith) figures)))
          ∙ given_named s name digits x n named number spells;
      shorter = subst (λ t. length rest < length t) (sym joined) (shorter_behind line 10 rest);
    }

pub turn_reported : (s : Scenario) (text : List ℕ) (x : ℕ) (behind : List ℕ) (n : ℕ) (rest : List ℕ) → IsLeafAhead (components s) text x behind
    → IsCountAhead behind n rest → IsTurnAhead s text (Gives x (Turns n)) rest
turn_reported s text x behind n rest leaf count =
    subst (λ t. IsTurnAhead s t (Gives x (Turns n)) rest) (sym (leaf.is ∙ ap (λ t. leaf.name ++ (32 ∷ t)) count.is))
    (reported s leaf.name count.digits rest x n leaf.named leaf.number count.are count.spells)

-- COMMENTS

hash : (c : ℕ) → c ≡ 35 → (c == 35) ≡ true
hash c e = grind (arith, nat_tests)

alone : (b : Bool) (c : ℕ) → (c == 35) ≡ true → says_nothing (cond b [] (c ∷ [])) ≡ true
alone true c e = refl
alone false c e = e

stays_comment : (c : ℕ) (rest : List ℕ) → (c == 35) ≡ true → says_nothing (without_return (c ∷ rest)) ≡ true
stays_comment c [] e = alone (c == 13) c e
stays_comment c (d ∷ rest) e = e

prefix_says_nothing : (text : List ℕ) (k : ℕ) → 0 < length text → get_or text 0 0 ≡ 35 → says_nothing (without_return (take k text)) ≡ true
prefix_says_nothing [] k some first = absurd (omega arith)
prefix_says_nothing (c ∷ rest) zero some first = refl
prefix_says_nothing (c ∷ rest) (suc k) some first = stays_comment c (take k rest) (hash c first)

all_says_nothing : (text : List ℕ) → 0 < length text → get_or text 0 0 ≡ 35 → says_nothing text ≡ true
all_says_nothing [] some first = absurd (omega arith)
all_says_nothing (c ∷ rest) some first = hash c first

pub comment_ended : (text : List ℕ) (k : ℕ) → 0 < length text → get_or text 0 0 ≡ 35 → k < length text → ((j : ℕ) → j < k → get_or text j 0 ≢ 10)
    → get_or text k 0 ≡ 10 → IsCommentAhead text (Some (drop (k + 1) text))
comment_ended text k some first less none at =
    record {
      line = without_return (take k text);
      is = ap without_returns (pieces_first 10 text k less none at) ∙ (without_returns-pieces (take k text) 10 (drop (suc k) text)
          ∙ ap (λ j. without_return (take k text) ∷ lines (drop j text)) (sym (add-one k)));
      says = prefix_says_nothing text k some first;
    }

pub comment_open : (text : List ℕ) → 0 < length text → get_or text 0 0 ≡ 35 → ((j : ℕ) → j < length text → get_or text j 0 ≢ 10)
    → IsCommentAhead text None
comment_open text some first none =
    record {
      line = text;
      is = ap without_returns (pieces_only 10 text none);
      says = all_says_nothing text some first;
    }

pub comment_reported : (s : Scenario) (n : ℕ) (text : List ℕ) (rest : Option (List ℕ)) → IsCommentAhead text rest → IsLineAhead s n text (Ok None) rest
comment_reported s n text rest h =
    record {
      line = h.line;
      is = h.is;
      said_is = sym (ap (λ b. turn_on b n (given_in s (pieces (λ c. c == 32) h.line))) h.says);
    }

-- FRONTS

pub prefix_and_rest : (text : List ℕ) (k : ℕ) → k < length text → text ≡ take k text ++ get_or text k 0 ∷ drop (k + 1) text
prefix_and_rest text k less = sym (take-append-drop k text) ∙ ap (λ t. take k text ++ t) (drop_more text k 0 less)

all_behind : (xs : List ℕ) (c : ℕ) → all_of is_digit xs ≡ true → is_digit c ≡ true → all_of is_digit (xs ++ c ∷ []) ≡ true
all_behind [] c e d = rw d refl
all_behind (b ∷ xs) c e d =
    rw (and_first (is_digit b) (all_of is_digit xs) e) (all_behind xs c (and_second (is_digit b) (all_of is_digit xs) e) d)

spelled_behind : (n : ℕ) (xs : List ℕ) (c : ℕ) → spelled_on n (xs ++ c ∷ []) ≡ 10 * spelled_on n xs + (c - 48)
spelled_behind n [] c = refl
spelled_behind n (b ∷ xs) c = spelled_behind (10 * n + (b - 48)) xs c

-- so many digits at the start of a text spell this number
pub record AreDigits (text : List ℕ) (k n : ℕ) : Type 0 where
  pub digits : all_of is_digit (take k text) ≡ true
  pub spelled : spelled_on 0 (take k text) ≡ n
  pub high : n < 10 ^ k
  pub low : 1 ≤ n
  pub first : get_or text 0 0 ≢ 48

pub first_digit : (text : List ℕ) → 0 < length text → 49 ≤ get_or text 0 0 → get_or text 0 0 ≤ 57 → AreDigits text 1 (get_or text 0 0 - 48)
first_digit [] some low high = absurd (omega arith)
first_digit (c ∷ rest) some low high =
    let digit : is_digit c ≡ true = grind (arith, nat_tests) in
    record {
      digits = rw digit refl;
      spelled = omega arith;
      high = omega (arith, high);
      low = omega (arith, low);
      first = λ e. omega (arith, low, e);
    }

pub next_digit : (text : List ℕ) (k n : ℕ) → k < length text → is_digit (get_or text k 0) ≡ true → AreDigits text k n
    → AreDigits text (k + 1) (10 * n + (get_or text k 0 - 48))
next_digit text k n less digit h =
    let more = take_more text k 0 less in
    let small : get_or text k 0 ≤ 57 = grind (arith, nat_tests) in
    let power : 10 ^ (k + 1) ≡ 10 * 10 ^ k = ap (λ j. 10 ^ j) (add-one k) ∙ pow-succ' 10 k in
    record {
      digits = ap (all_of is_digit) more ∙ all_behind (take k text) (get_or text k 0) h.digits digit;
      spelled = ap (spelled_on 0) more ∙ (spelled_behind 0 (take k text) (get_or text k 0) ∙ ap (λ m. 10 * m + (get_or text k 0 - 48)) h.spelled);
      high = omega (arith, power, small, h.high);
      low = omega (arith, h.low);
      first = h.first;
    }

pub count_reported : (text : List ℕ) (k n : ℕ) → 1 ≤ k → k ≤ 7 → k < length text → get_or text k 0 ≡ 10 → AreDigits text k n
    → IsCountAhead text n (drop (k + 1) text)
count_reported text k n some few less at h =
    let long = length-take-le k text (omega (arith, less)) in
    let prefix : get_or (take k text) 0 0 ≡ get_or text 0 0 = get_or-take k text 0 0 (omega (arith, some)) in
    record {
      digits = take k text;
      is = prefix_and_rest text k less ∙ ap (λ c. take k text ++ c ∷ drop (k + 1) text) at;
      are = h.digits;
      spells = turn_count-some (take k text) n (omega (arith, long, some)) (omega (arith, long, few)) (λ e. h.first (sym prefix ∙ e)) h.digits h.spelled h.low
          (subst (λ j. n < 10 ^ j) (sym long) h.high);
    }
