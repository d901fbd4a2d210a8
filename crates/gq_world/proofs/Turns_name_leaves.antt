-- What the lines of a text give is for leaves that are there, and they are few.
use Rattle.std.proofs.Common.{◌≡◌, ℕ, suc, ◌+◌, ◌<◌, ◌^◌, ◌==◌, nat_le, Bool, true, false, cond, List, [], ◌∷◌, length, Option, Some, None, IfSome, Ok}
use Rattle.std.proofs.Common.{Err, refl, ap, sym, subst, arith, ◌≤◌}
use Rattle.gq_model.specs.declared.fault.TurnFault.{TurnFault}
use Rattle.gq_model.specs.declared.fault.TurnFault.TheVariants.{TooMany, BadLine, InputTooLarge, NoSignal}
use Rattle.gq_model.specs.machine.Program.{text_eq}
use Rattle.gq_model.specs.texts.Letters.{is_name, number_in, pieces, lines, onto_first, without_returns}
use Rattle.gq_model.specs.machine.Routes.{numbered}
use Rattle.gq_model.specs.machine.Scenario.{Scenario, Component, components}
use Rattle.gq_model.specs.declared.act.Act.TheVariants.{Sets, Submits}
use Rattle.gq_model.specs.declared.act.TurnLine.{TurnLine}
use Rattle.gq_model.specs.declared.act.TurnLine.TheVariants.{Gives, Rests}
use Rattle.gq_model.specs.texts.Operands.{greatest_number}
use Rattle.gq_model.specs.texts.Turns.{Given, Listed, turn_count, turn_of, input_in, setting_within, inputs_at, setting_at, setting_of, has_inputs, turn_in}
use Rattle.gq_model.specs.texts.Turns.{after_line, has_signals, line_onto, line_turns, lines_from, listed, says_nothing, signal_at}
use Rattle.gq_model.specs.texts.Turns.{signal_in, signal_of, signals_at}
use Rattle.gq_model.specs.texts.Turns.{word_of}
use Rattle.gq_model.specs.machine.Rest.{greatest_turns}
use Rattle.std.specs.Prelude.{slice_get, nat_lt, if◌then◌else◌, ◌&&◌, codes}
use Rattle.std.proofs.lemmas.Bool.Decides.{nat_tests}
use Rattle.gq_init.specs.Turn_items.{IsOf}
use Rattle.gq_world.specs.World_between_turns.{AreOf, greatest_lines}

abbrev IsBelow : ℕ → Given → Type 0
IsBelow n (Ok line) = IsOf n line
IsBelow n (Err fault) = Unit {0}

abbrev pub AreOfIn : ℕ → Listed → Type 0
AreOfIn n (Ok lines) = AreOf n lines
AreOfIn n (Err fault) = Unit {0}

abbrev pub IsPlaceBelow : ℕ → Option ℕ → Type 0
IsPlaceBelow n o = IfSome o (λ p. p < n)

place_later : (o : Option ℕ) (x n : ℕ) → IsPlaceBelow (suc x + n) o → IsPlaceBelow (x + suc n) o
place_later None x n h = h
place_later (Some p) x n h = omega (arith, h)

place_by : (b : Bool) (x n : ℕ) (o : Option ℕ) → IsPlaceBelow (x + suc n) o → IsPlaceBelow (x + suc n) (cond b (Some x) o)
place_by true x n o h = omega arith
place_by false x n o h = h

numbered_below : (x : ℕ) (name : List ℕ) (all : List Component) → IsPlaceBelow (x + length all) (numbered x name all)
numbered_below x name [] = tt
numbered_below x name (c ∷ rest) =
    place_by (text_eq name c.node.name) x (length rest) (numbered (suc x) name rest)
    (place_later (numbered (suc x) name rest) x (length rest) (numbered_below (suc x) name rest))

-- the leaf of a name is there
pub all_below : (name : List ℕ) (all : List Component) → IsPlaceBelow (length all) (numbered 0 name all)
all_below name all =
    let e : 0 + length all ≡ length all = omega arith in subst (λ n. IsPlaceBelow n (numbered 0 name all)) e (numbered_below 0 name all)

turn_below : (n : ℕ) (x count : Option ℕ) → IsPlaceBelow n x → IsBelow n (turn_of x count)
turn_below n x None h = tt
turn_below n None (Some m) h = tt
turn_below n (Some x) (Some m) h = h

named_below : (b : Bool) (n : ℕ) (turn fault : Given) → IsBelow n turn → IsBelow n fault → IsBelow n (cond b turn fault)
named_below true n turn fault h f = h
named_below false n turn fault h f = f

within_below : (m : ℕ) (greatest : Option ℕ) (x i n : ℕ) → x < m → IsBelow m (setting_within greatest x i n)
within_below m None x i n less = tt
within_below m (Some g) x i n less = named_below (nat_le n g) m (Ok (Gives x (Sets i n))) (Err InputTooLarge) less tt

at_below : (all : List Component) (x : Option ℕ) (i n : ℕ) → IsPlaceBelow (length all) x → IsBelow (length all) (setting_at all x i n)
at_below all None i n h = tt
at_below all (Some x) i n h = within_below (length all) (slice_get (inputs_at (slice_get all x)) i) x i n h

setting_below : (all : List Component) (input : Option (List ℕ × ℕ)) (n : Option ℕ) → IsBelow (length all) (setting_of all input n)
setting_below all None n = tt
setting_below all (Some p) None = tt
setting_below all (Some p) (Some n) = at_below all (numbered 0 p.0 all) p.1 n (all_below p.0 all)

signal_within : (m x i n : ℕ) → x < m → IsBelow m (if nat_lt i n then Ok (Gives x (Submits i)) else Err NoSignal)
signal_within m x i n less = named_below (nat_lt i n) m (Ok (Gives x (Submits i))) (Err NoSignal) less tt

signal_below : (all : List Component) (x : Option ℕ) (i : ℕ) → IsPlaceBelow (length all) x → IsBelow (length all) (signal_at all x i)
signal_below all None i h = tt
signal_below all (Some x) i h = signal_within (length all) x i (signals_at (slice_get all x)) h

of_below : (all : List Component) (signal : Option (List ℕ × ℕ)) → IsBelow (length all) (signal_of all signal)
of_below all None = tt
of_below all (Some p) = signal_below all (numbered 0 p.0 all) p.1 (all_below p.0 all)

word_below : (all : List Component) (word : List ℕ) → IsBelow (length all) (word_of all word)
word_below all word =
    named_below (text_eq word (codes "rest")) (length all) (Ok Rests) (signal_of all (signal_in (pieces (λ c. c == 33) word))) tt
    (of_below all (signal_in (pieces (λ c. c == 33) word)))

in_below : (version : ℕ) (all : List Component) (parts : List (List ℕ)) → IsBelow (length all) (turn_in version all parts)
in_below version all [] = tt
in_below version all (word ∷ []) = named_below (has_signals version) (length all) (word_of all word) (Err BadLine) (word_below all word) tt
in_below version all (input ∷ sign ∷ number ∷ []) =
    named_below (has_inputs version && text_eq sign (codes "=")) (length all)
    (setting_of all (input_in (pieces (λ c. c == 46) input)) (number_in 10 0 greatest_number number)) (Err BadLine)
    (setting_below all (input_in (pieces (λ c. c == 46) input)) (number_in 10 0 greatest_number number)) tt
in_below version all (name ∷ count ∷ []) = named_below (is_name name) (length all) (turn_of (numbered 0 name all) (turn_count count)) (Err BadLine)
    (turn_below (length all) (numbered 0 name all) (turn_count count) (all_below name all)) tt
in_below version all (name ∷ sign ∷ number ∷ more ∷ rest) = tt

onto_below : (n : ℕ) (line : TurnLine) (rest : Listed) → IsOf n line → AreOfIn n rest → AreOfIn n (line_onto line rest)
onto_below n line (Ok lines) h r = (h, r)
onto_below n line (Err fault) h r = tt

limit_below : (b : Bool) (n : ℕ) (answer : Listed) (fault : TurnFault × ℕ) → AreOfIn n answer → AreOfIn n (cond b answer (Err fault))
limit_below true n answer fault h = h
limit_below false n answer fault h = tt

after_below : (n : ℕ) (b : Bool) (turn : Given) (k m : ℕ) (go : ℕ → Listed) → IsBelow n turn → ((m : ℕ) → AreOfIn n (go m))
    → AreOfIn n (after_line b turn k m go)
after_below n true turn k m go h g = g m
after_below n false (Err fault) k m go h g = tt
after_below n false (Ok turn) k m go h g =
    let more = m + line_turns turn in
    limit_below (nat_le more greatest_turns) n (line_onto turn (go more)) (TooMany, k) (onto_below n turn (go more) h (g more))

from_below : (version : ℕ) (all : List Component) (k n : ℕ) (text : List (List ℕ)) → AreOfIn (length all) (lines_from version all k n text)
from_below version all k n [] = tt
from_below version all k n (line ∷ rest) =
    after_below (length all) (says_nothing line) (turn_in version all (pieces (λ c. c == 32) line)) k n (λ m. lines_from version all (suc k) m rest)
    (in_below version all (pieces (λ c. c == 32) line)) (λ m. from_below version all (suc k) m rest)

pub listed_of : (s : Scenario) (text : List ℕ) → AreOfIn (length (components s)) (listed s text)
listed_of s text =
    limit_below (nat_le (length text) (2 ^ 24)) (length (components s)) (lines_from s.version (components s) 1 0 (lines text)) (TooMany, 0)
    (from_below s.version (components s) 1 0 (lines text))

-- so is one that was found
pub leaf_there : (all : List Component) (name : List ℕ) (found : Option ℕ) → found ≡ numbered 0 name all → IfSome found (λ p. p < length all)
leaf_there all name found e = subst (λ o. IfSome o (λ p. p < length all)) (sym e) (all_below name all)

-- HOW MANY

abbrev pub AreFewIn : ℕ → Listed → Type 0
AreFewIn n (Ok lines) = length lines ≤ n
AreFewIn n (Err fault) = Unit {0}

few_more : (n : ℕ) (l : Listed) → AreFewIn n l → AreFewIn (suc n) l
few_more n (Ok lines) h = omega (arith, h)
few_more n (Err fault) h = tt

onto_few : (n : ℕ) (line : TurnLine) (l : Listed) → AreFewIn n l → AreFewIn (suc n) (line_onto line l)
onto_few n line (Ok lines) h = omega (arith, h)
onto_few n line (Err fault) h = tt

limit_few : (b : Bool) (n : ℕ) (l : Listed) (fault : TurnFault × ℕ) → AreFewIn n l → AreFewIn n (cond b l (Err fault))
limit_few true n l fault h = h
limit_few false n l fault h = tt

after_few : (n : ℕ) (b : Bool) (given : Given) (k m : ℕ) (go : ℕ → Listed) → ((m : ℕ) → AreFewIn n (go m)) → AreFewIn (suc n) (after_line b given k m go)
after_few n true given k m go g = few_more n (go m) (g m)
after_few n false (Err fault) k m go g = tt
after_few n false (Ok line) k m go g =
    let more = m + line_turns line in
    limit_few (nat_le more greatest_turns) (suc n) (line_onto line (go more)) (TooMany, k) (onto_few n line (go more) (g more))

from_few : (version : ℕ) (all : List Component) (k n : ℕ) (text : List (List ℕ)) → AreFewIn (length text) (lines_from version all k n text)
from_few version all k n [] = omega arith
from_few version all k n (line ∷ rest) =
    after_few (length rest) (says_nothing line) (turn_in version all (pieces (λ c. c == 32) line)) k n (λ m. lines_from version all (suc k) m rest)
    (λ m. from_few version all (suc k) m rest)

onto_first_count : (c : ℕ) (xs : List (List ℕ)) → length (onto_first c xs) ≤ suc (length xs)
onto_first_count c [] = omega arith
onto_first_count c (x ∷ xs) = omega arith

pieces_by : (b : Bool) (c n : ℕ) (xs : List (List ℕ)) → length xs ≤ n → length (cond b ([] ∷ xs) (onto_first c xs)) ≤ suc n
pieces_by true c n xs h = omega (arith, h)
pieces_by false c n xs h = let first = onto_first_count c xs in omega (arith, h, first)

pieces_few : (text : List ℕ) → length (pieces (λ c. c == 10) text) ≤ suc (length text)
pieces_few [] = omega arith
pieces_few (c ∷ text) = pieces_by (c == 10) c (suc (length text)) (pieces (λ d. d == 10) text) (pieces_few text)

returns_count : (xs : List (List ℕ)) → length (without_returns xs) ≡ length xs
returns_count [] = refl
returns_count (x ∷ []) = refl
returns_count (x ∷ y ∷ xs) = ap suc (returns_count (y ∷ xs))

pub lines_few : (text : List ℕ) → length (lines text) ≤ suc (length text)
lines_few text = let few = pieces_few text in let same = returns_count (pieces (λ c. c == 10) text) in omega (arith, few, same)

few_by : (b : Bool) (n m k : ℕ) (l : Listed) (fault : TurnFault × ℕ) → (b ≡ true → m ≤ k) → n ≤ suc m → AreFewIn n l
    → AreFewIn (suc k) (cond b l (Err fault))
few_by true n m k (Ok ls) fault small few h = let least = small refl in omega (arith, h, few, least)
few_by true n m k (Err e) fault small few h = tt
few_by false n m k l fault small few h = tt

-- no list of turns has more lines
pub listed_few : (s : Scenario) (text : List ℕ) → AreFewIn greatest_lines (listed s text)
unfolding greatest_lines
listed_few s text =
    few_by (nat_le (length text) (2 ^ 24)) (length (lines text)) (length text) 16777216 (lines_from s.version (components s) 1 0 (lines text)) (TooMany, 0)
    (λ e. within (length text) e) (lines_few text) (from_few s.version (components s) 1 0 (lines text))
  where
    within : (n : ℕ) → nat_le n (2 ^ 24) ≡ true → n ≤ 16777216
    within n e = grind (arith, nat_tests, e)
