-- The text of a list of turns and signals is read back as these.
use Rattle.std.proofs.Common.{◌≡◌, ◌∙◌, ℕ, suc, ◌+◌, ◌<◌, ◌≤◌, ◌^◌, Bool, true, false, List, [], ◌∷◌, ◌++◌, length, Some, None, Ok, Err}
use Rattle.std.proofs.Common.{refl, ap, ap₂, sym, arith, map, true≢false}
use Rattle.std.specs.Prelude.{nat_le, nat_lt, ◌==◌, if◌then◌else◌, codes, decimal, slice_get, sum_by}
use Rattle.std.proofs.lemmas.Bool.{and_from, and_parts, le-leb}
use Rattle.std.proofs.lemmas.Bool.Decides.{nat_tests}
use Rattle.std.proofs.lemmas.List.Sums.{sum_by-cons}
use Rattle.gq_model.specs.machine.Lists.{all_of, between}
use Rattle.gq_model.specs.declared.act.Act.TheVariants.{Turns, Sets, Submits}
use Rattle.gq_model.specs.machine.Program.{text_eq}
use Rattle.gq_model.specs.machine.Scenario.{Scenario, Component, System, components, system}
use Rattle.gq_model.specs.machine.Routes.{numbered}
use Rattle.gq_model.specs.declared.fault.TurnFault.TheVariants.{BadLine, NoSignal, TooMany}
use Rattle.gq_model.specs.texts.Letters.{is_digit, is_name, is_name_byte, lines, pieces, number_in}
use Rattle.gq_model.specs.declared.act.TurnLine.{TurnLine}
use Rattle.gq_model.specs.declared.act.TurnLine.TheVariants.{Gives, Rests}
use Rattle.gq_model.specs.texts.Turns.{Given, Listed, acts_from, acts_of, after_line, has_signals, input_of, line_onto, line_turns, lines_from, says_nothing}
use Rattle.gq_model.specs.texts.Turns.{signal_at, signal_in, signal_of, signals_at, turn_count, turn_in, turn_of, turned, word_of}
use Rattle.gq_model.specs.machine.Run.{Ran, act_on, begun}
use Rattle.gq_model.specs.machine.Rest.{greatest_turns}
use Rattle.gq_model.proofs.Small_facts.{text_is}
use Rattle.gq_views.specs.Listing.{joined}
use Rattle.gq_traces.specs.Schedule.{acts_given, cut_lines, given_line, listed_turns, name_at, schedule_lines}
use Rattle.gq_views.proofs.Listed_numbers.{all_append, decimal_is_printed, decimal_short, number_read}
use Rattle.gq_views.proofs.Listed_lines.{AllPrinted, decimal_solid, is_printed, is_solid, lines_joined, name_solid, none_from, pieces_prefix, pieces_last}
use Rattle.gq_views.proofs.Listed_lines.{solid_printed}

-- a leaf's name is one, and the leaf is found by it
pub record IsCalled (components : List Component) (x : ℕ) : Type 0 where
  pub name : List ℕ
  pub there : name_at (slice_get components x) ≡ name
  pub is_name : is_name name ≡ true
  pub found : numbered 0 name components ≡ Some x

abbrev pub AreTurns : List Component → List (ℕ × ℕ) → Type 0
AreTurns components [] = Unit {0}
AreTurns components (t ∷ ts) = IsCalled components t.0 × (1 ≤ t.1) × AreTurns components ts

abbrev pub all_turns : List (ℕ × ℕ) → ℕ
all_turns = sum_by (λ (t : ℕ × ℕ). t.1)

-- a turn at least, or a signal that the leaf has
abbrev pub IsGiven : ℕ → List Component → TurnLine → Type 0
IsGiven version components (Gives x (Turns n)) = IsCalled components x × (1 ≤ n)
IsGiven version components (Gives x (Sets i n)) = ⊥
IsGiven version components (Gives x (Submits i)) = IsCalled components x × (has_signals version ≡ true) × (i < signals_at (slice_get components x)) × (i ≤ 2)
IsGiven version components Rests = ⊥

abbrev pub AreGiven : ℕ → List Component → List TurnLine → Type 0
AreGiven version components [] = Unit {0}
AreGiven version components (line ∷ lines) = IsGiven version components line × AreGiven version components lines

-- TURNS

count_back : (n : ℕ) → 1 ≤ n → n ≤ greatest_turns → turn_count (decimal n) ≡ Some n
count_back n some few =
    ap (λ (b : Bool). if b then number_in 7 1 9999999 (decimal n) else None) (decimal_short n (omega (arith, few)))
    ∙ number_read 7 1 9999999 n (omega arith) (omega (arith, few)) (omega (arith, few))
    (and_from (nat_le 1 n) (nat_le n 9999999) (le-leb 1 n some) (le-leb n 9999999 (omega (arith, few))))

line_pieces : (name : List ℕ) (n : ℕ) → is_name name ≡ true → n ≤ greatest_turns → pieces (λ c. c == 32) (name ++ 32 ∷ decimal n) ≡ name ∷ decimal n ∷ []
line_pieces name n h few =
    let t = and_parts (between 1 16 (length name)) (all_of is_name_byte name) h in
    pieces_prefix (λ c. c == 32) 32 refl name (decimal n) (none_from is_solid (λ c. c == 32) (λ c p. grind (arith, nat_tests)) name (name_solid name t.1))
    ∙ ap (λ (ps : List (List ℕ)). name ∷ ps)
    (pieces_last (λ c. c == 32) (decimal n) (none_from is_solid (λ c. c == 32) (λ c p. grind (arith, nat_tests)) (decimal n) (decimal_solid n (omega
    (arith, few)))))

turn_back : (version : ℕ) (components : List Component) (name : List ℕ) (x n : ℕ) → is_name name ≡ true → numbered 0 name components ≡ Some x → 1 ≤ n
    → n ≤ greatest_turns → turn_in version components (pieces (λ c. c == 32) (name ++ 32 ∷ decimal n)) ≡ Ok (Gives x (Turns n))
turn_back version components name x n h found some few =
    ap (turn_in version components) (line_pieces name n h few)
    ∙ ap (λ (b : Bool). if b then turn_of (numbered 0 name components) (turn_count (decimal n)) else Err BadLine) h
    ∙ ap₂ turn_of found (count_back n some few)

no_comment : (name x : List ℕ) → is_name name ≡ true → says_nothing (name ++ x) ≡ false
no_comment [] x h = absurd (true≢false (sym h))
no_comment (c ∷ rest) x h =
    let t = and_parts (between 1 16 (length (c ∷ rest))) (all_of is_name_byte (c ∷ rest)) h in
    let u = and_parts (is_name_byte c) (all_of is_name_byte rest) t.1 in by u.0
  where
    by : is_name_byte c ≡ true → (c == 35) ≡ false
    by p = grind (arith, nat_tests)

-- SIGNALS

digit_of : (i : ℕ) → i ≤ 2 → number_in 1 0 2 (decimal i) ≡ Some i
digit_of i few =
    number_read 1 0 2 i (omega arith) (omega (arith, few)) (omega (arith, few)) (and_from (nat_le 0 i) (nat_le i 2) (le-leb 0 i (omega arith)) (le-leb i 2 few))

-- it is one word
word_pieces : (name : List ℕ) (i : ℕ) → is_name name ≡ true → i ≤ 2 → pieces (λ c. c == 32) (name ++ 33 ∷ decimal i) ≡ (name ++ 33 ∷ decimal i) ∷ []
word_pieces name i h few =
    let t = and_parts (between 1 16 (length name)) (all_of is_name_byte name) h in
    pieces_last (λ c. c == 32) (name ++ 33 ∷ decimal i)
    (none_from is_solid (λ c. c == 32) (λ c p. grind (arith, nat_tests)) (name ++ 33 ∷ decimal i)
    (all_append is_solid name (33 ∷ decimal i) (name_solid name t.1) (decimal_solid i (omega (arith, few)))))

signal_pieces : (name : List ℕ) (i : ℕ) → is_name name ≡ true → i ≤ 2 → pieces (λ c. c == 33) (name ++ 33 ∷ decimal i) ≡ name ∷ decimal i ∷ []
signal_pieces name i h few =
    let t = and_parts (between 1 16 (length name)) (all_of is_name_byte name) h in
    pieces_prefix (λ c. c == 33) 33 refl name (decimal i) (none_from is_name_byte (λ c. c == 33) (λ c p. grind (arith, nat_tests)) name t.1)
    ∙ ap (λ (ps : List (List ℕ)). name ∷ ps)
    (pieces_last (λ c. c == 33) (decimal i) (none_from is_digit (λ c. c == 33) (λ c p. grind (arith, nat_tests)) (decimal i)
    (decimal_is_printed i (omega (arith, few))).digits))

-- that is not the word for a way to rest
not_rest : (name : List ℕ) (i : ℕ) → is_name name ≡ true → i ≤ 2 → text_eq (name ++ 33 ∷ decimal i) (codes "rest") ≡ false
not_rest name i h few = by (text_eq (name ++ 33 ∷ decimal i) (codes "rest")) refl
  where
    two_one : {A : Type 0} {a b c : A} → ◌≡◌ {A = List A} (a ∷ b ∷ []) (c ∷ []) → ⊥
    two_one e = let long = ap length e in omega (arith, long)

    by : (b : Bool) → text_eq (name ++ 33 ∷ decimal i) (codes "rest") ≡ b → b ≡ false
    by false e = refl
    by true e =
        absurd (two_one (sym (signal_pieces name i h few)
        ∙ ap (pieces (λ c. c == 33)) (text_is (name ++ 33 ∷ decimal i) (codes "rest") e)))

within : (i n : ℕ) → i < n → nat_lt i n ≡ true
within i n less = grind (arith, nat_tests, less)

signal_back : (version : ℕ) (components : List Component) (name : List ℕ) (x i : ℕ) → is_name name ≡ true → numbered 0 name components ≡ Some x
    → has_signals version ≡ true → i < signals_at (slice_get components x) → i ≤ 2
    → turn_in version components (pieces (λ c. c == 32) (name ++ 33 ∷ decimal i)) ≡ Ok (Gives x (Submits i))
signal_back version components name x i h found has there few =
    ap (turn_in version components) (word_pieces name i h few)
    ∙ (ap (λ (b : Bool). if b then word_of components (name ++ 33 ∷ decimal i) else Err BadLine) has
    ∙ (ap (λ (b : Bool). if b then Ok Rests else signal_of components (signal_in (pieces (λ c. c == 33) (name ++ 33 ∷ decimal i)))) (not_rest name i h few)
    ∙ (ap (λ (ps : List (List ℕ)). signal_of components (signal_in ps)) (signal_pieces name i h few)
    ∙ (ap (λ o. signal_of components (input_of name o)) (digit_of i few)
    ∙ (ap (λ (b : Bool). signal_of components (if b then Some (name, i) else None)) h
    ∙ (ap (λ o. signal_at components o i) found
    ∙ ap (λ (b : Bool). if b then Ok (Gives x (Submits i)) else Err NoSignal) (within i (signals_at (slice_get components x)) there)))))))

-- A LINE, AND ALL LINES

-- they give themselves
pub lines_give : (system : System) (version : ℕ) (components : List Component) (lines : List TurnLine) (ran : Ran) → AreGiven version components lines
    → acts_from system ran lines ≡ acts_given lines
lines_give system version components [] ran h = refl
lines_give system version components (Gives x act ∷ lines) ran h =
    ap (λ l. (x, act) ∷ l) (lines_give system version components lines (act_on system x act ran) h.1)
lines_give system version components (Rests ∷ lines) ran h = absurd h.0

-- a line that gives this, then further ones
onto_back : (version : ℕ) (components : List Component) (k m : ℕ) (line : TurnLine) (go : ℕ → Listed) (lines : List TurnLine)
    → IsGiven version components line → m + line_turns line ≤ greatest_turns → go (m + line_turns line) ≡ Ok lines
    → after_line (says_nothing (given_line components line)) (turn_in version components (pieces (λ c. c == 32) (given_line components line))) k m go
    ≡ Ok (line ∷ lines)
onto_back version components k m (Gives x (Turns n)) go lines given few more =
    let called = given.0 in
    let line : given_line components (Gives x (Turns n)) ≡ called.name ++ 32 ∷ decimal n = ap (λ (l : List ℕ). l ++ 32 ∷ decimal n) called.there in
    ap₂ (λ (b : Bool) (r : Given). after_line b r k m go)
    (ap says_nothing line ∙ no_comment called.name (32 ∷ decimal n) called.is_name)
    (ap (λ (l : List ℕ). turn_in version components (pieces (λ c. c == 32) l)) line
    ∙ turn_back version components called.name x n called.is_name called.found given.1 (omega (arith, few)))
    ∙ (ap (λ (b : Bool). if b then line_onto (Gives x (Turns n)) (go (m + n)) else Err (TooMany, k)) (le-leb (m + n) greatest_turns few)
    ∙ ap (line_onto (Gives x (Turns n))) more)
onto_back version components k m (Gives x (Sets i n)) go lines given few more = absurd given
onto_back version components k m (Gives x (Submits i)) go lines given few more =
    let called = given.0 in
    let line : given_line components (Gives x (Submits i)) ≡ called.name ++ 33 ∷ decimal i = ap (λ (l : List ℕ). l ++ 33 ∷ decimal i) called.there in
    ap₂ (λ (b : Bool) (r : Given). after_line b r k m go)
    (ap says_nothing line ∙ no_comment called.name (33 ∷ decimal i) called.is_name)
    (ap (λ (l : List ℕ). turn_in version components (pieces (λ c. c == 32) l)) line
    ∙ signal_back version components called.name x i called.is_name called.found given.1 given.2 given.3)
    ∙ (ap (λ (b : Bool). if b then line_onto (Gives x (Submits i)) (go (m + 0)) else Err (TooMany, k)) (le-leb (m + 0) greatest_turns few)
    ∙ ap (line_onto (Gives x (Submits i))) more)
onto_back version components k m Rests go lines given few more = absurd given

rest_back : (version : ℕ) (components : List Component) (k m : ℕ) (lines : List TurnLine) (cut : Bool) (n : ℕ) → AreGiven version components lines
    → m + listed_turns lines ≤ greatest_turns
    → lines_from version components k m ((map (given_line components) lines ++ cut_lines cut n) ++ [] ∷ []) ≡ Ok lines
rest_back version components k m [] true n h few = refl
rest_back version components k m [] false n h few = refl
rest_back version components k m (line ∷ lines) cut n h few =
    let sum = sum_by-cons line_turns line lines in
    onto_back version components k m line
    (λ j. lines_from version components (suc k) j ((map (given_line components) lines ++ cut_lines cut n) ++ [] ∷ [])) lines h.0
    (omega (arith, sum, few)) (rest_back version components (suc k) (m + line_turns line) lines cut n h.1 (omega (arith, sum, few)))

line_printed : (version : ℕ) (components : List Component) (line : TurnLine) → IsGiven version components line → line_turns line ≤ greatest_turns
    → all_of is_printed (given_line components line) ≡ true
line_printed version components (Gives x (Turns n)) given few =
    let called = given.0 in
    let u = and_parts (between 1 16 (length called.name)) (all_of is_name_byte called.name) called.is_name in
    ap (λ (l : List ℕ). all_of is_printed (l ++ 32 ∷ decimal n)) called.there
    ∙ all_append is_printed called.name (32 ∷ decimal n) (solid_printed called.name (name_solid called.name u.1))
    (solid_printed (decimal n) (decimal_solid n (omega (arith, few))))
line_printed version components (Gives x (Sets i n)) given few = absurd given
line_printed version components (Gives x (Submits i)) given few =
    let called = given.0 in
    let u = and_parts (between 1 16 (length called.name)) (all_of is_name_byte called.name) called.is_name in
    let least = given.3 in
    ap (λ (l : List ℕ). all_of is_printed (l ++ 33 ∷ decimal i)) called.there
    ∙ all_append is_printed called.name (33 ∷ decimal i) (solid_printed called.name (name_solid called.name u.1))
    (solid_printed (decimal i) (decimal_solid i (omega (arith, least))))
line_printed version components Rests given few = absurd given

cut_printed : (cut : Bool) (n : ℕ) → n ≤ greatest_turns → AllPrinted (cut_lines cut n)
cut_printed true n few = (
  all_append is_printed (codes "# cut after " ++ decimal n) (codes " turns")
      (all_append is_printed (codes "# cut after ") (decimal n) refl (solid_printed (decimal n) (decimal_solid n (omega (arith, few))))) refl,
  tt,
)
cut_printed false n few = tt

all_printed : (version : ℕ) (components : List Component) (lines : List TurnLine) (cut : Bool) (n : ℕ) → n ≤ greatest_turns
    → AreGiven version components lines → listed_turns lines ≤ greatest_turns → AllPrinted (map (given_line components) lines ++ cut_lines cut n)
all_printed version components [] cut n most h few = cut_printed cut n most
all_printed version components (line ∷ lines) cut n most h few =
    let sum = sum_by-cons line_turns line lines in (
      line_printed version components line h.0 (omega (arith, sum, few)),
      all_printed version components lines cut n most h.1 (omega (arith, sum, few)),
    )

pub read_back : (s : Scenario) (given : List TurnLine) (cut : Bool) → AreGiven s.version (components s) given → listed_turns given ≤ greatest_turns
    → length (joined (schedule_lines (components s) given cut)) ≤ 2 ^ 24
    → turned s (joined (schedule_lines (components s) given cut)) ≡ Ok (acts_given given)
read_back s given cut h few short =
    let all = components s in
    let written = schedule_lines all given cut in
    let text = joined written in
    ap (acts_of (system s))
    (ap (λ (b : Bool). if b then lines_from s.version all 1 0 (lines text) else Err (TooMany, 0)) (le-leb (length text) (2 ^ 24) short)
    ∙ ap (lines_from s.version all 1 0) (lines_joined written (all_printed s.version all given cut (listed_turns given) few h few))
    ∙ rest_back s.version all 1 0 given cut (listed_turns given) h (omega (arith, few)))
    ∙ ap (λ acts. Ok acts) (lines_give (system s) s.version all given (begun (system s)) h)
