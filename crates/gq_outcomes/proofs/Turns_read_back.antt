-- The text of turns is read back as these turns, and how long it is.
use Rattle.std.proofs.Common.{◌≡◌, ◌∙◌, ℕ, zero, suc, ◌+◌, ◌*◌, ◌<◌, ◌≤◌, ◌^◌, Bool, true, false, List, [], ◌∷◌, ◌++◌, length, map, Some, None, Ok, Err}
use Rattle.std.proofs.Common.{refl, ap, ap₂, sym, subst, arith, true≢false, length-append}
use Rattle.std.specs.Prelude.{nat_le, nat_lt, ◌==◌, ◌&&◌, if◌then◌else◌, decimal, reverse, slice_get, sum_by}
use Rattle.std.proofs.lemmas.Bool.{and_from, and_parts, le-leb, leb-true}
use Rattle.std.proofs.lemmas.Bool.Decides.{nat_tests}
use Rattle.std.proofs.lemmas.Fmt.{length-decimal-le}
use Rattle.std.proofs.lemmas.List.{reverse-append}
use Rattle.std.proofs.lemmas.List.Sums.{sum_by-append, sum_by-cons}
use Rattle.gq_model.specs.machine.Lists.{all_of, between}
use Rattle.gq_model.specs.declared.act.Act.TheVariants.{Turns}
use Rattle.gq_model.specs.machine.Run.{Ran, begun, run_on}
use Rattle.gq_model.specs.machine.Scenario.{Scenario, Component, System, components, system}
use Rattle.gq_model.specs.machine.Program.{text_eq}
use Rattle.gq_model.specs.machine.Routes.{numbered}
use Rattle.gq_model.specs.declared.fault.TurnFault.TheVariants.{BadLine, TooMany}
use Rattle.gq_model.specs.texts.Letters.{is_name, is_name_byte, lines, pieces, number_in}
use Rattle.gq_model.specs.declared.act.TurnLine.{TurnLine}
use Rattle.gq_model.specs.declared.act.TurnLine.TheVariants.{Gives}
use Rattle.gq_model.specs.texts.Turns.{Given, Listed, acts_from, acts_of, after_line, line_onto, lines_from, listed, says_nothing, turn_count, turn_in}
use Rattle.gq_model.specs.texts.Turns.{turn_of, turned}
use Rattle.gq_model.specs.machine.Rest.{greatest_turns}
use Rattle.gq_model.proofs.Small_facts.{text_is, text_self}
use Rattle.gq_laws.specs.Names.{NamesDiffer}
use Rattle.gq_laws.specs.Shapes.{Each}
use Rattle.gq_views.specs.Listing.{joined}
use Rattle.gq_views.proofs.Listed_numbers.{all_append, decimal_short, number_read}
use Rattle.gq_views.proofs.Listed_lines.{AllPrinted, decimal_solid, is_printed, is_solid, lines_joined, name_solid, none_from, pieces_prefix, pieces_last}
use Rattle.gq_views.proofs.Listed_lines.{solid_printed}
use Rattle.gq_outcomes.specs.Laws.{turns_alone}
use Rattle.gq_outcomes.specs.Text.{greatest_row, name_at, onto_row, row_line, rows_back, rows_of}

-- NAMES

-- a leaf's name is one, and the leaf is found by it
pub record IsCalled (components : List Component) (x : ℕ) : Type 0 where
  pub name : List ℕ
  pub there : name_at (slice_get components x) ≡ name
  pub is_name : is_name name ≡ true
  pub found : numbered 0 name components ≡ Some x

numbered_at : (cs : List Component) (k x : ℕ) (c : Component) → slice_get cs x ≡ Some c
    → ((y : ℕ) (d : Component) → slice_get cs y ≡ Some d → c.node.name ≡ d.node.name → y ≡ x) → numbered k c.node.name cs ≡ Some (k + x)
numbered_at [] k x c e differ = absurd cc
numbered_at (d ∷ cs) k zero c e differ =
    let same : d ≡ c = cc in
    ap (λ (b : Bool). if b then Some k else numbered (suc k) c.node.name cs)
    (ap (λ (a : Component). text_eq c.node.name a.node.name) same ∙ text_self c.node.name)
    ∙ ap Some (omega arith)
numbered_at (d ∷ cs) k (suc x) c e differ =
    by (text_eq c.node.name d.node.name) refl
    (numbered_at cs (suc k) x c e (λ y a f same. let n = differ (suc y) a f same in omega (arith, n)))
  where
    by : (b : Bool) → text_eq c.node.name d.node.name ≡ b → numbered (suc k) c.node.name cs ≡ Some (suc k + x)
        → (if b then Some k else numbered (suc k) c.node.name cs) ≡ Some (k + suc x)
    by true same later = let n = differ 0 d refl (text_is c.node.name d.node.name same) in absurd (omega (arith, n))
    by false other later = later ∙ ap Some (omega arith)

pub called : (s : Scenario) → NamesDiffer s → (x : ℕ) (c : Component) → slice_get (components s) x ≡ Some c → is_name c.node.name ≡ true
    → IsCalled (components s) x
called s differ x c e named =
    record {
      name = c.node.name;
      there = ap name_at e;
      is_name = named;
      found = numbered_at (components s) 0 x c e (λ y d f same. differ y x d c f e (sym same)) ∙ ap Some (omega arith);
    }

-- ROWS

-- each row is of some turns of a leaf that is called
abbrev pub IsRow : List Component → ℕ × ℕ → Type 0
IsRow components r = IsCalled components r.0 × (1 ≤ r.1)

abbrev pub all_turns : List (ℕ × ℕ) → ℕ
all_turns = sum_by (λ (t : ℕ × ℕ). t.1)

each_append : {A : Type 0} (P : A → Type 0) (xs ys : List A) → Each P xs → Each P ys → Each P (xs ++ ys)
each_append P [] ys h g = g
each_append P (x ∷ xs) ys h g = (h.0, each_append P xs ys h.1 g)

-- the first of a list is the last of its reverse
pub reverse_first : {A : Type 0} (x : A) (xs : List A) → reverse (x ∷ xs) ≡ reverse xs ++ x ∷ []
reverse_first x xs = reverse-append (x ∷ []) xs

each_reverse : {A : Type 0} (P : A → Type 0) (xs : List A) → Each P xs → Each P (reverse xs)
each_reverse P [] h = tt
each_reverse P (x ∷ xs) h = subst (Each P) (sym (reverse_first x xs)) (each_append P (reverse xs) (x ∷ []) (each_reverse P xs h.1) (h.0, tt))

turns_reverse : (rows : List (ℕ × ℕ)) → all_turns (reverse rows) ≡ all_turns rows
turns_reverse [] = refl
turns_reverse (r ∷ rows) =
    omega (
      arith,
      ap all_turns (reverse_first r rows),
      sum_by-append (λ (t : ℕ × ℕ). t.1) (reverse rows) (r ∷ []),
      sum_by-cons (λ (t : ℕ × ℕ). t.1) r [],
      sum_by-cons (λ (t : ℕ × ℕ). t.1) r rows,
      turns_reverse rows,
    )

onto_counts : (x : ℕ) (rows : List (ℕ × ℕ)) → all_turns (onto_row x rows) ≡ suc (all_turns rows)
onto_counts x [] = refl
onto_counts x (r ∷ rows) = by (r.0 == x && nat_lt r.1 greatest_row)
  where
    by : (b : Bool) → all_turns (if b then (x, suc r.1) ∷ rows else (x, 1) ∷ r ∷ rows) ≡ suc (all_turns (r ∷ rows))
    by true = omega (arith, sum_by-cons (λ (t : ℕ × ℕ). t.1) (x, suc r.1) rows, sum_by-cons (λ (t : ℕ × ℕ). t.1) r rows)
    by false = omega (arith, sum_by-cons (λ (t : ℕ × ℕ). t.1) (x, 1) (r ∷ rows))

back_counts : (past : List ℕ) → all_turns (rows_back past) ≡ length past
back_counts [] = refl
back_counts (x ∷ past) = onto_counts x (rows_back past) ∙ ap suc (back_counts past)

-- rows have as many turns as there are
pub rows_count : (past : List ℕ) → all_turns (rows_of past) ≡ length past
rows_count past = turns_reverse (rows_back past) ∙ back_counts past

onto_rows : (cs : List Component) (x : ℕ) (rows : List (ℕ × ℕ)) → IsCalled cs x → Each (IsRow cs) rows → Each (IsRow cs) (onto_row x rows)
onto_rows cs x [] named h = ((named, omega arith), tt)
onto_rows cs x (r ∷ rows) named h = by (r.0 == x && nat_lt r.1 greatest_row)
  where
    by : (b : Bool) → Each (IsRow cs) (if b then (x, suc r.1) ∷ rows else (x, 1) ∷ r ∷ rows)
    by true = ((named, omega arith), h.1)
    by false = ((named, omega arith), h)

back_rows : (cs : List Component) (past : List ℕ) → Each (IsCalled cs) past → Each (IsRow cs) (rows_back past)
back_rows cs [] h = tt
back_rows cs (x ∷ past) h = onto_rows cs x (rows_back past) h.0 (back_rows cs past h.1)

pub rows_are_rows : (cs : List Component) (past : List ℕ) → Each (IsCalled cs) past → Each (IsRow cs) (rows_of past)
rows_are_rows cs past h = each_reverse (IsRow cs) (rows_back past) (back_rows cs past h)

-- LINES

count_back : (n : ℕ) → 1 ≤ n → n ≤ greatest_turns → turn_count (decimal n) ≡ Some n
count_back n some few =
    ap (λ (b : Bool). if b then number_in 7 1 9999999 (decimal n) else None) (decimal_short n (omega (arith, few)))
    ∙ number_read 7 1 9999999 n (omega arith) (omega (arith, few)) (omega (arith, few))
    (and_from (nat_le 1 n) (nat_le n 9999999) (le-leb 1 n some) (le-leb n 9999999 (omega (arith, few))))

line_pieces : (name : List ℕ) (n : ℕ) → is_name name ≡ true → n ≤ greatest_turns → pieces (λ c. c == 32) (name ++ 32 ∷ decimal n) ≡ name ∷ decimal n ∷ []
line_pieces name n h few =
    let t = and_parts (between 1 16 (length name)) (all_of is_name_byte name) h in
    pieces_prefix (λ c. c == 32) 32 refl name (decimal n) (none_from is_solid (λ c. c == 32) (λ c p. grind (arith, nat_tests)) name (name_solid name t.1))
    ∙ ap (λ (ps : List (List ℕ)). name ∷ ps)
    (pieces_last (λ c. c == 32) (decimal n) (none_from is_solid (λ c. c == 32) (λ c p. grind (arith, nat_tests)) (decimal n) (decimal_solid n (omega
    (arith, few)))))

turn_back : (version : ℕ) (components : List Component) (name : List ℕ) (x n : ℕ) → is_name name ≡ true → numbered 0 name components ≡ Some x → 1 ≤ n
    → n ≤ greatest_turns → turn_in version components (pieces (λ c. c == 32) (name ++ 32 ∷ decimal n)) ≡ Ok (Gives x (Turns n))
turn_back version components name x n h found some few =
    ap (turn_in version components) (line_pieces name n h few)
    ∙ ap (λ (b : Bool). if b then turn_of (numbered 0 name components) (turn_count (decimal n)) else Err BadLine) h
    ∙ ap₂ turn_of found (count_back n some few)

no_comment : (name x : List ℕ) → is_name name ≡ true → says_nothing (name ++ x) ≡ false
no_comment [] x h = absurd (true≢false (sym h))
no_comment (c ∷ rest) x h =
    let t = and_parts (between 1 16 (length (c ∷ rest))) (all_of is_name_byte (c ∷ rest)) h in
    let u = and_parts (is_name_byte c) (all_of is_name_byte rest) t.1 in by u.0
  where
    by : is_name_byte c ≡ true → (c == 35) ≡ false
    by p = grind (arith, nat_tests)

-- the lines that give these turns
abbrev lines_of : List (ℕ × ℕ) → List TurnLine
lines_of [] = []
lines_of (t ∷ ts) = Gives t.0 (Turns t.1) ∷ lines_of ts

acts_back : (u : System) (ran : Ran) (ts : List (ℕ × ℕ)) → acts_from u ran (lines_of ts) ≡ turns_alone ts
acts_back u ran [] = refl
acts_back u ran (t ∷ ts) = ap (λ acts. (t.0, Turns t.1) ∷ acts) (acts_back u (run_on u ((t.0, Turns t.1) ∷ []) ran) ts)

-- a line with turns, then further ones
onto_back : (version : ℕ) (components : List Component) (k m : ℕ) (t : ℕ × ℕ) (go : ℕ → Listed) (ts : List (ℕ × ℕ)) → IsCalled components t.0 → 1 ≤ t.1
    → m + t.1 ≤ greatest_turns → go (m + t.1) ≡ Ok (lines_of ts)
    → after_line (says_nothing (row_line components t)) (turn_in version components (pieces (λ c. c == 32) (row_line components t))) k m go
    ≡ Ok (lines_of (t ∷ ts))
onto_back version components k m t go ts called some few more =
    let line : row_line components t ≡ called.name ++ 32 ∷ decimal t.1 = ap (λ (l : List ℕ). l ++ 32 ∷ decimal t.1) called.there in
    ap₂ (λ (b : Bool) (r : Given). after_line b r k m go)
    (ap says_nothing line ∙ no_comment called.name (32 ∷ decimal t.1) called.is_name)
    (ap (λ (l : List ℕ). turn_in version components (pieces (λ c. c == 32) l)) line
    ∙ turn_back version components called.name t.0 t.1 called.is_name called.found some (omega (arith, few)))
    ∙ ap (λ (b : Bool). if b then line_onto (Gives t.0 (Turns t.1)) (go (m + t.1)) else Err (TooMany, k)) (le-leb (m + t.1) greatest_turns few)
    ∙ ap (line_onto (Gives t.0 (Turns t.1))) more

rest_back : (version : ℕ) (components : List Component) (k m : ℕ) (ts : List (ℕ × ℕ)) → Each (IsRow components) ts → m + all_turns ts ≤ greatest_turns
    → lines_from version components k m (map (row_line components) ts ++ [] ∷ []) ≡ Ok (lines_of ts)
rest_back version components k m [] h few = refl
rest_back version components k m (t ∷ ts) h few =
    let sum = sum_by-cons (λ (t : ℕ × ℕ). t.1) t ts in
    onto_back version components k m t (λ j. lines_from version components (suc k) j (map (row_line components) ts ++ [] ∷ [])) ts h.0.0 h.0.1
    (omega (arith, sum, few)) (rest_back version components (suc k) (m + t.1) ts h.1 (omega (arith, sum, few)))

line_printed : (components : List Component) (t : ℕ × ℕ) → IsCalled components t.0 → t.1 ≤ greatest_turns → all_of is_printed (row_line components t) ≡ true
line_printed components t called few =
    let u = and_parts (between 1 16 (length called.name)) (all_of is_name_byte called.name) called.is_name in
    ap (λ (l : List ℕ). all_of is_printed (l ++ 32 ∷ decimal t.1)) called.there
    ∙ all_append is_printed called.name (32 ∷ decimal t.1) (solid_printed called.name (name_solid called.name u.1))
    (solid_printed (decimal t.1) (decimal_solid t.1 (omega (arith, few))))

all_printed : (components : List Component) (ts : List (ℕ × ℕ)) → Each (IsRow components) ts → all_turns ts ≤ greatest_turns
    → AllPrinted (map (row_line components) ts)
all_printed components [] h few = tt
all_printed components (t ∷ ts) h few =
    let sum = sum_by-cons (λ (t : ℕ × ℕ). t.1) t ts in
    (line_printed components t h.0.0 (omega (arith, sum, few)), all_printed components ts h.1 (omega (arith, sum, few)))

-- turns that are no more than a list may have, in a text that is no longer than a list may be
pub read_back : (s : Scenario) (ts : List (ℕ × ℕ)) → Each (IsRow (components s)) ts → all_turns ts ≤ greatest_turns
    → length (joined (map (row_line (components s)) ts)) ≤ 2 ^ 24 → turned s (joined (map (row_line (components s)) ts)) ≡ Ok (turns_alone ts)
read_back s ts h few short =
    let all = components s in
    let text = joined (map (row_line all) ts) in
    let all_listed : listed s text ≡ Ok (lines_of ts) =
    ap (λ (b : Bool). if b then lines_from s.version all 1 0 (lines text) else Err (TooMany, 0)) (le-leb (length text) (2 ^ 24) short)
    ∙ ap (lines_from s.version all 1 0) (lines_joined (map (row_line all) ts) (all_printed all ts h few))
    ∙ rest_back s.version all 1 0 ts h (omega (arith, few)) in
    ap (acts_of (system s)) all_listed ∙ ap Ok (acts_back (system s) (begun (system s)) ts)

-- LENGTHS

digits_few : (n : ℕ) → 1 ≤ n → n ≤ greatest_turns → length (decimal n) ≤ n
digits_few n some few = by (nat_lt n 10) refl
  where
    by : (b : Bool) → nat_lt n 10 ≡ b → length (decimal n) ≤ n
    by true less =
        let small : n < 10 = grind (arith, nat_tests) in
        let one = length-decimal-le 1 n (omega arith) (omega (arith, small)) (omega (arith, small)) in omega (arith, one, some)
    by false more =
        let large : 10 ≤ n = grind (arith, nat_tests) in
        let seven = length-decimal-le 7 n (omega arith) (omega (arith, few)) (omega (arith, few)) in omega (arith, seven, large)

line_short : (cs : List Component) (t : ℕ × ℕ) → IsCalled cs t.0 → length (row_line cs t) ≤ 17 + length (decimal t.1)
line_short cs t called =
    let u = and_parts (between 1 16 (length called.name)) (all_of is_name_byte called.name) called.is_name in
    let v = and_parts (nat_le 1 (length called.name)) (nat_le (length called.name) 16) u.0 in
    let long : length (row_line cs t) ≡ length called.name + suc (length (decimal t.1)) =
    ap (λ (l : List ℕ). length (l ++ 32 ∷ decimal t.1)) called.there ∙ length-append called.name (32 ∷ decimal t.1) in
    omega (arith, long, leb-true (length called.name) 16 v.1)

-- a text has at most 19 bytes a turn
pub lines_short : (cs : List Component) (ts : List (ℕ × ℕ)) → Each (IsRow cs) ts → all_turns ts ≤ greatest_turns
    → length (joined (map (row_line cs) ts)) ≤ 19 * all_turns ts
lines_short cs [] h few = omega arith
lines_short cs (t ∷ ts) h few =
    let sum = sum_by-cons (λ (t : ℕ × ℕ). t.1) t ts in
    let some = h.0.1 in
    let digits = digits_few t.1 some (omega (arith, sum, few)) in
    omega (
      arith,
      sum,
      some,
      digits,
      length-append (row_line cs t) (10 ∷ joined (map (row_line cs) ts)),
      line_short cs t h.0.0,
      lines_short cs ts h.1 (omega (arith, sum, few)),
    )
