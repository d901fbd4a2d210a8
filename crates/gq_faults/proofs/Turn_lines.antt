-- Lines of turns, one after the other, and the first fault among them.
use Rattle.std.proofs.Common.{◌≡◌, ℕ, suc, ◌+◌, ◌^◌, ◌==◌, nat_le, nat_lt, Bool, true, false, cond, List, [], ◌∷◌, ◌++◌, length, Option, Some, None, option_map}
use Rattle.std.proofs.Common.{Result, Ok, Err, refl, ap, sym, subst, ◌∙◌, arith, unwrap_or, Bor}
use Rattle.std.specs.Option.{option_or}
use Rattle.std.specs.Prelude.{◌&&◌, codes, slice_get}
use Rattle.gq_model.specs.machine.Lists.{or_first}
use Rattle.gq_model.specs.declared.act.TurnLine.{TurnLine}
use Rattle.gq_model.specs.declared.act.TurnLine.TheVariants.{Gives, Rests}
use Rattle.gq_model.specs.declared.act.Act.TheVariants.{Sets, Submits}
use Rattle.gq_model.specs.machine.Program.{text_eq}
use Rattle.gq_model.specs.machine.Scenario.{Scenario, System, Component, components, system}
use Rattle.gq_model.specs.machine.Routes.{numbered}
use Rattle.gq_model.specs.texts.Letters.{is_name, number_in, pieces, lines}
use Rattle.gq_model.specs.texts.Turns.{Given, Listed, turn_count, turn_of, turn_in, line_turns, says_nothing, line_onto, acts_of, listed}
use Rattle.gq_model.specs.texts.Turns.{has_inputs, has_signals, input_in, inputs_at, setting_at, setting_of, setting_within}
use Rattle.gq_model.specs.texts.Turns.{signal_at, signal_in, signal_of, signals_at, word_of}
use Rattle.gq_model.specs.texts.Operands.{greatest_number}
use Rattle.gq_model.specs.declared.fault.TurnFault.{TurnFault}
use Rattle.gq_model.specs.declared.fault.TurnFault.TheVariants.{BadLine, NoSuchComponent, TooMany, NoInput, InputTooLarge, NoSignal}
use Rattle.gq_model.specs.texts.Turns.{after_line, lines_from, turned}
use Rattle.gq_model.specs.machine.Rest.{greatest_turns}
use Rattle.gq_scenario.specs.Text_pieces.{lines_left}
use Rattle.gq_init.specs.TurnLines.{given_in, turn_on}
use Rattle.gq_init.specs.internal.Ahead.{IsLineAhead}
use Rattle.gq_faults.specs.Found_lists.{first, listed_if}
use Rattle.gq_faults.specs.Turn_faults.{too_many_at, past_line, line_faults, turn_faults, fault_of_turns, reported_fault, turns_after, faults_left}

-- THE FIRST

first_onto : (turn : TurnLine) (t : Listed) → fault_of_turns (line_onto turn t) ≡ fault_of_turns t
first_onto turn (Ok turns) = refl
first_onto turn (Err fault) = refl

first_with : (b : Bool) (turn : TurnLine) (k n m : ℕ) (go : Option ℕ → List (TurnFault × ℕ)) (on : Listed) → first (go (Some m)) ≡ fault_of_turns on
    → first (too_many_at k (Some n) (cond b (Some m) None) ++ go (cond b (Some m) None)) ≡ fault_of_turns (cond b (line_onto turn on) (Err (TooMany, k)))
first_with true turn k n m go on h = h ∙ sym (first_onto turn on)
first_with false turn k n m go on h = refl

first_past : (b : Bool) (turn : Given) (k n : ℕ) (go : Option ℕ → List (TurnFault × ℕ)) (on : ℕ → Listed)
    → ((m : ℕ) → first (go (Some m)) ≡ fault_of_turns (on m)) → first (past_line b turn k (Some n) go) ≡ fault_of_turns (after_line b turn k n on)
first_past true turn k n go on h = h n
first_past false (Err fault) k n go on h = refl
first_past false (Ok turn) k n go on h =
    let more = n + line_turns turn in first_with (nat_le more greatest_turns) turn k n more go (on more) (h more)

first_lines : (s : Scenario) (k n : ℕ) (ls : List (List ℕ)) → first (line_faults s k (Some n) ls) ≡ fault_of_turns (lines_from s.version (components s) k n ls)
first_lines s k n [] = refl
first_lines s k n (line ∷ ls) =
    first_past (says_nothing line) (given_in s (pieces (λ c. c == 32) line)) k n (λ after. line_faults s (suc k) after ls) (λ m. lines_from s.version
    (components s) (suc k) m ls)
    (λ m. first_lines s (suc k) m ls)

first_listed : (s : Scenario) (text : List ℕ) → first (turn_faults s text) ≡ fault_of_turns (listed s text)
first_listed s text =
    let all = lines text in
    by (nat_le (length text) (2 ^ 24)) (line_faults s 1 (Some 0) all) (lines_from s.version (components s) 1 0 all) (first_lines s 1 0 all)
  where
    by : (b : Bool) (faults : List (TurnFault × ℕ)) (turns : Listed) → first faults ≡ fault_of_turns turns
        → first (cond b faults ((TooMany, 0) ∷ [])) ≡ fault_of_turns (cond b turns (Err (TooMany, 0)))
    by true faults turns h = h
    by false faults turns h = refl

-- what lines give to leaves is refused just where they are
acts_refused : (all : System) (t : Listed) → fault_of_turns (acts_of all t) ≡ fault_of_turns t
acts_refused all (Ok turns) = refl
acts_refused all (Err fault) = refl

pub first_of_turns : (s : Scenario) (text : List ℕ) → first (turn_faults s text) ≡ fault_of_turns (turned s text)
first_of_turns s text = first_listed s text ∙ sym (acts_refused (system s) (listed s text))

-- A LINE

-- the faults that a line has alone
abbrev IsOwn : Given → Type 0
IsOwn (Ok turn) = Unit {0}
IsOwn (Err TooMany) = ⊥
IsOwn (Err BadLine) = Unit {0}
IsOwn (Err NoSuchComponent) = Unit {0}
IsOwn (Err NoInput) = Unit {0}
IsOwn (Err InputTooLarge) = Unit {0}
IsOwn (Err NoSignal) = Unit {0}

own_of : (x n : Option ℕ) → IsOwn (turn_of x n)
own_of None None = tt
own_of (Some x) None = tt
own_of None (Some n) = tt
own_of (Some x) (Some n) = tt

own_if : (b : Bool) (turn other : Given) → IsOwn turn → IsOwn other → IsOwn (cond b turn other)
own_if true turn other h g = h
own_if false turn other h g = g

own_within : (greatest : Option ℕ) (x i n : ℕ) → IsOwn (setting_within greatest x i n)
own_within None x i n = tt
own_within (Some g) x i n = own_if (nat_le n g) (Ok (Gives x (Sets i n))) (Err InputTooLarge) tt tt

own_at : (all : List Component) (x : Option ℕ) (i n : ℕ) → IsOwn (setting_at all x i n)
own_at all None i n = tt
own_at all (Some x) i n = own_within (slice_get (inputs_at (slice_get all x)) i) x i n

own_setting : (all : List Component) (input : Option (List ℕ × ℕ)) (n : Option ℕ) → IsOwn (setting_of all input n)
own_setting all None n = tt
own_setting all (Some p) None = tt
own_setting all (Some p) (Some n) = own_at all (numbered 0 p.0 all) p.1 n

own_signal : (all : List Component) (x : Option ℕ) (i : ℕ) → IsOwn (signal_at all x i)
own_signal all None i = tt
own_signal all (Some x) i = own_if (nat_lt i (signals_at (slice_get all x))) (Ok (Gives x (Submits i))) (Err NoSignal) tt tt

own_named : (all : List Component) (signal : Option (List ℕ × ℕ)) → IsOwn (signal_of all signal)
own_named all None = tt
own_named all (Some p) = own_signal all (numbered 0 p.0 all) p.1

own_word : (all : List Component) (word : List ℕ) → IsOwn (word_of all word)
own_word all word =
    own_if (text_eq word (codes "rest")) (Ok Rests) (signal_of all (signal_in (pieces (λ c. c == 33) word))) tt
    (own_named all (signal_in (pieces (λ c. c == 33) word)))

own_in : (version : ℕ) (all : List Component) (ps : List (List ℕ)) → IsOwn (turn_in version all ps)
own_in version all [] = tt
own_in version all (word ∷ []) = own_if (has_signals version) (word_of all word) (Err BadLine) (own_word all word) tt
own_in version all (name ∷ count ∷ []) =
    own_if (is_name name) (turn_of (numbered 0 name all) (turn_count count)) (Err BadLine) (own_of (numbered 0 name all) (turn_count count)) tt
own_in version all (input ∷ sign ∷ number ∷ []) =
    own_if (has_inputs version && text_eq sign (codes "="))
    (setting_of all (input_in (pieces (λ c. c == 46) input)) (number_in 10 0 greatest_number number)) (Err BadLine)
    (own_setting all (input_in (pieces (λ c. c == 46) input)) (number_in 10 0 greatest_number number)) tt
own_in version all (name ∷ count ∷ number ∷ more ∷ rest) = tt

-- what is reported of the k-th line, which says this after so many turns, and of those after it
abbrev reported_by : Result (Option TurnLine) TurnFault → ℕ → Option ℕ → (Option ℕ → List (TurnFault × ℕ)) → List (TurnFault × ℕ)
reported_by said k before go = listed_if (option_map (λ fault. (fault, k)) (reported_fault said before)) ++ go (turns_after said before)

none_more : (b : Bool) (turn : TurnLine) (k : ℕ) (go : Option ℕ → List (TurnFault × ℕ))
    → go None ≡ reported_by (cond b (Ok (Some turn)) (Err TooMany)) k None go
none_more true turn k go = refl
none_more false turn k go = refl

some_more : (b : Bool) (turn : TurnLine) (k n : ℕ) (go : Option ℕ → List (TurnFault × ℕ))
    → too_many_at k (Some n) (cond b (Some (n + line_turns turn)) None) ++ go (cond b (Some (n + line_turns turn)) None)
    ≡ reported_by (cond b (Ok (Some turn)) (Err TooMany)) k (Some n) go
some_more true turn k n go = refl
some_more false turn k n go = refl

past_is : (b : Bool) (turn : Given) (k : ℕ) (before : Option ℕ) (go : Option ℕ → List (TurnFault × ℕ)) → IsOwn turn
    → past_line b turn k before go ≡ reported_by (turn_on b (unwrap_or before 0) turn) k before go
past_is true turn k before go h = refl
past_is false (Err TooMany) k before go h = absurd h
past_is false (Err BadLine) k before go h = refl
past_is false (Err NoSuchComponent) k before go h = refl
past_is false (Err NoInput) k before go h = refl
past_is false (Err InputTooLarge) k before go h = refl
past_is false (Err NoSignal) k before go h = refl
past_is false (Ok turn) k None go h = none_more (nat_le (0 + line_turns turn) greatest_turns) turn k go
past_is false (Ok turn) k (Some n) go h = some_more (nat_le (n + line_turns turn) greatest_turns) turn k n go

-- what is reported of what is left, whose first line says this
pub line_reported : (s : Scenario) (k : ℕ) (before : Option ℕ) (text : List ℕ) (said : Result (Option TurnLine) TurnFault) (rest : Option (List ℕ))
    → IsLineAhead s (unwrap_or before 0) text said rest
    → faults_left s k before (Some text)
    ≡ listed_if (option_map (λ fault. (fault, k + 1)) (reported_fault said before)) ++ faults_left s (k + 1) (turns_after said before) rest
line_reported s k before text said rest h =
    let turn = given_in s (pieces (λ c. c == 32) h.line) in
    let go : Option ℕ → List (TurnFault × ℕ) = λ after. line_faults s (suc (k + 1)) after (lines_left rest) in
    let next : suc (k + 1) ≡ k + 1 + 1 = omega arith in
    ap (line_faults s (k + 1) before) h.is
    ∙ (past_is (says_nothing h.line) turn (k + 1) before go (own_in s.version (components s) (pieces (λ c. c == 32) h.line))
    ∙ (ap (λ w. reported_by w (k + 1) before go) (sym h.said_is)
    ∙ ap (λ j. listed_if (option_map (λ fault. (fault, k + 1)) (reported_fault said before)) ++ line_faults s j (turns_after said before) (lines_left rest))
    next))

-- nothing is reported of it
pub line_right : (s : Scenario) (k n : ℕ) (before after : Option ℕ) (text : List ℕ) (said : Result (Option TurnLine) TurnFault)
    (rest : Option (List ℕ)) (reported : Option TurnFault) → n ≡ unwrap_or before 0 → IsLineAhead s n text said rest → reported ≡ reported_fault said before
    → after ≡ turns_after said before → reported ≡ None → faults_left s k before (Some text) ≡ faults_left s (k + 1) after rest
line_right s k n before after text said rest reported is h e f none =
    line_reported s k before text said rest (subst (λ m. IsLineAhead s m text said rest) is h)
    ∙ (ap (λ t. listed_if (option_map (λ fault. (fault, k + 1)) t) ++ faults_left s (k + 1) (turns_after said before) rest) (sym e ∙ none)
    ∙ ap (λ a. faults_left s (k + 1) a rest) (sym f))

-- this fault is reported of it
pub line_wrong : (s : Scenario) (k n : ℕ) (before after : Option ℕ) (text : List ℕ) (said : Result (Option TurnLine) TurnFault)
    (rest : Option (List ℕ)) (reported : Option TurnFault) (fault : TurnFault) → n ≡ unwrap_or before 0 → IsLineAhead s n text said rest
    → reported ≡ reported_fault said before → after ≡ turns_after said before → reported ≡ Some fault
    → faults_left s k before (Some text) ≡ (fault, k + 1) ∷ faults_left s (k + 1) after rest
line_wrong s k n before after text said rest reported fault is h e f some =
    line_reported s k before text said rest (subst (λ m. IsLineAhead s m text said rest) is h)
    ∙ (ap (λ t. listed_if (option_map (λ fault. (fault, k + 1)) t) ++ faults_left s (k + 1) (turns_after said before) rest) (sym e ∙ some)
    ∙ ap (λ a. (fault, k + 1) ∷ faults_left s (k + 1) a rest) (sym f))

-- text is left
pub text_left : (s : Scenario) (k : ℕ) (before : Option ℕ) (left : Option (Bor (List ℕ))) (text : Bor (List ℕ)) (all : List (TurnFault × ℕ))
    → left ≡ Some text → faults_left s k before (Some text.now) ≡ all → faults_left s k before (option_map (λ t. t.now) left) ≡ all
text_left s k before left text all e h = ap (λ (o : Option (Bor (List ℕ))). faults_left s k before (option_map (λ t. t.now) o)) e ∙ h

-- THE FIRST THAT IS FOUND

pub first_kept : {A : Type 0} (found all : Option A) (left rest : List A) → left ≡ rest → or_first found (first left) ≡ all → or_first found (first rest) ≡ all
first_kept found all left rest e h = ap (λ l. or_first found (first l)) (sym e) ∙ h

pub first_found : {A : Type 0} (found now all : Option A) (left rest : List A) (a : A) → left ≡ a ∷ rest → now ≡ option_or found (Some a)
    → or_first found (first left) ≡ all → or_first now (first rest) ≡ all
first_found {A = A} found now all left rest a e f h = ap (λ o. or_first o (first rest)) f ∙ (by found ∙ (ap (λ l. or_first found (first l)) (sym e) ∙ h))
  where
    by : (o : Option A) → or_first (option_or o (Some a)) (first rest) ≡ or_first o (Some a)
    by None = refl
    by (Some b) = refl
