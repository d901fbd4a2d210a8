-- The lines that are reported of a step.
use Rattle.std.proofs.Common.{◌≡◌, ◌∙◌, ℕ, zero, suc, ◌+◌, Bool, true, false, List, [], ◌∷◌, ◌++◌, length, Option, Some, None, refl, sym, arith}
use Rattle.std.proofs.Common.{append-nil, append_assoc}
use Rattle.std.specs.Prelude.{if◌then◌else◌, decimal, codes, slice_get, map, max}
use Rattle.gq_model.specs.declared.phase.Phase.{Phase}
use Rattle.gq_model.specs.declared.phase.Phase.TheVariants.{Pending, Running, Blocked, Serving, Handling, Exited}
use Rattle.gq_model.specs.machine.Accounts.{Account, LeafAccount, account_line, account_lines, entry, leaf_entries}
use Rattle.gq_model.specs.machine.Accounts.{phase_word, reported, shown, used_entry}
use Rattle.gq_model.specs.machine.Amounts.{Amount, counts_caps}
use Rattle.gq_model.specs.machine.Doing.{Event, Idle, Quiet, Finished, Line}
use Rattle.gq_model.specs.machine.Run.{line_of, label_at}
use Rattle.gq_model.specs.machine.Scenario.{Component, Scenario, System, system}
use Rattle.gq_model.specs.machine.Step_budgets.{StepBudget}
use Rattle.gq_model.specs.machine.World.{World}
use Rattle.gq_model.specs.machine.Sections.{section_word}
use Rattle.gq_traces.specs.Lines_of.{begins}
use Rattle.gq_traces.specs.Step_positions.{StepPosition}
use Rattle.gq_traces.specs.Trace.{Standing, PrintedSession, account_change, account_changes, accounts_in, amount_text, changes, head_line, leaf_label}
use Rattle.gq_traces.specs.Trace.{parties_text}
use Rattle.gq_traces.specs.Trace.{requested_text}
use Rattle.gq_traces.specs.Trace.{same_standing, same_printed, session_change, session_changes, session_line, standing_of, printed_session, printed_step}
use Rattle.gq_traces.specs.declared.session_lines.Requested.{Requested}
use Rattle.gq_traces.specs.declared.session_lines.Requested.TheVariants.{Nothing, Waits, AtHand}
use Rattle.gq_traces.proofs.Printed_lines.{Gives, IsLine, gives_as, gives_both, gives_line, gives_none, gives_nothing}
use Rattle.gq_traces.proofs.Printed_events.{IsShown}
use Rattle.gq_traces.proofs.Printed_numbers.{IsPrinted, both, number_printed}
use Rattle.gq_traces.proofs.Printed_places.{section_printed}

-- TEXTS

printed_again : (version : ℕ) (text : List ℕ) → IsPrinted text → IsPrinted (reported version text)
printed_again version text h = by (counts_caps version)
  where
    by : (b : Bool) → IsPrinted (if b then text else [])
    by true = h
    by false = refl

entry_printed : (word : List ℕ) (n : ℕ) → IsPrinted word → IsPrinted (entry word n)
entry_printed word n h =
    both (codes " " ++ word ++ codes " ") (decimal n) (both (codes " " ++ word) (codes " ") (both (codes " ") word refl h) refl) (number_printed n)

phase_printed : (phase : Phase) → IsPrinted (phase_word phase)
phase_printed Pending = refl
phase_printed Running = refl
phase_printed Blocked = refl
phase_printed Serving = refl
phase_printed Handling = refl
phase_printed Exited = refl

used_printed : (word : List ℕ) (f : Amount → ℕ) (leaf : Option LeafAccount) → IsPrinted word → IsPrinted (used_entry word f leaf)
used_printed word f None h = refl
used_printed word f (Some a) h = entry_printed word (f a.used) h

leaf_printed : (leaf : Option LeafAccount) → IsPrinted (leaf_entries leaf)
leaf_printed None = refl
leaf_printed (Some a) =
    let steps = entry (codes "steps") (shown a.steps) in
    let budget = shown a.budget in
    both (steps ++ codes "/" ++ decimal budget ++ codes " ") (phase_word a.phase)
    (both (steps ++ codes "/" ++ decimal budget) (codes " ")
    (both (steps ++ codes "/") (decimal budget) (both steps (codes "/") (entry_printed (codes "steps") (shown a.steps) refl) refl) (number_printed budget))
    refl)
    (phase_printed a.phase)

account_is : (version : ℕ) (a : Account) → IsPrinted a.label → IsLine (account_line version a)
account_is version a h =
    let caps = entry (codes "caps") a.quota.caps ++ used_entry (codes "taken") (λ u. u.caps) a.leaf in
    let caps_printed = both (entry (codes "caps") a.quota.caps) (used_entry (codes "taken") (λ u. u.caps) a.leaf)
    (entry_printed (codes "caps") a.quota.caps refl) (used_printed (codes "taken") (λ u. u.caps) a.leaf refl) in
    let one = codes "account " ++ a.label in
    let two = one ++ entry (codes "quota") a.quota.ram in
    let three = two ++ used_entry (codes "used") (λ u. u.ram) a.leaf in
    let four = three ++ reported version caps in
    record {
      line = four ++ leaf_entries a.leaf;
      printed = both four (leaf_entries a.leaf)
          (both three (reported version caps)
          (both two (used_entry (codes "used") (λ u. u.ram) a.leaf)
          (both one (entry (codes "quota") a.quota.ram) (both (codes "account ") a.label refl h) (entry_printed (codes "quota") a.quota.ram refl))
          (used_printed (codes "used") (λ u. u.ram) a.leaf refl))
          (printed_again version caps caps_printed))
          (leaf_printed a.leaf);
      is = refl;
    }

amount_printed : (version : ℕ) (word : List ℕ) (a : Amount) → IsPrinted word → IsPrinted (amount_text version word a)
amount_printed version word a h =
    both (word ++ codes " " ++ decimal a.ram) (reported version (entry (codes "caps") a.caps))
    (both (word ++ codes " ") (decimal a.ram) (both word (codes " ") h refl) (number_printed a.ram))
    (printed_again version (entry (codes "caps") a.caps) (entry_printed (codes "caps") a.caps refl))

requested_printed : (r : Requested) → IsPrinted (requested_text r)
requested_printed Nothing = refl
requested_printed (Waits section) =
    both (codes ", " ++ section_word section) (codes " waits") (both (codes ", ") (section_word section) refl (section_printed section)) refl
requested_printed (AtHand section) =
    both (codes ", " ++ section_word section) (codes " at hand") (both (codes ", ") (section_word section) refl (section_printed section)) refl

-- SCENARIOS

-- labels and names of services are printed
pub record HasTexts (system : System) : Type 0 where
  pub labels : (x : ℕ) (c : Component) → slice_get system.components x ≡ Some c → IsPrinted c.label

label_printed : (system : System) → HasTexts system → (x : ℕ) → IsPrinted (leaf_label system x)
label_printed system h x = by (slice_get system.components x) refl
  where
    by : (c : Option Component) → slice_get system.components x ≡ c → IsPrinted (label_at c)
    by None e = refl
    by (Some c) e = h.labels x c e

-- what is reported of a session is of a service with a printed name
abbrev pub IsNamed : Option PrintedSession → Type 0
IsNamed None = Unit {0}
IsNamed (Some t) = IsPrinted t.service

session_is : (version : ℕ) (system : System) (k : ℕ) (t : Option PrintedSession) → HasTexts system → IsNamed t → IsLine (session_line version system k t)
session_is version system k None texts h = record {
  line = codes "session " ++ decimal k ++ codes " ends";
  printed = both (codes "session " ++ decimal k) (codes " ends") (both (codes "session ") (decimal k) refl (number_printed k)) refl;
  is = sym (append_assoc (codes "session " ++ decimal k) (codes " ends") (10 ∷ []));
}
session_is version system k (Some t) texts h =
    let server = leaf_label system t.server in
    let labels = both (t.service ++ codes " of " ++ server ++ codes " for ") (leaf_label system t.client)
    (both (t.service ++ codes " of " ++ server) (codes " for ")
    (both (t.service ++ codes " of ") server (both t.service (codes " of ") h refl) (label_printed system texts t.server)) refl)
    (label_printed system texts t.client) in
    let one = codes "session " ++ decimal k ++ codes " " in
    let two = one ++ parties_text system t ++ codes " at level " in
    let three = two ++ decimal t.level ++ codes " " in
    let lends = amount_text version (codes "lends") t.donation in
    let first = both (codes "session " ++ decimal k) (codes " ") (both (codes "session ") (decimal k) refl (number_printed k)) refl in
    let second = both (one ++ parties_text system t) (codes " at level ") (both one (parties_text system t) first labels) refl in
    let third = both (two ++ decimal t.level) (codes " ") (both two (decimal t.level) second (number_printed t.level)) refl in
    record {
      line = three ++ lends ++ requested_text t.requested;
      printed = both (three ++ lends) (requested_text t.requested) (both three lends third (amount_printed version (codes "lends") t.donation refl))
          (requested_printed t.requested);
      is = refl;
    }

pub head_is : (n : ℕ) (label : List ℕ) (place : StepPosition) → IsPrinted label → IsPrinted place.statement → IsLine (head_line n label place)
head_is n label place h g =
    let word = section_word place.section in
    let one = codes "turn " ++ decimal n ++ codes " " in
    let two = one ++ label ++ codes " " in
    let three = two ++ word ++ codes " at " in
    let first = both (codes "turn " ++ decimal n) (codes " ") (both (codes "turn ") (decimal n) refl (number_printed n)) refl in
    let second = both (one ++ label) (codes " ") (both one label first h) refl in
    let third = both (two ++ word) (codes " at ") (both two word second (section_printed place.section)) refl in
    record {
      line = three ++ decimal place.number ++ place.statement;
      printed = both (three ++ decimal place.number) place.statement (both three (decimal place.number) third (number_printed place.number)) g;
      is = refl;
    }

said_is : (label text : List ℕ) → IsPrinted label → IsPrinted text → IsLine (line_of label (Line text))
said_is label text h g = record {
  line = codes "[" ++ label ++ codes "] " ++ text;
  printed = both (codes "[" ++ label ++ codes "] ") text (both (codes "[" ++ label) (codes "] ") (both (codes "[") label refl h) refl) g;
  is = refl;
}

-- A BEGINNING

-- which lines begin so: lines that leaves write, and those of turns, or not; no others
pub record Reports (prefix : List ℕ) (says heads : Bool) : Type 0 where
  pub plain : IsPrinted prefix
  pub some : begins prefix [] ≡ false
  pub accounts : (rest : List ℕ) → begins prefix (codes "account " ++ rest) ≡ false
  pub sessions : (rest : List ℕ) → begins prefix (codes "session " ++ rest) ≡ false
  pub inputs : (rest : List ℕ) → begins prefix (codes "input " ++ rest) ≡ false
  pub signals : (rest : List ℕ) → begins prefix (codes "signal " ++ rest) ≡ false
  pub ends : (rest : List ℕ) → begins prefix (codes "end after " ++ rest) ≡ false
  pub lines : (rest : List ℕ) → begins prefix (codes "[" ++ rest) ≡ says
  pub turns : (rest : List ℕ) → begins prefix (codes "turn " ++ rest) ≡ heads

pub of_lines : Reports (codes "[") true false
of_lines = record {
  plain = refl;
  some = refl;
  accounts = λ rest. refl;
  sessions = λ rest. refl;
  inputs = λ rest. refl;
  signals = λ rest. refl;
  ends = λ rest. refl;
  lines = λ rest. refl;
  turns = λ rest. refl;
}

pub of_turns : Reports (codes "turn ") false true
of_turns = record {
  plain = refl;
  some = refl;
  accounts = λ rest. refl;
  sessions = λ rest. refl;
  inputs = λ rest. refl;
  signals = λ rest. refl;
  ends = λ rest. refl;
  lines = λ rest. refl;
  turns = λ rest. refl;
}

-- what a text keeps and counts of one line
abbrev pub kept_if : Bool → List ℕ → List ℕ
kept_if b text = if b then text else []

abbrev pub lines_shown : Event → ℕ
lines_shown Idle = 0
lines_shown Quiet = 0
lines_shown Finished = 0
lines_shown (Line text) = 1

abbrev pub count_if : Bool → ℕ → ℕ
count_if b n = if b then n else 0

-- accounts with printed labels
abbrev pub AreLabelled : List Account → Type 0
AreLabelled [] = Unit {0}
AreLabelled (a ∷ rest) = IsPrinted a.label × AreLabelled rest

module _ (prefix : List ℕ) (says heads : Bool) (reports : Reports prefix says heads) where
  gives_if : (text : List ℕ) → IsLine text → (b : Bool) → begins prefix text ≡ b → Gives prefix text (kept_if b text) (count_if b 1)
  gives_if text h true e = gives_line prefix reports.plain text h e
  gives_if text h false e = gives_none prefix reports.plain text h e

  no_line : (b : Bool) → Gives prefix [] (kept_if b []) (count_if b 0)
  no_line true = gives_nothing prefix
  no_line false = gives_nothing prefix

  event_gives : (label : List ℕ) (event : Event) → IsPrinted label → IsShown event
      → Gives prefix (line_of label event) (kept_if says (line_of label event)) (count_if says (lines_shown event))
  event_gives label Idle h g = no_line says
  event_gives label Quiet h g = no_line says
  event_gives label Finished h g = no_line says
  event_gives label (Line text) h g = gives_if (line_of label (Line text)) (said_is label text h g) says
      (reports.lines (label ++ codes "] " ++ text ++ 10 ∷ []))

  pub head_gives : (n : ℕ) (label : List ℕ) (place : StepPosition) → IsPrinted label → IsPrinted place.statement
      → Gives prefix (head_line n label place) (kept_if heads (head_line n label place)) (count_if heads 1)
  head_gives n label place h g = gives_if (head_line n label place) (head_is n label place h g) heads (reports.turns _)

  account_gives : (version : ℕ) (a : Account) → IsPrinted a.label → Gives prefix (account_line version a) [] 0
  account_gives version a h = gives_none prefix reports.plain (account_line version a) (account_is version a h) (reports.accounts _)

  change_gives : (version : ℕ) (old : Standing) (new : Account) → IsPrinted new.label → Gives prefix (account_change version old new) [] 0
  change_gives version old new h = by (same_standing old (standing_of new))
    where
      by : (b : Bool) → Gives prefix (if b then [] else account_line version new) [] 0
      by true = gives_nothing prefix
      by false = account_gives version new h

  accounts_give : (version : ℕ) (olds : List Standing) (news : List Account) → AreLabelled news → Gives prefix (account_changes version olds news) [] 0
  accounts_give version (old ∷ olds) (new ∷ news) h =
      gives_both prefix (account_change version old new) (account_changes version olds news) [] [] 0 0 (change_gives version old new h.0)
      (accounts_give version olds news h.1)
  accounts_give version [] news h = gives_nothing prefix
  accounts_give version (old ∷ olds) [] h = gives_nothing prefix

  pub all_give : (version : ℕ) (all : List Account) → AreLabelled all → Gives prefix (account_lines version all) [] 0
  all_give version [] h = gives_nothing prefix
  all_give version (a ∷ rest) h =
      gives_both prefix (account_line version a) (account_lines version rest) [] [] 0 0 (account_gives version a h.0) (all_give version rest h.1)

  -- sessions
  session_gives : (version : ℕ) (system : System) (old new : World) (k : ℕ) → HasTexts system → IsNamed (printed_session new k)
      → Gives prefix (session_change version system old new k) [] 0
  session_gives version system old new k texts h = by (same_printed (printed_session old k) (printed_session new k)) (printed_session new k) h
    where
      by : (b : Bool) (t : Option PrintedSession) → IsNamed t → Gives prefix (if b then [] else session_line version system k t) [] 0
      by true t g = gives_nothing prefix
      by false None g = gives_none prefix reports.plain (session_line version system k None) (session_is version system k None texts g) (reports.sessions _)
      by false (Some t) g =
          gives_none prefix reports.plain (session_line version system k (Some t)) (session_is version system k (Some t) texts g) (reports.sessions _)

  sessions_give : (version : ℕ) (system : System) (old new : World) (k n : ℕ) → HasTexts system → ((k : ℕ) → IsNamed (printed_session new k))
      → Gives prefix (session_changes version system old new k n) [] 0
  sessions_give version system old new k zero texts h = gives_nothing prefix
  sessions_give version system old new k (suc n) texts h =
      gives_both prefix (session_change version system old new k) (session_changes version system old new (suc k) n) [] [] 0 0
      (session_gives version system old new k texts (h k)) (sessions_give version system old new (suc k) n texts h)

  -- what a step changes
  pub changes_give : (s : Scenario) (budgets : List StepBudget) (label : List ℕ) (old new : World) (event : Event) → HasTexts (system s) → IsPrinted label →
      IsShown event
      → AreLabelled (accounts_in s new budgets) → ((k : ℕ) → IsNamed (printed_session new k))
      → Gives prefix (changes s budgets label old new event) (kept_if says (line_of label event)) (count_if says (lines_shown event))
  changes_give s budgets label old new event texts h g labelled named =
      let one = account_changes s.version (map standing_of (accounts_in s old budgets)) (accounts_in s new budgets) in
      let two = session_changes s.version (system s) old new 0 (max (length old.sessions) (length new.sessions)) in
      let kept = kept_if says (line_of label event) in
      let count = count_if says (lines_shown event) in
      gives_as prefix (line_of label event ++ one ++ two) (kept ++ [] ++ []) kept (count + 0 + 0) count (append-nil (kept ++ []) ∙ append-nil kept)
      (omega arith)
      (gives_both prefix (line_of label event ++ one) two (kept ++ []) [] (count + 0) 0
      (gives_both prefix (line_of label event) one kept [] count 0 (event_gives label event h g)
      (accounts_give s.version (map standing_of (accounts_in s old budgets)) (accounts_in s new budgets) labelled))
      (sessions_give s.version (system s) old new 0 (max (length old.sessions) (length new.sessions)) texts named))

-- a step is reported with its head or not: the head's line does not begin so
pub printed_gives : (prefix : List ℕ) (all : Bool) (head changes k : List ℕ) (n : ℕ) → Gives prefix head [] 0 → Gives prefix changes k n
    → Gives prefix (printed_step all head changes) k n
printed_gives prefix true head changes k n h g =
    gives_as prefix (head ++ changes) ([] ++ k) k (0 + n) n refl (omega arith) (gives_both prefix head changes [] k 0 n h g)
printed_gives prefix false head [] k n h g = g
printed_gives prefix false head (c ∷ changes) k n h g =
    gives_as prefix (head ++ (c ∷ changes)) ([] ++ k) k (0 + n) n refl (omega arith) (gives_both prefix head (c ∷ changes) [] k 0 n h g)
