-- What each turn of a run did, what was set, and which signals were submitted.
use Rattle.std.specs.Prelude.{ℕ, zero, suc, ◌==◌, ◌&&◌, ◌||◌, not, if◌then◌else◌, Bool, true, false, List, [], ◌∷◌, ◌++◌, Option, Some, None, Ok, Err}
use Rattle.std.specs.Prelude.{slice_get, slice_index, slice_set, decimal, codes, max, map, length}
use Rattle.gq_model.specs.declared.act.Act.{Act}
use Rattle.gq_model.specs.declared.act.Act.TheVariants.{Turns, Sets, Submits}
use Rattle.gq_model.specs.declared.phase.Phase.{Phase}
use Rattle.gq_model.specs.declared.phase.Phase.TheVariants.{Pending, Running, Blocked, Serving, Handling, Exited}
use Rattle.gq_model.specs.machine.Accounts.{Account, LeafAccount, account_line, account_lines, accounts, entry, reported}
use Rattle.gq_model.specs.machine.Amounts.{Amount, same_amount}
use Rattle.gq_model.specs.machine.Doing.{Event, Stepped}
use Rattle.gq_model.specs.machine.Program.{text_eq}
use Rattle.gq_model.specs.machine.Sections.{same_section, section_word}
use Rattle.gq_model.specs.machine.Run.{Acts, line_of, label_at, set_input, submit}
use Rattle.gq_model.specs.machine.Scenario.{Component, Scenario, System, system}
use Rattle.gq_model.specs.machine.Step.{next}
use Rattle.gq_model.specs.machine.World.{Current, Leaf, Request, Session, Signal, World, session_at, start}
use Rattle.gq_model.specs.machine.Step_budgets.{StepBudget, all_steps_in}
use Rattle.gq_model.specs.rules.Accept.{budgets, step_budgets}
use Rattle.gq_machine.specs.Readers.{request_of, requested}
use Rattle.gq_traces.specs.Step_positions.{Ahead, StepPosition, place_in, start_aheads, stepped}
use Rattle.gq_traces.specs.declared.session_lines.Requested.{Requested}
use Rattle.gq_traces.specs.declared.session_lines.Requested.TheVariants.{Nothing, Waits, AtHand}

-- ACCOUNTS

-- an account but for its label and the steps of its leaf: its quota, and of a leaf what it holds and what it does
pub record Using : Type 0 where
  pub used : Amount
  pub phase : Phase

pub record Standing : Type 0 where
  pub quota : Amount
  pub leaf : Option Using

abbrev pub using_of : Option LeafAccount → Option Using
using_of None = None
using_of (Some a) = Some (record { used = a.used; phase = a.phase })

abbrev pub standing_of : Account → Standing
standing_of a = record { quota = a.quota; leaf = using_of a.leaf }

abbrev pub same_phase : Phase → Phase → Bool
same_phase Pending Pending = true
same_phase Running Running = true
same_phase Blocked Blocked = true
same_phase Serving Serving = true
same_phase Handling Handling = true
same_phase Exited Exited = true
same_phase _ _ = false

abbrev pub same_using : Option Using → Option Using → Bool
same_using None None = true
same_using (Some a) (Some b) = same_amount a.used b.used && same_phase a.phase b.phase
same_using _ _ = false

abbrev pub same_standing : Standing → Standing → Bool
same_standing a b = same_amount a.quota b.quota && same_using a.leaf b.leaf

-- the line of an account that stands otherwise now
abbrev pub account_change : ℕ → Standing → Account → List ℕ
account_change version old new = if same_standing old (standing_of new) then [] else account_line version new

abbrev pub account_changes : ℕ → List Standing → List Account → List ℕ
account_changes version (old ∷ olds) (new ∷ news) = account_change version old new ++ account_changes version olds news
account_changes version [] news = []
account_changes version (old ∷ olds) [] = []

-- SESSIONS

-- what is reported of a session: client and server, its service, its level, what was lent with it, and its request
pub record PrintedSession : Type 0 where
  pub client : ℕ
  pub server : ℕ
  pub service : List ℕ
  pub level : ℕ
  pub donation : Amount
  pub requested : Requested

abbrev pub at_hand : ℕ → Option Current → Requested
at_hand k None = Nothing
at_hand k (Some current) = if current.session == k then AtHand current.section else Nothing

abbrev pub at_server : ℕ → Option Leaf → Requested
at_server k None = Nothing
at_server k (Some leaf) = at_hand k leaf.current

-- a request of the session waits, or its server has one at hand, or there is none
abbrev pub request_in : World → ℕ → ℕ → Option Request → Requested
request_in w k server None = at_server k (slice_get w.leaves server)
request_in w k server (Some r) = Waits (requested w r)

abbrev pub reported_in : World → ℕ → Option Session → Option PrintedSession
reported_in w k None = None
reported_in w k (Some s) =
    Some (record {
      client = s.client;
      server = s.server;
      service = s.service;
      level = s.level;
      donation = s.donation;
      requested = request_in w k s.server (request_of k w.requests);
    })

-- what is reported of the k-th session, if there is one
abbrev pub printed_session : World → ℕ → Option PrintedSession
printed_session w k = reported_in w k (session_at w k)

abbrev pub requested_text : Requested → List ℕ
requested_text Nothing = []
requested_text (Waits section) = codes ", " ++ section_word section ++ codes " waits"
requested_text (AtHand section) = codes ", " ++ section_word section ++ codes " at hand"

abbrev pub leaf_label : System → ℕ → List ℕ
leaf_label system x = label_at (slice_get system.components x)

-- a word and an amount; capabilities are reported where the version counts them
abbrev pub amount_text : ℕ → List ℕ → Amount → List ℕ
amount_text version word a = word ++ codes " " ++ decimal a.ram ++ reported version (entry (codes "caps") a.caps)

-- who has a session: its service, its server and its client
abbrev pub parties_text : System → PrintedSession → List ℕ
parties_text system t = t.service ++ codes " of " ++ leaf_label system t.server ++ codes " for " ++ leaf_label system t.client

abbrev pub session_line : ℕ → System → ℕ → Option PrintedSession → List ℕ
session_line version system k None = codes "session " ++ decimal k ++ codes " ends\n"
session_line version system k (Some t) =
    codes "session " ++ decimal k ++ codes " " ++ parties_text system t ++ codes " at level " ++ decimal t.level ++ codes " "
    ++ amount_text version (codes "lends") t.donation ++ requested_text t.requested ++ 10 ∷ []

abbrev pub same_requested : Requested → Requested → Bool
same_requested Nothing Nothing = true
same_requested (Waits a) (Waits b) = same_section a b
same_requested (AtHand a) (AtHand b) = same_section a b
same_requested _ _ = false

-- the same is reported of two sessions
abbrev pub same_printed : Option PrintedSession → Option PrintedSession → Bool
same_printed None None = true
same_printed (Some a) (Some b) =
    a.client == b.client && a.server == b.server && text_eq a.service b.service && a.level == b.level && same_amount a.donation b.donation
    && same_requested a.requested b.requested
same_printed _ _ = false

-- the line of a session that is new, gone or another one now
abbrev pub session_change : ℕ → System → World → World → ℕ → List ℕ
session_change version system old new k =
    if same_printed (printed_session old k) (printed_session new k) then [] else session_line version system k (printed_session new k)

-- of n sessions from the k-th on
abbrev pub session_changes : ℕ → System → World → World → ℕ → ℕ → List ℕ
session_changes version system old new k zero = []
session_changes version system old new k (suc n) = session_change version system old new k ++ session_changes version system old new (suc k) n

-- TURNS

-- a run on the way: the world, what each leaf has before it, and how many turns there were
pub record Traced : Type 0 where
  pub world : World
  pub aheads : List Ahead
  pub turns : ℕ

abbrev pub start_traced : System → Traced
start_traced system = record { world = start system; aheads = start_aheads system.components; turns = 0 }

-- a step that a leaf can take: its place, and what the leaf has before it then
pub record Due : Type 0 where
  pub component : Component
  pub place : StepPosition
  pub ahead : Ahead

abbrev pub due_by : Component → Ahead → Option StepPosition → Option Due
due_by c a None = None
due_by c a (Some place) = Some (record { component = c; place = place; ahead = a })

abbrev pub due_in : World → ℕ → Option Component → Option Leaf → Option Ahead → Option Due
due_in w x (Some c) (Some leaf) (Some a) = due_by c (stepped w x c leaf a leaf.phase) (place_in w x c leaf a leaf.phase)
due_in w x _ _ _ = None

-- the step that the x-th leaf can take
abbrev pub due : System → ℕ → Traced → Option Due
due system x t = due_in t.world x (slice_get system.components x) (slice_get t.world.leaves x) (slice_get t.aheads x)

-- a turn that is no step is counted alone
abbrev pub idle_turn : Traced → Traced
idle_turn t = record t { turns = suc t.turns }

abbrev pub after_step : ℕ → Traced → Due → Stepped → Traced
after_step x t d (Ok p) = record { world = p.0; aheads = slice_set t.aheads x d.ahead; turns = suc t.turns }
after_step x t d (Err wrong) = idle_turn t

abbrev pub after_due : System → ℕ → Traced → Option Due → Traced
after_due system x t None = idle_turn t
after_due system x t (Some d) = after_step x t d (next system t.world x)

-- after a turn of the x-th leaf, and after n turns of it
abbrev pub after_turn : System → ℕ → Traced → Traced
after_turn system x t = after_due system x t (due system x t)

abbrev pub after_turns : System → ℕ → ℕ → Traced → Traced
after_turns system x zero t = t
after_turns system x (suc n) t = after_turns system x n (after_turn system x t)

-- after the i-th input of the x-th leaf is set, which is no turn
abbrev pub after_setting : System → ℕ → ℕ → ℕ → Traced → Traced
after_setting system x i n t = record t { world = set_input system t.world x i n }

-- after the i-th signal of the x-th leaf is submitted, which is no turn
abbrev pub after_submission : ℕ → ℕ → Traced → Traced
after_submission x i t = record t { world = submit t.world x i }

-- after what a leaf is given, and after all of a list
abbrev pub after_act : System → ℕ → Act → Traced → Traced
after_act system x (Turns n) t = after_turns system x n t
after_act system x (Sets i n) t = after_setting system x i n t
after_act system x (Submits i) t = after_submission x i t

abbrev pub after_all : System → Acts → Traced → Traced
after_all system [] t = t
after_all system (a ∷ acts) t = after_all system acts (after_act system a.0 a.1 t)

-- WHAT IS PRINTED

-- a step that changes nothing to be reported is reported where all are
abbrev pub printed_step : Bool → List ℕ → List ℕ → List ℕ
printed_step true head changes = head ++ changes
printed_step false head [] = []
printed_step false head (c ∷ changes) = head ++ c ∷ changes

abbrev pub head_line : ℕ → List ℕ → StepPosition → List ℕ
head_line n label place =
    codes "turn " ++ decimal n ++ codes " " ++ label ++ codes " " ++ section_word place.section ++ codes " at " ++ decimal place.number ++ place.statement
    ++ 10 ∷ []

-- the accounts of a world, by its budgets of steps
abbrev pub accounts_in : Scenario → World → List StepBudget → List Account
accounts_in s w budgets = accounts s w (all_steps_in w budgets)

-- the line that the step writes, and the accounts and sessions that are others now
abbrev pub changes : Scenario → List StepBudget → List ℕ → World → World → Event → List ℕ
changes s budgets label old new event =
    line_of label event ++ account_changes s.version (map standing_of (accounts_in s old budgets)) (accounts_in s new budgets)
    ++ session_changes s.version (system s) old new 0 (max (length old.sessions) (length new.sessions))

abbrev pub step_text : Bool → Scenario → List StepBudget → Traced → Due → Stepped → List ℕ
step_text all s budgets t d (Err wrong) = []
step_text all s budgets t d (Ok p) =
    printed_step all (head_line (suc t.turns) d.component.label d.place) (changes s budgets d.component.label t.world p.0 p.1)

abbrev pub due_text : Bool → Scenario → List StepBudget → ℕ → Traced → Option Due → List ℕ
due_text all s budgets x t None = []
due_text all s budgets x t (Some d) = step_text all s budgets t d (next (system s) t.world x)

-- of a turn of the x-th leaf, and of n turns of it
abbrev pub turn_text : Bool → Scenario → List StepBudget → ℕ → Traced → List ℕ
turn_text all s budgets x t = due_text all s budgets x t (due (system s) x t)

abbrev pub turns_text : Bool → Scenario → List StepBudget → ℕ → ℕ → Traced → List ℕ
turns_text all s budgets x zero t = []
turns_text all s budgets x (suc n) t = turn_text all s budgets x t ++ turns_text all s budgets x n (after_turn (system s) x t)

-- the value of the i-th input of the x-th leaf
abbrev pub value_in : ℕ → Option Leaf → ℕ
value_in i None = 0
value_in i (Some leaf) = slice_index leaf.inputs i

abbrev pub value_at : World → ℕ → ℕ → ℕ
value_at w x i = value_in i (slice_get w.leaves x)

abbrev pub input_line : List ℕ → ℕ → ℕ → List ℕ
input_line label i n = codes "input " ++ label ++ codes "." ++ decimal i ++ codes " = " ++ decimal n ++ 10 ∷ []

-- a setting is reported if it changes the value, or where all are reported
abbrev pub setting_text : Bool → System → ℕ → ℕ → ℕ → Traced → List ℕ
setting_text all system x i n t =
    if all || not (value_at (set_input system t.world x i n) x i == value_at t.world x i) then input_line (leaf_label system x) i n else []

-- whether the i-th signal of the x-th leaf is submitted
abbrev pub flag_of : Option Signal → Bool
flag_of None = false
flag_of (Some s) = s.submitted

abbrev pub flag_in : ℕ → Option Leaf → Bool
flag_in i None = false
flag_in i (Some leaf) = flag_of (slice_get leaf.signals i)

abbrev pub flag_at : World → ℕ → ℕ → Bool
flag_at w x i = flag_in i (slice_get w.leaves x)

abbrev pub signal_line : List ℕ → ℕ → List ℕ
signal_line label i = codes "signal " ++ label ++ codes "!" ++ decimal i ++ 10 ∷ []

-- a submission is reported if it sets a flag that was not set, or where all are reported
abbrev pub submission_text : Bool → System → ℕ → ℕ → Traced → List ℕ
submission_text all system x i t =
    if all || flag_at (submit t.world x i) x i && not (flag_at t.world x i) then signal_line (leaf_label system x) i else []

-- of what the x-th leaf is given, and of all of a list
abbrev pub act_text : Bool → Scenario → List StepBudget → ℕ → Act → Traced → List ℕ
act_text all s budgets x (Turns n) t = turns_text all s budgets x n t
act_text all s budgets x (Sets i n) t = setting_text all (system s) x i n t
act_text all s budgets x (Submits i) t = submission_text all (system s) x i t

abbrev pub all_text : Bool → Scenario → List StepBudget → Acts → Traced → List ℕ
all_text all s budgets [] t = []
all_text all s budgets (a ∷ acts) t =
    act_text all s budgets a.0 a.1 t ++ all_text all s budgets acts (after_act (system s) a.0 a.1 t)

abbrev pub end_text : Scenario → List StepBudget → Traced → List ℕ
end_text s budgets t = codes "end after " ++ decimal t.turns ++ codes " turns\n" ++ account_lines s.version (accounts_in s t.world budgets)

abbrev pub trace_text : Bool → Scenario → Acts → List ℕ
trace_text all s turns =
    let b = step_budgets (budgets s) in
    let first = start_traced (system s) in
    all_text all s b turns first ++ end_text s b (after_all (system s) turns first)
