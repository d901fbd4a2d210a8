-- Each account after the last turn of a run, and what it is made of.
use Rattle.std.specs.Prelude.{ℕ, zero, suc, ◌*◌, ◌==◌, ◌&&◌, if◌then◌else◌, Bool, true, false, List, [], ◌∷◌, ◌++◌, length, Option, Some, None, slice_get}
use Rattle.std.specs.Prelude.{decimal, codes, take}
use Rattle.gq_tariff.specs.Prices.{classes}
use Rattle.gq_model.specs.declared.phase.Phase.{Phase}
use Rattle.gq_model.specs.declared.phase.Phase.TheVariants.{Pending, Running, Blocked, Serving, Handling, Exited}
use Rattle.gq_model.specs.declared.program.Form.{Form}
use Rattle.gq_model.specs.declared.program.Form.TheVariants.{Block, Slice, Space}
use Rattle.gq_model.specs.declared.program.OperandSlot.{OperandSlot}
use Rattle.gq_model.specs.declared.program.OperandSlot.TheVariants.{Own, Shared, Object}
use Rattle.gq_model.specs.machine.Accounts.{Account, account_line}
use Rattle.gq_model.specs.machine.Amounts.{Resource, Ram, Caps, Amount, amount}
use Rattle.gq_model.specs.machine.Resource_prices.{chunks}
use Rattle.gq_model.specs.machine.Routes.{numbered}
use Rattle.gq_model.specs.machine.Run.{Acts}
use Rattle.gq_model.specs.machine.Scenario.{Component, Scenario, System, components, system}
use Rattle.gq_model.specs.machine.Sums.{slot_price}
use Rattle.gq_model.specs.machine.World.{Slot, Empty, Bytes, Pool, Link, Waiting, Signal, Leaf, Session, World, session_at}
use Rattle.gq_model.specs.rules.Accept.{budgets, step_budgets}
use Rattle.gq_model.specs.machine.Sections.{section_word}
use Rattle.gq_machine.specs.Readers.{request_of}
use Rattle.gq_resolve.specs.NodeTables.{NodeRow, node_rows, number_named}
use Rattle.gq_views.specs.Listing.{line, place_text}
use Rattle.gq_views.specs.Tree.{amounts}
use Rattle.gq_traces.specs.Trace.{Due, Traced, accounts_in, after_all, amount_text, due, leaf_label, request_in, requested_text, start_traced}

-- ITEMS

-- what an amount is: what a node is given, what an init hands to a child, what a leaf holds, what it lends with a session, or what it receives with one
pub data Role : Type 0 where
  Given Handed Held Lent Received : Role

abbrev pub role_word : Role → List ℕ
role_word Given = codes "quantum"
role_word Handed = codes "hands"
role_word Held = codes "holds"
role_word Lent = codes "lends"
role_word Received = codes "receives"

-- an amount that an account is made of, with what is reported behind it
pub record Item : Type 0 where
  pub depth : ℕ
  pub role : Role
  pub amount : Amount
  pub behind : List ℕ

abbrev pub item : ℕ → Role → Amount → List ℕ → Item
item depth role amount behind = record { depth = depth; role = role; amount = amount; behind = behind }

abbrev pub item_line : ℕ → Item → List ℕ
item_line version i = line i.depth (amount_text version (role_word i.role) i.amount ++ i.behind)

abbrev pub items_text : ℕ → List Item → List ℕ
items_text version [] = []
items_text version (item ∷ rest) = item_line version item ++ items_text version rest

-- SLOTS

abbrev pub form_text : Form → List ℕ
form_text Block = codes " block "
form_text Slice = codes " slice "
form_text Space = codes " space "

-- so much of each resource
abbrev pub amount_by : (Resource → ℕ) → Amount
amount_by f = amount (f Ram) (f Caps)

abbrev pub price : Slot → Amount
price slot = amount_by (λ r. slot_price r slot)

-- a leaf's own slots are reported right below its account, those of a session below that
abbrev pub depth_of : OperandSlot → ℕ
depth_of (Own i) = 1
depth_of (Shared i) = 2
depth_of Object = 2

-- a service, and the level of a session with it
abbrev pub service_text : List ℕ → ℕ → List ℕ
service_text service level = service ++ codes " at level " ++ decimal level

-- what is lent with a session, that a slot leads to or waits for
abbrev pub lent_items : System → World → OperandSlot → ℕ → Option Session → List Item
lent_items system w place k None = []
lent_items system w place k (Some s) =
    item (depth_of place) Lent s.donation
    (codes " to " ++ leaf_label system s.server ++ codes ": " ++ place_text place ++ codes " " ++ service_text s.service s.level ++ requested_text (request_in
    w k s.server (request_of k w.requests))) ∷ []

-- what a slot holds or lends
abbrev pub slot_items : System → World → OperandSlot → Slot → List Item
slot_items system w place Empty = []
slot_items system w place (Bytes form n bytes) =
    item (depth_of place) Held (price (Bytes form n bytes)) (codes ": " ++ place_text place ++ form_text form ++ decimal n) ∷ []
slot_items system w place (Pool n entries) =
    item (depth_of place) Held (price (Pool n entries)) (codes ": " ++ place_text place ++ codes " pool " ++ decimal n ++ codes " " ++ decimal (length
    entries)) ∷ []
slot_items system w place (Link k) = lent_items system w place k (session_at w k)
slot_items system w place (Waiting k) = lent_items system w place k (session_at w k)

-- these slots, of which the first has this number
abbrev pub slots_items : System → World → (ℕ → OperandSlot) → ℕ → List Slot → List Item
slots_items system w place i [] = []
slots_items system w place i (slot ∷ rest) = slot_items system w (place i) slot ++ slots_items system w place (suc i) rest

-- PLACES OF THE HEAP

abbrev pub place_items : ℕ → ℕ → List Item
place_items c zero = []
place_items c (suc n) = item 1 Held (amount_by (λ r. chunks r (c * suc n))) (codes ": " ++ decimal (suc n) ++ codes " places of " ++ decimal c) ∷ []

-- the places of each class of which one was ever in use
abbrev pub places_items : List ℕ → List ℕ → List Item
places_items [] peaks = []
places_items (c ∷ cs) [] = []
places_items (c ∷ cs) (peak ∷ peaks) = place_items c peak ++ places_items cs peaks

-- SESSIONS

-- a session's object and slots, which are empty until it is accepted
abbrev pub bank_items : System → World → Session → List Item
bank_items system w s = slot_items system w Object s.object ++ slots_items system w Shared 0 s.slots

-- what is received with a session, and what is held for it
abbrev pub session_items : System → World → Session → List Item
session_items system w s =
    item 1 Received s.donation (codes " from " ++ leaf_label system s.client ++ codes ": " ++ service_text s.service s.level) ∷ [] ++ bank_items system w s

-- of a session to the x-th leaf
abbrev pub received_items : System → World → ℕ → Option Session → List Item
received_items system w x None = []
received_items system w x (Some s) = if s.server == x then session_items system w s else []

abbrev pub sessions_items : System → World → ℕ → List (Option Session) → List Item
sessions_items system w x [] = []
sessions_items system w x (s ∷ rest) = received_items system w x s ++ sessions_items system w x rest

-- LEAVES

-- the values of a leaf's inputs, in a line of their own behind another
abbrev pub inputs_behind : List ℕ → List ℕ
inputs_behind [] = []
inputs_behind (n ∷ rest) = 10 ∷ codes "  inputs" ++ amounts (n ∷ rest)

abbrev pub inputs_of : Component → Leaf → List ℕ
inputs_of c leaf = take (length c.node.inputs) leaf.inputs

-- how often a signal was taken, with a mark where it is submitted
abbrev pub signal_entry : Signal → List ℕ
signal_entry s = codes " " ++ decimal s.taken ++ (if s.submitted then codes "!" else [])

abbrev pub signal_entries : List Signal → List ℕ
signal_entries [] = []
signal_entries (s ∷ rest) = signal_entry s ++ signal_entries rest

-- those of a leaf's signals, in a line of their own behind another
abbrev pub signals_behind : List Signal → List ℕ
signals_behind [] = []
signals_behind (s ∷ rest) = 10 ∷ codes "  signals" ++ signal_entries (s ∷ rest)

-- what the account of the x-th leaf is made of while it lives
abbrev pub live_items : System → World → ℕ → Component → Leaf → List Item
live_items system w x c leaf =
    item 1 Given c.node.quantum (inputs_behind (inputs_of c leaf) ++ signals_behind leaf.signals) ∷ []
    ++ slots_items system w Own 0 leaf.slots ++ places_items classes leaf.peaks ++ sessions_items system w x w.sessions

-- nothing before and after that
abbrev pub leaf_items : System → World → ℕ → Component → Leaf → Phase → List Item
leaf_items system w x c leaf Pending = []
leaf_items system w x c leaf Running = live_items system w x c leaf
leaf_items system w x c leaf Blocked = live_items system w x c leaf
leaf_items system w x c leaf Serving = live_items system w x c leaf
leaf_items system w x c leaf Handling = live_items system w x c leaf
leaf_items system w x c leaf Exited = []

abbrev pub component_at : System → Option ℕ → Option Component
component_at system None = None
component_at system (Some y) = slice_get system.components y

-- the leaf after which one starts
abbrev pub before : System → Component → Option Component
before system c = component_at system (number_named c.node.after (λ name. numbered 0 name system.components))

abbrev pub after_text : Option Component → List ℕ
after_text None = []
after_text (Some c) = line 1 (codes "after " ++ c.node.name)

-- that is reported while it has not started
abbrev pub start_text : System → Component → Phase → List ℕ
start_text system c Pending = after_text (before system c)
start_text system c Running = []
start_text system c Blocked = []
start_text system c Serving = []
start_text system c Handling = []
start_text system c Exited = []

-- the place of the next step, if there is one
abbrev pub next_text : Option Due → List ℕ
next_text None = []
next_text (Some d) = line 1 (codes "next: " ++ section_word d.place.section ++ codes " at " ++ decimal d.place.number ++ d.place.statement)

abbrev pub leaf_text : ℕ → System → Traced → ℕ → Option Component → Option Leaf → List ℕ
leaf_text version system t x (Some c) (Some leaf) =
    start_text system c leaf.phase ++ items_text version (leaf_items system t.world x c leaf leaf.phase) ++ next_text (due system x t)
leaf_text version system t x _ _ = []

-- INITS

abbrev pub is_live : Phase → Bool
is_live Pending = false
is_live Running = true
is_live Blocked = true
is_live Serving = true
is_live Handling = true
is_live Exited = false

abbrev pub lives : Option Leaf → Bool
lives None = false
lives (Some leaf) = is_live leaf.phase

-- a leaf has its quantum while it lives, an init always
abbrev pub has_quantum : World → Option ℕ → Bool
has_quantum w None = true
has_quantum w (Some x) = lives (slice_get w.leaves x)

abbrev pub is_at : ℕ → Option ℕ → Bool
is_at n None = false
is_at n (Some parent) = parent == n

-- what the n-th node hands to this one, if that is a live child of it
abbrev pub child_items : World → ℕ → NodeRow → List Item
child_items w n child =
    if is_at n child.parent && has_quantum w child.leaf then item 1 Handed child.quantum (codes " to " ++ child.label) ∷ [] else []

-- and to these
abbrev pub handed_items : World → ℕ → List NodeRow → List Item
handed_items w n [] = []
handed_items w n (child ∷ rest) =
    child_items w n child ++ handed_items w n rest

abbrev pub init_items : World → ℕ → NodeRow → List NodeRow → List Item
init_items w n init nodes = item 1 Given init.quantum [] ∷ [] ++ handed_items w n nodes

-- NODES

-- what is reported of the n-th node below its account
abbrev pub node_text : Scenario → Traced → ℕ → NodeRow → Option ℕ → List ℕ
node_text s t n node None = items_text s.version (init_items t.world n node (node_rows s))
node_text s t n node (Some x) = leaf_text s.version (system s) t x (slice_get (components s) x) (slice_get t.world.leaves x)

-- these accounts, from the n-th on, each with what its node is made of
abbrev pub nodes_text : Scenario → Traced → ℕ → List Account → List NodeRow → List ℕ
nodes_text s t n [] nodes = []
nodes_text s t n (a ∷ accounts) [] = []
nodes_text s t n (a ∷ accounts) (node ∷ nodes) =
    account_line s.version a ++ node_text s t n node node.leaf ++ nodes_text s t (suc n) accounts nodes

-- all nodes in preorder
abbrev pub text_in : Scenario → Traced → List ℕ
text_in s t = nodes_text s t 0 (accounts_in s t.world (step_budgets (budgets s))) (node_rows s)

abbrev pub state_text : Scenario → Acts → List ℕ
state_text s turns = text_in s (after_all (system s) turns (start_traced (system s)))
