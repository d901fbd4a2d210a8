-- A server that counts what its clients ask of it together, and one that counts for each session alone; servers behind servers; and leaves that read inputs.
-- By computation.
use Rattle.std.proofs.Common.{◌≡◌, ℕ, true, false, List, [], ◌∷◌, ◌++◌, codes, None, refl}
use Rattle.std.specs.Fmt.{digits}
use Rattle.gq_model.specs.declared.program.Form.TheVariants.{Slice}
use Rattle.gq_model.specs.declared.program.Instruction.TheVariants.{Out, Make, Load, Store, Free, Give, Open, Call, Close}
use Rattle.gq_model.specs.declared.program.Operator.TheVariants.{Add}
use Rattle.gq_model.specs.declared.program.OperandSlot.{OperandSlot}
use Rattle.gq_model.specs.declared.program.OperandSlot.TheVariants.{Own, Shared, Object}
use Rattle.gq_model.specs.declared.section.Section.TheVariants.{Main, Opening, Calling, Closing, Reacting}
use Rattle.gq_model.specs.declared.program.Width.TheVariants.{Byte, Word}
use Rattle.gq_tariff.specs.declared.amount.Resource.TheVariants.{Ram}
use Rattle.gq_model.specs.machine.Amounts.{amount}
use Rattle.gq_model.specs.machine.Program.{Statements, Done, Do, If, Loop}
use Rattle.gq_model.specs.machine.Lists.{any_of}
use Rattle.gq_model.specs.machine.Scenario.{Scenario, Interface, LeafNode, system}
use Rattle.gq_model.specs.rules.Accept.{refusal}
use Rattle.gq_model.specs.texts.Letters.{fed_lines}
use Rattle.gq_model.proofs.Sample_scenarios.{all_do, leaf, server, leaves, served, main_of}
use Rattle.gq_races.specs.Races.{Stated, changes_own, found_in, inputs, is_owner, is_shared, orders, races, reactions}
use Rattle.gq_races.specs.Race_text.{races_text}
use Rattle.gq_races.specs.Races_written.{HasNoLine, begins}
use Rattle.gq_model.proofs.Statement_word_rows.{drop, combine, push, input}

abbrev tally : Interface
tally = record { arg = 10; reply = 255; need = amount 8192 0; object = 0; upgrades = []; buffer = 0; counted = Ram ∷ [] }

-- adds 1 to the number that stands first at a place, and answers the number at the place that is asked for
abbrev counting : OperandSlot → Statements
counting place =
    all_do (push 0 ∷ push 0 ∷ Load Byte place ∷ push 1 ∷ combine Add ∷ Store Byte place ∷ Load Byte place ∷ [])

-- the numbers stand in the server's own slot
abbrev pub together : LeafNode
together =
    server (codes "srv") 8192 (codes "tally") ((Main, all_do (Make Slice (Own 0) 16 ∷ [])) ∷ (Opening, Done) ∷ (Calling 0, counting (Own 0))
    ∷ (Closing 0, Done) ∷ [])

-- they stand in a slot of the session
abbrev pub apart : LeafNode
apart =
    server (codes "srv") 4096 (codes "tally") ((Main, Done) ∷ (Opening, all_do (Make Slice (Shared 0) 16 ∷ [])) ∷ (Calling 0, counting (Shared 0))
    ∷ (Closing 0, all_do (Free (Shared 0) ∷ [])) ∷ [])

-- a client of a service
abbrev client_of : List ℕ → List ℕ → LeafNode
client_of service name = leaf name 16384 (main_of (Open (Own 0) service 8192 ∷ push 0 ∷ Call (Own 0) ∷ Out ∷ Close (Own 0) ∷ []))

abbrev client : List ℕ → LeafNode
client = client_of (codes "tally")

abbrev with_clients : LeafNode → List LeafNode → Scenario
with_clients srv clients = served ((codes "tally", tally) ∷ []) (leaves (srv ∷ clients))

abbrev pub two : LeafNode → Scenario
two srv = with_clients srv (client (codes "a") ∷ client (codes "b") ∷ [])

abbrev pub single : LeafNode → Scenario
single srv = with_clients srv (client (codes "a") ∷ [])

-- a server that calls the one that counts by a link in its own slot, and its clients
abbrev pub relay : LeafNode
relay =
    server (codes "mid") 16384 (codes "relay") ((Main, all_do (Open (Own 0) (codes "tally") 8192 ∷ [])) ∷ (Opening, Done)
    ∷ (Calling 0, all_do (Call (Own 0) ∷ [])) ∷ (Closing 0, Done) ∷ [])

abbrev pub relayed : List LeafNode → Scenario
relayed clients = served ((codes "relay", tally) ∷ (codes "tally", tally) ∷ []) (leaves (together ∷ relay ∷ clients))

abbrev pub relayed_once : Scenario
relayed_once = relayed (client_of (codes "relay") (codes "a") ∷ [])

abbrev pub relayed_twice : Scenario
relayed_twice = relayed (client_of (codes "relay") (codes "a") ∷ client_of (codes "relay") (codes "b") ∷ [])

-- a server that opens a session with the one that counts for each of its own, and its clients
abbrev pub behind : LeafNode
behind =
    server (codes "mid") 16384 (codes "relay") ((Main, Done) ∷ (Opening, all_do (Open (Shared 0) (codes "tally") 8192 ∷ []))
    ∷ (Calling 0, all_do (Call (Shared 0) ∷ [])) ∷ (Closing 0, all_do (Close (Shared 0) ∷ [])) ∷ [])

abbrev wide : Interface
wide = record tally { need = amount 16384 0 }

abbrev client_both : LeafNode
client_both =
    leaf (codes "a") 32768 (main_of (Open (Own 0) (codes "relay") 16384 ∷ Open (Own 1) (codes "tally") 8192 ∷ push 0 ∷ Call (Own 0) ∷ Out ∷ Close (Own 0)
    ∷ Close (Own 1) ∷ []))

abbrev client_of_mid : LeafNode
client_of_mid = leaf (codes "a") 20480 (main_of (Open (Own 0) (codes "relay") 16384 ∷ push 0 ∷ Call (Own 0) ∷ Out ∷ Close (Own 0) ∷ []))

abbrev pub behind_of : List LeafNode → Scenario
behind_of clients = served ((codes "relay", wide) ∷ (codes "tally", tally) ∷ []) (leaves (together ∷ behind ∷ clients))

-- all clients are one leaf's `main`, or there is another
abbrev pub behind_one : Scenario
behind_one = behind_of (client_both ∷ [])

abbrev pub behind_two : Scenario
behind_two = behind_of (client_of_mid ∷ client_of (codes "tally") (codes "b") ∷ [])

-- a server that reads its inputs in `main` and in another section, where it keeps what it read in its own slot
abbrev pub sensor : LeafNode
sensor =
    record (server (codes "srv") 8192 (codes "tally") ((Main, all_do (Make Slice (Own 0) 16 ∷ input 1 ∷ drop ∷ [])) ∷ (Opening, Done)
    ∷ (Calling 0, all_do (input 0 ∷ Store Byte (Own 0) ∷ push 0 ∷ Load Byte (Own 0) ∷ [])) ∷ (Closing 0, Done) ∷ [])) { inputs = 15 ∷ 8 ∷ [] }

-- a client that asks by what it reads
abbrev pub asker : LeafNode
asker =
    record (leaf (codes "a") 16384 (main_of (input 0 ∷ Open (Own 0) (codes "tally") 8192 ∷ Call (Own 0) ∷ Out ∷ Close (Own 0) ∷ []))) { inputs = 10 ∷ [] }

abbrev pub sensed_once : Scenario
sensed_once = with_clients sensor (asker ∷ [])

abbrev pub sensed_twice : Scenario
sensed_twice = with_clients sensor (asker ∷ client (codes "b") ∷ [])

-- one that has numbers for each session alone, and reads an input in `main`
abbrev pub set_up : LeafNode
set_up =
    record (server (codes "srv") 4096 (codes "tally") ((Main, all_do (input 0 ∷ drop ∷ [])) ∷ (Opening, all_do (Make Slice (Shared 0) 16 ∷ []))
    ∷ (Calling 0, counting (Shared 0)) ∷ (Closing 0, all_do (Free (Shared 0) ∷ [])) ∷ [])) { inputs = 1 ∷ [] }

-- one that has two signals, and changes its own slot and writes a line for one of them
abbrev pub ticked : LeafNode
ticked =
    record (server (codes "srv") 8192 (codes "tally") ((Main, all_do (Make Slice (Own 0) 16 ∷ [])) ∷ (Opening, Done)
    ∷ (Calling 0, all_do (Load Byte (Own 0) ∷ [])) ∷ (Closing 0, Done)
    ∷ (Reacting 0, all_do (push 0 ∷ push 0 ∷ Store Byte (Own 0) ∷ push 1 ∷ Out ∷ [])) ∷ (Reacting 1, all_do (input 0 ∷ drop ∷ [])) ∷ [])) {
      inputs = 9 ∷ [];
      signals = 2;
    }

-- all are accepted
accepted_together : refusal (two together) ≡ None
accepted_together = refl

accepted_apart : refusal (two apart) ≡ None
accepted_apart = refl

accepted_single : refusal (single together) ≡ None
accepted_single = refl

accepted_relayed : refusal relayed_once ≡ None
accepted_relayed = refl

accepted_behind : refusal behind_one ≡ None
accepted_behind = refl

accepted_sensed : refusal sensed_twice ≡ None
accepted_sensed = refl

accepted_set_up : refusal (two set_up) ≡ None
accepted_set_up = refl

accepted_ticked : refusal (two ticked) ≡ None
accepted_ticked = refl

-- OWNERS

-- the client owns both, as all sessions with the one are opened for it, in its `main` or in a section of the other
owner_of_mid : is_owner (system behind_one) 2 1 ≡ true
owner_of_mid = refl

owner_of_srv : is_owner (system behind_one) 2 0 ≡ true
owner_of_srv = refl

not_shared : is_shared (system behind_one) 0 ≡ false
not_shared = refl

-- with another client the server behind is shared, and the one before it is not
shared_behind : is_shared (system behind_two) 0 ≡ true
shared_behind = refl

mid_of_two : is_shared (system behind_two) 1 ≡ false
mid_of_two = refl

-- WHAT RACES

-- the sixth statement of the server's section for calls, where it has two clients
race_together : races (two together) ≡ record { leaf = codes "init -> srv"; section = Calling 0; place = 6; statement = Store Byte (Own 0) } ∷ []
race_together = refl

none_apart : races (two apart) ≡ []
none_apart = refl

-- with one client the same statement races with none
none_single : races (single together) ≡ []
none_single = refl

-- nor do these of a server with one client that has another for itself alone
none_relayed : races relayed_once ≡ []
none_relayed = refl

-- with two clients it is the call by its own link that races; the server behind it still has one client
race_relayed : races relayed_twice ≡ record { leaf = codes "init -> mid"; section = Calling 0; place = 1; statement = Call (Own 0) } ∷ []
race_relayed = refl

none_behind : races behind_one ≡ []
none_behind = refl

none_ordered : orders (two together) ≡ []
none_ordered = refl

-- WHO READS INPUTS

abbrev read_in_main : Stated
read_in_main = record { leaf = codes "init -> srv"; section = Main; place = 2; statement = input 1 }

abbrev read_in_call : Stated
read_in_call = record { leaf = codes "init -> srv"; section = Calling 0; place = 1; statement = input 0 }

abbrev stored_in_call : Stated
stored_in_call = record { leaf = codes "init -> srv"; section = Calling 0; place = 2; statement = Store Byte (Own 0) }

abbrev read_by_client : Stated
read_by_client = record { leaf = codes "init -> a"; section = Main; place = 1; statement = input 0 }

-- with one client no leaf is shared, and no `in` is a race
race_sensed : races sensed_once ≡ []
race_sensed = refl

-- each is an input
input_sensed : inputs sensed_once ≡ read_in_main ∷ read_in_call ∷ read_by_client ∷ []
input_sensed = refl

-- with two clients the server is shared, and the statement that changes its own slot is a race
race_shared_sensed : races sensed_twice ≡ stored_in_call ∷ []
race_shared_sensed = refl

input_shared_sensed : inputs sensed_twice ≡ read_in_main ∷ read_in_call ∷ read_by_client ∷ []
input_shared_sensed = refl

-- none is an order
none_read_ordered : orders sensed_twice ≡ []
none_read_ordered = refl

-- SIGNALS

reactions_ticked : reactions (two ticked)
    ≡ record { leaf = codes "init -> srv"; section = Reacting 0 } ∷ record { leaf = codes "init -> srv"; section = Reacting 1 } ∷ []
reactions_ticked = refl

-- in a shared leaf a section that a signal begins is one outside `main`
race_ticked : races (two ticked) ≡ record { leaf = codes "init -> srv"; section = Reacting 0; place = 3; statement = Store Byte (Own 0) } ∷ []
race_ticked = refl

none_ticked_once : races (single ticked) ≡ []
none_ticked_once = refl

-- AS TEXT

printed_together : races_text (two together)
    ≡ codes "shared init -> srv tally" ++ 10 ∷ codes "  opened by init -> a in main at 1" ++ 10 ∷ codes "  opened by init -> b in main at 1" ++ 10
    ∷ codes "race init -> srv in call 0 at 6 store o0" ++ 10 ∷ []
unfolding digits
printed_together = refl

printed_behind : races_text behind_two
    ≡ codes "shared init -> srv tally" ++ 10 ∷ codes "  opened by init -> mid in open at 1" ++ 10 ∷ codes "  opened by init -> b in main at 1" ++ 10
    ∷ codes "race init -> srv in call 0 at 6 store o0" ++ 10 ∷ []
unfolding digits
printed_behind = refl

printed_apart : races_text (two apart) ≡ []
printed_apart = refl

-- each `in` of a leaf that is not shared has a line, and no opener has one
printed_sensed : races_text sensed_once
    ≡ codes "input init -> srv in main at 2 in 1" ++ 10 ∷ codes "input init -> srv in call 0 at 1 in 0" ++ 10
    ∷ codes "input init -> a in main at 1 in 0" ++ 10 ∷ []
unfolding digits
printed_sensed = refl

-- of a shared leaf the openers come first, then its races and inputs, those in `main` too
printed_shared_sensed : races_text sensed_twice
    ≡ codes "shared init -> srv tally" ++ 10 ∷ codes "  opened by init -> a in main at 2" ++ 10 ∷ codes "  opened by init -> b in main at 1" ++ 10
    ∷ codes "input init -> srv in main at 2 in 1" ++ 10 ∷ codes "input init -> srv in call 0 at 1 in 0" ++ 10
    ∷ codes "race init -> srv in call 0 at 2 store o0" ++ 10 ∷ codes "input init -> a in main at 1 in 0" ++ 10 ∷ []
unfolding digits
printed_shared_sensed = refl

-- no opener has a line where a shared leaf has neither a race nor an order
printed_set_up : races_text (two set_up) ≡ codes "input init -> srv in main at 1 in 0" ++ 10 ∷ []
unfolding digits
printed_set_up = refl

-- each section that a signal begins has a line before those of its statements
printed_ticked : races_text (two ticked)
    ≡ codes "shared init -> srv tally" ++ 10 ∷ codes "  opened by init -> a in main at 1" ++ 10 ∷ codes "  opened by init -> b in main at 1" ++ 10
    ∷ codes "signal init -> srv in on 0" ++ 10 ∷ codes "race init -> srv in on 0 at 3 store o0" ++ 10 ∷ codes "order init -> srv in on 0 at 5 out" ++ 10
    ∷ codes "signal init -> srv in on 1" ++ 10 ∷ codes "input init -> srv in on 1 at 1 in 0" ++ 10 ∷ []
unfolding digits
printed_ticked = refl

-- with one client only the signals and the inputs have lines
printed_ticked_once : races_text (single ticked)
    ≡ codes "signal init -> srv in on 0" ++ 10 ∷ codes "signal init -> srv in on 1" ++ 10 ∷ codes "input init -> srv in on 1 at 1 in 0" ++ 10 ∷ []
unfolding digits
printed_ticked_once = refl

-- an `if` and a `loop` are counted before what is in them, and the first arm before the second
counted_inside : found_in changes_own 1 (Loop 2 (If (Do drop (Do (Give (Own 3)) Done)) (Do (Store Word (Own 0)) Done) (Do (Store Byte Object) Done))
    (Do (Call (Own 1)) Done))
    ≡ (4, Give (Own 3)) ∷ (5, Store Word (Own 0)) ∷ (7, Call (Own 1)) ∷ []
counted_inside = refl

-- LINES

-- a line that has the word elsewhere does not begin with it
no_race_line : HasNoLine (codes "race ") (codes "shared init -> race race\n  opened by race in main at 1\norder race in call 0 at 1 out\n")
no_race_line = refl

no_race_apart : HasNoLine (codes "race ") (races_text (two apart))
unfolding digits
no_race_apart = refl

race_line_together : any_of (begins (codes "race ")) (fed_lines (races_text (two together))) ≡ true
unfolding digits
race_line_together = refl

no_order_together : HasNoLine (codes "order ") (races_text (two together))
unfolding digits
no_order_together = refl
