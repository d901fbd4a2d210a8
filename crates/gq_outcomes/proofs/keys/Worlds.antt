-- Keys of slots, sessions, requests, leaves and worlds.
use Rattle.std.proofs.Common.{◌≡◌, ℕ, Bool, true, false, List, ◌∷◌, ◌++◌, drop, Option, refl, ap, arith}
use Rattle.gq_model.specs.declared.phase.Phase.{Phase}
use Rattle.gq_model.specs.declared.program.Form.{Form}
use Rattle.gq_model.specs.declared.section.Section.{Section}
use Rattle.gq_model.specs.machine.Program.{Statements}
use Rattle.gq_model.specs.machine.World.{Slot, Empty, Bytes, Pool, Link, Waiting, SlotId, In_leaf, In_session, In_object, Session, Ask, Ask_open, Ask_upgrade}
use Rattle.gq_model.specs.machine.World.{Ask_close, Ask_call, Request, Current, Round, Signal, Leaf, World}
use Rattle.gq_outcomes.specs.internal.Keys.{ask_key, bytes_key, current_key, flag, form_tag, leaf_key, left_key, list_key, number_key, option_key, phase_tag}
use Rattle.gq_outcomes.specs.internal.Keys.{request_key, section_key, session_key, signal_key, signals_key, slot_id_key, slot_key, slots_key, text_key}
use Rattle.gq_outcomes.specs.internal.Keys.{world_key}
use Rattle.gq_outcomes.proofs.keys.Numbers.{IsFree, both_free, bytes_free, list_free, number_free, option_free, text_free, via_free}
use Rattle.gq_outcomes.proofs.keys.Parts.{form_same, phase_same, section_free, tagged}
use Rattle.gq_outcomes.proofs.keys.Statements.{left_free}

-- SLOTS

numbers_free : IsFree (λ (p : ℕ × ℕ). number_key p.0 ++ number_key p.1)
numbers_free = both_free number_key number_key number_free number_free

abbrev memory_key : ℕ × List ℕ → List ℕ
memory_key p = number_key p.0 ++ bytes_key 0 p.1

memory_free : IsFree memory_key
memory_free = both_free number_key (bytes_key 0) number_free bytes_free

abbrev entries_key : List (Option (List ℕ)) → List ℕ
entries_key entries = list_key (option_key text_key) entries

pub slot_free : IsFree slot_key
slot_free Empty Empty r s e = (refl, ap (drop 1) e)
slot_free (Bytes f n a) (Bytes g m b) r s e =
    let p = tagged form_tag form_same memory_key memory_free (f, (n, a)) (g, (m, b)) r s (ap (drop 1) e) in
    (ap (λ (q : Form × (ℕ × List ℕ)). Bytes q.0 q.1.0 q.1.1) p.0, p.1)
slot_free (Pool n a) (Pool m b) r s e =
    let p = both_free number_key entries_key number_free (list_free (option_key text_key) (option_free text_key text_free)) (n, a) (m, b) r s (ap (drop 1) e) in
    (ap (λ (q : ℕ × List (Option (List ℕ))). Pool q.0 q.1) p.0, p.1)
slot_free (Link i) (Link j) r s e = let p = number_free i j r s (ap (drop 1) e) in (ap Link p.0, p.1)
slot_free (Waiting i) (Waiting j) r s e = let p = number_free i j r s (ap (drop 1) e) in (ap Waiting p.0, p.1)
slot_free _ _ r s e = absurd (cc e)

pub slots_free : IsFree slots_key
slots_free = list_free slot_key slot_free

pub slot_id_free : IsFree slot_id_key
slot_id_free (In_leaf x i) (In_leaf y j) r s e =
    let p = numbers_free (x, i) (y, j) r s (ap (drop 1) e) in (ap (λ (q : ℕ × ℕ). In_leaf q.0 q.1) p.0, p.1)
slot_id_free (In_session x i) (In_session y j) r s e =
    let p = numbers_free (x, i) (y, j) r s (ap (drop 1) e) in (ap (λ (q : ℕ × ℕ). In_session q.0 q.1) p.0, p.1)
slot_id_free (In_object x) (In_object y) r s e = let p = number_free x y r s (ap (drop 1) e) in (ap In_object p.0, p.1)
slot_id_free _ _ r s e = absurd (cc e)

-- SESSIONS

flag_same : (a b : Bool) → flag a ≡ flag b → a ≡ b
flag_same true true e = refl
flag_same false false e = refl
flag_same true false e = absurd (omega (arith, e))
flag_same false true e = absurd (omega (arith, e))

abbrev SessionParts : Type 0
SessionParts = ℕ × (SlotId × (ℕ × (List ℕ × (ℕ × (ℕ × (ℕ × (Bool × (Slot × List Slot))))))))

abbrev parts_of_session : Session → SessionParts
parts_of_session s =
    (s.client, (s.slot_id, (s.server, (s.service, (s.level, (s.donation.ram, (s.donation.caps, (s.accepted, (s.object, s.slots)))))))))

abbrev session_of : SessionParts → Session
session_of p =
    record {
      client = p.0;
      slot_id = p.1.0;
      server = p.1.1.0;
      service = p.1.1.1.0;
      level = p.1.1.1.1.0;
      donation = record { ram = p.1.1.1.1.1.0; caps = p.1.1.1.1.1.1.0 };
      accepted = p.1.1.1.1.1.1.1.0;
      object = p.1.1.1.1.1.1.1.1.0;
      slots = p.1.1.1.1.1.1.1.1.1;
    }

abbrev flagged_key : Bool × (Slot × List Slot) → List ℕ
flagged_key p = flag p.0 ∷ (slot_key p.1.0 ++ slots_key p.1.1)

flagged_free : IsFree flagged_key
flagged_free = tagged flag flag_same (λ (q : Slot × List Slot). slot_key q.0 ++ slots_key q.1) (both_free slot_key slots_key slot_free slots_free)

pub session_free : IsFree session_key
session_free =
    via_free parts_of_session session_of (λ s. refl) _
    (both_free number_key _ number_free
    (both_free slot_id_key _ slot_id_free
    (both_free number_key _ number_free
    (both_free text_key _ text_free
    (both_free number_key _ number_free
    (both_free number_key _ number_free
    (both_free number_key flagged_key number_free flagged_free)))))))

-- REQUESTS AND CURRENT SESSIONS

pub ask_free : IsFree ask_key
ask_free Ask_open Ask_open r s e = (refl, ap (drop 1) e)
ask_free Ask_upgrade Ask_upgrade r s e = (refl, ap (drop 1) e)
ask_free Ask_close Ask_close r s e = (refl, ap (drop 1) e)
ask_free (Ask_call a) (Ask_call b) r s e = let p = number_free a b r s (ap (drop 1) e) in (ap Ask_call p.0, p.1)
ask_free _ _ r s e = absurd (cc e)

pub request_free : IsFree request_key
request_free =
    via_free (λ (q : Request). (q.session, q.ask)) (λ (p : ℕ × Ask). record { session = p.0; ask = p.1 }) (λ q. refl) _
    (both_free number_key ask_key number_free ask_free)

pub current_free : IsFree current_key
current_free =
    via_free (λ (c : Current). (c.session, c.section)) (λ (p : ℕ × Section). record { session = p.0; section = p.1 }) (λ c. refl) _
    (both_free number_key section_key number_free section_free)

-- LEAVES

abbrev left_of : Statements × List Round → List ℕ
left_of p = left_key p.0 p.1

left_pair_free : IsFree left_of
left_pair_free p q r s e = let h = left_free p.0 q.0 p.1 q.1 r s e in ((λ k. (h.0 k, h.1 k)), h.2)

abbrev SignalParts : Type 0
SignalParts = Bool × ℕ

pub signal_free : IsFree signal_key
signal_free =
    via_free (λ (s : Signal). (s.submitted, s.taken)) (λ (p : SignalParts). record { submitted = p.0; taken = p.1 }) (λ s. refl)
    (λ (p : SignalParts). flag p.0 ∷ number_key p.1) (tagged flag flag_same number_key number_free)

abbrev Reacts : Type 0
Reacts = Option ℕ × List Signal

abbrev signals_of : Reacts → List ℕ
signals_of p = signals_key p.0 p.1

signals_free : IsFree signals_of
signals_free = both_free (option_key number_key) (list_key signal_key) (option_free number_key number_free) (list_free signal_key signal_free)

abbrev LeafParts : Type 0
LeafParts = Phase × (Option Current × ((Statements × List Round) × (List ℕ × (List ℕ × (List ℕ × (ℕ × (List ℕ × (Reacts × List Slot))))))))

abbrev parts_of_leaf : Leaf → LeafParts
parts_of_leaf l =
    (l.phase, (l.current, ((l.todo, l.loops), (l.operands, (l.locals, (l.peaks, (l.steps, (l.inputs, ((l.reacting, l.signals), l.slots)))))))))

abbrev leaf_with : LeafParts → Leaf
leaf_with p =
    record {
      phase = p.0;
      current = p.1.0;
      reacting = p.1.1.1.1.1.1.1.1.0.0;
      todo = p.1.1.0.0;
      loops = p.1.1.0.1;
      operands = p.1.1.1.0;
      locals = p.1.1.1.1.0;
      slots = p.1.1.1.1.1.1.1.1.1;
      peaks = p.1.1.1.1.1.0;
      steps = p.1.1.1.1.1.1.0;
      inputs = p.1.1.1.1.1.1.1.0;
      signals = p.1.1.1.1.1.1.1.1.0.1;
    }

abbrev LeafRest : Type 0
LeafRest = Option Current × ((Statements × List Round) × (List ℕ × (List ℕ × (List ℕ × (ℕ × (List ℕ × (Reacts × List Slot)))))))

abbrev rest_key : LeafRest → List ℕ
rest_key x =
    option_key current_key x.0
    ++ (left_of x.1.0
    ++ (text_key x.1.1.0
    ++ (text_key x.1.1.1.0
    ++ (text_key x.1.1.1.1.0
    ++ (number_key x.1.1.1.1.1.0 ++ (text_key x.1.1.1.1.1.1.0 ++ (signals_of x.1.1.1.1.1.1.1.0 ++ slots_key x.1.1.1.1.1.1.1.1)))))))

rest_free : IsFree rest_key
rest_free =
    both_free (option_key current_key) _ (option_free current_key current_free)
    (both_free left_of _ left_pair_free
    (both_free text_key _ text_free
    (both_free text_key _ text_free
    (both_free text_key _ text_free
    (both_free number_key _ number_free
    (both_free text_key _ text_free
    (both_free signals_of slots_key signals_free slots_free)))))))

pub leaf_free : IsFree leaf_key
leaf_free =
    via_free parts_of_leaf leaf_with (λ l. refl) (λ (x : LeafParts). phase_tag x.0 ∷ rest_key x.1) (tagged phase_tag phase_same rest_key rest_free)

-- WORLDS

pub world_free : IsFree world_key
world_free =
    via_free (λ (w : World). (w.leaves, (w.sessions, w.requests)))
    (λ (p : List Leaf × (List (Option Session) × List Request)). record { leaves = p.0; sessions = p.1.0; requests = p.1.1 }) (λ w. refl) _
    (both_free (list_key leaf_key) _ (list_free leaf_key leaf_free)
    (both_free (list_key (option_key session_key)) (list_key request_key) (list_free (option_key session_key) (option_free session_key session_free))
    (list_free request_key request_free)))
