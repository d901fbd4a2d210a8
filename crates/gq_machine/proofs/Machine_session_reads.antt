-- What is reported of the sessions and the requests of a machine.
use Rattle.std.proofs.Common.{◌≡◌, ◌<◌, ◌≤◌, ℕ, zero, suc, inl, inr, List, [], ◌∷◌, length, map, get_or, option_map, is_some, Option, Some}
use Rattle.std.proofs.Common.{None, IfSome, eqb, refl, sym, ap, subst, ◌∙◌, arith}
use Rattle.std.specs.Prelude.{IsTrue, slice_get, slice_index}
use Rattle.std.proofs.lemmas.Bool.Decides.{eqb_tells}
use Rattle.std.proofs.lemmas.List.{length-map}
use Rattle.gq_model.specs.declared.section.Section.{Section}
use Rattle.gq_model.specs.machine.Step.{is_to, oldest, section_asked}
use Rattle.gq_model.specs.machine.Scenario.{components}
use Rattle.gq_model.specs.machine.World as world
use Rattle.gq_model.proofs.Small_facts.{none_some, some_same}
use Rattle.gq_tariff.specs.declared.class.Class.{Class}
use Rattle.gq_store.specs.Store.{Store}
use Rattle.gq_heap.specs.declared.heap.Heap.{Heap}
use Rattle.gq_heap.specs.Classes.{index_of}
use Rattle.gq_heap.specs.Heap.{bin_at, no_bin, peak_of, peaks_of}
use Rattle.gq_heap.specs.declared.bin.Bin.{Bin}
use Rattle.gq_contents.specs.declared.content.Content.{Content}
use Rattle.gq_contents.specs.Contents.{seen}
use Rattle.gq_trade.specs.Numbers.{IsTaken}
use Rattle.gq_trade.specs.Queues.{IsOldest, oldest_to}
use Rattle.gq_trade.specs.Queues as queue
use Rattle.gq_trade.proofs.Sessions_kept.{between_some}
use Rattle.gq_trade.specs.Seen_sessions.{seen_in, session_seen, slot_id_seen}
use Rattle.gq_trade.specs.Seen_requests.{AreServed, ask_seen, request_seen, taken_seen}
use Rattle.gq_trade.specs.Trading.{AreOf, found, session_at}
use Rattle.gq_trade.specs.Trades.{Trades}
use Rattle.gq_trade.specs.declared.requests.Request.{Request}
use Rattle.gq_trade.specs.declared.session.Session.{Session}
use Rattle.gq_trade.specs.declared.session.SlotId.{SlotId}
use Rattle.gq_trade.specs.declared.session.SlotId.TheVariants.{InLeaf, InSession, InObject}
use Rattle.gq_trade.proofs.Oldest_request_definition.{oldest_is}
use Rattle.gq_slots.specs.Slots.{Frame, IsHeapOf, IsSlotId, Slots, holder, leaves_seen, memory_of, world_seen}
use Rattle.gq_slots.proofs.Slot_change_worlds.{session_there}
use Rattle.gq_statements.specs.Systems.{AreLawful}
use Rattle.gq_statements.proofs.Asking_keeps_sessions.{session_found}
use Rattle.gq_machine.specs.Machines.{Machine}
use Rattle.gq_machine.specs.Readers.{HasSlotId, IsReportedOf, asked_in, holding_of, level_in, request_of}
use Rattle.gq_machine.specs.Machine_world.{frame_of}
use Rattle.gq_machine.specs.declared.machine.Machine.TheInside.{Inside}
use Rattle.gq_machine.specs.declared.world_reads.Asked.{Asked}
use Rattle.gq_machine.specs.declared.world_reads.Holding.{Holding}
use Rattle.gq_machine.specs.declared.world_reads.SessionState.{SessionState}
use Rattle.gq_machine.specs.internal.Machine_invariant.{Holds}
use Rattle.gq_machine.specs.internal.Starts.{machine_seen}

-- what is reported of a part of a leaf
pub reported_by : {A B : Type 0} (o : Option A) (g : A → B) (P : B → Type 0) (b : B) → P b → IfSome o (λ a. b ≡ g a) → IfSome o (λ a. P (g a))
reported_by None g P b p h = tt
reported_by (Some a) g P b p h = subst P h p

-- SESSIONS

none_there : (g : Session → world.Session) (ss : List (Option Session)) (k : ℕ) → get_or ss k None ≡ None
    → world.joined (slice_get (map (seen_in g) ss) k) ≡ None
none_there g [] k e = refl
none_there g (s ∷ ss) zero e = ap (seen_in g) e
none_there g (s ∷ ss) (suc k) e = none_there g ss k e

some_there : (g : Session → world.Session) (ss : List (Option Session)) (k : ℕ) (q : Session) → get_or ss k None ≡ Some q
    → world.joined (slice_get (map (seen_in g) ss) k) ≡ Some (g q)
some_there g [] zero q e = absurd (none_some e)
some_there g [] (suc k) q e = absurd (none_some e)
some_there g (s ∷ ss) zero q e = ap (seen_in g) e
some_there g (s ∷ ss) (suc k) q e = some_there g ss k q e

-- a session that the machine's world has is taken
taken_there : (g : Session → world.Session) (ss : List (Option Session)) (k : ℕ) → IsTrue (is_some (world.joined (slice_get (map (seen_in g) ss) k)))
    → IsTaken ss k
taken_there g [] k h = cc
taken_there g (None ∷ ss) zero h = h
taken_there g (Some s ∷ ss) zero h = h
taken_there g (s ∷ ss) (suc k) h = taken_there g ss k h

-- PEAKS

peak_at : (bs : List Bin) (n : ℕ) → (get_or bs n no_bin).peak ≡ slice_index (peaks_of bs) n
peak_at [] zero = refl
peak_at [] (suc n) = refl
peak_at (b ∷ bs) zero = refl
peak_at (b ∷ bs) (suc n) = peak_at bs n

peak_of_leaf : (leaf : ℕ → world.Leaf) (st : ℕ → Store) (own : List (List Content)) (hs : List Heap) (x n r : ℕ)
    → ((h : Heap) → get_or hs x h ≡ h → r ≡ (bin_at h n).peak) → IfSome (slice_get (leaves_seen leaf st own hs) x) (λ l. r ≡ slice_index l.peaks n)
peak_of_leaf leaf st [] hs x n r is = tt
peak_of_leaf leaf st (ts ∷ own) [] x n r is = tt
peak_of_leaf leaf st (ts ∷ own) (h ∷ hs) zero n r is = is h refl ∙ peak_at h.bins n
peak_of_leaf leaf st (ts ∷ own) (h ∷ hs) (suc x) n r is = peak_of_leaf (λ y. leaf (suc y)) (λ y. st (suc y)) own hs x n r is

-- REQUESTS

served : (f : Frame) (s : Slots) (rs : List Request) → AreOf s.trades.trading.sessions rs → AreServed (world_seen f s) rs
served f s [] o = tt
served f s (r ∷ rs) o = (
  λ y.
      ap (λ z. is_to y (world.joined z)) (session_there (λ z. session_seen f.names (memory_of s z.server) z) s.trades.trading.sessions r.session o.0)
      ∙ ap (λ n. eqb n y) o.1,
  served f s rs o.2,
)

requests_seen : (k : ℕ) (rs : List Request) → request_of k (map request_seen rs) ≡ option_map request_seen (queue.request_of k rs)
requests_seen k [] = refl
requests_seen k (r ∷ rs) = elim (eqb_tells r.session k) [ inl t ↦ rw t.0 refl | inr n ↦ rw n.0 (requests_seen k rs) ]

requests_of : (ss : List (Option Session)) (k : ℕ) (rs : List Request) (r : Request) → AreOf ss rs → queue.request_of k rs ≡ Some r → IsTaken ss r.session
requests_of ss k [] r o e = absurd (none_some e)
requests_of ss k (q ∷ rs) r o e = elim (eqb_tells q.session k) [
  | inl t ↦ (let is : Some q ≡ Some r = rw t.0 at e in subst (λ (z : Request). IsTaken ss z.session) (some_same is) o.0)
  | inr n ↦ (let is : queue.request_of k rs ≡ Some r = rw n.0 at e in requests_of ss k rs r o.2 is)
]

abbrev reported_as : ℕ → Section → Asked
reported_as session section = record { session = session; section = section }

asked_is : (f : Frame) (s : Slots) (r : Request) (a : Asked) → IsTaken s.trades.trading.sessions r.session → a.session ≡ r.session
    → a.section ≡ section_asked (ask_seen r.ask) (session_at s.trades.trading r.session).level
    → a ≡ asked_in (world_seen f s) (request_seen r)
asked_is f s r a there session section =
    (λ i. reported_as (session i) (section i))
    ∙ ap (λ (o : Option world.Session). reported_as r.session (section_asked (ask_seen r.ask) (level_in o)))
    (sym (session_found f s r.session there))

-- WHAT THE MACHINE'S READERS RETURN

module _ (i : Inside) (w : Machine) (e : machine_seen i ≡ w) (h : Holds i.fixed i.state) (l : AreLawful i.state.slots) where
  abbrev t : Slots
  t = i.state.slots

  abbrev f : Frame
  f = frame_of i.fixed.table i.state.leaves.items

  abbrev of : Session → world.Session
  of y = session_seen f.names (memory_of t y.server) y

  pub request_taken : (v : Trades) → v ≡ t.trades → (k : ℕ) (o : Option Request) (r : Request) → o ≡ queue.request_of k v.trading.requests → o ≡ Some r
      → IsTaken v.trading.sessions r.session
  request_taken v same k o r is reported =
      subst (λ (y : Trades). IsTaken y.trading.sessions r.session) (sym same)
      (requests_of t.trades.trading.sessions k t.trades.trading.requests r l.trading.requests
      (ap (λ (y : Trades). queue.request_of k y.trading.requests) (sym same) ∙ sym is ∙ reported))

  pub request_read : (v : Trades) → v ≡ t.trades → (k : ℕ) (o : Option Request) (r : Request) → o ≡ queue.request_of k v.trading.requests → o ≡ Some r
      → (a : Asked) → a.session ≡ r.session
      → a.section ≡ section_asked (ask_seen r.ask) (session_at v.trading r.session).level
      → Some a ≡ option_map (asked_in w.world) (request_of k w.world.requests)
  request_read v same k o r is reported a session section =
      let there = subst (λ (y : Trades). IsTaken y.trading.sessions r.session) same (request_taken v same k o r is reported) in
      let asked = asked_is f t r a there session (section ∙ ap (λ (y : Trades). section_asked (ask_seen r.ask) (session_at y.trading r.session).level) same) in
      let first = requests_seen k t.trades.trading.requests ∙ ap (λ (y : Trades). option_map request_seen (queue.request_of k y.trading.requests)) (sym same)
      ∙ ap (option_map request_seen) (sym is ∙ reported) in
      ap Some asked ∙ ap (option_map (asked_in (world_seen f t))) (sym first)
      ∙ ap (λ (y : Machine). option_map (asked_in y.world) (request_of k y.world.requests)) e

  pub no_request_read : (v : Trades) → v ≡ t.trades → (k : ℕ) (o : Option Request) → o ≡ queue.request_of k v.trading.requests → o ≡ None
      → None ≡ option_map (asked_in w.world) (request_of k w.world.requests)
  no_request_read v same k o is reported =
      let first = requests_seen k t.trades.trading.requests ∙ ap (λ (y : Trades). option_map request_seen (queue.request_of k y.trading.requests)) (sym same)
      ∙ ap (option_map request_seen) (sym is ∙ reported) in
      ap (option_map (asked_in (world_seen f t))) (sym first)
      ∙ ap (λ (y : Machine). option_map (asked_in y.world) (request_of k y.world.requests)) e

  oldest_seen : (x : ℕ) → oldest (world_seen f t) x (world_seen f t).requests ≡ taken_seen (oldest_to x t.trades.trading.requests)
  oldest_seen x = oldest_is (world_seen f t) x t.trades.trading.requests (served f t t.trades.trading.requests l.trading.requests)

  pub oldest_read : (v : Trades) → v ≡ t.trades → (x n : ℕ) → n ≡ x → (r : Request) → IsOldest n v.trading.requests r → IsTaken v.trading.sessions r.session
      → (a : Asked) → a.session ≡ r.session
      → a.section ≡ section_asked (ask_seen r.ask) (session_at v.trading r.session).level
      → Some a ≡ option_map (λ (p : world.Request × List world.Request). asked_in w.world p.0) (oldest w.world x w.world.requests)
  oldest_read v same x n at r is taken a session section =
      let there = subst (λ (y : Trades). IsTaken y.trading.sessions r.session) same taken in
      let asked = asked_is f t r a there session (section ∙ ap (λ (y : Trades). section_asked (ask_seen r.ask) (session_at y.trading r.session).level) same) in
      let first = oldest_seen x ∙ ap taken_seen (ap (λ (y : Trades). oldest_to x y.trading.requests) (sym same)
      ∙ ap (λ m. oldest_to m v.trading.requests) (sym at) ∙ is.is) in
      ap Some asked ∙ ap (option_map (λ (p : world.Request × List world.Request). asked_in (world_seen f t) p.0)) (sym first)
      ∙ ap (λ (y : Machine). option_map (λ (p : world.Request × List world.Request). asked_in y.world p.0) (oldest y.world x y.world.requests)) e

  pub no_oldest_read : (v : Trades) → v ≡ t.trades → (x n : ℕ) → n ≡ x → oldest_to n v.trading.requests ≡ None
      → None ≡ option_map (λ (p : world.Request × List world.Request). asked_in w.world p.0) (oldest w.world x w.world.requests)
  no_oldest_read v same x n at is =
      let first = oldest_seen x ∙ ap taken_seen (ap (λ (y : Trades). oldest_to x y.trading.requests) (sym same)
      ∙ ap (λ m. oldest_to m v.trading.requests) (sym at) ∙ is) in
      ap (option_map (λ (p : world.Request × List world.Request). asked_in (world_seen f t) p.0)) (sym first)
      ∙ ap (λ (y : Machine). option_map (λ (p : world.Request × List world.Request). asked_in y.world p.0) (oldest y.world x y.world.requests)) e

  pub session_read : (v : Trades) → v ≡ t.trades → (k : ℕ) (o : Option Session) (q : Session) → o ≡ get_or v.trading.sessions k None → o ≡ Some q
      → (reported : SessionState) → reported ≡ record {
        client = q.client;
        server = q.server;
        service = q.service;
        level = q.level;
        donation = q.donation;
        accepted = q.accepted;
      } → IsReportedOf w k reported
  session_read v same k o q is one reported as_reported =
      let at = ap (λ (y : Trades). get_or y.trading.sessions k None) (sym same) ∙ sym is ∙ one in
      let between = between_some (length t.trades.trading.leaves) (length t.trades.trading.objects) t.trades.trading.sessions k q l.trading.between at in
      let taken : IsTaken t.trades.trading.sessions k = subst (λ (z : Option Session). IsTrue (is_some z)) (sym at) refl in
      let level = subst (λ (z : Option Session). (found z).level ≤ 3) at (l.trades.given k taken).level in
      let leaves = l.count in
      let count = h.of.count in
      let client = between.client in
      let server = between.server in
      let service = between.service in
      let objects = ap length h.nodes.objects ∙ length-map i.fixed.table.interfaces _ in
      let client_there : q.client < length (components i.fixed.table) = omega (arith, client, leaves, count) in
      let server_there : q.server < length (components i.fixed.table) = omega (arith, server, leaves, count) in
      let service_there : q.service < length i.fixed.table.interfaces = omega (arith, service, objects) in
      let reported_of : SessionState = record {
        client = q.client;
        server = q.server;
        service = q.service;
        level = q.level;
        donation = q.donation;
        accepted = q.accepted;
      } in
      subst (IsReportedOf w k) (sym as_reported) (subst (λ (y : Machine). IsReportedOf y k reported_of) e (record {
        session = of q;
        there = some_there of t.trades.trading.sessions k q at;
        client = refl;
        server = refl;
        service = refl;
        level = refl;
        donation = refl;
        accepted = refl;
        client_there = client_there;
        server_there = server_there;
        service_there = service_there;
        level_low = level;
      }))

  pub no_session_read : (v : Trades) → v ≡ t.trades → (k : ℕ) (o : Option Session) → o ≡ get_or v.trading.sessions k None → o ≡ None
      → world.session_at w.world k ≡ None
  no_session_read v same k o is reported =
      subst (λ (y : Machine). world.session_at y.world k ≡ None) e
      (none_there of t.trades.trading.sessions k (ap (λ (y : Trades). get_or y.trading.sessions k None) (sym same) ∙ sym is ∙ reported))

  slot_ids : (p : SlotId) → HasSlotId (machine_seen i) p → IsSlotId t p
  slot_ids (InLeaf x n) there =
      let count = h.of.count in
      let less = there.0 in
      (omega (arith, count, less), there.1)
  slot_ids (InSession k n) there = (taken_there of t.trades.trading.sessions k there.0, there.1)
  slot_ids (InObject k) there = taken_there of t.trades.trading.sessions k there

  pub slot_id_there : (p : SlotId) → HasSlotId w p → IsSlotId t p
  slot_id_there p there = slot_ids p (subst (λ (y : Machine). HasSlotId y p) (sym e) there)

  pub holding_read : (p : SlotId) (c : Content) (o : Holding)
      → ((g : Frame) → world.slot_at (world_seen g t) (slot_id_seen p) ≡ Some (seen (memory_of t (holder t p)) c))
      → ((st : Store) → o ≡ holding_of (seen st c)) → option_map holding_of (world.slot_at w.world (slot_id_seen p)) ≡ Some o
  holding_read p c o reads is =
      subst (λ (y : Machine). option_map holding_of (world.slot_at y.world (slot_id_seen p)) ≡ Some o) e
      (ap (option_map holding_of) (reads f) ∙ ap Some (sym (is (memory_of t (holder t p)))))

  pub peak_read : (x n : ℕ) (c : Class) (r : ℕ) → n ≡ x → ((hp : Heap) → IsHeapOf t n hp → r ≡ peak_of hp c)
      → IfSome (slice_get w.world.leaves x) (λ z. r ≡ slice_index z.peaks (index_of c))
  peak_read x n c r at is =
      subst (λ (y : Machine). IfSome (slice_get y.world.leaves x) (λ z. r ≡ slice_index z.peaks (index_of c))) e
      (peak_of_leaf f.leaf (memory_of t) t.own t.heaps x (index_of c) r (λ hp own. is hp (ap (λ m. get_or t.heaps m hp) at ∙ own)))
