-- What stays where a leaf asks for something.
use Rattle.std.proofs.Common.{◌≡◌, ℕ, ◌<◌, ◌≤◌, inl, inr, true, false, length, get_or, get_or-set_same, get_or-set_other, Some, None, IsTrue, is_some, refl}
use Rattle.std.proofs.Common.{sym, ap, subst, ◌∙◌, arith}
use Rattle.std.proofs.lemmas.Bool.{cases_lt}
use Rattle.std.proofs.lemmas.Bool.Decides.{eqb_tells}
use Rattle.gq_model.specs.machine.Requests.{free_place}
use Rattle.gq_model.specs.machine.Scenario.{System}
use Rattle.gq_model.specs.machine.Sums.{paid}
use Rattle.gq_model.specs.machine.World as world
use Rattle.gq_trade.specs.Numbers.{IsTaken, free_number}
use Rattle.gq_ram.specs.Account_table.{available, available_caps}
use Rattle.gq_contents.specs.declared.content.Content.{Content}
use Rattle.gq_contents.specs.Contents.{seen}
use Rattle.gq_trade.specs.Seen_sessions.{session_seen, slot_id_seen}
use Rattle.gq_trade.specs.Trading.{session_at}
use Rattle.gq_trade.specs.declared.requests.Ask.{Ask}
use Rattle.gq_trade.specs.declared.session.Session.{Session}
use Rattle.gq_trade.specs.Trading.{Trading, asked, client_of, found, its_account, server_of, upgraded, with_ask, with_more}
use Rattle.gq_trade.proofs.Session_table_definition.{number_is}
use Rattle.gq_trade.proofs.Sessions_kept.{added_other}
use Rattle.gq_slots.proofs.Slot_content_positions.{taken_below}
use Rattle.gq_tariff.specs.declared.amount.Amount.{Amount}
use Rattle.gq_contents.specs.declared.content.Content.TheVariants as content
use Rattle.gq_trade.specs.declared.session.SlotId.{SlotId}
use Rattle.gq_trade.specs.declared.session.SlotId.TheVariants.{InLeaf, InSession, InObject}
use Rattle.gq_slots.specs.Slots.{Frame, IsSlotId, Slots, holder, memory_of, content_at, world_seen}
use Rattle.gq_slots.specs.Calls.{SameBeside}
use Rattle.gq_slots.specs.Session_calls.{opening, upgrading, with_trades}
use Rattle.gq_slots.proofs.Slot_change_worlds.{session_there}
use Rattle.gq_trade.specs.Balances.{node_at}
use Rattle.gq_statements.specs.Systems.{AreLawful, IsOf, counted_at}
use Rattle.gq_statements.proofs.Lawful_worlds_paid.{all_paid}
use Rattle.gq_statements.proofs.Unpaid_session_request.{unpaid_opening, unpaid_opening_caps, unpaid_upgrading, unpaid_upgrading_caps}
use Rattle.gq_statements.specs.Client_requests.{Stays}

-- SESSIONS

-- each session keeps its server and what is in its slots
pub record Carries (w v : Trading) : Type 0 where
  pub taken : (j : ℕ) → IsTaken w.sessions j → IsTaken v.sessions j
  pub server : (j : ℕ) → IsTaken w.sessions j → server_of v j ≡ server_of w j
  pub slots : (j : ℕ) → IsTaken w.sessions j → (session_at v j).slots ≡ (session_at w j).slots
  pub object : (j : ℕ) → IsTaken w.sessions j → (session_at v j).object ≡ (session_at w j).object

carries_same : (w v : Trading) → ((j : ℕ) → IsTaken w.sessions j → get_or v.sessions j None ≡ get_or w.sessions j None) → Carries w v
carries_same w v same = record {
  taken = λ j h. subst (λ o. IsTrue (is_some o)) (sym (same j h)) h;
  server = λ j h. ap (λ o. (found o).server) (same j h);
  slots = λ j h. ap (λ o. (found o).slots) (same j h);
  object = λ j h. ap (λ o. (found o).object) (same j h);
}

pub carries_asked : (w : Trading) (q : Session) → Carries w (asked w q)
carries_asked w q = carries_same w (asked w q) (added_other q w.sessions)

pub carries_ask : (w : Trading) (k : ℕ) (a : Ask) → Carries w (with_ask w k a)
carries_ask w k a = carries_same w (with_ask w k a) (λ j h. refl)

-- the session k for which more was given, and any other
pub carries_upgraded : (w : Trading) (k : ℕ) (n : Amount) → IsTaken w.sessions k → Carries w (upgraded w k n)
carries_upgraded w k n there = record {
  taken = λ j h. elim (eqb_tells j k) [
    | inl e ↦ subst (λ o. IsTrue (is_some o)) (sym (here j e.1)) refl
    | inr e ↦ subst (λ o. IsTrue (is_some o)) (sym (else_ j e.1)) h
  ];
  server = λ j h. kept (λ q. q.server) (λ q. refl) j;
  slots = λ j h. kept (λ q. q.slots) (λ q. refl) j;
  object = λ j h. kept (λ q. q.object) (λ q. refl) j;
}
  where
    v : Trading
    v = upgraded w k n

    here : (j : ℕ) → j ≡ k → get_or v.sessions j None ≡ Some (with_more (session_at w k) n)
    here j e = ap (λ i. get_or v.sessions i None) e ∙ get_or-set_same w.sessions k (Some (with_more (session_at w k) n)) None (taken_below w.sessions k there)

    else_ : (j : ℕ) → (j ≡ k → ⊥) → get_or v.sessions j None ≡ get_or w.sessions j None
    else_ j ne = get_or-set_other w.sessions k j (Some (with_more (session_at w k) n)) None ne

    -- what is read of a session but its donation
    kept : {A : Type 0} (g : Session → A) → ((q : Session) → g (with_more q n) ≡ g q) → (j : ℕ) → g (session_at v j) ≡ g (session_at w j)
    kept g same j = elim (eqb_tells j k) [
      | inl e ↦ ap (λ o. g (found o)) (here j e.1) ∙ (same (session_at w k) ∙ ap (λ i. g (session_at w i)) (sym e.1))
      | inr e ↦ ap (λ o. g (found o)) (else_ j e.1)
    ]

module _ (s : Slots) (v : Trading) (c : Carries s.trades.trading v) where
  slot_ids : (q : SlotId) → IsSlotId s q → IsSlotId (with_trades s v) q
  slot_ids (InLeaf x i) h = h
  slot_ids (InSession j i) h = (c.taken j h.0, h.1)
  slot_ids (InObject j) h = c.taken j h

  holders : (q : SlotId) → IsSlotId s q → holder (with_trades s v) q ≡ holder s q
  holders (InLeaf x i) h = refl
  holders (InSession j i) h = c.server j h.0
  holders (InObject j) h = c.server j h

  contents : (q : SlotId) → IsSlotId s q → content_at (with_trades s v) q ≡ content_at s q
  contents (InLeaf x i) h = refl
  contents (InSession j i) h = ap (λ ts. get_or ts i content.Empty) (c.slots j h.0)
  contents (InObject j) h = c.object j h

  pub same_content : (u : Slots) (q : SlotId) → u ≡ with_trades s v → IsSlotId s q → content_at u q ≡ content_at s q
  same_content u q e h = ap (λ y. content_at y q) e ∙ contents q h

  pub same_slot_id : (u : Slots) (q : SlotId) → u ≡ with_trades s v → IsSlotId s q → IsSlotId u q
  same_slot_id u q e h = subst (λ y. IsSlotId y q) (sym e) (slot_ids q h)

-- WHAT STAYS

pub stays_ask : (s u : Slots) (k : ℕ) (a : Ask) → u ≡ with_trades s (with_ask s.trades.trading k a) → Stays s u
stays_ask s u k a e =
    let v = with_ask s.trades.trading k a in
    let c = carries_ask s.trades.trading k a in
    subst (Stays s) (sym e) (record {
      nodes = refl;
      tree = refl;
      leaves = refl;
      objects = refl;
      room = refl;
      price = refl;
      slot_ids = slot_ids s v c;
      holders = holders s v c;
    })

pub stays_asked : (s u : Slots) (q : Session) → u ≡ with_trades s (asked s.trades.trading q) → Stays s u
stays_asked s u q e =
    let v = asked s.trades.trading q in
    let c = carries_asked s.trades.trading q in
    subst (Stays s) (sym e) (record {
      nodes = refl;
      tree = refl;
      leaves = refl;
      objects = refl;
      room = refl;
      price = refl;
      slot_ids = slot_ids s v c;
      holders = holders s v c;
    })

pub stays_upgraded : (s u : Slots) (k : ℕ) (n : Amount) → IsTaken s.trades.trading.sessions k → u ≡ with_trades s (upgraded s.trades.trading k n) → Stays s u
stays_upgraded s u k n there e =
    let v = upgraded s.trades.trading k n in
    let c = carries_upgraded s.trades.trading k n there in
    subst (Stays s) (sym e) (record {
      nodes = refl;
      tree = refl;
      leaves = refl;
      objects = refl;
      room = refl;
      price = refl;
      slot_ids = slot_ids s v c;
      holders = holders s v c;
    })

-- slots that are as before
pub stays_same : (s u : Slots) → u ≡ s → Stays s u
stays_same s u e =
    subst (Stays s) (sym e) (record {
      nodes = refl;
      tree = refl;
      leaves = refl;
      objects = refl;
      room = refl;
      price = refl;
      slot_ids = λ q there. there;
      holders = λ q there. refl;
    })

pub stays_then : (s u t : Slots) → Stays s u → SameBeside u t → Stays s t
stays_then s u t a b = record {
  nodes = b.nodes ∙ a.nodes;
  tree = b.accounts.tree ∙ a.tree;
  leaves = b.accounts.leaves ∙ a.leaves;
  objects = b.accounts.objects ∙ a.objects;
  room = b.accounts.room ∙ a.room;
  price = b.accounts.price ∙ a.price;
  slot_ids = λ q h. b.slot_ids q (a.slot_ids q h);
  holders = λ q h. b.holders q ∙ a.holders q h;
}

-- a system that goes with slots goes with them behind a request
pub of_then : (system : System) (f : Frame) (s t : Slots) → AreLawful s → AreLawful t → Stays s t → IsOf system f s → IsOf system f t
of_then system f s t l m st o = record {
  count = o.count ∙ same;
  counted = o.counted ∙ ap counted_at (sym st.price);
  quanta = λ x c e. (λ j. (node_at (st.nodes j) (get_or (st.leaves j) x 0)).quantum) ∙ o.quanta x c e;
  stages = λ x lt. (λ j. (node_at (st.nodes j) (get_or (st.leaves j) x 0)).stage) ∙ o.stages x (omega (arith, lt, same));
}
  where
    same : length s.own ≡ length t.own
    same = l.count ∙ ap length (sym st.leaves) ∙ sym m.count

-- all is paid behind a request
pub paid_then : (system : System) (f : Frame) (s t : Slots) → AreLawful s → AreLawful t → Stays s t → IsOf system f s → paid system (world_seen f t) ≡ true
paid_then system f s t l m st o = all_paid system f t m (of_then system f s t l m st o)

-- WHAT IS REFUSED

-- what is refused for want of bytes, or else of capabilities, is not paid for
pub unpaid_upgrade : (system : System) (f : Frame) (s : Slots) (k : ℕ) (n : Amount) → AreLawful s → IsOf system f s → IsTaken s.trades.trading.sessions k
    → (s.trades.trading.ledger.price ≡ 0 → n.caps ≡ 0)
    → (n.ram ≤ available (its_account s.trades.trading (client_of s.trades.trading k))
    → available_caps (its_account s.trades.trading (client_of s.trades.trading k)) < n.caps)
    → paid system (upgrading (world_seen f s) k n) ≡ false
unpaid_upgrade system f s k n l o there counted only =
    elim (cases_lt (available (its_account s.trades.trading (client_of s.trades.trading k))) n.ram) [
      | inl lt ↦ unpaid_upgrading system f s l o k n there lt
      | inr ge ↦ unpaid_upgrading_caps system f s l o k n there counted (only ge)
    ]

pub unpaid_open : (system : System) (f : Frame) (s : Slots) (q : world.Session) → AreLawful s → IsOf system f s → q.client < length s.own
    → (q.client ≡ q.server → ⊥) → (s.trades.trading.ledger.price ≡ 0 → q.donation.caps ≡ 0)
    → (q.donation.ram ≤ available (its_account s.trades.trading q.client) → available_caps (its_account s.trades.trading q.client) < q.donation.caps)
    → paid system (opening (world_seen f s) q) ≡ false
unpaid_open system f s q l o below apart counted only =
    elim (cases_lt (available (its_account s.trades.trading q.client)) q.donation.ram) [
      | inl lt ↦ unpaid_opening system f s l o q below apart lt
      | inr ge ↦ unpaid_opening_caps system f s l o q below apart counted (only ge)
    ]

-- SLOTS IN THE MACHINE'S WORLD

-- what reads as the content that stands there
pub reads_content : (f : Frame) (s : Slots) (p : SlotId) (t : Content) → AreLawful s → IsSlotId s p → content_at s p ≡ t
    → world.slot_at (world_seen f s) (slot_id_seen p) ≡ Some (seen (memory_of s (holder s p)) t)
reads_content f s p t l there e = l.read f p there ∙ ap (λ y. Some (seen (memory_of s (holder s p)) y)) e

-- the session of a number, as the machine's world has it
abbrev pub its_session : Frame → Slots → ℕ → world.Session
its_session f s k = let q = session_at s.trades.trading k in session_seen f.names (memory_of s q.server) q

pub session_found : (f : Frame) (s : Slots) (k : ℕ) → IsTaken s.trades.trading.sessions k → world.session_at (world_seen f s) k ≡ Some (its_session f s k)
session_found f s k there = ap world.joined (session_there (λ y. session_seen f.names (memory_of s y.server) y) s.trades.trading.sessions k there)

-- the number that the next session takes
pub free_seen : (f : Frame) (s : Slots) → free_place (world_seen f s).sessions ≡ free_number s.trades.trading.sessions
free_seen f s = number_is (λ y. session_seen f.names (memory_of s y.server) y) s.trades.trading.sessions
