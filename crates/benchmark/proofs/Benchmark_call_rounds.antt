-- What holds of the two leaves and their sessions after each call.
use Rattle.std.proofs.Common.{◌≡◌, ℕ, suc, ◌<◌, ◌≤◌, eqb, List, [], ◌∷◌, ◌++◌, length, length-set, set, get_or, replicate, if◌then◌else◌}
use Rattle.std.proofs.Common.{Option, Some, None, IfSome, refl, sym, ap, subst, ◌∙◌, arith}
use Rattle.std.proofs.lemmas.List.{get_or-replicate}
use Rattle.gq_trade.specs.Numbers.{IsTaken, added, free_number}
use Rattle.gq_model.specs.declared.program.Form.TheVariants as form
use Rattle.gq_model.specs.machine.World as world
use Rattle.gq_store.specs.Store.{Store}
use Rattle.gq_trade.specs.declared.requests.Ask.{Ask}
use Rattle.gq_trade.specs.declared.requests.Ask.TheVariants.{Open, Upgrade}
use Rattle.gq_trade.specs.declared.requests.Request.{Request}
use Rattle.gq_trade.specs.Queues.{kept_before, oldest_to}
use Rattle.gq_contents.specs.declared.content.Content.{Content}
use Rattle.gq_contents.specs.declared.content.Content.TheVariants.{Empty}
use Rattle.gq_contents.specs.Contents.{seen}
use Rattle.gq_trade.specs.declared.session.Session.{Session}
use Rattle.gq_trade.specs.declared.session.SlotId.TheVariants.{InLeaf}
use Rattle.gq_trade.specs.Trading as trading
use Rattle.gq_trade.specs.Trading.{Accepts, Begins, Trading, asked, fresh, opened, session_at, session_in, with_requests}
use Rattle.gq_trade.specs.Waiting.{IsIdle, clients_in, AreOther}
use Rattle.gq_tariff.specs.declared.amount.Amount.{Amount}
use Rattle.gq_trade.specs.Balances.{node_at}
use Rattle.gq_trade.specs.Trades.{IsLive, Trades}
use Rattle.gq_slots.specs.Slots.{Slots}
use Rattle.gq_slots.specs.Session_calls.{TakesOldest, with_trades}
use Rattle.gq_slots.proofs.Emptied_slot_refills.{session_put, set_again}
use Rattle.gq_slots.proofs.Slot_content_positions.{taken_set}
use Rattle.benchmark.specs.Session_rounds.{CanClose, IsCalm, Opens, sessions_of}

-- NUMBERS

pub free_below : (ss : List (Option Session)) → free_number ss ≤ length ss
free_below [] = omega arith
free_below (None ∷ ss) = omega arith
free_below (Some q ∷ ss) = let e = free_below ss in omega (arith, e)

added_length : (q : Session) (ss : List (Option Session)) → length (added q ss) ≤ suc (length ss)
added_length q [] = omega arith
added_length q (None ∷ ss) = omega arith
added_length q (Some y ∷ ss) = let e = added_length q ss in omega (arith, e)

added_taken : (q : Session) (ss : List (Option Session)) → IsTaken (added q ss) (free_number ss)
added_taken q [] = refl
added_taken q (None ∷ ss) = refl
added_taken q (Some y ∷ ss) = added_taken q ss

added_here : (q : Session) (ss : List (Option Session)) → session_in (added q ss) (free_number ss) ≡ q
added_here q [] = refl
added_here q (None ∷ ss) = refl
added_here q (Some y ∷ ss) = added_here q ss

-- the number is free again
free_again : (q : Session) (ss : List (Option Session)) → free_number (set (added q ss) (free_number ss) None) ≡ free_number ss
free_again q [] = refl
free_again q (None ∷ ss) = refl
free_again q (Some y ∷ ss) = ap suc (free_again q ss)

-- ONE REQUEST

pub idle : (t : Trading) (x : ℕ) → t.requests ≡ [] → IsIdle t x
idle t x e = subst (λ rs. AreOther x (clients_in t.sessions rs)) (sym e) tt

one_behind : (rs : List Request) (r : Request) → rs ≡ [] → rs ++ r ∷ [] ≡ r ∷ []
one_behind rs r e = ap (λ ys. ys ++ r ∷ []) e

abbrev pair : Request → List Request → Request × List Request
pair r rs = (r, rs)

some_is : (a b : Request × List Request) → Some a ≡ Some b → b ≡ a
some_is a b e = cc

pair_is : (a b : Request) (rs us : List Request) → Some (pair a rs) ≡ Some (pair b us) → (b ≡ a) × (us ≡ rs)
pair_is a b rs us e = let f = some_is (pair a rs) (pair b us) e in (ap (λ p. p.0) f, ap (λ p. p.1) f)

-- the only request is the oldest one
pub first_is : (rs : List Request) (r : Request) → rs ≡ r ∷ [] → r.server ≡ 0 → oldest_to 0 rs ≡ Some (pair r [])
first_is rs r e f =
    ap (oldest_to 0) e ∙ (λ k. if eqb (f k) 0 then Some (pair r []) else kept_before r None)

taken_first : (rs : List Request) (r q : Request) (rest : List Request) → rs ≡ r ∷ [] → r.server ≡ 0 → oldest_to 0 rs ≡ Some (pair q rest)
    → (q ≡ r) × (rest ≡ [])
taken_first rs r q rest e f o = pair_is r q [] rest (sym (first_is rs r e f) ∙ o)

upgrade_none : (a : Ask) → (a ≡ Upgrade → ⊥) → (n : ℕ) → a ≡ Upgrade → n < 3
upgrade_none a ne n e = absurd (ne e)

-- the only request is not to upgrade
pub no_upgrade : (t : Trading) (r : Request) → t.requests ≡ r ∷ [] → r.server ≡ 0 → (r.ask ≡ Upgrade → ⊥)
    → IfSome (oldest_to 0 t.requests) (λ p. p.0.ask ≡ Upgrade → (session_at t p.0.session).level < 3)
no_upgrade t r e f ne =
    subst (λ o. IfSome o (λ p. p.0.ask ≡ Upgrade → (session_at t p.0.session).level < 3)) (sym (first_is t.requests r e f))
    (upgrade_none r.ask ne (session_at t r.session).level)

-- CALM

live_then : (t v : Trades) (x : ℕ) → v.nodes ≡ t.nodes → v.trading.leaves ≡ t.trading.leaves → IsLive t x → IsLive v x
live_then t v x e f l = record {
  there = subst (λ xs. x < length xs) (sym f) l.there;
  live = (λ k. (node_at (e k) (get_or (f k) x 0)).stage) ∙ l.live;
}

-- where nodes, leaves and services are the same
pub calm_then : (s n : Slots) → IsCalm s → n.trades.nodes ≡ s.trades.nodes → n.trades.trading.leaves ≡ s.trades.trading.leaves
    → n.trades.trading.objects ≡ s.trades.trading.objects → n.trades.trading.room ≡ s.trades.trading.room → n.trades.trading.requests ≡ []
    → IsCalm n
calm_then s n c e f g r q = record {
  requests = q;
  server = live_then s.trades n.trades 0 e f c.server;
  client = live_then s.trades n.trades 1 e f c.client;
  service = subst (λ os. 0 < length os) (sym g) c.service;
  room = r ∙ c.room;
}

-- A SESSION IS OPENED

not_slice : (st : Store) (t : Content) (n : ℕ) (bs : List ℕ) → seen st t ≡ world.Bytes form.Slice n bs → t ≡ Empty → ⊥
not_slice st t n bs e f = let g : world.Empty ≡ world.Bytes form.Slice n bs = ap (seen st) (sym f) ∙ e in cc

-- what the table of sessions, and what else a request bears on, is like once the session k was opened
record AreOpened (t v : Trading) (k : ℕ) : Type 0 where
  requests : v.requests ≡ []
  leaves : v.leaves ≡ t.leaves
  objects : v.objects ≡ t.objects
  room : v.room ≡ t.room
  session : CanClose v.sessions k
  few : length v.sessions ≤ suc (length t.sessions)
  again : free_number (set v.sessions k None) ≡ free_number t.sessions

-- the session k of these is q, and the rest is as ask and accept leave it
opened_one : (t u v : Trading) (q : Session) (r : Request) → t.requests ≡ [] → q.client ≡ 1 → q.server ≡ 0 → q.slots ≡ replicate 8 Empty → u ≡ asked t q
    → Accepts u v 0 r → AreOpened t v (free_number t.sessions)
opened_one t u v q r none client server slots e a =
    let k = free_number t.sessions in
    let r0 : Request = record { session = k; server = q.server; ask = Open } in
    let one : u.requests ≡ r0 ∷ [] = ap (λ (y : Trading). y.requests) e ∙ one_behind t.requests r0 none in
    let f = taken_first u.requests r0 r v.requests one server a.oldest in
    let o : Begins Open u (with_requests v u.requests) k = subst (λ (y : Request). Begins y.ask u (with_requests v u.requests) y.session) f.0 a.begins in
    let same : session_at u k ≡ q = ap (λ (y : Trading). session_at y k) e ∙ added_here q t.sessions in
    let taken : IsTaken u.sessions k = subst (λ (y : Trading). IsTaken y.sessions k) (sym e) (added_taken q t.sessions) in
    let sessions : v.sessions ≡ set u.sessions k (Some (opened (session_at u k) o.object)) = ap (λ (y : Trading). y.sessions) o.is in
    let its : session_in v.sessions k ≡ opened q o.object =
    ap (λ ss. session_in ss k) sessions ∙ session_put u.sessions k (opened (session_at u k) o.object) taken ∙ ap (λ y. opened y o.object) same in
    record {
      requests = f.1;
      leaves = ap (λ (y : Trading). y.leaves) o.is ∙ ap (λ (y : Trading). y.leaves) e;
      objects = ap (λ (y : Trading). y.objects) o.is ∙ ap (λ (y : Trading). y.objects) e;
      room = ap (λ (y : Trading). y.room) o.is ∙ ap (λ (y : Trading). y.room) e;
      session = record {
        taken = subst (λ ss. IsTaken ss k) (sym sessions) (taken_set u.sessions k (opened (session_at u k) o.object) k taken);
        client = ap (λ (y : Session). y.client) its ∙ client;
        server = ap (λ (y : Session). y.server) its ∙ server;
        object = λ z. not_slice (trading.store_of (trading.with_ledger u v.ledger) (trading.server_of u k)) o.object (trading.object_size u k)
            (replicate (trading.object_size u k) 0) o.makes.seen (ap (λ (y : Session). y.object) (sym its) ∙ z);
        empty = λ i lt. ap (λ (y : Session). get_or y.slots i Empty) its ∙ ap (λ ts. get_or ts i Empty) slots ∙ get_or-replicate 8 i Empty Empty lt;
      };
      few = subst (λ ss. length ss ≤ suc (length t.sessions)) (sym sessions)
          (omega (
            arith,
            length-set u.sessions k (Some (opened (session_at u k) o.object)),
            added_length q t.sessions,
            ap (λ (y : Trading). length y.sessions) e,
          ));
      again = ap (λ ss. free_number (set ss k None)) sessions
          ∙ ap free_number (set_again u.sessions k (Some (opened (session_at u k) o.object)) None)
          ∙ ap (λ (y : Trading). free_number (set y.sessions k None)) e ∙ free_again q t.sessions;
    }

pub opens : (s u v : Slots) (k : ℕ) (r : Request) (n : Amount) → IsCalm s → k ≡ free_number (sessions_of s)
    → u ≡ with_trades s (asked s.trades.trading (fresh 1 (InLeaf 1 0) 0 0 n)) → TakesOldest u v 0 r → Opens s v k
opens s u v k r n calm number e a =
    let t = s.trades.trading in
    let q = fresh 1 (InLeaf 1 0) 0 0 n in
    let o = opened_one t u.trades.trading v.trades.trading q r calm.requests refl refl refl (ap (λ (y : Slots). y.trades.trading) e) a.accepts in
    subst (Opens s v) (sym number) (record {
      calm = calm_then s v calm (a.nodes ∙ ap (λ (y : Slots). y.trades.nodes) e) o.leaves o.objects o.room o.requests;
      session = o.session;
      few = o.few;
      again = o.again;
    })
