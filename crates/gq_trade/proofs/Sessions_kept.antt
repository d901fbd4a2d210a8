-- What a call leaves of what holds of sessions and requests.
use Rattle.std.proofs.Common.{◌≡◌, ℕ, zero, suc, ◌+◌, ◌<◌, inl, inr, List, [], ◌∷◌, ◌++◌, length, set, get_or, get_or-set_same, get_or-set_other, Option}
use Rattle.std.proofs.Common.{Some, None}
use Rattle.std.proofs.Common.{is_some, true, false, replicate, IfSome, IfNone, Result, Ok, Err, IfOk, refl, sym, ap, subst, ◌∙◌, arith}
use Rattle.std.proofs.lemmas.Bool.{cases_eq}
use Rattle.std.proofs.lemmas.Bool.Decides.{eqb_tells}
use Rattle.gq_tariff.specs.declared.amount.Amount.{Amount}
use Rattle.gq_ram.specs.Account_table.{account_at, its_account, IsOpen}
use Rattle.gq_ram.specs.Account_tree.{donated, number, parent}
use Rattle.gq_ram.proofs.Quota_move_sequences.{nodes_kept}
use Rattle.gq_model.specs.declared.program.Form.TheVariants as form
use Rattle.gq_model.specs.machine.World as world
use Rattle.gq_model.proofs.Small_facts.{none_some, some_same}
use Rattle.gq_heap.specs.declared.heap.Heap.{Heap}
use Rattle.gq_store.specs.declared.AccountNo.{AccountNo}
use Rattle.gq_tariff.specs.Prices.{up}
use Rattle.gq_store.specs.Store.{one_more}
use Rattle.gq_store.specs.declared.GrowFault.{GrowFault}
use Rattle.gq_ram.specs.Account_stores.{store_at, SameRest}
use Rattle.gq_ram.specs.Ledgers.{Ledger}
use Rattle.gq_contents.specs.declared.content.Content.{Content}
use Rattle.gq_contents.specs.declared.content.Content.TheVariants as content
use Rattle.gq_contents.specs.Contents.{seen, size_of}
use Rattle.gq_contents.specs.Contents_invariant.{Changes}
use Rattle.gq_contents.specs.Paid.{IsMadeBeside, Pays}
use Rattle.gq_trade.specs.Queues.{IsOldest, kept_before, oldest_to}
use Rattle.gq_trade.specs.Numbers.{added, free_number, IsTaken}
use Rattle.gq_trade.proofs.Lowest_free_number.{taken_there}
use Rattle.gq_trade.specs.declared.requests.Ask.{Ask}
use Rattle.gq_trade.specs.declared.requests.Ask.TheVariants.{Open, Upgrade, Close, Call}
use Rattle.gq_trade.specs.declared.requests.Request.{Request}
use Rattle.gq_trade.specs.declared.session.Session.{Session}
use Rattle.gq_trade.specs.Trading.{Trading, IsTrading, AreOf, AreBetween, IsBetween, account_of, entered, found, given, server_of, session_at, session_in}
use Rattle.gq_trade.specs.Trading.{handed_on, with_ask}
use Rattle.gq_trade.specs.Trading.{Accepts, AreOfOthers, Begins, Frees, Makes, SameOthers, account_no, with_ledger, with_requests, with_session}
use Rattle.gq_trade.specs.Trading.{with_sessions}

-- another session stays where it is
pub added_other : {A : Type 0} (s : A) (ss : List (Option A)) (k : ℕ) → IsTaken ss k → get_or (added s ss) k None ≡ get_or ss k None
added_other s [] k h = cc
added_other s (None ∷ ss) zero h = cc
added_other s (None ∷ ss) (suc k) h = refl
added_other s (Some t ∷ ss) zero h = refl
added_other s (Some t ∷ ss) (suc k) h = added_other s ss k h

pub added_here : {A : Type 0} (s : A) (ss : List (Option A)) → get_or (added s ss) (free_number ss) None ≡ Some s
added_here s [] = refl
added_here s (None ∷ ss) = refl
added_here s (Some t ∷ ss) = added_here s ss

-- requests stand for sessions that are still there, with the same servers
of_same : (ss ts : List (Option Session)) (rs : List Request)
    → ((k : ℕ) → IsTaken ss k → IsTaken ts k × ((session_in ts k).server ≡ (session_in ss k).server)) → AreOf ss rs → AreOf ts rs
of_same ss ts [] same h = tt
of_same ss ts (r ∷ rs) same h = let p = same r.session h.0 in (p.0, p.1 ∙ h.1, of_same ss ts rs same h.2)

of_more : (ss : List (Option Session)) (rs : List Request) (r : Request) → AreOf ss rs → IsTaken ss r.session
    → (session_in ss r.session).server ≡ r.server → AreOf ss (rs ++ r ∷ [])
of_more ss [] r h t e = (t, e, tt)
of_more ss (q ∷ rs) r h t e = (h.0, h.1, of_more ss rs r h.2 t e)

between_more : (n m : ℕ) (s : Session) (ss : List (Option Session)) → IsBetween n m s → AreBetween n m ss → AreBetween n m (added s ss)
between_more n m s [] b h = (b, tt)
between_more n m s (None ∷ ss) b h = (b, h)
between_more n m s (Some t ∷ ss) b h = (h.0, between_more n m s ss b h.1)

taken_none : false ≡ true → ⊥
taken_none h = cc

pub between_at : (n m : ℕ) (ss : List (Option Session)) (k : ℕ) → AreBetween n m ss → IsTaken ss k → IsBetween n m (session_in ss k)
between_at n m [] k h t = absurd (taken_none t)
between_at n m (None ∷ ss) zero h t = absurd (taken_none t)
between_at n m (None ∷ ss) (suc k) h t = between_at n m ss k h t
between_at n m (Some s ∷ ss) zero h t = h.0
between_at n m (Some s ∷ ss) (suc k) h t = between_at n m ss k h.1 t

-- the same of the session at a number
pub between_some : (n m : ℕ) (ss : List (Option Session)) (k : ℕ) (q : Session) → AreBetween n m ss → get_or ss k None ≡ Some q → IsBetween n m q
between_some n m [] k q b e = absurd (none_some e)
between_some n m (None ∷ ss) zero q b e = absurd (none_some e)
between_some n m (None ∷ ss) (suc k) q b e = between_some n m ss k q b e
between_some n m (Some s ∷ ss) zero q b e = subst (IsBetween n m) (some_same e) b.0
between_some n m (Some s ∷ ss) (suc k) q b e = between_some n m ss k q b.1 e

between_set : (n m : ℕ) (ss : List (Option Session)) (k : ℕ) (s : Session) → AreBetween n m ss → IsBetween n m s → AreBetween n m (set ss k (Some s))
between_set n m [] k s h b = h
between_set n m (None ∷ ss) zero s h b = (b, h)
between_set n m (None ∷ ss) (suc k) s h b = between_set n m ss k s h b
between_set n m (Some t ∷ ss) zero s h b = (b, h.1)
between_set n m (Some t ∷ ss) (suc k) s h b = (h.0, between_set n m ss k s h.1 b)

-- CALLS

pub given_kept : (w : Trading) (x y : ℕ) (n : Amount) → IsTrading w → IsOpen w.ledger.accounts (account_of w x)
    → IsOpen w.ledger.accounts (account_of w y) → IsTrading (given w x y n)
given_kept w x y n h xo yo = record {
  tree = h.tree;
  nodes = nodes_kept w.tree w.ledger.accounts (account_of w x) (account_of w y) n h.nodes xo yo;
  leaves = h.leaves;
  apart = h.apart;
  objects = h.objects;
  between = h.between;
  requests = h.requests;
}

-- so much is handed to a node by its init
pub handed_kept : (w : Trading) (i j : ℕ) (n : Amount) (m : Ledger) → IsTrading w → IsOpen w.ledger.accounts (number w.tree i)
    → IsOpen w.ledger.accounts (number w.tree (parent w.tree i)) → j ≡ parent w.tree i
    → m ≡ donated w.tree w.ledger j i n → IsTrading (with_ledger w m)
handed_kept w i j n m h io po e is =
    let f : handed_on w i n ≡ with_ledger w m =
    ap (λ k. with_ledger w (donated w.tree w.ledger k i n)) (sym e) ∙ ap (with_ledger w) (sym is) in
    subst IsTrading f (record {
      tree = h.tree;
      nodes = nodes_kept w.tree w.ledger.accounts (number w.tree (parent w.tree i)) (number w.tree i) n h.nodes po io;
      leaves = h.leaves;
      apart = h.apart;
      objects = h.objects;
      between = h.between;
      requests = h.requests;
    })

pub entered_kept : (w : Trading) (s : Session) → IsTrading w → IsBetween (length w.leaves) (length w.objects) s → IsTrading (entered w s)
entered_kept w s h b =
    let ss : List (Option Session) = w.sessions in
    let ts : List (Option Session) = added s ss in
    let here : get_or ts (free_number ss) None ≡ Some s = added_here s ss in
    record {
      tree = h.tree;
      nodes = h.nodes;
      leaves = h.leaves;
      apart = h.apart;
      objects = h.objects;
      between = between_more (length w.leaves) (length w.objects) s ss b h.between;
      requests = of_more ts w.requests (record { session = free_number ss; server = s.server; ask = Open })
          (of_same ss ts w.requests (λ k t. (ap is_some (added_other s ss k t) ∙ t, ap (λ o. (found o).server) (added_other s ss k t))) h.requests)
          (ap is_some here) (ap (λ o. (found o).server) here);
    }

pub set_kept : (w : Trading) (k : ℕ) (s : Session) → IsTrading w → IsTaken w.sessions k → s.client ≡ (session_at w k).client
    → s.server ≡ (session_at w k).server → s.service ≡ (session_at w k).service → IsTrading (with_session w k s)
set_kept w k s h t ec es ev =
    let ss = w.sessions in
    let b = between_at (length w.leaves) (length w.objects) ss k h.between t in
    let here : get_or (set ss k (Some s)) k None ≡ Some s = get_or-set_same ss k (Some s) None (taken_there ss k t) in
    record {
      tree = h.tree;
      nodes = h.nodes;
      leaves = h.leaves;
      apart = h.apart;
      objects = h.objects;
      between = between_set (length w.leaves) (length w.objects) ss k s h.between (record {
        client = subst (λ x. x < length w.leaves) (sym ec) b.client;
        server = subst (λ x. x < length w.leaves) (sym es) b.server;
        apart = λ e. b.apart (sym ec ∙ e ∙ es);
        service = subst (λ x. x < length w.objects) (sym ev) b.service;
      });
      requests = of_same ss (set ss k (Some s)) w.requests (λ j u. elim (cases_eq j k) [
        | inl e ↦
            let f : get_or (set ss k (Some s)) j None ≡ Some s = ap (λ i. get_or (set ss k (Some s)) i None) e ∙ here in
            (ap is_some f, ap (λ o. (found o).server) f ∙ es ∙ ap (λ i. (session_in ss i).server) (sym e))
        | inr ne ↦
            let f : get_or (set ss k (Some s)) j None ≡ get_or ss j None = get_or-set_other ss k j (Some s) None ne in
            (ap is_some f ∙ u, ap (λ o. (found o).server) f)
      ]) h.requests;
    }

-- it is still there
pub taken_still : (w : Trading) (k : ℕ) (s : Session) → IsTaken w.sessions k → IsTaken (with_session w k s).sessions k
taken_still w k s t = ap is_some (get_or-set_same w.sessions k (Some s) None (taken_there w.sessions k t))

pub server_still : (w : Trading) (k : ℕ) (s : Session) → IsTaken w.sessions k → server_of (with_session w k s) k ≡ s.server
server_still w k s t = ap (λ o. (found o).server) (get_or-set_same w.sessions k (Some s) None (taken_there w.sessions k t))

-- a session that is changed where it lies: whose it is, and of which service, stays
pub changed_kept : (w : Trading) (k : ℕ) (old s : Session) → IsTrading w → get_or w.sessions k None ≡ Some old → s.client ≡ old.client
    → s.server ≡ old.server → s.service ≡ old.service → IsTrading (with_session w k s)
changed_kept w k old s h is ec es ev =
    let same : old ≡ session_at w k = sym (ap found is) in
    set_kept w k s h (ap is_some is) (ec ∙ ap (λ (x : Session). x.client) same) (es ∙ ap (λ (x : Session). x.server) same)
    (ev ∙ ap (λ (x : Session). x.service) same)

pub with_ask_kept : (w : Trading) (k : ℕ) (a : Ask) → IsTrading w → IsTaken w.sessions k → IsTrading (with_ask w k a)
with_ask_kept w k a h t = record {
  tree = h.tree;
  nodes = h.nodes;
  leaves = h.leaves;
  apart = h.apart;
  objects = h.objects;
  between = h.between;
  requests = of_more w.sessions w.requests (record { session = k; server = server_of w k; ask = a }) h.requests t refl;
}

-- an item that is there, whatever stands for one that is not
pub item : (xs : List ℕ) (i r d : ℕ) → i < length xs → r ≡ get_or xs i r → r ≡ get_or xs i d
item [] i r d lt e = absurd (omega (arith, lt))
item (x ∷ xs) zero r d lt e = e
item (x ∷ xs) (suc i) r d lt e = item xs i r d (omega (arith, lt)) e

-- REQUESTS THAT ARE TAKEN

-- a request that was found, and the others
pub record IsTakenFrom (ss : List (Option Session)) (x : ℕ) (r : Request) (rest : List Request) : Type 0 where
  pub there : IsTaken ss r.session
  pub server : (session_in ss r.session).server ≡ x
  pub others : AreOf ss rest

some_in : (a b : Request × List Request) → Some a ≡ Some b → a ≡ b
some_in a b e = cc

abbrev pair : Request → List Request → Request × List Request
pair r rs = (r, rs)

first_is : (ss : List (Option Session)) (x : ℕ) (r q : Request) (rs rest : List Request) → AreOf ss (r ∷ rs) → r.server ≡ x
    → Some (pair r rs) ≡ Some (pair q rest) → IsTakenFrom ss x q rest
first_is ss x r q rs rest h e f =
    let i = some_in (pair r rs) (pair q rest) f in
    let p : r ≡ q = ap (λ (t : Request × List Request). t.0) i in
    let s : rs ≡ rest = ap (λ (t : Request × List Request). t.1) i in
    subst (λ ys. IsTakenFrom ss x q ys) s
    (subst (λ (y : Request). IsTakenFrom ss x y rs) p (record { there = h.0; server = h.1 ∙ e; others = h.2 }))

later_is : (ss : List (Option Session)) (x : ℕ) (r q : Request) (rest : List Request) (o : Option (Request × List Request)) → AreOf ss (r ∷ [])
    → kept_before r o ≡ Some (q, rest) → ((p : Request × List Request) → o ≡ Some p → IsTakenFrom ss x p.0 p.1) → IsTakenFrom ss x q rest
later_is ss x r q rest None h f further = cc
later_is ss x r q rest (Some p) h f further =
    let i = some_in (pair p.0 (r ∷ p.1)) (pair q rest) f in
    let e : p.0 ≡ q = ap (λ (t : Request × List Request). t.0) i in
    let g : r ∷ p.1 ≡ rest = ap (λ (t : Request × List Request). t.1) i in
    let t = further p refl in
    subst (λ ys. IsTakenFrom ss x q ys) g
    (subst (λ (y : Request). IsTakenFrom ss x y (r ∷ p.1)) e (record { there = t.there; server = t.server; others = (h.0, h.1, t.others) }))

pub taken_from : (ss : List (Option Session)) (x : ℕ) (rs : List Request) (p : Request × List Request) → AreOf ss rs → oldest_to x rs ≡ Some p
    → IsTakenFrom ss x p.0 p.1
taken_from ss x [] p h e = cc
taken_from ss x (r ∷ rs) p h e = elim (eqb_tells r.server x) [
  | inl t ↦ first_is ss x r p.0 rs p.1 h t.1 (rw t.0 at e)
  | inr n ↦ later_is ss x r p.0 p.1 (oldest_to x rs) (h.0, h.1, tt) (rw n.0 at e) (λ q f. taken_from ss x rs q h.2 f)
]

pub its_oldest : (ss : List (Option Session)) (x : ℕ) (rs : List Request) (o : Option Request) → AreOf ss rs → IfSome o (λ r. IsOldest x rs r)
    → IfSome o (λ r. IsTaken ss r.session × ((session_in ss r.session).server ≡ x))
its_oldest ss x rs None h some = tt
its_oldest ss x rs (Some r) h some = let t = taken_from ss x rs (pair r some.rest) h some.is in (t.there, t.server)

-- the oldest request is the one that is taken
pub taken_is : (x : ℕ) (rs us new : List Request) (r : Request) (o : Option Request) → us ≡ rs → IsOldest x rs r
    → IfSome o (λ q. oldest_to x us ≡ Some (q, new)) → IfNone o ((oldest_to x us ≡ None) × (new ≡ us)) → oldest_to x us ≡ Some (r, new)
taken_is x rs us new r None e i some none =
    let f : Some (pair r i.rest) ≡ None = sym i.is ∙ ap (oldest_to x) (sym e) ∙ none.0 in cc
taken_is x rs us new r (Some q) e i some none =
    let f = some_in (pair q new) (pair r i.rest) (sym some ∙ ap (oldest_to x) e ∙ i.is) in
    some ∙ ap (λ y. Some (pair y new)) (ap (λ (t : Request × List Request). t.0) f)

pub begins_requests : (a : Ask) (w v : Trading) (k : ℕ) → Begins a w v k → v.requests ≡ w.requests
begins_requests Open w v k h = ap (λ (x : Trading). x.requests) h.is
begins_requests Upgrade w v k h = ap (λ (x : Trading). x.requests) h
begins_requests Close w v k h = ap (λ (x : Trading). x.requests) h
begins_requests (Call n) w v k h = ap (λ (x : Trading). x.requests) h

pub accepts_of : (w u v : Trading) (x : ℕ) (r : Request) → Begins r.ask w u r.session → oldest_to x u.requests ≡ Some (r, v.requests)
    → v ≡ with_requests u v.requests → Accepts w v x r
accepts_of w u v x r b taken rest =
    let e = begins_requests r.ask w u r.session b in
    let back : u ≡ with_requests v w.requests = ap (with_requests u) e ∙ ap (λ (t : Trading). with_requests t w.requests) (sym rest) in
    record { oldest = ap (oldest_to x) (sym e) ∙ taken; begins = subst (λ (t : Trading). Begins r.ask w t r.session) back b }

-- OBJECTS

-- m is the ledger in which the account a has made a slice of n bytes
pub makes_of : (r : Result Content GrowFault) (w : Trading) (m : Ledger) (x n n0 : ℕ) (a : AccountNo) → a ≡ account_no w x → n0 ≡ n
    → IfOk r (λ t. IsMadeBeside (store_at w.ledger a.0) (store_at m a.0) t (world.Bytes form.Slice n0 (replicate n0 0)) n0)
    → SameOthers w.ledger m a → IfOk r (λ t. Makes w (with_ledger w m) x n t)
makes_of (Err e) w m x n n0 a ea en made rest = tt
makes_of (Ok t) w m x n n0 a ea en made rest = record {
  is = refl;
  changes =
      subst (λ (b : AccountNo). (heap : Heap) → Changes heap heap (store_at w.ledger b.0) (store_at m b.0) content.Empty t) ea made.changes;
  seen =
      subst (λ (b : AccountNo). seen (store_at m b.0) t ≡ world.Bytes form.Slice n (replicate n 0)) ea
      (subst (λ i. seen (store_at m a.0) t ≡ world.Bytes form.Slice i (replicate i 0)) en made.reads);
  size = made.size ∙ en;
  pays = subst (λ (b : AccountNo). (heap : Heap) → Pays heap heap (store_at w.ledger b.0) (store_at m b.0) content.Empty t) ea made.pays;
  others = subst (λ (b : AccountNo). SameOthers w.ledger m b) ea rest;
}

-- the requests that stay, whether one was taken or none
pub taken_kept : (w : Trading) (x : ℕ) (o : Option Request) (new : List Request) → IsTrading w
    → IfSome o (λ r. oldest_to x w.requests ≡ Some (r, new)) → IfNone o ((oldest_to x w.requests ≡ None) × (new ≡ w.requests))
    → IsTrading (with_requests w new)
taken_kept w x None new h some none = subst (λ rs. IsTrading (with_requests w rs)) (sym none.1) h
taken_kept w x (Some r) new h some none = record {
  tree = h.tree;
  nodes = h.nodes;
  leaves = h.leaves;
  apart = h.apart;
  objects = h.objects;
  between = h.between;
  requests = (taken_from w.sessions x w.requests (pair r new) h.requests some).others;
}

-- SESSIONS THAT END

between_unset : (n m : ℕ) (ss : List (Option Session)) (k : ℕ) → AreBetween n m ss → AreBetween n m (set ss k None)
between_unset n m [] k h = h
between_unset n m (None ∷ ss) zero h = h
between_unset n m (None ∷ ss) (suc k) h = between_unset n m ss k h
between_unset n m (Some t ∷ ss) zero h = h.1
between_unset n m (Some t ∷ ss) (suc k) h = (h.0, between_unset n m ss k h.1)

of_removed : (ss : List (Option Session)) (k : ℕ) (rs : List Request) → AreOfOthers k rs → AreOf ss rs → AreOf (set ss k None) rs
of_removed ss k [] o h = tt
of_removed ss k (r ∷ rs) o h =
    let f : get_or (set ss k None) r.session None ≡ get_or ss r.session None = get_or-set_other ss k r.session None None o.0 in
    (ap is_some f ∙ h.0, ap (λ x. (found x).server) f ∙ h.1, of_removed ss k rs o.1 h.2)

pub removed_kept : (w : Trading) (k : ℕ) → IsTrading w → AreOfOthers k w.requests → IsTrading (with_sessions w (set w.sessions k None))
removed_kept w k h o = record {
  tree = h.tree;
  nodes = h.nodes;
  leaves = h.leaves;
  apart = h.apart;
  objects = h.objects;
  between = between_unset (length w.leaves) (length w.objects) w.sessions k h.between;
  requests = of_removed w.sessions k w.requests o h.requests;
}

-- m is the ledger in which the account a has freed a slice
pub frees_of : (w : Trading) (m : Ledger) (x : ℕ) (a : AccountNo) (t : Content) → a ≡ account_no w x
    → ((heap : Heap) → Changes heap heap (store_at w.ledger a.0) (store_at m a.0) t content.Empty)
    → ((heap : Heap) → Pays heap heap (store_at w.ledger a.0) (store_at m a.0) t content.Empty)
    → (store_at m a.0).left ≡ (store_at w.ledger a.0).left + up (size_of t + 32)
    → (store_at m a.0).caps ≡ one_more (store_at w.ledger a.0).caps
    → SameOthers w.ledger m a → Frees w (with_ledger w m) x t
frees_of w m x a t e changes pays back caps rest = record {
  is = refl;
  changes = subst (λ (b : AccountNo). (heap : Heap) → Changes heap heap (store_at w.ledger b.0) (store_at m b.0) t content.Empty) e changes;
  pays = subst (λ (b : AccountNo). (heap : Heap) → Pays heap heap (store_at w.ledger b.0) (store_at m b.0) t content.Empty) e pays;
  back =
      subst (λ (b : AccountNo). (store_at m b.0).left ≡ (store_at w.ledger b.0).left + up (size_of t + 32)) e back;
  caps = subst (λ (b : AccountNo). (store_at m b.0).caps ≡ one_more (store_at w.ledger b.0).caps) e caps;
  others = subst (λ (b : AccountNo). SameOthers w.ledger m b) e rest;
}

-- THE MEMORY OF ONE ACCOUNT

reference_same : (p : ℕ) (m n : Ledger) (a : ℕ) → SameRest p m n
    → (account_at n.accounts a).reference ≡ (account_at m.accounts a).reference
reference_same p m n a s = elim (cases_eq a p) [
  | inl e ↦
      subst (λ x. (account_at n.accounts x).reference ≡ (account_at m.accounts x).reference) (sym e) s.reference
  | inr ne ↦ ap (λ o. (its_account o).reference) (s.accounts a ne)
]

-- the memory of one account is other
pub others_kept : (w : Trading) (m : Ledger) (a : ℕ) → IsTrading w → SameRest a w.ledger m → IsTrading (with_ledger w m)
others_kept w m a h s = record {
  tree = h.tree;
  nodes = record {
    apart = h.nodes.apart;
    references = λ i pos lt p. reference_same a w.ledger m (number w.tree i) s ∙ h.nodes.references i pos lt (s.were_open (number w.tree i) p);
  };
  leaves = h.leaves;
  apart = h.apart;
  objects = h.objects;
  between = h.between;
  requests = h.requests;
}
