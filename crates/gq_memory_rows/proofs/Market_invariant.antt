-- What holds in a market after each call.
use Rattle.std.proofs.Common.{◌≡◌, ℕ, List, [], ◌∷◌, ◌++◌, replicate, Option, Some, None, Result, Ok, Err, IfSome, IfNone, OnOk, sym, ap, subst, ◌∙◌}
use Rattle.std.specs.Prelude.{slice_set}
use Rattle.gq_tariff.specs.declared.amount.Amount.{Amount}
use Rattle.gq_heap.specs.declared.heap.Heap.{Heap}
use Rattle.gq_heap.specs.Heap.{KeepsPlaces}
use Rattle.gq_store.specs.Store.{Store}
use Rattle.gq_trade.specs.Numbers.{added, free_number}
use Rattle.gq_trade.specs.declared.requests.Request.{Request}
use Rattle.gq_trade.specs.Queues.{oldest_to}
use Rattle.gq_contents.specs.declared.content.Content.{Content}
use Rattle.gq_contents.specs.declared.content.Content.TheVariants.{Empty, Block, Slice, Space, Pool, Link, Waiting}
use Rattle.gq_contents.specs.Contents.{IsSlice, IsContent, seen}
use Rattle.gq_contents.proofs.Content_caller_facts.{empty_kept}
use Rattle.gq_model.specs.declared.program.Form.TheVariants as form
use Rattle.gq_model.specs.machine.World as world
use Rattle.gq_trade.specs.declared.session.Session.{Session}
use Rattle.gq_trade.specs.Trading.{Trading, Accepts, Begins, Makes, Opens, asked, object_size, opened, session_at, session_in, store_of, with_ledger}
use Rattle.gq_trade.specs.Trading.{with_requests}
use Rattle.gq_trade.specs.Trades.{Trades, with_trading}
use Rattle.gq_memory_rows.specs.Markets.{HasAsked, HasOne, IsQuiet, request_of, session_of}

-- THE REQUEST TO OPEN

no_request : {A : Type 0} (a : A) → Some a ≡ None → ⊥
no_request a e = cc

-- what reads as a slice is one
slice_seen : (st : Store) (t : Content) (n : ℕ) (bs : List ℕ) → seen st t ≡ world.Bytes form.Slice n bs → IsContent st t → IsSlice st t
slice_seen st Empty n bs e h = cc
slice_seen st (Block p m) n bs e h = cc
slice_seen st (Slice k m) n bs e h = h
slice_seen st (Space k m) n bs e h = cc
slice_seen st (Pool p) n bs e h = cc
slice_seen st (Link k) n bs e h = cc
slice_seen st (Waiting k) n bs e h = cc

-- what a request makes is its server's
made_slice : (w v : Trading) (n : ℕ) (t : Content) (heap : Heap) → ((st : Store) → KeepsPlaces heap st []) → Makes w v 0 n t → IsSlice (store_of v 0) t
made_slice w v n t heap none m =
    slice_seen (store_of v 0) t n (replicate n 0) m.seen
    (m.changes heap [] [] (empty_kept heap (store_of w 0) 1 (none (store_of w 0)))).keeps.each.0

pair_is : (p q : Request × List Request) → Some p ≡ Some q → p ≡ q
pair_is p q e = cc

-- the only request, to open the session 0, is taken
opens_it : (w v : Trades) (r : Request) → w.trading.requests ≡ request_of 0 ∷ [] → Accepts w.trading v.trading 0 r
    → (v.trading.requests ≡ []) × Opens w.trading (with_requests v.trading w.trading.requests) 0
opens_it w v r e a =
    let it : Request × List Request = (request_of 0, []) in
    let took : Request × List Request = (r, v.trading.requests) in
    let same : took ≡ it = sym (pair_is it took (ap (λ rs. oldest_to 0 rs) (sym e) ∙ a.oldest)) in
    let begins = subst (λ (q : Request). Begins q.ask w.trading (with_requests v.trading w.trading.requests) q.session)
    (ap (λ (p : Request × List Request). p.0) same) a.begins in
    (ap (λ (p : Request × List Request). p.1) same, begins)

pub opened_one : (w v : Trades) (o : Option Request) (heap : Heap) → ((st : Store) → KeepsPlaces heap st []) → HasAsked w
    → IfNone o ((oldest_to 0 w.trading.requests ≡ None) × (v ≡ w)) → IfSome o (λ r. Accepts w.trading v.trading 0 r) → HasOne v
opened_one w v None heap kept h none some = absurd (no_request (request_of 0, []) (ap (λ rs. oldest_to 0 rs) (sym h.requests) ∙ none.0))
opened_one w v (Some r) heap kept h none some =
    let it = opens_it w v r h.requests some in
    let o = it.1 in
    let same : session_at w.trading 0 ≡ session_of h.donation = ap (λ ss. session_in ss 0) h.sessions in
    record {
      donation = h.donation;
      object = o.object;
      sessions = ap (λ (x : Trading). x.sessions) o.is ∙ (λ k. slice_set (h.sessions k) 0 (Some (opened (same k) o.object)));
      requests = it.0;
      slice = subst (λ st. IsSlice st o.object) (sym (ap (λ (x : Trading). store_of x 0) o.is))
          (made_slice w.trading (with_ledger w.trading v.trading.ledger) (object_size w.trading 0) o.object heap kept
          (subst (λ x. Makes w.trading (with_ledger w.trading v.trading.ledger) x (object_size w.trading 0) o.object)
          (ap (λ (s : Session). s.server) same) o.makes));
    }

-- THE CLIENT ASKS

pub asked_one : (w v : Trades) (n : Amount) → IsQuiet w → v ≡ with_trading w (asked w.trading (session_of n)) → HasAsked v
asked_one w v n q e = record {
  donation = n;
  sessions = ap (λ (x : Trades). x.trading.sessions) e ∙ ap (λ ss. added (session_of n) ss) q.sessions;
  requests = ap (λ (x : Trades). x.trading.requests) e ∙ (λ k. q.requests k ++ request_of (free_number (q.sessions k)) ∷ []);
}

pub on_ok : {A E P Q : Type 0} (r : Result A E) → (P → Q) → OnOk r P → OnOk r Q
on_ok (Ok a) f p = f p
on_ok (Err e) f p = p
