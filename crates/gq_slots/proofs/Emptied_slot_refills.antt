-- Something in a slot that was made empty.
use Rattle.std.proofs.Common.{◌≡◌, ℕ, zero, suc, List, [], ◌∷◌, set, get_or, get_or-set_same, Option, Some, refl, ap, ◌∙◌}
use Rattle.gq_trade.specs.Numbers.{IsTaken}
use Rattle.gq_contents.specs.declared.content.Content.{Content}
use Rattle.gq_contents.specs.declared.content.Content.TheVariants.{Empty}
use Rattle.gq_trade.specs.declared.session.Session.{Session}
use Rattle.gq_trade.specs.declared.session.SlotId.{SlotId}
use Rattle.gq_trade.specs.declared.session.SlotId.TheVariants.{InLeaf, InSession, InObject}
use Rattle.gq_trade.specs.Trading.{session_in, with_slot}
use Rattle.gq_slots.specs.Slots.{Slots, IsSlot, IsSlotId, content_at}
use Rattle.gq_trade.specs.Trades.{Trades, with_trading}
use Rattle.gq_slots.specs.internal.Put.{put, put_own, put_trading}
use Rattle.gq_slots.proofs.Slot_call_effects.{of_parts}

pub set_again : {A : Type 0} (xs : List A) (i : ℕ) (a b : A) → set (set xs i a) i b ≡ set xs i b
set_again [] i a b = refl
set_again (c ∷ xs) zero a b = refl
set_again (c ∷ xs) (suc i) a b = ap (λ ys. c ∷ ys) (set_again xs i a b)

set_there : {A : Type 0} (xs : List A) (i : ℕ) (a : A) → get_or (set xs i a) i a ≡ a
set_there [] i a = refl
set_there (c ∷ xs) zero a = refl
set_there (c ∷ xs) (suc i) a = set_there xs i a

pub session_put : (ss : List (Option Session)) (k : ℕ) (v : Session) → IsTaken ss k → session_in (set ss k (Some v)) k ≡ v
session_put [] k v t = cc
session_put (o ∷ ss) zero v t = refl
session_put (o ∷ ss) (suc k) v t = session_put ss k v t

pub cleared : (s : Slots) (p : SlotId) → IsSlot p → IsSlotId s p → content_at (put s p Empty) p ≡ Empty
cleared s (InLeaf x i) l there =
    let a = get_or s.own x [] in
    ap (λ ts. get_or ts i Empty) (get_or-set_same s.own x (set a i Empty) [] there.0) ∙ set_there a i Empty
cleared s (InSession k i) l there =
    let ss = s.trades.trading.sessions in
    let q = session_in ss k in
    ap (λ (z : Session). get_or z.slots i Empty) (session_put ss k (with_slot q i Empty) there.0) ∙ set_there q.slots i Empty
cleared s (InObject k) l there = absurd l

pub put_again : (s : Slots) (p : SlotId) (u : Content) → IsSlot p → IsSlotId s p → put (put s p Empty) p u ≡ put s p u
put_again s (InLeaf x i) u l there =
    let a = get_or s.own x [] in
    let e : set (set s.own x (set a i Empty)) x (set (get_or (set s.own x (set a i Empty)) x []) i u) ≡ set s.own x (set a i u) =
    set_again s.own x (set a i Empty) (set (get_or (set s.own x (set a i Empty)) x []) i u)
    ∙ ap (λ ts. set s.own x (set ts i u)) (get_or-set_same s.own x (set a i Empty) [] there.0)
    ∙ ap (set s.own x) (set_again a i Empty u) in
    λ k. record { trades = s.trades; own = e k; heaps = s.heaps }
put_again s (InSession k i) u l there =
    let ss = s.trades.trading.sessions in
    let q = session_in ss k in
    let v = with_slot q i Empty in
    let e : set (set ss k (Some v)) k (Some (with_slot (session_in (set ss k (Some v)) k) i u)) ≡ set ss k (Some (with_slot q i u)) =
    set_again ss k (Some v) (Some (with_slot (session_in (set ss k (Some v)) k) i u))
    ∙ ap (λ z. set ss k (Some (with_slot z i u))) (session_put ss k v there.0)
    ∙ (λ z. set ss k (Some (record q { slots = set_again q.slots i Empty u z }))) in
    λ z. record s { trades = record s.trades { trading = record s.trades.trading { sessions = e z } } }
put_again s (InObject k) u l there = absurd l

pub emptied : (t v : Trades) (own then_ : List (List Content)) (p : SlotId) → v ≡ with_trading t (put_trading t.trading p Empty) → then_ ≡ put_own own p Empty
    → of_parts v then_ [] ≡ put (of_parts t own []) p Empty
emptied t v own then_ p e f = λ k. record { trades = e k; own = f k; heaps = [] }
