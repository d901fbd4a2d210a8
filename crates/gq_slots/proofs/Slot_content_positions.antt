-- Where a slot stands among all that its leaf pays for.
use Rattle.std.proofs.Common.{◌≡◌, ℕ, zero, suc, ◌<◌, Bool, true, false, cond, eqb, List, [], ◌∷◌, ◌++◌, append_assoc, length, length-set, set, take, drop}
use Rattle.std.proofs.Common.{get_or, get_or-set_same, get_or-set_other, Option, Some, None, refl, sym, ap, subst, ◌∙◌, arith}
use Rattle.std.proofs.lemmas.Bool.Decides.{nat_tests}
use Rattle.std.proofs.lemmas.List.{set_split, set-get_or}
use Rattle.gq_trade.specs.Numbers.{IsTaken}
use Rattle.gq_contents.specs.declared.content.Content.{Content}
use Rattle.gq_contents.specs.declared.content.Content.TheVariants.{Empty}
use Rattle.gq_trade.specs.declared.session.Session.{Session}
use Rattle.gq_trade.specs.declared.session.SlotId.{SlotId}
use Rattle.gq_trade.specs.declared.session.SlotId.TheVariants.{InLeaf, InSession, InObject}
use Rattle.gq_trade.specs.Trading.{session_at, session_in, server_of, with_slot}
use Rattle.gq_slots.specs.Slots.{Slots, IsSlotId, holder, content_at}
use Rattle.gq_slots.specs.internal.Slots_invariant.{AreLong, session_contents, contents, contents_of}
use Rattle.gq_slots.specs.internal.Put.{put, with_object}

-- what the slot's leaf pays for before it and behind it
abbrev pub prefix : Slots → SlotId → List Content
prefix s (InLeaf x i) = take i (get_or s.own x [])
prefix s (InSession k i) =
    get_or s.own (server_of s.trades.trading k) [] ++ (session_contents (server_of s.trades.trading k) (take k s.trades.trading.sessions)
    ++ (session_at s.trades.trading k).object ∷ take i (session_at s.trades.trading k).slots)
prefix s (InObject k) = get_or s.own (server_of s.trades.trading k) [] ++ session_contents (server_of s.trades.trading k) (take k s.trades.trading.sessions)

abbrev pub back : Slots → SlotId → List Content
back s (InLeaf x i) = drop (suc i) (get_or s.own x []) ++ session_contents x s.trades.trading.sessions
back s (InSession k i) =
    drop (suc i) (session_at s.trades.trading k).slots ++ session_contents (server_of s.trades.trading k) (drop (suc k) s.trades.trading.sessions)
back s (InObject k) = (session_at s.trades.trading k).slots ++ session_contents (server_of s.trades.trading k) (drop (suc k) s.trades.trading.sessions)

-- the session of a number that is taken
pub taken_is : (ss : List (Option Session)) (k : ℕ) → IsTaken ss k → get_or ss k None ≡ Some (session_in ss k)
taken_is [] k t = cc
taken_is (None ∷ ss) zero t = cc
taken_is (Some s ∷ ss) zero t = refl
taken_is (o ∷ ss) (suc k) t = taken_is ss k t

pub taken_below : (ss : List (Option Session)) (k : ℕ) → IsTaken ss k → k < length ss
taken_below [] k t = cc
taken_below (o ∷ ss) zero t = omega arith
taken_below (o ∷ ss) (suc k) t = let lt = taken_below ss k t in omega (arith, lt)

-- the session k among the others
pub session_split : (x k : ℕ) (ss : List (Option Session)) (v : Session) → k < length ss
    → session_contents x (set ss k (Some v)) ≡ session_contents x (take k ss) ++ (contents_of x v ++ session_contents x (drop (suc k) ss))
session_split x k [] v lt = absurd (omega (arith, lt))
session_split x zero (o ∷ ss) v lt = refl
session_split x (suc k) (None ∷ ss) v lt = session_split x k ss v (omega (arith, lt))
session_split x (suc k) (Some t ∷ ss) v lt =
    ap (λ ts. contents_of x t ++ ts) (session_split x k ss v (omega (arith, lt)))
    ∙ sym (append_assoc (contents_of x t) (session_contents x (take k ss)) (contents_of x v ++ session_contents x (drop (suc k) ss)))

contents_own : (x : ℕ) (s : Session) → s.server ≡ x → contents_of x s ≡ s.object ∷ s.slots
contents_own x s e = let b : eqb s.server x ≡ true = grind (arith, nat_tests, e) in ap (λ c. cond c (s.object ∷ s.slots) []) b

pub contents_none : (x : ℕ) (s : Session) → (s.server ≡ x → ⊥) → contents_of x s ≡ []
contents_none x s ne = let b : eqb s.server x ≡ false = grind (arith, nat_tests, ne) in ap (λ c. cond c (s.object ∷ s.slots) []) b

-- a content in the middle of a list
regroup : (a b : List Content) (o : Content) (p : List Content) (t : Content) (q c : List Content)
    → a ++ (b ++ ((o ∷ (p ++ t ∷ q)) ++ c)) ≡ (a ++ (b ++ o ∷ p)) ++ t ∷ (q ++ c)
regroup a b o p t q c =
    ap (λ ts. a ++ (b ++ o ∷ ts)) (append_assoc p (t ∷ q) c)
    ∙ ap (λ ts. a ++ ts) (sym (append_assoc b (o ∷ p) (t ∷ (q ++ c))))
    ∙ sym (append_assoc a (b ++ o ∷ p) (t ∷ (q ++ c)))

pub split : (s : Slots) (p : SlotId) (v : Content) → IsSlotId s p → AreLong s → contents (put s p v) (holder s p) ≡ prefix s p ++ v ∷ back s p
split s (InLeaf x i) v there long =
    let a = get_or s.own x [] in
    let c = session_contents x s.trades.trading.sessions in
    ap (λ ts. ts ++ c) (get_or-set_same s.own x (set a i v) [] there.0 ∙ set_split a i v (omega (arith, there.1, long.own x there.0)))
    ∙ append_assoc (take i a) (v ∷ drop (suc i) a) c
split s (InSession k i) v there long =
    let ss = s.trades.trading.sessions in
    let q = session_in ss k in
    let x = q.server in
    let a = get_or s.own x [] in
    ap (λ ts. a ++ ts) (session_split x k ss (with_slot q i v) (taken_below ss k there.0))
    ∙ ap (λ ts. a ++ (session_contents x (take k ss) ++ (ts ++ session_contents x (drop (suc k) ss))))
    (contents_own x (with_slot q i v) refl ∙ ap (λ b. q.object ∷ b) (set_split q.slots i v (omega (arith, there.1, long.slots k there.0))))
    ∙ regroup a (session_contents x (take k ss)) q.object (take i q.slots) v (drop (suc i) q.slots) (session_contents x (drop (suc k) ss))
split s (InObject k) v there long =
    let ss = s.trades.trading.sessions in
    let q = session_in ss k in
    let x = q.server in
    let a = get_or s.own x [] in
    ap (λ ts. a ++ ts) (session_split x k ss (with_object q v) (taken_below ss k there))
    ∙ ap (λ ts. a ++ (session_contents x (take k ss) ++ (ts ++ session_contents x (drop (suc k) ss)))) (contents_own x (with_object q v) refl)
    ∙ sym (append_assoc a (session_contents x (take k ss)) (v ∷ (q.slots ++ session_contents x (drop (suc k) ss))))

-- a session that reads the same in the place of one
same_session : (ss : List (Option Session)) (k : ℕ) → IsTaken ss k → set ss k (Some (session_in ss k)) ≡ ss
same_session ss k t = ap (set ss k) (sym (taken_is ss k t)) ∙ set-get_or ss k None

-- another session in its place that holds the same
pub session_same : (y k : ℕ) (ss : List (Option Session)) (v : Session) → IsTaken ss k → contents_of y v ≡ contents_of y (session_in ss k)
    → session_contents y (set ss k (Some v)) ≡ session_contents y ss
session_same y k ss v t e =
    let q = session_in ss k in
    session_split y k ss v (taken_below ss k t)
    ∙ ap (λ ts. session_contents y (take k ss) ++ (ts ++ session_contents y (drop (suc k) ss))) e
    ∙ sym (session_split y k ss q (taken_below ss k t)) ∙ ap (session_contents y) (same_session ss k t)

others_same : (y k : ℕ) (ss : List (Option Session)) (v : Session) → IsTaken ss k → v.server ≡ (session_in ss k).server → (y ≡ v.server → ⊥)
    → session_contents y (set ss k (Some v)) ≡ session_contents y ss
others_same y k ss v t e ne =
    let q = session_in ss k in
    session_split y k ss v (taken_below ss k t)
    ∙ ap (λ ts. session_contents y (take k ss) ++ (ts ++ session_contents y (drop (suc k) ss)))
    (contents_none y v (λ f. ne (sym f)) ∙ sym (contents_none y q (λ f. ne (sym (e ∙ f)))))
    ∙ sym (session_split y k ss q (taken_below ss k t)) ∙ ap (session_contents y) (same_session ss k t)

pub others : (s : Slots) (p : SlotId) (v : Content) (y : ℕ) → IsSlotId s p → (y ≡ holder s p → ⊥) → contents (put s p v) y ≡ contents s y
others s (InLeaf x i) v y there ne =
    ap (λ ts. ts ++ session_contents y s.trades.trading.sessions) (get_or-set_other s.own x y (set (get_or s.own x []) i v) [] ne)
others s (InSession k i) v y there ne =
    let ss = s.trades.trading.sessions in
    ap (λ ts. get_or s.own y [] ++ ts) (others_same y k ss (with_slot (session_in ss k) i v) there.0 refl ne)
others s (InObject k) v y there ne =
    let ss = s.trades.trading.sessions in
    ap (λ ts. get_or s.own y [] ++ ts) (others_same y k ss (with_object (session_in ss k) v) there refl ne)

-- what stands in a slot, put there again
pub put_same : (s : Slots) (p : SlotId) → IsSlotId s p → AreLong s → put s p (content_at s p) ≡ s
put_same s (InLeaf x i) there long =
    let e : set s.own x (set (get_or s.own x []) i (get_or (get_or s.own x []) i Empty)) ≡ s.own =
    ap (set s.own x) (set-get_or (get_or s.own x []) i Empty) ∙ set-get_or s.own x [] in
    λ k. record { trades = s.trades; own = e k; heaps = s.heaps }
put_same s (InSession k i) there long =
    let ss = s.trades.trading.sessions in
    let q = session_in ss k in
    let b = set-get_or q.slots i Empty in
    let e : set ss k (Some (with_slot q i (get_or q.slots i Empty))) ≡ ss =
    (λ z. set ss k (Some (record q { slots = b z }))) ∙ same_session ss k there.0 in
    λ z. record s { trades = record s.trades { trading = record s.trades.trading { sessions = e z } } }
put_same s (InObject k) there long =
    let e = same_session s.trades.trading.sessions k there in
    λ z. record s { trades = record s.trades { trading = record s.trades.trading { sessions = e z } } }

pub split_now : (s : Slots) (p : SlotId) → IsSlotId s p → AreLong s → contents s (holder s p) ≡ prefix s p ++ content_at s p ∷ back s p
split_now s p there long = ap (λ y. contents y (holder s p)) (sym (put_same s p there long)) ∙ split s p (content_at s p) there long

-- leaves keep their 64 slots, and sessions their 8
own_long : (own : List (List Content)) (x : ℕ) (ts : List Content) (y : ℕ) (b : Bool) → eqb y x ≡ b → y < length own → length ts ≡ 64
    → length (get_or own y []) ≡ 64 → length (get_or (set own x ts) y []) ≡ 64
own_long own x ts y true e lt a c =
    let f : y ≡ x = grind (arith, nat_tests, e) in
    subst (λ z. length (get_or (set own x ts) z []) ≡ 64) (sym f)
    (ap length (get_or-set_same own x ts [] (subst (λ z. z < length own) f lt)) ∙ a)
own_long own x ts y false e lt a c = let f : y ≡ x → ⊥ = λ g. grind (arith, nat_tests, e, g) in ap length (get_or-set_other own x y ts [] f) ∙ c

pub slots_long : (ss : List (Option Session)) (k : ℕ) (v : Session) (j : ℕ) → IsTaken (set ss k (Some v)) j → length v.slots ≡ 8
    → ((i : ℕ) → IsTaken ss i → length (session_in ss i).slots ≡ 8) → length (session_in (set ss k (Some v)) j).slots ≡ 8
slots_long [] k v j t a all = cc
slots_long (o ∷ ss) zero v zero t a all = a
slots_long (o ∷ ss) zero v (suc j) t a all = all (suc j) t
slots_long (o ∷ ss) (suc k) v zero t a all = all zero t
slots_long (o ∷ ss) (suc k) v (suc j) t a all = slots_long ss k v j t a (λ i u. all (suc i) u)

pub long_put : (s : Slots) (p : SlotId) (v : Content) → IsSlotId s p → AreLong s → AreLong (put s p v)
long_put s (InLeaf x i) v there long = record {
  own = λ y lt.
      let a : y < length s.own = omega (arith, lt, length-set s.own x (set (get_or s.own x []) i v)) in
      own_long s.own x (set (get_or s.own x []) i v) y (eqb y x) refl a (length-set (get_or s.own x []) i v ∙ long.own x there.0) (long.own y a);
  slots = long.slots;
}
long_put s (InSession k i) v there long =
    let ss = s.trades.trading.sessions in
    record {
      own = long.own;
      slots = λ j t. slots_long ss k (with_slot (session_in ss k) i v) j t (length-set (session_in ss k).slots i v ∙ long.slots k there.0) long.slots;
    }
long_put s (InObject k) v there long =
    let ss = s.trades.trading.sessions in
    record { own = long.own; slots = λ j t. slots_long ss k (with_object (session_in ss k) v) j t (long.slots k there) long.slots }

-- each slot stays where something else stands in one, and its leaf is the same
pub taken_set : (ss : List (Option Session)) (k : ℕ) (v : Session) (j : ℕ) → IsTaken ss j → IsTaken (set ss k (Some v)) j
taken_set [] k v j t = t
taken_set (o ∷ ss) zero v zero t = refl
taken_set (o ∷ ss) zero v (suc j) t = t
taken_set (o ∷ ss) (suc k) v zero t = t
taken_set (o ∷ ss) (suc k) v (suc j) t = taken_set ss k v j t

pub server_set : (ss : List (Option Session)) (k : ℕ) (v : Session) (j : ℕ) → v.server ≡ (session_in ss k).server
    → (session_in (set ss k (Some v)) j).server ≡ (session_in ss j).server
server_set [] k v j e = refl
server_set (o ∷ ss) zero v zero e = e
server_set (o ∷ ss) zero v (suc j) e = refl
server_set (o ∷ ss) (suc k) v zero e = refl
server_set (o ∷ ss) (suc k) v (suc j) e = server_set ss k v j e

slot_id_then : (s : Slots) (k : ℕ) (v : Session) (q : SlotId) → IsSlotId s q
    → IsSlotId (record s { trades = record s.trades { trading = record s.trades.trading { sessions = set s.trades.trading.sessions k (Some v) } } }) q
slot_id_then s k v (InLeaf y j) there = there
slot_id_then s k v (InSession l j) there = (taken_set s.trades.trading.sessions k v l there.0, there.1)
slot_id_then s k v (InObject l) there = taken_set s.trades.trading.sessions k v l there

holder_then : (s : Slots) (k : ℕ) (v : Session) (q : SlotId) → v.server ≡ (session_in s.trades.trading.sessions k).server
    → holder (record s { trades = record s.trades { trading = record s.trades.trading { sessions = set s.trades.trading.sessions k (Some v) } } }) q
    ≡ holder s q
holder_then s k v (InLeaf y j) e = refl
holder_then s k v (InSession l j) e = server_set s.trades.trading.sessions k v l e
holder_then s k v (InObject l) e = server_set s.trades.trading.sessions k v l e

pub slot_id_put : (s : Slots) (p : SlotId) (v : Content) (q : SlotId) → IsSlotId s q → IsSlotId (put s p v) q
slot_id_put s (InLeaf x i) v (InLeaf y j) there = (omega (arith, there.0, length-set s.own x (set (get_or s.own x []) i v)), there.1)
slot_id_put s (InLeaf x i) v (InSession k j) there = there
slot_id_put s (InLeaf x i) v (InObject k) there = there
slot_id_put s (InSession k i) v q there = slot_id_then s k (with_slot (session_in s.trades.trading.sessions k) i v) q there
slot_id_put s (InObject k) v q there = slot_id_then s k (with_object (session_in s.trades.trading.sessions k) v) q there

pub holder_put : (s : Slots) (p : SlotId) (v : Content) (q : SlotId) → holder (put s p v) q ≡ holder s q
holder_put s (InLeaf x i) v (InLeaf y j) = refl
holder_put s (InLeaf x i) v (InSession k j) = refl
holder_put s (InLeaf x i) v (InObject k) = refl
holder_put s (InSession k i) v q = holder_then s k (with_slot (session_in s.trades.trading.sessions k) i v) q refl
holder_put s (InObject k) v q = holder_then s k (with_object (session_in s.trades.trading.sessions k) v) q refl
