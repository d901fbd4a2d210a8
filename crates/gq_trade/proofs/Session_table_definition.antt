-- The table of sessions is that of the abstract machine.
use Rattle.std.proofs.Common.{◌≡◌, ℕ, suc, List, [], ◌∷◌, Option, Some, None, map, get_or, refl, ap, ap₂, ◌∙◌}
use Rattle.gq_tariff.specs.declared.amount.Amount.{Amount}
use Rattle.gq_model.specs.machine.World as world
use Rattle.gq_model.specs.machine.Requests as requests
use Rattle.gq_store.specs.Store.{Store}
use Rattle.gq_trade.proofs.Donation_account_store.{with_left}
use Rattle.gq_trade.specs.Numbers.{added, free_number}
use Rattle.gq_contents.specs.declared.content.Content.{Content}
use Rattle.gq_contents.specs.declared.content.Content.TheVariants.{Empty, Block, Slice, Space, Pool, Link, Waiting}
use Rattle.gq_contents.specs.Contents.{seen}
use Rattle.gq_trade.specs.declared.session.Session.{Session}
use Rattle.gq_trade.specs.declared.session.SlotId.{SlotId}
use Rattle.gq_trade.specs.Seen_sessions.{seen_in, session_seen, sessions_seen, slot_id_seen}
use Rattle.gq_trade.specs.Trading.{Trading, asked, fresh, given, store_of}

pub added_is : (f : Session → world.Session) (s : Session) (ss : List (Option Session))
    → map (seen_in f) (added s ss) ≡ requests.add_session (f s) (map (seen_in f) ss)
added_is f s [] = refl
added_is f s (None ∷ ss) = refl
added_is f s (Some t ∷ ss) = ap (λ rest. Some (f t) ∷ rest) (added_is f s ss)

pub number_is : (f : Session → world.Session) (ss : List (Option Session)) → requests.free_place (map (seen_in f) ss) ≡ free_number ss
number_is f [] = refl
number_is f (None ∷ ss) = refl
number_is f (Some t ∷ ss) = ap suc (number_is f ss)

-- a session that was asked for
pub fresh_is : (names : List (List ℕ)) (st : Store) (client : ℕ) (slot_id : SlotId) (server service : ℕ) (n : Amount)
    → session_seen names st (fresh client slot_id server service n)
    ≡ requests.new_session client (slot_id_seen slot_id) server (get_or names service []) n
fresh_is names st client slot_id server service n = refl

-- WHAT IS LEFT TO PAY CHANGES NO SLOT

content_same : (st : Store) (n : ℕ) (c : Option ℕ) (t : Content) → seen (with_left st n c) t ≡ seen st t
content_same st n c Empty = refl
content_same st n c (Block p k) = refl
content_same st n c (Slice k m) = refl
content_same st n c (Space k m) = refl
content_same st n c (Pool p) = refl
content_same st n c (Link k) = refl
content_same st n c (Waiting k) = refl

contents_same : (st : Store) (n : ℕ) (c : Option ℕ) (ts : List Content) → map (seen (with_left st n c)) ts ≡ map (seen st) ts
contents_same st n c [] = refl
contents_same st n c (t ∷ ts) = ap₂ (λ (x : world.Slot) xs. x ∷ xs) (content_same st n c t) (contents_same st n c ts)

session_same : (names : List (List ℕ)) (st : Store) (n : ℕ) (c : Option ℕ) (s : Session) → session_seen names (with_left st n c) s ≡ session_seen names st s
session_same names st n c s =
    let o = content_same st n c s.object in
    let ts = contents_same st n c s.slots in
    λ i. record (session_seen names st s) { object = o i; slots = ts i }

all_same : (f g : Session → world.Session) → ((s : Session) → f s ≡ g s) → (ss : List (Option Session)) → map (seen_in f) ss ≡ map (seen_in g) ss
all_same f g h [] = refl
all_same f g h (None ∷ ss) = ap (λ (xs : List (Option world.Session)). None ∷ xs) (all_same f g h ss)
all_same f g h (Some s ∷ ss) = ap₂ (λ (x : world.Session) xs. Some x ∷ xs) (h s) (all_same f g h ss)

pub given_is : (names : List (List ℕ)) (w : Trading) (x y : ℕ) (n : Amount) → sessions_seen names (given w x y n) ≡ sessions_seen names w
given_is names w x y n =
    all_same (λ s. session_seen names (store_of (given w x y n) s.server) s) (λ s. session_seen names (store_of w s.server) s)
    (λ s. session_same names (store_of w s.server) (store_of (given w x y n) s.server).left (store_of (given w x y n) s.server).caps s) w.sessions

-- the sessions once one more was asked for
pub asked_is : (names : List (List ℕ)) (w : Trading) (s : Session)
    → sessions_seen names (asked w s) ≡ requests.add_session (session_seen names (store_of (asked w s) s.server) s) (sessions_seen names w)
asked_is names w s =
    added_is (λ t. session_seen names (store_of (asked w s) t.server) t) s w.sessions
    ∙ ap (requests.add_session (session_seen names (store_of (asked w s) s.server) s)) (given_is names w s.client s.server s.donation)
