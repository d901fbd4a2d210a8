-- Sessions, requests and donations over the accounts of a scenario.
use Rattle.std.specs.Prelude.{◌≡◌, ℕ, ◌+◌, ◌<◌, ◌≤◌, false, true, List, [], ◌∷◌, ◌++◌, length, replicate, Option, Some, None, get_or, slice_set}
use Rattle.gq_tariff.specs.declared.amount.Amount.{Amount}
use Rattle.gq_ram.specs.declared.account.Account.{Account}
use Rattle.gq_store.specs.declared.AccountNo.{AccountNo}
use Rattle.gq_ram.specs.Account_table.{available, available_caps}
use Rattle.gq_ram.specs.Ledgers.{Ledger}
use Rattle.gq_ram.specs.Account_tree.{Tree, IsTree, AreNodes, donated, number, parent}
use Rattle.gq_ram.specs.Account_tree as trees
use Rattle.gq_model.specs.declared.program.Form.TheVariants as form
use Rattle.gq_model.specs.machine.World as world
use Rattle.gq_tariff.specs.Prices.{up}
use Rattle.gq_heap.specs.declared.heap.Heap.{Heap}
use Rattle.gq_store.specs.Store.{Store, one_more}
use Rattle.gq_ram.specs.Account_stores.{store_at, SameRest}
use Rattle.gq_trade.specs.Rest.{IsClosed}
use Rattle.gq_trade.specs.Numbers.{added, free_number, IsTaken}
use Rattle.gq_trade.specs.declared.requests.Ask.{Ask}
use Rattle.gq_trade.specs.declared.requests.Ask.TheVariants.{Open, Upgrade, Close, Call}
use Rattle.gq_trade.specs.declared.requests.Request.{Request}
use Rattle.gq_trade.specs.Queues.{oldest_to}
use Rattle.gq_contents.specs.declared.content.Content.{Content}
use Rattle.gq_contents.specs.declared.content.Content.TheVariants as content
use Rattle.gq_contents.specs.Contents.{seen, size_of}
use Rattle.gq_contents.specs.Contents_invariant.{Changes}
use Rattle.gq_contents.specs.Paid.{Pays}
use Rattle.gq_trade.specs.declared.session.Session.{Session}
use Rattle.gq_trade.specs.declared.session.SlotId.{SlotId}
use Rattle.gq_trade.specs.declared.session.SlotId.TheVariants.{InObject}

pub record Trading : Type 0 where
  pub ledger : Ledger
  pub tree : Tree
  -- the node of each leaf
  pub leaves : List ℕ
  -- the bytes of a session's object, for each service
  pub objects : List ℕ
  pub sessions : List (Option Session)
  -- how many sessions there can be at a time
  pub room : ℕ
  pub requests : List Request

-- the node of a leaf, the number of its account, and that account
abbrev pub node_of : Trading → ℕ → ℕ
node_of w x = get_or w.leaves x 0

abbrev pub account_of : Trading → ℕ → ℕ
account_of w x = number w.tree (node_of w x)

abbrev pub its_account : Trading → ℕ → Account
its_account w x = trees.account_of w.tree w.ledger (node_of w x)

-- a session that is not accepted yet
abbrev pub fresh : ℕ → SlotId → ℕ → ℕ → Amount → Session
fresh client slot_id server service n = record {
  client = client;
  slot_id = slot_id;
  server = server;
  service = service;
  level = 0;
  donation = n;
  accepted = false;
  object = content.Empty;
  slots = replicate 8 content.Empty;
}

abbrev pub no_session : Session
no_session = fresh 0 (InObject 0) 0 0 (record { ram = 0; caps = 0 })

abbrev pub found : Option Session → Session
found None = no_session
found (Some s) = s

-- the session of a number
abbrev pub session_in : List (Option Session) → ℕ → Session
session_in ss k = found (get_or ss k None)

abbrev pub session_at : Trading → ℕ → Session
session_at w k = session_in w.sessions k

abbrev pub client_of : Trading → ℕ → ℕ
client_of w k = (session_at w k).client

abbrev pub server_of : Trading → ℕ → ℕ
server_of w k = (session_at w k).server

-- what one account pays leaves what all others have
abbrev pub SameOthers : Ledger → Ledger → AccountNo → Type 0
SameOthers l m a = SameRest a.0 l m

-- WHAT HOLDS

-- the requests are of sessions that are there, each beside its server
abbrev pub AreOf : List (Option Session) → List Request → Type 0
AreOf ss [] = Unit {0}
AreOf ss (r ∷ rs) = IsTaken ss r.session × ((session_in ss r.session).server ≡ r.server) × AreOf ss rs

-- client and server are two of n leaves, and the service is one of m
pub record IsBetween (n m : ℕ) (s : Session) : Type 0 where
  pub client : s.client < n
  pub server : s.server < n
  pub apart : s.client ≡ s.server → ⊥
  pub service : s.service < m

abbrev pub AreBetween : ℕ → ℕ → List (Option Session) → Type 0
AreBetween n m [] = Unit {0}
AreBetween n m (None ∷ ss) = AreBetween n m ss
AreBetween n m (Some s ∷ ss) = IsBetween n m s × AreBetween n m ss

pub record IsTrading (w : Trading) : Type 0 where
  pub tree : IsTree w.tree
  pub nodes : AreNodes w.tree w.ledger.accounts
  pub leaves : (x : ℕ) → x < length w.leaves → node_of w x < length w.tree.parents
  pub apart : (x y : ℕ) → x < length w.leaves → y < length w.leaves → node_of w x ≡ node_of w y → x ≡ y
  pub objects : (i : ℕ) → i < length w.objects → get_or w.objects i 0 ≤ 67108864
  pub between : AreBetween (length w.leaves) (length w.objects) w.sessions
  pub requests : AreOf w.sessions w.requests

-- CALLS

abbrev pub with_ledger : Trading → Ledger → Trading
with_ledger w l = record { ledger = l; tree = w.tree; leaves = w.leaves; objects = w.objects; sessions = w.sessions; room = w.room; requests = w.requests }

abbrev pub with_sessions : Trading → List (Option Session) → Trading
with_sessions w ss = record { ledger = w.ledger; tree = w.tree; leaves = w.leaves; objects = w.objects; sessions = ss; room = w.room; requests = w.requests }

abbrev pub with_requests : Trading → List Request → Trading
with_requests w rs = record { ledger = w.ledger; tree = w.tree; leaves = w.leaves; objects = w.objects; sessions = w.sessions; room = w.room; requests = rs }

-- so much goes from the account of one leaf to that of another
abbrev pub given : Trading → ℕ → ℕ → Amount → Trading
given w x y n = with_ledger w (donated w.tree w.ledger (node_of w x) (node_of w y) n)

-- a request of a session behind all others
abbrev pub with_ask : Trading → ℕ → Ask → Trading
with_ask w k ask = with_requests w (w.requests ++ record { session = k; server = server_of w k; ask = ask } ∷ [])

-- a session more, at the lowest free number, and its request to open behind all others
abbrev pub entered : Trading → Session → Trading
entered w s =
    with_requests (with_sessions w (added s w.sessions)) (w.requests ++ record { session = free_number w.sessions; server = s.server; ask = Open } ∷ [])

-- and its donation given
abbrev pub asked : Trading → Session → Trading
asked w s = entered (given w s.client s.server s.donation) s

abbrev pub with_session : Trading → ℕ → Session → Trading
with_session w k s = with_sessions w (slice_set w.sessions k (Some s))

-- a session for which so much more was given
abbrev pub with_more : Session → Amount → Session
with_more s n = record {
  client = s.client;
  slot_id = s.slot_id;
  server = s.server;
  service = s.service;
  level = s.level;
  donation = record { ram = s.donation.ram + n.ram; caps = s.donation.caps + n.caps };
  accepted = s.accepted;
  object = s.object;
  slots = s.slots;
}

-- a session with something else in a slot
abbrev pub with_slot : Session → ℕ → Content → Session
with_slot s i t = record {
  client = s.client;
  slot_id = s.slot_id;
  server = s.server;
  service = s.service;
  level = s.level;
  donation = s.donation;
  accepted = s.accepted;
  object = s.object;
  slots = slice_set s.slots i t;
}

-- so much more given for a session, and its request to upgrade behind all others
abbrev pub upgraded : Trading → ℕ → Amount → Trading
upgraded w k n = with_ask (with_session (given w (client_of w k) (server_of w k) n) k (with_more (session_at w k) n)) k Upgrade

-- ACCEPTED REQUESTS

-- the account of a leaf by its number, and what it has as a store
abbrev pub account_no : Trading → ℕ → AccountNo
account_no w x = record { 0 = account_of w x }

abbrev pub store_of : Trading → ℕ → Store
store_of w x = store_at w.ledger (account_of w x)

-- a slice t of n bytes, which read 0, is made and paid for by the leaf x
pub record Makes (w v : Trading) (x n : ℕ) (t : Content) : Type 0 where
  pub is : v ≡ with_ledger w v.ledger
  pub changes : (heap : Heap) → Changes heap heap (store_of w x) (store_of v x) content.Empty t
  pub seen : seen (store_of v x) t ≡ world.Bytes form.Slice n (replicate n 0)
  pub size : size_of t ≡ n
  pub pays : (heap : Heap) → Pays heap heap (store_of w x) (store_of v x) content.Empty t
  pub others : SameOthers w.ledger v.ledger (account_no w x)

-- how many bytes the object of a session has, and what it costs
abbrev pub object_size : Trading → ℕ → ℕ
object_size w k = get_or w.objects (session_at w k).service 0

abbrev pub object_price : Trading → ℕ → ℕ
object_price w k = up (object_size w k + 32)

abbrev pub opened : Session → Content → Session
opened s t = record {
  client = s.client;
  slot_id = s.slot_id;
  server = s.server;
  service = s.service;
  level = s.level;
  donation = s.donation;
  accepted = true;
  object = t;
  slots = s.slots;
}

abbrev pub raised : Session → Session
raised s = record {
  client = s.client;
  slot_id = s.slot_id;
  server = s.server;
  service = s.service;
  level = s.level + 1;
  donation = s.donation;
  accepted = s.accepted;
  object = s.object;
  slots = s.slots;
}

-- the session is accepted, and has an object that its server has paid for
pub record Opens (w v : Trading) (k : ℕ) : Type 0 where
  pub object : Content
  pub makes : Makes w (with_ledger w v.ledger) (server_of w k) (object_size w k) object
  pub is : v ≡ with_session (with_ledger w v.ledger) k (opened (session_at w k) object)

-- what a request does to its session as it is accepted
abbrev pub Begins : Ask → Trading → Trading → ℕ → Type 0
Begins Open w v k = Opens w v k
Begins Upgrade w v k = v ≡ with_session w k (raised (session_at w k))
Begins Close w v k = v ≡ w
Begins (Call n) w v k = v ≡ w

-- its server has too few bytes, or enough of them and no capability, for what a request makes
abbrev pub LacksBytes : Ask → Trading → ℕ → Type 0
LacksBytes Open w k = (store_of w (server_of w k)).left < object_price w k
LacksBytes Upgrade w k = ⊥
LacksBytes Close w k = ⊥
LacksBytes (Call n) w k = ⊥

abbrev pub LacksCaps : Ask → Trading → ℕ → Type 0
LacksCaps Open w k = (object_price w k ≤ (store_of w (server_of w k)).left) × ((store_of w (server_of w k)).caps ≡ Some 0)
LacksCaps Upgrade w k = ⊥
LacksCaps Close w k = ⊥
LacksCaps (Call n) w k = ⊥

-- so it is of the oldest request, if there is one
abbrev pub IsOfOldest : Option (Request × List Request) → (Request → Type 0) → Type 0
IsOfOldest None P = ⊥
IsOfOldest (Some p) P = P p.0

-- the oldest request to a server is taken, and what it asks for begins
pub record Accepts (w v : Trading) (x : ℕ) (r : Request) : Type 0 where
  pub oldest : oldest_to x w.requests ≡ Some (r, v.requests)
  pub begins : Begins r.ask w (with_requests v w.requests) r.session

-- SESSIONS THAT END

-- none of these requests is of the session k
abbrev pub AreOfOthers : ℕ → List Request → Type 0
AreOfOthers k [] = Unit {0}
AreOfOthers k (r ∷ rs) = (r.session ≡ k → ⊥) × AreOfOthers k rs

-- what the server of a session can pay of each kind, once the session's object is freed
abbrev pub bytes_then : Trading → ℕ → ℕ
bytes_then w k = available (its_account w (server_of w k)) + up (size_of (session_at w k).object + 32)

abbrev pub caps_then : Trading → ℕ → ℕ
caps_then w k = available_caps (its_account w (server_of w k)) + 1

-- a slice that the leaf x has paid for is free
pub record Frees (w v : Trading) (x : ℕ) (t : Content) : Type 0 where
  pub is : v ≡ with_ledger w v.ledger
  pub changes : (heap : Heap) → Changes heap heap (store_of w x) (store_of v x) t content.Empty
  pub pays : (heap : Heap) → Pays heap heap (store_of w x) (store_of v x) t content.Empty
  pub back : (store_of v x).left ≡ (store_of w x).left + up (size_of t + 32)
  pub caps : (store_of v x).caps ≡ one_more (store_of w x).caps
  pub others : SameOthers w.ledger v.ledger (account_no w x)

-- what was given for a session goes back to its client, and its number is free
abbrev pub parted : Trading → ℕ → Trading
parted w k = with_sessions (given w (server_of w k) (client_of w k) (session_at w k).donation) (slice_set w.sessions k None)

-- Its object is freed, then what was given for it goes back to its client, and its number is free.
pub record Closes (w v : Trading) (k : ℕ) : Type 0 where
  pub between : Ledger
  pub frees : Frees w (with_ledger w between) (server_of w k) (session_at w k).object
  pub is : v ≡ with_sessions (given (with_ledger w between) (server_of w k) (client_of w k) (session_at w k).donation) (slice_set w.sessions k None)

-- LEAVES THAT END

-- the account of a leaf's init
abbrev pub init_no : Trading → ℕ → AccountNo
init_no w x = record { 0 = number w.tree (parent w.tree (node_of w x)) }

-- so much goes from the account of a node's init to that of the node
abbrev pub handed_on : Trading → ℕ → Amount → Trading
handed_on w i n = with_ledger w (donated w.tree w.ledger (parent w.tree i) i n)

-- The account of the leaf x is closed.
pub record Leaves (w v : Trading) (x : ℕ) : Type 0 where
  pub is : v ≡ with_ledger w v.ledger
  pub closed : IsClosed w.ledger v.ledger (account_no w x) (init_no w x)

-- As a store of the account a, it changes this account's memory alone: all other accounts keep what they have, and so do sessions and requests.
pub record SameButMemory (a : ℕ) (w v : Trading) : Type 0 where
  pub is : v ≡ with_ledger w v.ledger
  pub rest : SameRest a w.ledger v.ledger
