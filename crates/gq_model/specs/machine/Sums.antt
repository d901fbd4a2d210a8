-- What is held, lent, received and paid of each resource.
use Rattle.std.specs.Prelude.{ℕ, suc, ◌+◌, ◌-◌, max, nat_le, ◌==◌, if◌then◌else◌, Bool, true, ◌&&◌, List, [], ◌∷◌, length, Option, Some, None, sum_by, count_by}
use Rattle.std.specs.Prelude.{is_some}
use Rattle.gq_model.specs.machine.Amounts.{Resource, part}
use Rattle.gq_model.specs.machine.Program.{Block}
use Rattle.gq_tariff.specs.Prices.{classes, size_for}
use Rattle.gq_model.specs.machine.Resource_prices.{price_memory, price_pool, heap}
use Rattle.gq_model.specs.machine.Scenario.{System, Component}
use Rattle.gq_model.specs.machine.World.{Slot, Empty, Waiting, Bytes, Pool, Link, Session, Phase, Pending, Running, Blocked, Serving, Handling, Exited, Leaf}
use Rattle.gq_model.specs.machine.World.{World}

-- memory and the table of a pool are paid for; a small block and a pool's entries are the heap's
abbrev pub slot_price : Resource → Slot → ℕ
slot_price r Empty = 0
slot_price r (Waiting session) = 0
slot_price r (Bytes form n bytes) = price_memory r form n
slot_price r (Pool n entries) = price_pool r (length entries)
slot_price r (Link session) = 0

abbrev pub bank_price : Resource → Session → ℕ
bank_price r session = slot_price r session.object + sum_by (slot_price r) session.slots

abbrev pub donated : Resource → Session → ℕ
donated r session = part r session.donation

-- a number of a session to this leaf
abbrev pub to_leaf : ℕ → (Session → ℕ) → Option Session → ℕ
to_leaf x f None = 0
to_leaf x f (Some session) = if session.server == x then f session else 0

-- a number of a session from this leaf
abbrev pub from_leaf : ℕ → (Session → ℕ) → Option Session → ℕ
from_leaf x f None = 0
from_leaf x f (Some session) = if session.client == x then f session else 0

-- the price of a leaf's own slots, of its heap and of the sessions to it
abbrev pub held : Resource → World → ℕ → Leaf → ℕ
held r w x leaf = sum_by (slot_price r) leaf.slots + heap r leaf.peaks + sum_by (to_leaf x (bank_price r)) w.sessions

-- what a leaf gave for its sessions
abbrev pub lent : Resource → World → ℕ → ℕ
lent r w x = sum_by (from_leaf x (donated r)) w.sessions

-- what a leaf was given for the sessions to it
abbrev pub received : Resource → World → ℕ → ℕ
received r w x = sum_by (to_leaf x (donated r)) w.sessions

-- what its init has handed to a leaf: its quantum while it lives
abbrev pub handed : Phase → ℕ → ℕ
handed Pending quantum = 0
handed Running quantum = quantum
handed Blocked quantum = quantum
handed Serving quantum = quantum
handed Handling quantum = quantum
handed Exited quantum = 0

abbrev pub quota : Resource → World → ℕ → Component → Leaf → ℕ
quota r w x c leaf = handed leaf.phase (part r c.node.quantum) + received r w x - lent r w x

-- what a leaf holds and has lent, it was handed or has received
abbrev pub is_paid : World → ℕ → Component → Leaf → Resource → Bool
is_paid w x c leaf r = nat_le (held r w x leaf + lent r w x) (handed leaf.phase (part r c.node.quantum) + received r w x)

-- so it is for each of these resources
abbrev pub are_paid : World → ℕ → Component → Leaf → List Resource → Bool
are_paid w x c leaf [] = true
are_paid w x c leaf (r ∷ resources) = is_paid w x c leaf r && are_paid w x c leaf resources

-- and for each leaf from the x-th on
abbrev pub all_paid : List Resource → World → ℕ → List Component → List Leaf → Bool
all_paid resources w x (c ∷ components) (leaf ∷ leaves) = are_paid w x c leaf resources && all_paid resources w (suc x) components leaves
all_paid resources w x [] leaves = true
all_paid resources w x (c ∷ components) [] = true

abbrev pub paid : System → World → Bool
paid system w = all_paid system.counted w 0 system.components w.leaves

-- places of the heap's class c that a slot has in use
abbrev pub slot_places : ℕ → Slot → ℕ
slot_places c (Bytes Block n bytes) = if size_for n == c then 1 else 0
slot_places c (Pool n entries) = if size_for n == c then count_by is_some entries else 0
slot_places c _ = 0

-- places of that class that a leaf has in use
abbrev pub places : World → ℕ → Leaf → ℕ → ℕ
places w x leaf c =
    sum_by (slot_places c) leaf.slots + sum_by (to_leaf x (λ session. sum_by (slot_places c) session.slots)) w.sessions

-- the peaks of these classes, none below what is in use
abbrev pub raised : World → ℕ → Leaf → List ℕ → List ℕ → List ℕ
raised w x leaf (c ∷ cs) (peak ∷ peaks) = max peak (places w x leaf c) ∷ raised w x leaf cs peaks
raised w x leaf [] peaks = []
raised w x leaf (c ∷ cs) [] = []

abbrev pub with_peaks : World → ℕ → Leaf → Leaf
with_peaks w x leaf = record leaf { peaks = raised w x leaf classes leaf.peaks }
