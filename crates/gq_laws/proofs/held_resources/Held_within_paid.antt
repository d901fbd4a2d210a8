-- Where leaves and sessions hold and have lent within what was verified, each leaf stays within its budget, and is paid for.
use Rattle.std.proofs.Common.{◌≡◌, ◌≤◌, ◌⊎◌, ◌+◌, ◌*◌, ◌==◌, ℕ, zero, suc, inl, inr, cond, Bool, true, false, List, [], ◌∷◌, replicate, Option, Some, None}
use Rattle.std.proofs.Common.{refl, ap, sym, ◌∙◌, subst, arith}
use Rattle.std.specs.Prelude.{slice_get, sum_by}
use Rattle.std.proofs.lemmas.Bool.{le-leb, and_from}
use Rattle.gq_tariff.specs.Prices.{up, classes}
use Rattle.gq_model.specs.machine.Amounts.{Resource, Ram, Caps, part}
use Rattle.gq_model.specs.machine.Resource_prices.{chunks, heap_of, heap}
use Rattle.gq_model.specs.machine.Lists.{greatest}
use Rattle.gq_model.specs.declared.phase.Phase.{Phase}
use Rattle.gq_model.specs.declared.phase.Phase.TheVariants.{Pending, Running, Blocked, Serving, Handling, Exited}
use Rattle.gq_model.specs.machine.Scenario.{Interface, System, Component, interface_in}
use Rattle.gq_model.specs.machine.World.{Empty, Session, Leaf, World, joined, session_at}
use Rattle.gq_model.specs.machine.Sums.{slot_price, bank_price, donated, to_leaf, held, lent, received, handed, is_paid, are_paid, all_paid, paid}
use Rattle.gq_model.specs.rules.Kinds.{AbstractState, need_of, kind_places}
use Rattle.gq_model.specs.rules.Budgets.{heap_cost, own}
use Rattle.gq_model.specs.rules.Use.{subject}
use Rattle.gq_model.specs.Promises.{EachOf, need_at, needed}
use Rattle.gq_laws.specs.Session_links.{IsLinkedWorld}
use Rattle.gq_laws.specs.internal.Lending.{slot_given}
use Rattle.gq_laws.specs.internal.Verified_holdings.{own_part, bank_part, main_points, PeaksWithin, HoldsNone, AllHold, AllCost}
use Rattle.gq_laws.proofs.statement_rules.Statement_number_bounds.{divided}
use Rattle.gq_laws.proofs.step_shapes.Number_sums.{sum_add, sum_same}
use Rattle.gq_laws.proofs.held_resources.Lent_by_named_sessions.{lent_slots}
use Rattle.gq_laws.proofs.quota_payment.Written_world_prices.{paid_all}
use Rattle.gq_model.proofs.Small_facts.{sum_less}

-- RESOURCES

abbrev pub IsAmong : Resource → List Resource → Type 0
IsAmong r [] = ⊥
IsAmong r (q ∷ rest) = (r ≡ q) ⊎ IsAmong r rest

pub of_each : (P : Resource → Type 0) (resources : List Resource) → EachOf resources P → (r : Resource) → IsAmong r resources → P r
of_each P [] h r among = absurd among
of_each P (q ∷ rest) h r (inl e) = subst P (sym e) h.0
of_each P (q ∷ rest) h r (inr e) = of_each P rest h.1 r e

pub each_by : (P : Resource → Type 0) (resources : List Resource) → ((r : Resource) → IsAmong r resources → P r) → EachOf resources P
each_by P [] h = tt
each_by P (q ∷ rest) h = (h q (inl refl), each_by P rest (λ r e. h r (inr e)))

-- SUMS

times_more : (c a b : ℕ) → a ≤ b → c * a ≤ c * b
times_more zero a b e = omega arith
times_more (suc c) a b e = let rest = times_more c a b e in omega (arith, e, rest)

up_more : (a b : ℕ) → a ≤ b → up a ≤ up b
up_more a b e = let parts = divided (a + 4095) (b + 4095) 4096 (omega (arith, e)) (omega arith) in omega (arith, parts)

chunks_more : (r : Resource) (a b : ℕ) → a ≤ b → chunks r a ≤ chunks r b
chunks_more Ram a b e = up_more a b e
chunks_more Caps a b e = divided (up a) (up b) 4096 (up_more a b e) (omega arith)

-- THE HEAP

heap_less : (r : Resource) (states : List AbstractState) (cs peaks : List ℕ) → PeaksWithin states cs peaks → heap_of r cs peaks ≤ heap_cost r states cs
heap_less r states [] peaks h = omega arith
heap_less r states (c ∷ cs) [] h = omega arith
heap_less r states (c ∷ cs) (peak ∷ peaks) h =
    let most = greatest (λ (s : AbstractState). sum_by (kind_places c) s.own) states in
    let first = chunks_more r (c * peak) (c * most) (times_more c peak most h.0) in
    let rest = heap_less r states cs peaks h.1 in
    omega (arith, first, rest)

-- ONE LEAF

both_parts : (r : Resource) (w : World) (x : ℕ) (o : Option Session)
    → to_leaf x (bank_price r) o + to_leaf x (λ s. sum_by (slot_given r w) s.slots) o ≡ to_leaf x (bank_part r w) o
both_parts r w x None = refl
both_parts r w x (Some s) = by (s.server == x)
  where
    by : (b : Bool) → cond b (bank_price r s) 0 + cond b (sum_by (slot_given r w) s.slots) 0 ≡ cond b (bank_part r w s) 0
    by true = refl
    by false = refl

-- what a leaf holds and has lent, by its own slots, its heap and the sessions to it
pub by_parts : (system : System) (w : World) → IsLinkedWorld system w → (r : Resource) (x : ℕ) (leaf : Leaf) → slice_get w.leaves x ≡ Some leaf
    → held r w x leaf + lent r w x ≡ own_part r w leaf + heap r leaf.peaks + sum_by (to_leaf x (bank_part r w)) w.sessions
by_parts system w h r x leaf there =
    let lends = lent_slots system w h r x leaf there in
    let adds = sum_add (to_leaf x (bank_price r)) (to_leaf x (λ s. sum_by (slot_given r w) s.slots)) w.sessions in
    let same = sum_same (λ o. to_leaf x (bank_price r) o + to_leaf x (λ s. sum_by (slot_given r w) s.slots) o) (to_leaf x (bank_part r w)) w.sessions
    (λ k o e. both_parts r w x o) in
    omega (arith, lends, adds, same)

-- each session is of a service that has an interface, which counts these resources
abbrev pub HaveInterfaces : System → List Resource → World → Type 0
HaveInterfaces system resources w = (k : ℕ) (s : Session) → session_at w k ≡ Some s
    → (i : Interface) × (interface_in s.service system.interfaces ≡ Some i) × (i.counted ≡ resources)

module _ (system : System) (resources : List Resource) (w : World) (h : IsLinkedWorld system w) (known : HaveInterfaces system resources w)
    (leaves : AllHold system w) (sessions : AllCost system w) where
  session_found : (k : ℕ) (s : Session) → slice_get w.sessions k ≡ Some (Some s) → session_at w k ≡ Some s
  session_found k s e = ap joined e

  -- the sessions to a leaf cost no more than they need
  needs_cover : (r : Resource) → IsAmong r resources → (x : ℕ) → sum_by (to_leaf x (bank_part r w)) w.sessions ≤ needed r system w x
  needs_cover r among x = sum_less (to_leaf x (bank_part r w)) (to_leaf x (λ s. need_at r (interface_in s.service system.interfaces) s.level)) w.sessions one
    where
      one : (k : ℕ) (o : Option Session) → slice_get w.sessions k ≡ Some o
          → to_leaf x (bank_part r w) o ≤ to_leaf x (λ s. need_at r (interface_in s.service system.interfaces) s.level) o
      one k None e = omega arith
      one k (Some s) e =
          let i = known k s (session_found k s e) in
          let costs = of_each (λ r. bank_part r w s ≤ part r (need_of i.0 s.level)) i.0.counted ((sessions k s (session_found k s e)).costs i.0 i.1) r
          (subst (IsAmong r) (sym i.2) among) in
          let here : bank_part r w s ≤ need_at r (interface_in s.service system.interfaces) s.level =
          subst (λ o. bank_part r w s ≤ need_at r o s.level) (sym i.1) costs in
          by (s.server == x) here
        where
          by : (b : Bool) → bank_part r w s ≤ need_at r (interface_in s.service system.interfaces) s.level
              → cond b (bank_part r w s) 0 ≤ cond b (need_at r (interface_in s.service system.interfaces) s.level) 0
          by true f = f
          by false f = omega arith

  -- and as much was given for them
  needs_given : (r : Resource) (x : ℕ) → needed r system w x ≤ received r w x
  needs_given r x = sum_less (to_leaf x (λ s. need_at r (interface_in s.service system.interfaces) s.level)) (to_leaf x (donated r)) w.sessions one
    where
      one : (k : ℕ) (o : Option Session) → slice_get w.sessions k ≡ Some o
          → to_leaf x (λ s. need_at r (interface_in s.service system.interfaces) s.level) o ≤ to_leaf x (donated r) o
      one k None e = omega arith
      one k (Some s) e =
          let i = known k s (session_found k s e) in
          let given = (sessions k s (session_found k s e)).given i.0 i.1 r in
          let here : need_at r (interface_in s.service system.interfaces) s.level ≤ donated r s =
          subst (λ o. need_at r o s.level ≤ donated r s) (sym i.1) given in
          by (s.server == x) here
        where
          by : (b : Bool) → need_at r (interface_in s.service system.interfaces) s.level ≤ donated r s
              → cond b (need_at r (interface_in s.service system.interfaces) s.level) 0 ≤ cond b (donated r s) 0
          by true f = f
          by false f = omega arith

  -- a leaf holds and has lent no more than its own and the needs of the sessions to it
  pub within_own : (r : Resource) → IsAmong r resources → (x : ℕ) (c : Component) (leaf : Leaf) → slice_get system.components x ≡ Some c
      → slice_get w.leaves x ≡ Some leaf
      → (held r w x leaf + lent r w x ≤ own r (subject system c) + needed r system w x) × (needed r system w x ≤ received r w x)
  within_own r among x c leaf placed there =
      let parts = by_parts system w h r x leaf there in
      let holds = leaves x c leaf placed there in
      let slots = holds.own r in
      let peaks = heap_less r (main_points (subject system c)) classes leaf.peaks holds.peaks in
      let banks = needs_cover r among x in
      (omega (arith, parts, slots, peaks, banks), needs_given r x)

  nothing_held : (r : Resource) (leaf : Leaf) → leaf.slots ≡ replicate 64 Empty → leaf.peaks ≡ replicate 8 0 → own_part r w leaf + heap r leaf.peaks ≡ 0
  nothing_held r leaf slots peaks = ap (λ l. sum_by (slot_price r) l + sum_by (slot_given r w) l + heap r leaf.peaks) slots
      ∙ (ap (λ p. sum_by (slot_price r) (replicate 64 Empty) + sum_by (slot_given r w) (replicate 64 Empty) + heap r p) peaks ∙ none r)
    where
      none : (r : Resource) → sum_by (slot_price r) (replicate 64 Empty) + sum_by (slot_given r w) (replicate 64 Empty) + heap r (replicate 8 0) ≡ 0
      none Ram = refl
      none Caps = refl

  module _ (pays : (x : ℕ) (c : Component) → slice_get system.components x ≡ Some c → (r : Resource) → IsAmong r resources
      → own r (subject system c) ≤ part r c.node.quantum) where
    -- each leaf is paid for, also where it has nothing of its quantum
    pays_leaf : (r : Resource) → IsAmong r resources → (x : ℕ) (c : Component) (leaf : Leaf) → slice_get system.components x ≡ Some c
        → slice_get w.leaves x ≡ Some leaf → held r w x leaf + lent r w x ≤ handed leaf.phase (part r c.node.quantum) + received r w x
    pays_leaf r among x c leaf placed there = by leaf.phase (leaves x c leaf placed there).none
      where
        full : held r w x leaf + lent r w x ≤ part r c.node.quantum + received r w x
        full = let a = within_own r among x c leaf placed there in let own_is = a.0 in let needs = a.1 in let quantum = pays x c placed r among in
            omega (arith, own_is, needs, quantum)

        none : (leaf.slots ≡ replicate 64 Empty) × (leaf.peaks ≡ replicate 8 0) → held r w x leaf + lent r w x ≤ 0 + received r w x
        none e =
            let parts = by_parts system w h r x leaf there in
            let zero_held = nothing_held r leaf e.0 e.1 in
            let banks = needs_cover r among x in
            let given = needs_given r x in
            omega (arith, parts, zero_held, banks, given)

        by : (phase : Phase) → HoldsNone leaf phase → held r w x leaf + lent r w x ≤ handed phase (part r c.node.quantum) + received r w x
        by Pending e = none e
        by Running e = full
        by Blocked e = full
        by Serving e = full
        by Handling e = full
        by Exited e = none e

    all_pay : (x : ℕ) (c : Component) (leaf : Leaf) → slice_get system.components x ≡ Some c → slice_get w.leaves x ≡ Some leaf → (some : List Resource)
        → ((r : Resource) → IsAmong r some → IsAmong r resources) → are_paid w x c leaf some ≡ true
    all_pay x c leaf placed there [] among = refl
    all_pay x c leaf placed there (r ∷ rest) among =
        and_from (is_paid w x c leaf r) (are_paid w x c leaf rest) (le-leb _ _ (pays_leaf r (among r (inl refl)) x c leaf placed there))
        (all_pay x c leaf placed there rest (λ q e. among q (inr e)))

    -- so all is paid, in the system that counts these resources
    pub held_paid : (real : System) → real.components ≡ system.components → real.counted ≡ resources → paid real w ≡ true
    held_paid real components counted =
        ap (λ cs. all_paid real.counted w 0 cs w.leaves) components
        ∙ (ap (λ rs. all_paid rs w 0 system.components w.leaves) counted
        ∙ paid_all resources w 0 system.components w.leaves
        (λ i c leaf placed there x at. all_pay x c leaf (ap (slice_get system.components) (omega (arith, at)) ∙ placed)
        (ap (slice_get w.leaves) (omega (arith, at)) ∙ there) resources (λ r e. e)))
