-- Where a server can pay for what its oldest request makes, the world in which that has begun is paid for.
use Rattle.std.proofs.Common.{◌≡◌, ◌⊎◌, ℕ, zero, suc, ◌+◌, ◌<◌, ◌≤◌, Bool, true, false, cond, eqb, not, ◌&&◌, inl, inr, List, [], ◌∷◌, length}
use Rattle.std.proofs.Common.{Option, Some, None, refl, sym, ap}
use Rattle.std.proofs.Common.{◌∙◌, subst, arith}
use Rattle.std.specs.Prelude.{nat_le, slice_get}
use Rattle.std.proofs.lemmas.Bool.{and_parts, cases_Bool, le-leb, leb-true}
use Rattle.std.proofs.lemmas.Bool.Decides.{eqb_tells, nat_tests}
use Rattle.gq_tariff.specs.Prices.{up}
use Rattle.gq_model.specs.declared.program.Form.TheVariants as form
use Rattle.gq_model.specs.machine.Amounts.{Ram, Caps}
use Rattle.gq_model.specs.machine.Resource_prices.{price_memory}
use Rattle.gq_model.specs.machine.Scenario.{System, Component}
use Rattle.gq_model.specs.machine.Sums.{are_paid, bank_price, donated, from_leaf, handed, is_paid, paid, to_leaf}
use Rattle.gq_model.specs.machine.World as world
use Rattle.gq_trade.specs.Numbers.{IsTaken}
use Rattle.gq_ram.specs.Account_table.{available_caps}
use Rattle.gq_trade.specs.declared.requests.Ask.{Ask}
use Rattle.gq_trade.specs.declared.requests.Ask.TheVariants.{Open, Upgrade, Close, Call}
use Rattle.gq_contents.specs.declared.content.Content.TheVariants.{Empty}
use Rattle.gq_contents.specs.Contents.{seen}
use Rattle.gq_trade.specs.declared.session.Session.{Session}
use Rattle.gq_trade.specs.Seen_sessions.{session_seen}
use Rattle.gq_trade.specs.Trading.{LacksBytes, LacksCaps, account_of, its_account, object_size, server_of, session_at}
use Rattle.gq_slots.specs.Slots.{Frame, Slots, memory_of, world_seen}
use Rattle.gq_slots.specs.Session_calls.{accepting, begun_at}
use Rattle.gq_slots.proofs.Slot_change_worlds.{session_there}
use Rattle.gq_laws.proofs.quota_payment.Written_world_prices.{IsNoDearer, paid_all, same_price, still_paid}
use Rattle.gq_statements.specs.Systems.{AreLawful, IsOf}
use Rattle.gq_statements.proofs.Leaf_quota_balance.{balances}
use Rattle.gq_statements.proofs.Lawful_worlds_paid.{all_paid, found_below, phase_seen}
use Rattle.gq_statements.proofs.Session_change_sums.{held_begun, leaves_begun, lent_begun, received_begun, sum_changed}
use Rattle.gq_statements.specs.internal.Beginning.{can_pay, has_some}

-- WHO CAN PAY

-- there is more than 0 where it is counted
pub some_left : (o : Option ℕ) → has_some o ≡ true → o ≡ Some 0 → ⊥
some_left o h e = let f = ap has_some e in cc

none_left : (o : Option ℕ) → has_some o ≡ false → o ≡ Some 0
none_left None h = cc
none_left (Some n) h = elim (cases_Bool (eqb n 0)) [
  | inl e ↦ ap Some (grind (arith, nat_tests, e))
  | inr e ↦ (let f : not (eqb n 0) ≡ true = ap not e in cc)
]

left_counted : (price n : ℕ) (b : Bool) → eqb price 0 ≡ b → (price ≡ 0 → ⊥) → (cond b None (Some n) ≡ Some 0 → ⊥) → 0 < n
left_counted price n true e ne h = absurd (ne (grind (arith, nat_tests, e)))
left_counted price zero false e ne h = absurd (h refl)
left_counted price (suc n) false e ne h = omega arith

-- one that pays n more, and all others, have as much
fits_in : (y x n : ℕ) (used quota : ℕ → ℕ) → used x ≤ quota x → used y + n ≤ quota y → cond (eqb y x) n 0 + used x ≤ quota x
fits_in y x n used quota within enough = elim (eqb_tells y x) [
  | inl e ↦ subst (λ b. cond b n 0 + used x ≤ quota x) (sym e.0)
      (let h = subst (λ z. used z + n ≤ quota z) e.1 enough in omega (arith, h))
  | inr e ↦ subst (λ b. cond b n 0 + used x ≤ quota x) (sym e.0) (omega (arith, within))
]

-- what is counted is paid, where bytes are and capabilities that have a price
paid_counted : (w : world.World) (x : ℕ) (c : Component) (leaf : world.Leaf) (price : ℕ) (b : Bool) → eqb price 0 ≡ b → is_paid w x c leaf Ram ≡ true
    → ((price ≡ 0 → ⊥) → is_paid w x c leaf Caps ≡ true) → are_paid w x c leaf (cond b (Ram ∷ []) (Ram ∷ Caps ∷ [])) ≡ true
paid_counted w x c leaf price true e ram caps = λ i. ram i && true
paid_counted w x c leaf price false e ram caps =
    let ne : price ≡ 0 → ⊥ = λ f. grind (arith, nat_tests, e, f) in
    λ i. ram i && (caps ne i && true)

module _ (system : System) (f : Frame) (s : Slots) (l : AreLawful s) (o : IsOf system f s) (rest : List world.Request) (k : ℕ)
    (there : IsTaken s.trades.trading.sessions k) where
  abbrev q : Session
  q = session_at s.trades.trading k

  abbrev n : ℕ
  n = object_size s.trades.trading k

  abbrev seen_as : world.Session
  seen_as = session_seen f.names (memory_of s q.server) q

  abbrev w : world.World
  w = world_seen f s

  found : world.session_at w k ≡ Some seen_as
  found = ap world.joined (session_there (λ y. session_seen f.names (memory_of s y.server) y) s.trades.trading.sessions k there)

  -- OBJECTS

  module _ (none : q.object ≡ Empty) (bytes : up (n + 32) ≤ (memory_of s q.server).left) (caps_left : (memory_of s q.server).caps ≡ Some 0 → ⊥) where
    abbrev v : world.World
    v = accepting w k Open n rest

    one_paid : (x : ℕ) (c : Component) (leaf : world.Leaf) → slice_get system.components x ≡ Some c → slice_get v.leaves x ≡ Some leaf
        → are_paid v x c leaf system.counted ≡ true
    one_paid x c leaf at stands =
        let t = s.trades.trading in
        let before : slice_get w.leaves x ≡ Some leaf = ap (λ z. slice_get z x) (sym (leaves_begun w k n rest seen_as found)) ∙ stands in
        let lt : x < length s.own = omega (arith, found_below system.components x c at, o.count) in
        let p = l.held f x leaf before in
        let e = phase_seen f.leaf (memory_of s) s.own s.heaps x leaf before in
        let b = balances system f s x c l lt at o in
        let object = ap (seen (memory_of s q.server)) none in
        let ram = ap (λ z. handed z c.node.quantum.ram) e in
        let caps = ap (λ z. handed z c.node.quantum.caps) e in
        let cost = fits_in q.server x (price_memory Ram form.Slice n) (λ y. (its_account t y).used.ram) (λ y. (its_account t y).quota.ram)
        (l.balanced.within (account_of t x)) (omega (arith, bytes, l.balanced.within (account_of t q.server))) in
        subst (λ rs. are_paid v x c leaf rs ≡ true) (sym o.counted)
        (paid_counted v x c leaf t.ledger.price (eqb t.ledger.price 0) refl
        (let held = held_begun Ram w x k seen_as found n rest object leaf in
        let lent = lent_begun Ram w x k seen_as found n rest in
        let received = received_begun Ram w x k seen_as found n rest in
        le-leb _ _ (omega (arith, b.0, ram, p.ram, held, lent, received, cost)))
        (λ ne. (let h = p.caps ne in
        let some = left_counted t.ledger.price (available_caps (its_account t q.server)) (eqb t.ledger.price 0) refl ne caps_left in
        let held = held_begun Caps w x k seen_as found n rest object leaf in
        let lent = lent_begun Caps w x k seen_as found n rest in
        let received = received_begun Caps w x k seen_as found n rest in
        let caps_cost = fits_in q.server x (price_memory Caps form.Slice n) (λ y. (its_account t y).used.caps) (λ y. (its_account t y).quota.caps)
        (l.balanced.caps_within (account_of t x)) (omega (arith, some, l.balanced.caps_within (account_of t q.server))) in
        le-leb _ _ (omega (arith, b.1, caps, h, held, lent, received, caps_cost)))))

    opening_paid : paid system v ≡ true
    opening_paid =
        paid_all system.counted v 0 system.components v.leaves
        (λ i c leaf at stands x is. (let e : i ≡ x = omega (arith, is) in
        one_paid x c leaf (ap (slice_get system.components) (sym e) ∙ at) (ap (slice_get v.leaves) (sym e) ∙ stands)))

  -- LEVELS

  module _ (level : ℕ) where
    abbrev raised : world.Session
    raised = record seen_as { level = level }

    abbrev u : world.World
    u = world.with_session (record w { requests = rest }) k raised

    no_dearer : IsNoDearer w u
    no_dearer = record {
      banks = λ r x. let h = sum_changed (to_leaf x (bank_price r)) w k seen_as (Some raised) found in omega (arith, h);
      lends = λ r x. let h = sum_changed (from_leaf x (donated r)) w k seen_as (Some raised) found in omega (arith, h);
      receives = λ r x. let h = sum_changed (to_leaf x (donated r)) w k seen_as (Some raised) found in omega (arith, h);
      leaves = (same_price w).leaves;
    }

    level_paid : paid system u ≡ true
    level_paid = still_paid system w u no_dearer (all_paid system f s l o)

  begun_is : (a : Ask) (m : ℕ) → accepting w k a m rest ≡ begun_at (record w { requests = rest }) k a m (Some seen_as)
  begun_is a m = ap (begun_at (record w { requests = rest }) k a m) found

  -- what can be paid is paid
  pub begun_paid : (a : Ask) → (a ≡ Open → q.object ≡ Empty) → can_pay a n (memory_of s q.server) ≡ true → paid system (accepting w k a n rest) ≡ true
  begun_paid Open none can =
      let h = and_parts (nat_le (up (n + 32)) (memory_of s q.server).left) (has_some (memory_of s q.server).caps) can in
      opening_paid (none refl) (leb-true _ _ h.0) (some_left (memory_of s q.server).caps h.1)
  begun_paid Upgrade none can = ap (paid system) (begun_is Upgrade n) ∙ level_paid (suc q.level)
  begun_paid Close none can = ap (paid system) (begun_is Close n) ∙ level_paid q.level
  begun_paid (Call a) none can = ap (paid system) (begun_is (Call a) n) ∙ level_paid q.level

both_false : (a b : Bool) → (a && b) ≡ false → a ≡ true → b ≡ false
both_false true b e h = e
both_false false b e h = cc

-- what can't be paid lacks bytes, or capabilities alone
pub lacks_some : (a : Ask) (s : Slots) (k : ℕ) → can_pay a (object_size s.trades.trading k) (memory_of s (server_of s.trades.trading k)) ≡ false
    → LacksBytes a s.trades.trading k ⊎ LacksCaps a s.trades.trading k
lacks_some Open s k e =
    let st = memory_of s (server_of s.trades.trading k) in
    let n = object_size s.trades.trading k in
    elim (cases_Bool (nat_le (up (n + 32)) st.left)) [
      | inl h ↦ inr (leb-true _ _ h, none_left st.caps (both_false (nat_le (up (n + 32)) st.left) (has_some st.caps) e h))
      | inr h ↦ inl (grind (arith, nat_tests, h))
    ]
lacks_some Upgrade s k e = cc
lacks_some Close s k e = cc
lacks_some (Call a) s k e = cc
