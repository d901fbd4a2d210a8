-- What is held, lent and received in a world with a session more, with more given for one, with its object made, and without it.
use Rattle.std.proofs.Common.{◌≡◌, ◌≢◌, ℕ, ◌+◌, ◌==◌, inl, inr, cond, Bool, true, false, List, [], ◌∷◌, Option, Some, None, refl, ap, ◌∙◌, arith}
use Rattle.std.specs.Prelude.{slice_set, sum_by}
use Rattle.std.proofs.lemmas.Bool.Decides.{eqb_tells}
use Rattle.std.proofs.lemmas.List.Sums.{sum_by-cons}
use Rattle.gq_tariff.specs.declared.amount.Amount.{Amount}
use Rattle.gq_model.specs.declared.program.Form.TheVariants as form
use Rattle.gq_model.specs.machine.Amounts.{Resource, Ram, Caps, part, plus}
use Rattle.gq_model.specs.machine.Resource_prices.{price_memory}
use Rattle.gq_model.specs.machine.Requests.{add_session}
use Rattle.gq_model.specs.machine.Sums.{slot_price, bank_price, donated, to_leaf, from_leaf, held, lent, received}
use Rattle.gq_model.specs.machine.World.{Empty, Request, Session, Leaf, World, session_at}
use Rattle.gq_model.proofs.Small_facts.{equal_self}
use Rattle.gq_trade.specs.declared.requests.Ask.TheVariants.{Open}
use Rattle.gq_slots.specs.Session_calls.{accepting, begun, begun_at, ending, more_for, opening, upgrading}
use Rattle.gq_laws.proofs.quota_payment.Written_world_prices.{sum_set, session_stands}

-- SUMS OVER SESSIONS

-- a session more
pub sum_added : (f : Option Session → ℕ) → f None ≡ 0 → (q : Session) (ss : List (Option Session))
    → sum_by f (add_session q ss) ≡ sum_by f ss + f (Some q)
sum_added f none q [] = omega arith
sum_added f none q (None ∷ ss) = omega (arith, none, sum_by-cons f (Some q) ss, sum_by-cons f None ss)
sum_added f none q (Some t ∷ ss) =
    let h = sum_added f none q ss in omega (arith, h, sum_by-cons f (Some t) ss, sum_by-cons f (Some t) (add_session q ss))

-- another session in the place of one, or none
pub sum_changed : (f : Option Session → ℕ) (w : World) (k : ℕ) (t : Session) (o : Option Session) → session_at w k ≡ Some t
    → sum_by f (slice_set w.sessions k o) + f (Some t) ≡ sum_by f w.sessions + f o
sum_changed f w k t o e = sum_set f w.sessions k (Some t) o (session_stands w k t e)

-- the parts of two amounts
pub part_plus : (r : Resource) (a b : Amount) → part r (plus a b) ≡ part r a + part r b
part_plus Ram a b = refl
part_plus Caps a b = refl

both_added : (c : Bool) (s m n : ℕ) → s ≡ m + n → cond c s 0 ≡ cond c m 0 + cond c n 0
both_added true s m n e = e
both_added false s m n e = refl

-- a number for a leaf that is this one, or another
pub mine : (x n : ℕ) → cond (x == x) n 0 ≡ n
mine x n = ap (λ b. cond b n 0) (equal_self x)

pub others : (y x n : ℕ) → y ≢ x → cond (y == x) n 0 ≡ 0
others y x n ne = elim (eqb_tells y x) [ inl f ↦ absurd (ne f.1) | inr f ↦ ap (λ b. cond b n 0) f.0 ]

-- LEAVES THAT STAY

pub leaves_upgraded : (w : World) (k : ℕ) (n : Amount) (q : Session) → session_at w k ≡ Some q → (upgrading w k n).leaves ≡ w.leaves
leaves_upgraded w k n q e = ap (λ o. (more_for w k n o).leaves) e

pub leaves_begun : (w : World) (k n : ℕ) (rest : List Request) (q : Session) → session_at w k ≡ Some q → (accepting w k Open n rest).leaves ≡ w.leaves
leaves_begun w k n rest q e = ap (λ o. (begun_at (record w { requests = rest }) k Open n o).leaves) e

module _ (r : Resource) (w : World) (x : ℕ) where
  -- A SESSION MORE

  module _ (q : Session) where
    pub held_opened : (leaf : Leaf) → held r (opening w q) x leaf ≡ held r w x leaf + to_leaf x (bank_price r) (Some q)
    held_opened leaf = let h = sum_added (to_leaf x (bank_price r)) refl q w.sessions in omega (arith, h)

    pub lent_opened : lent r (opening w q) x ≡ lent r w x + from_leaf x (donated r) (Some q)
    lent_opened = sum_added (from_leaf x (donated r)) refl q w.sessions

    pub received_opened : received r (opening w q) x ≡ received r w x + to_leaf x (donated r) (Some q)
    received_opened = sum_added (to_leaf x (donated r)) refl q w.sessions

  module _ (k : ℕ) (q : Session) (there : session_at w k ≡ Some q) where
    -- MORE GIVEN FOR ONE

    module _ (n : Amount) where
      abbrev richer : Session
      richer = record q { donation = plus q.donation n }

      upgraded_sum : (f : Option Session → ℕ) → sum_by f (upgrading w k n).sessions + f (Some q) ≡ sum_by f w.sessions + f (Some richer)
      upgraded_sum f = ap (λ o. sum_by f (more_for w k n o).sessions + f (Some q)) there ∙ sum_changed f w k q (Some richer) there

      pub held_upgraded : (leaf : Leaf) → held r (upgrading w k n) x leaf ≡ held r w x leaf
      held_upgraded leaf = let h = upgraded_sum (to_leaf x (bank_price r)) in omega (arith, h)

      pub lent_upgraded : lent r (upgrading w k n) x ≡ lent r w x + from_leaf x (λ s. part r n) (Some q)
      lent_upgraded =
          let h = upgraded_sum (from_leaf x (donated r)) in
          let both = both_added (q.client == x) (donated r richer) (donated r q) (part r n) (part_plus r q.donation n) in
          omega (arith, h, both)

      pub received_upgraded : received r (upgrading w k n) x ≡ received r w x + to_leaf x (λ s. part r n) (Some q)
      received_upgraded =
          let h = upgraded_sum (to_leaf x (donated r)) in
          let both = both_added (q.server == x) (donated r richer) (donated r q) (part r n) (part_plus r q.donation n) in
          omega (arith, h, both)

    -- ITS OBJECT MADE

    module _ (n : ℕ) (rest : List Request) where
      begun_sum : (f : Option Session → ℕ) → sum_by f (accepting w k Open n rest).sessions + f (Some q) ≡ sum_by f w.sessions + f (Some (begun Open n q))
      begun_sum f =
          ap (λ o. sum_by f (begun_at (record w { requests = rest }) k Open n o).sessions + f (Some q)) there
          ∙ sum_changed f w k q (Some (begun Open n q)) there

      pub held_begun : q.object ≡ Empty → (leaf : Leaf)
          → held r (accepting w k Open n rest) x leaf ≡ held r w x leaf + to_leaf x (λ s. price_memory r form.Slice n) (Some q)
      held_begun none leaf =
          let h = begun_sum (to_leaf x (bank_price r)) in
          let price = ap (slot_price r) none in
          let both = both_added (q.server == x) (bank_price r (begun Open n q)) (bank_price r q) (price_memory r form.Slice n) (omega (arith, price)) in
          omega (arith, h, both)

      pub lent_begun : lent r (accepting w k Open n rest) x ≡ lent r w x
      lent_begun = let h = begun_sum (from_leaf x (donated r)) in omega (arith, h)

      pub received_begun : received r (accepting w k Open n rest) x ≡ received r w x
      received_begun = let h = begun_sum (to_leaf x (donated r)) in omega (arith, h)

    -- ONE LESS

    pub held_ended : (leaf : Leaf) → held r (ending w k) x leaf + to_leaf x (bank_price r) (Some q) ≡ held r w x leaf
    held_ended leaf = let h = sum_changed (to_leaf x (bank_price r)) w k q None there in omega (arith, h)

    pub lent_ended : lent r (ending w k) x + from_leaf x (donated r) (Some q) ≡ lent r w x
    lent_ended = let h = sum_changed (from_leaf x (donated r)) w k q None there in omega (arith, h)

    pub received_ended : received r (ending w k) x + to_leaf x (donated r) (Some q) ≡ received r w x
    received_ended = let h = sum_changed (to_leaf x (donated r)) w k q None there in omega (arith, h)
