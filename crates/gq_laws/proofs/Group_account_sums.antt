-- Sums over sessions know only those of the group, so the account of a leaf inside stays.
use Rattle.std.proofs.Common.{◌≡◌, ℕ, zero, suc, ◌||◌, ◌+◌, ◌-◌, ◌==◌, inl, inr, Bool, true, false, cond, List, [], ◌∷◌, Option, Some, None, refl, ap, sym, ◌∙◌}
use Rattle.std.proofs.Common.{arith}
use Rattle.std.specs.Prelude.{◌&&◌, nat_le, slice_get, sum_by}
use Rattle.std.proofs.lemmas.Bool.Decides.{eqb_tells}
use Rattle.std.proofs.lemmas.List.Sums.{sum_by-cons}
use Rattle.gq_model.specs.machine.Amounts.{Resource, Ram, Caps, part}
use Rattle.gq_model.specs.machine.Scenario.{System, Component}
use Rattle.gq_model.specs.machine.World.{Session, Leaf, World, joined}
use Rattle.gq_model.specs.machine.Resource_prices.{heap}
use Rattle.gq_model.specs.machine.Sums.{slot_price, bank_price, donated, to_leaf, from_leaf, held, lent, received, handed, quota, is_paid, are_paid}
use Rattle.gq_model.specs.machine.Accounts.{Account, amount_in, account_at}
use Rattle.gq_laws.specs.Separation.{own_session, IsUntouched, SameAccounts}

-- a sum whose terms are 0 where there is no session, by what stands at each place
module _ (g : Option Session → Option Session) (f : Option Session → ℕ) (none : g None ≡ None) (zeroed : f None ≡ 0)
    (known : (o : Option Session) → f o ≡ f (g o)) where
  term : (a b : Option Session) → g a ≡ g b → f a ≡ f b
  term a b e = known a ∙ (ap f e ∙ sym (known b))

  pub sums : (items others : List (Option Session)) → ((k : ℕ) → g (joined (slice_get items k)) ≡ g (joined (slice_get others k)))
      → sum_by f items ≡ sum_by f others
  sums [] [] h = refl
  sums [] (b ∷ others) h =
      let here = term None b (h zero) in
      let further = sums [] others (λ k. h (suc k)) in
      omega (arith, here, further, zeroed, sum_by-cons f b others)
  sums (a ∷ items) [] h =
      let here = term a None (h zero) in
      let further = sums items [] (λ k. h (suc k)) in
      omega (arith, here, further, zeroed, sum_by-cons f a items)
  sums (a ∷ items) (b ∷ others) h =
      let here = term a b (h zero) in
      let further = sums items others (λ k. h (suc k)) in
      omega (arith, here, further, sum_by-cons f a items, sum_by-cons f b others)

module _ (group : ℕ → Bool) (y : ℕ) (inside : group y ≡ true) where
  or_true : (a : Bool) → (a || true) ≡ true
  or_true true = refl
  or_true false = refl

  shown : (s : Session) → (group s.client || group s.server) ≡ true → own_session group (Some s) ≡ Some s
  shown s e = ap (λ b. cond b (Some s) None) e

  to_else : (f : Session → ℕ) (s : Session) (b : Bool) → (s.server == y) ≡ false → to_leaf y f (Some s) ≡ to_leaf y f (cond b (Some s) None)
  to_else f s true e = refl
  to_else f s false e = ap (λ b. cond b (f s) 0) e

  pub to_known : (f : Session → ℕ) (o : Option Session) → to_leaf y f o ≡ to_leaf y f (own_session group o)
  to_known f None = refl
  to_known f (Some s) = elim (eqb_tells s.server y) [
    | inl t ↦ ap (to_leaf y f) (sym (shown s (ap (λ b. group s.client || b) (ap group t.1 ∙ inside) ∙ or_true (group s.client))))
    | inr t ↦ to_else f s (group s.client || group s.server) t.0
  ]

  from_else : (f : Session → ℕ) (s : Session) (b : Bool) → (s.client == y) ≡ false → from_leaf y f (Some s) ≡ from_leaf y f (cond b (Some s) None)
  from_else f s true e = refl
  from_else f s false e = ap (λ b. cond b (f s) 0) e

  pub from_known : (f : Session → ℕ) (o : Option Session) → from_leaf y f o ≡ from_leaf y f (own_session group o)
  from_known f None = refl
  from_known f (Some s) = elim (eqb_tells s.client y) [
    | inl t ↦ ap (from_leaf y f) (sym (shown s (ap (λ a. a || group s.server) (ap group t.1 ∙ inside))))
    | inr t ↦ from_else f s (group s.client || group s.server) t.0
  ]

  module _ (old new : World) (h : IsUntouched group old new) where
    to_same : (f : Session → ℕ) → sum_by (to_leaf y f) new.sessions ≡ sum_by (to_leaf y f) old.sessions
    to_same f = sums (own_session group) (to_leaf y f) refl refl (to_known f) new.sessions old.sessions h.sessions

    from_same : (f : Session → ℕ) → sum_by (from_leaf y f) new.sessions ≡ sum_by (from_leaf y f) old.sessions
    from_same f = sums (own_session group) (from_leaf y f) refl refl (from_known f) new.sessions old.sessions h.sessions

    held_same : (r : Resource) (leaf : Leaf) → held r new y leaf ≡ held r old y leaf
    held_same r leaf = ap (λ n. sum_by (slot_price r) leaf.slots + heap r leaf.peaks + n) (to_same (bank_price r))

    quota_same : (r : Resource) (c : Component) (leaf : Leaf) → quota r new y c leaf ≡ quota r old y c leaf
    quota_same r c leaf =
        ap (λ n. handed leaf.phase (part r c.node.quantum) + n - lent r new y) (to_same (donated r))
        ∙ ap (λ n. handed leaf.phase (part r c.node.quantum) + received r old y - n) (from_same (donated r))

    one_paid : (r : Resource) (c : Component) (leaf : Leaf) → is_paid new y c leaf r ≡ is_paid old y c leaf r
    one_paid r c leaf =
        λ t. nat_le (held_same r leaf t + from_same (donated r) t) (handed leaf.phase (part r c.node.quantum) + to_same (donated r) t)

    -- a leaf inside is paid for as it was
    pub paid_same : (c : Component) (leaf : Leaf) (resources : List Resource) → are_paid new y c leaf resources ≡ are_paid old y c leaf resources
    paid_same c leaf [] = refl
    paid_same c leaf (r ∷ resources) = λ t. one_paid r c leaf t && paid_same c leaf resources t

    account_by : (version : ℕ) (c : Component) (leaf : Leaf) (budget ram caps used taken : ℕ) → List Account
    account_by version c leaf budget ram caps used taken =
        record {
          label = c.label;
          quota = amount_in version ram caps;
          leaf = Some (record { used = amount_in version used taken; steps = leaf.steps; budget = budget; phase = leaf.phase });
        } ∷ []

    account_same : (version budget : ℕ) (c : Option Component) (leaf : Option Leaf)
        → account_at version new y c leaf budget ≡ account_at version old y c leaf budget
    unfolding account_by
    account_same version budget None leaf = refl
    account_same version budget (Some c) None = refl
    account_same version budget (Some c) (Some leaf) =
        λ t. account_by version c leaf budget (quota_same Ram c leaf t) (quota_same Caps c leaf t) (held_same Ram leaf t) (held_same Caps leaf t)

pub same_accounts : (system : System) (group : ℕ → Bool) (old new : World) → IsUntouched group old new → SameAccounts system group old new
same_accounts system group old new h y inside version budget =
    ap (λ l. account_at version new y (slice_get system.components y) l budget) (h.leaves y inside)
    ∙ account_same group y inside old new h version budget (slice_get system.components y) (slice_get old.leaves y)
