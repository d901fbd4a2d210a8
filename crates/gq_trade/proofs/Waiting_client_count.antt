-- Each client has one request at most, so there are fewer than leaves.
use Rattle.std.proofs.Common.{◌≡◌, ℕ, zero, suc, ◌<◌, ◌≤◌, inl, inr, List, [], ◌∷◌, ◌++◌, length, set, Option, Some, None, refl, sym, ap, ◌+◌}
use Rattle.std.proofs.Common.{subst, ◌∙◌, arith}
use Rattle.std.proofs.lemmas.Bool.{cases_eq}
use Rattle.std.proofs.lemmas.Bool.Decides.{eqb_tells}
use Rattle.std.proofs.lemmas.List.{get_or-set_same, get_or-set_other}
use Rattle.gq_trade.proofs.Lowest_free_number.{taken_there}
use Rattle.gq_trade.specs.Numbers.{added, IsTaken}
use Rattle.gq_trade.specs.declared.requests.Request.{Request}
use Rattle.gq_trade.specs.Queues.{kept_before, oldest_to}
use Rattle.gq_trade.specs.declared.session.Session.{Session}
use Rattle.gq_trade.specs.Trading.{AreBetween, AreOf, AreOfOthers, found, session_in}
use Rattle.gq_trade.proofs.Sessions_kept.{added_other, between_at}
use Rattle.gq_trade.specs.Waiting.{AreApart, AreOther, IsBounded, clients_in, is_upgrade, upgrades}
use Rattle.gq_tariff.specs.declared.amount.Amount.{Amount}
use Rattle.gq_trade.specs.declared.requests.Ask.TheVariants.{Upgrade}
use Rattle.gq_trade.specs.Trading.{with_more}
use Rattle.gq_trade.specs.Balances.{for_node}
use Rattle.gq_trade.proofs.Balances_after_trades.{for_same, for_other}

-- COUNTING

abbrev AllBelow : ℕ → List ℕ → Type 0
AllBelow n [] = Unit {0}
AllBelow n (y ∷ ys) = (y < n) × AllBelow n ys

-- these are below n, and those but one that were below n + 1
record Lowered (n : ℕ) (ys zs : List ℕ) : Type 0 where
  pub apart : AreApart zs
  pub below : AllBelow n zs
  pub count : length ys ≤ suc (length zs)
  pub others : (x : ℕ) → AreOther x ys → AreOther x zs

below_top : (n y : ℕ) (ys : List ℕ) → y ≡ n → AreOther y ys → AllBelow (suc n) ys → AllBelow n ys
below_top n y [] e o b = tt
below_top n y (z ∷ zs) e o b =
    (elim (cases_eq z n) [ inl f ↦ absurd (o.0 (f ∙ sym e)) | inr ne ↦ lower z n b.0 ne ], below_top n y zs e o.1 b.1)
  where
    lower : (a m : ℕ) → a < suc m → (a ≡ m → ⊥) → a < m
    lower a m lt ne = grind (arith, lt, ne)

lowered : (n : ℕ) (ys : List ℕ) → AreApart ys → AllBelow (suc n) ys → (zs : List ℕ) × Lowered n ys zs
lowered n [] a b = ([], record { apart = tt; below = tt; count = omega arith; others = λ x o. tt })
lowered n (y ∷ ys) a b = elim (cases_eq y n) [
  | inl e ↦ (ys, record { apart = a.1; below = below_top n y ys e a.0 b.1; count = omega arith; others = λ x o. o.1 })
  | inr ne ↦
      let r = lowered n ys a.1 b.1 in (
        y ∷ r.0,
        record {
          apart = (r.1.others y a.0, r.1.apart);
          below = (grind (arith, b.0, ne), r.1.below);
          count = omega (arith, r.1.count);
          others = λ x o. (o.0, r.1.others x o.1);
        },
      )
]

apart_count : (n : ℕ) (ys : List ℕ) → AreApart ys → AllBelow n ys → length ys ≤ n
apart_count n [] a b = omega arith
apart_count zero (y ∷ ys) a b = absurd (omega (arith, b.0))
apart_count (suc n) (y ∷ ys) a b =
    let r = lowered n (y ∷ ys) a b in let c = apart_count n r.0 r.1.apart r.1.below in omega (arith, r.1.count, c)

-- WHAT STAYS

all_below : (n m : ℕ) (ss : List (Option Session)) (rs : List Request) → AreBetween n m ss → AreOf ss rs → AllBelow n (clients_in ss rs)
all_below n m ss [] b h = tt
all_below n m ss (r ∷ rs) b h = ((between_at n m ss r.session b h.0).client, all_below n m ss rs b h.2)

length_clients : (ss : List (Option Session)) (rs : List Request) → length (clients_in ss rs) ≡ length rs
length_clients ss [] = refl
length_clients ss (r ∷ rs) = ap suc (length_clients ss rs)

-- where one leaf has no request, fewer wait than there are leaves
pub fewer : (n m x : ℕ) (ss : List (Option Session)) (rs : List Request) → AreBetween n m ss → AreOf ss rs → AreApart (clients_in ss rs)
    → AreOther x (clients_in ss rs) → x < n → length rs < n
fewer n m x ss rs b h a o lt =
    let c = apart_count n (x ∷ clients_in ss rs) (o, a) (lt, all_below n m ss rs b h) in omega (arith, c, length_clients ss rs)

-- sessions that are still there, with the same clients
pub clients_same : (ss ts : List (Option Session)) (rs : List Request) → AreOf ss rs
    → ((k : ℕ) → IsTaken ss k → (session_in ts k).client ≡ (session_in ss k).client) → clients_in ts rs ≡ clients_in ss rs
clients_same ss ts [] h same = refl
clients_same ss ts (r ∷ rs) h same = λ i. same r.session h.0 i ∷ clients_same ss ts rs h.2 same i

pub clients_added : (s : Session) (ss : List (Option Session)) (rs : List Request) → AreOf ss rs → clients_in (added s ss) rs ≡ clients_in ss rs
clients_added s ss rs h = clients_same ss (added s ss) rs h (λ k t. ap (λ o. (found o).client) (added_other s ss k t))

pub clients_set : (ss : List (Option Session)) (k : ℕ) (s : Session) (rs : List Request) → AreOf ss rs → IsTaken ss k
    → s.client ≡ (session_in ss k).client → clients_in (set ss k (Some s)) rs ≡ clients_in ss rs
clients_set ss k s rs h t e = clients_same ss (set ss k (Some s)) rs h (λ j u. elim (cases_eq j k) [
  | inl f ↦
      ap (λ i. (session_in (set ss k (Some s)) i).client) f
      ∙ ap (λ o. (found o).client) (get_or-set_same ss k (Some s) None (taken_there ss k t))
      ∙ e
      ∙ ap (λ i. (session_in ss i).client) (sym f)
  | inr ne ↦ ap (λ o. (found o).client) (get_or-set_other ss k j (Some s) None ne)
])

pub clients_unset : (ss : List (Option Session)) (k : ℕ) (rs : List Request) → AreOfOthers k rs → clients_in (set ss k None) rs ≡ clients_in ss rs
clients_unset ss k [] o = refl
clients_unset ss k (r ∷ rs) o =
    λ i. (found (get_or-set_other ss k r.session None None o.0 i)).client ∷ clients_unset ss k rs o.1 i

clients_more : (ss : List (Option Session)) (rs : List Request) (r : Request)
    → clients_in ss (rs ++ r ∷ []) ≡ clients_in ss rs ++ (session_in ss r.session).client ∷ []
clients_more ss [] r = refl
clients_more ss (q ∷ rs) r = ap (λ ys. (session_in ss q.session).client ∷ ys) (clients_more ss rs r)

other_more : (x y : ℕ) (ys : List ℕ) → AreOther x ys → (y ≡ x → ⊥) → AreOther x (ys ++ y ∷ [])
other_more x y [] o ne = (ne, tt)
other_more x y (z ∷ zs) o ne = (o.0, other_more x y zs o.1 ne)

apart_more : (y : ℕ) (ys : List ℕ) → AreApart ys → AreOther y ys → AreApart (ys ++ y ∷ [])
apart_more y [] a o = (tt, tt)
apart_more y (z ∷ zs) a o = (other_more z y zs a.0 (λ e. o.0 (sym e)), apart_more y zs a.1 o.1)

-- a request more, of a client that had none
pub asked_apart : (ss : List (Option Session)) (rs : List Request) (r : Request) (x : ℕ) → (session_in ss r.session).client ≡ x
    → AreApart (clients_in ss rs) → AreOther x (clients_in ss rs) → AreApart (clients_in ss (rs ++ r ∷ []))
asked_apart ss rs r x e a o =
    subst AreApart (sym (clients_more ss rs r ∙ ap (λ y. clients_in ss rs ++ y ∷ []) e)) (apart_more x (clients_in ss rs) a o)

-- a request that is taken
record KeepsApart (ss : List (Option Session)) (rs rest : List Request) : Type 0 where
  pub apart : AreApart (clients_in ss rest)
  pub others : (x : ℕ) → AreOther x (clients_in ss rs) → AreOther x (clients_in ss rest)

some_in : (a b : Request × List Request) → Some a ≡ Some b → a ≡ b
some_in a b e = cc

abbrev pair : Request → List Request → Request × List Request
pair r rs = (r, rs)

later : (ss : List (Option Session)) (r : Request) (rs : List Request) (p : Request × List Request) (o : Option (Request × List Request))
    → AreApart (clients_in ss (r ∷ rs)) → kept_before r o ≡ Some p → ((q : Request × List Request) → o ≡ Some q → KeepsApart ss rs q.1)
    → KeepsApart ss (r ∷ rs) p.1
later ss r rs p None a e further = cc
later ss r rs p (Some q) a e further =
    let f : r ∷ q.1 ≡ p.1 = ap (λ (t : Request × List Request). t.1) (some_in (pair q.0 (r ∷ q.1)) p e) in
    let k = further q refl in
    subst (KeepsApart ss (r ∷ rs)) f (record {
      apart = (k.others (session_in ss r.session).client a.0, k.apart);
      others = λ x o. (o.0, k.others x o.1);
    })

first : (ss : List (Option Session)) (r : Request) (rs : List Request) (p : Request × List Request) → AreApart (clients_in ss (r ∷ rs))
    → Some (pair r rs) ≡ Some p → KeepsApart ss (r ∷ rs) p.1
first ss r rs p a e =
    let f : rs ≡ p.1 = ap (λ (t : Request × List Request). t.1) (some_in (pair r rs) p e) in
    subst (KeepsApart ss (r ∷ rs)) f (record { apart = a.1; others = λ x o. o.1 })

taken : (ss : List (Option Session)) (x : ℕ) (rs : List Request) (p : Request × List Request) → AreApart (clients_in ss rs) → oldest_to x rs ≡ Some p
    → KeepsApart ss rs p.1
taken ss x [] p a e = cc
taken ss x (r ∷ rs) p a e = elim (eqb_tells r.server x) [
  | inl t ↦ first ss r rs p a (rw t.0 at e)
  | inr n ↦ later ss r rs p (oldest_to x rs) a (rw n.0 at e) (λ q f. taken ss x rs q a.1 f)
]

pub taken_apart : (ss : List (Option Session)) (x : ℕ) (rs : List Request) (r : Request) (rest : List Request) → AreApart (clients_in ss rs)
    → oldest_to x rs ≡ Some (r, rest) → AreApart (clients_in ss rest)
taken_apart ss x rs r rest a e = (taken ss x rs (pair r rest) a e).apart

-- UPGRADES THAT WAIT

upgrades_more : (k : ℕ) (rs : List Request) (r : Request) → upgrades k (rs ++ r ∷ []) ≡ upgrades k rs + for_node r.session k (is_upgrade r.ask)
upgrades_more k [] r = omega arith
upgrades_more k (q ∷ rs) r = let further = upgrades_more k rs r in omega (arith, further)

-- with more upgrades that wait no more is given
pub bounded_more : (s : Session) (n m : ℕ) → n ≤ m → IsBounded s n → IsBounded s m
bounded_more s n m lt b = record { level = b.level; ram = omega (arith, b.ram, lt); caps = omega (arith, b.caps, lt) }

pub waits_more : (s : Session) (k : ℕ) (rs : List Request) (r : Request) → IsBounded s (upgrades k rs) → IsBounded s (upgrades k (rs ++ r ∷ []))
waits_more s k rs r b = let e = upgrades_more k rs r in bounded_more s (upgrades k rs) (upgrades k (rs ++ r ∷ [])) (omega (arith, e)) b

-- at a request to upgrade so much more is given
pub upgrade_bounded : (s : Session) (k x : ℕ) (n : Amount) (rs : List Request) → n.ram ≤ 67108864 → n.caps ≤ 67108864 → IsBounded s (upgrades k rs)
    → IsBounded (with_more s n) (upgrades k (rs ++ record { session = k; server = x; ask = Upgrade } ∷ []))
upgrade_bounded s k x n rs nr nc b =
    let e = upgrades_more k rs (record { session = k; server = x; ask = Upgrade }) in
    let one : for_node k k 1 ≡ 1 = for_same k k 1 refl in
    record { level = b.level; ram = omega (arith, b.ram, nr, e, one); caps = omega (arith, b.caps, nc, e, one) }

later_upgrades : (k : ℕ) (r : Request) (rs : List Request) (p : Request × List Request) (o : Option (Request × List Request)) → kept_before r o ≡ Some p
    → ((q : Request × List Request) → o ≡ Some q → upgrades k rs ≡ for_node (q.0).session k (is_upgrade (q.0).ask) + upgrades k q.1)
    → upgrades k (r ∷ rs) ≡ for_node (p.0).session k (is_upgrade (p.0).ask) + upgrades k p.1
later_upgrades k r rs p None e further = cc
later_upgrades k r rs p (Some q) e further =
    let f = further q refl in
    subst (λ (t : Request × List Request). upgrades k (r ∷ rs) ≡ for_node (t.0).session k (is_upgrade (t.0).ask) + upgrades k t.1)
    (some_in (pair q.0 (r ∷ q.1)) p e) (omega (arith, f))

first_upgrades : (k : ℕ) (r : Request) (rs : List Request) (p : Request × List Request) → Some (pair r rs) ≡ Some p
    → upgrades k (r ∷ rs) ≡ for_node (p.0).session k (is_upgrade (p.0).ask) + upgrades k p.1
first_upgrades k r rs p e =
    subst (λ (t : Request × List Request). upgrades k (r ∷ rs) ≡ for_node (t.0).session k (is_upgrade (t.0).ask) + upgrades k t.1)
    (some_in (pair r rs) p e) refl

pub taken_upgrades : (k x : ℕ) (rs : List Request) (p : Request × List Request) → oldest_to x rs ≡ Some p
    → upgrades k rs ≡ for_node (p.0).session k (is_upgrade (p.0).ask) + upgrades k p.1
taken_upgrades k x [] p e = cc
taken_upgrades k x (r ∷ rs) p e = elim (eqb_tells r.server x) [
  | inl t ↦ first_upgrades k r rs p (rw t.0 at e)
  | inr n ↦ later_upgrades k r rs p (oldest_to x rs) (rw n.0 at e) (λ q f. taken_upgrades k x rs q f)
]

-- where the client of a session has no request, none to upgrade it waits
pub idle_none : (ss : List (Option Session)) (k : ℕ) (rs : List Request) → AreOther (session_in ss k).client (clients_in ss rs) → upgrades k rs ≡ 0
idle_none ss k [] o = refl
idle_none ss k (r ∷ rs) o =
    let here = for_other r.session k (is_upgrade r.ask) (λ e. o.0 (ap (λ j. (session_in ss j).client) e)) in
    let further = idle_none ss k rs o.1 in
    omega (arith, here, further)
