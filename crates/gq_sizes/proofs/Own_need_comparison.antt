-- What a leaf needs of its own, by the least quantities; and what inits hand out.
use Rattle.std.proofs.Common.{◌≡◌, ℕ, suc, ◌+◌, ◌*◌, Bool, true, false, List, [], ◌∷◌, max, Option, Some, None, refl, ap, sym, ◌∙◌, arith}
use Rattle.std.specs.Prelude.{sum_by, if◌then◌else◌}
use Rattle.std.proofs.lemmas.List.Sums.{sum_by-cons}
use Rattle.gq_tariff.specs.Prices.{classes}
use Rattle.gq_model.specs.machine.Accounts.{leaf_count}
use Rattle.gq_model.specs.machine.Amounts.{Resource, Ram, Caps, counts_caps}
use Rattle.gq_model.specs.machine.Lists.{greatest}
use Rattle.gq_model.specs.machine.Resource_prices.{chunks}
use Rattle.gq_model.specs.machine.Scenario.{Interfaces, Nodes, End, Leaf_node, Init_node, System}
use Rattle.gq_model.specs.declared.section.Section.TheVariants.{Main}
use Rattle.gq_model.specs.rules.Budgets.{heap_cost, own}
use Rattle.gq_model.specs.rules.Kinds.{Kind, Empty_kind, Memory, Pool_kind, Link_kind, AbstractState, Subject, kind_places, kinds_cost}
use Rattle.gq_model.specs.rules.Resolve.{first_handed, handed_out}
use Rattle.gq_sizes.specs.Unsized_equality.{KindsAsOne, BanksAsOne, StatesAsOne, PointsAsOne, NodesAsOne}
use Rattle.gq_sizes.specs.Size.{Given, slots_cost, section_points, own_by, least_at, unless_after, children_least}
use Rattle.gq_sizes.specs.Least.{caps_of, least_nodes}
use Rattle.gq_sizes.proofs.Session_cost_comparison.{own_ram, own_caps, Settled}

-- POINTS

greatest_points : (xs ys : Interfaces) (f g : AbstractState → ℕ) (ss ts : List AbstractState) → ((s t : AbstractState) → StatesAsOne xs ys s t → f s ≡ g t) →
    PointsAsOne xs ys ss ts
    → greatest f ss ≡ greatest g ts
greatest_points xs ys f g [] [] so h = refl
greatest_points xs ys f g [] (t ∷ ts) so h = absurd h
greatest_points xs ys f g (s ∷ ss) [] so h = absurd h
greatest_points xs ys f g (s ∷ ss) (t ∷ ts) so h = λ i. max (so s t h.0 i) (greatest_points xs ys f g ss ts so h.1 i)

places_so : (xs ys : Interfaces) (c : ℕ) (k l : Kind) → KindsAsOne xs ys k l → kind_places c k ≡ kind_places c l
places_so xs ys c Empty_kind l e = ap (kind_places c) (sym e)
places_so xs ys c (Memory form n) l e = ap (kind_places c) (sym e)
places_so xs ys c (Pool_kind n m) l e = ap (kind_places c) (sym e)
places_so xs ys c (Link_kind s l a) Empty_kind e = absurd e
places_so xs ys c (Link_kind s l a) (Memory form n) e = absurd e
places_so xs ys c (Link_kind s l a) (Pool_kind n m) e = absurd e
places_so xs ys c (Link_kind s l a) (Link_kind t m b) e = refl

bank_places : (xs ys : Interfaces) (c : ℕ) (ks ls : List Kind) → BanksAsOne xs ys ks ls → sum_by (kind_places c) ks ≡ sum_by (kind_places c) ls
bank_places xs ys c [] [] b = refl
bank_places xs ys c [] (l ∷ ls) b = absurd b
bank_places xs ys c (k ∷ ks) [] b = absurd b
bank_places xs ys c (k ∷ ks) (l ∷ ls) b =
    let e = places_so xs ys c k l b.0 in let r = bank_places xs ys c ks ls b.1 in
    omega (arith, e, r, sum_by-cons (kind_places c) k ks, sum_by-cons (kind_places c) l ls)

pub heap_so : (xs ys : Interfaces) (r : Resource) (ss ts : List AbstractState) (cs : List ℕ) → PointsAsOne xs ys ss ts → heap_cost r ss cs ≡ heap_cost r ts cs
heap_so xs ys r ss ts [] h = refl
heap_so xs ys r ss ts (c ∷ cs) h =
    let e = greatest_points xs ys (λ s. sum_by (kind_places c) s.own) (λ s. sum_by (kind_places c) s.own) ss ts (λ s t o. bank_places xs ys c s.own t.own
    o.own) h in
    (λ i. chunks r (c * e i) + heap_so xs ys r ss ts cs h i)

-- what a leaf needs of its own in the other is what it needs here, with what is given for its links
pub own_ram_so : (v w : Subject) (given : Given) → PointsAsOne v.interfaces w.interfaces (section_points v Main) (section_points w Main)
    → own Ram w ≡ own_by given Ram v
own_ram_so v w given h =
    let a = greatest_points v.interfaces w.interfaces (λ s. slots_cost given Ram s.own) (λ s. kinds_cost Ram s.own) (section_points v Main) (section_points w
    Main)
    (λ s t o. sym (own_ram v.interfaces w.interfaces given s t o)) h in
    let b = heap_so v.interfaces w.interfaces Ram (section_points v Main) (section_points w Main) classes h in
    (λ i. sym a i + sym b i)

pub own_caps_so : (v w : Subject) (given : Given) → Settled v.interfaces w.interfaces given
    → PointsAsOne v.interfaces w.interfaces (section_points v Main) (section_points w Main) → own Caps w ≡ own_by given Caps v
own_caps_so v w given settled h =
    let a = greatest_points v.interfaces w.interfaces (λ s. slots_cost given Caps s.own) (λ s. kinds_cost Caps s.own) (section_points v Main) (section_points
    w Main)
    (λ s t o. sym (own_caps v.interfaces w.interfaces given settled s t o)) h in
    let b = heap_so v.interfaces w.interfaces Caps (section_points v Main) (section_points w Main) classes h in
    (λ i. sym a i + sym b i)

-- NODES

module _ (version : ℕ) (all : System) where
  pub nodes_as_one : (x : ℕ) (ns : Nodes) → NodesAsOne ns (least_nodes version all x ns)
  nodes_as_one x End = tt
  nodes_as_one x (Leaf_node node rest) = (refl, nodes_as_one (suc x) rest)
  nodes_as_one x (Init_node node children rest) = (refl, nodes_as_one x children, nodes_as_one (x + leaf_count children) rest)

  first_or : (after : Option (List ℕ)) (n : ℕ) → first_handed after n ≡ unless_after after n
  first_or None n = refl
  first_or (Some name) n = refl

  -- what is handed out at the start is what the children need
  pub handed_ram : (x : ℕ) (ns : Nodes) → handed_out Ram (least_nodes version all x ns) ≡ children_least Ram all x ns
  handed_ram x End = refl
  handed_ram x (Leaf_node node rest) = (λ i. first_or node.after (least_at Ram all x) i + handed_ram (suc x) rest i)
  handed_ram x (Init_node node children rest) = (λ i. children_least Ram all x children + handed_ram (x + leaf_count children) rest i)

  caps_first : (after : Option (List ℕ)) (n : ℕ) → first_handed after (caps_of version n) ≡ caps_of version (unless_after after n)
  caps_first None n = refl
  caps_first (Some name) n = by (counts_caps version)
    where
      by : (b : Bool) → ◌≡◌ {A = ℕ} 0 (if◌then◌else◌ b 0 0)
      by true = refl
      by false = refl

  caps_plus : (n m : ℕ) → caps_of version n + caps_of version m ≡ caps_of version (n + m)
  caps_plus n m = by (counts_caps version)
    where
      by : (b : Bool) → (if◌then◌else◌ b n 0) + (if◌then◌else◌ b m 0) ≡ (if◌then◌else◌ b (n + m) 0)
      by true = refl
      by false = omega arith

  caps_none : 0 ≡ caps_of version 0
  caps_none = by (counts_caps version)
    where
      by : (b : Bool) → ◌≡◌ {A = ℕ} 0 (if◌then◌else◌ b 0 0)
      by true = refl
      by false = refl

  pub handed_caps : (x : ℕ) (ns : Nodes) → handed_out Caps (least_nodes version all x ns) ≡ caps_of version (children_least Caps all x ns)
  handed_caps x End = caps_none
  handed_caps x (Leaf_node node rest) =
      (λ i. caps_first node.after (least_at Caps all x) i + handed_caps (suc x) rest i)
      ∙ caps_plus (unless_after node.after (least_at Caps all x)) (children_least Caps all (suc x) rest)
  handed_caps x (Init_node node children rest) =
      (λ i. caps_of version (children_least Caps all x children) + handed_caps (x + leaf_count children) rest i)
      ∙ caps_plus (children_least Caps all x children) (children_least Caps all (x + leaf_count children) rest)
