-- What leaves need at least, found from numbers that are kept as far as 64 bits go.
use Rattle.std.proofs.Common.{◌≡◌, ◌∙◌, ℕ, zero, suc, ◌+◌, ◌*◌, ◌^◌, ◌<◌, ◌≤◌, max, Bool, true, List, [], ◌∷◌, ◌++◌}
use Rattle.std.proofs.Common.{length, get_or, drop, map, Option, Some, None, ap, ap₂, sym, refl, arith, add-one, append-nil}
use Rattle.std.specs.Prelude.{if◌then◌else◌, slice_get, sum_by}
use Rattle.std.proofs.Math.ListN.{drop_of_length-le}
use Rattle.std.proofs.lemmas.List.{length-map}
use Rattle.std.proofs.lemmas.Option.{get_or_from_slice_get, slice_get-get_or}
use Rattle.gq_tariff.specs.Prices.{classes}
use Rattle.gq_model.specs.machine.Accounts.{leaf_count}
use Rattle.gq_model.specs.machine.Amounts.{Resource, Ram, Caps, Amount, amount, part}
use Rattle.gq_model.specs.machine.Lists.{greatest}
use Rattle.gq_model.specs.machine.Resource_prices.{chunks, heap_of}
use Rattle.gq_model.specs.machine.Program.{Statements, Done, body_of, section_in}
use Rattle.gq_model.specs.machine.Scenario.{Component, Nodes, System}
use Rattle.gq_model.specs.declared.section.Section.TheVariants.{Main}
use Rattle.gq_model.specs.rules.Accept.{Budget, budgets_from}
use Rattle.gq_model.specs.rules.Budgets.{heap_cost, own}
use Rattle.gq_model.specs.rules.Flow.{context, points, start_of}
use Rattle.gq_model.specs.rules.Kinds.{AbstractState, Subject, kind_places, kinds_cost}
use Rattle.gq_model.specs.rules.Use.{subject}
use Rattle.gq_resolve.proofs.Mapped_list_growth.{next_is, one_more, onto}
use Rattle.gq_scenario.specs.Sizes.{node_count}
use Rattle.gq_scenario.specs.Component_trees.{before, nodes_of}
use Rattle.gq_scenario.specs.declared.scenario.Node.{Node}
use Rattle.gq_scenario.specs.declared.scenario.Node.TheVariants.{Leaf, Init}
use Rattle.gq_scenario.proofs.Tree_counts.{nodes_drop}
use Rattle.gq_verify.specs.Saturated_numbers.{saturated}
use Rattle.gq_verify.specs.Visits.{most_shown, section_sights, sights_by, slots_of}
use Rattle.gq_verify.proofs.Visited_point_maxima.{most_of_section}
use Rattle.gq_sizes.specs.Size.{Given, children_least, is_named, least_caps, leaf_least, own_by, quantum_of, section_points, slots_cost, starts_after}
use Rattle.gq_sizes.specs.internal.Printed_sizes.{init_least_printed, leaf_least_printed}
use Rattle.gq_sizes.specs.Saturated_tables.{IsLeast, leasts_from, own_least}
use Rattle.gq_sizes.proofs.Saturated_cost_sums.{greatest_saturated, saturated_both, saturated_own}
use Rattle.gq_sizes.proofs.Slot_costs.{slots_ram}

-- HEAP

heap_same : (cs ps : List ℕ) (states : List AbstractState) → length ps ≡ length cs →
    ((k : ℕ) → k < length cs → get_or ps k 0 ≡ greatest (λ (s : AbstractState). sum_by (kind_places (get_or cs k 0)) s.own) states) →
    heap_of Caps cs ps ≡ heap_cost Caps states cs
heap_same [] ps states n h = refl
heap_same (c ∷ cs) [] states n h = absurd (omega (arith, n))
heap_same (c ∷ cs) (p ∷ ps) states n h =
    ap₂ (λ a b. chunks Caps (c * a) + b) (h 0 (omega arith)) (heap_same cs ps states (omega (arith, n)) (λ k l. h (suc k) (omega (arith, l))))

-- WHAT A LEAF NEEDS FOR ITSELF

-- `main` begins with empty slots, so a program without it has nothing at its points, of which none is shown
most_by : (f : AbstractState → ℕ) → ((s : AbstractState) → f (slots_of s) ≡ f s) → (v : Subject) → f (start_of v Main) ≡ 0 → (x : Option Statements) →
    section_in Main v.program.sections ≡ x → greatest f (section_points v Main) ≡ most_shown f (section_sights v Main)
most_by f slots v zero_is (Some b) is = most_of_section f slots v Main b is
most_by f slots v zero_is None is =
    let none : greatest f (points (context v Main) (start_of v Main) Done) ≡ 0 = omega (arith, zero_is) in
    ap (λ o. greatest f (points (context v Main) (start_of v Main) (body_of o))) is ∙ (none ∙ ap (λ o. most_shown f (sights_by v Main o)) (sym is))

pub most_of_main : (f : AbstractState → ℕ) → ((s : AbstractState) → f (slots_of s) ≡ f s) → (v : Subject) → f (start_of v Main) ≡ 0 →
    greatest f (section_points v Main) ≡ most_shown f (section_sights v Main)
most_of_main f slots v zero_is = most_by f slots v zero_is (section_in Main v.program.sections) refl

pub own_kept : (f : Given) (v : Subject) (slots heap : ℕ) (places : List ℕ) →
    slots ≡ most_shown (λ (s : AbstractState). saturated (slots_cost f Caps s.own)) (section_sights v Main) → length places ≡ 8 →
    ((k : ℕ) → k < 8 → get_or places k 0 ≡ most_shown (λ (s : AbstractState). sum_by (kind_places (get_or classes k 0)) s.own) (section_sights v Main)) →
    heap ≡ heap_of Caps classes places → saturated (slots + heap) ≡ saturated (own_by f Caps v)
own_kept f v slots heap places most eight counts is =
    let states = section_points v Main in
    let kept = λ (s : AbstractState). saturated (slots_cost f Caps s.own) in
    let first : slots ≡ saturated (greatest (λ (s : AbstractState). slots_cost f Caps s.own) states) =
    most ∙ (sym (most_of_main kept (λ s. refl) v refl) ∙ greatest_saturated (λ (s : AbstractState). slots_cost f Caps s.own) states) in
    let second : heap ≡ heap_cost Caps states classes =
    is
    ∙ heap_same classes places states eight
    (λ k h. counts k h ∙ sym (most_of_main (λ (s : AbstractState). sum_by (kind_places (get_or classes k 0)) s.own) (λ s. refl) v refl)) in
    saturated_both slots heap (greatest (λ (s : AbstractState). slots_cost f Caps s.own) states) (heap_cost Caps states classes) (omega (arith, first))
    (ap saturated second)

greatest_same : {A : Type 0} → (f g : A → ℕ) → ((x : A) → f x ≡ g x) → (l : List A) → greatest f l ≡ greatest g l
greatest_same f g same [] = refl
greatest_same f g same (x ∷ rest) = ap₂ max (same x) (greatest_same f g same rest)

own_ram : (given : Given) (v : Subject) → own_by given Ram v ≡ own Ram v
own_ram given v =
    let states = section_points v Main in
    ap (λ n. n + heap_cost Ram states classes)
    (greatest_same (λ (s : AbstractState). slots_cost given Ram s.own) (λ (s : AbstractState). kinds_cost Ram s.own) (λ s. slots_ram given s.own) states)

own_is : (all : System) (given : Given) → IsLeast all given → (c : Component) (ram : ℕ) → ram ≡ own Ram (subject all c) →
    amount ram (saturated (own_by given Caps (subject all c))) ≡ own_least all c
own_is all given least c ram e =
    ap₂ amount (e ∙ sym (own_ram (least_caps all) (subject all c))) (saturated_own given (least_caps all) least (subject all c))

own_at : (all : System) (given : Given) → IsLeast all given → (cs : List Component) (i : ℕ) (v : Subject) (ram : ℕ) (x : Amount) → i < length cs →
    v ≡ get_or (map (subject all) cs) i v → ram ≡ get_or (map (λ c. own Ram (subject all c)) cs) i 0 →
    x ≡ amount ram (saturated (own_by given Caps v)) → x ≡ get_or (map (own_least all) cs) i x
own_at all given least [] i v ram x h at is e = absurd (omega arith)
own_at all given least (c ∷ cs) zero v ram x h at is e =
    e ∙ (ap (λ w. amount ram (saturated (own_by given Caps w))) at ∙ own_is all given least c ram is)
own_at all given least (c ∷ cs) (suc i) v ram x h at is e = own_at all given least cs i v ram x (omega arith) at is e

-- one leaf more
pub own_put : (all : System) (given : Given) → IsLeast all given → (leaves : List Subject) (rams : List ℕ) → leaves ≡ map (subject all) all.components →
    rams ≡ map (λ c. own Ram (subject all c)) all.components → (i : ℕ) (v : Subject) (ram : ℕ) (x : Amount) → i < length leaves →
    v ≡ get_or leaves i v → ram ≡ get_or rams i 0 → x ≡ amount ram (saturated (own_by given Caps v)) →
    (made now : List Amount) → now ≡ made ++ x ∷ [] → made ++ drop i (map (own_least all) all.components) ≡ map (own_least all) all.components →
    now ++ drop (i + 1) (map (own_least all) all.components) ≡ map (own_least all) all.components
own_put all given least leaves rams are owns i v ram x h at is e made now put inv =
    let cs = all.components in
    let many : length leaves ≡ length cs = ap length are ∙ length-map cs (subject all) in
    let within : i < length cs = omega (arith, h, many) in
    let whole = map (own_least all) cs in
    let inside : i < length whole = omega (arith, within, length-map cs (own_least all)) in
    let here = own_at all given least cs i v ram x within (at ∙ ap (λ l. get_or l i v) are) (is ∙ ap (λ l. get_or l i 0) owns) e in
    one_more made now whole whole i x x inside here refl put inv

-- nothing is left at the end
all_put : {A : Type 0} → (made all : List A) (i : ℕ) → length all ≤ i → made ++ drop i all ≡ all → made ≡ all
all_put made all i h inv = sym (append-nil made) ∙ (ap (λ l. made ++ l) (sym (drop_of_length-le all h)) ∙ inv)

-- the bytes of budgets
pub budgets_own : (version : ℕ) (all : System) (x : ℕ) (cs : List Component) →
    map (λ (b : Budget). b.own.ram) (budgets_from version all x cs) ≡ map (λ c. own Ram (subject all c)) cs
budgets_own version all x [] = refl
budgets_own version all x (c ∷ cs) = ap (λ l. own Ram (subject all c) ∷ l) (budgets_own version all (suc x) cs)

-- WHO STARTS AFTER A LEAF

module _ (name : List ℕ) (all : List Component) (i : ℕ) (c : Component) (within : i < length all) (is : c ≡ get_or all i c) where
  after_here : (b : Bool) → is_named name c.node.after ≡ b → starts_after name (drop i all) ≡ (if b then Some c else starts_after name (drop (i + 1) all))
  after_here b e = ap (starts_after name) (next_is all i c within is) ∙ ap (λ t. if t then Some c else starts_after name (drop (i + 1) all)) e

  pub after_found : is_named name c.node.after ≡ true → starts_after name (drop i all) ≡ starts_after name all → slice_get all i ≡ starts_after name all
  after_found e inv = slice_get-get_or all i c within ∙ (ap (λ d. Some d) (sym is) ∙ (sym (after_here true e) ∙ inv))

-- WHAT A LEAF NEEDS

module _ (all : System) (c : Component) (least : Amount) (is : least ≡ own_least all c) (small : least.ram < 2 ^ 64) where
  abbrev reported : ℕ → Component → Amount
  reported n d = amount (saturated (leaf_least n Ram all d)) (saturated (leaf_least n Caps all d))

  own_small : least.ram ≡ saturated (own_by (least_caps all) Ram (subject all c))
  own_small = let e = ap (λ (a : Amount). a.ram) is in omega (arith, e, small)

  own_caps_is : least.caps ≡ saturated (own_by (least_caps all) Caps (subject all c))
  own_caps_is = ap (λ (a : Amount). a.caps) is

  -- for itself alone
  pub along_zero : (n : ℕ) → n ≡ 0 → least ≡ reported n c
  along_zero n e = ap₂ amount own_small own_caps_is ∙ ap (λ k. reported k c) (sym e)

  along_none_by : (n : ℕ) → starts_after c.node.name all.components ≡ None → least ≡ reported (suc n) c
  along_none_by n e =
      let at = λ (r : Resource) (o : Option Component).
      saturated (max (own_by (least_caps all) r (subject all c)) (quantum_of (leaf_least n r all) o)) in
      let first : least.ram ≡ at Ram None = omega (arith, own_small) in
      let second : least.caps ≡ at Caps None = omega (arith, own_caps_is) in
      ap₂ amount first second ∙ ap (λ o. amount (at Ram o) (at Caps o)) (sym e)

  -- where none starts after it
  pub along_none : (n m : ℕ) (name : List ℕ) → n ≡ suc m → name ≡ c.node.name → None ≡ starts_after name all.components → least ≡ reported n c
  along_none n m name e named none =
      along_none_by m (ap (λ s. starts_after s all.components) (sym named) ∙ sym none) ∙ ap (λ k. reported k c) (sym e)

  along_some_by : (n : ℕ) (d : Component) → starts_after c.node.name all.components ≡ Some d →
      amount (max least.ram (reported n d).ram) (max least.caps (reported n d).caps) ≡ reported (suc n) c
  along_some_by n d e =
      let at = λ (r : Resource) (o : Option Component).
      saturated (max (own_by (least_caps all) r (subject all c)) (quantum_of (leaf_least n r all) o)) in
      let first : max least.ram (reported n d).ram ≡ at Ram (Some d) = omega (arith, own_small) in
      let second : max least.caps (reported n d).caps ≡ at Caps (Some d) = omega (arith, own_caps_is) in
      ap₂ amount first second ∙ ap (λ o. amount (at Ram o) (at Caps o)) (sym e)

  -- and where one does
  pub along_some : (n m : ℕ) (name : List ℕ) (d : Component) (more : Amount) → n ≡ suc m → name ≡ c.node.name →
      Some d ≡ starts_after name all.components → more ≡ reported m d → amount (max least.ram more.ram) (max least.caps more.caps) ≡ reported n c
  along_some n m name d more e named some next =
      ap (λ (a : Amount). amount (max least.ram a.ram) (max least.caps a.caps)) next
      ∙ (along_some_by m d (ap (λ s. starts_after s all.components) (sym named) ∙ sym some) ∙ ap (λ k. reported k c) (sym e))

-- LEAVES

-- there is one at each place
pub at_place : (all : List Component) (i : ℕ) → i < length all → (c : Component) × (slice_get all i ≡ Some c) × (drop i all ≡ c ∷ drop (suc i) all)
at_place [] i h = absurd (omega arith)
at_place (c ∷ rest) zero h = (c, refl, refl)
at_place (c ∷ rest) (suc i) h = at_place rest i (omega arith)

pub least_put : (all : System) (cs : List Component) (i : ℕ) (c : Component) (x : Amount) → cs ≡ all.components → slice_get cs i ≡ Some c →
    drop i cs ≡ c ∷ drop (suc i) cs →
    x ≡ amount (saturated (leaf_least (length cs) Ram all c)) (saturated (leaf_least (length cs) Caps all c)) →
    (made now whole : List Amount) → now ≡ made ++ x ∷ [] → made ++ leasts_from all i (drop i cs) ≡ whole →
    now ++ leasts_from all (i + 1) (drop (i + 1) cs) ≡ whole
least_put all cs i c x are at next is made now whole put inv =
    let n = length all.components in
    let there = λ (r : Resource). ap (λ (l : List Component). leaf_least (length l) r all c) are
    ∙ (ap (quantum_of (leaf_least n r all)) (sym at) ∙ ap (λ (l : List Component). quantum_of (leaf_least n r all) (slice_get l i)) are) in
    let reported : x ≡ leaf_least_printed all i = is ∙ ap₂ (λ a b. amount (saturated a) (saturated b)) (there Ram) (there Caps) in
    onto made now (x ∷ []) (leasts_from all (i + 1) (drop (i + 1) cs)) (leasts_from all i (drop i cs)) whole put
    (ap (leasts_from all i) next
    ∙ (ap (λ n. leaf_least_printed all i ∷ leasts_from all n (drop n cs)) (sym (add-one i))
    ∙ ap (λ a. a ∷ leasts_from all (i + 1) (drop (i + 1) cs)) (sym reported))) inv

-- what the leaf of a number needs, where there is one
least_from : (all : System) (x k : ℕ) (cs : List Component) → ((i : ℕ) → slice_get all.components (x + i) ≡ slice_get cs i) →
    get_or (leasts_from all x cs) k (amount 0 0) ≡ leaf_least_printed all (x + k)
least_from all x k [] h =
    let n = length all.components in
    ap (λ o. amount (saturated (quantum_of (leaf_least n Ram all) o)) (saturated (quantum_of (leaf_least n Caps all) o))) (sym (h k))
least_from all x zero (c ∷ cs) h = ap (leaf_least_printed all) (omega arith)
least_from all x (suc k) (c ∷ cs) h =
    least_from all (suc x) k cs (λ i. ap (slice_get all.components) (omega arith) ∙ h (suc i)) ∙ ap (leaf_least_printed all) (omega arith)

pub least_printed : (all : System) (least : List Amount) → least ≡ leasts_from all 0 all.components → (x : ℕ) →
    get_or least x (amount 0 0) ≡ leaf_least_printed all x
least_printed all least e x =
    ap (λ l. get_or l x (amount 0 0)) e
    ∙ (least_from all 0 x all.components (λ i. ap (slice_get all.components) (omega arith)) ∙ ap (leaf_least_printed all) (omega arith))

-- CHILDREN

needed_split : (r : Resource) (all : System) (x : ℕ) (node : Node) (rest : Nodes) → children_least r all x (before node rest) ≡
    children_least r all x (nodes_of (node ∷ [])) + children_least r all (x + leaf_count (nodes_of (node ∷ []))) rest
needed_split r all x (Leaf node) rest =
    let e : suc x ≡ x + 1 = omega arith in let same = ap (λ n. children_least r all n rest) e in omega (arith, same)
needed_split r all x (Init node children) rest =
    let e : x + leaf_count children ≡ x + (leaf_count children + 0) = omega arith in
    let same = ap (λ n. children_least r all n rest) e in omega (arith, same)

count_split : (node : Node) (rest : Nodes) → leaf_count (before node rest) ≡ leaf_count (nodes_of (node ∷ [])) + leaf_count rest
count_split (Leaf node) rest = omega arith
count_split (Init node children) rest = omega arith

kept_more : (s m t a b all whole : ℕ) → m ≡ saturated a → t ≡ saturated (s + m) → all ≡ a + b → saturated (s + all) ≡ whole → saturated (t + b) ≡ whole
kept_more s m t a b all whole e f g h = omega (arith, e, f, g, h)

module _ (items : List Node) (i : ℕ) (node : Node) (within : i < length items) (is : node ≡ get_or items i node) where
  pub count_here : leaf_count (nodes_of (drop i items)) ≡ leaf_count (nodes_of (node ∷ [])) + leaf_count (nodes_of (drop (i + 1) items))
  count_here = ap leaf_count (nodes_drop items i node within is) ∙ count_split node (nodes_of (drop (i + 1) items))

  -- one node more
  needed_put : (r : Resource) (all : System) (x y sum needed next whole : ℕ) → y ≡ x + leaf_count (nodes_of (node ∷ [])) →
      needed ≡ saturated (children_least r all x (nodes_of (node ∷ []))) → next ≡ saturated (sum + needed) →
      saturated (sum + children_least r all x (nodes_of (drop i items))) ≡ whole →
      saturated (next + children_least r all y (nodes_of (drop (i + 1) items))) ≡ whole
  needed_put r all x y sum needed next whole at e f inv =
      let rest = nodes_of (drop (i + 1) items) in
      let here = ap (children_least r all x) (nodes_drop items i node within is) ∙ needed_split r all x node rest in
      let there = here ∙ ap (λ n. children_least r all x (nodes_of (node ∷ [])) + children_least r all n rest) (sym at) in
      kept_more sum needed next (children_least r all x (nodes_of (node ∷ []))) (children_least r all y rest) (children_least r all x (nodes_of (drop i items)))
      whole e f there inv

plus_part : (r : Resource) (a b x : Amount) → x ≡ amount (saturated (a.ram + b.ram)) (saturated (a.caps + b.caps)) →
    part r x ≡ saturated (part r a + part r b)
plus_part Ram a b x e = ap (λ (y : Amount). y.ram) e
plus_part Caps a b x e = ap (λ (y : Amount). y.caps) e

printed_part : (r : Resource) (all : System) (x : ℕ) (nodes : Nodes) (a : Amount) → a ≡ init_least_printed all x nodes →
    part r a ≡ saturated (children_least r all x nodes)
printed_part Ram all x nodes a e = ap (λ (y : Amount). y.ram) e
printed_part Caps all x nodes a e = ap (λ (y : Amount). y.caps) e

-- one node more
pub amounts_put : (r : Resource) (all : System) (items : List Node) (i : ℕ) (node : Node) → i < length items → node ≡ get_or items i node →
    (x y whole : ℕ) (sum needed next : Amount) → y ≡ x + leaf_count (nodes_of (node ∷ [])) → needed ≡ init_least_printed all x (nodes_of (node ∷ [])) →
    next ≡ amount (saturated (sum.ram + needed.ram)) (saturated (sum.caps + needed.caps)) →
    saturated (part r sum + children_least r all x (nodes_of (drop i items))) ≡ whole →
    saturated (part r next + children_least r all y (nodes_of (drop (i + 1) items))) ≡ whole
amounts_put r all items i node within is x y whole sum needed next at e f inv =
    needed_put items i node within is r all x y (part r sum) (part r needed) (part r next) whole at (printed_part r all x (nodes_of (node ∷ [])) needed e)
    (plus_part r sum needed next f) inv

end_kept : (s t n : ℕ) → s < 2 ^ 64 → t ≡ 0 → saturated (s + t) ≡ saturated n → s ≡ saturated n
end_kept s t n small none e = omega (arith, small, none, e)

-- and at the end all
pub amounts_all : (all : System) (items : List Node) (i first next : ℕ) (sum : Amount) → length items ≤ i → sum.ram < 2 ^ 64 → sum.caps < 2 ^ 64 →
    ((r : Resource) → saturated (part r sum + children_least r all next (nodes_of (drop i items))) ≡ saturated (children_least r all first (nodes_of items))) →
    sum ≡ init_least_printed all first (nodes_of items)
amounts_all all items i first next sum h small few inv =
    let none = λ (r : Resource). ap (λ (l : List Node). children_least r all next (nodes_of l)) (drop_of_length-le items h) in
    ap₂ amount (end_kept sum.ram _ _ small (none Ram) (inv Ram)) (end_kept sum.caps _ _ few (none Caps) (inv Caps))

before_more : (node : Node) (rest : Nodes) → node_count (before node rest) ≡ node_count (nodes_of (node ∷ [])) + node_count rest
before_more (Leaf node) rest = omega arith
before_more (Init node children) rest = omega arith

-- a node is no larger than the list that it stands in
pub node_small : (items : List Node) (i : ℕ) (node : Node) → i < length items → node ≡ get_or items i node →
    node_count (nodes_of (node ∷ [])) ≤ node_count (nodes_of items)
node_small [] i node h is = absurd (omega arith)
node_small (n ∷ items) zero node h is =
    let all = before_more n (nodes_of items) in let same = ap (λ (m : Node). node_count (nodes_of (m ∷ []))) is in omega (arith, all, same)
node_small (n ∷ items) (suc i) node h is =
    let all = before_more n (nodes_of items) in let rest = node_small items i node (omega arith) is in omega (arith, all, rest)

-- BY INDEX

pub all_owns : (all : System) (leaves : List Subject) (made : List Amount) (i : ℕ) → leaves ≡ map (subject all) all.components → length leaves ≤ i →
    made ++ drop i (map (own_least all) all.components) ≡ map (own_least all) all.components → made ≡ map (own_least all) all.components
all_owns all leaves made i are h inv =
    let many : length leaves ≡ length all.components = ap length are ∙ length-map all.components (subject all) in
    all_put made (map (own_least all) all.components) i (omega (arith, h, many, length-map all.components (own_least all))) inv

own_there_in : (all : System) (cs : List Component) (i : ℕ) (d : Component) (x none : Amount) → slice_get cs i ≡ Some d →
    x ≡ get_or (map (own_least all) cs) i none → x ≡ own_least all d
own_there_in all [] i d x none at is = absurd cc
own_there_in all (c ∷ cs) zero d x none at is = is ∙ ap (quantity d) at
  where
    quantity : Component → Option Component → Amount
    quantity d None = own_least all d
    quantity d (Some c) = own_least all c
own_there_in all (c ∷ cs) (suc i) d x none at is = own_there_in all cs i d x none at is

-- what stands at the place of a leaf is its own
pub own_there : (all : System) (cs : List Component) (owns : List Amount) (i : ℕ) (d : Component) (x : Amount) → cs ≡ all.components →
    owns ≡ map (own_least all) all.components → slice_get cs i ≡ Some d → x ≡ get_or owns i (amount 0 0) → x ≡ own_least all d
own_there all cs owns i d x are made at is =
    own_there_in all all.components i d x (amount 0 0) (ap (λ l. slice_get l i) (sym are) ∙ at) (is ∙ ap (λ l. get_or l i (amount 0 0)) made)

-- the name of the leaf that stands there
pub name_there : (cs : List Component) (i : ℕ) (c d : Component) → i < length cs → c ≡ get_or cs i c → slice_get cs i ≡ Some d → c.node.name ≡ d.node.name
name_there cs i c d h is at =
    ap (λ (e : Component). e.node.name) (is ∙ get_or_from_slice_get cs i d c at)
