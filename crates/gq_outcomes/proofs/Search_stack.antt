-- A search that keeps the choices that are open comes to what the recursion comes to.
use Rattle.std.proofs.Common.{◌≡◌, ℕ, zero, suc, ◌<◌, ◌≤◌, ◌==◌, Bool, true, false, List, [], ◌∷◌, ◌++◌, refl, ap, sym, ◌∙◌, arith}
use Rattle.gq_model.specs.machine.Scenario.{Component}
use Rattle.gq_outcomes.specs.Choices.{can_settle, choices, is_settled}
use Rattle.gq_outcomes.specs.Outcomes.{Explored, Going, Kept, Point, Search, after_turn, and_further, and_on, arrive, branch, choose, each_choice}
use Rattle.gq_outcomes.specs.Outcomes.{enter, is_seen, kept, round, rounds, settled, unless_cut, visit, while_settling}
use Rattle.gq_outcomes.specs.internal.Open_branches.{Branch, arrives, enters, opens, resumed, visits}

-- TURNS THAT ARE LEFT

going : Point → ℕ → Going
going p n = record { point = p; left = n }

leaf_left : (n : ℕ) (e : Explored) (x : ℕ) (p : Point) → (while_settling n e x p).left ≤ n
leaf_left zero e x p = omega arith
leaf_left (suc n) e x p = by (can_settle e.system e.racy p.world x) (leaf_left n e x (after_turn e.system x p))
  where
    by : (b : Bool) → (while_settling n e x (after_turn e.system x p)).left ≤ n
        → (and_on b (record { point = p; left = suc n }) (λ q. while_settling n e x q) (after_turn e.system x p)).left ≤ suc n
    by true h = omega (arith, h)
    by false h = omega arith

pub round_left : (e : Explored) (x : ℕ) (cs : List Component) (g : Going) → (round e x cs g).left ≤ g.left
round_left e x [] g = omega arith
round_left e x (c ∷ cs) g =
    let first = leaf_left g.left e x g.point in
    let others = round_left e (suc x) cs (while_settling g.left e x g.point) in omega (arith, first, others)

rounds_left : (k : ℕ) (e : Explored) (g : Going) → (rounds k e g).left ≤ g.left
rounds_left zero e g = omega arith
rounds_left (suc k) e g =
    let h = round e 0 e.system.components g in by (h.left == g.left) h (round_left e 0 e.system.components g) (rounds_left k e h)
  where
    by : (b : Bool) (h : Going) → h.left ≤ g.left → (rounds k e h).left ≤ h.left → (and_further b (λ h. rounds k e h) h).left ≤ g.left
    by true h first later = first
    by false h first later = omega (arith, first, later)

pub settled_left : (e : Explored) (g : Going) → (settled e g).left ≤ g.left
settled_left e g = rounds_left (suc g.left) e g

-- TWO WAYS TO GO ON

-- from where fewer turns are left they go on in one way, and no turn is given back
record Agree (go on : Point → Search → Search) (most : ℕ) : Type 0 where
  same : (q : Point) (t : Search) → t.left < most → go q t ≡ on q t
  down : (q : Point) (t : Search) → t.left < most → (go q t).left ≤ t.left

module _ (e : Explored) (go on : Point → Search → Search) (most : ℕ) (a : Agree go on most) where
  choose_same : (p : Point) (x n : ℕ) (s : Search) → n ≤ most → choose e go p x n s ≡ choose e on p x n s
  choose_same p x zero s l = refl
  choose_same p x (suc n) s l = a.same (after_turn e.system x p) (record s { left = n }) (omega (arith, l))

  choose_down : (p : Point) (x n : ℕ) (s : Search) → n ≤ most → s.left ≡ n → (choose e go p x n s).left ≤ s.left
  choose_down p x zero s l is = omega arith
  choose_down p x (suc n) s l is = let h = a.down (after_turn e.system x p) (record s { left = n }) (omega (arith, l)) in omega (arith, h, is)

  each_same : (p : Point) (xs : List ℕ) (s : Search) → s.left ≤ most → each_choice e go p xs s ≡ each_choice e on p xs s
  each_same p [] s l = refl
  each_same p (x ∷ xs) s l =
      let down = choose_down p x s.left s l refl in
      each_same p xs (choose e go p x s.left s) (omega (arith, down, l)) ∙ ap (each_choice e on p xs) (choose_same p x s.left s l)

  each_down : (p : Point) (xs : List ℕ) (s : Search) → s.left ≤ most → (each_choice e go p xs s).left ≤ s.left
  each_down p [] s l = omega arith
  each_down p (x ∷ xs) s l =
      let down = choose_down p x s.left s l refl in
      let later = each_down p xs (choose e go p x s.left s) (omega (arith, down, l)) in omega (arith, down, later)

  branch_same : (p : Point) (xs : List ℕ) (s : Search) → s.left ≤ most → branch e go p xs s ≡ branch e on p xs s
  branch_same p [] s l = refl
  branch_same p (x ∷ xs) s l = each_same p (x ∷ xs) s l

  branch_down : (p : Point) (xs : List ℕ) (s : Search) → s.left ≤ most → (branch e go p xs s).left ≤ s.left
  branch_down p [] s l = omega arith
  branch_down p (x ∷ xs) s l = each_down p (x ∷ xs) s l

  enter_same : (b seen : Bool) (p : Point) (k : Kept) (s : Search) → s.left ≤ most → enter b seen e go p k s ≡ enter b seen e on p k s
  enter_same false seen p k s l = refl
  enter_same true true p k s l = refl
  enter_same true false p k s l = branch_same p (choices e.system e.racy p.world) (record s { seen = k ∷ s.seen }) l

  enter_down : (b seen : Bool) (p : Point) (k : Kept) (s : Search) → s.left ≤ most → (enter b seen e go p k s).left ≤ s.left
  enter_down false seen p k s l = omega arith
  enter_down true true p k s l = omega arith
  enter_down true false p k s l = branch_down p (choices e.system e.racy p.world) (record s { seen = k ∷ s.seen }) l

  arrive_same : (g : Going) (s : Search) → g.left ≤ most → arrive e go g s ≡ arrive e on g s
  arrive_same g s l =
      enter_same (is_settled e.system e.racy g.point.world) (is_seen (kept g.point) s.seen) g.point (kept g.point) (record s { left = g.left }) l

  arrive_down : (g : Going) (s : Search) → g.left ≤ most → (arrive e go g s).left ≤ g.left
  arrive_down g s l =
      enter_down (is_settled e.system e.racy g.point.world) (is_seen (kept g.point) s.seen) g.point (kept g.point) (record s { left = g.left }) l

-- HOW MANY CHOICES ARE ENOUGH

abbrev from_here : Explored → Point → Search → Going
from_here e p s = settled e (record { point = p; left = s.left })

visit_down : (n : ℕ) (e : Explored) (p : Point) (s : Search) → (visit n e p s).left ≤ s.left
visit_down zero e p s = omega arith
visit_down (suc n) e p s = by s.cut (arrive_down e (λ q t. visit n e q t) (λ q t. visit n e q t) s.left
    (record { same = λ q t l. refl; down = λ q t l. visit_down n e q t }) (from_here e p s) s (settled_left e (record { point = p; left = s.left })))
    (settled_left e (record { point = p; left = s.left }))
  where
    by : (b : Bool) → (arrive e (λ q t. visit n e q t) (from_here e p s) s).left ≤ (from_here e p s).left → (from_here e p s).left ≤ s.left
        → (unless_cut b (λ s. arrive e (λ q t. visit n e q t) (settled e (record { point = p; left = s.left })) s) s).left ≤ s.left
    by true h l = omega arith
    by false h l = omega (arith, h, l)

pub visit_same : (n m : ℕ) (e : Explored) (p : Point) (s : Search) → s.left < n → s.left < m → visit n e p s ≡ visit m e p s
visit_same zero m e p s l r = absurd (omega (arith, l))
visit_same (suc n) zero e p s l r = absurd (omega (arith, r))
visit_same (suc n) (suc m) e p s l r = by s.cut (arrive_same e (λ q t. visit n e q t) (λ q t. visit m e q t) s.left
    (record {
      same = λ q t less. visit_same n m e q t (omega (arith, less, l)) (omega (arith, less, r));
      down = λ q t less. visit_down n e q t;
    }) (from_here e p s) s (settled_left e (record { point = p; left = s.left })))
  where
    by : (b : Bool) → arrive e (λ q t. visit n e q t) (from_here e p s) s ≡ arrive e (λ q t. visit m e q t) (from_here e p s) s
        → unless_cut b (λ s. arrive e (λ q t. visit n e q t) (settled e (record { point = p; left = s.left })) s) s
        ≡ unless_cut b (λ s. arrive e (λ q t. visit m e q t) (settled e (record { point = p; left = s.left })) s) s
    by true h = refl
    by false h = h

-- BRANCHES

resumed_append : (e : Explored) (first later : List Branch) (s : Search) → resumed e (first ++ later) s ≡ resumed e later (resumed e first s)
resumed_append e [] later s = refl
resumed_append e (a ∷ first) later s = resumed_append e first later (each_choice e (λ q t. visits e q t) a.point a.leaves s)

opens_is : (e : Explored) (p : Point) (xs : List ℕ) (s : Search)
    → branch e (λ q t. visits e q t) p xs s ≡ resumed e (opens e p xs s).branches (opens e p xs s).search
opens_is e p [] s = refl
opens_is e p (x ∷ xs) s = refl

enters_is : (b seen : Bool) (e : Explored) (p : Point) (k : Kept) (s : Search)
    → enter b seen e (λ q t. visits e q t) p k s ≡ resumed e (enters b seen e p k s).branches (enters b seen e p k s).search
enters_is false seen e p k s = refl
enters_is true true e p k s = refl
enters_is true false e p k s = opens_is e p (choices e.system e.racy p.world) (record s { seen = k ∷ s.seen })

arrives_is : (e : Explored) (g : Going) (s : Search) → arrive e (λ q t. visits e q t) g s ≡ resumed e (arrives e g s).branches (arrives e g s).search
arrives_is e g s =
    enters_is (is_settled e.system e.racy g.point.world) (is_seen (kept g.point) s.seen) e g.point (kept g.point) (record s { left = g.left })

-- a world is visited by its branches
pub visits_is : (e : Explored) (p : Point) (s : Search) → s.cut ≡ false
    → visits e p s ≡ resumed e (arrives e (from_here e p s) s).branches (arrives e (from_here e p s) s).search
visits_is e p s on =
    ap (λ b. unless_cut b (λ u. arrive e (λ q t. visit s.left e q t) (settled e (record { point = p; left = u.left })) u) s) on
    ∙ arrive_same e (λ q t. visit s.left e q t) (λ q t. visits e q t) s.left
    (record { same = λ q t less. visit_same s.left (suc t.left) e q t less (omega arith); down = λ q t less. visit_down s.left e q t })
    (from_here e p s) s (settled_left e (record { point = p; left = s.left }))
    ∙ arrives_is e (from_here e p s) s

-- the next leaf takes its turn
pub turn_taken : (e : Explored) (p : Point) (x n : ℕ) (rest : List ℕ) (bs : List Branch) (s : Search) → s.cut ≡ false → s.left ≡ suc n
    → let q = after_turn e.system x p in
    let t : Search = record s { left = n } in
    let r = arrives e (from_here e q t) t in
    resumed e (record { point = p; leaves = x ∷ rest } ∷ bs) s ≡ resumed e (r.branches ++ record { point = p; leaves = rest } ∷ bs) r.search
turn_taken e p x n rest bs s on left =
    let q = after_turn e.system x p in
    let t : Search = record s { left = n } in
    let r = arrives e (from_here e q t) t in
    ap (λ m. resumed e bs (each_choice e (λ q t. visits e q t) p rest (choose e (λ q t. visits e q t) p x m s))) left
    ∙ ap (λ u. resumed e bs (each_choice e (λ q t. visits e q t) p rest u)) (visits_is e q t on)
    ∙ sym (resumed_append e r.branches (record { point = p; leaves = rest } ∷ bs) r.search)

-- no leaf is left at a branch
pub none_left : (e : Explored) (p : Point) (bs : List Branch) (s : Search) → resumed e (record { point = p; leaves = [] } ∷ bs) s ≡ resumed e bs s
none_left e p bs s = refl

-- A SEARCH THAT IS OVER

-- nothing more is found
pub record IsOver (s t : Search) : Type 0 where
  pub cut : t.cut ≡ true
  pub found : t.found ≡ s.found

over_choose : (e : Explored) (p : Point) (x n : ℕ) (s : Search) → s.cut ≡ true → IsOver s (choose e (λ q t. visits e q t) p x n s)
over_choose e p x zero s on = record { cut = refl; found = refl }
over_choose e p x (suc n) s on =
    let t : Search = record s { left = n } in
    let stays : visits e (after_turn e.system x p) t ≡ t =
    ap (λ b. unless_cut b (λ u. arrive e (λ q v. visit n e q v) (settled e (record { point = after_turn e.system x p; left = u.left })) u) t) on in
    record { cut = ap (λ (u : Search). u.cut) stays ∙ on; found = ap (λ (u : Search). u.found) stays }

over_each : (e : Explored) (p : Point) (xs : List ℕ) (s : Search) → s.cut ≡ true → IsOver s (each_choice e (λ q t. visits e q t) p xs s)
over_each e p [] s on = record { cut = on; found = refl }
over_each e p (x ∷ xs) s on =
    let first = over_choose e p x s.left s on in
    let later = over_each e p xs (choose e (λ q t. visits e q t) p x s.left s) first.cut in
    record { cut = later.cut; found = later.found ∙ first.found }

pub over : (e : Explored) (bs : List Branch) (s : Search) → s.cut ≡ true → IsOver s (resumed e bs s)
over e [] s on = record { cut = on; found = refl }
over e (b ∷ bs) s on =
    let first = over_each e b.point b.leaves s on in
    let later = over e bs (each_choice e (λ q t. visits e q t) b.point b.leaves s) first.cut in
    record { cut = later.cut; found = later.found ∙ first.found }

-- a turn is wanted where none is left
pub wanted : (e : Explored) (p : Point) (x : ℕ) (rest : List ℕ) (bs : List Branch) (s : Search) → s.left ≡ 0
    → IsOver s (resumed e (record { point = p; leaves = x ∷ rest } ∷ bs) s)
wanted e p x rest bs s none =
    let is = ap (λ m. resumed e bs (each_choice e (λ q t. visits e q t) p rest (choose e (λ q t. visits e q t) p x m s))) none in
    let t : Search = record s { cut = true } in
    let first = over_each e p rest t refl in
    let later = over e bs (each_choice e (λ q t. visits e q t) p rest t) first.cut in
    record { cut = ap (λ (u : Search). u.cut) is ∙ later.cut; found = ap (λ (u : Search). u.found) is ∙ later.found ∙ first.found }
