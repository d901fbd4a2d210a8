-- The greatest number of places of a class, and the first point that has it.
use Rattle.std.proofs.Common.{◌≡◌, ℕ, zero, suc, ◌+◌, ◌<◌, ◌≤◌, Bool, true, false, List, [], ◌∷◌, ◌++◌, Option, Some, None, length, get_or, map, refl, ap, ap₂}
use Rattle.std.proofs.Common.{sym, ◌∙◌, subst, arith}
use Rattle.std.specs.Prelude.{nat_lt, if◌then◌else◌}
use Rattle.std.proofs.lemmas.Bool.Decides.{nat_tests}
use Rattle.gq_model.specs.machine.Amounts.{Resource}
use Rattle.gq_model.specs.rules.Kinds.{AbstractState}
use Rattle.gq_verify.specs.Visits.{Sight, At_statement, At_point, after_all, shown_points, slots_of}
use Rattle.gq_why.specs.First_maxima.{IsCounted, counted_at}
use Rattle.gq_why.specs.Why.{Point, class_line, class_lines, highest, places_at, places_line}
use Rattle.gq_why.specs.internal.Visitor_lines.{counted_line, counted_lines}
use Rattle.gq_why.proofs.First_highest.{left, left_highest, or_left}
use Rattle.gq_why.proofs.Shown_points.{shown_of}

-- what is kept after all points that are shown
abbrev over_counted : (AbstractState → ℕ) → ℕ × ℕ → List (ℕ × AbstractState) → ℕ × ℕ
over_counted f top [] = top
over_counted f top (p ∷ rest) = over_counted f (counted_at f top (At_point p.0 p.1)) rest

all_counted : (f : AbstractState → ℕ) (top : ℕ × ℕ) (seen : List Sight) → after_all (counted_at f) top seen ≡ over_counted f top (shown_points seen)
all_counted f top [] = refl
all_counted f top (At_statement c s i ∷ rest) = all_counted f top rest
all_counted f top (At_point k s ∷ rest) = all_counted f (counted_at f top (At_point k s)) rest

-- a point more
counted_more : (f : AbstractState → ℕ) (o : Option Point) (top : ℕ × ℕ) (p : Point) → IsCounted f o top →
    IsCounted f (Some (or_left f p o)) (if nat_lt top.0 (f p.state) then (f p.state, p.number) else top)
counted_more f None top p h = by (nat_lt top.0 (f p.state)) refl
  where
    by : (b : Bool) → nat_lt top.0 (f p.state) ≡ b → IsCounted f (Some p) (if b then (f p.state, p.number) else top)
    by true e = (refl, λ positive. refl)
    by false e = (grind (arith, nat_tests, e, h), λ positive. absurd (omega (arith, positive, h)))
counted_more f (Some q) top p h =
    subst (λ n. IsCounted f (Some (or_left f p (Some q))) (if nat_lt n (f p.state) then (f p.state, p.number) else top)) (sym h.0)
    (by (nat_lt (f q.state) (f p.state)))
  where
    by : (b : Bool) → IsCounted f (Some (if b then p else q)) (if b then (f p.state, p.number) else top)
    by true = (refl, λ positive. refl)
    by false = h

counted_one : (f : AbstractState → ℕ) → ((s : AbstractState) → f (slots_of s) ≡ f s) → (o : Option Point) (top : ℕ × ℕ) (p : Point) → IsCounted f o top →
    IsCounted f (Some (or_left f p o)) (counted_at f top (At_point p.number (slots_of p.state)))
counted_one f slots o top p h =
    subst (λ n. IsCounted f (Some (or_left f p o)) (if nat_lt top.0 n then (n, p.number) else top)) (sym (slots p.state)) (counted_more f o top p h)

counted_left : (f : AbstractState → ℕ) → ((s : AbstractState) → f (slots_of s) ≡ f s) → (o : Option Point) (top : ℕ × ℕ) (ps : List Point) → IsCounted f o top →
    IsCounted f (left f o ps) (over_counted f top (map shown_of ps))
counted_left f slots o top [] h = h
counted_left f slots o top (p ∷ rest) h =
    counted_left f slots (Some (or_left f p o)) (counted_at f top (At_point p.number (slots_of p.state))) rest (counted_one f slots o top p h)

-- what is kept after a section is of the first highest of its points
pub counted_highest : (f : AbstractState → ℕ) → ((s : AbstractState) → f (slots_of s) ≡ f s) → (ps : List Point) (seen : List Sight) → map shown_of ps ≡
    shown_points seen →
    (top : ℕ × ℕ) → top ≡ after_all (counted_at f) (0, 0) seen → IsCounted f (highest f ps) top
counted_highest f slots ps seen same top is =
    let all : over_counted f (0, 0) (map shown_of ps) ≡ top =
    ap (over_counted f (0, 0)) same ∙ (sym (all_counted f (0, 0) seen) ∙ sym is) in
    subst (IsCounted f (highest f ps)) all
    (subst (λ o. IsCounted f o (over_counted f (0, 0) (map shown_of ps))) (left_highest f ps) (counted_left f slots None (0, 0) ps refl))

-- what is kept of a class once a point is shown
pub count_is : (top new : ℕ × ℕ) (count here number : ℕ) → new ≡ (if nat_lt top.0 count then (count, number) else top) → count ≡ here →
    new ≡ (if nat_lt top.0 here then (here, number) else top)
count_is top new count here number e same = e ∙ ap (λ n. if nat_lt top.0 n then (n, number) else top) same

pub few_more : (top new : ℕ × ℕ) (count number most : ℕ) → new ≡ (if nat_lt top.0 count then (count, number) else top) → count ≤ most → top.0 ≤ most →
    new.0 ≤ most
few_more top new count number most e few h = subst (λ (t : ℕ × ℕ). t.0 ≤ most) (sym e) (by (nat_lt top.0 count))
  where
    by : (b : Bool) → (if b then (count, number) else top).0 ≤ most
    by true = few
    by false = h

-- LINES

line_is : (r : Resource) (c : ℕ) (o : Option Point) (top : ℕ × ℕ) → IsCounted (places_at c) o top → counted_line r c top.1 top.0 ≡ class_line r c o
line_is r c None top h = ap (counted_line r c top.1) h
line_is r c (Some p) top h =
    ap (counted_line r c top.1) h.0 ∙ by (places_at c p.state) (λ positive. h.1 (let same = h.0 in omega (arith, same, positive)))
  where
    by : (n : ℕ) → (0 < n → top.1 ≡ p.number) → counted_line r c top.1 n ≡ places_line r c p n
    by zero number = refl
    by (suc m) number = ap (λ k. counted_line r c k (suc m)) (number (omega arith))

-- the lines of all classes
pub lines_are : (r : Resource) (points : List Point) (places : List (ℕ × ℕ)) (i : ℕ) (cs : List ℕ) →
    ((j k : ℕ) → j < length cs → k ≡ i + j → IsCounted (places_at (get_or cs j 0)) (highest (places_at (get_or cs j 0)) points) (get_or places k (0, 0))) →
    counted_lines r places i cs ≡ class_lines r points cs
lines_are r points places i [] h = refl
lines_are r points places i (c ∷ cs) h =
    ap₂ (λ a b. a ++ b) (line_is r c (highest (places_at c) points) (get_or places i (0, 0)) (h 0 i (omega arith) (omega arith)))
    (lines_are r points places (suc i) cs (λ j k lt e. h (suc j) k (omega (arith, lt)) (omega (arith, e))))
