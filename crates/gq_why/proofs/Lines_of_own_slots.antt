-- The part of a leaf's own account, as a text that grows at its end.
use Rattle.std.proofs.Common.{◌≡◌, ◌≢◌, ℕ, zero, suc, ◌<◌, List, [], ◌∷◌, ◌++◌, Option, Some, None, get_or, refl, ap, ap₂, ◌∙◌, subst}
use Rattle.std.proofs.Common.{append_assoc, arith, codes}
use Rattle.std.specs.Prelude.{decimal, option_map}
use Rattle.gq_tariff.specs.Prices.{classes}
use Rattle.gq_model.specs.declared.section.Section.TheVariants.{Main}
use Rattle.gq_model.specs.machine.Amounts.{Resource}
use Rattle.gq_model.specs.rules.Budgets.{own}
use Rattle.gq_model.specs.rules.Kinds.{Subject}
use Rattle.gq_why.specs.First_maxima.{IsCounted, Top, own_cost, top_of, top_own}
use Rattle.gq_why.specs.Why.{Point, class_lines, highest, own_part, place_words, places_at, places_cost, points_of, sum_by_items, sum_lines}
use Rattle.gq_why.specs.internal.Visitor_lines.{counted_line, counted_lines, own_items, own_lines}
use Rattle.gq_why.proofs.Highest_cell_count.{lines_are}

-- the lines of own slots at a point are by what is kept of it
own_is : (r : Resource) (o : Option Point) → own_lines r (option_map (top_of (own_cost r) (λ s. s.own)) o) ≡ sum_lines r o
own_is r None = refl
own_is r (Some p) = by (own_cost r p.state)
  where
    by : (n : ℕ) → own_items r (top_of (own_cost r) (λ s. s.own) p) n ≡ sum_by_items r p n
    by zero = refl
    by (suc n) = refl

pieces : (t a n o q s l u w x y : List ℕ) → u ≡ t ++ a → w ≡ u ++ n ++ o ++ q ++ 10 ∷ [] → x ≡ w ++ s → y ≡ x ++ l →
    y ≡ t ++ (a ++ n ++ o ++ q ++ 10 ∷ [] ++ s ++ l)
pieces t a n o q s l u w x y d e f g = rw (g, f, e, d) (simp append_assoc)

-- the line of so many places, one piece after the other
pub class_put : (r : Resource) (c k n cost size : ℕ) → n ≢ 0 → cost ≡ places_cost r c n → size ≡ c → (t u v w x y z end : List ℕ) →
    u ≡ t ++ place_words Main k → v ≡ u ++ decimal cost → w ≡ v ++ codes " for " → x ≡ w ++ decimal n → y ≡ x ++ codes " places of " →
    z ≡ y ++ decimal size → end ≡ z ++ 10 ∷ [] → end ≡ t ++ counted_line r c k n
class_put r c k zero cost size some cost_is size_is t u v w x y z end d e f g h i j = absurd (some refl)
class_put r c k (suc n) cost size some cost_is size_is t u v w x y z end d e f g h i j =
    seven t (place_words Main k) (decimal cost) (codes " for ") (decimal (suc n)) (codes " places of ") (decimal size) u v w x y z end d e f g h i j
    ∙ ap₂ (λ a b. t ++ (place_words Main k ++ decimal a ++ codes " for " ++ decimal (suc n) ++ codes " places of " ++ decimal b ++ 10 ∷ [])) cost_is size_is
  where
    seven : (t a b c d e f u v w x y z end : List ℕ) → u ≡ t ++ a → v ≡ u ++ b → w ≡ v ++ c → x ≡ w ++ d → y ≡ x ++ e → z ≡ y ++ f → end ≡ z ++ 10 ∷ [] →
        end ≡ t ++ (a ++ b ++ c ++ d ++ e ++ f ++ 10 ∷ [])
    seven t a b c d e f u v w x y z end p q r s k l m = rw (m, l, k, s, r, q, p) (simp append_assoc)

-- the part of a resource, one piece after the other
pub own_put : (r : Resource) (words : List ℕ) (v : Subject) (n quantum : ℕ) (top : Option Top) (places : List (ℕ × ℕ)) → n ≡ own r v →
    top ≡ top_own r (points_of v Main) →
    ((k : ℕ) → k < 8 → IsCounted (places_at (get_or classes k 0)) (highest (places_at (get_or classes k 0)) (points_of v Main)) (get_or places k (0, 0))) →
    (t u w x y : List ℕ) → u ≡ t ++ words → w ≡ u ++ decimal n ++ codes " of " ++ decimal quantum ++ 10 ∷ [] → x ≡ w ++ own_lines r top →
    y ≡ x ++ counted_lines r places 0 classes → y ≡ t ++ own_part r words v quantum
own_put r words v n quantum top places number highest_is are t u w x y d e f g =
    let points = points_of v Main in
    let slots : own_lines r top ≡ sum_lines r (highest (own_cost r) points) =
    ap (own_lines r) highest_is ∙ own_is r (highest (own_cost r) points) in
    let counts = λ (j : ℕ). places_at (get_or classes j 0) in
    let heap = lines_are r points places 0 classes
    (λ j k lt e. subst (λ m. IsCounted (counts j) (highest (counts j) points) (get_or places m (0, 0))) (omega (arith, e)) (are j lt)) in
    pieces t words (decimal (own r v)) (codes " of ") (decimal quantum) (sum_lines r (highest (own_cost r) points)) (class_lines r points classes) u w x y d
    (e ∙ ap (λ m. u ++ decimal m ++ codes " of " ++ decimal quantum ++ 10 ∷ []) number) (f ∙ ap (λ l. w ++ l) slots) (g ∙ ap (λ l. x ++ l) heap)
