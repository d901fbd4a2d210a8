-- The least sums: what each level needs is within them, and an upgrade asks for no more than is ever given for it.
use Rattle.std.proofs.Common.{◌≡◌, ℕ, zero, suc, ◌+◌, ◌-◌, ◌≤◌, ◌<◌, ◌&&◌, Bool, true, false, List, [], ◌∷◌, ◌++◌, length, Option, Some, None, refl, ap, ◌∙◌}
use Rattle.std.proofs.Common.{subst, arith}
use Rattle.std.specs.Prelude.{min, take, slice_index_or, ◌==◌, if◌then◌else◌}
use Rattle.gq_model.specs.machine.Amounts.{Ram, Amount, amount, total}
use Rattle.gq_model.specs.machine.Program.{text_eq}
use Rattle.gq_model.specs.machine.Scenario.{Interface, System}
use Rattle.gq_model.specs.rules.Kinds.{need_of}
use Rattle.gq_model.proofs.Small_facts.{equal_self, text_self}
use Rattle.gq_sizes.specs.Size.{Gift, needed, lesser, least_gift, both, gifts_above, less_gifts, asked_above, ram_sum}
use Rattle.gq_sizes.specs.Least.{beyond, least_upgrades, least_interface}

-- what is asked above a level is asked above the next one, but for what is always given for that
pub above_step : (need : ℕ → ℕ) (gs : List Gift) (service : List ℕ) (d l m a : ℕ) → least_gift service (suc l) gs ≡ Some m
    → asked_above need gs service (suc d) l ≤ a → asked_above need gs service d (suc l) ≤ a + m
above_step need gs service zero l m a e h = omega arith
above_step need gs service (suc d) l m a e h =
    let here : less_gifts (need (l + suc (suc d))) (gifts_above gs service (suc (suc d)) l) ≤ a = grind (arith, h) in
    let later : asked_above need gs service (suc d) l ≤ a = grind (arith, h) in
    let rest = above_step need gs service d l m a e later in
    let same : l + suc (suc d) ≡ suc l + suc d = omega arith in
    let first : less_gifts (need (suc l + suc d)) (gifts_above gs service (suc d) (suc l)) ≤ a + m =
    by (need (suc l + suc d)) (gifts_above gs service (suc d) (suc l))
    (subst (λ k. less_gifts (need k) (both (Some m) (gifts_above gs service (suc d) (suc l))) ≤ a) same
    (subst (λ o. less_gifts (need (l + suc (suc d))) (both o (gifts_above gs service (suc d) (suc l))) ≤ a) e here)) in
    grind (arith, first, rest)
  where
    by : (n : ℕ) (o : Option ℕ) → less_gifts n (both (Some m) o) ≤ a → less_gifts n o ≤ a + m
    by n None k = omega arith
    by n (Some g) k = omega (arith, k)

module _ (all : System) (gs : List Gift) (service : List ℕ) (i : Interface) where
  abbrev need : ℕ → ℕ
  need l = needed (λ _ _. 0) Ram all service i l

  abbrev sum : ℕ → ℕ
  sum l = ram_sum all gs service i l

  pub sum_needs : (l : ℕ) → need l ≤ sum l
  sum_needs zero = grind arith
  sum_needs (suc l) = grind arith

  pub sum_rises : (l : ℕ) → sum l ≤ sum (suc l)
  sum_rises l = grind arith

  sum_asks : (l d : ℕ) → l + d ≡ length i.upgrades → asked_above need gs service d l ≤ sum l
  sum_asks zero d e =
      let same : length i.upgrades ≡ d = omega (arith, e) in
      let h : asked_above need gs service (length i.upgrades) 0 ≤ sum 0 = grind arith in
      subst (λ k. asked_above need gs service k 0 ≤ sum 0) same h
  sum_asks (suc l) d e =
      let same : length i.upgrades - suc l ≡ d = omega (arith, e) in
      let h : asked_above need gs service (length i.upgrades - suc l) (suc l) ≤ sum (suc l) = grind arith in
      subst (λ k. asked_above need gs service k (suc l) ≤ sum (suc l)) same h

  -- an upgrade asks for no more than is ever given for it
  pub sum_step : (l m : ℕ) → suc l ≤ length i.upgrades → least_gift service (suc l) gs ≡ Some m → sum (suc l) ≤ sum l + m
  sum_step l m below e =
      let d : ℕ = length i.upgrades - suc l in
      let at : l + suc d ≡ length i.upgrades = omega (arith, below) in
      let asks = sum_asks l (suc d) at in
      let above = above_step need gs service d l m (sum l) e asks in
      let one : less_gifts (need (l + 1)) (gifts_above gs service 1 l) ≤ sum l = first_of d asks in
      let here : need (suc l) ≤ sum l + m = by (need (suc l)) (subst (λ k. less_gifts (need k) (both (Some m) (Some 0)) ≤ sum l) next
      (subst (λ o. less_gifts (need (l + 1)) (both o (Some 0)) ≤ sum l) e one)) in
      grind (arith, above, here)
    where
      next : l + 1 ≡ suc l
      next = omega arith

      by : (n : ℕ) → less_gifts n (both (Some m) (Some 0)) ≤ sum l → n ≤ sum l + m
      by n k = omega (arith, k)

      first_of : (d : ℕ) → asked_above need gs service (suc d) l ≤ sum l → less_gifts (need (l + 1)) (gifts_above gs service 1 l) ≤ sum l
      first_of zero k = grind (arith, k)
      first_of (suc d) k = first_of d (grind (arith, k))

-- UPGRADES

pub upgrades_length : (sum : ℕ → Amount) (j : ℕ) (rest : List Amount) → length (least_upgrades sum j rest) ≡ length rest
upgrades_length sum j [] = refl
upgrades_length sum j (a ∷ rest) = ap suc (upgrades_length sum (suc j) rest)

-- sums that do not fall
pub record Rises (sum : ℕ → Amount) : Type 0 where
  pub ram : (l : ℕ) → (sum l).ram ≤ (sum (suc l)).ram
  pub caps : (l : ℕ) → (sum l).caps ≤ (sum (suc l)).caps

module _ (sum : ℕ → Amount) (rises : Rises sum) where
  -- the first upgrades together lead from one sum to another
  pub total_ram : (d j : ℕ) (rest : List Amount) → d ≤ length rest → (total (take d (least_upgrades sum j rest))).ram + (sum j).ram ≡ (sum (j + d)).ram
  total_ram zero j rest h =
      let z : 0 + (sum j).ram ≡ (sum j).ram = omega arith in let e : j ≡ j + 0 = omega arith in z ∙ ap (λ k. (sum k).ram) e
  total_ram (suc d) j [] h = absurd (omega (arith, h))
  total_ram (suc d) j (a ∷ rest) h =
      let r = total_ram d (suc j) rest (omega (arith, h)) in
      let e : suc j + d ≡ j + suc d = omega arith in
      let up = rises.ram j in
      let here : (sum (suc j)).ram - (sum j).ram + (total (take d (least_upgrades sum (suc j) rest))).ram + (sum j).ram ≡ (sum (suc j + d)).ram = omega
      (arith, r, up) in
      here ∙ ap (λ k. (sum k).ram) e

  pub total_caps : (d j : ℕ) (rest : List Amount) → d ≤ length rest → (total (take d (least_upgrades sum j rest))).caps + (sum j).caps ≡ (sum (j + d)).caps
  total_caps zero j rest h =
      let z : 0 + (sum j).caps ≡ (sum j).caps = omega arith in let e : j ≡ j + 0 = omega arith in z ∙ ap (λ k. (sum k).caps) e
  total_caps (suc d) j [] h = absurd (omega (arith, h))
  total_caps (suc d) j (a ∷ rest) h =
      let r = total_caps d (suc j) rest (omega (arith, h)) in
      let e : suc j + d ≡ j + suc d = omega arith in
      let up = rises.caps j in
      let here : (sum (suc j)).caps - (sum j).caps + (total (take d (least_upgrades sum (suc j) rest))).caps + (sum j).caps ≡ (sum (suc j + d)).caps = omega
      (arith, r, up) in
      here ∙ ap (λ k. (sum k).caps) e

  pub upgrade_at : (d j : ℕ) (rest : List Amount) → d < length rest
      → slice_index_or (least_upgrades sum j rest) d (amount 0 0) ≡ beyond (sum (suc (j + d))) (sum (j + d))
  upgrade_at d j [] h = absurd (omega (arith, h))
  upgrade_at zero j (a ∷ rest) h = ap (λ k. beyond (sum (suc k)) (sum k)) (let e : j ≡ j + 0 = omega arith in e)
  upgrade_at (suc d) j (a ∷ rest) h =
      upgrade_at d (suc j) rest (omega (arith, h)) ∙ ap (λ k. beyond (sum (suc k)) (sum k)) (let e : suc j + d ≡ j + suc d = omega arith in e)

  -- what a session of a level is given
  pub need_ram : (i : Interface) (l : ℕ) → l ≤ length i.upgrades → (need_of (least_interface sum i) l).ram ≡ (sum l).ram
  need_ram i l h = let e = total_ram l 0 i.upgrades h in let z : 0 + l ≡ l = omega arith in omega (arith, e, ap (λ k. (sum k).ram) z)

  pub need_caps : (i : Interface) (l : ℕ) → l ≤ length i.upgrades → (need_of (least_interface sum i) l).caps ≡ (sum l).caps
  need_caps i l h = let e = total_caps l 0 i.upgrades h in let z : 0 + l ≡ l = omega arith in omega (arith, e, ap (λ k. (sum k).caps) z)

-- GIFTS

-- the least gift is no more than any
pub least_of_gifts : (service : List ℕ) (l n : ℕ) (prefix rest : List Gift)
    → (m : ℕ) × (least_gift service l (prefix ++ (service, l, n) ∷ rest) ≡ Some m) × (m ≤ n)
least_of_gifts service l n [] rest =
    by (least_gift service l rest)
  where
    by : (o : Option ℕ) → (m : ℕ) × ((if◌then◌else◌ (text_eq service service && l == l) (lesser n o) o) ≡ Some m) × (m ≤ n)
    by None = (n, (λ i. if◌then◌else◌ (text_self service i && equal_self l i) (Some n) None), omega arith)
    by (Some k) = (min n k, (λ i. if◌then◌else◌ (text_self service i && equal_self l i) (Some (min n k)) (Some k)), grind arith)
least_of_gifts service l n (g ∷ prefix) rest =
    let p = least_of_gifts service l n prefix rest in
    by (text_eq service g.0 && g.1 == l) (least_gift service l (prefix ++ (service, l, n) ∷ rest)) p.0 p.1 p.2
  where
    by : (b : Bool) (o : Option ℕ) (m : ℕ) → o ≡ Some m → m ≤ n → (k : ℕ) × ((if◌then◌else◌ b (lesser g.2 o) o) ≡ Some k) × (k ≤ n)
    by true o m e h = (min g.2 m, ap (lesser g.2) e, grind (arith, h))
    by false o m e h = (m, e, h)
