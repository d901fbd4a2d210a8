-- Worlds that are settled turn by turn, leaf by leaf and round by round.
use Rattle.std.proofs.Common.{◌≡◌, ℕ, zero, suc, ◌+◌, ◌<◌, ◌≤◌, inl, inr, Bool, true, false, List, [], ◌∷◌, ◌++◌, length, drop, refl, ap, sym, ◌∙◌}
use Rattle.std.proofs.Common.{arith}
use Rattle.std.proofs.lemmas.Bool.Decides.{eqb_tells}
use Rattle.gq_model.specs.machine.Scenario.{Component, System}
use Rattle.gq_outcomes.specs.Choices.{can_settle}
use Rattle.gq_outcomes.specs.Outcomes.{Explored, Going, Point, after_turn, and_further, and_on, round, rounds, settled, while_settling}
use Rattle.gq_outcomes.specs.internal.Walks.{after_turns}
use Rattle.gq_outcomes.proofs.Search_stack.{round_left}

abbrev going : Point → ℕ → Going
going p n = record { point = p; left = n }

-- ONE LEAF

-- it takes a turn
pub turn_more : (n : ℕ) (e : Explored) (x : ℕ) (p : Point) → can_settle e.system e.racy p.world x ≡ true
    → while_settling (suc n) e x p ≡ while_settling n e x (after_turn e.system x p)
turn_more n e x p can = ap (λ b. and_on b (going p (suc n)) (λ q. while_settling n e x q) (after_turn e.system x p)) can

-- it takes none
pub turn_none : (n : ℕ) (e : Explored) (x : ℕ) (p : Point) → can_settle e.system e.racy p.world x ≡ false → while_settling n e x p ≡ going p n
turn_none zero e x p can = refl
turn_none (suc n) e x p can = ap (λ b. and_on b (going p (suc n)) (λ q. while_settling n e x q) (after_turn e.system x p)) can

-- ONE ROUND

pub leaf_more : (e : Explored) (cs : List Component) (k x : ℕ) (g : Going) → k < length cs
    → round e x (drop k cs) g ≡ round e (suc x) (drop (k + 1) cs) (while_settling g.left e x g.point)
leaf_more e [] k x g l = absurd (omega (arith, l))
leaf_more e (c ∷ cs) zero x g l = refl
leaf_more e (c ∷ cs) (suc k) x g l =
    let on : suc (k + 1) ≡ suc k + 1 = omega arith in
    leaf_more e cs k x g (omega (arith, l)) ∙ ap (λ n. round e (suc x) (drop n (c ∷ cs)) (while_settling g.left e x g.point)) on

pub leaf_none : (e : Explored) (cs : List Component) (k x : ℕ) (g : Going) → length cs ≤ k → round e x (drop k cs) g ≡ g
leaf_none e [] zero x g l = refl
leaf_none e [] (suc k) x g l = refl
leaf_none e (c ∷ cs) zero x g l = absurd (omega (arith, l))
leaf_none e (c ∷ cs) (suc k) x g l = leaf_none e cs k x g (omega (arith, l))

-- ALL ROUNDS

abbrev one_round : Explored → Going → Going
one_round e g = round e 0 e.system.components g

abbrev further : Explored → ℕ → Bool → Going → Going
further e k b h = and_further b (λ h. rounds k e h) h

-- more rounds than turns are left change nothing
rounds_same : (k j : ℕ) (e : Explored) (g : Going) → g.left < k → g.left < j → rounds k e g ≡ rounds j e g
rounds_same zero j e g l m = absurd (omega (arith, l))
rounds_same (suc k) zero e g l m = absurd (omega (arith, m))
rounds_same (suc k) (suc j) e g l m =
    let h = one_round e g in
    let down = round_left e 0 e.system.components g in
    elim (eqb_tells h.left g.left) [
      | inl t ↦ ap (λ b. further e k b h) t.0 ∙ sym (ap (λ b. further e j b h) t.0)
      | inr t ↦ (let other = t.1 in
          let less : h.left < g.left = omega (arith, down, other) in
          ap (λ b. further e k b h) t.0 ∙ rounds_same k j e h (omega (arith, less, l)) (omega (arith, less, m)) ∙ sym (ap (λ b. further e j b h) t.0))
    ]

-- a round in which turns were taken
pub round_more : (e : Explored) (g : Going) → ((one_round e g).left ≡ g.left → ⊥) → settled e g ≡ settled e (one_round e g)
round_more e g other =
    let h = one_round e g in
    let down = round_left e 0 e.system.components g in
    let less : h.left < g.left = omega (arith, down, other) in
    elim (eqb_tells h.left g.left) [
      | inl t ↦ absurd (other t.1)
      | inr t ↦ ap (λ b. further e g.left b h) t.0 ∙ rounds_same g.left (suc h.left) e h less (omega arith)
    ]

-- a round in which none was
pub round_last : (e : Explored) (g : Going) → (one_round e g).left ≡ g.left → settled e g ≡ one_round e g
round_last e g same =
    let h = one_round e g in
    elim (eqb_tells h.left g.left) [
      | inl t ↦ ap (λ b. further e g.left b h) t.0
      | inr t ↦ absurd (t.1 same)
    ]

-- TURNS ONE AFTER THE OTHER

pub turns_more : (system : System) (turns : List ℕ) (x : ℕ) (p : Point) → after_turns system (turns ++ x ∷ []) p ≡ after_turn system x (after_turns system
    turns p)
turns_more system [] x p = refl
turns_more system (y ∷ turns) x p = turns_more system turns x (after_turn system y p)
