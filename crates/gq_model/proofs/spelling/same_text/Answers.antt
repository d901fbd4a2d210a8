use Rattle.std.proofs.Common.{◌≡◌, Bool, true, false, ℕ, List, length, get_or, ◌-◌, refl, ap, sym, subst, ◌∙◌, rules}
use Rattle.std.specs.Prelude.{not, ◌==◌}
use Rattle.gq_model.specs.machine.Program.{text_eq}
use Rattle.gq_model.proofs.Small_facts.{text_is}
use Rattle.gq_model.proofs.spelling.same_text.Goals.{then-text-other-via-then-text-other, then-text-other-via-else-text-other+then-text-other-2}
use Rattle.gq_model.proofs.spelling.same_text.Goals.{then-not-is_empty, else-not-is_empty}
use Rattle.gq_model.proofs.spelling.same_text.Goals as goal

unlike : (a b : List ℕ) → (text_eq a b ≡ true → ⊥) → false ≡ text_eq a b
unlike a b h = by_cases (text_eq a b) h
  where
    by_cases : (e : Bool) → (e ≡ true → ⊥) → false ≡ e
    by_cases false h = refl
    by_cases true h = absurd (h refl)

ends_same : (a b : List ℕ) → a ≡ b → not (get_or a (length a - 1) 0 == get_or b (length b - 1) 0) ≡ true → ⊥
ends_same a b e = subst (λ l. not (get_or a (length a - 1) 0 == get_or l (length l - 1) 0) ≡ true → ⊥) e (is_itself (get_or a (length a - 1) 0))
  where
    is_itself : (n : ℕ) → not (n == n) ≡ true → ⊥
    is_itself n h = search rules

pub returns-then-text-other : goal.returns-then-text-other
returns-then-text-other c =
    let a = c.args.text.now in
    let b = c.args.other.now in
    unlike a b (λ e. elim c.then-text-other.branch [
      | then-text-other-via-then-text-other w ↦ w.if-text-other.true (ap length (text_is a b e))
      | then-text-other-via-else-text-other+then-text-other-2 w ↦ elim w.if-not-is_empty.branch [
        | then-not-is_empty x ↦ ends_same a b (text_is a b e) (sym x.value-is ∙ w.if-text-other-2.true)
        | else-not-is_empty x ↦ search rules
      ]
    ])
