use Rattle.std.proofs.Common.{◌≡◌, ◌/◌, ℕ, length, refl, sym, ap, subst, ◌∙◌}
use Rattle.gq_pages.specs.Frame_map.{all_free, count_free}
use Rattle.gq_ram.specs.Ledgers.{IsBalanced, price_where, caps_where}
use Rattle.gq_ram.proofs.First_balances.{first_balanced, first_is, count_all_free, length_all_free}
use Rattle.gq_ram.proofs.accounts.Accounts.new.Goals.{in-Some, in-None}
use Rattle.gq_ram.proofs.accounts.Accounts.new.Goals as goal

pub returns : goal.returns
returns c =
    let n = c.args.total / 4096 in
    let pages : c.in_ok-pages.pages ≡ all_free n = c.in_ok-pages.ensures in
    let spaces : c.in_ok-spaces.spaces.spaces ≡ all_free n = c.in_ok-spaces.ensures.none ∙ ap all_free (ap length pages ∙ length_all_free n) in
    let free : c.in_ok-spaces.spaces.free ≡ n = c.in_ok-spaces.ensures.free ∙ ap count_free pages ∙ count_all_free n in
    let price : c.match-caps.price.0 ≡ price_where c.args.caps = elim c.match-caps.branch [
      | in-Some w ↦ ap (λ (p : ℕ × ℕ). p.0) w.price-is ∙ ap price_where (sym w.in-Some.is)
      | in-None w ↦ ap (λ (p : ℕ × ℕ). p.0) w.price-is ∙ ap price_where (sym w.in-None.is)
    ] in
    let its : c.match-caps.price.1 ≡ caps_where c.args.caps = elim c.match-caps.branch [
      | in-Some w ↦ ap (λ (p : ℕ × ℕ). p.1) w.price-is ∙ ap caps_where (sym w.in-Some.is)
      | in-None w ↦ ap (λ (p : ℕ × ℕ). p.1) w.price-is ∙ ap caps_where (sym w.in-None.is)
    ] in
    first_is _ c.args.total c.args.caps c.in_ok-accounts.ensures spaces free c.in_ok-owners.ensures price refl its

pub invariant_of-result : goal.invariant_of-result
invariant_of-result c = subst IsBalanced (sym (returns c)) (first_balanced c.args.total c.args.caps c.requires.total.1 c.requires.whole c.requires.caps)
