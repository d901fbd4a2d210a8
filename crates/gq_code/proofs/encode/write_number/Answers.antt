use Rattle.std.proofs.Common.{◌≡◌, ℕ, ◌+◌, ◌-◌, ◌<◌, ◌/◌, ◌%◌, suc, ◌∷◌, ◌++◌, ap, sym, ◌∙◌, arith, append_assoc}
use Rattle.gq_model.specs.machine.Program.{spelled}
use Rattle.gq_code.proofs.encode.write_number.Goals as goal

-- the next byte, and what is left
spelled-turn : (width i left : ℕ) → i < width → spelled (width - i) left ≡ left % 256 ∷ spelled (width - (i + 1)) (left / 256)
spelled-turn width i left h = let e : width - i ≡ suc (width - (i + 1)) = omega arith in ap (λ k. spelled k left) e

pub loop-i-preserved : goal.loop-i-preserved
loop-i-preserved c =
    let l = c.loop-i in
    rw (c.in_ok-push.ensures.items, append_assoc)
    (ap (λ rest. l.out.items ++ rest) (sym (spelled-turn c.args.width l.i l.left c.loop-i-test.true)) ∙ l.invariant)
