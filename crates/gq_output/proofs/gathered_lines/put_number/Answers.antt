use Rattle.std.proofs.Common.{ap, sym, ◌∙◌, ◌+◌, ◌++◌, ◌≡◌, ℕ, List, length, take, drop, decimal, arith, refl, subst, take-add}
use lib.Seq.{take_at}
use Rattle.std.proofs.lemmas.Fmt.{length-decimal-le}
use Rattle.gq_output.proofs.gathered_lines.put_number.Goals as goal

-- digits that were written at a place, as what stands there then
behind : (new old digits rest : List ℕ) (at : ℕ) → take at new ≡ take at old → drop at new ≡ digits ++ rest
    → take (at + length digits) new ≡ take at old ++ digits
behind new old digits rest at before written =
    take-add at (length digits) new
    ∙ (ap (λ x. x ++ take (length digits) (drop at new)) before
    ∙ ap (λ x. take at old ++ x) (ap (take (length digits)) written ∙ take_at digits rest (length digits) refl))

pub overflow_add-end : goal.overflow_add-end
overflow_add-end c =
    let few = length-decimal-le 10 c.args.number (omega arith) (omega arith) (omega arith) in
    let is = c.digit_count.ensures in
    let room = c.requires in
    record { fits = omega (arith, few, is, room) }

pub write_digits-requires : goal.write_digits-requires
write_digits-requires c =
    let few = length-decimal-le 10 c.args.number (omega arith) (omega arith) (omega arith) in
    let is = c.digit_count.ensures in
    let same = ap (λ n. length (decimal n)) c.from.ensures in
    let room = c.requires in
    (omega (arith, is, same), omega (arith, few, is, room))

pub returns-clause-bytes : goal.returns-clause-bytes
returns-clause-bytes c =
    let new = c.write_digits.new.buf in
    let old = c.args.page.now in
    let digits = decimal c.args.number in
    let is = c.digit_count.ensures in
    let same = ap (λ n. length (decimal n)) c.from.ensures in
    let start = c.write_digits.ensures.start in
    let at : c.write_digits.result ≡ c.args.at = omega (arith, is, same, start) in
    let before : take c.args.at new ≡ take c.args.at old = subst (λ k. take k new ≡ take k old) at c.write_digits.ensures.before in
    let written : drop c.args.at new ≡ digits ++ drop (c.args.at + c.digit_count.result) old =
    sym (ap (λ k. drop k new) at) ∙ (c.write_digits.ensures.written
    ∙ ap (λ n. decimal n ++ drop (c.args.at + c.digit_count.result) old) c.from.ensures) in
    ap (λ k. take (c.args.at + k) new) is ∙ behind new old digits (drop (c.args.at + c.digit_count.result) old) c.args.at before written

pub returns-clause-short : goal.returns-clause-short
returns-clause-short c =
    let few = length-decimal-le 10 c.args.number (omega arith) (omega arith) (omega arith) in
    let is = c.digit_count.ensures in
    omega (arith, few, is)
