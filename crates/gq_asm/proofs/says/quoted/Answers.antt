use Rattle.std.proofs.Common.{◌∙◌, sym, arith, length, ◌≡◌}
use Rattle.std.proofs.lemmas.List.{take_rest}
use Rattle.gq_asm.proofs.Pieces_at_start.{quoted_found, quoted_more, quoted_step, quoted_end}
use Rattle.gq_asm.proofs.says.quoted.Goals as goal

pub returns-then-is_all_blank : goal.returns-then-is_all_blank
returns-then-is_all_blank c =
    let blank = rw take_rest at c.is_all_blank.ensures in
    sym (quoted_found c.args.text.now c.loop-i.i c.loop-i-test.true c.if-byte-eq34.true (sym blank ∙ c.if-is_all_blank.true)) ∙ c.loop-i.invariant

pub returns-then-byte-eq34 : goal.returns-then-byte-eq34
returns-then-byte-eq34 c =
    let blank = rw take_rest at c.is_all_blank.ensures in
    sym (quoted_more c.args.text.now c.loop-i.i c.loop-i-test.true c.if-byte-eq34.true (sym blank ∙ c.if-is_all_blank.false)) ∙ c.loop-i.invariant

pub loop-i-preserved : goal.loop-i-preserved
loop-i-preserved c = quoted_step c.args.text.now c.loop-i.i c.loop-i-test.true c.if-byte-eq34.false ∙ c.loop-i.invariant

pub returns : goal.returns
returns c = let e : c.loop-i.i ≡ length c.args.text.now = omega arith in sym (quoted_end c.args.text.now) ∙ rw e at c.loop-i.invariant
