use Rattle.std.proofs.Common.{◌≡◌, ◌+◌, ◌≤◌, ◌++◌, ℕ, List, length, take, sym, ap, ◌∙◌, arith, take-add, length-take-le}
use Rattle.std.proofs.lemmas.List.{append_assoc, take-take}
use lib.Seq.{take-append-add}
use Rattle.std.proofs.lemmas.Simd.{take_more_put_chunk, length-chunk, length-put_chunk}
use lib.Lanes.{chunk}
use Rattle.gq_output.proofs.gathered_lines.put_whole.Goals as goal

-- of more bytes than are wanted, those that are
fewer : (out old prefix : List ℕ) (at k n : ℕ) → n ≤ k → at ≤ length old → take (at + k) out ≡ take at old ++ take k prefix
    → take (at + n) out ≡ take at old ++ take n prefix
fewer out old prefix at k n le within e =
    let long = length-take-le at old within in
    sym (take-take (at + n) (at + k) out (omega arith))
    ∙ ap (take (at + n)) e
    ∙ ap (λ j. take (j + n) (take at old ++ take k prefix)) (sym long)
    ∙ take-append-add (take at old) (take k prefix) n
    ∙ ap (λ x. take at old ++ x) (take-take n k prefix le)

pub loop-done-preserved : goal.loop-done-preserved
loop-done-preserved c =
    let a = c.args in
    let l = c.loop-done in
    let v = chunk l.done 32 a.prefix.now in
    let long : length v ≡ 32 = length-chunk l.done 32 a.prefix.now (omega arith) in
    record {
      bytes = take_more_put_chunk (a.at + l.done) l.page v (a.at + (l.done + 32)) (omega arith) (omega arith)
          ∙ ap (λ x. x ++ v) l.invariant.bytes
          ∙ append_assoc (take a.at a.page.now) _ v
          ∙ ap (λ x. take a.at a.page.now ++ x) (sym (take-add l.done 32 a.prefix.now));
      few = omega arith;
      length = length-put_chunk (a.at + l.done) l.page v ∙ l.invariant.length;
    }

pub returns-clause-bytes : goal.returns-clause-bytes
returns-clause-bytes c =
    let a = c.args in
    let l = c.loop-done in
    fewer l.page a.page.now a.prefix.now a.at l.done a.count (omega arith) (omega arith) l.invariant.bytes
