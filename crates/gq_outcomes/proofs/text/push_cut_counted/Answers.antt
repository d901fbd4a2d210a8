-- The last line of a text that was cut.
use Rattle.std.proofs.Common.{◌≡◌, ◌∙◌, ◌++◌, List, ℕ, ap, codes}
use Rattle.std.specs.Prelude.{decimal}
use Rattle.std.proofs.lemmas.Result.{on_ok_weaker}
use Rattle.gq_outcomes.specs.Outcomes.{most_turns}
use Rattle.gq_outcomes.proofs.Text_lines.{ok_added, five_joined}
use Rattle.gq_outcomes.proofs.text.push_cut_counted.Goals as goal

pub returns : goal.returns
unfolding most_turns
returns c = on_ok_weaker c.extend_from_slice-3.result (λ
    (last : c.extend_from_slice-3.new.self.items ≡ c.push_number-2.new.text.items ++ codes " outcomes so far\n").
    let t = c.args.text.now.items in
    let a = codes "# cut after " in
    let b = decimal 10000000 in
    let d = codes " turns, " in
    let n = decimal c.args.count in
    let e = codes " outcomes so far\n" in
    let two = c.in_ok-push_number.ensures ∙ ap (λ m. c.extend_from_slice.new.self.items ++ decimal m) c.from.ensures
    ∙ ap (λ (l : List ℕ). l ++ b) c.in_ok-extend_from_slice.ensures.items in
    let four = c.in_ok-push_number-2.ensures ∙ ap (λ (l : List ℕ). l ++ n) (c.in_ok-extend_from_slice-2.ensures.items ∙ ap (λ (l : List ℕ). l ++ d) two) in
    last ∙ ap (λ (l : List ℕ). l ++ e) four ∙ five_joined t a b d n e)
    (ok_added c.extend_from_slice-3.result _ _ _ c.extend_from_slice-3.ensures.items)
