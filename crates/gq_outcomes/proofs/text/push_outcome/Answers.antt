-- An outcome with its number.
use Rattle.std.proofs.Common.{◌≡◌, ◌∙◌, ◌++◌, List, ℕ, ap, codes, length, sym}
use Rattle.std.specs.Prelude.{decimal}
use Rattle.std.proofs.lemmas.Result.{on_ok_weaker}
use Rattle.gq_outcomes.specs.internal.Turn_rows.{past_of}
use Rattle.gq_outcomes.proofs.Text_lines.{ok_added, six_joined}
use Rattle.gq_outcomes.proofs.Turn_rows.{past_count}
use Rattle.gq_outcomes.proofs.text.push_outcome.Goals as goal

pub returns : goal.returns
returns c = on_ok_weaker c.extend_from_slice-4.result (λ
    (last : c.extend_from_slice-4.new.self.items ≡ c.extend_from_slice-3.new.self.items ++ c.as_slice.result.now).
    let t = c.args.text.now.items in
    let f = c.args.found.now in
    let a = codes "outcome " in
    let b = decimal c.args.number in
    let d = codes " after " in
    let n = decimal (length (past_of f.past.items)) in
    let e = codes " turns\n" in
    let two = c.in_ok-push_number.ensures ∙ ap (λ (l : List ℕ). l ++ b) c.in_ok-extend_from_slice.ensures.items in
    let three = c.in_ok-extend_from_slice-2.ensures.items ∙ ap (λ (l : List ℕ). l ++ d) two in
    let turns = c.len.ensures ∙ f.past.ok.0 ∙ sym (past_count f.past.items) in
    let four = c.in_ok-push_number-2.ensures ∙ ap (λ m. c.extend_from_slice-2.new.self.items ++ decimal m) turns
    ∙ ap (λ (l : List ℕ). l ++ n) three in
    let five = c.in_ok-extend_from_slice-3.ensures.items ∙ ap (λ (l : List ℕ). l ++ e) four in
    last ∙ ap (λ (l : List ℕ). l ++ c.as_slice.result.now) five ∙ ap (λ (x : List ℕ). (((((t ++ a) ++ b) ++ d) ++ n) ++ e) ++ x) c.as_slice.ensures.value
    ∙ six_joined t a b d n e f.text.items)
    (ok_added c.extend_from_slice-4.result _ _ _ c.extend_from_slice-4.ensures.items)
