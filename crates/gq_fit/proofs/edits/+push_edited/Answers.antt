-- What was put at the end differs in the values of quantities alone.
use Rattle.std.proofs.Common.{◌∙◌, ◌++◌, ap, sym}
use Rattle.std.proofs.lemmas.Result.{on_ok_weaker}
use Rattle.gq_fit.specs.Places.{lexer_in}
use Rattle.gq_fit.proofs.Text_value_changes.{changed, one_more, split_twice}
use Rattle.gq_fit.proofs.edits.+push_edited.Goals as goal

pub returns-clause-ends : goal.returns-clause-ends
returns-clause-ends t c =
    let rest = c.args.rest.now in
    let kept = c.split_at.result.0.now in
    let after = c.split_at.result.1.now in
    let value = c.split_at-2.result.0.now in
    let left = c.split_at-2.result.1.now in
    let new = c.as_slice-new.result.now in
    let there = lexer_in c.pass.new.self.mode c.pass.new.self.line.items in
    let behind = lexer_in c.pass-2.new.self.mode c.pass-2.new.self.line.items in
    let both = changed c.in_ok-is_change.field-0 value new c.if-not-branch.false c.in_ok-is_change.ensures in
    let placed = sym c.is_at_place.ensures ∙ c.if-not-is_at_place.false in
    let was =
    split_twice rest kept after value left _ _ c.split_at.ensures.front c.split_at.ensures.back c.split_at-2.ensures.front c.split_at-2.ensures.back in
    on_ok_weaker c.push_edited.result
    (one_more c.args.with_gifts _ there behind rest kept value new left c.args.made.now.items c.extend_from_slice-3.new.self.items
    c.push_edited.new.made.items was both.0 both.1 c.in_ok-pass.ensures c.in_ok-pass-2.ensures placed
    (c.in_ok-extend_from_slice-3.ensures.items ∙ ap (λ t. t ++ new) c.in_ok-extend_from_slice-2.ensures.items)) c.push_edited.ensures.ends
