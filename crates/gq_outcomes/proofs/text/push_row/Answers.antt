-- A line of turns.
use Rattle.std.proofs.Common.{◌≡◌, ◌∙◌, ◌<◌, ◌++◌, ◌∷◌, [], List, ℕ, ap, length, sym, subst}
use Rattle.std.specs.Prelude.{decimal, slice_get}
use Rattle.std.proofs.lemmas.Result.{on_ok_weaker}
use Rattle.gq_model.specs.machine.Scenario.{components}
use Rattle.gq_outcomes.specs.Text.{name_at}
use Rattle.gq_outcomes.proofs.Text_lines.{ok_added, name_of, row_joined}
use Rattle.gq_outcomes.proofs.text.push_row.Goals as goal

pub returns : goal.returns
returns c = on_ok_weaker c.extend_from_slice-3.result (λ (last : c.extend_from_slice-3.new.self.items ≡ c.push_number.new.text.items ++ 10 ∷ []).
    let t = c.args.text.now.items in
    let cs = components c.args.table.now in
    let at : c.new.result ≡ c.args.leaf = c.new.ensures ∙ c.from.ensures in
    let within : c.new.result < length cs = subst (λ x. x < length cs) (sym at) c.requires in
    let name = c.as_bytes.result.now in
    let named = c.as_bytes.ensures.bytes ∙ name_of c.args.table.now c.new.result c.name.result.now within c.name.ensures
    ∙ ap (λ x. name_at (slice_get cs x)) at in
    let number = decimal c.args.count in
    let two = c.in_ok-extend_from_slice-2.ensures.items ∙ ap (λ (l : List ℕ). l ++ 32 ∷ []) c.in_ok-extend_from_slice.ensures.items in
    let three = c.in_ok-push_number.ensures ∙ ap (λ n. c.extend_from_slice-2.new.self.items ++ decimal n) c.from-2.ensures
    ∙ ap (λ (l : List ℕ). l ++ number) two in
    last ∙ ap (λ (l : List ℕ). l ++ 10 ∷ []) three ∙ row_joined t name number
    ∙ ap (λ (l : List ℕ). t ++ ((l ++ (32 ∷ number)) ++ 10 ∷ [])) named)
    (ok_added c.extend_from_slice-3.result _ _ _ c.extend_from_slice-3.ensures.items)
