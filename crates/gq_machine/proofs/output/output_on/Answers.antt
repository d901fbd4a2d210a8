-- A line, and the numbers that follow it.
use Rattle.std.proofs.Common.{◌≡◌, ◌<◌, ◌-◌, ◌++◌, ◌∙◌, ◌∷◌, ℕ, List, [], length, length-append, ap, subst, arith}
use Rattle.gq_output.specs.LeafLines.{Lines, prefix_of, line_with}
use Rattle.gq_machine.specs.internal.Turn_transitions.{Says}
use Rattle.gq_machine.proofs.Leaf_alone_turns.{label}
use Rattle.gq_machine.proofs.output.output_on.Goals as goal

-- no lines, with one more
one_line : (was bytes speaker is text : List ℕ) → bytes ≡ was ++ line_with speaker text → was ≡ [] → speaker ≡ is → bytes ≡ line_with is text
one_line was bytes speaker is text e a b = e ∙ (ap (λ l. l ++ line_with speaker text) a ∙ ap (λ l. line_with l text) b)

pub returns-clause-said : goal.returns-clause-said
returns-clause-said c =
    let f = c.args.fixed.now in
    let x = c.args.number in
    let m = c.args.state.now in
    let s = c.show_all in
    let text = c.args.text.now in
    let empty = c.begin.ensures.bytes ∙ ap (λ (q : Lines). q.bytes) c.clear.ensures in
    let bytes : c.say.new.self.bytes ≡ line_with (label f x) text =
    one_line c.begin.new.lines.bytes c.say.new.self.bytes c.begin.new.lines.label (label f x) text
    (ap (λ (q : Lines). q.bytes) c.say.ensures) empty c.begin.ensures.label in
    subst (λ b. Says f x (c.args.turns - s.result) m s.new.state b s.new.lines.bytes) bytes s.ensures.says.said

-- a line has bytes
line_some : (was bytes speaker text : List ℕ) → bytes ≡ was ++ line_with speaker text → 0 < length bytes
line_some was bytes speaker text e =
    let count = ap length e ∙ length-append was (line_with speaker text) in
    let line = length-append (prefix_of speaker) (text ++ 10 ∷ []) in
    let end = length-append text (10 ∷ []) in
    omega (arith, count, line, end)

pub returns-clause-some : goal.returns-clause-some
returns-clause-some c =
    let some = line_some c.begin.new.lines.bytes c.say.new.self.bytes c.begin.new.lines.label c.args.text.now (ap (λ (q : Lines). q.bytes) c.say.ensures) in
    let longer = c.show_all.ensures.says.longer in
    omega (arith, some, longer)
