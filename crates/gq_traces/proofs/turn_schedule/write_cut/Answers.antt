-- The line that turns were cut, put together.
use Rattle.std.proofs.Common.{◌≡◌, ◌∙◌, ◌≤◌, ◌+◌, ℕ, List, ◌∷◌, ◌++◌, [], length, length-append, append_assoc, ap, sym, subst, arith, codes, true}
use Rattle.std.specs.Prelude.{decimal}
use Rattle.gq_output.specs.Writer_failures.{Writes}
use Rattle.gq_views.specs.Listing.{joined}
use Rattle.gq_traces.specs.Schedule.{cut_lines}
use Rattle.gq_traces.proofs.Printed_line_parts.{short_count}
use Rattle.gq_traces.proofs.turn_schedule.write_cut.Goals as goal

-- digits that are read as text are those of the number
digits_short : (digits text : List ℕ) (n : ℕ) → digits ≡ text → text ≡ decimal n → length (decimal n) ≤ 7 → length digits ≤ 7
digits_short digits text n same is few = let long = ap length (same ∙ is) in omega (arith, long, few)

-- there is room for the rest
room : (none first second digits : List ℕ) → none ≡ [] → first ≡ none ++ codes "# cut after " → second ≡ first ++ digits → length digits ≤ 7
    → length second + 7 ≤ 26
room none first second digits empty begins goes few =
    let a = ap length empty in
    let b = ap length begins ∙ length-append none (codes "# cut after ") in
    let c = ap length goes ∙ length-append first digits in
    omega (arith, a, b, c, few)

-- the parts are the line
line_is : (none first second third digits : List ℕ) (n : ℕ) → none ≡ [] → first ≡ none ++ codes "# cut after " → second ≡ first ++ digits
    → third ≡ second ++ codes " turns\n" → digits ≡ decimal n → third ≡ joined (cut_lines true n)
line_is none first second third digits n empty begins goes ends is =
    ends ∙ (ap (λ (l : List ℕ). l ++ codes " turns\n") (goes ∙ (ap (λ (l : List ℕ). l ++ digits) (begins ∙ ap (λ (l : List ℕ). l ++ codes "# cut after ") empty)
    ∙ ap (λ (l : List ℕ). codes "# cut after " ++ l) is)) ∙ sym (append_assoc (codes "# cut after " ++ decimal n) (codes " turns") (10 ∷ [])))

pub extend-requires-3 : goal.extend-requires-3
extend-requires-3 g c =
    let digits = digits_short c.as_bytes.result.now c.format.result.now c.args.taken c.as_bytes.ensures.value c.format.ensures.text
    (short_count c.args.taken c.requires) in
    let few = room c.new-line.result.items c.extend.new.line.items c.extend-2.new.line.items c.as_bytes.result.now c.new-line.ensures c.extend.ensures
    c.extend-2.ensures digits in
    omega (arith, few)

pub returns : goal.returns
returns g c =
    let digits : c.as_bytes.result.now ≡ decimal c.args.taken = c.as_bytes.ensures.value ∙ c.format.ensures.text in
    let whole = c.as_slice.ensures.value ∙ line_is c.new-line.result.items c.extend.new.line.items c.extend-2.new.line.items c.extend-3.new.line.items
    c.as_bytes.result.now c.args.taken c.new-line.ensures c.extend.ensures c.extend-2.ensures c.extend-3.ensures digits in
    subst (λ (l : List ℕ). Writes g.W.Write.contents c.args.out.now c.put.new.out l c.put.result) whole c.put.ensures
