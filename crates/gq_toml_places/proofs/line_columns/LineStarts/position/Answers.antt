use Rattle.std.proofs.Common.{◌≡◌, ◌<◌, ◌+◌, length, get_or, take, arith, sym, ap, ◌∙◌}
use Rattle.gq_toml_places.specs.Positions.{feeds}
use Rattle.gq_toml_places.proofs.Line_start_table.{line_is, column_is, starts_zero, at_place}
use Rattle.gq_toml_places.proofs.line_columns.LineStarts.position.Goals as goal

pub line_index-index-requires-clause-some : goal.line_index-index-requires-clause-some
line_index-index-requires-clause-some c = rw c.as_slice.ensures.value (omega (arith, c.self.invariant.some))

pub line_index-index-requires-clause-first : goal.line_index-index-requires-clause-first
line_index-index-requires-clause-first c = rw c.as_slice.ensures.value (starts_zero _ _ c.self.invariant)

pub returns-clause-line : goal.returns-clause-line
returns-clause-line c =
    let is = c.as_slice.ensures.value in
    let found = c.line_index-index.ensures in
    let inside = rw (← c.self.view_is) at c.requires in
    rw (← c.self.view_is)
    (ap (λ n. n + 1) (sym (line_is _ _ _ _ c.self.invariant (rw is at found.within) (rw is at found.before) inside (rw is at found.after))))

pub returns-clause-column : goal.returns-clause-column
returns-clause-column c =
    let text = c.self.inside.text.now in
    let starts = c.self.inside.starts.items in
    let i = c.line_index-index.result in
    let offset = c.args.offset in
    let is = c.as_slice.ensures.value in
    let found = c.line_index-index.ensures in
    let inside = rw (← c.self.view_is) at c.requires in
    let within : i < length starts = rw is at found.within in
    let line : feeds (take offset text) ≡ i =
    line_is _ _ _ _ c.self.invariant within (rw is at found.before) inside (rw is at found.after) in
    let start : c.index.result.now ≡ get_or starts i 0 = c.index.ensures ∙ at_place starts i _ within in
    rw (← c.self.view_is, start) (ap (λ n. n + 1) (sym (column_is text starts i offset c.self.invariant within (rw is at found.before) inside line)))
