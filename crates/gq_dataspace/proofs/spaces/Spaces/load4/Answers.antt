use Rattle.std.proofs.Common.{◌≡◌, ◌*◌, ◌/◌, ◌%◌, ◌<◌, ◌≤◌, ℕ, List, length, arith, sym, ap, ◌∙◌}
use Rattle.gq_pages.specs.Frame_bytes.{word_at}
use Rattle.gq_pages.specs.Frame_map.{bytes_of}
use Rattle.gq_dataspace.specs.internal.Frame_lists.{list_at}
use Rattle.gq_dataspace.specs.Dataspaces.{Dataspaces, content_of}
use Rattle.gq_dataspace.proofs.Dataspace_call_effects.{content_at, length-content}
use Rattle.gq_dataspace.proofs.Frame_list_bytes.{is_taken, word_in}
use Rattle.gq_dataspace.proofs.spaces.Spaces.load4.Goals as goal

pub frame-frame-requires : goal.frame-frame-requires
frame-frame-requires c =
    let s = c.self.inside in let r = c.args.ds.0 in
    let long : length (content_of c.args.self.now.spaces r) ≡ 4096 * length (list_at s.table r) = ap (λ (d : Dataspaces). length (content_of d.spaces r))
    (sym c.self.view_is) ∙ length-content s.pages s.table r in
    omega (arith, c.requires, long)

pub word-requires : goal.word-requires
word-requires c =
    let s = c.self.inside in let r = c.args.ds.0 in let o = c.args.offset in
    let long : length (content_of c.args.self.now.spaces r) ≡ 4096 * length (list_at s.table r) = ap (λ (d : Dataspaces). length (content_of d.spaces r))
    (sym c.self.view_is) ∙ length-content s.pages s.table r in
    let below : o / 4096 < length (list_at s.table r) = omega (arith, c.requires, long) in
    let whole : length (bytes_of s.pages c.frame-frame.result) ≡ 4096 = ap (λ (f : ℕ). length (bytes_of s.pages f)) c.frame-frame.ensures.value
    ∙ c.self.invariant.whole r (o / 4096) below in
    (is_taken s.pages c.frame-frame.result whole, omega (arith, c.if-offset.true))

pub returns-then-offset : goal.returns-then-offset
returns-then-offset c =
    let s = c.self.inside in let r = c.args.ds.0 in let o = c.args.offset in
    let long : length (content_of c.args.self.now.spaces r) ≡ 4096 * length (list_at s.table r) = ap (λ (d : Dataspaces). length (content_of d.spaces r))
    (sym c.self.view_is) ∙ length-content s.pages s.table r in
    let below : o / 4096 < length (list_at s.table r) = omega (arith, c.requires, long) in
    let fits : o % 4096 ≤ 4092 = omega (arith, c.if-offset.true) in
    c.word.ensures ∙ ap (λ (f : ℕ). word_at (bytes_of s.pages f) (o % 4096)) c.frame-frame.ensures.value
    ∙ word_in s.pages (list_at s.table r) o (omega (arith, c.requires, long)) fits (c.self.invariant.whole r (o / 4096) below)
    ∙ ap (λ (xs : List ℕ). word_at xs o) (sym (content_at s.pages s.table r)) ∙ ap (λ (d : Dataspaces). word_at (content_of d.spaces r) o) c.self.view_is

pub load_across-requires-clause-fits : goal.load_across-requires-clause-fits
load_across-requires-clause-fits c =
    let s = c.self.inside in let r = c.args.ds.0 in
    let long : length (content_of c.args.self.now.spaces r) ≡ 4096 * length (list_at s.table r) = ap (λ (d : Dataspaces). length (content_of d.spaces r))
    (sym c.self.view_is) ∙ length-content s.pages s.table r in
    omega (arith, c.requires, long, c.self.invariant.short r)
