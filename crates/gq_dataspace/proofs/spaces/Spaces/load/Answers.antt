use Rattle.std.proofs.Common.{◌≡◌, ◌*◌, ◌/◌, ◌%◌, ◌<◌, ℕ, length, slice_index, arith, sym, ap, ◌∙◌}
use Rattle.gq_pages.specs.Frame_map.{bytes_of}
use Rattle.gq_dataspace.specs.internal.Frame_lists.{list_at}
use Rattle.gq_dataspace.specs.Dataspaces.{Dataspaces, content_of}
use Rattle.gq_dataspace.proofs.Dataspace_call_effects.{content_at, length-content}
use Rattle.gq_dataspace.proofs.Frame_list_bytes.{is_taken, get_or-bytes_in}
use Rattle.gq_dataspace.proofs.spaces.Spaces.load.Goals as goal

pub frame-frame-requires : goal.frame-frame-requires
frame-frame-requires c =
    let s = c.self.inside in let r = c.args.ds.0 in
    let long : length (content_of c.args.self.now.spaces r) ≡ 4096 * length (list_at s.table r) = ap (λ (d : Dataspaces). length (content_of d.spaces r))
    (sym c.self.view_is) ∙ length-content s.pages s.table r in
    omega (arith, c.requires, long)

pub byte-requires : goal.byte-requires
byte-requires c =
    let s = c.self.inside in let r = c.args.ds.0 in let o = c.args.offset in
    let long : length (content_of c.args.self.now.spaces r) ≡ 4096 * length (list_at s.table r) = ap (λ (d : Dataspaces). length (content_of d.spaces r))
    (sym c.self.view_is) ∙ length-content s.pages s.table r in
    let below : o / 4096 < length (list_at s.table r) = omega (arith, c.requires, long) in
    let whole : length (bytes_of s.pages c.frame-frame.result) ≡ 4096 = ap (λ (f : ℕ). length (bytes_of s.pages f)) c.frame-frame.ensures.value
    ∙ c.self.invariant.whole r (o / 4096) below in
    (is_taken s.pages c.frame-frame.result whole, omega arith)

pub returns : goal.returns
returns c =
    let s = c.self.inside in let r = c.args.ds.0 in let o = c.args.offset in
    let long : length (content_of c.args.self.now.spaces r) ≡ 4096 * length (list_at s.table r) = ap (λ (d : Dataspaces). length (content_of d.spaces r))
    (sym c.self.view_is) ∙ length-content s.pages s.table r in
    c.byte.ensures ∙ ap (λ (f : ℕ). slice_index (bytes_of s.pages f) (o % 4096)) c.frame-frame.ensures.value
    ∙ sym (get_or-bytes_in s.pages (list_at s.table r) o (omega (arith, c.requires, long)))
    ∙ ap (λ xs. slice_index xs o) (sym (content_at s.pages s.table r)) ∙ ap (λ (d : Dataspaces). slice_index (content_of d.spaces r) o) c.self.view_is
