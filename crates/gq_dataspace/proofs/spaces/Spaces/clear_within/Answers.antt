use Rattle.std.proofs.Common.{◌≡◌, ◌*◌, ◌/◌, ◌%◌, ◌<◌, ℕ, List, Some, length, set, slice_index, arith, sym, ap, ◌∙◌, length-set}
use Rattle.gq_pages.specs.Frame_bytes.{zeroed}
use Rattle.gq_pages.specs.Frame_map.{bytes_of}
use Rattle.gq_pages.proofs.Zeroed_byte_runs.{length-zeroed}
use Rattle.gq_dataspace.specs.internal.Frame_lists.{list_at}
use Rattle.gq_dataspace.specs.Dataspaces.{Contents, Dataspaces, content_of}
use Rattle.gq_dataspace.specs.internal.Spaces_fields.{bytes_in, spaces_in}
use Rattle.gq_dataspace.proofs.Dataspace_call_effects.{content_at, length-content, writes, whole_written}
use Rattle.gq_dataspace.proofs.Frame_list_bytes.{is_taken}
use Rattle.gq_dataspace.proofs.Cleared_dataspace_bytes.{bytes_cleared}
use Rattle.gq_dataspace.proofs.Repeated_dataspace_sets.{content_there, content_set}
use Rattle.gq_dataspace.proofs.spaces.Spaces.clear_within.Goals as goal

pub frame-frame-requires : goal.frame-frame-requires
frame-frame-requires c =
    let s = c.self.inside in let r = c.args.ds.0 in
    let long : length (content_of c.args.self.now.spaces r) ≡ 4096 * length (list_at s.table r) = ap (λ (d : Dataspaces). length (content_of d.spaces r))
    (sym c.self.view_is) ∙ length-content s.pages s.table r in
    omega (arith, c.requires.some, c.requires.inside, long)

pub clear-requires : goal.clear-requires
clear-requires c =
    let s = c.self.inside in let r = c.args.ds.0 in let o = c.args.offset in
    let long : length (content_of c.args.self.now.spaces r) ≡ 4096 * length (list_at s.table r) = ap (λ (d : Dataspaces). length (content_of d.spaces r))
    (sym c.self.view_is) ∙ length-content s.pages s.table r in
    let below : o / 4096 < length (list_at s.table r) = omega (arith, c.requires.some, c.requires.inside, long) in
    let whole : length (bytes_of s.pages c.frame-frame.result) ≡ 4096 = ap (λ (f : ℕ). length (bytes_of s.pages f)) c.frame-frame.ensures.value
    ∙ c.self.invariant.whole r (o / 4096) below in
    (is_taken s.pages c.frame-frame.result whole, c.requires.within)

pub invariant_of-self : goal.invariant_of-self
invariant_of-self c =
    let s = c.self.inside in let r = c.args.ds.0 in let o = c.args.offset in let i = c.self.invariant in let f = c.frame-frame.result in
    let long : length (content_of c.args.self.now.spaces r) ≡ 4096 * length (list_at s.table r) = ap (λ (d : Dataspaces). length (content_of d.spaces r))
    (sym c.self.view_is) ∙ length-content s.pages s.table r in
    let below : o / 4096 < length (list_at s.table r) = omega (arith, c.requires.some, c.requires.inside, long) in
    let whole : length (bytes_of s.pages f) ≡ 4096 = ap (λ (f : ℕ). length (bytes_of s.pages f)) c.frame-frame.ensures.value ∙ i.whole r (o / 4096) below in
    let bs : List ℕ = zeroed (bytes_of s.pages f) (o % 4096) c.args.size in let same : length (set s.pages f (Some bs)) ≡ length s.pages =
    length-set s.pages f (Some bs) in
    rw c.clear.ensures.cleared (record {
      same = i.same ∙ sym same;
      few = rw same i.few;
      short = i.short;
      whole = whole_written s.pages s.table f bs i.whole (length-zeroed (bytes_of s.pages f) (o % 4096) c.args.size (omega (arith, whole, c.requires.within))
          ∙ whole);
      apart = i.apart;
    })

pub returns-clause-written : goal.returns-clause-written
returns-clause-written c =
    let s = c.self.inside in let r = c.args.ds.0 in let o = c.args.offset in let i = c.self.invariant in let f = c.frame-frame.result in let v = c.args.size in
    let xs : List ℕ = list_at s.table r in
    let long : length (content_of c.args.self.now.spaces r) ≡ 4096 * length xs = ap (λ (d : Dataspaces). length (content_of d.spaces r)) (sym c.self.view_is)
    ∙ length-content s.pages s.table r in
    let below : o / 4096 < length xs = omega (arith, c.requires.some, c.requires.inside, long) in
    let at : slice_index xs (o / 4096) ≡ f = sym c.frame-frame.ensures.value in
    let whole : length (bytes_of s.pages f) ≡ 4096 = ap (λ (f : ℕ). length (bytes_of s.pages f)) (sym at) ∙ i.whole r (o / 4096) below in
    let bs : List ℕ = zeroed (bytes_of s.pages f) (o % 4096) v in
    let is : bytes_in (set s.pages f (Some bs)) xs ≡ zeroed (content_of (spaces_in s.pages s.table) r) o v =
    bytes_cleared s.pages xs f o v below (omega (arith, c.requires.inside, long)) (c.requires.within) at whole
    (λ a lt e. (i.apart.once r r a (o / 4096) lt below (e ∙ sym at)).1)
    ∙ ap (λ (ys : List ℕ). zeroed ys o v) (sym (content_at s.pages s.table r)) in
    rw (c.clear.ensures.cleared, ← c.self.view_is) (writes s.pages s.table r (o / 4096) f bs (zeroed (content_of (spaces_in s.pages s.table) r) o v) i.apart
    below at is)

pub returns-clause-same_size : goal.returns-clause-same_size
returns-clause-same_size c =
    let ss = c.args.self.now.spaces in let r = c.args.ds.0 in let bs : List ℕ = content_of ss r in let now : List ℕ = zeroed bs c.args.offset c.args.size in
    ap (λ (xs : Contents). length (content_of xs r)) (returns-clause-written c)
    ∙ ap length (content_set ss r now (content_there ss r (omega (arith, c.requires.some, c.requires.inside))))
    ∙ length-zeroed bs c.args.offset c.args.size c.requires.inside

pub returns-clause-few : goal.returns-clause-few
returns-clause-few c =
    let s = c.self.inside in let r = c.args.ds.0 in
    let long : length (content_of c.args.self.now.spaces r) ≡ 4096 * length (list_at s.table r) = ap (λ (d : Dataspaces). length (content_of d.spaces r))
    (sym c.self.view_is) ∙ length-content s.pages s.table r in
    omega (arith, c.requires.inside, long, c.self.invariant.short r)
