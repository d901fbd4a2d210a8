use Rattle.std.proofs.Common.{◌≡◌, ◌+◌, ◌<◌, ℕ, List, Some, length, set, slice_index, arith, ap, ◌∙◌}
use Rattle.gq_dataspace.specs.Dataspaces.{Contents, content_of}
use Rattle.gq_dataspace.proofs.Repeated_dataspace_sets.{content_there, stored_again}
use Rattle.gq_dataspace.proofs.spaces.Spaces.store_across.Goals as goal

pub returns-clause-written : goal.returns-clause-written
returns-clause-written c =
    let ss = c.args.self.now.spaces in let r = c.args.ds.0 in let o = c.args.offset in let ws : List ℕ = c.to_le_bytes.result in
    let bs : List ℕ = content_of ss r in
    let lt : r < length ss = content_there ss r (omega (arith, c.requires.inside)) in
    let one : c.store.new.self.spaces ≡ set ss r (Some (set bs o (slice_index ws 0))) = c.store.ensures.written in
    let two : c.store-2.new.self.spaces ≡ set ss r (Some (set (set bs o (slice_index ws 0)) (o + 1) (slice_index ws 1))) =
    c.store-2.ensures.written ∙ ap (λ (xs : Contents). set xs r (Some (set (content_of xs r) (o + 1) (slice_index ws 1)))) one
    ∙ stored_again ss r (set bs o (slice_index ws 0)) (o + 1) (slice_index ws 1) lt in
    let e : o + 2 ≡ o + 1 + 1 = omega arith in let f : o + 3 ≡ o + 1 + 1 + 1 = omega arith in
    let bs2 : List ℕ = set (set bs o (slice_index ws 0)) (o + 1) (slice_index ws 1) in
    let three : c.store-3.new.self.spaces ≡ set ss r (Some (set bs2 (o + 1 + 1) (slice_index ws 2))) =
    c.store-3.ensures.written ∙ ap (λ (xs : Contents). set xs r (Some (set (content_of xs r) (o + 2) (slice_index ws 2)))) two
    ∙ stored_again ss r bs2 (o + 2) (slice_index ws 2) lt
    ∙ ap (λ (p : ℕ). set ss r (Some (set bs2 p (slice_index ws 2)))) e in
    let bs3 : List ℕ = set bs2 (o + 1 + 1) (slice_index ws 2) in
    c.store-4.ensures.written ∙ ap (λ (xs : Contents). set xs r (Some (set (content_of xs r) (o + 3) (slice_index ws 3)))) three
    ∙ stored_again ss r bs3 (o + 3) (slice_index ws 3) lt
    ∙ ap (λ (p : ℕ). set ss r (Some (set bs3 p (slice_index ws 3)))) f
    ∙ ap (λ (vs : List ℕ). set ss r (Some (set (set (set (set bs o (slice_index vs 0)) (o + 1) (slice_index vs 1)) (o + 1 + 1) (slice_index vs 2))
    (o + 1 + 1 + 1) (slice_index vs 3)))) c.to_le_bytes.ensures

pub returns-clause-same_size : goal.returns-clause-same_size
returns-clause-same_size c = c.store-4.ensures.same_size ∙ c.store-3.ensures.same_size ∙ c.store-2.ensures.same_size ∙ c.store.ensures.same_size
