-- Lists of contents.
use Rattle.std.proofs.Common.{◌≡◌, ℕ, ◌+◌, List, [], ◌∷◌, ◌++◌, append_assoc, refl, sym, ap, ◌∙◌, arith}
use Rattle.gq_store.specs.Store.{Store}
use Rattle.gq_heap.specs.List_occurrences.{times}
use Rattle.gq_heap.proofs.Heap_cell_lists.{times-append}
use Rattle.gq_contents.specs.declared.content.Content.{Content}
use Rattle.gq_contents.specs.Contents.{chunks, places, IsContent}
use Rattle.gq_contents.specs.Contents_invariant.{all_chunks, all_places, AreContents}

pub chunks_append : (ts us : List Content) → all_chunks (ts ++ us) ≡ all_chunks ts ++ all_chunks us
chunks_append [] us = refl
chunks_append (t ∷ ts) us = ap (λ xs. chunks t ++ xs) (chunks_append ts us) ∙ sym (append_assoc (chunks t) (all_chunks ts) (all_chunks us))

pub places_append : (st : Store) (ts us : List Content) → all_places st (ts ++ us) ≡ all_places st ts ++ all_places st us
places_append st [] us = refl
places_append st (t ∷ ts) us = ap (λ ps. places st t ++ ps) (places_append st ts us) ∙ sym (append_assoc (places st t) (all_places st ts) (all_places st us))

pub times_among : (x : ℕ) (prefix : List Content) (t : Content) (back : List Content)
    → times x (all_chunks (prefix ++ t ∷ back)) ≡ times x (all_chunks prefix) + times x (chunks t) + times x (all_chunks back)
times_among x prefix t back =
    let e = ap (times x) (chunks_append prefix (t ∷ back)) in
    omega (arith, e, times-append x (all_chunks prefix) (chunks t ++ all_chunks back), times-append x (chunks t) (all_chunks back))

pub each_prefix : (st : Store) (prefix : List Content) (t : Content) (back : List Content) → AreContents st (prefix ++ t ∷ back)
    → AreContents st prefix × IsContent st t × AreContents st back
each_prefix st [] t back h = (tt, h.0, h.1)
each_prefix st (u ∷ prefix) t back h = let r = each_prefix st prefix t back h.1 in ((h.0, r.0), r.1, r.2)

pub each_among : (st : Store) (prefix : List Content) (t : Content) (back : List Content) → AreContents st prefix → IsContent st t → AreContents st back
    → AreContents st (prefix ++ t ∷ back)
each_among st [] t back f h b = (h, b)
each_among st (u ∷ prefix) t back f h b = (f.0, each_among st prefix t back f.1 h b)
