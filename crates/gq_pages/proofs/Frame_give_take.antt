-- What a frame that is given, or taken, does to the chain and to the list of the free frames.
use Rattle.std.proofs.Common.{◌≡◌, ℕ, suc, ◌+◌, ◌-◌, ◌*◌, ◌<◌, ◌≤◌, List, ◌∷◌, ◌++◌, length, set, false, Some, None, sym, ap, subst, ◌∙◌, arith}
use Rattle.std.proofs.Common.{length-append}
use Rattle.std.specs.List.{range_with_len}
use Rattle.std.specs.Int.{w32, to_le_bytes}
use Rattle.gq_pages.specs.Frame_bytes.{word_at, with_bytes, zeroed, zeros}
use Rattle.gq_pages.specs.Frame_map.{IsFree, count_free, zero_frame}
use Rattle.gq_pages.specs.internal.Region_layout.{free_list, chain, IsChain, is_listed, AreFrames, page, frames_of}
use Rattle.gq_pages.proofs.Frame_number_lists.{first_small, links_one, frames_given, frames_taken, frames_without, frames_taken_within, first_was_free}
use Rattle.gq_pages.proofs.Frame_number_lists.{was_free_within}
use Rattle.gq_pages.proofs.Frame_number_lists.{chain_kept, some_free}
use Rattle.gq_pages.proofs.Free_frame_list.{beside, was_touched, count_free-free_list, prefix_frames}
use Rattle.gq_pages.proofs.Region_frame_bytes.{word_written, word_at-page, length-page, length-with_bytes, page-with_bytes_same, page-with_bytes_other}
use Rattle.gq_pages.proofs.Region_frame_bytes.{page-zeroed_same}
use Rattle.gq_pages.proofs.Region_frame_bytes.{page-zeroed_other, page-appended_same, page-appended_other}
use Rattle.gq_pages.proofs.Zeroed_byte_runs.{length-zeroed, length-zeros}

-- n frames, of which t were touched, with the bytes bs; in the frame k the link to the first free one is written
pub record Given (n t m : ℕ) (bs : List ℕ) (link k : ℕ) (after : List ℕ) : Type 0 where
  pub size : length after ≡ t * 4096
  pub links : IsChain (suc m) after (k + 1)
  pub free : AreFrames n (free_list n t (suc m) after (k + 1))
  pub view : frames_of n after (free_list n t (suc m) after (k + 1)) ≡ set (frames_of n bs (free_list n t m bs link)) k None
  pub count : count_free (frames_of n after (free_list n t (suc m) after (k + 1))) ≡ m + (n - t) + 1

pub gives : (n t m : ℕ) (bs : List ℕ) (link k : ℕ) → n ≤ 16384 → length bs ≡ t * 4096 → IsChain m bs link → AreFrames n (free_list n t m bs link) → k < n
    → k < t → is_listed (free_list n t m bs link) k ≡ false
    → Given n t m bs link k (with_bytes bs (k * 4096) (to_le_bytes w32 link))
gives n t m bs link k few size links all lt touched out =
    let fresh = range_with_len t (n - t) in let ws : List ℕ = to_le_bytes w32 link in let o : (is_listed (chain m bs link) k ≡ false)
    × (is_listed fresh k ≡ false) = beside (chain m bs link) fresh k out in
    let small : link ≤ n = first_small n m bs link links (prefix_frames n (chain m bs link) fresh all) in
    let there : (j : ℕ) → (j ≡ k → ⊥) → page (with_bytes bs (k * 4096 + 0) ws) j ≡ page bs j =
    λ j other. page-with_bytes_other bs k 0 ws j (omega arith) other in
    let long : 4 ≤ length (page bs k) = omega (arith, length-page bs k) in
    let here : word_at (page (with_bytes bs (k * 4096 + 0) ws) k) 0 ≡ link = ap (λ (xs : List ℕ). word_at xs 0) (page-with_bytes_same bs k 0 ws (omega arith))
    ∙ word_written (page bs k) link long (omega arith) in
    let linked = links_one m bs (with_bytes bs (k * 4096 + 0) ws) link k o.0 here there in
    let same : free_list n t (suc m) (with_bytes bs (k * 4096 + 0) ws) (k + 1) ≡ k ∷ free_list n t m bs link = ap (λ (xs : List ℕ). xs ++ fresh) linked.0 in
    let free : AreFrames n (free_list n t (suc m) (with_bytes bs (k * 4096 + 0) ws) (k + 1)) = subst (AreFrames n) (sym same) (lt, out, all) in
    let e : k * 4096 + 0 ≡ k * 4096 = omega arith in
    subst (λ (a : ℕ). Given n t m bs link k (with_bytes bs a ws)) e (record {
      size = length-with_bytes bs (k * 4096 + 0) ws ∙ size;
      links = linked.1 links;
      free = free;
      view = ap (frames_of n (with_bytes bs (k * 4096 + 0) ws)) same ∙ frames_given n bs (with_bytes bs (k * 4096 + 0) ws) (free_list n t m bs link) k lt there;
      count = count_free-free_list n t (suc m) (with_bytes bs (k * 4096 + 0) ws) (k + 1) free ∙ omega arith;
    })

-- a frame that was free is taken, and reads 0
pub record Taken (n : ℕ) (bs before : List ℕ) (t m : ℕ) (after : List ℕ) (link k : ℕ) : Type 0 where
  pub size : length after ≡ t * 4096
  pub links : IsChain m after link
  pub free : AreFrames n (free_list n t m after link)
  pub was_free : IsFree (frames_of n bs before) k
  pub view : frames_of n after (free_list n t m after link) ≡ set (frames_of n bs before) k (Some zero_frame)
  pub count : count_free (frames_of n after (free_list n t m after link)) ≡ m + (n - t)

-- it was the first of the chain
first_of : (n t r : ℕ) (bs : List ℕ) (link : ℕ) → length bs ≡ t * 4096 → IsChain (suc r) bs link → AreFrames n (free_list n t (suc r) bs link)
    → (link - 1 < t) × Taken n bs (free_list n t (suc r) bs link) t r (zeroed bs ((link - 1) * 4096) 4096) (word_at bs ((link - 1) * 4096)) (link - 1)
first_of n t r bs link size links all =
    let k : ℕ = link - 1 in let next : ℕ = word_at (page bs k) 0 in let rest : List ℕ = chain r bs next in let fresh = range_with_len t (n - t) in
    let o : (is_listed rest k ≡ false) × (is_listed fresh k ≡ false) = beside rest fresh k all.1 in
    let touched : k < t = was_touched n t k all.0 o.1 in
    let within : k * 4096 + 4096 ≤ length bs = omega arith in
    let bs' : List ℕ = zeroed bs (k * 4096) 4096 in
    let there : (j : ℕ) → (j ≡ k → ⊥) → page bs' j ≡ page bs j = λ j other. page-zeroed_other bs k j within other in
    let kept : (chain r bs' next ≡ rest) × (IsChain r bs next → IsChain r bs' next) = chain_kept r bs bs' next k o.0 there in
    let same : free_list n t r bs' next ≡ rest ++ fresh = ap (λ (xs : List ℕ). xs ++ fresh) kept.0 in
    let free : AreFrames n (free_list n t r bs' next) = subst (AreFrames n) (sym same) all.2 in
    let nx : next ≡ word_at bs (k * 4096) = sym (word_at-page bs k 0 (omega arith)) ∙ ap (word_at bs) (omega arith) in (
      touched,
      subst (λ (l : ℕ). Taken n bs (free_list n t (suc r) bs link) t r bs' l k) nx (record {
        size = length-zeroed bs (k * 4096) 4096 within ∙ size;
        links = kept.1 links.1;
        free = free;
        was_free = first_was_free n bs (rest ++ fresh) k all.0;
        view = ap (frames_of n bs') same ∙ frames_taken n bs bs' (rest ++ fresh) k zero_frame all (page-zeroed_same bs k within) there;
        count = count_free-free_list n t r bs' next free;
      }),
    )

pub takes_chained : (n t m : ℕ) (bs : List ℕ) (link : ℕ) → length bs ≡ t * 4096 → IsChain m bs link → AreFrames n (free_list n t m bs link) → 0 < link
    → (0 < m) × (link - 1 < t) × Taken n bs (free_list n t m bs link) t (m - 1) (zeroed bs ((link - 1) * 4096) 4096) (word_at bs ((link - 1) * 4096)) (link - 1)
takes_chained n t m bs link size links all pos =
    let some : 0 < m = some_free m bs link links pos in let e : m ≡ suc (m - 1) = omega arith in
    let first = first_of n t (m - 1) bs link size (subst (λ (j : ℕ). IsChain j bs link) e links)
    (subst (λ (j : ℕ). AreFrames n (free_list n t j bs link)) e all) in (
      some,
      first.0,
      subst (λ (j : ℕ). Taken n bs (free_list n t j bs link) t (m - 1) (zeroed bs ((link - 1) * 4096) 4096) (word_at bs ((link - 1) * 4096))
          (link - 1)) (sym e) first.1,
    )

-- it was never handed out
pub takes_fresh : (n t m : ℕ) (bs : List ℕ) (link : ℕ) → length bs ≡ t * 4096 → t < n → IsChain m bs link → AreFrames n (free_list n t m bs link)
    → Taken n bs (free_list n t m bs link) (t + 1) m (bs ++ zeros 4096) link t
takes_fresh n t m bs link size lt links all =
    let r : ℕ = n - (t + 1) in let e : n - t ≡ suc r = omega arith in let rest : List ℕ = range_with_len (t + 1) r in let cs : List ℕ = chain m bs link in
    let bs' : List ℕ = bs ++ zeros 4096 in let old : free_list n t m bs link ≡ cs ++ t ∷ rest = ap (λ (j : ℕ). cs ++ range_with_len t j) e in
    let all' : AreFrames n (cs ++ t ∷ rest) = subst (AreFrames n) old all in
    let w : AreFrames n (cs ++ rest) × (t < n) × (is_listed (cs ++ rest) t ≡ false) = frames_without n cs rest t all' in
    let here : page bs' t ≡ zero_frame = page-appended_same bs t size in
    let there : (j : ℕ) → (j ≡ t → ⊥) → page bs' j ≡ page bs j = λ j other. page-appended_other bs t j size other in
    let kept : (chain m bs' link ≡ cs) × (IsChain m bs link → IsChain m bs' link) = chain_kept m bs bs' link t (beside cs rest t w.2).0 there in
    let same : free_list n (t + 1) m bs' link ≡ cs ++ rest = ap (λ (xs : List ℕ). xs ++ rest) kept.0 in
    let free : AreFrames n (free_list n (t + 1) m bs' link) = subst (AreFrames n) (sym same) w.0 in
    record {
      size = length-append bs (zeros 4096) ∙ ap (λ (m : ℕ). length bs + m) (length-zeros 4096) ∙ omega arith;
      links = kept.1 links;
      free = free;
      was_free = subst (λ (free : List ℕ). IsFree (frames_of n bs free) t) (sym old) (was_free_within n bs cs rest t lt);
      view = ap (frames_of n bs') same ∙ subst (λ (free : List ℕ). frames_of n bs' (cs ++ rest) ≡ set (frames_of n bs free) t (Some zero_frame)) (sym old)
          (frames_taken_within n bs bs' cs rest t zero_frame all' here there);
      count = count_free-free_list n (t + 1) m bs' link free;
    }
