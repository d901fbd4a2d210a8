-- The list of the free frames: the chained ones, and those that were never handed out.
use Rattle.std.proofs.Common.{◌≡◌, ℕ, ◌+◌, ◌-◌, ◌<◌, inl, inr, List, [], ◌∷◌, ◌++◌, length, set, replicate, Bool, true, false, ◌||◌, Option, Some, None, refl}
use Rattle.std.proofs.Common.{sym, ap, subst, ◌∙◌, arith, length-append}
use Rattle.std.proofs.lemmas.Bool.{cases_lt}
use Rattle.std.specs.List.{range_with_len}
use Rattle.std.proofs.lemmas.List.{length-replicate, get_or-replicate}
use Rattle.std.proofs.lemmas.List.FromFn.{length-range_with_len, fill_by_all}
use Rattle.gq_pages.specs.Frame_map.{all_free, count_free}
use Rattle.gq_pages.specs.internal.Region_layout.{free_list, chain, IsChain, is_listed, AreFrames, page, frame_at, frames_of}
use Rattle.gq_pages.proofs.Frame_number_lists.{listed-append, listed_in_range, frames_written, chain_kept, length-chain, count_free-frames_of}

both_false : (a b : Bool) → a || b ≡ false → (a ≡ false) × (b ≡ false)
both_false true b h = cc
both_false false b h = (refl, h)

-- a number beside two lists
pub beside : (xs ys : List ℕ) (k : ℕ) → is_listed (xs ++ ys) k ≡ false → (is_listed xs k ≡ false) × (is_listed ys k ≡ false)
beside xs ys k out = both_false (is_listed xs k) (is_listed ys k) (sym (listed-append xs ys k) ∙ out)

-- a frame that is not among those that were never handed out was handed out
pub was_touched : (n t k : ℕ) → k < n → is_listed (range_with_len t (n - t)) k ≡ false → k < t
was_touched n t k lt out = elim (cases_lt k t) [
  | inl below ↦ below
  | inr above ↦ let e : is_listed (range_with_len t (n - t)) k ≡ true = listed_in_range t (n - t) k above (omega arith) in
      let f : true ≡ false = sym e ∙ out in cc
]

-- a frame that is not free was handed out, and is not chained
pub outside : (n t m : ℕ) (bs : List ℕ) (link k : ℕ) → k < n → is_listed (free_list n t m bs link) k ≡ false → (k < t) × (is_listed (chain m bs link) k ≡ false)
outside n t m bs link k lt out =
    let b : (is_listed (chain m bs link) k ≡ false) × (is_listed (range_with_len t (n - t)) k ≡ false) =
    beside (chain m bs link) (range_with_len t (n - t)) k out in
    (was_touched n t k lt b.1, b.0)

pub length-free_list : (n t m : ℕ) (bs : List ℕ) (link : ℕ) → length (free_list n t m bs link) ≡ m + (n - t)
length-free_list n t m bs link = omega (
  arith,
  length-append (chain m bs link) (range_with_len t (n - t)),
  length-chain m bs link,
  length-range_with_len t (n - t),
)

pub count_free-free_list : (n t m : ℕ) (bs : List ℕ) (link : ℕ) → AreFrames n (free_list n t m bs link)
    → count_free (frames_of n bs (free_list n t m bs link)) ≡ m + (n - t)
count_free-free_list n t m bs link all = count_free-frames_of n bs (free_list n t m bs link) all ∙ length-free_list n t m bs link

-- at first all frames are free
pub frames_of_range : (n : ℕ) (bs : List ℕ) → frames_of n bs (range_with_len 0 n) ≡ all_free n
unfolding all_free frame_at frames_of
frames_of_range n bs =
    sym (fill_by_all (frame_at bs (range_with_len 0 n)) (replicate n None) n None (length-replicate {A = Option (List ℕ)} n None)
    (λ k lt. get_or-replicate n k None None lt ∙ rw (listed_in_range 0 n k (omega arith) (omega arith)) refl))

-- the bytes of a taken frame change: what the view and the invariant are then
pub writes : (n t m : ℕ) (bs bs' : List ℕ) (link k : ℕ) (xs : List ℕ) → k < n → is_listed (free_list n t m bs link) k ≡ false → page bs' k ≡ xs
    → ((j : ℕ) → (j ≡ k → ⊥) → page bs' j ≡ page bs j)
    → (frames_of n bs' (free_list n t m bs' link) ≡ set (frames_of n bs (free_list n t m bs link)) k (Some xs)) × (IsChain m bs link → IsChain m bs' link)
    × (AreFrames n (free_list n t m bs link) → AreFrames n (free_list n t m bs' link))
writes n t m bs bs' link k xs lt out here there =
    let fresh = range_with_len t (n - t) in let o : (k < t) × (is_listed (chain m bs link) k ≡ false) = outside n t m bs link k lt out in
    let kept : (chain m bs' link ≡ chain m bs link) × (IsChain m bs link → IsChain m bs' link) = chain_kept m bs bs' link k o.1 there in
    let same : free_list n t m bs' link ≡ free_list n t m bs link = ap (λ (xs : List ℕ). xs ++ fresh) kept.0 in (
      ap (frames_of n bs') same ∙ frames_written n bs bs' (free_list n t m bs link) k xs lt out here there,
      kept.1,
      λ (h : AreFrames n (free_list n t m bs link)). subst (AreFrames n) (sym same) h,
    )

-- the prefix of such a list
pub prefix_frames : (n : ℕ) (xs ys : List ℕ) → AreFrames n (xs ++ ys) → AreFrames n xs
prefix_frames n [] ys h = tt
prefix_frames n (x ∷ xs) ys h = (h.0, (beside xs ys x h.1).0, prefix_frames n xs ys h.2)
