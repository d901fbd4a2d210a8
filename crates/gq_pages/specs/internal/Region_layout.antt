-- How the frames lie in the region.
use Rattle.std.specs.Prelude.{◌≡◌, ℕ, zero, suc, ◌-◌, ◌*◌, ◌<◌, List, [], ◌∷◌, ◌++◌, Option, Some, None, Bool, false, cond, ◌==◌, ◌||◌, map, take, drop}
use Rattle.std.specs.List.{range_with_len}
use Rattle.gq_pages.specs.Frame_bytes.{word_at}
use Rattle.gq_pages.specs.Frame_map.{Frames}

-- k is in the list
abbrev pub is_listed : List ℕ → ℕ → Bool
is_listed [] k = false
is_listed (x ∷ xs) k = (x == k) || is_listed xs k

-- the list has numbers below n, each once
abbrev pub AreFrames : ℕ → List ℕ → Type 0
AreFrames n [] = Unit {0}
AreFrames n (x ∷ xs) = (x < n) × (is_listed xs x ≡ false) × AreFrames n xs

-- the bytes of the frame k, none where they were never written
unfoldable pub page : List ℕ → ℕ → List ℕ
page bs k = take 4096 (drop (k * 4096) bs)

-- the frame k, where the listed ones are free
unfoldable pub frame_at : List ℕ → List ℕ → ℕ → Option (List ℕ)
frame_at bs free k = cond (is_listed free k) None (Some (page bs k))

-- all n frames
unfoldable pub frames_of : ℕ → List ℕ → List ℕ → Frames
frames_of n bs free = map (frame_at bs free) (range_with_len 0 n)

-- the free frames, each linked to the next by the word that its bytes begin with: its number and one, or 0 at the end
abbrev pub chain : ℕ → List ℕ → ℕ → List ℕ
chain zero bs link = []
chain (suc m) bs link = (link - 1) ∷ chain m bs (word_at (page bs (link - 1)) 0)

-- the chain has m links, and then a 0
abbrev pub IsChain : ℕ → List ℕ → ℕ → Type 0
IsChain zero bs link = link ≡ 0
IsChain (suc m) bs link = (0 < link) × IsChain m bs (word_at (page bs (link - 1)) 0)

-- the free frames: those in the chain, and those from touched on, which were never handed out
abbrev pub free_list : ℕ → ℕ → ℕ → List ℕ → ℕ → List ℕ
free_list n touched m bs link = chain m bs link ++ range_with_len touched (n - touched)
