-- What a contract sees of a `Pages`: for each frame its bytes, or None where it is free.
use Rattle.std.specs.Prelude.{◌≡◌, ◌<◌, length, ℕ, List, [], Option, Some, None, Bool, true, false, not, replicate, get_or, IsTrue}
use Rattle.std.specs.List.{count_by}
use Rattle.gq_pages.specs.Frame_bytes.{zeros}

abbrev pub Frames : Type 0
Frames = List (Option (List ℕ))

-- n free frames
unfoldable pub all_free : ℕ → Frames
all_free n = replicate n None

-- the bytes of a frame that was just taken
unfoldable pub zero_frame : List ℕ
zero_frame = zeros 4096

abbrev pub has_bytes : Option (List ℕ) → Bool
has_bytes None = false
has_bytes (Some bs) = true

abbrev pub its_bytes : Option (List ℕ) → List ℕ
its_bytes None = []
its_bytes (Some bs) = bs

-- there is a frame k, and it is taken
abbrev pub IsTaken : Frames → ℕ → Type 0
IsTaken fs k = IsTrue (has_bytes (get_or fs k None))

-- there is a frame k, and it is free
abbrev pub IsFree : Frames → ℕ → Type 0
IsFree fs k = (k < length fs) × (get_or fs k None ≡ None)

-- the bytes of the frame k
abbrev pub bytes_of : Frames → ℕ → List ℕ
bytes_of fs k = its_bytes (get_or fs k None)

-- how many frames are free
abbrev pub count_free : Frames → ℕ
count_free fs = count_by (λ f. not (has_bytes f)) fs
