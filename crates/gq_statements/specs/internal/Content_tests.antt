-- What is asked of the contents in slots.
use Rattle.std.specs.Prelude.{ℕ, ◌==◌, ◌&&◌, ◌||◌, not, Bool, true, false, List, [], ◌∷◌}
use Rattle.gq_contents.specs.declared.content.Content.{Content}
use Rattle.gq_contents.specs.declared.content.Content.TheVariants.{Empty, Block, Slice, Space, Pool, Link, Waiting}

abbrev pub is_empty : Content → Bool
is_empty Empty = true
is_empty (Block p n) = false
is_empty (Slice k n) = false
is_empty (Space k n) = false
is_empty (Pool p) = false
is_empty (Link k) = false
is_empty (Waiting k) = false

abbrev pub are_empty : List Content → Bool
are_empty [] = true
are_empty (t ∷ ts) = is_empty t && are_empty ts

-- a space of n bytes
abbrev pub is_space_of : ℕ → Content → Bool
is_space_of n Empty = false
is_space_of n (Block p m) = false
is_space_of n (Slice k m) = false
is_space_of n (Space k m) = m == n
is_space_of n (Pool p) = false
is_space_of n (Link k) = false
is_space_of n (Waiting k) = false

-- no buffer is shared, or the content is a space of its n bytes
abbrev pub fits : ℕ → Content → Bool
fits n t = (n == 0) || is_space_of n t

abbrev pub is_link : Content → Bool
is_link Empty = false
is_link (Block p n) = false
is_link (Slice k n) = false
is_link (Space k n) = false
is_link (Pool p) = false
is_link (Link k) = true
is_link (Waiting k) = false

-- none of these is a link
abbrev pub has_no_link : List Content → Bool
has_no_link [] = true
has_no_link (t ∷ ts) = not (is_link t) && has_no_link ts
