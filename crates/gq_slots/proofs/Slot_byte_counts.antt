-- How many bytes a slot reads as.
use Rattle.std.proofs.Common.{◌≡◌, length, refl}
use Rattle.gq_tariff.specs.Prices.{up}
use Rattle.gq_store.specs.Store.{Store}
use Rattle.gq_store.proofs.Stored_byte_lists.{length-listed}
use Rattle.gq_contents.specs.declared.content.Content.{Content}
use Rattle.gq_contents.specs.declared.content.Content.TheVariants.{Empty, Block, Slice, Space, Pool, Link, Waiting}
use Rattle.gq_contents.specs.Contents.{bytes_in, seen, size_of}

-- it has as many bytes as it says
pub length_seen : (st : Store) (t : Content) → length (bytes_in (seen st t)) ≡ size_of t
length_seen st Empty = refl
length_seen st (Block p n) = length-listed n _
length_seen st (Slice k n) = length-listed n _
length_seen st (Space k n) = length-listed (up n) _
length_seen st (Pool p) = refl
length_seen st (Link k) = refl
length_seen st (Waiting k) = refl
