-- What contracts see of a list store.
use Rattle.std.specs.Prelude.{get_or}
use Rattle.gq_store.specs.Store.{Store}
use Rattle.gq_list_store.specs.declared.ListStore.{ListStore}
use Rattle.gq_list_store.specs.Chunk_layout.{byte_at}

abbrev pub store_of : ListStore → Store
store_of s = record { byte = byte_at s.bytes.items s.sizes.items s.stride; size = λ k. get_or s.sizes.items k 0; left = s.left; caps = s.caps }

-- A list store is nothing beside its chunks.
abbrev pub Any : ListStore → ListStore → Type 0
Any a b = Unit {0}
