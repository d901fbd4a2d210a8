-- The fields of a `Region`.
use Rattle.std.specs.Prelude.{◌≡◌, ◌+◌, ◌*◌, ◌/◌, ◌%◌, ◌^◌, ◌<◌, ◌≤◌, ℕ, List, length, get_or}
use Rattle.gq_pages.specs.declared.region.Region.TheInside.{Inside}

-- what a block of memory has: the bytes at its start that were written so far, and room for so many in all
pub record Contents : Type 0 where
  pub bytes : List ℕ
  pub size : ℕ

abbrev pub contents : Inside → Contents
contents r = record { bytes = r.cells.bytes; size = r.size }

-- of each page the bytes from its mark on are 0
abbrev pub AreClean : List ℕ → List ℕ → Type 0
AreClean bytes marks = (i : ℕ) → i < length bytes → get_or marks (i / 4096) 0 ≤ i % 4096 → get_or bytes i 0 ≡ 0

-- the pointer, the bytes, the room after them and the right to free them belong together
pub record IsRegion (r : Inside) : Type 0 where
  pub at : r.cells.at ≡ r.at
  pub whole : length r.cells.bytes + r.cells.room ≡ r.size
  pub heap : r.lease.alloc ≡ r.alloc
  pub leased : r.lease.at ≡ r.at
  pub leased_size : r.lease.size ≡ r.size
  pub small : r.size < 2 ^ 63
  pub pages : r.size < length r.marks.items * 4096
  pub clean : AreClean r.cells.bytes r.marks.items
