-- The fields of a `Pages`.
use Rattle.std.specs.Prelude.{◌≡◌, ◌*◌, ◌≤◌, List, ℕ, length}
use Rattle.gq_pages.specs.declared.pages.Pages.TheInside.{Inside}
use Rattle.gq_pages.specs.Frame_map.{Frames}
use Rattle.gq_pages.specs.internal.Region_layout.{AreFrames, frames_of, free_list, IsChain}

abbrev pub free_frames : Inside → List ℕ
free_frames p = free_list p.frames p.touched p.chained p.region.bytes p.first

abbrev pub pages_view : Inside → Frames
pages_view p = frames_of p.frames p.region.bytes (free_frames p)

pub record IsPages (p : Inside) : Type 0 where
  pub few : p.frames ≤ 16384
  pub touched : p.touched ≤ p.frames
  pub room : p.region.size ≡ p.frames * 4096
  pub size : length p.region.bytes ≡ p.touched * 4096
  pub links : IsChain p.chained p.region.bytes p.first
  pub free : AreFrames p.frames (free_frames p)
