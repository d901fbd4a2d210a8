use Rattle.std.proofs.Common.{◌≡◌, ◌-◌, length, arith, refl, ap}
use Rattle.gq_pages.proofs.Frame_number_lists.{frames_range}
use Rattle.gq_pages.proofs.Free_frame_list.{frames_of_range}
use Rattle.gq_pages.proofs.pages.Pages.new.Goals as goal

pub invariant_of-result : goal.invariant_of-result
invariant_of-result c =
    let n = c.args.frames in let e : n - 0 ≡ n = omega arith in
    record {
      few = c.requires.1;
      touched = omega arith;
      room = c.in-Some.ensures.size;
      size = ap length c.in-Some.ensures.empty;
      links = refl;
      free = rw e (frames_range 0 n n (omega arith));
    }

pub returns : goal.returns
returns c = let e : c.args.frames - 0 ≡ c.args.frames = omega arith in rw e (frames_of_range c.args.frames c.in-Some.region.bytes)
