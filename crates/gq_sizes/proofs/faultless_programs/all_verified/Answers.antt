use Rattle.std.proofs.lemmas.Slice.Zip.{Zip-more, either_empty_from_Zip}
use Rattle.std.specs.Slice.Iter.{iter_rest}
use Rattle.std.specs.Iterator.Adapters.{zip_first, zip_second}
use Rattle.gq_sizes.specs.Needing.{subjects_by}
use Rattle.gq_sizes.proofs.Judged_leaf_subjects.{all_made, breaks_now, none_more, one_more}
use Rattle.gq_sizes.proofs.faultless_programs.all_verified.Goals as goal

pub verified-requires : goal.verified-requires
verified-requires c =
    let s = c.loop-component.component-iterator in
    let t = c.next.new.self in
    let m = Zip-more s t c.next.result (c.in-Some.component, c.in-Some.program) c.in-Some.is c.next.ensures.steps in
    (breaks_now c.args.interfaces.now (iter_rest (zip_first s)) (iter_rest (zip_first t)) (iter_rest (zip_second s)) (iter_rest (zip_second t))
    c.in-Some.component.now c.in-Some.program.now m.0 m.1 c.loop-component.invariant.right).0

pub loop-component-preserved : goal.loop-component-preserved
loop-component-preserved c =
    let s = c.loop-component.component-iterator in
    let t = c.next.new.self in
    let m = Zip-more s t c.next.result (c.in-Some.component, c.in-Some.program) c.in-Some.is c.next.ensures.steps in
    record {
      made =
          one_more c.args.interfaces.now c.loop-component.leaves.items c.push.new.self.items
          (subjects_by c.args.interfaces.now c.args.components.now c.args.programs.now) (iter_rest (zip_first s)) (iter_rest (zip_first t))
          (iter_rest (zip_second s)) (iter_rest (zip_second t)) c.in-Some.component.now c.in-Some.program.now c.verified.result m.0 m.1
          c.in_ok-push.ensures.items c.verified.ensures c.loop-component.invariant.made;
      right =
          (breaks_now c.args.interfaces.now (iter_rest (zip_first s)) (iter_rest (zip_first t)) (iter_rest (zip_second s)) (iter_rest (zip_second t))
          c.in-Some.component.now c.in-Some.program.now m.0 m.1 c.loop-component.invariant.right).1;
    }

pub returns : goal.returns
returns c =
    let s = c.loop-component.component-iterator in
    let m = either_empty_from_Zip s c.next.new.self c.next.result c.in-None.is c.next.ensures.steps in
    let xs = iter_rest (zip_first s) in
    let ys = iter_rest (zip_second s) in
    all_made c.loop-component.leaves.items (subjects_by c.args.interfaces.now xs ys)
    (subjects_by c.args.interfaces.now c.args.components.now c.args.programs.now) (none_more c.args.interfaces.now xs ys m) c.loop-component.invariant.made
