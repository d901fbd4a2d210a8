use Rattle.std.proofs.Common.{◌∙◌, max, ap, arith}
use Rattle.std.proofs.lemmas.Slice.Zip.{Zip-more, either_empty_from_Zip}
use Rattle.std.specs.Slice.Iter.{iter_rest}
use Rattle.std.specs.Iterator.Adapters.{zip_first, zip_second}
use Rattle.gq_model.specs.machine.Amounts.{Ram}
use Rattle.gq_model.specs.rules.Kinds.{Subject}
use Rattle.gq_sizes.specs.Size.{leaf_needed}
use Rattle.gq_sizes.proofs.Provider_maximum_search.{needed_none, needed_next}
use Rattle.gq_sizes.proofs.needs.needed_ram.Goals as goal

pub loop-component-preserved : goal.loop-component-preserved
loop-component-preserved c =
    let s = c.loop-component.component-iterator in
    let t = c.next.new.self in
    let m = Zip-more s t c.next.result (c.in-Some.component, c.in-Some.verified) c.in-Some.is c.next.ensures.steps in
    let needed = λ (v : Subject). leaf_needed (λ _ _. 0) Ram v c.args.interface.now c.args.level in
    needed_next needed c.args.service.now (iter_rest (zip_first s)) (iter_rest (zip_first t)) (iter_rest (zip_second s)) (iter_rest (zip_second t))
    c.in-Some.component.now c.in-Some.verified.now c.loop-component.most c.max-most.result _ m.0 m.1
    (c.max-most.ensures ∙ ap (max c.loop-component.most) c.provider_ram-needed.ensures) c.loop-component.invariant

pub returns : goal.returns
returns c =
    let s = c.loop-component.component-iterator in
    let m = either_empty_from_Zip s c.next.new.self c.next.result c.in-None.is c.next.ensures.steps in
    let needed = λ (v : Subject). leaf_needed (λ _ _. 0) Ram v c.args.interface.now c.args.level in
    let none = needed_none needed c.args.service.now (iter_rest (zip_first s)) (iter_rest (zip_second s)) m in
    let whole = c.loop-component.invariant in
    omega (arith, none, whole)
