use Rattle.std.proofs.Common.{◌∙◌, sym}
use Rattle.std.proofs.lemmas.Slice.Zip.{Zip-more, either_empty_from_Zip}
use Rattle.std.specs.Slice.Iter.{iter_rest}
use Rattle.std.specs.Iterator.Adapters.{zip_first, zip_second}
use Rattle.gq_sizes.specs.Endless.{leaf_holds}
use Rattle.gq_sizes.specs.Passing.{passing}
use Rattle.gq_sizes.proofs.Any_test_search.{held_end, held_here, held_next}
use Rattle.gq_sizes.proofs.endless.holds.Goals as goal

pub returns-then-provider_holds : goal.returns-then-provider_holds
returns-then-provider_holds c =
    let s = c.loop-component.component-iterator in
    let t = c.next.new.self in
    let m = Zip-more s t c.next.result (c.in-Some.component, c.in-Some.verified) c.in-Some.is c.next.ensures.steps in
    let test = passing c.args.sessions.now.interfaces.now c.args.sessions.now.tests.now in
    held_here (λ v. leaf_holds test v c.args.level) c.args.service.now (iter_rest (zip_first s)) (iter_rest (zip_second s)) _
    (iter_rest (zip_first t)) (iter_rest (zip_second t)) c.in-Some.component.now c.in-Some.verified.now m.0 m.1
    (sym c.provider_holds.ensures ∙ c.if-provider_holds.true) c.loop-component.invariant

pub loop-component-preserved : goal.loop-component-preserved
loop-component-preserved c =
    let s = c.loop-component.component-iterator in
    let t = c.next.new.self in
    let m = Zip-more s t c.next.result (c.in-Some.component, c.in-Some.verified) c.in-Some.is c.next.ensures.steps in
    let test = passing c.args.sessions.now.interfaces.now c.args.sessions.now.tests.now in
    held_next (λ v. leaf_holds test v c.args.level) c.args.service.now (iter_rest (zip_first s)) (iter_rest (zip_second s)) _
    (iter_rest (zip_first t)) (iter_rest (zip_second t)) c.in-Some.component.now c.in-Some.verified.now m.0 m.1
    (sym c.provider_holds.ensures ∙ c.if-provider_holds.false) c.loop-component.invariant

pub returns : goal.returns
returns c =
    let s = c.loop-component.component-iterator in
    let m = either_empty_from_Zip s c.next.new.self c.next.result c.in-None.is c.next.ensures.steps in
    let test = passing c.args.sessions.now.interfaces.now c.args.sessions.now.tests.now in
    held_end (λ v. leaf_holds test v c.args.level) c.args.service.now (iter_rest (zip_first s)) (iter_rest (zip_second s)) _ m c.loop-component.invariant
