use Rattle.std.proofs.Common.{arith, ◌<◌, length, ◌++◌, [], ◌∷◌, Vec, Global, drop, get_or, ap, sym, ◌∙◌}
use Rattle.std.proofs.lemmas.List.{get_or_default}
use Rattle.gq_model.specs.machine.Program.{text_eq}
use Rattle.gq_model.specs.declared.section.Section.TheVariants.{Main}
use Rattle.gq_verify.specs.declared.asked.Asker.{Asker}
use Rattle.gq_verify.specs.Askers.{askers_of}
use Rattle.gq_verify.specs.Requested.{Requested}
use Rattle.gq_verify.proofs.Requests_list_ends.{put_here, put_past, put_all}
use Rattle.gq_verify.proofs.Requests_outside_range.{skipped, rest, not_asker}
use Rattle.gq_verify.proofs.asked.RequestCounts.put_askers.Goals as goal
use Rattle.gq_verify.proofs.asked.RequestCounts.put_askers.Goals.{then-is_of_at+in_ok-push, else-is_of_at}

pub loop-place-init : goal.loop-place-init
loop-place-init c =
    let v = c.args.service.now in
    ap (λ l. c.args.askers.now.items ++ l) (skipped v (askers_of v c.args.leaf c.args.part) (not_asker v c.args.leaf c.args.part) c.args.self.now
    c.range-first.result.0 c.range-first.result.1 c.range-first.ensures.outside)

pub loop-place-preserved : goal.loop-place-preserved
loop-place-preserved c =
    let less : c.loop-place.place < length c.args.self.now = omega (arith, c.loop-place-test.true, c.range-first.ensures.end) in
    let all = c.args.askers.now.items ++ askers_of c.args.service.now c.args.leaf c.args.part c.args.self.now in
    elim c.if-is_of_at.branch [
      | then-is_of_at+in_ok-push w ↦
          let a = w.entry_at-entry.result.now in
          let at = w.entry_at-entry.ensures a in
          let is = ap (λ (a : Requested). text_eq c.args.service.now a.service) at ∙ (sym (c.is_of_at.ensures a) ∙ w.if-is_of_at.true) in
          let asker : Requested → Asker = λ a. record { leaf = c.args.leaf; part = c.args.part; section = a.section; count = a.count } in
          let made = ap (λ (v : Vec Asker Global). v.items) w.askers-is ∙ (w.in_ok-push.ensures.items
          ∙ ap (λ (a : Requested). c.loop-place.askers.items ++ asker a ∷ []) w.entry.view_is) in
          put_here c.args.service.now c.args.leaf c.args.part c.args.self.now c.loop-place.place a c.loop-place.askers.items c.if-is_of_at.askers.items all
          less at is made c.loop-place.invariant
      | else-is_of_at w ↦
          let e : Requested = record { service = []; section = Main; count = 0 } in
          let made = ap (λ (v : Vec Asker Global). v.items) w.askers-is in
          let a = get_or c.args.self.now c.loop-place.place e in
          let left = askers_of c.args.service.now c.args.leaf c.args.part (drop c.loop-place.place c.args.self.now) in
          put_past c.args.service.now c.args.leaf c.args.part c.args.self.now c.loop-place.place a c.if-is_of_at.askers.items all less
          (get_or_default c.args.self.now c.loop-place.place e a less) (sym (c.is_of_at.ensures e) ∙ w.if-is_of_at.false)
          (ap (λ l. l ++ left) made ∙ c.loop-place.invariant)
    ]

pub returns : goal.returns
returns c =
    let v = c.args.service.now in
    let none = rest v (askers_of v c.args.leaf c.args.part) (not_asker v c.args.leaf c.args.part) c.args.self.now c.range-first.result.0
    c.range-first.result.1 c.loop-place.place c.range-first.ensures.outside c.loop-place-test.false in
    put_all v c.args.leaf c.args.part c.args.self.now c.loop-place.place c.loop-place.askers.items _ none c.loop-place.invariant
