-- Past the end of a body.
use Rattle.std.proofs.Common.{◌∙◌, [], Some, ap, arith, drop, get_or, length, List, subst, sym}
use Rattle.gq_traces.specs.declared.tracker.Round.{Round}
use Rattle.std.proofs.lemmas.Option.{slice_get-get_or}
use Rattle.gq_traces.specs.internal.Flat.{IsLoop}
use Rattle.gq_traces.proofs.Position_after_step.{innermost_loop, innermost_within, pass_out, pass_round}
use Rattle.gq_traces.proofs.tracker.Ahead.pass_body.Goals as goal

pub index-requires : goal.index-requires
index-requires c =
    let entries = c.args.numbered.now.entries in
    let s = c.requires.stands in
    let within = innermost_within entries.items c.args.self.now c.args.self.now [] s.ahead s.is c.requires.next c.args.innermost
    (drop 1 c.args.self.now.loops.items) c.requires.innermost in
    let long = entries.ok.0 in
    omega (arith, within, long)

pub go_round-requires-clause-some : goal.go_round-requires-clause-some
go_round-requires-clause-some c = let long = ap length c.requires.innermost in omega (arith, long)

pub go_round-requires-clause-low : goal.go_round-requires-clause-low
go_round-requires-clause-low c =
    let at = ap (λ (l : List Round). (get_or l 0 (record { place = 0; round = 0 })).round) c.requires.innermost in
    let low = c.has_round.ensures.low c.if-has_round.true in
    omega (arith, at, low)

pub leave-requires : goal.leave-requires
leave-requires c = let long = ap length c.requires.innermost in record { some = omega (arith, long) }

pub returns-in-Plain : goal.returns-in-Plain
returns-in-Plain c operands t h =
    let es = c.args.numbered.now.entries.items in
    let rest = drop 1 c.args.self.now.loops.items in
    let within = innermost_within es c.args.self.now c.args.self.now operands t h c.requires.next c.args.innermost rest c.requires.innermost in
    let there = slice_get-get_or es c.args.innermost.place c.index.result.now within ∙ ap Some (sym c.index.ensures) in
    absurd (subst (IsLoop (λ m b n. Unit {0})) c.in-Plain.is
    (innermost_loop es c.args.self.now c.args.self.now operands t h c.requires.next c.args.innermost rest c.requires.innermost c.index.result.now there))

pub returns-in-If : goal.returns-in-If
returns-in-If c operands t h =
    let es = c.args.numbered.now.entries.items in
    let rest = drop 1 c.args.self.now.loops.items in
    let within = innermost_within es c.args.self.now c.args.self.now operands t h c.requires.next c.args.innermost rest c.requires.innermost in
    let there = slice_get-get_or es c.args.innermost.place c.index.result.now within ∙ ap Some (sym c.index.ensures) in
    absurd (subst (IsLoop (λ m b n. Unit {0})) c.in-If.is
    (innermost_loop es c.args.self.now c.args.self.now operands t h c.requires.next c.args.innermost rest c.requires.innermost c.index.result.now there))

pub returns-then-has_round : goal.returns-then-has_round
returns-then-has_round c operands t h =
    let es = c.args.numbered.now.entries.items in
    let rest = drop 1 c.args.self.now.loops.items in
    let within = innermost_within es c.args.self.now c.args.self.now operands t h c.requires.next c.args.innermost rest c.requires.innermost in
    let there = slice_get-get_or es c.args.innermost.place c.index.result.now within ∙ ap Some (sym c.index.ensures) in
    pass_round es c.args.self.now c.go_round.new.self operands t h c.requires.next c.args.innermost rest c.requires.innermost c.index.result.now there
    c.in-Loop.count c.in-Loop.body c.in-Loop.next c.in-Loop.is (sym c.has_round.ensures.more ∙ c.if-has_round.true) c.go_round.ensures.next
    c.go_round.ensures.loops

pub returns-else-has_round : goal.returns-else-has_round
returns-else-has_round c operands t h =
    let es = c.args.numbered.now.entries.items in
    let rest = drop 1 c.args.self.now.loops.items in
    let within = innermost_within es c.args.self.now c.args.self.now operands t h c.requires.next c.args.innermost rest c.requires.innermost in
    let there = slice_get-get_or es c.args.innermost.place c.index.result.now within ∙ ap Some (sym c.index.ensures) in
    pass_out es c.args.self.now c.leave.new.self operands t h c.requires.next c.args.innermost rest c.requires.innermost c.index.result.now there
    c.in-Loop.count c.in-Loop.body c.in-Loop.next c.in-Loop.is (sym c.has_round.ensures.more ∙ c.if-has_round.false) c.leave.ensures.next
    c.leave.ensures.loops
