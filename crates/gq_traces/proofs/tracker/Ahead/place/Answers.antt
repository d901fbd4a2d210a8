-- The place of the next step.
use Rattle.std.proofs.Common.{◌∙◌}
use Rattle.gq_traces.proofs.Position_after_step.{entry_there, place_here, place_within}
use Rattle.gq_traces.proofs.tracker.Ahead.place.Goals as goal

pub entry_place-requires : goal.entry_place-requires
entry_place-requires c =
    place_within c.args.numbered.now.entries.items c.args.self.now.next c.in-Some.place c.requires.ahead.todo c.in-Some.is c.requires.is.reads

pub returns-in-Some : goal.returns-in-Some
returns-in-Some c d t program h =
    let es = c.args.numbered.now.entries.items in
    let e = entry_there es c.in-Some.place (place_within es c.args.self.now.next c.in-Some.place t.todo c.in-Some.is h.reads) in
    c.entry_place.ensures e.0 e.1 ∙ place_here es c.args.self.now d c.args.section t h c.in-Some.place c.in-Some.is e.0 e.1
