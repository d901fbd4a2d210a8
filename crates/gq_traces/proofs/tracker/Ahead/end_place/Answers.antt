-- The place of the end of a list of statements.
use Rattle.std.proofs.Common.{◌∙◌, [], drop}
use Rattle.gq_traces.proofs.Position_after_step.{end_here, entry_there, innermost_within, loop_here}
use Rattle.gq_traces.proofs.tracker.Ahead.end_place.Goals as goal

pub entry_place-requires : goal.entry_place-requires
entry_place-requires c =
    innermost_within c.args.numbered.now.entries.items c.args.self.now c.args.self.now [] c.requires.stands.ahead c.requires.stands.is c.requires.next
    c.in-Some.innermost (drop 1 c.args.self.now.loops.items) c.in-Some.ensures.some

pub returns-in-Some : goal.returns-in-Some
returns-in-Some c d t program h =
    let es = c.args.numbered.now.entries.items in
    let r = c.in-Some.innermost in
    let rest = drop 1 c.args.self.now.loops.items in
    let e = entry_there es r.place (innermost_within es c.args.self.now c.args.self.now [] t h c.requires.next r rest c.in-Some.ensures.some) in
    c.entry_place.ensures e.0 e.1 ∙ loop_here es c.args.self.now d c.args.section t h c.requires.next r rest c.in-Some.ensures.some e.0 e.1

pub returns-in-None : goal.returns-in-None
returns-in-None c d t program h =
    end_here c.args.numbered.now.entries.items c.args.self.now d c.args.section t h c.requires.next c.in-None.ensures.none c.from.result
    (c.from.ensures ∙ (c.part.ensures d.node.program.sections program).size)
