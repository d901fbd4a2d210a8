-- The server waits for requests, and the client goes on.
use Rattle.std.specs.Prelude.{◌+◌, ◌<◌, ◌^◌, slice_set}
use Rattle.gq_leaf.specs.Coded.{Coded}
use Rattle.gq_machine.proofs.Section_end_reply.{both_set, of_item, of_other}
use Rattle.gq_machine.proofs.section_replies.go_on.Goals as goal

pub serve-requires : goal.serve-requires
serve-requires c =
    let ls = c.args.leaves.now.items in
    let x = c.args.server in
    let P : Coded → Type 0 = λ l. l.state.steps + 1 < 2 ^ 64 in
    of_item P (slice_set ls c.args.client c.resume.new.self) x c.index_mut-serving.result.now
    (of_other P ls x c.args.client c.resume.new.self c.requires.apart c.requires.countable) c.index_mut-serving.ensures.value

pub returns : goal.returns
returns c l d el ed =
    both_set (λ ops. ops) c.args.leaves.now.items c.args.server c.args.client l d c.index_mut-waiting.result.now c.resume.new.self
    c.index_mut-serving.result.now c.serve.new.self c.requires.apart el ed c.index_mut-waiting.ensures.value c.resume.ensures
    c.index_mut-serving.ensures.value c.serve.ensures
