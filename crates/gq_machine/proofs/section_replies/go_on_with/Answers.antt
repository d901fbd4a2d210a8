-- The server waits for requests, and the client goes on with the result of its call.
use Rattle.std.specs.Prelude.{◌+◌, ◌<◌, ◌^◌, ◌∷◌, length, slice_set}
use Rattle.gq_leaf.specs.Coded.{Coded}
use Rattle.gq_machine.proofs.Section_end_reply.{both_set, of_item, of_other}
use Rattle.gq_machine.proofs.section_replies.go_on_with.Goals as goal

pub resume_with-requires : goal.resume_with-requires
resume_with-requires c =
    of_item (λ l. length l.state.registers.operands < 16) c.args.leaves.now.items c.args.client c.index_mut-waiting.result.now c.requires.room
    c.index_mut-waiting.ensures.value

pub serve-requires : goal.serve-requires
serve-requires c =
    let ls = c.args.leaves.now.items in
    let x = c.args.server in
    let P : Coded → Type 0 = λ l. l.state.steps + 1 < 2 ^ 64 in
    of_item P (slice_set ls c.args.client c.resume_with.new.self) x c.index_mut-serving.result.now
    (of_other P ls x c.args.client c.resume_with.new.self c.requires.apart c.requires.countable) c.index_mut-serving.ensures.value

pub returns : goal.returns
returns c l d el ed =
    both_set (λ ops. c.args.value ∷ ops) c.args.leaves.now.items c.args.server c.args.client l d c.index_mut-waiting.result.now c.resume_with.new.self
    c.index_mut-serving.result.now c.serve.new.self c.requires.apart el ed c.index_mut-waiting.ensures.value c.resume_with.ensures
    c.index_mut-serving.ensures.value c.serve.ensures
