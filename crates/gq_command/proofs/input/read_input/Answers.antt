use Rattle.std.proofs.lemmas.Grind.{common_steps}
use Rattle.std.proofs.Common.{arith, ◌≡◌, ℕ, List, ◌-◌, min, rules, ◌++◌, ◌≤◌, length, take, length-append, length-take}
use Rattle.std.proofs.lemmas.List.{places}
use Rattle.std.proofs.KnownBytes.{Consumes-trans}
use Rattle.gq_command.proofs.input.read_input.Goals as goal

-- one more read of what there is room for
still_fits : (held room buffer : List ℕ) (asked taken size : ℕ) → length held ≡ size → size ≤ 18874369 → asked ≡ min 65536 (18874369 - size)
    → length room ≡ length (take asked buffer) → taken ≤ length room → length (held ++ take taken room) ≤ 18874369
still_fits held room buffer asked taken size a b d e h = omega (arith, length-append held (take taken room), length-take taken room, length-take asked buffer)

pub returns-in_err-extend_from_slice-clause-most :
    goal.returns-in_err-extend_from_slice-clause-most
returns-in_err-extend_from_slice-clause-most g c =
    let held = c.loop-buffer.input.items in
    let taken = take c.in_ok-taken.taken c.read_once.new.room in
    let size : length held ≡ c.len-in-loop-buffer.result = search (rules, places) in (
      held ++ taken,
      Consumes-trans _ _ _ held taken c.loop-buffer.invariant.held c.in_ok-taken.ensures.bytes.0,
      still_fits held c.read_once.new.room c.loop-buffer.buffer c.min-asked.result c.in_ok-taken.taken c.len-in-loop-buffer.result size
          (search (rules, places)) c.min-asked.ensures c.read_once.auto.room c.in_ok-taken.ensures.bound.0,
    )

pub loop-buffer-preserved : goal.loop-buffer-preserved
loop-buffer-preserved g c = grind (arith, common_steps)

pub loop-buffer-smaller : goal.loop-buffer-smaller
loop-buffer-smaller g c = search rules
