-- The entry stands behind all others.
use Rattle.std.proofs.Common.{arith, refl, ◌∙◌}
use Rattle.gq_traces.proofs.Numbered_program_entries.{entry_put}
use Rattle.gq_traces.proofs.numbered_program.NumberedProgram.put_entry.Goals as goal

pub returns : goal.returns
returns c =
    let some = c.requires in
    entry_put c.args.self.now _ c.args.way c.len-place.result _ (c.len-place.ensures ∙ c.args.self.now.entries.ok.0) c.in_ok-push-2.ensures.items (omega
    (arith, some)) refl refl
