use Rattle.std.proofs.Common.{◌≡◌, drop}
use Rattle.gq_model.specs.texts.Decode.{sections_at}
use Rattle.gq_code.specs.internal.Bodies.{after_sections}
use Rattle.gq_code.proofs.decode.sections.Given as goal

-- the sections so far, with those that are left, are all
abbrev pub invariant-loop-name : goal.invariant-loop-name
invariant-loop-name l =
    after_sections l.sections.items (sections_at (drop l.name-index l.order) l.bits l.count l.left) ≡ sections_at l.order l.present 0 l.bytes
