-- What the rules for programs know of a slot.
use Rattle.std.specs.Prelude.{List, map}
use Rattle.gq_model.specs.declared.program.Form.TheVariants as form
use Rattle.gq_model.specs.rules.Kinds as kinds
use Rattle.gq_caps.specs.Known_links.{link_known}
use Rattle.gq_caps.specs.declared.kind.Kind.{Kind}
use Rattle.gq_caps.specs.declared.kind.Kind.TheVariants.{Empty, Waiting, Block, Slice, Space, Pool, Link}

-- the rules judge programs between requests, when no slot waits: to them such a slot holds nothing
abbrev pub known : Kind → kinds.Kind
known Empty = kinds.Empty_kind
known Waiting = kinds.Empty_kind
known (Block n) = kinds.Memory form.Block n
known (Slice n) = kinds.Memory form.Slice n
known (Space n) = kinds.Memory form.Space n
known (Pool n m) = kinds.Pool_kind n m
known (Link l) = link_known l

abbrev pub all_known : List Kind → List kinds.Kind
all_known = map known
