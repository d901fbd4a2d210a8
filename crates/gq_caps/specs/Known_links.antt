-- What is known of a link.
use Rattle.std.specs.Prelude.{ℕ, List, take}
use Rattle.gq_model.specs.machine.Amounts as model
use Rattle.gq_model.specs.rules.Kinds as kinds
use Rattle.gq_caps.specs.declared.link.Link.{Link}

-- the name of the service
abbrev pub service_of : Link → List ℕ
service_of l = take l.length l.letters

-- the level of the session
abbrev pub level_of : Link → ℕ
level_of l = l.level

-- what was given for the session
abbrev pub given_of : Link → model.Amount
given_of l = model.amount l.ram l.caps

-- the kind of a slot that is the link
abbrev pub link_known : Link → kinds.Kind
link_known l = kinds.Link_kind (service_of l) (level_of l) (given_of l)
