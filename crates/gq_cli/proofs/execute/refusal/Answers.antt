-- The scenario is refused, and the turns were read to their end.
use Rattle.std.proofs.Common.{rules}
use Rattle.std.proofs.lemmas.List.{places}
use Rattle.gq_cli.proofs.Command_refusal_reasons.{reported_refuses}
use Rattle.gq_cli.proofs.execute.refusal.Goals as goal

pub returns-clause-refused : goal.returns-clause-refused
returns-clause-refused g c known = record {
  text = c.in-Ok.field-0.items;
  read = record { taken = c.in-Ok.ensures.bytes; end = c.in-Ok.ensures.end; size = search (rules, places) };
  so = reported_refuses c.args.fault c.args.scenario.now c.in-Ok.field-0.items c.reported.result c.requires c.reported.ensures;
}
