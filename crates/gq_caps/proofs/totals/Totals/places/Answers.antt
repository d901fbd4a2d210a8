use Rattle.gq_tariff.specs.declared.class.Class.TheVariants.{Bytes16, Bytes32, Bytes64, Bytes128, Bytes256, Bytes512, Bytes1024, Bytes2048}
use Rattle.gq_caps.specs.declared.totals.Measure.TheVariants.{Places}
use Rattle.gq_caps.proofs.totals.Totals.places.Goals as goal

pub returns-in-Bytes16-clause-small : goal.returns-in-Bytes16-clause-small
returns-in-Bytes16-clause-small c = c.requires (Places Bytes16)

pub returns-in-Bytes32-clause-small : goal.returns-in-Bytes32-clause-small
returns-in-Bytes32-clause-small c = c.requires (Places Bytes32)

pub returns-in-Bytes64-clause-small : goal.returns-in-Bytes64-clause-small
returns-in-Bytes64-clause-small c = c.requires (Places Bytes64)

pub returns-in-Bytes128-clause-small : goal.returns-in-Bytes128-clause-small
returns-in-Bytes128-clause-small c = c.requires (Places Bytes128)

pub returns-in-Bytes256-clause-small : goal.returns-in-Bytes256-clause-small
returns-in-Bytes256-clause-small c = c.requires (Places Bytes256)

pub returns-in-Bytes512-clause-small : goal.returns-in-Bytes512-clause-small
returns-in-Bytes512-clause-small c = c.requires (Places Bytes512)

pub returns-in-Bytes1024-clause-small : goal.returns-in-Bytes1024-clause-small
returns-in-Bytes1024-clause-small c = c.requires (Places Bytes1024)

pub returns-in-Bytes2048-clause-small : goal.returns-in-Bytes2048-clause-small
returns-in-Bytes2048-clause-small c = c.requires (Places Bytes2048)
