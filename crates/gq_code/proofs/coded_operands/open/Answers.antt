use Rattle.std.proofs.Common.{ℕ, List, ◌∙◌, false}
use Rattle.std.proofs.lemmas.Result.{err_from_is_err_and}
use Rattle.gq_model.specs.declared.program.OperandSlot.{OperandSlot}
use Rattle.gq_model.specs.declared.program.Instruction.TheVariants.{Open}
use Rattle.gq_model.specs.texts.Operands.{greatest_number}
use Rattle.gq_model.specs.texts.Spelling.{Shape, Made, Number, Service}
use Rattle.gq_code.proofs.Operand_parts.{slot_ok, service_ok, service_err, number_ok, number_err}
use Rattle.gq_code.proofs.coded_operands.open.Goals as goal

abbrev given : OperandSlot → List ℕ → Shape
given place service = Number 4 0 greatest_number (λ donation. Made (Open place service donation))

abbrev named : OperandSlot → Shape
named place = Service (given place)

pub returns-in_err-service-clause-read : goal.returns-in_err-service-clause-read
returns-in_err-service-clause-read c =
    let p = err_from_is_err_and c.from_residual-in_err-service.result c.from_residual-in_err-service.ensures.1 in
    rw (p.1, p.2) (slot_ok false named c.args.bytes.now c.in_ok-place.rest.now c.in_ok-place.place c.in_ok-place.ensures.place ∙
    service_err (given c.in_ok-place.place) c.in_ok-place.rest.now c.in_err-service.field-0.0 c.in_err-service.ensures.name)

pub returns-in_err-donation-clause-read : goal.returns-in_err-donation-clause-read
returns-in_err-donation-clause-read c =
    let p = err_from_is_err_and c.from_residual-in_err-donation.result c.from_residual-in_err-donation.ensures.1 in
    rw (p.1, p.2) (slot_ok false named c.args.bytes.now c.in_ok-place.rest.now c.in_ok-place.place c.in_ok-place.ensures.place ∙
    (service_ok (given c.in_ok-place.place) c.in_ok-place.rest.now c.in_ok-service.rest.now c.in_ok-service.service c.in_ok-service.ensures.name ∙
    number_err 4 0 greatest_number (λ donation. Made (Open c.in_ok-place.place c.in_ok-service.service donation)) c.in_ok-service.rest.now
    c.in_err-donation.field-0.0 c.in_err-donation.ensures.number))

pub returns-clause-read : goal.returns-clause-read
returns-clause-read c =
    slot_ok false named c.args.bytes.now c.in_ok-place.rest.now c.in_ok-place.place c.in_ok-place.ensures.place ∙
    (service_ok (given c.in_ok-place.place) c.in_ok-place.rest.now c.in_ok-service.rest.now c.in_ok-service.service c.in_ok-service.ensures.name ∙
    number_ok 4 0 greatest_number (λ donation. Made (Open c.in_ok-place.place c.in_ok-service.service donation)) c.in_ok-service.rest.now
    c.in_ok-donation.rest.now c.in_ok-donation.donation c.in_ok-donation.ensures.number)
