use Rattle.std.proofs.Common.{◌∙◌, ap, map}
use Rattle.std.proofs.lemmas.Simd.{map-map}
use Rattle.gq_model.specs.rules.Use.{services_in}
use Rattle.gq_resolve.proofs.resolved.resolve_components.Goals as goal

pub resolve_opened-requires-clause-opened : goal.resolve_opened-requires-clause-opened
resolve_opened-requires-clause-opened c =
    ap (map (λ v. v.items)) c.as_slice.ensures.value
    ∙ (c.in_ok-opened.ensures
    ∙ (ap (map (λ p. services_in p.sections)) c.requires.programs
    ∙ map-map (λ p. services_in p.sections) (λ d. d.node.program) c.args.components.now))
