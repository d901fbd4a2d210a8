use Rattle.std.proofs.Common.{◌∙◌, ap, map, subst}
use Rattle.gq_model.specs.machine.Scenario.{system}
use Rattle.gq_model.specs.rules.Use.{subject}
use Rattle.gq_sizes.specs.Endless.{first_endless}
use Rattle.gq_sizes.specs.Needing.{AreLow}
use Rattle.gq_sizes.specs.Point_maxima.{given_in}
use Rattle.gq_sizes.specs.Saturated_tables.{AreOf}
use Rattle.gq_sizes.proofs.Donated_lists.{leaves_donated, needed_is}
use Rattle.gq_sizes.proofs.Sized_texts.{leaves_are, right_programs}
use Rattle.gq_sizes.proofs.donations.donations_of.Goals as goal

pub all_verified-requires : goal.all_verified-requires
all_verified-requires c =
    right_programs c.args.free.now c.interfaces-interfaces.result.now c.args.components.now c.as_slice.result.now c.requires.faultless
    c.interfaces-interfaces.ensures c.requires.components (c.as_slice.ensures.value ∙ c.requires.programs)

-- the leaves are those of the scenario
are : (c : goal.After-drop-verified-2)
    → AreOf (system c.args.free.now) c.args.components.now c.in_ok-verified.verified.items c.args.free.now.interfaces
are c =
    leaves_are c.args.free.now c.interfaces-interfaces.result.now c.args.components.now c.as_slice.result.now c.in_ok-verified.verified.items
    c.interfaces-interfaces.ensures c.requires.components (c.as_slice.ensures.value ∙ c.requires.programs) c.in_ok-verified.ensures

pub returns-clause-endless : goal.returns-clause-endless
returns-clause-endless c =
    let all = system c.args.free.now in
    let same = c.interfaces-interfaces.ensures in
    let rows = c.as_slice-7.ensures.value ∙ c.in_ok-endless.ensures all
    (record { components = (are c).components; leaves = c.as_slice-4.ensures.value ∙ (are c).leaves; interfaces = same }) in
    c.first_endless.ensures all rows ∙ ap (first_endless all) same

pub returns-clause-leaves : goal.returns-clause-leaves
returns-clause-leaves c =
    let all = system c.args.free.now in
    let same = c.interfaces-interfaces.ensures in
    let ifs = c.interfaces-interfaces.result.now in
    let low : AreLow (map (subject all) all.components) = subst AreLow (c.as_slice-2.ensures.value ∙ (are c).leaves) c.levels_are_low.ensures in
    let rows = c.as_slice-5.ensures.value ∙ c.in_ok-needs.ensures all (are c).components (c.as_slice-3.ensures.value ∙ (are c).leaves) in
    c.in_ok-all_donations.ensures
    ∙ leaves_donated (given_in ifs c.as_slice-5.result.now) all c.as_slice-6.result.now (needed_is all low ifs c.as_slice-5.result.now same rows)
    (c.as_slice-6.ensures.value ∙ (are c).leaves)
