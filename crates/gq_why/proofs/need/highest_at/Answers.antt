use Rattle.std.proofs.Common.{◌∙◌, ap, option_map, sym}
use Rattle.gq_model.specs.machine.Amounts.{Ram, Caps}
use Rattle.gq_model.specs.machine.Program.{section_in}
use Rattle.gq_verify.proofs.Sections_by_name.{there_now}
use Rattle.gq_why.specs.First_maxima.{top_in}
use Rattle.gq_why.specs.declared.greatest_points.HighestSession.{HighestSession}
use Rattle.gq_why.proofs.Level_section_points.{goes_by, goes_none, goes_on}
use Rattle.gq_why.proofs.need.highest_at.Goals as goal
use Rattle.gq_why.proofs.need.highest_at.Goals.{then-is_of_level, else-is_of_level}

pub loop-section-init : goal.loop-section-init
loop-section-init c =
    let v = c.args.verified.now in
    let sections = c.sections-section-items in
    record {
      ram = goes_none Ram v c.args.level sections.result.now (option_map top_in c.new-highest.result.ram) c.new-highest.ensures.ram sections.ensures.sections;
      caps = goes_none Caps v c.args.level sections.result.now (option_map top_in c.new-highest.result.caps) c.new-highest.ensures.caps
          sections.ensures.sections;
      there = sections.ensures.there;
    }

pub loop-section-preserved : goal.loop-section-preserved
loop-section-preserved c =
    let l = c.loop-section in
    let v = c.args.verified.now in
    let level = c.args.level in
    let sections = c.sections-section-items.result.now in
    let i = l.section-index in
    let p = c.loop-section-item.result in
    let within = c.loop-section-test.true in
    let is = c.loop-section-item.is in
    let there = there_now sections sections i p within is l.invariant.there in
    let found = ap (section_in p.0) (sym c.sections-section-items.ensures.sections) ∙ there.0.found in
    elim c.if-is_of_level.branch [
      | then-is_of_level w ↦
          let of = sym c.is_of_level.ensures ∙ w.if-is_of_level.true in
          record {
            ram = goes_on Ram v level sections i p within is (option_map top_in l.highest.ram) (option_map top_in c.if-is_of_level.highest.ram) of found
                (ap (λ (h : HighestSession). option_map top_in h.ram) w.highest-is ∙ w.see.ensures.ram) l.invariant.ram;
            caps = goes_on Caps v level sections i p within is (option_map top_in l.highest.caps) (option_map top_in c.if-is_of_level.highest.caps) of found
                (ap (λ (h : HighestSession). option_map top_in h.caps) w.highest-is ∙ w.see.ensures.caps) l.invariant.caps;
            there = there.1;
          }
      | else-is_of_level w ↦
          let of = sym c.is_of_level.ensures ∙ w.if-is_of_level.false in
          record {
            ram = goes_by Ram v level sections i p within is (option_map top_in l.highest.ram) (option_map top_in c.if-is_of_level.highest.ram) of
                (ap (λ (h : HighestSession). option_map top_in h.ram) w.highest-is) l.invariant.ram;
            caps = goes_by Caps v level sections i p within is (option_map top_in l.highest.caps) (option_map top_in c.if-is_of_level.highest.caps) of
                (ap (λ (h : HighestSession). option_map top_in h.caps) w.highest-is) l.invariant.caps;
            there = there.1;
          }
    ]
