use Rattle.std.proofs.Common.{◌≡◌, ◌∙◌, ◌++◌, [], Bool, ap, sym, append-nil, codes}
use Rattle.std.specs.Prelude.{if◌then◌else◌, option_map}
use Rattle.std.proofs.lemmas.Result.{on_ok_weaker}
use Rattle.gq_model.specs.machine.Amounts.{Ram, Caps, part}
use Rattle.gq_why.specs.First_maxima.{top_in}
use Rattle.gq_why.specs.Why.{need_part, points_at}
use Rattle.gq_why.proofs.Need_lines.{need_put}
use Rattle.gq_why.proofs.need.push_need.Goals as goal

pub returns-then-not-counts_caps : goal.returns-then-not-counts_caps
returns-then-not-counts_caps c =
    let t = c.args.text.now.items in
    let points = points_at c.args.verified.now c.args.level c.args.verified.now.program.sections in
    let first = need_part Ram (codes "need of ") c.args.service.now c.args.interface.now c.args.level points in
    let second = need_part Caps (codes "need caps of ") c.args.service.now c.args.interface.now c.args.level points in
    need_put Ram (codes "need of ") c.args.service.now c.args.interface.now c.args.level c.need_of-given.result.ram points
    (option_map top_in c.highest_at-highest.result.ram) c.highest_at-highest.ensures.ram (ap (part Ram) c.need_of-given.ensures) t
    c.push_level.new.text.items c.push_session.new.text.items c.in_ok-push_level.ensures c.in_ok-push_session.ensures
    ∙ (sym (append-nil (t ++ first))
    ∙ ap (λ (b : Bool). t ++ first ++ (if◌then◌else◌ b second [])) (sym (sym c.counts_caps.ensures ∙ c.if-not-counts_caps.true)))

pub returns : goal.returns
returns c =
    let t = c.args.text.now.items in
    let points = points_at c.args.verified.now c.args.level c.args.verified.now.program.sections in
    let first = need_part Ram (codes "need of ") c.args.service.now c.args.interface.now c.args.level points in
    let second = need_part Caps (codes "need caps of ") c.args.service.now c.args.interface.now c.args.level points in
    let put : c.push_session.new.text.items ≡ t ++ first =
    need_put Ram (codes "need of ") c.args.service.now c.args.interface.now c.args.level c.need_of-given.result.ram points
    (option_map top_in c.highest_at-highest.result.ram) c.highest_at-highest.ensures.ram (ap (part Ram) c.need_of-given.ensures) t
    c.push_level.new.text.items c.push_session.new.text.items c.in_ok-push_level.ensures c.in_ok-push_session.ensures in
    on_ok_weaker c.push_session-2.result
    (λ e. need_put Caps (codes "need caps of ") c.args.service.now c.args.interface.now c.args.level c.need_of-given.result.caps points
    (option_map top_in c.highest_at-highest.result.caps) c.highest_at-highest.ensures.caps (ap (part Caps) c.need_of-given.ensures)
    c.push_session.new.text.items c.push_level-2.new.text.items c.push_session-2.new.text.items c.in_ok-push_level-2.ensures e
    ∙ (ap (λ l. l ++ second) put ∙ ap (λ (b : Bool). t ++ first ++ (if◌then◌else◌ b second []))
    (sym (sym c.counts_caps.ensures ∙ c.if-not-counts_caps.false)))) c.push_session-2.ensures
