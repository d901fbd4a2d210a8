use Rattle.std.proofs.Common.{◌≡◌, ◌∙◌, ◌++◌, ◌∷◌, [], Bool, ap, sym, append-nil, append_assoc, codes}
use Rattle.std.specs.Prelude.{if◌then◌else◌, decimal, option_map}
use Rattle.std.proofs.lemmas.Result.{on_ok_weaker}
use Rattle.gq_model.specs.machine.Amounts.{Ram, Caps}
use Rattle.gq_why.specs.First_maxima.{top_in}
use Rattle.gq_why.specs.Why.{own_part}
use Rattle.gq_why.proofs.Lines_of_own_slots.{own_put}
use Rattle.gq_why.proofs.own_lines.push_owns.Goals as goal

pub returns-then-not-counts_caps : goal.returns-then-not-counts_caps
returns-then-not-counts_caps c =
    let t = c.args.text.now.items in
    let u = c.extend_from_slice.new.self.items in
    let first = own_part Ram (codes "own ") c.args.verified.now c.args.quantum.ram in
    let second = own_part Caps (codes "own caps ") c.args.verified.now c.args.quantum.caps in
    own_put Ram (codes "own ") c.args.verified.now c.own.result c.args.quantum.ram (option_map top_in c.of-highest.result.ram) c.of-highest.result.places
    c.own.ensures c.of-highest.ensures.ram c.of-highest.ensures.places t u c.push_of.new.text.items c.push_highest.new.text.items
    c.push_classes.new.text.items c.in_ok-extend_from_slice.ensures.items
    (c.in_ok-push_of.ensures ∙ ap (λ n. u ++ decimal c.own.result ++ codes " of " ++ decimal n ++ 10 ∷ []) c.ram.ensures.ram)
    c.in_ok-push_highest.ensures c.in_ok-push_classes.ensures
    ∙ (ap (λ l. t ++ l) (sym (append-nil first))
    ∙ ap (λ (b : Bool). t ++ (first ++ (if◌then◌else◌ b second []))) (sym (sym c.counts_caps.ensures ∙ c.if-not-counts_caps.true)))

pub returns : goal.returns
returns c =
    let t = c.args.text.now.items in
    let u = c.extend_from_slice.new.self.items in
    let w = c.extend_from_slice-2.new.self.items in
    let first = own_part Ram (codes "own ") c.args.verified.now c.args.quantum.ram in
    let second = own_part Caps (codes "own caps ") c.args.verified.now c.args.quantum.caps in
    let put : c.push_classes.new.text.items ≡ t ++ first =
    own_put Ram (codes "own ") c.args.verified.now c.own.result c.args.quantum.ram (option_map top_in c.of-highest.result.ram) c.of-highest.result.places
    c.own.ensures c.of-highest.ensures.ram c.of-highest.ensures.places t u c.push_of.new.text.items c.push_highest.new.text.items
    c.push_classes.new.text.items c.in_ok-extend_from_slice.ensures.items
    (c.in_ok-push_of.ensures ∙ ap (λ n. u ++ decimal c.own.result ++ codes " of " ++ decimal n ++ 10 ∷ []) c.ram.ensures.ram)
    c.in_ok-push_highest.ensures c.in_ok-push_classes.ensures in
    on_ok_weaker c.push_classes-2.result
    (λ e. own_put Caps (codes "own caps ") c.args.verified.now c.own_caps.result c.args.quantum.caps (option_map top_in c.of-highest.result.caps)
    c.of-highest.result.places c.own_caps.ensures c.of-highest.ensures.caps c.of-highest.ensures.places c.push_classes.new.text.items w
    c.push_of-2.new.text.items c.push_highest-2.new.text.items c.push_classes-2.new.text.items c.in_ok-extend_from_slice-2.ensures.items
    (c.in_ok-push_of-2.ensures ∙ ap (λ n. w ++ decimal c.own_caps.result ++ codes " of " ++ decimal n ++ 10 ∷ []) (c.from.ensures ∙ c.caps.ensures.caps))
    c.in_ok-push_highest-2.ensures e
    ∙ (ap (λ l. l ++ second) put ∙ (append_assoc t first second ∙ ap (λ (b : Bool). t ++ (first ++ (if◌then◌else◌ b second [])))
    (sym (sym c.counts_caps.ensures ∙ c.if-not-counts_caps.false)))))
    c.push_classes-2.ensures
