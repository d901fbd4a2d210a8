use Rattle.std.proofs.Common.{◌∙◌, ◌++◌, ap, codes, decimal}
use Rattle.gq_races.proofs.Race_leaf_lines.{line_put, on_ok_put}
use Rattle.gq_races.proofs.opens.push_number.Goals as goal

pub returns : goal.returns
returns c =
    on_ok_put c.extend_from_slice-4.result _ _ _ _ c.extend_from_slice-4.ensures.items (λ e. line_put c.args.text.now.items (codes "  opened by ")
    c.args.prefix.now (decimal c.args.number) _ _ _ _ c.in_ok-extend_from_slice.ensures.items c.in_ok-extend_from_slice-2.ensures.items
    (c.in_ok-extend_from_slice-3.ensures.items
    ∙ ap (λ d. c.extend_from_slice-2.new.self.items ++ d) (c.as_bytes.ensures.value ∙ c.format.ensures.text)) e)
