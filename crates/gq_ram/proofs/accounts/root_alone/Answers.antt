use Rattle.std.proofs.Common.{◌∙◌, get_or, None, ap, sym}
use Rattle.gq_ram.specs.Account_table.{Entries}
use Rattle.gq_ram.proofs.Numbered_account_tables.{one_alone}
use Rattle.gq_ram.proofs.accounts.root_alone.Goals as goal

pub returns : goal.returns
returns c =
    let empty = c.in_ok-accounts.ensures.empty in let first = c.insert_reserved.ensures.key ∙ c.in_ok-accounts.ensures.first_key in
    let put = c.insert_reserved.ensures.updates in let kept = c.shrink_to_fit.ensures.values in
    one_alone c.shrink_to_fit.new.self.slots c.args.root
    (kept 0 ∙ ap (λ k. get_or c.insert_reserved.new.self.slots k None) (sym first) ∙ put.changed)
    (λ j other. kept j ∙ put.others j (λ e. other (e ∙ first)) ∙ ap (λ (es : Entries). get_or es j None) empty)
    c.shrink_to_fit.ensures.trimmed
