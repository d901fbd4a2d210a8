-- The account of a node.
use Rattle.std.proofs.Common.{◌≡◌, ◌∙◌, Some, refl, ap, sym, subst, get_or, IfSome}
use Rattle.std.proofs.lemmas.Option.{slice_get-get_or}
use Rattle.std.specs.Prelude.{slice_get, slice_set}
use Rattle.gq_model.specs.machine.Scenario.{Scenario}
use Rattle.gq_resolve.specs.NodeTables.{node_rows}
use Rattle.gq_scenario.specs.Component_trees.{version_number}
use Rattle.gq_output.specs.Account_values.{reported_of}
use Rattle.gq_world.specs.Account_lines.{all_accounts}
use Rattle.gq_model.proofs.Small_facts.{set_there}
use Rattle.gq_traces.specs.internal.Noted.{standing_in}
use Rattle.gq_traces.specs.internal.Printed_steps.{Reports, head_text}
use Rattle.gq_traces.proofs.Printed_accounts.{account_stands, account_stands_else, noted_at}
use Rattle.gq_world.proofs.World_account_lines.{line_of_node}
use Rattle.gq_traces.proofs.Sequential_text_writes.{reports_nothing, prints_text}
use Rattle.gq_traces.proofs.Leaves_standing.{from_some}
use Rattle.gq_traces.proofs.Printed_values_equal.{standing_is, stands_as}
use Rattle.gq_traces.proofs.step_lines.print_account.Goals as goal

pub returns-then-same_account : goal.returns-then-same_account
returns-then-same_account g c =
    let w = c.args.world.now in
    let notes = c.args.notes.now.accounts.items in
    let now = c.index-2.result.now in
    let account = c.account-account.result in
    let same = sym c.same_account.ensures ∙ c.if-same_account.true in
    record {
      reported = λ a b there noted. (
          let reported = from_some (slice_get (all_accounts w) c.args.node) (λ z. account ≡ reported_of z) a there c.account-account.ensures.reported in
          let at = noted_at notes c.args.node c.index.result c.index.ensures b now noted c.index-2.ensures in
          prints_text g.W.Write.contents c.args.out.now c.args.out.now c.args.progress c.args.progress (head_text w.scenario c.args.head.now) _ _
          (account_stands w.scenario.version b a now account at reported same)
          (reports_nothing g.W.Write.contents c.args.out.now c.args.progress (head_text w.scenario c.args.head.now)));
      renewed = record {
        now = now;
        is = stands_as (slice_get (all_accounts w) c.args.node) account (standing_in now) (standing_is (standing_in now) (standing_in account) same)
            c.account-account.ensures.reported;
        accounts = sym (set_there notes c.args.node now (slice_get-get_or notes c.args.node now c.requires.noted
            ∙ ap Some (ap (λ k. get_or notes k now) (sym c.index.ensures) ∙ sym c.index-2.ensures)));
        sessions = refl;
        count = refl;
      };
    }

pub returns : goal.returns
returns g c =
    let w = c.args.world.now in
    let account = c.account-account.result in
    let P : Scenario → Type 0 = λ s. IfSome (slice_get (node_rows s) c.args.node) (λ r. c.label.result.now ≡ r.label) in
    let version = c.version.ensures ∙ (ap (λ s. s.version) c.scenario.ensures ∙ ap (λ s. s.version) c.table-table.ensures) in
    record {
      reported = λ a b there noted. (
          let reported = from_some (slice_get (all_accounts w) c.args.node) (λ z. account ≡ reported_of z) a there c.account-account.ensures.reported in
          let at = noted_at c.args.notes.now.accounts.items c.args.node c.index.result c.index.ensures b c.index-2.result.now noted c.index-2.ensures in
          let line = line_of_node w c.requires.leaves c.args.node c.requires.node c.label.result.now c.account_line-line.result.items account
          (version_number c.version.result) version c.account_line-line.ensures (subst P c.table-table.ensures c.label.ensures.label)
          c.account-account.ensures.reported a there in
          let change = account_stands_else w.scenario.version b a c.index-2.result.now account at reported
          (sym c.same_account.ensures ∙ c.if-same_account.false) in
          prints_text g.W.Write.contents c.args.out.now c.report.new.out c.args.progress c.report.result (head_text w.scenario c.args.head.now) _ _
          (c.as_slice.ensures.value ∙ line ∙ change)
          (subst (λ (s : Scenario). Reports g.W.Write.contents c.args.out.now c.report.new.out c.args.progress c.report.result (head_text s c.args.head.now)
          c.as_slice.result.now) c.table-table.ensures c.report.ensures));
      renewed = record {
        now = account;
        is = stands_as (slice_get (all_accounts w) c.args.node) account (standing_in account) refl c.account-account.ensures.reported;
        accounts = ap (λ k. slice_set c.args.notes.now.accounts.items k account) c.index-3.ensures;
        sessions = refl;
        count = refl;
      };
    }
