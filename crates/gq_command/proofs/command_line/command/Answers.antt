use Rattle.std.proofs.Common.{ap, sym, subst, ◌≡◌, ◌≢◌, ◌∙◌, map, [], List}
use Rattle.std.proofs.lemmas.Result.{IfOk-weaker, IfErr-weaker}
use Rattle.clap.specs.Words.{Text, app_of, fault_of, is_simple, is_simple_and_free, subcommand_of, subcommand_rows_of, HasKind}
use Rattle.gq_command.specs.CommandLine.{trade}
use Rattle.gq_command.proofs.Parser_answer_command.{asked-ok, asked-err, misused-ok, misused-err, some_words, trade_free, trade_simple}
use Rattle.gq_command.proofs.command_line.command.Goals as goal

pub returns-in-Ok-clause-asked : goal.returns-in-Ok-clause-asked
returns-in-Ok-clause-asked c =
    let words : List Text = map (λ word. word.now) c.args.words.now in
    let line : app_of c.in_ok-line.line ≡ trade = c.in_ok-line.ensures in
    let ne : words ≢ [] = some_words c.args.words.now c.is_empty.result c.is_empty.ensures c.if-is_empty.false in
    let passes : fault_of trade words ≡ [] = ap (λ a. fault_of a words) (sym line) ∙ c.in-Ok.ensures.kinds (ap is_simple_and_free line ∙ trade_free) in
    let found : subcommand_rows_of c.in-Ok.matches ≡ subcommand_of trade words =
    (c.in-Ok.ensures.matches (ap is_simple line ∙ trade_simple)).1 ∙ ap (λ a. subcommand_of a words) line in
    IfOk-weaker c.matched.result _ _ (λ command h. asked-ok words _ command ne passes found h) c.matched.ensures.asked

pub returns-in-Ok-clause-misused : goal.returns-in-Ok-clause-misused
returns-in-Ok-clause-misused c =
    let words : List Text = map (λ word. word.now) c.args.words.now in
    let line : app_of c.in_ok-line.line ≡ trade = c.in_ok-line.ensures in
    let ne : words ≢ [] = some_words c.args.words.now c.is_empty.result c.is_empty.ensures c.if-is_empty.false in
    let passes : fault_of trade words ≡ [] = ap (λ a. fault_of a words) (sym line) ∙ c.in-Ok.ensures.kinds (ap is_simple_and_free line ∙ trade_free) in
    let found : subcommand_rows_of c.in-Ok.matches ≡ subcommand_of trade words =
    (c.in-Ok.ensures.matches (ap is_simple line ∙ trade_simple)).1 ∙ ap (λ a. subcommand_of a words) line in
    IfErr-weaker c.matched.result _ _ (λ e h. misused-ok words _ e ne passes found h) c.matched.ensures.misused

pub returns-in-Err-clause-asked : goal.returns-in-Err-clause-asked
returns-in-Err-clause-asked c =
    let words : List Text = map (λ word. word.now) c.args.words.now in
    let line : app_of c.in_ok-line.line ≡ trade = c.in_ok-line.ensures in
    let ne : words ≢ [] = some_words c.args.words.now c.is_empty.result c.is_empty.ensures c.if-is_empty.false in
    let kinds : HasKind (fault_of trade words) c.in-Err.error =
    subst (λ a. HasKind (fault_of a words) c.in-Err.error) line (c.in-Err.ensures.kinds (ap is_simple_and_free line ∙ trade_free)) in
    IfOk-weaker c.shown.result _ _ (λ command h. asked-err words c.in-Err.error command ne kinds h) c.shown.ensures.asked

pub returns-in-Err-clause-misused : goal.returns-in-Err-clause-misused
returns-in-Err-clause-misused c =
    let words : List Text = map (λ word. word.now) c.args.words.now in
    let line : app_of c.in_ok-line.line ≡ trade = c.in_ok-line.ensures in
    let ne : words ≢ [] = some_words c.args.words.now c.is_empty.result c.is_empty.ensures c.if-is_empty.false in
    let kinds : HasKind (fault_of trade words) c.in-Err.error =
    subst (λ a. HasKind (fault_of a words) c.in-Err.error) line (c.in-Err.ensures.kinds (ap is_simple_and_free line ∙ trade_free)) in
    IfErr-weaker c.shown.result _ _ (λ e h. misused-err words c.in-Err.error e ne kinds h) c.shown.ensures.misused
