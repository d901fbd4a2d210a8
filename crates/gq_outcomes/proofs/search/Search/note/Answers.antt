use Rattle.gq_outcomes.proofs.Search_facts.{noted}
use Rattle.gq_outcomes.proofs.search.Search.note.Goals as goal

pub returns-clause-notes : goal.returns-clause-notes
returns-clause-notes c s past k t branches is h =
    let added = c.in_ok-is_new.ensures in
    noted s past c.args.self.now t branches k c.insert.new.self c.args.key c.in_ok-is_new.is_new is added.added added.keys added.unchanged h
