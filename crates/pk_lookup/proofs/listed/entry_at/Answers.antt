-- Each entry leads to the list of its word, and past the last word no document counts.
use Rattle.std.proofs.Common.{◌≡◌, None, get_or, arith}
use Rattle.std.proofs.lemmas.List.{get_or_past}
use Rattle.pk_plan.specs.Plans.{word_at}
use Rattle.pk_lookup.proofs.ListLemmas.{entries_lead, none_held}
use Rattle.pk_lookup.proofs.listed.entry_at.Goals as goal

pub returns-then-place-entries-clause-leads : goal.returns-then-place-entries-clause-leads
returns-then-place-entries-clause-leads c = λ words docs are.
    let none : get_or c.args.entries.now c.args.place None ≡ None = get_or_past c.args.entries.now c.args.place None (omega arith) in
    none_held docs (word_at words c.args.place) (get_or c.args.entries.now c.args.place None) (entries_lead c.args.entries.now words docs c.args.place are) none

pub returns-clause-leads : goal.returns-clause-leads
returns-clause-leads c = λ words docs are. entries_lead c.args.entries.now words docs c.args.place are
