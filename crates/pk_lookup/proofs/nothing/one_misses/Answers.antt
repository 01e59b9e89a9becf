-- The word at the place is in no document.
use Rattle.std.proofs.Common.{◌∙◌, ap, arith, not, slice_index}
use Rattle.pk_plan.specs.Plans.{word_at}
use Rattle.pk_lookup.proofs.ListLemmas.{none_held}
use Rattle.pk_lookup.proofs.NothingLemmas.{none_from, one_nothing}
use Rattle.pk_lookup.proofs.nothing.one_misses.Goals as goal

pub returns-then-is_none : goal.returns-then-is_none
returns-then-is_none c = λ words docs are yes os.
    one_nothing words docs c.args.places.now c.loop-i.i os (omega arith)
    (none_held docs (word_at words (slice_index c.args.places.now c.loop-i.i)) c.entry_at.result (c.entry_at.ensures.leads words docs are) (none_from c.entry_at.result (c.is_none.ensures ∙ ap not c.if-is_none.true)))
