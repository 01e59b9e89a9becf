-- The place is known, or it is the first.
use Rattle.std.proofs.Common.{[], refl, sym}
use Rattle.pk_plan.specs.Words.{texts}
use Rattle.pk_lookup.proofs.RepeatLemmas.{first_here, first_known, known_now, text_or}
use Rattle.pk_lookup.proofs.repeats.first_place.Goals as goal

pub returns-in-Some-clause-first : goal.returns-in-Some-clause-first
returns-in-Some-clause-first c =
    first_known (texts c.args.words.now) c.args.place c.args.known.now _ c.in-Some.first.now c.requires.known
    (text_or c.args.words.now c.args.place (record { ref_ptr = (0, 0); now = [] }) refl) (sym c.in-Some.ensures.value)

pub returns-clause-first : goal.returns-clause-first
returns-clause-first c =
    first_here (texts c.args.words.now) c.args.place c.args.known.now _ c.requires.known
    (text_or c.args.words.now c.args.place (record { ref_ptr = (0, 0); now = [] }) refl) (sym c.in_default.ensures.value)

pub returns-clause-known : goal.returns-clause-known
returns-clause-known c =
    known_now (texts c.args.words.now) c.args.place c.args.known.now c.insert.new.self _ c.requires.known
    (text_or c.args.words.now c.args.place (record { ref_ptr = (0, 0); now = [] }) refl) (sym c.in_default.ensures.value) c.in_ok-insert.ensures.updates
