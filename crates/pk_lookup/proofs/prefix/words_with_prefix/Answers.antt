-- The dictionary lies there, and all its words that begin so are left.
use Rattle.std.proofs.Common.{◌∙◌, arith, sym, subst}
use Rattle.pk_dict.specs.declared.entry.DictPlace.{DictPlace}
use Rattle.pk_dict.specs.Dictionary.{items_with_prefix}
use Rattle.pk_dict.specs.Place.{bytes_at}
use Rattle.pk_dict.specs.Prefix.{HasLeft}
use Rattle.pk_segment.specs.Indexed.{items_of}
use Rattle.pk_segment.proofs.ListingLemmas.{is_there}
use Rattle.pk_lookup.proofs.prefix.words_with_prefix.Goals as goal

pub returns-then-from-clause-all : goal.returns-then-from-clause-all
returns-then-from-clause-all g c = λ honest docs is of.
    let there = is_there _ docs c.dictionary_place-place.result is (c.dictionary_place-place.ensures ∙ of.dictionary) in
    absurd (omega (arith, there.inside))

pub returns-clause-all : goal.returns-clause-all
returns-clause-all g c = λ honest docs is of.
    let there = is_there _ docs c.dictionary_place-place.result is (c.dictionary_place-place.ensures ∙ of.dictionary) in
    subst (λ (p : DictPlace). HasLeft (bytes_at (g.S.ByteSource.content c.args.source.now) p) c.open.result (items_of docs) (items_with_prefix c.args.prefix.now (items_of docs))) (sym c.open.ensures.place) (c.open.ensures.left _ (items_of docs) there.spelled there.count)
