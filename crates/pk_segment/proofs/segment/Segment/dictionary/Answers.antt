-- The header says where it lies.
use Rattle.std.proofs.Common.{◌∙◌, refl, sym, ap, subst, arith, Err, Result}
use Rattle.std.proofs.lemmas.Result.{err_from_is_err_and}
use Rattle.pk_dict.specs.declared.entry.DictPlace.{DictPlace}
use Rattle.pk_posting.specs.declared.source.SourceFault.{SourceFault}
use Rattle.pk_segment.specs.Listing.{PlacedAs}
use Rattle.pk_segment.specs.Said.{lists_from}
use Rattle.pk_segment.proofs.ListingLemmas.{most, place_is, place_said, says, size_of}
use Rattle.pk_segment.proofs.ReadLemmas.{cause_read}
use Rattle.pk_segment.proofs.segment.Segment.dictionary.Goals as goal

pub returns-in_err-header-clause-place : goal.returns-in_err-header-clause-place
returns-in_err-header-clause-place g c = λ honest docs is of.
    let found = err_from_is_err_and c.from_residual.result c.from_residual.ensures.1 in
    let there = size_of (g.S.ByteSource.content c.args.source.now) docs is in
    subst (λ (r : Result DictPlace SourceFault). PlacedAs docs r) (sym found.1)
    (cause_read found.0 (λ same. absurd (omega (arith, there, c.in_err-header.ensures.damaged.0 (ap Err (sym found.2 ∙ same))))) _ refl)

pub returns-in_default-clause-place : goal.returns-in_default-clause-place
returns-in_default-clause-place g c = λ honest docs is of.
    let bytes = g.S.ByteSource.content c.args.source.now in
    let read = says bytes docs c.in_ok-header.header is (c.in_ok-header.ensures.value honest) in
    c.in_default.ensures (omega (arith, most bytes docs is, read.postings_is, c.postings.ensures.documents docs of))

pub returns-clause-place : goal.returns-clause-place
returns-clause-place g c = λ honest docs is of.
    let bytes = g.S.ByteSource.content c.args.source.now in
    let read = says bytes docs c.in_ok-header.header is (c.in_ok-header.ensures.value honest) in
    let at = c.postings.ensures.documents docs of in
    place_is docs c.in_ok-header.header c.in-Some.at read (omega (arith, at, read.postings_is, c.in-Some.ensures.1))

pub returns-clause-said : goal.returns-clause-said
returns-clause-said g c = λ honest.
    place_said (lists_from c.args.self.now) (g.S.ByteSource.content c.args.source.now) c.in_ok-header.header c.in-Some.at
    (c.in_ok-header.ensures.value honest) (omega (arith, c.postings.ensures.value, c.in-Some.ensures.1))
