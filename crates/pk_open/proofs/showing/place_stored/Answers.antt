-- The segment whose numbers reach over the number answers for all; where there is none, none has it.
use Rattle.std.proofs.Common.{◌∙◌, ℕ, Err, Ok, Option, ap, subst, sym}
use Rattle.std.proofs.lemmas.Result.{err_from_is_err_and}
use Rattle.pk_open.proofs.PlaceLemmas.{inside_at, opened_at, passed, seeks_fault, seeks_place, spelled_at}
use Rattle.pk_open.proofs.LookUpLemmas.{dropped, lives_fault, located, no_span, none_zero, placed}
use Rattle.pk_posting.specs.declared.source.SourceFault.{SourceFault}
use Rattle.pk_open.specs.Seeking.{SeeksPlace}
use Rattle.pk_open.specs.Showing.{LivesAt}
use Rattle.pk_open.specs.Opened.{documents_at}
use Rattle.pk_open.proofs.showing.place_stored.Goals as goal

pub returns-then-number-eq0-clause-place : goal.returns-then-number-eq0-clause-place
returns-then-number-eq0-clause-place g c = λ h committed spells are whole.
    none_zero c.args.opened.now committed are whole c.args.number.0 (cc)

pub returns-in_default-clause-place : goal.returns-in_default-clause-place
returns-in_default-clause-place g c = λ h committed spells are whole.
    no_span c.args.opened.now committed are whole c.args.number.0 c.in_default.ensures

pub returns-then-contains-clause-place : goal.returns-then-contains-clause-place
returns-then-contains-clause-place g c = λ h committed spells are whole.
    let at = located c.args.opened.now c.in-Some.place c.args.number.0 c.index-opened-place.result c.in-Some.ensures c.index-opened-place.is in
    dropped c.args.opened.now committed are whole c.args.number.0 _ _ spells c.in-Some.place c.index-opened-place.result at.0 c.index-opened-place.is at.1 (sym c.if-contains.ensures)

pub returns-in_err-has-clause-place : goal.returns-in_err-has-clause-place
returns-in_err-has-clause-place g c = λ h committed spells are whole.
    let os = c.args.opened.now in
    let i = c.in-Some.place in
    let o = c.index-opened-place.result in
    let at = located os i c.args.number.0 o c.in-Some.ensures c.index-opened-place.is in
    let err = err_from_is_err_and c.from_residual.result c.from_residual.ensures.1 in
    lives_fault os committed.stored c.args.number.0 c.from_residual.result err.0 c.in_err-has.field-0.0 err.1 err.2
    (c.in_err-has.ensures.has h (documents_at committed.stored i) _ (spelled_at _ os committed.stored i o spells at.0 c.index-opened-place.is).segment
    (opened_at os committed.stored i o are at.0 c.index-opened-place.is).segment)

pub returns-clause-place : goal.returns-clause-place
returns-clause-place g c = λ h committed spells are whole.
    let os = c.args.opened.now in
    let i = c.in-Some.place in
    let o = c.index-opened-place.result in
    let at = located os i c.args.number.0 o c.in-Some.ensures c.index-opened-place.is in
    subst (λ (found : Option ℕ). LivesAt os committed.stored c.args.number.0 (Ok found)) (sym c.then_some.ensures)
    (placed os committed are whole c.args.number.0 _ _ spells i o at.0 c.index-opened-place.is at.1 (sym c.contains.ensures ∙ c.if-contains.false) c.in_ok-has.has
    (c.in_ok-has.ensures.has h (documents_at committed.stored i) _ (spelled_at _ os committed.stored i o spells at.0 c.index-opened-place.is).segment
    (opened_at os committed.stored i o are at.0 c.index-opened-place.is).segment))

pub returns-then-contains-clause-sought : goal.returns-then-contains-clause-sought
returns-then-contains-clause-sought g c =
    passed c.args.opened.now c.args.number.0 c.in-Some.place c.index-opened-place.result c.in-Some.ensures c.index-opened-place.is (sym c.if-contains.ensures)

pub returns-in_err-has-clause-sought : goal.returns-in_err-has-clause-sought
returns-in_err-has-clause-sought g c =
    let err = err_from_is_err_and c.from_residual.result c.from_residual.ensures.1 in
    seeks_fault c.args.opened.now c.args.number.0 c.in-Some.place c.index-opened-place.result c.in-Some.ensures c.index-opened-place.is (sym c.contains.ensures ∙ c.if-contains.false)
    c.from_residual.result err.0 c.in_err-has.field-0.0 err.1 err.2 (λ is. c.in_err-has.ensures.cut (ap (λ (f : SourceFault). Err f) is))

pub returns-clause-sought : goal.returns-clause-sought
returns-clause-sought g c =
    subst (λ (found : Option ℕ). SeeksPlace c.args.opened.now c.args.number.0 (Ok found)) (sym c.then_some.ensures)
    (seeks_place c.args.opened.now c.args.number.0 c.in-Some.place c.index-opened-place.result c.in-Some.ensures c.index-opened-place.is (sym c.contains.ensures ∙ c.if-contains.false) c.in_ok-has.has
    c.in_ok-has.ensures.whole)

pub has_in-requires : goal.has_in-requires
has_in-requires g c = inside_at _ c.args.opened.now c.in-Some.place c.index-opened-place.result c.requires c.in-Some.ensures.0 c.index-opened-place.is
