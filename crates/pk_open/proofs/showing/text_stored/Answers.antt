-- The segment whose numbers reach over the number answers for all; where there is none, none has it.
use Rattle.std.proofs.Common.{◌∙◌, sym}
use Rattle.pk_open.proofs.PlaceLemmas.{inside_at, opened_at, passed, seeks_text, spelled_at}
use Rattle.pk_open.proofs.LookUpLemmas.{dropped, located, looked_up, no_span}
use Rattle.pk_open.specs.Opened.{documents_at}
use Rattle.pk_open.proofs.showing.text_stored.Goals as goal

pub returns-in_default-clause-text : goal.returns-in_default-clause-text
returns-in_default-clause-text g c = λ h committed spells are whole.
    no_span c.args.opened.now committed are whole c.args.number.0 c.in_default.ensures

pub returns-then-contains-clause-text : goal.returns-then-contains-clause-text
returns-then-contains-clause-text g c = λ h committed spells are whole.
    let at = located c.args.opened.now c.in-Some.place c.args.number.0 c.index-opened-place.result c.in-Some.ensures c.index-opened-place.is in
    dropped c.args.opened.now committed are whole c.args.number.0 _ _ spells c.in-Some.place c.index-opened-place.result at.0 c.index-opened-place.is at.1 (sym c.if-contains.ensures)

pub returns-clause-text : goal.returns-clause-text
returns-clause-text g c = λ h committed spells are whole.
    let os = c.args.opened.now in
    let i = c.in-Some.place in
    let o = c.index-opened-place.result in
    let at = located os i c.args.number.0 o c.in-Some.ensures c.index-opened-place.is in
    looked_up os committed are whole c.args.number.0 _ _ spells i o at.0 c.index-opened-place.is at.1 (sym c.contains.ensures ∙ c.if-contains.false) c.text_in.result
    (c.text_in.ensures.text h (documents_at committed.stored i) _ (spelled_at _ os committed.stored i o spells at.0 c.index-opened-place.is).segment
    (opened_at os committed.stored i o are at.0 c.index-opened-place.is).segment)

pub returns-then-contains-clause-sought : goal.returns-then-contains-clause-sought
returns-then-contains-clause-sought g c =
    passed c.args.opened.now c.args.number.0 c.in-Some.place c.index-opened-place.result c.in-Some.ensures c.index-opened-place.is (sym c.if-contains.ensures)

pub returns-clause-sought : goal.returns-clause-sought
returns-clause-sought g c =
    seeks_text c.args.opened.now c.args.number.0 c.in-Some.place c.index-opened-place.result c.in-Some.ensures c.index-opened-place.is (sym c.contains.ensures ∙ c.if-contains.false) c.text_in.result
    c.text_in.ensures.whole

pub text_in-requires : goal.text_in-requires
text_in-requires g c = inside_at _ c.args.opened.now c.in-Some.place c.index-opened-place.result c.requires c.in-Some.ensures.0 c.index-opened-place.is
