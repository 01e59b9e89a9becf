-- Those that the dictionary has.
use Rattle.std.proofs.Common.{◌∙◌, List, ℕ, ap, sym, subst, Result}
use Rattle.std.specs.Global.{Vec}
use Rattle.std.proofs.lemmas.Result.{err_from_is_err_and}
use Rattle.pk_dict.specs.declared.entry.DictPlace.{DictPlace}
use Rattle.pk_dict.specs.declared.entry.Entry.{Entry}
use Rattle.pk_dict.specs.Entries.{entries_of}
use Rattle.pk_posting.specs.declared.fault.ReadFault.{ReadFault}
use Rattle.pk_segment.specs.Indexed.{items_of}
use Rattle.pk_segment.specs.Listing.{HasPrefixAs}
use Rattle.pk_segment.specs.Spelling.{IndexSpells}
use Rattle.pk_segment.proofs.ListingLemmas.{entries_cause, is_there}
use Rattle.pk_segment.proofs.segment.Segment.entries_of.Goals as goal

pub returns-in_err-entries-clause-entries : goal.returns-in_err-entries-clause-entries
returns-in_err-entries-clause-entries g c = λ honest docs is of.
    let found = err_from_is_err_and c.from_residual-in_err-entries.result c.from_residual-in_err-entries.ensures.1 in
    let same = ap g.S.ByteSource.content c.on-windows.ensures.source ∙ c.in_ok-place.ensures.left.same honest in
    let there = subst (λ (x : List ℕ). IndexSpells x docs) (sym same) is in
    let at = is_there _ docs c.in_ok-place.place there (c.in_ok-place.ensures.place honest docs is of) in
    subst (λ (r : Result (Vec (Vec ℕ × Entry)) ReadFault). HasPrefixAs docs c.args.prefix.now r) (sym found.1)
    (entries_cause c.in_err-entries.field-0.0 (c.in_err-entries.ensures.found honest (items_of docs) at.inside at.spelled at.count) found.0 found.2)

pub returns-clause-entries : goal.returns-clause-entries
returns-clause-entries g c = λ honest docs is of.
    let same = ap g.S.ByteSource.content c.on-windows.ensures.source ∙ c.in_ok-place.ensures.left.same honest in
    let there = subst (λ (x : List ℕ). IndexSpells x docs) (sym same) is in
    let at = is_there _ docs c.in_ok-place.place there (c.in_ok-place.ensures.place honest docs is of) in
    c.in_ok-entries.ensures.found honest (items_of docs) at.inside at.spelled at.count

pub returns-clause-said : goal.returns-clause-said
returns-clause-said g c = λ honest.
    let content = g.S.ByteSource.content in
    let prefix = c.args.prefix.now in
    let same = ap content c.on-windows.ensures.source ∙ c.in_ok-place.ensures.left.same honest in
    ap (λ (p : DictPlace). entries_of (content c.args.source.now) p prefix) (sym (c.in_ok-place.ensures.said honest))
    ∙ ap (λ (b : List ℕ). entries_of b c.in_ok-place.place prefix) (sym same)
    ∙ c.in_ok-entries.ensures.value honest
