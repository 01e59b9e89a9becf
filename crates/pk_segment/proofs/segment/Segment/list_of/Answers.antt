-- What the dictionary says.
use Rattle.std.proofs.Common.{rules, ◌≡◌, ◌≤◌, ◌+◌, ◌*◌, ◌∙◌, List, ℕ, length, ap, sym, subst, arith, Result}
use Rattle.std.specs.Prelude.{Option}
use Rattle.std.proofs.lemmas.Result.{err_from_is_err_and}
use Rattle.pk_posting.specs.Limits.{asks_for}
use Rattle.pk_dict.specs.declared.entry.Entry.{Entry}
use Rattle.pk_posting.specs.declared.source.SourceFault.TheVariants as source
use Rattle.pk_posting.specs.declared.fault.ReadFault.{ReadFault}
use Rattle.pk_segment.specs.Indexed.{items_of}
use Rattle.pk_segment.specs.Listing.{ListedAs}
use Rattle.pk_segment.specs.Spelling.{IndexSpells}
use Rattle.pk_segment.proofs.ListingLemmas.{asks_most, is_there}
use Rattle.pk_segment.proofs.ReadLemmas.{cause_read}
use Rattle.pk_segment.proofs.segment.Segment.list_of.Goals as goal

pub returns-in_err-entry-clause-listed : goal.returns-in_err-entry-clause-listed
returns-in_err-entry-clause-listed g c = λ honest docs is of.
    let found = err_from_is_err_and c.from_residual-in_err-entry.result c.from_residual-in_err-entry.ensures.1 in
    let same = ap g.S.ByteSource.content c.on-windows.ensures.source ∙ c.in_ok-place.ensures.left.same honest in
    let there = subst (λ (x : List ℕ). IndexSpells x docs) (sym same) is in
    let at = is_there _ docs c.in_ok-place.place there (c.in_ok-place.ensures.place honest docs is of) in
    let disk : c.in_err-entry.field-0.0 ≡ source.Disk = c.in_err-entry.ensures.found honest (items_of docs) at.inside at.spelled at.count in
    subst (λ (r : Result (Option Entry) ReadFault). ListedAs docs c.args.word.now r) (sym found.1)
    (cause_read c.in_err-entry.field-0.0 (λ same. let k : source.Disk ≡ source.Damaged = sym disk ∙ same in cc) found.0 found.2)

pub returns-in_err-entry-clause-asked : goal.returns-in_err-entry-clause-asked
returns-in_err-entry-clause-asked g c =
    let few : g.S.ByteSource.asked c.look_up_near.new.source.source.now ≤ g.S.ByteSource.asked c.args.source.now + 1 + 44 * (6 + asks_for (length c.args.word.now)) =
    asks_most _ _ _ _ _ _ c.in_err-entry.ensures.left.kept.2 c.on-windows.ensures.asked (omega (arith, c.in_err-entry.ensures.most))
    (subst (λ s. g.S.ByteSource.asked s ≤ g.S.ByteSource.asked c.args.source.now + 1) (sym c.on-windows.ensures.source) c.in_ok-place.ensures.left.asks)
    in search (rules, few)

pub returns-clause-listed : goal.returns-clause-listed
returns-clause-listed g c = λ honest docs is of.
    let same = ap g.S.ByteSource.content c.on-windows.ensures.source ∙ c.in_ok-place.ensures.left.same honest in
    let there = subst (λ (x : List ℕ). IndexSpells x docs) (sym same) is in
    let at = is_there _ docs c.in_ok-place.place there (c.in_ok-place.ensures.place honest docs is of) in
    c.in_ok-entry.ensures.found honest (items_of docs) at.inside at.spelled at.count

pub returns-clause-asked : goal.returns-clause-asked
returns-clause-asked g c =
    let few : g.S.ByteSource.asked c.look_up_near.new.source.source.now ≤ g.S.ByteSource.asked c.args.source.now + 1 + 44 * (6 + asks_for (length c.args.word.now)) =
    asks_most _ _ _ _ _ _ c.in_ok-entry.ensures.left.kept.2 c.on-windows.ensures.asked (omega (arith, c.in_ok-entry.ensures.most))
    (subst (λ s. g.S.ByteSource.asked s ≤ g.S.ByteSource.asked c.args.source.now + 1) (sym c.on-windows.ensures.source) c.in_ok-place.ensures.left.asks)
    in search (rules, few)
