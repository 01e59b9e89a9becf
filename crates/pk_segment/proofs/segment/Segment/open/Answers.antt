-- What has the directory of documents opens as them.
use Rattle.std.proofs.Common.{◌∙◌, refl, sym, ap, subst, arith, Err, List, ℕ, ◌-◌, length, Result}
use Rattle.std.proofs.lemmas.Result.{err_from_is_err_and}
use Rattle.pk_posting.specs.declared.source.SourceFault.{SourceFault}
use Rattle.pk_segment.specs.declared.segment.Segment.{Segment}
use Rattle.pk_segment.specs.Fields.{entry_field, number_at}
use Rattle.pk_segment.specs.Opened.{OpensAs}
use Rattle.pk_segment.proofs.DirectoryLemmas.{within, header_in, number_in}
use Rattle.pk_segment.proofs.OpeningLemmas.{counted, texts_counted, whole, number_there, in_order}
use Rattle.pk_segment.proofs.ReadLemmas.{cause_read}
use Rattle.pk_segment.proofs.segment.Segment.open.Goals as goal
use Rattle.pk_segment.proofs.segment.Segment.open.Goals.{then-first-eq0-via-then-first-eq0, then-first-eq0-via-else-first-eq0+then-last-first}

pub returns-in_err-header-clause-directory : goal.returns-in_err-header-clause-directory
returns-in_err-header-clause-directory g c = λ honest docs is size.
    let content = g.S.ByteSource.content in
    let found = err_from_is_err_and c.from_residual.result c.from_residual.ensures.1 in
    let there = within (content c.args.source.now) docs c.args.kind is in
    subst (λ (r : Result Segment SourceFault). OpensAs docs r) (sym found.1) (cause_read found.0 (λ same. absurd (omega (arith, there, c.in_err-header.ensures.damaged.0 (ap Err (sym found.2 ∙ same))))) _ refl)

pub returns-then-not-is_sound-clause-directory : goal.returns-then-not-is_sound-clause-directory
returns-then-not-is_sound-clause-directory g c = λ honest docs is size.
    let content = g.S.ByteSource.content in
    let header = header_in (content c.args.source.now) docs c.args.kind c.in_ok-header.header is (c.in_ok-header.ensures.value honest) in
    let yes = whole is.segment docs c.args.kind c.args.bytes c.in_ok-header.header is.spelled header (size ∙ is.long) in
    cc (yes, c.is_sound.ensures, c.if-not-is_sound.true)

pub returns-then-first-eq0-clause-directory : goal.returns-then-first-eq0-clause-directory
returns-then-first-eq0-clause-directory g c = λ honest docs is size.
    let bytes = g.S.ByteSource.content c.args.source.now in
    let header = header_in bytes docs c.args.kind c.in_ok-header.header is (c.in_ok-header.ensures.value honest) in
    let count = counted is.segment docs c.args.kind c.in_ok-header.header is.spelled header in
    let some = is.spelled.are.some in
    let same = c.header_of.ensures.left.same honest in
    let first = number_in bytes docs c.args.kind 0 _ is some (c.in_ok-first.ensures.first honest ∙ ap (λ (x : List ℕ). number_at 0 (entry_field x 0)) same) in
    let at_last = c.in_ok-first.ensures.last honest ∙ ap (λ (x : List ℕ). number_at 0 (entry_field x (c.in_ok-header.header.count - 1))) same ∙ ap (λ (n : ℕ). number_at 0 (entry_field bytes (n - 1))) count in
    let last = number_in bytes docs c.args.kind (length docs - 1) _ is (omega (arith, some)) at_last in
    let order = in_order is.segment docs c.args.kind c.in_ok-first.first c.in_ok-first.last is.spelled first last in
    elim c.then-first-eq0.branch [
      | then-first-eq0-via-then-first-eq0 w ↦ omega (arith, order, w.if-first-eq0.true)
      | then-first-eq0-via-else-first-eq0+then-last-first w ↦ omega (arith, order, w.if-last-first.true)
    ]

pub returns-clause-directory : goal.returns-clause-directory
returns-clause-directory g c = λ honest docs is size.
    let bytes = g.S.ByteSource.content c.args.source.now in
    let header = header_in bytes docs c.args.kind c.in_ok-header.header is (c.in_ok-header.ensures.value honest) in
    let count = counted is.segment docs c.args.kind c.in_ok-header.header is.spelled header in
    let some = is.spelled.are.some in
    let same = c.header_of.ensures.left.same honest in
    let first = number_in bytes docs c.args.kind 0 _ is some (c.in_ok-first.ensures.first honest ∙ ap (λ (x : List ℕ). number_at 0 (entry_field x 0)) same) in
    let at_last = c.in_ok-first.ensures.last honest ∙ ap (λ (x : List ℕ). number_at 0 (entry_field x (c.in_ok-header.header.count - 1))) same ∙ ap (λ (n : ℕ). number_at 0 (entry_field bytes (n - 1))) count in
    let last = number_in bytes docs c.args.kind (length docs - 1) _ is (omega (arith, some)) at_last in
    record {
      count_is = omega (arith, count);
      texts_is = texts_counted is.segment docs c.args.kind c.in_ok-header.header is.spelled header;
      first_is = number_there is.segment docs c.args.kind 0 _ is.spelled some first;
      last_is = number_there is.segment docs c.args.kind (length docs - 1) _ is.spelled (omega (arith, some)) last;
    }
