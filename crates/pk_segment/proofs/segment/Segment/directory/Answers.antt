-- The bytes between the header and the texts.
use Rattle.std.proofs.Common.{◌∙◌, sym, ap, subst, arith, Err, Result}
use Rattle.std.proofs.lemmas.Result.{err_from_is_err_and}
use Rattle.pk_segment.specs.declared.directory.Directory.{Directory}
use Rattle.pk_posting.specs.declared.fault.ReadFault.{ReadFault}
use Rattle.pk_segment.specs.Reading.{DirectoryAs}
use Rattle.pk_segment.proofs.DirectoryLemmas.{directory_read, field_read, within}
use Rattle.pk_segment.proofs.ReadLemmas.{cause_of}
use Rattle.pk_segment.proofs.segment.Segment.directory.Goals as goal

pub returns-in_err-bytes-clause-directory : goal.returns-in_err-bytes-clause-directory
returns-in_err-bytes-clause-directory g c = λ honest docs kind is of.
    let found = err_from_is_err_and c.from_residual.result c.from_residual.ensures.1 in
    let there = within (g.S.ByteSource.content c.args.source.now) docs kind is in
    subst (λ (r : Result Directory ReadFault). DirectoryAs docs kind r) (sym found.1)
    (cause_of found.0 (λ same. absurd (omega (arith, there, of.count_is, c.in_err-bytes.ensures.damaged (ap Err (sym found.2 ∙ same))))))

pub returns-clause-read : goal.returns-clause-read
returns-clause-read g c = λ honest i lt.
    field_read c.of_bytes.result (g.S.ByteSource.content c.args.source.now) c.args.self.now.count i
    (ap (λ v. v.items) c.of_bytes.ensures ∙ c.in_ok-bytes.ensures.value honest) lt

pub returns-clause-directory : goal.returns-clause-directory
returns-clause-directory g c = λ honest docs kind is of.
    directory_read c.of_bytes.result (g.S.ByteSource.content c.args.source.now) docs kind c.args.self.now.count is of.count_is
    (ap (λ v. v.items) c.of_bytes.ensures ∙ c.in_ok-bytes.ensures.value honest)
