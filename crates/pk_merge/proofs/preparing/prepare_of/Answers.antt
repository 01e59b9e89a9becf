-- Header, directory, lists and dictionary are those of the documents that are left.
use Rattle.std.proofs.Common.{◌≡◌, ◌∙◌, length, ap, sym, subst, arith}
use Rattle.pk_dict.specs.declared.writer.DictWriter.{DictWriter}
use Rattle.pk_dict.specs.Writer.{HasAdded}
use Rattle.pk_segment.specs.Indexed.{items_of}
use Rattle.pk_merge.specs.Keeping.{kept_directory}
use Rattle.pk_merge.specs.Left.{kept_in}
use Rattle.pk_merge.specs.Prepared.{PreparesOneAs}
use Rattle.pk_merge.proofs.FaultLemmas.{passed_on}
use Rattle.pk_merge.proofs.GatherLemmas.{fails_planned}
use Rattle.pk_merge.proofs.KeepLemmas.{directory_is, front_same, kept_long, kept_size}
use Rattle.pk_segment.proofs.PlanLemmas.{header_size}
use Rattle.pk_state.specs.Committed.{live_in}
use Rattle.pk_merge.proofs.preparing.prepare_of.Goals as goal

pub invariant_of-result-clause-some : goal.invariant_of-result-clause-some
invariant_of-result-clause-some c = omega (arith, c.in_ok-buffer.ensures.len, c.in_ok-buffer.buffer.ok)

pub invariant_of-result-clause-inside : goal.invariant_of-result-clause-inside
invariant_of-result-clause-inside c = c.args.left.inside

pub invariant_of-result-clause-short : goal.invariant_of-result-clause-short
invariant_of-result-clause-short c =
    omega (
      arith,
      c.in_ok-front.ensures.long,
      ap length c.deref.ensures.value,
      c.bytes.ensures.value,
      c.bytes.ensures.fits,
    )

pub returns-clause-prepared : goal.returns-clause-prepared
returns-clause-prepared c = λ bytes inputs stored gone kept has.
    let docs = live_in stored in
    let ks = kept_in c.args.left in
    let front = c.bytes.ensures.value ∙ kept_size bytes ks docs kept in
    let count : c.len.result ≡ length docs = omega (arith, kept_long bytes ks docs kept, c.args.left.documents.ok, c.len.ensures) in
    let headed = c.in_ok-header.ensures.header docs has count front in
    let size = header_size docs c.in_ok-header.header headed.0 in
    record {
      are = gone.can.are;
      kept = kept;
      lists_are = c.in_ok-lists.ensures.lists bytes inputs stored gone has;
      dictionary_is = c.in_ok-dictionary.ensures docs
          (subst (λ (w : DictWriter). HasAdded w (items_of docs)) (sym c.lists_for.ensures.dictionary) has.added);
      front_is = c.in_ok-front.ensures.bytes
          ∙ front_same docs c.in_ok-header.header (kept_directory 0 c.deref.result.now) headed.0
          (ap (kept_directory 0) c.deref.ensures.value ∙ directory_is bytes 0 ks docs kept);
      size_is = c.size.ensures ∙ size;
      fits = omega (arith, c.size.ensures, size, headed.1);
    }

pub returns-in_err-header-clause-prepared : goal.returns-in_err-header-clause-prepared
returns-in_err-header-clause-prepared c = λ bytes inputs stored gone kept has.
    let docs = live_in stored in
    let ks = kept_in c.args.left in
    let front = c.bytes.ensures.value ∙ kept_size bytes ks docs kept in
    let count : c.len.result ≡ length docs = omega (arith, kept_long bytes ks docs kept, c.args.left.documents.ok, c.len.ensures) in
    let fault = fails_planned docs c.in_err-header.field-0.0 (c.in_err-header.ensures.header docs has count front) in
    passed_on (PreparesOneAs bytes inputs stored) c.from_residual.result c.from_residual.ensures.1 fault
