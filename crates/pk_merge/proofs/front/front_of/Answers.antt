-- A header has 24 bytes, and a directory twelve for each document.
use Rattle.std.proofs.Common.{ap, arith, length, length-append}
use Rattle.pk_segment.specs.Spelling.{header}
use Rattle.pk_segment.proofs.SegmentLemmas.{length_header}
use Rattle.pk_merge.specs.Keeping.{kept_directory}
use Rattle.pk_merge.proofs.KeepLemmas.{length_kept_directory}
use Rattle.pk_merge.proofs.front.front_of.Goals as goal

pub returns-clause-long : goal.returns-clause-long
returns-clause-long c =
    let h = c.args.h in
    let head = header h.kind h.count h.texts h.postings h.dictionary h.terms in
    let entries = kept_directory 0 c.args.documents.now in
    omega (
      arith,
      ap length c.in_ok-put_directory.ensures,
      ap length c.in_ok-put_header.ensures,
      ap length c.in_ok-front.ensures.items,
      length-append c.in_ok-front.front.items head,
      length-append c.put_header.new.out.items entries,
      length_header h.kind h.count h.texts h.postings h.dictionary h.terms,
      length_kept_directory 0 c.args.documents.now,
    )
