-- What is found by the directory that was read.
use Rattle.std.proofs.Common.{sym, subst, length, List, ℕ}
use Rattle.std.specs.Prelude.{OnOk}
use Rattle.pk_segment.specs.Spelling.{SegmentSpells}
use Rattle.pk_phrase.proofs.InRowLemmas.{fault_passed}
use Rattle.pk_phrase.specs.Said.{DirectoryRead, HaveTexts}
use Rattle.pk_phrase.proofs.in_row.those_in_row.Goals as goal

pub returns-in_err-table-clause-kept : goal.returns-in_err-table-clause-kept
returns-in_err-table-clause-kept g c = λ honest docs is of all. fault_passed _ _ _ c.from_residual.ensures.1 tt

pub returns-clause-kept : goal.returns-clause-kept
returns-clause-kept g c = λ honest docs is of all.
    let here = subst (λ (x : List ℕ). SegmentSpells x docs 2) (sym (c.in_ok-directory.ensures.left.same honest)) is in
    c.found_in_row.ensures.kept honest docs
    (record { spelled = here; segment = of; directory = c.in_ok-directory.ensures.is honest docs is of; live = all })

pub returns-clause-read : goal.returns-clause-read
returns-clause-read g c = λ honest.
    let s = c.args.segment.now in
    let same = c.in_ok-directory.ensures.left.same honest in
    subst (λ (x : List ℕ). OnOk c.found_in_row.result (HaveTexts x s c.args.numbers.now 0 (length c.args.numbers.now))) same
    (c.found_in_row.ensures.read honest (subst (λ (x : List ℕ). DirectoryRead x s c.in_ok-directory.directory) (sym same) (c.in_ok-directory.ensures.read honest)))
