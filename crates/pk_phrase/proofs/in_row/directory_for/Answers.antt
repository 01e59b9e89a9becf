-- The directory is that of the documents.
use Rattle.pk_segment.proofs.DirectoryLemmas.{directory_of}
use Rattle.pk_phrase.proofs.InRowLemmas.{fault_passed}
use Rattle.pk_phrase.proofs.in_row.directory_for.Goals as goal

pub returns-in_err-directory-clause-is : goal.returns-in_err-directory-clause-is
returns-in_err-directory-clause-is g c = λ honest docs is of.
    fault_passed _ _ _ c.from_residual.ensures.1 (c.in_err-directory.ensures.directory honest docs 2 (directory_of _ docs 2 is) of)

pub returns-clause-is : goal.returns-clause-is
returns-clause-is g c = λ honest docs is of. c.in_ok-directory.ensures.directory honest docs 2 (directory_of _ docs 2 is) of

pub returns-clause-read : goal.returns-clause-read
returns-clause-read g c = λ honest. (c.in_ok-directory.ensures.len, c.in_ok-directory.ensures.read honest)
