-- An entry for each document.
use Rattle.pk_segment.proofs.DirectoryLemmas.{entries_of}
use Rattle.pk_segment.proofs.directory.Directory.len.Goals as goal

pub returns-clause-documents : goal.returns-clause-documents
returns-clause-documents c = λ docs kind is.
    let all = entries_of c.args.self.now docs kind is in
    cc (all, c.len.ensures)
