-- The gate is read, and shut as the file gets longer; or the file is handed back on the way.
use Rattle.std.proofs.Common.{◌∙◌, ap, arith}
use Rattle.pk_filedisk.specs.Resized.{resized}
use Rattle.pk_grow.specs.Shutting.{shutting}
use Rattle.pk_grow.proofs.FileLemmas.{IsRead, got_longer, not_asked, was_read}
use Rattle.pk_grow.proofs.file.shut_and_lengthened.Given as given
use Rattle.pk_grow.proofs.file.shut_and_lengthened.Goals as goal
use Rattle.pk_grow.proofs.file.shut_and_lengthened.Goals.{After-gate_open}

module _ (g : given.Over) (c : goal.After-gate_open g) (honest : g.F.RawFile.honest) where
  read : IsRead g.F.RawFile (resized c.args.disk.len (g.F.RawFile.content c.args.disk.file)) c.args.disk.file c.gate_open.new.disk.file
  read =
      let mid = c.gate_open.new.disk in
      let only = c.gate_open.ensures.read honest in
      was_read g.F.RawFile (λ d. d.file) c.args.disk mid _ mid.len only.images (mid.fits honest) only.bytes (only.positions ∙ c.requires.closed honest)

pub returns-in_default-clause-left : goal.returns-in_default-clause-left
returns-in_default-clause-left g c = λ honest.
    let w = goal.at.returns-in_default-clause-left g c in
    rw c.into_file.ensures (not_asked (read g w.After-gate_open honest) c.args.spare)

pub returns-clause-longer : goal.returns-clause-longer
returns-clause-longer g c = λ honest.
    let w = goal.at.returns-clause-longer g c in
    let same = (c.gate_open.ensures.read honest).bytes in
    let shuts = c.shutting.ensures ∙ ap shutting (c.in-Ok.ensures.given honest) in
    got_longer (read g w.After-gate_open honest) c.args.spare c.gate.result c.args.len c.shutting.result.now c.gate.ensures shuts c.lengthen.result (λ d. d.file) (λ d. resized d.len (g.F.RawFile.content d.file))
    c.requires.size (omega (arith, c.requires.longer)) (rw same at (c.lengthen.ensures.content honest)) (rw same at (c.lengthen.ensures.images honest))
