-- What is read is the word that comes next.
use Rattle.std.proofs.Common.{arith, refl}
use Rattle.std.proofs.lemmas.Result.{err_from_is_err_and}
use Rattle.pk_dict.proofs.Coming.{no_damage, stands_next}
use Rattle.pk_dict.proofs.cursor.TermCursor.advance.Goals as goal

pub returns-in_err-entry-clause-at : goal.returns-in_err-entry-clause-at
returns-in_err-entry-clause-at g c h es n k =
    let p = err_from_is_err_and c.from_residual.result c.from_residual.ensures.1 in
    let read = k.read in
    let count = k.count in
    rw (p.1, p.2) (no_damage _ c.args.self.now es n _ c.in_err-entry.field-0.0 k (omega arith) (c.in_err-entry.ensures.value h k.held))

pub returns-clause-at : goal.returns-clause-at
returns-clause-at g c h es n k =
    let read = k.read in
    let count = k.count in
    stands_next _ c.args.self.now _ es n k (omega arith) (c.in_ok-entry.ensures.value h k.held) refl refl refl (c.in_ok-entry.ensures.held h k.held)
