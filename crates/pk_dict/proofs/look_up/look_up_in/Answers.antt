-- The halving takes so many asks, and then the scan; a dictionary's bytes say its entries.
use Rattle.std.proofs.Common.{arith, subst, List, ℕ, Ok, Err}
use Rattle.std.proofs.lemmas.Result.{err_from_is_err_and}
use Rattle.pk_dict.specs.LookUp.{scanned}
use Rattle.pk_dict.specs.Place.{bytes_at}
use Rattle.pk_dict.specs.Reading.{Gives}
use Rattle.pk_dict.proofs.Halving.{then_scan}
use Rattle.pk_dict.proofs.Probing.{ends_well, says_entry}
use Rattle.pk_dict.proofs.look_up.look_up_in.Goals as goal

pub returns-in_err-standing-clause-found : goal.returns-in_err-standing-clause-found
returns-in_err-standing-clause-found g c = λ h es lies d len.
    let p = err_from_is_err_and c.from_residual.result c.from_residual.ensures.1 in
    rw (p.1, p.2) (ends_well (bytes_at (g.S.ByteSource.content c.args.source.now) c.args.place) es c.args.term.now c.args.place.terms (Err c.in_err-standing.field-0.0) d len (c.in_err-standing.ensures.value h))

pub returns-clause-found : goal.returns-clause-found
returns-clause-found g c = λ h es lies d len.
    let place = c.args.place in
    let here : List ℕ = bytes_at (g.S.ByteSource.content c.args.source.now) place in
    says_entry here es c.args.term.now place.terms c.in_ok-standing.standing _ d len (ends_well here es c.args.term.now place.terms (Ok c.in_ok-standing.standing) d len (c.in_ok-standing.ensures.value h))
    (subst (λ (l : List ℕ). Gives c.scan_after.result (scanned (bytes_at l place) place.terms c.args.term.now c.in_ok-standing.standing)) (c.in_ok-standing.ensures.left.same h) (c.scan_after.ensures.value h))

pub returns-clause-asks : goal.returns-clause-asks
returns-clause-asks g c k h = then_scan k _ 15 _ _ _ (c.in_ok-standing.ensures.asks k h) c.scan_after.ensures.left.asks (omega arith)
