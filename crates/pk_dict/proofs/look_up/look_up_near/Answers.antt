-- Where a term stands in a dictionary says its entry.
use Rattle.std.proofs.Common.{subst, List, ℕ}
use Rattle.pk_dict.specs.LookUp.{scanned}
use Rattle.pk_dict.specs.Place.{bytes_at}
use Rattle.pk_dict.specs.Reading.{Gives}
use Rattle.pk_dict.proofs.Probing.{says_entry}
use Rattle.pk_dict.proofs.Told.{answer_said}
use Rattle.pk_dict.proofs.look_up.look_up_near.Goals as goal

pub returns-clause-found : goal.returns-clause-found
returns-clause-found g c = λ h es lies d len.
    let place = c.args.place in
    let term : List ℕ = c.args.term.now in
    let standing = c.in_ok-standing.standing in
    let same = c.in_ok-standing.ensures.left.same h in
    says_entry (bytes_at (g.S.ByteSource.content c.args.source.now) place) es term place.terms standing _ d len (c.in_ok-standing.ensures.stands h es d len)
    (subst (λ (l : List ℕ). Gives c.scan_after.result (scanned (bytes_at l place) place.terms term standing)) same (c.scan_after.ensures.value h))

pub returns-clause-said : goal.returns-clause-said
returns-clause-said g c = λ h.
    let place = c.args.place in
    let term : List ℕ = c.args.term.now in
    let standing = c.in_ok-standing.standing in
    answer_said (bytes_at (g.S.ByteSource.content c.args.source.now) place) place.terms term standing _ (c.in_ok-standing.ensures.told h)
    (subst (λ (l : List ℕ). Gives c.scan_after.result (scanned (bytes_at l place) place.terms term standing)) (c.in_ok-standing.ensures.left.same h) (c.scan_after.ensures.value h))
