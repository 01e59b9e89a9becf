-- Faults that are passed on.
use Rattle.std.proofs.Common.{◌≡◌, ◌∙◌, sym, ap, subst, Result, Err}
use Rattle.std.specs.Prelude.{IsErrAnd}
use Rattle.std.proofs.lemmas.Result.{err_from_is_err_and}

-- what holds of a fault holds of the answer that passes it on
pub passed_on : {T E : Type 0} {x : E} (P : Result T E → Type 0) (r : Result T E) → IsErrAnd r (λ y. y ≡ x)
    → P (Err x) → P r
passed_on P r is holds =
    let found = err_from_is_err_and r is in
    subst P (sym (found.1 ∙ ap Err found.2)) holds
