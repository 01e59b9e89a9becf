-- The terms that a piece has whole are those of the dictionary; one that it has not whole is read by itself.
use Rattle.std.proofs.Common.{arith, subst, ◌∙◌, ◌≡◌, ◌+◌, length, List, ℕ, Ok, Err}
use Rattle.std.proofs.lemmas.Result.{err_from_is_err_and}
use Rattle.pk_posting.specs.declared.source.SourceFault.TheVariants as faults
use Rattle.pk_dict.specs.Place.{bytes_at}
use Rattle.pk_dict.specs.Reading.{Fails, step_at}
use Rattle.pk_dict.proofs.Parts.{length_bytes_at, number_lent}
use Rattle.pk_dict.proofs.Pieces.{lent_piece}
use Rattle.pk_dict.proofs.Scan.{first_fails, leaves_by, next_damaged, next_is, scan_first}
use Rattle.pk_dict.proofs.Shared.{number_past}
use Rattle.pk_dict.proofs.steps.scan_on.Goals as goal

pub returns-then-place-at-clause-value : goal.returns-then-place-at-clause-value
returns-then-place-at-clause-value g c h =
    let here : List ℕ = bytes_at (g.S.ByteSource.content c.args.source.now) c.args.place in
    scan_first c.args.left.count here _ _ c.args.left.at (Err faults.Damaged) c.requires.some
    (next_damaged here _ _ c.args.left.at (number_past here c.args.left.at (omega (arith, length_bytes_at (g.S.ByteSource.content c.args.source.now) c.args.place c.requires.lies.0, c.if-place-at.true))))

pub returns-in-Some-clause-value : goal.returns-in-Some-clause-value
returns-in-Some-clause-value g c h =
    c.in-Some.ensures.value _ (lent_piece _ c.args.place c.min.result c.args.left.at _ (record { lies = c.requires.lies.0; inside = omega arith; is = c.in_ok-piece.ensures.value h }) c.in_ok-piece.ensures.lent)

pub returns-in_default-take-clause-value : goal.returns-in_default-take-clause-value
returns-in_default-take-clause-value g c h =
    scan_first c.args.left.count _ _ _ c.args.left.at (Err faults.Damaged) c.requires.some
    (next_damaged _ _ _ c.args.left.at (number_lent _ c.args.place c.min.result c.args.left.at _ (Err c.in_default-take.field-0) (record { lies = c.requires.lies.0; inside = omega arith; is = c.in_ok-piece.ensures.value h }) (omega arith) c.in_default-take.ensures.exact))

pub returns-in_err-step-clause-value : goal.returns-in_err-step-clause-value
returns-in_err-step-clause-value g c h =
    let p = err_from_is_err_and c.from_residual-in_err-step.result c.from_residual-in_err-step.ensures.1 in
    let here : List ℕ = bytes_at (g.S.ByteSource.content c.args.source.now) c.args.place in
    let fault = c.in_err-step.field-0.0 in
    let first = number_lent _ c.args.place c.min.result c.args.left.at _ (Ok (c.in-Ok.kept, c.in-Ok.taken)) (record { lies = c.requires.lies.0; inside = omega arith; is = c.in_ok-piece.ensures.value h }) (omega arith) c.in-Ok.ensures.exact in
    let fails = subst (λ (l : List ℕ). Fails fault (step_at (bytes_at l c.args.place) c.args.term.now c.in-Ok.kept c.args.left.matched (c.args.left.at + c.in-Ok.taken))) (c.bytes.follows.holds-at-none.same h) (c.in_err-step.ensures.value h) in
    rw (p.1, p.2) (first_fails c.args.left.count here c.args.term.now c.args.left.matched c.args.left.at fault c.requires.some (rw (next_is here c.args.term.now c.args.left.matched c.args.left.at c.in-Ok.kept (c.args.left.at + c.in-Ok.taken) first) fails))

pub returns-clause-value : goal.returns-clause-value
returns-clause-value g c h =
    let here : List ℕ = bytes_at (g.S.ByteSource.content c.args.source.now) c.args.place in
    let first = number_lent _ c.args.place c.min.result c.args.left.at _ (Ok (c.in-Ok.kept, c.in-Ok.taken)) (record { lies = c.requires.lies.0; inside = omega arith; is = c.in_ok-piece.ensures.value h }) (omega arith) c.in-Ok.ensures.exact in
    let step = subst (λ (l : List ℕ). step_at (bytes_at l c.args.place) c.args.term.now c.in-Ok.kept c.args.left.matched (c.args.left.at + c.in-Ok.taken) ≡ Ok c.in_ok-step.step) (c.bytes.follows.holds-at-none.same h) (c.in_ok-step.ensures.value h) in
    leaves_by here c.args.term.now _ _ c.went.result
    (scan_first c.args.left.count here c.args.term.now c.args.left.matched c.args.left.at (Ok c.in_ok-step.step) c.requires.some (next_is here c.args.term.now c.args.left.matched c.args.left.at c.in-Ok.kept (c.args.left.at + c.in-Ok.taken) first ∙ step))
    (c.went.ensures.value here c.args.term.now)

pub returns-clause-fewer : goal.returns-clause-fewer
returns-clause-fewer g c = c.went.ensures.fewer c.args.left.count (length c.args.term.now) (omega arith) c.in_ok-step.ensures.matched
