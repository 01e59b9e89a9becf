-- One more than stood there, or than its place.
use Rattle.std.proofs.Common.{◌≡◌, ◌+◌, ◌∙◌, ap, arith, length, Result, Ok, Err, OnErr}
use Rattle.std.proofs.lemmas.List.{length-append}
use Rattle.pk_lookup.proofs.pivots.PivotTables.put.Goals as goal

on_err : {T E : Type 0} (P : Type 0) (r : Result T E) → P → OnErr r P
on_err P (Ok x) p = tt
on_err P (Err e) p = p

pub returns-clause-ok : goal.returns-clause-ok
returns-clause-ok c =
    let pushed : length c.push-2.new.self.items ≡ length c.loop.self.tables.items + 1 = ap length c.in_ok-push-2.ensures.items ∙ length-append c.loop.self.tables.items _ in
    omega (arith, pushed, c.loop.invariant.0, c.loop.invariant.1)

pub returns-in_err-push-2-clause-err : goal.returns-in_err-push-2-clause-err
returns-in_err-push-2-clause-err c =
    let kept : length c.push-2.new.self.items ≡ length c.loop.self.tables.items = ap length c.in_err-push-2.ensures.items in
    on_err _ c.from_residual-in_err-push-2.result (omega (arith, kept, c.loop.invariant.0, c.loop.invariant.1))
