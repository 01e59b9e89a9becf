-- A page that is kept is found, and has the part.
use Rattle.std.proofs.Common.{◌+◌, ◌≤◌, length, arith}
use Rattle.pk_pages.proofs.cache.copy_kept.Goals as goal

pub returns-in_default-clause-hit : goal.returns-in_default-clause-hit
returns-in_default-clause-hit c kept = absurd (c.in_default.ensures.found (c.args.from + length c.args.out.now) kept)

pub returns-then-page-end-clause-hit : goal.returns-then-page-end-clause-hit
returns-then-page-end-clause-hit c kept =
    let room : c.args.from + length c.args.out.now ≤ length c.in-Some.page.now = c.in-Some.ensures.found (c.args.from + length c.args.out.now) kept in
    absurd (omega arith)
