-- Before the range numbers are smaller, behind it greater.
use Rattle.std.proofs.Common.{◌<◌, length, arith}
use Rattle.pk_segment.proofs.RangeLemmas.{above_first, below_last}
use Rattle.pk_segment.proofs.segment.Segment.range_of.Goals as goal

pub returns-then-number-first-clause-above : goal.returns-then-number-first-clause-above
returns-then-number-first-clause-above c = λ docs are of i le lt.
    omega (arith, above_first c.args.self.now docs i are of lt, c.if-number-first.true)

pub returns-then-last-number-clause-below : goal.returns-then-last-number-clause-below
returns-then-last-number-clause-below c = λ docs are of i lt.
    let inside : i < length docs = omega (arith, of.count_is, lt) in
    omega (arith, below_last c.args.self.now docs i are of inside, c.if-last-number.true)

pub returns-clause-below : goal.returns-clause-below
returns-clause-below c = λ docs are of i lt.
    let inside : i < length docs = omega (arith, of.count_is, lt, c.saturating_sub.ensures) in
    omega (arith, below_last c.args.self.now docs i are of inside, of.count_is, lt, c.saturating_sub.ensures, c.saturating_add-behind.ensures, c.ranges.number.fits)

pub returns-clause-above : goal.returns-clause-above
returns-clause-above c = λ docs are of i le lt.
    omega (arith, above_first c.args.self.now docs i are of lt, of.count_is, le, c.min.ensures, c.saturating_add-ahead.ensures, c.ranges.number.fits)
