-- The halving keeps what it knows of both sides.
use Rattle.std.proofs.Common.{sym, subst, arith, rules, List, ℕ, ◌+◌, ◌<◌, ◌-◌, ◌/◌, length}
use Rattle.pk_segment.specs.Fields.{IsEntry, entry_field}
use Rattle.pk_segment.proofs.DirectoryLemmas.{says}
use Rattle.pk_segment.proofs.ReadLemmas.{below_middle, above_middle, none_between, halved}
use Rattle.pk_segment.proofs.segment.Segment.entry_with.Goals as goal

pub returns-then-entry-number-clause-found : goal.returns-then-entry-number-clause-found
returns-then-entry-number-clause-found g c = λ honest docs kind is of.
    let content = g.S.ByteSource.content in
    let middle = c.loop-low.low + (c.loop-low.high - c.loop-low.low) / 2 in
    let lt : middle < length docs = omega (arith, of.count_is, c.loop-low.invariant.within, c.loop-low-test.true) in
    let at = subst (λ (x : List ℕ). IsEntry (entry_field x middle) c.in_ok-entry.entry) (c.loop-low.invariant.left.same honest) (c.in_ok-entry.ensures.value honest) in
    (middle, lt, c.if-entry-number.true, says (content c.args.source.now) docs kind middle c.in_ok-entry.entry is lt at)

pub returns-then-entry-number-clause-said : goal.returns-then-entry-number-clause-said
returns-then-entry-number-clause-said g c = λ honest.
    let middle = c.loop-low.low + (c.loop-low.high - c.loop-low.low) / 2 in
    let at = subst (λ (x : List ℕ). IsEntry (entry_field x middle) c.in_ok-entry.entry) (c.loop-low.invariant.left.same honest) (c.in_ok-entry.ensures.value honest) in
    (middle, omega (arith, c.loop-low.invariant.within, c.loop-low-test.true), sym c.if-entry-number.true, at)

pub loop-low-preserved-then-entry-number-2 : goal.loop-low-preserved-then-entry-number-2
loop-low-preserved-then-entry-number-2 g c =
    let content = g.S.ByteSource.content in
    let asked = g.S.ByteSource.asked in
    let middle = c.loop-low.low + (c.loop-low.high - c.loop-low.low) / 2 in
    record {
      left = search rules;
      within = c.loop-low.invariant.within;
      asked = λ k lt. let was = c.loop-low.invariant.asked k lt in
          let now = halved was.0 (c.loop-low.high - c.loop-low.low) (asked c.loop-low.source) (asked c.args.source.now) k (omega (arith, c.loop-low-test.true)) was.1 was.2 in
          (now.0, omega (arith, now.1, c.loop-low-test.true), omega (arith, now.2, c.entry_of.ensures.left.asks));
      below = λ honest docs kind is of i le.
          let lt : middle < length docs = omega (arith, of.count_is, c.loop-low.invariant.within, c.loop-low-test.true) in
          let at = subst (λ (x : List ℕ). IsEntry (entry_field x middle) c.in_ok-entry.entry) (c.loop-low.invariant.left.same honest) (c.in_ok-entry.ensures.value honest) in
          let entry = says (content c.args.source.now) docs kind middle c.in_ok-entry.entry is lt at in
          below_middle docs middle i c.args.number _ _ _ is.spelled.are lt entry c.if-entry-number-2.true le;
      above = c.loop-low.invariant.above;
    }

pub loop-low-preserved : goal.loop-low-preserved
loop-low-preserved g c =
    let content = g.S.ByteSource.content in
    let asked = g.S.ByteSource.asked in
    let middle = c.loop-low.low + (c.loop-low.high - c.loop-low.low) / 2 in
    record {
      left = search rules;
      within = omega (arith, c.loop-low.invariant.within, c.loop-low-test.true);
      asked = λ k lt. let was = c.loop-low.invariant.asked k lt in
          let now = halved was.0 (c.loop-low.high - c.loop-low.low) (asked c.loop-low.source) (asked c.args.source.now) k (omega (arith, c.loop-low-test.true)) was.1 was.2 in
          (now.0, omega (arith, now.1, c.loop-low-test.true), omega (arith, now.2, c.entry_of.ensures.left.asks));
      below = c.loop-low.invariant.below;
      above = λ honest docs kind is of i le long.
          let lt : middle < length docs = omega (arith, of.count_is, c.loop-low.invariant.within, c.loop-low-test.true) in
          let at = subst (λ (x : List ℕ). IsEntry (entry_field x middle) c.in_ok-entry.entry) (c.loop-low.invariant.left.same honest) (c.in_ok-entry.ensures.value honest) in
          let entry = says (content c.args.source.now) docs kind middle c.in_ok-entry.entry is lt at in
          let more : c.args.number < c.in_ok-entry.entry.number = omega (arith, c.if-entry-number.false, c.if-entry-number-2.false) in
          above_middle docs middle i c.args.number _ _ _ is.spelled.are lt entry more le long;
    }

pub returns-clause-found : goal.returns-clause-found
returns-clause-found g c = λ honest docs kind is of.
    none_between docs c.loop-low.low c.loop-low.high c.args.number c.loop-low-test.false
    (c.loop-low.invariant.below honest docs kind is of) (c.loop-low.invariant.above honest docs kind is of)
