-- All from `from` to the place is below x, and written.
use Rattle.std.proofs.Common.{arith, ap, sym, ◌∙◌, ◌≡◌, ◌+◌, ◌-◌, ◌++◌, ◌∷◌, [], slice_index, take, append_assoc, append-nil}
use Rattle.std.specs.Simd.Lanes.{chunk}
use Rattle.pk_sets.proofs.PartLemmas.{stored_one, one_chunk, chunk_more, run_on, part_of_run}
use Rattle.pk_sets.proofs.writing.put_below.Goals as goal

pub fours-preserved : goal.fours-preserved
fours-preserved c =
    let xs = c.args.xs.now in
    let from = c.args.from in
    let at = c.fours.at in
    let place : at + 4 - 1 ≡ at + 3 = omega arith in
    record {
      lower = omega arith;
      upper = omega arith;
      before = λ h. rw place c.if-xs-at.true;
      place = omega arith;
      found = c.put_four.ensures ∙ ap (λ l. l ++ chunk at 4 xs) c.fours.invariant.found
          ∙ append_assoc (take c.args.n c.args.out.now) (chunk from (at - from) xs) (chunk at 4 xs)
          ∙ ap (λ l. take c.args.n c.args.out.now ++ l) (chunk_more from at 4 xs (omega arith));
    }

pub ones-init : goal.ones-init
ones-init c =
    let none : c.fours.at - c.fours.at ≡ 0 = omega arith in
    record {
      lower = omega arith;
      upper = omega arith;
      before = c.fours.invariant.before;
      place = omega arith;
      found = rw none (sym (append-nil (take c.fours.to c.fours.out)));
    }

pub ones-preserved : goal.ones-preserved
ones-preserved c =
    let xs = c.args.xs.now in
    let from = c.fours.at in
    let at = c.ones.at in
    let front = take c.fours.to c.fours.out in
    let place : at + 1 - 1 ≡ at = omega arith in
    record {
      lower = omega arith;
      upper = omega arith;
      before = λ h. rw place c.if-xs-at-2.true;
      place = omega arith;
      found = stored_one c.ones.to c.ones.out (slice_index xs at) (omega arith)
          ∙ ap (λ l. l ++ (slice_index xs at ∷ [])) c.ones.invariant.found
          ∙ append_assoc front (chunk from (at - from) xs) (slice_index xs at ∷ [])
          ∙ ap (λ l. front ++ (chunk from (at - from) xs ++ l)) (sym (one_chunk at xs (omega arith)))
          ∙ ap (λ l. front ++ l) (chunk_more from at 1 xs (omega arith));
    }

pub returns-then-xs-at-ge4-clause-found : goal.returns-then-xs-at-ge4-clause-found
returns-then-xs-at-ge4-clause-found c =
    let xs = c.args.xs.now in
    let at = c.fours.at in
    let to = c.fours.to in
    let some = c.count_below.result in
    let size : at + some - at ≡ some = omega arith in
    let part = part_of_run to 4 some at xs c.put_four-then-xs-at-ge4.new.out c.fours.out (omega arith) (omega arith) c.put_four-then-xs-at-ge4.ensures in
    run_on c.args.n c.args.from at (at + some) to (to + some) _ xs c.put_four-then-xs-at-ge4.new.out c.fours.out c.args.out.now (omega arith) (omega arith) (omega arith)
    (rw size part) c.fours.invariant.found

pub returns-else-xs-at-2-clause-found : goal.returns-else-xs-at-2-clause-found
returns-else-xs-at-2-clause-found c =
    run_on c.args.n c.args.from c.fours.at c.ones.at c.fours.to c.ones.to _ c.args.xs.now c.ones.out c.fours.out c.args.out.now (omega arith) (omega arith) (omega arith)
    c.ones.invariant.found c.fours.invariant.found

pub returns-after-ones-clause-found : goal.returns-after-ones-clause-found
returns-after-ones-clause-found c =
    run_on c.args.n c.args.from c.fours.at c.ones.at c.fours.to c.ones.to _ c.args.xs.now c.ones.out c.fours.out c.args.out.now (omega arith) (omega arith) (omega arith)
    c.ones.invariant.found c.fours.invariant.found
