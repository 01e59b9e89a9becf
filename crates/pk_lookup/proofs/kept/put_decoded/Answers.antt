-- One block more: it is the list's.
use Rattle.std.proofs.Common.{◌∙◌, ◌+◌, ◌*◌, ◌++◌, ◌<◌, ◌≤◌, List, ℕ, length, take, append_assoc, sym, ap, subst, arith, rules}
use Rattle.std.proofs.lemmas.Result.{err_from_is_err_and}
use Rattle.pk_posting.proofs.BlockLemmas.{take_block}
use Rattle.pk_posting.specs.Parts.{HasShape, bytes_at}
use Rattle.pk_segment.proofs.PutsLemmas.{puts_disk}
use Rattle.pk_lookup.proofs.kept.put_decoded.Goals as goal

pub returns-in_err-block_in-clause-numbers : goal.returns-in_err-block_in-clause-numbers
returns-in_err-block_in-clause-numbers g c = λ h xs has.
    let here = subst (λ (x : List ℕ). HasShape (bytes_at x c.args.place) c.args.shape xs) (sym (c.loop-block.invariant.left.same h)) has in
    let err = err_from_is_err_and c.from_residual.result c.from_residual.ensures.1 in
    puts_disk _ _ _ err.0 c.in_err-block_in.field-0.0 err.1 err.2 (c.in_err-block_in.ensures.spelled h xs here (omega (arith, c.loop-block-test.true)))

pub loop-block-preserved : goal.loop-block-preserved
loop-block-preserved g c =
    let before = c.loop-block.invariant in
    let k = c.loop-block.block in
    let read = c.in_ok-block_in.ensures.left in
    let inside : k < c.args.shape.blocks = omega (arith, c.loop-block-test.true) in
    record {
      whole = c.in_ok-put_block.ensures.whole;
      left = search rules;
      out = λ h xs has. (
          let here = subst (λ (x : List ℕ). HasShape (bytes_at x c.args.place) c.args.shape xs) (sym (before.left.same h)) has in
          let is = c.in_ok-block_in.ensures.spelled h xs here inside in
          let room : 128 * k + 128 ≤ length xs = omega (arith, has.blocks, inside) in
          c.in_ok-put_block.ensures.items ∙ ap (λ (ns : List ℕ). ns ++ c.block_in.new.xs) (before.out h xs has)
          ∙ append_assoc c.args.out.now.items (take (128 * k) xs) c.block_in.new.xs
          ∙ ap (λ (ns : List ℕ). c.args.out.now.items ++ ns) (ap (λ (ns : List ℕ). take (128 * k) xs ++ ns) is ∙ sym (take_block k xs room)));
    }
