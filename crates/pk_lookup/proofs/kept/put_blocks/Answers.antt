-- One block more: it is kept, and it is the list's.
use Rattle.std.proofs.Common.{◌∙◌, ◌+◌, ◌*◌, ◌++◌, ◌<◌, ◌≤◌, List, ℕ, Some, length, take, append_assoc, refl, sym, ap, subst, arith, rules}
use Rattle.std.proofs.lemmas.Result.{err_from_is_err_and}
use Rattle.pk_cache.proofs.CallerLemmas.{block_at}
use Rattle.pk_cache.specs.declared.key.BlockKey.{BlockKey}
use Rattle.pk_cache.specs.Kept.{IsBlockAt}
use Rattle.pk_posting.proofs.BlockLemmas.{take_block}
use Rattle.pk_posting.specs.Parts.{HasShape, bytes_at}
use Rattle.pk_lookup.specs.Cached.{KeepsBlocksOf}
use Rattle.pk_lookup.proofs.CacheLemmas.{adds_block, adds_refused, adds_then, if_kept, keeps_block, keeps_refused}
use Rattle.pk_segment.proofs.PutsLemmas.{puts_disk}
use Rattle.pk_lookup.proofs.kept.put_blocks.Goals as goal

pub returns-in_err-numbers-clause-numbers : goal.returns-in_err-numbers-clause-numbers
returns-in_err-numbers-clause-numbers g c = λ h xs has mine.
    let before = c.loop-block.invariant in
    let key : BlockKey = record { segment = c.args.list.segment; at = c.args.list.place.at; block = c.loop-block.block } in
    let here = subst (λ (x : List ℕ). HasShape (bytes_at x c.args.list.place) c.args.shape xs) (sym (before.left.same h)) has in
    let kept = subst (λ (x : List ℕ). KeepsBlocksOf c.args.list.segment x (Some c.loop-block.cache)) (sym (before.left.same h)) (before.cached h xs has mine) in
    let err = err_from_is_err_and c.from_residual.result c.from_residual.ensures.1 in
    puts_disk _ _ _ err.0 c.in_err-numbers.field-0.0 err.1 err.2
    (c.in_err-numbers.ensures.spelled h xs here (omega (arith, c.loop-block-test.true)) (if_kept c.args.list.segment _ c.loop-block.cache key refl kept))

pub returns-in_err-numbers-clause-cached : goal.returns-in_err-numbers-clause-cached
returns-in_err-numbers-clause-cached g c = λ h xs has mine.
    keeps_refused c.args.list.segment _ c.loop-block.cache c.block.new.self c.in_err-numbers.ensures.refused (c.loop-block.invariant.cached h xs has mine)

pub returns-in_err-numbers-clause-adds : goal.returns-in_err-numbers-clause-adds
returns-in_err-numbers-clause-adds g c =
    adds_then c.args.list.segment _ _ _ c.loop-block.invariant.adds (adds_refused c.args.list.segment c.loop-block.cache c.block.new.self c.in_err-numbers.ensures.refused)

pub returns-in_err-put_block-clause-cached : goal.returns-in_err-put_block-clause-cached
returns-in_err-put_block-clause-cached g c = λ h xs has mine.
    let before = c.loop-block.invariant in
    let key : BlockKey = record { segment = c.args.list.segment; at = c.args.list.place.at; block = c.loop-block.block } in
    let here = subst (λ (x : List ℕ). HasShape (bytes_at x c.args.list.place) c.args.shape xs) (sym (before.left.same h)) has in
    let kept = before.cached h xs has mine in
    let there = subst (λ (x : List ℕ). KeepsBlocksOf c.args.list.segment x (Some c.loop-block.cache)) (sym (before.left.same h)) kept in
    let inside : c.loop-block.block < c.args.shape.blocks = omega (arith, c.loop-block-test.true) in
    let is = c.in_ok-numbers.ensures.spelled h xs here inside (if_kept c.args.list.segment _ c.loop-block.cache key refl there) in
    let at = subst (λ (ys : List ℕ). IsBlockAt (g.S.ByteSource.content c.args.source.now) key ys) (sym is) (block_at (g.S.ByteSource.content c.args.source.now) c.args.list.place c.args.shape xs key refl has inside) in
    keeps_block c.args.list.segment _ c.loop-block.cache c.block.new.self key c.in_ok-numbers.numbers c.in_ok-numbers.ensures.order at kept

pub returns-in_err-put_block-clause-adds : goal.returns-in_err-put_block-clause-adds
returns-in_err-put_block-clause-adds g c =
    let key : BlockKey = record { segment = c.args.list.segment; at = c.args.list.place.at; block = c.loop-block.block } in
    adds_then c.args.list.segment _ _ _ c.loop-block.invariant.adds (adds_block c.args.list.segment c.loop-block.cache c.block.new.self key c.in_ok-numbers.numbers refl c.in_ok-numbers.ensures.order)

pub loop-block-preserved : goal.loop-block-preserved
loop-block-preserved g c =
    let before = c.loop-block.invariant in
    let k = c.loop-block.block in
    let key : BlockKey = record { segment = c.args.list.segment; at = c.args.list.place.at; block = k } in
    let read = c.in_ok-numbers.ensures.left in
    let inside : c.loop-block.block < c.args.shape.blocks = omega (arith, c.loop-block-test.true) in
    record {
      whole = c.in_ok-put_block.ensures.whole;
      left = search rules;
      adds = adds_then c.args.list.segment _ _ _ before.adds (adds_block c.args.list.segment c.loop-block.cache c.block.new.self key c.in_ok-numbers.numbers refl c.in_ok-numbers.ensures.order);
      cached = λ h xs has mine. (
          let here = subst (λ (x : List ℕ). HasShape (bytes_at x c.args.list.place) c.args.shape xs) (sym (before.left.same h)) has in
          let kept = before.cached h xs has mine in
          let there = subst (λ (x : List ℕ). KeepsBlocksOf c.args.list.segment x (Some c.loop-block.cache)) (sym (before.left.same h)) kept in
          let is = c.in_ok-numbers.ensures.spelled h xs here inside (if_kept c.args.list.segment _ c.loop-block.cache key refl there) in
          let at = subst (λ (ys : List ℕ). IsBlockAt (g.S.ByteSource.content c.args.source.now) key ys) (sym is) (block_at (g.S.ByteSource.content c.args.source.now) c.args.list.place c.args.shape xs key refl has inside) in
          keeps_block c.args.list.segment _ c.loop-block.cache c.block.new.self key c.in_ok-numbers.numbers c.in_ok-numbers.ensures.order at kept);
      out = λ h xs has mine. (
          let here = subst (λ (x : List ℕ). HasShape (bytes_at x c.args.list.place) c.args.shape xs) (sym (before.left.same h)) has in
          let there = subst (λ (x : List ℕ). KeepsBlocksOf c.args.list.segment x (Some c.loop-block.cache)) (sym (before.left.same h)) (before.cached h xs has mine) in
          let is = c.in_ok-numbers.ensures.spelled h xs here inside (if_kept c.args.list.segment _ c.loop-block.cache key refl there) in
          let room : 128 * k + 128 ≤ length xs = omega (arith, has.blocks, inside) in
          c.in_ok-put_block.ensures.items ∙ ap (λ (ns : List ℕ). ns ++ c.in_ok-numbers.numbers) (before.out h xs has mine)
          ∙ append_assoc c.args.out.now.items (take (128 * k) xs) c.in_ok-numbers.numbers
          ∙ ap (λ (ns : List ℕ). c.args.out.now.items ++ ns) (ap (λ (ns : List ℕ). take (128 * k) xs ++ ns) is ∙ sym (take_block k xs room)));
    }
