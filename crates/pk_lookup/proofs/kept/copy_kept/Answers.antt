-- The whole blocks, and then the tail.
use Rattle.std.proofs.Common.{◌∙◌, ◌*◌, ◌++◌, List, ℕ, Some, take, drop, sym, ap, subst}
use Rattle.std.proofs.lemmas.List.{take-append-drop}
use Rattle.pk_posting.specs.Parts.{HasShape, bytes_at}
use Rattle.pk_lookup.specs.Cached.{KeepsBlocksOf}
use Rattle.pk_segment.specs.Puts.{PutsAs}
use Rattle.pk_lookup.proofs.kept.copy_kept.Goals as goal

pub returns-clause-numbers : goal.returns-clause-numbers
returns-clause-numbers g c = λ h xs lies mine.
    let place = c.args.list.place in
    let shape = c.in_ok-shape.shape in
    let n = 128 * shape.blocks in
    let has = c.in_ok-shape.ensures.spelled h xs lies.inside lies.spelled in
    let same = sym (c.in_ok-shape.ensures.left.same h) in
    let here = subst (λ (x : List ℕ). HasShape (bytes_at x place) shape xs) same has in
    let kept = subst (λ (x : List ℕ). KeepsBlocksOf c.args.list.segment x (Some c.args.cache.now)) same mine in
    let there = subst (λ (x : List ℕ). HasShape (bytes_at x place) shape xs) (sym (c.in_ok-put_blocks.ensures.left.same h)) here in
    let whole = c.in_ok-put_blocks.ensures.numbers h xs here kept ∙ ap (λ (ns : List ℕ). ns ++ take n xs) (c.reserve.ensures.items ∙ c.clear.ensures.items) in
    subst (λ (ns : List ℕ). PutsAs ns c.put_tail.new.out.items c.put_tail.result)
    (ap (λ (ns : List ℕ). ns ++ drop n xs) whole ∙ take-append-drop n xs) (c.put_tail.ensures.numbers h xs there)
