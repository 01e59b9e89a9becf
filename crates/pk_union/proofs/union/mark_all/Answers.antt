-- One number more is marked; at the end all are.
use Rattle.std.proofs.Common.{◌∙◌, ◌||◌, ◌-◌, ◌<◌, ℕ, List, length, length-set, slice_index_or, ap, arith}
use Rattle.std.proofs.lemmas.List.{take_all}
use Rattle.pk_union.specs.Union.{IsWithin, marked}
use Rattle.pk_union.proofs.MarkLemmas.{set_all, set_more}
use Rattle.pk_union.proofs.PlaceLemmas.{number_at}
use Rattle.pk_sets.specs.Sets.{has}
use Rattle.pk_union.proofs.union.mark_all.Goals as goal

pub loop-i-preserved : goal.loop-i-preserved
loop-i-preserved c =
    let before = c.loop-i.invariant in
    let list = c.args.list.now in
    let i = c.loop-i.i in
    let x = slice_index_or list i 0 in
    let within : IsWithin c.args.first (length c.args.marks.now) x = c.requires i 0 c.loop-i-test.true in
    let inside : x - c.args.first < length c.loop-i.marks = omega (arith, within.0, within.1, before.long) in
    record {
      long = length-set c.loop-i.marks (x - c.args.first) _ ∙ before.long;
      numbers = set_more c.args.first i (x - c.args.first) x list c.loop-i.marks c.args.marks.now inside (omega (arith, within.0)) c.loop-i-test.true
          (number_at list i c.loop-i-test.true) before.numbers;
    }

pub returns-clause-numbers : goal.returns-clause-numbers
returns-clause-numbers c =
    let list = c.args.list.now in
    set_all c.args.first list c.loop-i.marks c.args.marks.now
    (λ n. c.loop-i.invariant.numbers n ∙ ap (λ (l : List ℕ). has l n || has (marked c.args.first c.args.marks.now) n) (take_all c.loop-i.i list (omega (arith, c.loop-i-test.false))))
