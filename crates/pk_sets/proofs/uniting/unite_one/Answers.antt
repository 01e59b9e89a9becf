-- The lower head is the first number of the union.
use Rattle.std.proofs.Common.{arith, ap, sym, ◌∙◌, ◌+◌, ◌++◌, ◌∷◌, [], min, slice_index, slice_set, take, drop, append_assoc}
use Rattle.pk_sets.specs.Sets.{union}
use Rattle.pk_sets.proofs.PartLemmas.{stored_one}
use Rattle.pk_sets.proofs.UnionLemmas.{Heads, union_step}
use Rattle.pk_sets.proofs.uniting.unite_one.Goals as goal

pub returns-clause-reaches : goal.returns-clause-reaches
returns-clause-reaches c =
    let a = c.args.a.now in
    let b = c.args.b.now in
    let at = c.args.at in
    let out = c.args.out.now in
    let heads : Heads a b at.a at.b = record {
      rising_a = c.requires.rising_a;
      rising_b = c.requires.rising_b;
      left = c.requires.left;
      right = c.requires.right;
    } in
    let step = union_step a b at.a at.b c.one_up_to.result c.one_up_to-2.result heads
    c.one_up_to.ensures.one c.one_up_to.ensures.none c.one_up_to-2.ensures.one c.one_up_to-2.ensures.none in
    let low = min (slice_index a at.a) (slice_index b at.b) in
    let after = union (drop (at.a + c.one_up_to.result) a) (drop (at.b + c.one_up_to-2.result) b) in
    record {
      in_a = omega arith;
      in_b = omega arith;
      found = ap (λ x. take (at.written + 1) (slice_set out at.written x) ++ after) c.min.ensures
          ∙ ap (λ l. l ++ after) (stored_one at.written out low c.requires.room)
          ∙ append_assoc (take at.written out) (low ∷ []) after
          ∙ ap (λ l. take at.written out ++ l) (sym step);
    }
