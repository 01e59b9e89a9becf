-- One document after the other.
use Rattle.std.proofs.Common.{◌∙◌, ◌∷◌, ◌++◌, [], ◌<◌, ◌≤◌, List, length, take, refl, subst, arith}
use Rattle.std.proofs.lemmas.List.{drop_all, take_all}
use Rattle.pk_join.proofs.DocLemmas.{take_doc}
use Rattle.pk_model.specs.Collection.{Doc}
use Rattle.pk_segment.specs.Directory.{doc_in}
use Rattle.pk_merge.specs.Gathering.{RiseFrom, left_by}
use Rattle.pk_merge.specs.Keeping.{AreKept}
use Rattle.pk_merge.specs.Left.{TakesAs, kept_in}
use Rattle.pk_merge.proofs.CountLemmas.{to_most}
use Rattle.pk_merge.proofs.FaultLemmas.{passed_on}
use Rattle.pk_merge.proofs.GatherLemmas.{fails_on, left_append, left_next}
use Rattle.pk_merge.proofs.left.Left.take_all.Goals as goal

pub returns-in_err-take-clause-taken : goal.returns-in_err-take-clause-taken
returns-in_err-take-clause-taken c = λ bytes so_far docs more kind is stand rise are.
    let i = c.loop-i.i in
    let dead = c.args.input.now.dead.now in
    let lt : i < length docs =
    omega (arith, c.loop-i-test.true, c.len-i-end.ensures.documents docs kind is) in
    let inv = c.loop-i.invariant.taken bytes so_far docs more kind is stand rise are in
    let before = so_far ++ left_by dead (take i docs) in
    passed_on (TakesAs bytes so_far (left_by dead docs) more c.take.new.self) c.from_residual.result
    c.from_residual.ensures.1
    (fails_on (left_by dead) (left_append dead) docs i (doc_in docs i) so_far before
    (left_by dead (doc_in docs i ∷ [])) c.in_err-take.field-0.0 (take_doc docs i lt) refl refl
    (c.in_err-take.ensures.taken bytes before docs more kind is stand inv.1 inv.0))

pub loop-i-preserved : goal.loop-i-preserved
loop-i-preserved c = record {
  disk_bytes = c.take.ensures.disk_bytes ∙ c.loop-i.invariant.disk_bytes;
  between = λ start end out before. c.in_ok-take.ensures.between start end out
      (c.loop-i.invariant.between start end out before);
  enough = omega (arith, c.in_ok-take.ensures.one_more, c.loop-i.invariant.enough);
  taken = λ bytes so_far docs more kind is stand rise are.
      let i = c.loop-i.i in
      let dead = c.args.input.now.dead.now in
      let lt : i < length docs =
      omega (arith, c.loop-i-test.true, c.len-i-end.ensures.documents docs kind is) in
      let inv = c.loop-i.invariant.taken bytes so_far docs more kind is stand rise are in
      let before = so_far ++ left_by dead (take i docs) in
      let part = left_by dead (doc_in docs i ∷ []) in
      let taken = c.in_ok-take.ensures.taken bytes before docs more kind is stand inv.1 inv.0 in (
        subst (AreKept bytes (kept_in c.take.new.self))
            (left_next (left_by dead) (left_append dead) docs i (doc_in docs i) so_far before part
            (take_doc docs i lt) refl refl) taken.0,
        taken.1,
      );
}

pub returns-clause-taken : goal.returns-clause-taken
returns-clause-taken c = λ bytes so_far docs more kind is stand rise are.
    let i = c.loop-i.i in
    let inv = c.loop-i.invariant.taken bytes so_far docs more kind is stand rise are in
    let all : length docs ≤ i =
    omega (arith, c.loop-i-test.false, c.len-i-end.ensures.documents docs kind is) in (
      subst (λ (ds : List Doc). AreKept bytes (kept_in c.loop-i.self)
          (so_far ++ left_by c.args.input.now.dead.now ds))
          (take_all i docs all) inv.0,
      subst (λ (ds : List Doc). RiseFrom c.loop-i.self.last (ds ++ more)) (drop_all i docs all) inv.1,
    )

pub returns-clause-enough : goal.returns-clause-enough
returns-clause-enough c = omega (
  arith,
  c.loop-i.invariant.enough,
  c.loop-i-test.false,
  c.len-i-end.ensures.value,
  to_most c.loop-i.self.last c.args.input.now.dead.now,
)
