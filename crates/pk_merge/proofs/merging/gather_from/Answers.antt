-- One document after the other.
use Rattle.std.proofs.Common.{◌∙◌, ◌<◌, ◌≤◌, ◌++◌, ◌∷◌, [], refl, ap, append-nil, sym, subst, rules, arith, List, ℕ, length}
use Rattle.std.proofs.lemmas.List.{drop_all, take_all}
use Rattle.pk_join.proofs.DocLemmas.{take_doc}
use Rattle.pk_model.specs.Collection.{Doc}
use Rattle.pk_posting.proofs.SourceLemmas.{answered, answered_then, source_as}
use Rattle.pk_segment.specs.Spelling.{DirectorySpells, SegmentSpells}
use Rattle.pk_segment.specs.Directory.{doc_in}
use Rattle.pk_segment.specs.Reading.{read_of}
use Rattle.pk_segment.proofs.DirectoryLemmas.{directory_of}
use Rattle.pk_merge.specs.Gathering.{GathersAs, RiseFrom, docs_in, left_by}
use Rattle.pk_merge.proofs.FaultLemmas.{passed_on}
use Rattle.pk_merge.proofs.GatherLemmas.{fails_on, fails_read, left_append, left_next}
use Rattle.pk_merge.proofs.ReadLemmas.{counts_ok}
use Rattle.pk_merge.proofs.merging.gather_from.Goals as goal

pub returns-in_err-segment-clause-gathered : goal.returns-in_err-segment-clause-gathered
returns-in_err-segment-clause-gathered g c = λ honest docs more is rise.
    let left = left_by c.args.dead.now docs in
    passed_on (GathersAs left more c.args.gathered.now c.args.gathered.now)
    c.from_residual.result c.from_residual.ensures.1
    (fails_read (docs_in c.args.gathered.now ++ left) (read_of c.in_err-segment.field-0.0)
    (c.in_err-segment.ensures.directory honest docs (directory_of _ docs c.args.kind is) c.len-bytes.ensures))

pub loop-i-init : goal.loop-i-init
loop-i-init g c =
    let content = g.S.ByteSource.content in
    record {
      left = search rules;
      ready = λ h docs is.
          let before = directory_of (content c.args.source.now) docs c.args.kind is in
          let of = c.in_ok-segment.ensures.directory h docs before c.len-bytes.ensures in
          let after = subst (λ (x : List ℕ). DirectorySpells x docs c.args.kind)
          (sym (c.in_ok-segment.ensures.left.same h)) before in
          (of, c.in_ok-directory.ensures.directory h docs c.args.kind after of);
      gathered = λ h docs more is rise. (sym (append-nil (docs_in c.args.gathered.now)), rise);
    }

pub returns-in_err-gather_one-clause-gathered : goal.returns-in_err-gather_one-clause-gathered
returns-in_err-gather_one-clause-gathered g c = λ honest docs more is rise.
    let i = c.loop-i.i in
    let dead = c.args.dead.now in
    let inv = c.loop-i.invariant in
    let ready = inv.ready honest docs is in
    let known = inv.gathered honest docs more is rise in
    let here = subst (λ (x : List ℕ). SegmentSpells x docs c.args.kind) (sym (inv.left.same honest)) is in
    let lt : i < length docs =
    omega (arith, c.loop-i-test.true, c.len-i-end.ensures.documents docs c.args.kind ready.1) in
    passed_on (GathersAs (left_by dead docs) more c.args.gathered.now c.gather_one.new.gathered)
    c.from_residual-in_err-gather_one.result c.from_residual-in_err-gather_one.ensures.1
    (fails_on (left_by dead) (left_append dead) docs i (doc_in docs i) (docs_in c.args.gathered.now)
    (docs_in c.loop-i.gathered) (left_by dead (doc_in docs i ∷ [])) c.in_err-gather_one.field-0.0
    (take_doc docs i lt) refl known.0
    (c.in_err-gather_one.ensures.gathered honest docs more c.args.kind here ready.0 ready.1 known.1))

pub loop-i-preserved : goal.loop-i-preserved
loop-i-preserved g c =
    let inv = c.loop-i.invariant in
    let one = c.in_ok-gather_one.ensures.left in
    record {
      left = source_as (answered_then g.met.S.ByteSource.keeps_then (answered inv.left inv.left.faults.ok) one)
          (counts_ok (one.faults.ok ∙ inv.left.faults.ok));
      ready = inv.ready;
      gathered = λ honest docs more is rise.
          let i = c.loop-i.i in
          let dead = c.args.dead.now in
          let ready = inv.ready honest docs is in
          let known = inv.gathered honest docs more is rise in
          let here = subst (λ (x : List ℕ). SegmentSpells x docs c.args.kind)
          (sym (inv.left.same honest)) is in
          let lt : i < length docs =
          omega (arith, c.loop-i-test.true, c.len-i-end.ensures.documents docs c.args.kind ready.1) in
          let kept = c.in_ok-gather_one.ensures.gathered honest docs more c.args.kind here ready.0 ready.1
          known.1 in (
            kept.0 ∙ left_next (left_by dead) (left_append dead) docs i (doc_in docs i)
                (docs_in c.args.gathered.now) (docs_in c.loop-i.gathered) (left_by dead (doc_in docs i ∷ []))
                (take_doc docs i lt) refl known.0,
            kept.1,
          );
    }

pub returns-clause-gathered : goal.returns-clause-gathered
returns-clause-gathered g c = λ honest docs more is rise.
    let i = c.loop-i.i in
    let ready = c.loop-i.invariant.ready honest docs is in
    let known = c.loop-i.invariant.gathered honest docs more is rise in
    let all : length docs ≤ i =
    omega (arith, c.loop-i-test.false, c.len-i-end.ensures.documents docs c.args.kind ready.1) in (
      known.0 ∙ ap (λ (ds : List Doc). docs_in c.args.gathered.now ++ left_by c.args.dead.now ds)
          (take_all i docs all),
      subst (λ (ds : List Doc). RiseFrom c.loop-i.gathered.last (ds ++ more)) (drop_all i docs all) known.1,
    )
