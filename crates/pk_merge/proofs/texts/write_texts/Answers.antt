-- One span after the other.
use Rattle.std.proofs.Common.{◌∙◌, ◌-◌, List, ℕ, length, take, drop, sym, ap, subst, arith, length-drop}
use Rattle.std.proofs.lemmas.List.{take_all, take_rest}
use Rattle.pk_segment.specs.Spelling.{texts}
use Rattle.pk_merge.specs.Output.{AreGiven}
use Rattle.pk_merge.specs.Spans.{IsSpanOf}
use Rattle.pk_merge.proofs.GivenLemmas.{are_given_all, are_given_then, err_given, is_given_then, well}
use Rattle.pk_merge.proofs.KeepLemmas.{kept_long}
use Rattle.pk_merge.proofs.SpanLemmas.{more_within, rest_inside, rest_kept, texts_more}
use Rattle.pk_merge.proofs.texts.write_texts.Goals as goal

pub span_of-span-requires-clause-inside : goal.span_of-span-requires-clause-inside
span_of-span-requires-clause-inside g c =
    rest_inside _ _ c.args.documents.now c.loop-done.done c.len-disk_bytes.ensures c.requires.inside

pub write_span-requires-clause-span : goal.write_span-requires-clause-span
write_span-requires-clause-span g c =
    let ks = c.args.documents.now in
    let i = c.loop-done.done in
    subst (λ (n : ℕ). IsSpanOf n (take (length ks - i) (drop i ks)) c.span_of-span.result)
    (c.len-disk_bytes.ensures ∙ sym c.loop-done.invariant.given.writes.size) c.span_of-span.ensures

pub write_span-requires-clause-inside : goal.write_span-requires-clause-inside
write_span-requires-clause-inside g c =
    rest_inside _ _ c.args.documents.now c.loop-done.done c.loop-done.invariant.given.writes.size
    c.requires.inside

pub returns-in_err-write_span-clause-bytes : goal.returns-in_err-write_span-clause-bytes
returns-in_err-write_span-clause-bytes g c = λ honest docs are room.
    let d = g.D.Disk in
    let content = d.content in
    let ks = c.args.documents.now in
    let i = c.loop-done.done in
    let n = c.span_of-span.result.count in
    let inv = c.loop-done.invariant in
    let w = inv.given.writes in
    let so_far = inv.texts honest docs are room in
    let inside = c.requires.inside in
    let kept = rest_kept (content c.loop-done.disk) (content c.args.disk.now) ks docs i
    c.args.output.now.start c.args.output.now.end w.size (w.changed honest).same c.requires.apart inside
    are in
    let given = c.in_err-write_span.ensures.bytes honest (drop i docs) kept
    (omega (arith, so_far.count, more_within docs i n, room, inv.given.stretch.end)) in
    err_given d c.args.disk.now c.write_span.new.disk c.args.output.now c.write_span.new.output (texts docs)
    c.from_residual.result c.in_err-write_span.field-0.0 c.from_residual.ensures.1 given.undamaged

pub loop-done-preserved : goal.loop-done-preserved
loop-done-preserved g c =
    let d = g.D.Disk in
    let content = d.content in
    let ks = c.args.documents.now in
    let i = c.loop-done.done in
    let n = c.span_of-span.result.count in
    let inv = c.loop-done.invariant in
    record {
      most = omega (
        arith,
        c.span_of-span.ensures.most,
        ap length (take_rest ks i),
        length-drop i ks,
        inv.most,
      );
      room = omega (arith, c.write_span.auto.room, inv.room);
      given = is_given_then d c.args.disk.now c.loop-done.disk c.write_span.new.disk c.args.output.now
          c.loop-done.output c.write_span.new.output (tt {0}) inv.given c.in_ok-write_span.ensures.given;
      texts = λ honest docs are room.
          let w = inv.given.writes in
          let so_far = inv.texts honest docs are room in
          let inside = c.requires.inside in
          let kept = rest_kept (content c.loop-done.disk) (content c.args.disk.now) ks docs i
          c.args.output.now.start c.args.output.now.end w.size (w.changed honest).same c.requires.apart
          inside are in
          let given = c.in_ok-write_span.ensures.bytes honest (drop i docs) kept
          (omega (arith, so_far.count, more_within docs i n, room, inv.given.stretch.end)) in
          let all = are_given_then d c.args.disk.now c.loop-done.disk c.write_span.new.disk c.args.output.now
          c.loop-done.output c.write_span.new.output (texts (take i docs)) (texts (take n (drop i docs)))
          (tt {0}) so_far given in
          subst (λ (l : List ℕ). AreGiven d c.args.disk.now c.write_span.new.disk c.args.output.now
          c.write_span.new.output l well) (sym (texts_more docs i n)) all;
    }

pub returns-clause-bytes : goal.returns-clause-bytes
returns-clause-bytes g c = λ honest docs are room.
    let i = c.loop-done.done in
    let long = kept_long (g.D.Disk.content c.args.disk.now) c.args.documents.now docs are in
    are_given_all g.D.Disk c.args.disk.now c.loop-done.disk c.args.output.now c.loop-done.output (texts (take i docs))
    (texts docs) (ap texts (take_all i docs (omega (arith, c.loop-done-test.false, long))))
    (c.loop-done.invariant.texts honest docs are room)
