-- One text after the other, out of what was read.
use Rattle.std.proofs.Common.{◌∙◌, ◌++◌, ◌+◌, ◌-◌, ◌<◌, List, ℕ, length, take, get_or, sym, ap, subst, arith}
use Rattle.std.specs.Prelude.{slice_range}
use Rattle.std.proofs.lemmas.List.{take_all}
use Rattle.pk_segment.specs.Spelling.{texts}
use Rattle.pk_merge.specs.declared.kept.Kept.{Kept}
use Rattle.pk_merge.specs.Output.{AreGiven}
use Rattle.pk_merge.proofs.GivenLemmas.{are_given_all, are_given_then, err_given, is_given_then, well}
use Rattle.pk_merge.proofs.KeepLemmas.{kept_long}
use Rattle.pk_merge.proofs.SpanLemmas.{next_within, text_there}
use Rattle.pk_merge.proofs.TextLemmas.{texts_next}
use Rattle.pk_merge.proofs.texts.write_near.Goals as goal

none : Kept
none = record { number = 0; at = 0; len = 0 }

pub returns-in_err-offer-clause-bytes : goal.returns-in_err-offer-clause-bytes
unfolding none
returns-in_err-offer-clause-bytes g c = λ honest docs are room.
    let d = g.D.Disk in
    let content = d.content c.args.disk.now in
    let ks = c.args.documents.now in
    let i = c.loop-kept.kept-index in
    let inv = c.loop-kept.invariant in
    let so_far = inv.texts honest docs are room in
    let lt : i < length docs = omega (arith, c.loop-kept-test.true, kept_long content ks docs are) in
    let text = text_there content c.read.new.out c.args.from (length c.args.room.now) ks docs i none
    (c.in-Ok.ensures.given honest) c.requires.near c.requires.read are c.loop-kept-test.true in
    let given =
    c.in_err-offer.ensures.bytes honest
    (omega (arith, so_far.count, next_within docs i lt, room, ap length text, inv.given.stretch.end)) in
    err_given d c.args.disk.now c.offer.new.disk c.args.output.now c.offer.new.self (texts docs)
    c.from_residual.result c.in_err-offer.field-0.0 c.from_residual.ensures.1 given.undamaged

pub loop-kept-preserved : goal.loop-kept-preserved
unfolding none
loop-kept-preserved g c =
    let d = g.D.Disk in
    let content = d.content c.args.disk.now in
    let ks = c.args.documents.now in
    let i = c.loop-kept.kept-index in
    let k = get_or ks i none in
    let inv = c.loop-kept.invariant in
    record {
      given = is_given_then d c.args.disk.now c.loop-kept.disk c.offer.new.disk c.args.output.now
          c.loop-kept.output c.offer.new.self (tt {0}) inv.given c.in_ok-offer.ensures.given;
      texts = λ honest docs are room.
          let so_far = inv.texts honest docs are room in
          let lt : i < length docs = omega (arith, c.loop-kept-test.true, kept_long content ks docs are) in
          let part = slice_range c.read.new.out (k.at - c.args.from) (k.at - c.args.from + k.len) in
          let text = text_there content c.read.new.out c.args.from (length c.args.room.now) ks docs i none
          (c.in-Ok.ensures.given honest) c.requires.near c.requires.read are c.loop-kept-test.true in
          let given =
          c.in_ok-offer.ensures.bytes honest
          (omega (
            arith,
            so_far.count,
            next_within docs i lt,
            room,
            ap length text,
            inv.given.stretch.end,
          )) in
          let all = are_given_then d c.args.disk.now c.loop-kept.disk c.offer.new.disk c.args.output.now
          c.loop-kept.output c.offer.new.self (texts (take i docs)) part (tt {0}) so_far given in
          subst (λ (l : List ℕ). AreGiven d c.args.disk.now c.offer.new.disk c.args.output.now
          c.offer.new.self l well) (ap (λ (l : List ℕ). texts (take i docs) ++ l) text
          ∙ sym (texts_next docs i lt)) all;
    }

pub returns-clause-bytes : goal.returns-clause-bytes
returns-clause-bytes g c = λ honest docs are room.
    let i = c.loop-kept.kept-index in
    let long = kept_long (g.D.Disk.content c.args.disk.now) c.args.documents.now docs are in
    are_given_all g.D.Disk c.args.disk.now c.loop-kept.disk c.args.output.now c.loop-kept.output (texts (take i docs))
    (texts docs) (ap texts (take_all i docs (omega (arith, c.loop-kept-test.false, long))))
    (c.loop-kept.invariant.texts honest docs are room)
