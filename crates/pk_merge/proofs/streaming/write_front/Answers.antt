-- Header and directory, and then the texts, which stay meanwhile.
use Rattle.std.proofs.Common.{ℕ, arith, length-append, subst, sym, All}
use Rattle.pk_segment.specs.Spelling.{texts}
use Rattle.pk_merge.specs.Keeping.{EndBy}
use Rattle.pk_merge.proofs.GivenLemmas.{are_given_next}
use Rattle.pk_merge.proofs.StreamLemmas.{kept_stays}
use Rattle.pk_merge.proofs.streaming.write_front.Goals as goal

pub returns-clause-bytes : goal.returns-clause-bytes
returns-clause-bytes g c = λ honest docs are room.
    let d = g.D.Disk in
    let content = d.content in
    let o = c.args.output.now in
    let front = c.args.front.now in
    let ks = c.args.documents.now in
    let given = c.in_ok-offer.ensures.given in
    let both = length-append front (texts docs) in
    let one = c.in_ok-offer.ensures.bytes honest (omega (arith, room, both)) in
    let inside = c.requires.inside in
    let kept = kept_stays (content c.args.disk.now) (content c.offer.new.disk) ks docs o.start o.end
    given.writes.size (given.writes.changed honest).same c.requires.apart inside are in
    let two =
    c.write_texts.ensures.bytes honest docs kept
    (omega (arith, room, both, one.count, given.stretch.end)) in
    are_given_next d c.args.disk.now c.offer.new.disk c.write_texts.new.disk o c.offer.new.self
    c.write_texts.new.output front (texts docs) c.in_ok-offer.field-0 c.write_texts.result one two

pub write_texts-requires-clause-inside : goal.write_texts-requires-clause-inside
write_texts-requires-clause-inside g c =
    subst (λ (n : ℕ). All (EndBy n) c.args.documents.now) (sym c.in_ok-offer.ensures.given.writes.size)
    c.requires.inside
