use Rattle.std.proofs.Common.{◌/◌, arith}
use Rattle.pk_posting.proofs.DecoderLemmas.{entry_here, entry_there}
use Rattle.pk_posting.proofs.ReadingLemmas.{false_is}
use Rattle.pk_posting.proofs.decoder.ListDecoder.entry_in.Goals as goal

pub returns-then-word_at-base-clause-only : goal.returns-then-word_at-base-clause-only
returns-then-word_at-base-clause-only g c honest is =
    let here = entry_here (g.S.ByteSource.content c.args.source.now) c.args.self.now.place (c.args.self.now.count / 128) c.args.self.now.given c.args.at c.in_ok-entry.entry.now c.args.xs.now
    (record { inside = omega arith; is = c.in_ok-entry.ensures.value honest }) is in
    absurd (omega (arith, here.offset, c.word_at.ensures, c.blocks-2.ensures))

pub returns-then-not-ends_with-clause-only : goal.returns-then-not-ends_with-clause-only
returns-then-not-ends_with-clause-only g c honest is =
    let here = entry_here (g.S.ByteSource.content c.args.source.now) c.args.self.now.place (c.args.self.now.count / 128) c.args.self.now.given c.args.at c.in_ok-entry.entry.now c.args.xs.now
    (record { inside = omega arith; is = c.in_ok-entry.ensures.value honest }) is in
    absurd (false_is c.ends_with.result (c.ends_with.ensures.1 here.last) c.if-not-ends_with.true)

pub returns-clause-is : goal.returns-clause-is
returns-clause-is g c honest =
    entry_there (g.S.ByteSource.content c.args.source.now) c.args.self.now.place (c.args.self.now.count / 128) c.args.self.now.given c.args.at c.in_ok-entry.entry.now c.args.xs.now
    (record { inside = omega arith; is = c.in_ok-entry.ensures.value honest })
    (record { offset = omega (arith, c.word_at.ensures, c.blocks-2.ensures); last = c.ends_with.ensures.0 c.if-not-ends_with.false })
