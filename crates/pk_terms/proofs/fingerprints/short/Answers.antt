-- By the length.
use Rattle.std.proofs.Common.{length}
use Rattle.std.proofs.lemmas.Bool.{le-leb, le-ltb, lt-leb, lt-ltb}
use Rattle.pk_terms.specs.Fingerprints.{short_of}
use Rattle.pk_terms.proofs.fingerprints.short.Goals as goal

pub returns-then-len-ge4 : goal.returns-then-len-ge4
unfolding short_of
returns-then-len-ge4 c = rw (c.four.ensures.value, c.four-then-len-ge4.ensures.value, le-leb 4 (length c.args.bytes.now) c.if-len-ge4.true)

pub returns-then-len-gt0 : goal.returns-then-len-gt0
unfolding short_of
returns-then-len-gt0 c = rw (lt-leb 4 (length c.args.bytes.now) c.if-len-ge4.false, lt-ltb 0 (length c.args.bytes.now) c.if-len-gt0.true)

pub returns : goal.returns
unfolding short_of
returns c = rw (lt-leb 4 (length c.args.bytes.now) c.if-len-ge4.false, le-ltb 0 (length c.args.bytes.now) c.if-len-gt0.false)
