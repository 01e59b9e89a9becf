-- By the length; the hasher's steps are those of the definition.
use Rattle.std.proofs.Common.{◌∙◌, ap, ap₂, length, arith, ◌<◌, ◌≤◌}
use Rattle.std.proofs.lemmas.Bool.{le-leb, lt-leb}
use Rattle.std.specs.Hash.FoldHasher.{write, finish}
use Rattle.pk_terms.specs.Fingerprints.{fingerprint_of, short_of}
use Rattle.pk_terms.proofs.fingerprints.fingerprint.Goals as goal

pub returns-then-bytes-le-SHORT_BYTES-clause-value : goal.returns-then-bytes-le-SHORT_BYTES-clause-value
unfolding fingerprint_of
returns-then-bytes-le-SHORT_BYTES-clause-value c =
    let same = c.as_bytes-bytes.ensures.value in
    let few : length c.args.word.now ≤ 8 = (let n = ap length same in omega (arith, n)) in
    rw (le-leb (length c.args.word.now) 8 few) (c.short.ensures ∙ ap short_of same)

pub returns-clause-value : goal.returns-clause-value
unfolding fingerprint_of
returns-clause-value c =
    let same = c.as_bytes-bytes.ensures.value in
    let many : 8 < length c.args.word.now = (let n = ap length same in omega (arith, n)) in
    rw (lt-leb (length c.args.word.now) 8 many) (c.finish.ensures ∙ ap finish (c.write.ensures ∙ ap₂ write c.default-hasher.ensures same))
