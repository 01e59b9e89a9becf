use Rattle.std.proofs.Common.{◌≡◌, length, arith, ap, ◌∙◌}
use Rattle.pk_posting.specs.Spelling.{tail_of}
use Rattle.pk_posting.proofs.PlacingLemmas.{tail_is}
use Rattle.pk_posting.proofs.SpellingLemmas.{length_head, length_body}
use Rattle.pk_posting.proofs.PlacingLemmas.{length_parts}
use Rattle.pk_posting.proofs.encoding.length_of.Goals as goal

pub returns : goal.returns
returns c =
    let t : c.tail_length.result ≡ length (tail_of c.args.xs.now) =
    c.tail_length.ensures.length ∙ ap length (tail_is c.args.xs.now c.tail_at-before.result.0.now c.tail_at-before.result.1 c.tail_at-before.ensures.tail c.tail_at-before.ensures.before) in
    let w = c.total_width.ensures.sum in
    omega (arith, t, w, length_parts c.args.xs.now, length_head c.args.xs.now, length_body c.args.xs.now)
