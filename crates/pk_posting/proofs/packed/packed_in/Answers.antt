use Rattle.std.proofs.Common.{ℕ, List, arith}
use Rattle.pk_posting.specs.Parts.{bytes_at}
use Rattle.pk_posting.proofs.PartLemmas.{bounds_of, seed_is}
use Rattle.pk_posting.proofs.packed.packed_in.Goals as goal
use Rattle.pk_posting.proofs.packed.packed_in.Goals.{then-end-start-via-then-end-start, then-end-start-via-else-end-start+then-room-end, then-end-start-via-else-end-start+else-room-end+then-end-start-gt512}

pub returns-then-end-start-clause-spelled : goal.returns-then-end-start-clause-spelled
returns-then-end-start-clause-spelled g c h ys l =
    let L : List ℕ = bytes_at (g.S.ByteSource.content c.args.source.now) c.args.place in
    let b = bounds_of L c.args.shape ys c.args.k c.saturating_sub-from.result c.last_word-to.result c.end_of-end.result c.in_ok-words.words l c.requires.one (omega arith) (omega arith) c.last_word-to.ensures.other
    (c.in_ok-words.ensures.value h) c.end_of-end.ensures.last c.end_of-end.ensures.row c.end_of-end.ensures.other in
    elim c.then-end-start.branch [
      | then-end-start-via-then-end-start w ↦ absurd (omega (arith, b.start_is, b.end_is))
      | then-end-start-via-else-end-start+then-room-end w ↦ absurd (omega (arith, b.end_is, b.room))
      | then-end-start-via-else-end-start+else-room-end+then-end-start-gt512 w ↦ absurd (omega (arith, b.start_is, b.end_is, b.small))
    ]

pub returns-clause-spelled : goal.returns-clause-spelled
returns-clause-spelled g c h ys l =
    let L : List ℕ = bytes_at (g.S.ByteSource.content c.args.source.now) c.args.place in
    let words = c.in_ok-words.ensures.value h in
    let b = bounds_of L c.args.shape ys c.args.k c.saturating_sub-from.result c.last_word-to.result c.end_of-end.result c.in_ok-words.words l c.requires.one (omega arith) (omega arith) c.last_word-to.ensures.other
    words c.end_of-end.ensures.last c.end_of-end.ensures.row c.end_of-end.ensures.other in
    record {
      seed_is = seed_is L c.args.shape ys c.args.k c.saturating_sub-from.result c.last_word-to.result c.in_ok-words.words l c.requires.one (omega arith) (omega arith) words;
      at_is = omega (arith, b.start_is);
      width_is = omega (arith, b.start_is, b.end_is);
    }
