-- The numbers of the blocks so far are there.
use Rattle.std.proofs.Common.{◌≡◌, ◌*◌, ◌++◌, ℕ, List, Ok, take}
use Rattle.pk_posting.specs.Parts.{HasShape, bytes_at}
use Rattle.pk_posting.specs.Frames.{ReadsSource}
use Rattle.pk_segment.specs.Reading.{CountsReads}
use Rattle.pk_lookup.specs.Blocks.{AreBlocks}
use Rattle.pk_lookup.proofs.kept.put_decoded.Given as goal

abbrev pub invariant-loop-block : goal.invariant-loop-block
invariant-loop-block g l =
    let content = g.S.ByteSource.content in
    record {
      whole : AreBlocks l.out.items;
      left : ReadsSource g.S.ByteSource CountsReads (Ok (tt {0})) l.fn.source l.source;
      out : g.S.ByteSource.honest → (xs : List ℕ) → HasShape (bytes_at (content l.fn.source) l.place) l.shape xs
          → l.out.items ≡ l.fn.out.items ++ take (128 * l.block) xs;
    }
