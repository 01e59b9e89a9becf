-- The numbers of the blocks so far are there, and what is kept of the segment is its.
use Rattle.std.proofs.Common.{◌≡◌, ◌*◌, ◌++◌, ℕ, List, Some, Ok, take}
use Rattle.pk_posting.specs.Parts.{HasShape, bytes_at}
use Rattle.pk_posting.specs.Frames.{ReadsSource}
use Rattle.pk_lookup.specs.Blocks.{AreBlocks}
use Rattle.pk_lookup.specs.Cached.{AddsOnlyOf, KeepsBlocksOf}
use Rattle.pk_segment.specs.Reading.{CountsReads}
use Rattle.pk_lookup.proofs.kept.put_blocks.Given as goal

abbrev pub invariant-loop-block : goal.invariant-loop-block
invariant-loop-block g l =
    let content = g.S.ByteSource.content in
    record {
      whole : AreBlocks l.out.items;
      left : ReadsSource g.S.ByteSource CountsReads (Ok (tt {0})) l.fn.source l.source;
      adds : AddsOnlyOf l.list.segment (Some l.fn.cache) (Some l.cache);
      cached : g.S.ByteSource.honest → (xs : List ℕ) → HasShape (bytes_at (content l.fn.source) l.list.place) l.shape xs → KeepsBlocksOf l.list.segment (content l.fn.source) (Some l.fn.cache)
          → KeepsBlocksOf l.list.segment (content l.fn.source) (Some l.cache);
      out : g.S.ByteSource.honest → (xs : List ℕ) → HasShape (bytes_at (content l.fn.source) l.list.place) l.shape xs → KeepsBlocksOf l.list.segment (content l.fn.source) (Some l.fn.cache)
          → l.out.items ≡ l.fn.out.items ++ take (128 * l.block) xs;
    }
