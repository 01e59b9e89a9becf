-- What the documents so far leave was gathered, and the others rise.
use Rattle.std.proofs.Common.{◌++◌, List, Ok, take, drop}
use Rattle.pk_model.specs.Collection.{Doc}
use Rattle.pk_posting.specs.Frames.{ReadsSource}
use Rattle.pk_segment.specs.Directory.{IsDirectoryOf}
use Rattle.pk_segment.specs.Opened.{IsSegmentOf}
use Rattle.pk_segment.specs.Spelling.{SegmentSpells}
use Rattle.pk_merge.specs.Gathering.{GathersAs, RiseFrom, left_by}
use Rattle.pk_merge.specs.Merging.{CountsMerge}
use Rattle.pk_merge.proofs.merging.gather_from.Given as goal

abbrev pub invariant-loop-i : goal.invariant-loop-i
invariant-loop-i g l =
    let s = g.S.ByteSource in
    record {
      left : ReadsSource s CountsMerge (Ok (tt {0})) l.fn.source l.source;
      ready : s.honest → (docs : List Doc) → SegmentSpells (s.content l.fn.source) docs l.kind
          → IsSegmentOf l.opened.segment.now docs × IsDirectoryOf l.opened.directory.now docs l.kind;
      gathered : s.honest → (docs more : List Doc) → SegmentSpells (s.content l.fn.source) docs l.kind
          → RiseFrom l.fn.gathered.last (docs ++ more)
          → GathersAs (left_by l.dead (take l.i docs)) (drop l.i docs ++ more) l.fn.gathered l.gathered
          (Ok (tt {0}));
    }
