-- The directory tells the documents that are left, then the words are read.
use Rattle.std.proofs.Common.{◌≡◌, ◌∙◌, ◌++◌, ◌+◌, ℕ, List, length, take, drop, sym, subst, arith}
use Rattle.pk_join.specs.Listed.{source_of}
use Rattle.pk_join.specs.Said.{AreSaid}
use Rattle.pk_model.specs.Collection.{Doc}
use Rattle.pk_segment.specs.Directory.{IsDirectoryOf}
use Rattle.pk_segment.specs.Opened.{IsSegmentOf}
use Rattle.pk_segment.specs.Reading.{read_of}
use Rattle.pk_segment.specs.Said.{lists_from, lists_said}
use Rattle.pk_segment.specs.Spelling.{DirectorySpells, SegmentSpells}
use Rattle.pk_segment.proofs.DirectoryLemmas.{directory_of}
use Rattle.pk_segment.proofs.OpeningLemmas.{long_enough}
use Rattle.pk_merge.specs.Gathering.{left_by}
use Rattle.pk_merge.specs.Inputs.{ReadsAs}
use Rattle.pk_merge.specs.Keeping.{TextsStand}
use Rattle.pk_merge.specs.Left.{kept_in}
use Rattle.pk_merge.proofs.FaultLemmas.{passed_on}
use Rattle.pk_merge.proofs.GatherLemmas.{fails_read}
use Rattle.pk_merge.proofs.KeepLemmas.{between_wider}
use Rattle.pk_merge.proofs.ReadLemmas.{texts_stand}
use Rattle.pk_merge.proofs.reading.read_from.Given as given
use Rattle.pk_merge.proofs.reading.read_from.Goals as goal
use Rattle.pk_merge.proofs.reading.read_from.Goals.{After-take_all}

pub returns-in_err-segment-clause-read : goal.returns-in_err-segment-clause-read
returns-in_err-segment-clause-read g c = λ honest bytes so_far docs more part is rise are.
    let input = c.args.input.now in
    passed_on (ReadsAs input.kind bytes so_far docs input.dead.now more c.args.left.now)
    c.from_residual.result c.from_residual.ensures.1
    (fails_read (so_far ++ left_by input.dead.now docs) (read_of c.in_err-segment.field-0.0)
    (c.in_err-segment.ensures.directory honest docs (directory_of _ docs input.kind is) c.len-bytes.ensures))

-- the segment and its directory are of the documents
opened : (g : given.Over) (c : goal.After-take_all g) → g.S.ByteSource.honest → (docs : List Doc)
    → SegmentSpells (g.S.ByteSource.content c.args.source.now) docs c.args.input.now.kind
    → IsSegmentOf c.in_ok-segment.segment docs
    × IsDirectoryOf c.in_ok-directory.directory docs c.args.input.now.kind
opened g c honest docs is =
    let kind = c.args.input.now.kind in
    let before = directory_of _ docs kind is in
    let of = c.in_ok-segment.ensures.directory honest docs before c.len-bytes.ensures in
    let after = subst (λ (x : List ℕ). DirectorySpells x docs kind)
    (sym (c.in_ok-segment.ensures.left.same honest)) before in
    (of, c.in_ok-directory.ensures.directory honest docs kind after of)

-- whose texts stand where they are looked for
stand : (g : given.Over) (c : goal.After-take_all g) (bytes : List ℕ) (docs : List Doc)
    → g.S.ByteSource.content c.args.source.now
    ≡ take (length (g.S.ByteSource.content c.args.source.now)) (drop c.args.start bytes)
    → SegmentSpells (g.S.ByteSource.content c.args.source.now) docs c.args.input.now.kind
    → IsSegmentOf c.in_ok-segment.segment docs
    → TextsStand bytes c.saturating_add-texts.result (c.args.start + c.from-2.result) docs
stand g c bytes docs part is of =
    let content = g.S.ByteSource.content c.args.source.now in
    texts_stand bytes content c.args.start c.saturating_add-texts.result (c.args.start + c.from-2.result)
    docs c.args.input.now.kind part is
    (omega (
      arith,
      c.saturating_add-texts.ensures,
      c.from.ensures,
      c.count.ensures,
      of.count_is,
      long_enough content docs c.args.input.now.kind is,
      c.requires.inside,
    ))
    (omega (arith, c.from-2.ensures, c.len-bytes.ensures))

pub returns-in_err-take_all-clause-read : goal.returns-in_err-take_all-clause-read
returns-in_err-take_all-clause-read g c = λ honest bytes so_far docs more part is rise are.
    let input = c.args.input.now in
    let a = (goal.at.returns-in_err-take_all-clause-read g c).After-take_all in
    let of = opened g a honest docs is in
    passed_on (ReadsAs input.kind bytes so_far docs input.dead.now more c.take_all.new.self)
    c.from_residual-in_err-take_all.result c.from_residual-in_err-take_all.ensures.1
    (c.in_err-take_all.ensures.taken bytes so_far docs more input.kind of.1
    (stand g a bytes docs part is of.0) rise are)

pub returns-in_err-lists-clause-read : goal.returns-in_err-lists-clause-read
returns-in_err-lists-clause-read g c = λ honest bytes so_far docs more part is rise are.
    let input = c.args.input.now in
    let of = opened g (goal.at.returns-in_err-lists-clause-read g c).After-take_all honest docs is in
    let here = subst (λ (x : List ℕ). SegmentSpells x docs input.kind)
    (sym (c.in_ok-directory.ensures.left.same honest ∙ c.in_ok-segment.ensures.left.same honest)) is in
    passed_on (ReadsAs input.kind bytes so_far docs input.dead.now more c.take_all.new.self)
    c.from_residual-in_err-lists.result c.from_residual-in_err-lists.ensures.1
    (fails_read (so_far ++ left_by input.dead.now docs) c.in_err-lists.field-0.0
    (c.in_err-lists.ensures.listed honest docs here of.0 of.1))

pub returns-clause-read : goal.returns-clause-read
returns-clause-read g c = λ honest bytes so_far docs more part is rise are.
    let input = c.args.input.now in
    let a = (goal.at.returns-clause-read g c).After-take_all in
    let of = opened g a honest docs is in
    let taken = c.in_ok-take_all.ensures.taken bytes so_far docs more input.kind of.1
    (stand g a bytes docs part is of.0) rise are in
    let here = subst (λ (x : List ℕ). SegmentSpells x docs input.kind)
    (sym (c.in_ok-directory.ensures.left.same honest ∙ c.in_ok-segment.ensures.left.same honest)) is in
    record { listed = c.in_ok-lists.ensures.listed honest docs here of.0 of.1; kept = taken.0; rise = taken.1 }

pub returns-clause-between : goal.returns-clause-between
returns-clause-between g c =
    let content = g.S.ByteSource.content c.args.source.now in
    let end = c.args.start + c.from-2.result in
    between_wider (kept_in c.args.left.now) (kept_in c.take_all.new.self) c.saturating_add-texts.result end
    c.args.start (c.args.start + length content)
    (omega (arith, c.saturating_add-texts.ensures, c.ranges.start.fits))
    (omega (arith, c.from-2.ensures, c.len-bytes.ensures)) c.in_ok-take_all.ensures.between

pub returns-clause-enough : goal.returns-clause-enough
returns-clause-enough g c = λ honest.
    let opened = c.in_ok-segment.ensures.opened honest in
    omega (
      arith,
      opened.count_is,
      opened.read.count_is,
      c.in_ok-directory.ensures.len,
      c.in_ok-take_all.ensures.enough,
    )

pub returns-clause-said : goal.returns-clause-said
returns-clause-said g c = λ honest.
    let content = g.S.ByteSource.content c.args.source.now in
    let kind = c.args.input.now.kind in
    let segment = c.in_ok-segment.segment in
    let lists = source_of c.in_ok-lists.lists in
    let opened = c.in_ok-segment.ensures.opened honest in
    let at : lists_from segment ≡ lists_said content =
    omega (arith, opened.count_is, opened.read.count_is, opened.texts_is, opened.read.texts_is) in
    subst (λ (n : ℕ). AreSaid content n kind lists) at
    (subst (λ (b : List ℕ). AreSaid b (lists_from segment) kind lists)
    (c.in_ok-directory.ensures.left.same honest ∙ c.in_ok-segment.ensures.left.same honest)
    (c.in_ok-lists.ensures.said honest))
