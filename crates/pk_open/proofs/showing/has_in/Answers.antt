-- What spells documents has their directory.
use Rattle.std.proofs.Common.{arith, subst, sym}
use Rattle.pk_disk.specs.Units.{extent_bytes}
use Rattle.pk_segment.specs.Spelling.{SegmentSpells}
use Rattle.pk_open.proofs.PlaceLemmas.{directory_of, whole_of_spelled}
use Rattle.pk_open.proofs.showing.has_in.Goals as goal

pub returns-clause-has : goal.returns-clause-has
returns-clause-has g c = λ h docs kind spells is.
    let content = g.D.Disk.content in
    let here = subst (λ d. SegmentSpells (extent_bytes (content d) c.args.opened.now.entry.extent) docs kind) (sym c.on-source.ensures.disk) spells in
    let there = subst (λ e. SegmentSpells (extent_bytes (content c.on-source.result.disk.now) e) docs kind) (sym c.on-source.ensures.extent) here in
    c.contains.ensures.directory h docs kind (directory_of _ docs kind there) is

pub returns-then-opened-postings-clause-has : goal.returns-then-opened-postings-clause-has
returns-then-opened-postings-clause-has g c = λ h docs kind spells is.
    absurd (omega (arith, whole_of_spelled _ c.args.opened.now docs kind spells is, c.postings.ensures.value, c.if-opened-postings.true))
