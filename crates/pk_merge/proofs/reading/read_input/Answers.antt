-- The source is the extent, which begins at its place.
use Rattle.std.proofs.Common.{◌≡◌, ◌∙◌, ◌+◌, ◌*◌, ℕ, List, length, drop, take, ap, sym, subst, arith}
use Rattle.std.specs.Prelude.{IfOk, OnOk}
use Rattle.std.proofs.lemmas.List.{length-drop, length-take-le}
use Rattle.pk_disk.specs.Units.{DiskExtent, extent_bytes, start_of}
use Rattle.pk_join.specs.Listed.{LieIn, source_of}
use Rattle.pk_join.specs.Said.{AreSaidIn}
use Rattle.pk_merge.specs.Keeping.{KeepsBetween}
use Rattle.pk_merge.specs.Left.{kept_in}
use Rattle.pk_segment.specs.Spelling.{SegmentSpells}
use Rattle.pk_merge.proofs.reading.read_input.Goals as goal

pub returns-clause-between : goal.returns-clause-between
returns-clause-between g c =
    let extent = c.args.input.now.extent in
    let source = c.on-source.result in
    let content = g.D.Disk.content source.disk.now in
    let ks = kept_in c.args.left.now in
    let new = kept_in c.read_from.new.left in
    let start : 512 * c.from-start.result ≡ start_of extent = omega (arith, c.from-start.ensures) in
    let long : length (extent_bytes content source.extent) ≡ extent.bytes =
    length-take-le source.extent.bytes (drop (start_of source.extent) content)
    (omega (arith, length-drop (start_of source.extent) content, source.inside))
    ∙ ap (λ (x : DiskExtent). x.bytes) c.on-source.ensures.extent in
    subst (λ (n : ℕ). OnOk c.read_from.result (KeepsBetween n (n + extent.bytes) ks new)) start
    (subst (λ (n : ℕ). OnOk c.read_from.result
    (KeepsBetween (512 * c.from-start.result) (512 * c.from-start.result + n) ks new)) long
    c.read_from.ensures.between)

pub returns-clause-read : goal.returns-clause-read
returns-clause-read g c = λ honest so_far docs more spells rise kept.
    let extent = c.args.input.now.extent in
    let source = c.on-source.result in
    let bytes = g.D.Disk.content c.args.disk.now in
    let own = extent_bytes (g.D.Disk.content source.disk.now) source.extent in
    let same : own ≡ extent_bytes bytes extent =
    ap (λ (x : DiskExtent). extent_bytes (g.D.Disk.content source.disk.now) x) c.on-source.ensures.extent
    ∙ ap (λ (d : g.row.D.Denot). extent_bytes (g.D.Disk.content d) extent) c.on-source.ensures.disk in
    let start : 512 * c.from-start.result ≡ start_of extent = omega (arith, c.from-start.ensures) in
    let long : length own ≡ extent.bytes =
    ap (λ (b : List ℕ). length b) same
    ∙ length-take-le extent.bytes (drop (start_of extent) bytes)
    (omega (arith, length-drop (start_of extent) bytes, c.requires.inside)) in
    c.read_from.ensures.read honest bytes so_far docs more
    (same ∙ ap (λ (n : ℕ). take n (drop (start_of extent) bytes)) (sym long)
    ∙ ap (λ (n : ℕ). take (length own) (drop n bytes)) (sym start))
    (subst (λ (b : List ℕ). SegmentSpells b docs c.args.input.now.kind) (sym same) spells) rise kept

pub returns-clause-said : goal.returns-clause-said
returns-clause-said g c = λ honest.
    let extent = c.args.input.now.extent in
    let source = c.on-source.result in
    let same = ap (λ (x : DiskExtent). extent_bytes (g.D.Disk.content source.disk.now) x)
    c.on-source.ensures.extent
    ∙ ap (λ (d : g.row.D.Denot). extent_bytes (g.D.Disk.content d) extent) c.on-source.ensures.disk in
    subst (λ (b : List ℕ). IfOk c.read_from.result (λ lists. AreSaidIn b c.args.input.now.kind (source_of lists))) same
    (c.read_from.ensures.said honest)

pub returns-clause-lies : goal.returns-clause-lies
returns-clause-lies g c =
    let source = c.on-source.result in
    let content = g.D.Disk.content source.disk.now in
    let long : length (extent_bytes content source.extent) ≡ c.args.input.now.extent.bytes =
    length-take-le source.extent.bytes (drop (start_of source.extent) content)
    (omega (arith, length-drop (start_of source.extent) content, source.inside))
    ∙ ap (λ (x : DiskExtent). x.bytes) c.on-source.ensures.extent in
    subst (λ (n : ℕ). IfOk c.read_from.result (λ lists. LieIn n (source_of lists))) long c.read_from.ensures.lies
