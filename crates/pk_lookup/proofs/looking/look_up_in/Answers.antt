-- The source was turned to the segment's extent.
use Rattle.std.proofs.Common.{◌≡◌, List, ℕ, ap₂, subst, sym}
use Rattle.std.specs.Prelude.{All}
use Rattle.pk_disk.specs.Units.{extent_bytes}
use Rattle.pk_lookup.specs.Filtered.{IsFilterFor, filters_of}
use Rattle.pk_segment.specs.Spelling.{IndexSpells}
use Rattle.pk_lookup.proofs.looking.look_up_in.Goals as goal

pub returns-clause-entries : goal.returns-clause-entries
returns-clause-entries g c = λ honest two docs index of agree.
    let o = c.args.sought.now.opened.now in
    let content = g.D.Disk.content in
    let same : extent_bytes (content c.turn_to.new.self.disk.now) c.turn_to.new.self.extent ≡ extent_bytes (content c.args.source.now.disk.now) o.entry.extent
    = ap₂ (λ d e. extent_bytes (content d) e) c.turn_to.ensures.disk c.turn_to.ensures.extent in
    c.look_up.ensures.entries honest docs (subst (λ (x : List ℕ). IndexSpells x docs) (sym same) index) of
    (subst (λ (x : List ℕ). All (IsFilterFor x o) (filters_of c.args.tables.now)) (sym same) agree)
