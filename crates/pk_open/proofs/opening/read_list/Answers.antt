-- What the bytes of the list's extent spell is the list; too many bytes are none.
use Rattle.std.proofs.Common.{Option, length, subst, arith}
use Rattle.pk_state.specs.Kept.{EndsInside, ListEndsInside}
use Rattle.pk_disk.specs.declared.units.Extent.{Extent}
use Rattle.pk_open.specs.Opening.{OpensAsList}
use Rattle.pk_open.proofs.EntryLemmas.{too_long}
use Rattle.pk_open.proofs.opening.read_list.Goals as goal

pub returns-then-from-clause-list : goal.returns-then-from-clause-list
returns-then-from-clause-list g c = λ honest dead opens.
    let bytes = g.D.Disk.content c.args.disk.now in
    let e = c.in-Some.extent in
    let inside : EndsInside (length bytes) e = subst (λ (list : Option Extent). ListEndsInside (length bytes) list) c.in-Some.is c.requires in
    too_long bytes e c.args.count inside (omega (arith, c.from.ensures, c.from-2.ensures, c.if-from.true)) dead
    (subst (λ (list : Option Extent). OpensAsList bytes list c.args.count dead) c.in-Some.is opens)
