-- What the cursor has read is what the bytes say, and over a dictionary it meets no damage.
use Rattle.std.proofs.Common.{◌≡◌, ◌∙◌, ◌<◌, List, ℕ, Ok, Err, refl, sym, ap, subst, arith}
use Rattle.pk_dict.specs.Place.{bytes_at}
use Rattle.pk_dict.specs.Said.{IsSaid}
use Rattle.pk_dict.specs.Dictionary.{DictSpells}
use Rattle.pk_dict.proofs.SaidLaw.{said_goes, stands_said}
use Rattle.pk_disk.specs.Units.{DiskExtent, extent_bytes}
use Rattle.pk_segment.proofs.ReadLemmas.{cause_of}
use Rattle.pk_join.specs.Rooms.{HasRoomFor}
use Rattle.pk_join.proofs.RoomLemmas.{no_refusal, none_refused, roomy_on}
use Rattle.pk_join.proofs.terms.next_term.Given as given
use Rattle.pk_join.proofs.terms.next_term.Goals as goal
use Rattle.pk_join.proofs.terms.next_term.Goals.{After-next}

-- the source is the extent
same_bytes : (g : given.Over) (c : goal.After-next g)
    → extent_bytes (g.D.Disk.content c.on-source.result.disk.now) c.on-source.result.extent
    ≡ extent_bytes (g.D.Disk.content c.args.disk.now) c.args.extent
same_bytes g c =
    ap (λ (x : DiskExtent). extent_bytes (g.D.Disk.content c.on-source.result.disk.now) x) c.on-source.ensures.extent
    ∙ ap (λ (d : g.row.D.Denot). extent_bytes (g.D.Disk.content d) c.args.extent) c.on-source.ensures.disk

pub returns-in-Ok-clause-said : goal.returns-in-Ok-clause-said
returns-in-Ok-clause-said g c = λ honest is.
    let old = c.args.words.now in
    let new = c.next.new.self in
    let same = same_bytes g (goal.at.returns-in-Ok-clause-said g c).After-next in
    let here = subst (λ (b : List ℕ). IsSaid (bytes_at b old.place) old) (sym same) is in
    subst (λ (b : List ℕ). IsSaid (bytes_at b old.place) new) same
    (said_goes _ old new c.in-Ok.more here (λ yes. c.in-Ok.ensures.said honest here.holds (ap Ok yes))
    c.in-Ok.ensures.goes c.in-Ok.ensures.place (c.in-Ok.ensures.holds honest here.holds) (c.in-Ok.ensures.sound refl)
    c.in-Ok.ensures.room)

pub returns-in-Err-clause-undamaged : goal.returns-in-Err-clause-undamaged
returns-in-Err-clause-undamaged g c = λ honest es spells count is.
    let old = c.args.words.now in
    let same = same_bytes g (goal.at.returns-in-Err-clause-undamaged g c).After-next in
    let here = subst (λ (b : List ℕ). IsSaid (bytes_at b old.place) old) (sym same) is in
    let there = subst (λ (b : List ℕ). DictSpells (bytes_at b old.place) es) (sym same) spells in
    cause_of c.in-Err.fault (c.in-Err.ensures.at honest es old.read (stands_said _ es old there count here))

pub returns-in-Err-clause-roomy : goal.returns-in-Err-clause-roomy
returns-in-Err-clause-roomy g c = λ honest is fit.
    let old = c.args.words.now in
    let same = same_bytes g (goal.at.returns-in-Err-clause-roomy g c).After-next in
    let here = subst (λ (b : List ℕ). IsSaid (bytes_at b old.place) old) (sym same) is in
    let there = subst (λ (b : List ℕ). HasRoomFor (bytes_at b old.place) old) (sym same) fit in
    let lt : old.read < old.place.terms = omega (arith, c.in-Err.ensures.some c.requires.sound) in
    no_refusal c.in-Err.fault
    (λ full. none_refused _ old there here lt
    (c.in-Err.ensures.full honest here.holds c.requires.sound (ap Err full)))

pub returns-in-Ok-clause-rooms : goal.returns-in-Ok-clause-rooms
returns-in-Ok-clause-rooms g c = λ bytes fit.
    roomy_on bytes c.args.words.now c.next.new.self fit c.in-Ok.ensures.place c.in-Ok.ensures.rooms
