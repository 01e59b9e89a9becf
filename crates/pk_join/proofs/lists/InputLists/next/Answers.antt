-- Over a dictionary no damage is met, and no fault is kept.
use Rattle.std.proofs.Common.{◌≡◌, true, Option, None, Some, sym, subst, refl}
use Rattle.std.specs.Prelude.{OnOk}
use Rattle.pk_dict.specs.Place.{bytes_at}
use Rattle.pk_dict.specs.declared.entry.DictPlace.{DictPlace}
use Rattle.pk_disk.specs.Units.{extent_bytes}
use Rattle.pk_posting.specs.declared.fault.ReadFault.{ReadFault}
use Rattle.pk_segment.specs.Indexed.{items_of}
use Rattle.pk_segment.specs.Spelling.{SegmentSpells}
use Rattle.pk_segment.proofs.ListingLemmas.{index_of, is_there}
use Rattle.pk_join.specs.declared.lists.InputLists.{InputLists}
use Rattle.pk_join.specs.Listed.{AreListsOf, is_sound, no_fault, source_of}
use Rattle.pk_join.specs.Reading.{HaveRead}
use Rattle.pk_join.specs.Rooms.{HasRoomFor, HaveRoomFor}
use Rattle.pk_join.proofs.lists.InputLists.next.Goals as goal

none_kept : (o : Option ReadFault) → no_fault o ≡ true → o ≡ None
none_kept None is = refl
none_kept (Some f) is = absurd (cc)

pub next_term-requires-clause-sound : goal.next_term-requires-clause-sound
next_term-requires-clause-sound g c =
    none_kept c.in-Stored.words.fault (subst (λ (m : InputLists). is_sound m ≡ true) c.in-Stored.is c.requires.sound)

pub returns-in-Stored-clause-undamaged : goal.returns-in-Stored-clause-undamaged
returns-in-Stored-clause-undamaged g c = λ honest docs dead kind spells are read.
    let own = extent_bytes (g.D.Disk.content c.args.disk.now) c.args.extent in
    let words = c.in-Stored.words in
    let of = subst (λ (m : InputLists). AreListsOf (source_of m) kind docs dead) c.in-Stored.is are in
    let here = subst (HaveRead own) c.in-Stored.is read in
    let there = is_there own docs words.place (index_of own docs (subst (SegmentSpells own docs) of.0 spells))
    of.1.dictionary in
    c.next_term.ensures.undamaged honest (items_of docs) there.spelled there.count here

pub returns-in-Stored-clause-rooms : goal.returns-in-Stored-clause-rooms
returns-in-Stored-clause-rooms g c = λ bytes rooms.
    let old = c.in-Stored.words in
    let here = subst (HaveRoomFor bytes) c.in-Stored.is rooms in
    subst (λ (p : DictPlace). OnOk c.next_term.result (HasRoomFor (bytes_at bytes p) c.next_term.new.words))
    (sym c.next_term.ensures.place) (c.next_term.ensures.rooms (bytes_at bytes old.place) here)
