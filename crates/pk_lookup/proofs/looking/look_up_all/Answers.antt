-- One more segment: its entries are put behind the others, and the filters agree as before.
use Rattle.std.proofs.Common.{◌≡◌, ◌∙◌, ◌*◌, ◌++◌, ◌<◌, Option, List, ℕ, Ok, Result, length, get_or, sym, ap, subst, arith, rules}
use Rattle.std.proofs.lemmas.List.{length-append}
use Rattle.std.proofs.lemmas.Result.{err_from_is_err_and}
use Rattle.std.specs.Prelude.{All, IfErr, IsErrAnd}
use Rattle.std.specs.Global.{Vec}
use Rattle.pk_disk.specs.declared.disk.Disk.{Ghosts as DiskGhosts}
use Rattle.pk_disk.specs.Units.{extent_bytes}
use Rattle.pk_dict.specs.declared.entry.Entry.{Entry as DictEntry}
use Rattle.pk_plan.specs.Words.{texts}
use Rattle.pk_open.specs.declared.opened.OpenSegment.{OpenSegment}
use Rattle.pk_open.specs.Opened.{entries_of, none_stored}
use Rattle.pk_segment.proofs.OnlyReadLemmas.{disk_fault, disk_none, disk_still, disk_then}
use Rattle.pk_posting.specs.declared.fault.ReadFault.{ReadFault}
use Rattle.pk_posting.specs.declared.fault.ReadFault.TheVariants.{Memory}
use Rattle.pk_segment.specs.OnlyRead.{ReadsDisk}
use Rattle.pk_segment.specs.Reading.{CountsReads, IsNoDamage}
use Rattle.pk_segment.specs.Placed.{dictionary_of}
use Rattle.pk_segment.specs.Spelling.{IndexSpells}
use Rattle.pk_state.specs.Holds.{IndexesEntries}
use Rattle.pk_state.specs.Kept.{EndsInside}
use Rattle.pk_lookup.proofs.FilterLemmas.{agree_at, agree_next, agree_still, below_next, below_still}
use Rattle.pk_lookup.proofs.EntryLemmas.{indexes_at, one_kept}
use Rattle.pk_open.proofs.PlaceLemmas.{entries_many, entry_there, inside_at, opened_at}
use Rattle.pk_lookup.proofs.RepeatLemmas.{texts_long}
use Rattle.pk_lookup.proofs.SaidLemmas.{one_said}
use Rattle.pk_lookup.specs.Filtered.{AddsFilterOf, FiltersAgree, FiltersAgreeAt, FiltersBelow, filters_of}
use Rattle.pk_lookup.specs.Said.{SaysOfEach}
use Rattle.pk_lookup.proofs.looking.look_up_all.Given as given
use Rattle.pk_lookup.proofs.looking.look_up_all.Goals as goal
use Rattle.pk_lookup.proofs.looking.look_up_all.Goals.{After-look_up_in}

-- memory was refused after calls that were answered
refused : {D T U : Type 0} {d : DiskGhosts D} {v : T} {result : Result U ReadFault} {a b : D}
    → IsErrAnd result (λ y. y ≡ Memory) → ReadsDisk d CountsReads (Ok v) a b
    → ReadsDisk d CountsReads result a b
refused is left = disk_fault {U = Unit {0}} (disk_still left (λ disk. cc)) is

-- A TURN: the dictionary of the segment at a place is asked.
module _ (g : given.Over) (c : goal.After-look_up_in g) where
  abbrev opened : List OpenSegment
  opened = c.args.opened.now

  abbrev o : OpenSegment
  o = c.index-opened-i.result

  within : c.loop-i.i < length opened
  within = omega arith

  below_then : (next : ℕ) → All (λ (x : OpenSegment). x.entry.segment < next) opened → FiltersBelow next (filters_of c.args.tables.now) → FiltersBelow next (filters_of c.look_up_in.new.tables)
  below_then next all below = below_next g.D.Disk.honest _ o next _ _ c.look_up_in.ensures.adds (subst (λ (x : OpenSegment). x.entry.segment < next) (sym c.index-opened-i.is) (all c.loop-i.i o within)) (c.loop-i.invariant.below next all below)

  module _ (h : g.D.Disk.honest) (agree : FiltersAgree (g.D.Disk.content c.args.source.now.disk.now) (filters_of c.args.tables.now) opened) where
    read : g.D.Disk.content c.loop-i.source.disk.now ≡ g.D.Disk.content c.args.source.now.disk.now
    read = (c.loop-i.invariant.left.keeps.read h).bytes

    agrees_here : FiltersAgreeAt (g.D.Disk.content c.loop-i.source.disk.now) (filters_of c.loop-i.tables) o
    agrees_here = subst (λ (x : List ℕ). FiltersAgreeAt x (filters_of c.loop-i.tables) o) (sym read) (agree_at _ _ opened _ o (c.loop-i.invariant.agrees h agree) within c.index-opened-i.is)

    agrees_then : FiltersAgree (g.D.Disk.content c.args.source.now.disk.now) (filters_of c.look_up_in.new.tables) opened
    agrees_then = agree_next g.D.Disk.honest _ _ _ opened _ o c.requires.ids within c.index-opened-i.is
        (subst (λ (x : List ℕ). AddsFilterOf g.D.Disk.honest (extent_bytes x o.entry.extent) o (filters_of c.loop-i.tables) (filters_of c.look_up_in.new.tables)) read c.look_up_in.ensures.adds) h (c.loop-i.invariant.agrees h agree)

pub loop-i-init : goal.loop-i-init
loop-i-init g c = record {
  same_reference = search rules;
  left = search rules;
  damage = search rules;
  long = search rules;
  agrees = λ h agree. agree_still _ _ _ _ c.settle.ensures.adds agree;
  below = λ next all below. below_still next _ _ c.settle.ensures.adds below;
  limit = c.settle.ensures.limit;
  counted = c.settle.ensures.counted;
  kept = search rules;
  said = λ h i o lt. absurd (omega (arith, lt));
}

pub returns-in_err-look_up_in-clause-fault : goal.returns-in_err-look_up_in-clause-fault
returns-in_err-look_up_in-clause-fault g c = λ h stored indexes are agree.
    let a = (goal.at.returns-in_err-look_up_in-clause-fault g c).After-look_up_in in
    let os = c.args.opened.now in
    let there = entry_there os c.loop-i.i (o g a) (within g a) c.index-opened-i.is in
    let here = subst (λ (bytes : List ℕ). IndexesEntries bytes (entries_of os) stored) (sym (read g a h agree)) indexes in
    let err = err_from_is_err_and c.from_residual-in_err-look_up_in.result c.from_residual-in_err-look_up_in.ensures.1 in
    subst (λ (r : Result (Vec (Option DictEntry)) ReadFault). IfErr r IsNoDamage) (sym err.1) (subst (λ (f : ReadFault). IsNoDamage f) (sym err.2)
    (c.in_err-look_up_in.ensures.fault h (get_or stored c.loop-i.i none_stored) (indexes_at _ (entries_of os) stored c.loop-i.i (o g a).entry here (omega (arith, within g a, entries_many os)) there)
    (opened_at os stored c.loop-i.i (o g a) are (within g a) c.index-opened-i.is) (agrees_here g a h agree)))

pub returns-in_err-look_up_in-clause-filters : goal.returns-in_err-look_up_in-clause-filters
returns-in_err-look_up_in-clause-filters g c = agrees_then g (goal.at.returns-in_err-look_up_in-clause-filters g c).After-look_up_in

pub returns-in_err-look_up_in-clause-filters_below : goal.returns-in_err-look_up_in-clause-filters_below
returns-in_err-look_up_in-clause-filters_below g c = below_then g (goal.at.returns-in_err-look_up_in-clause-filters_below g c).After-look_up_in

pub returns-in_err-extend_from_slice-clause-filters : goal.returns-in_err-extend_from_slice-clause-filters
returns-in_err-extend_from_slice-clause-filters g c = agrees_then g (goal.at.returns-in_err-extend_from_slice-clause-filters g c).After-look_up_in

pub returns-in_err-extend_from_slice-clause-filters_below : goal.returns-in_err-extend_from_slice-clause-filters_below
returns-in_err-extend_from_slice-clause-filters_below g c = below_then g (goal.at.returns-in_err-extend_from_slice-clause-filters_below g c).After-look_up_in

pub returns-in_err-firsts-clause-left : goal.returns-in_err-firsts-clause-left
returns-in_err-firsts-clause-left g c = refused c.from_residual.ensures.1 (disk_none {v = tt {0}})

pub returns-in_err-hashes-clause-left : goal.returns-in_err-hashes-clause-left
returns-in_err-hashes-clause-left g c = refused c.from_residual-in_err-hashes.ensures.1 (disk_none {v = tt {0}})

pub returns-in_err-table-clause-left : goal.returns-in_err-table-clause-left
returns-in_err-table-clause-left g c = refused c.from_residual-in_err-table.ensures.1 (disk_none {v = tt {0}})

pub returns-in_default-clause-left : goal.returns-in_default-clause-left
returns-in_default-clause-left g c = disk_still (disk_none {v = tt {0}}) (λ disk. cc)

pub returns-in_err-look_up_in-clause-left : goal.returns-in_err-look_up_in-clause-left
returns-in_err-look_up_in-clause-left g c = disk_then c.loop-i.invariant.left (disk_fault c.in_err-look_up_in.ensures.left c.from_residual-in_err-look_up_in.ensures.1)

pub returns-in_err-extend_from_slice-clause-left : goal.returns-in_err-extend_from_slice-clause-left
returns-in_err-extend_from_slice-clause-left g c = refused c.from_residual-in_err-extend_from_slice.ensures.1 (disk_then c.loop-i.invariant.left c.in_ok-look_up_in.ensures.left)

pub returns-clause-left : goal.returns-clause-left
returns-clause-left g c = disk_still c.loop-i.invariant.left (λ disk. cc)

pub returns-clause-kept : goal.returns-clause-kept
returns-clause-kept g c = λ h agree k o lt. c.loop-i.invariant.kept h agree k o (omega (arith, lt))

pub returns-clause-said : goal.returns-clause-said
returns-clause-said g c = λ h k o lt. c.loop-i.invariant.said h k o (omega (arith, lt))

pub returns-clause-full : goal.returns-clause-full
returns-clause-full g c = c.loop-i.invariant.long ∙ ap (λ (n : ℕ). n * length c.args.words.now) (omega arith)

pub loop-i-preserved : goal.loop-i-preserved
loop-i-preserved g c =
    let a = (goal.at.loop-i-preserved g c).After-look_up_in in
    let before = c.loop-i.invariant in
    let i = c.loop-i.i in
    let put = c.in_ok-extend_from_slice.ensures.items ∙ ap (λ (row : List (Option DictEntry)). c.loop-i.table.items ++ row) c.deref.ensures.value in
    let words = texts c.args.words.now in
    let many = sym (texts_long c.args.words.now) in
    let long = before.long ∙ ap (λ (n : ℕ). i * n) many in
    let wide = c.in_ok-look_up_in.ensures.long ∙ many in
    record {
      same_reference = c.look_up_in.ensures.same_reference ∙ before.same_reference;
      left = disk_then before.left c.in_ok-look_up_in.ensures.left;
      damage = c.in_ok-look_up_in.ensures.damage ∙ before.damage;
      long = let more = length-append c.loop-i.table.items c.look_up_in.new.known.items in omega (arith, ap length put, more, before.long, c.in_ok-look_up_in.ensures.long);
      agrees = agrees_then g a;
      below = below_then g a;
      limit = λ limit. c.look_up_in.ensures.limit (before.limit limit);
      counted = λ counted. c.look_up_in.ensures.counted (before.counted counted);
      kept = λ h agree. one_kept _ words c.args.opened.now c.loop-i.table.items c.extend_from_slice.new.self.items c.look_up_in.new.known.items i (o g a) put long wide (within g a) c.index-opened-i.is
          (before.kept h agree)
          (λ two docs index of. rw c.in_ok-look_up_in.was at (c.look_up_in.ensures.entries h two docs (subst (λ (bytes : List ℕ). IndexSpells (extent_bytes bytes (o g a).entry.extent) docs) (sym (read g a h agree)) index) of (agrees_here g a h agree)));
      said = λ h. one_said _ words c.args.opened.now (filters_of c.loop-i.tables) (filters_of c.look_up_in.new.tables) c.loop-i.table.items c.extend_from_slice.new.self.items c.look_up_in.new.known.items i (o g a) c.requires.ids put long wide (within g a) c.index-opened-i.is
          c.look_up_in.ensures.drops (before.said h)
          (λ two none. subst (λ (bytes : List ℕ). SaysOfEach (extent_bytes bytes (o g a).entry.extent) (dictionary_of (o g a).segment) words c.look_up_in.new.known.items) (before.left.keeps.read h).bytes (c.in_ok-look_up_in.ensures.said h two none));
    }

pub look_up_in-requires : goal.look_up_in-requires
look_up_in-requires g c =
    let o = c.index-opened-i.result in
    subst (λ (n : ℕ). EndsInside n o.entry.extent) (sym c.loop-i.invariant.left.keeps.size) (inside_at _ c.args.opened.now c.loop-i.i o c.requires.inside (omega arith) c.index-opened-i.is)
