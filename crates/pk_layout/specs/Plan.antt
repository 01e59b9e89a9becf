-- What is going to be written, and what is committed once it is.
use Rattle.std.specs.Prelude.{◌≡◌, ◌+◌, ◌*◌, ◌≤◌, ◌<◌, ◌⊎◌, ◌&&◌, ℕ, Bool, true, false, not, List}
use Rattle.std.specs.Prelude.{[], ◌∷◌, ◌++◌, if◌then◌else◌}
use Rattle.std.specs.Prelude.{get_or, map, length, All, Option, Some, None, Result, Ok, Err}
use Rattle.std.specs.Global.{Vec}
use Rattle.std.specs.List.{flat_map, list_any}
use Rattle.std.specs.List.Sorted.{IsStrictlyIncreasing}
use Rattle.pk_disk.specs.Disk.{in_range}
use Rattle.pk_disk.specs.Units.{IsFitted, start_of, units_for, units_in}
use Rattle.pk_disk.specs.declared.units.Extent.{Extent}
use Rattle.pk_manifest.specs.declared.half.Half.{Half}
use Rattle.pk_manifest.specs.Sound.{IsBody, named, segment_limit}
use Rattle.pk_manifest.specs.declared.manifest.Part.{Part as Entry}
use Rattle.pk_manifest.specs.Spelling.{Body, entry, spelling, view}
use Rattle.pk_model.specs.Collection.{Doc, numbers_of}
use Rattle.pk_model.specs.Limits.{end_of_ids, end_of_numbers, max_segments}
use Rattle.pk_replace.specs.Claims.{AreApart, Claim, Each, IsAmong, IsBehind, IsInside, IsUntouched}
use Rattle.pk_replace.specs.Claims.{claim_of, places}
use Rattle.pk_replace.specs.Held.{IsNext}
use Rattle.pk_segment.specs.Placed.{IsIndexedOf}
use Rattle.pk_posting.specs.Spelling.{spelling as list_spelling}
use Rattle.pk_open.specs.declared.opened.OpenSegment.{OpenSegment}
use Rattle.pk_open.specs.Opened.{AreOpenOf, entries_of, pends, present}
pub use Rattle.pk_open.specs.Opening.{IsGrown}
use Rattle.pk_segment.specs.Spelling.{SegmentSpells}
use Rattle.pk_segment.specs.Spelling.{segment_spelling}
use Rattle.pk_space.specs.declared.runs.Full.{Full as NoRoom}
use Rattle.pk_space.specs.Free.{IsFirstFit, IsFullAt}
use Rattle.pk_space.specs.Places.{PlacedAs, FullAs}
use Rattle.pk_state.specs.Committed.{Stored, Committed}
use Rattle.pk_state.specs.Kept.{AreEntries, all_claims, table_claims}
use Rattle.pk_state.specs.Writing.{is_too_large, new_entry, new_stored, next_body, replaced}
use Rattle.pk_state.specs.Writing.{table_writes, with_table, written_kind}
use Rattle.pk_segment.specs.declared.building.Built.{Built}
use Rattle.pk_layout.specs.declared.committing.CommitPlan.{CommitPlan}
use Rattle.pk_layout.specs.declared.fault.LayoutFault.{LayoutFault}
use Rattle.pk_layout.specs.declared.fault.LayoutFault.TheVariants.{TooLarge, Full, Damaged, Memory}
use Rattle.pk_layout.specs.declared.planning.Plan.{Plan}
use Rattle.pk_layout.specs.declared.change.Change.{Change}
use Rattle.pk_layout.specs.Change.{Fits, changed, with_list}
use Rattle.pk_layout.specs.Placed.{AreLaid}

-- the bytes of the new lists
abbrev pub new_lists : List OpenSegment → List (List ℕ)
new_lists [] = []
new_lists (o ∷ opened) =
    if pends o then list_spelling o.deleted ∷ new_lists opened else new_lists opened

-- and of a segment of these documents, none for no document
abbrev pub new_segments : List Doc → List (List ℕ)
new_segments [] = []
new_segments (d ∷ docs) = segment_spelling (d ∷ docs) written_kind ∷ []

-- all that a commit writes besides the body and its table
abbrev pub commit_bytes : List OpenSegment → List Doc → List (List ℕ)
commit_bytes opened docs = new_segments docs ++ new_lists opened

-- how many entries there are after it
abbrev pub commit_count : List Entry → List Doc → ℕ
commit_count entries [] = length entries
commit_count entries (d ∷ docs) = length entries + 1

-- THE TABLE. The extent that there may be, in place of another one.
abbrev pub table_at : List Extent → Extent → Extent
table_at [] e = e
table_at (t ∷ more) e = t

-- a body with its table in this extent, if there is one
abbrev pub tabled : List Extent → Body → Body
tabled table b = record {
  version = b.version;
  generation = b.generation;
  units = b.units;
  next_number = b.next_number;
  next_segment = b.next_segment;
  table = table_at table b.table;
  entries = b.entries;
}

-- the bytes of the table of these entries: none without an entry
abbrev pub table_bytes : List Entry → List (List ℕ)
table_bytes [] = []
table_bytes (e ∷ entries) = flat_map entry (e ∷ entries) ∷ []

-- the open segment with all its deletions in a list in this extent
abbrev pub settled : Extent → OpenSegment → OpenSegment
settled x o = record {
  entry = with_list o.entry x;
  segment = o.segment;
  dead = o.deleted;
  deleted = o.deleted;
}

-- the open segments, those with a pending deletion with all of them in their new lists in these
-- extents, one after the other
abbrev pub settled_in : List OpenSegment → List Extent → List OpenSegment
settled_in opened [] = opened
settled_in [] (x ∷ extents) = []
settled_in (o ∷ opened) (x ∷ extents) =
    if pends o then settled x o ∷ settled_in opened extents
    else o ∷ settled_in opened (x ∷ extents)

-- no deletion is pending
abbrev pub AreSettled : List OpenSegment → Type 0
AreSettled opened = list_any pends opened ≡ false

-- what is committed after a commit of these documents and of all that is deleted
abbrev pub commit_to : Committed → List OpenSegment → List Doc → ℕ → List Extent → Committed
commit_to c opened [] next extents = record {
  body = next_body c.body next 0 (entries_of (settled_in opened extents));
  stored = present opened c.stored;
}
commit_to c opened (d ∷ docs) next [] = record {
  body = next_body c.body next 0 (entries_of opened);
  stored = present opened c.stored;
}
commit_to c opened (d ∷ docs) next (e ∷ extents) = record {
  body = next_body c.body next 1
      (entries_of (settled_in opened extents) ++ new_entry c.body e ∷ []);
  stored = present opened c.stored ++ new_stored (d ∷ docs) ∷ [];
}

-- bytes, each from the start of the extent at its place
abbrev pub laid_in : List Extent → List (List ℕ) → List Claim
laid_in [] writes = []
laid_in (e ∷ extents) [] = []
laid_in (e ∷ extents) (w ∷ writes) =
    record { at = start_of e; bytes = w } ∷ laid_in extents writes

-- the plan puts that body in force, with that change
pub record PutsInForce (b : Body) (c : Change) (p : Plan) : Type 0 where
  pub manifest_is : view p.manifest ≡ b
  pub change_is : p.change ≡ c
  pub body_is : p.body.items ≡ spelling (view p.manifest)

-- the plan puts that body in force, and makes of the open segments others
pub record IsPlanOf (b : Body) (opened next : List OpenSegment) (p : Plan) : Type 0 where
  pub manifest_is : view p.manifest ≡ b
  pub opened_is : changed p.change opened ≡ next
  pub fits : Fits p.change (length opened)
  pub body_is : p.body.items ≡ spelling (view p.manifest)

-- A PLAN FOR A BODY, on a disk of so many bytes: the body that follows is sound, of version 2, a
-- generation later, with an open segment and 40 bytes of its table for each entry.
pub record IsPlan (size : ℕ) (b : Body) (segments : List OpenSegment) (p : Plan) : Type 0 where
  pub generation : b.generation < end_of_ids
  pub later : (view p.manifest).generation ≡ b.generation + 1
  pub version : (view p.manifest).version ≡ 2
  pub sound : IsBody (units_in size) (view p.manifest)
  pub body_is : p.body.items ≡ spelling (view p.manifest)
  pub table : (view p.manifest).table.bytes ≡ 40 * length (view p.manifest).entries
  pub fits : Fits p.change (length segments)
  pub opened : entries_of (changed p.change segments) ≡ (view p.manifest).entries
  pub grown : All IsGrown (changed p.change segments)

-- what a commit writes, as claims
abbrev pub pieces_of : CommitPlan → List Claim
pieces_of p = map claim_of p.pieces.items

-- they lie on a disk of so many bytes, and are apart
abbrev pub HavePlace : ℕ → CommitPlan → Type 0
HavePlace size p = Each (IsInside size) (pieces_of p) × AreApart (pieces_of p)

-- The open segment is that at a place, but for what is deleted.
pub record IsTakenFrom (opened : List OpenSegment) (o : OpenSegment) : Type 0 where
  pub place : ℕ
  pub was : OpenSegment
  pub within : place < length opened
  pub was_is : was ≡ get_or opened place was
  pub id : o.entry.segment ≡ was.entry.segment
  pub extent : o.entry.extent ≡ was.entry.extent
  pub segment : o.segment ≡ was.segment

-- each of the new open segments is taken from the old ones, or has an id that was not given before
abbrev pub AreTaken : ℕ → List OpenSegment → List OpenSegment → Type 0
AreTaken next opened [] = Unit {0}
AreTaken next opened (o ∷ os) =
    ((next ≤ o.entry.segment) ⊎ IsTakenFrom opened o) × AreTaken next opened os

-- The plan goes on with the segments of a body: each that it leaves stays as it is, the others have
-- new ids, and of no extent that the body names is a position touched.
pub record GoesOn (touched : ℕ → Bool) (b : Body) (opened : List OpenSegment) (p : Plan)
    : Type 0 where
  pub ids : b.next_segment ≤ (view p.manifest).next_segment
  pub taken : AreTaken b.next_segment opened (changed p.change opened)
  pub missed : (claims : List Claim) → AreLaid (named b) claims
      → Each (IsUntouched touched) claims

-- The plan takes what is committed over to this: no claim of what was is touched, and each claim of
-- what follows is one of these or promised.
pub record GoesTo (touched : ℕ → Bool) (promised : Claim → Type 0) (segments : List OpenSegment)
    (p : Plan) (old new : Committed) : Type 0 where
  pub body : new.body ≡ view p.manifest
  pub entries : AreEntries new.body.entries new.stored
  pub opened : AreOpenOf (changed p.change segments) new.stored
  pub next : (spare : Half) → IsNext spare touched promised
      (all_claims old) (all_claims new)

-- the table of the plan's body is promised, and lies behind the bodies
abbrev pub PromisesTable : (Claim → Type 0) → Plan → Type 0
PromisesTable promised p =
    Each (λ c. promised c × IsBehind c) (table_claims (view p.manifest))

-- documents and a next number that may follow a body
pub record AreNext (b : Body) (docs : List Doc) (next : ℕ) : Type 0 where
  pub rising : IsStrictlyIncreasing (numbers_of docs)
  pub least : All (λ (d : Doc). 1 ≤ d.number) docs
  pub some : 1 ≤ next
  pub most : next ≤ end_of_numbers

-- WHAT PLANNING ANSWERS. Either the first run that fits so many bytes is answered, and free no
-- more; or none is that long.
abbrev pub IsTaken : (ℕ → Bool) → (ℕ → Bool) → ℕ → Result Extent NoRoom → Type 0
IsTaken free free' bytes (Ok e) = (e.bytes ≡ bytes) × IsFitted e × IsFirstFit free e.units e.first
    × ((u : ℕ) → free' u ≡ (free u && not (in_range e.first e.units u)))
IsTaken free free' bytes (Err full) =
    (full.need ≡ units_for bytes) × IsFullAt free full.need full.largest

-- So many bytes each are placed, or why they are not.
abbrev pub PlacesAs : Body → List ℕ → Result (Vec Extent) LayoutFault → Type 0
PlacesAs b lengths (Ok extents) = PlacedAs b.units (named b) lengths extents.items
PlacesAs b lengths (Err (Full need largest)) = FullAs b.units (named b) lengths need largest
PlacesAs b lengths (Err Memory) = Unit {0}
PlacesAs b lengths (Err why) = ⊥

-- the segment that is built of the documents, and open: none where there is no document
abbrev pub IsBuiltOf : List Doc → Option Built → Type 0
IsBuiltOf docs None = docs ≡ []
IsBuiltOf docs (Some built) =
    SegmentSpells built.bytes.items docs written_kind × IsIndexedOf built.segment docs

-- or why there is none
abbrev pub BuildsAs : List Doc → Result (Option Built) LayoutFault → Type 0
BuildsAs docs (Ok built) = IsBuiltOf docs built
BuildsAs docs (Err TooLarge) = is_too_large docs ≡ true
BuildsAs docs (Err Memory) = Unit {0}
BuildsAs docs (Err why) = ⊥

-- what may be written: at least five bytes each, and no more than a segment has
abbrev pub CanBeWritten : List (List ℕ) → Type 0
CanBeWritten writes = All (λ w. (5 ≤ length w) × (length w ≤ segment_limit)) writes

-- the byte lengths of these, and behind them that of the table of so many entries
abbrev pub lengths_with : List (List ℕ) → ℕ → List ℕ
lengths_with writes count = map length writes ++ table_writes count

-- the entries of a segment that there may be, and how many ids they take
abbrev pub entry_in : Body → Option Extent → List Entry
entry_in b None = []
entry_in b (Some e) = new_entry b e ∷ []

abbrev pub ids_in : Option Extent → ℕ
ids_in None = 0
ids_in (Some e) = 1

-- the body that follows with this next number and these entries, of which a run of n from a place on
-- gives way to the segment in the extent that there may be
abbrev pub body_replaced : Body → ℕ → ℕ → ℕ → Option Extent → List Entry → Body
body_replaced b next from n place entries =
    next_body b next (ids_in place) (replaced from n (entry_in b place) entries)

-- the plan is one of a commit of these documents and of all that is deleted, placed at the first fit
pub record PlansCommit (b : Body) (opened : List OpenSegment) (docs : List Doc) (next : ℕ)
    (p : CommitPlan) : Type 0 where
  pub next_is : (view p.plan.manifest).next_number ≡ next
  pub settled : AreSettled (changed p.plan.change opened)
  pub extents : List Extent
  pub table : List Extent
  pub before : length extents ≡ length (commit_bytes opened docs)
  pub placed : PlacedAs b.units (named b)
      (lengths_with (commit_bytes opened docs) (commit_count b.entries docs)) (extents ++ table)
  pub fits : is_too_large docs ≡ false
  pub goes_on : GoesOn (places (pieces_of p)) b opened p.plan
  pub tabled : PromisesTable (λ c. IsAmong c (pieces_of p)) p.plan
  pub goes : (stored : List Stored) → AreEntries b.entries stored → AreOpenOf opened stored
      → GoesTo (places (pieces_of p)) (λ c. IsAmong c (pieces_of p)) opened p.plan
      (record { body = b; stored = stored })
      (with_table table (commit_to (record { body = b; stored = stored }) opened docs next extents))

-- a plan, or why there is none
abbrev pub PlansAs : ℕ → Body → List OpenSegment → List Doc → ℕ → Result CommitPlan LayoutFault
    → Type 0
PlansAs size b opened docs next (Ok p) =
    IsPlan size b opened p.plan × PlansCommit b opened docs next p × HavePlace size p
PlansAs size b opened docs next (Err TooLarge) = is_too_large docs ≡ true
PlansAs size b opened docs next (Err (Full need largest)) = (is_too_large docs ≡ false)
    × FullAs b.units (named b)
    (lengths_with (commit_bytes opened docs) (commit_count b.entries docs)) need largest
PlansAs size b opened docs next (Err Memory) = Unit {0}
PlansAs size b opened docs next (Err Damaged) = ⊥

-- a body may follow, of so many documents more: a generation and a segment id are left, and an entry
-- if there is a document
abbrev pub LeavesRoom : Body → ℕ → Type 0
LeavesRoom b n = (b.generation < end_of_ids) × (b.next_segment < end_of_ids)
    × (0 < n → length b.entries < max_segments)
