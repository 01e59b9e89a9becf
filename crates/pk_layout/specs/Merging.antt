-- What planning a merge answers.
use Rattle.std.specs.Prelude.{◌≡◌, ◌⊎◌, ◌≤◌, ◌+◌, ◌-◌, ◌++◌, ◌&&◌, ◌||◌, ℕ, Bool, true, false, not, List, [], ◌∷◌}
use Rattle.std.specs.Prelude.{length, map, take, drop}
use Rattle.std.specs.Prelude.{Option, Some, None, Result, Ok, Err}
use Rattle.std.specs.List.{list_any}
use Rattle.pk_model.specs.Limits.{max_segment_bytes}
use Rattle.pk_disk.specs.Disk.{also, in_range}
use Rattle.pk_disk.specs.Units.{start_of}
use Rattle.pk_disk.specs.declared.units.Extent.{Extent}
use Rattle.pk_manifest.specs.Sound.{named}
use Rattle.pk_manifest.specs.Spelling.{Body, view}
use Rattle.pk_model.specs.declared.commands.Refusal.{Refusal}
use Rattle.pk_model.specs.declared.commands.Refusal.TheVariants as refusal
use Rattle.pk_model.specs.Collection.{Doc}
use Rattle.pk_posting.specs.Posting.{IsPosting}
use Rattle.pk_replace.specs.Claims.{AreApart, Claim, Each, IsAmong, IsInside, IsUntouched}
use Rattle.pk_replace.specs.Claims.{claim_of, places}
use Rattle.pk_open.specs.declared.opened.OpenSegment.{OpenSegment}
use Rattle.pk_open.specs.Opened.{entries_of, present}
use Rattle.pk_segment.specs.Placed.{IsIndexedOf}
use Rattle.pk_segment.specs.Spelling.{AreDocuments, segment_length}
use Rattle.pk_space.specs.Places.{FullAs, PlacedAs}
use Rattle.pk_state.specs.Committed.{Stored, lists, live_in}
use Rattle.pk_state.specs.Writing.{after_merge, is_too_large, replaced, segment_writes}
use Rattle.pk_state.specs.Writing.{table_writes, with_table, written_kind}
use Rattle.pk_layout.specs.Placed.{AreLaid}
use Rattle.pk_layout.specs.declared.fault.LayoutFault.{LayoutFault}
use Rattle.pk_layout.specs.declared.fault.LayoutFault.TheVariants.{TooLarge, Full, Damaged, Memory}
use Rattle.pk_layout.specs.declared.merging.MergePlan.{MergePlan}
use Rattle.pk_layout.specs.declared.merging.NewSegment.{NewSegment}
use Rattle.pk_layout.specs.Deletions.{most_deleted}
use Rattle.pk_layout.specs.Change.{changed}
use Rattle.pk_layout.specs.Plan.{GoesOn, GoesTo, IsPlan, IsPlanOf, PromisesTable, body_replaced, entry_in, laid_in}
use Rattle.pk_layout.specs.Plan.{new_segments, table_bytes, tabled}

-- the number is deleted in the segment, and no commit has taken its deletion
abbrev pub is_pending_of : ℕ → OpenSegment → Bool
is_pending_of k o = lists k o.deleted && not (lists k o.dead)

-- in one of them
abbrev pub is_pending_in : ℕ → List OpenSegment → Bool
is_pending_in k opened = list_any (is_pending_of k) opened

-- the numbers are just those
abbrev pub ArePending : List OpenSegment → List ℕ → Type 0
ArePending opened ns = (k : ℕ) → lists k ns ≡ is_pending_in k opened

-- so many numbers are pending that no list may have more
pub record AreTooMany (opened : List OpenSegment) : Type 0 where
  pub numbers : List ℕ
  pub posting : IsPosting numbers
  pub many : most_deleted ≤ length numbers
  pub pending : (k : ℕ) → lists k numbers ≡ true → is_pending_in k opened ≡ true

-- the numbers of one segment more are among them, or there is no memory, or they are too many
abbrev pub PutsPending : {T : Type 0} → OpenSegment → List ℕ → Result T LayoutFault → List ℕ
    → Type 0
PutsPending o old (Ok v) new = (k : ℕ) → lists k new ≡ (lists k old || is_pending_of k o)
PutsPending o old (Err Memory) new = Unit {0}
PutsPending o old (Err Damaged) new = IsPosting new × (most_deleted ≤ length new)
    × ((k : ℕ) → lists k new ≡ true → (lists k old || is_pending_of k o) ≡ true)
PutsPending o old (Err why) new = ⊥

abbrev pub TakesPending : List OpenSegment → Result (List ℕ) LayoutFault → Type 0
TakesPending opened (Ok ns) = ArePending opened ns
TakesPending opened (Err Memory) = Unit {0}
TakesPending opened (Err Damaged) = AreTooMany opened
TakesPending opened (Err why) = ⊥

-- The open segment that a merge makes of what it is going to write, without a deletion list; the
-- deletions that were pending still are.
pub record IsMergedOpen (opened : List OpenSegment) (new : NewSegment) (o : OpenSegment)
    : Type 0 where
  pub segment : o.segment ≡ new.segment
  pub no_list : o.dead ≡ []
  pub deleted : ArePending opened o.deleted
  pub posting : IsPosting o.deleted

-- there is one for a segment, and none for none
abbrev pub AreMerged : List OpenSegment → Option NewSegment → List OpenSegment → Type 0
AreMerged opened None merged = merged ≡ []
AreMerged opened (Some new) merged =
    (o : OpenSegment) × (merged ≡ o ∷ []) × IsMergedOpen opened new o

-- how long what is written is
abbrev pub lengths_in : Option NewSegment → List ℕ
lengths_in None = []
lengths_in (Some new) = new.bytes ∷ []

-- it has some bytes, and no more than a segment may have
abbrev pub IsSized : Option NewSegment → Type 0
IsSized None = Unit {0}
IsSized (Some new) = (1 ≤ new.bytes) × (new.bytes ≤ max_segment_bytes)

-- it is the segment of the documents, and open; none exactly where there is none
pub record IsSegmentTo (docs : List Doc) (new : NewSegment) : Type 0 where
  pub are : AreDocuments docs
  pub long : new.bytes ≡ segment_length docs written_kind
  pub fits : new.bytes ≤ max_segment_bytes
  pub opened : IsIndexedOf new.segment docs

abbrev pub IsNewOf : List Doc → Option NewSegment → Type 0
IsNewOf docs None = docs ≡ []
IsNewOf docs (Some new) = IsSegmentTo docs new

-- the items of a run, so many from a place on
abbrev pub run_of : {X : Type 0} → ℕ → ℕ → List X → List X
run_of from n xs = take n (drop from xs)

-- the extent that there may be
abbrev pub extents_in : Option Extent → List Extent
extents_in None = []
extents_in (Some e) = e ∷ []

-- the positions of the bytes in extents
abbrev pub bytes_in : List Extent → ℕ → Bool
bytes_in [] p = false
bytes_in (e ∷ extents) p = in_range (start_of e) e.bytes p || bytes_in extents p

-- the body after a merge of n entries from a place on, whose segment is in the extent that there
-- may be
abbrev pub body_merged : Body → ℕ → ℕ → Option Extent → Body
body_merged b from n segment = body_replaced b b.next_number from n segment b.entries

-- how many entries there are after it
abbrev pub count_merged : Body → ℕ → Option NewSegment → ℕ
count_merged b n new = length b.entries - n + length (lengths_in new)

-- the lengths of the segment that there may be, and of the table
abbrev pub lengths_merged : Body → ℕ → Option NewSegment → List ℕ
lengths_merged b n new = lengths_in new ++ table_writes (count_merged b n new)

-- what is written behind the segment
abbrev pub pieces_behind : MergePlan → List Claim
pieces_behind m = map claim_of m.pieces.items

-- all positions that are written
abbrev pub merge_touches : MergePlan → ℕ → Bool
merge_touches m = also (bytes_in (extents_in m.place)) (places (pieces_behind m))

-- a plan for the one segment, its place, and the table behind it; or why there is none
abbrev pub PlansMerged : Body → List OpenSegment → ℕ → ℕ → Option NewSegment
    → Result MergePlan LayoutFault → Type 0
PlansMerged b opened from n new (Ok m) =
    (merged : List OpenSegment) × AreMerged (run_of from n opened) new merged
    × (entries_of merged ≡ entry_in b m.place) × (table : List Extent) × (length (extents_in m.place) ≡ length (lengths_in new))
    × PlacedAs b.units (named b) (lengths_merged b n new) (extents_in m.place ++ table)
    × IsPlanOf (tabled table (body_merged b from n m.place)) opened (replaced from n merged opened)
    m.plan
    × (pieces_behind m ≡ laid_in table (table_bytes (body_merged b from n m.place).entries))
PlansMerged b opened from n new (Err (Full need largest)) =
    FullAs b.units (named b) (lengths_merged b n new) need largest
PlansMerged b opened from n new (Err Damaged) = AreTooMany (run_of from n opened)
PlansMerged b opened from n new (Err Memory) = Unit {0}
PlansMerged b opened from n new (Err TooLarge) = ⊥

-- the lengths of the segment of these documents, and of the table
abbrev pub writes_merged : Body → ℕ → List Doc → List ℕ
writes_merged b n docs =
    segment_writes docs ++ table_writes (length b.entries - n + length (segment_writes docs))

-- THE PLAN OF A MERGE of n segments from a place on, where all stand for these: their live documents
-- in one segment, placed at the first fit, and the table behind it; what is there now stays.
pub record PlansMerge (b : Body) (opened : List OpenSegment) (stored : List Stored) (from n : ℕ)
    (m : MergePlan) : Type 0 where
  pub table : List Extent
  pub before : length (extents_in m.place) ≡ length (segment_writes (live_in (run_of from n stored)))
  pub placed : PlacedAs b.units (named b) (writes_merged b n (live_in (run_of from n stored)))
      (extents_in m.place ++ table)
  pub fits : is_too_large (live_in (run_of from n stored)) ≡ false
  pub goes : GoesTo (merge_touches m)
      (λ c. IsAmong c (laid_in (extents_in m.place) (new_segments (live_in (run_of from n stored))))
      ⊎ IsAmong c (pieces_behind m)) opened m.plan (record { body = b; stored = stored })
      (with_table table
      (after_merge (record { body = b; stored = stored }) from n (extents_in m.place)))
  pub now : live_in (present (changed m.plan.change opened)
      (after_merge (record { body = b; stored = stored }) from n (extents_in m.place)).stored)
      ≡ live_in (present opened stored)

-- what is planned, by what the segments stand for
abbrev pub PlansMergeAs : Body → List OpenSegment → List Stored → ℕ → ℕ → Result MergePlan Refusal
    → Type 0
PlansMergeAs b opened stored from n (Ok m) = PlansMerge b opened stored from n m
PlansMergeAs b opened stored from n (Err refusal.SegmentTooLarge) =
    is_too_large (live_in (run_of from n stored)) ≡ true
PlansMergeAs b opened stored from n (Err (refusal.Full need largest)) =
    (is_too_large (live_in (run_of from n stored)) ≡ false)
    × FullAs b.units (named b) (writes_merged b n (live_in (run_of from n stored))) need largest
PlansMergeAs b opened stored from n (Err refusal.Memory) = Unit {0}
PlansMergeAs b opened stored from n (Err refusal.Disk) = Unit {0}
PlansMergeAs b opened stored from n (Err why) = ⊥

-- What is written behind the segment lies on the disk, is apart, and touches nothing that lies in the
-- place of the segment: so it may follow.
pub record MayFollow (size : ℕ) (m : MergePlan) : Type 0 where
  pub inside : Each (IsInside size) (pieces_behind m)
  pub apart : AreApart (pieces_behind m)
  pub missed : (c : Claim) → AreLaid (extents_in m.place) (c ∷ [])
      → IsUntouched (places (pieces_behind m)) c

-- Whatever the segments are: it is a plan, which goes on with them, writes at its place and behind it
-- alone, and leaves the next number.
pub record PlansRightly (size : ℕ) (b : Body) (opened : List OpenSegment) (n : ℕ)
    (new : Option NewSegment) (m : MergePlan) : Type 0 where
  pub plan : IsPlan size b opened m.plan
  pub goes_on : GoesOn (merge_touches m) b opened m.plan
  pub next_number : (view m.plan.manifest).next_number ≡ b.next_number
  pub table : List Extent
  pub before : length (extents_in m.place) ≡ length (lengths_in new)
  pub placed : PlacedAs b.units (named b) (lengths_merged b n new) (extents_in m.place ++ table)
  pub follows : MayFollow size m
  pub tabled : PromisesTable (λ c. IsAmong c (pieces_behind m)) m.plan

abbrev pub PlansMergeRightly : ℕ → Body → List OpenSegment → ℕ → Option NewSegment
    → Result MergePlan Refusal → Type 0
PlansMergeRightly size b opened n new (Ok m) = PlansRightly size b opened n new m
PlansMergeRightly size b opened n new (Err (refusal.Full need largest)) =
    FullAs b.units (named b) (lengths_merged b n new) need largest
PlansMergeRightly size b opened n new (Err why) = Unit {0}
