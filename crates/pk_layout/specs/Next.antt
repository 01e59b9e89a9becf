-- What comes next, and what planning it answers.
use Rattle.std.specs.Prelude.{◌≡◌, ◌≤◌, ◌+◌, ◌++◌, ℕ, List, [], ◌∷◌, length, map}
use Rattle.std.specs.Prelude.{Option, Some, None, Result, Ok, Err}
use Rattle.pk_disk.specs.declared.units.Extent.{Extent}
use Rattle.pk_manifest.specs.Sound.{named}
use Rattle.pk_manifest.specs.Spelling.{Body}
use Rattle.pk_model.specs.Limits.{max_segments}
use Rattle.pk_open.specs.declared.opened.OpenSegment.{OpenSegment}
use Rattle.pk_open.specs.Opened.{entries_of}
use Rattle.pk_posting.specs.Posting.{IsPosting}
use Rattle.pk_replace.specs.Claims.{claim_of}
use Rattle.pk_space.specs.Places.{FullAs, PlacedAs}
use Rattle.pk_state.specs.Writing.{new_entry, replaced}
use Rattle.pk_segment.specs.declared.building.Built.{Built}
use Rattle.pk_layout.specs.declared.change.Run.{Run}
use Rattle.pk_layout.specs.declared.fault.LayoutFault.{LayoutFault}
use Rattle.pk_layout.specs.declared.fault.LayoutFault.TheVariants.{Full, Damaged, Memory}
use Rattle.pk_layout.specs.declared.merging.NewSegment.{NewSegment}
use Rattle.pk_layout.specs.declared.next.Next.{Next}
use Rattle.pk_layout.specs.declared.next.NextPlan.{NextPlan}
use Rattle.pk_layout.specs.declared.next.NextSegment.{NextSegment}
use Rattle.pk_layout.specs.Merging.{ArePending, AreTooMany, IsSized, count_merged, extents_in}
use Rattle.pk_layout.specs.Merging.{lengths_in}
use Rattle.pk_layout.specs.Plan.{CanBeWritten, IsPlanOf, body_replaced, laid_in, lengths_with}
use Rattle.pk_layout.specs.Plan.{settled_in, table_bytes, tabled}

-- the segment that there may be, without its deletions
abbrev pub new_in : Option NextSegment → Option NewSegment
new_in None = None
new_in (Some s) = Some s.new

-- the bytes of the new lists
abbrev pub lists_in : Next → List (List ℕ)
lists_in x = map (λ w. w.items) x.lists.items

-- the lengths of all that is written: the segment, the lists, and the table
abbrev pub lengths_next : Body → Next → List ℕ
lengths_next b x = lengths_in (new_in x.segment)
    ++ lengths_with (lists_in x) (count_merged b x.run.count (new_in x.segment))

-- It may follow a body.
pub record CanFollow (b : Body) (x : Next) : Type 0 where
  pub within : x.run.from + x.run.count ≤ length b.entries
  pub few : count_merged b x.run.count (new_in x.segment) ≤ max_segments
  pub sized : IsSized (new_in x.segment)
  pub lists : CanBeWritten (lists_in x)

-- the new segment open, with its entry in the extent that there may be
abbrev pub opened_new : Body → Option NextSegment → Option Extent → List OpenSegment
opened_new b None place = []
opened_new b (Some s) None = []
opened_new b (Some s) (Some e) =
    record { entry = new_entry b e; segment = s.new.segment; dead = []; deleted = s.deleted } ∷ []

-- WHAT IS OPEN NEXT, the new lists being in these extents
abbrev pub opened_next : Body → List OpenSegment → Next → Option Extent → List Extent
    → List OpenSegment
opened_next b opened x place lists = replaced x.run.from x.run.count
    (opened_new b x.segment place) (settled_in opened lists)

-- THE NEXT BODY, but for its table
abbrev pub body_next : Body → List OpenSegment → Next → Option Extent → List Extent → Body
body_next b opened x place lists = body_replaced b x.next_number x.run.from x.run.count place
    (entries_of (settled_in opened lists))

-- its plan: the segment at the first fit, the lists behind it, and the table; or why there is none
abbrev pub PlansNext : Body → List OpenSegment → Next → Result NextPlan LayoutFault → Type 0
PlansNext b opened x (Ok p) =
    (lists : List Extent) × (table : List Extent)
    × (length (extents_in p.place) ≡ length (lengths_in (new_in x.segment)))
    × (length lists ≡ length (lists_in x))
    × PlacedAs b.units (named b) (lengths_next b x) (extents_in p.place ++ (lists ++ table))
    × IsPlanOf (tabled table (body_next b opened x p.place lists)) opened
    (opened_next b opened x p.place lists) p.plan
    × (map claim_of p.pieces.items ≡ laid_in (lists ++ table)
    (lists_in x ++ table_bytes (body_next b opened x p.place lists).entries))
PlansNext b opened x (Err (Full need largest)) =
    FullAs b.units (named b) (lengths_next b x) need largest
PlansNext b opened x (Err Memory) = Unit {0}
PlansNext b opened x (Err why) = ⊥

-- OF A COMMIT. The empty run behind all segments.
abbrev pub run_behind : List OpenSegment → Run
run_behind opened = record { from = length opened; count = 0 }

-- What is built, as what comes next: of its documents nothing is deleted.
abbrev pub fresh_in : Option Built → Option NextSegment
fresh_in None = None
fresh_in (Some built) = Some (record {
  new = record { bytes = length built.bytes.items; segment = built.segment };
  deleted = [];
})

-- the bytes of what is built
abbrev pub built_bytes : Option Built → List (List ℕ)
built_bytes None = []
built_bytes (Some built) = built.bytes.items ∷ []

-- OF A MERGE. The segment that there may be, with what is pending in these.
abbrev pub HasPending : List OpenSegment → Option NewSegment → Option NextSegment → Type 0
HasPending opened None s = s ≡ None
HasPending opened (Some new) s =
    (deleted : List ℕ) × (s ≡ Some (record { new = new; deleted = deleted }))
    × ArePending opened deleted × IsPosting deleted

-- or why there is none
abbrev pub MovesPending : List OpenSegment → Option NewSegment
    → Result (Option NextSegment) LayoutFault → Type 0
MovesPending opened new (Ok s) = HasPending opened new s
MovesPending opened new (Err Memory) = Unit {0}
MovesPending opened new (Err Damaged) = AreTooMany opened
MovesPending opened new (Err why) = ⊥
