-- The filters that are kept agree with the segments: where there is none, after reads, and after a plan is carried out.
use Rattle.std.proofs.Common.{◌≡◌, ◌∙◌, ◌⊎◌, inl, inr, ℕ, zero, suc, ◌<◌, ◌≤◌, Bool, true, false, List, [], ◌∷◌, Option, get_or, refl, sym, ap, subst, arith}
use Rattle.std.specs.Prelude.{All, IfSome}
use Rattle.std.proofs.lemmas.List.Elements.{All-cons, All-head, All-nil, All-tail, All-weaker}
use Rattle.pk_cache.specs.declared.cache.BlockCache.{BlockCache}
use Rattle.pk_disk.specs.declared.disk.Disk.{Ghosts}
use Rattle.pk_disk.specs.declared.units.Extent.{Extent}
use Rattle.pk_disk.specs.Frames.{KeepsDisk}
use Rattle.pk_disk.specs.Units.{extent_bytes}
use Rattle.pk_layout.specs.declared.planning.Plan.{Plan}
use Rattle.pk_layout.specs.Change.{changed}
use Rattle.pk_layout.specs.Plan.{AreTaken, GoesOn, IsTakenFrom}
use Rattle.pk_manifest.specs.declared.manifest.Part.{Part as Entry}
use Rattle.pk_manifest.specs.Bodies.{other}
use Rattle.pk_manifest.specs.Spelling.{spelling}
use Rattle.pk_open.specs.declared.opened.OpenSegment.{OpenSegment}
use Rattle.pk_open.specs.Opened.{entries_of}
use Rattle.pk_open.proofs.PlaceLemmas.{entries_many, entry_there}
use Rattle.pk_replace.specs.Claims.{Claim, Each, IsUntouched}
use Rattle.pk_replace.specs.Course.{touched_by}
use Rattle.pk_replace.specs.Held.{IsHeld, IsNext}
use Rattle.pk_lookup.specs.declared.filters.SegmentFilter.{SegmentFilter}
use Rattle.pk_search.specs.declared.tables.FindTables.{FindTables}
use Rattle.pk_lookup.specs.Filtered.{FiltersAgree, FiltersAgreeAt, FiltersBelow, IsFilterFor, filters_of}
use Rattle.pk_lookup.proofs.FilterLemmas.{agree_at, some_so}
use Rattle.pk_lookup.proofs.EntryLemmas.{any_or}
use Rattle.pk_segment.specs.Placed.{IsIndexedOf}
use Rattle.pk_segment.specs.Spelling.{IndexSpells}
use Rattle.pk_segment.specs.declared.segment.Segment.{Segment}
use Rattle.pk_store.specs.Deleting.{deleted_at, with_deletion, with_opened}
use Rattle.pk_store.specs.Filtered.{IsFiltered}
use Rattle.pk_store.specs.View.{IsCached, IsReady, VolumeView}
use Rattle.pk_store.proofs.CachedLemmas.{Same, cached_read, claims, held, named_untouched, next, opened_below, same_bytes}
use Rattle.pk_store.proofs.CarryLemmas.{carried, clear_flag, flagged_on, ready_kept, with_blocks, with_disk}

-- of these ids
abbrev Below : ℕ → SegmentFilter → Type 0
Below n k = IfSome k.filter (λ _. k.segment < n)

-- ---- where there is none
pub filtered_none : {D : Type 0} (d : Ghosts D) (v : VolumeView D) (tables : FindTables) → filters_of tables.words ≡ [] → IsFiltered d v tables
filtered_none d v tables none = record {
  below = subst (FiltersBelow v.body.next_segment) (sym none) (All-nil (Below v.body.next_segment));
  agrees = λ h clear. subst (λ (fs : List SegmentFilter). FiltersAgree (d.content v.disk) fs v.opened) (sym none) (λ i o lt. All-nil (IsFilterFor (extent_bytes (d.content v.disk) (get_or v.opened i o).entry.extent) (get_or v.opened i o)));
}

-- ---- after reads
filtered_read : {D : Type 0} (d : Ghosts D) (v : VolumeView D) (disk : D) (tables : FindTables) → KeepsDisk d v.disk disk → IsFiltered d v tables → IsFiltered d (with_disk v disk) tables
filtered_read d v disk tables keeps is = record {
  below = is.below;
  agrees = λ h clear. subst (λ (bytes : List ℕ). FiltersAgree bytes (filters_of tables.words) v.opened) (sym (keeps.read h).bytes) (is.agrees h clear);
}

-- and so is all that a volume keeps to
pub volume_read : {D R : Type 0} (d : Ghosts D) (v : VolumeView D) (disk : D) (cache : Option BlockCache) (tables : FindTables) → KeepsDisk d v.disk disk
    → IsReady d v × IsCached d v cache × R × IsFiltered d v tables → IsReady d (with_disk v disk) × IsCached d (with_disk v disk) cache × R × IsFiltered d (with_disk v disk) tables
volume_read d v disk cache tables keeps is = (ready_kept d v is.0 disk keeps, cached_read d v disk cache keeps is.1, is.2, filtered_read d v disk tables keeps is.3)

-- ---- and after a find, that makes others
pub filtered_found : {D : Type 0} (d : Ghosts D) (v : VolumeView D) (disk : D) (blocks : ℕ) (tables now : FindTables) → IsReady d v → KeepsDisk d v.disk disk → IsFiltered d v tables
    → ((next : ℕ) → All (λ (o : OpenSegment). o.entry.segment < next) v.opened → FiltersBelow next (filters_of tables.words) → FiltersBelow next (filters_of now.words))
    → (d.honest → FiltersAgree (d.content v.disk) (filters_of tables.words) v.opened → FiltersAgree (d.content v.disk) (filters_of now.words) v.opened) → IsFiltered d (with_blocks (with_disk v disk) blocks) now
filtered_found d v disk blocks tables now ready keeps is below agrees = record {
  below = below v.body.next_segment (opened_below d v ready) is.below;
  agrees = λ h clear. subst (λ (bytes : List ℕ). FiltersAgree bytes (filters_of now.words) v.opened) (sym (keeps.read h).bytes) (agrees h (is.agrees h clear));
}

-- ---- once a disk has to be opened again
pub filtered_failed : {D : Type 0} (d : Ghosts D) (v : VolumeView D) (disk : D) (tables : FindTables) → IsFiltered d v tables → IsFiltered d (flagged_on v disk) tables
filtered_failed d v disk tables is = record { below = is.below; agrees = λ h flag. absurd (clear_flag true flag refl) }

-- ---- open segments that are the same but for what is deleted
agree_deleted : (bytes : List ℕ) (filters : List SegmentFilter) (os : List OpenSegment) (i n : ℕ) → FiltersAgree bytes filters os → FiltersAgree bytes filters (deleted_at os i n)
agree_deleted bytes filters [] i n all = all
agree_deleted bytes filters (o ∷ os) zero n all = All-cons (FiltersAgreeAt bytes filters) (with_deletion o n) os (All-head (FiltersAgreeAt bytes filters) o os all) (All-tail (FiltersAgreeAt bytes filters) o os all)
agree_deleted bytes filters (o ∷ os) (suc i) n all = All-cons (FiltersAgreeAt bytes filters) o (deleted_at os i n) (All-head (FiltersAgreeAt bytes filters) o os all) (agree_deleted bytes filters os i n (All-tail (FiltersAgreeAt bytes filters) o os all))

pub filtered_deleted : {D : Type 0} (d : Ghosts D) (v : VolumeView D) (tables : FindTables) (i n : ℕ) → IsFiltered d v tables → IsFiltered d (with_opened v (deleted_at v.opened i n)) tables
filtered_deleted d v tables i n is = record { below = is.below; agrees = λ h clear. agree_deleted (d.content v.disk) (filters_of tables.words) v.opened i n (is.agrees h clear) }

-- ---- open segments whose bytes are the same
same_words : (old new : List ℕ) (o : OpenSegment) (filters : List SegmentFilter) → Same old new o.entry.extent → FiltersAgreeAt old filters o → FiltersAgreeAt new filters o
same_words old new o filters same = subst (λ (x : List ℕ). All (IsFilterFor x o) filters) (sym same)

agree_same : (old new : List ℕ) (filters : List SegmentFilter) (opened : List OpenSegment) → FiltersAgree old filters opened → All (λ (e : Entry). Same old new e.extent) (entries_of opened) → FiltersAgree new filters opened
agree_same old new filters opened all same i d lt =
    let o = get_or opened i d in
    let there = entry_there opened i o lt (any_or opened i d o lt) in
    same_words old new o filters (subst (λ (e : Entry). Same old new e.extent) (sym there) (same i o.entry (omega (arith, lt, entries_many opened)))) (all i d lt)

-- what is taken from them, and what is new
taken_agree : (old new : List ℕ) (filters : List SegmentFilter) (n : ℕ) (opened os : List OpenSegment) → FiltersBelow n filters → FiltersAgree old filters opened
    → All (λ (e : Entry). Same old new e.extent) (entries_of opened) → AreTaken n opened os → FiltersAgree new filters os
taken_agree old new filters n opened [] below all same are = All-nil (FiltersAgreeAt new filters)
taken_agree old new filters n opened (o ∷ os) below all same are = All-cons (FiltersAgreeAt new filters) o os (one are.0) (taken_agree old new filters n opened os below all same are.1)
  where
    one : (n ≤ o.entry.segment) ⊎ IsTakenFrom opened o → FiltersAgreeAt new filters o
    one (inl fresh) = All-weaker (Below n) (IsFilterFor (extent_bytes new o.entry.extent) o) (λ k low mine. some_so k.filter (λ filter lt. absurd (omega (arith, lt, mine, fresh))) low) filters below
    one (inr t) =
        let was = t.was.entry in
        let there : extent_bytes new was.extent ≡ extent_bytes old was.extent = subst (λ (x : Entry). Same old new x.extent) (sym (entry_there opened t.place t.was t.within t.was_is)) (same t.place was (omega (arith, t.within, entries_many opened))) in
        let bytes : extent_bytes new o.entry.extent ≡ extent_bytes old was.extent = ap (λ (x : Extent). extent_bytes new x) t.extent ∙ there in
        All-weaker (IsFilterFor (extent_bytes old was.extent) t.was) (IsFilterFor (extent_bytes new o.entry.extent) o) (λ k is mine.
        some_so k.filter (λ filter has docs index of. has docs (subst (λ (x : List ℕ). IndexSpells x docs) bytes index) (subst (λ (s : Segment). IsIndexedOf s docs) t.segment of)) (is (mine ∙ t.id))) filters
        (agree_at old filters opened t.place t.was all t.within t.was_is)

-- ---- after a plan is carried out
module _ {D : Type 0} (d : Ghosts D) (v : VolumeView D) (p : Plan) (cache : Option BlockCache) (tables : FindTables) (ready : IsReady d v) (cached : IsCached d v cache) (is : IsFiltered d v tables) (clear : v.reopen ≡ false)
    (touched : ℕ → Bool) (promised : Claim → Type 0) (goes : GoesOn touched v.body v.opened p) where
  abbrev old : List ℕ
  old = d.content v.disk

  abbrev there : List Claim
  there = claims d v p cache ready cached clear touched promised goes

  pub filtered_done : (disk : D) (body : List ℕ) → (d.honest → (old_body : List ℕ) (cs new_claims : List Claim) → IsHeld (d.content v.disk) (d.is_open v.disk) v.spare old_body cs
      → IsNext v.spare touched promised cs new_claims → IsHeld (d.content disk) (d.is_open disk) (other v.spare) body new_claims) → IsFiltered d (carried v p disk) tables
  filtered_done disk body keeps = record {
    below = All-weaker (Below v.body.next_segment) (Below (carried v p disk).body.next_segment) (λ k. some_so k.filter (λ filter low. (let more = goes.ids in omega (arith, low, more)))) (filters_of tables.words) is.below;
    agrees = λ h flag. taken_agree old (d.content disk) (filters_of tables.words) v.body.next_segment v.opened (changed p.change v.opened) is.below (is.agrees h clear)
        (same_bytes d v p cache ready cached clear touched promised goes (d.content disk) (d.is_open disk) (keeps h (spelling v.body) there there (held d v p cache ready cached clear touched promised goes h) (next d v p cache ready cached clear touched promised goes)).stands) goes.taken;
  }

  -- where it was stopped, but for a write
  pub filtered_kept : (disk : D) → (d.honest → (old_body : List ℕ) (cs : List Claim) → IsHeld (d.content v.disk) (d.is_open v.disk) v.spare old_body cs
      → Each (IsUntouched (touched_by v.spare touched)) cs → IsHeld (d.content disk) (d.is_open disk) v.spare old_body cs) → IsFiltered d (with_disk v disk) tables
  filtered_kept disk keeps = record {
    below = is.below;
    agrees = λ h flag. agree_same old (d.content disk) (filters_of tables.words) v.opened (is.agrees h clear)
        (same_bytes d v p cache ready cached clear touched promised goes (d.content disk) (d.is_open disk) (keeps h (spelling v.body) there (held d v p cache ready cached clear touched promised goes h) (named_untouched d v p cache ready cached clear touched promised goes)).stands);
  }
