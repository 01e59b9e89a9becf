-- A merge passes over no word whose list is none, or goes past its segment, where the segments leave a
-- document.
use Rattle.std.proofs.Common.{◌≡◌, ◌∙◌, inl, inr, ℕ, List, [], ◌∷◌, length, take, sym, ap, subst, arith, Option, Some, None, Result, Ok, Err}
use Rattle.std.specs.Prelude.{All, OnOk}
use Rattle.std.proofs.lemmas.List.{take_all}
use Rattle.std.proofs.lemmas.List.Elements.{All-cons, All-head, All-nil, All-tail}
use Rattle.pk_disk.specs.declared.disk.Disk.{Ghosts}
use Rattle.pk_disk.specs.declared.units.Extent.{Extent}
use Rattle.pk_disk.specs.Units.{extent_bytes}
use Rattle.pk_join.specs.declared.input.MergeInput.{MergeInput}
use Rattle.pk_join.specs.WholeLists.{ListsAreWhole}
use Rattle.pk_layout.specs.declared.merging.MergePlan.{MergePlan}
use Rattle.pk_layout.specs.declared.merging.NewSegment.{NewSegment}
use Rattle.pk_layout.specs.Change.{changed}
use Rattle.pk_layout.specs.Merging.{PlansMerged, run_of}
use Rattle.pk_manifest.specs.declared.manifest.Part.{Part as Entry}
use Rattle.pk_manifest.specs.Spelling.{Body}
use Rattle.pk_merge.specs.declared.prepared.Prepared.{Prepared}
use Rattle.pk_merge.specs.Said.{NameWhole, NamesWhole}
use Rattle.pk_model.specs.declared.commands.Refusal.{Refusal}
use Rattle.pk_open.specs.declared.opened.OpenSegment.{OpenSegment}
use Rattle.pk_open.specs.Opened.{entries_of}
use Rattle.pk_open.proofs.PlaceLemmas.{entries_many}
use Rattle.pk_store.specs.Losing.{LosesNone}
use Rattle.pk_store.proofs.LosingLemmas.{left_planned}
use Rattle.pk_store.specs.Merging.{MergesRun}
use Rattle.pk_store.specs.View.{VolumeView}
use Rattle.pk_store.specs.Within.{AreWithin, EntryWithin, InputsWithin}
use Rattle.pk_store.specs.Inputs.{AreOf}
use Rattle.pk_store.specs.Prepared.{OpensRun}

-- what holds anyway holds of an answer, and what follows from what holds of it does
pub on_ok : {T E P : Type 0} (r : Result T E) → P → OnOk r P
on_ok (Ok v) p = p
on_ok (Err e) p = tt

pub ok_then : {T E P Q : Type 0} (r : Result T E) → (P → Q) → OnOk r P → OnOk r Q
ok_then (Ok v) f p = f p
ok_then (Err e) f p = tt

-- ---- what is planned

-- where none is prepared, and no document is lost, the run leaves none
pub named_run : (bytes : List ℕ) (inputs : List MergeInput) (prepared : Option Prepared) (new : Option NewSegment)
    (b : Body) (opened : List OpenSegment) (from n : ℕ) (m : MergePlan) → OpensRun prepared (Ok new)
    → PlansMerged b opened from n new (Ok m) → LosesNone opened (changed m.plan.change opened)
    → NameWhole bytes inputs (Ok prepared) → InputsWithin bytes inputs (run_of from n opened)
named_run bytes inputs (Some p) new b opened from n m opens plans none within = λ some. within
named_run bytes inputs None (Some new) b opened from n m opens plans none within = absurd opens
named_run bytes inputs None None b opened from n m opens plans none within = λ some.
    absurd (omega (arith, none, some, left_planned b opened from n None m plans))

-- ---- the entries of the inputs

each_within : (bytes : List ℕ) (is : List MergeInput) (es : List Entry) → AreOf is es
    → All (NamesWhole bytes) is → All (EntryWithin bytes) es
each_within bytes [] [] of within = All-nil (EntryWithin bytes)
each_within bytes [] (e ∷ es) of within = absurd of
each_within bytes (i ∷ is) [] of within = absurd of
each_within bytes (i ∷ is) (e ∷ es) of within =
    All-cons (EntryWithin bytes) e es
    (λ kind. subst (λ (x : Extent). ListsAreWhole (extent_bytes bytes x)) of.0
    (All-head (NamesWhole bytes) i is within (of.1 ∙ kind)))
    (each_within bytes is es of.2 (All-tail (NamesWhole bytes) i is within))

pub entries_within : (bytes : List ℕ) (is : List MergeInput) (es : List Entry) (opened : List OpenSegment)
    → AreOf is es → InputsWithin bytes is opened → AreWithin bytes es opened
entries_within bytes is es opened of within = λ some. each_within bytes is es of (within some)

-- ---- a store

-- a volume that is merged has an open segment for each entry
as_many : (os : List OpenSegment) (es : List Entry) → entries_of os ≡ es → length os ≡ length es
as_many os es same = sym (entries_many os) ∙ ap length same

pub opened_each : {D T : Type 0} (d : Ghosts D) (old new : VolumeView D) (from n : ℕ) (r : Result T Refusal)
    → MergesRun d old from n r new → length old.opened ≡ length old.body.entries
opened_each d old new from n r (inl none) = as_many old.opened old.body.entries none.3.ready.opened
opened_each d old new from n r (inr done) = as_many old.opened old.body.entries done.5.ready.opened

-- the run of all
pub all_within : {D T E : Type 0} (d : Ghosts D) (v : VolumeView D) (n : ℕ) (r : Result T E)
    → n ≡ length v.body.entries → OnOk r (length v.opened ≡ length v.body.entries)
    → OnOk r (AreWithin (d.content v.disk) (run_of 0 n v.body.entries) (run_of 0 n v.opened))
    → OnOk r (AreWithin (d.content v.disk) v.body.entries v.opened)
all_within d v n (Err e) is each within = tt
all_within d v n (Ok x) is each within =
    let bytes = d.content v.disk in
    subst (λ (es : List Entry). AreWithin bytes es v.opened) (take_all n v.body.entries (omega (arith, is)))
    (subst (AreWithin bytes (take n v.body.entries)) (take_all n v.opened (omega (arith, is, each))) within)
