-- What was gathered: its length, one document more, and what is left of several.
use Rattle.std.proofs.Common.{◌≡◌, ℕ, ◌+◌, ◌<◌, ◌≤◌, List, [], ◌∷◌, ◌++◌, length, take, drop, true, false, sym, ap, subst, ◌∙◌, append_assoc, append-nil, arith, Result, Ok, Err, Vec, Global}
use Rattle.std.specs.Prelude.{All, Option}
use Rattle.std.specs.List.Sorted.{IsStrictlyIncreasing}
use Rattle.std.proofs.lemmas.Grind.{flat_map-append}
use Rattle.std.proofs.lemmas.List.{length-append, map-append, take-append-drop}
use Rattle.std.proofs.lemmas.List.Elements.{All-map, All-push, filter-append}
use Rattle.pk_model.specs.declared.documents.Document.{Document}
use Rattle.pk_model.specs.Collection.{Doc, numbers_of}
use Rattle.pk_model.specs.Views.{doc_of}
use Rattle.pk_model.proofs.CollectionLemmas.{increasing-snoc}
use Rattle.pk_model.specs.Limits.{max_segment_bytes}
use Rattle.pk_segment.specs.declared.building.BuildFault.{BuildFault}
use Rattle.pk_segment.specs.declared.building.BuildFault.TheVariants as building
use Rattle.pk_segment.specs.Building.{BuildFails}
use Rattle.pk_posting.specs.declared.fault.ReadFault.{ReadFault}
use Rattle.pk_posting.specs.declared.fault.ReadFault.TheVariants as reading
use Rattle.pk_segment.specs.Spelling.{docs_of, segment_length, texts}
use Rattle.pk_segment.specs.Reading.{IsNoDamage}
use Rattle.pk_segment.proofs.PlanLemmas.{front_of}
use Rattle.pk_segment.proofs.SegmentLemmas.{parts_of, length_texts_cons}
use Rattle.pk_state.specs.Committed.{lists}
use Rattle.pk_merge.specs.declared.fault.MergeFault.{MergeFault}
use Rattle.pk_merge.specs.declared.fault.MergeFault.TheVariants.{TooLarge, Damaged, Disk, Memory, NotWritten}
use Rattle.pk_merge.specs.declared.gathered.Gathered.{Gathered}
use Rattle.pk_merge.specs.Gathering.{BuildsAs, FailsInMemory, GathersAs, KeepsAs, RiseFrom, docs_in, left_by}
use Rattle.pk_merge.specs.Merging.{MergeFails, MergedAs, built_of, merge_of}
use Rattle.pk_merge.proofs.RiseLemmas.{rise_next}

-- LENGTHS

length_texts : (xs ys : List Doc) → length (texts (xs ++ ys)) ≡ length (texts xs) + length (texts ys)
length_texts xs ys = ap length (flat_map-append (λ (d : Doc). d.text) xs ys)
    ∙ length-append (texts xs) (texts ys)

-- in no kind a segment is shorter than in kind 1
pub no_shorter : (docs : List Doc) (kind : ℕ) → segment_length docs 1 ≤ segment_length docs kind
no_shorter docs kind = omega (arith, front_of docs, parts_of docs kind)

front_append : (xs ys : List Doc) → segment_length (xs ++ ys) 1 + 24 ≡ segment_length xs 1 + segment_length ys
    1
front_append xs ys = omega (
  arith,
  front_of (xs ++ ys),
  front_of xs,
  front_of ys,
  length-append xs ys,
  length_texts xs ys,
)

-- one document more
pub front_one : (xs : List Doc) (d : Doc) → segment_length (xs ++ d ∷ []) 1 ≡ segment_length xs 1 + 12
    + length d.text
front_one xs d = omega (arith, front_append xs (d ∷ []), front_of (d ∷ []), length_texts_cons d [])

pub front_none : segment_length [] 1 ≡ 24
front_none = front_of []

-- a part that is too long makes the whole too long
pub longer : (xs ys zs : List Doc) → zs ≡ xs ++ ys → max_segment_bytes < segment_length xs 1
    → max_segment_bytes < segment_length zs 1
longer xs ys zs same long =
    omega (arith, long, ap (λ (ds : List Doc). segment_length ds 1) same, front_append xs ys, front_of ys)

-- WHAT IS LEFT

pub left_append : (dead : List ℕ) (xs ys : List Doc) → left_by dead (xs ++ ys) ≡ left_by dead xs
    ++ left_by dead ys
left_append dead xs ys = filter-append _ xs ys

-- ONE DOCUMENT that is kept

pub kept_rise : (ds now : List Document) (d : Document) (last : ℕ) → now ≡ ds ++ d ∷ []
    → IsStrictlyIncreasing (numbers_of (docs_of ds))
    → All (λ (x : Document). (1 ≤ x.number.0) × (x.number.0 ≤ last)) ds → last < d.number.0
    → IsStrictlyIncreasing (numbers_of (docs_of now))
kept_rise ds now d last same rising each above =
    let numbers = ap numbers_of (map-append doc_of ds (d ∷ []))
    ∙ map-append (λ (x : Doc). x.number) (docs_of ds) (doc_of d ∷ []) in
    let below = All-map (λ (n : ℕ). n < d.number.0) (λ (x : Doc). x.number) (docs_of ds)
    (All-map (λ (x : Doc). x.number < d.number.0) doc_of ds
    (λ k x h. omega (arith, (each k x h).1, above))) in
    rw (same, numbers) (increasing-snoc (numbers_of (docs_of ds)) d.number.0 rising below)

pub kept_each : (ds now : List Document) (d : Document) (last : ℕ) → now ≡ ds ++ d ∷ []
    → All (λ (x : Document). (1 ≤ x.number.0) × (x.number.0 ≤ last)) ds → last < d.number.0
    → All (λ (x : Document). (1 ≤ x.number.0) × (x.number.0 ≤ d.number.0)) now
kept_each ds now d last same each above =
    rw same (All-push (λ (x : Document). (1 ≤ x.number.0) × (x.number.0 ≤ d.number.0)) ds d
    (λ k x h. ((each k x h).0, omega (arith, (each k x h).1, above))) (omega (arith, above), omega arith))

pub kept_size : (ds now : List Document) (d : Document) → now ≡ ds ++ d ∷ []
    → segment_length (docs_of now) 1 ≡ segment_length (docs_of ds) 1 + 12 + length (doc_of d).text
kept_size ds now d same = ap (λ (xs : List Document). segment_length (docs_of xs) 1) same
    ∙ ap (λ (xs : List Doc). segment_length xs 1) (map-append doc_of ds (d ∷ []))
    ∙ front_one (docs_of ds) (doc_of d)

-- a listed document is passed
pub passes : (old new : Gathered) (dead : List ℕ) (d : Doc) (more : List Doc) (n : ℕ)
    → new.documents ≡ old.documents → new.last ≡ n → n ≡ d.number
    → lists n dead ≡ true → RiseFrom old.last (d ∷ more)
    → (docs_in new ≡ docs_in old ++ left_by dead (d ∷ [])) × RiseFrom new.last more
passes old new dead d more n same last number there rise = (
  let here : lists d.number dead ≡ true = subst (λ (k : ℕ). lists k dead ≡ true) number there in
      rw here (ap (λ (v : Vec Document Global). docs_of v.items) same ∙ sym (append-nil (docs_in old))),
  subst (λ (k : ℕ). RiseFrom k more) (sym (last ∙ number)) (rise_next old.last d more rise),
)

-- another one is kept
pub keeps : {T : Type 0} (old new : Gathered) (dead : List ℕ) (d e : Doc) (more : List Doc)
    (r : Result T MergeFault) → e ≡ d → lists d.number dead ≡ false
    → RiseFrom old.last (d ∷ more) → KeepsAs old e new r → GathersAs (left_by dead (d ∷ [])) more old new r
keeps old new dead d e more (Ok u) same none rise kept = (
  rw none (kept.0 ∙ ap (λ (x : Doc). docs_in old ++ x ∷ []) same),
  subst (λ (k : ℕ). RiseFrom k more) (sym (kept.1 ∙ ap (λ (x : Doc). x.number) same))
      (rise_next old.last d more rise),
)
keeps old new dead d e more (Err TooLarge) same none rise kept =
    rw none (subst (λ (x : Doc). max_segment_bytes < segment_length (docs_in old ++ x ∷ []) 1) same kept)
keeps old new dead d e more (Err Damaged) same none rise kept = absurd kept
keeps old new dead d e more (Err Disk) same none rise kept = absurd kept
keeps old new dead d e more (Err Memory) same none rise kept = tt
keeps old new dead d e more (Err NotWritten) same none rise kept = absurd kept

-- A FAULT

-- a reader's fault is no damage
pub fails_read : (docs : List Doc) (y : ReadFault) → IsNoDamage y → MergeFails docs 1 (merge_of y)
fails_read docs reading.Damaged cause = absurd cause
fails_read docs reading.Disk cause = tt
fails_read docs reading.Memory cause = tt

-- a part that fails makes the whole fail
fails_longer : (xs ys zs : List Doc) (y : MergeFault) → zs ≡ xs ++ ys → MergeFails xs 1 y
    → MergeFails zs 1 y
fails_longer xs ys zs TooLarge same fault = longer xs ys zs same fault
fails_longer xs ys zs Damaged same fault = absurd fault
fails_longer xs ys zs Disk same fault = tt
fails_longer xs ys zs Memory same fault = tt
fails_longer xs ys zs NotWritten same fault = absurd fault

-- ONE PART AFTER THE OTHER, where what is left of two parts is what is left of each
module _ {X : Type 0} (left : List X → List Doc) (parts : (xs ys : List X)
    → left (xs ++ ys) ≡ left xs ++ left ys) where
  pub left_next : (xs : List X) (i : ℕ) (x : X) (old before part : List Doc)
      → take (i + 1) xs ≡ take i xs ++ x ∷ [] → part ≡ left (x ∷ [])
      → before ≡ old ++ left (take i xs) → before ++ part ≡ old ++ left (take (i + 1) xs)
  left_next xs i x old before part here is so_far =
      ap (λ (ds : List Doc). ds ++ part) so_far ∙ append_assoc old (left (take i xs)) part
      ∙ ap (λ (ds : List Doc). old ++ (left (take i xs) ++ ds)) is
      ∙ ap (λ (ds : List Doc). old ++ ds) (sym (parts (take i xs) (x ∷ [])) ∙ ap left (sym here))

  left_on : (xs : List X) (i : ℕ) (x : X) (old before part : List Doc)
      → take (i + 1) xs ≡ take i xs ++ x ∷ [] → part ≡ left (x ∷ [])
      → before ≡ old ++ left (take i xs) → old ++ left xs ≡ (before ++ part) ++ left (drop (i + 1) xs)
  left_on xs i x old before part here is so_far =
      ap (λ (ds : List X). old ++ left ds) (sym (take-append-drop (i + 1) xs))
      ∙ ap (λ (ds : List Doc). old ++ ds) (parts (take (i + 1) xs) (drop (i + 1) xs))
      ∙ sym (append_assoc old (left (take (i + 1) xs)) (left (drop (i + 1) xs)))
      ∙ ap (λ (ds : List Doc). ds ++ left (drop (i + 1) xs))
      (sym (left_next xs i x old before part here is so_far))

  -- a part that fails makes the whole fail
  pub fails_on : (xs : List X) (i : ℕ) (x : X) (old before part : List Doc) (y : MergeFault)
      → take (i + 1) xs ≡ take i xs ++ x ∷ [] → part ≡ left (x ∷ [])
      → before ≡ old ++ left (take i xs) → MergeFails (before ++ part) 1 y → MergeFails (old ++ left xs) 1 y
  fails_on xs i x old before part y here is so_far fault =
      fails_longer (before ++ part) (left (drop (i + 1) xs)) (old ++ left xs) y
      (left_on xs i x old before part here is so_far) fault

-- THE WHOLE

-- what fails in kind 1 fails in each kind
pub fails_in : (docs : List Doc) (kind : ℕ) (x : MergeFault) → MergeFails docs 1 x → MergeFails docs kind x
fails_in docs kind TooLarge fault = omega (arith, fault, no_shorter docs kind)
fails_in docs kind Damaged fault = fault
fails_in docs kind Disk fault = tt
fails_in docs kind Memory fault = tt
fails_in docs kind NotWritten fault = fault

pub fails_built : (docs : List Doc) (kind : ℕ) (x : MergeFault) → FailsInMemory docs kind x
    → MergeFails docs kind x
fails_built docs kind TooLarge fault = fault
fails_built docs kind Damaged fault = fault
fails_built docs kind Disk fault = tt
fails_built docs kind Memory fault = tt
fails_built docs kind NotWritten fault = fault

pub merged_all : (docs : List Doc) (kind : ℕ) (g : Gathered) (r : Result (Option (Vec ℕ Global)) MergeFault)
    → docs_in g ≡ docs → BuildsAs (docs_in g) kind r → MergedAs docs kind r
merged_all docs kind g (Ok bytes) all built = subst (λ (ds : List Doc). BuildsAs ds kind (Ok bytes)) all built
merged_all docs kind g (Err fault) all built =
    fails_built docs kind fault (subst (λ (ds : List Doc). FailsInMemory ds kind fault) all built)

-- an index that can't be made is of a segment that can't
pub fails_planned : (docs : List Doc) (x : BuildFault) → BuildFails docs 2 x → MergeFails docs 2 (built_of x)
fails_planned docs building.TooLarge fault = fault
fails_planned docs building.Memory fault = tt
