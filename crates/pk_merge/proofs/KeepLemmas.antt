-- Documents that are kept: their lengths, and one more.
use Rattle.std.proofs.Common.{inl, inr, ◌≡◌, ℕ, suc, ◌+◌, ◌*◌, ◌<◌, ◌≤◌, List, [], ◌∷◌, ◌++◌, length, take, drop, get_or, append_assoc, true, false, sym, ap, subst, refl, ◌∙◌, append-nil, arith, Result, Ok, Err}
use Rattle.std.specs.Prelude.{All, OnOk}
use Rattle.std.proofs.lemmas.List.{take-append-drop, take_more}
use Rattle.std.proofs.lemmas.List.Elements.{All-push}
use Rattle.pk_model.specs.Collection.{Doc}
use Rattle.pk_segment.specs.declared.header.Header.{Header}
use Rattle.pk_segment.specs.Planning.{IsHeaderOf}
use Rattle.pk_segment.specs.Spelling.{directory, directory_entry, header, header_in, le32, segment_length, texts}
use Rattle.pk_segment.proofs.PlanLemmas.{front_of, header_same}
use Rattle.pk_segment.proofs.SegmentLemmas.{length_texts_cons}
use Rattle.pk_state.specs.Committed.{lists}
use Rattle.pk_merge.specs.declared.fault.MergeFault.{MergeFault}
use Rattle.pk_merge.specs.declared.fault.MergeFault.TheVariants.{TooLarge, Damaged, Disk, Memory, NotWritten}
use Rattle.pk_merge.specs.declared.kept.Kept.{Kept}
use Rattle.pk_merge.specs.declared.left.Left.{Left}
use Rattle.pk_merge.specs.Gathering.{RiseFrom, left_by}
use Rattle.pk_merge.specs.Keeping.{AreKept, IsKept, KeepsBetween, KeptApart, kept_bytes, kept_directory}
use Rattle.pk_merge.specs.Left.{KeepsOneAs, TakesAs, kept_in}
use Rattle.pk_merge.proofs.GatherLemmas.{front_one}
use Rattle.pk_merge.proofs.RiseLemmas.{rise_next}

-- ---- lengths

pub bytes_snoc : (ks : List Kept) (k : Kept) → kept_bytes (ks ++ k ∷ []) ≡ kept_bytes ks + k.len
bytes_snoc [] k = omega arith
bytes_snoc (x ∷ ks) k = omega (arith, bytes_snoc ks k)

pub kept_long : (bytes : List ℕ) (ks : List Kept) (ds : List Doc) → AreKept bytes ks ds
    → length ks ≡ length ds
kept_long bytes [] [] are = refl
kept_long bytes [] (d ∷ ds) are = absurd are
kept_long bytes (k ∷ ks) [] are = absurd are
kept_long bytes (k ∷ ks) (d ∷ ds) are = ap suc (kept_long bytes ks ds are.1)

pub kept_texts : (bytes : List ℕ) (ks : List Kept) (ds : List Doc) → AreKept bytes ks ds
    → kept_bytes ks ≡ length (texts ds)
kept_texts bytes [] [] are = refl
kept_texts bytes [] (d ∷ ds) are = absurd are
kept_texts bytes (k ∷ ks) [] are = absurd are
kept_texts bytes (k ∷ ks) (d ∷ ds) are =
    omega (arith, are.0.len_is, kept_texts bytes ks ds are.1, length_texts_cons d ds)

-- how long header, directory and texts of their segment are
pub kept_size : (bytes : List ℕ) (ks : List Kept) (ds : List Doc) → AreKept bytes ks ds
    → 24 + 12 * length ks + kept_bytes ks ≡ segment_length ds 1
kept_size bytes ks ds are = omega (arith, front_of ds, kept_long bytes ks ds are, kept_texts bytes ks ds are)

-- ---- one more

pub kept_snoc : (bytes : List ℕ) (ks : List Kept) (k : Kept) (ds : List Doc) (d : Doc) → AreKept bytes ks ds
    → IsKept bytes k d → AreKept bytes (ks ++ k ∷ []) (ds ++ d ∷ [])
kept_snoc bytes [] k [] d are is = (is, tt)
kept_snoc bytes [] k (e ∷ ds) d are is = absurd are
kept_snoc bytes (x ∷ ks) k [] d are is = absurd are
kept_snoc bytes (x ∷ ks) k (e ∷ ds) d are is = (are.0, kept_snoc bytes ks k ds d are.1 is)

-- a document that is not listed is kept
pub takes_one : {T : Type 0} (bytes : List ℕ) (so_far more : List Doc) (ks : List Kept) (size : ℕ)
    (new : Left) (k : Kept) (d : Doc) (dead : List ℕ) (last : ℕ) (r : Result T MergeFault) → IsKept bytes k d
    → lists d.number dead ≡ false
    → RiseFrom last (d ∷ more) → AreKept bytes ks so_far → size ≡ 24 + 12 * length ks + kept_bytes ks
    → new.last ≡ d.number → KeepsOneAs ks size k new r → TakesAs bytes so_far (left_by dead (d ∷ [])) more new
    r
takes_one bytes so_far more ks size new k d dead last (Ok u) is none rise are sized same kept = rw none (
  subst (λ (xs : List Kept). AreKept bytes xs (so_far ++ d ∷ [])) (sym kept)
      (kept_snoc bytes ks k so_far d are is),
  subst (λ (n : ℕ). RiseFrom n more) (sym same) (rise_next last d more rise),
)
takes_one bytes so_far more ks size new k d dead last (Err TooLarge) is none rise are sized same kept =
    rw none (omega (arith, kept, sized, kept_size bytes ks so_far are, front_one so_far d, is.len_is))
takes_one bytes so_far more ks size new k d dead last (Err Damaged) is none rise are sized same kept =
    absurd kept
takes_one bytes so_far more ks size new k d dead last (Err Disk) is none rise are sized same kept =
    absurd kept
takes_one bytes so_far more ks size new k d dead last (Err Memory) is none rise are sized same kept = tt
takes_one bytes so_far more ks size new k d dead last (Err NotWritten) is none rise are sized same kept =
    absurd kept

-- a listed one is passed
pub takes_none : (bytes : List ℕ) (so_far : List Doc) (ks : List Kept) (d : Doc) (dead : List ℕ)
    → lists d.number dead ≡ true → AreKept bytes ks so_far
    → AreKept bytes ks (so_far ++ left_by dead (d ∷ []))
takes_none bytes so_far ks d dead there are =
    rw there (subst (AreKept bytes ks) (sym (append-nil so_far)) are)

-- one whose text is between two places
pub keeps_between : {T : Type 0} (ks : List Kept) (size from to : ℕ) (k : Kept) (new : Left)
    (r : Result T MergeFault) → from ≤ k.at → k.at + k.len ≤ to → KeepsOneAs ks size k new r
    → OnOk r (KeepsBetween from to ks (kept_in new))
keeps_between ks size from to k new (Ok u) low high kept = λ start end out before.
    subst (All (KeptApart start end)) (sym kept) (All-push (KeptApart start end) ks k before (elim out [
      | inl o ↦ inl (omega (arith, o, high))
      | inr o ↦ inr (omega (arith, o, low))
    ]))
keeps_between ks size from to k new (Err x) low high kept = tt

-- what is between two places is between wider ones
pub between_wider : (ks new : List Kept) (from to from' to' : ℕ) → from' ≤ from → to ≤ to'
    → KeepsBetween from to ks new → KeepsBetween from' to' ks new
between_wider ks new from to from' to' low high keeps = λ start end out. keeps start end (elim out [
  | inl o ↦ inl (omega (arith, o, high))
  | inr o ↦ inr (omega (arith, o, low))
])

-- where none is kept there is none
pub none_kept : (bytes : List ℕ) (ks : List Kept) (ds : List Doc) → AreKept bytes ks ds → length ks ≡ 0
    → ds ≡ []
none_kept bytes [] [] are none = refl
none_kept bytes [] (d ∷ ds) are none = absurd are
none_kept bytes (k ∷ ks) [] are none = absurd are
none_kept bytes (k ∷ ks) (d ∷ ds) are none = absurd (omega (arith, none))

-- it has twelve bytes for each
pub length_kept_directory : (at : ℕ) (ks : List Kept) → length (kept_directory at ks) ≡ 12 * length ks
unfolding le32
length_kept_directory at [] = refl
length_kept_directory at (k ∷ ks) = omega (arith, length_kept_directory (at + k.len) ks)

-- the directory of kept documents is that of the documents
pub directory_is : (bytes : List ℕ) (at : ℕ) (ks : List Kept) (ds : List Doc) → AreKept bytes ks ds
    → kept_directory at ks ≡ directory at ds
unfolding directory_entry
directory_is bytes at [] [] are = refl
directory_is bytes at [] (d ∷ ds) are = absurd are
directory_is bytes at (k ∷ ks) [] are = absurd are
directory_is bytes at (k ∷ ks) (d ∷ ds) are =
    ap (λ (n : ℕ). (le32 n ++ le32 at ++ le32 k.len) ++ kept_directory (at + k.len) ks) are.0.number_is
    ∙ ap (λ (n : ℕ). (le32 d.number ++ le32 at ++ le32 n) ++ kept_directory (at + n) ks) are.0.len_is
    ∙ ap (λ (l : List ℕ). directory_entry at d ++ l) (directory_is bytes (at + length d.text) ks ds are.1)

pub bytes_append : (xs ys : List Kept) → kept_bytes (xs ++ ys) ≡ kept_bytes xs + kept_bytes ys
bytes_append [] ys = omega arith
bytes_append (x ∷ xs) ys = omega (arith, bytes_append xs ys)

pub bytes_next : (ks : List Kept) (i : ℕ) (d : Kept) → i < length ks
    → kept_bytes (take (i + 1) ks) ≡ kept_bytes (take i ks) + (get_or ks i d).len
bytes_next ks i d lt = ap kept_bytes (take_more ks i d lt) ∙ bytes_snoc (take i ks) (get_or ks i d)

pub bytes_within : (ks : List Kept) (i : ℕ) → kept_bytes (take i ks) ≤ kept_bytes ks
bytes_within ks i = omega (arith, ap kept_bytes (take-append-drop i ks), bytes_append (take i ks) (drop i ks))

directory_snoc : (at : ℕ) (ks : List Kept) (k : Kept) → kept_directory at (ks ++ k ∷ []) ≡ kept_directory at
    ks ++ (le32 k.number ++ le32 (at + kept_bytes ks) ++ le32 k.len)
directory_snoc at [] k =
    let e : at ≡ at + 0 = omega arith in
    append-nil (le32 k.number ++ le32 at ++ le32 k.len)
    ∙ ap (λ (n : ℕ). le32 k.number ++ le32 n ++ le32 k.len) e
directory_snoc at (x ∷ ks) k =
    let first = le32 x.number ++ le32 at ++ le32 x.len in
    let e : at + x.len + kept_bytes ks ≡ at + (x.len + kept_bytes ks) = omega arith in
    ap (λ (l : List ℕ). first ++ l) (directory_snoc (at + x.len) ks k
    ∙ ap (λ (n : ℕ). kept_directory (at + x.len) ks ++ (le32 k.number ++ le32 n ++ le32 k.len)) e)
    ∙ sym (append_assoc first (kept_directory (at + x.len) ks)
    (le32 k.number ++ le32 (at + (x.len + kept_bytes ks)) ++ le32 k.len))

pub directory_next : (ks : List Kept) (i at : ℕ) (d : Kept) → i < length ks → at ≡ kept_bytes (take i ks)
    → kept_directory 0 (take (i + 1) ks) ≡ kept_directory 0 (take i ks)
    ++ (le32 (get_or ks i d).number ++ le32 at ++ le32 (get_or ks i d).len)
directory_next ks i at d lt is =
    let k = get_or ks i d in
    let e : 0 + kept_bytes (take i ks) ≡ at = omega (arith, is) in
    ap (kept_directory 0) (take_more ks i d lt) ∙ directory_snoc 0 (take i ks) k
    ∙ ap (λ (n : ℕ). kept_directory 0 (take i ks) ++ (le32 k.number ++ le32 n ++ le32 k.len)) e

-- the numbers of the header are those of the documents
pub front_same : (docs : List Doc) (h : Header) (ds : List ℕ) → IsHeaderOf docs h → ds ≡ directory 0 docs
    → header h.kind h.count h.texts h.postings h.dictionary h.terms ++ ds ≡ header_in docs 2 ++ directory 0 docs
front_same docs h ds is same = ap (λ (l : List ℕ). l ++ ds) (header_same docs h is)
    ∙ ap (λ (l : List ℕ). header_in docs 2 ++ l) same
