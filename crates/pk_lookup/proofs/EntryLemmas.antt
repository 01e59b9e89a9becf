-- Entries by their place: those of segments, and the rows that are kept of words.
use Rattle.std.proofs.Common.{◌≡◌, ◌∙◌, ℕ, zero, suc, ◌+◌, ◌*◌, ◌<◌, ◌≤◌, List, [], ◌∷◌, ◌++◌, length, get_or, Option, arith, refl, sym, subst, ap, inl, inr}
use Rattle.std.proofs.lemmas.Bool.{cases_lt}
use Rattle.pk_dict.specs.declared.entry.Entry.{Entry as DictEntry}
use Rattle.pk_disk.specs.Units.{extent_bytes}
use Rattle.pk_lookup.proofs.RowLemmas.{last_row, row_before}
use Rattle.pk_lookup.specs.Matching.{AreEntriesOf, AreKeptTo}
use Rattle.pk_lookup.specs.Rows.{row_of}
use Rattle.pk_manifest.specs.declared.manifest.Part.{Part as Entry}
use Rattle.pk_model.specs.Collection.{Doc}
use Rattle.pk_open.specs.declared.opened.OpenSegment.{OpenSegment}
use Rattle.pk_open.specs.Opened.{none_stored}
use Rattle.pk_segment.specs.Placed.{IsIndexedOf}
use Rattle.pk_segment.specs.Spelling.{IndexSpells}
use Rattle.pk_state.specs.Committed.{Stored}
use Rattle.pk_state.specs.Holds.{IndexesEntries, IndexesEntry}

-- what a segment's entry indexes
pub indexes_at : (bytes : List ℕ) (es : List Entry) (stored : List Stored) (i : ℕ) (e : Entry) → IndexesEntries bytes es stored → i < length es → e ≡ get_or es i e
    → IndexesEntry bytes e (get_or stored i none_stored)
indexes_at bytes [] stored i e indexes lt at = absurd (omega arith)
indexes_at bytes (x ∷ es) [] i e indexes lt at = absurd indexes
indexes_at bytes (x ∷ es) (s ∷ stored) zero e indexes lt at = subst (λ (y : Entry). IndexesEntry bytes y s) (sym at) indexes.0
indexes_at bytes (x ∷ es) (s ∷ stored) (suc i) e indexes lt at = indexes_at bytes es stored i e indexes.1 (omega arith) at

-- WHAT IS KEPT OF THE WORDS, segment by segment
pub any_or : {X : Type 0} (xs : List X) (i : ℕ) (d e : X) → i < length xs → get_or xs i d ≡ get_or xs i e
any_or [] i d e lt = absurd (omega arith)
any_or (x ∷ xs) zero d e lt = refl
any_or (x ∷ xs) (suc i) d e lt = any_or xs i d e (omega arith)

pub push_before : {X : Type 0} (xs : List X) (x : X) (j : ℕ) (d : X) → j < length xs → get_or (xs ++ x ∷ []) j d ≡ get_or xs j d
push_before [] x j d lt = absurd (omega arith)
push_before (y ∷ ys) x zero d lt = refl
push_before (y ∷ ys) x (suc j) d lt = push_before ys x j d (omega arith)

pub push_last : {X : Type 0} (xs : List X) (x : X) (j : ℕ) (d : X) → j < length (xs ++ x ∷ []) → length xs ≤ j → get_or (xs ++ x ∷ []) j d ≡ x
push_last [] x zero d lt le = refl
push_last [] x (suc j) d lt le = absurd (omega arith)
push_last (y ∷ ys) x zero d lt le = absurd (omega arith)
push_last (y ∷ ys) x (suc j) d lt le = push_last ys x j d (omega arith) (omega arith)

-- the row of one more segment
pub one_kept : (bytes : List ℕ) (words : List (List ℕ)) (opened : List OpenSegment) (table now row : List (Option DictEntry)) (i : ℕ) (p : OpenSegment)
    → now ≡ table ++ row → length table ≡ i * length words → length row ≡ length words → i < length opened → p ≡ get_or opened i p
    → AreKeptTo i bytes words opened table → (p.entry.kind ≡ 2 → (docs : List Doc) → IndexSpells (extent_bytes bytes p.entry.extent) docs → IsIndexedOf p.segment docs → AreEntriesOf row words docs)
    → AreKeptTo (i + 1) bytes words opened now
one_kept bytes words opened table now row i p is long wide within open_at are one j o lt o_at two docs index of =
    let n = length words in
    elim (cases_lt j i) [
      | inl before ↦ subst (λ (r : List (Option DictEntry)). AreEntriesOf r words docs) (sym (ap (row_of n j) is ∙ row_before n i j table row long before)) (are j o before o_at two docs index of)
      | inr last ↦ (
          let same : j ≡ i = omega (arith, lt, last) in
          let o_is : o ≡ p = o_at ∙ ap (λ (k : ℕ). get_or opened k o) same ∙ any_or opened i o p within ∙ sym open_at in
          let here = one (subst (λ (x : OpenSegment). x.entry.kind ≡ 2) o_is two) docs (subst (λ (x : OpenSegment). IndexSpells (extent_bytes bytes x.entry.extent) docs) o_is index) (subst (λ (x : OpenSegment). IsIndexedOf x.segment docs) o_is of) in
          subst (λ (r : List (Option DictEntry)). AreEntriesOf r words docs) (sym (ap (row_of n j) is ∙ ap (λ (k : ℕ). row_of n k (table ++ row)) same ∙ last_row n i table row long wide)) here)
    ]
