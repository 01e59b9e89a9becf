-- What any bytes say of words.
use Rattle.std.proofs.Common.{◌≡◌, ◌∙◌, ◌+◌, ◌*◌, ◌<◌, ℕ, List, [], ◌∷◌, ◌++◌, Option, Some, None, ap, arith, get_or, length, refl, subst, sym, true, inl, inr}
use Rattle.std.proofs.lemmas.Bool.{cases_lt}
use Rattle.std.proofs.lemmas.List.{length-append}
use Rattle.std.specs.Borrow.{Bor}
use Rattle.std.specs.Prelude.{IfSome}
use Rattle.pk_dict.specs.declared.entry.DictPlace.{DictPlace}
use Rattle.pk_dict.specs.declared.entry.Entry.{Entry}
use Rattle.pk_disk.specs.Units.{apart, extent_bytes}
use Rattle.pk_filter.specs.declared.filter.WordFilter.{WordFilter}
use Rattle.pk_lookup.proofs.CacheLemmas.{one_place}
use Rattle.pk_lookup.proofs.EntryLemmas.{any_or, push_before, push_last}
use Rattle.pk_lookup.proofs.RowLemmas.{last_row, row_before}
use Rattle.pk_lookup.specs.declared.filters.SegmentFilter.{SegmentFilter}
use Rattle.pk_lookup.specs.Dropped.{DropsOnlyOf}
use Rattle.pk_lookup.specs.Filtered.{KeepsFilter}
use Rattle.pk_lookup.specs.Rows.{row_of}
use Rattle.pk_lookup.specs.Said.{KeepsNone, SaysOf, SaysOfEach}
use Rattle.pk_lookup.specs.SaidRows.{AreSaidTo}
use Rattle.pk_manifest.specs.Sound.{same_segment}
use Rattle.pk_open.proofs.PlaceLemmas.{entries_many, entry_there}
use Rattle.pk_open.specs.declared.opened.OpenSegment.{OpenSegment}
use Rattle.pk_open.specs.Opened.{entries_of}
use Rattle.pk_segment.specs.Placed.{dictionary_of}

-- one entry more
pub says_more : (bytes : List ℕ) (place : DictPlace) (words : List (List ℕ)) (entries now : List (Option Entry)) (n : ℕ) (entry : Option Entry) → length entries ≡ n → now ≡ entries ++ entry ∷ []
    → SaysOfEach bytes place words entries → SaysOf bytes place (get_or words n []) entry → SaysOfEach bytes place words now
says_more bytes place words entries now n entry long put each one i lt =
    let more : length now ≡ length entries + 1 = ap length put ∙ length-append entries (entry ∷ []) in
    elim (cases_lt i n) [
      | inl l ↦ subst (SaysOf bytes place (get_or words i [])) (sym (ap (λ (es : List (Option Entry)). get_or es i None) put ∙ push_before entries entry i None (omega (arith, l, long)))) (each i (omega (arith, l, long)))
      | inr g ↦ (
          let e : n ≡ i = omega (arith, g, lt, more, long) in
          let here : get_or now i None ≡ entry = ap (λ (es : List (Option Entry)). get_or es i None) put ∙ push_last entries entry i None (omega (arith, lt, ap length put)) (omega (arith, g, long)) in
          subst (SaysOf bytes place (get_or words i [])) (sym here) (subst (λ (k : ℕ). SaysOf bytes place (get_or words k []) entry) e one))
    ]

-- one segment more: what was said of those before it is said still, since their filters stay
pub one_said : (bytes : List ℕ) (words : List (List ℕ)) (opened : List OpenSegment) (old new : List SegmentFilter) (table now row : List (Option Entry)) (i : ℕ) (p : OpenSegment) → apart same_segment (entries_of opened) ≡ true
    → now ≡ table ++ row → length table ≡ i * length words → length row ≡ length words → i < length opened → p ≡ get_or opened i p → DropsOnlyOf p.entry.segment old new → AreSaidTo i bytes words opened old table
    → (p.entry.kind ≡ 2 → KeepsNone new p.entry.segment → SaysOfEach (extent_bytes bytes p.entry.extent) (dictionary_of p.segment) words row) → AreSaidTo (i + 1) bytes words opened new now
one_said bytes words opened old new table now row i p ids is long wide within open_at drops are one j o lt o_at two none =
    let n = length words in
    let many = entries_many opened in
    elim (cases_lt j i) [
      | inl before ↦ (
          let there : j < length opened = omega (arith, before, within) in
          let other : o.entry.segment ≡ p.entry.segment → ⊥ = λ same. (
          let place : j ≡ i = one_place (entries_of opened) j i o.entry p.entry ids (omega (arith, there, many)) (omega (arith, within, many)) (entry_there opened j o there o_at) (entry_there opened i p within open_at) same in
          omega (arith, place, before)) in
          subst (SaysOfEach (extent_bytes bytes o.entry.extent) (dictionary_of o.segment) words) (sym (ap (row_of n j) is ∙ row_before n i j table row long before))
          (are j o before o_at two (λ filter kept. none filter (drops o.entry.segment filter other kept))))
      | inr last ↦ (
          let same : j ≡ i = omega (arith, lt, last) in
          let o_is : o ≡ p = o_at ∙ ap (λ (k : ℕ). get_or opened k o) same ∙ any_or opened i o p within ∙ sym open_at in
          let here = one (subst (λ (x : OpenSegment). x.entry.kind ≡ 2) o_is two) (subst (λ (x : OpenSegment). KeepsNone new x.entry.segment) o_is none) in
          subst (SaysOfEach (extent_bytes bytes o.entry.extent) (dictionary_of o.segment) words) (sym (ap (row_of n j) is ∙ ap (λ (k : ℕ). row_of n k (table ++ row)) same ∙ last_row n i table row long wide))
          (subst (λ (x : OpenSegment). SaysOfEach (extent_bytes bytes x.entry.extent) (dictionary_of x.segment) words row) (sym o_is) here))
    ]

-- no filter is lent where none is kept
pub none_lent : (filters : List SegmentFilter) (id : ℕ) (lent : Option (Bor WordFilter)) → IfSome lent (λ filter. KeepsFilter filters id filter.now) → KeepsNone filters id → lent ≡ None
none_lent filters id None is none = refl
none_lent filters id (Some filter) is none = absurd (none filter.now is)
