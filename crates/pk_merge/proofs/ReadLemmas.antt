-- What is read of the inputs: where the texts of one stand on the disk, a count of no failure, and one input more.
use Rattle.std.proofs.Common.{◌≡◌, ℕ, ◌+◌, ◌*◌, ◌<◌, ◌≤◌, List, [], ◌∷◌, ◌++◌, length, map, get_or, take, drop, refl, sym, ap, ◌∙◌, arith, Ok}
use Rattle.std.proofs.lemmas.List.{drop-drop, map-append, take-append-drop}
use Rattle.pk_model.specs.Collection.{Doc}
use Rattle.pk_segment.specs.Directory.{doc_in, offset_in}
use Rattle.pk_segment.specs.Spelling.{SegmentSpells}
use Rattle.pk_segment.proofs.SegmentLemmas.{inside_part, text_there}
use Rattle.pk_merge.specs.Keeping.{TextsStand}
use Rattle.pk_merge.specs.Merging.{CountsMerge}
use Rattle.pk_disk.specs.declared.units.Extent.{Extent}
use Rattle.pk_join.specs.declared.input.MergeInput.{MergeInput}
use Rattle.pk_join.specs.declared.lists.InputLists.{InputLists}
use Rattle.pk_join.specs.Listed.{source_of}
use Rattle.pk_join.specs.declared.walk_input.Input.{Input}
use Rattle.pk_join.specs.WalkInput.{HaveExtentsOf, extents_of, lists_of}
use Rattle.pk_join.proofs.WalkLemmas.{inputs_more}

pub texts_stand : (whole content : List ℕ) (start texts end : ℕ) (docs : List Doc) (kind : ℕ)
    → content ≡ take (length content) (drop start whole) → SegmentSpells content docs kind
    → texts ≡ start + (24 + 12 * length docs) → end ≡ start + length content → TextsStand whole texts end docs
texts_stand whole content start texts end docs kind part is at last = record {
  inside = λ i lt. omega (arith, at, last, (there i lt).0);
  text = λ i lt. (
      let k = 24 + 12 * length docs + offset_in 0 docs i in
      let len = length (doc_in docs i).text in
      let place : texts + offset_in 0 docs i ≡ start + k = omega (arith, at) in
      let rest = drop (length content) (drop start whole) in
      let all : drop start whole ≡ content ++ rest =
      sym (take-append-drop (length content) (drop start whole))
      ∙ ap (λ (l : List ℕ). l ++ rest) (sym part) in
      ap (λ (n : ℕ). take len (drop n whole)) place
      ∙ ap (take len) (sym (drop-drop k start whole) ∙ ap (drop k) all)
      ∙ inside_part k len content rest (there i lt).0 ∙ (there i lt).1);
}
  where
    there : (i : ℕ) → i < length docs
        → (24 + 12 * length docs + offset_in 0 docs i + length (doc_in docs i).text ≤ length content)
        × (take (length (doc_in docs i).text) (drop (24 + 12 * length docs + offset_in 0 docs i) content)
        ≡ (doc_in docs i).text)
    there i lt = text_there content docs kind i (doc_in docs i).number (offset_in 0 docs i)
        (length (doc_in docs i).text) is lt (record { number_is = refl; at_is = refl; len_is = refl })

-- a count that did not rise goes with an answer
pub counts_ok : {T : Type 0} {v : T} {before now : ℕ} → now ≡ before → CountsMerge before now (Ok v)
counts_ok same = record {
  later = omega (arith, same);
  ok = same;
  too_large = λ e. same;
  damaged = λ e. same;
  memory = λ e. same;
  disk = λ e. absurd (cc (e));
  unwritten = λ e. cc (e);
}

-- ---- one input more

pub pushed_lists : (is js : List Input) (y : Input) (l : InputLists) → js ≡ is ++ y ∷ [] → y.lists ≡ l
    → lists_of js ≡ lists_of is ++ source_of l ∷ []
pushed_lists is js y l more same = ap lists_of more ∙ map-append (λ (i : Input). source_of i.lists) is (y ∷ [])
    ∙ ap (λ (m : InputLists). lists_of is ++ source_of m ∷ []) same

pub pushed_extents : (given : List MergeInput) (i : ℕ) (x : MergeInput) (is js : List Input) (y : Input)
    → i < length given → x ≡ get_or given i x → js ≡ is ++ y ∷ [] → y.extent ≡ x.extent
    → HaveExtentsOf (take i given) is
    → HaveExtentsOf (take (i + 1) given) js
pushed_extents given i x is js y lt at more same so_far =
    ap (map (λ (m : MergeInput). m.extent)) (inputs_more given i x lt at)
    ∙ map-append (λ (m : MergeInput). m.extent) (take i given) (x ∷ [])
    ∙ ap (λ (es : List Extent). es ++ x.extent ∷ []) so_far
    ∙ ap (λ (e : Extent). extents_of is ++ e ∷ []) (sym same)
    ∙ sym (ap extents_of more ∙ map-append (λ (z : Input). z.extent) is (y ∷ []))
