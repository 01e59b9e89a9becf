-- Texts of documents that are kept, some at a time.
use Rattle.std.proofs.Common.{◌≡◌, inr, ℕ, zero, suc, ◌+◌, ◌-◌, ◌<◌, ◌≤◌, false, List, [], ◌∷◌, ◌++◌, length, take, drop, get_or, refl, sym, ap, subst, ◌∙◌, arith, length-append}
use Rattle.std.specs.Prelude.{All, slice_range}
use Rattle.std.proofs.lemmas.Grind.{flat_map-append}
use Rattle.std.proofs.lemmas.List.{take-append-drop, take_rest}
use Rattle.std.proofs.lemmas.List.Elements.{All-drop}
use Rattle.std.proofs.Math.Seq.{take-add}
use Rattle.pk_disk.specs.Disk.{in_range}
use Rattle.pk_model.specs.Collection.{Doc}
use Rattle.pk_segment.specs.Directory.{doc_in}
use Rattle.pk_segment.specs.Spelling.{texts}
use Rattle.pk_merge.specs.declared.kept.Kept.{Kept}
use Rattle.pk_merge.specs.Keeping.{AreKept, EndBy, KeptApart}
use Rattle.pk_merge.specs.Spans.{StandsIn}
use Rattle.pk_merge.proofs.OutputLemmas.{part_of}
use Rattle.pk_merge.proofs.StreamLemmas.{kept_stays}
use Rattle.pk_merge.proofs.TextLemmas.{text_given, texts_next}

-- ---- the first ones, and the others

pub kept_take : (bytes : List ℕ) (n : ℕ) (ks : List Kept) (docs : List Doc) → AreKept bytes ks docs
    → AreKept bytes (take n ks) (take n docs)
kept_take bytes zero ks docs are = tt
kept_take bytes (suc n) [] [] are = tt
kept_take bytes (suc n) [] (d ∷ docs) are = absurd are
kept_take bytes (suc n) (k ∷ ks) [] are = absurd are
kept_take bytes (suc n) (k ∷ ks) (d ∷ docs) are = (are.0, kept_take bytes n ks docs are.1)

kept_drop : (bytes : List ℕ) (n : ℕ) (ks : List Kept) (docs : List Doc) → AreKept bytes ks docs
    → AreKept bytes (drop n ks) (drop n docs)
kept_drop bytes zero ks docs are = are
kept_drop bytes (suc n) [] [] are = tt
kept_drop bytes (suc n) [] (d ∷ docs) are = absurd are
kept_drop bytes (suc n) (k ∷ ks) [] are = absurd are
kept_drop bytes (suc n) (k ∷ ks) (d ∷ docs) are = kept_drop bytes n ks docs are.1

-- those from one on stay kept where the stretch alone changed
pub rest_kept : (now before : List ℕ) (ks : List Kept) (docs : List Doc) (i start end : ℕ)
    → length now ≡ length before
    → ((p : ℕ) → in_range start (end - start) p ≡ false → get_or now p 0 ≡ get_or before p 0)
    → All (KeptApart start end) ks → All (EndBy (length before)) ks → AreKept before ks docs
    → AreKept now (take (length ks - i) (drop i ks)) (drop i docs)
rest_kept now before ks docs i start end long same apart inside are =
    subst (λ (xs : List Kept). AreKept now xs (drop i docs)) (sym (take_rest ks i))
    (kept_drop now i ks docs (kept_stays before now ks docs start end long same apart inside are))

-- and end by the end of the disk
pub rest_inside : (n m : ℕ) (ks : List Kept) (i : ℕ) → m ≡ n → All (EndBy n) ks
    → All (EndBy m) (take (length ks - i) (drop i ks))
rest_inside n m ks i same inside =
    let rest = take (length ks - i) (drop i ks) in
    subst (λ (e : ℕ). All (EndBy e) rest) (sym same)
    (subst (All (EndBy n)) (sym (take_rest ks i)) (All-drop (EndBy n) i ks inside))

-- ---- their texts

pub texts_more : (docs : List Doc) (i n : ℕ) → texts (take (i + n) docs) ≡ texts (take i docs)
    ++ texts (take n (drop i docs))
texts_more docs i n = ap texts (take-add i n docs) ∙ flat_map-append (λ (d : Doc). d.text) (take i docs)
    (take n (drop i docs))

-- the first ones are not longer than all
texts_within : (docs : List Doc) (n : ℕ) → length (texts (take n docs)) ≤ length (texts docs)
texts_within docs n =
    let all : texts docs ≡ texts (take n docs) ++ texts (drop n docs) =
    ap texts (sym (take-append-drop n docs)) ∙ flat_map-append (λ (d : Doc). d.text) (take n docs)
    (drop n docs) in
    omega (arith, ap length all, length-append (texts (take n docs)) (texts (drop n docs)))

-- nor are those so far and the next one,
pub next_within : (docs : List Doc) (i : ℕ) → i < length docs
    → length (texts (take i docs)) + length (doc_in docs i).text ≤ length (texts docs)
next_within docs i lt =
    omega (
      arith,
      ap length (texts_next docs i lt),
      length-append (texts (take i docs)) (doc_in docs i).text,
      texts_within docs (i + 1),
    )

-- or the next ones
pub more_within : (docs : List Doc) (i n : ℕ)
    → length (texts (take i docs)) + length (texts (take n (drop i docs))) ≤ length (texts docs)
more_within docs i n =
    omega (
      arith,
      ap length (texts_more docs i n),
      length-append (texts (take i docs)) (texts (take n (drop i docs))),
      texts_within docs (i + n),
    )

-- ---- bytes that were read

-- a text among the bytes that were read from a place on
text_read : (bytes read : List ℕ) (from n : ℕ) (k : Kept) → read ≡ slice_range bytes from (from + n)
    → StandsIn from (from + n) k → from + n ≤ length bytes
    → slice_range read (k.at - from) (k.at - from + k.len) ≡ take k.len (drop k.at bytes)
text_read bytes read from n k is stands inside =
    let size : from + n - from ≡ n = omega arith in
    let there : from + (k.at - from) ≡ k.at = omega (arith, stands.0) in
    let within : k.at - from + k.len ≤ n = omega (arith, stands.0, stands.1) in
    let long : k.at - from + k.len - (k.at - from) ≡ k.len = omega arith in
    ap (λ (m : ℕ). take m (drop (k.at - from) read)) long
    ∙ ap (λ (l : List ℕ). take k.len (drop (k.at - from) l))
    (is ∙ ap (λ (m : ℕ). take m (drop from bytes)) size)
    ∙ sym (part_of bytes bytes from n (k.at - from) k.len 0 0 refl (λ p out. refl) (inr (omega arith)) inside
    within)
    ∙ ap (λ (m : ℕ). take k.len (drop m bytes)) there

-- that of a document which is kept
pub text_there : (bytes read : List ℕ) (from n : ℕ) (ks : List Kept) (docs : List Doc) (i : ℕ) (e : Kept)
    → read ≡ slice_range bytes from (from + n) → All (StandsIn from (from + n)) ks → from + n ≤ length bytes
    → AreKept bytes ks docs → i < length ks
    → slice_range read ((get_or ks i e).at - from) ((get_or ks i e).at - from + (get_or ks i e).len)
    ≡ (doc_in docs i).text
text_there bytes read from n ks docs i e is near inside are lt =
    text_read bytes read from n (get_or ks i e) is (near i e lt) inside ∙ text_given bytes ks docs i e are lt
