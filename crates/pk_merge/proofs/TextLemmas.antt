-- The texts of documents that are kept, one after another.
use Rattle.std.proofs.Common.{◌≡◌, ◌⊎◌, ℕ, zero, suc, ◌+◌, ◌-◌, ◌<◌, ◌≤◌, false, List, [], ◌∷◌, ◌++◌, length, take, drop, get_or, refl, ap, ◌∙◌, append-nil, arith}
use Rattle.std.proofs.lemmas.Grind.{flat_map-append}
use Rattle.pk_disk.specs.Disk.{in_range}
use Rattle.pk_join.proofs.DocLemmas.{take_doc}
use Rattle.pk_model.specs.Collection.{Doc}
use Rattle.pk_segment.specs.Directory.{doc_in}
use Rattle.pk_segment.specs.Spelling.{texts}
use Rattle.pk_merge.specs.declared.kept.Kept.{Kept}
use Rattle.pk_merge.specs.Keeping.{AreKept}
use Rattle.pk_merge.proofs.OutputLemmas.{part_of}

-- one text more
pub texts_next : (docs : List Doc) (i : ℕ) → i < length docs → texts (take (i + 1) docs) ≡ texts (take i docs)
    ++ (doc_in docs i).text
texts_next docs i lt = ap texts (take_doc docs i lt) ∙ flat_map-append (λ (d : Doc). d.text) (take i docs)
    (doc_in docs i ∷ []) ∙ ap (λ (l : List ℕ). texts (take i docs) ++ l) (one (doc_in docs i))
  where
    one : (d : Doc) → texts (d ∷ []) ≡ d.text
    one d = append-nil d.text

-- where a kept text stands
pub text_given : (bytes : List ℕ) (ks : List Kept) (docs : List Doc) (i : ℕ) (e : Kept)
    → AreKept bytes ks docs → i < length ks → take (get_or ks i e).len (drop (get_or ks i e).at bytes)
    ≡ (doc_in docs i).text
text_given bytes [] docs i e are lt = absurd (omega arith)
text_given bytes (k ∷ ks) [] i e are lt = absurd are
text_given bytes (k ∷ ks) (d ∷ docs) zero e are lt = are.0.text_is
text_given bytes (k ∷ ks) (d ∷ docs) (suc i) e are lt = text_given bytes ks docs i e are.1 (omega arith)

-- it stays where the stretch alone changed
pub text_stays : (now before : List ℕ) (at len start end : ℕ) → length now ≡ length before
    → ((p : ℕ) → in_range start (end - start) p ≡ false → get_or now p 0 ≡ get_or before p 0)
    → (at + len ≤ start) ⊎ (end ≤ at) → at + len ≤ length before
    → take len (drop at now) ≡ take len (drop at before)
text_stays now before at len start end long same apart inside =
    let z : at ≡ at + 0 = omega arith in
    let whole = part_of now before at len 0 len start end long same apart inside (omega arith) in
    ap (λ (n : ℕ). take len (drop n now)) z ∙ whole ∙ take-of-take len (drop at before)
  where
    take-of-take : (n : ℕ) (xs : List ℕ) → take n (take n xs) ≡ take n xs
    take-of-take zero xs = refl
    take-of-take (suc n) [] = refl
    take-of-take (suc n) (x ∷ xs) = ap (λ (l : List ℕ). x ∷ l) (take-of-take n xs)
