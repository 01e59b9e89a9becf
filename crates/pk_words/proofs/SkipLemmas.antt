-- Words that may be skipped: others than the row's first, and those that one of its words does not follow where it should.
use Rattle.std.proofs.Common.{◌≡◌, ℕ, ◌+◌, ◌-◌, ◌<◌, false, ◌&&◌, ◌||◌, List, [], ◌∷◌, ◌++◌, suc, zero, length, length-append, map, take, drop, get_or, refl, sym, ap, subst, ◌∙◌, arith, append_assoc, IsAscii, slice_range}
use Rattle.std.specs.Char.{to_ascii_lowercase}
use Rattle.std.specs.List.{starts_with}
use Rattle.std.specs.Str.{bytes_eq}
use Rattle.std.proofs.lemmas.Bool.{false_from_ne_true}
use Rattle.std.proofs.lemmas.List.{get_or-map, get_or_append_left, length-map, map-append}
use Rattle.std.proofs.lemmas.Str.{IsAscii-drop, IsAscii-take}
use Rattle.std.proofs.lemmas.Slice.Eq.{bytes_eq-Decides}
use Rattle.pk_model.specs.Tree.{stand_in}
use Rattle.pk_model.specs.Words.{folded, words_of}
use Rattle.pk_pieces.specs.Pieces.{words_from}
use Rattle.pk_pieces.specs.Scan.{AreOthers, PassesOthers, PassesWithout}
use Rattle.pk_pieces.proofs.CallerLemmas.{folded_ascii}
use Rattle.pk_words.specs.Rows.{Continues}
use Rattle.pk_words.specs.Skips.{MaySkip}
use Rattle.pk_words.proofs.RowLemmas.{and_false, more_read, none_begun, nothing_read, stands_whole}

-- the words from a place, apart from those passed
apart : (bytes : List ℕ) (from to : ℕ) (passed rest : List (List ℕ)) → words_from bytes from ≡ passed ++ words_from bytes to → map folded (words_from bytes from) ++ rest ≡ map folded passed ++ (map folded (words_from bytes to) ++ rest)
apart bytes from to passed rest e =
    ap (λ ws. map folded ws ++ rest) e ∙ ap (λ ws. ws ++ rest) (map-append folded passed (words_from bytes to))
    ∙ append_assoc (map folded passed) (map folded (words_from bytes to)) rest

-- ---- words that are not the row's first begin none of it
others_pass : (row pieces : List (List ℕ)) → 0 < length row → AreOthers (get_or row 0 []) pieces → Continues row 0 (map folded pieces) 0
others_pass row [] some h = nothing_read row 0
others_pass row (p ∷ ps) some h =
    let first = get_or row 0 [] in
    let other : bytes_eq first (folded p) ≡ false = false_from_ne_true _ (λ e. h.0 (sym ((bytes_eq-Decides first (folded p)).0 e))) in
    more_read row 0 0 0 (folded p ∷ []) (map folded ps) (none_begun row (folded p) some other) (others_pass row ps some h.1)

pub others_skipped : (row : List (List ℕ)) (bytes word : List ℕ) (from to : ℕ) → 0 < length row → word ≡ get_or row 0 [] → PassesOthers bytes word from to → MaySkip row bytes 0 from to
others_skipped row bytes word from to some first p = λ rest.
    ap (stand_in row) (apart bytes from to p.passed rest p.split)
    ∙ others_pass row p.passed some (subst (λ w. AreOthers w p.passed) first p.others) (map folded (words_from bytes to) ++ rest)

-- ---- a row begins at no word that its other words don't follow
not_at : (row words : List (List ℕ)) (k : ℕ) → k < length row → k < length words → (get_or words k [] ≡ get_or row k [] → ⊥) → starts_with bytes_eq words row ≡ false
not_at [] words k l m other = absurd (omega (arith, l))
not_at (v ∷ row) [] k l m other = absurd (omega (arith, m))
not_at (v ∷ row) (w ∷ words) zero l m other = ap (λ b. b && starts_with bytes_eq words row) (false_from_ne_true _ (λ e. other (sym ((bytes_eq-Decides v w).0 e))))
not_at (v ∷ row) (w ∷ words) (suc k) l m other = ap (λ b. bytes_eq v w && b) (not_at row words k (omega (arith, l)) (omega (arith, m)) other) ∙ and_false (bytes_eq v w)

-- so many words behind each of these there is one, and it is not the row's
abbrev AreWithout : List (List ℕ) → ℕ → List (List ℕ) → List (List ℕ) → Type 0
AreWithout row ahead passed all = (i : ℕ) → i < length passed → (i + ahead < length all) × (get_or all (i + ahead) [] ≡ get_or row ahead [] → ⊥)

no_start : (row passed rest : List (List ℕ)) (ahead : ℕ) → ahead < length row → AreWithout row ahead passed (passed ++ rest) → stand_in row (passed ++ rest) ≡ stand_in row rest
no_start [] passed rest ahead l h = absurd (omega (arith, l))
no_start (v ∷ row) [] rest ahead l h = refl
no_start (v ∷ row) (p ∷ ps) rest ahead l h =
    let all = p ∷ (ps ++ rest) in
    let front = h 0 (omega arith) in
    let none : 0 + ahead ≡ ahead = omega arith in
    let first = subst (λ k. (k < length all) × (get_or all k [] ≡ get_or (v ∷ row) ahead [] → ⊥)) none front in
    let later : AreWithout (v ∷ row) ahead ps (ps ++ rest) = λ i m.
    let next = h (suc i) (omega (arith, m)) in
    let here : suc i + ahead ≡ suc (i + ahead) = omega arith in
    (omega (arith, next.0), subst (λ k. get_or all k [] ≡ get_or (v ∷ row) ahead [] → ⊥) here next.1) in
    ap (λ b. b || stand_in (v ∷ row) (ps ++ rest)) (not_at (v ∷ row) all ahead l first.0 first.1)
    ∙ no_start (v ∷ row) ps rest ahead l later

pub without_skipped : (row : List (List ℕ)) (bytes word : List ℕ) (ahead from to : ℕ) → ahead < length row → word ≡ get_or row ahead [] → PassesWithout bytes word ahead from to → MaySkip row bytes 0 from to
without_skipped row bytes word ahead from to l is p = λ rest.
    let all = words_from bytes from in
    let split = apart bytes from to p.passed rest p.split in
    let far = map folded (words_from bytes to) ++ rest in
    let without : AreWithout row ahead (map folded p.passed) (map folded all ++ rest) = λ i m.
    let k : i < length p.passed = omega (arith, m, length-map p.passed folded) in
    let inside = p.within i k in
    let within : i + ahead < length (map folded all) = omega (arith, inside, length-map all folded) in
    let same = get_or_append_left (map folded all) rest [] (i + ahead) within ∙ get_or-map folded all (i + ahead) [] [] inside in
    (omega (arith, within, length-append (map folded all) rest), λ e. p.others i k (sym same ∙ e ∙ sym is)) in
    ap (stand_in row) split ∙ no_start row (map folded p.passed) far ahead l (subst (AreWithout row ahead (map folded p.passed)) split without)

-- ---- the words of a part in ASCII
-- those before a place are read: so much of the row is begun, and the words from the place on are left
abbrev pub IsReadTo : List (List ℕ) → List ℕ → List ℕ → ℕ → ℕ → ℕ → Type 0
IsReadTo row part bytes begun at left = (rest : List (List ℕ))
    → stand_in row (take begun row ++ (words_of part ++ rest)) ≡ stand_in row (take left row ++ (map folded (words_from bytes at) ++ rest))

-- one more is read, and folded
pub word_read : (row : List (List ℕ)) (part bytes word : List ℕ) (begun at start end left more : ℕ) → IsAscii part → bytes ≡ part → word ≡ map to_ascii_lowercase (slice_range part start end)
    → words_from bytes at ≡ slice_range bytes start end ∷ words_from bytes end → Continues row left (word ∷ []) more → IsReadTo row part bytes begun at left → IsReadTo row part bytes begun end more
word_read row part bytes word begun at start end left more ascii whole cut words step read = λ rest.
    let text : IsAscii (slice_range part start end) = IsAscii-take (drop start part) (end - start) (IsAscii-drop part start ascii) in
    let same : word ≡ folded (slice_range bytes start end) = cut ∙ sym (folded_ascii (slice_range part start end) text) ∙ ap (λ s. folded (slice_range s start end)) (sym whole) in
    let far = map folded (words_from bytes end) ++ rest in
    read rest ∙ ap (λ ws. stand_in row (take left row ++ (map folded ws ++ rest))) words ∙ ap (λ w. stand_in row (take left row ++ w ∷ far)) (sym same) ∙ step far

-- all of the row is begun: what is left does not count
pub read_whole : (row : List (List ℕ)) (part bytes : List ℕ) (begun at left : ℕ) → left ≡ length row → IsReadTo row part bytes begun at left → Continues row begun (words_of part) left
read_whole row part bytes begun at left full read = λ rest.
    let far = map folded (words_from bytes at) ++ rest in
    read rest ∙ ap (λ n. stand_in row (take n row ++ far)) full ∙ stands_whole row far ∙ sym (ap (λ n. stand_in row (take n row ++ rest)) full ∙ stands_whole row rest)

-- none is left
pub read_out : (row : List (List ℕ)) (part bytes : List ℕ) (begun at left : ℕ) → words_from bytes at ≡ [] → IsReadTo row part bytes begun at left → Continues row begun (words_of part) left
read_out row part bytes begun at left none read = λ rest. read rest ∙ ap (λ ws. stand_in row (take left row ++ (map folded ws ++ rest))) none
