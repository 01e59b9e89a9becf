-- What a term adds to what was written.
use Rattle.std.proofs.Common.{arith, refl, sym, ap, ◌∙◌, ◌≡◌, ◌≤◌, ◌<◌, ◌+◌, ◌*◌, ◌%◌, ◌++◌, ◌∷◌, [], ℕ, zero, suc, List, length, take, append_assoc, append-nil}
use Rattle.std.specs.Int.{w32, to_le_bytes}
use Rattle.std.specs.List.{AllByRecursion, flat_map}
use Rattle.std.proofs.lemmas.List.{take-append-le, take_at, length-append}
use Rattle.std.proofs.lemmas.Bool.{eq-eqb, ne_eqb}
use Rattle.pk_vbyte.specs.VariableByte.{vbyte}
use Rattle.pk_dict.specs.Dictionary.{Item, Fits, rest_of, shared, spelled_item, spelled_items, groups, offsets, group_count, spelling}
use Rattle.pk_dict.specs.Lists.{starts_of, last_of}
use Rattle.pk_dict.proofs.Bounds.{pieces_append}

pub groups_push : (es : List Item) (e : Item) → groups (es ++ e ∷ []) ≡ groups es ++ spelled_item (length es) (last_of [] es) e
unfolding groups
groups_push es e =
    pieces_append 0 [] es (e ∷ []) ∙ ap (λ (k : ℕ). spelled_items 0 [] es ++ spelled_items k (last_of [] es) (e ∷ [])) (omega arith)
    ∙ ap (λ (l : List ℕ). spelled_items 0 [] es ++ l) (append-nil (spelled_item (length es) (last_of [] es) e))

pub push_first : (es : List Item) (e : Item) → length es % 16 ≡ 0 → groups (es ++ e ∷ []) ≡ groups es ++ rest_of [] e
unfolding spelled_item
push_first es e h = groups_push es e ∙ (rw (eq-eqb (length es % 16) 0 h) refl)

pub push_other : (es : List Item) (e : Item) → 0 < length es % 16 → groups (es ++ e ∷ []) ≡ groups es ++ (vbyte (shared (last_of [] es) e.term) ++ rest_of (last_of [] es) e)
unfolding spelled_item
push_other es e h = groups_push es e ∙ (rw (ne_eqb (length es % 16) 0 (λ (q : length es % 16 ≡ 0). omega arith)) refl)

pub last_push : (b : List ℕ) (es : List Item) (e : Item) → last_of b (es ++ e ∷ []) ≡ e.term
last_push b [] e = refl
last_push b (x ∷ es) e = last_push x.term es e

starts_more : (es : List Item) (e : Item) (n : ℕ) → 16 * n ≤ length es + 15 → starts_of (es ++ e ∷ []) n ≡ starts_of es n
starts_more es e zero h = refl
starts_more es e (suc n) h =
    ap (λ (l : List ℕ). l ++ length (groups (take (16 * n) (es ++ e ∷ []))) ∷ []) (starts_more es e n (omega arith))
    ∙ ap (λ (l : List Item). starts_of es n ++ length (groups l) ∷ []) (take-append-le (16 * n) es (e ∷ []) (omega arith))

pub starts_first : (es : List Item) (e : Item) → length es % 16 ≡ 0 → starts_of (es ++ e ∷ []) (group_count (length (es ++ e ∷ []))) ≡ starts_of es (group_count (length es)) ++ length (groups es) ∷ []
starts_first es e h =
    let n : ℕ = group_count (length es) in
    let more : group_count (length (es ++ e ∷ [])) ≡ suc n = omega (arith, length-append es (e ∷ [])) in
    ap (starts_of (es ++ e ∷ [])) more
    ∙ ap (λ (l : List ℕ). l ++ length (groups (take (16 * n) (es ++ e ∷ []))) ∷ []) (starts_more es e n (omega arith))
    ∙ ap (λ (l : List Item). starts_of es n ++ length (groups l) ∷ []) (take_at es (e ∷ []) (16 * n) (omega arith))

pub starts_other : (es : List Item) (e : Item) → 0 < length es % 16 → starts_of (es ++ e ∷ []) (group_count (length (es ++ e ∷ []))) ≡ starts_of es (group_count (length es))
starts_other es e h =
    let n : ℕ = group_count (length es) in
    let same : group_count (length (es ++ e ∷ [])) ≡ n = omega (arith, length-append es (e ∷ [])) in
    ap (starts_of (es ++ e ∷ [])) same ∙ starts_more es e n (omega arith)

flat_push : (xs : List ℕ) (x : ℕ) → flat_map (to_le_bytes w32) (xs ++ x ∷ []) ≡ flat_map (to_le_bytes w32) xs ++ to_le_bytes w32 x
flat_push [] x = refl
flat_push (y ∷ xs) x = ap (λ (l : List ℕ). to_le_bytes w32 y ++ l) (flat_push xs x) ∙ sym (append_assoc (to_le_bytes w32 y) (flat_map (to_le_bytes w32) xs) (to_le_bytes w32 x))

offsets_are : (es : List Item) (n : ℕ) → flat_map (to_le_bytes w32) (starts_of es n) ≡ offsets es n
offsets_are es zero = refl
offsets_are es (suc n) = flat_push (starts_of es n) (length (groups (take (16 * n) es))) ∙ ap (λ (l : List ℕ). l ++ to_le_bytes w32 (length (groups (take (16 * n) es)))) (offsets_are es n)

pub finished : (es : List Item) (starts body : List ℕ) → starts ≡ starts_of es (group_count (length es)) → body ≡ groups es → flat_map (to_le_bytes w32) starts ++ body ≡ spelling es
unfolding spelling
finished es starts body s b = ap (λ (l : List ℕ). flat_map (to_le_bytes w32) l ++ body) s ∙ ap (λ (l : List ℕ). l ++ body) (offsets_are es (group_count (length es))) ∙ ap (λ (l : List ℕ). offsets es (group_count (length es)) ++ l) b

pub starts_done : (es : List Item) (e : Item) (old : List ℕ) (n : ℕ) → length es % 16 ≡ 0 → old ≡ starts_of es (group_count (length es)) → n ≡ length (groups es)
    → old ++ n ∷ [] ≡ starts_of (es ++ e ∷ []) (group_count (length (es ++ e ∷ [])))
starts_done es e old n h o l = ap (λ (s : List ℕ). s ++ n ∷ []) o ∙ ap (λ (k : ℕ). starts_of es (group_count (length es)) ++ k ∷ []) l ∙ sym (starts_first es e h)

pub body_first : (es : List Item) (e : Item) (old part : List ℕ) → length es % 16 ≡ 0 → old ≡ groups es → part ≡ rest_of [] e → old ++ part ≡ groups (es ++ e ∷ [])
body_first es e old part h o p = ap (λ (s : List ℕ). s ++ part) o ∙ ap (λ (s : List ℕ). groups es ++ s) p ∙ sym (push_first es e h)

pub body_other : (es : List Item) (e : Item) (old part last : List ℕ) → 0 < length es % 16 → old ≡ groups es → last ≡ last_of [] es → part ≡ vbyte (shared last e.term) ++ rest_of last e → old ++ part ≡ groups (es ++ e ∷ [])
body_other es e old part last h o l p =
    ap (λ (s : List ℕ). s ++ part) o ∙ ap (λ (s : List ℕ). groups es ++ s) (p ∙ ap (λ (b : List ℕ). vbyte (shared b e.term) ++ rest_of b e) l) ∙ sym (push_other es e h)

pub fits_push : (es : List Item) (e : Item) → AllByRecursion Fits es → Fits e → AllByRecursion Fits (es ++ e ∷ [])
fits_push [] e h f = (f, tt)
fits_push (x ∷ es) e h f = (h.0, fits_push es e h.1 f)
