-- Bytes have one list of items.
use Rattle.std.proofs.Common.{arith, refl, sym, ap, ◌∙◌, ◌≡◌, ◌<◌, ◌+◌, ◌-◌, ◌*◌, ◌%◌, ◌++◌, ◌∷◌, [], ℕ, zero, suc, List, length, take, drop, append_assoc, append-nil, inl, inr}
use Rattle.std.proofs.lemmas.List.{take_at, drop_at, take-append-drop, length-append, length-drop}
use Rattle.std.proofs.lemmas.Bool.{cases_eq}
use Rattle.pk_vbyte.specs.VariableByte.{vbyte}
use Rattle.pk_vbyte.proofs.Prefix.{same_first}
use Rattle.pk_dict.specs.declared.writer.DictWriter.{DictWriter}
use Rattle.pk_dict.specs.declared.entry.Entry.{Entry}
use Rattle.pk_dict.specs.Dictionary.{Item, numbers, rest_of, shared, spelled_item, spelled_items, groups, offsets, group_count, spelling, DictSpells}
use Rattle.pk_dict.specs.Lists.{starts_of}
use Rattle.pk_dict.specs.Writer.{HasAdded}
use Rattle.pk_dict.proofs.Shared.{shared_same, shared_apart}
use Rattle.pk_dict.proofs.Bounds.{piece_first, offsets_size}
use Rattle.pk_dict.proofs.Terms.{piece_not}

-- what two terms share stands in both
pub take_shared : (b t : List ℕ) → take (shared b t) t ≡ take (shared b t) b
take_shared [] t = refl
take_shared (x ∷ b) [] = refl
take_shared (x ∷ b) (y ∷ t) =
    elim (cases_eq x y) [
      | inl e ↦ rw (shared_same x y b t e) (ap (λ (k : ℕ). k ∷ take (shared b t) t) (sym e) ∙ ap (λ (l : List ℕ). x ∷ l) (take_shared b t))
      | inr n ↦ rw (shared_apart x y b t n) refl
    ]

-- fronts of one length are the same, and so is what follows
same_front : (x y r s : List ℕ) → length x ≡ length y → x ++ r ≡ y ++ s → (x ≡ y) × (r ≡ s)
same_front x y r s len h = (
  sym (take_at x r (length x) refl) ∙ ap (take (length x)) h ∙ take_at y s (length x) (sym len),
  sym (drop_at x r (length x) refl) ∙ ap (drop (length x)) h ∙ drop_at y s (length x) (sym len),
)

abbrev made : List ℕ → ℕ → ℕ → ℕ → Item
made t f p n = record { term = t; entry = record { frequency = f; place = record { at = p; bytes = n } } }

same_item : (e f : Item) → e.term ≡ f.term → e.entry.frequency ≡ f.entry.frequency → e.entry.place.at ≡ f.entry.place.at → e.entry.place.bytes ≡ f.entry.place.bytes → e ≡ f
same_item e f t q p n =
    ap (λ (x : List ℕ). made x e.entry.frequency e.entry.place.at e.entry.place.bytes) t ∙ ap (λ (x : ℕ). made f.term x e.entry.place.at e.entry.place.bytes) q
    ∙ ap (λ (x : ℕ). made f.term f.entry.frequency x e.entry.place.bytes) p ∙ ap (λ (x : ℕ). made f.term f.entry.frequency f.entry.place.at x) n

record SameNumbers (e f : Entry) (r s : List ℕ) : Type 0 where
  frequency : e.frequency ≡ f.frequency
  at : e.place.at ≡ f.place.at
  bytes : e.place.bytes ≡ f.place.bytes
  rest : r ≡ s

three : (a b c r : List ℕ) → (a ++ (b ++ c)) ++ r ≡ a ++ (b ++ (c ++ r))
three a b c r = append_assoc a (b ++ c) r ∙ ap (λ (l : List ℕ). a ++ l) (append_assoc b c r)

same_numbers : (e f : Entry) (r s : List ℕ) → numbers e ++ r ≡ numbers f ++ s → SameNumbers e f r s
unfolding numbers
same_numbers e f r s h =
    let a = same_first e.frequency f.frequency _ _ (sym (three (vbyte e.frequency) (vbyte e.place.at) (vbyte e.place.bytes) r) ∙ h ∙ three (vbyte f.frequency) (vbyte f.place.at) (vbyte f.place.bytes) s) in
    let b = same_first e.place.at f.place.at _ _ a.1 in
    let c = same_first e.place.bytes f.place.bytes _ _ b.1 in
    record { frequency = a.0; at = b.0; bytes = c.0; rest = c.1 }

same_rest : (b : List ℕ) (e f : Item) (r s : List ℕ) → shared b e.term ≡ shared b f.term → rest_of b e ++ r ≡ rest_of b f ++ s → (e ≡ f) × (r ≡ s)
unfolding rest_of
same_rest b e f r s k h =
    let i : ℕ = shared b e.term in
    let j : ℕ = shared b f.term in
    let x : List ℕ = drop i e.term in
    let y : List ℕ = drop j f.term in
    let a = same_first (length e.term - i) (length f.term - j) _ _ (sym (three (vbyte (length e.term - i)) x (numbers e.entry) r) ∙ h ∙ three (vbyte (length f.term - j)) y (numbers f.entry) s) in
    let c = same_front x y (numbers e.entry ++ r) (numbers f.entry ++ s) (omega (arith, a.0, length-drop i e.term, length-drop j f.term)) a.1 in
    let n = same_numbers e.entry f.entry r s c.1 in
    let front : take i e.term ≡ take j f.term = take_shared b e.term ∙ ap (λ (m : ℕ). take m b) k ∙ sym (take_shared b f.term) in
    let term : e.term ≡ f.term = sym (take-append-drop i e.term) ∙ ap (λ (l : List ℕ). l ++ x) front ∙ ap (λ (l : List ℕ). take j f.term ++ l) c.0 ∙ take-append-drop j f.term in
    (same_item e f term n.frequency n.at n.bytes, n.rest)

same_piece : (i : ℕ) (b : List ℕ) (e f : Item) (r s : List ℕ) → spelled_item i b e ++ r ≡ spelled_item i b f ++ s → (e ≡ f) × (r ≡ s)
same_piece i b e f r s h =
    elim (cases_eq (i % 16) 0) [
      | inl z ↦ same_rest [] e f r s refl (sym (ap (λ (l : List ℕ). l ++ r) (piece_first i b e z)) ∙ h ∙ ap (λ (l : List ℕ). l ++ s) (piece_first i b f z))
      | inr n ↦
          let z : 0 < i % 16 = omega (arith, n) in
          let u = sym (append_assoc (vbyte (shared b e.term)) (rest_of b e) r) ∙ sym (ap (λ (l : List ℕ). l ++ r) (piece_not i b e z)) ∙ h ∙ ap (λ (l : List ℕ). l ++ s) (piece_not i b f z) ∙ append_assoc (vbyte (shared b f.term)) (rest_of b f) s in
          let v = same_first (shared b e.term) (shared b f.term) _ _ u in
          same_rest b e f r s v.0 v.1
    ]

same_pieces : (i : ℕ) (b : List ℕ) (es fs : List Item) (r s : List ℕ) → length es ≡ length fs → spelled_items i b es ++ r ≡ spelled_items i b fs ++ s → es ≡ fs
same_pieces i b [] [] r s len h = refl
same_pieces i b [] (f ∷ fs) r s len h = absurd (omega arith)
same_pieces i b (e ∷ es) [] r s len h = absurd (omega arith)
same_pieces i b (e ∷ es) (f ∷ fs) r s len h =
    let p = same_piece i b e f (spelled_items (i + 1) e.term es ++ r) (spelled_items (i + 1) f.term fs ++ s)
    (sym (append_assoc (spelled_item i b e) (spelled_items (i + 1) e.term es) r) ∙ h ∙ append_assoc (spelled_item i b f) (spelled_items (i + 1) f.term fs) s) in
    let q : spelled_items (i + 1) e.term es ++ r ≡ spelled_items (i + 1) e.term fs ++ s = p.1 ∙ ap (λ (x : Item). spelled_items (i + 1) x.term fs ++ s) (sym p.0) in
    ap (λ (x : Item). x ∷ es) p.0 ∙ ap (λ (l : List Item). f ∷ l) (same_pieces (i + 1) e.term es fs r s (omega arith) q)

pub same_groups : (es fs : List Item) → length es ≡ length fs → groups es ≡ groups fs → es ≡ fs
unfolding groups
same_groups es fs len h = same_pieces 0 [] es fs [] [] len (append-nil (spelled_items 0 [] es) ∙ h ∙ sym (append-nil (spelled_items 0 [] fs)))

-- a dictionary of so many terms is one of these alone
pub same_items : (b : List ℕ) (es fs : List Item) → DictSpells b es → DictSpells b fs → length es ≡ length fs → es ≡ fs
unfolding spelling
same_items b es fs d e len =
    let G : ℕ = group_count (length es) in
    let H : ℕ = group_count (length fs) in
    let g : G ≡ H = ap group_count len in
    let p = same_front (offsets es G) (offsets fs H) (groups es) (groups fs) (omega (arith, offsets_size es G, offsets_size fs H)) (sym d.same ∙ e.same) in
    same_groups es fs len p.1

-- a list has one spelling
pub same_spelling : (b c : List ℕ) (es : List Item) → DictSpells b es → DictSpells c es → b ≡ c
same_spelling b c es d e = d.same ∙ sym e.same

pub starts_size : (es : List Item) (n : ℕ) → length (starts_of es n) ≡ n
starts_size es zero = refl
starts_size es (suc n) = omega (arith, length-append (starts_of es n) (length (groups (take (16 * n) es)) ∷ []), starts_size es n)

-- what was added to a writer is one list
pub same_added : (w : DictWriter) (es fs : List Item) → HasAdded w es → HasAdded w fs → es ≡ fs
same_added w es fs d e =
    let n : ℕ = group_count (length es) in
    let m : ℕ = group_count (length fs) in
    let g : n ≡ m = sym (starts_size es n) ∙ ap (λ (l : List ℕ). length l) (sym d.starts ∙ e.starts) ∙ starts_size fs m in
    same_groups es fs (omega (arith, g, d.count, e.count)) (sym d.body ∙ e.body)
