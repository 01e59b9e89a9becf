-- A vbyte term is told right, and so is a group.
use Rattle.std.proofs.Common.{arith, refl, sym, ap, ◌∙◌, ◌≡◌, ◌≤◌, ◌<◌, ◌+◌, ◌-◌, ◌%◌, ◌++◌, ◌∷◌, [], ℕ, List, length, take, drop, get_or, None, Ok, Result, append_assoc, true, false, cond, eqb, ltb, inl, inr}
use Rattle.std.specs.List.{AllByRecursion}
use Rattle.std.proofs.lemmas.List.{take_at, length-append, length-drop, get_or-drop, get_or_append_left}
use Rattle.std.proofs.lemmas.Bool.{cases_lt, cases_eq, cases_order, cases_Bool, eq-eqb, ne_eqb, lt-ltb, le-ltb}
use Rattle.pk_posting.specs.declared.source.SourceFault.{SourceFault}
use Rattle.pk_vbyte.specs.VariableByte.{vbyte}
use Rattle.pk_dict.specs.declared.entry.Entry.{Entry}
use Rattle.pk_dict.specs.declared.head.Step.{Step}
use Rattle.pk_dict.specs.declared.head.Step.TheVariants.{Less, Found, Past}
use Rattle.std.specs.Str.{bytes_eq}
use Rattle.pk_dict.specs.declared.head.Head.{Head}
use Rattle.pk_dict.specs.Dictionary.{numbers, Item, rest_of, shared, spelled_item, spelled_items, Fits, entry_of}
use Rattle.pk_dict.specs.Order.{less, Rising}
use Rattle.pk_dict.specs.Reading.{◌>>=◌, number_at, entry_at, byte_at, shared_at, head_at, compared_at, apart_at, step_at, next_at, scan_at, going_on}
use Rattle.pk_dict.proofs.Shared.{shared_value, shared_most}
use Rattle.pk_dict.proofs.Numbers.{moved, number_law, entry_law}
use Rattle.pk_dict.proofs.Order.{keeps, passes, share_both, shared_from, ends_both, ends_first, ends_second, ends_neither, stays_past}
use Rattle.pk_dict.proofs.Scan.{scan_by}

-- what a term is to the wanted one
abbrev pub told : List ℕ → List ℕ → Entry → ℕ → Step
told g t e next = cond (bytes_eq t g) (Found e) (cond (less t g) (Less (shared t g) next) Past)

told_found : (g t : List ℕ) (e : Entry) (next : ℕ) → bytes_eq t g ≡ true → told g t e next ≡ Found e
told_found g t e next s = rw s refl

told_less : (g t : List ℕ) (e : Entry) (next : ℕ) → bytes_eq t g ≡ false → less t g ≡ true → told g t e next ≡ Less (shared t g) next
told_less g t e next s l = rw (s, l) refl

told_past : (g t : List ℕ) (e : Entry) (next : ℕ) → bytes_eq t g ≡ false → less t g ≡ false → told g t e next ≡ Past
told_past g t e next s l = rw (s, l) refl

byte_law : (bytes : List ℕ) (at b : ℕ) → at < length bytes → get_or bytes at 0 ≡ b → byte_at bytes at ≡ Ok b
unfolding byte_at
byte_law bytes at b h e = rw (lt-ltb at (length bytes) h, e) refl

inside : (bytes : List ℕ) (at : ℕ) (x rest : List ℕ) → at ≤ length bytes → drop at bytes ≡ x ++ rest → at + length x + length rest ≡ length bytes
inside bytes at x rest h e = omega (arith, ap length e, length-drop at bytes, length-append x rest)

-- the end of compared_at, with what is shared known
after_shared : List ℕ → Head → List ℕ → ℕ → ℕ → Result Step SourceFault
after_shared bytes h g m c =
    cond (eqb c h.size) (cond (eqb (m + c) (length g)) (Ok (Found h.entry)) (Ok (Less (m + c) h.next)))
    (cond (eqb (m + c) (length g)) (Ok Past) (byte_at bytes (h.rest + c) >>= λ (b : ℕ). cond (ltb (get_or g (m + c) 0) b) (Ok Past) (Ok (Less (m + c) h.next))))

compared_is : (bytes : List ℕ) (h : Head) (g : List ℕ) (m c : ℕ) → shared_at bytes h.rest h.size (drop m g) ≡ Ok c
    → compared_at bytes h g m ≡ after_shared bytes h g m c
unfolding compared_at after_shared
compared_is bytes h g m c e = rw e refl

-- a term of which m bytes are known, the rest standing at a place
pub record Rest (bytes : List ℕ) (h : Head) (t g more : List ℕ) (m : ℕ) : Type 0 where
  pub known : m ≤ shared t g
  pub place : h.rest ≤ length bytes
  pub stands : drop h.rest bytes ≡ drop m t ++ more
  pub size : h.size ≡ length (drop m t)

after_law : (bytes : List ℕ) (h : Head) (t g more : List ℕ) (m c : ℕ) → Rest bytes h t g more m → m + c ≡ shared t g
    → after_shared bytes h g m c ≡ Ok (told g t h.entry h.next)
unfolding after_shared
after_law bytes h t g more m c r e =
    let n : ℕ = h.size in
    let at : ℕ = h.rest in
    let entry : Entry = h.entry in
    let next : ℕ = h.next in
    let most = shared_most t g in
    let size : n ≡ length t - m = r.size ∙ length-drop m t in
    elim (cases_eq c n) [
      | inl f ↦ elim (cases_eq (m + c) (length g)) [
        | inl q ↦ rw (eq-eqb c n f, eq-eqb (m + c) (length g) q) (ap Ok (sym (told_found g t entry next (ends_both t g (omega (arith, most.0)) (omega arith)))))
        | inr q ↦
            let k = ends_first t g (omega (arith, most.0)) (omega (arith, most.0, most.1, q)) in
            rw (eq-eqb c n f, ne_eqb (m + c) (length g) q) (ap (λ (j : ℕ). Ok (Less j next)) e ∙ ap Ok (sym (told_less g t entry next k.1 k.0)))
      ]
      | inr f ↦ elim (cases_eq (m + c) (length g)) [
        | inl q ↦
            let k = ends_second t g (omega (arith, most.0, f)) (omega arith) in
            rw (ne_eqb c n f, eq-eqb (m + c) (length g) q) (ap Ok (sym (told_past g t entry next k.1 k.0)))
        | inr q ↦
            let lt : c < n = omega (arith, most.0, f) in
            let k = ends_neither t g (omega (arith, most.0, f)) (omega (arith, most.1, q)) in
            let b : byte_at bytes (at + c) ≡ Ok (get_or t (m + c) 0) = byte_law bytes (at + c) _ (omega (arith, inside bytes at (drop m t) more r.place r.stands, r.size))
            (sym (get_or-drop at bytes c 0) ∙ ap (λ (l : List ℕ). get_or l c 0) r.stands ∙ get_or_append_left (drop m t) more 0 c (omega (arith, r.size)) ∙ get_or-drop m t c 0) in
            let less-is : less t g ≡ ltb (get_or t (m + c) 0) (get_or g (m + c) 0) = rw e k.0 in
            let apart : get_or t (m + c) 0 ≡ get_or g (m + c) 0 → ⊥ = rw e k.2 in
            rw (ne_eqb c n f, ne_eqb (m + c) (length g) q, b)
            (elim (cases_lt (get_or g (m + c) 0) (get_or t (m + c) 0)) [
              | inl l ↦ rw (lt-ltb _ _ l) (ap Ok (sym (told_past g t entry next k.1 (less-is ∙ le-ltb _ _ (omega arith)))))
              | inr l ↦ rw (le-ltb _ _ l) (ap (λ (j : ℕ). Ok (Less j next)) e ∙ ap Ok (sym (told_less g t entry next k.1 (less-is ∙ lt-ltb _ _ (omega (arith, apart))))))
            ])
      ]
    ]

pub compared_law : (bytes : List ℕ) (h : Head) (t g more : List ℕ) (m : ℕ) → Rest bytes h t g more m
    → compared_at bytes h g m ≡ Ok (told g t h.entry h.next)
compared_law bytes h t g more m r =
    let c : ℕ = shared (drop m t) (drop m g) in
    let front : take h.size (drop h.rest bytes) ≡ drop m t = ap (take h.size) r.stands ∙ take_at (drop m t) more h.size (sym r.size) in
    compared_is bytes h g m c (shared_value bytes h.rest h.size (drop m g) c (omega (arith, inside bytes h.rest (drop m t) more r.place r.stands, r.size)) (sym (ap (λ (l : List ℕ). shared l (drop m g)) front)))
    ∙ after_law bytes h t g more m c r (sym (shared_from m t g r.known))

-- what stands of a term after the bytes that it keeps
pub record Parsed (bytes : List ℕ) (at : ℕ) (b : List ℕ) (e : Item) (more : List ℕ) : Type 0 where
  pub start : ℕ
  pub number : number_at bytes at ≡ Ok (length e.term - shared b e.term, start)
  pub place : start ≤ length bytes
  pub stands : drop start bytes ≡ drop (shared b e.term) e.term ++ (numbers e.entry ++ more)
  pub entry : entry_at bytes (start + (length e.term - shared b e.term)) ≡ Ok (e.entry, at + length (rest_of b e))

pub parsed : (bytes : List ℕ) (at : ℕ) (b : List ℕ) (e : Item) (more : List ℕ) → Fits e → at ≤ length bytes → drop at bytes ≡ rest_of b e ++ more → Parsed bytes at b e more
unfolding rest_of
parsed bytes at b e more fits h d =
    let s : ℕ = shared b e.term in
    let n : ℕ = length e.term - s in
    let tail : List ℕ = drop s e.term in
    let size : length tail ≡ n = length-drop s e.term in
    let d0 : drop at bytes ≡ vbyte n ++ (tail ++ (numbers e.entry ++ more)) = d ∙ append_assoc (vbyte n) (tail ++ numbers e.entry) more ∙ ap (λ (l : List ℕ). vbyte n ++ l) (append_assoc tail (numbers e.entry) more) in
    let d1 = moved bytes at (vbyte n) (tail ++ (numbers e.entry ++ more)) d0 in
    let d2 = moved bytes (at + length (vbyte n)) tail (numbers e.entry ++ more) d1 in
    record {
      start = at + length (vbyte n);
      number = number_law bytes at n _ (omega (arith, fits.term)) d0;
      place = omega (arith, inside bytes at (vbyte n) (tail ++ (numbers e.entry ++ more)) h d0);
      stands = d1;
      entry = ap (λ (k : ℕ). entry_at bytes (at + length (vbyte n) + k)) (sym size) ∙ entry_law bytes (at + length (vbyte n) + length tail) e.entry more fits.frequency fits.at fits.bytes d2
          ∙ ap (λ (k : ℕ). Ok (e.entry, k)) (omega (arith, length-append (vbyte n) (tail ++ numbers e.entry), length-append tail (numbers e.entry)));
    }

-- where the parts of a term lie, where its rest begins at a place
abbrev pub head_of : List ℕ → Item → ℕ → ℕ → Head
head_of b e start at = record { rest = start; size = length e.term - shared b e.term; entry = e.entry; next = at + length (rest_of b e) }

pub head_law : (bytes : List ℕ) (at : ℕ) (b : List ℕ) (e : Item) (more : List ℕ) (p : Parsed bytes at b e more) → head_at bytes at ≡ Ok (head_of b e p.start at)
unfolding head_at
head_law bytes at b e more p = rw (p.number, p.entry) refl

-- the end of step_at
pub step_by : (bytes g : List ℕ) (s m at : ℕ) (h : Head) → head_at bytes at ≡ Ok h
    → step_at bytes g s m at ≡ cond (ltb m s) (Ok (Less m h.next)) (cond (ltb s m) (apart_at bytes h.rest s g) (compared_at bytes h g m))
unfolding step_at
step_by bytes g s m at h p = rw p refl

apart_law : (bytes : List ℕ) (at s : ℕ) (g : List ℕ) (b : ℕ) → byte_at bytes at ≡ Ok b → get_or g s 0 < b → apart_at bytes at s g ≡ Ok Past
unfolding apart_at
apart_law bytes at s g b e l = rw (e, lt-ltb _ _ l) refl

-- the first term of a group
pub first_law : (bytes g : List ℕ) (at : ℕ) (e : Item) (more : List ℕ) → Fits e → at ≤ length bytes → drop at bytes ≡ rest_of [] e ++ more
    → step_at bytes g 0 0 at ≡ Ok (told g e.term e.entry (at + length (rest_of [] e)))
first_law bytes g at e more fits h d =
    let p = parsed bytes at [] e more fits h d in
    step_by bytes g 0 0 at (head_of [] e p.start at) (head_law bytes at [] e more p)
    ∙ compared_law bytes (head_of [] e p.start at) e.term g (numbers e.entry ++ more) 0 (record { known = omega arith; place = p.place; stands = p.stands; size = omega arith })

-- another one
pub step_law : (bytes g : List ℕ) (at : ℕ) (b : List ℕ) (e : Item) (more : List ℕ) → Fits e → at ≤ length bytes → drop at bytes ≡ rest_of b e ++ more → less b e.term ≡ true → less b g ≡ true
    → step_at bytes g (shared b e.term) (shared b g) at ≡ Ok (told g e.term e.entry (at + length (rest_of b e)))
step_law bytes g at b e more fits h d rises below =
    let p = parsed bytes at b e more fits h d in
    let s : ℕ = shared b e.term in
    let m : ℕ = shared b g in
    let next : ℕ = at + length (rest_of b e) in
    step_by bytes g s m at (head_of b e p.start at) (head_law bytes at b e more p)
    ∙ elim (cases_order s m) [
      | inl q ↦ rw (le-ltb m s (omega arith), le-ltb s m (omega arith))
          (compared_law bytes (head_of b e p.start at) e.term g (numbers e.entry ++ more) m (record { known = omega (arith, share_both b e.term g q); place = p.place; stands = p.stands ∙ ap (λ (k : ℕ). drop k e.term ++ (numbers e.entry ++ more)) q; size = omega (arith, length-drop m e.term) }))
      | inr o ↦ elim o [
        | inl l ↦
            let v = passes b e.term g l rises in
            rw (le-ltb m s (omega arith), lt-ltb s m l)
            (apart_law bytes p.start s g (get_or e.term s 0) (byte_law bytes p.start _ (omega (arith, inside bytes p.start (drop s e.term) (numbers e.entry ++ more) p.place p.stands, length-drop s e.term, v.within))
            (ap (λ (k : ℕ). get_or bytes k 0) (omega arith) ∙ sym (get_or-drop p.start bytes 0 0) ∙ ap (λ (l : List ℕ). get_or l 0 0) p.stands ∙ get_or_append_left (drop s e.term) _ 0 0 (omega (arith, length-drop s e.term, v.within)) ∙ get_or-drop s e.term 0 0 ∙ ap (λ (k : ℕ). get_or e.term k 0) (omega arith))) v.byte
            ∙ ap Ok (sym (told_past g e.term e.entry next v.other v.after)))
        | inr l ↦
            let v = keeps b e.term g l below in
            rw (lt-ltb m s l) (ap (λ (k : ℕ). Ok (Less k next)) (sym v.same) ∙ ap Ok (sym (told_less g e.term e.entry next v.other v.before)))
      ]
    ]

-- past the wanted term there is nothing
pub none_past : (t : List ℕ) (es : List Item) (g : List ℕ) → Rising t es → less t g ≡ false → bytes_eq t g ≡ false → entry_of es g ≡ None
none_past t [] g r l s = refl
none_past t (e ∷ es) g r l s =
    let p = stays_past t e.term g r.0 l s in
    rw (p.1) (none_past e.term es g r.1 p.0 p.1)

pub piece_not : (i : ℕ) (b : List ℕ) (e : Item) → 0 < i % 16 → spelled_item i b e ≡ vbyte (shared b e.term) ++ rest_of b e
unfolding spelled_item
piece_not i b e h = rw (ne_eqb (i % 16) 0 (λ (q : i % 16 ≡ 0). omega arith)) refl

next_by : (bytes g : List ℕ) (m at : ℕ) (s : ℕ × ℕ) → number_at bytes at ≡ Ok s → next_at bytes g m at ≡ step_at bytes g s.0 m s.1
unfolding next_at
next_by bytes g m at s e = rw e refl

-- the terms of a group after its first
pub scan_law : (i : ℕ) (b : List ℕ) (es : List Item) (bytes g : List ℕ) (at : ℕ) (more : List ℕ) → (0 < length es → 0 < i % 16) → i % 16 + length es ≤ 16 → Rising b es → AllByRecursion Fits es → less b g ≡ true
    → at ≤ length bytes → drop at bytes ≡ spelled_items i b es ++ more → scan_at (length es) bytes g (shared b g) at ≡ Ok (entry_of es g)
unfolding scan_at
scan_law i b [] bytes g at more in_group few rises fits below h d = refl
scan_law i b (e ∷ es) bytes g at more in_group few rises fits below h d =
    let s : ℕ = shared b e.term in
    let most = shared_most b e.term in
    let after : List ℕ = spelled_items (i + 1) e.term es ++ more in
    let d0 : drop at bytes ≡ vbyte s ++ (rest_of b e ++ after) = d ∙ append_assoc (spelled_item i b e) (spelled_items (i + 1) e.term es) more ∙ ap (λ (l : List ℕ). l ++ after) (piece_not i b e (in_group (omega arith))) ∙ append_assoc (vbyte s) (rest_of b e) after in
    let d1 = moved bytes at (vbyte s) (rest_of b e ++ after) d0 in
    let start : ℕ = at + length (vbyte s) in
    let h1 : start ≤ length bytes = omega (arith, inside bytes at (vbyte s) (rest_of b e ++ after) h d0) in
    let next : ℕ = start + length (rest_of b e) in
    let d2 = moved bytes start (rest_of b e) after d1 in
    let h2 : next ≤ length bytes = omega (arith, inside bytes start (rest_of b e) after h1 d1) in
    let st = step_law bytes g start b e after fits.0 h1 d1 rises.0 below in
    let all = scan_by (length es) bytes g (shared b g) at (Ok (told g e.term e.entry next)) (next_by bytes g (shared b g) at (s, start) (number_law bytes at s _ (omega (arith, most.1, fits.0.term)) d0) ∙ st) in
    all ∙ elim (cases_Bool (bytes_eq e.term g)) [
      | inl q ↦ ap (going_on (scan_at (length es) bytes g)) (told_found g e.term e.entry next q) ∙ rw q refl
      | inr q ↦ elim (cases_Bool (less e.term g)) [
        | inl l ↦ ap (going_on (scan_at (length es) bytes g)) (told_less g e.term e.entry next q l) ∙
            scan_law (i + 1) e.term es bytes g next more (λ (z : 0 < length es). omega arith) (omega arith) rises.1 fits.1 l h2 d2 ∙ rw q refl
        | inr l ↦ ap (going_on (scan_at (length es) bytes g)) (told_past g e.term e.entry next q l) ∙ ap Ok (sym (rw q (none_past e.term es g rises.1 l q)))
      ]
    ]
