-- What the search among the groups knows, and what it ends with.
use Rattle.std.proofs.Common.{arith, refl, sym, ap, subst, ◌∙◌, ◌≡◌, ◌≤◌, ◌<◌, ◌+◌, ◌-◌, ◌*◌, ◌++◌, ◌∷◌, [], ℕ, zero, suc, List, length, take, drop, Some, None, Option, Ok, Err, Result, append-nil, Bool, true, false, cond, inl, inr, ◌⊎◌, min}
use Rattle.std.specs.Prelude.{MatchResult}
use Rattle.std.specs.List.{AllByRecursion}
use Rattle.std.proofs.lemmas.List.{drop-drop, drop_all, take-append-drop, length-drop, length-take}
use Rattle.std.proofs.lemmas.Bool.{cases_lt, cases_eq, cases_order, false≢true}
use Rattle.pk_posting.specs.declared.source.SourceFault.{SourceFault}
use Rattle.pk_dict.specs.declared.entry.Entry.{Entry}
use Rattle.pk_dict.specs.declared.head.Step.{Step}
use Rattle.pk_dict.specs.declared.head.Step.TheVariants.{Less, Found, Past}
use Rattle.std.specs.Str.{bytes_eq}
use Rattle.pk_dict.specs.Dictionary.{Item, spelled_items, group_count, DictSpells, Fits, entry_of}
use Rattle.pk_dict.specs.Order.{less, Rising, RisingTerms}
use Rattle.pk_posting.specs.declared.source.SourceFault.TheVariants as faults
use Rattle.pk_dict.specs.Search.{Under, Above, Known}
use Rattle.pk_dict.specs.Reading.{group_at, scan_at, Gives}
use Rattle.pk_dict.proofs.Order.{less_same, less_by, less_not, same_by, same_not}
use Rattle.pk_dict.proofs.Rising.{rises}
use Rattle.pk_dict.proofs.Terms.{told, none_past, scan_law}
use Rattle.pk_dict.specs.Lists.{last_of}
use Rattle.pk_dict.proofs.Bounds.{pieces_append, group_law}

is_less : (s l : Bool) (e : Entry) (k next m n : ℕ) → cond s (Found e) (cond l (Less k next) Past) ≡ Less m n → (s ≡ false) × (l ≡ true) × (m ≡ k) × (n ≡ next)
is_less true l e k next m n h = absurd cc
is_less false true e k next m n h = (refl, refl, cc, cc)
is_less false false e k next m n h = absurd cc

is_past : (s l : Bool) (e : Entry) (k next : ℕ) → cond s (Found e) (cond l (Less k next) Past) ≡ Past → (s ≡ false) × (l ≡ false)
is_past true l e k next h = absurd cc
is_past false true e k next h = absurd cc
is_past false false e k next h = (refl, refl)

pub is_found : (s l : Bool) (e f : Entry) (k next : ℕ) → cond s (Found e) (cond l (Less k next) Past) ≡ Found f → (s ≡ true) × (e ≡ f)
is_found true l e f k next h = (refl, cc)
is_found false true e f k next h = absurd cc
is_found false false e f k next h = absurd cc

abbrev pub done : Step → Result Step SourceFault
done x = Ok x

pub ok_is : (x y : Step) → done x ≡ done y → x ≡ y
ok_is x y e = cc

abbrev pub AtMost : List ℕ → List ℕ → Type 0
AtMost u g = (less u g ≡ true) ⊎ (bytes_eq u g ≡ true)

below_at_most : (t u g : List ℕ) → less t u ≡ true → AtMost u g → bytes_eq t g ≡ false
below_at_most t [] g h a = absurd (false≢true h)
below_at_most [] (y ∷ u) [] h (inl l) = absurd (false≢true l)
below_at_most [] (y ∷ u) [] h (inr s) = absurd (false≢true s)
below_at_most [] (y ∷ u) (z ∷ g) h a = refl
below_at_most (x ∷ t) (y ∷ u) [] h a = refl
below_at_most (x ∷ t) (y ∷ u) (z ∷ g) h a =
    elim (cases_eq x z) [
      | inr n ↦ same_not x z t g n
      | inl e ↦ elim (cases_order x y) [
        | inl f ↦ same_by x z t g e ∙ below_at_most t u g (sym (less_same x y t u f) ∙ h) (elim a [ inl l ↦ inl (sym (less_same y z u g (omega arith)) ∙ l) | inr s ↦ inr (sym (same_by y z u g (omega arith)) ∙ s) ])
        | inr o ↦ elim o [
          | inl k ↦ elim a [ inl l ↦ absurd (false≢true (sym (less_not y z u g (omega arith)) ∙ l)) | inr s ↦ absurd (false≢true (sym (same_not y z u g (λ (q : y ≡ z). omega arith)) ∙ s)) ]
          | inr k ↦ absurd (false≢true (sym (less_not x y t u k) ∙ h))
        ]
      ]
    ]

pub less_then : (t u v : List ℕ) → less t u ≡ true → less u v ≡ true → less t v ≡ true
less_then t [] v h k = absurd (false≢true h)
less_then t (y ∷ u) [] h k = absurd (false≢true k)
less_then [] (y ∷ u) (z ∷ v) h k = refl
less_then (x ∷ t) (y ∷ u) (z ∷ v) h k =
    elim (cases_order x y) [
      | inl e ↦ elim (cases_order y z) [
        | inl f ↦ less_same x z t v (omega arith) ∙ less_then t u v (sym (less_same x y t u e) ∙ h) (sym (less_same y z u v f) ∙ k)
        | inr o ↦ elim o [ inl l ↦ less_by x z t v (omega arith) | inr l ↦ absurd (false≢true (sym (less_not y z u v l) ∙ k)) ]
      ]
      | inr p ↦ elim p [
        | inl l ↦ elim (cases_lt z y) [ inl m ↦ absurd (false≢true (sym (less_not y z u v m) ∙ k)) | inr m ↦ less_by x z t v (omega arith) ]
        | inr l ↦ absurd (false≢true (sym (less_not x y t u l) ∙ h))
      ]
    ]

pub reaches : (b : List ℕ) (xs : List Item) (e : Item) (rest : List Item) → Rising b (xs ++ (e ∷ rest)) → less b e.term ≡ true
reaches b [] e rest r = r.0
reaches b (x ∷ xs) e rest r = less_then b x.term e.term r.0 (reaches x.term xs e rest r.1)

skip_from : (b : List ℕ) (xs : List Item) (e : Item) (rest : List Item) (g : List ℕ) → Rising b (xs ++ (e ∷ rest)) → AtMost e.term g → entry_of (xs ++ (e ∷ rest)) g ≡ entry_of (e ∷ rest) g
skip_from b [] e rest g r a = refl
skip_from b (x ∷ xs) e rest g r a = rw (below_at_most x.term e.term g (reaches x.term xs e rest r.1) a) (skip_from x.term xs e rest g r.1 a)

pub skip : (xs : List Item) (e : Item) (rest : List Item) (g : List ℕ) → RisingTerms (xs ++ (e ∷ rest)) → AtMost e.term g → entry_of (xs ++ (e ∷ rest)) g ≡ entry_of (e ∷ rest) g
skip [] e rest g r a = refl
skip (x ∷ xs) e rest g r a = rw (below_at_most x.term e.term g (reaches x.term xs e rest r) a) (skip_from x.term xs e rest g r a)

cut : (xs ys : List Item) (g : List ℕ) → entry_of ys g ≡ None → entry_of (xs ++ ys) g ≡ entry_of xs g
cut [] ys g h = h
cut (x ∷ xs) ys g h = ap (cond (bytes_eq x.term g) (Some x.entry)) (cut xs ys g h)

pub rising_terms : (b : List ℕ) (es : List Item) → Rising b es → RisingTerms es
rising_terms b [] r = tt
rising_terms b (e ∷ es) r = r.1

pub rising_drop : (n : ℕ) (es : List Item) → RisingTerms es → RisingTerms (drop n es)
rising_drop zero es r = r
rising_drop (suc n) [] r = r
rising_drop (suc n) (e ∷ es) r = rising_drop n es (rising_terms e.term es r)

rising_take : (n : ℕ) (b : List ℕ) (es : List Item) → Rising b es → Rising b (take n es)
rising_take zero b es r = tt
rising_take (suc n) b [] r = tt
rising_take (suc n) b (e ∷ es) r = (r.0, rising_take n e.term es r.1)

fits_take : (n : ℕ) (es : List Item) → AllByRecursion Fits es → AllByRecursion Fits (take n es)
fits_take zero es h = tt
fits_take (suc n) [] h = tt
fits_take (suc n) (e ∷ es) h = (h.0, fits_take n es h.1)

pub fits_drop : (n : ℕ) (es : List Item) → AllByRecursion Fits es → AllByRecursion Fits (drop n es)
fits_drop zero es h = h
fits_drop (suc n) [] h = h
fits_drop (suc n) (e ∷ es) h = fits_drop n es h.1

pub known_first : (bytes : List ℕ) (es : List Item) (term : List ℕ) (high matched next : ℕ) → high ≡ group_count (length es) → Known bytes es term 0 high matched next
known_first bytes es term high matched next h = record { under = λ (z : 0 < 0). absurd (omega arith); above = λ (z : high < group_count (length es)). absurd (omega arith) }

pub known_less : (bytes : List ℕ) (es : List Item) (term : List ℕ) (low high matched next m now after : ℕ) → DictSpells bytes es → Known bytes es term low high matched next
    → m < group_count (length es) → group_at bytes (4 * group_count (length es)) m term ≡ Ok (Less now after) → Known bytes es term (m + 1) high now after
known_less bytes es term low high matched next m now after d k lt step = record {
  under = λ (z : 0 < m + 1) (e : Item) (rest : List Item) (split : drop (16 * (m + 1 - 1)) es ≡ e ∷ rest).
      let same : m + 1 - 1 ≡ m = omega arith in
      let at : drop (16 * m) es ≡ e ∷ rest = ap (λ (i : ℕ). drop (16 * i) es) (sym same) ∙ split in
      let g = group_law bytes es m term e rest d (omega arith) at in
      let ok : told term e.term e.entry g.next ≡ Less now after = ok_is _ _ (sym g.step ∙ step) in
      let is = is_less _ _ _ _ _ _ _ ok in
      subst (λ (i : ℕ). Under bytes term i now after e rest) (sym same) (record { other = is.0; before = is.1; shares = is.2; place = omega (arith, g.place, is.3); stands = ap (λ (i : ℕ). drop i bytes) is.3 ∙ g.stands });
  above = k.above;
}

pub known_past : (bytes : List ℕ) (es : List Item) (term : List ℕ) (low high matched next m : ℕ) → DictSpells bytes es → Known bytes es term low high matched next
    → m < group_count (length es) → group_at bytes (4 * group_count (length es)) m term ≡ Ok Past → Known bytes es term low m matched next
known_past bytes es term low high matched next m d k lt step = record {
  under = k.under;
  above = λ (z : m < group_count (length es)) (e : Item) (rest : List Item) (split : drop (16 * m) es ≡ e ∷ rest).
      let g = group_law bytes es m term e rest d (omega arith) split in
      let ok : told term e.term e.entry g.next ≡ Past = ok_is _ _ (sym g.step ∙ step) in
      let is = is_past _ _ _ _ _ ok in
      record { other = is.0; after = is.1 };
}

found_split : (bytes : List ℕ) (es : List Item) (term : List ℕ) (m : ℕ) (f : Entry) (e : Item) (rest : List Item) → DictSpells bytes es → 16 * m < length es → drop (16 * m) es ≡ e ∷ rest
    → group_at bytes (4 * group_count (length es)) m term ≡ Ok (Found f) → entry_of es term ≡ Some f
found_split bytes es term m f e rest d lt split step =
    let g = group_law bytes es m term e rest d lt split in
    let ok : told term e.term e.entry g.next ≡ Found f = ok_is _ _ (sym g.step ∙ step) in
    let is = is_found _ _ _ _ _ _ ok in
    let whole : es ≡ take (16 * m) es ++ (e ∷ rest) = sym (take-append-drop (16 * m) es) ∙ ap (λ (l : List Item). take (16 * m) es ++ l) split in
    ap (λ (l : List Item). entry_of l term) whole ∙ skip (take (16 * m) es) e rest term (subst RisingTerms whole (rises es d.rising)) (inr is.0) ∙ rw (is.0) (ap Some is.1)

pub some_item : (n : ℕ) (es : List Item) → n < length es → (e : Item) × ((rest : List Item) × (drop n es ≡ e ∷ rest))
some_item zero [] h = absurd (omega arith)
some_item zero (e ∷ es) h = (e, (es, refl))
some_item (suc n) [] h = absurd (omega arith)
some_item (suc n) (e ∷ es) h = some_item n es (omega arith)

pub found_law : (bytes : List ℕ) (es : List Item) (term : List ℕ) (m : ℕ) (f : Entry) → DictSpells bytes es → m < group_count (length es)
    → group_at bytes (4 * group_count (length es)) m term ≡ Ok (Found f) → entry_of es term ≡ Some f
found_law bytes es term m f d lt step =
    let s = some_item (16 * m) es (omega arith) in
    found_split bytes es term m f s.0 s.1.0 d (omega arith) s.1.1 step

above_none : (n : ℕ) (es : List Item) (term : List ℕ) (e : Item) (rest : List Item) → RisingTerms es → drop n es ≡ e ∷ rest → Above term e → entry_of (drop n es) term ≡ None
above_none n es term e rest r split a =
    ap (λ (l : List Item). entry_of l term) split ∙ rw (a.other) (none_past e.term rest term (subst RisingTerms split (rising_drop n es r)) a.after a.other)

pub none_below : (bytes : List ℕ) (es : List Item) (term : List ℕ) (matched next : ℕ) → DictSpells bytes es → Known bytes es term 0 0 matched next → entry_of es term ≡ None
none_below bytes [] term matched next d k = refl
none_below bytes (e ∷ es) term matched next d k = above_none 0 (e ∷ es) term e es (rises (e ∷ es) d.rising) refl (k.above (omega arith) e es refl)

-- past the terms of a group that was chosen there is nothing
rest_none : (bytes : List ℕ) (es : List Item) (term : List ℕ) (low matched next : ℕ) (e : Item) (rest : List Item) (k : ℕ) → DictSpells bytes es → Known bytes es term low low matched next
    → 0 < low → low ≤ group_count (length es) → drop (16 * (low - 1)) es ≡ e ∷ rest → k ≡ min (length rest) 15 → entry_of (drop k rest) term ≡ None
rest_none bytes es term low matched next e rest k d known pos most split size =
    let len : suc (length rest) ≡ length es - 16 * (low - 1) = sym (ap length split) ∙ length-drop (16 * (low - 1)) es in
    elim (cases_lt low (group_count (length es))) [
      | inr le ↦ ap (λ (l : List Item). entry_of l term) (drop_all k rest (omega (arith, len)))
      | inl lt ↦
          let s = some_item (16 * low) es (omega arith) in
          let fifteen : 15 ≡ k = omega (arith, len) in
          let sixteen : 16 * low ≡ 16 * (low - 1) + 16 = omega arith in
          let at : drop (16 * low) es ≡ drop k rest = ap (λ (i : ℕ). drop i es) sixteen ∙ sym (drop-drop 16 (16 * (low - 1)) es) ∙ ap (drop 16) split ∙ ap (λ (i : ℕ). drop i rest) fifteen in
          ap (λ (l : List Item). entry_of l term) (sym at) ∙ above_none (16 * low) es term s.0 s.1.0 (rises es d.rising) s.1.1 (known.above lt s.0 s.1.0 s.1.1)
    ]

end_split : (bytes : List ℕ) (es : List Item) (term : List ℕ) (low matched next : ℕ) (e : Item) (rest : List Item) (k : ℕ) → DictSpells bytes es → Known bytes es term low low matched next
    → 0 < low → low ≤ group_count (length es) → drop (16 * (low - 1)) es ≡ e ∷ rest → k ≡ min (length rest) 15 → scan_at k bytes term matched next ≡ Ok (entry_of es term)
end_split bytes es term low matched next e rest k d known pos most split size =
    let u = known.under pos e rest split in
    let n : ℕ = 16 * (low - 1) in
    let whole : es ≡ take n es ++ (e ∷ rest) = sym (take-append-drop n es) ∙ ap (λ (l : List Item). take n es ++ l) split in
    let rising : Rising e.term rest = subst RisingTerms split (rising_drop n es (rises es d.rising)) in
    let fits : AllByRecursion Fits (e ∷ rest) = subst (λ (l : List Item). AllByRecursion Fits l) split (fits_drop n es d.fits) in
    let front : List Item = take k rest in
    let len : length front ≡ k = omega (arith, length-take k rest) in
    let more : List ℕ = spelled_items (n + 1 + length front) (last_of e.term front) (drop k rest) in
    let stands : drop next bytes ≡ spelled_items (n + 1) e.term front ++ more = u.stands ∙ append-nil (spelled_items (n + 1) e.term rest) ∙ ap (spelled_items (n + 1) e.term) (sym (take-append-drop k rest)) ∙ pieces_append (n + 1) e.term front (drop k rest) in
    let value : entry_of es term ≡ entry_of front term = ap (λ (l : List Item). entry_of l term) whole ∙ skip (take n es) e rest term (subst RisingTerms whole (rises es d.rising)) (inl u.before) ∙ (rw (u.other) (ap (λ (l : List Item). entry_of l term) (sym (take-append-drop k rest)) ∙ cut front (drop k rest) term (rest_none bytes es term low matched next e rest k d known pos most split size))) in
    ap (λ (i : ℕ). scan_at i bytes term matched next) (sym len) ∙ ap (λ (i : ℕ). scan_at (length front) bytes term i next) u.shares
    ∙ scan_law (n + 1) e.term front bytes term next more (λ (z : 0 < length front). omega arith) (omega (arith, len)) (rising_take k e.term rest rising) (fits_take k rest fits.1) u.before u.place stands
    ∙ ap Ok (sym value)

pub end_law : (bytes : List ℕ) (es : List Item) (term : List ℕ) (low matched next k : ℕ) → DictSpells bytes es → Known bytes es term low low matched next
    → 0 < low → low ≤ group_count (length es) → k ≡ min (length es - (16 * (low - 1) + 1)) 15 → scan_at k bytes term matched next ≡ Ok (entry_of es term)
end_law bytes es term low matched next k d known pos most size =
    let s = some_item (16 * (low - 1)) es (omega arith) in
    let len : suc (length s.1.0) ≡ length es - 16 * (low - 1) = sym (ap length s.1.1) ∙ length-drop (16 * (low - 1)) es in
    end_split bytes es term low matched next s.0 s.1.0 k d known pos most s.1.1 (omega (arith, len))

-- what a scan returned, where the scan is known
pub scan_gives : (r : Result (Option Entry) SourceFault) (read : Result (Option Entry) SourceFault) (x : Option Entry) → read ≡ Ok x → Gives r read → MatchResult r (λ y. y ≡ x) (λ e. e ≡ faults.Disk)
scan_gives (Ok y) read x e h = (let k : Ok y ≡ Ok x = sym h ∙ e in cc)
scan_gives (Err faults.Damaged) read x e h = (let k : Err faults.Damaged ≡ Ok x = sym h ∙ e in absurd cc)
scan_gives (Err faults.Disk) read x e h = refl
