-- Terms read whole, and which of them begin with a prefix.
use Rattle.std.proofs.Common.{arith, refl, sym, ap, subst, ◌∙◌, ◌≡◌, ◌≤◌, ◌<◌, ◌+◌, ◌-◌, ◌*◌, ◌%◌, ◌++◌, ◌∷◌, [], ℕ, List, length, take, drop, Ok, Err, Result, append_assoc, append-nil, Bool, true, false, cond, eqb, inl, inr}
use Rattle.std.specs.Prelude.{nat_eq}
use Rattle.std.specs.List.{AllByRecursion, starts_with}
use Rattle.std.proofs.lemmas.Bool.{cases_eq, eq-eqb, ne_eqb, lt-ltb, le-ltb}
use Rattle.std.proofs.lemmas.List.{take_at, take_all, drop-drop, take-append-drop, length-append, length-drop}
use Rattle.std.proofs.lemmas.List.Elements.{filter-append}
use Rattle.std.proofs.Math.Seq.{take-add}
use Rattle.pk_posting.specs.declared.source.SourceFault.{SourceFault}
use Rattle.pk_posting.specs.declared.source.SourceFault.TheVariants as faults
use Rattle.pk_vbyte.specs.VariableByte.{vbyte}
use Rattle.pk_dict.specs.declared.entry.Entry.{Entry}
use Rattle.pk_dict.specs.Dictionary.{Item, Fits, DictSpells, numbers, rest_of, shared, spelled_item, spelled_items, items_with_prefix}
use Rattle.pk_dict.specs.Lists.{last_of}
use Rattle.pk_dict.specs.Order.{less, Rising, RisingTerms}
use Rattle.pk_dict.specs.Reading.{number_at, offset_at}
use Rattle.pk_dict.specs.Entries.{start_at, term_at, item_kept, IsStart}
use Rattle.pk_dict.proofs.Adding.{last_push}
use Rattle.pk_dict.proofs.Bounds.{piece_first}
use Rattle.pk_dict.proofs.Ends.{some_item, rising_drop, fits_drop}
use Rattle.pk_dict.proofs.Numbers.{moved, number_law}
use Rattle.pk_dict.proofs.Prefixes.{none_beyond}
use Rattle.pk_dict.proofs.Rising.{rises}
use Rattle.pk_dict.proofs.Same.{take_shared}
use Rattle.pk_dict.proofs.Shared.{shared_most}
use Rattle.pk_dict.proofs.Terms.{Parsed, parsed, head_law, piece_not}

pub start_is : (bytes : List ℕ) (base g o at : ℕ) → offset_at bytes (4 * g) ≡ Ok o → at ≡ base + o → at ≤ length bytes → start_at bytes base g ≡ Ok at
unfolding start_at
start_is bytes base g o at e s h = rw e (rw (le-ltb (length bytes) (base + o) (omega arith)) (ap Ok (sym s)))

pub start_past : (bytes : List ℕ) (base g o : ℕ) → offset_at bytes (4 * g) ≡ Ok o → length bytes < base + o → start_at bytes base g ≡ Err faults.Damaged
unfolding start_at
start_past bytes base g o e h = rw e (rw (lt-ltb (length bytes) (base + o) h) refl)

abbrev kept_at : List ℕ → Bool → ℕ → Result (ℕ × ℕ) SourceFault
kept_at bytes first at = cond first (Ok (0, at)) (number_at bytes at)

-- a term whose kept bytes are known
read_term : (bytes : List ℕ) (first : Bool) (before b : List ℕ) (e : Item) (more : List ℕ) (at start : ℕ) → kept_at bytes first at ≡ Ok (shared b e.term, start)
    → shared b e.term ≤ length before → take (shared b e.term) before ≡ take (shared b e.term) e.term → Parsed bytes start b e more
    → term_at bytes first before at ≡ Ok (e.term, e.entry, start + length (rest_of b e))
unfolding term_at
read_term bytes first before b e more at start k few same p =
    let s : ℕ = shared b e.term in
    let n : ℕ = length e.term - s in
    let tail : take n (drop p.start bytes) ≡ drop s e.term = ap (take n) p.stands ∙ take_at (drop s e.term) (numbers e.entry ++ more) n (length-drop s e.term) in
    let whole : take s before ++ take n (drop p.start bytes) ≡ e.term = ap (λ (l : List ℕ). l ++ take n (drop p.start bytes)) same ∙ ap (λ (l : List ℕ). take s e.term ++ l) tail ∙ take-append-drop s e.term in
    rw k (rw (head_law bytes start b e more p) (rw (le-ltb (length before) s few) (ap (λ (l : List ℕ). Ok (l, e.entry, start + length (rest_of b e))) whole)))

first_term : (bytes : List ℕ) (i at : ℕ) (b before : List ℕ) (e : Item) (more : List ℕ) → Fits e → i % 16 ≡ 0 → at ≤ length bytes → drop at bytes ≡ spelled_item i b e ++ more
    → term_at bytes (eqb (i % 16) 0) before at ≡ Ok (e.term, e.entry, at + length (spelled_item i b e))
first_term bytes i at b before e more fits z h d =
    let stands : drop at bytes ≡ rest_of [] e ++ more = d ∙ ap (λ (l : List ℕ). l ++ more) (piece_first i b e z) in
    read_term bytes (eqb (i % 16) 0) before [] e more at at (rw (eq-eqb (i % 16) 0 z) refl) (omega arith) refl (parsed bytes at [] e more fits h stands)
    ∙ ap (λ (l : List ℕ). Ok (e.term, e.entry, at + length l)) (sym (piece_first i b e z))

other_term : (bytes : List ℕ) (i at : ℕ) (b before : List ℕ) (e : Item) (more : List ℕ) → Fits e → 0 < i % 16 → before ≡ b → at ≤ length bytes → drop at bytes ≡ spelled_item i b e ++ more
    → term_at bytes (eqb (i % 16) 0) before at ≡ Ok (e.term, e.entry, at + length (spelled_item i b e))
other_term bytes i at b before e more fits z same h d =
    let s : ℕ = shared b e.term in
    let most = shared_most b e.term in
    let start : ℕ = at + length (vbyte s) in
    let parts : spelled_item i b e ≡ vbyte s ++ rest_of b e = piece_not i b e z in
    let d0 : drop at bytes ≡ vbyte s ++ (rest_of b e ++ more) = d ∙ ap (λ (l : List ℕ). l ++ more) parts ∙ append_assoc (vbyte s) (rest_of b e) more in
    let d1 = moved bytes at (vbyte s) (rest_of b e ++ more) d0 in
    let lens = ap (λ (l : List ℕ). length l) d0 in
    let inside : start ≤ length bytes = omega (arith, lens, length-drop at bytes, length-append (vbyte s) (rest_of b e ++ more)) in
    let size : length (spelled_item i b e) ≡ length (vbyte s) + length (rest_of b e) = ap (λ (l : List ℕ). length l) parts ∙ length-append (vbyte s) (rest_of b e) in
    read_term bytes (eqb (i % 16) 0) before b e more at start
    (rw (ne_eqb (i % 16) 0 (λ (q : i % 16 ≡ 0). omega arith)) (number_law bytes at s _ (omega (arith, most.1, fits.term)) d0))
    (omega (arith, most.0, ap (λ (l : List ℕ). length l) same)) (ap (take s) same ∙ sym (take_shared b e.term)) (parsed bytes start b e more fits inside d1)
    ∙ ap (λ (k : ℕ). Ok (e.term, e.entry, k)) (omega (arith, size))

-- a term at a place, the bytes before it being known where they are kept
term_law : (bytes : List ℕ) (i at : ℕ) (b before : List ℕ) (e : Item) (more : List ℕ) → Fits e → (0 < i % 16 → before ≡ b) → at ≤ length bytes → drop at bytes ≡ spelled_item i b e ++ more
    → term_at bytes (eqb (i % 16) 0) before at ≡ Ok (e.term, e.entry, at + length (spelled_item i b e))
term_law bytes i at b before e more fits same h d =
    elim (cases_eq (i % 16) 0) [
      | inl z ↦ first_term bytes i at b before e more fits z h d
      | inr n ↦ (let z : 0 < i % 16 = omega (arith, n) in other_term bytes i at b before e more fits z (same z) h d)
    ]

-- the first i items are read, and those of them that begin with the prefix were found
pub record Collecting (bytes : List ℕ) (es : List Item) (prefix : List ℕ) (i at : ℕ) (before : List ℕ) (found : List Item) : Type 0 where
  pub within : i ≤ length es
  pub place : at ≤ length bytes
  pub stands : drop at bytes ≡ spelled_items i (last_of [] (take i es)) (drop i es)
  pub last : 0 < i % 16 → before ≡ last_of [] (take i es)
  pub is : found ≡ items_with_prefix prefix (take i es)

pub collecting_first : (bytes : List ℕ) (es : List Item) (prefix : List ℕ) (g at : ℕ) (before : List ℕ) → IsStart bytes es prefix g at → Collecting bytes es prefix (16 * g) at before []
collecting_first bytes es prefix g at before s = record {
  within = omega (arith, s.some);
  place = s.place;
  stands = s.stands;
  last = λ (z : 0 < 16 * g % 16). absurd (omega arith);
  is = sym s.none;
}

abbrev made : List ℕ × Entry × ℕ → Result (List ℕ × Entry × ℕ) SourceFault
made x = Ok x

same_made : (x y : List ℕ × Entry × ℕ) → made x ≡ made y → x ≡ y
same_made x y e = cc

-- what the next item adds
pub record Next (bytes : List ℕ) (es : List Item) (i at : ℕ) (before : List ℕ) (e : Item) (rest : List Item) : Type 0 where
  pub read : term_at bytes (eqb (i % 16) 0) before at ≡ Ok (e.term, e.entry, at + length (spelled_item i (last_of [] (take i es)) e))
  pub place : at + length (spelled_item i (last_of [] (take i es)) e) ≤ length bytes
  pub stands : drop (at + length (spelled_item i (last_of [] (take i es)) e)) bytes ≡ spelled_items (i + 1) e.term rest
  pub front : take (i + 1) es ≡ take i es ++ e ∷ []
  pub back : drop (i + 1) es ≡ rest

pub next_is : (bytes : List ℕ) (es : List Item) (prefix : List ℕ) (i at : ℕ) (before : List ℕ) (found : List Item) (e : Item) (rest : List Item) → DictSpells bytes es → Collecting bytes es prefix i at before found → drop i es ≡ e ∷ rest → Next bytes es i at before e rest
next_is bytes es prefix i at before found e rest d c split =
    let b : List ℕ = last_of [] (take i es) in
    let x : List ℕ = spelled_item i b e in
    let more : List ℕ = spelled_items (i + 1) e.term rest in
    let fits = subst (λ (l : List Item). AllByRecursion Fits l) split (fits_drop i es d.fits) in
    let stands : drop at bytes ≡ x ++ more = c.stands ∙ ap (spelled_items i b) split in
    record {
      read = term_law bytes i at b before e more fits.0 c.last c.place stands;
      place = omega (arith, ap (λ (l : List ℕ). length l) stands, length-drop at bytes, length-append x more, c.place);
      stands = moved bytes at x more stands;
      front = take-add i 1 es ∙ ap (λ (l : List Item). take i es ++ take 1 l) split;
      back = sym (drop-drop 1 i es) ∙ ap (drop 1) split;
    }

item_found : (prefix : List ℕ) (xs : List Item) (e : Item) → items_with_prefix prefix (xs ++ e ∷ []) ≡ items_with_prefix prefix xs ++ item_kept prefix e.term e.entry
item_found prefix xs e = filter-append (λ (f : Item). starts_with nat_eq f.term prefix) xs (e ∷ [])

next_step : (bytes : List ℕ) (es : List Item) (prefix : List ℕ) (i at : ℕ) (before : List ℕ) (found : List Item) (t : List ℕ) (entry : Entry) (next : ℕ) (later : List Item) (e : Item) (rest : List Item)
    → Collecting bytes es prefix i at before found → i < length es → Next bytes es i at before e rest → (e.term ≡ t) × (e.entry ≡ entry) × (at + length (spelled_item i (last_of [] (take i es)) e) ≡ next)
    → later ≡ found ++ item_kept prefix t entry → Collecting bytes es prefix (i + 1) next t later
next_step bytes es prefix i at before found t entry next later e rest c lt n same add =
    let last : last_of [] (take (i + 1) es) ≡ t = ap (last_of []) n.front ∙ last_push [] (take i es) e ∙ same.0 in
    record {
      within = omega arith;
      place = omega (arith, n.place, same.2);
      stands = ap (λ (k : ℕ). drop k bytes) (sym same.2) ∙ n.stands ∙ ap (λ (l : List ℕ). spelled_items (i + 1) l rest) (same.0 ∙ sym last) ∙ ap (spelled_items (i + 1) (last_of [] (take (i + 1) es))) (sym n.back);
      last = λ (_ : 0 < (i + 1) % 16). sym last;
      is = add ∙ ap (λ (l : List Item). l ++ item_kept prefix t entry) c.is
          ∙ ap (λ (l : List ℕ). items_with_prefix prefix (take i es) ++ item_kept prefix l entry) (sym same.0) ∙ ap (λ (x : Entry). items_with_prefix prefix (take i es) ++ item_kept prefix e.term x) (sym same.1)
          ∙ sym (ap (items_with_prefix prefix) n.front ∙ item_found prefix (take i es) e);
    }

pub collecting_next : (bytes : List ℕ) (es : List Item) (prefix : List ℕ) (i at : ℕ) (before : List ℕ) (found : List Item) (t : List ℕ) (entry : Entry) (next : ℕ) (later : List Item)
    → DictSpells bytes es → Collecting bytes es prefix i at before found → i < length es → term_at bytes (eqb (i % 16) 0) before at ≡ Ok (t, entry, next) → later ≡ found ++ item_kept prefix t entry
    → Collecting bytes es prefix (i + 1) next t later
collecting_next bytes es prefix i at before found t entry next later d c lt read add =
    let s = some_item i es lt in
    let n = next_is bytes es prefix i at before found s.0 s.1.0 d c s.1.1 in
    let same = same_made _ _ (sym n.read ∙ read) in
    next_step bytes es prefix i at before found t entry next later s.0 s.1.0 c lt n
    (ap (λ (x : List ℕ × Entry × ℕ). x.0) same, ap (λ (x : List ℕ × Entry × ℕ). x.1) same, ap (λ (x : List ℕ × Entry × ℕ). x.2) same) add

-- all were read
pub collecting_all : (bytes : List ℕ) (es : List Item) (prefix : List ℕ) (i at : ℕ) (before : List ℕ) (found : List Item) → Collecting bytes es prefix i at before found → length es ≤ i → found ≡ items_with_prefix prefix es
collecting_all bytes es prefix i at before found c h = c.is ∙ ap (items_with_prefix prefix) (take_all i es h)

-- a term is past the last that begins with the prefix
pub collecting_past : (bytes : List ℕ) (es : List Item) (prefix : List ℕ) (i at : ℕ) (before : List ℕ) (found : List Item) (t : List ℕ) (entry : Entry) (next : ℕ) (later : List Item)
    → DictSpells bytes es → Collecting bytes es prefix i at before found → i < length es → term_at bytes (eqb (i % 16) 0) before at ≡ Ok (t, entry, next) → later ≡ found ++ item_kept prefix t entry
    → less prefix t ≡ true → starts_with nat_eq t prefix ≡ false → later ≡ items_with_prefix prefix es
collecting_past bytes es prefix i at before found t entry next later d c lt read add past not =
    let s = some_item i es lt in
    let e : Item = s.0 in
    let rest : List Item = s.1.0 in
    let n = next_is bytes es prefix i at before found e rest d c s.1.1 in
    let same = same_made _ _ (sym n.read ∙ read) in
    let term : e.term ≡ t = ap (λ (x : List ℕ × Entry × ℕ). x.0) same in
    let after : Collecting bytes es prefix (i + 1) next t later = collecting_next bytes es prefix i at before found t entry next later d c lt read add in
    let rising : Rising e.term rest = subst RisingTerms s.1.1 (rising_drop i es (rises es d.rising)) in
    let none : items_with_prefix prefix (drop (i + 1) es) ≡ [] = ap (items_with_prefix prefix) n.back ∙ none_beyond prefix t rest past not (subst (λ (l : List ℕ). Rising l rest) term rising) in
    after.is ∙ sym (append-nil (items_with_prefix prefix (take (i + 1) es))) ∙ ap (λ (l : List Item). items_with_prefix prefix (take (i + 1) es) ++ l) (sym none)
    ∙ sym (filter-append (λ (f : Item). starts_with nat_eq f.term prefix) (take (i + 1) es) (drop (i + 1) es)) ∙ ap (items_with_prefix prefix) (take-append-drop (i + 1) es)
