-- Where the terms that begin with a prefix may start.
use Rattle.std.proofs.Common.{arith, refl, sym, ap, subst, ◌∙◌, ◌≡◌, ◌≤◌, ◌<◌, ◌+◌, ◌-◌, ◌*◌, ◌++◌, ◌∷◌, [], ℕ, List, length, take, drop, Ok, Result, append_assoc, inl, inr}
use Rattle.std.specs.Int.{w32, to_le_bytes}
use Rattle.std.proofs.lemmas.Bool.{cases_eq}
use Rattle.std.proofs.lemmas.List.{drop_at, take-append-drop, length-append, length-take}
use Rattle.pk_posting.specs.declared.source.SourceFault.{SourceFault}
use Rattle.pk_dict.specs.declared.entry.Entry.{Entry}
use Rattle.pk_dict.specs.declared.head.Step.TheVariants.{Found}
use Rattle.pk_dict.specs.Dictionary.{Item, DictSpells, spelled_items, groups, offsets, group_count, spelling, items_with_prefix}
use Rattle.pk_dict.specs.Lists.{last_of}
use Rattle.pk_dict.specs.Order.{RisingTerms}
use Rattle.pk_dict.specs.Reading.{group_at, offset_at}
use Rattle.pk_dict.specs.Search.{Known}
use Rattle.pk_dict.specs.Entries.{start_at}
use Rattle.pk_dict.proofs.Bounds.{pieces_append, offsets_size, offset_there, offset_is, group_law}
use Rattle.pk_dict.proofs.Collecting.{start_is}
use Rattle.pk_dict.proofs.Ends.{AtMost, is_found, ok_is, some_item}
use Rattle.pk_dict.proofs.Prefixes.{none_before}
use Rattle.pk_dict.proofs.Rising.{rises}
use Rattle.pk_dict.proofs.Terms.{told}

-- where a group starts, and what stands there
pub record Start (bytes : List ℕ) (es : List Item) (g : ℕ) : Type 0 where
  pub at : ℕ
  pub is : start_at bytes (4 * group_count (length es)) g ≡ Ok at
  pub place : at ≤ length bytes
  pub stands : drop at bytes ≡ spelled_items (16 * g) (last_of [] (take (16 * g) es)) (drop (16 * g) es)

pub start_law : (bytes : List ℕ) (es : List Item) (g : ℕ) → DictSpells bytes es → 16 * g < length es → Start bytes es g
unfolding spelling groups
start_law bytes es g d lt =
    let G : ℕ = group_count (length es) in
    let inside : g < G = omega arith in
    let before : List Item = take (16 * g) es in
    let after : List Item = drop (16 * g) es in
    let size : length before ≡ 16 * g = omega (arith, length-take (16 * g) es) in
    let o : ℕ = length (groups before) in
    let b : List ℕ = last_of [] before in
    let tail : List ℕ = spelled_items (16 * g) b after in
    let parts : groups es ≡ groups before ++ tail =
    ap (spelled_items 0 []) (sym (take-append-drop (16 * g) es)) ∙ pieces_append 0 [] before after
    ∙ ap (λ (k : ℕ). groups before ++ spelled_items k b after) (omega (arith, size)) in
    let base : ℕ = 4 * G in
    let all : bytes ≡ (offsets es G ++ groups before) ++ tail = d.same ∙ ap (λ (l : List ℕ). offsets es G ++ l) parts ∙ sym (append_assoc (offsets es G) (groups before) tail) in
    let front : length (offsets es G ++ groups before) ≡ base + o = omega (arith, length-append (offsets es G) (groups before), offsets_size es G) in
    let total = ap (λ (l : List ℕ). length l) all ∙ length-append (offsets es G ++ groups before) tail in
    let there : take 4 (drop (4 * g) bytes) ≡ to_le_bytes w32 o = ap (λ (l : List ℕ). take 4 (drop (4 * g) l)) d.same ∙ offset_there es G g (groups es) inside in
    let oi : offset_at bytes (4 * g) ≡ Ok o = offset_is bytes (4 * g) o (omega (arith, total, front, d.size)) (omega (arith, total, front)) there in
    record {
      at = base + o;
      is = start_is bytes base g o (base + o) oi refl (omega (arith, total, front));
      place = omega (arith, total, front);
      stands = ap (drop (base + o)) all ∙ drop_at (offsets es G ++ groups before) tail (base + o) front;
    }

-- a group that is there, and no item before it begins with the prefix
pub record Chosen (es : List Item) (prefix : List ℕ) (g : ℕ) : Type 0 where
  pub some : 16 * g < length es
  pub none : items_with_prefix prefix (take (16 * g) es) ≡ []

chosen_by : (es : List Item) (prefix : List ℕ) (n : ℕ) (e : Item) (rest : List Item) → RisingTerms es → drop n es ≡ e ∷ rest → AtMost e.term prefix → items_with_prefix prefix (take n es) ≡ []
chosen_by es prefix n e rest r split a =
    let whole : es ≡ take n es ++ (e ∷ rest) = sym (take-append-drop n es) ∙ ap (λ (l : List Item). take n es ++ l) split in
    none_before (take n es) e rest prefix (subst RisingTerms whole r) a

pub first_chosen : (bytes : List ℕ) (es : List Item) (prefix : List ℕ) (g : ℕ) (f : Entry) → DictSpells bytes es → g < group_count (length es)
    → group_at bytes (4 * group_count (length es)) g prefix ≡ Ok (Found f) → Chosen es prefix g
first_chosen bytes es prefix g f d lt step =
    let some : 16 * g < length es = omega arith in
    let s = some_item (16 * g) es some in
    let l = group_law bytes es g prefix s.0 s.1.0 d some s.1.1 in
    let ok : told prefix s.0.term s.0.entry l.next ≡ Found f = ok_is _ _ (sym l.step ∙ step) in
    record { some = some; none = chosen_by es prefix (16 * g) s.0 s.1.0 (rises es d.rising) s.1.1 (inr ((is_found _ _ _ _ _ _ ok).0)) }

pub after_chosen : (bytes : List ℕ) (es : List Item) (prefix : List ℕ) (low matched next : ℕ) → DictSpells bytes es → 0 < length es → low ≤ group_count (length es) → Known bytes es prefix low low matched next → Chosen es prefix (low - 1)
after_chosen bytes es prefix low matched next d pos most known =
    let some : 16 * (low - 1) < length es = omega arith in
    elim (cases_eq low 0) [
      | inl z ↦ (let none : 16 * (low - 1) ≡ 0 = omega arith in record { some = some; none = ap (λ (k : ℕ). items_with_prefix prefix (take k es)) none })
      | inr n ↦
          let s = some_item (16 * (low - 1)) es some in
          let u = known.under (omega (arith, n)) s.0 s.1.0 s.1.1 in
          record { some = some; none = chosen_by es prefix (16 * (low - 1)) s.0 s.1.0 (rises es d.rising) s.1.1 (inl u.before) }
    ]

abbrev placed : ℕ → Result ℕ SourceFault
placed n = Ok n

pub same_place : (n m : ℕ) → placed n ≡ placed m → n ≡ m
same_place n m e = cc
