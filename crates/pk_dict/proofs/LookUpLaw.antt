-- What a look-up answers where the bytes spell a dictionary.
use Rattle.std.proofs.Common.{arith, refl, sym, ap, subst, ◌∙◌, ◌≡◌, ◌≤◌, ◌<◌, ◌+◌, ◌-◌, ◌*◌, ℕ, zero, suc, List, length, Ok, Result, min, inl, inr}
use Rattle.std.proofs.lemmas.Bool.{cases_eq, cases_lt, eq-eqb, ne_eqb}
use Rattle.pk_posting.specs.declared.source.SourceFault.{SourceFault}
use Rattle.pk_dict.specs.declared.head.Standing.{Standing}
use Rattle.pk_dict.specs.declared.head.Standing.TheVariants.{First, After}
use Rattle.pk_dict.specs.declared.head.Step.{Step}
use Rattle.pk_dict.specs.declared.head.Step.TheVariants.{Less, Found, Past}
use Rattle.pk_dict.specs.Dictionary.{Item, DictSpells, entry_of, group_count}
use Rattle.pk_dict.specs.LookUp.{narrow_at, standing_at, scanned, look_up_at}
use Rattle.pk_dict.specs.Reading.{group_at}
use Rattle.pk_dict.specs.Search.{Known, IsStanding}
use Rattle.pk_dict.proofs.Bounds.{group_law}
use Rattle.pk_dict.proofs.Ends.{known_first, known_less, known_past, some_item, found_law, none_below, end_law}
use Rattle.pk_dict.proofs.Narrowing.{middle_of, narrow_by, narrow_done}
use Rattle.pk_dict.proofs.Terms.{told}

-- what a search ends with
pub record Stood (bytes : List ℕ) (es : List Item) (term : List ℕ) (read : Result Standing SourceFault) : Type 0 where
  pub standing : Standing
  pub is : read ≡ Ok standing
  pub stands : IsStanding bytes es term standing

-- a search among the groups from low to high that is known to end well
abbrev pub Ends : ℕ → List ℕ → List Item → List ℕ → Type 0
Ends n bytes es term =
    (low high matched next : ℕ) → Known bytes es term low high matched next → low ≤ high → high ≤ group_count (length es) → high - low ≤ n → Stood bytes es term (narrow_at n bytes (4 * group_count (length es)) term low high matched next)

stood_done : (n : ℕ) (bytes : List ℕ) (es : List Item) (term : List ℕ) (low high matched next : ℕ) → Known bytes es term low high matched next → low ≤ high → high ≤ group_count (length es) → high ≤ low
    → Stood bytes es term (narrow_at n bytes (4 * group_count (length es)) term low high matched next)
stood_done n bytes es term low high matched next k order most h =
    let same : high ≡ low = omega arith in
    record { standing = After low matched next; is = narrow_done n bytes _ term low high matched next h; stands = (omega arith, subst (λ (i : ℕ). Known bytes es term low i matched next) same k) }

stood_on : (n : ℕ) (bytes : List ℕ) (es : List Item) (term : List ℕ) (low high matched next : ℕ) (s : Step) → DictSpells bytes es → Ends n bytes es term → Known bytes es term low high matched next → low < high → high ≤ group_count (length es) → high - low ≤ suc n
    → group_at bytes (4 * group_count (length es)) (middle_of low high) term ≡ Ok s → Stood bytes es term (narrow_at (suc n) bytes (4 * group_count (length es)) term low high matched next)
stood_on n bytes es term low high matched next (Less now after) d ends k lt most few step =
    let m : ℕ = middle_of low high in
    let r = ends (m + 1) high now after (known_less bytes es term low high matched next m now after d k (omega arith) step) (omega arith) most (omega arith) in
    record { standing = r.standing; is = narrow_by n bytes _ term low high matched next (Ok (Less now after)) lt step ∙ r.is; stands = r.stands }
stood_on n bytes es term low high matched next (Found entry) d ends k lt most few step =
    let m : ℕ = middle_of low high in
    record { standing = First m entry; is = narrow_by n bytes _ term low high matched next (Ok (Found entry)) lt step; stands = (omega arith, step) }
stood_on n bytes es term low high matched next Past d ends k lt most few step =
    let m : ℕ = middle_of low high in
    let r = ends low m matched next (known_past bytes es term low high matched next m d k (omega arith) step) (omega arith) (omega arith) (omega arith) in
    record { standing = r.standing; is = narrow_by n bytes _ term low high matched next (Ok Past) lt step ∙ r.is; stands = r.stands }

pub narrow_law : (n : ℕ) (bytes : List ℕ) (es : List Item) (term : List ℕ) → DictSpells bytes es → Ends n bytes es term
narrow_law zero bytes es term d low high matched next k order most few = stood_done zero bytes es term low high matched next k order most (omega arith)
narrow_law (suc n) bytes es term d low high matched next k order most few =
    elim (cases_lt low high) [
      | inr h ↦ stood_done (suc n) bytes es term low high matched next k order most h
      | inl lt ↦
          let m : ℕ = middle_of low high in
          let some : 16 * m < length es = omega arith in
          let s = some_item (16 * m) es some in
          let g = group_law bytes es m term s.0 s.1.0 d some s.1.1 in
          stood_on n bytes es term low high matched next (told term s.0.term s.0.entry g.next) d (narrow_law n bytes es term d) k lt most few g.step
    ]

-- where a term stands among the groups of a dictionary
pub standing_law : (bytes : List ℕ) (es : List Item) (term : List ℕ) → DictSpells bytes es → Stood bytes es term (standing_at bytes (length es) term)
standing_law bytes es term d =
    let n : ℕ = group_count (length es) in
    narrow_law n bytes es term d 0 n 0 0 (known_first bytes es term n 0 0 refl) (omega arith) (omega arith) (omega arith)

pub scanned_law : (bytes : List ℕ) (es : List Item) (term : List ℕ) (s : Standing) → DictSpells bytes es → IsStanding bytes es term s → scanned bytes (length es) term s ≡ Ok (entry_of es term)
scanned_law bytes es term (First group entry) d st = ap Ok (sym (found_law bytes es term group entry d st.0 st.1))
scanned_law bytes es term (After groups matched next) d st =
    elim (cases_eq groups 0) [
      | inl z ↦ rw (eq-eqb groups 0 z) (ap Ok (sym (none_below bytes es term matched next d (subst (λ (k : ℕ). Known bytes es term k k matched next) z st.1))))
      | inr n ↦ rw (ne_eqb groups 0 n) (end_law bytes es term groups matched next (min (length es - (16 * (groups - 1) + 1)) 15) d st.1 (omega (arith, n)) st.0 refl)
    ]

-- a look-up in a dictionary answers its entry
pub look_up_law : (bytes : List ℕ) (es : List Item) (terms : ℕ) (term : List ℕ) → DictSpells bytes es → length es ≡ terms → look_up_at bytes terms term ≡ Ok (entry_of es term)
unfolding look_up_at
look_up_law bytes es terms term d len =
    let s = standing_law bytes es term d in
    ap (λ (n : ℕ). look_up_at bytes n term) (sym len) ∙ (rw s.is (scanned_law bytes es term s.standing d s.stands))
