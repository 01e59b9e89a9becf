-- The words of a query that come more than once.
use Rattle.std.proofs.Common.{◌≡◌, ◌∙◌, ◌+◌, ◌<◌, ℕ, zero, suc, Bool, true, false, cond, List, [], ◌∷◌, ◌++◌, Option, Some, None, ap, arith, get_or, length, refl, sym, subst, inl, inr}
use Rattle.std.proofs.lemmas.Bool.{cases_lt}
use Rattle.std.proofs.lemmas.List.{length-append}
use Rattle.std.proofs.lemmas.Map.Text.{hash_map_updates_str}
use Rattle.std.proofs.lemmas.Slice.Eq.{bytes_eq-Decides}
use Rattle.std.specs.Borrow.{Bor}
use Rattle.std.specs.HashMap.{HashMap, UpdatesBy, get_by}
use Rattle.std.specs.Str.{bytes_eq}
use Rattle.pk_filter.specs.declared.hash.WordHash.{WordHash}
use Rattle.pk_filter.specs.Hashed.{hashed}
use Rattle.pk_plan.specs.Words.{texts}
use Rattle.pk_lookup.proofs.EntryLemmas.{push_before, push_last}
use Rattle.pk_lookup.specs.Repeats.{IsFirst, IsKnown, IsNew, KnownAs}

-- the text of the word at a place
pub text_or : (words : List (Bor (List ℕ))) (i : ℕ) (d : Bor (List ℕ)) → d.now ≡ [] → (get_or words i d).now ≡ get_or (texts words) i []
text_or [] i d e = e
text_or (x ∷ words) zero d e = refl
text_or (x ∷ words) (suc i) d e = text_or words i d e

pub texts_long : (words : List (Bor (List ℕ))) → length (texts words) ≡ length words
texts_long [] = refl
texts_long (w ∷ words) = ap suc (texts_long words)

-- WHAT IS KNOWN
pub new_more : (words : List (List ℕ)) (place : ℕ) (word : List ℕ) → IsNew words place word → (get_or words place [] ≡ word → ⊥) → IsNew words (place + 1) word
new_more words place word new other i lt same = elim (cases_lt i place) [
  | inl l ↦ new i l same
  | inr g ↦ other (ap (λ j. get_or words j []) (let e : place ≡ i = omega arith in e) ∙ same)
]

-- one place more, where the word there is not this one or is known
known_more : (words : List (List ℕ)) (place : ℕ) (word : List ℕ) (o : Option ℕ) → KnownAs words place word o → (o ≡ None → get_or words place [] ≡ word → ⊥) → KnownAs words (place + 1) word o
known_more words place word None known other = new_more words place word known (other refl)
known_more words place word (Some first) known other = (omega (arith, known.0), known.1, known.2)

-- the word is known already
pub known_still : {S : Type 0} (words : List (List ℕ)) (place : ℕ) (known : HashMap (Bor (List ℕ)) ℕ S) (word : List ℕ) (first : ℕ) → IsKnown words place known → word ≡ get_or words place []
    → get_by (λ k. bytes_eq word k.now) known ≡ Some first → IsKnown words (place + 1) known
known_still words place known word first are is has other =
    known_more words place other (get_by (λ k. bytes_eq other k.now) known) (are other)
    (λ none same. (let e : get_by (λ k. bytes_eq word k.now) known ≡ None = subst (λ (w : List ℕ). get_by (λ k. bytes_eq w k.now) known ≡ None) (sym (is ∙ same)) none in absurd (let x : Some first ≡ None = sym has ∙ e in cc)))

pub first_known : {S : Type 0} (words : List (List ℕ)) (place : ℕ) (known : HashMap (Bor (List ℕ)) ℕ S) (word : List ℕ) (first : ℕ) → IsKnown words place known → word ≡ get_or words place []
    → get_by (λ k. bytes_eq word k.now) known ≡ Some first → IsFirst words place first
first_known words place known word first are is has =
    let it : KnownAs words place word (Some first) = subst (KnownAs words place word) has (are word) in
    record { within = omega (arith, it.0); same = it.1 ∙ is; new = subst (IsNew words first) is it.2 }

-- it comes here first
pub first_here : {S : Type 0} (words : List (List ℕ)) (place : ℕ) (known : HashMap (Bor (List ℕ)) ℕ S) (word : List ℕ) → IsKnown words place known → word ≡ get_or words place []
    → get_by (λ k. bytes_eq word k.now) known ≡ None → IsFirst words place place
first_here words place known word are is has =
    let it : KnownAs words place word None = subst (KnownAs words place word) has (are word) in
    record { within = omega arith; same = refl; new = subst (IsNew words place) is it }

put_there : (words : List (List ℕ)) (place : ℕ) (word other : List ℕ) (b : Bool) (o : Option ℕ) → word ≡ get_or words place [] → IsNew words place word → bytes_eq word other ≡ b → KnownAs words place other o
    → KnownAs words (place + 1) other (cond b (Some place) o)
put_there words place word other true o is new same known =
    let e : word ≡ other = (bytes_eq-Decides word other).0 same in
    (omega arith, sym is ∙ e, subst (IsNew words place) e new)
put_there words place word other false o is new same known =
    known_more words place other o known (λ none at. absurd (let x : true ≡ false = sym ((bytes_eq-Decides word other).1 (is ∙ at)) ∙ same in cc))

pub known_now : {S : Type 0} (words : List (List ℕ)) (place : ℕ) (known now : HashMap (Bor (List ℕ)) ℕ S) (word : List ℕ) → IsKnown words place known → word ≡ get_or words place []
    → get_by (λ k. bytes_eq word k.now) known ≡ None → UpdatesBy (λ x y. bytes_eq x.now y.now) (λ k. bytes_eq word k.now) known now (Some place) → IsKnown words (place + 1) now
known_now words place known now word are is has updates other =
    subst (KnownAs words (place + 1) other) (sym (hash_map_updates_str word known now (Some place) updates other))
    (put_there words place word other (bytes_eq word other) (get_by (λ k. bytes_eq other k.now) known) is (subst (KnownAs words place word) has (are word)) refl (are other))

-- THE HASHES
pub hashes_more : (words : List (List ℕ)) (hashes now : List WordHash) (n : ℕ) (hash : WordHash) → length hashes ≡ n → now ≡ hashes ++ hash ∷ []
    → ((j : ℕ) (d : WordHash) → j < n → get_or hashes j d ≡ hashed (get_or words j [])) → hash ≡ hashed (get_or words n []) → (j : ℕ) (d : WordHash) → j < n + 1 → get_or now j d ≡ hashed (get_or words j [])
hashes_more words hashes now n hash long put each one j d lt = elim (cases_lt j n) [
  | inl l ↦ ap (λ (hs : List WordHash). get_or hs j d) put ∙ push_before hashes hash j d (omega (arith, l, long)) ∙ each j d l
  | inr g ↦ (
      let e : n ≡ j = omega arith in
      ap (λ (hs : List WordHash). get_or hs j d) put ∙ push_last hashes hash j d (let more : length (hashes ++ hash ∷ []) ≡ length hashes + 1 = length-append hashes (hash ∷ []) in omega (arith, lt, long, more)) (omega (arith, g, long))
      ∙ one ∙ ap (λ (k : ℕ). hashed (get_or words k [])) e)
]

-- THE PLACES
pub firsts_more : (words : List (List ℕ)) (firsts now : List ℕ) (n first : ℕ) → length firsts ≡ n → now ≡ firsts ++ first ∷ []
    → ((j : ℕ) → j < n → IsFirst words j (get_or firsts j 0)) → IsFirst words n first → (j : ℕ) → j < n + 1 → IsFirst words j (get_or now j 0)
firsts_more words firsts now n first long put each one j lt = elim (cases_lt j n) [
  | inl l ↦ subst (IsFirst words j) (sym (ap (λ (ns : List ℕ). get_or ns j 0) put ∙ push_before firsts first j 0 (omega (arith, l, long)))) (each j l)
  | inr g ↦ (
      let e : n ≡ j = omega arith in
      let here : get_or now j 0 ≡ first = ap (λ (ns : List ℕ). get_or ns j 0) put ∙ push_last firsts first j 0 (let more : length (firsts ++ first ∷ []) ≡ length firsts + 1 = length-append firsts (first ∷ []) in omega (arith, lt, long, more)) (omega (arith, g, long)) in
      subst (IsFirst words j) (sym here) (subst (λ (k : ℕ). IsFirst words k first) e one))
]
