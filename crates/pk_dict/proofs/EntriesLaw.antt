-- What a prefix search answers where the bytes spell a dictionary, and how often it asks then.
use Rattle.std.proofs.Common.{arith, refl, sym, ap, subst, ◌∙◌, ◌≡◌, ◌≤◌, ◌<◌, ◌+◌, ◌-◌, ◌*◌, ◌++◌, ◌∷◌, [], ℕ, zero, suc, List, length, take, Ok, Err, Result, Bool, true, false, not, ◌||◌, inl, inr}
use Rattle.std.specs.Prelude.{MatchResult, IfOk, IsOk, OnOk}
use Rattle.std.specs.Global.{Vec}
use Rattle.std.proofs.lemmas.Bool.{cases_Bool, ne_eqb, le-ltb, false≢true}
use Rattle.std.proofs.lemmas.List.{length-map}
use Rattle.pk_posting.specs.declared.source.SourceFault.{SourceFault}
use Rattle.pk_dict.specs.declared.entry.DictPlace.{DictPlace}
use Rattle.pk_dict.specs.declared.entry.Entry.{Entry}
use Rattle.pk_posting.specs.declared.fault.ReadFault.{ReadFault}
use Rattle.pk_posting.specs.declared.fault.ReadFault.TheVariants.{Damaged, Disk, Memory}
use Rattle.pk_dict.specs.declared.head.Standing.{Standing}
use Rattle.pk_dict.specs.declared.head.Standing.TheVariants.{First, After}
use Rattle.pk_dict.specs.Dictionary.{Item, DictSpells, spelled_item, group_count, items_with_prefix}
use Rattle.pk_dict.specs.Entries.{ListGives, IsStart, item_from, collect_at, entries_at, entries_of, goes_on, group_of, item_kept, items_from, start_at}
use Rattle.pk_dict.specs.Lists.{last_of}
use Rattle.pk_dict.specs.LookUp.{standing_at}
use Rattle.pk_dict.specs.Place.{bytes_at}
use Rattle.pk_dict.specs.Search.{IsStanding}
use Rattle.pk_dict.proofs.Collecting.{Collecting, next_is, collecting_first, collecting_next, collecting_all, collecting_past}
use Rattle.pk_dict.proofs.Collection.{collect_by}
use Rattle.pk_dict.proofs.Ends.{some_item}
use Rattle.pk_dict.proofs.LookUpLaw.{standing_law}
use Rattle.pk_dict.proofs.Starts.{Chosen, first_chosen, after_chosen, start_law}

pub past_is : (s l : Bool) → (s || not l) ≡ false → (s ≡ false) × (l ≡ true)
past_is true l h = absurd (false≢true (sym h))
past_is false true h = (refl, refl)
past_is false false h = absurd (false≢true (sym h))

-- the place after the i-th term
abbrev pub after_term : List Item → ℕ → ℕ → Item → ℕ
after_term es i at e = at + length (spelled_item i (last_of [] (take i es)) e)

-- a collection that began well answers the items with the prefix
collect_law : (n : ℕ) (bytes : List ℕ) (es : List Item) (prefix : List ℕ) (i at : ℕ) (before : List ℕ) (found : List Item) → DictSpells bytes es → Collecting bytes es prefix i at before found → i + n ≡ length es
    → collect_at n bytes prefix i before at found ≡ Ok (items_with_prefix prefix es)
unfolding collect_at
collect_law zero bytes es prefix i at before found d c len = ap Ok (collecting_all bytes es prefix i at before found c (omega arith))
collect_law (suc n) bytes es prefix i at before found d c len =
    let lt : i < length es = omega arith in
    let s = some_item i es lt in
    let e : Item = s.0 in
    let x = next_is bytes es prefix i at before found e s.1.0 d c s.1.1 in
    let more : List Item = found ++ item_kept prefix e.term e.entry in
    let by = collect_by n bytes prefix i before at found (Ok (e.term, e.entry, after_term es i at e)) x.read in
    elim (cases_Bool (goes_on prefix e.term)) [
      | inl t ↦ by ∙ (rw t (collect_law n bytes es prefix (i + 1) (after_term es i at e) e.term more d (collecting_next bytes es prefix i at before found e.term e.entry (after_term es i at e) more d c lt x.read refl) (omega arith)))
      | inr f ↦
          let past = past_is _ _ f in
          by ∙ (rw f (ap Ok (collecting_past bytes es prefix i at before found e.term e.entry (after_term es i at e) more d c lt x.read refl past.1 past.0)))
    ]

-- the group where a prefix search begins
chosen_law : (bytes : List ℕ) (es : List Item) (prefix : List ℕ) (s : Standing) → DictSpells bytes es → 0 < length es → IsStanding bytes es prefix s → Chosen es prefix (group_of s)
chosen_law bytes es prefix (First group entry) d some st = first_chosen bytes es prefix group entry d st.0 st.1
chosen_law bytes es prefix (After groups matched next) d some st = after_chosen bytes es prefix groups matched next d some st.0 st.1

-- where a prefix search in a dictionary begins to collect
pub record Begun (bytes : List ℕ) (es : List Item) (prefix : List ℕ) : Type 0 where
  pub standing : Standing
  pub is : standing_at bytes (length es) prefix ≡ Ok standing
  pub stands : IsStanding bytes es prefix standing
  pub at : ℕ
  pub starts : start_at bytes (4 * group_count (length es)) (group_of standing) ≡ Ok at
  pub some : 16 * group_of standing < length es
  pub first : Collecting bytes es prefix (16 * group_of standing) at [] []

pub begun : (bytes : List ℕ) (es : List Item) (prefix : List ℕ) → DictSpells bytes es → 0 < length es → Begun bytes es prefix
begun bytes es prefix d some =
    let st = standing_law bytes es prefix d in
    let c = chosen_law bytes es prefix st.standing d some st.stands in
    let s = start_law bytes es (group_of st.standing) d c.some in
    let start : IsStart bytes es prefix (group_of st.standing) s.at = record { some = c.some; place = s.place; stands = s.stands; none = c.none } in
    record { standing = st.standing; is = st.is; stands = st.stands; at = s.at; starts = s.is; some = c.some; first = collecting_first bytes es prefix (group_of st.standing) s.at [] start }

entries_some : (bytes : List ℕ) (es : List Item) (prefix : List ℕ) → DictSpells bytes es → 0 < length es → entries_at bytes (length es) prefix ≡ Ok (items_with_prefix prefix es)
unfolding entries_at
entries_some bytes es prefix d some =
    let b = begun bytes es prefix d some in
    rw (ne_eqb (length es) 0 (λ (z : length es ≡ 0). omega arith))
    (rw b.is (rw b.starts (collect_law (length es - 16 * group_of b.standing) bytes es prefix (16 * group_of b.standing) b.at [] [] d b.first (omega (arith, b.some)))))

entries_same : (bytes : List ℕ) (es : List Item) (prefix : List ℕ) → DictSpells bytes es → entries_at bytes (length es) prefix ≡ Ok (items_with_prefix prefix es)
unfolding entries_at
entries_same bytes [] prefix d = refl
entries_same bytes (e ∷ es) prefix d = entries_some bytes (e ∷ es) prefix d (omega arith)

-- a prefix search in a dictionary answers the items whose terms begin with the prefix
pub entries_law : (bytes : List ℕ) (es : List Item) (terms : ℕ) (prefix : List ℕ) → DictSpells bytes es → length es ≡ terms → entries_at bytes terms prefix ≡ Ok (items_with_prefix prefix es)
entries_law bytes es terms prefix d len = ap (λ (n : ℕ). entries_at bytes n prefix) (sym len) ∙ entries_same bytes es prefix d

list_gives : (r : Result (Vec (Vec ℕ × Entry)) ReadFault) (read : Result (List Item) SourceFault) (xs : List Item) → read ≡ Ok xs → ListGives r read → MatchResult r (λ v. items_from v.items ≡ xs) (λ e. e ≡ Damaged → ⊥)
list_gives (Ok v) read xs e h = (let k : Ok (items_from v.items) ≡ Ok xs = sym h ∙ e in cc)
list_gives (Err Damaged) read xs e h = absurd (let k = sym h ∙ e in cc)
list_gives (Err Disk) read xs e h = λ q. absurd cc
list_gives (Err Memory) read xs e h = λ q. absurd cc

-- where it lies in a source that does not fail
pub entries_give : (content : List ℕ) (es : List Item) (place : DictPlace) (prefix : List ℕ) (r : Result (Vec (Vec ℕ × Entry)) ReadFault) → ListGives r (entries_of content place prefix)
    → place.at + place.bytes ≤ length content → DictSpells (bytes_at content place) es → length es ≡ place.terms → MatchResult r (λ v. items_from v.items ≡ items_with_prefix prefix es) (λ e. e ≡ Damaged → ⊥)
unfolding entries_of
entries_give content es place prefix r gives lies d len =
    list_gives r _ (items_with_prefix prefix es) (rw (le-ltb (length content) (place.at + place.bytes) lies) (entries_law (bytes_at content place) es place.terms prefix d len)) gives

-- what is known by the number of the items that a dictionary has is known by the length of the list
pub entries_asked : (content : List ℕ) (es : List Item) (place : DictPlace) (prefix : List ℕ) (r : Result (Vec (Vec ℕ × Entry)) ReadFault) (P : ℕ → Type 0) → ListGives r (entries_of content place prefix) → (IsOk r → place.at + place.bytes ≤ length content)
    → OnOk r (P (length (items_with_prefix prefix es))) → DictSpells (bytes_at content place) es → length es ≡ place.terms → IfOk r (λ v. P (length v.items))
entries_asked content es place prefix (Ok v) P gives inside p d len =
    let same = ap (λ (l : List Item). length l) (entries_give content es place prefix (Ok v) gives (inside refl) d len) in
    subst P (sym same ∙ length-map v.items item_from) p
entries_asked content es place prefix (Err e) P gives inside p d len = tt
