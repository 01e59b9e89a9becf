-- The words from the first on, as any bytes say them: of a cursor that goes through them, and of
-- bytes that are a dictionary.
use Rattle.std.proofs.Common.{arith, refl, sym, ap, subst, ◌∙◌, ◌≡◌, ◌≤◌, ◌<◌, ◌+◌, ◌*◌, ◌%◌, ◌++◌, ◌∷◌, [], ℕ, zero, suc, List, length, take, drop, None, Some, Ok, Err, Result, true, inl, inr, ◌-◌, Bool, false}
use Rattle.std.specs.Prelude.{nat_eq, slice_get, vec_capacity, ◌||◌}
use Rattle.std.specs.List.{AllByRecursion}
use Rattle.std.proofs.lemmas.Bool.{cases_eq, cases_lt, ne_eqb, eq-eqb, le-ltb}
use Rattle.std.proofs.lemmas.List.{drop_at, length-append, length-take, take-append-drop, take_all}
use Rattle.std.proofs.Math.Seq.{take-add}
use Rattle.pk_posting.specs.declared.source.SourceFault.{SourceFault}
use Rattle.pk_posting.specs.declared.source.SourceFault.TheVariants as faults
use Rattle.pk_dict.specs.declared.cursor.TermCursor.{TermCursor}
use Rattle.pk_dict.specs.declared.entry.DictPlace.{DictPlace}
use Rattle.pk_dict.specs.declared.entry.Entry.{Entry}
use Rattle.pk_dict.specs.Cursor.{HasRead, HoldsOf, IsBroken, StandsAt, word_after}
use Rattle.pk_dict.specs.Dictionary.{DictSpells, Item, group_count, groups, items_with_prefix, offsets, spelled_items, spelling}
use Rattle.pk_dict.specs.Lists.{last_of}
use Rattle.pk_dict.specs.Order.{less, RisingTerms}
use Rattle.pk_dict.specs.Place.{bytes_at}
use Rattle.pk_dict.specs.Reading.{◌>>=◌}
use Rattle.pk_dict.specs.Said.{GoesOn, IsFirst, IsSaid, first_words, no_entry, nth_word, words_of}
use Rattle.pk_dict.specs.Words.{word_at}
use Rattle.pk_dict.proofs.Adding.{last_push}
use Rattle.pk_dict.proofs.Bounds.{offsets_size}
use Rattle.pk_dict.proofs.Collecting.{Collecting, next_is}
use Rattle.pk_dict.proofs.Coming.{after_item, last_less, nothing_held, same_made, word_ok}
use Rattle.pk_dict.proofs.Ends.{some_item}
use Rattle.pk_dict.proofs.Rising.{rises}

-- ---- a cursor

abbrev told : List ℕ → Entry → ℕ → Result (List ℕ × Entry × ℕ) SourceFault
told word entry at = Ok (word, entry, at)

-- before the first word nothing is said
pub first_said : (bytes : List ℕ) (c : TermCursor) → IsFirst c → IsSaid bytes c
unfolding nth_word
first_said bytes c first =
    let G : ℕ = group_count c.place.terms in
    record {
      said = ap (nth_word bytes G) first.read ∙ ap (λ (w : List ℕ). told w no_entry (4 * G)) (sym first.word)
          ∙ ap (λ (e : Entry). told c.word.items e (4 * G)) (sym first.entry)
          ∙ ap (told c.word.items c.entry) (sym first.at);
      holds = nothing_held bytes c.held.from c.held.bytes.items first.from first.none;
      sound = first.sound;
      room = λ n t le here.
          let none : n ≡ 0 = omega (arith, le, first.read) in
          let same = same_made t ([], no_entry, 4 * G) (sym here ∙ ap (nth_word bytes G) none) in
          omega (arith, ap (λ (x : List ℕ × Entry × ℕ). length x.0) same);
    }

-- the word behind one that was said
pub said_then : (bytes : List ℕ) (G n : ℕ) (t : List ℕ × Entry × ℕ) (r : Result (List ℕ × Entry × ℕ) SourceFault) → nth_word bytes G n ≡ Ok t → word_at bytes n t.0 t.2 ≡ r → nth_word bytes G (suc n) ≡ r
unfolding nth_word
said_then bytes G n t r said read = ap (λ x. x >>= λ u. word_at bytes n u.0 u.2) said ∙ read

-- the word that it passes is the next one that is said
pub said_next : (bytes : List ℕ) (old new : TermCursor) → IsSaid bytes old → HasRead bytes old new → new.read ≡ old.read + 1 → new.place ≡ old.place → HoldsOf bytes new → new.fault ≡ None → vec_capacity old.word ≤ vec_capacity new.word → IsSaid bytes new
said_next bytes old new is read more place holds sound grown =
    let next : new.read ≡ suc old.read = omega (arith, more) in
    let said : nth_word bytes (group_count new.place.terms) new.read ≡ Ok (new.word.items, new.entry, new.at) =
    ap (λ (p : DictPlace). nth_word bytes (group_count p.terms) new.read) place
    ∙ ap (nth_word bytes (group_count old.place.terms)) next
    ∙ said_then bytes (group_count old.place.terms) old.read (old.word.items, old.entry, old.at) _ is.said read in
    record {
      said = said;
      holds = holds;
      sound = sound;
      room = λ n t le here. elim (cases_lt n new.read) [
        | inl before ↦ omega (
          arith,
          grown,
          is.room n t (omega (arith, before, more))
              (ap (λ (p : DictPlace). nth_word bytes (group_count p.terms) n) (sym place) ∙ here),
        )
        | inr at ↦ (
            let last : n ≡ new.read = omega (arith, le, at) in
            let same = same_made t (new.word.items, new.entry, new.at)
            (sym here ∙ ap (nth_word bytes (group_count new.place.terms)) last ∙ said) in
            omega (
              arith,
              ap (λ (x : List ℕ × Entry × ℕ). length x.0) same,
              new.word.ok.0,
              new.word.ok.1,
            ))
      ];
    }

-- where it meets damage, no next word is said
pub said_broken : (bytes : List ℕ) (c : TermCursor) → IsSaid bytes c → IsBroken bytes c → nth_word bytes (group_count c.place.terms) (suc c.read) ≡ Err faults.Damaged
said_broken bytes c is broken = said_then bytes (group_count c.place.terms) c.read (c.word.items, c.entry, c.at) _ is.said broken

-- ---- any bytes

cases_before : (bytes : List ℕ) (n : ℕ) (t : List ℕ × Entry × ℕ) (r : Result (List ℕ × Entry × ℕ) SourceFault) → (r >>= λ u. word_at bytes n u.0 u.2) ≡ Ok t → (u : List ℕ × Entry × ℕ) × (r ≡ Ok u)
cases_before bytes n t (Ok u) is = (u, refl)
cases_before bytes n t (Err f) is = absurd (cc)

-- a word that is said has all before it said
one_before : (bytes : List ℕ) (G n : ℕ) (t : List ℕ × Entry × ℕ) → nth_word bytes G (suc n) ≡ Ok t → (u : List ℕ × Entry × ℕ) × (nth_word bytes G n ≡ Ok u)
unfolding nth_word
one_before bytes G n t is = cases_before bytes n t (nth_word bytes G n) is

-- so it has each before
pub said_before : (bytes : List ℕ) (G n m : ℕ) (t : List ℕ × Entry × ℕ) → n ≤ m → nth_word bytes G m ≡ Ok t → (u : List ℕ × Entry × ℕ) × (nth_word bytes G n ≡ Ok u)
said_before bytes G n zero t le is =
    let same : 0 ≡ n = omega (arith, le) in
    (t, subst (λ (k : ℕ). nth_word bytes G k ≡ Ok t) same is)
said_before bytes G n (suc m) t le is = elim (cases_lt n (suc m)) [
  | inl less ↦ (
      let before = one_before bytes G m t is in
      said_before bytes G n m before.0 (omega (arith, less)) before.1)
  | inr more ↦ (
      let same : suc m ≡ n = omega (arith, le, more) in
      (t, subst (λ (k : ℕ). nth_word bytes G k ≡ Ok t) same is))
]

all_snoc : (P : Item → Type 0) (xs : List Item) (x : Item) → AllByRecursion P xs → P x → AllByRecursion P (xs ++ x ∷ [])
all_snoc P [] x all one = (one, tt)
all_snoc P (y ∷ xs) x all one = (all.0, all_snoc P xs x all.1 one)

-- What is true of what is said of each of the first n words is true of all of them.
pub record AreSaid (bytes : List ℕ) (G n : ℕ) (P : Item → Type 0) : Type 0 where
  pub items : List Item
  pub said : first_words bytes G n ≡ Ok items
  pub each : AllByRecursion P items

abbrev item : List ℕ × Entry × ℕ → Item
item t = record { term = t.0; entry = t.1 }

one_more : (bytes : List ℕ) (G n : ℕ) (P : Item → Type 0) (t : List ℕ × Entry × ℕ) → AreSaid bytes G n P → nth_word bytes G (suc n) ≡ Ok t → P (item t) → AreSaid bytes G (suc n) P
unfolding first_words
one_more bytes G n P t so_far is one = record {
  items = so_far.items ++ item t ∷ [];
  said = ap (λ r. r >>= λ es. nth_word bytes G (suc n) >>= λ u. Ok (es ++ item u ∷ [])) so_far.said
      ∙ ap (λ r. r >>= λ u. Ok (so_far.items ++ item u ∷ [])) is;
  each = all_snoc P so_far.items (item t) so_far.each one;
}

none_yet : (bytes : List ℕ) (G : ℕ) (P : Item → Type 0) → AreSaid bytes G 0 P
unfolding first_words
none_yet bytes G P = record { items = []; said = refl; each = tt }

pub are_said : (bytes : List ℕ) (G n : ℕ) (P : Item → Type 0) (t : List ℕ × Entry × ℕ) → nth_word bytes G n ≡ Ok t
    → ((m : ℕ) (u : List ℕ × Entry × ℕ) → m < n → nth_word bytes G (suc m) ≡ Ok u → P (record { term = u.0; entry = u.1 })) → AreSaid bytes G n P
are_said bytes G zero P t is each = none_yet bytes G P
are_said bytes G (suc n) P t is each =
    let before = one_before bytes G n t is in
    one_more bytes G n P t (are_said bytes G n P before.0 before.1 (λ m u lt said. each m u (omega (arith, lt)) said)) is (each n t (omega arith) is)

-- ---- a dictionary

abbrev item_with : List ℕ → Entry → Item
item_with w e = record { term = w; entry = e }

-- The nth word that is said is that of the nth item, and the next stands where it ends.
record Stands (bytes : List ℕ) (es : List Item) (n : ℕ) : Type 0 where
  word : List ℕ
  entry : Entry
  at : ℕ
  said : nth_word bytes (group_count (length es)) n ≡ Ok (word, entry, at)
  last : word ≡ last_of [] (take n es)
  place : at ≤ length bytes
  stands : drop at bytes ≡ spelled_items n (last_of [] (take n es)) (drop n es)
  here : 0 < n → drop (n - 1) es ≡ item_with word entry ∷ drop n es

stands_first : (bytes : List ℕ) (es : List Item) → DictSpells bytes es → Stands bytes es 0
unfolding nth_word spelling groups
stands_first bytes es s =
    let G : ℕ = group_count (length es) in
    let size = ap (λ (l : List ℕ). length l) s.same ∙ length-append (offsets es G) (groups es) in
    record {
      word = [];
      entry = no_entry;
      at = 4 * G;
      said = refl;
      last = refl;
      place = omega (arith, size, offsets_size es G);
      stands = ap (drop (4 * G)) s.same ∙ drop_at (offsets es G) (groups es) (4 * G) (omega (arith, offsets_size es G));
      here = λ some. absurd (omega (arith, some));
    }

-- the word of an item is greater than that before it, unless it is the first
rises_at : (es : List Item) (n : ℕ) (e : Item) (rest : List Item) (before : List ℕ) → RisingTerms es → n ≤ length es → drop n es ≡ e ∷ rest → before ≡ last_of [] (take n es) → (nat_eq n 0 || less before e.term) ≡ true
rises_at es n e rest before rise within split last =
    let whole : es ≡ take n es ++ (e ∷ rest) = sym (take-append-drop n es) ∙ ap (λ (l : List Item). take n es ++ l) split in
    let size : length (take n es) ≡ n = omega (arith, length-take n es, within) in
    elim (cases_eq n 0) [
      | inl z ↦ rw (eq-eqb n 0 z) refl
      | inr z ↦
          let now : less before e.term ≡ true = ap (λ (l : List ℕ). less l e.term) last ∙ last_less (take n es) e rest (subst RisingTerms whole rise) (omega (arith, size, z)) in
          rw (ne_eqb n 0 z) (rw now refl)
    ]

-- The word that comes next is that of the next item.
record Follows (bytes : List ℕ) (es : List Item) (n : ℕ) (e : Item) : Type 0 where
  at : ℕ
  said : nth_word bytes (group_count (length es)) (suc n) ≡ Ok (e.term, e.entry, at)
  split : drop n es ≡ e ∷ drop (n + 1) es
  last : e.term ≡ last_of [] (take (n + 1) es)
  place : at ≤ length bytes
  stands : drop at bytes ≡ spelled_items (n + 1) (last_of [] (take (n + 1) es)) (drop (n + 1) es)

follows : (bytes : List ℕ) (es : List Item) (n : ℕ) (e : Item) (rest : List Item) → DictSpells bytes es → n ≤ length es → drop n es ≡ e ∷ rest → Stands bytes es n → Follows bytes es n e
follows bytes es n e rest s within split k =
    let collecting : Collecting bytes es [] n k.at k.word (items_with_prefix [] (take n es)) = record {
      within = within;
      place = k.place;
      stands = k.stands;
      last = λ (z : 0 < n % 16). k.last;
      is = refl;
    } in
    let x = next_is bytes es [] n k.at k.word _ e rest s collecting split in
    let read = word_ok bytes n k.word k.at (e.term, e.entry, after_item es n k.at e) x.read (rises_at es n e rest k.word (rises es s.rising) within split k.last) in
    let last : e.term ≡ last_of [] (take (n + 1) es) = sym (ap (last_of []) x.front ∙ last_push [] (take n es) e) in
    record {
      at = after_item es n k.at e;
      said = said_then bytes (group_count (length es)) n (k.word, k.entry, k.at) _ k.said read;
      split = split ∙ ap (λ (l : List Item). e ∷ l) (sym x.back);
      last = last;
      place = x.place;
      stands = x.stands ∙ ap (λ (l : List ℕ). spelled_items (n + 1) l rest) last ∙ ap (spelled_items (n + 1) (last_of [] (take (n + 1) es))) (sym x.back);
    }

stands_at : (bytes : List ℕ) (es : List Item) → DictSpells bytes es → (n : ℕ) → n ≤ length es → Stands bytes es n
stands_at bytes es s zero le = stands_first bytes es s
stands_at bytes es s (suc n) le =
    let e = some_item n es (omega (arith, le)) in
    let f = follows bytes es n e.0 e.1.0 s (omega (arith, le)) e.1.1 (stands_at bytes es s n (omega (arith, le))) in
    let more : n + 1 ≡ suc n = omega arith in
    let back : suc n - 1 ≡ n = omega arith in
    record {
      word = e.0.term;
      entry = e.0.entry;
      at = f.at;
      said = f.said;
      last = subst (λ (m : ℕ). e.0.term ≡ last_of [] (take m es)) more f.last;
      place = f.place;
      stands = subst (λ (m : ℕ). drop f.at bytes ≡ spelled_items m (last_of [] (take m es)) (drop m es)) more f.stands;
      here = λ _. ap (λ (m : ℕ). drop m es) back ∙ f.split ∙ ap (λ (m : ℕ). e.0 ∷ drop m es) more;
    }

-- the first words that are said are those of the first items
words_law : (bytes : List ℕ) (es : List Item) → DictSpells bytes es → (n : ℕ) → n ≤ length es → first_words bytes (group_count (length es)) n ≡ Ok (take n es)
unfolding first_words
words_law bytes es s zero le = refl
words_law bytes es s (suc n) le =
    let e = some_item n es (omega (arith, le)) in
    let f = follows bytes es n e.0 e.1.0 s (omega (arith, le)) e.1.1 (stands_at bytes es s n (omega (arith, le))) in
    let more : n + 1 ≡ suc n = omega arith in
    let front : take n es ++ e.0 ∷ [] ≡ take (suc n) es = sym (ap (λ (m : ℕ). take m es) (sym more) ∙ take-add n 1 es ∙ ap (λ (l : List Item). take n es ++ take 1 l) f.split) in
    rw (words_law bytes es s n (omega (arith, le))) (rw f.said (ap (λ (l : List Item). Ok l) front))

-- so all are those of its items
pub words_said : (content : List ℕ) (place : DictPlace) (es : List Item) → place.at + place.bytes ≤ length content → DictSpells (bytes_at content place) es → length es ≡ place.terms → words_of content place ≡ Ok es
unfolding words_of
words_said content place es lies s count =
    let bytes : List ℕ = bytes_at content place in
    let all : first_words bytes (group_count (length es)) (length es) ≡ Ok es = words_law bytes es s (length es) (omega arith) ∙ ap (λ (l : List Item). Ok l) (take_all (length es) es (omega arith)) in
    rw (le-ltb (length content) (place.at + place.bytes) lies) (subst (λ (n : ℕ). first_words bytes (group_count n) n ≡ Ok es) count all)

get_split : (n : ℕ) (es : List Item) (e : Item) (rest : List Item) → drop n es ≡ e ∷ rest → slice_get es n ≡ Some e
get_split zero [] e rest split = absurd (cc)
get_split zero (x ∷ es) e rest split = let same : x ≡ e = cc in ap (λ (y : Item). Some y) same
get_split (suc n) [] e rest split = absurd (cc)
get_split (suc n) (x ∷ es) e rest split = get_split n es e rest split

-- What is said of the nth word, the first being 0, is what the nth item says.
pub record IsItem (bytes : List ℕ) (es : List Item) (n : ℕ) : Type 0 where
  pub item : Item
  pub at : ℕ
  pub got : slice_get es n ≡ Some item
  pub said : nth_word bytes (group_count (length es)) (suc n) ≡ Ok (item.term, item.entry, at)

pub item_said : (bytes : List ℕ) (es : List Item) (n : ℕ) → DictSpells bytes es → n < length es → IsItem bytes es n
item_said bytes es n s lt =
    let e = some_item n es lt in
    let f = follows bytes es n e.0 e.1.0 s (omega (arith, lt)) e.1.1 (stands_at bytes es s n (omega (arith, lt))) in
    record { item = e.0; at = f.at; got = get_split n es e.0 (drop (n + 1) es) f.split; said = f.said }

-- the word of a cursor is that of the item that it passed last
pub cursor_item : (bytes : List ℕ) (es : List Item) (c : TermCursor) (n : ℕ) → DictSpells bytes es → length es ≡ c.place.terms → IsSaid bytes c → c.read ≡ suc n → n < length es
    → slice_get es n ≡ Some (record { term = c.word.items; entry = c.entry })
cursor_item bytes es c n s count is read lt =
    let i = item_said bytes es n s lt in
    let said : nth_word bytes (group_count (length es)) (suc n) ≡ Ok (c.word.items, c.entry, c.at) =
    ap (λ (m : ℕ). nth_word bytes (group_count m) (suc n)) count
    ∙ ap (nth_word bytes (group_count c.place.terms)) (sym read) ∙ is.said in
    let same = same_made (i.item.term, i.item.entry, i.at) (c.word.items, c.entry, c.at) (sym i.said ∙ said) in
    let term : i.item.term ≡ c.word.items = ap (λ (t : List ℕ × Entry × ℕ). t.0) same in
    let entry : i.item.entry ≡ c.entry = ap (λ (t : List ℕ × Entry × ℕ). t.1) same in
    i.got ∙ ap (λ (w : List ℕ). Some (item_with w i.item.entry)) term ∙ ap (λ (e : Entry). Some (item_with c.word.items e)) entry

-- so a cursor that has what is said stands there
pub stands_said : (bytes : List ℕ) (es : List Item) (c : TermCursor) → DictSpells bytes es → length es ≡ c.place.terms → IsSaid bytes c → StandsAt bytes c es c.read
stands_said bytes es c s count is =
    let n : ℕ = c.read in
    let le : n ≤ length es = omega (arith, count, c.order) in
    let k = stands_at bytes es s n le in
    let said : nth_word bytes (group_count (length es)) n ≡ Ok (c.word.items, c.entry, c.at) =
    ap (λ (m : ℕ). nth_word bytes (group_count m) n) count ∙ is.said in
    let same = same_made (k.word, k.entry, k.at) (c.word.items, c.entry, c.at) (sym k.said ∙ said) in
    let word : k.word ≡ c.word.items = ap (λ (t : List ℕ × Entry × ℕ). t.0) same in
    let entry : k.entry ≡ c.entry = ap (λ (t : List ℕ × Entry × ℕ). t.1) same in
    let at : k.at ≡ c.at = ap (λ (t : List ℕ × Entry × ℕ). t.2) same in
    record {
      comes = record {
        spells = s;
        count = count;
        sound = is.sound;
        read = refl;
        within = le;
        place = subst (λ (a : ℕ). a ≤ length bytes) at k.place;
        stands = subst (λ (a : ℕ). drop a bytes ≡ spelled_items n (last_of [] (take n es)) (drop n es)) at k.stands;
        before = inl (sym word ∙ k.last);
        held = is.holds;
      };
      here = λ some. k.here some ∙ ap (λ (w : List ℕ). item_with w k.entry ∷ drop n es) word ∙ ap (λ (e : Entry). item_with c.word.items e ∷ drop n es) entry;
    }

-- the word that comes next to a cursor over a dictionary is that of the next item
pub word_next : (bytes : List ℕ) (es : List Item) (c : TermCursor) → DictSpells bytes es → length es ≡ c.place.terms → IsSaid bytes c → c.read < c.place.terms
    → (i : Item) × (slice_get es c.read ≡ Some i) × (at : ℕ) × (word_after bytes c ≡ Ok (i.term, i.entry, at))
word_next bytes es c s count is lt =
    let i = item_said bytes es c.read s (omega (arith, count, lt)) in
    let said : nth_word bytes (group_count c.place.terms) (suc c.read) ≡ Ok (i.item.term, i.item.entry, i.at) =
    ap (λ (m : ℕ). nth_word bytes (group_count m) (suc c.read)) (sym count) ∙ i.said in
    (i.item, i.got, i.at, sym (said_then bytes (group_count c.place.terms) c.read (c.word.items, c.entry, c.at) (word_after bytes c) is.said refl) ∙ said)

-- what a cursor has is what is said, where it passed a word, or there was none
pub said_goes : (bytes : List ℕ) (old new : TermCursor) (more : Bool) → IsSaid bytes old → (more ≡ true → HasRead bytes old new) → GoesOn old new more → new.place ≡ old.place → HoldsOf bytes new → new.fault ≡ None → vec_capacity old.word ≤ vec_capacity new.word → IsSaid bytes new
said_goes bytes old new true is read on place holds sound grown = said_next bytes old new is (read refl) on place holds sound grown
said_goes bytes old new false is read on place holds sound grown = subst (IsSaid bytes) (sym on.0) is
