-- The words that a cursor passed pass a filter.
use Rattle.std.proofs.Common.{arith, ap, Bool, true, None, ◌≡◌, ◌∙◌, ◌++◌, ◌∷◌, ◌+◌, ◌≤◌, ℕ, suc, List, [], length, Ok, Result, refl, sym, subst}
use Rattle.std.specs.Prelude.{vec_capacity}
use Rattle.std.proofs.lemmas.Bool.{le-ltb}
use Rattle.std.proofs.lemmas.List.Elements.{All-nil, All-push}
use Rattle.pk_posting.specs.declared.source.SourceFault.{SourceFault}
use Rattle.pk_dict.specs.declared.cursor.TermCursor.{TermCursor}
use Rattle.pk_dict.specs.declared.entry.DictPlace.{DictPlace}
use Rattle.pk_dict.specs.declared.entry.Entry.{Entry}
use Rattle.pk_dict.specs.Cursor.{HasRead, HoldsOf}
use Rattle.pk_dict.specs.Dictionary.{DictSpells, Item, group_count}
use Rattle.pk_dict.specs.Place.{bytes_at}
use Rattle.pk_dict.specs.Said.{GoesOn, IsSaid, first_words, nth_word, words_of}
use Rattle.pk_dict.proofs.SaidLaw.{said_goes, words_said}
use Rattle.pk_filter.specs.declared.filter.WordFilter.{WordFilter}
use Rattle.pk_filter.specs.declared.hash.WordHash.{WordHash}
use Rattle.pk_filter.specs.Filter.{HasAll, Passes}
use Rattle.pk_filter.specs.Hashed.{hashed}
use Rattle.pk_filter.specs.Words.{HasWordsOf}
use Rattle.pk_filter.proofs.FilterLemmas.{all_still}

-- the first n words that bytes say pass
pub record HasFirst (bytes : List ℕ) (groups n : ℕ) (filter : WordFilter) : Type 0 where
  pub words : List Item
  pub said : first_words bytes groups n ≡ Ok words
  pub all : HasAll words filter

pub has_none : (bytes : List ℕ) (groups n : ℕ) (filter : WordFilter) → n ≡ 0 → HasFirst bytes groups n filter
unfolding first_words
has_none bytes groups n filter none = record {
  words = [];
  said = ap (first_words bytes groups) none;
  all = All-nil (λ (e : Item). Passes filter (hashed e.term));
}

abbrev item : List ℕ × Entry × ℕ → Item
item t = record { term = t.0; entry = t.1 }

-- so does one more
pub has_next : (bytes : List ℕ) (groups n : ℕ) (old new : WordFilter) (t : List ℕ × Entry × ℕ) → HasFirst bytes groups n old → ((other : WordHash) → Passes old other → Passes new other) → nth_word bytes groups (suc n) ≡ Ok t → Passes new (hashed t.0)
    → HasFirst bytes groups (suc n) new
unfolding first_words
has_next bytes groups n old new t first keeps said here = record {
  words = first.words ++ item t ∷ [];
  said = rw first.said (rw said refl);
  all = All-push (λ (e : Item). Passes new (hashed e.term)) first.words (item t) (all_still first.words old new keeps first.all) here;
}

-- what is said of a cursor that went on
pub said_then : {b b' : List ℕ} {old new : TermCursor} (more : Bool) → b' ≡ b → IsSaid b old → (HoldsOf b' old → more ≡ true → HasRead b' old new) → (HoldsOf b' old → HoldsOf b' new) → GoesOn old new more → new.place ≡ old.place → new.fault ≡ None
    → vec_capacity old.word ≤ vec_capacity new.word → IsSaid b new
said_then {b = b} {b' = b'} {old = old} {new = new} more same is read holds goes place sound grown =
    let here : IsSaid b' old = subst (λ (x : List ℕ). IsSaid x old) (sym same) is in
    subst (λ (x : List ℕ). IsSaid x new) same (said_goes b' old new more here (read here.holds) goes place (holds here.holds) sound grown)

-- the word that it passed passes
pub has_more : (bytes : List ℕ) (place : DictPlace) (c d : TermCursor) (old new : WordFilter) → HasFirst bytes (group_count place.terms) c.read old → IsSaid bytes d → d.place ≡ place → d.read ≡ c.read + 1 → ((other : WordHash) → Passes old other → Passes new other)
    → Passes new (hashed d.word.items) → HasFirst bytes (group_count place.terms) d.read new
has_more bytes place c d old new first is there more keeps here =
    let next : suc c.read ≡ d.read = omega (arith, more) in
    let said : nth_word bytes (group_count place.terms) (suc c.read) ≡ Ok (d.word.items, d.entry, d.at) =
    ap (λ (p : DictPlace). nth_word bytes (group_count p.terms) (suc c.read)) (sym there) ∙ ap (nth_word bytes (group_count d.place.terms)) next ∙ is.said in
    subst (λ (n : ℕ). HasFirst bytes (group_count place.terms) n new) next (has_next bytes (group_count place.terms) c.read old new (d.word.items, d.entry, d.at) first keeps said here)

-- at the end all do
pub has_words : (content : List ℕ) (place : DictPlace) (n : ℕ) (filter : WordFilter) → place.at + place.bytes ≤ length content → n ≡ place.terms → HasFirst (bytes_at content place) (group_count place.terms) n filter → HasWordsOf content place filter
unfolding words_of
has_words content place n filter lies all first = record {
  words = first.words;
  said = rw (le-ltb (length content) (place.at + place.bytes) lies) (ap (first_words (bytes_at content place) (group_count place.terms)) (sym all) ∙ first.said);
  all = first.all;
}

abbrev are : List Item → Result (List Item) SourceFault
are es = Ok es

same_words : (xs ys : List Item) → are xs ≡ are ys → xs ≡ ys
same_words xs ys e = cc

-- those of a dictionary are its items
pub has_items : (content : List ℕ) (place : DictPlace) (filter : WordFilter) (es : List Item) → place.at + place.bytes ≤ length content → DictSpells (bytes_at content place) es → length es ≡ place.terms → HasWordsOf content place filter → HasAll es filter
has_items content place filter es lies spells count has =
    let same : has.words ≡ es = same_words has.words es (sym has.said ∙ words_said content place es lies spells count) in
    subst (λ (xs : List Item). HasAll xs filter) same has.all
