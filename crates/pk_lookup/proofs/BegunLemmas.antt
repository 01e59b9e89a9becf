-- A cursor over a prefix gives all words that begin so, as any bytes say, and their lists are united.
use Rattle.std.proofs.Common.{◌≡◌, ◌∙◌, ◌*◌, ◌<◌, ◌++◌, ℕ, Bool, true, false, List, [], ◌∷◌, length, None, Some, Ok, append-nil, append_assoc, ap, arith, refl, subst, sym}
use Rattle.std.specs.List.{AllByRecursion, starts_with}
use Rattle.std.specs.Prelude.{nat_eq}
use Rattle.pk_dict.proofs.Adding.{last_push}
use Rattle.pk_dict.proofs.SeekingLaw.{passed_more}
use Rattle.pk_dict.specs.declared.cursor.TermCursor.{TermCursor}
use Rattle.pk_dict.specs.declared.entry.Entry.{Entry}
use Rattle.pk_dict.specs.Cursor.{IsBelow, item_at}
use Rattle.pk_dict.specs.Dictionary.{Item}
use Rattle.pk_dict.specs.Lists.{last_of}
use Rattle.pk_dict.specs.Seeking.{GivesAfter, HasPassed, HasSought, IsToldStart, PassesNext, words_from}
use Rattle.pk_lookup.specs.Begun.{AreBegun, AreUnited, Begins}
use Rattle.pk_lookup.specs.Lies.{IsUnited}
use Rattle.pk_segment.specs.declared.segment.Segment.{Segment}

-- ONE MORE
begin_push : (prefix : List ℕ) (es : List Item) (e : Item) → AllByRecursion (Begins prefix) es → Begins prefix e → AllByRecursion (Begins prefix) (es ++ e ∷ [])
begin_push prefix [] e all begins = (begins, tt)
begin_push prefix (x ∷ es) e all begins = (all.0, begin_push prefix es e all.1 begins)

united_push : (segment : Segment) (size : ℕ) (es : List Item) (e : Item) (old found found' : List ℕ) → AreUnited segment size es old found → IsUnited segment e.entry size found found' → AreUnited segment size (es ++ e ∷ []) old found'
united_push segment size [] e old found found' same one = (found', subst (λ (ns : List ℕ). IsUnited segment e.entry size ns found') same one, refl)
united_push segment size (x ∷ es) e old found found' all one = (all.0, all.1, united_push segment size es e all.0 found found' all.2 one)

-- what a cursor gave since it sought the first word: the words that begin so, of those that it passed the last, and their lists are united
pub record GivenTo (bytes : List ℕ) (terms : ℕ) (prefix : List ℕ) (segment : Segment) (size : ℕ) (c : TermCursor) (found : List ℕ) : Type 0 where
  pub group : ℕ
  pub at : ℕ
  pub start : 0 < terms → IsToldStart bytes terms prefix group at
  pub before : List Item
  pub below : AllByRecursion (IsBelow prefix) before
  pub words : List Item
  pub begin : AllByRecursion (Begins prefix) words
  pub passed : HasPassed bytes c group at (before ++ words)
  pub last : c.word.items ≡ last_of [] (before ++ words)
  pub united : AreUnited segment size words [] found

-- before that nothing
abbrev pub Given : Bool → List ℕ → ℕ → List ℕ → Segment → ℕ → TermCursor → List ℕ → Type 0
Given true bytes terms prefix segment size c found = GivenTo bytes terms prefix segment size c found
Given false bytes terms prefix segment size c found = found ≡ []

-- the first word
given_first : (bytes : List ℕ) (terms : ℕ) (prefix : List ℕ) (segment : Segment) (size : ℕ) (new : TermCursor) (found found' : List ℕ) → new.place.terms ≡ terms → found ≡ [] → HasSought bytes new prefix true → Begins prefix (item_at new)
    → IsUnited segment new.entry size found found' → GivenTo bytes terms prefix segment size new found'
given_first bytes terms prefix segment size new found found' same none s begins one = record {
  group = s.group;
  at = s.at;
  start = subst (λ (n : ℕ). 0 < n → IsToldStart bytes n prefix s.group s.at) same s.start;
  before = s.passed;
  below = s.below;
  words = item_at new ∷ [];
  begin = (begins, tt);
  passed = s.stops.0;
  last = sym (last_push [] s.passed (item_at new));
  united = united_push segment size [] (item_at new) [] found found' none one;
}

-- one more behind others
given_next : (bytes : List ℕ) (terms : ℕ) (prefix : List ℕ) (segment : Segment) (size : ℕ) (old new : TermCursor) (found found' : List ℕ) → GivenTo bytes terms prefix segment size old found → PassesNext bytes old new true → Begins prefix (item_at new)
    → IsUnited segment new.entry size found found' → GivenTo bytes terms prefix segment size new found'
given_next bytes terms prefix segment size old new found found' r next begins one =
    let more : (r.before ++ r.words) ++ item_at new ∷ [] ≡ r.before ++ (r.words ++ item_at new ∷ []) = append_assoc r.before r.words (item_at new ∷ []) in
    record {
      group = r.group;
      at = r.at;
      start = r.start;
      before = r.before;
      below = r.below;
      words = r.words ++ item_at new ∷ [];
      begin = begin_push prefix r.words (item_at new) r.begin begins;
      passed = subst (HasPassed bytes new r.group r.at) more (passed_more bytes old new r.group r.at (r.before ++ r.words) r.passed r.last next.0 next.1);
      last = sym (last_push [] (r.before ++ r.words) (item_at new)) ∙ ap (last_of []) more;
      united = united_push segment size r.words (item_at new) [] found found' r.united one;
    }

-- an entry is given, and its list united
pub given_more : (begun : Bool) (bytes : List ℕ) (terms : ℕ) (prefix : List ℕ) (segment : Segment) (size : ℕ) (old new : TermCursor) (entry : Entry) (found found' : List ℕ) → new.place.terms ≡ terms → Given begun bytes terms prefix segment size old found
    → GivesAfter begun bytes prefix old new (Some entry) → Begins prefix (item_at new) × (entry ≡ new.entry) → IsUnited segment entry size found found' → GivenTo bytes terms prefix segment size new found'
given_more true bytes terms prefix segment size old new entry found found' same r g begins one =
    given_next bytes terms prefix segment size old new found found' r (subst (PassesNext bytes old new) g.some g.moved) begins.0 (subst (λ (e : Entry). IsUnited segment e size found found') begins.1 one)
given_more false bytes terms prefix segment size old new entry found found' same none g begins one =
    given_first bytes terms prefix segment size new found found' same none (subst (HasSought bytes new prefix) g.some g.moved) begins.0 (subst (λ (e : Entry). IsUnited segment e size found found') begins.1 one)

-- AT THE END
-- these are all words that begin so, and their lists are united
pub record AreAll (bytes : List ℕ) (terms : ℕ) (prefix : List ℕ) (segment : Segment) (size : ℕ) (found : List ℕ) : Type 0 where
  pub words : List Item
  pub are : AreBegun bytes terms prefix words
  pub united : AreUnited segment size words [] found

abbrev passed_to : (bytes : List ℕ) (group at end : ℕ) (es : List Item) → Type 0
passed_to bytes group at end es = words_from bytes (16 * group) at (length es) ≡ Ok (es, end)

-- a word that does not begin so was passed, or none was left
sought_past : (bytes : List ℕ) (terms : ℕ) (prefix : List ℕ) (segment : Segment) (size : ℕ) (new : TermCursor) (found : List ℕ) → new.place.terms ≡ terms → found ≡ [] → (more : Bool) → HasSought bytes new prefix more → (more ≡ true → starts_with nat_eq new.word.items prefix ≡ false)
    → AreAll bytes terms prefix segment size found
sought_past bytes terms prefix segment size new found same none true s other = record {
  words = [];
  are = record {
    group = s.group;
    at = s.at;
    start = subst (λ (n : ℕ). 0 < n → IsToldStart bytes n prefix s.group s.at) same s.start;
    before = s.passed;
    below = s.below;
    begin = tt;
    behind = item_at new ∷ [];
    end = new.at;
    said = subst (passed_to bytes s.group s.at new.at) (ap (λ (es : List Item). es ++ item_at new ∷ []) (sym (append-nil s.passed))) s.stops.0.said;
    stops = other refl;
  };
  united = none;
}
sought_past bytes terms prefix segment size new found same none false s other = record {
  words = [];
  are = record {
    group = s.group;
    at = s.at;
    start = subst (λ (n : ℕ). 0 < n → IsToldStart bytes n prefix s.group s.at) same s.start;
    before = s.passed;
    below = s.below;
    begin = tt;
    behind = [];
    end = new.at;
    said = subst (passed_to bytes s.group s.at new.at) (sym (append-nil s.passed) ∙ sym (append-nil (s.passed ++ []))) s.stops.0.said;
    stops = omega (arith, s.stops.0.read, s.stops.1, new.order, same, ap length (append-nil s.passed));
  };
  united = none;
}

went_past : (bytes : List ℕ) (terms : ℕ) (prefix : List ℕ) (segment : Segment) (size : ℕ) (old new : TermCursor) (found : List ℕ) → old.place.terms ≡ terms → GivenTo bytes terms prefix segment size old found → (more : Bool) → PassesNext bytes old new more
    → (more ≡ true → starts_with nat_eq new.word.items prefix ≡ false) → AreAll bytes terms prefix segment size found
went_past bytes terms prefix segment size old new found same r true next other = record {
  words = r.words;
  are = record {
    group = r.group;
    at = r.at;
    start = r.start;
    before = r.before;
    below = r.below;
    begin = r.begin;
    behind = item_at new ∷ [];
    end = new.at;
    said = (passed_more bytes old new r.group r.at (r.before ++ r.words) r.passed r.last next.0 next.1).said;
    stops = other refl;
  };
  united = r.united;
}
went_past bytes terms prefix segment size old new found same r false next other = record {
  words = r.words;
  are = record {
    group = r.group;
    at = r.at;
    start = r.start;
    before = r.before;
    below = r.below;
    begin = r.begin;
    behind = [];
    end = old.at;
    said = subst (passed_to bytes r.group r.at old.at) (sym (append-nil (r.before ++ r.words))) r.passed.said;
    stops = omega (arith, r.passed.read, next, old.order, same);
  };
  united = r.united;
}

pub given_all : (begun : Bool) (bytes : List ℕ) (terms : ℕ) (prefix : List ℕ) (segment : Segment) (size : ℕ) (old new : TermCursor) (found : List ℕ) → old.place.terms ≡ terms → new.place.terms ≡ terms → Given begun bytes terms prefix segment size old found
    → GivesAfter begun bytes prefix old new None → AreAll bytes terms prefix segment size found
given_all true bytes terms prefix segment size old new found was same r g = went_past bytes terms prefix segment size old new found was r g.more g.moved (g.none refl)
given_all false bytes terms prefix segment size old new found was same none g = sought_past bytes terms prefix segment size new found same none g.more g.moved (g.none refl)
